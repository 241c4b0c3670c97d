-- Pieces of the C of plans that have no name there.
use Rattle.std.specs.Prelude.{ℕ, List, [], ◌∷◌, if◌then◌else◌}
use Rattle.flow_base.specs.declared.fault.Fault.TheVariants.{Depth, Steps}
use Rattle.c_subset.specs.Trees.{CExpr, Block}
use Rattle.c_subset.specs.Trees as c
use Rattle.c_subset.specs.declared.trees.Arithmetic.TheVariants.{Plus, Less}
use Rattle.c_subset.specs.declared.trees.Comparison.TheVariants.{IsAtLeast, IsBelow}
use Rattle.c_functions.specs.Statements as plan
use Rattle.c_functions.specs.Plans.{Shape, event_local, depth_local, base_local, home_local, result_local, cursor_local}
use Rattle.c_functions.specs.Plans.{tested_local, word, number, faulted, note_row, noted_field, pay_c, called_c}
use Rattle.c_functions.specs.Plans.{used_field, count_up, unless_bad, ask_home, noted_function, bare_function, plan_c}

-- if (m->used >= STEPS) fault, else m->used = m->used + 1u;
abbrev pub tested_step : Shape → Block → Block
tested_step K rest =
    c.If (c.Compare IsAtLeast (c.Field (used_field K)) (number K.bounds.steps)) (faulted K Steps) c.End
    (count_up (used_field K) rest)

-- if (depth >= DEPTH) fault
abbrev pub tested_depth : Shape → Block → Block
tested_depth K rest = c.If (c.Compare IsAtLeast depth_local (number K.bounds.depth)) (faulted K Depth) c.End rest

-- if (r == BAD) return BAD; where the result of the procedure is tested
abbrev pub tested_result : Shape → ℕ → Block → Block
tested_result K p rest = if K.tests.after p then unless_bad rest else rest

-- if (cursor < base) cursor = base;
abbrev pub raise_cursor : Block → Block
raise_cursor rest = c.If (c.Compare IsBelow cursor_local base_local) (c.Set word 5 base_local c.End) c.End rest

-- m->note[cursor - 1u]
abbrev pub note_at_cursor : CExpr
note_at_cursor = c.Element note_row (c.Calc Less cursor_local (number 1))

-- the arguments by which a note is called: those of the call, with the notes that are there as its base, and the note
abbrev pub note_arguments : Shape → List CExpr
note_arguments K =
    event_local ∷ depth_local ∷ c.Field (noted_field K) ∷ home_local ∷ result_local ∷ note_at_cursor ∷ []

-- one turn of the loop of a play, before other statements
abbrev pub turn_before : Shape → Block → Block
turn_before K rest =
    pay_c K (c.Set word 5 (c.Calc Plus cursor_local (number 1))
    (called_c (noted_function K) (note_arguments K) (ask_home (bare_function K) rest)))

-- (cursor < m->noted) && h
abbrev pub goes_on : Shape → CExpr
goes_on K = c.Both (c.Compare IsBelow cursor_local (c.Field (noted_field K))) tested_local

-- the body of a procedure that plays: the cursor is 0 at first
abbrev pub with_cursor : Shape → plan.Block → Block
with_cursor K a = c.Set word 5 (number 0) (plan_c K a)
