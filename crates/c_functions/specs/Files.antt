-- The functions of a file, and when its struct shows the memory of a plan.
use Rattle.std.specs.Prelude.{◌≡◌, ℕ, suc, ◌+◌, ◌*◌, ◌^◌, ◌<◌, pos, List, [], ◌∷◌, ◌++◌, length, map, slice_get}
use Rattle.std.specs.Prelude.{Option, Some, if◌then◌else◌, true}
use Rattle.std.specs.List.{range_with_len}
use Rattle.flow_base.specs.declared.bounds.Bounds.{Bounds}
use Rattle.flow_base.specs.declared.fault.Fault.{Fault}
use Rattle.active_config.specs.Tree.{state_count}
use Rattle.code_language.specs.Code.{Code}
use Rattle.code_language.specs.Measures.{greatest, heights}
use Rattle.c_subset.specs.Trees.{CExpr, Const, Compare, Local, Block}
use Rattle.c_subset.specs.declared.trees.Width.TheVariants.{W8, W16, W32, W64, W128}
use Rattle.c_subset.specs.declared.trees.CType.TheVariants.{Truth}
use Rattle.c_subset.specs.declared.trees.Comparison.TheVariants.{IsEqual}
use Rattle.c_subset.specs.Trees.{Function}
use Rattle.c_subset.specs.Trees as c
use Rattle.c_subset.specs.Meaning.{Object, Store}
use Rattle.c_subset.specs.Running.{with_field}
use Rattle.c_subset.specs.Helpers.{floor_function}
use Rattle.c_functions.specs.Claims.{ShowsData}
use Rattle.c_functions.specs.Statements.{CMemory}
use Rattle.c_functions.specs.Statements as plan
use Rattle.c_functions.specs.Layout.{HoldsStates, on_c, bare_c}
use Rattle.c_functions.specs.Notes.{noted_in}
use Rattle.c_functions.specs.Plans.{Shape, Tests, layout, word, number, plays, plan_c, used_field, outs_field}
use Rattle.c_functions.specs.Plans.{noted_field}
use Rattle.c_functions.specs.Plans.{event_local, depth_local, base_local, home_local, result_local, cases_of}
use Rattle.c_functions.specs.Plans.{fault_field, fault_datum_field, ready_field, fault_number, fault_datum}
use Rattle.c_functions.specs.Plans.{ready_of, out_row, note_row}

-- How many entries note[] has: room for a chain of calls of the greatest height for an event and for each of its steps;
-- one, which nothing uses, where nothing is noted.
abbrev pub note_room : List ℕ → ℕ → ℕ → ℕ
note_room [] height steps = 1
note_room (q ∷ noted) height steps = (steps + 1) * (height + 1)

-- The shape of code, for an array out[] of so many entries: a state's number as a child is one more than its own, and
-- the procedures that the code notes may stand in note[].
abbrev pub shape_of : Code → Tests → Bounds → ℕ → Shape
shape_of k T b room = record {
  tree = k.tree;
  numbers = λ x. suc x;
  names = k.names;
  bounds = b;
  tests = T;
  outputs = room;
  procs = length k.procedures.procs;
  noted = noted_in k.procedures.procs;
  notes = note_room (noted_in k.procedures.procs) (greatest (heights k.procedures.procs)) b.steps;
}

-- ---- functions

-- the function of a procedure: event, depth, base, home and last result are its parameters; the cursor is a local of it
-- where its plan plays, and is 0 at first
abbrev pub procedure_c : Shape → plan.Block → Function
procedure_c K body = record {
  result = word;
  parameters = word ∷ word ∷ word ∷ word ∷ word ∷ [];
  body = if plays body then c.Set word 5 (number 0) (plan_c K body) else plan_c K body;
}

-- the test of the first of these states that the parameter names
abbrev pub home_body : (ℕ → CExpr) → List ℕ → Block
home_body test [] = c.Return (Const Truth (pos 0))
home_body test (x ∷ xs) =
    c.If (Compare IsEqual (Local word 0) (number x)) (c.Return (test x)) c.End (home_body test xs)

-- whether a test holds of the state that is the parameter
abbrev pub home_function : Shape → (ℕ → CExpr) → Function
home_function K test = record {
  result = Truth;
  parameters = word ∷ [];
  body = home_body test (range_with_len 0 (state_count K.tree));
}

-- the function that calls a noted procedure: the first five parameters are that procedure's, and the last names it
abbrev pub noted_c : Shape → Function
noted_c K = record {
  result = word;
  parameters = word ∷ word ∷ word ∷ word ∷ word ∷ word ∷ [];
  body = c.Select word 4 (Local word 5) (cases_of K.noted)
      (event_local ∷ depth_local ∷ base_local ∷ home_local ∷ result_local ∷ []) (c.Return result_local);
}

-- the functions before those that are called from outside
unfoldable pub functions_c : Shape → (ℕ → plan.Block) → List Function
functions_c K bodies =
    map (λ p. procedure_c K (bodies p)) (range_with_len 0 K.procs)
    ++ home_function K (on_c K.tree (layout K) K.numbers) ∷ home_function K (bare_c K.tree (layout K) K.numbers)
    ∷ noted_c K ∷ floor_function W8 ∷ floor_function W16 ∷ floor_function W32 ∷ floor_function W64
    ∷ floor_function W128 ∷ []

-- ---- the struct shows memory

-- a field with a number
pub record HasWord (fields : List Object) (field n : ℕ) : Type 0 where
  pub there : slice_get fields field ≡ Some (record { type = word; value = Some (pos n) })
  pub small : n < 2 ^ 32

-- an array of that size, whose first entries are these numbers
pub record HasRow (rows : List (List Object)) (a size : ℕ) (xs : List ℕ) : Type 0 where
  pub row : List Object
  pub there : slice_get rows a ≡ Some row
  pub sized : length row ≡ size
  pub typed : (i : ℕ) (o : Object) → slice_get row i ≡ Some o → o.type ≡ word
  pub shown : (i x : ℕ) → slice_get xs i ≡ Some x
      → slice_get row i ≡ Some (record { type = word; value = Some (pos x) })

-- the struct after a fault is told, and its datum, and that the run is over
abbrev pub with_fault : Shape → Store → ℕ → ℕ → Store
with_fault K s fault datum =
    with_field (with_field (with_field s (fault_field K) (record { type = word; value = pos fault }))
    (fault_datum_field K) (record { type = word; value = pos datum }))
    (ready_field K) (record { type = word; value = pos 0 })

-- the struct shows the memory of a plan, but for steps that aren't counted; and these numbers of a fault, of its datum
-- and of whether a run goes on
pub record ShowsMemory (K : Shape) (fault datum ready : ℕ) (m : CMemory) (s : Store) : Type 0 where
  pub states : HoldsStates K.tree (layout K) m.states s
  pub vals : ShowsData m.vals s
  pub used : K.tests.steps ≡ true → HasWord s.fields (used_field K) m.used
  pub outs : HasWord s.fields (outs_field K) (length m.outputs)
  pub noted : HasWord s.fields (noted_field K) (length m.notes)
  pub fault_is : HasWord s.fields (fault_field K) fault
  pub datum_is : HasWord s.fields (fault_datum_field K) datum
  pub ready_is : HasWord s.fields (ready_field K) ready
  pub out : HasRow s.rows out_row K.outputs m.outputs
  pub note : HasRow s.rows note_row K.notes m.notes

-- the struct shows the memory of a plan, and a fault or none
abbrev pub Represents : Shape → Option Fault → CMemory → Store → Type 0
Represents K fault m s = ShowsMemory K (fault_number fault) (fault_datum fault) (ready_of K fault) m s
