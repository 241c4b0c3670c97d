-- The bodies of functions.
use Rattle.std.proofs.Common.{◌≡◌, ◌<◌, ◌+◌, ◌-◌, ℕ, suc, true, false, List, drop, length, sym, ap, arith}
use Rattle.std.specs.Prelude.{if◌then◌else◌}
use Rattle.std.specs.List.{range_with_len}
use Rattle.std.proofs.lemmas.List.{length-map}
use Rattle.code_language.specs.declared.instr.Instr as declared
use Rattle.code_language.specs.Code.{instr_of, instrs_of}
use Rattle.c_subset.specs.Trees.{CExpr}
use Rattle.c_subset.specs.Lines.{lines_of}
use Rattle.c_functions.specs.Statements as plan
use Rattle.c_functions.specs.Writer.{write, plan_of}
use Rattle.c_functions.specs.Files.{procedure_c, home_body}
use Rattle.c_functions.specs.Plans.{Shape, plan_c, plays}
use Rattle.c_writer.specs.Parts.{part}
use Rattle.c_writer.specs.Pieces.{with_cursor}

-- all instructions are written
pub whole : (K : Shape) (react : ℕ) (ys : List declared.Instr)
    → part K react (instrs_of ys) 0 (length ys) ≡ plan_of K.tree K.numbers react (instrs_of ys)
unfolding part plan_of
whole K react ys =
    let count : length ys - 0 ≡ length (instrs_of ys) = omega (arith, length-map ys instr_of) in
    ap (λ n. write K.tree K.numbers react n n (drop 0 (instrs_of ys))) count

-- the body of a procedure that plays
pub body_plays : (K : Shape) (a : plan.Block) → plays a ≡ true
    → lines_of (with_cursor K a) ≡ lines_of (procedure_c K a).body
body_plays K a e = sym (ap (λ b. lines_of (if b then with_cursor K a else plan_c K a)) e)

-- and that of another one
pub body_rests : (K : Shape) (a : plan.Block) → plays a ≡ false
    → lines_of (plan_c K a) ≡ lines_of (procedure_c K a).body
body_rests K a e = sym (ap (λ b. lines_of (if b then with_cursor K a else plan_c K a)) e)

-- the tests of the states from one on are its own and those of the others
pub home_more : (test : ℕ → CExpr) (s n : ℕ) → s < n
    → home_body test (range_with_len s (n - s)) ≡ home_body test (range_with_len s (suc (n - (s + 1))))
home_more test s n lt =
    let count : n - s ≡ suc (n - (s + 1)) = omega arith in ap (λ k. home_body test (range_with_len s k)) count
