-- Each place of the code that is made has what is made of the instruction that stood there.
use Rattle.std.proofs.Common.{◌≡◌, ℕ, zero, suc, ◌+◌, List, [], ◌∷◌, Option, Some, None, refl, ap, ◌∙◌}
use Rattle.std.proofs.Common.{arith}
use Rattle.std.specs.Prelude.{slice_get, slice_index_or}
use Rattle.code_language.specs.Code.{Code, instructions, fetch}
use Rattle.code_language.specs.Instrs.{Instr}
use Rattle.code_results.specs.Folded.{Place, ResultPlan, folded_at, folded, folded_procs, made_code}

-- what is made of what stands at a place
abbrev pub folded_there : Place → Option Instr → Option Instr
folded_there s None = None
folded_there s (Some x) = Some (folded_at s x)

-- in a procedure
folded_get : (place : ℕ → Place) (n : ℕ) (is : List Instr) (i : ℕ)
    → slice_get (folded place n is) i ≡ folded_there (place (n + i)) (slice_get is i)
folded_get place n [] i = refl
folded_get place n (x ∷ is) zero =
    let e : n ≡ n + 0 = omega arith in ap (λ j. Some (folded_at (place j) x)) e
folded_get place n (x ∷ is) (suc i) =
    let e : suc n + i ≡ n + suc i = omega arith in
    folded_get place (suc n) is i ∙ ap (λ j. folded_there (place j) (slice_get is i)) e

-- a procedure
pub folded_proc : (place : ℕ → ℕ → Place) (n : ℕ) (procs : List (List Instr)) (p : ℕ)
    → slice_index_or (folded_procs place n procs) p [] ≡ folded (place (n + p)) 0 (slice_index_or procs p [])
folded_proc place n [] p = refl
folded_proc place n (is ∷ procs) zero =
    let e : n ≡ n + 0 = omega arith in ap (λ q. folded (place q) 0 is) e
folded_proc place n (is ∷ procs) (suc p) =
    let e : suc n + p ≡ n + suc p = omega arith in
    folded_proc place (suc n) procs p ∙ ap (λ q. folded (place q) 0 (slice_index_or procs p [])) e

-- each place of the code
pub made_there : (P : ResultPlan) (k : Code) (p i : ℕ)
    → fetch (made_code P k).procedures p i ≡ folded_there (P.place p i) (fetch k.procedures p i)
unfolding fetch instructions
made_there P k p i =
    let is = slice_index_or k.procedures.procs p [] in
    let e : 0 + p ≡ p = omega arith in
    let e' : 0 + i ≡ i = omega arith in
    ap (λ l. slice_get l i) (folded_proc P.place 0 k.procedures.procs p
    ∙ ap (λ q. folded (P.place q) 0 is) e)
    ∙ folded_get (P.place p) 0 is i ∙ ap (λ j. folded_there (P.place p j) (slice_get is i)) e'
