-- The places of code whose sends lead elsewhere.
use Rattle.std.proofs.Common.{◌≡◌, ℕ, zero, suc, ◌+◌, List, [], ◌∷◌, map, Option, None, Some, refl, sym, ap, ◌∙◌, arith}
use Rattle.std.proofs.Common.{option_map}
use Rattle.std.specs.Prelude.{slice_get, slice_index_or}
use Rattle.std.proofs.lemmas.Option.{slice_get-map}
use Rattle.code_language.proofs.Sound.{or_none, instructions_at}
use Rattle.code_language.specs.Code.{Procedures, fetch, instructions}
use Rattle.code_language.specs.Instrs.{Instr}
use Rattle.code_depths.specs.Depths.{level_of, instead, led, cut_from, cut_procedures}

module _ (depth : ℕ) (levels : List ℕ) (q : ℕ) where
  -- what the instructions of a procedure become
  abbrev pub cut_at : ℕ → List Instr → List Instr
  cut_at p is = map (led (instead depth q (level_of levels p))) is

  -- the instructions of a procedure, where the first one has number n
  cut_instructions : (procs : List (List Instr)) (n p : ℕ)
      → slice_index_or (cut_from depth levels q n procs) p [] ≡ cut_at (n + p) (slice_index_or procs p [])
  cut_instructions [] n p = refl
  cut_instructions (is ∷ procs) n zero =
      let same : n ≡ n + 0 = omega arith in ap (λ m. cut_at m is) same
  cut_instructions (is ∷ procs) n (suc p) =
      let same : suc n + p ≡ n + suc p = omega arith in
      cut_instructions procs (suc n) p ∙ ap (λ m. cut_at m (slice_index_or procs p [])) same

  -- the instruction at a place
  pub fetch_cut : (k : Procedures) (p i : ℕ) → fetch (cut_procedures depth levels q k) p i
      ≡ option_map (led (instead depth q (level_of levels p))) (fetch k p i)
  unfolding fetch instructions
  fetch_cut k p i =
      let same : 0 + p ≡ p = omega arith in
      let all = cut_instructions k.procs 0 p ∙ ap (λ m. cut_at m (slice_index_or k.procs p [])) same in
      ap (λ (is : List Instr). slice_get is i) all
      ∙ slice_get-map (led (instead depth q (level_of levels p))) (slice_index_or k.procs p []) i

-- what holds at each place of each procedure holds of what is fetched
pub at_places : (P : ℕ → Instr → Type 0) (k : Procedures)
    → ((p : ℕ) (is : List Instr) → slice_get k.procs p ≡ Some is
    → (i : ℕ) (x : Instr) → slice_get is i ≡ Some x → P p x)
    → (p i : ℕ) (x : Instr) → fetch k p i ≡ Some x → P p x
unfolding fetch instructions
at_places P k each p i x e =
    by (slice_get k.procs p) refl (ap (λ (is : List Instr). slice_get is i) (sym (instructions_at k.procs p)) ∙ e)
  where
    by : (o : Option (List Instr)) → slice_get k.procs p ≡ o → slice_get (or_none o) i ≡ Some x → P p x
    by None there h = absurd (cc h)
    by (Some is) there h = each p is there i x h
