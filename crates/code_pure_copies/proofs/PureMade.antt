-- Procedures that are made one by one, each by its origin, are pure copies.
use Rattle.std.proofs.Common.{◌≡◌, ◌<◌, ℕ, zero, suc, ◌-◌, List, [], ◌∷◌, length, map, Some}
use Rattle.std.proofs.Common.{refl, sym, ap, ◌∙◌, subst, arith}
use Rattle.std.specs.Prelude.{slice_get, slice_index, slice_index_or, min}
use Rattle.std.proofs.lemmas.List.{length-map}
use Rattle.code_language.specs.Code.{Code, Procedures, instructions}
use Rattle.code_language.specs.Instrs.{Instr}
use Rattle.code_merging.specs.Merged.{under}
use Rattle.code_pure_copies.specs.PureCopies.{IsPureCopy, ArePureCopies}
use Rattle.code_shrink.specs.Numbers.{number_by}

-- a procedure that is found is there
found_there : (procs : List (List Instr)) (p : ℕ) (is : List Instr) → slice_get procs p ≡ Some is
    → (p < length procs) × (slice_index_or procs p [] ≡ is)
found_there [] p is e = absurd (cc e)
found_there (js ∷ procs) zero is e = let same : js ≡ is = cc e in (omega arith, same)
found_there (js ∷ procs) (suc p) is e =
    let g = found_there procs p is e in let less = g.0 in (omega (arith, less), g.1)

-- procedures that are written one by one, each of which is found
abbrev pub AreMade : (ℕ → ℕ) → List (List Instr) → List (List Instr) → List ℕ → Type 0
AreMade m procs made origins = map (λ (is : List Instr). Some (under m is)) made ≡ map (slice_get procs) origins

module _ (m : ℕ → ℕ) (procs : List (List Instr)) where
  -- each is that of its origin
  each_made : (made : List (List Instr)) (origins : List ℕ) → AreMade m procs made origins
      → (p : ℕ) → p < length origins
      → slice_get procs (slice_index origins p) ≡ Some (under m (slice_index_or made p []))
  each_made made [] e p h = absurd (omega (arith, h))
  each_made [] (o ∷ origins) e p h = absurd (cc e)
  each_made (is ∷ made) (o ∷ origins) e zero h =
      let head : Some (under m is) ≡ slice_get procs o = cc e in sym head
  each_made (is ∷ made) (o ∷ origins) e (suc p) h =
      let rest : AreMade m procs made origins = cc e in each_made made origins rest p (omega (arith, h))

module _ (k k' : Procedures) (origins : List ℕ) (made : AreMade (number_by origins) k.procs k'.procs origins) where
  -- there are as many as origins
  as_many : length origins ≡ length k'.procs
  as_many =
      sym (length-map origins (slice_get k.procs)) ∙ sym (ap length made)
      ∙ length-map k'.procs (λ (is : List Instr). Some (under (number_by origins) is))

  -- each is a copy
  each_pure : (p : ℕ) → p < length origins → IsPureCopy (number_by origins) k k' p
  unfolding instructions
  each_pure p h =
      let own : min p (length origins - 1) ≡ p = omega (arith, h) in
      let found = each_made (number_by origins) k.procs k'.procs origins made p h in
      let at = ap (λ q. slice_get k.procs (slice_index origins q)) own ∙ found in
      let g = found_there k.procs (number_by origins p) (under (number_by origins) (slice_index_or k'.procs p [])) at in
      record { there = g.0; same = sym g.1 }

-- code that has such procedures is made of copies
pub pure_made : (k made : Code) (procs : List (List Instr)) (start react : ℕ) (origins : List ℕ)
    → made ≡ record k { procedures = record { procs = procs; start = start; react = react } }
    → AreMade (number_by origins) k.procedures.procs procs origins
    → number_by origins start ≡ k.procedures.start → number_by origins react ≡ k.procedures.react
    → ArePureCopies k made origins
pure_made k made procs start react origins is all first second =
    let now : Procedures = record { procs = procs; start = start; react = react } in
    subst (λ c. ArePureCopies k c origins) (sym is)
    (record {
      tree = refl;
      names = refl;
      size = as_many k.procedures now origins all;
      each = each_pure k.procedures now origins all;
      start = first;
      react = second;
    })
