-- The reading of any number of items, compared: the sets, and what an item leaves for the next, are the same on both
-- sides.
use Rattle.std.proofs.Common.{◌≡◌, ℕ, zero, suc, ◌<◌, Bool, true, false, List}
use Rattle.std.proofs.Common.{length, Ok, Err, refl, sym, ◌∙◌, inl, inr, arith}
use Rattle.std.proofs.lemmas.Bool.{cases_Bool}
use Rattle.token_grammar.specs.declared.fault.TokenFault.{TokenFault}
use Rattle.token_grammar.specs.Token.{Lexeme}
use Rattle.token_grammar.specs.Grammar.{Grammar, heads, many, many_from}
use Rattle.token_grammar.proofs.Good.{Set, Good, took, bind_ok, bind_err}
use Rattle.token_grammar.proofs.State.{from_one, from_none, from_takes, from_begun, from_behind, sample_from}
use Rattle.token_grammar.proofs.Many.{many_alike, sample_many}
use Rattle.token_grammar.proofs.Lifted.{Lifted, GoesPast, Eased, still_reads, past_by, past_behind, lifted_alike}

module _ {S X : Type 0} {lifts : TokenFault → Bool} {g g' : S → Grammar X} {f f' : S → Set} {m m' : Set} (set : S → Set)
    (next : S → X → S)
    (good : (z : S) → Good (g z) (f z) false m) (good' : (z : S) → Good (g' z) (f' z) false m')
    (a : (z : S) → Lifted lifts (g z) (g' z)) where
  -- the items that the left side reads, the right side reads
  reads_too : (n : ℕ) (s : S) (t : List Lexeme) (xs : List X) (r : List Lexeme) → length t < n
      → (many_from set g next s).reads t ≡ Ok (xs, r)
      → (many_from set g' next s).reads t ≡ Ok (xs, r)
  reads_too zero s t xs r lt e = absurd (omega arith)
  reads_too (suc n) s t xs r lt e =
      elim (cases_Bool (heads (set s) t)) [
        | inl here ↦
            let k = bind_ok ((g s).reads t) _ xs r (sym (from_one set g next f m good s t here) ∙ e) in
            let k2 = bind_ok ((many_from set g next (next s k.x)).reads k.r) _ xs r k.second in
            let lt2 = took (good s) t k.x k.r k.first in
            let others = reads_too n (next s k.x) k.r k2.x k2.r (omega arith) k2.first in
            from_one set g' next f' m' good' s t here ∙ rw (still_reads (a s) t k.x k.r k.first, others) k2.second
        | inr none ↦ from_none set g' next f' m' good' s t none ∙ sym (from_none set g next f m good s t none) ∙ e
      ]

  -- where the left side stops by a fault that isn't lifted, the right side stops
  stays_too : (n : ℕ) (s : S) (t r : List Lexeme) (d : TokenFault) → length t < n
      → (many_from set g next s).reads t ≡ Err (d, r) → lifts d ≡ false
      → (many_from set g' next s).reads t ≡ Err (d, r)
  stays_too zero s t r d lt e kept = absurd (omega arith)
  stays_too (suc n) s t r d lt e kept =
      elim (cases_Bool (heads (set s) t)) [
        | inl here ↦
            elim (bind_err ((g s).reads t) _ (d, r) (sym (from_one set g next f m good s t here) ∙ e)) [
              | inl e1 ↦ from_one set g' next f' m' good' s t here ∙ rw ((a s).stays t r d e1 kept) refl
              | inr k ↦
                  elim (bind_err ((many_from set g next (next s k.0)).reads k.1) _ (d, r) k.3) [
                    | inl e2 ↦
                        let lt2 = took (good s) t k.0 k.1 k.2 in
                        let others = stays_too n (next s k.0) k.1 r d (omega arith) e2 kept in
                        from_one set g' next f' m' good' s t here ∙ rw (still_reads (a s) t k.0 k.1 k.2, others) refl
                    | inr k2 ↦ absurd (let bad = k2.3 in cc)
                  ]
            ]
        | inr none ↦ absurd (let bad = sym (from_none set g next f m good s t none) ∙ e in cc)
      ]

  -- where it stops by one that is, the right side goes on
  passes_too : (n : ℕ) (s : S) (t r : List Lexeme) (d : TokenFault) → length t < n
      → (many_from set g next s).reads t ≡ Err (d, r) → lifts d ≡ true
      → GoesPast (many_from set g' next s) t r
  passes_too zero s t r d lt e lift = absurd (omega arith)
  passes_too (suc n) s t r d lt e lift =
      elim (cases_Bool (heads (set s) t)) [
        | inl here ↦
            elim (bind_err ((g s).reads t) _ (d, r) (sym (from_one set g next f m good s t here) ∙ e)) [
              | inl e1 ↦ past_by t r (from_begun set g' next s) ((a s).passes t r d e1 lift)
              | inr k ↦
                  elim (bind_err ((many_from set g next (next s k.0)).reads k.1) _ (d, r) k.3) [
                    | inl e2 ↦
                        let lt2 = took (good s) t k.0 k.1 k.2 in
                        let one = (a s).takes t k.0 k.1 k.2 in
                        past_behind t one.used k.1 r one.parts
                        (λ u. from_behind set g' next s one.used u k.0 one.spelled)
                        (passes_too n (next s k.0) k.1 r d (omega arith) e2 lift)
                    | inr k2 ↦ absurd (let bad = k2.3 in cc)
                  ]
            ]
        | inr none ↦ absurd (let bad = sym (from_none set g next f m good s t none) ∙ e in cc)
      ]

  -- any number of items
  pub eased_many_from : (s : S) → Eased lifts (many_from set g next s) (many_from set g' next s)
  eased_many_from s = record {
    lifted = record {
      takes = λ t xs r e.
          from_takes set g' next f' m' good' (suc (length t)) s t xs r (omega arith)
          (reads_too (suc (length t)) s t xs r (omega arith) e);
      stays = λ t r d e kept. stays_too (suc (length t)) s t r d (omega arith) e kept;
      passes = λ t r d e lift. passes_too (suc (length t)) s t r d (omega arith) e lift;
    };
    sample = sample_from set g' next s;
  }

-- any number of the same
pub eased_many : {X : Type 0} {lifts : TokenFault → Bool} {g g' : Grammar X} {f f' m m' : Set} (set : Set)
    → Good g f false m → Good g' f' false m' → Lifted lifts g g' → Eased lifts (many set g) (many set g')
eased_many {X} {lifts} {g} {g'} set good good' a = record {
  lifted =
      lifted_alike (many_alike set g) (many_alike set g')
      (eased_many_from (λ (z : ℕ). set) (λ z x. z) (λ z. good) (λ z. good') (λ z. a) 0).lifted;
  sample = sample_many set g';
}
