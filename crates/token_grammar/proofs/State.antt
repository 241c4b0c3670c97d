-- Any number of items, where what may come next depends on what came: FIRST, FOLLOW and the reading.
use Rattle.std.proofs.Common.{◌≡◌, ℕ, zero, suc, ◌≤◌, ◌<◌, true, false, cond, List, [], ◌∷◌, ◌++◌}
use Rattle.std.proofs.Common.{length, Ok, Err, refl, sym, ap, subst, ◌∙◌, append_assoc, inl, inr, arith}
use Rattle.std.proofs.lemmas.List.{append-nil}
use Rattle.std.proofs.lemmas.Bool.{cases_Bool}
use Rattle.token_grammar.specs.declared.fault.TokenFault.{TokenFault}
use Rattle.token_grammar.specs.Token.{Lexeme, Outcome}
use Rattle.token_grammar.specs.Grammar.{Grammar, and_then, heads, many_from}
use Rattle.token_grammar.specs.Grammar.{many_from_spells, many_from_reads, Continues}
use Rattle.token_grammar.proofs.Good.{Set, Good, Sample, Takes, Stops, Begins, Clear, Within, Apart, also, joined}
use Rattle.token_grammar.proofs.Good.{carried, heads_carried, heads-same, bind_ok, bind_err, done_is, took, surely}
use Rattle.token_grammar.proofs.Good.{begins_clear, begins_heads, begins_wider, clear_within, clear_left, clear_right}

-- an item, and then what is still read
abbrev pub consed : {X : Type 0} → X → Outcome (List X) → Outcome (List X)
consed x read = and_then read (λ xs q. Ok (x ∷ xs, q))

-- what begins with an item begins so, whatever follows it
pub front_begins : (f : Set) (p q : List Lexeme) → Begins f false p → Begins f true (p ++ q)
front_begins f [] q h = absurd cc
front_begins f (t ∷ p) q h = h

-- what follows an item is clear of what goes on with it
pub next_clear : (f m set : Set) (q r : List Lexeme) → Begins f true q → Apart f m → Clear (also set true m) r
    → Clear m (q ++ r)
next_clear f m set q r b apart clear = begins_clear f m true q r b apart (λ e. clear_right set m true r clear refl)

-- ---- how it continues

module _ {S X : Type 0} (set : S → Set) (g : S → Grammar X) (next : S → X → S) where
  -- no item is a spelling
  pub sample_from : (s : S) → Sample (many_from set g next s)
  unfolding many_from
  sample_from s = record { tokens = []; value = []; spelled = refl }

  -- what continues an item continues the whole
  pub from_begun : (s : S) (u : List Lexeme) → Continues (g s) u → Continues (many_from set g next s) u
  unfolding many_from
  from_begun s u c = record {
    rest = c.rest;
    value = c.value ∷ [];
    spelled = record { p = u ++ c.rest; q = []; parts = sym (append-nil (u ++ c.rest)); first = c.spelled; second = refl };
  }

  -- after an item, what continues the others continues the whole
  pub from_behind : (s : S) (p u : List Lexeme) (x : X) → (g s).spells p x
      → Continues (many_from set g next (next s x)) u
      → Continues (many_from set g next s) (p ++ u)
  unfolding many_from
  from_behind s p u x w c = record {
    rest = c.rest;
    value = x ∷ c.value;
    spelled = record { p = p; q = u ++ c.rest; parts = append_assoc p u c.rest; first = w; second = c.spelled };
  }

-- ---- how it reads, where each item takes a token

module _ {S X : Type 0} (set : S → Set) (g : S → Grammar X) (next : S → X → S) (f : S → Set) (m : Set)
    (good : (s : S) → Good (g s) (f s) false m) where
  -- two ways to go on that agree on shorter lists
  on_shorter : (s : S) (t : List Lexeme) (j k : X → List Lexeme → Outcome (List X))
      → ((x : X) (r : List Lexeme) → length r < length t → j x r ≡ k x r) → (o : Outcome X) → (g s).reads t ≡ o
      → and_then o (λ x r. consed x (j x r)) ≡ and_then o (λ x r. consed x (k x r))
  on_shorter s t j k same (Ok y) e = ap (consed y.0) (same y.0 y.1 (took (good s) t y.0 y.1 e))
  on_shorter s t j k same (Err d) e = refl

  -- a bound of the number of items that is at least the number of tokens changes nothing
  more_fuel : (n k : ℕ) (s : S) (t : List Lexeme) → length t ≤ n → length t ≤ k
      → many_from_reads set (λ z. (g z).reads) next n s t ≡ many_from_reads set (λ z. (g z).reads) next k s t
  unfolding many_from_reads
  more_fuel zero zero s t p q = refl
  more_fuel zero (suc k) s [] p q = refl
  more_fuel zero (suc k) s (x ∷ t) p q = absurd (omega arith)
  more_fuel (suc n) zero s [] p q = refl
  more_fuel (suc n) zero s (x ∷ t) p q = absurd (omega arith)
  more_fuel (suc n) (suc k) s t p q =
      ap (λ (o : Outcome (List _)). cond (heads (set s) t) o (Ok ([], t)))
      (on_shorter s t _ _ (λ x r lt. more_fuel n k (next s x) r (omega arith) (omega arith)) ((g s).reads t) refl)

  -- one, and then as many as there are
  pub from-unroll : (s : S) (t : List Lexeme)
      → (many_from set g next s).reads t
      ≡ cond (heads (set s) t)
      (and_then ((g s).reads t) (λ x r. consed x ((many_from set g next (next s x)).reads r))) (Ok ([], t))
  unfolding many_from many_from_reads
  from-unroll s [] = refl
  from-unroll s (x ∷ t) =
      ap (λ (o : Outcome (List _)). cond (set s x.kind) o (Ok ([], x ∷ t)))
      (on_shorter s (x ∷ t) _ _ (λ y r lt. more_fuel (length t) (length r) (next s y) r (omega arith) (omega arith)) ((g s).reads (x ∷ t)) refl)

  -- by a token of no item, none is read
  pub from_none : (s : S) (t : List Lexeme) → heads (set s) t ≡ false → (many_from set g next s).reads t ≡ Ok ([], t)
  from_none s t h = rw (from-unroll s t, h) refl

  -- by another, one is read, and then the others
  pub from_one : (s : S) (t : List Lexeme) → heads (set s) t ≡ true
      → (many_from set g next s).reads t ≡ and_then ((g s).reads t)
      (λ x r. consed x ((many_from set g next (next s x)).reads r))
  from_one s t h = rw (from-unroll s t, h) refl

  -- no item takes no token
  takes_none : (s : S) (t : List Lexeme) → heads (set s) t ≡ false → Takes (many_from set g next s) t [] t
  unfolding many_from
  takes_none s t none = record {
    used = [];
    parts = refl;
    spelled = refl;
    same = λ r' hd. from_none s r' (sym (heads-same (set s) t r' hd) ∙ none);
  }

  -- an item and the others take their tokens together
  takes_one : (s : S) (t : List Lexeme) (x : X) (q : List Lexeme) (xs : List X) (r : List Lexeme)
      → heads (set s) t ≡ true
      → Takes (g s) t x q → Takes (many_from set g next (next s x)) q xs r → Takes (many_from set g next s) t (x ∷ xs) r
  unfolding many_from
  takes_one s t x q xs r here t1 t2 =
      let used = t1.used ++ t2.used in
      let parts = joined t t1.used q t2.used r t1.parts t2.parts in
      record {
        used = used;
        parts = parts;
        spelled = record { p = t1.used; q = t2.used; parts = refl; first = t1.spelled; second = t2.spelled };
        same = λ r' hd.
            let one : (g s).reads (used ++ r') ≡ Ok (x, t2.used ++ r') =
            rw append_assoc (t1.same (t2.used ++ r') (carried q t2.used r r' t2.parts hd)) in
            from_one s (used ++ r') (heads_carried (set s) true t used r r' parts hd here)
            ∙ rw (one, t2.same r' hd) refl;
      }

  -- what is read is spelled
  pub from_takes : (n : ℕ) (s : S) (t : List Lexeme) (xs : List X) (r : List Lexeme) → length t < n
      → (many_from set g next s).reads t ≡ Ok (xs, r)
      → Takes (many_from set g next s) t xs r
  from_takes zero s t xs r lt e = absurd (omega arith)
  from_takes (suc n) s t xs r lt e =
      elim (cases_Bool (heads (set s) t)) [
        | inl here ↦
            let k = bind_ok ((g s).reads t) _ xs r (sym (from_one s t here) ∙ e) in
            let k2 = bind_ok ((many_from set g next (next s k.x)).reads k.r) _ xs r k.second in
            let d = done_is (k.x ∷ k2.x) xs k2.r r k2.second in
            let lt2 = took (good s) t k.x k.r k.first in
            let t1 = (good s).takes t k.x k.r k.first in
            let t2 = from_takes n (next s k.x) k.r k2.x k2.r (omega arith) k2.first in
            rw d.value at (rw d.rest at (takes_one s t k.x k.r k2.x k2.r here t1 t2))
        | inr none ↦
            let d = done_is [] xs t r (sym (from_none s t none) ∙ e) in
            subst (λ ys. Takes (many_from set g next s) t ys r) d.value
            (subst (λ q. Takes (many_from set g next s) t [] q) d.rest (takes_none s t none))
      ]

  -- where the item stops, the whole stops
  stops_here : (s : S) (d : TokenFault) (t r : List Lexeme) → heads (set s) t ≡ true → Stops (g s) d t r
      → Stops (many_from set g next s) d t r
  stops_here s d t r here st = record {
    used = st.used;
    parts = st.parts;
    continues = elim st.continues [ inl c ↦ inl (from_begun set g next s st.used c) | inr none ↦ inr none ];
    same = λ r' hd.
        from_one s (st.used ++ r') (heads_carried (set s) true t st.used r r' st.parts hd here)
        ∙ rw (st.same r' hd) refl;
  }

  -- or where the others stop
  stops_later : (s : S) (d : TokenFault) (t : List Lexeme) (x : X) (q r : List Lexeme) → heads (set s) t ≡ true
      → Takes (g s) t x q → Stops (many_from set g next (next s x)) d q r → Stops (many_from set g next s) d t r
  stops_later s d t x q r here t1 t2 =
      let used = t1.used ++ t2.used in
      let parts = joined t t1.used q t2.used r t1.parts t2.parts in
      record {
        used = used;
        parts = parts;
        continues =
            inl (from_behind set g next s t1.used t2.used x t1.spelled (surely t2.used (sample_from set g next (next s x)) t2.continues));
        same = λ r' hd.
            let one : (g s).reads (used ++ r') ≡ Ok (x, t2.used ++ r') =
            rw append_assoc (t1.same (t2.used ++ r') (carried q t2.used r r' t2.parts hd)) in
            from_one s (used ++ r') (heads_carried (set s) true t used r r' parts hd here)
            ∙ rw (one, t2.same r' hd) refl;
      }

  -- what stands before a fault continues
  from_stops : (n : ℕ) (s : S) (t r : List Lexeme) (d : TokenFault) → length t < n
      → (many_from set g next s).reads t ≡ Err (d, r)
      → Stops (many_from set g next s) d t r
  from_stops zero s t r d lt e = absurd (omega arith)
  from_stops (suc n) s t r d lt e =
      elim (cases_Bool (heads (set s) t)) [
        | inl here ↦
            elim (bind_err ((g s).reads t) _ (d, r) (sym (from_one s t here) ∙ e)) [
              | inl e1 ↦ stops_here s d t r here ((good s).stops t r d e1)
              | inr k ↦
                  elim (bind_err ((many_from set g next (next s k.0)).reads k.1) _ (d, r) k.3) [
                    | inl e2 ↦
                        let lt2 = took (good s) t k.0 k.1 k.2 in
                        stops_later s d t k.0 k.1 r here ((good s).takes t k.0 k.1 k.2)
                        (from_stops n (next s k.0) k.1 r d (omega arith) e2)
                    | inr k2 ↦ absurd (let bad = k2.3 in cc)
                  ]
            ]
        | inr none ↦ absurd (let bad = sym (from_none s t none) ∙ e in cc)
      ]

-- ---- the laws

-- what holds of the items at every state
pub record Items {S X : Type 0} (set : S → Set) (g : S → Grammar X) (f : S → Set) (m first every : Set) : Type 0 where
  pub good : (s : S) → Good (g s) (f s) false m
  pub heading : (s : S) → Within (f s) first
  pub within : (s : S) → Within (f s) (set s)
  pub known : (s : S) → Within (set s) every
  pub apart : Apart first m

module _ {S X : Type 0} (set : S → Set) (g : S → Grammar X) (next : S → X → S) (f : S → Set) (m first every : Set)
    (a : Items set g f m first every) where
  -- FIRST of the whole is that of the item, in each state
  from_begins : (s : S) (u : List Lexeme) (xs : List X) → many_from_spells (λ z. (g z).spells) next s u xs
      → Begins first true u
  from_begins s u [] w = rw w refl
  from_begins s u (x ∷ xs) w =
      rw w.parts
      (front_begins first w.p w.q (begins_wider (f s) first false w.p (a.heading s) ((a.good s).begins w.p x w.first)))

  -- what is spelled is read, where no token follows that begins an item
  from_again : (s : S) (u : List Lexeme) (xs : List X) (r : List Lexeme)
      → many_from_spells (λ z. (g z).spells) next s u xs
      → Clear (also every true m) r → (many_from set g next s).reads (u ++ r) ≡ Ok (xs, r)
  from_again s u [] r w clear =
      rw w (from_none set g next f m a.good s r (clear_within (set s) every r (a.known s) (clear_left every m true r clear)))
  from_again s u (x ∷ xs) r w clear =
      let b = from_begins (next s x) w.q xs w.second in
      let here : heads (set s) (u ++ r) ≡ true =
      rw (w.parts, append_assoc)
      (begins_heads (f s) (set s) w.p (w.q ++ r) ((a.good s).begins w.p x w.first) (a.within s)) in
      let one : (g s).reads (u ++ r) ≡ Ok (x, w.q ++ r) =
      rw (w.parts, append_assoc)
      ((a.good s).again w.p x (w.q ++ r) w.first (next_clear first m every w.q r b a.apart clear)) in
      from_one set g next f m a.good s (u ++ r) here ∙ rw (one, from_again (next s x) w.q xs r w.second clear) refl

  -- the laws of any number of items
  pub from_good : (s : S) → Good (many_from set g next s) first true (also every true m)
  unfolding many_from
  from_good s = record {
    begins = from_begins s;
    again = from_again s;
    takes = λ t xs r. from_takes set g next f m a.good (suc (length t)) s t xs r (omega arith);
    stops = λ t r d. from_stops set g next f m a.good (suc (length t)) s t r d (omega arith);
  }
