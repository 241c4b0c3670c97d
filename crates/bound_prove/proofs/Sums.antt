-- Needs that a loop puts together along a list.
use Rattle.std.proofs.Common.{◌≡◌, ◌∙◌, ℕ, zero, suc, ◌+◌, ◌<◌, ◌≤◌, List, [], ◌∷◌, length, drop, get_or}
use Rattle.std.proofs.Common.{refl, sym, ap, subst, arith}
use Rattle.bound_prove.specs.declared.need.Need.{Need}
use Rattle.bound_prove.specs.Needs.{nothing_needed, in_turn, either, Covers}
use Rattle.bound_prove.specs.Searches.{the_ends}
use Rattle.bound_prove.proofs.Settling.{both_cover, turn_capped}

-- the rest of a list from an item on, and after the last one
pub drop_item : {A : Type 0} (xs : List A) (i : ℕ) (x : A) → i < length xs → x ≡ get_or xs i x
    → drop i xs ≡ x ∷ drop (i + 1) xs
drop_item [] i x lt e = absurd (omega arith)
drop_item (y ∷ xs) zero x lt e = ap (λ z. z ∷ xs) (sym e)
drop_item (y ∷ xs) (suc i) x lt e =
    let n : suc i + 1 ≡ suc (i + 1) = omega arith in
    drop_item xs i x (omega arith) e ∙ ap (λ k. x ∷ drop k (y ∷ xs)) (sym n)

pub drop_none : {A : Type 0} (xs : List A) (i : ℕ) → length xs ≤ i → drop i xs ≡ []
drop_none [] zero h = refl
drop_none [] (suc i) h = refl
drop_none (x ∷ xs) zero h = absurd (omega arith)
drop_none (x ∷ xs) (suc i) h = drop_none xs i (omega arith)

-- how three pieces are put together doesn't matter
assoc_left : (x y z : Need) → Covers (in_turn (in_turn x y) z) (in_turn x (in_turn y z))
unfolding in_turn
assoc_left x y z = record { depth = omega arith; steps = omega arith }

-- and the other way round
assoc_right : (x y z : Need) → Covers (in_turn x (in_turn y z)) (in_turn (in_turn x y) z)
unfolding in_turn
assoc_right x y z = record { depth = omega arith; steps = omega arith }

-- so both are one
turn_assoc : (x y z : Need) → in_turn (in_turn x y) z ≡ in_turn x (in_turn y z)
turn_assoc x y z = both_cover _ _ (assoc_left x y z) (assoc_right x y z)

-- nor for one of three ways
either_left : (x y z : Need) → Covers (either (either x y) z) (either x (either y z))
unfolding either
either_left x y z = record { depth = omega arith; steps = omega arith }

-- and the other way round
either_right : (x y z : Need) → Covers (either x (either y z)) (either (either x y) z)
unfolding either
either_right x y z = record { depth = omega arith; steps = omega arith }

-- so both are one
pub either_assoc : (x y z : Need) → either (either x y) z ≡ either x (either y z)
either_assoc x y z = both_cover _ _ (either_left x y z) (either_right x y z)

-- nothing before or after a need that is within the ends changes it
turn_none : (x : Need) → Covers the_ends x → in_turn x nothing_needed ≡ x
unfolding in_turn
turn_none x h =
    both_cover _ _ (record { depth = omega (arith, h.depth); steps = omega (arith, h.steps) })
    (record { depth = omega arith; steps = omega arith })

-- nothing before it
none_turn : (x : Need) → Covers the_ends x → in_turn nothing_needed x ≡ x
unfolding in_turn
none_turn x h =
    both_cover _ _ (record { depth = omega (arith, h.depth); steps = omega (arith, h.steps) })
    (record { depth = omega arith; steps = omega arith })

-- nothing as the other way changes no need
pub either_none : (x : Need) → either x nothing_needed ≡ x
unfolding either
either_none x =
    both_cover _ _ (record { depth = omega arith; steps = omega arith })
    (record { depth = omega arith; steps = omega arith })

-- nothing as the first way
pub none_either : (x : Need) → either nothing_needed x ≡ x
unfolding either
none_either x =
    both_cover _ _ (record { depth = omega arith; steps = omega arith })
    (record { depth = omega arith; steps = omega arith })

-- `whole` puts the items of a list together by `op`
pub record IsSum {A : Type 0} (op : Need → Need → Need) (item : A → Need) (whole : List A → Need) : Type 0 where
  pub none : whole [] ≡ nothing_needed
  pub step : (x : A) (xs : List A) → whole (x ∷ xs) ≡ op (item x) (whole xs)
  pub assoc : (x y z : Need) → op (op x y) z ≡ op x (op y z)
  pub closed : (x y : Need) → op (op x y) nothing_needed ≡ op x y
  pub empty : op nothing_needed nothing_needed ≡ nothing_needed
  pub first : (xs : List A) → op nothing_needed (whole xs) ≡ whole xs

module _ {A : Type 0} (item : A → Need) (whole : List A → Need) (none : whole [] ≡ nothing_needed) where
  -- the items in turn
  module _ (step : (x : A) (xs : List A) → whole (x ∷ xs) ≡ in_turn (item x) (whole xs)) where
    -- what is put together is within the ends
    capped : (xs : List A) → Covers the_ends (whole xs)
    capped [] = subst (Covers the_ends) (sym none) (record { depth = omega arith; steps = omega arith })
    capped (x ∷ xs) = subst (Covers the_ends) (sym (step x xs)) (turn_capped _ _)

    -- so a list is put together in turn
    pub turn_sum : IsSum in_turn item whole
    turn_sum = record {
      none = none;
      step = step;
      assoc = turn_assoc;
      closed = λ x y. turn_none (in_turn x y) (turn_capped x y);
      empty = turn_none nothing_needed (record { depth = omega arith; steps = omega arith });
      first = λ xs. none_turn (whole xs) (capped xs);
    }

  -- one of the items
  pub either_sum : ((x : A) (xs : List A) → whole (x ∷ xs) ≡ either (item x) (whole xs)) → IsSum either item whole
  either_sum step = record {
    none = none;
    step = step;
    assoc = either_assoc;
    closed = λ x y. either_none (either x y);
    empty = either_none nothing_needed;
    first = λ xs. none_either (whole xs);
  }
