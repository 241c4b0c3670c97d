-- Lists of ways out of a state.
use Rattle.std.proofs.Common.{◌≡◌, ◌==◌, ◌⊎◌, inl, inr, ℕ, Bool, true, false, List, [], ◌∷◌, ◌++◌, Some, length, slice_get, refl, sym}
use Rattle.std.proofs.Common.{subst, if◌then◌else◌}
use Rattle.actions.specs.World.{World}
use Rattle.sos_rules.specs.Parts.{Went, Stay, Out}
use Rattle.range_check.specs.declared.processing.Processed.{Processed}
use Rattle.range_check.specs.declared.processing.Way.{Way}
use Rattle.range_check.specs.Went.{IsOut, went_ends, Includes, PutsTogether, FromChild, PassesOn, at_or}
use Rattle.range_worlds.specs.declared.setting.Setting.{Setting}
use Rattle.range_worlds.specs.Leads.{Among, Unites}
use Rattle.range_worlds.proofs.Leading.{got_front, got_last, got_pushed}

module _ (s : Setting) where
  pub no_way : (h : ℕ) (w : World) → IsOut s [] h w → ⊥
  no_way h w o = let e = o.is in absurd cc

  pub out_front : (xs all : List Way) (x : Way) → all ≡ xs ++ x ∷ [] → (h : ℕ) (w : World) → IsOut s xs h w
      → IsOut s all h w
  out_front xs all x e h w o = record {
    place = o.place;
    way = o.way;
    is = subst (λ l. slice_get l o.place ≡ Some o.way) (sym e) (got_front xs (x ∷ []) o.place o.way o.is);
    home_is = o.home_is;
    at = o.at;
  }

  pub out_last : (xs all : List Way) (x : Way) → all ≡ xs ++ x ∷ [] → (h : ℕ) (w : World) → x.home ≡ h
      → Among s x.worlds.items w → IsOut s all h w
  out_last xs all x e h w q o = record {
    place = length xs;
    way = x;
    is = subst (λ l. slice_get l (length xs) ≡ Some x) (sym e) (got_last xs x);
    home_is = q;
    at = o;
  }

  pub out_popped : (xs all : List Way) (x : Way) → all ≡ xs ++ x ∷ [] → (h : ℕ) (w : World) → IsOut s all h w
      → IsOut s xs h w ⊎ ((x.home ≡ h) × Among s x.worlds.items w)
  out_popped xs all x e h w o =
      at (got_pushed xs x o.place o.way (subst (λ l. slice_get l o.place ≡ Some o.way) e o.is))
    where
      at : (slice_get xs o.place ≡ Some o.way) ⊎ (x ≡ o.way)
          → IsOut s xs h w ⊎ ((x.home ≡ h) × Among s x.worlds.items w)
      at (inl g) = inl (record { place = o.place; way = o.way; is = g; home_is = o.home_is; at = o.at })
      at (inr g) =
          inr (subst (λ (y : Way). (y.home ≡ h) × Among s y.worlds.items w) (sym g) (o.home_is, o.at))

  -- so far: each way of the second list is in one that is left, or in all, as those of the first one are
  pub record Putting (xs ys left all : List Way) : Type 0 where
    pub first : (h : ℕ) (w : World) → IsOut s xs h w → IsOut s all h w
    pub second : (h : ℕ) (w : World) → IsOut s ys h w → IsOut s left h w ⊎ IsOut s all h w

  pub putting_first : (xs ys left all : List Way) → left ≡ ys → all ≡ xs → Putting xs ys left all
  putting_first xs ys left all e f = record {
    first = λ h w o. subst (λ l. IsOut s l h w) (sym f) o;
    second = λ h w o. inl (subst (λ l. IsOut s l h w) (sym e) o);
  }

  pub putting_step : (xs ys left next all more : List Way) (x : Way) → left ≡ next ++ x ∷ [] → more ≡ all ++ x ∷ []
      → Putting xs ys left all → Putting xs ys next more
  putting_step xs ys left next all more x e f p = record {
    first = λ h w o. out_front all more x f h w (p.first h w o);
    second = λ h w o. after h w (p.second h w o);
  }
    where
      one : (h : ℕ) (w : World) → IsOut s next h w ⊎ ((x.home ≡ h) × Among s x.worlds.items w)
          → IsOut s next h w ⊎ IsOut s more h w
      one h w (inl o) = inl o
      one h w (inr o) = inr (out_last all more x f h w o.0 o.1)

      after : (h : ℕ) (w : World) → IsOut s left h w ⊎ IsOut s all h w → IsOut s next h w ⊎ IsOut s more h w
      after h w (inl o) = one h w (out_popped next left x e h w o)
      after h w (inr o) = inr (out_front all more x f h w o)

  pub putting_last : (xs ys left all : List Way) → left ≡ [] → Putting xs ys left all → PutsTogether s xs ys all
  putting_last xs ys left all e p = record { left = p.first; right = λ h w o. after h w (p.second h w o) }
    where
      after : (h : ℕ) (w : World) → IsOut s left h w ⊎ IsOut s all h w → IsOut s all h w
      after h w (inl o) = absurd (no_way h w (subst (λ l. IsOut s l h w) e o))
      after h w (inr o) = o

  -- two processings
  pub first_ends : (a b r : Processed) → Unites s a.stay.items b.stay.items r.stay.items
      → PutsTogether s a.outs.items b.outs.items r.outs.items → Includes s a r
  first_ends a b r u p = record { ends = at }
    where
      at : (went : Went) (w : World) → went_ends s a went w → went_ends s r went w
      at Stay w h = u.left w h
      at (Out home) w h = p.left home w h

  pub second_ends : (a b r : Processed) → Unites s a.stay.items b.stay.items r.stay.items
      → PutsTogether s a.outs.items b.outs.items r.outs.items → Includes s b r
  second_ends a b r u p = record { ends = at }
    where
      at : (went : Went) (w : World) → went_ends s b went w → went_ends s r went w
      at Stay w h = u.right w h
      at (Out home) w h = p.right home w h

  -- a way out of a child of an OR
  at_own : (state : ℕ) (r : Processed) (w : World) (h : ℕ) (b : Bool) → (h == state) ≡ b
      → went_ends s r (if b then Stay else Out h) w → went_ends s r (at_or state (Out h)) w
  at_own state r w h b e o = subst (λ z. went_ends s r (if z then Stay else Out h) w) (sym e) o

  pub own_passed : (state : ℕ) (way : Way) (old new : Processed) → (way.home == state) ≡ true
      → Unites s old.stay.items way.worlds.items new.stay.items → new.outs.items ≡ old.outs.items
      → PassesOn s state way old new
  own_passed state way old new e u q = record {
    kept = at;
    has = λ w h. at_own state new w way.home true e (u.right w h);
  }
    where
      at : (went : Went) (w : World) → went_ends s old went w → went_ends s new went w
      at Stay w h = u.left w h
      at (Out home) w h = subst (λ l. IsOut s l home w) (sym q) h

  pub other_passed : (state : ℕ) (way : Way) (old new : Processed) → (way.home == state) ≡ false
      → new.outs.items ≡ old.outs.items ++ way ∷ [] → new.stay.items ≡ old.stay.items → PassesOn s state way old new
  other_passed state way old new e p q = record {
    kept = at;
    has = λ w h. at_own state new w way.home false e (out_last old.outs.items new.outs.items way p way.home w refl h);
  }
    where
      at : (went : Went) (w : World) → went_ends s old went w → went_ends s new went w
      at Stay w h = subst (λ l. Among s l w) (sym q) h
      at (Out home) w h = out_front old.outs.items new.outs.items way p home w h

  -- so far: where the child stays the OR does, and each way out of the child is left or passed on
  pub record FromChildSoFar (state : ℕ) (inner : Processed) (left : List Way) (r : Processed) : Type 0 where
    pub stay : (w : World) → Among s inner.stay.items w → Among s r.stay.items w
    pub outs : (h : ℕ) (w : World) → IsOut s inner.outs.items h w
        → IsOut s left h w ⊎ went_ends s r (at_or state (Out h)) w

  pub from_child_first : (state : ℕ) (inner : Processed) (left : List Way) (r : Processed)
      → r.stay.items ≡ inner.stay.items → left ≡ inner.outs.items → FromChildSoFar state inner left r
  from_child_first state inner left r e q = record {
    stay = λ w h. subst (λ l. Among s l w) (sym e) h;
    outs = λ h w o. inl (subst (λ l. IsOut s l h w) (sym q) o);
  }

  pub from_child_step : (state : ℕ) (inner : Processed) (left next : List Way) (x : Way) (old new : Processed)
      → left ≡ next ++ x ∷ [] → PassesOn s state x old new → FromChildSoFar state inner left old
      → FromChildSoFar state inner next new
  from_child_step state inner left next x old new e p f = record {
    stay = λ w h. p.kept Stay w (f.stay w h);
    outs = λ h w o. after h w (f.outs h w o);
  }
    where
      one : (h : ℕ) (w : World) → IsOut s next h w ⊎ ((x.home ≡ h) × Among s x.worlds.items w)
          → IsOut s next h w ⊎ went_ends s new (at_or state (Out h)) w
      one h w (inl o) = inl o
      one h w (inr o) = inr (subst (λ z. went_ends s new (at_or state (Out z)) w) o.0 (p.has w o.1))

      after : (h : ℕ) (w : World) → IsOut s left h w ⊎ went_ends s old (at_or state (Out h)) w
          → IsOut s next h w ⊎ went_ends s new (at_or state (Out h)) w
      after h w (inl o) = one h w (out_popped next left x e h w o)
      after h w (inr o) = inr (p.kept (at_or state (Out h)) w o)

  pub from_child_last : (state : ℕ) (inner : Processed) (left : List Way) (r : Processed) → left ≡ []
      → FromChildSoFar state inner left r → FromChild s state inner r
  from_child_last state inner left r e f = record { from = at }
    where
      out : (h : ℕ) (w : World) → IsOut s left h w ⊎ went_ends s r (at_or state (Out h)) w
          → went_ends s r (at_or state (Out h)) w
      out h w (inl o) = absurd (no_way h w (subst (λ l. IsOut s l h w) e o))
      out h w (inr o) = o

      at : (a : Went) (w : World) → went_ends s inner a w → went_ends s r (at_or state a) w
      at Stay w h = f.stay w h
      at (Out home) w h = out home w (f.outs home w h)
