-- How lists of sets and work that leads to them are put together.
use Rattle.std.proofs.Common.{◌≡◌, ◌⊎◌, inl, inr, ℕ, zero, suc, ◌<◌, List, [], ◌∷◌, ◌++◌}
use Rattle.std.proofs.Common.{length, Some}
use Rattle.std.proofs.Common.{refl, sym, ap, subst, ◌∙◌, arith, slice_get, get_or, pos, ◌<ℤ◌, ℤ}
use Rattle.std.proofs.lemmas.Int.{ints}
use Rattle.std.proofs.lemmas.List.{get_or_default}
use Rattle.actions.specs.Data.{datum}
use Rattle.flow_base.specs.declared.bounds.Bounds.{Bounds}
use Rattle.actions.specs.Work.{Run, Work, Ended, Faulted, Unfinished, then_do}
use Rattle.actions.specs.World.{World}
use Rattle.range_worlds.specs.declared.setting.Setting.{Setting}
use Rattle.range_worlds.specs.declared.worlds.Merge.{Merge}
use Rattle.range_worlds.specs.Leads.{AreBelow, chart_in, cert_in, At, Among, Adds, Unites, Joins, Merges, Works, Leads}
use Rattle.range_worlds.specs.Leads.{Underway}
use Rattle.range_rules.specs.declared.cert.Around.{Around}
use Rattle.range_rules.specs.declared.cert.Certificate.{Certificate}
use Rattle.range_rules.specs.Worlds.{EndsIn, always_of}
use Rattle.range_spans.specs.Boxes.{box_of, IsBox}
use Rattle.range_spans.specs.Narrow.{Box, joined_box}
use Rattle.range_spans.specs.Spans.{IsIn, joined}
use Rattle.range_spans.specs.declared.span.Span.{Span}

-- ---- places of lists

pub got_front : {A : Type 0} (xs ys : List A) (i : ℕ) (x : A) → slice_get xs i ≡ Some x → slice_get (xs ++ ys) i ≡ Some x
got_front [] ys i x e = absurd cc
got_front (y ∷ xs) ys zero x e = e
got_front (y ∷ xs) ys (suc i) x e = got_front xs ys i x e

pub got_last : {A : Type 0} (xs : List A) (x : A) → slice_get (xs ++ x ∷ []) (length xs) ≡ Some x
got_last [] x = refl
got_last (y ∷ xs) x = got_last xs x

pub got_pushed : {A : Type 0} (xs : List A) (y : A) (i : ℕ) (x : A) → slice_get (xs ++ y ∷ []) i ≡ Some x
    → (slice_get xs i ≡ Some x) ⊎ (y ≡ x)
got_pushed [] y zero x e = let f : y ≡ x = cc in inr f
got_pushed [] y (suc i) x e = absurd cc
got_pushed (z ∷ xs) y zero x e = inl e
got_pushed (z ∷ xs) y (suc i) x e = got_pushed xs y i x e

-- ---- lists of sets

module _ (s : Setting) where
  pub no_world : (w : World) → Among s [] w → ⊥
  no_world w h = let e = h.is in absurd cc

  pub pushed_kept : (xs : List Around) (x : Around) (w : World) → Among s xs w → Among s (xs ++ x ∷ []) w
  pushed_kept xs x w h = record {
    place = h.place;
    set = h.set;
    is = got_front xs (x ∷ []) h.place h.set h.is;
    stands
        = h.stands;
  }

  pub pushed_has : (xs : List Around) (x : Around) (w : World) → At s x w → Among s (xs ++ x ∷ []) w
  pushed_has xs x w h = record { place = length xs; set = x; is = got_last xs x; stands = h }

  pub popped : (xs : List Around) (x : Around) (w : World) → Among s (xs ++ x ∷ []) w → Among s xs w ⊎ At s x w
  popped xs x w h = at (got_pushed xs x h.place h.set h.is)
    where
      at : (slice_get xs h.place ≡ Some h.set) ⊎ (x ≡ h.set) → Among s xs w ⊎ At s x w
      at (inl e) = inl (record { place = h.place; set = h.set; is = e; stands = h.stands })
      at (inr e) = inr (subst (λ (y : Around). At s y w) (sym e) h.stands)

  pub pushed : (xs ys : List Around) (x : Around) → ys ≡ xs ++ x ∷ [] → Adds s x xs ys
  pushed xs ys x e = record {
    kept = λ w h. subst (λ zs. Among s zs w) (sym e) (pushed_kept xs x w h);
    has = λ w h. subst (λ zs. Among s zs w) (sym e) (pushed_has xs x w h);
  }

-- a set in which a datum has no value has no world
pub empty_set : (s : Setting) (x : Around) (i : ℕ) (span : Span) → i < length x.spans.items
    → span ≡ get_or x.spans.items i span → span.high <ℤ span.low → (w : World) → At s x w → ⊥
empty_set s x i span lt e h w a =
    let same : box_of x.spans.items i ≡ span =
    get_or_default x.spans.items i (record { low = pos 0; high = pos 0 }) span lt ∙ sym e in
    let own : IsIn span (datum w.vals i).mantissa =
    subst (λ (k : Span). IsIn k (datum w.vals i).mantissa) same (a.data_in.inside i) in
    let above = own.above in
    let below = own.below in
    absurd (grind (arith, ints))

left_joined : (s t : Span) (m : ℤ) → IsIn s m → IsIn (joined s t) m
left_joined s t m h =
    let p = h.above in let q = h.below in record { above = grind (arith, ints); below = grind (arith, ints) }

right_joined : (s t : Span) (m : ℤ) → IsIn t m → IsIn (joined s t) m
right_joined s t m h =
    let p = h.above in let q = h.below in record { above = grind (arith, ints); below = grind (arith, ints) }

-- two sets of one configuration are in the one with the joined spans
pub joins : (s : Setting) (x y z : Around) (l : List Span) → x.config ≡ y.config → z.config ≡ x.config
    → l ≡ y.spans.items → box_of z.spans.items ≡ joined_box (box_of x.spans.items) (box_of l) → Joins s x y z
joins s x y z l c d q g = record {
  left = λ w h. at w (h.config ∙ sym d) h.data_in (λ v. left_joined _ _ _ (h.data_in.inside v));
  right = λ w h. at w (h.config ∙ sym c ∙ sym d) h.data_in (λ v. right_joined _ _ _ (h.data_in.inside v));
}
  where
    b : box_of z.spans.items ≡ joined_box (box_of x.spans.items) (box_of y.spans.items)
    b = g ∙ ap (λ (m : List Span). joined_box (box_of x.spans.items) (box_of m)) q

    at : {box : Box} (w : World) → w.marks ≡ z.config → IsBox (chart_in s).names (always_of (cert_in s)) box w.vals
        → ((v : ℕ) → IsIn (joined (box_of x.spans.items v) (box_of y.spans.items v)) (datum w.vals v).mantissa)
        → At s z w
    at w m h i = record {
      config = m;
      data_in = record {
        declared = h.declared;
        at_each_moment = h.at_each_moment;
        inside = λ v. subst (λ (k : Box). IsIn (k v) (datum w.vals v).mantissa) (sym b) (i v);
      };
    }

-- a set is put into a list: of its worlds and of those of the list each is in the set at hand, in one that is left, or
-- in one of the others
pub record Adding (s : Setting) (xs left : List Around) (x own : Around) (others : List Around) : Type 0 where
  pub old : (w : World) → Among s xs w → Among s left w ⊎ (At s own w ⊎ Among s others w)
  pub new : (w : World) → At s x w → At s own w

-- two lists are put together: each world of the second one is in a set that is left, or in one of both
pub record Uniting (s : Setting) (xs ys left both : List Around) : Type 0 where
  pub first : (w : World) → Among s xs w → Among s both w
  pub second : (w : World) → Among s ys w → Among s left w ⊎ Among s both w

module _ (s : Setting) where
  pub adding_first : (xs left : List Around) (x own : Around) (others : List Around) → left ≡ xs → own ≡ x
      → Adding s xs left x own others
  adding_first xs left x own others e q = record {
    old = λ w h. inl (subst (λ ys. Among s ys w) (sym e) h);
    new = λ w h. subst (λ (y : Around). At s y w) (sym q) h;
  }

  -- a set that isn't joined with the one at hand
  pub merged_other : (y : Around) (old new : Merge) → new.own ≡ old.own → new.others.items ≡ old.others.items ++ y ∷ []
      → Merges s y old new
  merged_other y old new o e = record {
    own = λ w h. subst (λ (x : Around). At s x w) (sym o) h;
    others = λ w h. subst (λ zs. Among s zs w) (sym e) (pushed_kept s old.others.items y w h);
    has = λ w h. inr (subst (λ zs. Among s zs w) (sym e) (pushed_has s old.others.items y w h));
  }

  pub adding_step : (xs left next : List Around) (x y : Around) (old new : Merge) → left ≡ next ++ y ∷ []
      → Merges s y old new → Adding s xs left x old.own old.others.items
      → Adding s xs next x new.own new.others.items
  adding_step xs left next x y old new e m a = record {
    old = λ w h. at w (a.old w h);
    new = λ w h. m.own w (a.new w h);
  }
    where
      found : (w : World) → At s new.own w ⊎ Among s new.others.items w
          → Among s next w ⊎ (At s new.own w ⊎ Among s new.others.items w)
      found w (inl h) = inr (inl h)
      found w (inr h) = inr (inr h)

      one : (w : World) → Among s next w ⊎ At s y w
          → Among s next w ⊎ (At s new.own w ⊎ Among s new.others.items w)
      one w (inl h) = inl h
      one w (inr h) = found w (m.has w h)

      at : (w : World) → Among s left w ⊎ (At s old.own w ⊎ Among s old.others.items w)
          → Among s next w ⊎ (At s new.own w ⊎ Among s new.others.items w)
      at w (inl h) = one w (popped s next y w (subst (λ ys. Among s ys w) e h))
      at w (inr (inl h)) = inr (inl (m.own w h))
      at w (inr (inr h)) = inr (inr (m.others w h))

  pub adding_last : (xs left : List Around) (x own : Around) (others all : List Around) → left ≡ []
      → Adds s own others all → Adding s xs left x own others → Adds s x xs all
  adding_last xs left x own others all e j a = record {
    kept = λ w h. at w (a.old w h);
    has = λ w h. j.has w (a.new w h);
  }
    where
      at : (w : World) → Among s left w ⊎ (At s own w ⊎ Among s others w) → Among s all w
      at w (inl h) = absurd (no_world s w (subst (λ ys. Among s ys w) e h))
      at w (inr (inl h)) = j.has w h
      at w (inr (inr h)) = j.kept w h

  pub adding_none : (xs : List Around) (x : Around) → ((w : World) → At s x w → ⊥) → Adds s x xs xs
  adding_none xs x none = record { kept = λ w h. h; has = λ w h. absurd (none w h) }

  pub uniting_step : (xs ys left next both more : List Around) (y : Around) → left ≡ next ++ y ∷ [] → Adds s y both more
      → Uniting s xs ys left both → Uniting s xs ys next more
  uniting_step xs ys left next both more y e j a = record {
    first = λ w h. j.kept w (a.first w h);
    second = λ w h. at w (a.second w h);
  }
    where
      one : (w : World) → Among s next w ⊎ At s y w → Among s next w ⊎ Among s more w
      one w (inl h) = inl h
      one w (inr h) = inr (j.has w h)

      at : (w : World) → Among s left w ⊎ Among s both w → Among s next w ⊎ Among s more w
      at w (inl h) = one w (popped s next y w (subst (λ ys. Among s ys w) e h))
      at w (inr h) = inr (j.kept w h)

  pub uniting_last : (xs ys left both : List Around) → left ≡ [] → Uniting s xs ys left both → Unites s xs ys both
  uniting_last xs ys left both e a = record { left = a.first; right = λ w h. at w (a.second w h) }
    where
      at : (w : World) → Among s left w ⊎ Among s both w → Among s both w
      at w (inl h) = absurd (no_world s w (subst (λ ys. Among s ys w) e h))
      at w (inr h) = h

-- ---- work

pub weaker_end : {A : Type 0} (cert : Certificate) (e f : A → World → Type 0) (r : Run A)
    → ((a : A) (w : World) → e a w → f a w)
    → EndsIn cert e r → EndsIn cert f r
weaker_end cert e f (Ended a w) h x = h a w x
weaker_end cert e f (Faulted z w) h x = x
weaker_end cert e f Unfinished h x = x

pub then_end : {A B : Type 0} (cert : Certificate) (e : A → World → Type 0) (f : B → World → Type 0) (r : Run A)
    (k : A → Work B) → EndsIn cert e r → ((a : A) (w : World) → e a w → EndsIn cert f (k a w))
    → EndsIn cert f (then_do r k)
then_end cert e f (Ended a w) k h next = next a w h
then_end cert e f (Faulted z w) k h next = h
then_end cert e f Unfinished k h next = h

module _ {A : Type 0} (s : Setting) (work : Works A) where
  -- more worlds, and fewer beginnings
  pub leads_more : (from : World → Type 0) (e f : A → World → Type 0) → ((a : A) (w : World) → e a w → f a w)
      → Leads s from work e → Leads s from work f
  leads_more from e f h l = record {
    leads = λ b n depth w right at. weaker_end (cert_in s) e f (work b n depth w) h (l.leads b n depth w right at);
  }

  pub leads_from : (from less : World → Type 0) (e : A → World → Type 0) → ((w : World) → less w → from w)
      → Leads s from work e → Leads s less work e
  leads_from from less e h l = record { leads = λ b n depth w right at. l.leads b n depth w right (h w at) }

  -- a walk over sets
  pub underway_first : (all left : List Around) (e : A → World → Type 0) → left ≡ all → Underway s all left work e
  underway_first all left e q = record {
    goes = λ b n depth w right at. inl (subst (λ xs. Among s xs w) (sym q) at);
  }

  pub underway_step : (all left next : List Around) (x : Around) (e f : A → World → Type 0) → left ≡ next ++ x ∷ []
      → ((a : A) (w : World) → e a w → f a w) → Leads s (At s x) work f → Underway s all left work e
      → Underway s all next work f
  underway_step all left next x e f q more l u = record {
    goes = λ b n depth w right at. after b n depth w right (u.goes b n depth w right at);
  }
    where
      one : (b : Bounds) (n depth : ℕ) (w : World) → AreBelow s b n
          → Among s next w ⊎ At s x w → Among s next w ⊎ EndsIn (cert_in s) f (work b n depth w)
      one b n depth w right (inl h) = inl h
      one b n depth w right (inr h) = inr (l.leads b n depth w right h)

      after : (b : Bounds) (n depth : ℕ) (w : World) → AreBelow s b n
          → Among s left w ⊎ EndsIn (cert_in s) e (work b n depth w)
          → Among s next w ⊎ EndsIn (cert_in s) f (work b n depth w)
      after b n depth w right (inl h) =
          one b n depth w right (popped s next x w (subst (λ xs. Among s xs w) q h))
      after b n depth w right (inr h) = inr (weaker_end (cert_in s) e f (work b n depth w) more h)

  pub underway_last : (all left : List Around) (e : A → World → Type 0) → left ≡ [] → Underway s all left work e
      → Leads s (Among s all) work e
  underway_last all left e q u = record {
    leads = λ b n depth w right at. after b n depth w (u.goes b n depth w right at);
  }
    where
      after : (b : Bounds) (n depth : ℕ) (w : World) → Among s left w ⊎ EndsIn (cert_in s) e (work b n depth w)
          → EndsIn (cert_in s) e (work b n depth w)
      after b n depth w (inl h) = absurd (no_world s w (subst (λ xs. Among s xs w) q h))
      after b n depth w (inr h) = h
