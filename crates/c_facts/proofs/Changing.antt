-- What holds after places changed.
use Rattle.std.proofs.Common.{◌≡◌, nat_eq, ℕ, Bool, true, false, cond, List, [], ◌∷◌, Option, Some, refl, sym, ap, ◌∙◌}
use Rattle.std.proofs.Common.{subst}
use Rattle.c_subset.specs.Meaning.{Store}
use Rattle.c_facts.specs.Known.{Place, Home, Sets, Anything, OneOf, Row, Known, Never, Rows, is_in, field_of, number_at}
use Rattle.c_facts.specs.Known.{is_number, is_at, IsThere, HasOne, HasSets, HoldRows, Hold, type_at, Stays}
use Rattle.c_facts.specs.Facts.{Written, Change, united, common, same_home, same_row, blurred, moved_sets, put_number}
use Rattle.c_facts.specs.Facts.{put_sets, change_at, stored_rows, met, framed_sets, with_unchanged}
use Rattle.c_facts.specs.Facts.{framed_rows, steady_homes, steadied, framed, forgotten}
use Rattle.c_facts.specs.declared.known.Change.TheVariants as changes
use Rattle.c_facts.proofs.NumberSets.{in-first, in-first-set, in-second-set, in-common}
use Rattle.c_facts.proofs.PlaceLemmas.{same-at, is-row, still-there}
use Rattle.c_facts.proofs.Holding.{wider, no-one, closed-hold, settled-hold}

-- what became of the number at a place
abbrev pub IsChange : Store → Store → Place → Change → Type 0
IsChange s v p changes.Stays = number_at v p ≡ number_at s p
IsChange s v p (changes.Becomes n) = number_at v p ≡ Some n
IsChange s v p changes.Varies = Unit {0}

-- ---- sets that don't tell whether the home has its number

all-of : (s : Store) (p : Place) (b : Bool) (on off : List ℕ) → HasSets s p b (OneOf on off)
    → HasOne s p (united on off)
all-of s p true on off is = wider s p on (united on off) (λ z i. in-first-set z on off i) is
all-of s p false on off is = wider s p off (united on off) (λ z i. in-second-set z on off i) is

blurred-has : (s : Store) (p : Place) (b c : Bool) (x : Sets) → HasSets s p b x → HasSets s p c (blurred x)
blurred-has s p b c Anything is = tt
blurred-has s p b true (OneOf on off) is = all-of s p b on off is
blurred-has s p b false (OneOf on off) is = all-of s p b on off is

module _ (s v : Store) where
  -- ---- a store

  -- the home changed
  moved-has : (p : Place) (h : Home) (c : Change) (x : Sets) → IsChange s v h.place c → HasSets s p (is_at s h) x
      → HasSets s p (is_at v h) (moved_sets c h.value x)
  moved-has p h changes.Stays x e is =
      subst (λ (b : Bool). HasSets s p b x) (sym (ap (λ (o : Option ℕ). is_number o h.value) e)) is
  moved-has p h changes.Varies x e is = blurred-has s p (is_at s h) (is_at v h) x is
  moved-has p h (changes.Becomes n) Anything e is = tt
  moved-has p h (changes.Becomes n) (OneOf on off) e is =
      at (nat_eq n h.value) (ap (λ (o : Option ℕ). is_number o h.value) e)
    where
      all : HasOne s p (united on off)
      all = all-of s p (is_at s h) on off is

      at : (b : Bool) → is_at v h ≡ b
          → HasSets s p (is_at v h) (cond b (OneOf (united on off) []) (OneOf [] (united on off)))
      at true a = subst (λ (b : Bool). HasOne s p (cond b (united on off) [])) (sym a) all
      at false a = subst (λ (b : Bool). HasOne s p (cond b [] (united on off))) (sym a) all

  -- the place changed
  put-has : (p : Place) (b : Bool) (c : Change) (x : Sets) → IsChange s v p c → HasSets s p b x
      → HasSets v p b (put_sets c x)
  put-has p b changes.Stays Anything e is = tt
  put-has p b changes.Stays (OneOf on off) e is = record {
    number = is.number;
    there = e ∙ is.there;
    among = is.among;
  }
  put-has p b changes.Varies x e is = tt
  put-has p b (changes.Becomes n) Anything e is = at b
    where
      one : HasOne v p (n ∷ [])
      one = record { number = n; there = e; among = in-first n [] }

      at : (b : Bool) → HasOne v p (cond b (n ∷ []) (n ∷ []))
      at true = one
      at false = one
  put-has p b (changes.Becomes n) (OneOf on off) e is = at b is
    where
      one : (xs : List ℕ) → HasOne s p xs → HasOne v p (put_number n xs)
      one [] is = absurd (no-one s p is)
      one (x ∷ xs) is = record { number = n; there = e; among = in-first n [] }

      at : (b : Bool) → HasOne s p (cond b on off) → HasOne v p (cond b (put_number n on) (put_number n off))
      at true is = one on is
      at false is = one off is

  module _ (types : (f : ℕ) → type_at v f ≡ type_at s f) where
    pub rows-stored : (f : ℕ) (e : Written) → ((p : Place) → IsChange s v p (change_at f e p)) → (rs : List Row)
        → HoldRows s rs → HoldRows v (stored_rows f e rs)
    rows-stored f e all [] h = tt
    rows-stored f e all (r ∷ rs) h =
        let moved = change_at f e r.home.place in (
          still-there r.width s v (field_of r.place) (types (field_of r.place)) h.0,
          (
            put-has r.place (is_at v r.home) (change_at f e r.place) (moved_sets moved r.home.value r.sets)
                (all r.place) (moved-has r.place r.home moved r.sets (all r.home.place) h.1.0),
            rows-stored f e all rs h.1.1,
          ),
        )

-- ---- a call

met-has : (s : Store) (p : Place) (b : Bool) (x y : Sets) → HasSets s p b x → HasSets s p b y
    → HasSets s p b (met x y)
met-has s p b Anything y i j = j
met-has s p b (OneOf on off) Anything i j = i
met-has s p b (OneOf on off) (OneOf on' off') i j = at b i j
  where
    some : (x y : ℕ) → Some x ≡ Some y → x ≡ y
    some x y e = cc

    one : (xs ys : List ℕ) → HasOne s p xs → HasOne s p ys → HasOne s p (common xs ys)
    one xs ys i j =
        let e : i.number ≡ j.number = some i.number j.number (sym i.there ∙ j.there) in
        record {
          number = i.number;
          there = i.there;
          among = in-common i.number xs ys i.among (subst (λ (z : ℕ). is_in z ys ≡ true) (sym e) j.among);
        }

    at : (b : Bool) → HasOne s p (cond b on off) → HasOne s p (cond b on' off')
        → HasOne s p (cond b (common on on') (common off off'))
    at true i j = one on on' i j
    at false i j = one off off' i j

module _ (s v : Store) (touched : Place → Bool) (stays : (p : Place) → touched p ≡ false → Stays s v p) where
  -- a place that stays
  same-sets : (p : Place) (b : Bool) (x : Sets) → touched p ≡ false → HasSets s p b x → HasSets v p b x
  same-sets p b Anything t is = tt
  same-sets p b (OneOf on off) t is = record {
    number = is.number;
    there = (stays p t).number ∙ is.there;
    among = is.among;
  }

  -- a home that stays
  same-home : (h : Home) → touched h.place ≡ false → is_at v h ≡ is_at s h
  same-home h t = ap (λ (o : Option ℕ). is_number o h.value) (stays h.place t).number

  framed-has : (p : Place) (g h : Home) (x y : Sets) → HasSets s p (is_at s g) x → HasSets v p (is_at v h) y
      → HasSets v p (is_at v h) (framed_sets (touched p) (touched h.place) (same_home g h) x y)
  framed-has p g h x y i j = at (touched p) (touched h.place) (same_home g h) refl refl refl
    where
      at : (t o e : Bool) → touched p ≡ t → touched h.place ≡ o → same_home g h ≡ e
          → HasSets v p (is_at v h) (framed_sets t o e x y)
      at t o false is moved e = j
      at true o true is moved e = j
      at false true true is moved e =
          met-has v p (is_at v h) (blurred x) y
          (same-sets p (is_at v h) (blurred x) is (blurred-has s p (is_at s g) (is_at v h) x i)) j
      at false false true is moved e =
          let home : is_at s g ≡ is_at v h = same-at s g h e ∙ sym (same-home h moved) in
          met-has v p (is_at v h) x y
          (subst (λ (b : Bool). HasSets v p b x) home (same-sets p (is_at s g) x is i)) j

  unchanged-hold : (a : Row) (rs : List Row)
      → IsThere a.width s (field_of a.place) × HasSets s a.place (is_at s a.home) a.sets → HoldRows v rs
      → HoldRows v (with_unchanged touched a rs)
  unchanged-hold a rs i h = at (touched a.place) refl
    where
      sets : Sets
      sets = cond (touched a.home.place) (blurred a.sets) a.sets

      inner : (b : Bool) → touched a.place ≡ false → touched a.home.place ≡ b
          → HasSets v a.place (is_at v a.home) (cond b (blurred a.sets) a.sets)
      inner true is moved =
          same-sets a.place (is_at v a.home) (blurred a.sets) is
          (blurred-has s a.place (is_at s a.home) (is_at v a.home) a.sets i.1)
      inner false is moved =
          subst (λ (b : Bool). HasSets v a.place b a.sets) (sym (same-home a.home moved))
          (same-sets a.place (is_at s a.home) a.sets is i.1)

      at : (b : Bool) → touched a.place ≡ b → HoldRows v (cond b rs (record a { sets = sets } ∷ rs))
      at true is = h
      at false is = (
        still-there a.width s v (field_of a.place) (stays a.place is).type i.0,
        (inner (touched a.home.place) is refl, h),
      )

  rows-framed : (xs ys : List Row) → HoldRows s xs → HoldRows v ys → HoldRows v (framed_rows touched xs ys)
  rows-framed [] ys i j = j
  rows-framed (x ∷ xs) [] i j =
      unchanged-hold x (framed_rows touched xs []) (i.0, i.1.0) (rows-framed xs [] i.1.1 tt)
  rows-framed (x ∷ xs) (y ∷ ys) i j =
      at (same_row x y) refl (rows-framed xs ys i.1.1 j.1.1) (rows-framed xs (y ∷ ys) i.1.1 j)
    where
      row : Row
      row = record y {
        sets = framed_sets (touched y.place) (touched y.home.place) (same_home x.home y.home) x.sets y.sets;
      }

      at : (b : Bool) → same_row x y ≡ b → HoldRows v (framed_rows touched xs ys)
          → HoldRows v (framed_rows touched xs (y ∷ ys))
          → HoldRows v (cond b (row ∷ framed_rows touched xs ys)
          (with_unchanged touched x (framed_rows touched xs (y ∷ ys))))
      at true e rest skip =
          let has : HasSets s y.place (is_at s x.home) x.sets =
          subst (λ (p : Place). HasSets s p (is_at s x.home) x.sets) (is-row x y e).0 i.1.0 in
          (j.0, (framed-has y.place x.home y.home x.sets y.sets has j.1.0, rest))
      at false e rest skip = unchanged-hold x (framed_rows touched xs (y ∷ ys)) (i.0, i.1.0) skip

  pub framed-holds : (a b : Known) → Hold s a → Hold v b → Hold v (framed touched a b)
  framed-holds Never b i j = absurd i
  framed-holds (Rows xs) Never i j = j
  framed-holds (Rows xs) (Rows ys) i j =
      closed-hold v (steadied touched (framed_rows touched xs ys))
      (settled-hold v (steady_homes touched (framed_rows touched xs ys)) (framed_rows touched xs ys) (rows-framed xs ys i j))

  pub forgotten-holds : (a : Known) → Hold s a → Hold v (forgotten touched a)
  forgotten-holds Never i = absurd i
  forgotten-holds (Rows xs) i = rows-framed xs [] i tt
