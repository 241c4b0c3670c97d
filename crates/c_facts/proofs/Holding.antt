-- Where what is known holds.
use Rattle.std.proofs.Common.{◌≡◌, nat_eq, not, ℕ, zero, suc, ℤ, Bool, true, false, cond, List, [], ◌∷◌, Option, Some, None}
use Rattle.std.proofs.Common.{refl, sym, ap, ◌∙◌, subst}
use Rattle.c_subset.specs.declared.trees.Width.{Width}
use Rattle.c_subset.specs.Meaning.{CValue, Store}
use Rattle.c_subset.specs.Running.{with_element}
use Rattle.c_facts.specs.Known.{Place, Home, Sets, Anything, OneOf, Row, Known, Never, Rows, is_in, field_of, number_at}
use Rattle.c_facts.specs.Known.{is_number, is_at, IsThere, HasOne, HasSets, HoldRows, Hold}
use Rattle.c_facts.specs.Facts.{News, agrees, kept, some_agrees, united, all_in, same_place, same_home, same_row}
use Rattle.c_facts.specs.Facts.{width_at, is_width, sets_at, kept_sets, restricted, sets_admit, lowered_sets}
use Rattle.c_facts.specs.Facts.{lowered_row, lowered, some_told, told_at, lowered_at, sunk, sunk_from, settled}
use Rattle.c_facts.specs.Facts.{tells, news_of, news, with_news, climbed, is_empty, some_empty}
use Rattle.c_facts.specs.Facts.{closed, is_never, narrowed, joined_sets, joined_rows, joined, covers_sets, covers_rows}
use Rattle.c_facts.specs.Facts.{covers}
use Rattle.c_facts.proofs.NumberSets.{is-kept, none-agrees, in-first-set, in-second-set, in-all}
use Rattle.c_facts.proofs.PlaceLemmas.{is-place, same-at, is-row, asked-there}

-- ---- what is known speaks of the fields alone

element-rows : (s : Store) (r : ℕ) (n : ℤ) (y : CValue) (rs : List Row) → HoldRows s rs
    → HoldRows (with_element s r n y) rs
element-rows s r n y [] h = tt
element-rows s r n y (x ∷ rs) h =
    (record { value = h.0.value; there = h.0.there }, (sets x.sets h.1.0, element-rows s r n y rs h.1.1))
  where
    sets : (a : Sets) → HasSets s x.place (is_at s x.home) a
        → HasSets (with_element s r n y) x.place (is_at (with_element s r n y) x.home) a
    sets Anything is = tt
    sets (OneOf on off) is = record { number = is.number; there = is.there; among = is.among }

-- an element of an array changes none of them
pub element-keeps : (s : Store) (r : ℕ) (n : ℤ) (y : CValue) (k : Known) → Hold s k → Hold (with_element s r n y) k
element-keeps s r n y Never h = h
element-keeps s r n y (Rows rs) h = element-rows s r n y rs h

-- ---- sets that are wider

-- what is among the first numbers is among the second ones
pub wider : (s : Store) (p : Place) (xs ys : List ℕ) → ((z : ℕ) → is_in z xs ≡ true → is_in z ys ≡ true)
    → HasOne s p xs → HasOne s p ys
wider s p xs ys f is = record { number = is.number; there = is.there; among = f is.number is.among }

-- both sets, one by one
pub by-sets : (s : Store) (p : Place) (b : Bool) (on off on' off' : List ℕ)
    → ((z : ℕ) → is_in z on ≡ true → is_in z on' ≡ true) → ((z : ℕ) → is_in z off ≡ true → is_in z off' ≡ true)
    → HasSets s p b (OneOf on off) → HasSets s p b (OneOf on' off')
by-sets s p true on off on' off' f g is = wider s p on on' f is
by-sets s p false on off on' off' f g is = wider s p off off' g is

-- ---- a place has a number, or hasn't

-- whether a place has that number, if it has one
abbrev pub Tells : Store → Place → Bool → ℕ → Type 0
Tells s p way c = (z : ℕ) → number_at s p ≡ Some z → agrees way (nat_eq z c) ≡ true

kept-has : (s : Store) (p : Place) (b way : Bool) (c : ℕ) (x : Sets) → Tells s p way c → HasSets s p b x
    → HasSets s p b (kept_sets way c x)
kept-has s p b way c Anything t is = tt
kept-has s p b way c (OneOf on off) t is = at b is
  where
    one : (xs : List ℕ) → HasOne s p xs → HasOne s p (kept way c xs)
    one xs is = record {
      number = is.number;
      there = is.there;
      among = is-kept way c is.number xs (t is.number is.there) is.among;
    }

    at : (b : Bool) → HasOne s p (cond b on off) → HasOne s p (cond b (kept way c on) (kept way c off))
    at true is = one on is
    at false is = one off is

pub restricted-hold : (s : Store) (way : Bool) (c : ℕ) (p : Place) (rs : List Row) → Tells s p way c → HoldRows s rs
    → HoldRows s (restricted way c p rs)
restricted-hold s way c p [] t h = tt
restricted-hold s way c p (r ∷ rs) t h = at (same_place r.place p) refl (restricted-hold s way c p rs t h.1.1)
  where
    at : (b : Bool) → same_place r.place p ≡ b → HoldRows s (restricted way c p rs)
        → HoldRows s (cond b (record r { sets = kept_sets way c r.sets }) r ∷ restricted way c p rs)
    at true e rest =
        let t' : Tells s r.place way c = subst (λ (p : Place). Tells s p way c) (sym (is-place r.place p e)) t in
        (h.0, (kept-has s r.place (is_at s r.home) way c r.sets t' h.1.0, rest))
    at false e rest = (h.0, (h.1.0, rest))

-- ---- what is known of a place

-- some home for which it holds
pub record Found (s : Store) (p : Place) (x : Sets) : Type 0 where
  pub on_home : Bool
  pub has : HasSets s p on_home x

pub at-place : (s : Store) (p : Place) (rs : List Row) → HoldRows s rs → Found s p (sets_at p rs)
at-place s p [] h = record { on_home = true; has = tt }
at-place s p (r ∷ rs) h = at (same_place r.place p) refl (at-place s p rs h.1.1)
  where
    at : (b : Bool) → same_place r.place p ≡ b → Found s p (sets_at p rs) → Found s p (cond b r.sets (sets_at p rs))
    at true e rest = record {
      on_home = is_at s r.home;
      has = subst (λ (p : Place). HasSets s p (is_at s r.home) r.sets) (is-place r.place p e) h.1.0;
    }
    at false e rest = rest

-- where it isn't admitted, the place has a number, of which it isn't so
not-admitted : (s : Store) (p : Place) (way : Bool) (c : ℕ) (x : Sets) → Found s p x → sets_admit way c x ≡ false
    → (z : ℕ) × (number_at s p ≡ Some z) × (agrees way (nat_eq z c) ≡ false)
not-admitted s p way c Anything f n = absurd cc
not-admitted s p way c (OneOf on off) f n = at f.on_home f.has
  where
    Answer : Type 0
    Answer = (z : ℕ) × (number_at s p ≡ Some z) × (agrees way (nat_eq z c) ≡ false)

    parts : (a b : Bool) → cond a true b ≡ false → (a ≡ false) × (b ≡ false)
    parts true b e = absurd cc
    parts false b e = (refl, e)

    one : (xs : List ℕ) → some_agrees way c xs ≡ false → HasOne s p xs
        → (z : ℕ) × (number_at s p ≡ Some z) × (agrees way (nat_eq z c) ≡ false)
    one xs n is = (is.number, is.there, none-agrees way c is.number xs n is.among)

    at : (b : Bool) → HasOne s p (cond b on off)
        → (z : ℕ) × (number_at s p ≡ Some z) × (agrees way (nat_eq z c) ≡ false)
    at true is = one on (parts (some_agrees way c on) (some_agrees way c off) n).0 is
    at false is = one off (parts (some_agrees way c on) (some_agrees way c off) n).1 is

-- ---- down

at-number : (o : Option ℕ) (z v : ℕ) → o ≡ Some z → is_number o v ≡ nat_eq z v
at-number o z v e = ap (λ (o : Option ℕ). is_number o v) e

not-of : (b : Bool) → not b ≡ false → b ≡ true
not-of true e = refl
not-of false e = absurd cc

lowered-has : (s : Store) (p : Place) (b may other : Bool) (x : Sets) → (may ≡ false → b ≡ false)
    → (other ≡ false → b ≡ true) → HasSets s p b x → HasSets s p b (lowered_sets may other x)
lowered-has s p b may other Anything n m is = tt
lowered-has s p b may other (OneOf on off) n m is = at b n m is
  where
    first : (may : Bool) → (may ≡ false → true ≡ false) → HasOne s p on → HasOne s p (cond may on [])
    first true n is = is
    first false n is = absurd (impossible (n refl))
      where
        impossible : true ≡ false → ⊥
        impossible e = absurd cc

    second : (other : Bool) → (other ≡ false → false ≡ true) → HasOne s p off → HasOne s p (cond other off [])
    second true m is = is
    second false m is = absurd (impossible (m refl))
      where
        impossible : false ≡ true → ⊥
        impossible e = absurd cc

    at : (b : Bool) → (may ≡ false → b ≡ false) → (other ≡ false → b ≡ true) → HasOne s p (cond b on off)
        → HasOne s p (cond b (cond may on []) (cond other off []))
    at true n m is = first may n is
    at false n m is = second other m is

pub lowered-hold : (s : Store) (p : Place) (x : Sets) (rs : List Row) → Found s p x → HoldRows s rs
    → HoldRows s (lowered p x rs)
lowered-hold s p x [] f h = tt
lowered-hold s p x (r ∷ rs) f h = at (same_place r.home.place p) refl (lowered-hold s p x rs f h.1.1)
  where
    v : ℕ
    v = r.home.value

    at : (b : Bool) → same_place r.home.place p ≡ b → HoldRows s (lowered p x rs)
        → HoldRows s (cond b (lowered_row x r) r ∷ lowered p x rs)
    at true e rest = (
      h.0,
      (
        lowered-has s r.place (is_at s r.home) (sets_admit true v x) (sets_admit false v x) r.sets isnt is h.1.0,
        rest,
      ),
    )
      where
        home : number_at s r.home.place ≡ number_at s p
        home = ap (number_at s) (is-place r.home.place p e)

        isnt : sets_admit true v x ≡ false → is_at s r.home ≡ false
        isnt n =
            let (z, there, isnt) = not-admitted s p true v x f n in
            at-number (number_at s r.home.place) z v (home ∙ there) ∙ isnt

        is : sets_admit false v x ≡ false → is_at s r.home ≡ true
        is n =
            let (z, there, isnt) = not-admitted s p false v x f n in
            at-number (number_at s r.home.place) z v (home ∙ there) ∙ not-of (nat_eq z v) isnt
    at false e rest = (h.0, (h.1.0, rest))

-- ---- up

-- whether the home has its number tells what the number at its place is
home-tells : (s : Store) (h : Home) (b : Bool) → is_at s h ≡ b → Tells s h.place b h.value
home-tells s h true e z there = sym (at-number (number_at s h.place) z h.value there) ∙ e
home-tells s h false e z there = ap not (sym (at-number (number_at s h.place) z h.value there) ∙ e)

pub no-one : (s : Store) (p : Place) → HasOne s p [] → ⊥
no-one s p is = impossible is.among
  where
    impossible : false ≡ true → ⊥
    impossible e = absurd cc

told-at : (s : Store) (p : Place) (b : Bool) (x : Sets) (way : Bool) → HasSets s p b x → tells x ≡ Some way → b ≡ way
told-at s p b Anything way is e = absurd cc
told-at s p true (OneOf [] off) way is e = absurd (no-one s p is)
told-at s p false (OneOf [] off) way is e = some e
  where
    some : Some false ≡ Some way → false ≡ way
    some e = cc
told-at s p true (OneOf (x ∷ on) []) way is e = some e
  where
    some : Some true ≡ Some way → true ≡ way
    some e = cc
told-at s p false (OneOf (x ∷ on) []) way is e = absurd (no-one s p is)
told-at s p b (OneOf (x ∷ on) (y ∷ off)) way is e = absurd cc

news-are : (s : Store) (p : Place) (rs : List Row) (n : News) → HoldRows s rs → news p rs ≡ Some n
    → is_at s n.home ≡ n.way
news-are s p [] n h e = absurd cc
news-are s p (r ∷ rs) n h e =
    at (same_place r.place p) (same_place r.home.place p) e (λ e. news-are s p rs n h.1.1 e)
  where
    told : (o : Option Bool) → tells r.sets ≡ o → news_of r.home o ≡ Some n → is_at s n.home ≡ n.way
    told None t e = absurd cc
    told (Some way) t e =
        let is : record { home = r.home; way = way } ≡ n = some e in
        subst (λ (n : News). is_at s n.home ≡ n.way) is (told-at s r.place (is_at s r.home) r.sets way h.1.0 t)
      where
        some : Some (record { home = r.home; way = way }) ≡ Some n → record { home = r.home; way = way } ≡ n
        some e = cc

    at : (a b : Bool) → cond a (cond b None (news_of r.home (tells r.sets))) (news p rs) ≡ Some n
        → (news p rs ≡ Some n → is_at s n.home ≡ n.way) → is_at s n.home ≡ n.way
    at true true e rest = absurd cc
    at true false e rest = told (tells r.sets) refl e
    at false b e rest = rest e

-- ---- down from place to place

lowered-at-hold : (s : Store) (p : Place) (rs : List Row) → HoldRows s rs → HoldRows s (lowered_at p rs)
lowered-at-hold s p rs h = at (some_told p (sets_at p rs) rs)
  where
    at : (b : Bool) → HoldRows s (cond b (lowered p (sets_at p rs) rs) rs)
    at true = lowered-hold s p (sets_at p rs) rs (at-place s p rs h) h
    at false = h

sunk-hold : (s : Store) (n : ℕ) (ps : List Place) (rs : List Row) → HoldRows s rs → HoldRows s (sunk n ps rs)
sunk-hold s zero ps rs h = h
sunk-hold s (suc n) [] rs h = h
sunk-hold s (suc n) (p ∷ ps) rs h = sunk-hold s n (told_at p rs ps) (lowered_at p rs) (lowered-at-hold s p rs h)

pub sunk-from-hold : (s : Store) (p : Place) (rs : List Row) → HoldRows s rs → HoldRows s (sunk_from p rs)
sunk-from-hold s p rs h = sunk-hold s 200 (p ∷ []) rs h

pub settled-hold : (s : Store) (ps : List Place) (rs : List Row) → HoldRows s rs → HoldRows s (settled ps rs)
settled-hold s [] rs h = h
settled-hold s (p ∷ ps) rs h = settled-hold s ps (sunk_from p rs) (sunk-from-hold s p rs h)

pub climbed-hold : (s : Store) (rounds : List Row) (p : Place) (rs : List Row) → HoldRows s rs
    → HoldRows s (climbed rounds p rs)
climbed-hold s [] p rs h = sunk-from-hold s p rs h
climbed-hold s (x ∷ rounds) p rs h =
    let low = sunk_from p rs in
    let holds : HoldRows s low = sunk-from-hold s p rs h in
    at low holds (news p low) refl (λ q ys h. climbed-hold s rounds q ys h)
  where
    at : (low : List Row) → HoldRows s low → (o : Option News) → news p low ≡ o
        → ((q : Place) (ys : List Row) → HoldRows s ys → HoldRows s (climbed rounds q ys))
        → HoldRows s (with_news o low
        (λ n. climbed rounds n.home.place (restricted n.way n.home.value n.home.place low)))
    at low holds None e rest = holds
    at low holds (Some n) e rest =
        rest n.home.place (restricted n.way n.home.value n.home.place low)
        (restricted-hold s n.way n.home.value n.home.place low
        (home-tells s n.home n.way (news-are s p low n holds e)) holds)

-- ---- no run comes here

empty-has : (s : Store) (p : Place) (b : Bool) (x : Sets) → is_empty x ≡ true → HasSets s p b x → ⊥
empty-has s p b Anything e is = absurd cc
empty-has s p true (OneOf [] []) e is = no-one s p is
empty-has s p false (OneOf [] []) e is = no-one s p is
empty-has s p b (OneOf [] (y ∷ off)) e is = absurd cc
empty-has s p b (OneOf (x ∷ on) off) e is = absurd cc

empty-holds : (s : Store) (rs : List Row) → some_empty rs ≡ true → HoldRows s rs → ⊥
empty-holds s [] e h = absurd cc
empty-holds s (r ∷ rs) e h = at (is_empty r.sets) refl e (λ e. empty-holds s rs e h.1.1)
  where
    at : (b : Bool) → is_empty r.sets ≡ b → cond b true (some_empty rs) ≡ true → (some_empty rs ≡ true → ⊥) → ⊥
    at true is e rest = empty-has s r.place (is_at s r.home) r.sets is h.1.0
    at false is e rest = rest e

pub closed-hold : (s : Store) (rs : List Row) → HoldRows s rs → Hold s (closed rs)
closed-hold s rs h = at (some_empty rs) refl
  where
    at : (b : Bool) → some_empty rs ≡ b → Hold s (cond b Never (Rows rs))
    at true e = empty-holds s rs e h
    at false e = h

pub never-holds : (s : Store) (k : Known) → is_never k ≡ true → Hold s k → ⊥
never-holds s Never e h = h
never-holds s (Rows rs) e h = absurd cc

-- whether a place has that number needs to be told of a field of that width only
pub narrowed-hold : (s : Store) (way : Bool) (c : ℕ) (p : Place) (w : Width) (k : Known)
    → (IsThere w s (field_of p) → Tells s p way c) → Hold s k → Hold s (narrowed way c p w k)
narrowed-hold s way c p w Never t h = h
narrowed-hold s way c p w (Rows rs) t h = at (is_width w (width_at (field_of p) rs)) refl
  where
    at : (b : Bool) → is_width w (width_at (field_of p) rs) ≡ b
        → Hold s (cond b (closed (climbed rs p (restricted way c p rs))) (Rows rs))
    at true e =
        closed-hold s (climbed rs p (restricted way c p rs))
        (climbed-hold s rs p (restricted way c p rs)
        (restricted-hold s way c p rs (t (asked-there s w (field_of p) rs e h)) h))
    at false e = h

-- ---- both ways

joined-first : (s : Store) (p : Place) (at b : Bool) (x y : Sets) → HasSets s p at x
    → HasSets s p at (joined_sets b x y)
joined-first s p at false x y is = tt
joined-first s p at true Anything y is = tt
joined-first s p at true (OneOf on off) Anything is = tt
joined-first s p at true (OneOf on off) (OneOf on' off') is =
    by-sets s p at on off (united on on') (united off off') (λ z i. in-first-set z on on' i)
    (λ z i. in-first-set z off off' i) is

joined-second : (s : Store) (p : Place) (at here b : Bool) (x y : Sets) → (b ≡ true → here ≡ at) → HasSets s p at y
    → HasSets s p here (joined_sets b x y)
joined-second s p at here false x y a is = tt
joined-second s p at here true Anything y a is = tt
joined-second s p at here true (OneOf on off) Anything a is = tt
joined-second s p at here true (OneOf on off) (OneOf on' off') a is =
    subst (λ (b : Bool). HasSets s p b (OneOf (united on on') (united off off'))) (sym (a refl))
    (by-sets s p at on' off' (united on on') (united off off') (λ z i. in-second-set z on on' i)
    (λ z i. in-second-set z off off' i) is)

rows-first : (s : Store) (xs ys : List Row) → HoldRows s xs → HoldRows s (joined_rows xs ys)
rows-first s [] ys h = tt
rows-first s (x ∷ xs) [] h = tt
rows-first s (x ∷ xs) (y ∷ ys) h = at (same_row x y) (rows-first s xs ys h.1.1)
  where
    row : Row
    row = record x { sets = joined_sets (same_home x.home y.home) x.sets y.sets }

    at : (b : Bool) → HoldRows s (joined_rows xs ys)
        → HoldRows s (cond b (row ∷ joined_rows xs ys) (joined_rows xs ys))
    at true rest =
        (h.0, (joined-first s x.place (is_at s x.home) (same_home x.home y.home) x.sets y.sets h.1.0, rest))
    at false rest = rest

rows-second : (s : Store) (xs ys : List Row) → HoldRows s ys → HoldRows s (joined_rows xs ys)
rows-second s [] ys h = tt
rows-second s (x ∷ xs) [] h = tt
rows-second s (x ∷ xs) (y ∷ ys) h = at (same_row x y) refl (rows-second s xs ys h.1.1)
  where
    row : Row
    row = record x { sets = joined_sets (same_home x.home y.home) x.sets y.sets }

    at : (b : Bool) → same_row x y ≡ b → HoldRows s (joined_rows xs ys)
        → HoldRows s (cond b (row ∷ joined_rows xs ys) (joined_rows xs ys))
    at true e rest =
        let is = is-row x y e in
        let there : IsThere x.width s (field_of x.place) =
        subst (λ (w : Width). IsThere w s (field_of x.place)) (sym is.1)
        (subst (λ (p : Place). IsThere y.width s (field_of p)) (sym is.0) h.0) in
        let has : HasSets s x.place (is_at s y.home) y.sets =
        subst (λ (p : Place). HasSets s p (is_at s y.home) y.sets) (sym is.0) h.1.0 in (
          there,
          (
            joined-second s x.place (is_at s y.home) (is_at s x.home) (same_home x.home y.home) x.sets y.sets
                (λ e. same-at s x.home y.home e) has,
            rest,
          ),
        )
    at false e rest = rest

pub joined-holds-first : (s : Store) (a b : Known) → Hold s a → Hold s (joined a b)
joined-holds-first s Never b h = absurd h
joined-holds-first s (Rows xs) Never h = h
joined-holds-first s (Rows xs) (Rows ys) h = rows-first s xs ys h

pub joined-holds-second : (s : Store) (a b : Known) → Hold s b → Hold s (joined a b)
joined-holds-second s Never b h = h
joined-holds-second s (Rows xs) Never h = absurd h
joined-holds-second s (Rows xs) (Rows ys) h = rows-second s xs ys h

-- ---- implication

parts : (a b : Bool) → cond a b false ≡ true → (a ≡ true) × (b ≡ true)
parts true b e = (refl, e)
parts false b e = absurd cc

covers-has : (s : Store) (p : Place) (at here b : Bool) (x y : Sets) → (b ≡ true → at ≡ here)
    → covers_sets b x y ≡ true → HasSets s p at x → HasSets s p here y
covers-has s p at here b x Anything a e is = tt
covers-has s p at here false x (OneOf on off) a e is = absurd cc
covers-has s p at here true Anything (OneOf on off) a e is = absurd cc
covers-has s p at here true (OneOf on off) (OneOf on' off') a e is =
    let both = parts (all_in on on') (all_in off off') e in
    subst (λ (b : Bool). HasSets s p b (OneOf on' off')) (a refl)
    (by-sets s p at on off on' off' (λ z i. in-all z on on' both.0 i) (λ z i. in-all z off off' both.1 i) is)

covers-rows : (s : Store) (xs ys : List Row) → covers_rows xs ys ≡ true → HoldRows s xs → HoldRows s ys
covers-rows s xs [] e h = tt
covers-rows s [] (y ∷ ys) e h = absurd cc
covers-rows s (x ∷ xs) (y ∷ ys) e h =
    at (same_row x y) refl e (λ e. covers-rows s xs ys e h.1.1) (λ e. covers-rows s xs (y ∷ ys) e h.1.1)
  where
    same : Bool
    same = same_home x.home y.home

    at : (b : Bool) → same_row x y ≡ b
        → cond b (cond (covers_sets same x.sets y.sets) (covers_rows xs ys) false) (covers_rows xs (y ∷ ys)) ≡ true
        → (covers_rows xs ys ≡ true → HoldRows s ys) → (covers_rows xs (y ∷ ys) ≡ true → HoldRows s (y ∷ ys))
        → HoldRows s (y ∷ ys)
    at true i e rest skip =
        let is = is-row x y i in
        let both = parts (covers_sets same x.sets y.sets) (covers_rows xs ys) e in
        let there : IsThere y.width s (field_of y.place) =
        subst (λ (w : Width). IsThere w s (field_of y.place)) is.1
        (subst (λ (p : Place). IsThere x.width s (field_of p)) is.0 h.0) in
        let has : HasSets s y.place (is_at s x.home) x.sets =
        subst (λ (p : Place). HasSets s p (is_at s x.home) x.sets) is.0 h.1.0 in (
          there,
          (
            covers-has s y.place (is_at s x.home) (is_at s y.home) same x.sets y.sets
                (λ e. same-at s x.home y.home e) both.0 has,
            rest both.1,
          ),
        )
    at false i e rest skip = skip e

pub covers-holds : (s : Store) (a b : Known) → covers a b ≡ true → Hold s a → Hold s b
covers-holds s Never b e h = absurd h
covers-holds s (Rows xs) Never e h = absurd cc
covers-holds s (Rows xs) (Rows ys) e h = covers-rows s xs ys e h
