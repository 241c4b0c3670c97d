-- What is done with what is known.
use Rattle.std.specs.Prelude.{◌==◌, not, ℕ, zero, suc, Bool, true, false, List, [], ◌∷◌, Option, Some, None, if◌then◌else◌}
use Rattle.std.specs.Int.{bit_at}
use Rattle.c_subset.specs.declared.trees.Width.{Width}
use Rattle.c_subset.specs.Meaning.{bits}
use Rattle.c_facts.specs.Known.{Place, Home, Sets, Anything, OneOf, Row, Known, Never, Rows, field_of, number_in, is_in}
use Rattle.c_facts.specs.declared.known.Place.TheVariants as places
-- what a store puts into a field: that number; its number with the bits of a mask set, or with only those of a mask
-- kept; or something else
pub use Rattle.c_facts.specs.declared.known.Written.{Written}
use Rattle.c_facts.specs.declared.known.Written.TheVariants as writes
-- what becomes of the number at a place: it stays, it becomes that one, or any
pub use Rattle.c_facts.specs.declared.known.Change.{Change}
use Rattle.c_facts.specs.declared.known.Change.TheVariants as changes
-- what a place tells of its home: that it has its number, or not
pub use Rattle.c_facts.specs.declared.known.News.{News}

-- ---- sets of numbers

-- the truth value is that one
abbrev pub agrees : Bool → Bool → Bool
agrees true b = b
agrees false b = not b

-- those that are that number, or those that aren't
abbrev pub kept : Bool → ℕ → List ℕ → List ℕ
kept way c [] = []
kept way c (x ∷ xs) = if agrees way (x == c) then x ∷ kept way c xs else kept way c xs

-- there is one that is that number, or one that isn't
abbrev pub some_agrees : Bool → ℕ → List ℕ → Bool
some_agrees way c [] = false
some_agrees way c (x ∷ xs) = if agrees way (x == c) then true else some_agrees way c xs

-- all of both
abbrev pub united : List ℕ → List ℕ → List ℕ
united xs [] = xs
united xs (y ∷ ys) = if is_in y xs then united xs ys else y ∷ united xs ys

-- those that are in both
abbrev pub common : List ℕ → List ℕ → List ℕ
common [] ys = []
common (x ∷ xs) ys = if is_in x ys then x ∷ common xs ys else common xs ys

-- each of the first ones is one of the second ones
abbrev pub all_in : List ℕ → List ℕ → Bool
all_in [] ys = true
all_in (x ∷ xs) ys = if is_in x ys then all_in xs ys else false

-- ---- places

-- the same place
abbrev pub same_place : Place → Place → Bool
same_place (places.Field f) (places.Field g) = f == g
same_place (places.Field f) (places.Bit g b) = false
same_place (places.Bit f a) (places.Field g) = false
same_place (places.Bit f a) (places.Bit g b) = if f == g then a == b else false

-- the same home
abbrev pub same_home : Home → Home → Bool
same_home g h = if same_place g.place h.place then g.value == h.value else false

-- the same place, of the same type
abbrev pub same_row : Row → Row → Bool
same_row a b = if same_place a.place b.place then bits a.width == bits b.width else false

-- the width of a field of which something is known
abbrev pub width_at : ℕ → List Row → Option Width
width_at f [] = None
width_at f (r ∷ rs) = if field_of r.place == f then Some r.width else width_at f rs

-- it is that width
abbrev pub is_width : Width → Option Width → Bool
is_width w None = false
is_width w (Some v) = bits v == bits w

-- some set of numbers is known of a place
abbrev pub is_known : Sets → Bool
is_known Anything = false
is_known (OneOf on off) = true

-- the field has a number: some set of numbers is known of it, or of a bit of it
abbrev pub is_numbered : ℕ → List Row → Bool
is_numbered f [] = false
is_numbered f (r ∷ rs) =
    if field_of r.place == f then (if is_known r.sets then true else is_numbered f rs) else is_numbered f rs

-- what is known of a place
abbrev pub sets_at : Place → List Row → Sets
sets_at p [] = Anything
sets_at p (r ∷ rs) = if same_place r.place p then r.sets else sets_at p rs

-- ---- a place has a number, or hasn't

-- what is left of both sets
abbrev pub kept_sets : Bool → ℕ → Sets → Sets
kept_sets way c Anything = Anything
kept_sets way c (OneOf on off) = OneOf (kept way c on) (kept way c off)

-- place p has that number, or hasn't
abbrev pub restricted : Bool → ℕ → Place → List Row → List Row
restricted way c p [] = []
restricted way c p (r ∷ rs) =
    (if same_place r.place p then record r { sets = kept_sets way c r.sets } else r) ∷ restricted way c p rs

-- it may be that number, or another one or none
abbrev pub sets_admit : Bool → ℕ → Sets → Bool
sets_admit way c Anything = true
sets_admit way c (OneOf on off) = if some_agrees way c on then true else some_agrees way c off

-- ---- down: a place whose home has its number for sure, or for sure not

-- the home may have its number, or another one or none
abbrev pub lowered_sets : Bool → Bool → Sets → Sets
lowered_sets may other Anything = Anything
lowered_sets may other (OneOf on off) = OneOf (if may then on else []) (if other then off else [])

-- what the sets of a home tell of a place
abbrev pub lowered_row : Sets → Row → Row
lowered_row x r = record r {
  sets = lowered_sets (sets_admit true r.home.value x) (sets_admit false r.home.value x) r.sets;
}

-- what the sets of place p tell of the places whose home it is
abbrev pub lowered : Place → Sets → List Row → List Row
lowered p x [] = []
lowered p x (r ∷ rs) = (if same_place r.home.place p then lowered_row x r else r) ∷ lowered p x rs

-- there are numbers of a case that can't be
abbrev pub are_idle : Bool → List ℕ → Bool
are_idle true xs = false
are_idle false [] = false
are_idle false (x ∷ xs) = true

-- the home tells something new: there are numbers of a case that can't be
abbrev pub are_news : Bool → Bool → Sets → Bool
are_news may other Anything = false
are_news may other (OneOf on off) = if are_idle may on then true else are_idle other off

-- the sets of place p tell something new of a place whose home it is
abbrev pub is_told : Place → Sets → Row → Bool
is_told p x r =
    if same_place r.home.place p
    then are_news (sets_admit true r.home.value x) (sets_admit false r.home.value x) r.sets else false

-- they tell something new of some place
abbrev pub some_told : Place → Sets → List Row → Bool
some_told p x [] = false
some_told p x (r ∷ rs) = if is_told p x r then true else some_told p x rs

-- the places of which they tell something new, and others
abbrev pub told : Place → Sets → List Row → List Place → List Place
told p x [] ps = ps
told p x (r ∷ rs) ps = if is_told p x r then r.place ∷ told p x rs ps else told p x rs ps

-- the places from which it goes on down
abbrev pub told_at : Place → List Row → List Place → List Place
told_at p rs ps = if some_told p (sets_at p rs) rs then told p (sets_at p rs) rs ps else ps

-- what place p tells of the places whose home it is
abbrev pub lowered_at : Place → List Row → List Row
lowered_at p rs = if some_told p (sets_at p rs) rs then lowered p (sets_at p rs) rs else rs

-- down from these places, at most so many times: what each tells of the places whose home it is, and what those then
-- tell
abbrev pub sunk : ℕ → List Place → List Row → List Row
sunk zero ps rs = rs
sunk (suc n) [] rs = rs
sunk (suc n) (p ∷ ps) rs = sunk n (told_at p rs ps) (lowered_at p rs)

-- down from place p
abbrev pub sunk_from : Place → List Row → List Row
sunk_from p rs = sunk 200 (p ∷ []) rs

-- down from each of these places
abbrev pub settled : List Place → List Row → List Row
settled [] rs = rs
settled (p ∷ ps) rs = settled ps (sunk_from p rs)

-- ---- up: where a place has no number for one of both cases, it is the other one

-- whether the home has its number
abbrev pub tells : Sets → Option Bool
tells Anything = None
tells (OneOf [] off) = Some false
tells (OneOf (x ∷ on) []) = Some true
tells (OneOf (x ∷ on) (y ∷ off)) = None

-- news of a home
abbrev pub news_of : Home → Option Bool → Option News
news_of h None = None
news_of h (Some way) = Some (record { home = h; way = way })

-- what place p tells of its home, if that isn't itself
abbrev pub news : Place → List Row → Option News
news p [] = None
news p (r ∷ rs) =
    if same_place r.place p then (if same_place r.home.place p then None else news_of r.home (tells r.sets))
    else news p rs

-- goes on with news
abbrev pub with_news : Option News → List Row → (News → List Row) → List Row
with_news None rs go = rs
with_news (Some n) rs go = go n

-- Up from place p, at most so many times as there are rows of the first kind: what it tells goes down, and then its
-- home is what it tells of it.
abbrev pub climbed : List Row → Place → List Row → List Row
climbed [] p rs = sunk_from p rs
climbed (x ∷ rounds) p rs =
    with_news (news p (sunk_from p rs)) (sunk_from p rs)
    (λ n. climbed rounds n.home.place (restricted n.way n.home.value n.home.place (sunk_from p rs)))

-- ---- no run comes here

-- no number is left
abbrev pub is_empty : Sets → Bool
is_empty Anything = false
is_empty (OneOf [] []) = true
is_empty (OneOf [] (y ∷ off)) = false
is_empty (OneOf (x ∷ on) off) = false

-- no number is left of some place
abbrev pub some_empty : List Row → Bool
some_empty [] = false
some_empty (r ∷ rs) = if is_empty r.sets then true else some_empty rs

-- no run comes here where no number is left of some place
abbrev pub closed : List Row → Known
closed rs = if some_empty rs then Never else Rows rs

-- no run comes here
abbrev pub is_never : Known → Bool
is_never Never = true
is_never (Rows rs) = false

-- place p, whose field has that width, has that number, or hasn't
abbrev pub narrowed : Bool → ℕ → Place → Width → Known → Known
narrowed way c p w Never = Never
narrowed way c p w (Rows rs) =
    if is_width w (width_at (field_of p) rs) then closed (climbed rs p (restricted way c p rs)) else Rows rs

-- ---- both ways

-- sets of one place: all numbers of both, if the homes are the same
abbrev pub joined_sets : Bool → Sets → Sets → Sets
joined_sets false a b = Anything
joined_sets true Anything b = Anything
joined_sets true (OneOf on off) Anything = Anything
joined_sets true (OneOf on off) (OneOf on' off') = OneOf (united on on') (united off off')

-- what is known of the places that stand at the same position in both
abbrev pub joined_rows : List Row → List Row → List Row
joined_rows [] bs = []
joined_rows (a ∷ rs) [] = []
joined_rows (a ∷ rs) (b ∷ bs) =
    if same_row a b then record a { sets = joined_sets (same_home a.home b.home) a.sets b.sets } ∷ joined_rows rs bs
    else joined_rows rs bs

-- what holds if one of both holds
abbrev pub joined : Known → Known → Known
joined Never b = b
joined (Rows rs) Never = Rows rs
joined (Rows rs) (Rows bs) = Rows (joined_rows rs bs)

-- ---- implication

-- sets of one place: the second ones hold where the first ones do
abbrev pub covers_sets : Bool → Sets → Sets → Bool
covers_sets same a Anything = true
covers_sets false a (OneOf on off) = false
covers_sets true Anything (OneOf on off) = false
covers_sets true (OneOf on off) (OneOf on' off') = if all_in on on' then all_in off off' else false

-- the places of the second stand in the first in the same order, and hold by it
abbrev pub covers_rows : List Row → List Row → Bool
covers_rows rs [] = true
covers_rows [] (b ∷ bs) = false
covers_rows (a ∷ rs) (b ∷ bs) =
    if same_row a b then (
    if covers_sets (same_home a.home b.home) a.sets b.sets then covers_rows rs bs else false
    ) else covers_rows rs (b ∷ bs)

-- where the first holds the second does
abbrev pub covers : Known → Known → Bool
covers Never b = true
covers (Rows rs) Never = false
covers (Rows rs) (Rows bs) = covers_rows rs bs

-- ---- a store

-- what becomes of a place of the field that is written
abbrev pub change_of : Written → Place → Change
change_of writes.Other p = changes.Varies
change_of (writes.Number n) p = changes.Becomes (number_in p n)
change_of (writes.SetsBits m) (places.Field f) = changes.Varies
change_of (writes.SetsBits m) (places.Bit f b) = if bit_at m b == 1 then changes.Becomes 1 else changes.Stays
change_of (writes.KeepsBits m) (places.Field f) = changes.Varies
change_of (writes.KeepsBits m) (places.Bit f b) = if bit_at m b == 0 then changes.Becomes 0 else changes.Stays

-- what becomes of a place after field f was written
abbrev pub change_at : ℕ → Written → Place → Change
change_at f e p = if field_of p == f then change_of e p else changes.Stays

-- the sets, whether the home has its number or not
abbrev pub blurred : Sets → Sets
blurred Anything = Anything
blurred (OneOf on off) = OneOf (united on off) (united on off)

-- the sets of a place after that became of its home, which has the number v
abbrev pub moved_sets : Change → ℕ → Sets → Sets
moved_sets changes.Stays v x = x
moved_sets changes.Varies v x = blurred x
moved_sets (changes.Becomes n) v Anything = Anything
moved_sets (changes.Becomes n) v (OneOf on off) =
    if n == v then OneOf (united on off) [] else OneOf [] (united on off)

-- that number, where there was one
abbrev pub put_number : ℕ → List ℕ → List ℕ
put_number n [] = []
put_number n (x ∷ xs) = n ∷ []

-- the sets of a place after that became of it
abbrev pub put_sets : Change → Sets → Sets
put_sets changes.Stays x = x
put_sets changes.Varies x = Anything
put_sets (changes.Becomes n) Anything = OneOf (n ∷ []) (n ∷ [])
put_sets (changes.Becomes n) (OneOf on off) = OneOf (put_number n on) (put_number n off)

-- after field f was written, of one place
abbrev pub stored_row : ℕ → Written → Row → Row
stored_row f e r = record r {
  sets = put_sets (change_at f e r.place) (moved_sets (change_at f e r.home.place) r.home.value r.sets);
}

-- after field f was written
abbrev pub stored_rows : ℕ → Written → List Row → List Row
stored_rows f e [] = []
stored_rows f e (r ∷ rs) = stored_row f e r ∷ stored_rows f e rs

-- the homes of the places of field f of which nothing is known
abbrev pub homes_of_unknown : ℕ → List Row → List Place
homes_of_unknown f [] = []
homes_of_unknown f (r ∷ rs) =
    if (if field_of r.place == f then not (is_known r.sets) else false)
    then r.home.place ∷ homes_of_unknown f rs else homes_of_unknown f rs

-- after field f was written: where nothing was known of a place, its home tells which case can't be
abbrev pub stored_in : ℕ → Written → List Row → List Row
stored_in f e rs = settled (homes_of_unknown f rs) (stored_rows f e rs)

-- ---- a call

-- what both tell of one place
abbrev pub met : Sets → Sets → Sets
met Anything b = b
met (OneOf on off) Anything = OneOf on off
met (OneOf on off) (OneOf on' off') = OneOf (common on on') (common off off')

-- what was known of a place before, where the callee may change it, or its home; and what the callee leaves of it
abbrev pub framed_sets : Bool → Bool → Bool → Sets → Sets → Sets
framed_sets touched moved false a b = b
framed_sets true moved true a b = b
framed_sets false true true a b = met (blurred a) b
framed_sets false false true a b = met a b

module _ (touched : Place → Bool) where
  -- what was known of a place before, if the callee doesn't change it
  abbrev pub with_unchanged : Row → List Row → List Row
  with_unchanged a rest =
      if touched a.place then rest
      else record a { sets = if touched a.home.place then blurred a.sets else a.sets } ∷ rest

  -- what was known of places before, and what the callee leaves of them
  abbrev pub framed_rows : List Row → List Row → List Row
  framed_rows [] bs = bs
  framed_rows (a ∷ rs) [] = with_unchanged a (framed_rows rs [])
  framed_rows (a ∷ rs) (b ∷ bs) =
      if same_row a b then record b {
        sets = framed_sets (touched b.place) (touched b.home.place) (same_home a.home b.home) a.sets b.sets;
      } ∷ framed_rows rs bs else with_unchanged a (framed_rows rs (b ∷ bs))

  -- the homes that don't change, of places that may
  abbrev pub steady_homes : List Row → List Place
  steady_homes [] = []
  steady_homes (r ∷ rs) =
      if (if touched r.place then not (touched r.home.place) else false)
      then r.home.place ∷ steady_homes rs else steady_homes rs

  -- the places that may change are as their homes tell
  abbrev pub steadied : List Row → List Row
  steadied rs = settled (steady_homes rs) rs

  -- after a call that changes no other places, by what the callee leaves
  abbrev pub framed : Known → Known → Known
  framed Never b = Never
  framed (Rows rs) Never = Never
  framed (Rows rs) (Rows bs) = closed (steadied (framed_rows rs bs))

  -- what stays where no other places change
  abbrev pub forgotten : Known → Known
  forgotten Never = Never
  forgotten (Rows rs) = Rows (framed_rows rs [])

-- ---- sets of places

-- the places have something in common: one of them is the other one, or its field
abbrev pub overlaps : Place → Place → Bool
overlaps (places.Field f) q = f == field_of q
overlaps (places.Bit f a) (places.Field g) = f == g
overlaps (places.Bit f a) (places.Bit g b) = if f == g then a == b else false

-- a place may change where these may
abbrev pub is_touched : List Place → Place → Bool
is_touched [] q = false
is_touched (p ∷ ps) q = if overlaps p q then true else is_touched ps q

-- the place is one of these
abbrev pub has_place : List Place → Place → Bool
has_place [] q = false
has_place (p ∷ ps) q = if same_place p q then true else has_place ps q

-- the place is one of these, or its field is
abbrev pub is_covered : List Place → Place → Bool
is_covered ps q = if has_place ps (places.Field (field_of q)) then true else has_place ps q

-- each of the first ones is covered by the second ones
abbrev pub all_covered : List Place → List Place → Bool
all_covered [] ps = true
all_covered (p ∷ qs) ps = if is_covered ps p then all_covered qs ps else false
