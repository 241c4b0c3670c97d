-- Truth values of sets of locals.
use Rattle.std.proofs.Common.{◌≡◌, ℤ, Bool, true, false, cond, ◌&&◌, ◌||◌, not, Option, Some, refl}

pub left : (a b : Bool) → a ≡ true → (a || b) ≡ true
left true b e = refl
left false b e = absurd cc

pub right : (a b : Bool) → b ≡ true → (a || b) ≡ true
right true b e = refl
right false b e = e

-- a set of locals after one of them is set
pub shape : (a n r : Bool) → (n || r) ≡ true → ((a || (true && n)) || r) ≡ true
shape true n r e = refl
shape false n r e = e

pub put-at : (b a n r : Bool) (z : ℤ) (o p : Option ℤ) (w : ℤ)
    → (((a || (not b && n)) || r) ≡ true → o ≡ Some w → p ≡ Some w) → (n || r) ≡ true → cond b (Some z) o ≡ Some w
    → cond b (Some z) p ≡ Some w
put-at true a n r z o p w h k e = e
put-at false a n r z o p w h k e = h (shape a n r k) e

pub in-first : (a b r : Bool) → a ≡ true → ((a || b) || r) ≡ true
in-first a b r e = left (a || b) r (left a b e)

pub in-rest : (a b r : Bool) → (b || r) ≡ true → ((a || b) || r) ≡ true
in-rest true b r e = refl
in-rest false b r e = e

pub if-first : (x a b n r : Bool) → (a || (n || r)) ≡ true → ((x || (a || (b || n))) || r) ≡ true
if-first true a b n r e = refl
if-first false true b n r e = refl
if-first false false true n r e = refl
if-first false false false n r e = e

pub if-second : (x a b n r : Bool) → (b || (n || r)) ≡ true → ((x || (a || (b || n))) || r) ≡ true
if-second true a b n r e = refl
if-second false true b n r e = refl
if-second false false true n r e = refl
if-second false false false n r e = e

pub while-turn : (x a n r : Bool) → (a || ((x || (a || n)) || r)) ≡ true → ((x || (a || n)) || r) ≡ true
while-turn true a n r e = refl
while-turn false true n r e = refl
while-turn false false n r e = e

pub while-after : (x a n r : Bool) → (n || r) ≡ true → ((x || (a || n)) || r) ≡ true
while-after true a n r e = refl
while-after false true n r e = refl
while-after false false n r e = e

pub put-more : (b : Bool) (z : ℤ) (o p : Option ℤ) (w : ℤ) → (o ≡ Some w → p ≡ Some w) → cond b (Some z) o ≡ Some w
    → cond b (Some z) p ≡ Some w
put-more true z o p w h e = e
put-more false z o p w h e = h e

pub neither : (a b : Bool) → not (a || b) ≡ true → (a ≡ false) × (not b ≡ true)
neither true b e = absurd cc
neither false b e = (refl, e)

pub both : (a b : Bool) → (a && b) ≡ true → (a ≡ true) × (b ≡ true)
both true b e = (refl, e)
both false b e = absurd cc
