-- What stands in a list, seen by a function.
use Rattle.std.proofs.Common.{◌≡◌, ℕ, zero, suc, ◌+◌, List, [], ◌∷◌, length, map, Option, Some, None, refl, ap, arith}
use Rattle.std.specs.Prelude.{slice_get}
use Rattle.std.specs.List.{last_or}

-- the item that b comes from
pub record Comes {A B : Type 0} (f : A → B) (list : List A) (i : ℕ) (b : B) : Type 0 where
  pub item : A
  pub is : slice_get list i ≡ Some item
  pub same : f item ≡ b

pub from_map : {A B : Type 0} (f : A → B) (list : List A) (i : ℕ) (b : B) → slice_get (map f list) i ≡ Some b
    → Comes f list i b
from_map f [] i b e = absurd cc
from_map f (x ∷ xs) zero b e = record { item = x; is = refl; same = cc }
from_map f (x ∷ xs) (suc i) b e =
    let r = from_map f xs i b e in record { item = r.item; is = r.is; same = r.same }

pub into_map : {A B : Type 0} (f : A → B) (list : List A) (i : ℕ) (a : A) → slice_get list i ≡ Some a
    → slice_get (map f list) i ≡ Some (f a)
into_map f [] i a e = absurd cc
into_map f (x ∷ xs) zero a e = let same : x ≡ a = cc in ap (λ y. Some (f y)) same
into_map f (x ∷ xs) (suc i) a e = into_map f xs i a e

pub map_empty : {A B : Type 0} (f : A → B) (list : List A) → map f list ≡ [] → list ≡ []
map_empty f [] e = refl
map_empty f (x ∷ xs) e = absurd cc

-- the last item is the one at the last place
pub last_get : {A : Type 0} (xs : List A) (o : Option A) (i : ℕ) → i + 1 ≡ length xs → last_or o xs ≡ slice_get xs i
last_get [] o i e = absurd (omega arith)
last_get (x ∷ []) o zero e = refl
last_get (x ∷ []) o (suc i) e = absurd (omega arith)
last_get (x ∷ y ∷ ys) o zero e = absurd (omega arith)
last_get (x ∷ y ∷ ys) o (suc i) e = last_get (y ∷ ys) (Some x) i (omega arith)
