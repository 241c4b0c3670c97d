-- What is looked up in a chart's parts, and that it is valid.
use Rattle.std.proofs.Common.{◌≡◌, ℕ, zero, suc, List, [], ◌∷◌, ◌<◌, ◌^◌, length, map, sym, ap, subst, arith}
use Rattle.std.proofs.lemmas.List.{length-map}
use Rattle.std.specs.Prelude.{slice_index_or}
use Rattle.std.specs.List.{AllByRecursion}
use Rattle.checked_chart.specs.Chart.{Chart, node, no_node, junction, junction_count}
use Rattle.checked_chart.specs.Valid.{IsValid, IsNode, AreTrans, IsBlock}

-- what a look-up finds in a list, seen by f
pub found_at : {A B : Type 0} (f : A → B) (xs : List A) (i : ℕ) (x d : A) (e : B)
    → i < length xs → x ≡ slice_index_or xs i d → slice_index_or (map f xs) i e ≡ f x
found_at f [] i x d e lt is = absurd (omega arith)
found_at f (y ∷ xs) zero x d e lt is = ap f (sym is)
found_at f (y ∷ xs) (suc i) x d e lt is = found_at f xs i x d e (omega arith) is

-- what a look-up finds in a list of lists, seen by f and then by g
pub found_twice : {A B C : Type 0} (g : B → C) (f : A → B) (xs : List A) (i : ℕ) (x d : A) (e : C)
    → i < length xs → x ≡ slice_index_or xs i d → slice_index_or (map g (map f xs)) i e ≡ g (f x)
found_twice g f [] i x d e lt is = absurd (omega arith)
found_twice g f (y ∷ xs) zero x d e lt is = ap (λ z. g (f z)) (sym is)
found_twice g f (y ∷ xs) (suc i) x d e lt is = found_twice g f xs i x d e (omega arith) is

-- what all have, the one at a place has, and the default where there is none
pub all_at : {A : Type 0} (P : A → Type 0) (xs : List A) (i : ℕ) (d : A)
    → AllByRecursion P xs → P d → P (slice_index_or xs i d)
all_at P [] i d a h = h
all_at P (x ∷ xs) zero d a h = a.0
all_at P (x ∷ xs) (suc i) d a h = all_at P xs i d a.1 h

-- the empty action is one
pub empty_block : (c : Chart) → IsBlock c []
empty_block c = record { stmts = tt; few = omega arith }

-- what a state does is valid
pub node_valid : (c : Chart) → IsValid c → (s : ℕ) → IsNode c (node c s)
unfolding node no_node
node_valid c v s =
    all_at (IsNode c) c.nodes s no_node v.nodes (record {
      entry = empty_block c;
      during = empty_block c;
      exit = empty_block c;
      outer = tt;
      inner = tt;
      default = tt;
    })

-- the list of a junction is valid
pub junction_valid : (c : Chart) → IsValid c → (j : ℕ) → AreTrans c (junction c j)
unfolding junction
junction_valid c v j = all_at (AreTrans c) c.junctions j [] v.junctions tt

-- the number of junctions fits 32 bits
pub junctions_few : (c : Chart) → IsValid c → junction_count c < 2 ^ 32
junctions_few c v = let few = v.limits.junctions in omega arith

-- a number of the seen list is one of the list
pub within_seen : {A B : Type 0} (f : A → B) (xs : List A) (i : ℕ) → i < length (map f xs) → i < length xs
within_seen f xs i lt = subst (λ n. i < n) (length-map xs f) lt

-- a number of the list seen twice is one of the list
pub within_twice : {A B C : Type 0} (g : B → C) (f : A → B) (xs : List A) (i : ℕ)
    → i < length (map g (map f xs)) → i < length xs
within_twice g f xs i lt = within_seen f xs i (within_seen g (map f xs) i lt)
