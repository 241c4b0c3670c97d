-- Heights bound how many functions are open at once.
use Rattle.std.proofs.Common.{◌≡◌, ◌+◌, ◌^◌, ◌<◌, ◌≤◌, ℕ, zero, suc, ◌||◌, not, nat_lt, Bool, true, false, List, []}
use Rattle.std.proofs.Common.{◌∷◌, length, Some, slice_get, slice_index, slice_index_or, refl, sym, ◌∙◌, subst}
use Rattle.std.proofs.Common.{arith, Option, None}
use Rattle.std.proofs.lemmas.Bool.Decides.{nat_tests}
use Rattle.std.specs.Prelude.{EachIndex, IfSome}
use Rattle.std.specs.List.{list_all}
use Rattle.std.proofs.lemmas.Bool.{and_parts}
use Rattle.c_subset.specs.Trees.{Function}
use Rattle.c_text.specs.Labels.{Labels}
use Rattle.c_header.specs.Header.{calls_number}
use Rattle.c_file.specs.declared.calls.FunctionCall.{FunctionCall}
use Rattle.c_file.specs.declared.known.Uses.{Uses}
use Rattle.c_file.specs.Calls.{call_to, calls_from}
use Rattle.c_file.specs.Reached.{IsFlagged, ReachedFromOutside, ReachedByCall, AreReached}
use Rattle.c_file.specs.Made.{AreUses}
use Rattle.c_file.specs.Heights.{IsCallOf, AreOpenAfter, HasMostOpen, leads_down}
use Rattle.c_file.proofs.ReachLemmas.{none_there, same_item}

-- where all calls lead down, so does each
down_at : (p : FunctionCall → Bool) (calls : List FunctionCall) (i : ℕ) (call : FunctionCall) → list_all p calls ≡ true
    → slice_get calls i ≡ Some call → p call ≡ true
down_at p [] i call all there = absurd (none_there i call there)
down_at p (x ∷ calls) zero call all there =
    subst (λ (y : FunctionCall). p y ≡ true) (same_item x call there) (and_parts (p x) (list_all p calls) all).0
down_at p (x ∷ calls) (suc i) call all there =
    down_at p calls i call (and_parts (p x) (list_all p calls) all).1 there

-- what doesn't hold, or what does
second_of : (a b : Bool) → (not a || b) ≡ true → a ≡ true → b ≡ true
second_of true b either holds = either
second_of false b either holds = absurd (cc holds)

lower_is : (a b : ℕ) → nat_lt a b ≡ true → a < b
lower_is a b test = grind (arith, nat_tests)

module _ (L : Labels) (functions : List Function) (reached : List Bool) (are : AreReached L functions reached)
    (heights : List ℕ) (down : list_all (leads_down reached heights) (calls_from 0 functions) ≡ true) where
  -- a function that is reached is higher than one that it calls, which is reached too
  callee_reached : (f g : ℕ) → IsFlagged reached f → IsCallOf (length functions) (calls_from 0 functions) f g
      → IsFlagged reached g
  callee_reached f g flag call =
      are.complete g (ReachedByCall call.place g (call_to f g) call.there refl call.within (are.sound f flag))

  callee_lower : (f g : ℕ) → IsFlagged reached f → IsCallOf (length functions) (calls_from 0 functions) f g
      → slice_index_or heights g 0 < slice_index_or heights f 0
  callee_lower f g flag call =
      lower_is (slice_index_or heights g 0) (slice_index_or heights f 0)
      (second_of (slice_index_or reached f false) _
      (down_at (leads_down reached heights) (calls_from 0 functions) call.place (call_to f g) down call.there) flag)

  -- so no more are open than its height
  open_below : (f : ℕ) (gs : List ℕ) → IsFlagged reached f
      → AreOpenAfter (length functions) (calls_from 0 functions) f gs → length gs ≤ slice_index_or heights f 0
  open_below f [] flag after = omega arith
  open_below f (g ∷ gs) flag after =
      let rest : length gs ≤ slice_index_or heights g 0 = open_below g gs (callee_reached f g flag after.0) after.1 in
      let lower : slice_index_or heights g 0 < slice_index_or heights f 0 = callee_lower f g flag after.0 in
      omega (arith, rest, lower)

  -- and in all no more than one more than the greatest height
  most_open_are : (most n : ℕ) → ((f : ℕ) → slice_index_or heights f 0 ≤ most) → n ≡ most + 1
      → HasMostOpen L functions n
  most_open_are most n greatest is f gs within outside after =
      let below : length gs ≤ slice_index_or heights f 0 =
      open_below f gs (are.complete f (ReachedFromOutside f within outside)) after in
      let least : slice_index_or heights f 0 ≤ most = greatest f in omega (arith, below, least, is)

-- past the last one there is no height
each_height : (heights : List ℕ) (most : ℕ) → EachIndex heights (λ f. slice_index heights f ≤ most)
    → (f : ℕ) → slice_index_or heights f 0 ≤ most
each_height [] most each f = omega arith
each_height (h ∷ hs) most each zero = each 0 (omega arith)
each_height (h ∷ hs) most each (suc f) = each_height hs most (λ i lt. each (suc i) (omega (arith, lt))) f

-- a number that is told, if it is, fits an `int`
abbrev pub IsTold : ℕ → Option ℕ → Type 0
IsTold n o = IfSome o (λ m. (m ≡ n) × (m < 2 ^ 31))

-- what holds of that number
some_holds : (o : Option ℕ) (n : ℕ) (Q : ℕ → Type 0) → IsTold n o → Q n → IfSome o Q
some_holds None n Q is holds = tt
some_holds (Some m) n Q is holds = subst Q (sym is.0) holds

-- and so does 0, which stands for none
pub few_told : (n : ℕ) (o : Option ℕ) → IsTold n o → calls_number o < 2 ^ 31
few_told n None is = omega arith
few_told n (Some m) is = is.1

-- where heights are found by which all calls lead down, one more than the greatest is the most
pub most_found : (L : Labels) (functions : List Function) (uses : Uses) → AreUses L functions uses
    → (reached : List Bool) (heights : List ℕ) (calls : List FunctionCall) → reached ≡ uses.reached.items
    → calls ≡ uses.calls.items → list_all (leads_down reached heights) calls ≡ true
    → (same : List ℕ) (most : ℕ) → same ≡ heights → EachIndex same (λ f. slice_index same f ≤ most)
    → (o : Option ℕ) → IsTold (most + 1) o → IfSome o (HasMostOpen L functions)
most_found L functions uses are reached heights calls reached_are calls_are down same most same_is each o is =
    some_holds o (most + 1) (HasMostOpen L functions) is
    (most_open_are L functions reached
    (subst (λ (flags : List Bool). AreReached L functions flags) (sym reached_are) are.reached) heights
    (subst (λ (cs : List FunctionCall). list_all (leads_down reached heights) cs ≡ true) (calls_are ∙ are.calls) down)
    most (most + 1)
    (each_height heights most
    (subst (λ (hs : List ℕ). EachIndex hs (λ f. slice_index hs f ≤ most)) same_is each)) refl)
