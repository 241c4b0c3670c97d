-- Each rule for an `if` keeps how it ends.
use Rattle.std.proofs.Common.{◌≡◌, ℕ, ◌&&◌, not, Bool, true, false, cond, Option, Some, None, refl, sym, ◌∙◌, subst}
use Rattle.c_subset.specs.declared.trees.Width.{Width}
use Rattle.c_subset.specs.Trees.{CExpr, Both}
use Rattle.c_subset.specs.Trees.{Block, End, If}
use Rattle.c_subset.specs.Meaning.{Meaning, Gives, Wrong, with_meaning, truth, is_true, Store, Locals, meaning}
use Rattle.c_subset.specs.Running.{Outcome, Falls, Returns, Starves, GoesWrong, with_value, and_on, Calls, outcome}
use Rattle.c_trees.specs.Blocks.{is_end}
use Rattle.c_trees.proofs.Lists.{end-is}
use Rattle.c_pruned.specs.Tests.{truth_of, negated}
use Rattle.c_pruned.specs.Ends.{always_returns, then_on, followed_by}
use Rattle.c_pruned.specs.Pruned.{only_if, falling_if, flat_if, are_same, tested_if, decided_if}
use Rattle.c_pruned.proofs.Kept.{Kept, kept-itself, kept-on, value-kept}
use Rattle.c_pruned.proofs.Following.{unreached, never-falls, follows, goes-on}
use Rattle.c_pruned.proofs.Opposed.{negates, opposed-kept, known-kept}

both-are : (a b : Bool) → (a && b) ≡ true → (a ≡ true) × (b ≡ true)
both-are true b e = (refl, e)
both-are false b e = absurd cc

-- statements after which nothing stands
falls-on : (o : Outcome) (r : Store → Locals → Outcome) → Kept (and_on (and_on o (λ v m. Falls v m)) r) (and_on o r)
falls-on (Falls s l) r = kept-itself (r s l)
falls-on (Returns s x) r = refl
falls-on Starves r = tt
falls-on GoesWrong r = tt

module _ (int : Width) (d : Calls) (k : ℕ) where
  abbrev ends : Block → Store → Locals → Outcome
  ends a s l = outcome int d k a s l

  -- what an `if` does by the truth of its test
  abbrev by : Block → Block → Block → Store → Locals → Bool → Outcome
  by a b rest s l x = and_on (cond x (ends a s l) (ends b s l)) (λ v m. ends rest v m)

  -- both ends are alike, from each struct and locals
  abbrev pub Alike : Block → Block → Type 0
  Alike a b = (s : Store) (l : Locals) → Kept (outcome int d k a s l) (outcome int d k b s l)

  itself : (a : Block) → Alike a a
  itself a s l = kept-itself (ends a s l)

  -- two tests, as one
  tests-kept : (m n : Meaning) (o p : Outcome) (r : Store → Locals → Outcome)
      → Kept (with_value m (λ x. and_on (cond (is_true x.value)
      (with_value n (λ y. and_on (cond (is_true y.value) o p) (λ v m. Falls v m))) p) r))
      (with_value (with_meaning m (λ x. cond (is_true x.value)
      (with_meaning n (λ y. truth int (is_true y.value))) (truth int false)))
      (λ z. and_on (cond (is_true z.value) o p) r))
  tests-kept Wrong n o p r = tt
  tests-kept (Gives x) n o p r = at (is_true x.value) n
    where
      inner : (c : Bool) → Kept (and_on (and_on (cond c o p) (λ v m. Falls v m)) r)
          (with_value (truth int c) (λ z. and_on (cond (is_true z.value) o p) r))
      inner true = falls-on o r
      inner false = falls-on p r

      at : (b : Bool) (n : Meaning)
          → Kept (and_on (cond b (with_value n (λ y. and_on (cond (is_true y.value) o p) (λ v m. Falls v m))) p) r)
          (with_value (cond b (with_meaning n (λ y. truth int (is_true y.value))) (truth int false))
          (λ z. and_on (cond (is_true z.value) o p) r))
      at true Wrong = tt
      at true (Gives y) = inner (is_true y.value)
      at false n = kept-itself (and_on p r)

  only-kept : (e : CExpr) (a rest : Block) → Alike (If e a End rest) (only_if e a rest)
  unfolding outcome meaning
  only-kept e (If f a b c) rest s l = at (is_end b && is_end c) refl
    where
      at : (x : Bool) → (is_end b && is_end c) ≡ x → Kept (outcome int d k (If e (If f a b c) End rest) s l)
          (outcome int d k (cond x (If (Both e f) a End rest) (If e (If f a b c) End rest)) s l)
      at true h =
          let none = both-are (is_end b) (is_end c) h in
          subst (λ (b : Block). Kept (outcome int d k (If e (If f a b c) End rest) s l)
          (outcome int d k (If (Both e f) a End rest) s l)) (sym (end-is b none.0))
          (subst (λ (c : Block). Kept (outcome int d k (If e (If f a End c) End rest) s l)
          (outcome int d k (If (Both e f) a End rest) s l)) (sym (end-is c none.1))
          (tests-kept (meaning int s l e) (meaning int s l f) (ends a s l) (Falls s l) (λ v m. ends rest v m)))
      at false h = itself (If e (If f a b c) End rest) s l
  only-kept e a rest s l = itself (If e a End rest) s l

  -- both parts change places where the test is turned round
  turned-kept : (e : CExpr) (a b rest : Block) → Alike (If e a b rest) (If (negated e) b a rest)
  unfolding outcome
  turned-kept e a b rest s l =
      opposed-kept (meaning int s l e) (meaning int s l (negated e)) (by a b rest s l) (by b a rest s l)
      (negates int s l e) at
    where
      at : (x : Bool) → Kept (by a b rest s l x) (by b a rest s l (not x))
      at true = kept-itself (by a b rest s l true)
      at false = kept-itself (by a b rest s l false)

  -- a part that always returns stands alone, and the other one after it
  alone-kept : (e : CExpr) (a b rest after : Block) → always_returns a ≡ true
      → ((s : Store) (l : Locals) → Kept (and_on (outcome int d k b s l) (λ v m. outcome int d k rest v m))
      (outcome int d k after s l))
      → Alike (If e a b rest) (If e a End after)
  unfolding outcome
  alone-kept e a b rest after h then_ s l =
      value-kept (meaning int s l e) (λ x. by a b rest s l (is_true x.value))
      (λ x. by a End after s l (is_true x.value)) (λ x. at (is_true x.value))
    where
      at : (x : Bool) → Kept (by a b rest s l x) (by a End after s l x)
      at true =
          unreached (ends a s l) (λ v m. ends rest v m) (λ v m. ends after v m) (never-falls int d k a h s l)
      at false = then_ s l

  falling-kept : (e : CExpr) (a b rest : Block) → Alike (If e a b rest) (falling_if e a b rest)
  falling-kept e a b rest s l = at (is_end a) (is_end b) refl refl
    where
      at : (x y : Bool) → is_end a ≡ x → is_end b ≡ y → Kept (outcome int d k (If e a b rest) s l)
          (outcome int d k (cond x (only_if (negated e) b rest) (cond y (only_if e a rest) (If e a b rest))) s l)
      at true y h i =
          subst (λ (a : Block). Kept (outcome int d k (If e a b rest) s l)
          (outcome int d k (only_if (negated e) b rest) s l)) (sym (end-is a h))
          (kept-on (ends (If e End b rest) s l) (ends (If (negated e) b End rest) s l)
          (ends (only_if (negated e) b rest) s l) (turned-kept e End b rest s l) (only-kept (negated e) b rest s l))
      at false true h i =
          subst (λ (b : Block). Kept (outcome int d k (If e a b rest) s l) (outcome int d k (only_if e a rest) s l))
          (sym (end-is b i)) (only-kept e a rest s l)
      at false false h i = itself (If e a b rest) s l

  flat-kept : (e : CExpr) (a b rest : Block) → Alike (If e a b rest) (flat_if e a b rest)
  flat-kept e a b rest s l = at (always_returns a) (always_returns b) refl refl
    where
      at : (x y : Bool) → always_returns a ≡ x → always_returns b ≡ y → Kept (outcome int d k (If e a b rest) s l)
          (outcome int d k (cond x (only_if e a (then_on b rest))
          (cond y (only_if (negated e) b (followed_by a rest)) (falling_if e a b rest))) s l)
      at true y h i =
          kept-on (ends (If e a b rest) s l) (ends (If e a End (then_on b rest)) s l)
          (ends (only_if e a (then_on b rest)) s l)
          (alone-kept e a b rest (then_on b rest) h (λ s l. goes-on int d k b rest s l) s l)
          (only-kept e a (then_on b rest) s l)
      at false true h i =
          kept-on (ends (If e a b rest) s l) (ends (If (negated e) b a rest) s l)
          (ends (only_if (negated e) b (followed_by a rest)) s l) (turned-kept e a b rest s l)
          (kept-on (ends (If (negated e) b a rest) s l) (ends (If (negated e) b End (followed_by a rest)) s l)
          (ends (only_if (negated e) b (followed_by a rest)) s l)
          (alone-kept (negated e) b a rest (followed_by a rest) i (λ s l. follows int d k a rest s l) s l)
          (only-kept (negated e) b (followed_by a rest) s l))
      at false false h i = falling-kept e a b rest s l

  -- the part that is taken
  taken-kept : (e : CExpr) (a b rest : Block) (s : Store) (l : Locals) (x : Bool) → truth_of e ≡ Some x
      → Kept (outcome int d k (If e a b rest) s l) (outcome int d k (then_on (cond x a b) rest) s l)
  unfolding outcome
  taken-kept e a b rest s l x h =
      known-kept int s l e x (by a b rest s l) (ends (then_on (cond x a b) rest) s l) h (at x)
    where
      at : (x : Bool) → Kept (by a b rest s l x) (ends (then_on (cond x a b) rest) s l)
      at true = goes-on int d k a rest s l
      at false = goes-on int d k b rest s l

  same-are : (a b : Block) → are_same a b ≡ true → b ≡ a
  same-are a b h = let none = both-are (is_end a) (is_end b) h in end-is b none.1 ∙ sym (end-is a none.0)

  -- both parts are the same
  once-kept : (e : CExpr) (a rest : Block) → Alike (If e a a rest) (then_on a rest)
  unfolding outcome
  once-kept e a rest s l = at (meaning int s l e)
    where
      by-it : (x : Bool) → Kept (by a a rest s l x) (ends (then_on a rest) s l)
      by-it true = goes-on int d k a rest s l
      by-it false = goes-on int d k a rest s l

      at : (m : Meaning) → Kept (with_value m (λ x. by a a rest s l (is_true x.value))) (ends (then_on a rest) s l)
      at (Gives x) = by-it (is_true x.value)
      at Wrong = tt

  tested-kept : (e : CExpr) (a b rest : Block) → Alike (If e a b rest) (tested_if e a b rest)
  tested-kept e a b rest s l = at (are_same a b) refl
    where
      at : (x : Bool) → are_same a b ≡ x → Kept (outcome int d k (If e a b rest) s l)
          (outcome int d k (cond x (then_on a rest) (flat_if e a b rest)) s l)
      at true h =
          subst (λ (b : Block). Kept (outcome int d k (If e a b rest) s l) (outcome int d k (then_on a rest) s l))
          (sym (same-are a b h)) (once-kept e a rest s l)
      at false h = flat-kept e a b rest s l

  pub decided-kept : (e : CExpr) (a b rest : Block) → Alike (If e a b rest) (decided_if (truth_of e) e a b rest)
  decided-kept e a b rest s l = at (truth_of e) refl
    where
      at : (o : Option Bool) → truth_of e ≡ o → Kept (outcome int d k (If e a b rest) s l)
          (outcome int d k (decided_if o e a b rest) s l)
      at (Some true) h = taken-kept e a b rest s l true h
      at (Some false) h = taken-kept e a b rest s l false h
      at None h = tested-kept e a b rest s l
