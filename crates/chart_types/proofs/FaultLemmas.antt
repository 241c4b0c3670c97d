-- The first fault of parts of a chart, one part after the other.
use Rattle.std.proofs.Common.{◌≡◌, ℕ, ◌+◌, ◌<◌, ◌≤◌, List, [], ◌∷◌, map, drop, get_or, length, Option}
use Rattle.std.proofs.Common.{refl, sym, ap, ◌∙◌, subst}
use Rattle.std.specs.List.{flat_map, AllByRecursion}
use Rattle.std.proofs.lemmas.List.{drop_more, drop_all}
use Rattle.std.proofs.lemmas.Grind.{common_steps}
use Rattle.token_grammar.specs.declared.token.Span.{Span}
use Rattle.actions.specs.declared.names.Var.{Var}
use Rattle.actions.specs.Sorts.{Scope, sort_of, with_sort, binary_sort}
use Rattle.chart_tree.specs.declared.first.FaultAt.{FaultAt}
use Rattle.chart_tree.specs.declared.expr.UnWord.{UnWord}
use Rattle.chart_tree.specs.declared.expr.UnWord.TheVariants as unary
use Rattle.chart_tree.specs.declared.expr.BinWord.{BinWord}
use Rattle.chart_tree.specs.declared.sort.InitText.{InitText}
use Rattle.resolved_tree.specs.Faults.{first_with}
use Rattle.resolved_tree.specs.Plain.{op_of}
use Rattle.resolved_tree.specs.Promise.{IsInit}
use Rattle.resolved_tree.specs.Resolved.{Expr, Unary, Binary}
use Rattle.resolved_tree.proofs.FirstLemmas.{first_with_both}
use Rattle.chart_types.specs.Types.{sort_at, unary_sort, init_faults, inits_faults}

-- no faults leave what was found
pub first_with_none : (found : Option FaultAt) → first_with found [] ≡ found
unfolding first_with
first_with_none found = refl

-- what was found with the faults of one part after those of another
pub ruleset steps = (common_steps, first_with_both, first_with_none)

-- ---- expressions

-- the sort of an operator with one operand
pub sort_at_unary : (c : Scope) (word : UnWord) (e : Expr) (at : Span)
    → sort_at c (Unary word e at) ≡ with_sort (sort_at c e) (unary_sort word)
unfolding sort_of
sort_at_unary c unary.Neg e at = refl
sort_at_unary c unary.Not e at = refl

-- the sort of an operator with two operands
pub sort_at_binary : (c : Scope) (word : BinWord) (l r : Expr) (at : Span)
    → sort_at c (Binary word l r at)
    ≡ with_sort (sort_at c l) (λ a. with_sort (sort_at c r) (binary_sort (op_of word) a))
unfolding sort_of
sort_at_binary c word l r at = refl

-- the sort and the faults of an expression
pub ruleset expr_steps = (steps, sort_at_unary, sort_at_binary)

-- ---- lists

-- the items that are left have the property, and what was found with their faults is what is found with all
pub record IsLeft {X Y : Type 0} (P : Y → Type 0) (f : X → Y) (faults : Y → List FaultAt) (found : Option FaultAt)
    (xs : List X) (i : ℕ) (first : Option FaultAt) : Type 0 where
  pub all : AllByRecursion P (map f (drop i xs))
  pub same : first_with first (flat_map faults (map f (drop i xs))) ≡ first_with found (flat_map faults (map f xs))

module _ {X Y : Type 0} (P : Y → Type 0) (f : X → Y) (faults : Y → List FaultAt) (found : Option FaultAt)
    (xs : List X) where
  -- at first all items are left
  pub left_at_first : AllByRecursion P (map f xs) → IsLeft P f faults found xs 0 found
  left_at_first all = record { all = all; same = refl }

  -- the next item has the property
  pub left_next : (i : ℕ) (first : Option FaultAt) (x : X) → i < length xs → x ≡ get_or xs i x
      → IsLeft P f faults found xs i first → P (f x)
  left_next i first x within is left =
      subst (λ y. P (f y)) (sym is)
      (subst (λ ys. AllByRecursion P (map f ys)) (drop_more xs i x within) left.all).0

  -- the items after it are left once its faults were looked at
  pub left_later : (i : ℕ) (first next : Option FaultAt) (x : X) → i < length xs → x ≡ get_or xs i x
      → next ≡ first_with first (faults (f x)) → IsLeft P f faults found xs i first
      → IsLeft P f faults found xs (i + 1) next
  left_later i first next x within is new left = record {
    all = (subst (λ ys. AllByRecursion P (map f ys)) (drop_more xs i x within) left.all).1;
    same =
        ap (λ o. first_with o (rest (drop (i + 1) xs))) (new ∙ ap (λ y. first_with first (faults (f y))) is)
        ∙ sym (first_with_both first (faults (f (get_or xs i x))) (rest (drop (i + 1) xs)))
        ∙ sym (ap (λ ys. first_with first (rest ys)) (drop_more xs i x within))
        ∙ left.same;
  }
    where
      rest : List X → List FaultAt
      rest ys = flat_map faults (map f ys)

  -- where no item is left, what was found is what is found with all
  pub left_none : (i : ℕ) (first : Option FaultAt) → length xs ≤ i → IsLeft P f faults found xs i first
      → first ≡ first_with found (flat_map faults (map f xs))
  left_none i first past left =
      sym (first_with_none first)
      ∙ sym (ap (λ ys. first_with first (flat_map faults (map f ys))) (drop_all i xs past))
      ∙ left.same

-- ---- first values

-- the first values that are left denote numbers, and what was found with their faults is what is found with all
pub record InitsLeft (found : Option FaultAt) (vars : List Var) (inits : List InitText) (i : ℕ)
    (first : Option FaultAt) : Type 0 where
  pub all : AllByRecursion IsInit (drop i inits)
  pub same : first_with first (inits_faults (drop i vars) (drop i inits)) ≡ first_with found (inits_faults vars inits)

module _ (found : Option FaultAt) (vars : List Var) (inits : List InitText) where
  -- at first all first values are left
  pub inits_at_first : AllByRecursion IsInit inits → InitsLeft found vars inits 0 found
  inits_at_first all = record { all = all; same = refl }

  -- the next first value denotes a number
  pub inits_next : (i : ℕ) (first : Option FaultAt) (d : InitText) → i < length inits
      → InitsLeft found vars inits i first → IsInit (get_or inits i d)
  inits_next i first d within left = (subst (AllByRecursion IsInit) (drop_more inits i d within) left.all).0

  -- the first values after it are left once its faults were looked at
  pub inits_later : (i : ℕ) (first next : Option FaultAt) (v : Var) (d : InitText) → i < length vars
      → i < length inits → next ≡ first_with first (init_faults (get_or vars i v).sort (get_or inits i d))
      → InitsLeft found vars inits i first → InitsLeft found vars inits (i + 1) next
  inits_later i first next v d within inner new left = record {
    all = (subst (AllByRecursion IsInit) (drop_more inits i d inner) left.all).1;
    same =
        ap (λ o. first_with o (inits_faults (drop (i + 1) vars) (drop (i + 1) inits))) new
        ∙ sym (first_with_both first (init_faults (get_or vars i v).sort (get_or inits i d))
        (inits_faults (drop (i + 1) vars) (drop (i + 1) inits)))
        ∙ sym (ap (λ vs. first_with first (inits_faults vs (get_or inits i d ∷ drop (i + 1) inits)))
        (drop_more vars i v within))
        ∙ sym (ap (λ is. first_with first (inits_faults (drop i vars) is)) (drop_more inits i d inner))
        ∙ left.same;
  }

  -- where no datum is left, what was found is what is found with all
  pub inits_none : (i : ℕ) (first : Option FaultAt) → length vars ≤ i → InitsLeft found vars inits i first
      → first ≡ first_with found (inits_faults vars inits)
  inits_none i first past left =
      sym (first_with_none first)
      ∙ sym (ap (λ vs. first_with first (inits_faults vs (drop i inits))) (drop_all i vars past))
      ∙ left.same
