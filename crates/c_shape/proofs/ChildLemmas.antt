-- The test that no bit of a child is set, made from the first child to the last.
use Rattle.std.proofs.Common.{◌≡◌, ℕ, Option, Some, None, sym, ap, ◌∙◌}
use Rattle.active_config.specs.Tree.{Tree, IsTree, first_child, next_sibling, children_of, children_from}
use Rattle.active_config.proofs.SiblingLemmas.{children_of-from}
use Rattle.checked_chart.proofs.Walks.{Stands, stands_first, stands_next, from_none, from_some}
use Rattle.c_subset.specs.Trees.{CExpr, Both, Bang}
use Rattle.c_functions.specs.Layout.{Layout, bit_test, and_no_bits}

-- the children before where the walk stands are tested after a first test
pub record TestsBefore (L : Layout) (t : Tree) (s : ℕ) (first : CExpr) (o : Option ℕ) (e : CExpr) : Type 0 where
  pub stands : Stands t s o
  pub tests : and_no_bits L first (children_of t s) ≡ and_no_bits L e (children_from t s o)

-- where a walk begins, none is tested
pub tests_start : (L : Layout) (t : Tree) (s : ℕ) (first : CExpr) (o : Option ℕ) (e : CExpr) → IsTree t
    → o ≡ first_child t s → e ≡ first → TestsBefore L t s first o e
tests_start L t s first o e tree is same = record {
  stands = stands_first t tree s o is;
  tests =
      ap (λ z. and_no_bits L z (children_of t s)) (sym same)
      ∙ ap (and_no_bits L e) (children_of-from t s ∙ ap (children_from t s) (sym is));
}

-- one more child is tested
pub tests_more : (L : Layout) (t : Tree) (s x : ℕ) (first : CExpr) (o after : Option ℕ) (e new : CExpr) → IsTree t
    → o ≡ Some x → TestsBefore L t s first o e → after ≡ next_sibling t x → new ≡ Both e (Bang (bit_test L x))
    → TestsBefore L t s first after new
tests_more L t s x first o after e new tree is so_far next made = record {
  stands = stands_next t tree s x o after is so_far.stands next;
  tests =
      so_far.tests ∙ ap (and_no_bits L e) (from_some t s x o after is so_far.stands next)
      ∙ ap (λ z. and_no_bits L z (children_from t s after)) (sym made);
}

-- where the walk ends, all are tested
pub tests_end : (L : Layout) (t : Tree) (s : ℕ) (first : CExpr) (o : Option ℕ) (e : CExpr) → o ≡ None
    → TestsBefore L t s first o e → e ≡ and_no_bits L first (children_of t s)
tests_end L t s first o e is so_far = sym (so_far.tests ∙ ap (and_no_bits L e) (from_none t s o is))
