-- Children of a state as a list.
use Rattle.std.proofs.Common.{◌≡◌, ℕ, List, [], ◌∷◌, ◌++◌, Option, Some, None, sym, ap, ◌∙◌, append_assoc}
use Rattle.std.proofs.Common.{append-nil}
use Rattle.active_config.specs.Tree.{Tree, IsTree, children_of, children_from, first_child, next_sibling}
use Rattle.active_config.proofs.SiblingLemmas.{children_of-from}
use Rattle.checked_chart.proofs.Walks.{Stands, stands_first, stands_next, from_some, from_none}

-- the children are those that were found, and those from where a walk stands
pub record Walks (t : Tree) (s : ℕ) (found : List ℕ) (next : Option ℕ) : Type 0 where
  pub stands : Stands t s next
  pub all : children_of t s ≡ found ++ children_from t s next

pub walks_first : (t : Tree) → IsTree t → (s : ℕ) (found : List ℕ) (next : Option ℕ) → found ≡ []
    → next ≡ first_child t s → Walks t s found next
walks_first t tree s found next q e = record {
  stands = stands_first t tree s next e;
  all = children_of-from t s ∙ ap (children_from t s) (sym e) ∙ ap (λ xs. xs ++ children_from t s next) (sym q);
}

pub walks_next : (t : Tree) → IsTree t → (s x : ℕ) (found more : List ℕ) (next after : Option ℕ) → next ≡ Some x
    → more ≡ found ++ x ∷ [] → after ≡ next_sibling t x → Walks t s found next → Walks t s more after
walks_next t tree s x found more next after e q n h = record {
  stands = stands_next t tree s x next after e h.stands n;
  all = h.all ∙ ap (λ xs. found ++ xs) (from_some t s x next after e h.stands n)
      ∙ sym (append_assoc found (x ∷ []) (children_from t s after)) ∙ ap (λ xs. xs ++ children_from t s after) (sym q);
}

pub walks_last : (t : Tree) (s : ℕ) (found : List ℕ) (next : Option ℕ) → next ≡ None → Walks t s found next
    → found ≡ children_of t s
walks_last t s found next e h =
    sym (h.all ∙ ap (λ xs. found ++ xs) (from_none t s next e) ∙ append-nil found)
