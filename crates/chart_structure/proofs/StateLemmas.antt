-- The faults of a state.
use Rattle.std.proofs.Common.{◌≡◌, ◌≢◌, ℕ, ◌<◌, List, [], ◌∷◌, length, get_or, Option, Some, None}
use Rattle.std.proofs.Common.{Bool, true, false, cond, not, ◌&&◌, refl, sym, ap, ◌∙◌, subst}
use Rattle.std.specs.Prelude.{◌↔◌, IsTrue, slice_get}
use Rattle.std.specs.Option.{is_some}
use Rattle.std.proofs.lemmas.Option.{slice_get-get_or}
use Rattle.token_grammar.specs.declared.token.Span.{Span}
use Rattle.active_config.specs.declared.comp.Comp.{Comp}
use Rattle.active_config.specs.declared.comp.Comp.TheVariants.{Leaf, Or, And}
use Rattle.active_config.specs.Tree.{Tree, state_count, children_of, is_or}
use Rattle.chart_tree.specs.declared.fault.FormKind.{FormKind}
use Rattle.chart_tree.specs.declared.fault.FormKind.TheVariants as kinds
use Rattle.chart_tree.specs.declared.first.FaultAt.{FaultAt}
use Rattle.chart_tree.specs.First.{at_place, IsOne, Passed}
use Rattle.checked_chart.specs.declared.parts.ListKind.TheVariants.{Default}
use Rattle.chart_structure.specs.declared.net.Arrow.{Arrow}
use Rattle.chart_structure.specs.Net.{Net, word_of, name_of, history_of, list_of}
use Rattle.chart_structure.specs.Structure.{StateFault, EmptyState, EmptyChart, Missing, Unwanted, UnwantedHistory}
use Rattle.chart_structure.specs.Structure.{StructureFault, OfState}
use Rattle.chart_structure.specs.Tests.{is_leaf, with_fault, comp_fault, IsCompFault, WordAlone, NoStates, NoDefault}
use Rattle.chart_structure.proofs.KeepLemmas.{with_fault_one, with_fault_old, with_fault_new}

-- ---- composition words

leaf_test : (w : Comp) → is_leaf w ≡ false → w ≢ Leaf
leaf_test Leaf e f = absurd cc
leaf_test Or e f = absurd cc
leaf_test And e f = absurd cc

leaf_where : (w : Comp) → w ≢ Leaf → is_leaf w ≡ false
leaf_where Leaf ne = absurd (ne refl)
leaf_where Or ne = refl
leaf_where And ne = refl

or_test : (w : Comp) → is_or w ≡ true → w ≡ Or
or_test Leaf e = absurd cc
or_test Or e = refl
or_test And e = absurd cc

or_false : (w : Comp) → is_or w ≡ false → w ≢ Or
or_false Leaf e f = absurd cc
or_false Or e f = absurd cc
or_false And e f = absurd cc

-- ---- compositions

module _ (n : Net) (s : ℕ) where
  -- what the test of a composition finds is a fault of the state
  comp_fault_is : (root childless listless : Bool) (k : FormKind) → IsTrue root ↔ (s ≡ 0)
      → IsTrue childless ↔ (children_of n.tree s ≡ []) → IsTrue listless ↔ (list_of n s Default ≡ [])
      → comp_fault root (word_of n s) childless listless ≡ Some k → StateFault n s (at_place k (name_of n s))
  comp_fault_is true true listless k a b c e =
      let same : kinds.EmptyComposition ≡ k = cc in
      subst (λ k. StateFault n s (at_place k (name_of n s))) same (EmptyChart (a.0 refl) (b.0 refl))
  comp_fault_is false true listless k a b c e = go (is_leaf (word_of n s)) refl e
    where
      go : (t : Bool) → is_leaf (word_of n s) ≡ t → cond (not t) (Some kinds.EmptyComposition) None ≡ Some k
          → StateFault n s (at_place k (name_of n s))
      go true f e = absurd cc
      go false f e =
          let same : kinds.EmptyComposition ≡ k = cc in
          subst (λ k. StateFault n s (at_place k (name_of n s))) same (EmptyState (leaf_test _ f) (b.0 refl))
  comp_fault_is root false listless k a b c e = go (is_or (word_of n s)) listless refl c e
    where
      go : (t l : Bool) → is_or (word_of n s) ≡ t → IsTrue l ↔ (list_of n s Default ≡ [])
          → cond (t && l) (Some kinds.DefaultMissing) None ≡ Some k → StateFault n s (at_place k (name_of n s))
      go true true f c e =
          let same : kinds.DefaultMissing ≡ k = cc in
          subst (λ k. StateFault n s (at_place k (name_of n s))) same
          (Missing (or_test _ f) (λ none. absurd (let h = b.1 none in cc)) (c.0 refl))
      go true false f c e = absurd cc
      go false l f c e = absurd cc

  -- and it finds what the rules say
  comp_fault_where : (root childless listless : Bool) (k : FormKind) → IsTrue root ↔ (s ≡ 0)
      → IsTrue childless ↔ (children_of n.tree s ≡ []) → IsTrue listless ↔ (list_of n s Default ≡ [])
      → IsCompFault n s k → comp_fault root (word_of n s) childless listless ≡ Some k
  comp_fault_where true true listless _ a b c (WordAlone ne none) = refl
  comp_fault_where false true listless _ a b c (WordAlone ne none) =
      ap (λ t. cond (not t) (Some kinds.EmptyComposition) None) (leaf_where _ ne)
  comp_fault_where root false listless _ a b c (WordAlone ne none) = absurd (let h = b.1 none in cc)
  comp_fault_where true true listless _ a b c (NoStates z none) = refl
  comp_fault_where false childless listless _ a b c (NoStates z none) = absurd (let h = a.1 z in cc)
  comp_fault_where true false listless _ a b c (NoStates z none) = absurd (let h = b.1 none in cc)
  comp_fault_where root true listless _ a b c (NoDefault w some none) = absurd (some (b.0 refl))
  comp_fault_where root false listless _ a b c (NoDefault w some none) =
      let f : is_or (word_of n s) ≡ true = ap is_or w in
      let g : listless ≡ true = c.1 none in
      ap (λ t. cond (t && listless) (Some kinds.DefaultMissing) None) f
      ∙ ap (λ l. cond l (Some kinds.DefaultMissing) None) g

  module _ (root childless listless : Bool) (list : List Arrow) (first next : Option FaultAt)
      (a : IsTrue root ↔ (s ≡ 0)) (b : IsTrue childless ↔ (children_of n.tree s ≡ []))
      (c : IsTrue listless ↔ (list ≡ [])) (l : list ≡ list_of n s Default)
      (e : next ≡ with_fault (comp_fault root (word_of n s) childless listless) (name_of n s) first) where
    here : IsTrue listless ↔ (list_of n s Default ≡ [])
    here = subst (λ m. IsTrue listless ↔ (m ≡ [])) l c

    pub composition_one : s < state_count n.tree → IsOne (StructureFault n) first → IsOne (StructureFault n) next
    composition_one lt one = subst (IsOne (StructureFault n)) (sym e)
        (with_fault_one (StructureFault n) (comp_fault root (word_of n s) childless listless) (name_of n s) first one
        (λ k w. OfState s _ lt (comp_fault_is root childless listless k a b here w)))

    pub composition_old : (f : FaultAt) → Passed first f → Passed next f
    composition_old f h = subst (λ r. Passed r f) (sym e)
        (with_fault_old (comp_fault root (word_of n s) childless listless) (name_of n s) first f h)

    pub composition_new : (k : FormKind) → IsCompFault n s k → Passed next (at_place k (name_of n s))
    composition_new k h = subst (λ r. Passed r (at_place k (name_of n s))) (sym e)
        (with_fault_new (comp_fault root (word_of n s) childless listless) (name_of n s) first k
        (comp_fault_where root childless listless k a b here h))

-- the test's answer, put where the name says, is that of the state's own word and name
pub composition_is : (n : Net) (s : ℕ) (root childless listless : Bool) (word : Comp) (at : Span)
    (wrong : Option FormKind) (first next : Option FaultAt) → next ≡ with_fault wrong at first
    → wrong ≡ comp_fault root word childless listless → word ≡ word_of n s → at ≡ name_of n s
    → next ≡ with_fault (comp_fault root (word_of n s) childless listless) (name_of n s) first
composition_is n s root childless listless word at wrong first next e f g h =
    e ∙ ap (λ o. with_fault o at first) (f ∙ ap (λ w. comp_fault root w childless listless) g)
    ∙ ap (λ at. with_fault (comp_fault root (word_of n s) childless listless) at first) h

some_test : (o : Option ℕ) → is_some o ≡ false → o ≡ None
some_test None e = refl
some_test (Some x) e = absurd cc

-- a state has no children exactly where it has no first child
pub childless_where : (n : Net) (t : Tree) (s : ℕ) (o : Option ℕ) (b : Bool) → t ≡ n.tree
    → o ≡ slice_get (children_of t s) 0 → is_some o ≡ not b → IsTrue b ↔ (children_of n.tree s ≡ [])
childless_where n t s o b e f g = (
  λ x. go (children_of n.tree s) (sym f' ∙ some_test o (g ∙ ap not x)),
  λ x. true_of b (sym g ∙ ap is_some (f' ∙ ap (λ (l : List ℕ). slice_get l 0) x)),
)
  where
    f' : o ≡ slice_get (children_of n.tree s) 0
    f' = f ∙ ap (λ m. slice_get (children_of m s) 0) e

    go : (xs : List ℕ) → slice_get xs 0 ≡ None → xs ≡ []
    go [] e = refl
    go (x ∷ xs) e = absurd cc

    true_of : (b : Bool) → not b ≡ false → b ≡ true
    true_of true e = refl
    true_of false e = absurd cc

-- ---- default lists and history that aren't wanted

pub first_is : (list : List Arrow) (d a : Arrow) → 0 < length list → slice_get list 0 ≡ Some a → get_or list 0 d ≡ a
first_is list d a lt h = let g = slice_get-get_or list 0 d lt in cc

pub unwanted_fault : (n : Net) (s : ℕ) (w : Comp) (list : List Arrow) (d : Arrow) → s < state_count n.tree
    → w ≡ word_of n s → is_or w ≡ false → list ≡ list_of n s Default → 0 < length list
    → StructureFault n (at_place kinds.DefaultUnwanted (get_or list 0 d).at)
unwanted_fault n s w list d lt e f l some =
    OfState s _ lt (Unwanted (get_or list 0 d) (subst (λ w. w ≢ Or) e (or_false w f))
    (subst (λ m. slice_get m 0 ≡ Some (get_or list 0 d)) l (slice_get-get_or list 0 d some)))

pub history_fault : (n : Net) (s : ℕ) (w : Comp) (at : Span) → s < state_count n.tree
    → w ≡ word_of n s → is_or w ≡ false → history_of n s ≡ Some at
    → StructureFault n (at_place kinds.HistoryUnwanted at)
history_fault n s w at lt e f h = OfState s _ lt (UnwantedHistory at (subst (λ w. w ≢ Or) e (or_false w f)) h)

-- ---- all faults of a state

pub state_passed : (n : Net) (s : ℕ) (r : Option FaultAt)
    → ((k : FormKind) → IsCompFault n s k → Passed r (at_place k (name_of n s)))
    → ((a : Arrow) → word_of n s ≢ Or → slice_get (list_of n s Default) 0 ≡ Some a
    → Passed r (at_place kinds.DefaultUnwanted a.at))
    → ((at : Span) → word_of n s ≢ Or → history_of n s ≡ Some at → Passed r (at_place kinds.HistoryUnwanted at))
    → (f : FaultAt) → StateFault n s f → Passed r f
state_passed n s r h g k _ (EmptyState ne none) = h kinds.EmptyComposition (WordAlone ne none)
state_passed n s r h g k _ (EmptyChart z none) = h kinds.EmptyComposition (NoStates z none)
state_passed n s r h g k _ (Missing w some none) = h kinds.DefaultMissing (NoDefault w some none)
state_passed n s r h g k _ (Unwanted a ne is) = g a ne is
state_passed n s r h g k _ (UnwantedHistory at ne is) = k at ne is
