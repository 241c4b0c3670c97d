-- A net without faults is valid, and the other way round.
use Rattle.std.proofs.Common.{◌≡◌, ◌≢◌, ℕ, ◌≤◌, ◌<◌, List, [], ◌∷◌, Option, Some, None, Bool, true, false, cond}
use Rattle.std.proofs.Common.{refl, sym, ap, ◌∙◌, subst, arith, ⊎_elim, inl, inr}
use Rattle.std.specs.Prelude.{◌⊎◌, ◌↔◌, slice_get}
use Rattle.std.specs.List.{find}
use Rattle.std.proofs.lemmas.Bool.{cases_lt, true_from_ne_false, false_from_ne_true}
use Rattle.token_grammar.specs.declared.token.Span.{Span}
use Rattle.active_config.specs.declared.comp.Comp.{Comp}
use Rattle.active_config.specs.declared.comp.Comp.TheVariants.{Leaf, Or, And}
use Rattle.active_config.specs.Tree.{Tree, IsTree, state_count, comp_of, children_of, ancestors, is_below}
use Rattle.active_config.specs.Tree.{is_at_or_below}
use Rattle.active_config.proofs.PathLemmas.{above_of_below, path_le, parent_lt}
use Rattle.chart_tree.specs.declared.first.FaultAt.{FaultAt}
use Rattle.checked_chart.specs.declared.limits.TheConstants.{PAIR_LIMIT}
use Rattle.checked_chart.specs.declared.parts.ListKind.{ListKind}
use Rattle.checked_chart.specs.declared.parts.ListKind.TheVariants.{Outer, Inner, Default}
use Rattle.checked_chart.specs.Homes.{common_above, or_root, home_of}
use Rattle.checked_chart.specs.Valid.{MayLead}
use Rattle.checked_chart.proofs.Walks.{below_is}
use Rattle.checked_chart.specs.Reached.{Meets, Itself, AtJunction}
use Rattle.chart_structure.specs.declared.net.Arrow.{Arrow}
use Rattle.chart_structure.specs.Net.{Net, IsNet, Has, IsDest, word_of, history_of, list_of}
use Rattle.chart_structure.specs.Reached.{links_of}
use Rattle.chart_structure.specs.Structure.{IsLast, Leads, StateFault, EmptyState, EmptyChart, Missing, Unwanted}
use Rattle.chart_structure.specs.Structure.{UnwantedHistory, ListFault, Open, LeavesDefault, LeavesInner, CrossesInner}
use Rattle.chart_structure.specs.Structure.{CrossesOuter, StructureFault, OfState, OfList, OfEmpty, PairFault, TooMany}
use Rattle.chart_structure.specs.Pass.{IsAnswer}
use Rattle.chart_structure.specs.Valid.{IsValid}

-- ---- what can be decided

children_or_none : (xs : List ℕ) → (xs ≡ []) ⊎ (xs ≢ [])
children_or_none [] = inl refl
children_or_none (x ∷ xs) = inr (λ e. absurd cc)

first_or_none : (xs : List Arrow) → (xs ≡ []) ⊎ ((a : Arrow) × (slice_get xs 0 ≡ Some a))
first_or_none [] = inl refl
first_or_none (x ∷ xs) = inr (x, refl)

or_or_not : (w : Comp) → (w ≡ Or) ⊎ (w ≢ Or)
or_or_not Leaf = inr (λ e. absurd cc)
or_or_not Or = inl refl
or_or_not And = inr (λ e. absurd cc)

not_not_or : (w : Comp) → ((w ≢ Or) → ⊥) → w ≡ Or
not_not_or w h = ⊎_elim (λ e. e) (λ ne. absurd (h ne)) (or_or_not w)

not_not_leaf : (w : Comp) → ((w ≢ Leaf) → ⊥) → w ≡ Leaf
not_not_leaf Leaf h = refl
not_not_leaf Or h = absurd (h (λ e. absurd cc))
not_not_leaf And h = absurd (h (λ e. absurd cc))

-- ---- homes are states

-- what is below a state has a greater number
below_lt : (t : Tree) → IsTree t → (x a : ℕ) → x < state_count t → is_below t x a ≡ true → a < x
below_lt t tree x a lt h =
    let up = above_of_below t x a h in
    let low : up.parent < x = parent_lt t (state_count t) tree.pre_order x up.parent lt up.is_parent in
    let le : a ≤ up.parent = path_le t (state_count t) tree.pre_order up.parent a (omega arith) up.path in
    omega arith

find_passes : (p : ℕ → Bool) (xs : List ℕ) (y : ℕ) → find p xs ≡ Some y → p y ≡ true
find_passes p [] y e = absurd cc
find_passes p (x ∷ xs) y e = go (p x) refl e (find_passes p xs y)
  where
    go : (b : Bool) → p x ≡ b → cond b (Some x) (find p xs) ≡ Some y → (find p xs ≡ Some y → p y ≡ true) → p y ≡ true
    go true f e rest = let same : x ≡ y = cc in subst (λ z. p z ≡ true) same f
    go false f e rest = rest e

home_within : (t : Tree) → IsTree t → (s d : ℕ) → d < state_count t → home_of t s Outer d < state_count t
home_within t tree s d lt = go (common_above t s d) refl
  where
    go : (o : Option ℕ) → common_above t s d ≡ o → or_root o < state_count t
    go None e = tree.some
    go (Some a) e =
        let on = find_passes (is_below t d) (ancestors t s) a (below_is t s d ∙ e) in
        let low = below_lt t tree d a lt on in
        omega arith

-- a transition that is met leads to what is there
dest_of : (n : Net) → IsNet n → (s : ℕ) (kind : ListKind) (list : List Arrow) (a : Arrow)
    → Meets (links_of n) (list_of n s kind) list → Has list a → IsDest n a.to
dest_of n net s kind _ a Itself h = net.lists s kind a h
dest_of n net s kind _ a (AtJunction j r) h = net.junctions j a h

-- ---- from no faults to valid

module _ (n : Net) (net : IsNet n) (none : (f : FaultAt) → StructureFault n f → ⊥) where
  words_are : (s : ℕ) → s < state_count n.tree → word_of n s ≡ comp_of n.tree s
  words_are s lt = ⊎_elim
      (λ childless. not_not_leaf (word_of n s) (λ ne. none _ (OfState s _ lt (EmptyState ne childless)))
      ∙ sym ((net.tree.leaves s lt).1 childless))
      (λ some. net.words s lt some) (children_or_none (children_of n.tree s))

  or_where : (s : ℕ) → s < state_count n.tree → ((word_of n s ≢ Or) → ⊥) → comp_of n.tree s ≡ Or
  or_where s lt h = sym (words_are s lt) ∙ not_not_or (word_of n s) h

  may_lead : (s : ℕ) (kind : ListKind) (list : List Arrow) (a : Arrow) (d : ℕ) → s < state_count n.tree
      → Meets (links_of n) (list_of n s kind) list → Leads list a d → MayLead n.tree s kind d
  may_lead s Outer list a d lt m l =
      let to = subst (IsDest n) l.to (dest_of n net s Outer list a m l.has) in
      or_where (home_of n.tree s Outer d) (home_within n.tree net.tree s d to.1)
      (λ ne. none _ (OfList s Outer list _ lt m (CrossesOuter a d l ne)))
  may_lead s Inner list a d lt m l =
      let under = true_from_ne_false (is_at_or_below n.tree d s)
      (λ off. none _ (OfList s Inner list _ lt m (LeavesInner a d l off))) in
      (under, or_where s lt (λ ne. none _ (OfList s Inner list _ lt m (CrossesInner a d l under ne))))
  may_lead s Default list a d lt m l =
      true_from_ne_false (is_below n.tree d s) (λ off. none _ (OfList s Default list _ lt m (LeavesDefault a d l off)))

  closed_last : (s : ℕ) (list : List Arrow) → s < state_count n.tree → Meets (links_of n) (list_of n s Default) list
      → (a : Arrow) → IsLast list a → a.«open» ≡ false
  closed_last s list lt m a last = false_from_ne_true a.«open» (λ on. none _ (OfList s Default list _ lt m (Open a last on)))

  or_has_children : (s : ℕ) → s < state_count n.tree → comp_of n.tree s ≡ Or → children_of n.tree s ≡ [] → ⊥
  or_has_children s lt e f = absurd (let g = (net.tree.leaves s lt).1 f in cc)

  pub valid_where : ((f : FaultAt) → PairFault n f → ⊥) → IsValid n
  valid_where few = record {
    words = words_are;
    children = λ e. none _ (OfState 0 _ net.tree.some (EmptyChart refl e));
    no_default = λ s lt ne. ⊎_elim (λ e. e)
        (λ first. absurd (ne (or_where s lt (λ other. none _ (OfState s _ lt (Unwanted first.0 other first.1))))))
        (first_or_none (list_of n s Default));
    default = λ s lt e. record {
      some = λ empty. none _ (OfState s _ lt (Missing (words_are s lt ∙ e) (or_has_children s lt e) empty));
      last = closed_last s _ lt Itself;
    };
    junctions = λ s j lt r. record {
      some = λ empty. none _ (OfEmpty s j lt r empty);
      last = closed_last s _ lt (AtJunction j r);
    };
    history = λ s at lt is. or_where s lt (λ other. none _ (OfState s _ lt (UnwantedHistory at other is)));
    leads = may_lead;
    pairs =
        λ count are. ⊎_elim (λ over. absurd (few _ (TooMany count are over))) (λ le. le) (cases_lt PAIR_LIMIT count);
  }

-- ---- from valid to no faults

module _ (n : Net) (net : IsNet n) (v : IsValid n) where
  other_comp : (s : ℕ) → s < state_count n.tree → word_of n s ≢ Or → comp_of n.tree s ≡ Or → ⊥
  other_comp s lt ne e = ne (v.words s lt ∙ e)

  no_state_fault : (s : ℕ) (f : FaultAt) → s < state_count n.tree → StateFault n s f → ⊥
  no_state_fault s _ lt (EmptyState ne none) = ne (v.words s lt ∙ (net.tree.leaves s lt).1 none)
  no_state_fault s _ lt (EmptyChart z none) = v.children (subst (λ x. children_of n.tree x ≡ []) z none)
  no_state_fault s _ lt (Missing w some none) = (v.default s lt (sym (v.words s lt) ∙ w)).some none
  no_state_fault s _ lt (Unwanted a ne is) =
      let none = v.no_default s lt (λ e. other_comp s lt ne e) in
      absurd (let f : slice_get (list_of n s Default) 0 ≡ None = ap (λ (l : List Arrow). slice_get l 0) none in cc)
  no_state_fault s _ lt (UnwantedHistory at ne is) = other_comp s lt ne (v.history s at lt is)

  last_closed : (s : ℕ) (list : List Arrow) → s < state_count n.tree → Meets (links_of n) (list_of n s Default) list
      → (a : Arrow) → IsLast list a → a.«open» ≡ false
  last_closed s _ lt Itself a l = ⊎_elim (λ e. (v.default s lt e).last a l)
      (λ ne. absurd (let f : slice_get (list_of n s Default) l.0 ≡ None = ap (λ (m : List Arrow). slice_get m l.0)
      (v.no_default s lt ne) in let g = l.2 in cc)) (or_or_not (comp_of n.tree s))
  last_closed s _ lt (AtJunction j r) a l = (v.junctions s j lt r).last a l

  no_list_fault : (s : ℕ) (kind : ListKind) (list : List Arrow) (f : FaultAt) → s < state_count n.tree
      → Meets (links_of n) (list_of n s kind) list → ListFault n s list kind f → ⊥
  no_list_fault s _ list _ lt m (Open a last on) = absurd (let off = last_closed s list lt m a last in cc)
  no_list_fault s _ list _ lt m (LeavesDefault a d l off) = absurd (let f = v.leads s Default list a d lt m l in cc)
  no_list_fault s _ list _ lt m (LeavesInner a d l off) = absurd (let f = (v.leads s Inner list a d lt m l).0 in cc)
  no_list_fault s _ list _ lt m (CrossesInner a d l on ne) = other_comp s lt ne (v.leads s Inner list a d lt m l).1
  no_list_fault s _ list _ lt m (CrossesOuter a d l ne) =
      let to = subst (IsDest n) l.to (dest_of n net s Outer list a m l.has) in
      other_comp (home_of n.tree s Outer d) (home_within n.tree net.tree s d to.1) ne (v.leads s Outer list a d lt m l)

  pub no_fault : (f : FaultAt) → StructureFault n f → ⊥
  no_fault f (OfState s _ lt h) = no_state_fault s f lt h
  no_fault f (OfList s kind list _ lt m h) = no_list_fault s kind list f lt m h
  no_fault _ (OfEmpty s j lt r none) = (v.junctions s j lt r).some none

  pub no_pair_fault : (f : FaultAt) → PairFault n f → ⊥
  no_pair_fault _ (TooMany count are over) = absurd (let e = v.pairs count are in omega arith)

-- ---- the answer

-- the pass answers none exactly where the net is valid
pub answer_valid : (n : Net) (o : Option FaultAt) → IsNet n → IsAnswer n o → (o ≡ None) ↔ IsValid n
answer_valid n None net a = ((λ e. valid_where n net a.0 a.1), (λ v. refl))
answer_valid n (Some f) net a = (
  (λ e. absurd cc),
  (λ v. absurd (⊎_elim (λ first. no_fault n net v f first.0) (λ pairs. no_pair_fault n net v f pairs.1) a)),
)
