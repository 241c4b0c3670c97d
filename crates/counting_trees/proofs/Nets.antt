-- A net with transitions before inner lists: what is wrong without them is wrong with them.
use Rattle.std.proofs.Common.{◌≡◌, ℕ, zero, suc, ◌+◌, ◌≤◌, ◌<◌, Bool, true, false, cond, List, [], ◌++◌, length}
use Rattle.std.proofs.Common.{Some, refl, sym, ap, ◌∙◌, subst, arith, length-append}
use Rattle.std.specs.Prelude.{slice_get, slice_index_or}
use Rattle.active_config.specs.Tree.{Tree, state_count}
use Rattle.chart_tree.specs.declared.fault.FormKind.TheVariants as kinds
use Rattle.chart_tree.specs.declared.first.FaultAt.{FaultAt}
use Rattle.chart_tree.specs.First.{at_place}
use Rattle.checked_chart.specs.declared.parts.ListKind.{ListKind}
use Rattle.checked_chart.specs.declared.parts.ListKind.TheVariants.{Outer, Inner, Default}
use Rattle.checked_chart.specs.Reached.{LeadsTo, Reached, Directly, Through, Meets, Itself, AtJunction, weight, ArePairs}
use Rattle.checked_chart.specs.Reached.{PairsBelow}
use Rattle.chart_structure.specs.declared.net.Arrow.{Arrow}
use Rattle.chart_structure.specs.Net.{Net, Node, JunctionNode, no_node, word_of, name_of, history_of, list_of, junction_list}
use Rattle.chart_structure.specs.Net.{junction_name, junction_count}
use Rattle.chart_structure.specs.Reached.{links_of}
use Rattle.chart_structure.specs.Structure.{StateFault, EmptyState, EmptyChart, Missing, Unwanted, UnwantedHistory}
use Rattle.chart_structure.specs.Structure.{ListFault, Open, LeavesDefault, LeavesInner, CrossesInner, CrossesOuter}
use Rattle.chart_structure.specs.Structure.{StructureFault, OfState, OfList, OfEmpty, PairFault, TooMany}
use Rattle.chart_structure.proofs.LinkLemmas.{contains_at, stands_at}
use Rattle.chart_structure.proofs.PairLemmas.{one_number_of_net}
use Rattle.counting_trees.proofs.Lists.{Has, has_right}

-- the first node is the second with transitions before its inner list
pub record Fronted (a b : Node) : Type 0 where
  pub front : List Arrow
  pub is : a ≡ record b { inner = front ++ b.inner }

weight_fewer : (p q : ℕ → Bool) (w : ℕ → ℕ) → ((i : ℕ) → p i ≡ true → q i ≡ true) → (n : ℕ) → weight p w n ≤ weight q w n
weight_fewer p q w h zero = omega arith
weight_fewer p q w h (suc n) =
    let rest = weight_fewer p q w h n in
    let here = one (p n) (q n) (h n) in
    omega arith
  where
    one : (a b : Bool) → (a ≡ true → b ≡ true) → cond a (w n) 0 ≤ cond b (w n) 0
    one true true k = omega arith
    one true false k = absurd (let e = k refl in cc)
    one false b k = omega arith

module _ (tree : Tree) (js : List JunctionNode) (ns ms : List Node)
    (fronted : (s : ℕ) → Fronted (slice_index_or ns s no_node) (slice_index_or ms s no_node)) where
  -- the net with them, and the net without
  n : Net
  n = record { tree = tree; nodes = ns; junctions = js }

  m : Net
  m = record { tree = tree; nodes = ms; junctions = js }

  word : (s : ℕ) → word_of m s ≡ word_of n s
  unfolding n m word_of
  word s = sym (ap (λ (x : Node). x.word) (fronted s).is)

  name : (s : ℕ) → name_of m s ≡ name_of n s
  unfolding n m name_of
  name s = sym (ap (λ (x : Node). x.name) (fronted s).is)

  history : (s : ℕ) → history_of n s ≡ history_of m s
  unfolding n m history_of
  history s = ap (λ (x : Node). x.history) (fronted s).is

  default : (s : ℕ) → list_of n s Default ≡ list_of m s Default
  unfolding n m list_of
  default s = ap (λ (x : Node). x.default) (fronted s).is

  front : ℕ → ListKind → List Arrow
  front s Outer = []
  front s Inner = (fronted s).front
  front s Default = []

  lists : (s : ℕ) (kind : ListKind) → list_of n s kind ≡ front s kind ++ list_of m s kind
  unfolding n m list_of front
  lists s Outer = ap (λ (x : Node). x.outer) (fronted s).is
  lists s Inner = ap (λ (x : Node). x.inner) (fronted s).is
  lists s Default = ap (λ (x : Node). x.default) (fronted s).is

  -- ---- what is reached

  has_on : (s : ℕ) (kind : ListKind) (a : Arrow) → Has (list_of m s kind) a → Has (list_of n s kind) a
  has_on s kind a h =
      subst (λ l. Has l a) (sym (lists s kind)) (has_right (front s kind) (list_of m s kind) a h)

  leads_on : (s : ℕ) (kind : ListKind) (j : ℕ) → LeadsTo (links_of m) (list_of m s kind) j
      → LeadsTo (links_of n) (list_of n s kind) j
  leads_on s kind j h =
      let l = has_on s kind h.trans (h.within.0, stands_at (list_of m s kind) h.trans h.within) in
      record { trans = h.trans; within = contains_at (list_of n s kind) l.0 h.trans l.1; leads = h.leads }

  reached_on : (s : ℕ) (kind : ListKind) (j : ℕ) → Reached (links_of m) (list_of m s kind) j
      → Reached (links_of n) (list_of n s kind) j
  unfolding n m junction_list
  reached_on s kind _ (Directly j h) = Directly j (leads_on s kind j h)
  reached_on s kind _ (Through i j r h) =
      Through i j (reached_on s kind i r) (record { trans = h.trans; within = h.within; leads = h.leads })

  -- ---- faults

  fault_on : (s : ℕ) (kind : ListKind) (few many : List Arrow) (f : FaultAt) → ((a : Arrow) → Has few a → Has many a)
      → (kind ≡ Default → few ≡ many) → ListFault m s few kind f → ListFault n s many kind f
  unfolding n m
  fault_on s _ few many _ more same (Open a last is_open) =
      Open a (subst (λ l. (i : ℕ) × (i + 1 ≡ length l) × (slice_get l i ≡ Some a)) (same refl) last) is_open
  fault_on s _ few many _ more same (LeavesDefault a d l b) =
      LeavesDefault a d (record { has = more a l.has; to = l.to }) b
  fault_on s _ few many _ more same (LeavesInner a d l b) =
      LeavesInner a d (record { has = more a l.has; to = l.to }) b
  fault_on s _ few many _ more same (CrossesInner a d l b w) =
      CrossesInner a d (record { has = more a l.has; to = l.to }) b (λ e. w (word _ ∙ e))
  fault_on s _ few many _ more same (CrossesOuter a d l w) =
      CrossesOuter a d (record { has = more a l.has; to = l.to }) (λ e. w (word _ ∙ e))

  state_on : (s : ℕ) (f : FaultAt) → StateFault m s f → StateFault n s f
  unfolding n m
  state_on s _ (EmptyState w c) =
      subst (λ at. StateFault n s (at_place kinds.EmptyComposition at)) (sym (name s)) (EmptyState (λ e. w (word s ∙ e)) c)
  state_on s _ (EmptyChart z c) =
      subst (λ at. StateFault n s (at_place kinds.EmptyComposition at)) (sym (name s)) (EmptyChart z c)
  state_on s _ (Missing w c d) =
      subst (λ at. StateFault n s (at_place kinds.DefaultMissing at)) (sym (name s))
      (Missing (sym (word s) ∙ w) c (default s ∙ d))
  state_on s _ (Unwanted a w e) = Unwanted a (λ o. w (word s ∙ o)) (ap (λ l. slice_get l 0) (default s) ∙ e)
  state_on s _ (UnwantedHistory at w e) = UnwantedHistory at (λ o. w (word s ∙ o)) (history s ∙ e)

  list_on : (s : ℕ) (kind : ListKind) (list : List Arrow) (f : FaultAt) → s < state_count tree
      → Meets (links_of m) (list_of m s kind) list → ListFault m s list kind f → StructureFault n f
  unfolding n m junction_list
  list_on s kind _ f lt Itself x =
      OfList s kind (list_of n s kind) f lt Itself
      (fault_on s kind (list_of m s kind) (list_of n s kind) f (has_on s kind)
      (λ e. subst (λ k. list_of m s k ≡ list_of n s k) (sym e) (sym (default s))) x)
  list_on s kind _ f lt (AtJunction j r) x =
      OfList s kind (junction_list n j) f lt (AtJunction j (reached_on s kind j r))
      (fault_on s kind (junction_list n j) (junction_list n j) f (λ a h. h) (λ e. refl) x)

  structure_on : (f : FaultAt) → StructureFault m f → StructureFault n f
  unfolding n m junction_list junction_name
  structure_on _ (OfState s f lt x) = OfState s f lt (state_on s f x)
  structure_on _ (OfList s kind list f lt meets x) = list_on s kind list f lt meets x
  structure_on _ (OfEmpty s j lt r e) = OfEmpty s j lt (reached_on s Default j r) e

  -- ---- pairs

  are_fewer : (s : ℕ) (kind : ListKind) (a b : ℕ) → ArePairs (links_of m) (list_of m s kind) a
      → ArePairs (links_of n) (list_of n s kind) b → a ≤ b
  unfolding n m junction_list junction_count
  are_fewer s kind a b x y =
      let w : ℕ → ℕ = λ j. length (junction_list n j) in
      let long = ap length (lists s kind) ∙ length-append (front s kind) (list_of m s kind) in
      let less : weight x.within w (junction_count n) ≤ weight y.within w (junction_count n)
      = weight_fewer x.within y.within w
      (λ j t. (y.exact j).1 (reached_on s kind j ((x.exact j).0 t))) (junction_count n) in
      let few : a ≡ length (list_of m s kind) + weight x.within w (junction_count n) = x.sum in
      let many : b ≡ length (list_of n s kind) + weight y.within w (junction_count n) = y.sum in
      omega arith

  below_fewer : (s a b : ℕ) → PairsBelow (links_of m) s a → PairsBelow (links_of n) s b → a ≤ b
  below_fewer zero a b x y = omega (arith, x, y)
  below_fewer (suc s) a b (o, l, own, rest, e) (o', l', own', rest', e') =
      let one = are_fewer s Outer own.outer own'.outer own.of_outer own'.of_outer in
      let two = are_fewer s Inner own.inner own'.inner own.of_inner own'.of_inner in
      let three = are_fewer s Default own.default own'.default own.of_default own'.of_default in
      let others = below_fewer s l l' rest rest' in
      omega (arith, own.sum, own'.sum, e, e', one, two, three, others)

  pairs_on : (f : FaultAt) → PairFault m f → (g : FaultAt) × PairFault n g
  unfolding n m
  pairs_on _ (TooMany count pairs lt) =
      let all = one_number_of_net n in
      let le = below_fewer (state_count tree) count all.0 pairs all.1 in
      (_, TooMany all.0 all.1 (omega (arith, le, lt)))

  -- a net that is sound is so without them
  pub sound_structure : ((f : FaultAt) → StructureFault (record { tree = tree; nodes = ns; junctions = js }) f → ⊥)
      → (f : FaultAt) → StructureFault (record { tree = tree; nodes = ms; junctions = js }) f → ⊥
  unfolding n m
  sound_structure h f x = h f (structure_on f x)

  pub sound_pairs : ((f : FaultAt) → PairFault (record { tree = tree; nodes = ns; junctions = js }) f → ⊥)
      → (f : FaultAt) → PairFault (record { tree = tree; nodes = ms; junctions = js }) f → ⊥
  unfolding n m
  sound_pairs h f x = let g = pairs_on f x in h g.0 g.1
