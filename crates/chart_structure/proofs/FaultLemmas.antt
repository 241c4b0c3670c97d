-- Every net has a first fault of structure, or none.
use Rattle.std.proofs.Common.{◌≡◌, ◌≢◌, ◌⊎◌, ℕ, ◌+◌, ◌<◌, Bool, true, false, List, [], ◌∷◌, length, Some}
use Rattle.std.proofs.Common.{inl, inr, refl, sym, subst, arith}
use Rattle.std.specs.Prelude.{slice_get}
use Rattle.std.proofs.lemmas.Bool.{cases_eq}
use Rattle.std.proofs.lemmas.Option.{slice_get_within}
use Rattle.token_grammar.specs.declared.token.Span.{Span}
use Rattle.active_config.specs.declared.comp.Comp.{Comp}
use Rattle.active_config.specs.declared.comp.Comp.TheVariants.{Leaf, Or, And}
use Rattle.active_config.specs.Tree.{state_count, children_of, is_below, is_at_or_below}
use Rattle.chart_tree.specs.declared.fault.FormKind.{FormKind}
use Rattle.chart_tree.specs.declared.fault.FormKind.TheVariants as kinds
use Rattle.chart_tree.specs.declared.first.FaultAt.{FaultAt}
use Rattle.chart_tree.specs.First.{at_place}
use Rattle.checked_chart.specs.declared.parts.Dest.TheVariants.{State}
use Rattle.checked_chart.specs.declared.parts.ListKind.{ListKind}
use Rattle.checked_chart.specs.declared.parts.ListKind.TheVariants.{Outer, Inner, Default}
use Rattle.checked_chart.specs.Homes.{home_of}
use Rattle.checked_chart.specs.Reached.{Reached, Directly, Through, Meets, Itself, AtJunction}
use Rattle.chart_structure.specs.declared.net.Arrow.{Arrow}
use Rattle.chart_structure.specs.Net.{Net, IsNet, IsDest, word_of, name_of, history_of, list_of}
use Rattle.chart_structure.specs.Net.{junction_count, junction_list, junction_name}
use Rattle.chart_structure.specs.Reached.{links_of}
use Rattle.chart_structure.specs.Structure.{Leads, StateFault, EmptyState, EmptyChart, Missing, Unwanted}
use Rattle.chart_structure.specs.Structure.{UnwantedHistory}
use Rattle.chart_structure.specs.Structure.{ListFault, Open, LeavesDefault, LeavesInner, CrossesInner, CrossesOuter}
use Rattle.chart_structure.specs.Structure.{StructureFault, OfState, OfList, OfEmpty}
use Rattle.chart_structure.proofs.LinkLemmas.{stands_at}
use Rattle.chart_structure.proofs.PairLemmas.{found, has_reached}
use Rattle.chart_structure.proofs.FirstLemmas.{Decided, both, contrary, HasFirst, like, of_one, of_two, where_holds}
use Rattle.chart_structure.proofs.FirstLemmas.{of_below, of_some, of_list, of_state}

-- ---- what is decided

holds : (b c : Bool) → Decided (b ≡ c)
holds true true = inl refl
holds true false = inr (λ e. absurd (cc e))
holds false true = inr (λ e. absurd (cc e))
holds false false = inl refl

is_leaf : (w : Comp) → Decided (w ≡ Leaf)
is_leaf Leaf = inl refl
is_leaf Or = inr (λ e. absurd (cc e))
is_leaf And = inr (λ e. absurd (cc e))

is_or : (w : Comp) → Decided (w ≡ Or)
is_or Leaf = inr (λ e. absurd (cc e))
is_or Or = inl refl
is_or And = inr (λ e. absurd (cc e))

is_empty : {X : Type 0} (xs : List X) → Decided (xs ≡ [])
is_empty [] = inl refl
is_empty (x ∷ xs) = inr (λ e. absurd (cc e))

same_number : (a b : ℕ) → Decided (a ≡ b)
same_number a b = elim (cases_eq a b) [ inl e ↦ inl e | inr ne ↦ inr ne ]

module _ (n : Net) (s : ℕ) where
  -- ---- the faults of a state

  abbrev AtName : FaultAt → Type 0
  AtName f = f ≡ at_place kinds.EmptyComposition (name_of n s)

  abbrev NoStates : FaultAt → Type 0
  NoStates f = ((word_of n s ≢ Leaf) × (children_of n.tree s ≡ [])) × AtName f

  abbrev NoChart : FaultAt → Type 0
  NoChart f = ((s ≡ 0) × (children_of n.tree s ≡ [])) × AtName f

  abbrev NoDefault : FaultAt → Type 0
  NoDefault f = ((word_of n s ≡ Or) × ((children_of n.tree s ≢ []) × (list_of n s Default ≡ [])))
      × (f ≡ at_place kinds.DefaultMissing (name_of n s))

  abbrev OneDefault : FaultAt → Type 0
  OneDefault f = (word_of n s ≢ Or)
      × ((a : Arrow) × (slice_get (list_of n s Default) 0 ≡ Some a) × (f ≡ at_place kinds.DefaultUnwanted a.at))

  abbrev OneHistory : FaultAt → Type 0
  OneHistory f = (word_of n s ≢ Or)
      × ((at : Span) × (history_of n s ≡ Some at) × (f ≡ at_place kinds.HistoryUnwanted at))

  abbrev Others : FaultAt → Type 0
  Others f = OneDefault f ⊎ OneHistory f

  abbrev Defaults : FaultAt → Type 0
  Defaults f = NoDefault f ⊎ Others f

  abbrev Charts : FaultAt → Type 0
  Charts f = NoChart f ⊎ Defaults f

  abbrev OwnCase : FaultAt → Type 0
  OwnCase f = NoStates f ⊎ Charts f

  own_case : (f : FaultAt) → StateFault n s f → OwnCase f
  own_case _ (EmptyState word none) = inl ((word, none), refl)
  own_case _ (EmptyChart root none) = inr (inl ((root, none), refl))
  own_case _ (Missing word some none) = inr (inr (inl ((word, (some, none)), refl)))
  own_case _ (Unwanted a word is) = inr (inr (inr (inl (word, (a, is, refl)))))
  own_case _ (UnwantedHistory at word is) = inr (inr (inr (inr (word, (at, is, refl)))))

  own_fault : (f : FaultAt) → OwnCase f → StateFault n s f
  own_fault f (inl h) = subst (StateFault n s) (sym h.1) (EmptyState h.0.0 h.0.1)
  own_fault f (inr (inl h)) = subst (StateFault n s) (sym h.1) (EmptyChart h.0.0 h.0.1)
  own_fault f (inr (inr (inl h))) = subst (StateFault n s) (sym h.1) (Missing h.0.0 h.0.1.0 h.0.1.1)
  own_fault f (inr (inr (inr (inl h)))) = subst (StateFault n s) (sym h.1.2) (Unwanted h.1.0 h.0 h.1.1)
  own_fault f (inr (inr (inr (inr h)))) = subst (StateFault n s) (sym h.1.2) (UnwantedHistory h.1.0 h.0 h.1.1)

  not_or : Decided (word_of n s ≢ Or)
  not_or = contrary (word_of n s ≡ Or) (is_or (word_of n s))

  childless : Decided (children_of n.tree s ≡ [])
  childless = is_empty (children_of n.tree s)

  no_states : HasFirst NoStates
  no_states =
      where_holds ((word_of n s ≢ Leaf) × (children_of n.tree s ≡ [])) AtName
      (both (word_of n s ≢ Leaf) (children_of n.tree s ≡ []) (contrary (word_of n s ≡ Leaf) (is_leaf (word_of n s)))
      childless)
      (of_one (at_place kinds.EmptyComposition (name_of n s)))

  no_chart : HasFirst NoChart
  no_chart =
      where_holds ((s ≡ 0) × (children_of n.tree s ≡ [])) AtName
      (both (s ≡ 0) (children_of n.tree s ≡ []) (same_number s 0) childless)
      (of_one (at_place kinds.EmptyComposition (name_of n s)))

  no_default : HasFirst NoDefault
  no_default =
      let some = children_of n.tree s ≢ [] in
      let none = list_of n s Default ≡ [] in
      where_holds ((word_of n s ≡ Or) × (some × none)) (λ f. f ≡ at_place kinds.DefaultMissing (name_of n s))
      (both (word_of n s ≡ Or) (some × none) (is_or (word_of n s))
      (both some none (contrary (children_of n.tree s ≡ []) childless) (is_empty (list_of n s Default))))
      (of_one (at_place kinds.DefaultMissing (name_of n s)))

  one_default : HasFirst OneDefault
  one_default =
      where_holds (word_of n s ≢ Or)
      (λ f. (a : Arrow) × (slice_get (list_of n s Default) 0 ≡ Some a) × (f ≡ at_place kinds.DefaultUnwanted a.at))
      not_or
      (of_some (slice_get (list_of n s Default) 0) (λ a f. f ≡ at_place kinds.DefaultUnwanted a.at)
      (λ a. of_one (at_place kinds.DefaultUnwanted a.at)))

  one_history : HasFirst OneHistory
  one_history =
      where_holds (word_of n s ≢ Or)
      (λ f. (at : Span) × (history_of n s ≡ Some at) × (f ≡ at_place kinds.HistoryUnwanted at)) not_or
      (of_some (history_of n s) (λ at f. f ≡ at_place kinds.HistoryUnwanted at)
      (λ at. of_one (at_place kinds.HistoryUnwanted at)))

  own_first : HasFirst (StateFault n s)
  own_first =
      like OwnCase (StateFault n s) own_fault own_case
      (of_two NoStates Charts no_states
      (of_two NoChart Defaults no_chart
      (of_two NoDefault Others no_default (of_two OneDefault OneHistory one_default one_history))))

  -- ---- the faults of a list

  module _ (list : List Arrow) where
    -- its last transition is open
    abbrev IsOpen : ℕ → Arrow → FaultAt → Type 0
    IsOpen i a f = ((i + 1 ≡ length list) × (a.«open» ≡ true)) × (f ≡ at_place kinds.DefaultOpen a.at)

    abbrev Opens : FaultAt → Type 0
    Opens f = (i : ℕ) × (i < length list) × ((a : Arrow) × (slice_get list i ≡ Some a) × IsOpen i a f)

    opens : HasFirst Opens
    opens = of_list list IsOpen
        (λ i a. where_holds ((i + 1 ≡ length list) × (a.«open» ≡ true)) (λ f. f ≡ at_place kinds.DefaultOpen a.at)
        (both (i + 1 ≡ length list) (a.«open» ≡ true) (same_number (i + 1) (length list)) (holds a.«open» true))
        (of_one (at_place kinds.DefaultOpen a.at)))

    -- a transition leads to a state for which something holds
    abbrev LeadsFor : (ℕ → Type 0) → FormKind → Arrow → ℕ → FaultAt → Type 0
    LeadsFor C kind a d f = C d × (f ≡ at_place kind a.to_at)

    abbrev Leading : (ℕ → Type 0) → FormKind → FaultAt → Type 0
    Leading C kind f = (i : ℕ) × (i < length list)
        × ((a : Arrow) × (slice_get list i ≡ Some a) × ((d : ℕ) × (a.to ≡ State d) × LeadsFor C kind a d f))

    leading : (C : ℕ → Type 0) (kind : FormKind) → ((d : ℕ) → Decided (C d)) → HasFirst (Leading C kind)
    leading C kind decided =
        of_list list (λ i a f. (d : ℕ) × (a.to ≡ State d) × LeadsFor C kind a d f)
        (λ i a. of_state a.to (LeadsFor C kind a) (λ d. where_holds (C d) (λ f. f ≡ at_place kind a.to_at) (decided d)
        (of_one (at_place kind a.to_at))))

    led : (C : ℕ → Type 0) (kind : FormKind) (a : Arrow) (d : ℕ) → Leads list a d → C d
        → Leading C kind (at_place kind a.to_at)
    led C kind a d l c =
        (l.has.0, slice_get_within list l.has.0 a l.has.1, (a, l.has.1, (d, l.to, (c, refl))))

    -- what is wrong with the state to which a transition leads
    abbrev CrossesFrom : ListKind → ℕ → Type 0
    CrossesFrom kind d = word_of n (home_of n.tree s kind d) ≢ Or

    abbrev LeavesStates : ℕ → Type 0
    LeavesStates d = is_below n.tree d s ≡ false

    abbrev LeavesState : ℕ → Type 0
    LeavesState d = is_at_or_below n.tree d s ≡ false

    abbrev StaysCrossing : ℕ → Type 0
    StaysCrossing d = (is_at_or_below n.tree d s ≡ true) × CrossesFrom Inner d

    abbrev ListCase : ListKind → FaultAt → Type 0
    ListCase Outer f = Leading (CrossesFrom Outer) kinds.CrossesRegions f
    ListCase Inner f = Leading LeavesState kinds.InnerLeaves f ⊎ Leading StaysCrossing kinds.CrossesRegions f
    ListCase Default f = Opens f ⊎ Leading LeavesStates kinds.DefaultLeaves f

    list_case : (kind : ListKind) (f : FaultAt) → ListFault n s list kind f → ListCase kind f
    list_case _ _ (Open a last on) =
        let end = last.1 in inl (last.0, omega arith, (a, last.2, ((last.1, on), refl)))
    list_case _ _ (LeavesDefault a d l off) = inr (led LeavesStates kinds.DefaultLeaves a d l off)
    list_case _ _ (LeavesInner a d l off) = inl (led LeavesState kinds.InnerLeaves a d l off)
    list_case _ _ (CrossesInner a d l on ne) = inr (led StaysCrossing kinds.CrossesRegions a d l (on, ne))
    list_case _ _ (CrossesOuter a d l ne) = led (CrossesFrom Outer) kinds.CrossesRegions a d l ne

    list_fault : (kind : ListKind) (f : FaultAt) → ListCase kind f → ListFault n s list kind f
    list_fault Outer f h =
        subst (ListFault n s list Outer) (sym h.2.2.2.1)
        (CrossesOuter h.2.0 h.2.2.0 (record { has = (h.0, h.2.1); to = h.2.2.1 }) h.2.2.2.0)
    list_fault Inner f (inl h) =
        subst (ListFault n s list Inner) (sym h.2.2.2.1)
        (LeavesInner h.2.0 h.2.2.0 (record { has = (h.0, h.2.1); to = h.2.2.1 }) h.2.2.2.0)
    list_fault Inner f (inr h) =
        subst (ListFault n s list Inner) (sym h.2.2.2.1)
        (CrossesInner h.2.0 h.2.2.0 (record { has = (h.0, h.2.1); to = h.2.2.1 }) h.2.2.2.0.0 h.2.2.2.0.1)
    list_fault Default f (inl h) =
        subst (ListFault n s list Default) (sym h.2.2.1) (Open h.2.0 (h.0, h.2.2.0.0, h.2.1) h.2.2.0.1)
    list_fault Default f (inr h) =
        subst (ListFault n s list Default) (sym h.2.2.2.1)
        (LeavesDefault h.2.0 h.2.2.0 (record { has = (h.0, h.2.1); to = h.2.2.1 }) h.2.2.2.0)

    crosses : (kind : ListKind) (d : ℕ) → Decided (CrossesFrom kind d)
    crosses kind d =
        contrary (word_of n (home_of n.tree s kind d) ≡ Or) (is_or (word_of n (home_of n.tree s kind d)))

    cases_first : (kind : ListKind) → HasFirst (ListCase kind)
    cases_first Outer = leading (CrossesFrom Outer) kinds.CrossesRegions (crosses Outer)
    cases_first Inner =
        of_two (Leading LeavesState kinds.InnerLeaves) (Leading StaysCrossing kinds.CrossesRegions)
        (leading LeavesState kinds.InnerLeaves (λ d. holds (is_at_or_below n.tree d s) false))
        (leading StaysCrossing kinds.CrossesRegions
        (λ d. both (is_at_or_below n.tree d s ≡ true) (CrossesFrom Inner d) (holds (is_at_or_below n.tree d s) true)
        (crosses Inner d)))
    cases_first Default =
        of_two Opens (Leading LeavesStates kinds.DefaultLeaves) opens
        (leading LeavesStates kinds.DefaultLeaves (λ d. holds (is_below n.tree d s) false))

    list_first : (kind : ListKind) → HasFirst (ListFault n s list kind)
    list_first kind =
        like (ListCase kind) (ListFault n s list kind) (list_fault kind) (list_case kind) (cases_first kind)

module _ (n : Net) (net : IsNet n) where
  -- ---- what is reached

  reached_decided : (list : List Arrow) (j : ℕ) → Decided (Reached (links_of n) list j)
  reached_decided list j = at ((found n list).within j) refl
    where
      at : (b : Bool) → (found n list).within j ≡ b → Decided (Reached (links_of n) list j)
      at true e = inl ((found n list).sound j e)
      at false e = inr (λ r. let there = has_reached n list j r in absurd (cc (there, e)))

  -- what is reached from a list of a state is a junction
  reached_within : (s : ℕ) (kind : ListKind) (j : ℕ) → Reached (links_of n) (list_of n s kind) j → j < junction_count n
  reached_within s kind _ (Directly j l) =
      subst (IsDest n) l.leads
      (net.lists s kind l.trans (l.within.0, stands_at (list_of n s kind) l.trans l.within))
  reached_within s kind _ (Through k j r l) =
      subst (IsDest n) l.leads (net.junctions k l.trans (l.within.0, stands_at (junction_list n k) l.trans l.within))

  -- ---- the faults of the lists that are met from a list of a state

  abbrev AtReached : ℕ → ListKind → ℕ → FaultAt → Type 0
  AtReached s kind j f = Reached (links_of n) (list_of n s kind) j × ListFault n s (junction_list n j) kind f

  abbrev AtJunctions : ℕ → ListKind → FaultAt → Type 0
  AtJunctions s kind f = (j : ℕ) × (j < junction_count n) × AtReached s kind j f

  abbrev KindCase : ℕ → ListKind → FaultAt → Type 0
  KindCase s kind f = ListFault n s (list_of n s kind) kind f ⊎ AtJunctions s kind f

  kind_case : (s : ℕ) (kind : ListKind) (list : List Arrow) (f : FaultAt) → Meets (links_of n) (list_of n s kind) list
      → ListFault n s list kind f → KindCase s kind f
  kind_case s kind _ f Itself h = inl h
  kind_case s kind _ f (AtJunction j r) h = inr (j, reached_within s kind j r, (r, h))

  kind_fault : (s : ℕ) (kind : ListKind) (f : FaultAt) → s < state_count n.tree → KindCase s kind f → StructureFault n f
  kind_fault s kind f lt (inl h) = OfList s kind (list_of n s kind) f lt Itself h
  kind_fault s kind f lt (inr h) = OfList s kind (junction_list n h.0) f lt (AtJunction h.0 h.2.0) h.2.1

  kind_first : (s : ℕ) (kind : ListKind) → HasFirst (KindCase s kind)
  kind_first s kind =
      of_two (ListFault n s (list_of n s kind) kind) (AtJunctions s kind) (list_first n s (list_of n s kind) kind)
      (of_below (AtReached s kind)
      (λ j. where_holds (Reached (links_of n) (list_of n s kind) j) (ListFault n s (junction_list n j) kind)
      (reached_decided (list_of n s kind) j) (list_first n s (junction_list n j) kind))
      (junction_count n))

  -- ---- empty junctions

  abbrev IsEmptied : ℕ → ℕ → FaultAt → Type 0
  IsEmptied s j f = (Reached (links_of n) (list_of n s Default) j × (junction_list n j ≡ []))
      × (f ≡ at_place kinds.DefaultOpen (junction_name n j))

  abbrev Emptied : ℕ → FaultAt → Type 0
  Emptied s f = (j : ℕ) × (j < junction_count n) × IsEmptied s j f

  emptied : (s : ℕ) → HasFirst (Emptied s)
  emptied s = of_below (IsEmptied s)
      (λ j. where_holds (Reached (links_of n) (list_of n s Default) j × (junction_list n j ≡ []))
      (λ f. f ≡ at_place kinds.DefaultOpen (junction_name n j))
      (both (Reached (links_of n) (list_of n s Default) j) (junction_list n j ≡ [])
      (reached_decided (list_of n s Default) j)
      (is_empty (junction_list n j)))
      (of_one (at_place kinds.DefaultOpen (junction_name n j))))
      (junction_count n)

  -- ---- all faults

  abbrev Lasts : ℕ → FaultAt → Type 0
  Lasts s f = KindCase s Default f ⊎ Emptied s f

  abbrev Inners : ℕ → FaultAt → Type 0
  Inners s f = KindCase s Inner f ⊎ Lasts s f

  abbrev Lists : ℕ → FaultAt → Type 0
  Lists s f = KindCase s Outer f ⊎ Inners s f

  abbrev StateCase : ℕ → FaultAt → Type 0
  StateCase s f = StateFault n s f ⊎ Lists s f

  of_kind : (s : ℕ) (kind : ListKind) (f : FaultAt) → KindCase s kind f → Lists s f
  of_kind s Outer f h = inl h
  of_kind s Inner f h = inr (inl h)
  of_kind s Default f h = inr (inr (inl h))

  abbrev NetCase : FaultAt → Type 0
  NetCase f = (s : ℕ) × (s < state_count n.tree) × StateCase s f

  net_case : (f : FaultAt) → StructureFault n f → NetCase f
  net_case f (OfState s _ lt h) = (s, lt, inl h)
  net_case f (OfList s kind list _ lt m h) = (s, lt, inr (of_kind s kind f (kind_case s kind list f m h)))
  net_case _ (OfEmpty s j lt r none) =
      (s, lt, inr (inr (inr (inr (j, reached_within s Default j r, ((r, none), refl))))))

  state_fault : (s : ℕ) (f : FaultAt) → s < state_count n.tree → StateCase s f → StructureFault n f
  state_fault s f lt (inl h) = OfState s f lt h
  state_fault s f lt (inr (inl h)) = kind_fault s Outer f lt h
  state_fault s f lt (inr (inr (inl h))) = kind_fault s Inner f lt h
  state_fault s f lt (inr (inr (inr (inl h)))) = kind_fault s Default f lt h
  state_fault s f lt (inr (inr (inr (inr h)))) =
      subst (StructureFault n) (sym h.2.1) (OfEmpty s h.0 lt h.2.0.0 h.2.0.1)

  state_first : (s : ℕ) → HasFirst (StateCase s)
  state_first s =
      of_two (StateFault n s) (Lists s) (own_first n s)
      (of_two (KindCase s Outer) (Inners s) (kind_first s Outer)
      (of_two (KindCase s Inner) (Lasts s) (kind_first s Inner)
      (of_two (KindCase s Default) (Emptied s) (kind_first s Default) (emptied s))))

  -- there is a first fault of structure, or none
  pub structure_first : HasFirst (StructureFault n)
  structure_first =
      like NetCase (StructureFault n) (λ f h. state_fault h.0 f h.1 h.2) net_case
      (of_below StateCase state_first (state_count n.tree))
