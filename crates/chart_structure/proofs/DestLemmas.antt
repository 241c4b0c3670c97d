-- The faults of the destinations of a list.
use Rattle.std.proofs.Common.{◌≡◌, ◌≢◌, ℕ, zero, suc, ◌+◌, ◌≤◌, ◌<◌, List, [], ◌∷◌, length, Option, Some, None}
use Rattle.std.proofs.Common.{Bool, true, false, cond, refl, sym, ap, ◌∙◌, subst, arith, ⊎_elim}
use Rattle.std.specs.Prelude.{slice_get}
use Rattle.std.proofs.lemmas.Bool.{cases_lt}
use Rattle.std.proofs.lemmas.Option.{slice_get_within}
use Rattle.token_grammar.specs.declared.token.Span.{Span}
use Rattle.active_config.specs.declared.comp.Comp.{Comp}
use Rattle.active_config.specs.declared.comp.Comp.TheVariants.{Leaf, Or, And}
use Rattle.active_config.specs.Tree.{state_count, is_below, is_at_or_below}
use Rattle.chart_tree.specs.declared.fault.FormKind.{FormKind}
use Rattle.chart_tree.specs.declared.fault.FormKind.TheVariants as kinds
use Rattle.chart_tree.specs.declared.first.FaultAt.{FaultAt}
use Rattle.chart_tree.specs.First.{at_place, IsOne, Passed}
use Rattle.checked_chart.specs.declared.parts.Dest.{Dest}
use Rattle.checked_chart.specs.declared.parts.Dest.TheVariants.{State, Junction}
use Rattle.checked_chart.specs.declared.parts.ListKind.{ListKind}
use Rattle.checked_chart.specs.declared.parts.ListKind.TheVariants.{Outer, Inner, Default}
use Rattle.checked_chart.specs.Homes.{home_of}
use Rattle.checked_chart.specs.Reached.{Meets}
use Rattle.chart_structure.specs.declared.net.Arrow.{Arrow}
use Rattle.chart_structure.specs.Net.{Net, word_of, list_of}
use Rattle.chart_structure.specs.Reached.{links_of}
use Rattle.chart_structure.specs.Structure.{Leads, ListFault, LeavesDefault, LeavesInner, CrossesInner, CrossesOuter}
use Rattle.chart_structure.specs.Structure.{StructureFault, OfList}
use Rattle.chart_structure.specs.Tests.{crossing, dest_fault, IsDestFault, with_dest}
use Rattle.chart_structure.proofs.KeepLemmas.{with_fault_one, with_fault_old, with_fault_new}

-- ---- the test of one destination

-- what the test of a home finds is that it isn't an OR
crossing_is : (w : Comp) (k : FormKind) → crossing w ≡ Some k → (w ≢ Or) × (k ≡ kinds.CrossesRegions)
crossing_is Leaf k e = ((λ f. absurd cc), cc)
crossing_is Or k e = absurd cc
crossing_is And k e = ((λ f. absurd cc), cc)

-- and it finds that
pub crossing_where : (w : Comp) → w ≢ Or → crossing w ≡ Some kinds.CrossesRegions
crossing_where Leaf ne = refl
crossing_where Or ne = absurd (ne refl)
crossing_where And ne = refl

module _ (n : Net) (s : ℕ) (list : List Arrow) (a : Arrow) (d : ℕ) (l : Leads list a d) where
  -- what the test finds is a fault of the list
  list_fault_of : (kind : ListKind) (k : FormKind) → dest_fault n s kind d ≡ Some k
      → ListFault n s list kind (at_place k a.to_at)
  list_fault_of Outer k e =
      let h = crossing_is (word_of n (home_of n.tree s Outer d)) k e in
      subst (λ k. ListFault n s list Outer (at_place k a.to_at)) (sym h.1) (CrossesOuter a d l h.0)
  list_fault_of Inner k e = go (is_at_or_below n.tree d s) refl e
    where
      go : (b : Bool) → is_at_or_below n.tree d s ≡ b
          → cond b (crossing (word_of n s)) (Some kinds.InnerLeaves) ≡ Some k
          → ListFault n s list Inner (at_place k a.to_at)
      go true f e =
          let h = crossing_is (word_of n s) k e in
          subst (λ k. ListFault n s list Inner (at_place k a.to_at)) (sym h.1) (CrossesInner a d l f h.0)
      go false f e =
          let same : kinds.InnerLeaves ≡ k = cc in
          subst (λ k. ListFault n s list Inner (at_place k a.to_at)) same (LeavesInner a d l f)
  list_fault_of Default k e = go (is_below n.tree d s) refl e
    where
      go : (b : Bool) → is_below n.tree d s ≡ b → cond b None (Some kinds.DefaultLeaves) ≡ Some k
          → ListFault n s list Default (at_place k a.to_at)
      go true f e = absurd cc
      go false f e =
          let same : kinds.DefaultLeaves ≡ k = cc in
          subst (λ k. ListFault n s list Default (at_place k a.to_at)) same (LeavesDefault a d l f)

-- ---- all destinations of a list

-- each destination's fault was passed
abbrev pub DestsPassed : Net → ℕ → ListKind → List Arrow → Option FaultAt → Type 0
DestsPassed n s kind list r =
    (a : Arrow) (d : ℕ) (wrong : FormKind) → IsDestFault n s kind list a d wrong → Passed r (at_place wrong a.to_at)

-- what is known when the first i transitions of a list were looked at
pub record DestsSoFar (n : Net) (s : ℕ) (kind : ListKind) (list : List Arrow) (i : ℕ) (first kept : Option FaultAt)
    : Type 0 where
  pub one : IsOne (StructureFault n) kept
  pub old : (f : FaultAt) → Passed first f → Passed kept f
  pub new : (k d : ℕ) (a : Arrow) (wrong : FormKind) → k < i → slice_get list k ≡ Some a → a.to ≡ State d
      → dest_fault n s kind d ≡ Some wrong → Passed kept (at_place wrong a.to_at)

module _ (n : Net) (s : ℕ) (kind : ListKind) (list : List Arrow) where
  pub dests_start : (first : Option FaultAt) → IsOne (StructureFault n) first
      → DestsSoFar n s kind list 0 first first
  dests_start first one = record { one = one; old = λ f h. h; new = λ k d a w lt. absurd (omega arith) }

  with_dest_one : (to : Dest) (at : Span) (first : Option FaultAt) → IsOne (StructureFault n) first
      → ((d : ℕ) (k : FormKind) → to ≡ State d → dest_fault n s kind d ≡ Some k → StructureFault n (at_place k at))
      → IsOne (StructureFault n) (with_dest n s kind to at first)
  with_dest_one (State d) at first one f =
      with_fault_one (StructureFault n) (dest_fault n s kind d) at first one (λ k e. f d k refl e)
  with_dest_one (Junction j) at first one f = one

  with_dest_old : (to : Dest) (at : Span) (first : Option FaultAt) (f : FaultAt) → Passed first f
      → Passed (with_dest n s kind to at first) f
  with_dest_old (State d) at first f h = with_fault_old (dest_fault n s kind d) at first f h
  with_dest_old (Junction j) at first f h = h

  with_dest_new : (to : Dest) (at : Span) (first : Option FaultAt) (d : ℕ) (k : FormKind) → to ≡ State d
      → dest_fault n s kind d ≡ Some k → Passed (with_dest n s kind to at first) (at_place k at)
  with_dest_new (State x) at first d k e f =
      let same : d ≡ x = cc in
      with_fault_new (dest_fault n s kind x) at first k (subst (λ m. dest_fault n s kind m ≡ Some k) same f)
  with_dest_new (Junction x) at first d k e f = absurd cc

  -- one transition more
  pub dests_more : (i : ℕ) (first kept next : Option FaultAt) (x : Arrow) → DestsSoFar n s kind list i first kept
      → s < state_count n.tree → Meets (links_of n) (list_of n s kind) list → slice_get list i ≡ Some x
      → next ≡ with_dest n s kind x.to x.to_at kept → DestsSoFar n s kind list (i + 1) first next
  dests_more i first kept next x so lt met is e = subst (DestsSoFar n s kind list (i + 1) first) (sym e) (record {
    one = with_dest_one x.to x.to_at kept so.one
        (λ d k to wrong. OfList s kind list _ lt met
        (list_fault_of n s list x d (record { has = (i, is); to = to }) kind k wrong));
    old = λ f h. with_dest_old x.to x.to_at kept f (so.old f h);
    new = λ k d a wrong le at to fault. ⊎_elim
        (λ old. with_dest_old x.to x.to_at kept _ (so.new k d a wrong old at to fault))
        (λ here. let same : k ≡ i = omega arith in
        let y : x ≡ a = (let z = ap (slice_get list) same in cc) in
        subst (λ m. Passed (with_dest n s kind x.to x.to_at kept) (at_place wrong m)) (ap (λ (b : Arrow). b.to_at) y)
        (with_dest_new x.to x.to_at kept d wrong (ap (λ (b : Arrow). b.to) y ∙ to) fault))
        (cases_lt k i);
  })

  -- at the end of the list each was passed
  pub dests_all : (i : ℕ) (first kept : Option FaultAt) → length list ≤ i → DestsSoFar n s kind list i first kept
      → DestsPassed n s kind list kept
  dests_all i first kept le so a d wrong f =
      let lt = slice_get_within list f.leads.has.0 a f.leads.has.1 in
      so.new f.leads.has.0 d a wrong (omega arith) f.leads.has.1 f.leads.to f.fault
