-- The faults of a list, and of the junctions that are reached from it.
use Rattle.std.proofs.Common.{◌≡◌, ◌≢◌, ℕ, ◌+◌, ◌-◌, ◌≤◌, ◌<◌, List, [], ◌∷◌, length, get_or, Option, Some, None}
use Rattle.std.proofs.Common.{Bool, true, false, cond, refl, sym, ap, ◌∙◌, subst, arith, ⊎_elim}
use Rattle.std.specs.Prelude.{◌↔◌, IsTrue, slice_get}
use Rattle.std.proofs.lemmas.Bool.{cases_lt}
use Rattle.std.proofs.lemmas.Option.{slice_get-get_or}
use Rattle.active_config.specs.Tree.{state_count, is_below}
use Rattle.chart_tree.specs.declared.fault.FormKind.TheVariants as kinds
use Rattle.chart_tree.specs.declared.first.FaultAt.{FaultAt}
use Rattle.chart_tree.specs.First.{at_place, IsOne, Passed}
use Rattle.checked_chart.specs.declared.parts.ListKind.{ListKind}
use Rattle.checked_chart.specs.declared.parts.ListKind.TheVariants.{Outer, Inner, Default}
use Rattle.checked_chart.specs.Reached.{Reached, Meets}
use Rattle.chart_structure.specs.declared.net.Arrow.{Arrow}
use Rattle.chart_structure.specs.Net.{Net, word_of, list_of, junction_list, junction_name}
use Rattle.chart_structure.specs.Marks.{IsIn}
use Rattle.chart_structure.specs.Reached.{links_of}
use Rattle.chart_structure.specs.Structure.{IsLast, ListFault, Open, LeavesDefault, LeavesInner, CrossesInner}
use Rattle.chart_structure.specs.Structure.{CrossesOuter, StructureFault, OfList, OfEmpty}
use Rattle.chart_structure.specs.Tests.{crossing}
use Rattle.chart_structure.proofs.DestLemmas.{DestsPassed, crossing_where}

-- ---- all faults of one list

-- the last transition's fault was passed
abbrev LastPassed : List Arrow → Option FaultAt → Type 0
LastPassed list r = (a : Arrow) → IsLast list a → a.«open» ≡ true → Passed r (at_place kinds.DefaultOpen a.at)

module _ (n : Net) (s : ℕ) (list : List Arrow) (r : Option FaultAt) where
  passed_outer : DestsPassed n s Outer list r → (f : FaultAt) → ListFault n s list Outer f → Passed r f
  passed_outer h _ (CrossesOuter a d l ne) =
      h a d kinds.CrossesRegions (record { leads = l; fault = crossing_where _ ne })

  passed_inner : DestsPassed n s Inner list r → (f : FaultAt) → ListFault n s list Inner f → Passed r f
  passed_inner h _ (LeavesInner a d l off) =
      h a d kinds.InnerLeaves (record {
        leads = l;
        fault = ap (λ b. cond b (crossing (word_of n s)) (Some kinds.InnerLeaves)) off;
      })
  passed_inner h _ (CrossesInner a d l on ne) =
      h a d kinds.CrossesRegions (record {
        leads = l;
        fault = ap (λ b. cond b (crossing (word_of n s)) (Some kinds.InnerLeaves)) on ∙ crossing_where _ ne;
      })

  passed_default : DestsPassed n s Default list r → LastPassed list r
      → (f : FaultAt) → ListFault n s list Default f → Passed r f
  passed_default h g _ (Open a last is) = g a last is
  passed_default h g _ (LeavesDefault a d l off) =
      h a d kinds.DefaultLeaves (record {
        leads = l;
        fault = ap (λ b. cond b None (Some kinds.DefaultLeaves)) off;
      })

-- all faults of a list were passed where those of its destinations and of its last transition were
pub list_passed : (n : Net) (s : ℕ) (list : List Arrow) (r : Option FaultAt) (kind : ListKind)
    → DestsPassed n s kind list r
    → (kind ≡ Default → (a : Arrow) → IsLast list a → a.«open» ≡ true → Passed r (at_place kinds.DefaultOpen a.at))
    → (f : FaultAt) → ListFault n s list kind f → Passed r f
list_passed n s list r Outer h g f x = passed_outer n s list r h f x
list_passed n s list r Inner h g f x = passed_inner n s list r h f x
list_passed n s list r Default h g f x = passed_default n s list r h (g refl) f x

-- ---- the last transition

pub some_length : (list : List Arrow) → (list ≡ [] → ⊥) → 0 < length list
some_length [] h = absurd (h refl)
some_length (x ∷ xs) h = omega arith

-- a list that the test finds not empty isn't
pub is_empty_false : (list : List Arrow) (b : Bool) → IsTrue b ↔ (list ≡ []) → b ≡ false → list ≡ [] → ⊥
is_empty_false list b h e f = let g = h.1 f in absurd cc

last_at : (list : List Arrow) (d : Arrow) → 0 < length list
    → slice_get list (length list - 1) ≡ Some (get_or list (length list - 1) d)
last_at list d lt = slice_get-get_or list (length list - 1) d (omega arith)

pub last_is : (list : List Arrow) (d a : Arrow) → 0 < length list → IsLast list a
    → get_or list (length list - 1) d ≡ a
last_is list d a lt h =
    let e : h.0 ≡ length list - 1 = (let f = h.1 in omega arith) in
    let g = last_at list d lt in
    let k : slice_get list h.0 ≡ slice_get list (length list - 1) = ap (slice_get list) e in
    let m = h.2 in
    cc

pub last_fault : (n : Net) (s : ℕ) (list : List Arrow) (d : Arrow) → s < state_count n.tree
    → Meets (links_of n) (list_of n s Default) list → 0 < length list → (get_or list (length list - 1) d).«open» ≡ true
    → StructureFault n (at_place kinds.DefaultOpen (get_or list (length list - 1) d).at)
last_fault n s list d lt met some on =
    OfList s Default list _ lt met
    (Open (get_or list (length list - 1) d) (length list - 1, omega arith, last_at list d some) on)

pub not_open : (x a : Arrow) → x ≡ a → x.«open» ≡ false → a.«open» ≡ true → ⊥
not_open x a e f g = absurd (let h = ap (λ (y : Arrow). y.«open») e in cc)

-- ---- junctions

-- an empty junction that is reached from a default list is a fault
pub empty_fault : (n : Net) (s j : ℕ) (kind : ListKind) (list : List Arrow) → s < state_count n.tree
    → kind ≡ Default → Reached (links_of n) (list_of n s kind) j → list ≡ junction_list n j → list ≡ []
    → StructureFault n (at_place kinds.DefaultOpen (junction_name n j))
empty_fault n s j kind list lt d r e f =
    OfEmpty s j lt (subst (λ k. Reached (links_of n) (list_of n s k) j) d r) (sym e ∙ f)

-- what is known when the first i junctions were looked at
pub record JunctionsSoFar (n : Net) (s : ℕ) (kind : ListKind) (found : List ℕ) (i : ℕ) (first kept : Option FaultAt)
    : Type 0 where
  pub one : IsOne (StructureFault n) kept
  pub old : (f : FaultAt) → Passed first f → Passed kept f
  pub new : (k : ℕ) → k < i → (f : FaultAt) → ListFault n s (junction_list n (get_or found k 0)) kind f → Passed kept f
  pub empty : kind ≡ Default → (k : ℕ) → k < i → junction_list n (get_or found k 0) ≡ []
      → Passed kept (at_place kinds.DefaultOpen (junction_name n (get_or found k 0)))

module _ (n : Net) (s : ℕ) (kind : ListKind) (found : List ℕ) where
  pub junctions_start : (first : Option FaultAt) → IsOne (StructureFault n) first
      → JunctionsSoFar n s kind found 0 first first
  junctions_start first one = record {
    one = one;
    old = λ f h. h;
    new = λ k lt. absurd (omega arith);
    empty = λ d k lt. absurd (omega arith);
  }

  -- one junction more
  pub junctions_more : (i : ℕ) (first kept next : Option FaultAt) → JunctionsSoFar n s kind found i first kept
      → IsOne (StructureFault n) next → ((f : FaultAt) → Passed kept f → Passed next f)
      → ((f : FaultAt) → ListFault n s (junction_list n (get_or found i 0)) kind f → Passed next f)
      → (kind ≡ Default → junction_list n (get_or found i 0) ≡ []
      → Passed next (at_place kinds.DefaultOpen (junction_name n (get_or found i 0))))
      → JunctionsSoFar n s kind found (i + 1) first next
  junctions_more i first kept next so one old new empty = record {
    one = one;
    old = λ f h. old f (so.old f h);
    new = λ k lt f h. ⊎_elim (λ below. old f (so.new k below f h))
        (λ here. let same : k ≡ i = omega arith in
        new f (subst (λ m. ListFault n s (junction_list n (get_or found m 0)) kind f) same h)) (cases_lt k i);
    empty = λ d k lt h. ⊎_elim (λ below. old _ (so.empty d k below h))
        (λ here. let same : i ≡ k = omega arith in
        subst (λ m. Passed next (at_place kinds.DefaultOpen (junction_name n (get_or found m 0)))) same
        (empty d (subst (λ m. junction_list n (get_or found m 0) ≡ []) (sym same) h))) (cases_lt k i);
  }

  pub junctions_new : (i : ℕ) (first kept : Option FaultAt) → length found ≤ i
      → JunctionsSoFar n s kind found i first kept
      → (j : ℕ) → IsIn found j → (f : FaultAt) → ListFault n s (junction_list n j) kind f → Passed kept f
  junctions_new i first kept le so j at f h =
      so.new at.0 (omega (arith, at.1)) f (subst (λ m. ListFault n s (junction_list n m) kind f) (sym at.2) h)

  pub junctions_empty : (i : ℕ) (first kept : Option FaultAt) → length found ≤ i
      → JunctionsSoFar n s kind found i first kept
      → kind ≡ Default → (j : ℕ) → IsIn found j → junction_list n j ≡ []
      → Passed kept (at_place kinds.DefaultOpen (junction_name n j))
  junctions_empty i first kept le so d j at h =
      subst (λ m. Passed kept (at_place kinds.DefaultOpen (junction_name n m))) at.2
      (so.empty d at.0 (omega (arith, at.1)) (subst (λ m. junction_list n m ≡ []) (sym at.2) h))
