-- A resolved chart is sound, or has a first fault, which is one alone.
use Rattle.std.proofs.Common.{◌≡◌, ◌⊎◌, ◌≤◌, ◌<◌, ℕ, nat_eq, false, cond, List, [], Option, Some, None, refl, sym}
use Rattle.std.proofs.Common.{ap, ap₂, ◌∙◌, arith, inl, inr}
use Rattle.std.proofs.lemmas.Bool.{cases_lt}
use Rattle.std.proofs.lemmas.Bool.Decides.{nat_tests}
use Rattle.chart_tree.specs.declared.fault.FormKind.{FormKind}
use Rattle.chart_tree.specs.declared.fault.FormKind.TheVariants as kinds
use Rattle.chart_tree.specs.declared.first.FaultAt.{FaultAt}
use Rattle.chart_tree.specs.First.{at_place, IsFirst, comes_before, is_before}
use Rattle.chart_tree.specs.Form.{form_number}
use Rattle.chart_structure.specs.Net.{Net, name_of}
use Rattle.checked_chart.specs.declared.limits.TheConstants.{PAIR_LIMIT}
use Rattle.checked_chart.specs.declared.parts.ListKind.{ListKind}
use Rattle.chart_structure.specs.declared.net.Arrow.{Arrow}
use Rattle.chart_structure.specs.Structure.{StateFault, EmptyState, EmptyChart, Missing, Unwanted, UnwantedHistory}
use Rattle.chart_structure.specs.Structure.{ListFault, Open, LeavesDefault, LeavesInner, CrossesInner, CrossesOuter}
use Rattle.chart_structure.specs.Structure.{StructureFault, OfState, OfList, OfEmpty, PairFault, TooMany}
use Rattle.chart_structure.specs.Reached.{NetPairs}
use Rattle.chart_structure.proofs.PairLemmas.{one_number_of_net}
use Rattle.chart_structure.proofs.FaultLemmas.{structure_first}
use Rattle.resolved_tree.specs.Faults.{first_of, first_with}
use Rattle.resolved_tree.specs.Promise.{KeepsPromise}
use Rattle.resolved_tree.specs.Resolved.{Resolved}
use Rattle.resolved_tree.proofs.FirstLemmas.{none_found}
use Rattle.chart_types.specs.Types.{type_faults}
use Rattle.chart_check.specs.Nets.{net_of}
use Rattle.chart_check.proofs.NetLemmas.{is_net}
use Rattle.chart_check.specs.Check.{HasNoFaults, IsFirstOf, OfTypes, OfStructure, OfPairs}

-- ---- the order of faults

-- two triples, neither of which comes before the other one, are equal
record AreEqual (a b c x y z : ℕ) : Type 0 where
  first : a ≡ x
  second : b ≡ y
  third : c ≡ z

neither_before : (a b c x y z : ℕ) → comes_before a b c x y z ≡ false → comes_before x y z a b c ≡ false
    → AreEqual a b c x y z
unfolding comes_before
neither_before a b c x y z ab ba = record {
  first = grind (arith, nat_tests);
  second = grind (arith, nat_tests);
  third = grind (arith, nat_tests);
}

-- the kind of a fault of structure, by its number
abbrev kind_at : ℕ → FormKind
kind_at n =
    cond (nat_eq n 17) kinds.EmptyComposition (cond (nat_eq n 18) kinds.DefaultMissing
    (cond (nat_eq n 19) kinds.DefaultUnwanted (cond (nat_eq n 20) kinds.DefaultOpen
    (cond (nat_eq n 21) kinds.DefaultLeaves (cond (nat_eq n 22) kinds.InnerLeaves
    (cond (nat_eq n 23) kinds.CrossesRegions kinds.HistoryUnwanted))))))

-- the number of the fault gives its kind
abbrev HasKind : FaultAt → Type 0
HasKind f = kind_at (form_number f.kind) ≡ f.kind

state_kind : (n : Net) (s : ℕ) (f : FaultAt) → StateFault n s f → HasKind f
state_kind n s _ (EmptyState word childless) = refl
state_kind n s _ (EmptyChart root childless) = refl
state_kind n s _ (Missing word some empty) = refl
state_kind n s _ (Unwanted a word is) = refl
state_kind n s _ (UnwantedHistory at word is) = refl

list_kind : (n : Net) (s : ℕ) (list : List Arrow) (kind : ListKind) (f : FaultAt) → ListFault n s list kind f → HasKind f
list_kind n s list _ _ (Open a last on) = refl
list_kind n s list _ _ (LeavesDefault a d l off) = refl
list_kind n s list _ _ (LeavesInner a d l off) = refl
list_kind n s list _ _ (CrossesInner a d l on ne) = refl
list_kind n s list _ _ (CrossesOuter a d l ne) = refl

structure_kind : (n : Net) (f : FaultAt) → StructureFault n f → HasKind f
structure_kind n f (OfState s _ lt h) = state_kind n s f h
structure_kind n f (OfList s kind list _ lt m h) = list_kind n s list kind f h
structure_kind n _ (OfEmpty s j lt r empty) = refl

abbrev found_of : FormKind → ℕ → ℕ → FaultAt
found_of kind line column = record { kind = kind; at = record { line = line; column = column } }

-- two faults, neither of which is before the other one, are equal
same_fault : (f g : FaultAt) → HasKind f → HasKind g → is_before f g ≡ false → is_before g f ≡ false → f ≡ g
same_fault f g kf kg fg gf =
    let e = neither_before f.at.line f.at.column (form_number f.kind) g.at.line g.at.column (form_number g.kind) fg gf in
    let kind : f.kind ≡ g.kind = sym kf ∙ ap kind_at e.third ∙ kg in
    ap₂ (λ k l. found_of k l f.at.column) kind e.first ∙ ap (found_of g.kind g.at.line) e.second

-- the first fault of structure is one alone
one_of_structure : (n : Net) (f g : FaultAt) → IsFirst (StructureFault n) (Some f) → IsFirst (StructureFault n) (Some g)
    → f ≡ g
one_of_structure n f g a b =
    same_fault f g (structure_kind n f a.0) (structure_kind n g b.0) (b.1 f a.0) (a.1 g b.0)

-- so is a fault of the number of pairs
one_of_pairs : (n : Net) (f g : FaultAt) → PairFault n f → PairFault n g → f ≡ g
one_of_pairs n _ _ (TooMany count are over) (TooMany count' are' over') = refl

-- ---- the first fault

no_first : (r : Resolved) (f : FaultAt) → type_faults r ≡ [] → first_of (type_faults r) ≡ Some f → ⊥
unfolding first_of first_with
no_first r f none e =
    absurd (let same : first_of (type_faults r) ≡ None = ap first_of none in cc)

pub one_first : (r : Resolved) (f g : FaultAt) → IsFirstOf r f → IsFirstOf r g → f ≡ g
one_first r f g (OfTypes a) (OfTypes b) = cc
one_first r f g (OfTypes a) (OfStructure none b) = absurd (no_first r f none a)
one_first r f g (OfTypes a) (OfPairs none sound b) = absurd (no_first r f none a)
one_first r f g (OfStructure none a) (OfTypes b) = absurd (no_first r g none b)
one_first r f g (OfStructure none a) (OfStructure none' b) = one_of_structure (net_of r) f g a b
one_first r f g (OfStructure none a) (OfPairs none' sound b) = absurd (sound f a.0)
one_first r f g (OfPairs none sound a) (OfTypes b) = absurd (no_first r g none b)
one_first r f g (OfPairs none sound a) (OfStructure none' b) = absurd (sound g b.0)
one_first r f g (OfPairs none sound a) (OfPairs none' sound' b) = one_of_pairs (net_of r) f g a b

pub none_where_sound : (r : Resolved) (f : FaultAt) → HasNoFaults r → IsFirstOf r f → ⊥
none_where_sound r f s (OfTypes a) = no_first r f s.types a
none_where_sound r f s (OfStructure none a) = s.structure f a.0
none_where_sound r f s (OfPairs none sound a) = s.pairs f a

-- ---- sound, or a first fault

-- a net with few enough pairs has no fault of pairs
no_pair_fault : (n : Net) (count : ℕ) → ((other : ℕ) → NetPairs n other → other ≡ count) → count ≤ PAIR_LIMIT
    → (f : FaultAt) → PairFault n f → ⊥
no_pair_fault n count only few _ (TooMany other are over) = absurd (let same = only other are in omega arith)

pub sound_or_faulty : (r : Resolved) → KeepsPromise r → HasNoFaults r ⊎ ((f : FaultAt) × IsFirstOf r f)
sound_or_faulty r res = by_types (first_of (type_faults r)) refl
  where
    by_pairs : type_faults r ≡ [] → IsFirst (StructureFault (net_of r)) None → (count : ℕ) → NetPairs (net_of r) count
        → ((other : ℕ) → NetPairs (net_of r) other → other ≡ count) → (PAIR_LIMIT < count) ⊎ (count ≤ PAIR_LIMIT)
        → HasNoFaults r ⊎ ((f : FaultAt) × IsFirstOf r f)
    by_pairs types sound count are only (inl over) =
        inr (at_place kinds.TooManyPairs (name_of (net_of r) 0), OfPairs types sound (TooMany count are over))
    by_pairs types sound count are only (inr few) =
        inl (record { types = types; structure = sound; pairs = no_pair_fault (net_of r) count only few })

    by_structure : type_faults r ≡ [] → (o : Option FaultAt) → IsFirst (StructureFault (net_of r)) o
        → HasNoFaults r ⊎ ((f : FaultAt) × IsFirstOf r f)
    by_structure types (Some f) first = inr (f, OfStructure types first)
    by_structure types None first =
        let one = one_number_of_net (net_of r) in
        by_pairs types first one.0 one.1 one.2 (cases_lt PAIR_LIMIT one.0)

    by_types : (o : Option FaultAt) → first_of (type_faults r) ≡ o → HasNoFaults r ⊎ ((f : FaultAt) × IsFirstOf r f)
    by_types (Some f) e = inr (f, OfTypes e)
    by_types None e =
        let first = structure_first (net_of r) (is_net r res) in
        by_structure (none_found (type_faults r) e) first.0 first.1
