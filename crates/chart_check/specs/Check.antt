-- Which resolved charts are accepted, and the first fault of another one.
use Rattle.std.specs.Prelude.{◌≡◌, [], Option, Some, None}
use Rattle.chart_tree.specs.declared.fault.FormFault.{FormFault}
use Rattle.chart_tree.specs.declared.fault.FormFault.TheVariants as faults
use Rattle.chart_tree.specs.declared.first.FaultAt.{FaultAt}
use Rattle.chart_tree.specs.First.{IsFirst, at_place}
use Rattle.chart_structure.specs.Structure.{StructureFault, PairFault}
use Rattle.resolved_tree.specs.Faults.{first_of}
use Rattle.resolved_tree.specs.Plain.{chart_of}
use Rattle.resolved_tree.specs.Resolved.{Resolved}
use Rattle.checked_chart.specs.Chart.{Chart}
use Rattle.chart_types.specs.Types.{type_faults}
use Rattle.chart_check.specs.Nets.{net_of}

-- a resolved chart without faults of types, of structure, and of the number of pairs
pub record HasNoFaults (r : Resolved) : Type 0 where
  pub types : type_faults r ≡ []
  pub structure : (f : FaultAt) → StructureFault (net_of r) f → ⊥
  pub pairs : (f : FaultAt) → PairFault (net_of r) f → ⊥

-- a resolved chart without faults, and the chart for which it stands
pub record IsChecked (r : Resolved) (c : Chart) : Type 0 where
  pub sound : HasNoFaults r
  pub chart : c ≡ chart_of r

-- the first fault of a resolved chart: of its types, else of its structure, else of the number of its pairs
pub data IsFirstOf (r : Resolved) (f : FaultAt) : Type 0 where
  OfTypes : first_of (type_faults r) ≡ Some f → IsFirstOf r f
  OfStructure : type_faults r ≡ [] → IsFirst (StructureFault (net_of r)) (Some f) → IsFirstOf r f
  OfPairs : type_faults r ≡ [] → IsFirst (StructureFault (net_of r)) None → PairFault (net_of r) f → IsFirstOf r f

-- what is answered where the first fault of a resolved chart is asked for
abbrev pub IsAnswer : Resolved → Option FaultAt → Type 0
IsAnswer r None = HasNoFaults r
IsAnswer r (Some f) = IsFirstOf r f

-- a resolved chart is refused with its first fault, or memory ran out
abbrev pub Refuses : Resolved → FormFault → Type 0
Refuses r (faults.At kind at) = IsFirstOf r (at_place kind at)
Refuses r faults.Memory = Unit {0}
