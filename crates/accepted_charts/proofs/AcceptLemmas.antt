-- What a text spells can be resolved, its resolved chart can be checked, and what is accepted is valid.
use Rattle.std.proofs.Common.{List, ℕ, Result, Ok, Err, IfErr}
use Rattle.chart_tree.specs.declared.fault.FormFault.{FormFault}
use Rattle.chart_tree.specs.declared.fault.FormFault.TheVariants as faults
use Rattle.chart_tree.specs.Trees.{Chart}
use Rattle.chart_reader.specs.Text.{Spells}
use Rattle.chart_format.proofs.Formatted.{spelled_has}
use Rattle.checked_chart.specs.Chart as plain
use Rattle.checked_chart.specs.Valid.{IsValid}
use Rattle.resolved_tree.specs.Promise as promise
use Rattle.resolved_tree.specs.Resolved.{Resolved}
use Rattle.chart_scope.specs.Names as names
use Rattle.chart_scope.specs.Resolution.{IsResolved}
use Rattle.chart_check.specs.Check as check
use Rattle.accepted_charts.proofs.PromiseLemmas.{keeps_promise}
use Rattle.chart_check.proofs.PassLemmas.{sound_valid}
use Rattle.accepted_charts.specs.Accepted.{IsAccepted, Refuses, OfNames, OfChart}

-- the resolved chart of a text keeps the promise of resolved charts
pub promised : (text : List ℕ) (c : Chart) (r : Resolved) → Spells text c → IsResolved c r → promise.KeepsPromise r
promised text c r spells h = keeps_promise c r (spelled_has text c spells) h.resolves h.faultless

-- a fault of the names of a text is its first fault
pub of_names : (text : List ℕ) (c : Chart) (fault : FormFault) → Spells text c → names.Refuses c fault → Refuses text fault
of_names text c (faults.At kind at) spells h = OfNames c spells h
of_names text c faults.Memory spells h = tt

-- the first fault of the resolved chart of a text is the first fault of the text
pub of_chart : (text : List ℕ) (c : Chart) (r : Resolved) (fault : FormFault) → Spells text c → IsResolved c r
    → check.Refuses r fault → Refuses text fault
of_chart text c r (faults.At kind at) spells h f = OfChart r (record { tree = c; spells = spells; resolves = h }) f
of_chart text c r faults.Memory spells h f = tt

-- so is an answer
pub refused : {A : Type 0} (text : List ℕ) (c : Chart) (r : Resolved) (result : Result A FormFault) → Spells text c → IsResolved c r
    → IfErr result (check.Refuses r) → IfErr result (Refuses text)
refused text c r (Ok x) spells h f = tt
refused text c r (Err fault) spells h f = of_chart text c r fault spells h f

-- what is accepted is valid: its resolved chart keeps the promise, and is sound
pub accepted_valid : (text : List ℕ) (c : plain.Chart) → IsAccepted text c → IsValid c
accepted_valid text c a =
    let keeps = promised text a.read.tree a.resolved a.read.spells a.read.resolves in
    sound_valid a.resolved c keeps a.checked.sound a.checked.chart
