-- Sets of worlds, and how work may end.
use Rattle.std.specs.Prelude.{◌≡◌, ℕ, true, false, List, Some, slice_get, slice_index_or}
use Rattle.flow_base.specs.declared.fault.Fault.{Fault}
use Rattle.flow_base.specs.declared.fault.Fault.TheVariants as faults
use Rattle.actions.specs.Data.{datum}
use Rattle.actions.specs.Names.{Names}
use Rattle.actions.specs.Work.{Run, Ended, Faulted, Unfinished}
use Rattle.actions.specs.World.{World}
use Rattle.range_rules.specs.declared.cert.Around.{Around}
use Rattle.range_rules.specs.declared.cert.Certificate.{Certificate}
use Rattle.range_spans.specs.Spans.{IsIn}
use Rattle.range_spans.specs.Boxes.{Box, box_of, IsBox}

-- the span in which each datum is at each moment
abbrev pub always_of : Certificate → Box
always_of cert = box_of cert.always.items

-- a world of a set: what is active and remembered is the set's, and each datum is in its span
pub record Stands (n : Names) (cert : Certificate) (x : Around) (w : World) : Type 0 where
  pub config : w.marks ≡ x.config
  pub data_in : IsBox n (always_of cert) (box_of x.spans.items) w.vals

-- a world of one of the sets of a list
pub record IsAmong (n : Names) (cert : Certificate) (xs : List Around) (w : World) : Type 0 where
  pub place : ℕ
  pub set : Around
  pub is : slice_get xs place ≡ Some set
  pub stands : Stands n cert set w

-- a fault that there may be
abbrev pub MayBe : Certificate → Fault → Type 0
MayBe cert faults.Depth = Unit {0}
MayBe cert faults.Steps = Unit {0}
MayBe cert faults.Zero = cert.zero ≡ true
MayBe cert (faults.Overflow v) = slice_index_or cert.over.items v false ≡ true

-- each datum is in the span in which it is at each moment
abbrev pub AreAlways : Certificate → World → Type 0
AreAlways cert w = (v : ℕ) → IsIn (always_of cert v) (datum w.vals v).mantissa

-- Work ends with an answer and in a world that are among some, or with a fault that there may be. Of work that isn't
-- over nothing is said.
abbrev pub EndsIn : {A : Type 0} → Certificate → (A → World → Type 0) → Run A → Type 0
EndsIn cert ends (Ended a w) = ends a w
EndsIn cert ends (Faulted fault w) = MayBe cert fault × AreAlways cert w
EndsIn cert ends Unfinished = Unit {0}
