-- Keeping the first fault, with one more.
use Rattle.std.proofs.Common.{◌≡◌, Option, Some, None, refl, sym, subst}
use Rattle.token_grammar.specs.declared.token.Span.{Span}
use Rattle.chart_tree.specs.declared.fault.FormKind.{FormKind}
use Rattle.chart_tree.specs.declared.first.FaultAt.{FaultAt}
use Rattle.chart_tree.specs.First.{at_place, kept, IsOne, Passed}
use Rattle.chart_tree.proofs.FirstLemmas.{kept_one, kept_new, kept_old}
use Rattle.chart_structure.specs.Tests.{with_fault}

-- ---- one that may be there

-- what is kept is one of the faults
pub with_fault_one : (F : FaultAt → Type 0) (o : Option FormKind) (at : Span) (first : Option FaultAt)
    → IsOne F first → ((k : FormKind) → o ≡ Some k → F (at_place k at)) → IsOne F (with_fault o at first)
with_fault_one F None at first a f = a
with_fault_one F (Some k) at first a f = kept_one F first (at_place k at) a (f k refl)

-- what was passed stays so
pub with_fault_old : (o : Option FormKind) (at : Span) (first : Option FaultAt) (f : FaultAt)
    → Passed first f → Passed (with_fault o at first) f
with_fault_old None at first f a = a
with_fault_old (Some k) at first f a = kept_old first (at_place k at) f a

-- the one more is passed
pub with_fault_new : (o : Option FormKind) (at : Span) (first : Option FaultAt) (k : FormKind)
    → o ≡ Some k → Passed (with_fault o at first) (at_place k at)
with_fault_new None at first k e = absurd cc
with_fault_new (Some x) at first k e =
    let same : x ≡ k = cc in
    subst (λ k. Passed (kept first (at_place x at)) (at_place k at)) same (kept_new first (at_place x at))

-- ---- one that is there

pub keep_one : (F : FaultAt → Type 0) (first next : Option FaultAt) (g : FaultAt)
    → next ≡ kept first g → IsOne F first → F g → IsOne F next
keep_one F first next g e one h = subst (IsOne F) (sym e) (kept_one F first g one h)

pub keep_old : (first next : Option FaultAt) (g f : FaultAt) → next ≡ kept first g → Passed first f → Passed next f
keep_old first next g f e h = subst (λ r. Passed r f) (sym e) (kept_old first g f h)

pub keep_new : (first next : Option FaultAt) (g : FaultAt) → next ≡ kept first g → Passed next g
keep_new first next g e = subst (λ r. Passed r g) (sym e) (kept_new first g)
