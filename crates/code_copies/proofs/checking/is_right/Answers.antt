use Rattle.std.proofs.Common.{◌≡◌, ℕ, ◌<◌, ◌≤◌, true, Some, refl, sym, ap, ◌∙◌, subst, arith, length}
use Rattle.std.specs.Prelude.{slice_get}
use Rattle.code_language.specs.Code.{code_of}
use Rattle.code_language.specs.declared.limits.TheConstants.{PROC_LIMIT}
use Rattle.code_copies.specs.Views.{plan_of}
use Rattle.code_copies.specs.Made.{PlanIsRight}
use Rattle.code_copies.specs.Rooted.{NeverClears, IsRooted}
use Rattle.code_copies.specs.declared.plan.ProcedureCopy.{ProcedureCopy}
use Rattle.code_copies.proofs.CheckLemmas.{plan_right}
use Rattle.code_copies.proofs.checking.is_right.Goals as goal
use Rattle.code_copies.proofs.checking.is_right.Goals.{then-serve_entries, else-serve_entries}

-- each part of it was looked at
pub returns-then-are_in_order : goal.returns-then-are_in_order
returns-then-are_in_order c t =
    elim c.if-serve_entries.branch [
      | then-serve_entries w ↦
          let same = w.deref.ensures.value in
          let count = ap length same in
          let order =
          subst (λ cs. (i j : ℕ) (a b : ProcedureCopy) → slice_get cs i ≡ Some a → slice_get cs j ≡ Some b
          → a.key.proc < b.key.proc → i < j) same
          (w.are_in_order.ensures (sym w.value-is ∙ c.if-are_in_order.true)) in
          let few : length c.args.plan.now.copies.items ≤ PROC_LIMIT =
          omega (arith, count, w.deref.ensures.len, c.len.ensures, c.if-len-gt-PROC_LIMIT.false) in
          let root =
          subst (λ raw. (c.args.plan.now.keeps_root ≡ true → NeverClears (code_of raw).procedures)
          × (c.args.plan.now.is_rooted ≡ true → (c.args.plan.now.keeps_root ≡ true) × IsRooted (code_of raw)))
          (sym c.raw-raw.ensures.raw) (c.if-not-is_root_right.ensures refl) in
          subst (λ raw. PlanIsRight (plan_of c.args.plan.now) (code_of raw)) c.raw-raw.ensures.raw
          (plan_right c.args.plan.now c.raw-raw.result.now few (w.if-serve_entries.ensures refl) order
          (c.are_copies_right.ensures t) root)
      | else-serve_entries w ↦ absurd (cc)
    ]
