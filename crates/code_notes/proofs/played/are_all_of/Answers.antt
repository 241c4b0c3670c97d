use Rattle.std.proofs.Common.{◌≤◌, length, sym, subst}
use Rattle.code_language.specs.Code.{code_of, instructions}
use Rattle.code_results.proofs.CheckLemmas.{below_more, written_at}
use Rattle.code_notes.specs.Checked.{AreOf}
use Rattle.code_notes.specs.Views.{plan_of}
use Rattle.code_notes.proofs.CheckLemmas.{all_procs_of}
use Rattle.code_notes.proofs.played.are_all_of.Goals as goal

-- each one
pub returns : goal.returns
returns c h =
    all_procs_of (plan_of c.args.plan.now) c.args.plan.now.played.items c.args.raw.now c.loop-proc.proc
    (subst (λ l. length l ≤ c.loop-proc.proc) c.items-instrs-items.ensures c.loop-proc-test.false)
    c.loop-proc.invariant

-- one more
pub loop-proc-preserved : goal.loop-proc-preserved
loop-proc-preserved c =
    let raw = c.args.raw.now in
    let plan = c.args.plan.now in
    below_more (λ p. AreOf (plan_of plan) plan.played.items p (instructions (code_of raw).procedures p))
    c.loop-proc.proc c.loop-proc.invariant
    (subst (AreOf (plan_of plan) plan.played.items c.loop-proc.proc)
    (sym (written_at raw c.items-instrs-items.result.now c.loop-proc.proc c.instrs-item.result c.items.result.now
    c.items-instrs-items.ensures c.loop-proc-test.true c.instrs-item.is c.items.ensures))
    (c.are_of.ensures c.if-not-are_of.false))
