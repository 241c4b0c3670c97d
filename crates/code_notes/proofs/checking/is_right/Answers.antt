use Rattle.std.proofs.Common.{◌≤◌, length, sym, subst}
use Rattle.code_language.specs.Code.{code_of, instructions}
use Rattle.code_results.proofs.CheckLemmas.{below_more, written_at}
use Rattle.code_notes.specs.Checked.{AreRight}
use Rattle.code_notes.specs.Views.{plan_of}
use Rattle.code_notes.proofs.CheckLemmas.{all_procs_right}
use Rattle.code_notes.proofs.checking.is_right.Goals as goal

-- the plan is right
pub returns : goal.returns
returns c h =
    let begins = c.if-not-begins_right.false in
    record {
      each = all_procs_right (plan_of c.args.plan.now) c.args.raw.now c.loop-proc.proc
          (subst (λ l. length l ≤ c.loop-proc.proc) c.items-instrs-items.ensures c.loop-proc-test.false)
          c.loop-proc.invariant;
      start = c.begins_right.ensures.start begins;
      react = c.begins_right.ensures.react begins;
      players = c.begins_right.ensures.players begins;
      result = c.begins_right.ensures.zero begins;
    }

-- one more procedure is right
pub loop-proc-preserved : goal.loop-proc-preserved
loop-proc-preserved c =
    let raw = c.args.raw.now in
    below_more (λ p. AreRight (plan_of c.args.plan.now) p (instructions (code_of raw).procedures p)) c.loop-proc.proc
    c.loop-proc.invariant
    (subst (AreRight (plan_of c.args.plan.now) c.loop-proc.proc)
    (sym (written_at raw c.items-instrs-items.result.now c.loop-proc.proc c.instrs-item.result c.items.result.now
    c.items-instrs-items.ensures c.loop-proc-test.true c.instrs-item.is c.items.ensures))
    (c.is_procedure_right.ensures c.if-not-is_procedure_right.false))
