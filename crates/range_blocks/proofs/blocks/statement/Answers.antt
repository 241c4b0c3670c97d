use Rattle.std.proofs.Common.{ap, None, Some}
use Rattle.actions.specs.Exprs as exprs
use Rattle.actions.specs.Trees.{expr_of, stmt_of}
use Rattle.sos_rules.specs.Searches as rules
use Rattle.range_blocks.specs.Ends.{life_of}
use Rattle.range_blocks.proofs.BlockLemmas.{statement_same, done_leads, emitted_leads, sent_leads}
use Rattle.range_blocks.proofs.blocks.statement.Goals as goal

pub returns-in_ok-ends-in-Assign : goal.returns-in_ok-ends-in-Assign
returns-in_ok-ends-in-Assign c =
    statement_same _ _ (life_of c.args.life) (stmt_of c.args.stmt.now)
    (exprs.Assign c.in-Assign.datum (expr_of c.in-Assign.expr)) c.args.now c.done.result (ap stmt_of c.in-Assign.is)
    (done_leads _ _ c.done.result (λ b n depth. rules.assign c.in-Assign.datum (expr_of c.in-Assign.expr)) _
    c.done.ensures.done c.in_ok-ends-in-Assign.ensures)

pub returns-in-Emit : goal.returns-in-Emit
returns-in-Emit c =
    statement_same _ _ (life_of c.args.life) (stmt_of c.args.stmt.now) (exprs.Emit c.in-Emit.field-0) c.args.now
    c.done-in-Emit.result (ap stmt_of c.in-Emit.is)
    (emitted_leads _ _ c.done-in-Emit.result c.in-Emit.field-0 c.done-in-Emit.ensures.done)

pub returns-in_ok-ran-in-Send : goal.returns-in_ok-ran-in-Send
returns-in_ok-ran-in-Send c =
    statement_same _ _ (life_of c.args.life) (stmt_of c.args.stmt.now) (exprs.Send c.in-Send.event) c.args.now
    c.in_ok-ran-in-Send.ran (ap stmt_of c.in-Send.is)
    (sent_leads _ c.args.life _ c.in_ok-ends-in-Send.ends.items c.in-Send.event None c.args.now c.in_ok-ran-in-Send.ran
    c.in_ok-ends-in-Send.ensures c.in_ok-ran-in-Send.ensures)

pub returns-in_ok-ran-in-SendTo : goal.returns-in_ok-ran-in-SendTo
returns-in_ok-ran-in-SendTo c =
    statement_same _ _ (life_of c.args.life) (stmt_of c.args.stmt.now)
    (exprs.SendTo c.in-SendTo.event c.in-SendTo.state) c.args.now c.in_ok-ran-in-SendTo.ran (ap stmt_of c.in-SendTo.is)
    (sent_leads _ c.args.life _ c.in_ok-ends-in-SendTo.ends.items c.in-SendTo.event (Some c.in-SendTo.state) c.args.now
    c.in_ok-ran-in-SendTo.ran c.in_ok-ends-in-SendTo.ensures c.in_ok-ran-in-SendTo.ensures)
