use Rattle.bound_prove.proofs.Evaluations.{nothing_looked}
use Rattle.bound_prove.proofs.Pieces.{stmt_at, stmt_ok}
use Rattle.bound_prove.proofs.lookup.Lookup.stmt_need.Goals as goal

pub returns-in-Assign : goal.returns-in-Assign
returns-in-Assign c =
    stmt_at c.args.self.now _ _ _ _ _ c.in-Assign.is
    (nothing_looked c.args.self.now _ _ _ _ c.nothing_needed.ensures (λ m. tt))

pub returns-in-Emit : goal.returns-in-Emit
returns-in-Emit c =
    stmt_at c.args.self.now _ _ _ _ _ c.in-Emit.is
    (nothing_looked c.args.self.now _ _ _ _ c.one_step.ensures (λ m. tt))

pub returns-in-Send : goal.returns-in-Send
returns-in-Send c = stmt_ok c.args.self.now _ _ _ _ _ c.in-Send.is c.send_need.ensures

pub returns-in-SendTo : goal.returns-in-SendTo
returns-in-SendTo c = stmt_ok c.args.self.now _ _ _ _ _ c.in-SendTo.is c.send_need-in-SendTo.ensures
