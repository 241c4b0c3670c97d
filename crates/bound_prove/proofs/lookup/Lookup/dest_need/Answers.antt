use Rattle.std.proofs.Common.{ap, ◌∙◌}
use Rattle.bound_prove.specs.Needs.{in_turn}
use Rattle.bound_prove.proofs.Evaluations.{nothing_looked, step_evaluated}
use Rattle.bound_prove.proofs.Pieces.{dest_at}
use Rattle.bound_prove.proofs.lookup.Lookup.dest_need.Goals as goal

pub returns-in-State : goal.returns-in-State
returns-in-State c =
    dest_at c.args.self.now _ _ _ _ _ c.in-State.is
    (nothing_looked c.args.self.now _ _ _ _ c.nothing_needed.ensures (λ m. tt))

pub returns-in_ok-list-in-Junction : goal.returns-in_ok-list-in-Junction
returns-in_ok-list-in-Junction c =
    dest_at c.args.self.now _ _ _ _ _ c.in-Junction.is
    (step_evaluated c.args.self.now _ _ _ _ _ _ c.in_ok-list-in-Junction.ensures
    (c.then.ensures ∙ ap (λ z. in_turn z c.in_ok-list-in-Junction.list) c.one_step.ensures))
