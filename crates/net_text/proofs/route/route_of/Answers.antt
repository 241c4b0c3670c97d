use Rattle.actions.specs.Names.{names_of}
use Rattle.net_text.proofs.JoinLemmas.{route_joins, route_same}
use Rattle.net_text.proofs.route.route_of.Goals as goal

pub returns-clause-joins : goal.returns-clause-joins
returns-clause-joins c =
    route_joins c.args.text.now (names_of c.args.from.now) (names_of c.args.to.now) c.route_between.result
    c.route_between.ensures

pub returns-clause-same : goal.returns-clause-same
returns-clause-same c =
    route_same c.args.text.now (names_of c.args.from.now) (names_of c.args.to.now) c.route_between.result
    c.route_between.ensures
