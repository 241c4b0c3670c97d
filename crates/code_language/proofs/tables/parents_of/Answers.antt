use Rattle.std.proofs.Common.{map, ap, ◌∙◌}
use Rattle.std.proofs.lemmas.List.{take_all}
use Rattle.code_language.specs.Acceptance.{parent_or_0}
use Rattle.code_language.proofs.ListLemmas.{map_pushed}
use Rattle.code_language.proofs.tables.parents_of.Goals as goal

pub loop-state-preserved : goal.loop-state-preserved
loop-state-preserved c =
    map_pushed parent_or_0 c.args.states.now c.loop-state.state-index c.state-item.result c.loop-state.parents.items _ _
    c.loop-state-test.true c.state-item.is c.loop-state.invariant c.unwrap_or.ensures c.in_ok-push.ensures.items

pub returns : goal.returns
returns c =
    c.loop-state.invariant
    ∙ ap (map parent_or_0) (take_all c.loop-state.state-index c.args.states.now c.loop-state-test.false)
