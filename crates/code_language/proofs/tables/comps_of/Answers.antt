use Rattle.std.proofs.Common.{map, refl, ap, ◌∙◌}
use Rattle.std.proofs.lemmas.List.{take_all}
use Rattle.code_language.specs.Acceptance.{comp_written}
use Rattle.code_language.proofs.ListLemmas.{map_pushed}
use Rattle.code_language.proofs.tables.comps_of.Goals as goal

pub loop-state-preserved : goal.loop-state-preserved
loop-state-preserved c =
    map_pushed comp_written c.args.states.now c.loop-state.state-index c.state-item.result c.loop-state.comps.items _ _
    c.loop-state-test.true c.state-item.is c.loop-state.invariant refl c.in_ok-push.ensures.items

pub returns : goal.returns
returns c =
    c.loop-state.invariant
    ∙ ap (map comp_written) (take_all c.loop-state.state-index c.args.states.now c.loop-state-test.false)
