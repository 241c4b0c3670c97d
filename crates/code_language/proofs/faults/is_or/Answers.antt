use Rattle.std.proofs.Common.{ap, ◌∙◌}
use Rattle.active_config.specs.Tree.{is_or}
use Rattle.flow_base.specs.Lists.{items_of}
use Rattle.code_language.proofs.TableLemmas.{comp_there, comp_past}
use Rattle.code_language.proofs.faults.is_or.Goals as goal

pub returns-in-Some : goal.returns-in-Some
returns-in-Some c =
    c.is_or.ensures
    ∙ ap is_or (comp_there (items_of c.args.raw.now.states) c.items.result.now c.args.state c.in-Some.state.now
    c.items.ensures c.in-Some.ensures.lookup.3.0 c.in-Some.ensures.lookup.1)

pub returns-in-None : goal.returns-in-None
returns-in-None c =
    comp_past (items_of c.args.raw.now.states) c.items.result.now c.args.state c.items.ensures
    c.in-None.ensures.lookup.3
