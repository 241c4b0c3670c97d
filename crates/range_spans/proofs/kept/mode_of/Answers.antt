use Rattle.actions.specs.Names.{names_of}
use Rattle.range_spans.proofs.LookLemmas.{mode_declared}
use Rattle.range_spans.proofs.kept.mode_of.Goals as goal

pub returns-in-Some : goal.returns-in-Some
returns-in-Some c =
    let h = c.in-Some.ensures.lookup in
    mode_declared (names_of c.args.declared.now.names.now) _ _ _ c.items.ensures h.3.0 h.1
