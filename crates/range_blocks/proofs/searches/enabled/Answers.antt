use Rattle.std.proofs.Common.{ap, option_map, sym}
use Rattle.actions.specs.Trees.{expr_of}
use Rattle.checked_chart.specs.Views.{trans_seen}
use Rattle.range_blocks.proofs.SearchLemmas.{on_enabled, same_guard}
use Rattle.range_blocks.proofs.searches.enabled.Goals as goal

pub returns-in_ok-parts-in-Some : goal.returns-in_ok-parts-in-Some
returns-in_ok-parts-in-Some c =
    on_enabled _ (trans_seen c.args.transition.now) c.args.now _ c.in_ok-parts-in-Some.parts
    (sym c.if-not-event_fits.ensures)
    (same_guard _ _ _ _ c.in_ok-parts-in-Some.parts (ap (option_map expr_of) c.in-Some.is)
    c.in_ok-parts-in-Some.ensures)
