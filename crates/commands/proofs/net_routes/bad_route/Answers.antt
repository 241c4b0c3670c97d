use Rattle.std.proofs.Common.{◌∙◌, sym, ap, option_map}
use Rattle.net_text.specs.declared.net.RouteText.{RouteText}
use Rattle.commands.proofs.NetChartLemmas.{found_at, unfound}
use Rattle.commands.proofs.NetRouteLemmas.{names_none, same_bad}
use Rattle.commands.proofs.net_routes.bad_route.Goals as goal

-- each text names a route
pub returns-in_err-place : goal.returns-in_err-place
returns-in_err-place c =
    let none = unfound (names_none c.args.charts.now c.args.files.now) c.args.texts.now c.in_err-place.ensures.place in
    rw c.from_residual.ensures
    (ap (option_map (λ (text : RouteText). text.line)) (sym none)
    ∙ same_bad c.args.charts.now c.args.files.now c.requires c.args.texts.now)

-- the first text that names none
pub returns : goal.returns
returns c =
    let found =
    found_at (names_none c.args.charts.now c.args.files.now) c.args.texts.now c.in_ok-place.place
    c.index-texts-place.result
    c.in_ok-place.ensures.place c.in_ok-place.ensures.within c.index-texts-place.is in
    rw (← c.index-texts-place.is)
    (ap (option_map (λ (text : RouteText). text.line)) (sym found)
    ∙ same_bad c.args.charts.now c.args.files.now c.requires c.args.texts.now)
