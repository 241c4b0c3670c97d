use Rattle.std.proofs.Common.{sym, ◌∙◌}
use Rattle.checked_chart.specs.Views.{trans_seen}
use Rattle.bound_prove.proofs.Pieces.{if_ok_map, fit_evaluated, unfit_evaluated}
use Rattle.bound_prove.proofs.lookup.Lookup.fit_need.Goals as goal

pub returns-then-event_fits : goal.returns-then-event_fits
returns-then-event_fits c =
    let fits = sym c.event_fits.ensures ∙ c.if-event_fits.true in
    if_ok_map _ _ c.trans_need.result
    (λ n h. fit_evaluated c.args.self.now (trans_seen c.args.t.now) _ _ _ _ fits h (λ m u f. u)) c.trans_need.ensures

pub returns : goal.returns
returns c =
    unfit_evaluated c.args.self.now (trans_seen c.args.t.now) _ _ (sym c.event_fits.ensures ∙ c.if-event_fits.false)
    c.nothing_needed.ensures
