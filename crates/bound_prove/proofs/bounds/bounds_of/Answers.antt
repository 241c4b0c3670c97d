use Rattle.checked_chart.specs.Kept.{chart_of}
use Rattle.bound_prove.specs.Certs.{cells_of}
use Rattle.bound_prove.proofs.BoundLemmas.{answer_is_need}
use Rattle.bound_prove.proofs.bounds.bounds_of.Goals as goal

pub returns : goal.returns
returns c =
    answer_is_need (chart_of c.args.chart.now) (cells_of c.in_ok-cert.cert) c.in_ok-bounds.bounds
    c.in_ok-cert.ensures.good c.in_ok-cert.ensures.need c.in_ok-bounds.ensures
