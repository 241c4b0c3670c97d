use Rattle.checked_chart.specs.Kept.{chart_of}
use Rattle.bound_prove.specs.Certs.{cells_of}
use Rattle.bound_prove.specs.Colourings.{colours_of}
use Rattle.bound_prove.proofs.EndLemmas.{end_is_good, end_gives}
use Rattle.bound_prove.proofs.find.cert_without_cycle.Goals as goal

-- the finder looked at all cells below the roots
pub returns-clause-found : goal.returns-clause-found
returns-clause-found c =
    let chart = chart_of c.args.chart.now in
    let g = cells_of c.meets_cycle.new.self.cert in
    let k = colours_of c.meets_cycle.new.self.colours in
    let finding = c.in_ok-meets_cycle.ensures.done c.if-branch.false in
    record {
      made = finding.made;
      good = end_is_good chart g k finding.way;
      need = end_gives chart g k finding.way;
    }
