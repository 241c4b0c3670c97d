use Rattle.checked_chart.specs.Kept.{chart_of}
use Rattle.bound_prove.specs.Certs.{cells_of}
use Rattle.bound_prove.specs.Colourings.{IsBlack, colours_of}
use Rattle.bound_prove.proofs.EndLemmas.{way_begins}
use Rattle.bound_prove.proofs.FiringLemmas.{none_right}
use Rattle.bound_prove.proofs.find.Finder.make.Goals as goal

pub returns : goal.returns
returns c =
    let chart = chart_of c.args.chart.now in let g = cells_of c.in_ok-cert.cert in
    let k = colours_of c.in_ok-colours.colours in
    record {
      way = way_begins chart g k c.in_ok-stack.stack.items c.in_ok-cert.ensures.ends c.in_ok-colours.ensures.white
          c.in_ok-stack.ensures;
      firings = none_right chart g (IsBlack k) c.in_ok-firings.firings c.in_ok-firings.ensures;
      marks = c.in_ok-marks.ensures;
      made = c.in_ok-cert.ensures.made;
      coloured = c.in_ok-colours.ensures.sized;
    }
