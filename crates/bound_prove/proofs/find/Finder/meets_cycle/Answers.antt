use Rattle.std.proofs.Common.{◌++◌, [], ◌∷◌}
use Rattle.checked_chart.specs.Kept.{chart_of}
use Rattle.bound_prove.specs.Certs.{cells_of}
use Rattle.bound_prove.specs.Colourings.{colours_of}
use Rattle.bound_prove.proofs.StackLemmas.{left_out, none_left}
use Rattle.bound_prove.proofs.find.Finder.meets_cycle.Goals as goal

pub visit-requires-clause-finding : goal.visit-requires-clause-finding
visit-requires-clause-finding c =
    let before = c.loop-cell.invariant in let f = c.loop-cell.self in
    record {
      way =
          left_out (chart_of c.args.chart.now) (cells_of f.cert) (colours_of f.colours) f.stack.items
          (c.next_open.new.stack.items ++ c.in-Some.cell ∷ []) c.in-Some.ensures.rest before.way;
      firings = before.firings;
      marks = before.marks;
      made = before.made;
      coloured = before.coloured;
    }

pub returns-clause-done : goal.returns-clause-done
returns-clause-done c =
    let before = c.loop-cell.invariant in let f = c.loop-cell.self in
    λ _. record {
      way =
          left_out (chart_of c.args.chart.now) (cells_of f.cert) (colours_of f.colours) f.stack.items []
          (none_left (colours_of f.colours) f.stack.items c.next_open.new.stack.items c.next_open.result
          c.in_default.not-Some c.next_open.ensures.none c.next_open.ensures.rest) before.way;
      firings = before.firings;
      marks = before.marks;
      made = before.made;
      coloured = before.coloured;
    }
