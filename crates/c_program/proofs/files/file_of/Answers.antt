use Rattle.std.proofs.Common.{refl}
use Rattle.checked_chart.specs.Kept.{chart_of}
use Rattle.c_header.specs.declared.identity.Identity.{Identity}
use Rattle.c_program.proofs.FileLemmas.{chosen_is}
use Rattle.c_program.proofs.files.file_of.Goals as goal

-- both files are those of the chart under its bounds, and one of them is chosen
pub returns : goal.returns
returns c =
    let identity : Identity = record { bounds = c.in_ok-bounds.bounds; sum = c.args.summed.now.sum } in
    record {
      identity = identity;
      of_chart = refl;
      bounds_for = c.in_ok-bounds.ensures;
      is_file =
          chosen_is c.args.file (chart_of c.args.summed.now.chart) identity c.in_ok-made.made c.chosen.result
          c.chosen.ensures c.in_ok-made.ensures;
    }
