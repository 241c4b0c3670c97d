use Rattle.std.proofs.Common.{decimal, sym, ◌∙◌, bytes_eq}
use Rattle.std.specs.List.{range_with_len}
use Rattle.chart_net.proofs.ScheduleLemmas.{position_mapped}
use Rattle.chart_net.proofs.schedule.route_number.Goals as goal

pub returns-clause-number : goal.returns-clause-number
returns-clause-number c =
    c.first_spelled.ensures.number ∙ sym
    (position_mapped decimal (bytes_eq c.args.word.now) (range_with_len 0 c.args.count))
