use Rattle.std.proofs.Common.{◌≡◌, sym, ◌∙◌, bytes_eq, position, rules}
use Rattle.chart_net.specs.Nets.{ChartOf}
use Rattle.chart_net.specs.NetParts.{charts_of}
use Rattle.chart_net.specs.Seats.{chart_of}
use Rattle.chart_net.specs.declared.seat.Seat.{Seat}
use Rattle.chart_net.proofs.ScheduleLemmas.{position_mapped}
use Rattle.chart_net.proofs.net.Net.chart_named.Goals as goal

pub returns-clause-place : goal.returns-clause-place
returns-clause-place g c =
    let members = g.G.Engine in
    let net = c.args.self.now in
    let first : c.first_named.result ≡ position (λ (s : Seat g.row.G.Denot). bytes_eq c.args.name.now s.name)
    net.seats.items = search rules in
    first
    ∙ sym (position_mapped (λ (chart : ChartOf members.Program). chart.name) (bytes_eq c.args.name.now)
    (charts_of members net)
    ∙ position_mapped (chart_of members) (λ (chart : ChartOf members.Program). bytes_eq c.args.name.now chart.name)
    net.seats.items)
