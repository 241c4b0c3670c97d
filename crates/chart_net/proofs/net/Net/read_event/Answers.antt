use Rattle.std.proofs.Common.{Some, None, Ok, Err, refl, sym}
use Rattle.event_file.specs.EventLines.{tokens_of}
use Rattle.chart_net.specs.NetParts.{net_shown}
use Rattle.chart_net.specs.NetRuns.{Gives}
use Rattle.chart_net.proofs.ScheduleLemmas.{gives_to_chart}
use Rattle.chart_net.proofs.net.Net.read_event.Goals as goal

pub returns-in-Ok-Some-clause-read : goal.returns-in-Ok-Some-clause-read
returns-in-Ok-Some-clause-read g c =
    let r = rw c.in-Ok-Some.field-0-is at c.in-Ok-Some.ensures.read in
    let net = net_shown g.G.Engine c.args.self.now in
    let n = c.in-Some-chart_named.c in (
      Gives n (record { event = c.in-Ok-Some.event; inputs = r.0.vals.values }),
      gives_to_chart net (tokens_of c.args.text.now) c.in-Some.name.token.now c.in-Some.name.rest.now
          c.in-Some.ensures.tokens n
          (Ok (Some (record { event = c.in-Ok-Some.event; inputs = r.0.vals.values })))
          (sym c.in-Some-chart_named.ensures.place) r.2,
      (r.0, r.1, refl, r.3),
    )

pub returns-in-Ok-None-clause-read : goal.returns-in-Ok-None-clause-read
returns-in-Ok-None-clause-read g c =
    gives_to_chart (net_shown g.G.Engine c.args.self.now) (tokens_of c.args.text.now) c.in-Some.name.token.now
    c.in-Some.name.rest.now
    c.in-Some.ensures.tokens c.in-Some-chart_named.c (Ok None) (sym c.in-Some-chart_named.ensures.place)
    (rw c.in-Ok-None.field-0-is at c.in-Ok-None.ensures.read)

pub returns-in-Err-clause-read : goal.returns-in-Err-clause-read
returns-in-Err-clause-read g c =
    gives_to_chart (net_shown g.G.Engine c.args.self.now) (tokens_of c.args.text.now) c.in-Some.name.token.now
    c.in-Some.name.rest.now
    c.in-Some.ensures.tokens c.in-Some-chart_named.c (Err c.in-Err.fault) (sym c.in-Some-chart_named.ensures.place)
    c.in-Err.ensures.read
