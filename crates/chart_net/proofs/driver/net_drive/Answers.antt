use Rattle.std.proofs.Common.{◌≡◌, false, refl, sym, ◌∙◌}
use Rattle.trace_text.proofs.PieceLemmas.{kept_now}
use Rattle.step_driver.proofs.Buffered.{finished, not_finished}
use Rattle.chart_net.specs.Causes.{is_write}
use Rattle.chart_net.specs.NetDriving.{NetDrives, net_runs}
use Rattle.chart_net.specs.NetParts.{charts_of, net_shown, routes_of}
use Rattle.chart_net.proofs.NetDriven.{driver_laws, no_read, no_write}
use Rattle.chart_net.proofs.OneRun.{gives_one}
use Rattle.chart_net.proofs.driver.net_drive.Goals as goal

-- what is kept at the end was written
pub returns-in-Ok : goal.returns-in-Ok
returns-in-Ok g c =
    let lines = c.run_lines-end in
    let held = lines.new.pieces in
    let usable : held.failed ≡ false = sym c.has_failed.ensures ∙ c.if-has_failed.false in
    let whole : is_write lines.result ≡ false = sym lines.ensures.failed ∙ usable in
    let k = lines.ensures.ends in
    let stopped = rw whole at k in
    let x = g.G.Engine in
    let net = net_shown x c.args.net.now in
    let one = gives_one x g.met.G.Engine.one_start g.met.G.Engine.one_reaction (charts_of x c.args.net.now)
    (routes_of c.args.net.now) in
    let passed = c.in-Ok.ensures.written (g.O.Sink.wrote lines.new.out) (g.O.Sink.faults lines.new.out) held.bytes
    (kept_now _ _ held usable) in
    record {
      drives = finished (net_runs net) (NetDrives net) (driver_laws net one) _ _ _ _ _ _ _ _ held.bytes _ lines.result
          stopped passed;
      charts = lines.ensures.charts;
      routes = lines.ensures.routes;
      others = lines.ensures.others;
      counts = lines.ensures.counts;
      reads = lines.ensures.reads;
      writes = no_write _ _ _ whole (passed.count ∙ stopped.count);
      over = lines.ensures.over;
      memory = lines.ensures.memory;
    }

-- what is kept at the end can't be written
pub returns-in-Err : goal.returns-in-Err
returns-in-Err g c =
    let lines = c.run_lines-end in
    let held = lines.new.pieces in
    let usable : held.failed ≡ false = sym c.has_failed.ensures ∙ c.if-has_failed.false in
    let whole : is_write lines.result ≡ false = sym lines.ensures.failed ∙ usable in
    let k = lines.ensures.ends in
    let stopped = rw whole at k in
    let x = g.G.Engine in
    let net = net_shown x c.args.net.now in
    let one = gives_one x g.met.G.Engine.one_start g.met.G.Engine.one_reaction (charts_of x c.args.net.now)
    (routes_of c.args.net.now) in
    let cut = not_finished (net_runs net) (NetDrives net)
    (driver_laws net one) _ _ _ _ _ _ _ _ held.bytes lines.result whole stopped
    (c.in-Err.ensures.written _ _ held.bytes (kept_now _ _ held usable)) in
    record {
      drives = cut.0;
      charts = lines.ensures.charts;
      routes = lines.ensures.routes;
      others = lines.ensures.others;
      counts = lines.ensures.counts;
      reads = no_read _ _ _ false refl (lines.ensures.reads.others cut.1);
      writes = record { fault = λ _. cut.2; others = λ is. absurd (cc) };
      over = λ is. absurd (cc);
      memory = λ _ is. absurd (cc);
    }
