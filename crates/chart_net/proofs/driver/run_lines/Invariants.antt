use Rattle.std.proofs.Common.{◌≡◌, ◌-◌, false}
use Rattle.event_file.specs.declared.limits.TheConstants.{FILE_LIMIT}
use Rattle.flow_base.specs.Causes.{OthersKept, AllStay}
use Rattle.trace_text.specs.Pieces.{Puts}
use Rattle.step_driver.proofs.Buffered.{Buffered}
use Rattle.chart_net.specs.NetDriving.{net_runs}
use Rattle.chart_net.specs.NetParts.{AreAt, PartsFit, StandsFor, all_running, charts_of, net_shown, routes_of}
use Rattle.chart_net.specs.NetParts.{started_below}
use Rattle.chart_net.proofs.NetDriven.{NetState, Starting}
use Rattle.chart_net.proofs.driver.run_lines.Given as goal

-- the charts below this number were started, and their lines were put
abbrev pub invariant-loop-c : goal.invariant-loop-c
invariant-loop-c g l =
    let e = g.G.Engine in
    record {
      starting : Starting (net_shown e l.fn.net) (StandsFor e l.net)
          (Puts (g.O.Sink.wrote l.fn.out) (g.O.Sink.wrote l.out)
          (g.O.Sink.faults l.fn.out) (g.O.Sink.faults l.out) l.fn.pieces l.pieces) l.c;
      charts : charts_of e l.net ≡ charts_of e l.fn.net;
      routes : routes_of l.net ≡ routes_of l.fn.net;
      sound : PartsFit e l.net;
      stages : AreAt e l.net (started_below l.c) 0;
      usable : l.pieces.failed ≡ false;
    }

-- the lines so far were taken, their trace was written or is kept, and no read or write failed
abbrev pub invariant-lines : goal.invariant-lines
invariant-lines g l =
    let e = g.G.Engine in
    let shown = net_shown e l.fn.net in
    record {
      driven : Buffered (net_runs shown) (NetState shown (StandsFor e l.net) l.last_step) (g.O.Sink.wrote l.fn.out)
          (g.O.Sink.wrote l.out) (g.O.Sink.faults l.fn.out) (g.O.Sink.faults l.out)
          (g.I.Inputs.left l.fn.inputs l.name) (g.I.Inputs.left l.inputs l.name) l.pieces l.lines l.last_step;
      charts : charts_of e l.net ≡ charts_of e l.fn.net;
      routes : routes_of l.net ≡ routes_of l.fn.net;
      sound : PartsFit e l.net;
      running : AreAt e l.net all_running l.last_step;
      others : OthersKept l.name (g.I.Inputs.left l.fn.inputs) (g.I.Inputs.left l.inputs);
      counts : AllStay (g.I.Inputs.faults l.fn.inputs) (g.I.Inputs.faults l.inputs);
    }

-- each line takes bytes of the schedule
abbrev pub decreases-lines : goal.decreases-lines
decreases-lines g l = FILE_LIMIT - l.lines.at
