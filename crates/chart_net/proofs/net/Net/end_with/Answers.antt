use Rattle.std.proofs.Common.{◌≡◌, ℕ, List, Some, Result, sym, ap, ◌∙◌, subst}
use Rattle.std.specs.Prelude.{slice_get}
use Rattle.trace_text.specs.Pieces.{Puts}
use Rattle.chart_net.specs.Causes.{is_read, is_write}
use Rattle.chart_net.specs.NetTraces.{why_moved}
use Rattle.chart_net.specs.declared.driver.NetEnd.{NetEnd}
use Rattle.chart_net.proofs.MoveLemmas.{answer_no_read, answer_not_memory, answer_well, answer_write, line_is}
use Rattle.chart_net.proofs.net.Net.end_with.Goals as goal

pub put_move-requires-clause-seat : goal.put_move-requires-clause-seat
put_move-requires-clause-seat g c = c.send_from-full.ensures.sound.seats c.args.c

pub returns-clause-ends : goal.returns-clause-ends
returns-clause-ends g c = λ s there states wait.
    let here : slice_get c.send_from-full.new.self.seats.items c.args.c ≡ Some s =
    rw c.send_from-full.ensures.seats there in
    record {
      full = c.send_from-full.result;
      sent = c.send_from-full.ensures.sent s there states wait;
      put = subst (λ (text : List ℕ). Puts (g.O.Sink.wrote c.args.out.now) (g.O.Sink.wrote c.put_move.new.out)
          (g.O.Sink.faults c.args.out.now)
          (g.O.Sink.faults c.put_move.new.out) c.args.pieces.now c.put_move.new.pieces text)
          (line_is g.G.Engine c.args.self.now c.args.c s c.args.p c.args.event c.args.fault c.send_from-full.result
          there)
          (c.put_move.ensures.put s here);
      answer = c.put_move.ensures.answer;
    }

pub returns-clause-failed : goal.returns-clause-failed
returns-clause-failed g c =
    answer_write c.put_move.new.pieces.failed c.args.p (why_moved c.args.c c.args.fault c.send_from-full.result)
    ∙ ap (λ (r : Result (Unit {0}) NetEnd). is_write r) (sym c.put_move.ensures.answer)

pub returns-clause-ok : goal.returns-clause-ok
returns-clause-ok g c = λ well.
    answer_well c.put_move.new.pieces.failed c.args.p c.args.c c.args.fault c.send_from-full.result
    (sym c.put_move.ensures.answer ∙ well)

pub returns-clause-reads : goal.returns-clause-reads
returns-clause-reads g c =
    ap (λ (r : Result (Unit {0}) NetEnd). is_read r) c.put_move.ensures.answer
    ∙ answer_no_read c.put_move.new.pieces.failed c.args.p (why_moved c.args.c c.args.fault c.send_from-full.result)

pub returns-clause-memory : goal.returns-clause-memory
returns-clause-memory g c =
    answer_not_memory c.put_move.new.pieces.failed c.args.p (why_moved c.args.c c.args.fault c.send_from-full.result)
    c.put_move.result c.put_move.ensures.answer
