use Rattle.std.proofs.Common.{sym, subst}
use Rattle.actions.specs.Engines.{IsInputValue}
use Rattle.sample_engine.specs.Chart.{chart_names}
use Rattle.sample_engine.specs.Counters.{CounterState}
use Rattle.library_tests.proofs.EngineLemmas.{hundred_is_input}
use Rattle.library_tests.proofs.engine.counter_run.Goals as goal

pub run-end-requires-clause-value : goal.run-end-requires-clause-value
run-end-requires-clause-value c =
    subst (λ (x : CounterState). IsInputValue (chart_names x.program.scale) 0 c.number.result) (sym c.in_ok-counter.ensures)
    (subst (IsInputValue (chart_names c.args.scale) 0) (sym c.number.ensures) (hundred_is_input c.args.scale c.requires))

pub run-end-requires-clause-event : goal.run-end-requires-clause-event
run-end-requires-clause-event c = c.event.ensures c.in_ok-counter.counter.program.scale
