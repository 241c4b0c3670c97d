use Rattle.std.proofs.Common.{ap, map, arith}
use Rattle.std.specs.List.{join_with_byte}
use Rattle.active_config.specs.Tree.{state_count}
use Rattle.actions.specs.Names.{names_of}
use Rattle.trace_text.specs.Trace.{path_of}
use Rattle.trace_text.proofs.StateLemmas.{before_skip, states_more, first_more}
use Rattle.trace_text.proofs.PutLemmas.{puts_both, puts_same}
use Rattle.trace_text.proofs.trace_states.put_states.Goals as goal

-- where no more state is active, all are put
pub returns-in_default : goal.returns-in_default
returns-in_default g c =
    let kept = c.states.invariant in
    puts_same _ _ _ _ _ _ _ _ kept.puts
    (ap (λ l. join_with_byte 44 (map (path_of c.args.shape.now (names_of c.args.names.now)) l))
    (before_skip c.args.marks.now c.states.from (state_count c.args.shape.now) kept.low (omega (arith, kept.high, c.len-states.ensures.count))
    (λ x le _. c.next_on.ensures.none c.in_default.is x le)))

pub states-preserved : goal.states-preserved
states-preserved g c =
    let kept = c.states.invariant in
    let found = c.in-Some.ensures in
    let within = found.within in
    record {
      low = omega arith;
      high = omega (arith, within.1, c.requires.marks, c.len-states.ensures.count);
      first = first_more c.args.marks.now c.states.from c.in-Some.state kept.low within.0 found.on found.first;
      puts = puts_both _ _ _ _ _ _ _ _ _ _ _ _ kept.puts c.put_path.ensures
          (states_more c.args.marks.now c.states.from c.in-Some.state kept.low within.0 found.on found.first
          c.args.shape.now (names_of c.args.names.now) c.states.is_first kept.first);
    }
