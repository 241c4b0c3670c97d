use Rattle.std.proofs.Common.{ℕ, List, ap, arith, rules}
use Rattle.actions.specs.Names.{names_of}
use Rattle.trace_text.specs.TraceParts.{item}
use Rattle.trace_text.proofs.JoinLemmas.{item_more}
use Rattle.trace_text.proofs.PathLemmas.{root_above, strictly_below, path_of-first, path_of-next}
use Rattle.trace_text.proofs.PutLemmas.{puts_both, puts_same}
use Rattle.trace_text.proofs.trace_states.put_path.Goals as goal

pub child_toward-first-requires-clause-above : goal.child_toward-first-requires-clause-above
child_toward-first-requires-clause-above g c =
    strictly_below c.args.shape.now c.args.state 0 (root_above c.args.shape.now c.args.state c.requires.tree c.requires.state) (search rules)

pub names-init : goal.names-init
names-init g c = record {
  puts = puts_same _ _ _ _ _ _ _ _ c.put_item.ensures
      (ap (λ (z : List ℕ). item 44 c.args.is_first z) (path_of-first c.args.shape.now (names_of c.args.names.now) c.child_toward-first.result c.state_name.result.now c.requires.tree
      c.child_toward-first.ensures.child c.state_name.ensures));
  below = c.child_toward-first.ensures.after;
  above = c.child_toward-first.ensures.above;
  within = c.child_toward-first.ensures.within;
}

pub child_toward-next-requires-clause-above : goal.child_toward-next-requires-clause-above
child_toward-next-requires-clause-above g c =
    strictly_below c.args.shape.now c.args.state c.names.last c.names.invariant.above (search rules)

pub names-preserved : goal.names-preserved
names-preserved g c = record {
  puts = puts_both _ _ _ _ _ _ _ _ _ _ _ _ c.names.invariant.puts c.put_led.ensures
      (item_more 44 c.args.is_first _ _ _ (path_of-next c.args.shape.now (names_of c.args.names.now) c.child_toward-next.result c.names.last c.state_name-name.result.now
      c.requires.tree c.child_toward-next.ensures.child c.names.invariant.below c.state_name-name.ensures));
  below = omega (arith, c.names.invariant.below, c.child_toward-next.ensures.after);
  above = c.child_toward-next.ensures.above;
  within = c.child_toward-next.ensures.within;
}
