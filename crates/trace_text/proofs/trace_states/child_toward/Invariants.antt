use Rattle.std.proofs.Common.{◌≡◌, ◌≤◌, true}
use Rattle.active_config.specs.Tree.{is_below, is_at_or_below}
use Rattle.trace_text.proofs.trace_states.child_toward.Given as goal

-- the state is at or below this one, which is below the one above
abbrev pub invariant-parents : goal.invariant-parents
invariant-parents l = record {
  at : is_at_or_below l.shape l.state l.child ≡ true;
  below : is_below l.shape l.child l.above ≡ true;
  within : l.child ≤ l.state;
}

abbrev pub decreases-parents : goal.decreases-parents
decreases-parents l = l.child
