use Rattle.std.proofs.Common.{refl, sym, arith, rules}
use Rattle.active_config.proofs.PathLemmas.{is_at_or_below-same}
use Rattle.trace_text.proofs.PathLemmas.{parent_above, parent_below, below_has_parent}
use Rattle.trace_text.proofs.trace_states.child_toward.Goals as goal

pub parents-init : goal.parents-init
parents-init c = record {
  at = is_at_or_below-same c.args.shape.now c.args.state c.args.state refl;
  below = c.requires.above;
  within = omega arith;
}

pub parents-preserved : goal.parents-preserved
parents-preserved c = record {
  at = parent_above c.args.shape.now c.args.state c.parents.child c.in-Some.parent c.requires.tree c.requires.state c.parents.invariant.at (sym c.in-Some.ensures.parent);
  below = parent_below c.args.shape.now c.parents.child c.in-Some.parent c.args.above c.requires.tree (sym c.in-Some.ensures.parent) c.parents.invariant.below (search rules);
  within = omega (arith, c.in-Some.ensures.before, c.parents.invariant.within);
}

-- a state that is below another one has a parent
pub returns : goal.returns
returns c = absurd (below_has_parent c.args.shape.now c.parents.child c.args.above (sym c.in_default.ensures.parent) c.parents.invariant.below)
