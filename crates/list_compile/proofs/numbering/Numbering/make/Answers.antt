use Rattle.std.proofs.Common.{subst}
use Rattle.flow_base.specs.declared.chart_limits.TheConstants.{STATE_LIMIT}
use Rattle.flow_base.specs.Lists.{items_of}
use Rattle.active_config.specs.Tree.{state_count}
use Rattle.chart_code.specs.Ends.{below_count}
use Rattle.list_compile.specs.Tables.{IsTable}
use Rattle.list_compile.proofs.numbering.Numbering.make.Goals as goal

pub groups_before-requires-clause-below : goal.groups_before-requires-clause-below
groups_before-requires-clause-below c =
    subst (λ t. IsTable (below_count t) (state_count t) STATE_LIMIT (items_of c.in_ok-below.below))
    c.shape.ensures.shape c.in_ok-below.ensures

pub invariant_of-result : goal.invariant_of-result
invariant_of-result c = record {
  numbers = record {
    below =
        subst (λ t. IsTable (below_count t) (state_count t) STATE_LIMIT (items_of c.in_ok-below.below))
        c.shape.ensures.shape c.in_ok-below.ensures;
    outer = c.in_ok-outer.ensures;
    default = c.in_ok-default.ensures;
    parts = c.in_ok-parts.ensures;
    junction_parts = c.in_ok-junction_parts.ensures;
    groups = c.in_ok-groups.ensures;
    lists = c.in_ok-lists.ensures;
  };
}
