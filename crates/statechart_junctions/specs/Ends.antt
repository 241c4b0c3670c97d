-- What follows the cases of a transition, as contracts see it.
use Rattle.std.specs.Prelude.{List}
use Rattle.flow_base.specs.Lists.{items_of}
use Rattle.token_grammar.specs.declared.token.Span.{Span}
use Rattle.chart_tree.specs.Views.{dest_of}
use Rattle.statechart_tree.specs.Trees.{Case, Trans}
use Rattle.statechart_tree.specs.Views.{block_of}
use Rattle.statechart_junctions.specs.declared.transitions.TransEnd.{TransEnd}

-- the transition with that place and those cases which ends so
abbrev pub trans_with : Span → List Case → TransEnd → Trans
trans_with at cases e = record {
  at = at;
  cases = cases;
  cond = block_of (items_of e.cond);
  act = block_of (items_of e.act);
  dest = dest_of e.dest;
}
