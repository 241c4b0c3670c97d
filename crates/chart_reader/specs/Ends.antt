-- What follows the event and the guard of a transition, as contracts see it.
use Rattle.std.specs.Prelude.{Option}
use Rattle.flow_base.specs.Lists.{items_of}
use Rattle.token_grammar.specs.declared.token.Span.{Span}
use Rattle.chart_tree.specs.declared.name.NameText.{NameText}
use Rattle.chart_tree.specs.Trees.{Guard, Trans}
use Rattle.chart_tree.specs.Views.{block_of, dest_of}
use Rattle.chart_reader.specs.declared.transitions.TransEnd.{TransEnd}

-- the transition with that place, event and guard which ends so
abbrev pub trans_with : Span → Option NameText → Option Guard → TransEnd → Trans
trans_with at event guard e = record {
  at = at;
  event = event;
  guard = guard;
  cond = block_of (items_of e.cond);
  act = block_of (items_of e.act);
  dest = dest_of e.dest;
}
