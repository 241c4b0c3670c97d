-- Items of the code as contracts see them.
use Rattle.std.specs.Prelude.{List, [], ◌∷◌, map, reverse}
use Rattle.flow_base.specs.Lists.{items_of}
use Rattle.chart_tree.specs.declared.state.StateText.{StateText}
use Rattle.chart_tree.specs.Trees.{States, NoState, MoreStates}
use Rattle.chart_tree.specs.Views.{block_of, trans_of, junction_of, state_of, var_of}
use Rattle.chart_grammar.specs.Limits.{Counts}
use Rattle.chart_grammar.specs.States as grammar
use Rattle.chart_grammar.specs.States.{Sorted}
use Rattle.chart_reader.specs.declared.content.Item.{Item}
use Rattle.chart_reader.specs.declared.content.Item.TheVariants as items
use Rattle.chart_reader.specs.declared.content.Seen.{Seen}
use Rattle.chart_reader.specs.declared.lists.Lists.{Lists}

-- an item of the code
abbrev pub item_of : Item → grammar.Item
item_of (items.Entry block) = grammar.Entry (block_of (items_of block))
item_of (items.During block) = grammar.During (block_of (items_of block))
item_of (items.Exit block) = grammar.Exit (block_of (items_of block))
item_of (items.History at) = grammar.History at
item_of (items.Outer t) = grammar.Outer (trans_of t)
item_of (items.Inner t) = grammar.Inner (trans_of t)
item_of (items.Default t) = grammar.Default (trans_of t)
item_of (items.Junction j) = grammar.JunctionItem (junction_of j)
item_of (items.State s) = grammar.StateItem (state_of s)
item_of (items.Event e) = grammar.EventItem e
item_of (items.Var v) = grammar.VarItem (var_of v)

-- which actions were seen, whether `history` was, and how many things there are
abbrev pub seen_of : Seen → Counts → grammar.Seen
seen_of seen n = record {
  entry = seen.entry;
  during = seen.during;
  exit = seen.exit;
  history = seen.history;
  counts = n;
}

-- child states of the code, in order
abbrev pub children_of : List StateText → States
children_of [] = NoState
children_of (s ∷ ss) = MoreStates (state_of s) (children_of ss)

-- items put in front of others
abbrev pub put_all : List grammar.Item → Sorted → Sorted
put_all [] s = s
put_all (x ∷ xs) s = grammar.put x (put_all xs s)

-- the items in their lists, each list in reverse order
abbrev pub sorted_of : Lists → Sorted
sorted_of l = record {
  parts = record {
    name = l.name;
    comp = l.comp;
    entry = block_of (items_of l.entry);
    during = block_of (items_of l.during);
    exit = block_of (items_of l.exit);
    history = l.history;
    outer = map trans_of (reverse l.outer.items);
    inner = map trans_of (reverse l.inner.items);
    default = map trans_of (reverse l.default.items);
    junctions = map junction_of (reverse l.junctions.items);
  };
  states = children_of (reverse l.states.items);
  events = reverse l.events.items;
  vars = map var_of (reverse l.vars.items);
}
