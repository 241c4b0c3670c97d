-- Counts of the code as contracts see them.
use Rattle.chart_grammar.specs.Limits.{Counts}
use Rattle.statechart_tokens.specs.declared.counts.Counts as declared

-- how many things have begun
abbrev pub counts_of : declared.Counts → Counts
counts_of c = record {
  states = c.states;
  junctions = c.junctions;
  transitions = c.transitions;
  variables = c.variables;
  events = c.events;
  items = c.items;
}
