-- The actions that there are so far, as contracts see them.
use Rattle.statechart_grammar.specs.States as grammar
use Rattle.statechart_statements.specs.declared.done.Done.{Done}

-- which of the three actions there are so far
abbrev pub done_of : Done → grammar.Done
done_of d = record { entry = d.entry; during = d.during; exit = d.exit }
