use Rattle.std.proofs.Common.{◌≡◌, map, take}
use Rattle.chart_scope.specs.Resolution.{event_decl}
use Rattle.chart_scope.proofs.declarations.events.Given as goal

-- the events so far are declared
abbrev pub invariant-loop-text : goal.invariant-loop-text
invariant-loop-text l = l.events.items ≡ map event_decl (take l.text-index l.texts)
