use Rattle.std.proofs.Common.{◌≡◌, length}
use Rattle.actions.specs.Names.{names_of}
use Rattle.event_file.specs.EventLines.{tokens_of}
use Rattle.event_file.specs.InputValues.{all_given}
use Rattle.event_file.specs.LineValues.{IsMadeFor}
use Rattle.actions.specs.Runs.{AreInputValues}
use Rattle.event_file.proofs.event_lines.give_all.Given as goal

-- the tokens that are left give what all give
abbrev pub invariant-tokens : goal.invariant-tokens
invariant-tokens l = record {
  given : all_given (names_of l.names) l.vals.values (tokens_of l.rest) ≡ all_given (names_of l.names) l.fn.vals.values (tokens_of l.text);
  values : AreInputValues (names_of l.names) 0 l.vals.values;
  made : IsMadeFor (names_of l.names) l.vals;
}

abbrev pub decreases-tokens : goal.decreases-tokens
decreases-tokens l = length l.rest
