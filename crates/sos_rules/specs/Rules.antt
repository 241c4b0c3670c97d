-- The rules of a run, closed by one recursion: what derivations of at most some height give.
use Rattle.std.specs.Prelude.{ℕ, zero, suc}
use Rattle.flow_base.specs.declared.bounds.Bounds.{Bounds}
use Rattle.checked_chart.specs.Chart.{Chart}
use Rattle.sos_rules.specs.Moves.{exit_rule, exit_each_rule, enter_rule, enter_each_rule, defaults_rule, take_rule}
use Rattle.sos_rules.specs.Parts.{Parts, no_parts}
use Rattle.sos_rules.specs.Processing.{process_rule, process_each_rule}
use Rattle.sos_rules.specs.Searches.{block_rule, send_rule, search_rule, play_rule}

-- each piece of work, defined by its rule over the pieces of work that the rules call
abbrev pub rules : Chart → Bounds → Parts → Parts
rules c b p = record {
  block = block_rule c b p;
  send = send_rule c b p;
  search = search_rule c b p;
  exit = exit_rule c p;
  exit_each = exit_each_rule c p;
  enter = enter_rule c p;
  enter_each = enter_each_rule c p;
  defaults = defaults_rule c p;
  play = play_rule c b p;
  take = take_rule c p;
  process = process_rule c p;
  process_each = process_each_rule c p;
}

-- what derivations of at most a height give: each rule uses parts of a lower height
abbrev pub upto : Chart → Bounds → ℕ → Parts
upto c b zero = no_parts
upto c b (suc n) = rules c b (upto c b n)
