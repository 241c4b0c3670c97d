-- What a line of a schedule says.
use Rattle.std.specs.Prelude.{ℕ, nat_eq, List, [], ◌∷◌, length, map, codes, decimal, Option, Some, None, Result, Ok}
use Rattle.std.specs.Prelude.{Err, if◌then◌else◌, slice_index}
use Rattle.std.specs.List.{position, range_with_len}
use Rattle.std.specs.Str.{bytes_eq}
use Rattle.actions.specs.Runs.{EventWithInputs}
use Rattle.event_file.specs.EventLines.{event_of_tokens, tokens_of}
use Rattle.event_file.specs.declared.fault.LineFault.{LineFault}
use Rattle.event_file.specs.declared.fault.LineFault.TheVariants as faults
use Rattle.chart_net.specs.Nets.{Net}
use Rattle.chart_net.specs.NetRuns.{NetStep, Gives, Takes}

-- the step that gives a chart what an event line says; a line that is skipped says nothing to give
abbrev pub giving : ℕ → Result (Option EventWithInputs) LineFault → Result (Option NetStep) LineFault
giving c (Ok None) = Err faults.BadStep
giving c (Ok (Some given)) = Ok (Some (Gives c given))
giving c (Err fault) = Err fault

-- the step for a chart's name, if it is one, and the tokens of an event line
abbrev pub giving_to : Net → Option ℕ → List (List ℕ) → Result (Option NetStep) LineFault
giving_to net None tokens = Err faults.BadStep
giving_to net (Some c) tokens = giving c (event_of_tokens (net.declared c) tokens)

-- what follows `ev`: a chart's name, and the tokens of an event line for that chart
abbrev pub giving_step : Net → List (List ℕ) → Result (Option NetStep) LineFault
giving_step net [] = Err faults.BadStep
giving_step net (name ∷ tokens) = giving_to net (position (bytes_eq name) net.names) tokens

-- the step that takes from a route, if the number is one
abbrev pub taking : Option ℕ → Result (Option NetStep) LineFault
taking None = Err faults.BadStep
taking (Some r) = Ok (Some (Takes r))

-- what follows `take`: one token, the number of a route in decimal digits without leading zeros
abbrev pub taking_step : Net → List (List ℕ) → Result (Option NetStep) LineFault
taking_step net [] = Err faults.BadStep
taking_step net (word ∷ []) = taking (position (bytes_eq word) (map decimal (range_with_len 0 (length net.routes))))
taking_step net (word ∷ (more ∷ tokens)) = Err faults.BadStep

-- what a line says by its tokens: nothing where there is none or the first begins with `#`, and else a step
abbrev pub step_of_tokens : Net → List (List ℕ) → Result (Option NetStep) LineFault
step_of_tokens net [] = Ok None
step_of_tokens net (first ∷ rest) =
    if nat_eq (slice_index first 0) 35 then Ok None
    else (if bytes_eq first (codes "ev") then giving_step net rest
    else (if bytes_eq first (codes "take") then taking_step net rest else Err faults.BadStep))

-- What a line of a schedule says: a step, nothing where it is skipped, or its first fault.
unfoldable pub step_of_line : Net → List ℕ → Result (Option NetStep) LineFault
step_of_line net line = step_of_tokens net (tokens_of line)
