-- Values with the counts after the last of them, as the reader keeps them.
use Rattle.std.specs.Prelude.{List, Ok}
use Rattle.token_grammar.specs.Token.{Outcome}
use Rattle.token_grammar.specs.Grammar.{and_then}
use Rattle.chart_grammar.specs.Limits.{Counts, Counted}
use Rattle.chart_grammar.specs.States.{values, counts_behind}

-- the values that were read, and the counts after the last of them
abbrev pub told : {X : Type 0} → Counts → Outcome (List (Counted X)) → Outcome (Counted (List X))
told n read =
    and_then read
    (λ found r. Ok (record { value = values found; counts = counts_behind n found }, r))
