-- What begins the items that are neither actions nor `history`.
use Rattle.std.specs.Prelude.{Bool, ◌||◌}
use Rattle.token_grammar.specs.declared.token.Kind.{Kind}
use Rattle.token_grammar.specs.declared.token.Kind.TheVariants as kinds
use Rattle.token_grammar.specs.Grammar.{is}
use Rattle.chart_grammar.specs.Declarations.{kind_heads}

-- the transitions, junctions and child states of a state
abbrev pub in_state_heads : Kind → Bool
in_state_heads k =
    is kinds.Outer k || (is kinds.Inner k || (is kinds.Default k
    || (is kinds.Junction k || is kinds.State k)))

-- those that the chart may have, and its declarations
abbrev pub in_chart_heads : Kind → Bool
in_chart_heads k =
    is kinds.Inner k || (is kinds.Default k || (is kinds.Junction k || (is kinds.State k
    || (is kinds.Event k || kind_heads k))))
