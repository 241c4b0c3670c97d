-- The symbols of a statechart text.
use Rattle.std.specs.Prelude.{ℕ, ◌||◌, ◌&&◌, Bool, nat_eq, Option, Some, None, List, [], ◌∷◌, if◌then◌else◌}
use Rattle.std.specs.Str.{byte}
use Rattle.token_grammar.specs.declared.token.Kind.{Kind}
use Rattle.token_grammar.specs.declared.token.Kind.TheVariants as kinds
use Rattle.chart_lexer.specs.Symbols as core

-- whether two bytes are one of `+= -= *= /= ++`, which change a datum
unfoldable pub is_change : ℕ → ℕ → Bool
is_change a b =
    (nat_eq b (byte "=") && (nat_eq a (byte "+") || (nat_eq a (byte "-") || (nat_eq a (byte "*") || nat_eq a (byte "/")))))
    || (nat_eq a (byte "+") && nat_eq b (byte "+"))

-- the symbol that two bytes are: one that changes a datum, or one of a chart text
unfoldable pub pair_kind : ℕ → ℕ → Option Kind
pair_kind a b = if is_change a b then Some kinds.Chart else core.pair_kind a b

-- the symbol that one byte is: `.`, `|`, or one of a chart text
unfoldable pub single_kind : ℕ → Option Kind
single_kind a =
    if nat_eq a (byte ".") || nat_eq a (byte "|") then Some kinds.Comment else core.single_kind a

-- the symbol that the first two bytes of a text spell
abbrev pub first_pair : List ℕ → Option Kind
first_pair [] = None
first_pair (a ∷ []) = None
first_pair (a ∷ b ∷ s) = pair_kind a b

-- the symbol that the first byte of a text spells
abbrev pub first_single : List ℕ → Option Kind
first_single [] = None
first_single (a ∷ s) = single_kind a
