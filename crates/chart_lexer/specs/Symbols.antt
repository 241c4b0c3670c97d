-- The symbols of a chart text.
use Rattle.std.specs.Prelude.{ℕ, ◌&&◌, nat_eq, Option, Some, None, List, [], ◌∷◌, if◌then◌else◌}
use Rattle.std.specs.Str.{byte}
use Rattle.token_grammar.specs.declared.token.Kind.{Kind}
use Rattle.token_grammar.specs.declared.token.Kind.TheVariants as kinds

-- the symbol that two bytes are
unfoldable pub pair_kind : ℕ → ℕ → Option Kind
pair_kind a b =
    if nat_eq a (byte "-") && nat_eq b (byte ">") then Some kinds.Arrow else
    if nat_eq a (byte "=") && nat_eq b (byte "=") then Some kinds.EqualEqual else
    if nat_eq a (byte "!") && nat_eq b (byte "=") then Some kinds.NotEqual else
    if nat_eq a (byte "<") && nat_eq b (byte "=") then Some kinds.LessEqual else
    if nat_eq a (byte ">") && nat_eq b (byte "=") then Some kinds.GreaterEqual else
    if nat_eq a (byte "&") && nat_eq b (byte "&") then Some kinds.AndAnd else
    if nat_eq a (byte "|") && nat_eq b (byte "|") then Some kinds.OrOr else
    None

-- the symbol that one byte is
unfoldable pub single_kind : ℕ → Option Kind
single_kind a =
    if nat_eq a (byte "{") then Some kinds.OpenBrace else
    if nat_eq a (byte "}") then Some kinds.CloseBrace else
    if nat_eq a (byte "[") then Some kinds.OpenBracket else
    if nat_eq a (byte "]") then Some kinds.CloseBracket else
    if nat_eq a (byte "(") then Some kinds.OpenParen else
    if nat_eq a (byte ")") then Some kinds.CloseParen else
    if nat_eq a (byte ";") then Some kinds.Semicolon else
    if nat_eq a (byte ":") then Some kinds.Colon else
    if nat_eq a (byte ",") then Some kinds.Comma else
    if nat_eq a (byte "@") then Some kinds.At else
    if nat_eq a (byte "=") then Some kinds.Assign else
    if nat_eq a (byte "/") then Some kinds.Slash else
    if nat_eq a (byte "+") then Some kinds.Plus else
    if nat_eq a (byte "-") then Some kinds.Minus else
    if nat_eq a (byte "*") then Some kinds.Star else
    if nat_eq a (byte "<") then Some kinds.Less else
    if nat_eq a (byte ">") then Some kinds.Greater else
    if nat_eq a (byte "!") then Some kinds.Not else
    None

-- the symbol that the first two bytes of a text spell
abbrev pub first_pair : List ℕ → Option Kind
first_pair [] = None
first_pair (a ∷ []) = None
first_pair (a ∷ b ∷ s) = pair_kind a b

-- the symbol that the first byte of a text spells
abbrev pub first_single : List ℕ → Option Kind
first_single [] = None
first_single (a ∷ s) = single_kind a
