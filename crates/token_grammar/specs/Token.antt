-- Tokens as contracts see them.
use Rattle.std.specs.Prelude.{◌≡◌, ℕ, nat_eq, Bool, List, Result, Ok, Err, map}
use Rattle.token_grammar.specs.declared.token.Kind.{Kind}
use Rattle.token_grammar.specs.declared.token.Kind.TheVariants as kinds
use Rattle.token_grammar.specs.declared.token.Span.{Span}
use Rattle.token_grammar.specs.declared.token.Token.{Token}
use Rattle.token_grammar.specs.declared.fault.TokenFault.{TokenFault}
use Rattle.token_grammar.specs.declared.fault.ReadError.{ReadError}
use Rattle.token_grammar.specs.declared.fault.ReadError.TheVariants as errors

-- a number for each kind, in the order of the enum
abbrev pub kind_number : Kind → ℕ
kind_number kinds.Chart = 0
kind_number kinds.Or = 1
kind_number kinds.And = 2
kind_number kinds.State = 3
kind_number kinds.Entry = 4
kind_number kinds.During = 5
kind_number kinds.Exit = 6
kind_number kinds.Outer = 7
kind_number kinds.Inner = 8
kind_number kinds.Default = 9
kind_number kinds.Junction = 10
kind_number kinds.Event = 11
kind_number kinds.Input = 12
kind_number kinds.Output = 13
kind_number kinds.Local = 14
kind_number kinds.Send = 15
kind_number kinds.To = 16
kind_number kinds.Emit = 17
kind_number kinds.In = 18
kind_number kinds.True = 19
kind_number kinds.False = 20
kind_number kinds.Tick = 21
kind_number kinds.Saturate = 22
kind_number kinds.Wrap = 23
kind_number kinds.Error = 24
kind_number kinds.History = 25
kind_number kinds.Name = 26
kind_number kinds.Number = 27
kind_number kinds.Comment = 28
kind_number kinds.OpenBrace = 29
kind_number kinds.CloseBrace = 30
kind_number kinds.OpenBracket = 31
kind_number kinds.CloseBracket = 32
kind_number kinds.OpenParen = 33
kind_number kinds.CloseParen = 34
kind_number kinds.Semicolon = 35
kind_number kinds.Colon = 36
kind_number kinds.Comma = 37
kind_number kinds.At = 38
kind_number kinds.Assign = 39
kind_number kinds.Arrow = 40
kind_number kinds.Slash = 41
kind_number kinds.Plus = 42
kind_number kinds.Minus = 43
kind_number kinds.Star = 44
kind_number kinds.EqualEqual = 45
kind_number kinds.NotEqual = 46
kind_number kinds.Less = 47
kind_number kinds.LessEqual = 48
kind_number kinds.Greater = 49
kind_number kinds.GreaterEqual = 50
kind_number kinds.AndAnd = 51
kind_number kinds.OrOr = 52
kind_number kinds.Not = 53

-- two kinds are the same
abbrev pub kind_eq : Kind → Kind → Bool
kind_eq a b = nat_eq (kind_number a) (kind_number b)

-- a token, without where its bytes lie in memory
pub record Lexeme : Type 0 where
  pub kind : Kind
  pub text : List ℕ
  pub at : Span

-- a token of the code as a contract sees it
abbrev pub lexeme : Token → Lexeme
lexeme t = record { kind = t.kind; text = t.text.now; at = t.at }

-- the tokens of the code as contracts see them
abbrev pub lexemes : List Token → List Lexeme
lexemes ts = map lexeme ts

-- the value and the tokens after it, or the fault and the tokens from the one at fault on
abbrev pub Outcome : Type 0 → Type 0
Outcome X = Result (X × List Lexeme) (TokenFault × List Lexeme)

-- A reader that failed: its fault and the tokens that are left are what reading gives; at Memory
-- nothing is said.
abbrev pub Fails : {Y : Type 0} → ReadError → List Lexeme → Outcome Y → Type 0
Fails errors.Memory rest read = Unit {0}
Fails (errors.Fault f) rest read = read ≡ Err (f, rest)

-- The view of what a reader returned, and the tokens that it left, are what reading gives.
abbrev pub Gives : {X Y : Type 0} → (X → Y) → Result X ReadError → List Lexeme → Outcome Y → Type 0
Gives view (Ok x) rest read = read ≡ Ok (view x, rest)
Gives view (Err e) rest read = Fails e rest read
