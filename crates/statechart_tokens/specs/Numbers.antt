-- The literals that numbers spell.
use Rattle.std.specs.Prelude.{ℕ, List, [], ◌∷◌, ◌++◌, length, Option, Some, None, Result, Ok, Err, if◌then◌else◌}
use Rattle.token_grammar.specs.declared.token.Kind.TheVariants as kinds
use Rattle.token_grammar.specs.declared.fault.TokenFault.{TokenFault}
use Rattle.token_grammar.specs.declared.fault.TokenFault.TheVariants as faults
use Rattle.token_grammar.specs.Token.{Lexeme, kind_eq}
use Rattle.fixed_point.specs.Reading.{number_read, value_of}
use Rattle.chart_tree.specs.declared.name.LitText.{LitText}
use Rattle.chart_grammar.specs.Words.{lit_of}
use Rattle.statechart_grammar.specs.Words.{fault_of_length}

-- the literal, unless its number has a fault
abbrev pub or_fault : Option TokenFault → LitText → Result LitText TokenFault
or_fault None lit = Ok lit
or_fault (Some fault) lit = Err fault

-- the literal of digits before and after the point, with the bits that `q` asks for
abbrev pub lit_told : List ℕ → List ℕ → Option ℕ → LitText
lit_told whole behind bits = record { units = value_of (whole ++ behind); places = length behind; q = bits }

-- the literal that the first token spells, or the fault of the token
abbrev pub first_literal : List Lexeme → Result LitText TokenFault
first_literal [] = Err faults.Expected
first_literal (t ∷ s) =
    if kind_eq t.kind kinds.Number then or_fault (fault_of_length (number_read t.text)) (lit_of t.text)
    else Err faults.Expected
