-- What reading all tokens of a text answers.
use Rattle.std.specs.Prelude.{◌≡◌, List, [], ◌∷◌, Result, Ok, Err}
use Rattle.token_grammar.specs.declared.token.Span.{Span}
use Rattle.token_grammar.specs.declared.fault.TokenFault.{TokenFault}
use Rattle.token_grammar.specs.Token.{Lexeme, Outcome}
use Rattle.chart_lexer.specs.declared.front.Stop.{Stop}
use Rattle.chart_lexer.specs.declared.front.Stop.TheVariants as stops
use Rattle.chart_tree.specs.declared.fault.FormKind.{FormKind}
use Rattle.chart_tree.specs.declared.fault.FormKind.TheVariants as forms
use Rattle.chart_tree.specs.declared.fault.FormFault.{FormFault}
use Rattle.chart_tree.specs.declared.fault.FormFault.TheVariants as faults
use Rattle.chart_tree.specs.declared.chart.ChartText.{ChartText}
use Rattle.chart_tree.specs.Form.{kind_of}
use Rattle.chart_tree.specs.Trees.{Chart}
use Rattle.chart_tree.specs.Views.{chart_of}

-- the kind of fault where no token is left, by what stands after the last token
abbrev pub end_kind : Stop → FormKind
end_kind stops.End = forms.Expected
end_kind stops.BadByte = forms.BadByte
end_kind stops.BadToken = forms.BadToken

-- a fault of reading at the first token that is left; where none is left, the fault of what stands
-- after the last token
abbrev pub fault_at : TokenFault → List Lexeme → Stop → Span → FormFault
fault_at fault [] stop at = faults.At (end_kind stop) at
fault_at fault (t ∷ rest) stop at = faults.At (kind_of fault) t.at

-- the chart of all tokens, where the text ends after them; else the fault of what stands there
abbrev pub chart_at : Chart → Stop → Span → Result Chart FormFault
chart_at c stops.End at = Ok c
chart_at c stops.BadByte at = Err (faults.At forms.BadByte at)
chart_at c stops.BadToken at = Err (faults.At forms.BadToken at)

-- what the reading of all tokens answers, with what stands after them and its place
abbrev pub answer : Stop → Span → Outcome Chart → Result Chart FormFault
answer stop at (Ok x) = chart_at x.0 stop at
answer stop at (Err e) = Err (fault_at e.0 e.1 stop at)

-- this was answered, unless memory ran out
abbrev pub IsAnswer : Result ChartText FormFault → Result Chart FormFault → Type 0
IsAnswer (Ok c) expected = expected ≡ Ok (chart_of c)
IsAnswer (Err faults.Memory) expected = Unit {0}
IsAnswer (Err (faults.At kind at)) expected = expected ≡ Err (faults.At kind at)
