-- Which texts are chart texts, and how another text is refused.
use Rattle.std.specs.Prelude.{◌≡◌, ◌≢◌, ℕ, ◌≤◌, not, List, [], ◌∷◌, length, Result, Ok, Err, ◌⊎◌}
use Rattle.std.specs.List.{filter}
use Rattle.token_grammar.specs.declared.token.Kind.TheVariants as kinds
use Rattle.token_grammar.specs.declared.token.Span.{Span}
use Rattle.token_grammar.specs.declared.fault.TokenFault.{TokenFault}
use Rattle.token_grammar.specs.declared.fault.TokenFault.TheVariants as reading
use Rattle.token_grammar.specs.Token.{Lexeme, kind_eq}
use Rattle.token_grammar.specs.Grammar.{Continues, FirstFault}
use Rattle.chart_lexer.specs.declared.front.Stop.TheVariants as stops
use Rattle.chart_lexer.specs.Lex.{cut_of}
use Rattle.chart_tree.specs.declared.fault.FormKind.{FormKind}
use Rattle.chart_tree.specs.declared.fault.FormFault.{FormFault}
use Rattle.chart_tree.specs.declared.fault.FormFault.TheVariants as faults
use Rattle.chart_tree.specs.declared.chart.ChartText.{ChartText}
use Rattle.chart_tree.specs.declared.limits.TheConstants.{CHART_TEXT_LIMIT}
use Rattle.chart_tree.specs.Trees.{Chart}
use Rattle.chart_tree.specs.Form.{kind_of, IsTooLong}
use Rattle.chart_tree.specs.Views.{chart_of}
use Rattle.chart_grammar.specs.Limits.{usual}
use Rattle.chart_grammar.specs.States.{chart}
use Rattle.chart_grammar.specs.Refusals.{IsFaultOf}
use Rattle.chart_reader.specs.Answer.{end_kind}

-- the tokens of a text, without its comments
unfoldable pub tokens_of : List ℕ → List Lexeme
tokens_of text = filter (λ t. not (kind_eq t.kind kinds.Comment)) (cut_of text).tokens

-- a text of at most CHART_TEXT_LIMIT bytes, whose tokens to its end spell the chart within the limits
pub record Spells (text : List ℕ) (c : Chart) : Type 0 where
  pub short : length text ≤ CHART_TEXT_LIMIT
  pub whole : (cut_of text).stop ≡ stops.End
  pub spelled : (chart usual).spells (tokens_of text) c

-- ---- refusals of a text that isn't too long

-- the text ends where a chart isn't finished
pub record EndsEarly (text : List ℕ) (at : Span) : Type 0 where
  pub whole : (cut_of text).stop ≡ stops.End
  pub fault : FirstFault (chart usual) (tokens_of text) []
  pub place : at ≡ (cut_of text).at

-- a token is the first that doesn't continue a chart within the limits, and has that fault
pub record StopsAt (text : List ℕ) (fault : TokenFault) (at : Span) : Type 0 where
  pub first : Lexeme
  pub others : List Lexeme
  pub stops : FirstFault (chart usual) (tokens_of text) (first ∷ others)
  pub kind : IsFaultOf stops.before first fault
  pub place : at ≡ first.at

-- when a fault of reading comes, and where: at the first token that doesn't continue, or, as Expected,
-- at the end of a text that ends too early
abbrev pub Stops : List ℕ → TokenFault → Span → Type 0
Stops text fault at = StopsAt text fault at ⊎ (fault ≡ reading.Expected) × EndsEarly text at

-- after tokens that continue, no token begins, and the kind says what stands there: a byte that no chart text may have,
-- or a byte that begins no token
pub record NoToken (text : List ℕ) (kind : FormKind) (at : Span) : Type 0 where
  pub cut_short : (cut_of text).stop ≢ stops.End
  pub kind_is : kind ≡ end_kind (cut_of text).stop
  pub continues : Continues (chart usual) (tokens_of text)
  pub place : at ≡ (cut_of text).at

-- reading stops there, and the kind is that of its fault
pub record ReadingStops (text : List ℕ) (kind : FormKind) (at : Span) : Type 0 where
  pub fault : TokenFault
  pub kind_is : kind ≡ kind_of fault
  pub stops : Stops text fault at

-- a text that isn't too long is refused where no token begins, or where reading stops
abbrev pub IsRefusedWithin : List ℕ → FormKind → Span → Type 0
IsRefusedWithin text kind at =
    (length text ≤ CHART_TEXT_LIMIT) × (NoToken text kind at ⊎ ReadingStops text kind at)

-- when a text is refused, with which kind of fault and where; memory may run out at any text
abbrev pub IsRefusal : List ℕ → FormFault → Type 0
IsRefusal text (faults.At kind at) = IsTooLong text kind at ⊎ IsRefusedWithin text kind at
IsRefusal text faults.Memory = Unit {0}

-- this chart was read, unless memory ran out
abbrev pub IsReadAs : Chart → Result ChartText FormFault → Type 0
IsReadAs c (Ok d) = chart_of d ≡ c
IsReadAs c (Err (faults.At kind at)) = ⊥
IsReadAs c (Err faults.Memory) = Unit {0}
