-- The lines that tell the ranges of a chart.
use Rattle.std.specs.Prelude.{ℕ, ◌+◌, Bool, true, false, List, [], ◌∷◌, ◌++◌, codes, slice_index_or}
use Rattle.fixed_point.specs.declared.fitting.Mode.{Mode}
use Rattle.fixed_point.specs.declared.fitting.Mode.TheVariants.{Saturate, Wrap, Error}
use Rattle.actions.specs.declared.names.Var.{Var}
use Rattle.actions.specs.Data.{value_at}
use Rattle.actions.specs.Names.{Names}
use Rattle.trace_text.specs.Trace.{value_text}
use Rattle.range_spans.specs.Boxes.{Box}
use Rattle.range_spans.specs.declared.span.Span.{Span}
use Rattle.range_rules.specs.declared.cert.Certificate.{Certificate}
use Rattle.range_rules.specs.Worlds.{always_of}

-- NAME LOW HIGH: the ends of a span are spelled as a trace spells values of the datum
abbrev pub span_line : Var → Span → List ℕ
span_line decl span =
    decl.name
    ++ (codes " "
    ++ (value_text (value_at decl.sort span.low)
    ++ (codes " " ++ (value_text (value_at decl.sort span.high) ++ codes "\n"))))

-- so for each datum, from number v on
abbrev pub spans_text : Box → ℕ → List Var → List ℕ
spans_text box v [] = []
spans_text box v (decl ∷ vars) = span_line decl (box v) ++ spans_text box (v + 1) vars

-- a line where no divisor is 0
abbrev pub zero_text : Bool → List ℕ
zero_text true = []
zero_text false = codes "no zero\n"

-- a line where a datum whose mode is `error` doesn't overflow
abbrev pub over_line : Mode → List ℕ → Bool → List ℕ
over_line Saturate name over = []
over_line Wrap name over = []
over_line Error name true = []
over_line Error name false = codes "no overflow " ++ (name ++ codes "\n")

-- so for each datum, from number v on
abbrev pub overs_text : (ℕ → Bool) → ℕ → List Var → List ℕ
overs_text over v [] = []
overs_text over v (decl ∷ vars) = over_line decl.mode decl.name (over v) ++ overs_text over (v + 1) vars

-- whether a datum may overflow, by a certificate
abbrev pub over_of : List Bool → ℕ → Bool
over_of over v = slice_index_or over v false

-- all lines, by a certificate
abbrev pub ranges_text : Names → Certificate → List ℕ
ranges_text n cert =
    spans_text (always_of cert) 0 n.vars ++ (zero_text cert.zero ++ overs_text (over_of cert.over.items) 0 n.vars)
