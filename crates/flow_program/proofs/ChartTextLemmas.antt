-- Chart texts that are too long.
use Rattle.std.proofs.Common.{ℕ, ◌<◌, List, length, refl, inl}
use Rattle.chart_lexer.specs.Lex.{begin}
use Rattle.chart_tree.specs.declared.fault.FormFault.TheVariants as faults
use Rattle.chart_tree.specs.declared.fault.FormKind.TheVariants as forms
use Rattle.chart_tree.specs.declared.limits.TheConstants.{CHART_TEXT_LIMIT}
use Rattle.chart_reader.specs.Text as reader

-- a text that is too long is no chart text
pub text_too_long : (text : List ℕ) → CHART_TEXT_LIMIT < length text → reader.IsRefusal text (faults.At forms.TextTooLong begin)
text_too_long text h = inl (record { kind_is = refl; long = h; place = refl })
