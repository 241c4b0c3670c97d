-- What a text of compiled code is read as.
use Rattle.std.proofs.Common.{◌≡◌, ◌≤◌, ◌∙◌, ℕ, List, length, Ok, sym, ap, subst}
use Rattle.checked_chart.specs.Chart.{Chart}
use Rattle.code_language.specs.declared.code.RawCode.{RawCode}
use Rattle.code_language.specs.Code.{code_of}
use Rattle.code_lines.specs.declared.format.Format.TheVariants.{Two}
use Rattle.code_text.specs.declared.limits.TheConstants.{TEXT_LIMIT}
use Rattle.code_text.specs.Reading.{spelled}
use Rattle.code_text.specs.Spelling.{code_text}
use Rattle.code_text.specs.Written.{written_of, code_written}
use Rattle.code_text.proofs.OutcomeLemmas.{spelled-text, code_text-one}
use Rattle.chart_code.specs.Bodies.{code_of_chart}
use Rattle.commands.specs.CodeText.{IsCodeText}
use Rattle.commands.specs.Compile.{IsCompiled}

module _ (c : Chart) (text : List ℕ) (compiled : IsCompiled c text) where
  -- it is the text of accepted code
  pub code_text_of : IsCodeText text compiled.raw
  code_text_of = record {
    format = Two;
    text_is = compiled.text_is;
    spellable = compiled.spellable;
    well_formed = compiled.well_formed;
    short = compiled.short;
  }

  -- and is read as that code
  pub is_read : spelled text ≡ Ok (written_of compiled.raw)
  is_read =
      let short : length (code_text Two (written_of compiled.raw)) ≤ TEXT_LIMIT =
      subst (λ (t : List ℕ). length t ≤ TEXT_LIMIT) compiled.text_is compiled.short in
      ap spelled compiled.text_is ∙ spelled-text Two (written_of compiled.raw) compiled.spellable short

-- whatever code it is the text of is the chart's
pub same_code : (c : Chart) (text : List ℕ) (raw : RawCode) → IsCompiled c text → IsCodeText text raw
    → code_of raw ≡ code_of_chart c
same_code c text raw compiled code =
    let one = code_text-one code.format Two (written_of raw) (written_of compiled.raw) code.spellable
    compiled.spellable (sym code.text_is ∙ compiled.text_is) in
    ap code_written one.1 ∙ compiled.code_is
