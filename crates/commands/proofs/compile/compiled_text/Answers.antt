use Rattle.std.proofs.Common.{◌≤◌, ℕ, List, length, subst, sym}
use Rattle.checked_chart.specs.Kept.{chart_of}
use Rattle.code_text.specs.declared.limits.TheConstants.{TEXT_LIMIT}
use Rattle.code_text.specs.Written.{written_of}
use Rattle.layout_text.proofs.Whole.{text_short}
use Rattle.commands.proofs.compile.compiled_text.Goals as goal

-- the text of a chart's code
pub returns : goal.returns
returns c =
    let chart = chart_of c.args.chart.now in
    let raw = c.in_ok-code.code in
    let same = c.in_ok-code.ensures.code in
    let printed = c.in_ok-text.ensures in
    let valid = c.shape-shape.ensures.valid in
    record {
      raw = raw;
      text_is = printed.text;
      spellable = printed.spellable;
      code_is = same;
      well_formed = c.raw-raw.ensures.well_formed;
      short =
          subst (λ (t : List ℕ). length t ≤ TEXT_LIMIT) (sym printed.text)
          (text_short chart valid (written_of raw) same);
      runs = c.in_ok-code.ensures.runs;
    }
