use Rattle.std.proofs.Common.{◌∙◌, sym, ap, List, ℕ}
use Rattle.c_lines.specs.Broken as spec
use Rattle.c_lines.proofs.Fitting.{fits_over, fits_not, fits_on}
use Rattle.c_lines.proofs.Letters.{next_letter, no_letter}
use Rattle.c_lines.proofs.breaking.fits.Goals as goal

pub returns-then-is_over : goal.returns-then-is_over
returns-then-is_over c =
    let next = next_letter _ _ c.in-Some.letter c.loop-letter.invariant.text c.in-Some.ensures.steps.0 in
    sym (fits_over c.loop-letter.ahead c.loop-letter.left c.in-Some.letter _ (sym c.if-is_over.ensures))
    ∙ sym (ap (λ (x : List ℕ). spec.fits_from c.loop-letter.ahead c.loop-letter.left x) next.0)
    ∙ c.loop-letter.invariant.same

pub returns-then-left-eq0 : goal.returns-then-left-eq0
returns-then-left-eq0 c =
    let next = next_letter _ _ c.in-Some.letter c.loop-letter.invariant.text c.in-Some.ensures.steps.0 in
    sym (fits_not c.loop-letter.ahead c.loop-letter.left c.in-Some.letter _ c.if-left-eq0.true (sym c.if-is_over.ensures))
    ∙ sym (ap (λ (x : List ℕ). spec.fits_from c.loop-letter.ahead c.loop-letter.left x) next.0)
    ∙ c.loop-letter.invariant.same

pub loop-letter-preserved : goal.loop-letter-preserved
loop-letter-preserved c =
    let next = next_letter _ _ c.in-Some.letter c.loop-letter.invariant.text c.in-Some.ensures.steps.0 in
    record {
      text = next.1;
      same =
          rw c.ahead_after-ahead.ensures
          (fits_on c.loop-letter.ahead c.loop-letter.left c.in-Some.letter _ c.if-left-eq0.false
          (sym c.if-is_over.ensures)
          ∙ sym (ap (λ (x : List ℕ). spec.fits_from c.loop-letter.ahead c.loop-letter.left x) next.0)
          ∙ c.loop-letter.invariant.same);
    }

pub returns : goal.returns
returns c =
    sym (ap (λ (x : List ℕ). spec.fits_from c.loop-letter.ahead c.loop-letter.left x) (no_letter _ c.in-None.ensures.steps.0.0))
    ∙ c.loop-letter.invariant.same
