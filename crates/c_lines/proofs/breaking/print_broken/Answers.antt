use Rattle.std.proofs.Common.{◌∙◌, ◌++◌, ◌∷◌, sym, ap, subst, string_bytes, encode_utf8_all, chars, IsUtf8, List, ℕ}
use Rattle.c_lines.specs.Broken as spec
use Rattle.c_lines.proofs.Letters.{next_letter, no_letter, written_more, written_all, written_end}
use Rattle.c_lines.proofs.Breaks.{broken_at, broken_on}
use Rattle.c_lines.proofs.breaking.print_broken.Goals as goal

pub loop-letter-init : goal.loop-letter-init
loop-letter-init c = record {
  text = subst IsUtf8 (sym c.chars-letters.ensures.rest) c.utf8.text;
  so_far = ap (λ (x : List ℕ). string_bytes c.args.out.now ++ encode_utf8_all (spec.broken_from _ (chars x)))
      c.chars-letters.ensures.rest;
}

pub returns-then-letter-eq92 : goal.returns-then-letter-eq92
unfolding spec.broken
returns-then-letter-eq92 c =
    let next = next_letter _ _ c.in-Some.letter c.loop-letter.invariant.text c.in-Some.ensures.steps.0 in
    let seen = c.as_str-rest.ensures in
    written_end _ _ _ c.as_str-rest.result.now _ _ c.as_str-rest.utf8
    (broken_at c.loop-letter.place c.in-Some.letter _ _
    (next.0 ∙ ap (λ (x : List ℕ). c.in-Some.letter ∷ chars x) (sym seen)) c.if-letter-eq92.true)
    c.in_ok-push_str.ensures.bytes c.in_ok-push_str-2.ensures.bytes c.loop-letter.invariant.so_far

pub loop-letter-preserved : goal.loop-letter-preserved
loop-letter-preserved c =
    let next = next_letter _ _ c.in-Some.letter c.loop-letter.invariant.text c.in-Some.ensures.steps.0 in
    record {
      text = next.1;
      so_far =
          written_more _ _ _ _ _ _ c.in_ok-print_letter.ensures
          (broken_on c.loop-letter.place _ c.in-Some.letter _ _ _ next.0 (ap chars c.as_str-rest.ensures)
          c.if-letter-eq92.false c.after-place.ensures)
          c.loop-letter.invariant.so_far;
    }

pub returns : goal.returns
unfolding spec.broken
returns c =
    written_all _ _ _ (ap (spec.broken_from c.loop-letter.place) (no_letter _ c.in_default.ensures.steps.0.0))
    c.loop-letter.invariant.so_far
