use Rattle.std.proofs.Common.{ℕ, [], ◌∷◌, ap, ◌∙◌, arith}
use Rattle.std.proofs.lemmas.Fmt.{decimal_digit, length-decimal-le}
use Rattle.itoa.proofs.Decimal.{decimal_two}
use Rattle.trace_text.proofs.PieceLemmas.{two_bytes}
use Rattle.trace_text.proofs.PutLemmas.{puts_same}
use Rattle.trace_text.proofs.pieces.Pieces.put_digits.Goals as goal

pub returns-then-number-lt10 : goal.returns-then-number-lt10
returns-then-number-lt10 g c =
    puts_same _ _ _ _ _ _ _ _ c.put_byte.ensures
    (decimal_digit c.args.number c.if-number-lt10.true ∙ ap (λ (d : ℕ). d ∷ []) (omega arith))

pub returns-then-number-lt100 : goal.returns-then-number-lt100
returns-then-number-lt100 g c =
    puts_same _ _ _ _ _ _ _ _ c.put.ensures
    (decimal_two c.args.number c.if-number-lt10.false c.if-number-lt100.true ∙ two_bytes _ _ _ _ (omega arith) (omega arith))

-- a number of 64 bits has at most 20 digits
pub has_room-requires : goal.has_room-requires
has_room-requires g c =
    let few = length-decimal-le 20 c.args.number (omega arith) (omega arith) c.ranges.number.fits in
    omega (arith, few, c.digit_count-count.ensures)
