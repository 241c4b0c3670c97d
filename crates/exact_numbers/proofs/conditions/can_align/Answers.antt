use Rattle.std.proofs.Common.{FitsSigned, sym, ◌∙◌, arith, rules}
use Rattle.std.proofs.lemmas.Bool.{false≢true, leb-true}
use Rattle.std.proofs.lemmas.Int.{to_z-of_z}
use Rattle.std.specs.Int.{w128}
use Rattle.exact_numbers.proofs.RoomLemmas.{align_both, align_left, align_none}
use Rattle.exact_numbers.proofs.conditions.can_align.Goals as goal
use Rattle.exact_numbers.proofs.conditions.can_align.Goals.{then-frac-le-FRACTION_LIMIT, else-frac-le-FRACTION_LIMIT}

-- the first number has room, and so the second decides
pub returns-then-has_room : goal.returns-then-has_room
returns-then-has_room c =
    let a_fits : FitsSigned w128 c.args.a.mantissa = search rules in
    let b_fits : FitsSigned w128 c.args.b.mantissa = search rules in
    elim c.if-frac-le-FRACTION_LIMIT.branch [
      | then-frac-le-FRACTION_LIMIT w ↦
          align_both c.args.a c.args.b _ _ c.max-frac.result c.has_room-then-has_room.result (to_z-of_z w128 _ a_fits)
          (to_z-of_z w128 _ b_fits) c.max-frac.ensures w.if-frac-le-FRACTION_LIMIT.true
          (w.has_room.ensures.0 (sym w.value-is ∙ c.if-has_room.true)) c.has_room-then-has_room.ensures
      | else-frac-le-FRACTION_LIMIT w ↦
          let few = leb-true c.max-frac.result 64 (sym w.value-is ∙ c.if-has_room.true) in
          absurd (omega (arith, w.if-frac-le-FRACTION_LIMIT.false))
    ]

-- the first number has no room, or the fraction is too great
pub returns-else-has_room : goal.returns-else-has_room
returns-else-has_room c =
    let a_fits : FitsSigned w128 c.args.a.mantissa = search rules in
    elim c.if-frac-le-FRACTION_LIMIT.branch [
      | then-frac-le-FRACTION_LIMIT w ↦
          align_none c.args.a c.args.b c.if-frac-le-FRACTION_LIMIT.value c.if-has_room.false (λ can.
          false≢true (sym c.if-has_room.false ∙ w.value-is
          ∙ align_left c.args.a c.args.b _ c.max-frac.result w.has_room.result (to_z-of_z w128 _ a_fits) c.max-frac.ensures
          w.has_room.ensures can))
      | else-frac-le-FRACTION_LIMIT w ↦
          align_none c.args.a c.args.b c.if-frac-le-FRACTION_LIMIT.value c.if-has_room.false (λ can.
          omega (arith, can.left_frac, can.right_frac, c.max-frac.ensures, w.if-frac-le-FRACTION_LIMIT.false))
    ]
