use Rattle.std.proofs.Common.{◌≡◌, ◌≤◌, ◌^◌, false, sym, ⊎_elim, unsigned_abs, arith}
use Rattle.std.proofs.lemmas.Bool.{cases_lt, false≢true}
use Rattle.fixed_point.specs.Numbers.{is_whole}
use Rattle.fixed_point.proofs.Floors.{scaled-within}
use Rattle.fixed_point.proofs.Ranges.{exact_mantissa-broken, exact_mantissa-far}
use Rattle.fixed_point.proofs.fitting.exact.Goals as goal
use Rattle.fixed_point.proofs.fitting.exact.Goals.{then-not-is_whole-via-then-not-is_whole}
use Rattle.fixed_point.proofs.fitting.exact.Goals.{then-not-is_whole-via-else-not-is_whole+then-is_far}

-- the value isn't whole there, or it is too far from 0
pub returns-then-not-is_whole : goal.returns-then-not-is_whole
returns-then-not-is_whole c =
    let same = c.from-frac.ensures in
    elim c.then-not-is_whole.branch [
      | then-not-is_whole-via-then-not-is_whole w ↦
          let broken : is_whole c.args.a c.args.to.frac ≡ false = cc in
          sym (exact_mantissa-broken c.args.a c.args.to broken)
      | then-not-is_whole-via-else-not-is_whole+then-is_far w ↦
          let far = w.is_far.ensures.0 w.if-is_far.true in
          sym (exact_mantissa-far c.args.a c.args.to (omega arith) far.1)
    ]

-- a mantissa that isn't far has at most 65 bits, and 32 come to them
pub floored-mantissa-requires-clause-size : goal.floored-mantissa-requires-clause-size
floored-mantissa-requires-clause-size c = λ above.
    let near : unsigned_abs c.args.a.mantissa ≤ 2 ^ 64 = ⊎_elim
    (λ far. absurd (false≢true (c.if-is_far.ensures.1 (above, far)))) (λ h. h)
    (cases_lt (2 ^ 64) (unsigned_abs c.args.a.mantissa)) in
    scaled-within c.args.a c.from-frac.result (omega (arith, c.args.to.frac_within)) near
