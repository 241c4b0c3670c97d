use Rattle.std.proofs.Common.{ℕ, ◌/◌, ◌<◌, ◌≤◌, ◌^◌, ℤ, pos, negsuc, length, decimal, arith}
use Rattle.std.proofs.Math.Nat.{div-le_self}
use Rattle.std.proofs.lemmas.Fmt.{length-decimal-le_wide}
use Rattle.fixed_point.specs.Text.{sign_of}
use Rattle.fixed_point.proofs.Digits.{length-fraction_digits-le}
use Rattle.fixed_point.proofs.Told.{decimal_text-exact}
use Rattle.fixed_point.proofs.Shortest.{decimal_text-shortest}
use Rattle.fixed_point.proofs.writing.write_decimal.Goals as goal

-- a sign takes at most one byte
length-sign_of : (z : ℤ) → length (sign_of z) ≤ 1
length-sign_of (pos n) = omega arith
length-sign_of (negsuc n) = omega arith

-- a whole number of 128 bits takes at most 39 digits
length-whole : (n s : ℕ) → n < 2 ^ 128 → length (decimal (n / s)) ≤ 39
length-whole n s fits =
    let small = div-le_self n s in
    length-decimal-le_wide 39 (n / s) (omega arith) (omega arith) (omega arith)

pub put_whole-whole_end-requires : goal.put_whole-whole_end-requires
put_whole-whole_end-requires c = omega (
  arith,
  length-sign_of,
  length-whole c.unsigned_abs-number.result c.unsigned_power-one.result c.unsigned_abs-number.type_inv,
)

pub put-point_end-requires : goal.put-point_end-requires
put-point_end-requires c = omega (
  arith,
  length-sign_of,
  length-whole c.unsigned_abs-number.result c.unsigned_power-one.result c.unsigned_abs-number.type_inv,
)

pub put_behind-requires-clause-room : goal.put_behind-requires-clause-room
put_behind-requires-clause-room c = omega (
  arith,
  length-sign_of,
  length-whole c.unsigned_abs-number.result c.unsigned_power-one.result c.unsigned_abs-number.type_inv,
)

pub returns-then-number-one-eq0-clause-within : goal.returns-then-number-one-eq0-clause-within
returns-then-number-one-eq0-clause-within c = omega (
  arith,
  length-sign_of,
  length-whole c.unsigned_abs-number.result c.unsigned_power-one.result c.unsigned_abs-number.type_inv,
)

pub returns-clause-within : goal.returns-clause-within
returns-clause-within c = omega (
  arith,
  length-sign_of,
  length-whole c.unsigned_abs-number.result c.unsigned_power-one.result c.unsigned_abs-number.type_inv,
  length-fraction_digits-le c.unsigned_abs-number.result c.args.frac,
)

pub returns-then-number-one-eq0-clause-exact : goal.returns-then-number-one-eq0-clause-exact
returns-then-number-one-eq0-clause-exact c =
    decimal_text-exact c.args.mantissa c.args.frac (omega (arith, c.requires.size))

pub returns-clause-exact : goal.returns-clause-exact
returns-clause-exact c = decimal_text-exact c.args.mantissa c.args.frac (omega (arith, c.requires.size))

pub returns-then-number-one-eq0-clause-shortest : goal.returns-then-number-one-eq0-clause-shortest
returns-then-number-one-eq0-clause-shortest c =
    decimal_text-shortest c.args.mantissa c.args.frac (omega (arith, c.requires.size))

pub returns-clause-shortest : goal.returns-clause-shortest
returns-clause-shortest c = decimal_text-shortest c.args.mantissa c.args.frac (omega (arith, c.requires.size))
