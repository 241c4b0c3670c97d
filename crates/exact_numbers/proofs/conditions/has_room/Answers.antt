use Rattle.std.proofs.Common.{rules, ◌≡◌, unsigned_abs}
use Rattle.fixed_point.proofs.Powers.{abs_positive}
use Rattle.exact_numbers.proofs.RoomLemmas.{room_by_quotient, room_for_bits}
use Rattle.exact_numbers.proofs.conditions.has_room.Goals as goal

pub returns-then-bits-le100 : goal.returns-then-bits-le100
returns-then-bits-le100 c =
    let is : c.unsigned_abs.result ≡ unsigned_abs c.args.mantissa = search rules in
    room_by_quotient c.args.mantissa c.args.bits _ is

pub returns-else-bits-le100 : goal.returns-else-bits-le100
returns-else-bits-le100 c =
    room_for_bits c.args.mantissa c.args.bits
    (abs_positive c.args.mantissa c.if-mantissa-eq0.false) c.if-bits-le100.false
