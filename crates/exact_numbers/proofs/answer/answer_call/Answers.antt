use Rattle.std.proofs.Common.{refl}
use Rattle.exact_numbers.proofs.answer.answer_call.Goals as goal

-- each call is made where its conditions hold
pub add-requires : goal.add-requires
add-requires c = c.if-can_align.ensures.0 refl

pub sub-requires : goal.sub-requires
sub-requires c = c.if-can_align-2.ensures.0 refl

pub compare-requires : goal.compare-requires
compare-requires c = c.if-can_align-3.ensures.0 refl

pub div-requires : goal.div-requires
div-requires c = c.if-can_divide.ensures.0 refl

pub mul-requires : goal.mul-requires
mul-requires c = let h = c.if-can_multiply.ensures.0 refl in record { size = h.0; frac = h.1 }

pub fit-requires : goal.fit-requires
fit-requires c = let h = c.if-can_fit.ensures.0 refl in record { own = h.0; brought = h.1 }

pub write_decimal-len-requires-clause-frac : goal.write_decimal-len-requires-clause-frac
write_decimal-len-requires-clause-frac c = (c.if-can_write.ensures.0 refl).1
