use Rattle.std.proofs.Common.{ℕ, ◌<◌, length, arith}
use Rattle.std.proofs.lemmas.List.Elements.{All-get_or}
use Rattle.c_file.specs.Made.{functions_of}
use Rattle.c_file.proofs.OrderLemmas.{none_early, one_early, all_early}
use Rattle.c_file.proofs.order.stand_all.Goals as goal

pub loop-number-init : goal.loop-number-init
loop-number-init c = none_early _ _ _ _ c.requires.stands c.requires.early

pub stand-requires-clause-within : goal.stand-requires-clause-within
stand-requires-clause-within c =
    All-get_or (λ (f : ℕ). f < length (functions_of c.args.made.now)) c.args.order.now c.loop-number.number-index _
    (omega arith) c.requires.within

pub stand-requires-clause-stands : goal.stand-requires-clause-stands
stand-requires-clause-stands c = c.loop-number.invariant.size

pub stand-requires-clause-early : goal.stand-requires-clause-early
stand-requires-clause-early c = c.loop-number.invariant.same_size

pub loop-number-preserved : goal.loop-number-preserved
loop-number-preserved c =
    one_early _ _ _ _ _ c.args.order.now _ c.loop-number.number-index _ (omega arith) c.loop-number.invariant
    c.in_ok-stand.ensures

pub returns : goal.returns
returns c = all_early _ _ _ c.args.order.now _ c.loop-number.number-index (omega arith) c.loop-number.invariant
