use Rattle.std.proofs.Common.{◌≡◌, ◌<◌, length, arith}
use Rattle.code_shrink.proofs.NumberLemmas.{one_live, one_dead, all_numbered}
use Rattle.code_shrink.proofs.numbers.numbers_of.Goals as goal
use Rattle.code_shrink.proofs.numbers.numbers_of.Goals.{then-is_live, else-is_live}

-- one more procedure
pub loop-is_live-preserved : goal.loop-is_live-preserved
loop-is_live-preserved c =
    let live = c.args.live.now in let i = c.loop-is_live.is_live-index in let numbers = c.loop-is_live.numbers.items in
    let within : i < length live = c.loop-is_live-test.true in
    rw c.in_ok-push.ensures.items (elim c.if-is_live.branch [
      | then-is_live w ↦
          one_live live i c.loop-is_live.number c.if-is_live.number numbers c.loop-is_live.invariant
          within w.if-is_live.true w.number-is
      | else-is_live w ↦
          one_dead live i c.loop-is_live.number c.if-is_live.number numbers c.loop-is_live.invariant
          within w.if-is_live.false w.number-is
    ])

-- all procedures
pub returns-clause-numbers : goal.returns-clause-numbers
returns-clause-numbers c p =
    let test = c.loop-is_live-test.false in
    let end = c.loop-is_live.auto.is_live-index-end in
    let all : c.loop-is_live.is_live-index ≡ length c.args.live.now = omega (arith, test, end) in
    rw c.in_ok-push-2.ensures.items
    (all_numbered c.args.live.now c.loop-is_live.is_live-index c.loop-is_live.number c.loop-is_live.numbers.items
    c.loop-is_live.invariant all p)
