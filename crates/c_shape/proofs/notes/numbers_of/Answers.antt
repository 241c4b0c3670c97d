use Rattle.std.proofs.Common.{ℕ, ◌∙◌, ap}
use Rattle.flow_base.specs.Lists.{items_of}
use Rattle.flow_base.specs.declared.list.List.{List}
use Rattle.c_shape.proofs.NoteLemmas.{numbers_put, numbers_left}
use Rattle.c_shape.proofs.notes.numbers_of.Goals as goal
use Rattle.c_shape.proofs.notes.numbers_of.Goals.{then-flags-number+in_ok-push, else-flags-number}

-- one more number
pub loop-number-preserved : goal.loop-number-preserved
loop-number-preserved c =
    elim c.if-flags-number.branch [
      | then-flags-number+in_ok-push w ↦
          numbers_put c.args.flags.now c.loop-number.number (items_of c.loop-number.numbers)
          (items_of c.if-flags-number.numbers) w.if-flags-number.true c.loop-number.invariant
          (ap (λ (l : List ℕ). items_of l) w.numbers-is ∙ w.in_ok-push.ensures.ok)
      | else-flags-number w ↦
          numbers_left c.args.flags.now c.loop-number.number (items_of c.loop-number.numbers)
          (items_of c.if-flags-number.numbers) w.if-flags-number.false c.loop-number.invariant
          (ap (λ (l : List ℕ). items_of l) w.numbers-is)
    ]
