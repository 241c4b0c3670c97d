use Rattle.library_tests.proofs.DataLemmas.{small_can_take, flag_can_take}
use Rattle.library_tests.proofs.data.can_take.Goals as goal

pub returns-in-Flag-Flag : goal.returns-in-Flag-Flag
returns-in-Flag-Flag c =
    λ _ sort has. flag_can_take sort c.args.was c.args.value _ _ has c.in-Flag-Flag.is-0 c.in-Flag-Flag.is-1

pub returns-in-Number-Number : goal.returns-in-Number-Number
returns-in-Number-Number c = λ small sort has.
    small_can_take sort c.args.was c.args.value _ _ has c.in-Number-Number.is-0 c.in-Number-Number.is-1 (c.is_small.ensures small)
