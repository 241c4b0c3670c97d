use Rattle.std.proofs.Common.{◌++◌, ◌∷◌, [], ap, ◌∙◌, arith}
use Rattle.c_file.specs.Reached.{is_outside}
use Rattle.c_file.proofs.PassLemmas.{outside_none, outside_more, outside_ends}
use Rattle.c_file.proofs.known.outside_flags.Goals as goal

pub loop-number-init : goal.loop-number-init
loop-number-init c = outside_none _ _ c.new-flags.ensures.items

pub loop-number-preserved : goal.loop-number-preserved
loop-number-preserved c =
    outside_more _ _ _ _ c.loop-number.invariant
    (c.in_ok-push.ensures.items
    ∙ ap (λ b. c.loop-number.flags.items ++ b ∷ []) (c.is_outside.ensures ∙ ap is_outside c.function_kind.ensures))

pub returns : goal.returns
returns c =
    outside_ends _ _ _ _ (omega (arith, c.count-number-end.ensures, c.loop-number-test.false)) c.loop-number.invariant
