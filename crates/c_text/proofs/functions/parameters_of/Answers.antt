use Rattle.std.proofs.Common.{◌+◌, ◌++◌, List, drop, sym, ap, ◌∙◌, append_assoc, arith}
use Rattle.std.proofs.lemmas.List.{at_drop_more, at_drop_all, append-nil}
use Rattle.c_text.specs.declared.locals.LocalName.{LocalName}
use Rattle.c_text.specs.Functions.{parameters_from}
use Rattle.c_text.proofs.functions.parameters_of.Goals as goal

pub loop-number-preserved : goal.loop-number-preserved
loop-number-preserved c =
    ap (λ (made : List LocalName).
    made ++ parameters_from (c.loop-number.number + 1) (drop (c.loop-number.number + 1) c.args.types.now))
    c.in_ok-push.ensures.items
    ∙ append_assoc c.loop-number.locals.items _ _
    ∙ ap (λ (rest : List LocalName). c.loop-number.locals.items ++ rest)
    (sym (at_drop_more (parameters_from c.loop-number.number) c.args.types.now c.loop-number.number _ (omega arith)))
    ∙ c.loop-number.invariant

pub returns : goal.returns
returns c =
    sym (append-nil c.loop-number.locals.items)
    ∙ ap (λ (rest : List LocalName). c.loop-number.locals.items ++ rest)
    (sym (at_drop_all (parameters_from c.loop-number.number) c.args.types.now c.loop-number.number (omega arith)))
    ∙ c.loop-number.invariant
