use Rattle.std.proofs.Common.{◌&&◌, Bool, false, sym, ap, ◌∙◌, arith}
use Rattle.std.proofs.lemmas.List.{at_drop_more, get_or-map}
use Rattle.c_file.proofs.AskLemmas.{decides, passes, none_left}
use Rattle.c_file.specs.Made.{functions_of}
use Rattle.c_file.specs.Source.{any_wide}
use Rattle.c_file.specs.Reached.{is_written}
use Rattle.c_file.specs.Uses.{is_wide}
use Rattle.c_file.proofs.FunctionLemmas.{no_function}
use Rattle.c_file.proofs.printing.any_wide.Goals as goal

pub returns-then-is_wide : goal.returns-then-is_wide
returns-then-is_wide c =
    decides _ _ _ _
    (at_drop_more (any_wide c.args.uses.now.reached.items c.loop-number.number)
    (functions_of c.args.made.now) c.loop-number.number no_function (omega (arith, c.count-number-end.ensures)))
    (ap (λ (b : Bool). is_written c.args.uses.now.reached.items c.loop-number.number && b)
    (sym (get_or-map is_wide (functions_of c.args.made.now) c.loop-number.number no_function false
    (omega (arith, c.count-number-end.ensures))))
    ∙ sym c.is_wide.ensures ∙ c.if-is_wide.true) c.loop-number.invariant

pub loop-number-preserved : goal.loop-number-preserved
loop-number-preserved c =
    passes _ _ _ _
    (at_drop_more (any_wide c.args.uses.now.reached.items c.loop-number.number)
    (functions_of c.args.made.now) c.loop-number.number no_function (omega (arith, c.count-number-end.ensures)))
    (ap (λ (b : Bool). is_written c.args.uses.now.reached.items c.loop-number.number && b)
    (sym (get_or-map is_wide (functions_of c.args.made.now) c.loop-number.number no_function false
    (omega (arith, c.count-number-end.ensures))))
    ∙ sym c.is_wide.ensures ∙ c.if-is_wide.false) c.loop-number.invariant

pub returns : goal.returns
returns c =
    none_left (any_wide c.args.uses.now.reached.items c.loop-number.number)
    (functions_of c.args.made.now) c.loop-number.number _ (omega (arith, c.count-number-end.ensures))
    c.loop-number.invariant
