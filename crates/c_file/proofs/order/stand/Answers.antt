use Rattle.std.proofs.Common.{List, ◌++◌, ◌∙◌, ap, refl, arith}
use Rattle.c_subset.specs.declared.trees.Line.{Line}
use Rattle.c_subset.specs.Lines.{lines_in}
use Rattle.c_file.specs.declared.calls.FunctionCall.{FunctionCall}
use Rattle.c_file.specs.Calls.{calls_in}
use Rattle.c_file.specs.Made.{functions_of}
use Rattle.c_file.proofs.FunctionLemmas.{no_function}
use Rattle.c_file.proofs.OrderLemmas.{calls_are, stands_now}
use Rattle.c_file.proofs.order.stand.Goals as goal

pub returns : goal.returns
returns c =
    let functions = functions_of c.args.made.now in
    stands_now functions c.args.number _ _ _ _ c.deref.result.now
    (omega (arith, c.requires.within, c.requires.stands)) refl c.mark_early.ensures.size
    (calls_are functions c.args.number no_function c.requires.within c.deref.result.now
    (λ g there. c.deref.ensures.value ∙ c.in_ok-add_lines.ensures
    ∙ ap (λ (xs : List FunctionCall). xs ++ calls_in c.args.number (lines_in c.items.result.now)) c.new-calls.ensures.items
    ∙ ap (λ (ls : List Line). calls_in c.args.number (lines_in ls)) c.items.ensures
    ∙ ap (calls_in c.args.number) (c.function.ensures g there).lines))
    c.mark_early.ensures.flags
