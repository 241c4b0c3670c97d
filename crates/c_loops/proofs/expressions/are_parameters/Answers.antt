use Rattle.std.proofs.Common.{arith}
use Rattle.std.proofs.lemmas.List.{length-map}
use Rattle.c_subset.specs.Lines.{expr_of, exprs_of}
use Rattle.c_loops.proofs.Lists.{other-size}
use Rattle.c_loops.proofs.expressions.are_parameters.Goals as goal

pub returns-in_default : goal.returns-in_default
returns-in_default c =
    let size = length-map c.args.args.now expr_of in
    other-size (exprs_of c.args.args.now) (λ e. absurd (omega (arith, size, e, c.in_default.len_below)))

pub returns-in_default-2 : goal.returns-in_default-2
returns-in_default-2 c =
    let size = length-map c.args.args.now expr_of in
    other-size (exprs_of c.args.args.now) (λ e. absurd (omega (arith, size, e, c.in_default.len_at_least)))
