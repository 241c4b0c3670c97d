use Rattle.std.proofs.Common.{◌≡◌, suc, Some, sym, ap, ◌∙◌, arith}
use Rattle.std.specs.Option.{option_copied}
use Rattle.std.specs.Prelude.{option_map}
use Rattle.actions.specs.Trees.{expr_of}
use Rattle.code_fields.specs.Expressions.{with_second}
use Rattle.code_fields.specs.Views as views
use Rattle.code_fields.proofs.ExprLemmas.{both_read}
use Rattle.code_fields.proofs.expressions.+front_of.Goals as goal

-- an operator between two operands, the first of which is in a box
pub returns-in_ok-joined-in-Bin : goal.returns-in_ok-joined-in-Bin
returns-in_ok-joined-in-Bin t c =
    let deep : c.args.depth ≡ suc c.in-Some.depth = omega arith in
    let few : c.args.left ≡ suc c.in-Some-checked_sub.left = omega arith in
    let first = views.front_of c.in-Some-2.first in
    let second = views.front_of c.in-Some-3.second in
    ap Some
    (c.in_ok-joined-in-Bin.ensures
    ∙ ap (λ x. with_second c.in-Bin.op (expr_of x) second) c.in_ok-expr-in-Bin.ensures.ok)
    ∙ sym (both_read c.args.depth c.in-Some.depth c.args.left c.in-Some-checked_sub.left c.args.text.now c.in-Bin.op
    (views.field_of c.field_of-token.result) c.in-Some-rest.rest.now c.in-Some-rest-2.rest.now first second deep few
    c.field_of-token.ensures (sym c.operator_of.ensures ∙ c.in-Some-operator_of.is ∙ ap Some c.in-Bin.is)
    (ap option_copied c.in-Some-rest.is)
    (sym c.in_ok-first.ensures ∙ ap (option_map views.front_of) c.in-Some-2.is)
    (ap option_copied c.in-Some-rest-2.is)
    (sym c.in_ok-second-in-Bin.ensures ∙ ap (option_map views.front_of) c.in-Some-3.is))
