use Rattle.std.proofs.Common.{◌≡◌, ◌∙◌, FitsSigned, ap, sym, rules}
use Rattle.std.proofs.lemmas.Int.{to_z-of_z}
use Rattle.std.specs.Int.{w128}
use Rattle.actions.specs.declared.expr.Value.TheVariants as values
use Rattle.actions.specs.Trees.{expr_of}
use Rattle.actions.specs.Values.{scope_at}
use Rattle.actions.proofs.EvaluationLemmas.{operands, operator-has_sort, operator_value}
use Rattle.actions.proofs.EvaluationLemmas.{number_of_parts, same_operands, same_applied, same_has_sort}
use Rattle.actions.proofs.evaluation.eval.Goals as goal

pub apply_to_numbers-requires : goal.apply_to_numbers-requires
apply_to_numbers-requires c =
    let both = c.in-Some-Number-Some-Number in
    let fits_x : FitsSigned w128 both.x.mantissa = search rules in
    let fits_y : FitsSigned w128 both.y.mantissa = search rules in
    let is_x : both.field-0-1 ≡ values.Number both.x = search rules in
    let is_y : both.field-0-1' ≡ values.Number both.y = search rules in
    let left = number_of_parts _ both.x _ is_x (to_z-of_z w128 both.x.mantissa fits_x) in
    let right = number_of_parts _ both.y _ is_y (to_z-of_z w128 both.y.mantissa fits_y) in
    same_operands _ _ _ _ _ left right
    (operands (scope_at c.args.vals.now c.args.marks.now) _ _ _ _ _ _ _ _ (ap expr_of c.in-Bin.is) c.deref.ensures
    c.deref-in-Bin.ensures c.requires both.ensures.sort both.ensures'.sort)

pub returns-in-Some-Number-Some-Number-clause-value : goal.returns-in-Some-Number-Some-Number-clause-value
returns-in-Some-Number-Some-Number-clause-value c =
    let both = c.in-Some-Number-Some-Number in
    let fits_x : FitsSigned w128 both.x.mantissa = search rules in
    let fits_y : FitsSigned w128 both.y.mantissa = search rules in
    let is_x : both.field-0-1 ≡ values.Number both.x = search rules in
    let is_y : both.field-0-1' ≡ values.Number both.y = search rules in
    let left = number_of_parts _ both.x _ is_x (to_z-of_z w128 both.x.mantissa fits_x) in
    let right = number_of_parts _ both.y _ is_y (to_z-of_z w128 both.y.mantissa fits_y) in
    let are = operands (scope_at c.args.vals.now c.args.marks.now) _ _ _ _ _ _ _ _ (ap expr_of c.in-Bin.is) c.deref.ensures
    c.deref-in-Bin.ensures c.requires both.ensures.sort both.ensures'.sort in
    c.apply_to_numbers.ensures ∙ same_applied _ _ _ _ _ left right
    ∙ operator_value c.args.vals.now c.args.marks.now _ _ _ _ _ _ _ _ (ap expr_of c.in-Bin.is)
    c.deref.ensures c.deref-in-Bin.ensures (sym both.ensures.value) (sym both.ensures'.value) are

pub returns-in-Some-Number-Some-Number-clause-sort : goal.returns-in-Some-Number-Some-Number-clause-sort
returns-in-Some-Number-Some-Number-clause-sort c =
    let both = c.in-Some-Number-Some-Number in
    let fits_x : FitsSigned w128 both.x.mantissa = search rules in
    let fits_y : FitsSigned w128 both.y.mantissa = search rules in
    let is_x : both.field-0-1 ≡ values.Number both.x = search rules in
    let is_y : both.field-0-1' ≡ values.Number both.y = search rules in
    let left = number_of_parts _ both.x _ is_x (to_z-of_z w128 both.x.mantissa fits_x) in
    let right = number_of_parts _ both.y _ is_y (to_z-of_z w128 both.y.mantissa fits_y) in
    same_has_sort (scope_at c.args.vals.now c.args.marks.now) _ _ _
    (c.apply_to_numbers.ensures ∙ same_applied _ _ _ _ _ left right)
    (operator-has_sort (scope_at c.args.vals.now c.args.marks.now) _ _ _ _ _ _ _ _ (ap expr_of c.in-Bin.is) c.deref.ensures
    c.deref-in-Bin.ensures both.ensures.sort both.ensures'.sort)
