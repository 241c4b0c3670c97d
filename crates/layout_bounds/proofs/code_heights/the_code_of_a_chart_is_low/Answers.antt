use Rattle.layout_bounds.proofs.CodeHeights.{by_kind, by_depth, greatest_low, none_too_high}
use Rattle.layout_bounds.proofs.code_heights.the_code_of_a_chart_is_low.Goals as goal

pub returns-clause-by_kind : goal.returns-clause-by_kind
returns-clause-by_kind x c p key valid e = by_kind c valid p key e

pub returns-clause-bounded : goal.returns-clause-bounded
returns-clause-bounded x c p valid = by_depth c valid p

pub returns-clause-greatest : goal.returns-clause-greatest
returns-clause-greatest x c valid = greatest_low c valid

pub returns-clause-none_over : goal.returns-clause-none_over
returns-clause-none_over x c valid = none_too_high c valid
