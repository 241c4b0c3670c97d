use Rattle.std.proofs.Common.{◌∙◌, sym}
use Rattle.c_tests.proofs.checking.is_procedure_right.Goals as goal

-- it is tested
pub returns-then-is_tested : goal.returns-then-is_tested
returns-then-is_tested c h j x there can = sym c.is_tested.ensures ∙ c.if-is_tested.true

-- none of its instructions can fail
pub returns : goal.returns
returns c h j x there can = absurd (cc (sym can ∙ c.none_can_fail.ensures h j x there))
