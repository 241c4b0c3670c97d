use Rattle.std.proofs.Common.{drop}
use Rattle.code_language.specs.Code.{code_of, instrs_of}
use Rattle.code_copies.specs.Views.{places_of, plan_of}
use Rattle.code_copies.specs.Made.{plan_setting, PlacesAreRight}
use Rattle.code_copies.proofs.checking.are_places_right.Given as goal

-- all are right where those that are left are
abbrev pub invariant-loop-index : goal.invariant-loop-index
invariant-loop-index l =
    PlacesAreRight (code_of l.code).tree (plan_setting (plan_of l.plan) (code_of l.code).procedures)
    (places_of l.plan.sets.items (drop l.index l.places)) (instrs_of (drop l.index l.instrs))
    → PlacesAreRight (code_of l.code).tree (plan_setting (plan_of l.plan) (code_of l.code).procedures)
    (places_of l.plan.sets.items l.places) (instrs_of l.instrs)
