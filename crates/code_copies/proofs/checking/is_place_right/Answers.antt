use Rattle.std.proofs.Common.{refl}
use Rattle.code_language.specs.Code.{code_of, instr_of}
use Rattle.code_copies.specs.Views.{places_of, plan_of}
use Rattle.code_copies.specs.Made.{plan_setting}
use Rattle.code_copies.proofs.CheckLemmas.{place_right}
use Rattle.code_copies.proofs.checking.is_place_right.Goals as goal

-- its home is a state, and its instruction is right
pub returns-then-is_home_state : goal.returns-then-is_home_state
returns-then-is_home_state c t after rest =
    let sets = c.args.plan.now.sets.items in
    let S = plan_setting (plan_of c.args.plan.now) (code_of c.args.code.now).procedures in
    place_right (code_of c.args.code.now).tree S sets c.args.place
    c.in-Some.place (instr_of c.args.instr.now) (places_of sets c.args.rest.now) after c.in-Some.is
    (c.if-is_home_state.ensures refl sets) (c.is_instr_right.ensures t) rest
