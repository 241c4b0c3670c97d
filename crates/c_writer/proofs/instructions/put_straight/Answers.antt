use Rattle.std.proofs.Common.{◌≡◌, true, subst, rules}
use Rattle.std.proofs.lemmas.Result.{on_ok_weaker}
use Rattle.actions.specs.Trees.{expr_of}
use Rattle.code_language.specs.Code.{instr_of}
use Rattle.code_language.specs.WellFormed.{instr_typed}
use Rattle.c_functions.specs.Written.{straight}
use Rattle.c_functions.specs.Plans.{plan_c}
use Rattle.c_shape.specs.FileShapes.{shape_seen}
use Rattle.c_writer.specs.Fine.{known_in}
use Rattle.c_writer.proofs.FineLemmas.{assigned_sorted}
use Rattle.c_writer.proofs.instructions.put_straight.Goals as goal

pub returns-in-Assign : goal.returns-in-Assign
unfolding straight plan_c
returns-in-Assign c =
    rw c.in-Assign.is
    (on_ok_weaker c.write_assign.result (λ h a. h (plan_c (shape_seen c.args.shape.now) a)) c.write_assign.ensures)

pub returns-in-Emit : goal.returns-in-Emit
unfolding straight
returns-in-Emit c = rw c.in-Emit.is c.put_emit.ensures

pub returns-in-Mark : goal.returns-in-Mark
unfolding straight
returns-in-Mark c = rw c.in-Mark.is c.put_mark.ensures

pub returns-in-Clear : goal.returns-in-Clear
unfolding straight
returns-in-Clear c = rw c.in-Clear.is c.put_clear.ensures

pub returns-in-Keep : goal.returns-in-Keep
unfolding straight
returns-in-Keep c = rw c.in-Keep.is c.put_keep.ensures

pub returns-in-Call : goal.returns-in-Call
unfolding straight
returns-in-Call c = rw c.in-Call.is c.put_noted_call.ensures

pub returns-in-Visit : goal.returns-in-Visit
unfolding straight
returns-in-Visit c = rw c.in-Visit.is c.put_visit.ensures

pub returns-in-Send : goal.returns-in-Send
unfolding straight
returns-in-Send c = rw c.in-Send.is c.put_send_all.ensures

pub returns-in-SendTo : goal.returns-in-SendTo
unfolding straight
returns-in-SendTo c = rw c.in-SendTo.is c.put_send_to.ensures

pub returns-in-Play : goal.returns-in-Play
unfolding straight
returns-in-Play c = rw c.in-Play.is c.put_play.ensures

pub returns-in-Home : goal.returns-in-Home
unfolding straight
returns-in-Home c = rw c.in-Home.is c.put_home.ensures

pub returns-in-Begin : goal.returns-in-Begin
unfolding straight
returns-in-Begin c = rw c.in-Begin.is c.put_begin.ensures

pub returns-in-Pass : goal.returns-in-Pass
unfolding straight
returns-in-Pass c = rw c.in-Pass.is c.put_pass.ensures

pub returns-in-Unless : goal.returns-in-Unless
unfolding straight
returns-in-Unless c = search rules

pub returns-in-Unless-2 : goal.returns-in-Unless-2
unfolding straight
returns-in-Unless-2 c = search rules

pub returns-in-Unless-3 : goal.returns-in-Unless-3
unfolding straight
returns-in-Unless-3 c = search rules

pub write_assign-requires-clause-sorted : goal.write_assign-requires-clause-sorted
write_assign-requires-clause-sorted c =
    let K = shape_seen c.args.shape.now in
    (assigned_sorted K c.in-Assign.datum (expr_of c.in-Assign.expr)
    (subst (λ y. instr_typed (known_in K) (instr_of y) ≡ true) c.in-Assign.is c.requires.typed)).sorted

pub write_assign-requires-clause-operators : goal.write_assign-requires-clause-operators
write_assign-requires-clause-operators c =
    let K = shape_seen c.args.shape.now in
    (assigned_sorted K c.in-Assign.datum (expr_of c.in-Assign.expr)
    (subst (λ y. instr_typed (known_in K) (instr_of y) ≡ true) c.in-Assign.is c.requires.typed)).operators
