use Rattle.std.proofs.Common.{List, ◌∷◌, refl, sym, ap, ◌∙◌, subst}
use Rattle.std.specs.Prelude.{Some, IsOk}
use Rattle.actions.specs.Data.{Datum}
use Rattle.actions.specs.Trees.{expr_of}
use Rattle.actions.specs.World.{World}
use Rattle.code_language.specs.Machine.{Goes, Stops, machine, next}
use Rattle.code_machine.specs.Frames.{seen}
use Rattle.code_machine.specs.States.{code_in, world_of, now_of, below}
use Rattle.code_machine.proofs.Assigned.{assign_no_value, assign_no_room, assign_kept}
use Rattle.code_machine.proofs.instructions.data.assign.Goals as goal

pub eval-requires : goal.eval-requires
eval-requires c =
    let p = c.args.code.now in
    let can =
    c.moments_are_sound.ensures.assign (code_in p) p.bounds (world_of c.args.machine.now) c.args.datum
    (expr_of c.args.value.now) c.requires.ready.world c.requires.typed in
    subst IsOk (sym can.sorted) refl

pub assign-requires-clause-there : goal.assign-requires-clause-there
assign-requires-clause-there c =
    let p = c.args.code.now in
    let can =
    c.moments_are_sound.ensures.assign (code_in p) p.bounds (world_of c.args.machine.now) c.args.datum
    (expr_of c.args.value.now) c.requires.ready.world c.requires.typed in
    can.there

pub assign-requires-clause-value : goal.assign-requires-clause-value
assign-requires-clause-value c =
    let p = c.args.code.now in
    let can =
    c.moments_are_sound.ensures.assign (code_in p) p.bounds (world_of c.args.machine.now) c.args.datum
    (expr_of c.args.value.now) c.requires.ready.world c.requires.typed in
    can.takes c.in-Ok.given (c.in-Ok.ensures.sort can.sort can.sorted)

pub returns-in-Ok-assign-clause-did : goal.returns-in-Ok-assign-clause-did
returns-in-Ok-assign-clause-did c =
    let m = c.args.machine.now in let e = expr_of c.args.value.now in
    let w : World = record (world_of m) { vals = c.assign.new.vals } in
    assign_kept c.args.datum e (world_of m)
    (λ v. Goes (machine v (now_of m) m.result (next (seen c.args.top.now) ∷ below m))) c.in-Ok.given c.assign.new.vals
    (sym c.in-Ok.ensures.value) c.in-Ok-assign.ensures.assigned
    ∙ ap (λ f. Goes (machine w (now_of m) m.result (seen f ∷ below m))) (sym c.advance.ensures)

pub returns-in-Err-assign-clause-did : goal.returns-in-Err-assign-clause-did
returns-in-Err-assign-clause-did c =
    let m = c.args.machine.now in let e = expr_of c.args.value.now in
    assign_no_room c.args.datum e (world_of m)
    (λ v. Goes (machine v (now_of m) m.result (next (seen c.args.top.now) ∷ below m))) c.in-Ok.given
    c.in-Err-assign.fault (sym c.in-Ok.ensures.value) c.in-Err-assign.ensures.overflow
    ∙ ap (λ (l : List Datum). Stops (record (world_of m) { vals = l }) (Some c.in-Err-assign.fault))
    (sym c.in-Err-assign.ensures.kept)

pub returns-in-Err-clause-did : goal.returns-in-Err-clause-did
returns-in-Err-clause-did c =
    let m = c.args.machine.now in
    assign_no_value c.args.datum (expr_of c.args.value.now) (world_of m)
    (λ v. Goes (machine v (now_of m) m.result (next (seen c.args.top.now) ∷ below m))) c.in-Err.fault
    (sym c.in-Err.ensures.value)
