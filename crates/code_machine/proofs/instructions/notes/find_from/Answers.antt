use Rattle.std.proofs.Common.{◌≡◌, ◌∷◌, length, Some, sym, ap, ◌∙◌, arith}
use Rattle.code_machine.specs.Frames.{seen}
use Rattle.code_machine.specs.States.{below}
use Rattle.code_machine.proofs.Words.{calls_length}
use Rattle.code_machine.proofs.Noted.{noted_low, noted_here, noted_none, noted_keep}
use Rattle.code_machine.proofs.instructions.notes.find_from.Goals as goal

pub returns-in-Some-clause-note : goal.returns-in-Some-clause-note
returns-in-Some-clause-note c =
    noted_keep c.args.from (seen c.args.top) (below c.args.machine.now) (c.in-Some.found.0, c.in-Some.found.1)
    c.in-Some.ensures.note

pub returns-then-from-len-clause-note : goal.returns-then-from-len-clause-note
returns-then-from-len-clause-note c =
    let m = c.args.machine.now in
    let long : length (below m) ≡ c.len-len.result = omega (arith, calls_length m.stack.frames, c.len-len.ensures) in
    noted_low c.args.from (seen c.args.top ∷ below m) (omega (arith, long, c.if-from-len.true))

pub returns-in-Some-note-clause-note : goal.returns-in-Some-note-clause-note
returns-in-Some-note-clause-note c =
    let m = c.args.machine.now in let p = c.in-Some-note.note in
    let long : length (below m) ≡ c.len-len.result = omega (arith, calls_length m.stack.frames, c.len-len.ensures) in
    noted_here c.args.from p (seen c.args.top) (below m) c.in_default.ensures.note
    (omega (arith, long, c.if-from-len.false)) (sym c.in-Some-note.ensures)
    ∙ ap (λ n. Some (n, p)) long

pub returns-in-None-clause-note : goal.returns-in-None-clause-note
returns-in-None-clause-note c =
    noted_none c.args.from (seen c.args.top) (below c.args.machine.now) c.in_default.ensures.note
    (sym c.in-None.ensures)
