use Rattle.std.proofs.Common.{◌≡◌, ◌+◌, ◌∷◌, suc, length, None, sym, ap, ◌∙◌, arith}
use Rattle.code_language.specs.Machine.{Goes, machine, if_ok, fresh}
use Rattle.code_machine.specs.Frames.{seen, calls_of}
use Rattle.code_machine.specs.States.{world_of, now_of, below}
use Rattle.code_machine.proofs.Words.{calls_length}
use Rattle.code_machine.proofs.instructions.notes.play_note.Goals as goal

pub returns-clause-did : goal.returns-clause-did
returns-clause-did c =
    let m = c.args.machine.now in let new = c.pay.new.machine in let f = c.args.top.now in let p = c.args.note in
    let paid = c.if-not-pay.ensures.paid in let same = sym paid.1 in
    let base : suc (length (below m)) ≡ c.len.result + 1 = omega (arith, calls_length m.stack.frames, c.len.ensures) in
    let cursor : suc c.args.at ≡ c.args.at + 1 = omega arith in
    ap (λ o. if_ok o (world_of m) (λ v. Goes (machine v (now_of m) m.result
    (fresh p None (suc (length (below m))) f.home None ∷ record (seen f) { cursor = suc c.args.at } ∷ below m))))
    paid.0
    ∙ (λ j. Goes (machine (world_of new) (now_of (same j)) (same j).result
    (fresh p None (base j) f.home None ∷ record (seen f) { cursor = cursor j } ∷ calls_of (same j).stack.frames)))
    ∙ ap (λ fs. Goes (machine (world_of new) (now_of new) new.result
    (fresh p None (c.len.result + 1) f.home None ∷ fs)))
    (sym c.push_frame.ensures.frames)
