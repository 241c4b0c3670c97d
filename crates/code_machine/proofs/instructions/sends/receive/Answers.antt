use Rattle.std.proofs.Common.{◌≡◌, ◌∷◌, suc, length, None, sym, ap, ◌∙◌}
use Rattle.code_machine.specs.Frames.{seen}
use Rattle.code_machine.specs.States.{below}
use Rattle.code_machine.proofs.Words.{calls_length}
use Rattle.code_machine.proofs.instructions.sends.receive.Goals as goal

pub returns-clause-frames : goal.returns-clause-frames
returns-clause-frames c =
    let m = c.args.machine.now in
    let fs = c.push_frame.ensures.frames ∙ ap (λ f. seen f ∷ below m) c.advance.ensures in
    let b : c.len-base.result ≡ suc (length (below m)) =
    c.len-base.ensures ∙ sym (calls_length c.push_frame.new.stack.frames) ∙ ap length c.push_frame.ensures.frames in
    λ j. record {
      proc = c.args.proc;
      place = 0;
      note = None;
      base = b j;
      home = 0;
      saved = c.of-saved.ensures j;
      cursor = 0;
    } ∷ fs j
