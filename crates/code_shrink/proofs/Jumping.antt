-- Where jumps lead.
use Rattle.std.proofs.Common.{◌≡◌, ℕ, ◌+◌, List, ◌∷◌, drop}
use Rattle.std.proofs.Common.{ap, ◌∙◌}
use Rattle.actions.specs.World.{World}
use Rattle.actions.specs.Work.{Now}
use Rattle.code_language.specs.Code.{instructions}
use Rattle.code_language.specs.Instrs.{Test, Instr, Unless, Skip}
use Rattle.code_language.specs.Machine.{Program, Frame, machine, next, past, Goes, holds, test_next, act, step}
use Rattle.code_language.proofs.Tails.{further, onward}
use Rattle.code_shrink.specs.Follows.{Slides, Skips, Holds, Fails}
use Rattle.code_shrink.proofs.Pairs.{stands}

-- from a frame one step leads to another place of its procedure, where these instructions stand, and nothing else
-- changes
pub record Jumped (C : Program) (f : Frame) (after : List Instr) : Type 0 where
  pub to : ℕ
  pub there : drop to (instructions C.procedures f.proc) ≡ after
  pub by : (w : World) (now : Now) (r : ℕ) (fs : List Frame)
      → step C (machine w now r (f ∷ fs)) ≡ Goes (machine w now r (record f { place = to } ∷ fs))

-- each jump leads so
pub jumped : (C : Program) (f : Frame) (xs after : List Instr) → Slides xs after
    → drop f.place (instructions C.procedures f.proc) ≡ xs → Jumped C f after
unfolding holds
jumped C f xs after (Skips j rest) e = record {
  to = f.place + 1 + j;
  there = further (instructions C.procedures f.proc) f.place j e;
  by = λ w now r fs. ap (λ o. act C o w now r f fs) (stands C.procedures f.proc f.place (Skip j ∷ rest) e);
}
jumped C f xs after (Holds j x rest always) e = record {
  to = f.place + 1;
  there = onward (instructions C.procedures f.proc) f.place e;
  by = λ w now r fs.
      ap (λ o. act C o w now r f fs) (stands C.procedures f.proc f.place (Unless j (Test x) ∷ rest) e)
      ∙ ap (λ o. test_next o w (Goes (machine w now r (next f ∷ fs))) (Goes (machine w now r (past f j ∷ fs))))
      (always w);
}
jumped C f xs after (Fails j x rest always) e = record {
  to = f.place + 1 + j;
  there = further (instructions C.procedures f.proc) f.place j e;
  by = λ w now r fs.
      ap (λ o. act C o w now r f fs) (stands C.procedures f.proc f.place (Unless j (Test x) ∷ rest) e)
      ∙ ap (λ o. test_next o w (Goes (machine w now r (next f ∷ fs))) (Goes (machine w now r (past f j ∷ fs))))
      (always w);
}
