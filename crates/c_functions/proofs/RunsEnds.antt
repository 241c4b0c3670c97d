-- A call from outside ends as the run of code does.
use Rattle.std.proofs.Common.{◌≡◌, ℕ, zero, suc, ◌++◌, [], ◌∷◌, length, drop, Some, None, refl, sym, ap, ◌∙◌, arith}
use Rattle.std.proofs.Common.{pred}
use Rattle.flow_base.specs.declared.bounds.Bounds.{Bounds}
use Rattle.active_config.specs.Tree.{Tree, state_count}
use Rattle.actions.specs.World.{World}
use Rattle.actions.specs.Work.{Now}
use Rattle.code_language.specs.Code.{Procedures, instructions}
use Rattle.code_language.specs.Machine.{Program, CodeState, fresh}
use Rattle.code_language.specs.Reactions.{first_frame}
use Rattle.code_language.specs.Reach.{pending}
use Rattle.code_language.proofs.Endings.{reached_leads, falls_leads}
use Rattle.code_language.proofs.Notes.{pending_at, pending_past}
use Rattle.c_functions.specs.States.{Numbers}
use Rattle.c_functions.specs.Statements.{CMemory, Block, Out, Fell, Left, Failed, Starved, Wrong}
use Rattle.c_functions.specs.Meaning.{Sums, call_fn, begins}
use Rattle.c_functions.specs.Written.{AreWritten}
use Rattle.c_functions.specs.Runs.{Stands, Agree, IsAt, DoesCall, EndsWith}
use Rattle.c_functions.proofs.RunsStatements.{later_zero}
use Rattle.c_functions.proofs.RunsSimulation.{calls_do}

none : (j : ℕ) → pending j [] ≡ []
unfolding pending
none j = refl

-- nothing is noted where there is one frame without a note
no_notes : (j p : ℕ) → pending j (fresh p None 0 0 None ∷ []) ≡ []
no_notes zero p = pending_at 0 (fresh p None 0 0 None) [] (omega arith) ∙ ap (λ l. l ++ []) (none 0)
no_notes (suc j) p = pending_past (suc j) (fresh p None 0 0 None) [] (omega arith)

-- the first frame
first_at : (t : Tree) (n : ℕ → ℕ) (k : Procedures) (p : ℕ) (m : CMemory) (w : World) → Stands t n m w → m.notes ≡ []
    → IsAt t n k None None (instructions k p) m (begins 0 0 0) w 0 (fresh p None 0 0 None) []
first_at t n k p m w h e = record {
  code = refl;
  stands = h;
  notes = e ∙ sym (no_notes 0 p);
  note_is = refl;
  saved_is = refl;
  home = refl;
  result = refl;
  within = omega arith;
  base = omega arith;
  above_base = e ∙ sym (no_notes 1 p);
  cursor = omega arith;
  above_cursor = ap (λ y. drop y m.notes) (later_zero 0) ∙ e ∙ sym (no_notes 1 p) ∙ sym
      (ap (λ y. pending y (fresh p None 0 0 None ∷ [])) (later_zero 1));
}

module _ (t : Tree) (n : ℕ → ℕ) (k : Procedures) (b : Bounds) where
  abbrev pub code : Program
  code = record { tree = t; bounds = b; procedures = k }

  ends_with : (least : ℕ) (now : Now) (start : CodeState) (o : Out) → DoesCall code n least now None None [] start o
      → EndsWith code n least start o
  ends_with least now start (Fell m l) h = h
  ends_with least now start (Left m r) h = record {
    moment = record { world = h.world; fault = None };
    leads = reached_leads h.reached refl;
    ends = record { stands = h.stands; fault = refl };
  }
  ends_with least now start (Failed m x) h = record {
    moment = record { world = h.world; fault = Some x };
    leads = falls_leads h.falls;
    ends = record { stands = h.stands; fault = refl };
  }
  ends_with least now start Starved h = h
  ends_with least now start Wrong h = h

  -- a call from outside
  pub called_outside : (num : Numbers t n) (same : length t.comps ≡ state_count t) (sums : Sums)
      (agree : Agree t n sums)
      (bodies : ℕ → Block) (written : AreWritten t n k bodies) (fuel p : ℕ) (now : Now) (m : CMemory) (w : World)
      → Stands t n m w → m.notes ≡ []
      → EndsWith code n (pred fuel) (first_frame p w now)
      (call_fn (record { sums = sums; tree = t; numbers = n; bounds = b; bodies = bodies }) fuel p now 0 0 0 m)
  called_outside num same sums agree bodies written fuel p now m w h e =
      ends_with (pred fuel) now (first_frame p w now) _
      (calls_do t n num same k b sums agree bodies written fuel p 0 0 0 now None None m w
      (fresh p None 0 0 None) [] refl refl
      (first_at t n k p m w h e))
