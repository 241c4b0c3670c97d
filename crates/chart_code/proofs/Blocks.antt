-- Blocks: statement by statement, with sends that process the receiver, and the life's test after each send.
use Rattle.std.proofs.Common.{◌≡◌, ℕ, suc, ◌+◌, ◌<◌, Bool, true, false, List, [], ◌∷◌, length, Option, Some, None, refl}
use Rattle.std.proofs.Common.{sym, ap, ◌∙◌, subst, arith}
use Rattle.flow_base.specs.declared.bounds.Bounds.{Bounds}
use Rattle.active_config.specs.Tree.{state_count}
use Rattle.active_config.specs.Marks.{is_on, IsConsistent}
use Rattle.active_config.proofs.MarksLemmas.{bare_is_on}
use Rattle.actions.specs.Exprs.{Stmt, Assign, Send, SendTo, Emit}
use Rattle.actions.specs.World.{World, Life, On, Bare, lives}
use Rattle.actions.specs.Work.{◌>>◌, nothing, give, choose, if_done, End, Done, Cut, Now, deeper}
use Rattle.actions.proofs.ChangeLemmas.{kept, paid_keeps, assigned_keeps}
use Rattle.checked_chart.specs.Chart.{Chart}
use Rattle.checked_chart.specs.Valid.{IsValid}
use Rattle.sos_rules.specs.Parts.{Parts}
use Rattle.sos_rules.specs.Searches.{while_alive, statement, block_rule, send_rule}
use Rattle.sos_rules.specs.Rules.{rules}
use Rattle.sos_rules.proofs.MarkedStates.{on_is_state, root_on}
use Rattle.sos_rules.proofs.Keeps.{Keeps, Consistent, consistent_closed, statement_finishes}
use Rattle.code_language.specs.Instrs.{Instr}
use Rattle.code_language.specs.Code.{Procedures, fetch}
use Rattle.code_language.specs.Machine.{Program, Frame, CodeState, machine, fresh, next, sent}
use Rattle.code_language.specs.Instrs as instrs
use Rattle.code_language.specs.Reach.{Aim, MeetsAim, returns, Any, HasAt}
use Rattle.code_language.proofs.Joins.{here, on_to, meets_end, then_meets, then_meets_with, choose_meets}
use Rattle.code_language.proofs.Steps.{go_skip, go_ret, go_assign, go_emit, go_send, go_send_to}
use Rattle.chart_code.specs.Numbers.{Numbers}
use Rattle.chart_code.specs.StateProcedures.{require, life_test, state_of_life, block_code}
use Rattle.chart_code.specs.Kinds.{running, Targets, Tells, DoesBlock, DoesSend, AllDo, program}
use Rattle.chart_code.specs.Compiled.{Compiled}
use Rattle.chart_code.proofs.Pieces.{yes_life, no_life, done, keeping}

module _ (c : Chart) (b : Bounds) (k : Procedures) (N : Numbers) (valid : IsValid c) (K : Compiled c k N) (p : Parts)
    (keep : Keeps (Consistent c) p) (low : AllDo (program c b k) c N p) where
  -- the chart's code under these bounds
  abbrev C : Program
  C = program c b k

  -- while a life holds the root is active
  root_alive : (life : Life) (w : World) → Consistent c w → lives c.tree life w.marks ≡ true → is_on 0 w.marks ≡ true
  root_alive (On s) w ok e =
      root_on c.tree valid.tree (suc s) s w.marks (omega arith) (on_is_state c.tree s w.marks ok e) ok e
  root_alive (Bare s) w ok e =
      let on = bare_is_on c.tree s w.marks e in root_on c.tree valid.tree (suc s) s w.marks (omega arith)
      (on_is_state c.tree s w.marks ok on) ok on

  -- ---- sends

  -- the receiver is processed; then the event and the depth are as before
  received : (s : ℕ) → s < state_count c.tree → (e : ℕ) (f : Frame) (fs : List Frame) (w : World) → Consistent c w
      → is_on s w.marks ≡ true → (now : Now) (r : ℕ)
      → MeetsAim C (machine w (deeper e now) r
      (fresh (N.process s) None (suc (length fs)) 0 (Some now.event) ∷ next f ∷ fs)) (returns now
      (next f ∷ fs) Any) ((p.process s (deeper e now) >> nothing) w)
  received s lt e f fs w ok on now r =
      then_meets (low.process.by s lt w ok on (deeper e now) r None (suc (length fs)) 0 (Some now.event) (next f ∷ fs))
      (λ a v y. done y.number here)

  -- an event is sent to the whole chart
  chart_sent : (e : ℕ) (f : Frame) (fs : List Frame) → fetch k f.proc f.place ≡ Some (instrs.Send e) → (w : World)
      → Consistent c w → is_on 0 w.marks ≡ true → (now : Now) (r : ℕ)
      → MeetsAim C (machine w now r (f ∷ fs)) (returns now (next f ∷ fs) Any) (send_rule c b p e None now w)
  chart_sent e f fs h w ok on now r =
      go_send h (λ u m.
      let same = kept w (paid_keeps b w) m in
      subst (λ q. MeetsAim C (machine u (deeper e now) r (fresh q None (suc (length fs)) 0 (Some now.event) ∷ next f ∷ fs))
      (returns now (next f ∷ fs) Any) ((p.process 0 (deeper e now) >> nothing) u)) (sym K.react)
      (received 0 valid.tree.some e f fs u (subst (IsConsistent c.tree) (sym same) ok) (ap (is_on 0) same ∙ on) now r))

  -- the receiver hears where it is active
  heard : (e s : ℕ) (f : Frame) (fs : List Frame) → s < state_count c.tree → (w : World) → Consistent c w
      → (now : Now) (r : ℕ) (on : Bool) → is_on s w.marks ≡ on
      → MeetsAim C (sent on e (N.process s) w now r f fs) (returns now (next f ∷ fs) Any)
      (choose on (p.process s (deeper e now) >> nothing) nothing w)
  heard e s f fs lt w ok now r true on = received s lt e f fs w ok on now r
  heard e s f fs lt w ok now r false on = done r here

  -- an event is sent to a state
  state_sent : (e s : ℕ) (f : Frame) (fs : List Frame) → fetch k f.proc f.place ≡ Some (instrs.SendTo e s (N.process s))
      → s < state_count c.tree → (w : World) → Consistent c w → (now : Now) (r : ℕ)
      → MeetsAim C (machine w now r (f ∷ fs)) (returns now (next f ∷ fs) Any) (send_rule c b p e (Some s) now w)
  state_sent e s f fs h lt w ok now r =
      go_send_to h (λ u m. heard e s f fs lt u (subst (IsConsistent c.tree) (sym (kept w (paid_keeps b w) m)) ok) now r
      (is_on s u.marks) refl)

  -- the contract of a send
  pub does_send : DoesSend C N (rules c b p)
  does_send = record { chart = chart_sent; state = state_sent }

  -- ---- blocks

  module _ (life : Life) (q : ℕ) (now : Now) (tag : Option ℕ) (base : ℕ) (fs : List Frame) where
    -- the frame at a place
    abbrev at : ℕ → Frame
    at i = running q i tag base (state_of_life life) None

    -- what is known after a statement: its life holds where it was done
    pub record StatementEnds (a : End) (w : World) : Type 0 where
      pub number : ℕ
      pub good : Tells a (lives c.tree life w.marks)

    -- where the code stands after a statement
    abbrev statement_at : (j : ℕ) (a : End) (w : World) → StatementEnds a w → CodeState
    statement_at j Done w y = machine w now y.number (at j ∷ fs)
    statement_at j Cut w y = machine w now 1 fs

    -- after a statement: at the next place, or its frame has returned
    abbrev Behind : ℕ → Aim End
    Behind j = record { Facts = StatementEnds; stands = statement_at j }

    -- the life's test after a send
    alive_runs : (i : ℕ) (rest : List Instr) → HasAt k q i (require (life_test life) rest) → (w : World) (r : ℕ)
        → MeetsAim C (machine w now r (at i ∷ fs)) (Behind (i + 1 + 1 + 1)) (while_alive c.tree life w)
    alive_runs i rest h w r =
        choose_meets (lives c.tree life w.marks) (give Done) (give Cut) w
        (λ e. meets_end (record { number = r; good = e }) (on_to (yes_life life refl h.0 e) (go_skip h.1.0)))
        (λ e. meets_end (record { number = r; good = e }) (on_to (no_life life refl h.0 e) (go_ret h.1.1.0)))

    -- after one statement come the others
    rest_runs : (rest : List Stmt) (j : ℕ) → HasAt k q j (block_code N (life_test life) rest) → Targets c.tree rest
        → (a : End) (w : World) → Consistent c w → (y : StatementEnds a w)
        → MeetsAim C (statement_at j a w y) (returns now fs (λ a v x. Tells a (lives c.tree life v.marks)))
        (if_done a Cut (p.block life rest now) w)
    rest_runs rest j h t Done w ok y = low.block.by life rest q j h t w ok y.good now y.number tag base fs
    rest_runs rest j h t Cut w ok y = meets_end (record { number = 1; good = y.good }) here

    -- the statements of a block
    block_runs : (ss : List Stmt) (i : ℕ) → HasAt k q i (block_code N (life_test life) ss) → Targets c.tree ss
        → (w : World) → Consistent c w → lives c.tree life w.marks ≡ true → (r : ℕ)
        → MeetsAim C (machine w now r (at i ∷ fs)) (returns now fs (λ a v x. Tells a (lives c.tree life v.marks)))
        (block_rule c b p life ss now w)
    block_runs [] i h t w ok e r = meets_end (record { number = 1; good = e }) (go_ret h.0)
    block_runs (Assign v x ∷ rest) i h t w ok e r =
        let one : MeetsAim C (machine w now r (at i ∷ fs)) (Behind (i + 1)) (statement c b p life (Assign v x) now w) =
        go_assign h.0 (λ u m. meets_end (record {
          number = r;
          good = ap (lives c.tree life)
              (kept w (assigned_keeps v x w) m) ∙ e;
        }) here) in
        then_meets_with (keeping (statement_finishes c valid.tree b (Consistent c) (consistent_closed c b) p keep life
        (Assign v x) now w ok)) one (λ a u y ok'. rest_runs rest (i + 1) h.1 t a u ok' y)
    block_runs (Emit x ∷ rest) i h t w ok e r =
        let one : MeetsAim C (machine w now r (at i ∷ fs)) (Behind (i + 1)) (statement c b p life (Emit x) now w) =
        go_emit h.0 (λ u m. meets_end (record {
          number = r;
          good = ap (lives c.tree life) (kept w (paid_keeps b w) m)
              ∙ e;
        }) here) in
        then_meets_with (keeping (statement_finishes c valid.tree b (Consistent c) (consistent_closed c b) p keep life
        (Emit x) now w ok)) one (λ a u y ok'. rest_runs rest (i + 1) h.1 t a u ok' y)
    block_runs (Send x ∷ rest) i h t w ok e r =
        let one : MeetsAim C (machine w now r (at i ∷ fs)) (Behind (i + 1 + 1 + 1 + 1))
        (statement c b p life (Send x) now w) =
        then_meets (low.send.chart x (at i) fs h.0 w ok (root_alive life w ok e) now r)
        (λ a u y. alive_runs (i + 1) (block_code N (life_test life) rest) h.1 u y.number) in
        then_meets_with (keeping (statement_finishes c valid.tree b (Consistent c) (consistent_closed c b) p keep life
        (Send x) now w ok)) one (λ a u y ok'. rest_runs rest (i + 1 + 1 + 1 + 1) h.1.1.1.1 t a u ok' y)
    block_runs (SendTo x s ∷ rest) i h t w ok e r =
        let one : MeetsAim C (machine w now r (at i ∷ fs)) (Behind (i + 1 + 1 + 1 + 1))
        (statement c b p life (SendTo x s) now w) =
        then_meets (low.send.state x s (at i) fs h.0 t.0 w ok now r)
        (λ a u y. alive_runs (i + 1) (block_code N (life_test life) rest) h.1 u y.number) in
        then_meets_with (keeping (statement_finishes c valid.tree b (Consistent c) (consistent_closed c b) p keep life
        (SendTo x s) now w ok)) one (λ a u y ok'. rest_runs rest (i + 1 + 1 + 1 + 1) h.1.1.1.1 t.1 a u ok' y)

  -- the contract of a block
  pub does_block : DoesBlock C N (rules c b p)
  does_block =
      record { by = λ life ss q i h t w ok e now r tag base fs. block_runs life q now tag base fs ss i h t w ok e r }
