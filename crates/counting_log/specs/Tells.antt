-- Runs with a log beside runs without.
use Rattle.std.specs.Prelude.{ℕ, List, Option}
use Rattle.flow_base.specs.declared.fault.Fault.{Fault}
use Rattle.actions.specs.Exprs.{Stmt}
use Rattle.actions.specs.World.{World, Life}
use Rattle.actions.specs.Work as work
use Rattle.actions.specs.Work.{Run, Now}
use Rattle.checked_chart.specs.Chart.{Trans}
use Rattle.sos_rules.specs.Parts as parts
use Rattle.counting_log.specs.Log.{Note}
use Rattle.counting_log.specs.Rules as noting
use Rattle.counting_log.specs.Work as logged
use Rattle.counting_log.specs.Work.{Logged}

-- both runs end alike, in the same world, and P holds of it and of the log, where they don't end in a fault
pub data Tells (P : World → List Note → Type 0) {A : Type 0} : Logged A → Run A → Type 0 where
  ended : (a : A) (w : World) (l : List Note) → P w l → Tells P (logged.Ended a w l) (work.Ended a w)
  faulted : (x : Fault) (w : World) (l : List Note) → Tells P (logged.Faulted x w l) (work.Faulted x w)
  unfinished : Tells P logged.Unfinished work.Unfinished

-- so do all pieces of work, from each world and log of which P holds
pub record Matches (P : World → List Note → Type 0) (p : noting.Parts) (q : parts.Parts) : Type 0 where
  pub block : (life : Life) (stmts : List Stmt) (now : Now) (w : World) (l : List Note) → P w l
      → Tells P (p.block life stmts now w l) (q.block life stmts now w)
  pub send : (e : ℕ) (to : Option ℕ) (now : Now) (w : World) (l : List Note) → P w l
      → Tells P (p.send e to now w l) (q.send e to now w)
  pub search : (life : Life) (ts : List Trans) (now : Now) (w : World) (l : List Note) → P w l
      → Tells P (p.search life ts now w l) (q.search life ts now w)
  pub exit : (s : ℕ) (now : Now) (w : World) (l : List Note) → P w l → Tells P (p.exit s now w l) (q.exit s now w)
  pub exit_each : (xs : List ℕ) (now : Now) (w : World) (l : List Note) → P w l
      → Tells P (p.exit_each xs now w l) (q.exit_each xs now w)
  pub enter : (s d : ℕ) (now : Now) (w : World) (l : List Note) → P w l
      → Tells P (p.enter s d now w l) (q.enter s d now w)
  pub enter_each : (xs : List ℕ) (d : ℕ) (now : Now) (w : World) (l : List Note) → P w l
      → Tells P (p.enter_each xs d now w l) (q.enter_each xs d now w)
  pub defaults : (s : ℕ) (now : Now) (w : World) (l : List Note) → P w l
      → Tells P (p.defaults s now w l) (q.defaults s now w)
  pub play : (s : ℕ) (actions : List (List Stmt)) (now : Now) (w : World) (l : List Note) → P w l
      → Tells P (p.play s actions now w l) (q.play s actions now w)
  pub take : (s d : ℕ) (actions : List (List Stmt)) (now : Now) (w : World) (l : List Note) → P w l
      → Tells P (p.take s d actions now w l) (q.take s d actions now w)
  pub process : (s : ℕ) (now : Now) (w : World) (l : List Note) → P w l
      → Tells P (p.process s now w l) (q.process s now w)
  pub process_each : (xs : List ℕ) (now : Now) (w : World) (l : List Note) → P w l
      → Tells P (p.process_each xs now w l) (q.process_each xs now w)
