-- What a plan emits stays until its end: where there is room for all of it then, there was room for it before.
use Rattle.std.proofs.Common.{ℕ, zero, suc, ◌+◌, nat_le, nat_lt, Bool, true, false, cond, ◌&&◌}
use Rattle.std.proofs.Common.{List, [], ◌∷◌, ◌++◌, length, Option, Some, None, Result, Ok, Err, slice_get, slice_set}
use Rattle.std.proofs.Common.{arith}
use Rattle.flow_base.specs.declared.fault.Fault.{Fault}
use Rattle.flow_base.specs.declared.fault.Fault.TheVariants as faults
use Rattle.actions.specs.Data.{Datum}
use Rattle.actions.specs.World.{World}
use Rattle.actions.specs.Changes.{assigned_in}
use Rattle.actions.specs.Work.{Now, deeper}
use Rattle.c_functions.specs.States.{c_bare, choose_child, set_flag}
use Rattle.c_functions.specs.Statements.{CMemory, Locals as Inner, Out, Fell, Left, Failed, Starved, Wrong}
use Rattle.c_functions.specs.Statements as plan
use Rattle.c_functions.specs.Meaning as p
use Rattle.c_functions.specs.Meaning.{begins, call_fn, exec, truth_c, with_states}
use Rattle.c_functions.specs.Runs.{with_vals, world_of}
use Rattle.c_functions.specs.Plans.{Shape}
use Rattle.c_functions.proofs.PlansWords.{length-push}
use Rattle.c_functions.proofs.PlansEnds.{Keeps, StatementsKeep, CallsKeep, program_c}

-- ---- what goes on

-- after a statement that fell through
and_on-keeps : (m : CMemory) (o : Out) (f : CMemory → Inner → Out) → Keeps m o → StatementsKeep f
    → Keeps m (p.and_on o f)
and_on-keeps m (Fell v z) f here later n room = here n (later v z n room)
and_on-keeps m (Left v r) f here later n room = here n room
and_on-keeps m (Failed v x) f here later n room = here n room
and_on-keeps m Starved f here later n room = absurd room
and_on-keeps m Wrong f here later n room = absurd room

-- with what a function returned
and_with-keeps : (m : CMemory) (o : Out) (f : CMemory → ℕ → Out) → Keeps m o → ((v : CMemory) (r : ℕ) → Keeps v (f v r))
    → Keeps m (p.and_with o f)
and_with-keeps m (Fell v z) f here later n room = absurd room
and_with-keeps m (Left v r) f here later n room = here n (later v r n room)
and_with-keeps m (Failed v x) f here later n room = here n room
and_with-keeps m Starved f here later n room = absurd room
and_with-keeps m Wrong f here later n room = absurd room

-- unless a bound is met
unless_met-keeps : (b : Bool) (x : Fault) (m : CMemory) (o : Out) → Keeps m o → Keeps m (p.unless_met b x m o)
unless_met-keeps true x m o here n room = room
unless_met-keeps false x m o here n room = here n room

-- with other data
stored-keeps : (m : CMemory) (r : Result World Fault) (f : CMemory → Out)
    → ((vals : List Datum) → Keeps m (f (record m { vals = vals }))) → Keeps m (p.and_stored (with_vals m r) m f)
stored-keeps m (Ok w) f later n room = later w.vals n room
stored-keeps m (Err x) f later n room = room

-- one of two ways
branch-keeps : (m : CMemory) (r : Result Bool Fault) (a b : Out) → Keeps m a → Keeps m b → Keeps m (p.branch r m a b)
branch-keeps m (Ok true) a b one other n room = one n room
branch-keeps m (Ok false) a b one other n room = other n room
branch-keeps m (Err x) a b one other n room = room

-- ---- statements and calls

module _ (K : Shape) (bodies : ℕ → plan.Block) where
  module _ (call : p.Calls) (keep : CallsKeep call) where
    -- a turn's call, and the turns after it
    turn-keeps : (o : Option ℕ) (now : Now) (m : CMemory) (l : Inner) (f : CMemory → Inner → Out) → StatementsKeep f
        → Keeps m (p.turn call o now m l f)
    turn-keeps None now m l f later n room = absurd room
    turn-keeps (Some q) now m l f later n room =
        and_with-keeps m (call q now (length m.notes) l.home l.result m) (λ v r. f v (record l { result = r }))
        (keep q now (length m.notes) l.home l.result m) (λ v r. later v (record l { result = r })) n room

    -- turns
    pub turns-keep : (k : ℕ) (now : Now) → StatementsKeep (p.turns (program_c K bodies) call k now)
    unfolding p.turns
    turns-keep zero now m l n room = absurd room
    turns-keep (suc k) now m l n room =
        at (nat_lt l.cursor (length m.notes) && c_bare K.tree K.numbers l.home m.states)
        (λ v z. turns-keep k now v z) n room
      where
        at : (b : Bool) → StatementsKeep (p.turns (program_c K bodies) call k now)
            → Keeps m (cond b
            (p.pay K.bounds m (λ v. p.turn call (slice_get v.notes l.cursor) now v (record l { cursor = suc l.cursor })
            (p.turns (program_c K bodies) call k now))) (Fell m l))
        at true more =
            let v = record m { used = m.used + 1 } in
            unless_met-keeps (nat_le K.bounds.steps m.used) faults.Steps m
            (p.turn call (slice_get m.notes l.cursor) now v (record l { cursor = suc l.cursor })
            (p.turns (program_c K bodies) call k now))
            (turn-keeps (slice_get m.notes l.cursor) now v (record l { cursor = suc l.cursor })
            (p.turns (program_c K bodies) call k now) more)
        at false more = λ n room. room

    -- statements
    pub exec-keeps : (k : ℕ) (now : Now) (a : plan.Block) → StatementsKeep (exec (program_c K bodies) call k now a)
    unfolding exec
    exec-keeps k now plan.End m l n room = room
    exec-keeps k now (plan.Choose q i rest) m l n room =
        exec-keeps k now rest (with_states (choose_child q i m.states) m) l n room
    exec-keeps k now (plan.Mark s on rest) m l n room =
        exec-keeps k now rest (with_states (set_flag s on m.states) m) l n room
    exec-keeps k now (plan.Keep q i rest) m l n room =
        exec-keeps k now rest (with_states (record m.states { kept = slice_set m.states.kept q i }) m) l n room
    exec-keeps k now (plan.Store v x rest) m l n room =
        stored-keeps m (assigned_in v x (world_of K.tree K.numbers m))
        (λ z. exec (program_c K bodies) call k now rest z l)
        (λ vals. exec-keeps k now rest (record m { vals = vals }) l) n room
    exec-keeps k now (plan.Put e rest) m l n room =
        let later = exec-keeps k now rest (record m { outputs = m.outputs ++ e ∷ [] }) l n room in
        let more = length-push m.outputs e in
        omega (arith, later, more)
    exec-keeps k now (plan.Pay rest) m l n room =
        let v = record m { used = m.used + 1 } in
        unless_met-keeps (nat_le K.bounds.steps m.used) faults.Steps m
        (exec (program_c K bodies) call k now rest v l) (exec-keeps k now rest v l) n room
    exec-keeps k now (plan.Deep rest) m l n room =
        unless_met-keeps (nat_le K.bounds.depth now.depth) faults.Depth m
        (exec (program_c K bodies) call k now rest m l) (exec-keeps k now rest m l) n room
    exec-keeps k now (plan.SetHome s rest) m l n room = exec-keeps k now rest m (record l { home = s }) n room
    exec-keeps k now (plan.SetBase rest) m l n room =
        exec-keeps k now rest m (record l { base = length m.notes }) n room
    exec-keeps k now (plan.Push q rest) m l n room =
        exec-keeps k now rest (record m { notes = m.notes ++ q ∷ [] }) l n room
    exec-keeps k now (plan.Pop rest) m l n room =
        exec-keeps k now rest (record m { notes = p.front m.notes }) l n room
    exec-keeps k now (plan.Call q rest) m l n room =
        and_with-keeps m (call q now l.base l.home l.result m)
        (λ v r. exec (program_c K bodies) call k now rest v (record l { result = r }))
        (keep q now l.base l.home l.result m) (λ v r. exec-keeps k now rest v (record l { result = r })) n room
    exec-keeps k now (plan.Send e q rest) m l n room =
        and_with-keeps m (call q (deeper e now) (length m.notes) 0 l.result m)
        (λ v r. exec (program_c K bodies) call k now rest v (record l { result = r }))
        (keep q (deeper e now) (length m.notes) 0 l.result m)
        (λ v r. exec-keeps k now rest v (record l { result = r })) n room
    exec-keeps k now (plan.Play rest) m l n room =
        and_on-keeps m (p.turns (program_c K bodies) call k now m (p.from_base l))
        (λ v z. exec (program_c K bodies) call k now rest v z) (turns-keep k now m (p.from_base l))
        (λ v z. exec-keeps k now rest v z) n room
    exec-keeps k now (plan.If t a b rest) m l n room =
        and_on-keeps m (p.branch (truth_c (program_c K bodies) t m now l) m
        (exec (program_c K bodies) call k now a m l) (exec (program_c K bodies) call k now b m l))
        (λ v z. exec (program_c K bodies) call k now rest v z)
        (branch-keeps m (truth_c (program_c K bodies) t m now l)
        (exec (program_c K bodies) call k now a m l) (exec (program_c K bodies) call k now b m l)
        (exec-keeps k now a m l) (exec-keeps k now b m l))
        (λ v z. exec-keeps k now rest v z) n room
    exec-keeps k now (plan.Return i) m l n room = room
    exec-keeps k now plan.ReturnResult m l n room = room

  -- calls of functions
  pub calls-keep : (k : ℕ) → CallsKeep (call_fn (program_c K bodies) k)
  unfolding call_fn
  calls-keep zero q now base home r m n room = absurd room
  calls-keep (suc k) q now base home r m n room =
      and_with-keeps m (exec (program_c K bodies) (call_fn (program_c K bodies) k) k now (bodies q) m
      (begins base home r)) (λ v x. Left v x)
      (exec-keeps (call_fn (program_c K bodies) k) (calls-keep k) k now (bodies q) m (begins base home r))
      (λ v x j less. less) n room
