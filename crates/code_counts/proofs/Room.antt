-- An event emits no more events than it uses steps, and uses no more steps than its bounds have.
use Rattle.std.proofs.Common.{◌≡◌, ℕ, zero, suc, ◌≤◌, Bool, true, false, List, [], ◌∷◌, length, Option, Some, None}
use Rattle.std.proofs.Common.{Result, Ok, Err, refl, ap, arith}
use Rattle.std.specs.Prelude.{nat_le, if◌then◌else◌}
use Rattle.std.proofs.lemmas.List.{length-append}
use Rattle.flow_base.specs.declared.bounds.Bounds.{Bounds}
use Rattle.flow_base.specs.declared.fault.Fault.{Fault}
use Rattle.active_config.specs.Marks.{is_on, is_bare}
use Rattle.actions.specs.declared.event.Event.{Event}
use Rattle.actions.specs.Changes.{paid_in, assigned_in}
use Rattle.actions.specs.World.{World, world_before, emitted}
use Rattle.actions.specs.Work.{Now}
use Rattle.code_language.specs.Ahead.{next_then, ahead}
use Rattle.code_language.proofs.Used.{Leaving, Pays, paid_used}
use Rattle.code_language.specs.Code.{Code, fetch}
use Rattle.code_language.specs.Instrs.{Instr, Assign, Emit, Mark, Clear, Keep, Unless, Skip, Call, Visit, Send, SendTo}
use Rattle.code_language.specs.Instrs.{Play, Home, Begin, Pass, Ret}
use Rattle.code_language.specs.Machine.{Program, Frame, CodeState, machine, fresh}
use Rattle.code_language.specs.Machine.{next, Next, Goes, Stops, holds, if_ok}
use Rattle.code_language.specs.Machine.{test_next, pass_on, noted, later, sent, if_deep, play_next, act, act_on, step}
use Rattle.code_language.specs.Reactions.{program_of, start_machine, react_machine, Starts, Reacts}
use Rattle.code_counts.specs.Claims.{HasMost}
use Rattle.code_counts.specs.Needed.{IsRoom}
use Rattle.code_counts.specs.declared.numbers.Counted.TheVariants.{Outputs}
use Rattle.code_counts.proofs.Bounded.{at_end, end_within}
use Rattle.code_counts.proofs.Faults.{Leaves, IsOfValue, IsSame, IsPaid, IsSpent, assign_leaves, paid_leaves}
use Rattle.code_counts.proofs.Faults.{mark_same, clear_same, keep_same}

-- no more is emitted than steps are used, and no more are used than there are
pub record IsCovered (b : Bounds) (w : World) : Type 0 where
  pub outputs : length w.outputs ≤ w.used
  pub used : w.used ≤ b.steps

-- the same of what a step gives
abbrev StaysCovered : Bounds → Next → Type 0
StaysCovered b (Goes m) = IsCovered b m.world
StaysCovered b (Stops w fault) = IsCovered b w

module _ (C : Program) where
  module _ (w : World) (is : IsCovered C.bounds w) where
    -- nothing is paid and nothing emitted
    same : (v : World) → IsSame w v → IsCovered C.bounds v
    same v s = record {
      outputs = omega (arith, is.outputs, ap length s.1, s.0);
      used = omega (arith, is.used, s.0);
    }

    -- an assignment
    assigns : (o : Result World Fault) (go : World → Next) → Leaves (IsSame w) IsOfValue o
        → ((v : World) → IsCovered C.bounds v → StaysCovered C.bounds (go v))
        → StaysCovered C.bounds (if_ok o w go)
    assigns (Ok v) go l t = t v (same v l)
    assigns (Err x) go l t = is

    -- a test
    tests : (o : Result Bool Fault) (a b : Next) → StaysCovered C.bounds a → StaysCovered C.bounds b
        → StaysCovered C.bounds (test_next o w a b)
    tests (Err x) a b y n = is
    tests (Ok true) a b y n = y
    tests (Ok false) a b y n = n

    -- a step that needs depth
    needs_depth : (t : Bool) (go : Next) → StaysCovered C.bounds go → StaysCovered C.bounds (if_deep t w go)
    needs_depth true go y = is
    needs_depth false go y = y

    -- one more step is used than is needed for what was emitted
    abbrev HasPaid : World → Type 0
    HasPaid v = (suc (length v.outputs) ≤ v.used) × (v.used ≤ C.bounds.steps)

    -- a payment
    paid_by : (o : Result World Fault) (go : World → Next) → Leaves (IsPaid w) (IsSpent C.bounds w) o
        → Leaving (Pays C.bounds w) o → ((v : World) → HasPaid v → StaysCovered C.bounds (go v))
        → StaysCovered C.bounds (if_ok o w go)
    paid_by (Ok v) go l p t =
        t v (omega (arith, is.outputs, ap length l.1, l.0), omega (arith, p.0, p.1))
    paid_by (Err x) go l p t = is

    pays : (go : World → Next) → ((v : World) → HasPaid v → StaysCovered C.bounds (go v))
        → StaysCovered C.bounds (if_ok (paid_in C.bounds w) w go)
    pays go t = paid_by (paid_in C.bounds w) go (paid_leaves C.bounds w) (paid_used C.bounds w) t

    -- a world in which a step is paid
    paid : (v : World) → HasPaid v → IsCovered C.bounds v
    paid v p = record { outputs = omega (arith, p.0); used = p.1 }

    -- and one in which an event is emitted for it
    puts : (e : ℕ) (v : World) → HasPaid v → IsCovered C.bounds (emitted e v)
    puts e v p = record { outputs = omega (arith, p.0, length-append v.outputs (e ∷ [])); used = p.1 }

    -- a send
    sends : (t : Bool) (e p : ℕ) (v : World) (now : Now) (r : ℕ) (f : Frame) (fs : List Frame)
        → IsCovered C.bounds v → StaysCovered C.bounds (Goes (sent t e p v now r f fs))
    sends true e p v now r f fs h = h
    sends false e p v now r f fs h = h

    -- `Pass`
    passes : (x : ℕ) (now : Now) (f : Frame) (fs : List Frame) → StaysCovered C.bounds (pass_on w now x f fs)
    passes zero now f fs = is
    passes (suc x) now f fs = is

    -- `Play`, which runs a note where the home is bare
    plays_if : (t : Bool) (go : World → Next) (o : Next)
        → ((v : World) → IsCovered C.bounds v → StaysCovered C.bounds (go v)) → StaysCovered C.bounds o
        → StaysCovered C.bounds (if t then if_ok (paid_in C.bounds w) w go else o)
    plays_if true go o t y = pays go (λ v p. t v (paid v p))
    plays_if false go o t y = y

    plays : (o : Option (ℕ × ℕ)) (now : Now) (r : ℕ) (f : Frame) (fs : List Frame)
        → StaysCovered C.bounds (play_next C o w now r f fs)
    plays None now r f fs = is
    plays (Some x) now r f fs =
        plays_if (is_bare C.tree f.home w.marks) (λ v. Goes (machine v now r
        (fresh x.1 None (suc (length fs)) f.home None ∷ record f { cursor = suc x.0 } ∷ fs)))
        (Goes (machine w now r (next f ∷ fs))) (λ v h. h) is

    -- whatever instruction stands at the place
    act_covered : (o : Option Instr) (now : Now) (r : ℕ) (f : Frame) (fs : List Frame)
        → StaysCovered C.bounds (act C o w now r f fs)
    act_covered None now r f fs = is
    act_covered (Some (Assign v e)) now r f fs =
        assigns (assigned_in v e w) (λ u. Goes (machine u now r (next f ∷ fs))) (assign_leaves v e w) (λ u h. h)
    act_covered (Some (Emit e)) now r f fs =
        pays (λ v. Goes (machine (emitted e v) now r (next f ∷ fs))) (λ v p. puts e v p)
    act_covered (Some (Mark x)) now r f fs = same _ (mark_same C.tree x w)
    act_covered (Some (Clear x)) now r f fs = same _ (clear_same C.tree x w)
    act_covered (Some (Keep x)) now r f fs = same _ (keep_same C.tree x w)
    act_covered (Some (Unless k test)) now r f fs = tests (holds C.tree test w now r f.home) _ _ is is
    act_covered (Some (Skip k)) now r f fs = is
    act_covered (Some (Call p tag)) now r f fs = is
    act_covered (Some (Visit p tag)) now r f fs =
        pays (λ v. Goes (machine v now r (fresh p tag f.base f.home None ∷ next f ∷ fs))) paid
    act_covered (Some (Send e)) now r f fs =
        needs_depth (nat_le C.bounds.depth now.depth) _
        (pays (λ v. Goes (sent true e C.procedures.react v now r f fs)) paid)
    act_covered (Some (SendTo e x p)) now r f fs =
        needs_depth (nat_le C.bounds.depth now.depth) _
        (pays (λ v. Goes (sent (is_on x v.marks) e p v now r f fs))
        (λ v q. sends (is_on x v.marks) e p v now r f fs (paid v q)))
    act_covered (Some Play) now r f fs = plays (noted (later f.cursor (suc f.base)) (f ∷ fs)) now r f fs
    act_covered (Some (Home x)) now r f fs = is
    act_covered (Some Begin) now r f fs = is
    act_covered (Some Pass) now r f fs = passes r now f fs
    act_covered (Some (Ret x)) now r f fs = is

  -- a step
  step_covered : (w : World) (now : Now) (r : ℕ) (fs : List Frame) → IsCovered C.bounds w
      → StaysCovered C.bounds (act_on C w now r fs)
  step_covered w now r [] is = is
  step_covered w now r (f ∷ fs) is = act_covered w is (fetch C.procedures f.proc f.place) now r f fs

  -- what follows a step
  covered_then : (o : Next) (go : CodeState → Next) → StaysCovered C.bounds o
      → ((m : CodeState) → IsCovered C.bounds m.world → StaysCovered C.bounds (go m))
      → StaysCovered C.bounds (next_then o go)
  covered_then (Goes m) go h t = t m h
  covered_then (Stops w x) go h t = h

  -- a run stays so
  ahead_covered : (n : ℕ) (m : CodeState) → IsCovered C.bounds m.world → StaysCovered C.bounds (ahead C n m)
  ahead_covered zero m is = is
  ahead_covered (suc n) m is =
      covered_then (step C m) (ahead C n) (step_covered m.world m.now m.result m.frames is)
      (λ m' h. ahead_covered n m' h)

-- where nothing is emitted and no step is used
covered_first : (b : Bounds) (w : World) → length w.outputs ≡ 0 → w.used ≡ 0 → IsCovered b w
covered_first b w none unused = record { outputs = omega (arith, none, unused); used = omega (arith, unused) }

-- a start emits no more events than the bounds have steps
pub start_few : (k : Code) (b : Bounds) (w : World) (x : Option Fault) → Starts k b w x → length w.outputs ≤ b.steps
start_few k b w x starts =
    let h = at_end (StaysCovered b) (program_of k b) (start_machine k) (record { world = w; fault = x }) starts
    (λ n. ahead_covered (program_of k b) n (start_machine k) (covered_first b (start_machine k).world refl refl)) in
    omega (arith, h.outputs, h.used)

-- and neither does a reaction
pub reaction_few : (k : Code) (b : Bounds) (w w' : World) (e : Event) (x : Option Fault) → Reacts k b w e w' x
    → length w'.outputs ≤ b.steps
reaction_few k b w w' e x reacts =
    let h = at_end (StaysCovered b) (program_of k b) (react_machine k w e) (record { world = w'; fault = x }) reacts
    (λ n. ahead_covered (program_of k b) n (react_machine k w e)
    (covered_first b (react_machine k w e).world refl refl)) in
    omega (arith, h.outputs, h.used)

-- an array with an entry for each step has room
pub steps_are_room : (k : Code) (b : Bounds) → 1 ≤ b.steps → IsRoom k b b.steps
steps_are_room k b some = record {
  some = some;
  few = omega arith;
  start = λ names. start_few (record k { names = names }) b;
  reaction = reaction_few k b;
}

-- and so has one with as many entries as no event passes
pub most_is_room : (k : Code) (b : Bounds) (most room : ℕ) → HasMost Outputs k most → most ≤ room → 1 ≤ room
    → room ≤ b.steps → IsRoom k b room
most_is_room k b most room has le some few = record {
  some = some;
  few = few;
  start = λ names w x starts.
      let h = end_within Outputs (program_of k b) most (start_machine (record k { names = names }))
      (record { world = w; fault = x }) starts (λ n. has.start b n (world_before k.tree names)) in
      omega (arith, h.0, le);
  reaction = λ w w' e x reacts.
      let h = end_within Outputs (program_of k b) most (react_machine k w e) (record { world = w'; fault = x }) reacts
      (λ n. has.reaction b n w e) in
      omega (arith, h.0, le);
}
