-- Under bounds that no event passes, runs over events are the same.
use Rattle.std.proofs.Common.{ℕ, inl, inr, Bool, true, false, IsFalse, List, Option, Some, None}
use Rattle.std.proofs.Common.{refl, sym, arith}
use Rattle.std.specs.Prelude.{◌↔◌}
use Rattle.flow_base.specs.declared.bounds.Bounds.{Bounds}
use Rattle.flow_base.specs.declared.fault.Fault.{Fault}
use Rattle.flow_base.specs.declared.fault.Fault.TheVariants as faults
use Rattle.actions.specs.declared.event.Event.{Event}
use Rattle.actions.specs.Names.{Names}
use Rattle.actions.specs.Runs.{Moment, EventWithInputs}
use Rattle.actions.specs.World.{World, world_before}
use Rattle.actions.proofs.RunLemmas.{Runs-along}
use Rattle.code_language.specs.Ahead.{ahead}
use Rattle.code_language.specs.Code.{Code}
use Rattle.code_language.specs.Machine.{CodeState, Stops}
use Rattle.code_language.specs.Reactions.{Leads, program_of, start_machine, react_machine, Starts, Reacts, CodeRun}
use Rattle.code_counts.specs.Claims.{HasMost, IsWithin}
use Rattle.code_counts.specs.Needed.{AreSameFor, Serves, MayEnd, IsRoom, IsLimit}
use Rattle.code_counts.specs.declared.numbers.Limits.{Limits}
use Rattle.code_counts.specs.declared.numbers.Counted.{Counted}
use Rattle.code_counts.specs.declared.numbers.Counted.TheVariants.{Steps, Depth}
use Rattle.code_counts.proofs.Bounded.{end_within}
use Rattle.code_counts.proofs.SameSteps.{IsUnspent, IsShallow, unspent, shallow, Paid, Sent, leads_same}

-- a run from this state never has more than what bounds all events
abbrev BeginsEvent : Code → CodeState → Type 0
BeginsEvent k m = (c : Counted) (most : ℕ) → HasMost c k most → (b : Bounds) (n : ℕ)
    → IsWithin c b most (ahead (program_of k b) n m)

-- a start begins so, whatever the code declares
start_begins : (k : Code) (names : Names) → BeginsEvent k (start_machine (record k { names = names }))
start_begins k names c most has b n = has.start b n (world_before k.tree names)

-- and a reaction
reaction_begins : (k : Code) (w : World) (e : Event) → BeginsEvent k (react_machine k w e)
reaction_begins k w e c most has b n = has.reaction b n w e

-- ---- runs under two bounds

module _ (k : Code) (b b' : Bounds) (m : CodeState) (begins : BeginsEvent k m) where
  -- neither run is ended since all steps were used, or both have as many
  paid_alike : AreSameFor Steps k b.steps b'.steps → (j : ℕ)
      → Paid b b' (ahead (program_of k b) j m) (ahead (program_of k b') j m)
  paid_alike (inl e) j = inl e
  paid_alike (inr h) j = inr (
    unspent b h.0 h.2 (ahead (program_of k b) j m) (begins Steps h.0 h.1 b j),
    unspent b' h.0 h.3 (ahead (program_of k b') j m) (begins Steps h.0 h.1 b' j),
  )

  -- neither run is ended since an event was sent too deep, or both are as deep
  sent_alike : AreSameFor Depth k b.depth b'.depth → (j : ℕ)
      → Sent b b' (ahead (program_of k b) j m) (ahead (program_of k b') j m)
  sent_alike (inl e) j = inl e
  sent_alike (inr h) j = inr (
    shallow b h.0 h.2 (ahead (program_of k b) j m) (begins Depth h.0 h.1 b j),
    shallow b' h.0 h.3 (ahead (program_of k b') j m) (begins Depth h.0 h.1 b' j),
  )

  -- so both lead to the same moments
  event_same : AreSameFor Steps k b.steps b'.steps → AreSameFor Depth k b.depth b'.depth → (w : World)
      (x : Option Fault) → Leads (program_of k b) m (record { world = w; fault = x })
      → Leads (program_of k b') m (record { world = w; fault = x })
  event_same steps depth w x h =
      leads_same b b' k m (record { world = w; fault = x })
      (λ j. (paid_alike steps j, sent_alike depth j)) h

-- a run under the first bounds is one under the second ones, whatever the code declares
run_goes : (k : Code) (names : Names) (b b' : Bounds) → AreSameFor Steps k b.steps b'.steps
    → AreSameFor Depth k b.depth b'.depth → (events : List EventWithInputs) (moments : List Moment)
    → CodeRun (record k { names = names }) b events moments → CodeRun (record k { names = names }) b' events moments
run_goes k names b b' steps depth events moments h =
    let now : Code = record k { names = names } in
    Runs-along (λ w. Unit {0}) (Starts now b) (Starts now b') (Reacts now b) (Reacts now b')
    (λ w x starts. (event_same k b b' (start_machine now) (start_begins k names) steps depth w x starts, tt))
    (λ given w w' x here reacts. (
      (
        reacts.0,
        reacts.1,
        event_same k b b' (react_machine k reacts.0 given.event)
            (reaction_begins k reacts.0 given.event) steps depth w' x reacts.2,
      ),
      tt,
    )) events moments h

-- what is the same one way is the same the other way
same_back : (c : Counted) (k : Code) (bound bound' : ℕ) → AreSameFor c k bound bound' → AreSameFor c k bound' bound
same_back c k bound bound' (inl e) = inl (sym e)
same_back c k bound bound' (inr h) = inr (h.0, h.1, h.3, h.2)

-- runs are the same under both
pub same_runs : (k : Code) (names : Names) (b b' : Bounds) → AreSameFor Steps k b.steps b'.steps
    → AreSameFor Depth k b.depth b'.depth → (events : List EventWithInputs) (moments : List Moment)
    → CodeRun (record k { names = names }) b events moments ↔ CodeRun (record k { names = names }) b' events moments
same_runs k names b b' steps depth events moments = (
  run_goes k names b b' steps depth events moments,
  run_goes k names b' b (same_back Steps k b.steps b'.steps steps) (same_back Depth k b.depth b'.depth depth) events
      moments,
)

-- ---- bounds that were found

-- a bound that serves in place of another one is the same for code
serving_same : (c : Counted) (k : Code) (bound found : ℕ) (tested : Bool) → Serves c k bound found tested
    → AreSameFor c k bound found
serving_same c k bound found true s = inl (s.same refl)
serving_same c k bound found false s =
    let h = s.enough refl in inr (h.0, h.1, omega (arith, h.2, s.no_greater), h.2)

-- a run ends by the fault of a bound only where it is tested
may_end : (steps depth : Bool) (w : World) (x : Option Fault) → (IsFalse steps → IsUnspent (Stops w x))
    → (IsFalse depth → IsShallow (Stops w x)) → MayEnd steps depth x
may_end steps depth w None u s = tt
may_end steps true w (Some faults.Depth) u s = refl
may_end steps false w (Some faults.Depth) u s = absurd (s refl)
may_end true depth w (Some faults.Steps) u s = refl
may_end false depth w (Some faults.Steps) u s = absurd (u refl)
may_end steps depth w (Some (faults.Overflow v)) u s = tt
may_end steps depth w (Some faults.Zero) u s = tt

module _ (k : Code) (b : Bounds) (found : Limits)
    (steps : Serves Steps k b.steps found.bounds.steps found.tests_steps)
    (depth : Serves Depth k b.depth found.bounds.depth found.tests_depth)
    (outputs : IsRoom k found.bounds found.outputs) where
  -- an event ends by the fault of a bound only where it is tested
  event_ends : (m : CodeState) → BeginsEvent k m → (w : World) (x : Option Fault)
      → Leads (program_of k found.bounds) m (record { world = w; fault = x })
      → MayEnd found.tests_steps found.tests_depth x
  event_ends m begins w x leads =
      let moment : Moment = record { world = w; fault = x } in
      may_end found.tests_steps found.tests_depth w x
      (λ untested. let h = steps.enough untested in
      unspent found.bounds h.0 h.2 (Stops w x)
      (end_within Steps (program_of k found.bounds) h.0 m moment leads (begins Steps h.0 h.1 found.bounds)))
      (λ untested. let h = depth.enough untested in
      shallow found.bounds h.0 h.2 (Stops w x)
      (end_within Depth (program_of k found.bounds) h.0 m moment leads (begins Depth h.0 h.1 found.bounds)))

  -- bounds that serve in place of the given ones
  pub is_limit : IsLimit k b found
  is_limit = record {
    runs = λ names.
        same_runs k names b found.bounds (serving_same Steps k b.steps found.bounds.steps found.tests_steps steps)
        (serving_same Depth k b.depth found.bounds.depth found.tests_depth depth);
    start = λ names w x starts.
        event_ends (start_machine (record k { names = names })) (start_begins k names) w x starts;
    reaction = λ w w' e x reacts. event_ends (react_machine k w e) (reaction_begins k w e) w' x reacts;
    steps = steps;
    depth = depth;
    outputs = outputs;
    in_range = λ are. record {
      some_depth = depth.some;
      depth_limit = omega (arith, are.depth_limit, depth.no_greater);
      some_steps = steps.some;
      steps_limit = omega (arith, are.steps_limit, steps.no_greater);
    };
  }
