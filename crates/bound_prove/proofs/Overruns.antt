-- Under bounds that a good certificate gives, no start, no reaction and no run ends in an overrun.
use Rattle.std.proofs.Common.{◌≡◌, ℕ, zero, suc, ◌+◌, ◌≤◌, List, [], ◌∷◌, Option, Some, None, sym, subst, arith}
use Rattle.std.specs.Prelude.{slice_get, if◌then◌else◌}
use Rattle.std.specs.List.{AllByRecursion}
use Rattle.flow_base.specs.declared.bounds.Bounds.{Bounds}
use Rattle.flow_base.specs.declared.fault.Fault.{Fault}
use Rattle.flow_base.specs.declared.fault.Fault.TheVariants as kinds
use Rattle.actions.specs.declared.event.Event.{Event}
use Rattle.actions.specs.declared.event.Event.TheVariants.{Start, Tick, Named}
use Rattle.actions.specs.declared.names.EventDecl.{EventDecl}
use Rattle.actions.specs.declared.names.EventKind.TheVariants.{Input}
use Rattle.actions.specs.Engines.{CanReactTo, IsInputEvent}
use Rattle.actions.specs.Runs.{Moment, EventWithInputs, CanBeGiven, GoesOn, UnlessFaulted, ReactsWithInputs}
use Rattle.actions.specs.World.{World, world_before, begun}
use Rattle.actions.specs.Work.{Run, Ended, Faulted, Unfinished}
use Rattle.sos_rules.specs.Reactions.{moment_of, Gives, from_outside, start_upto, react_upto, Reacts, RulesRun}
use Rattle.checked_chart.specs.Chart.{Chart}
use Rattle.bound_prove.specs.declared.need.Need.{Need}
use Rattle.bound_prove.specs.declared.need.Part.TheVariants as parts
use Rattle.bound_prove.specs.Needs.{nothing_needed, Covers}
use Rattle.bound_prove.specs.Cells.{Cells, IsGood}
use Rattle.bound_prove.specs.Roots.{is_input, inputs_need, at_least_one, root_need, IsWithin, NoOverrun}
use Rattle.bound_prove.proofs.Rooms.{Limits, Room, Within, faults, Any, IsOther, covers_left}
use Rattle.bound_prove.proofs.Rooms.{covers_right}
use Rattle.bound_prove.proofs.Spends.{Given, upto_spends}

-- ---- what the roots cover

-- a need with at least one of both covers it
raised : (x : Need) → Covers (at_least_one x) x
raised x = record { depth = omega arith; steps = omega arith }

-- what one of the input events needs covers each
input_covered : (f : ℕ → Need) (n : Need) (events : List EventDecl) (from i : ℕ) (d : EventDecl)
    → Covers n (inputs_need f from events) → slice_get events i ≡ Some d → d.kind ≡ Input → Covers n (f (from + i))
input_covered f n [] from i d cover e k = absurd cc
input_covered f n (x ∷ rest) from zero d cover e k =
    let same : x.kind ≡ Input = let h : x ≡ d = cc in subst (λ (y : EventDecl). y.kind ≡ Input) (sym h) k in
    let h : Covers n (if is_input x.kind then f from else nothing_needed) = covers_left _ _ cover in
    let h' : Covers n (f from) = subst (λ z. Covers n (if is_input z then f from else nothing_needed)) same h in
    subst (λ z. Covers n (f z)) (omega arith) h'
input_covered f n (x ∷ rest) from (suc i) d cover e k =
    subst (λ z. Covers n (f z)) (omega arith)
    (input_covered f n rest (from + 1) i d (covers_right _ _ cover) e k)

-- the roots cover the start, a tick and each input event
pub start_covered : (c : Chart) (g : Cells) → Covers (root_need c g) (g Start parts.Enter 0)
start_covered c g = covers_left _ _ (raised _)

pub tick_covered : (c : Chart) (g : Cells) → Covers (root_need c g) (g Tick parts.Process 0)
tick_covered c g = covers_left _ _ (covers_right _ _ (raised _))

pub input_event_covered : (c : Chart) (g : Cells) (e : ℕ) → IsInputEvent c.names e
    → Covers (root_need c g) (g (Named e) parts.Process 0)
input_event_covered c g e can =
    subst (λ z. Covers (root_need c g) (g (Named z) parts.Process 0)) (omega arith)
    (input_covered (λ e. g (Named e) parts.Process 0) _ c.names.events 0 e can.0
    (covers_right _ _ (covers_right _ _ (raised _))) can.1 can.2)

-- and so each event that a running engine can be given
event_covered : (c : Chart) (g : Cells) (e : Event) → CanReactTo c.names e
    → Covers (root_need c g) (g e parts.Process 0)
event_covered c g Start can = absurd can
event_covered c g Tick can = tick_covered c g
event_covered c g (Named e) can = input_event_covered c g e can

-- ---- moments

-- a fault that is no overrun
other_fault : (x : Fault) → IsOther x → NoOverrun (Some x)
other_fault kinds.Depth h = absurd h
other_fault kinds.Steps h = absurd h
other_fault (kinds.Overflow v) h = record { no_depth = λ e. absurd cc; no_steps = λ e. absurd cc }
other_fault kinds.Zero h = record { no_depth = λ e. absurd cc; no_steps = λ e. absurd cc }

no_fault : NoOverrun None
no_fault = record { no_depth = λ e. absurd cc; no_steps = λ e. absurd cc }

-- work that stays within leads to a moment without an overrun
moment_within : {A : Type 0} (m : ℕ) (r : Run A) (x : Moment) → Within m Any r → moment_of r ≡ Some x
    → NoOverrun x.fault
moment_within m (Ended a w) x h e =
    let g : record { world = w; fault = None } ≡ x = cc in subst (λ (y : Moment). NoOverrun y.fault) g no_fault
moment_within m (Faulted y w) x (faults z v h) e =
    let g : record { world = w; fault = Some y } ≡ x = cc in subst (λ (q : Moment). NoOverrun q.fault) g
    (other_fault y h)
moment_within m Unfinished x h e = absurd cc

-- ---- runs

module _ (c : Chart) (g : Cells) (b : Bounds) (good : IsGood c g) (within : IsWithin (root_need c g))
    (deep : (root_need c g).depth ≤ b.depth) (long : (root_need c g).steps ≤ b.steps) where
  limits : Limits
  limits = record {
    depth = (root_need c g).depth;
    steps = (root_need c g).steps;
    depth_few = within.depth;
    steps_few = within.steps;
  }

  given : Given limits c g b
  unfolding limits
  given = record { good = good; depth = deep; steps = long }

  -- what the roots cover has room at the beginning of an event
  room : (x : Need) → Covers (root_need c g) x → Room limits (root_need c g).steps 0 0 x
  unfolding limits
  room x cover = record { depth = omega (arith, cover.depth); steps = omega (arith, cover.steps); most = omega arith }

  start_fine : (x : Moment) → Gives (start_upto c b) x → NoOverrun x.fault
  start_fine x h =
      moment_within (root_need c g).steps (start_upto c b h.height) x
      ((upto_spends limits c g b given h.height).enter 0 0 (from_outside Start) (world_before c.tree c.names) _
      (room _ (start_covered c g))) h.gives

  reaction_fine : (w : World) (e : Event) → CanReactTo c.names e → (x : Moment) → Gives (react_upto c b w e) x
      → NoOverrun x.fault
  reaction_fine w e can x h =
      moment_within (root_need c g).steps (react_upto c b w e h.height) x
      ((upto_spends limits c g b given h.height).process 0 (from_outside e) (begun w) _ (room _
      (event_covered c g e can)))
      h.gives

  abbrev Fine : Moment → Type 0
  Fine m = NoOverrun m.fault

  -- what follows a moment, where what follows the next one is fine
  unless_fine : (f : Option Fault) (e : EventWithInputs) (events : List EventWithInputs) (moments : List Moment)
      → CanBeGiven c.names e → (w : World)
      → ((next : Moment) (later : List Moment) → GoesOn (Reacts c b) next events later → AllByRecursion Fine later)
      → UnlessFaulted f moments
      ((next : Moment) × (later : List Moment) × (moments ≡ next ∷ later)
      × ReactsWithInputs (Reacts c b) w e next.world next.fault × GoesOn (Reacts c b) next events later)
      → AllByRecursion Fine moments
  unless_fine (Some x) e events moments can w rest h = subst (AllByRecursion Fine) (sym h) tt
  unless_fine None e events moments can w rest h =
      let fine = reaction_fine h.3.0 e.event can.event h.0 h.3.2 in
      subst (AllByRecursion Fine) (sym h.2) (fine, rest h.0 h.1 h.4)

  goes_on_fine : (m : Moment) (events : List EventWithInputs) (moments : List Moment)
      → AllByRecursion (CanBeGiven c.names) events → GoesOn (Reacts c b) m events moments → AllByRecursion Fine moments
  goes_on_fine m [] moments can h = subst (AllByRecursion Fine) (sym h) tt
  goes_on_fine m (e ∷ events) moments can h =
      unless_fine m.fault e events moments can.0 m.world (λ next later i. goes_on_fine next events later can.1 i) h

  pub run_fine : (events : List EventWithInputs) (moments : List Moment) → AllByRecursion (CanBeGiven c.names) events
      → RulesRun c b events moments → AllByRecursion Fine moments
  run_fine events [] can h = absurd h
  run_fine events (m ∷ moments) can h = (start_fine m h.0, goes_on_fine m events moments can h.1)
