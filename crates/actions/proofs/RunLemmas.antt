-- Runs over events with inputs: there is at most one, its front is one, and it is one by relations that give the same.
use Rattle.std.proofs.Common.{◌≡◌, ℕ, suc, ◌+◌, List, [], ◌∷◌, ◌++◌, length}
use Rattle.std.proofs.Common.{Option, Some, None, refl, sym, ap, ◌∙◌, subst}
use Rattle.std.specs.Prelude.{take}
use Rattle.flow_base.specs.declared.fault.Fault.{Fault}
use Rattle.actions.specs.declared.event.Event.{Event}
use Rattle.actions.specs.declared.expr.Value.{Value}
use Rattle.actions.specs.Data.{Datum}
use Rattle.actions.specs.Engines.{IsInputSet}
use Rattle.actions.specs.Runs.{EventWithInputs, StartRelation, ReactionRelation, Moment}
use Rattle.actions.specs.Runs.{AreSet, ReactsWithInputs, UnlessFaulted, GoesOn, Runs}
use Rattle.actions.specs.World.{World}

-- setting an input gives one world
IsInputSet-one : (w w' w'' : World) (v : ℕ) (value : Value) → IsInputSet w v value w' → IsInputSet w v value w''
    → w' ≡ w''
IsInputSet-one w w' w'' v value a b =
    let same : a.0 ≡ b.0 = let e = sym a.1 ∙ b.1 in cc in
    a.2 ∙ ap (λ (vals : List Datum). record w { vals = vals }) same ∙ sym b.2

-- and so does setting several
pub AreSet-one : (v : ℕ) (inputs : List (Option Value)) (w w' w'' : World) → AreSet v inputs w w'
    → AreSet v inputs w w'' → w' ≡ w''
AreSet-one v [] w w' w'' a b = a ∙ sym b
AreSet-one v (None ∷ inputs) w w' w'' a b = AreSet-one (v + 1) inputs w w' w'' a b
AreSet-one v (Some value ∷ inputs) w w' w'' a b =
    let same = IsInputSet-one w a.0 b.0 v value a.1 b.1 in
    AreSet-one (v + 1) inputs b.0 w' w'' (subst (λ (x : World). AreSet (v + 1) inputs x w') same a.2) b.2

-- ---- one run

-- an event has at most one outcome from a world
abbrev pub HasOneReaction : ReactionRelation → Type 0
HasOneReaction react =
    (w : World) (e : Event) (w' w'' : World) (f f' : Option Fault) → react w e w' f → react w e w'' f'
    → (w' ≡ w'') × (f ≡ f')

-- a start has at most one outcome
abbrev pub HasOneStart : StartRelation → Type 0
HasOneStart start = (w w' : World) (f f' : Option Fault) → start w f → start w' f' → (w ≡ w') × (f ≡ f')

-- moments of the same world and fault are the same
same_moment : (m m' : Moment) → (m.world ≡ m'.world) × (m.fault ≡ m'.fault) → m ≡ m'
same_moment m m' same =
    ap (λ (w : World). record { world = w; fault = m.fault }) same.0
    ∙ ap (λ (f : Option Fault). record { world = m'.world; fault = f }) same.1

-- so an event with inputs has at most one
ReactsWithInputs-one : (react : ReactionRelation) → HasOneReaction react
    → (w : World) (given : EventWithInputs) (m m' : Moment) → ReactsWithInputs react w given m.world m.fault
    → ReactsWithInputs react w given m'.world m'.fault → m ≡ m'
ReactsWithInputs-one react one w given m m' a b =
    let same = AreSet-one 0 given.inputs w a.0 b.0 a.1 b.1 in
    same_moment m m' (one b.0 given.event m.world m'.world m.fault m'.fault
    (subst (λ (x : World). react x given.event m.world m.fault) same a.2) b.2)

-- the first event after a moment, and those after it
abbrev Next : ReactionRelation → World → EventWithInputs → List EventWithInputs → List Moment → Type 0
Next react w given events ms = (next : Moment) × (later : List Moment) × (ms ≡ next ∷ later)
    × ReactsWithInputs react w given next.world next.fault × GoesOn react next events later

-- the events after a moment have at most one outcome
pub GoesOn-one : (react : ReactionRelation) → HasOneReaction react
    → (m : Moment) (events : List EventWithInputs) (ms ms' : List Moment) → GoesOn react m events ms
    → GoesOn react m events ms' → ms ≡ ms'
GoesOn-one react one m [] ms ms' a b = a ∙ sym b
GoesOn-one react one m (given ∷ events) ms ms' a b = at m.fault (λ next. GoesOn-one react one next events) a b
  where
    at : (f : Option Fault)
        → ((next : Moment) (later later' : List Moment) → GoesOn react next events later
        → GoesOn react next events later' → later ≡ later')
        → UnlessFaulted f ms (Next react m.world given events ms)
        → UnlessFaulted f ms' (Next react m.world given events ms') → ms ≡ ms'
    at (Some fault) others a b = a ∙ sym b
    at None others a b =
        let same = ReactsWithInputs-one react one m.world given a.0 b.0 a.3 b.3 in
        let rest = others b.0 a.1 b.1 (subst (λ (x : Moment). GoesOn react x events a.1) same a.4) b.4 in
        a.2 ∙ ap (λ (x : Moment). x ∷ a.1) same ∙ ap (λ (l : List Moment). b.0 ∷ l) rest ∙ sym b.2

-- a list of events has at most one run
pub Runs-one : (start : StartRelation) (react : ReactionRelation) → HasOneStart start → HasOneReaction react
    → (events : List EventWithInputs) (ms ms' : List Moment) → Runs start react events ms → Runs start react events ms'
    → ms ≡ ms'
Runs-one start react one_start one events [] ms' a b = absurd a
Runs-one start react one_start one events (m ∷ ms) [] a b = absurd b
Runs-one start react one_start one events (m ∷ ms) (m' ∷ ms') a b =
    let same = same_moment m m' (one_start m.world m'.world m.fault m'.fault a.0 b.0) in
    let rest = GoesOn-one react one m' events ms ms' (subst (λ (x : Moment). GoesOn react x events ms) same a.1) b.1 in
    ap (λ (x : Moment). x ∷ ms) same ∙ ap (λ (l : List Moment). m' ∷ l) rest

-- ---- a run's front is a run

-- nothing is taken of a list
take_none : {A : Type 0} (xs : List A) → take 0 xs ≡ []
take_none [] = refl
take_none (x ∷ xs) = refl

-- the front of what comes after a moment comes after it by the front of the events
pub GoesOn-front : (react : ReactionRelation) (m : Moment) (events more : List EventWithInputs) (ms : List Moment)
    → GoesOn react m (events ++ more) ms → GoesOn react m events (take (length events) ms)
GoesOn-front react m [] more ms goes = take_none ms
GoesOn-front react m (given ∷ events) more ms goes = at m.fault (λ next. GoesOn-front react next events more) goes
  where
    at : (f : Option Fault)
        → ((next : Moment) (later : List Moment) → GoesOn react next (events ++ more) later
        → GoesOn react next events (take (length events) later))
        → UnlessFaulted f ms (Next react m.world given (events ++ more) ms)
        → UnlessFaulted f (take (suc (length events)) ms)
        (Next react m.world given events (take (suc (length events)) ms))
    at (Some fault) others none = ap (λ (l : List Moment). take (suc (length events)) l) none
    at None others goes = (
      goes.0,
      take (length events) goes.1,
      ap (λ (l : List Moment). take (suc (length events)) l) goes.2,
      goes.3,
      others goes.0 goes.1 goes.4,
    )

-- and so of a whole run
pub Runs-front : (start : StartRelation) (react : ReactionRelation) (events more : List EventWithInputs)
    (ms : List Moment) → Runs start react (events ++ more) ms → Runs start react events (take (suc (length events)) ms)
Runs-front start react events more [] runs = absurd runs
Runs-front start react events more (m ∷ ms) runs = (runs.0, GoesOn-front react m events more ms runs.1)

-- ---- runs by two relations

-- from a world of which something holds, what an event with inputs gives by the first relation it gives by the second too,
-- and the same holds of the world after it
abbrev pub GivesAlso : (World → Type 0) → ReactionRelation → ReactionRelation → Type 0
GivesAlso P react react' = (given : EventWithInputs) (w w' : World) (f : Option Fault) → P w
    → ReactsWithInputs react w given w' f → ReactsWithInputs react' w given w' f × P w'

-- so what comes after a moment by the first comes after it by the second
pub GoesOn-along : (P : World → Type 0) (react react' : ReactionRelation) → GivesAlso P react react' → (m : Moment)
    (events : List EventWithInputs) (ms : List Moment) → P m.world → GoesOn react m events ms
    → GoesOn react' m events ms
GoesOn-along P react react' along m [] ms here goes = goes
GoesOn-along P react react' along m (given ∷ events) ms here goes =
    at m.fault (λ next. GoesOn-along P react react' along next events) goes
  where
    at : (f : Option Fault)
        → ((next : Moment) (later : List Moment) → P next.world → GoesOn react next events later
        → GoesOn react' next events later)
        → UnlessFaulted f ms (Next react m.world given events ms)
        → UnlessFaulted f ms (Next react' m.world given events ms)
    at (Some fault) others none = none
    at None others goes =
        let next = along given m.world goes.0.world goes.0.fault here goes.3 in
        (goes.0, goes.1, goes.2, next.0, others goes.0 goes.1 next.1 goes.4)

-- and so a run by the first is a run by the second, where the starts agree too
pub Runs-along : (P : World → Type 0) (start start' : StartRelation) (react react' : ReactionRelation)
    → ((w : World) (f : Option Fault) → start w f → start' w f × P w) → GivesAlso P react react'
    → (events : List EventWithInputs) (ms : List Moment) → Runs start react events ms → Runs start' react' events ms
Runs-along P start start' react react' starts along events [] runs = absurd runs
Runs-along P start start' react react' starts along events (m ∷ ms) runs =
    let first = starts m.world m.fault runs.0 in
    (first.0, GoesOn-along P react react' along m events ms first.1 runs.1)
