-- A run of an engine, and the moment of one event more.
use Rattle.std.proofs.Common.{◌≡◌, List, [], ◌∷◌, ◌++◌, Option, Some, None, refl, sym, subst}
use Rattle.flow_base.specs.declared.fault.Fault.{Fault}
use Rattle.actions.specs.Runs.{EventWithInputs, ReactionRelation, Moment, ReactsWithInputs, UnlessFaulted, GoesOn}
use Rattle.actions.specs.World.{World}

-- a world without a fault
abbrev pub well : World → Moment
well w = record { world = w; fault = None }

-- after a moment, each event left one, and the last of them is that world without a fault
abbrev pub EndsAt : Moment → List EventWithInputs → List Moment → World → Type 0
EndsAt m [] [] w = m ≡ well w
EndsAt m [] (n ∷ moments) w = ⊥
EndsAt m (given ∷ events) [] w = ⊥
EndsAt m (given ∷ events) (n ∷ moments) w = EndsAt n events moments w

-- the first event after a moment, and those after it
abbrev Next : ReactionRelation → World → EventWithInputs → List EventWithInputs → List Moment → Type 0
Next react w given events ms = (next : Moment) × (later : List Moment) × (ms ≡ next ∷ later)
    × ReactsWithInputs react w given next.world next.fault × GoesOn react next events later

-- one event more leaves one moment more
pub one_later : (react : ReactionRelation) (m : Moment) (events : List EventWithInputs) (moments : List Moment)
    (w : World)
    (given : EventWithInputs) (next : Moment) → EndsAt m events moments w → GoesOn react m events moments
    → ReactsWithInputs react w given next.world next.fault
    → GoesOn react m (events ++ given ∷ []) (moments ++ next ∷ [])
one_later react m [] [] w given next ends goes step =
    subst (λ (x : Moment). GoesOn react x (given ∷ []) (next ∷ [])) (sym ends) (next, [], refl, step, refl)
one_later react m [] (n ∷ moments) w given next ends goes step = absurd ends
one_later react m (e ∷ events) [] w given next ends goes step = absurd ends
one_later react m (e ∷ events) (n ∷ moments) w given next ends goes step =
    at m.fault goes (λ later. one_later react n events moments w given next ends later step)
  where
    at : (f : Option Fault) → UnlessFaulted f (n ∷ moments) (Next react m.world e events (n ∷ moments))
        → (GoesOn react n events moments → GoesOn react n (events ++ given ∷ []) (moments ++ next ∷ []))
        → UnlessFaulted f (n ∷ (moments ++ next ∷ []))
        (Next react m.world e (events ++ given ∷ []) (n ∷ (moments ++ next ∷ [])))
    at (Some fault) none rest = absurd cc
    at None goes rest =
        let first : goes.0 ≡ n = let is = goes.2 in cc in
        let later : goes.1 ≡ moments = let is = goes.2 in cc in (
          n,
          moments ++ next ∷ [],
          refl,
          subst (λ (x : Moment). ReactsWithInputs react m.world e x.world x.fault) first goes.3,
          rest (subst (λ (x : Moment). GoesOn react x events moments) first
              (subst (λ (x : List Moment). GoesOn react goes.0 events x) later goes.4)),
        )

-- and that is what the event gives from the world before it
pub last_given : (react : ReactionRelation) (m : Moment) (events : List EventWithInputs) (moments : List Moment)
    (w : World)
    (given : EventWithInputs) (next : Moment) → EndsAt m events moments w
    → GoesOn react m (events ++ given ∷ []) (moments ++ next ∷ [])
    → ReactsWithInputs react w given next.world next.fault
last_given react m [] [] w given next ends goes =
    at (subst (λ (x : Moment). GoesOn react x (given ∷ []) (next ∷ [])) ends goes)
  where
    at : Next react w given [] (next ∷ []) → ReactsWithInputs react w given next.world next.fault
    at goes =
        let same : goes.0 ≡ next = let is = goes.2 in cc in
        subst (λ (x : Moment). ReactsWithInputs react w given x.world x.fault) same goes.3
last_given react m [] (n ∷ moments) w given next ends goes = absurd ends
last_given react m (e ∷ events) [] w given next ends goes = absurd ends
last_given react m (e ∷ events) (n ∷ moments) w given next ends goes =
    at m.fault goes (λ later. last_given react n events moments w given next ends later)
  where
    at : (f : Option Fault)
        → UnlessFaulted f (n ∷ (moments ++ next ∷ []))
        (Next react m.world e (events ++ given ∷ []) (n ∷ (moments ++ next ∷ [])))
        → (GoesOn react n (events ++ given ∷ []) (moments ++ next ∷ [])
        → ReactsWithInputs react w given next.world next.fault)
        → ReactsWithInputs react w given next.world next.fault
    at (Some fault) none rest = absurd cc
    at None goes rest =
        let first : goes.0 ≡ n = let is = goes.2 in cc in
        let later : goes.1 ≡ moments ++ next ∷ [] = let is = goes.2 in cc in
        rest (subst (λ (x : Moment). GoesOn react x (events ++ given ∷ []) (moments ++ next ∷ [])) first
        (subst (λ (x : List Moment). GoesOn react goes.0 (events ++ given ∷ []) x) later goes.4))

-- where it has no fault, that is the last world
pub ends_later : (m : Moment) (events : List EventWithInputs) (moments : List Moment) (w w' : World)
    (given : EventWithInputs) (next : Moment) → EndsAt m events moments w → next ≡ well w'
    → EndsAt m (events ++ given ∷ []) (moments ++ next ∷ []) w'
ends_later m [] [] w w' given next ends is = is
ends_later m [] (n ∷ moments) w w' given next ends is = absurd ends
ends_later m (e ∷ events) [] w w' given next ends is = absurd ends
ends_later m (e ∷ events) (n ∷ moments) w w' given next ends is = ends_later n events moments w w' given next ends is
