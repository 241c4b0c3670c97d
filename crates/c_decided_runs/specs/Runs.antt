-- Runs of a file with decided tests: what is known between events, and what is refused at once.
use Rattle.std.specs.Prelude.{◌≡◌, ◌≢◌, ◌<◌, ◌^◌, ◌⊎◌, ℕ, pos, Bool, true, false, List, [], ◌∷◌, length, Some, None}
use Rattle.actions.specs.Engines.{IsInputEvent}
use Rattle.actions.specs.Runs.{Moment}
use Rattle.actions.specs.declared.event.Event.TheVariants as events
use Rattle.c_subset.specs.declared.trees.Width.{Width}
use Rattle.c_subset.specs.declared.trees.CType.TheVariants.{Truth}
use Rattle.c_subset.specs.Trees.{File}
use Rattle.c_subset.specs.Meaning.{CValue, Store, one_if}
use Rattle.c_subset.specs.Running.{Returns, call, with_field}
use Rattle.c_functions.specs.Plans.{Shape, event_number, init_function, start_function, react_function}
use Rattle.c_functions.specs.Plans.{ready_field, fault_field, refused_number}
use Rattle.c_functions.specs.Files.{HasWord, with_fault}
use Rattle.c_functions.specs.Moments.{word_of, ShowsMoment}
use Rattle.c_functions.specs.Starts.{HasShape}
use Rattle.c_facts.specs.Known.{Known, Hold, Imply}
use Rattle.c_decided.specs.Facts.{ByNumber, at}
use Rattle.c_decided.specs.Decided.{Plan}

-- ---- between events

-- where a function returned true
abbrev pub where_true : ByNumber → Known
where_true b = at b (Some (pos 1))

-- a store in a datum, as inputs are given, leaves what is known
abbrev pub DataAreFree : Shape → Known → Type 0
DataAreFree K k = (s : Store) (v : ℕ) (x : CValue) → v < length K.names.vars → Hold s k → Hold (with_field s v x) k

-- The plan fits together between the calls from outside: first values may be stored in any struct of the file's type;
-- then the start may be called, and where it and each reaction returned true, the next reaction; data are given between.
-- The start and the reaction stay as they are
pub record IsBetween (K : Shape) (P : Plan) : Type 0 where
  pub unset : (s : Store) → HasShape K s → Hold s (P.begins (init_function K))
  pub first : Imply (where_true (P.leaves (init_function K))) (P.begins (start_function K))
  pub started : Imply (where_true (P.leaves (start_function K))) (P.begins (react_function K))
  pub reacted : Imply (where_true (P.leaves (react_function K))) (P.begins (react_function K))
  pub given : DataAreFree K (P.begins (start_function K))
  pub given_again : DataAreFree K (P.begins (react_function K))
  pub start_stays : P.stays (start_function K) ≡ true
  pub react_stays : P.stays (react_function K) ≡ true

-- ---- refusals

-- a call returns this answer and leaves that struct, and calls no function
abbrev pub LeavesAtOnce : File → Width → ℕ → List CValue → Store → Bool → Store → Type 0
LeavesAtOnce file int f args s answer after =
    call file int 1 f args s ≡ Returns after (record { type = Truth; value = one_if answer })

-- what `Refuses` says is refused, by the functions that are called from outside alone
pub record RefusesAtOnce (K : Shape) (file : File) (int : Width) : Type 0 where
  pub not_running : (s : Store) (e : ℕ) → e < 2 ^ 32 → HasWord s.fields (ready_field K) 0
      → LeavesAtOnce file int (react_function K) (word_of e ∷ []) s false s
  pub no_event : (s : Store) (moment : Moment) (e : ℕ) → e < 2 ^ 32 → ShowsMoment K moment s → moment.fault ≡ None
      → ¬ IsInputEvent K.names e → e ≢ event_number K.names events.Tick
      → LeavesAtOnce file int (react_function K) (word_of e ∷ []) s false (with_fault K s refused_number 0)
  pub second_start : (s : Store) (ready fault : ℕ) → HasWord s.fields (ready_field K) ready
      → HasWord s.fields (fault_field K) fault → (ready ≢ 0) ⊎ (fault ≢ 0)
      → LeavesAtOnce file int (start_function K) [] s false s
