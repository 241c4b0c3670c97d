-- A file whose functions that are called from outside return what they do in another file runs as that one.
use Rattle.std.proofs.Common.{◌≡◌, ℕ, Bool, true, List, [], ◌∷◌, Option, Some, None}
use Rattle.flow_base.specs.declared.fault.Fault.{Fault}
use Rattle.actions.specs.declared.expr.Value.{Value}
use Rattle.actions.specs.Runs.{EventWithInputs, Moment, UnlessFaulted}
use Rattle.c_subset.specs.declared.trees.Width.{Width}
use Rattle.c_subset.specs.Trees.{File}
use Rattle.c_subset.specs.Meaning.{CValue, Store}
use Rattle.c_subset.specs.Running.{Returns, call}
use Rattle.c_functions.specs.Moments.{word_of}
use Rattle.c_functions.specs.Files.{with_fault}
use Rattle.c_functions.specs.Plans.{Shape, init_function, start_function, react_function, refused_number}
use Rattle.c_functions.specs.Starts.{Leaves, Answers, event_argument, first_struct, ReactsOn, RunsOn, Refuses}

-- what goes on unless there was a fault
unless-on : (fault : Option Fault) (moments : List Moment) (A B : Type 0) → (A → B) → UnlessFaulted fault moments A
    → UnlessFaulted fault moments B
unless-on None moments A B f h = f h
unless-on (Some x) moments A B f h = h

-- what a call returns in the first file it returns in the second one
abbrev pub IsKept : Width → File → File → ℕ → List CValue → Type 0
IsKept int file file' f args = (k : ℕ) (s after : Store) (x : CValue) → call file int k f args s ≡ Returns after x
    → call file' int k f args s ≡ Returns after x

module _ (K : Shape) (file file' : File) (int : Width) (starts : (f : ℕ) → IsKept int file file' f [])
    (reacts : (x : CValue) → IsKept int file file' (react_function K) (x ∷ [])) where
  leaves-on : (f : ℕ) (args : List CValue) (s : Store) (answer : Bool) (after : Store)
      → IsKept int file file' f args → Leaves file int f args s answer after → Leaves file' int f args s answer after
  leaves-on f args s answer after kept h = record { fuel = h.fuel; gives = kept h.fuel s after _ h.gives }

  answers-on : (f : ℕ) (args : List CValue) (moment : Moment) (s after : Store) → IsKept int file file' f args
      → Answers K file int f args moment s after → Answers K file' int f args moment s after
  answers-on f args moment s after kept h = record {
    leaves = leaves-on f args s _ after kept h.leaves;
    shape = h.shape;
    shows = h.shows;
  }

  reacts-on : (events : List EventWithInputs) (m : Moment) (s : Store) (moments : List Moment)
      → ReactsOn K file int m s events moments → ReactsOn K file' int m s events moments
  reacts-on [] m s moments h = h
  reacts-on (given ∷ events) m s moments h =
      unless-on m.fault moments _ _
      (λ h. (
        h.0,
        h.1,
        h.2,
        h.3,
        h.4,
        h.5,
        answers-on (react_function K) (event_argument K.names given.event) h.0 h.3 h.5 (reacts _) h.6,
        reacts-on events h.0 h.5 h.1 h.7,
      )) h

  pub runs-on : (s : Store) (given : List (Option Value)) (events : List EventWithInputs) (moments : List Moment)
      → RunsOn K file int s given events moments → RunsOn K file' int s given events moments
  runs-on s given events [] h = h
  runs-on s given events (m ∷ moments) h = (
    leaves-on (init_function K) [] s true (first_struct K s) (starts _) h.0,
    h.1,
    h.2,
    h.3,
    answers-on (start_function K) [] m h.1 h.3 (starts _) h.4,
    reacts-on events m h.3 moments h.5,
  )

  pub refuses-on : Refuses K file int → Refuses K file' int
  refuses-on h = record {
    not_running = λ s e small ready.
        leaves-on (react_function K) (word_of e ∷ []) s _ s (reacts _) (h.not_running s e small ready);
    no_event = λ s moment e small shows none no_input no_tick.
        leaves-on (react_function K) (word_of e ∷ []) s _ (with_fault K s refused_number 0) (reacts _)
        (h.no_event s moment e small shows none no_input no_tick);
    second_start = λ s ready fault hr hf some.
        leaves-on (start_function K) [] s _ s (starts _) (h.second_start s ready fault hr hf some);
  }
