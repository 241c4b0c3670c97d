-- A file with decided tests runs as the file.
use Rattle.std.proofs.Common.{◌≡◌, ◌+◌, ◌<◌, ℕ, suc, zero, Bool, true, not, is_some, List, [], ◌∷◌, length}
use Rattle.std.proofs.Common.{Option, Some, None, slice_get, refl, sym, ap, subst, arith}
use Rattle.flow_base.specs.declared.fault.Fault.{Fault}
use Rattle.actions.specs.declared.expr.Value.{Value}
use Rattle.actions.specs.declared.names.Var.{Var}
use Rattle.actions.specs.Runs.{EventWithInputs, Moment, UnlessFaulted, AreInputValues}
use Rattle.c_subset.specs.declared.trees.Width.{Width}
use Rattle.c_subset.specs.Trees.{File}
use Rattle.c_subset.specs.Meaning.{CValue, Store, one_if}
use Rattle.c_functions.specs.Plans.{Shape, init_function, start_function, react_function}
use Rattle.c_functions.specs.Starts.{HasShape, Leaves, Answers, AreStored, AllGiven, event_argument, first_struct}
use Rattle.c_functions.specs.Starts.{ReactsOn, RunsOn}
use Rattle.c_facts.specs.Known.{Known, Hold}
use Rattle.c_decided.specs.Facts.{at}
use Rattle.c_decided.specs.Decided.{Plan}
use Rattle.c_decided.specs.Made.{CallsAreKept}
use Rattle.c_decided_runs.specs.Runs.{DataAreFree, IsBetween, where_true}

-- ---- data that are given

within : (xs : List Var) (v : ℕ) (x : Var) → slice_get xs v ≡ Some x → v < length xs
within [] v x e = absurd cc
within (y ∷ xs) zero x e = omega arith
within (y ∷ xs) (suc v) x e = let less = within xs v x e in omega (arith, less)

stored-hold : (K : Shape) (k : Known) → DataAreFree K k → (inputs : List (Option Value)) (v : ℕ) (s set : Store)
    → AreInputValues K.names v inputs → AreStored K.names v inputs s set → Hold s k → Hold set k
stored-hold K k free [] v s set are stored h = subst (λ (s : Store). Hold s k) (sym stored) h
stored-hold K k free (None ∷ inputs) v s set are stored h = stored-hold K k free inputs (v + 1) s set are stored h
stored-hold K k free (Some value ∷ inputs) v s set are stored h =
    stored-hold K k free inputs (v + 1) _ set are.1 stored.2
    (free s v _ (within K.names.vars v are.0.0 are.0.1) h)

-- ---- runs

-- what goes on unless there was a fault
unless-on : (fault : Option Fault) (moments : List Moment) (A B : Type 0) → (fault ≡ None → A → B)
    → UnlessFaulted fault moments A → UnlessFaulted fault moments B
unless-on None moments A B f h = f refl h
unless-on (Some x) moments A B f h = h

module _ (P : Plan) (K : Shape) (file made : File) (kept : CallsAreKept P file made) (is : IsBetween K P) (int : Width)
  where
    -- what a call leaves it leaves in the second file, and where it returned true that is known
    leaves-on : (f : ℕ) (args : List CValue) (s : Store) (answer : Bool) (after : Store) → Hold s (P.begins f)
        → Leaves file int f args s answer after → Leaves made int f args s answer after
    leaves-on f args s answer after h leaves = record {
      fuel = leaves.fuel;
      gives = (kept int leaves.fuel f args s after _ h leaves.gives).gives;
    }

    left-true : (f : ℕ) (args : List CValue) (s : Store) (answer : Bool) (after : Store) → Hold s (P.begins f)
        → Leaves file int f args s answer after → answer ≡ true → Hold after (where_true (P.leaves f))
    left-true f args s answer after h leaves told =
        subst (λ (b : Bool). Hold after (at (P.leaves f) (Some (one_if b)))) told
        (kept int leaves.fuel f args s after _ h leaves.gives).leaves

    answers-on : (f : ℕ) (args : List CValue) (moment : Moment) (s after : Store) → Hold s (P.begins f)
        → Answers K file int f args moment s after → Answers K made int f args moment s after
    answers-on f args moment s after h a = record {
      leaves = leaves-on f args s _ after h a.leaves;
      shape = a.shape;
      shows = a.shows;
    }

    answered-true : (f : ℕ) (args : List CValue) (moment : Moment) (s after : Store) → Hold s (P.begins f)
        → Answers K file int f args moment s after → moment.fault ≡ None → Hold after (where_true (P.leaves f))
    answered-true f args moment s after h a none =
        left-true f args s _ after h a.leaves (ap (λ (x : Option Fault). not (is_some x)) none)

    reacts-on : (events : List EventWithInputs) (m : Moment) (s : Store) (moments : List Moment)
        → AllGiven K.names events → (m.fault ≡ None → Hold s (P.begins (react_function K)))
        → ReactsOn K file int m s events moments → ReactsOn K made int m s events moments
    reacts-on [] m s moments all h runs = runs
    reacts-on (given ∷ events) m s moments all h runs =
        unless-on m.fault moments _ _
        (λ none r. let set-holds : Hold r.3 (P.begins (react_function K)) =
        stored-hold K (P.begins (react_function K)) is.given_again given.inputs 0 s r.3 all.0.inputs r.4 (h none) in (
          r.0,
          r.1,
          r.2,
          r.3,
          r.4,
          r.5,
          answers-on (react_function K) (event_argument K.names given.event) r.0 r.3 r.5 set-holds r.6,
          reacts-on events r.0 r.5 r.1 all.1
              (λ none. is.reacted r.5 (answered-true (react_function K) (event_argument K.names given.event) r.0 r.3 r.5
              set-holds r.6 none))
              r.7,
        )) runs

    pub runs-on : (s : Store) (given : List (Option Value)) (events : List EventWithInputs) (moments : List Moment)
        → HasShape K s → AreInputValues K.names 0 given → AllGiven K.names events
        → RunsOn K file int s given events moments → RunsOn K made int s given events moments
    runs-on s given events [] shape are all h = h
    runs-on s given events (m ∷ moments) shape are all h =
        let begins : Hold s (P.begins (init_function K)) = is.unset s shape in
        let first : Hold (first_struct K s) (P.begins (start_function K)) =
        is.first (first_struct K s)
        (left-true (init_function K) [] s true (first_struct K s) begins h.0 refl) in
        let set-holds : Hold h.1 (P.begins (start_function K)) =
        stored-hold K (P.begins (start_function K)) is.given given 0 (first_struct K s) h.1 are h.2 first in (
          leaves-on (init_function K) [] s true (first_struct K s) begins h.0,
          h.1,
          h.2,
          h.3,
          answers-on (start_function K) [] m h.1 h.3 set-holds h.4,
          reacts-on events m h.3 moments all
              (λ none. is.started h.3 (answered-true (start_function K) [] m h.1 h.3 set-holds h.4 none)) h.5,
        )
