-- The functions of a file that are called from outside: that which stores the first values, the start and the reaction;
-- what they refuse, and the runs of a file over events.
use Rattle.std.specs.Prelude.{◌≡◌, ◌≢◌, ℕ, suc, ◌+◌, ◌/◌, ◌^◌, ◌<◌, ◌⊎◌, ◌==◌, pos, ℤ, Bool, true, false, not, is_some}
use Rattle.std.specs.Prelude.{List, [], ◌∷◌, ◌++◌, map, replicate, Option, Some, None, if◌then◌else◌}
use Rattle.std.specs.List.{AllByRecursion}
use Rattle.flow_base.specs.declared.bounds.Bounds.{Bounds}
use Rattle.active_config.specs.Tree.{Tree, state_count}
use Rattle.actions.specs.declared.event.Event.{Event}
use Rattle.actions.specs.declared.event.Event.TheVariants as events
use Rattle.actions.specs.declared.expr.Value.{Value}
use Rattle.actions.specs.declared.names.Var.{Var}
use Rattle.actions.specs.Data.{mantissa_in}
use Rattle.actions.specs.Engines.{IsInputEvent}
use Rattle.actions.specs.Names.{Names}
use Rattle.actions.specs.Runs.{Moment, EventWithInputs, CanBeGiven, UnlessFaulted}
use Rattle.code_language.specs.Code.{Code}
use Rattle.c_subset.specs.Trees.{CExpr, Const, Field, Compare, Both, Either, Block}
use Rattle.c_subset.specs.declared.trees.Width.{Width}
use Rattle.c_subset.specs.declared.trees.Width.TheVariants.{W16}
use Rattle.c_subset.specs.declared.trees.CType.TheVariants.{Unsigned, Truth}
use Rattle.c_subset.specs.declared.trees.Comparison.TheVariants.{IsEqual, IsUnequal, IsAtLeast}
use Rattle.c_subset.specs.Trees.{Function, File}
use Rattle.c_subset.specs.Trees as c
use Rattle.c_subset.specs.Meaning.{CValue, Object, Store, one_if}
use Rattle.c_subset.specs.Running.{Returns, call, object_of, with_field}
use Rattle.c_functions.specs.Claims.{field_type}
use Rattle.c_functions.specs.Statements as plan
use Rattle.c_functions.specs.Layout.{or_count}
use Rattle.c_functions.specs.Events.{all_inputs, leading_events, later_inputs}
use Rattle.c_functions.specs.Plans.{Shape, Tests, word, number, bad, event_local, result_local, event_number, declared_at}
use Rattle.c_functions.specs.Plans.{used_field, outs_field, noted_field, fault_field, ready_field, refused_number, leading}
use Rattle.c_functions.specs.Plans.{tell_fault, init_function, start_function, react_function, out_row, note_row}
use Rattle.c_functions.specs.Files.{HasWord, HasRow, with_fault, shape_of, functions_c}
use Rattle.c_functions.specs.Moments.{word_of, ShowsMoment}

-- ---- functions

-- 0 as a word
abbrev pub zero_word : CValue
zero_word = record { type = word; value = pos 0 }

-- what the fields of states begin with: two numbers for each OR, and a word for every 32 states
abbrev pub state_values : Tree → List CValue
state_values t =
    replicate (or_count t + or_count t) (record { type = Unsigned W16; value = pos 0 })
    ++ replicate ((state_count t + 31) / 32) zero_word

-- what each field begins with: data with their first values, and all else 0
unfoldable pub first_values : Shape → List CValue
first_values K =
    map (λ (v : Var). record { type = field_type v.sort; value = v.init }) K.names.vars
    ++ (replicate 6 zero_word ++ state_values K.tree)

-- m->f = C; for each field from a number on
abbrev pub store_all : ℕ → List CValue → Block → Block
store_all f [] rest = rest
store_all f (x ∷ xs) rest = c.Store f (Const x.type x.value) (store_all (suc f) xs rest)

-- return true; or return false;
abbrev pub answer_c : Bool → Block
answer_c b = c.Return (Const Truth (one_if b))

-- all fields are stored
abbrev pub init_c : Shape → Function
init_c K = record { result = Truth; parameters = []; body = store_all 0 (first_values K) (answer_c true) }

-- r = pN(m, e, 0, 0, 0, 0); return r != BAD;
abbrev pub outside_c : ℕ → CExpr → Block
outside_c p e =
    c.Call word 4 p (e ∷ number 0 ∷ number 0 ∷ number 0 ∷ number 0 ∷ [])
    (c.Return (Compare IsUnequal result_local (number bad)))

-- m->f != 0u
abbrev pub is_set_c : ℕ → CExpr
is_set_c f = Compare IsUnequal (Field f) (number 0)

-- a run goes on, or has ended
abbrev pub is_begun_c : Shape → CExpr
is_begun_c K = Either (is_set_c (ready_field K)) (is_set_c (fault_field K))

-- the start is refused where a run has begun; else it tells that the run goes on, and calls its procedure
abbrev pub start_c : Shape → ℕ → Function
start_c K p = record {
  result = Truth;
  parameters = [];
  body = c.If (is_begun_c K) (answer_c false) c.End
      (c.Store (ready_field K) (number (leading K)) (outside_c p (number (event_number K.names events.Start))));
}

-- m->used = 0u; where steps are counted
abbrev pub clear_used_c : Shape → Block → Block
clear_used_c K rest = if K.tests.steps then c.Store (used_field K) (number 0) rest else rest

-- m->used = 0u; m->outs = 0u; m->noted = 0u;
abbrev pub clear_counts_c : Shape → Block → Block
clear_counts_c K rest =
    clear_used_c K (c.Store (outs_field K) (number 0) (c.Store (noted_field K) (number 0) rest))

-- event != N
abbrev pub is_other_c : ℕ → CExpr
is_other_c e = Compare IsUnequal event_local (number e)

-- a test holds, and the event is none of these
abbrev pub and_none_c : CExpr → List ℕ → CExpr
and_none_c test [] = test
and_none_c test (e ∷ es) = and_none_c (Both test (is_other_c e)) es

-- the event is neither a tick nor an input after the leading ones
abbrev pub is_unknown_c : Shape → CExpr
is_unknown_c K = and_none_c (is_other_c (event_number K.names events.Tick)) (later_inputs K.names.events)

-- no event is taken where no run goes on
abbrev pub not_running_c : Shape → Block → Block
not_running_c K rest = c.If (Compare IsEqual (Field (ready_field K)) (number 0)) (answer_c false) c.End rest

-- a number that is no event ends the run
abbrev pub no_event_c : Shape → Block
no_event_c K = tell_fault K refused_number 0 (answer_c false)

-- the refusals, where the number is tested
abbrev pub refusals_c : Shape → Block → Block
refusals_c K rest = not_running_c K (c.If (is_unknown_c K) (no_event_c K) c.End rest)

-- those of a number that isn't below `ready`: where all events are inputs it is none in a run, and isn't tested
abbrev pub late_refusals_c : Shape → Block
late_refusals_c K = if all_inputs K.names.events then not_running_c K (no_event_c K) else refusals_c K c.End

-- the refusals, which an event below `ready` passes by, where events lead
abbrev pub refuse_c : Shape → Block → Block
refuse_c K rest =
    if leading_events K.names.events == 0 then refusals_c K rest
    else c.If (Compare IsAtLeast event_local (Field (ready_field K))) (late_refusals_c K) c.End rest

-- a reaction refuses what is no event; it has no step used, nothing emitted and no notes, and calls its procedure
abbrev pub react_c : Shape → ℕ → Function
react_c K p = record {
  result = Truth;
  parameters = word ∷ [];
  body = refuse_c K (clear_counts_c K (outside_c p event_local));
}

-- the file of code, with these tests and so many entries of out[]
abbrev pub file_of : Code → Tests → Bounds → ℕ → (ℕ → plan.Block) → File
file_of k T b room bodies = record {
  fields = map (λ (x : CValue). x.type) (first_values (shape_of k T b room));
  rows = record { type = word; size = room } ∷ record { type = word; size = (shape_of k T b room).notes } ∷ [];
  functions = functions_c (shape_of k T b room) bodies
      ++ init_c (shape_of k T b room) ∷ start_c (shape_of k T b room) k.procedures.start
      ∷ react_c (shape_of k T b room) k.procedures.react ∷ [];
}

-- ---- runs

-- a struct of the file's type, whatever its fields and elements hold
pub record HasShape (K : Shape) (s : Store) : Type 0 where
  pub fields : map (λ (o : Object). o.type) s.fields ≡ map (λ (x : CValue). x.type) (first_values K)
  pub out : HasRow s.rows out_row K.outputs []
  pub note : HasRow s.rows note_row K.notes []

-- the struct where each field has its first value, and arrays are as they were
abbrev pub first_struct : Shape → Store → Store
first_struct K s = record s { fields = map object_of (first_values K) }

-- the fields of inputs, from a number on, are given the mantissas of these values
abbrev pub AreStored : Names → ℕ → List (Option Value) → Store → Store → Type 0
AreStored n v [] s set = set ≡ s
AreStored n v (None ∷ inputs) s set = AreStored n (v + 1) inputs s set
AreStored n v (Some value ∷ inputs) s set =
    (m : ℤ) × (mantissa_in (declared_at n v).sort value ≡ Some m)
    × AreStored n (v + 1) inputs (with_field s v (record { type = field_type (declared_at n v).sort; value = m })) set

-- the argument of a reaction
abbrev pub event_argument : Names → Event → List CValue
event_argument n e = word_of (event_number n e) ∷ []

-- each event can be given to a running engine
abbrev pub AllGiven : Names → List EventWithInputs → Type 0
AllGiven n events = AllByRecursion (CanBeGiven n) events

module _ (file : File) (int : Width) where
  -- with some fuel, a call returns this answer, and leaves that struct
  pub record Leaves (f : ℕ) (args : List CValue) (s : Store) (answer : Bool) (after : Store) : Type 0 where
    pub fuel : ℕ
    pub gives : call file int fuel f args s ≡ Returns after (record { type = Truth; value = one_if answer })

module _ (K : Shape) (file : File) (int : Width) where
  -- a call tells whether there was no fault, and leaves a struct of the file's type that shows the moment
  pub record Answers (f : ℕ) (args : List CValue) (moment : Moment) (s after : Store) : Type 0 where
    pub leaves : Leaves file int f args s (not (is_some moment.fault)) after
    pub shape : HasShape K after
    pub shows : ShowsMoment K moment after

  -- from a moment on: before each event its inputs are stored, and the reaction shows the next moment, up to a fault
  abbrev pub ReactsOn : Moment → Store → List EventWithInputs → List Moment → Type 0
  ReactsOn m s [] moments = moments ≡ []
  ReactsOn m s (given ∷ events) moments = UnlessFaulted m.fault moments
      ((next : Moment) × (later : List Moment) × (moments ≡ next ∷ later)
      × (set : Store) × AreStored K.names 0 given.inputs s set
      × (after : Store)
      × Answers (react_function K) (event_argument K.names given.event) next set after
      × ReactsOn next after events later)

  -- The run from a struct: the first values are stored, then those that are given; the start and each reaction show
  -- these moments, and none goes wrong.
  abbrev pub RunsOn : Store → List (Option Value) → List EventWithInputs → List Moment → Type 0
  RunsOn s given events [] = ⊥
  RunsOn s given events (m ∷ moments) =
      Leaves file int (init_function K) [] s true (first_struct K s)
      × (set : Store) × AreStored K.names 0 given (first_struct K s) set
      × (after : Store) × Answers (start_function K) [] m set after × ReactsOn m after events moments

  -- What is refused, for every number as the event: any event where no run goes on; in a run, what is neither an input
  -- nor a tick, which ends it; and the start where a run has begun. A refusal changes nothing else in the struct.
  pub record Refuses : Type 0 where
    pub not_running : (s : Store) (e : ℕ) → e < 2 ^ 32 → HasWord s.fields (ready_field K) 0
        → Leaves file int (react_function K) (word_of e ∷ []) s false s
    pub no_event : (s : Store) (moment : Moment) (e : ℕ) → e < 2 ^ 32 → ShowsMoment K moment s → moment.fault ≡ None
        → ¬ IsInputEvent K.names e → e ≢ event_number K.names events.Tick
        → Leaves file int (react_function K) (word_of e ∷ []) s false (with_fault K s refused_number 0)
    pub second_start : (s : Store) (ready fault : ℕ) → HasWord s.fields (ready_field K) ready
        → HasWord s.fields (fault_field K) fault → (ready ≢ 0) ⊎ (fault ≢ 0)
        → Leaves file int (start_function K) [] s false s
