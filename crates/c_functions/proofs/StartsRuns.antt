-- The runs of a file are those of code.
use Rattle.std.proofs.Common.{◌≡◌, ◌≢◌, ◌⊎◌, ◌||◌, ℕ, zero, suc, ◌+◌, ◌*◌, ◌^◌, ◌<◌, ◌≤◌, nat_eq, pos, Bool, not, is_some}
use Rattle.std.proofs.Common.{true, false, cond, List, [], ◌∷◌, length}
use Rattle.std.proofs.Common.{map, Option, Some, None, slice_get, refl, sym, ap, ◌∙◌, subst}
use Rattle.std.proofs.Common.{arith, length-append, replicate, inl, inr}
use Rattle.std.specs.Prelude.{slice_index}
use Rattle.std.proofs.lemmas.Bool.Decides.{nat_tests}
use Rattle.std.specs.List.{AllByRecursion, range_with_len}
use Rattle.std.proofs.lemmas.List.{length-replicate}
use Rattle.flow_base.specs.declared.bounds.Bounds.{Bounds}
use Rattle.flow_base.specs.declared.fault.Fault.{Fault}
use Rattle.active_config.specs.Marks.{Configuration}
use Rattle.actions.specs.declared.event.Event.TheVariants as events
use Rattle.actions.specs.declared.expr.Value.{Value}
use Rattle.actions.specs.declared.names.Sort.{Sort}
use Rattle.actions.specs.Data.{Datum, datum, with_mantissa, mantissa_in}
use Rattle.actions.specs.Engines.{IsInputEvent}
use Rattle.actions.specs.Runs.{Moment, EventWithInputs, AreInputValues, AreSet, CanBeGiven, ReactsWithInputs}
use Rattle.actions.specs.Runs.{UnlessFaulted, GoesOn}
use Rattle.actions.specs.World.{World, Fits, Declaration, begun, world_before}
use Rattle.actions.specs.Work.{Now, from_outside}
use Rattle.actions.proofs.InputLemmas.{input_value, IsInputSet-fits}
use Rattle.actions.proofs.StoredLemmas.{stored, mantissa_there}
use Rattle.code_language.specs.Code.{Code}
use Rattle.code_language.specs.Machine.{CodeState, Next, Goes, Stops, Over, and_then, step, run}
use Rattle.code_language.specs.Reactions.{first_frame, program_of, react_machine, Starts, Reacts}
use Rattle.code_language.specs.Reactions.{CodeRun, Leads}
use Rattle.code_language.specs.WellFormed.{IsCode, known_of}
use Rattle.code_language.specs.Ahead.{IsOver}
use Rattle.code_language.specs.Measures.{greatest, works}
use Rattle.code_language.proofs.Endings.{one_end}
use Rattle.code_language.specs.Left.{most_instructions}
use Rattle.code_language.specs.Moments.{HasStateNames, IsWorld, IsMoment, StaysSound}
use Rattle.code_language.proofs.EventLemmas.{run_ends, reaction_ends}
use Rattle.code_language.proofs.LeftLemmas.{start_left}
use Rattle.code_language.proofs.Numbers.{are_works}
use Rattle.code_language.proofs.Sound.{code_parts}
use Rattle.code_language.proofs.MomentLemmas.{step_sound}
use Rattle.code_language.proofs.StartLemmas.{can_react, start_moment, reaction_moment}
use Rattle.c_subset.specs.Trees.{Function, File, Block}
use Rattle.c_subset.specs.declared.trees.Width.{Width}
use Rattle.c_subset.specs.declared.trees.Width.TheVariants.{W32}
use Rattle.c_subset.specs.declared.trees.CType.{CType}
use Rattle.c_subset.specs.declared.trees.CType.TheVariants.{Truth}
use Rattle.c_subset.specs.Trees.{Store as PutField}
use Rattle.c_subset.specs.Meaning.{bits, CValue, Object, Store, Locals, one_if}
use Rattle.c_subset.specs.Running.{no_values, object_of, Returns, Calls, with_local, no_locals, with_field}
use Rattle.c_subset.specs.Running.{returned, run as run_c, outcome, call}
use Rattle.c_functions.specs.Claims.{Has, ShowsData, field_of, field_type}
use Rattle.c_functions.proofs.AssigningLemmas.{set-shows}
use Rattle.c_functions.specs.States.{Shows}
use Rattle.c_functions.specs.Statements.{CMemory}
use Rattle.c_functions.specs.Statements as plan
use Rattle.c_functions.specs.Runs.{Stands}
use Rattle.c_functions.specs.Written.{AreWritten}
use Rattle.c_functions.proofs.RunsBegun.{no_fields_show, suc_numbers}
use Rattle.c_functions.specs.Plans.{Shape, Tests, word, number, bad, event_number, declared_at, used_field, outs_field}
use Rattle.c_functions.specs.Plans.{noted_field, ready_field, fault_field, event_local, refused_number, leading}
use Rattle.c_functions.specs.Failing.{AfterIsRight}
use Rattle.c_functions.specs.Plans.{init_function, start_function, react_function}
use Rattle.c_functions.specs.Files.{HasWord, with_fault, ShowsMemory, Represents, shape_of, procedure_c, functions_c}
use Rattle.c_functions.specs.Moments.{HasSmallResults, BeginsWith, ShowsMoment, TellsFault, EndsAsCode, MayEndIn}
use Rattle.c_functions.specs.Inputs.{with_inputs}
use Rattle.c_functions.specs.Starts.{first_values, answer_c, init_c, outside_c, is_begun_c, start_c, clear_used_c}
use Rattle.c_functions.specs.Starts.{clear_counts_c, refuse_c, react_c, file_of, HasShape, first_struct, AreStored}
use Rattle.c_functions.specs.Starts.{event_argument, AllGiven, Leaves, Answers, ReactsOn, RunsOn, Refuses}
use Rattle.c_functions.proofs.LayoutTests.{unsigned}
use Rattle.c_functions.proofs.PlansWords.{number-means, local-means, argument-goes, arguments-end, put-word, none-got}
use Rattle.c_functions.proofs.FilesShown.{used-put, used-untold, out-clear, note-clear, vals-put, ready-put}
use Rattle.c_functions.proofs.PlansEnds.{IsFit}
use Rattle.c_functions.proofs.PlansAssignments.{declared-of, long-of}
use Rattle.c_functions.proofs.FilesFunctions.{get-right, range-length}
use Rattle.c_functions.proofs.FilesCode.{fits, event-small, ends-as-code}
use Rattle.c_functions.proofs.StartsStores.{all-go, first-stay, first-shows, memory_before, outside-goes}
use Rattle.c_functions.proofs.FilesShape.{SameTypes, same-itself, same-on, types-set, shape-same, shape-kept}
use Rattle.c_functions.proofs.StartsRefusals.{leading-small, answer-returns, if-taken, if-passed, begun-has, unready-refused}
use Rattle.c_functions.proofs.StartsRefusals.{unknown-refused, event-taken}
use Rattle.c_functions.proofs.InputsGiven.{before-set}

-- ---- moments

-- a run of well-formed code ends in a world that fits
over-world : (k : Code) (b : Bounds) → IsCode k → (n : ℕ) (m : CodeState) (w : World) (x : Option Fault)
    → IsMoment k b m → run (program_of k b) n m ≡ Over w x → IsWorld k b w
over-world k b is zero m w x h e = absurd cc
over-world k b is (suc n) m w x h e =
    at (step (program_of k b) m) (step_sound k b is m h) e
    (λ m' h' e'. over-world k b is n m' w x h' e')
  where
    at : (o : Next) → StaysSound k b o → and_then o (run (program_of k b) n) ≡ Over w x
        → ((m' : CodeState) → IsMoment k b m' → run (program_of k b) n m' ≡ Over w x → IsWorld k b w) → IsWorld k b w
    at (Goes m') h e more = more m' h e
    at (Stops w' y) h e more =
        let same : w' ≡ w = cc in subst (λ (w : World). IsWorld k b w) same h.0

-- what was returned tells whether there was a fault
tells-same : (o : Option Fault) (r : ℕ) → TellsFault o r → nat_eq r bad ≡ is_some o
tells-same None r lt = grind (arith, nat_tests)
tells-same (Some x) r e = grind (arith, nat_tests)

tells-small : (o : Option Fault) (r : ℕ) → TellsFault o r → r < 2 ^ 32
tells-small None r lt = omega (arith, lt)
tells-small (Some x) r e = omega (arith, e)

-- ---- inputs

-- the struct with stored inputs
record HasStored (K : Shape) (ready : ℕ) (m : CMemory) (v : ℕ) (inputs : List (Option Value)) (w w' : World) (s : Store)
    : Type 0 where
  set : Store
  stored_are : AreStored K.names v inputs s set
  shows : ShowsMemory K 0 0 ready (record m { vals = w'.vals }) set
  types : SameTypes s set
  fits_still : Fits K.tree K.names w'
  marks : w'.marks ≡ w.marks

same-vals : (K : Shape) (ready : ℕ) (m : CMemory) (s : Store) (vals : List Datum) → ShowsMemory K 0 0 ready m s
    → m.vals ≡ vals → ShowsMemory K 0 0 ready (record m { vals = vals }) s
same-vals K ready m s vals h e = record {
  states = h.states;
  vals = subst (λ (vals : List Datum). ShowsData vals s) e h.vals;
  used = h.used;
  outs = h.outs;
  noted = h.noted;
  fault_is = h.fault_is;
  datum_is = h.datum_is;
  ready_is = h.ready_is;
  out = h.out;
  note = h.note;
}

inputs-stored : (K : Shape) (ready : ℕ) (inputs : List (Option Value)) (v : ℕ) (w w' : World) (m : CMemory) (s : Store)
    → Fits K.tree K.names w → AreInputValues K.names v inputs → AreSet v inputs w w' → m.vals ≡ w.vals
    → ShowsMemory K 0 0 ready m s → HasStored K ready m v inputs w w' s
inputs-stored K ready [] v w w' m s fit values sets e h = record {
  set = s;
  stored_are = refl;
  shows = same-vals K ready m s w'.vals h (e ∙ ap (λ (w : World). w.vals) (sym sets));
  types = same-itself s;
  fits_still = subst (λ (w : World). Fits K.tree K.names w) (sym sets) fit;
  marks = ap (λ (w : World). w.marks) sets;
}
inputs-stored K ready (None ∷ inputs) v w w' m s fit values sets e h =
    let r = inputs-stored K ready inputs (v + 1) w w' m s fit values sets e h in record {
      set = r.set;
      stored_are = r.stored_are;
      shows = r.shows;
      types = r.types;
      fits_still = r.fits_still;
      marks = r.marks;
    }
inputs-stored K ready (Some value ∷ inputs) v w w' m s fit values sets e h =
    let between = sets.0 in
    let here = input_value K.tree K.names w v value fit values.0 in
    let z = mantissa_there (datum w.vals v).sort value here.1 in
    let vals : sets.1.0 ≡ with_mantissa w.vals v z.0 =
    let e = sym sets.1.1 ∙ stored w.vals v value z.0 z.1 in cc in
    let sort : (datum w.vals v).sort ≡ (declared_at K.names v).sort =
    ap (λ (d : Declaration). d.sort) (declared-of w.vals K.names v fit.declared here.0) in
    let a : CValue = record { type = field_type (declared_at K.names v).sort; value = z.0 } in
    let long = long-of w.vals K.names fit.declared in
    let shown : ShowsData w.vals s = subst (λ (vals : List Datum). ShowsData vals s) e h.vals in
    let show : ShowsData (with_mantissa w.vals v z.0) (with_field s v a) =
    subst (λ (so : Sort). ShowsData (with_mantissa w.vals v z.0) (with_field s v
    (record { type = field_type so; value = z.0 })))
    sort (set-shows w.vals s.fields v (record (datum w.vals v) { mantissa = z.0 }) shown here.0) in
    let next = record m { vals = with_mantissa w.vals v z.0 } in
    let shows = vals-put K 0 0 ready m s h (with_mantissa w.vals v z.0) v a (omega (arith, here.0, long)) show in
    let types : SameTypes s (with_field s v a) = record {
      fields = types-set s.fields v (object_of a) (field_of (datum w.vals v)) (shown v here.0) (ap field_type (sym sort));
      rows = refl;
    } in
    let fit' = IsInputSet-fits K.tree K.names w between v value fit values.0 sets.1 in
    let r = inputs-stored K ready inputs (v + 1) between w' next (with_field s v a) fit' values.1 sets.2
    (sym vals ∙ ap (λ (w : World). w.vals) (sym sets.1.2)) shows in
    record {
      set = r.set;
      stored_are = (z.0, ap (λ (so : Sort). mantissa_in so value) (sym sort) ∙ z.1, r.stored_are);
      shows = r.shows;
      types = same-on s (with_field s v a) r.set types r.types;
      fits_still = r.fits_still;
      marks = r.marks ∙ ap (λ (w : World). w.marks) sets.1.2;
    }

-- fields with the first values have their types
first-types : (xs : List CValue)
    → map (λ (o : Object). o.type) (map object_of xs) ≡ map (λ (x : CValue). x.type) xs
first-types [] = refl
first-types (x ∷ xs) = ap (λ (ts : List CType). x.type ∷ ts) (first-types xs)

first-shape : (K : Shape) (s : Store) → HasShape K s → HasShape K (first_struct K s)
first-shape K s h = record { fields = first-types (first_values K); out = h.out; note = h.note }

-- no step is used yet, and the struct says so where steps are counted
cleared-goes : (K : Shape) (int : Width) → bits int ≤ 32 → (calls : Calls) (k : ℕ) (rest : Block) (m : CMemory)
    (s : Store) (l : Locals) → Represents K None m s → length m.vals ≡ length K.names.vars
    → (s' : Store) × (outcome int calls k (clear_used_c K rest) s l ≡ outcome int calls k rest s' l)
    × Represents K None (record m { used = 0 }) s'
cleared-goes K int most calls k rest m s l h long = by K.tests.steps refl
  where
    by : (b : Bool) → K.tests.steps ≡ b
        → (s' : Store)
        × (outcome int calls k (cond b (PutField (used_field K) (number 0) rest) rest) s l
        ≡ outcome int calls k rest s' l)
        × Represents K None (record m { used = 0 }) s'
    by true on = (
      with_field s (used_field K) (unsigned W32 0),
      put-word int most calls k rest s l (used_field K) _ 0 (number 0) (h.used on) (omega arith)
          (number-means int most s l 0 (omega arith)),
      used-put K None m s h long 0 (omega arith),
    )
    by false off = (s, refl, used-untold K None m s h long 0 off)

-- ---- the file of code

module _ (k : Code) (T : Tests) (b : Bounds) (room : ℕ) (bodies : ℕ → plan.Block) where
  abbrev K : Shape
  K = shape_of k T b room

  abbrev file : File
  file = file_of k T b room bodies

  -- the functions that are called from outside
  abbrev outside : List Function
  outside = init_c K ∷ start_c K k.procedures.start ∷ react_c K k.procedures.react ∷ []

  begins : BeginsWith file (functions_c K bodies)
  begins = record { later = outside; is = refl }

  count : length (functions_c K bodies) ≡ length k.procedures.procs + 8
  unfolding functions_c
  count =
      length-append (map (λ q. procedure_c K (bodies q)) (range_with_len 0 (length k.procedures.procs))) _
      ∙ ap (λ (n : ℕ). n + 8) (range-length (λ q. procedure_c K (bodies q)) 0 (length k.procedures.procs))

  outside-there : (i : ℕ) (f : Function) → slice_get outside i ≡ Some f
      → slice_get file.functions (length k.procedures.procs + 8 + i) ≡ Some f
  outside-there i f there = get-right (functions_c K bodies) outside (length k.procedures.procs + 8) i count ∙ there

  init-there : slice_get file.functions (init_function K) ≡ Some (init_c K)
  init-there =
      let e : length k.procedures.procs + 8 ≡ length k.procedures.procs + 8 + 0 = omega arith in
      ap (λ (i : ℕ). slice_get file.functions i) e ∙ outside-there 0 (init_c K) refl

  start-there : slice_get file.functions (start_function K) ≡ Some (start_c K k.procedures.start)
  start-there =
      let e : length k.procedures.procs + 9 ≡ length k.procedures.procs + 8 + 1 = omega arith in
      ap (λ (i : ℕ). slice_get file.functions i) e ∙ outside-there 1 (start_c K k.procedures.start) refl

  react-there : slice_get file.functions (react_function K) ≡ Some (react_c K k.procedures.react)
  react-there =
      let e : length k.procedures.procs + 10 ≡ length k.procedures.procs + 8 + 2 = omega arith in
      ap (λ (i : ℕ). slice_get file.functions i) e ∙ outside-there 2 (react_c K k.procedures.react) refl

  module _ (int : Width) (is : IsCode k) (most : bits int ≤ 32) where
    few : length k.names.events < 2 ^ 16
    few = let limit = is.table.events in omega (arith, limit)

    -- ---- the first values

    init-leaves : (s : Store) → HasShape K s → Leaves file int (init_function K) [] s true (first_struct K s)
    unfolding call
    init-leaves s shape = record {
      fuel = 1;
      gives =
          ap (λ (o : Option Function). run_c int (call file int 0) 0 o [] s) init-there
          ∙ arguments-end 0 no_locals (λ l. returned Truth (outcome int (call file int 0) 0 (init_c K).body s l))
          ∙ ap (returned Truth)
          (all-go int (call file int 0) 0 (answer_c true) s.rows no_locals (first_values K) [] s.fields shape.fields
          (first-stay K is.table.inits)
          ∙ answer-returns int (call file int 0) 0 true (first_struct K s) no_locals);
    }

    -- ---- refusals

    -- a call that is refused returns false, and calls no function
    abbrev RefusedAtOnce : ℕ → List CValue → Store → Store → Type 0
    RefusedAtOnce f args s t = call file int 1 f args s ≡ Returns t (record { type = Truth; value = one_if false })

    -- a call of a reaction that is refused
    react-refused : (s t : Store) (e : ℕ) → e < 2 ^ 32
        → outcome int (call file int 0) 0 (refuse_c K (clear_counts_c K (outside_c k.procedures.react event_local))) s
        (with_local no_locals word 0 (pos e)) ≡ Returns t (record { type = Truth; value = pos 0 })
        → RefusedAtOnce (react_function K) (unsigned W32 e ∷ []) s t
    unfolding call
    react-refused s t e small goes =
        let calls = call file int 0 in
        let body = (react_c K k.procedures.react).body in
        let l : Locals = with_local no_locals word 0 (pos e) in
        ap (λ (o : Option Function). run_c int calls 0 o (unsigned W32 e ∷ []) s) react-there
        ∙ argument-goes [] e [] 0 no_locals (λ l. returned Truth (outcome int calls 0 body s l)) small
        ∙ arguments-end 1 l (λ l. returned Truth (outcome int calls 0 body s l))
        ∙ ap (returned Truth) goes

    -- a reaction where no run goes on, and one to a number that is no event
    pub not-running-refused : (s : Store) (e : ℕ) → e < 2 ^ 32 → HasWord s.fields (ready_field K) 0
        → RefusedAtOnce (react_function K) (unsigned W32 e ∷ []) s s
    not-running-refused s e small ready =
        react-refused s s e small (unready-refused K int most few (call file int 0) 0 s _ e small refl _ ready)

    pub no-event-refused : (s : Store) (moment : Moment) (e : ℕ) → e < 2 ^ 32 → ShowsMoment K moment s
        → moment.fault ≡ None → ¬ IsInputEvent K.names e → e ≢ event_number K.names events.Tick
        → RefusedAtOnce (react_function K) (unsigned W32 e ∷ []) s (with_fault K s refused_number 0)
    no-event-refused s moment e small shows none no_input no_tick =
        let shown : Represents K None shows.memory s =
        subst (λ (x : Option Fault). Represents K x shows.memory s) none shows.represents in
        react-refused s (with_fault K s refused_number 0) e small
        (unknown-refused K int most few (call file int 0) 0 s _ e small refl _ _ _ shown.fault_is shown.datum_is
        shown.ready_is no_input no_tick)

    -- a start that is refused
    pub start-refused : (s : Store) (ready fault : ℕ) → HasWord s.fields (ready_field K) ready
        → HasWord s.fields (fault_field K) fault → (ready ≢ 0) ⊎ (fault ≢ 0)
        → RefusedAtOnce (start_function K) [] s s
    unfolding call
    start-refused s ready fault hr hf some =
        let calls = call file int 0 in
        let body = (start_c K k.procedures.start).body in
        let has : Has int s no_locals (is_begun_c K) (one_if true) =
        subst (λ (b : Bool). Has int s no_locals (is_begun_c K) (one_if b))
        (some-set (nat_eq ready 0) (nat_eq fault 0) refl refl some)
        (begun-has int most s no_locals K ready fault hr hf) in
        ap (λ (o : Option Function). run_c int calls 0 o [] s) start-there
        ∙ arguments-end 0 no_locals (λ l. returned Truth (outcome int calls 0 body s l))
        ∙ ap (returned Truth)
        (if-taken int most calls 0 _ s no_locals (is_begun_c K) (answer_c false) s _ has
        (answer-returns int calls 0 false s no_locals))
      where
        some-set : (a b : Bool) → nat_eq ready 0 ≡ a → nat_eq fault 0 ≡ b → (ready ≢ 0) ⊎ (fault ≢ 0)
            → (not a || not b) ≡ true
        some-set false b ea eb some = refl
        some-set true false ea eb some = refl
        some-set true true ea eb (inl ne) = absurd (ne (grind (arith, nat_tests)))
        some-set true true ea eb (inr ne) = absurd (ne (grind (arith, nat_tests)))

    pub refuses : Refuses K file int
    refuses = record {
      not_running = λ s e small ready. record { fuel = 1; gives = not-running-refused s e small ready };
      no_event = λ s moment e small shows none no_input no_tick.
          record { fuel = 1; gives = no-event-refused s moment e small shows none no_input no_tick };
      second_start = λ s ready fault hr hf some. record { fuel = 1; gives = start-refused s ready fault hr hf some };
    }

    -- ---- runs

    module _ (named : HasStateNames k) (small : HasSmallResults k) (right : AfterIsRight T k)
        (written : AreWritten k.tree (λ x. suc x) k.procedures bodies) where
      fit : IsFit K int
      fit = fits k T b room int is named most

      -- what is returned, for the moment to which code leads
      told-same : (now : Now) (fuel p : ℕ) (start : CodeState) (s : Store)
          (e : EndsAsCode k T b room file int fuel p now start s) (m : Moment) → e.moment ≡ m
          → Returns e.after (record { type = Truth; value = one_if (not (nat_eq e.result bad)) })
          ≡ Returns e.after (record { type = Truth; value = one_if (not (is_some m.fault)) })
      told-same now fuel p start s e m same =
          ap (λ (c : Bool). Returns e.after (record { type = Truth; value = one_if (not c) }))
          (tells-same e.moment.fault e.result e.tells ∙ ap (λ (m : Moment). is_some m.fault) same)

      -- where a run leads to a moment it may end so
      only-ends : (start : CodeState) (m : Moment) → Leads (program_of k b) start m → MayEndIn T room m
          → (moment : Moment) → Leads (program_of k b) start moment → MayEndIn T room moment
      only-ends start m leads may moment other =
          subst (λ (m : Moment). MayEndIn T room m) (sym (one_end other leads)) may

      -- a start is over in time, from whatever world
      start-over : (w : World) → w.used ≡ 0
          → IsOver (run (program_of k b) (most_instructions k b) (first_frame k.procedures.start w (from_outside events.Start)))
      start-over w none =
          run_ends k b is (first_frame k.procedures.start w (from_outside events.Start)) (most_instructions k b)
          (start_left (program_of k b) (slice_index (works k.procedures.procs)) (greatest (works k.procedures.procs))
          (are_works (known_of k) k.procedures (code_parts k is).procs) w (from_outside events.Start) 0 k.procedures.start 0
          0 None None none)

      -- the start, after inputs were given
      start-answers : (s : Store) (given : List (Option Value)) (m : Moment) → HasShape K s
          → AreInputValues k.names 0 given
          → Starts (record k { names = with_inputs given k.names }) b m.world m.fault → MayEndIn T room m
          → (set : Store) × AreStored k.names 0 given (first_struct K s) set × (after : Store)
          × Answers K file int (start_function K) [] m set after
          × IsWorld k b m.world
      unfolding call
      start-answers s given m shape values leads may =
          let fuel = most_instructions k b in
          let enough = 2 * fuel + 3 in
          let before = start_moment k b is named in
          let s0 = first_struct K s in
          let m0 = memory_before K in
          let w = world_before k.tree (with_inputs given k.names) in
          let st = inputs-stored K 0 given 0 (world_before k.tree k.names) w m0 s0 before.world.fits values
          (before-set k.tree k.names given values) refl
          (first-shows K s shape.out shape.note) in
          let m1 = record m0 { vals = w.vals } in
          let long = long-of w.vals k.names st.fits_still.declared in
          let s1 = with_field st.set (ready_field K) (unsigned W32 (leading K)) in
          let shows = ready-put K 0 0 0 m1 st.set st.shows long (leading K) (leading-small K few) in
          let stands : Stands k.tree (λ x. suc x) m1 w = record {
            states = no_fields_show k.tree (λ x. suc x) (suc_numbers k.tree);
            consistent = st.fits_still.consistent;
            vals = refl;
            outputs = refl;
            used = refl;
          } in
          let start = first_frame k.procedures.start w (from_outside events.Start) in
          let sound : IsMoment k b start = record {
            world = record { fits = st.fits_still; used = before.world.used; outputs = before.world.outputs };
            event = before.event;
            depth = before.depth;
            frames = before.frames;
          } in
          let ended = ends-as-code k T b room bodies file int fuel k.procedures.start (from_outside events.Start) m1 w s1
          is named small right written begins most sound (only-ends start m leads may) (start-over w refl) stands shows refl
          in
          let same : ended.moment ≡ m = one_end ended.leads leads in
          let calls = call file int enough in
          let e = event_number k.names events.Start in
          let ev : e < 2 ^ 32 = omega (arith, few) in
          let body = (start_c K k.procedures.start).body in
          let call_outside = outside_c k.procedures.start (number e) in
          let gives : call file int (suc enough) (start_function K) [] st.set
          ≡ Returns ended.after (record { type = Truth; value = one_if (not (is_some m.fault)) }) =
          ap (λ (o : Option Function). run_c int calls enough o [] st.set) start-there
          ∙ arguments-end 0 no_locals (λ l. returned Truth (outcome int calls enough body st.set l))
          ∙ ap (returned Truth)
          (if-passed int most calls enough _ st.set no_locals (is_begun_c K) (answer_c false)
          (begun-has int most st.set no_locals K 0 0 st.shows.ready_is st.shows.fault_is)
          ∙ put-word int most calls enough call_outside st.set no_locals (ready_field K) 0 (leading K) (number (leading K))
          st.shows.ready_is (leading-small K few)
          (number-means int most st.set no_locals (leading K) (leading-small K few)))
          ∙ outside-goes K int fit calls enough k.procedures.start e ended.result (number e) s1 ended.after no_locals
          (number-means int most s1 no_locals e ev)
          (tells-small ended.moment.fault ended.result ended.tells) ended.gives
          ∙ told-same (from_outside events.Start) enough k.procedures.start start s1 ended m same in (
            st.set,
            st.stored_are,
            ended.after,
            record {
              leaves = record { fuel = suc enough; gives = gives };
              shape = shape-kept K file int (suc enough) (start_function K) [] st.set ended.after _ gives
                  (shape-same K s0 st.set (first-shape K s shape) st.types);
              shows = subst (λ (m : Moment). ShowsMoment K m ended.after) same ended.shows;
            },
            over-world k b is leads.steps start m.world m.fault sound leads.ends,
          )

      -- a reaction
      react-answers : (m next : Moment) (s : Store) (given : EventWithInputs) (w' : World) → HasShape K s
          → ShowsMoment K m s → m.fault ≡ None → IsWorld k b m.world → CanBeGiven k.names given
          → AreSet 0 given.inputs m.world w' → Reacts k b w' given.event next.world next.fault
          → MayEndIn T room next
          → (set : Store) × AreStored k.names 0 given.inputs s set × (after : Store)
          × Answers K file int (react_function K) (event_argument k.names given.event) next set after
          × IsWorld k b next.world
      unfolding call
      react-answers m next s given w' shape shows none world can sets leads may =
          let fuel = most_instructions k b in
          let enough = 2 * fuel + 3 in
          let mem = shows.memory in
          let shown : Represents K None mem s =
          subst (λ (x : Option Fault). Represents K x mem s) none shows.represents in
          let st = inputs-stored
          K (leading K) given.inputs 0 m.world w' mem s world.fits can.inputs sets shows.stands.vals shown in
          let m1 = record mem { vals = w'.vals } in
          let long = long-of w'.vals k.names st.fits_still.declared in
          let m2 = record m1 { used = 0 } in
          let calls = call file int enough in
          let l : Locals = with_local no_locals word 0 (pos (event_number k.names given.event)) in
          let body = outside_c k.procedures.react event_local in
          let first = cleared-goes K int most calls enough
          (PutField (outs_field K) (number 0) (PutField (noted_field K) (number 0) body)) m1 st.set l st.shows long in
          let s1 = first.0 in
          let h1 = first.2 in
          let s2 = with_field s1 (outs_field K) (unsigned W32 0) in
          let h2 = out-clear K None m2 s1 h1 long in
          let m3 = record m2 { outputs = [] } in
          let s3 = with_field s2 (noted_field K) (unsigned W32 0) in
          let h3 = note-clear K None m3 s2 h2 long in
          let m4 = record m3 { notes = [] } in
          let stands : Stands k.tree (λ x. suc x) m4 (begun w') = record {
            states = subst (λ (c : Configuration). Shows k.tree (λ x. suc x) mem.states c)
                (sym st.marks) shows.stands.states;
            consistent = st.fits_still.consistent;
            vals = refl;
            outputs = refl;
            used = refl;
          } in
          let event = can_react k.names given.event can.event in
          let sound = reaction_moment k b is w' given.event st.fits_still event in
          let ended = ends-as-code k T b room bodies file int fuel k.procedures.react
          (from_outside given.event) m4 (begun w') s3 is named small right written begins most sound
          (only-ends (react_machine k w' given.event) next leads may) (reaction_ends k b is w' given.event) stands h3 refl
          in
          let same : ended.moment ≡ next = one_end ended.leads leads in
          let e = event_number k.names given.event in
          let below = event-small k given.event event fit.events in
          let ev : e < 2 ^ 32 = omega (arith, below) in
          let whole = (react_c K k.procedures.react).body in
          let gives : call file int (suc enough) (react_function K) (unsigned W32 e ∷ []) st.set
          ≡ Returns ended.after (record { type = Truth; value = one_if (not (is_some next.fault)) }) =
          ap (λ (o : Option Function). run_c int calls enough o (unsigned W32 e ∷ []) st.set) react-there
          ∙ argument-goes [] e [] 0 no_locals (λ l. returned Truth (outcome int calls enough whole st.set l)) ev
          ∙ arguments-end 1 l (λ l. returned Truth (outcome int calls enough whole st.set l))
          ∙ ap (returned Truth)
          (event-taken K int most few calls enough st.set l e ev refl (clear_counts_c K body) given.event refl can.event
          st.shows.ready_is
          ∙ first.1
          ∙ put-word int most calls enough (PutField (noted_field K) (number 0) body) s1 l
          (outs_field K) _ 0 (number 0) h1.outs (omega arith) (number-means int most s1 l 0
          (omega arith))
          ∙ put-word int most calls enough body s2 l (noted_field K) _ 0 (number 0) h2.noted
          (omega arith) (number-means int most s2 l 0 (omega arith)))
          ∙ outside-goes K int fit calls enough k.procedures.react e ended.result event_local s3
          ended.after l (local-means int most s3 l 0 e refl)
          (tells-small ended.moment.fault ended.result ended.tells) ended.gives
          ∙ told-same (from_outside given.event) enough k.procedures.react
          (react_machine k w' given.event) s3
          ended next same in (
            st.set,
            st.stored_are,
            ended.after,
            record {
              leaves = record { fuel = suc enough; gives = gives };
              shape = shape-kept K file int (suc enough) (react_function K) (unsigned W32 e ∷ []) st.set ended.after _ gives
                  (shape-same K s st.set shape st.types);
              shows = subst (λ (m : Moment). ShowsMoment K m ended.after) same ended.shows;
            },
            over-world k b is leads.steps (react_machine k w' given.event) next.world next.fault sound leads.ends,
          )

      reacts-on : (events : List EventWithInputs) (m : Moment) (s : Store) (moments : List Moment) → HasShape K s
          → ShowsMoment K m s → IsWorld k b m.world → AllGiven k.names events
          → GoesOn (Reacts k b) m events moments → AllByRecursion (MayEndIn T room) moments
          → ReactsOn K file int m s events moments
      reacts-on [] m s moments shape shows world all goes may = goes
      reacts-on (given ∷ events) m s moments shape shows world all goes may =
          by m.fault refl goes
          (λ next after later shape' shows' world' goes' may'. reacts-on events next after later shape' shows' world' all.1
          goes' may')
        where
          by : (f : Option Fault) → m.fault ≡ f
              → UnlessFaulted f moments ((next : Moment) × (later : List Moment) × (moments ≡ next ∷ later)
              × ReactsWithInputs (Reacts k b) m.world given next.world next.fault × GoesOn (Reacts k b) next events later)
              → ((next : Moment) (after : Store) (later : List Moment) → HasShape K after → ShowsMoment K next after
              → IsWorld k b next.world → GoesOn (Reacts k b) next events later
              → AllByRecursion (MayEndIn T room) later
              → ReactsOn K file int next after events later)
              → UnlessFaulted f moments ((next : Moment) × (later : List Moment) × (moments ≡ next ∷ later)
              × (set : Store) × AreStored k.names 0 given.inputs s set × (after : Store)
              × Answers K file int (react_function K) (event_argument k.names given.event) next set after
              × ReactsOn K file int next after events later)
          by (Some x) none run more = run
          by None none run more =
              let ends : AllByRecursion (MayEndIn T room) (run.0 ∷ run.1) =
              subst (λ (ms : List Moment). AllByRecursion (MayEndIn T room) ms) run.2 may in
              let r = react-answers m run.0 s given run.3.0 shape shows none world all.0 run.3.1 run.3.2 ends.0 in
              (run.0, run.1, run.2, r.0, r.1, r.2, r.3, more run.0 r.2 run.1 r.3.shape r.3.shows r.4 run.4 ends.1)

      -- the run of the file from a struct of its type shows what the run of code gives
      pub runs-on : (s : Store) (given : List (Option Value)) (events : List EventWithInputs) (moments : List Moment)
          → HasShape K s → AreInputValues k.names 0 given → AllGiven k.names events
          → CodeRun (record k { names = with_inputs given k.names }) b events moments
          → AllByRecursion (MayEndIn T room) moments
          → RunsOn K file int s given events moments
      runs-on s given events [] shape values all code may = absurd code
      runs-on s given events (m ∷ moments) shape values all code may =
          let r = start-answers s given m shape values code.0 may.0 in (
            init-leaves s shape,
            r.0,
            r.1,
            r.2,
            r.3,
            reacts-on events m r.2 moments r.3.shape r.3.shows r.4 all code.1 may.1,
          )

-- ---- a struct without values

abbrev type_in : Option Object → CType
type_in (Some o) = o.type
type_in None = word

typed-unset : (n i : ℕ) (o : Object) → slice_get (replicate n (record { type = word; value = None })) i ≡ Some o
    → o.type ≡ word
typed-unset zero zero o e = absurd cc
typed-unset zero (suc i) o e = absurd cc
typed-unset (suc n) zero o e = ap type_in (sym e)
typed-unset (suc n) (suc i) o e = typed-unset n i o e

types-unset : (ts : List CType)
    → map (λ (o : Object). o.type) (map (λ (t : CType). record { type = t; value = None }) ts) ≡ ts
types-unset [] = refl
types-unset (t ∷ ts) = ap (λ (l : List CType). t ∷ l) (types-unset ts)

-- has the shape of the file
pub unset-shape : (k : Code) (T : Tests) (b : Bounds) (room : ℕ) (bodies : ℕ → plan.Block)
    → HasShape (shape_of k T b room) (no_values (file_of k T b room bodies))
unset-shape k T b room bodies = record {
  fields = types-unset (map (λ (x : CValue). x.type) (first_values (shape_of k T b room)));
  out = record {
    row = replicate room (record { type = word; value = None });
    there = refl;
    sized = length-replicate room (record { type = word; value = None });
    typed = typed-unset room;
    shown = λ i x e. absurd (none-got i x e);
  };
  note = record {
    row = replicate (shape_of k T b room).notes (record { type = word; value = None });
    there = refl;
    sized = length-replicate (shape_of k T b room).notes (record { type = word; value = None });
    typed = typed-unset (shape_of k T b room).notes;
    shown = λ i x e. absurd (none-got i x e);
  };
}
