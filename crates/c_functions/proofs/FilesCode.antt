-- The functions of a file of well-formed code end as code does.
use Rattle.std.proofs.Common.{◌≡◌, ℕ, zero, suc, ◌+◌, ◌*◌, ◌^◌, ◌<◌, ◌≤◌, nat_lt, Bool, true, false, not}
use Rattle.std.proofs.Common.{◌||◌}
use Rattle.std.proofs.Common.{List, [], ◌∷◌, length, Option, Some, None, slice_get, slice_index_or, refl, sym, ap, ◌∙◌}
use Rattle.std.proofs.Common.{subst, arith}
use Rattle.std.specs.Prelude.{slice_index}
use Rattle.std.specs.List.{list_any}
use Rattle.flow_base.specs.declared.fault.Fault.{Fault}
use Rattle.std.proofs.lemmas.Bool.Decides.{nat_tests}
use Rattle.flow_base.specs.declared.bounds.Bounds.{Bounds}
use Rattle.flow_base.specs.declared.bounds.TheConstants.{STEP_LIMIT, DEPTH_LIMIT}
use Rattle.flow_base.specs.declared.chart_limits.TheConstants.{STATE_LIMIT, VARIABLE_LIMIT, EVENT_LIMIT}
use Rattle.active_config.specs.Tree.{state_count}
use Rattle.active_config.proofs.PathLemmas.{parent_lt}
use Rattle.actions.specs.declared.event.Event.{Event}
use Rattle.actions.specs.declared.event.Event.TheVariants as events
use Rattle.actions.specs.Data.{HaveTheirSorts}
use Rattle.actions.specs.Runs.{Moment}
use Rattle.actions.specs.World.{World, of_data}
use Rattle.actions.specs.Work.{Now}
use Rattle.code_language.specs.declared.limits.TheConstants.{PROC_LIMIT, INSTR_LIMIT, HEIGHT_LIMIT}
use Rattle.code_language.specs.declared.fault.CodeFault.{CodeFault}
use Rattle.code_language.specs.declared.fault.CodeKind.{CodeKind}
use Rattle.code_language.specs.declared.fault.CodeKind.TheVariants as code_kinds
use Rattle.code_language.specs.Code.{Code, instructions, fetch}
use Rattle.code_language.specs.Instrs.{Instr}
use Rattle.code_language.specs.Machine.{CodeState, run}
use Rattle.code_language.specs.Measures.{greatest, heights}
use Rattle.code_language.specs.Reactions.{first_frame, program_of, Leads}
use Rattle.code_language.specs.Sound.{AreSound}
use Rattle.code_language.specs.WellFormed.{IsCode, Known, known_of, first_of, unless, first_over, later_fault}
use Rattle.code_language.specs.WellFormed.{starts_known}
use Rattle.code_language.specs.WellFormed.{procs_fault, instr_known, instr_typed, instr_keeps}
use Rattle.code_language.specs.Ahead.{IsOver}
use Rattle.code_language.specs.Moments.{HasStateNames, IsEvent, IsWorld, IsMoment}
use Rattle.code_language.proofs.Numbers.{are_heights}
use Rattle.code_language.proofs.Sound.{code_parts, proc_there, proc_at}
use Rattle.c_subset.specs.Trees.{File}
use Rattle.c_subset.specs.declared.trees.Width.{Width}
use Rattle.c_subset.specs.Meaning.{bits, Store}
use Rattle.c_subset.specs.Running.{Outcome, call}
use Rattle.c_functions.specs.Statements.{CMemory, Out, Fell, Left, Failed, Starved, Wrong}
use Rattle.c_functions.specs.Statements as plan
use Rattle.c_functions.specs.Meaning.{call_fn}
use Rattle.c_functions.specs.Runs.{Stands}
use Rattle.c_functions.specs.Runs as runs
use Rattle.c_functions.specs.Written.{AreWritten}
use Rattle.c_functions.proofs.RunsArithmetic.{own_agrees}
use Rattle.c_functions.proofs.RunsEnds.{called_outside}
use Rattle.c_functions.proofs.RunsLasting.{ends_as_code}
use Rattle.c_functions.proofs.RunsBegun.{suc_numbers}
use Rattle.c_functions.specs.Plans.{Tests, event_number, bad}
use Rattle.c_functions.specs.Failing.{AfterIsRight}
use Rattle.c_functions.specs.Notes.{noted_in}
use Rattle.c_functions.specs.Files.{Represents, note_room, shape_of, functions_c}
use Rattle.c_functions.specs.Moments.{HasSmallResults, BeginsWith, TellsFault, EndsAsCode, MayEnd, MayEndIn}
use Rattle.c_functions.proofs.PlansEnds.{IsFit, HasRoomFor, IsFine, EndsCall, program_c}
use Rattle.c_functions.proofs.PlansAssignments.{long-of}
use Rattle.c_functions.proofs.PlansCalls.{more-room}
use Rattle.c_functions.proofs.PlansBranches.{five}
use Rattle.c_functions.proofs.NotesLemmas.{IsIn, noted-below, noted-there}
use Rattle.c_functions.proofs.PlansSimulation.{AreGood}
use Rattle.c_functions.proofs.FilesFunctions.{follow}

-- ---- heights

first-none : (a b : Option CodeFault) → first_of a b ≡ None → (a ≡ None) × (b ≡ None)
first-none None b e = (refl, e)
first-none (Some f) b e = absurd cc

not-over : (limit n : ℕ) (kind : CodeKind) (p : ℕ) → unless (not (nat_lt limit n)) kind p 0 ≡ None → n ≤ limit
not-over limit n kind p e = at (nat_lt limit n) refl e
  where
    at : (b : Bool) → nat_lt limit n ≡ b → unless (not b) kind p 0 ≡ None → n ≤ limit
    at true is e = absurd cc
    at false is e = grind (arith, nat_tests)

low-heights : (limit : ℕ) (kind : CodeKind) (p : ℕ) (ns : List ℕ) → first_over limit kind p ns ≡ None
    → greatest ns ≤ limit
unfolding first_over
low-heights limit kind p [] e = omega arith
low-heights limit kind p (n ∷ ns) e =
    let h = first-none (unless (not (nat_lt limit n)) kind p 0) (first_over limit kind (p + 1) ns) e in
    let one = not-over limit n kind p h.0 in
    let more = low-heights limit kind (p + 1) ns h.1 in
    omega (arith, one, more)

code-low : (k : Code) → IsCode k → greatest (heights k.procedures.procs) ≤ HEIGHT_LIMIT
unfolding later_fault
code-low k is =
    let a = first-none (unless (starts_known k.procedures) code_kinds.BadNumber 0 0) _ is.sound in
    let b = first-none (procs_fault (known_of k) 0 k.procedures.procs) _ a.1 in
    let c = first-none (first_over HEIGHT_LIMIT code_kinds.TooHigh 0 (heights k.procedures.procs)) _ b.1 in
    low-heights HEIGHT_LIMIT code_kinds.TooHigh 0 (heights k.procedures.procs) c.0

few-procs : (k : Code) → IsCode k → length k.procedures.procs ≤ PROC_LIMIT
few-procs k is = at (nat_lt PROC_LIMIT (length k.procedures.procs)) refl is.few
  where
    at : (b : Bool) → nat_lt PROC_LIMIT (length k.procedures.procs) ≡ b
        → (b || list_any (λ (is : List Instr). nat_lt INSTR_LIMIT (length is)) k.procedures.procs) ≡ false
        → length k.procedures.procs ≤ PROC_LIMIT
    at true is e = absurd cc
    at false is e = grind (arith, nat_tests)

-- ---- what the shape of code is

frames-are : (n most : ℕ) → (n + 1) * (most + 1) ≡ suc n * suc most
frames-are n most =
    let a : n + 1 ≡ suc n = omega arith in
    let b : most + 1 ≡ suc most = omega arith in
    ap (λ (x : ℕ). x * (most + 1)) a ∙ ap (λ (x : ℕ). suc n * x) b

-- where something is noted note[] has room for an event and for each of its steps
noted-room : (noted : List ℕ) (q most steps : ℕ) → IsIn noted q → suc steps * suc most ≤ note_room noted most steps
noted-room [] q most steps is = absurd cc
noted-room (x ∷ noted) q most steps is = let same = frames-are steps most in omega (arith, same)

-- so it has room for the calls of code
room-for : (k : Code) (T : Tests) (b : Bounds) (room : ℕ) → IsCode k
    → HasRoomFor (shape_of k T b room) (greatest (heights k.procedures.procs))
room-for k T b room is =
    let most = greatest (heights k.procedures.procs) in
    let low = code-low k is in
    let limit : HEIGHT_LIMIT ≡ 200 = refl in
    let s : STEP_LIMIT ≡ 50000 = refl in
    let steps : b.steps ≤ 50000 = omega (arith, b.steps_limit, s) in
    let high : most ≤ 200 = omega (arith, low, limit) in
    let more : suc b.steps * suc most ≤ suc 50000 * suc most = more-room b.steps 50000 most steps in
    record {
      enough = λ q is. noted-room (noted_in k.procedures.procs) q most b.steps is;
      few = omega (arith, more, high);
    }

pub fits : (k : Code) (T : Tests) (b : Bounds) (room : ℕ) (int : Width) → IsCode k → HasStateNames k
    → bits int ≤ 32 → IsFit (shape_of k T b room) int
fits k T b room int is named most =
    let states = is.table.states in
    let vars = is.table.vars in
    let events = is.table.events in
    let procs = few-procs k is in
    let a : STATE_LIMIT ≡ 1024 = refl in
    let v : VARIABLE_LIMIT ≡ 1024 = refl in
    let e : EVENT_LIMIT ≡ 1024 = refl in
    let p : PROC_LIMIT ≡ 262144 = refl in
    let s : STEP_LIMIT ≡ 50000 = refl in
    let d : DEPTH_LIMIT ≡ 32 = refl in
    let steps : b.steps ≤ 50000 = omega (arith, b.steps_limit, s) in
    record {
      most = most;
      numbers = λ x lt. omega (arith, lt, states, a);
      states = omega (arith, states, a);
      root = is.table.tree.some;
      named = named;
      vars = omega (arith, vars, v);
      events = omega (arith, events, e);
      procs = omega (arith, procs, p);
      noted = λ q is. noted-below k.procedures.procs q is;
      steps = omega (arith, steps);
      depth = omega (arith, b.depth_limit, d);
    }

-- each instruction of a sound procedure
sound-got : (K : Known) (p behind : ℕ) (xs : List Instr) (j : ℕ) (x : Instr) → AreSound K p behind xs
    → slice_get xs j ≡ Some x
    → (instr_known K x ≡ true) × (instr_typed K x ≡ true) × (instr_keeps K x ≡ true)
sound-got K p behind [] j x h e = absurd cc
sound-got K p behind (y ∷ xs) zero x h e =
    let same : y ≡ x = cc in
    subst (λ (z : Instr). (instr_known K z ≡ true) × (instr_typed K z ≡ true) × (instr_keeps K z ≡ true)) same
    (h.0.known, h.0.typed, h.0.keeps)
sound-got K p behind (y ∷ xs) (suc j) x h e = sound-got K p behind xs j x h.1 e

module _ (k : Code) (T : Tests) (b : Bounds) (room : ℕ) (is : IsCode k) (small : HasSmallResults k)
    (right : AfterIsRight T k) where
  are-good : (q : ℕ) → q < length k.procedures.procs
      → AreGood (shape_of k T b room) k.procedures.react (T.after q) (slice_index (heights k.procedures.procs))
      (slice_index (heights k.procedures.procs) q)
      (instructions k.procedures q)
  unfolding instructions fetch
  are-good q lt j x e =
      let parts = code_parts k is in
      let proc = proc_at (known_of k) k.procedures.procs 0 q (slice_index_or k.procedures.procs q []) parts.procs
      (proc_there k.procedures.procs q lt) in
      let sound = sound-got (known_of k) (0 + q) 0 (slice_index_or k.procedures.procs q []) j x proc.sound e in
      let high = are_heights (known_of k) k.procedures parts.procs in
      record {
        known = sound.0;
        typed = sound.1;
        keeps = sound.2;
        lower = λ p tag same. high.calls q j p tag (e ∙ ap (λ (x : Instr). Some x) same);
        noted = λ c has. noted-there (known_of k) k.procedures.procs q j c x refl lt e sound.0 has;
        returned = λ r same. small.returned q j r (e ∙ ap (λ (x : Instr). Some x) same);
        compared = λ z r same. small.tested q j z r (e ∙ ap (λ (x : Instr). Some x) same);
        fails = λ can. right.tested q j x e can;
      }

-- ---- memory of a moment

none-got : (xs : List ℕ) (j q : ℕ) → xs ≡ [] → slice_get xs j ≡ Some q → ⊥
none-got [] zero q e h = absurd cc
none-got [] (suc j) q e h = absurd cc
none-got (x ∷ xs) j q e h = absurd cc

fine-of : (k : Code) (T : Tests) (b : Bounds) (room : ℕ) (m : CMemory) (w : World) → IsWorld k b w
    → Stands k.tree (λ x. suc x) m w → m.notes ≡ []
    → IsFine (shape_of k T b room) m
fine-of k T b room m w world st notes =
    let declared = ap of_data st.vals ∙ world.fits.declared in
    let o = ap length st.outputs in
    let u = st.used in
    record {
      chosen = st.states.chosen_length;
      flags = st.states.flags_length;
      kept = st.states.kept_length;
      sorts = subst HaveTheirSorts (sym st.vals) world.fits.sorts;
      declared = declared;
      long = long-of m.vals k.names declared;
      outputs = omega (arith, o, u, world.outputs);
      used = omega (arith, u, world.used);
      noted = λ j q e. absurd (none-got m.notes j q notes e);
    }

pub event-small : (k : Code) (event : Event) → IsEvent k.names event → length k.names.events < 2 ^ 16
    → event_number k.names event < 2 ^ 17
event-small k events.Start is few = omega (arith, few)
event-small k events.Tick is few = omega (arith, few)
event-small k (events.Named e) is few = omega (arith, few, is)

-- ---- a call from outside

module _ (k : Code) (T : Tests) (b : Bounds) (room : ℕ) (file : File) (int : Width) (fuel p : ℕ) (now : Now)
    (start : CodeState) (s : Store) (c0 u0 : ℕ) (f0 : Bool)
    (ends : (moment : Moment) → Leads (program_of k b) start moment → MayEndIn T room moment) where
  -- the plan ends as code, and C as the plan
  joined : (o : Out) (o' : Outcome) → runs.EndsAsCode (program_of k b) (λ x. suc x) start o
      → EndsCall (shape_of k T b room) c0 u0 f0 o o'
      → call file int fuel p (five (event_number k.names now.event) now.depth 0 0 0) s ≡ o'
      → EndsAsCode k T b room file int fuel p now start s
  joined (Fell m l) o' code c e = absurd code
  joined (Left m r) o' code c e =
      let few = (ends code.moment code.leads).outputs in
      let same = ap length code.ends.stands.outputs in
      let f = c (omega (arith, few, same)) in
      record {
        moment = code.moment;
        leads = code.leads;
        after = f.0;
        result = r;
        gives = e ∙ f.1;
        shows = record {
          memory = m;
          stands = code.ends.stands;
          represents = subst (λ (x : Option Fault). Represents (shape_of k T b room) x m f.0) (sym code.ends.fault)
              f.2.shows;
        };
        tells = subst (λ (x : Option Fault). TellsFault x r) (sym code.ends.fault) f.2.result_is;
      }
  joined (Failed m x) o' code c e =
      let may = ends code.moment code.leads in
      let few = may.outputs in
      let same = ap length code.ends.stands.outputs in
      let f = c (omega (arith, few, same)) (subst (λ (o : Option Fault). MayEnd T o) code.ends.fault may.fault) in
      record {
        moment = code.moment;
        leads = code.leads;
        after = f.0;
        result = bad;
        gives = e ∙ f.1;
        shows = record {
          memory = m;
          stands = code.ends.stands;
          represents = subst (λ (x : Option Fault). Represents (shape_of k T b room) x m f.0) (sym code.ends.fault)
              f.2;
        };
        tells = subst (λ (x : Option Fault). TellsFault x bad) (sym code.ends.fault) refl;
      }
  joined Starved o' code c e = absurd code
  joined Wrong o' code c e = absurd code

-- the function of a procedure ends as a run from the procedure's first frame
pub ends-as-code : (k : Code) (T : Tests) (b : Bounds) (room : ℕ) (bodies : ℕ → plan.Block) (file : File) (int : Width)
    (fuel p : ℕ) (now : Now) (m : CMemory) (w : World) (s : Store) → IsCode k → HasStateNames k → HasSmallResults k
    → AfterIsRight T k → AreWritten k.tree (λ x. suc x) k.procedures bodies
    → BeginsWith file (functions_c (shape_of k T b room) bodies)
    → bits int ≤ 32 → IsMoment k b (first_frame p w now)
    → ((moment : Moment) → Leads (program_of k b) (first_frame p w now) moment → MayEndIn T room moment)
    → IsOver (run (program_of k b) fuel (first_frame p w now)) → Stands k.tree (λ x. suc x) m w
    → Represents (shape_of k T b room) None m s → m.notes ≡ []
    → EndsAsCode k T b room file int (2 * fuel + 3) p now (first_frame p w now) s
ends-as-code k T b room bodies file int fuel p now m w s is named small right written begins_with most moment ends over
    stands shows none =
    let K = shape_of k T b room in
    let fit = fits k T b room int is named most in
    let parts = code_parts k is in
    let each = slice_index (heights k.procedures.procs) in
    let most_height = greatest (heights k.procedures.procs) in
    let high = are_heights (known_of k) k.procedures parts.procs in
    let few = is.table.tree.some in
    let height = high.bound p in
    let empty : length m.notes ≡ 0 = ap length none in
    let spread : suc m.used * suc most_height ≡ m.used * suc most_height + suc most_height = grind arith in
    joined k T b room file int (2 * fuel + 3) p now (first_frame p w now) s (length m.notes) m.used (T.after p) ends
    (call_fn (program_c K bodies) (suc fuel) p now 0 0 0 m)
    (call file int (2 * fuel + 3) p (five (event_number k.names now.event) now.depth 0 0 0) s)
    (ends_as_code k (λ x. suc x) b fuel (first_frame p w now) _ is moment over
    (called_outside k.tree (λ x. suc x) k.procedures b (suc_numbers k.tree) is.table.tree.same_length
    (program_c K bodies).sums (own_agrees k.tree (λ x. suc x) (suc_numbers k.tree)) bodies written (suc fuel) p now m w
    stands none))
    (follow K int fit bodies file begins_with each most_height high.bound (room-for k T b room is) k.procedures
    parts.react (λ x q lt up. let less = parent_lt k.tree (state_count k.tree) is.table.tree.pre_order x q lt up in
    omega (arith, less, lt)) written.each (are-good k T b room is small right) (suc fuel)
    (2 * fuel + 3) (omega arith) p 0 0 0 now m s (record {
      proc = moment.frames.0.proc;
      shows = shows;
      fine = fine-of k T b room m w moment.world stands none;
      base_le = omega arith;
      home_is = few;
      result_is = omega arith;
      depth = moment.depth;
      event = event-small k now.event moment.event fit.events;
      room = omega (arith, empty, height, spread);
    })) refl
