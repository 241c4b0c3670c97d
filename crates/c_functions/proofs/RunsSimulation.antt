-- The functions of the C program do what the procedures of the code do.
use Rattle.std.proofs.Common.{◌≡◌, ◌≤◌, ◌<◌, ℕ, zero, suc, ◌+◌, ◌++◌, List, [], ◌∷◌, length, drop, Option, Some, None}
use Rattle.std.proofs.Common.{Bool, true, false, not, ◌&&◌}
use Rattle.std.proofs.Common.{pred, Result, Ok, Err, refl, sym, ap, ◌∙◌, subst, arith, append-nil}
use Rattle.std.proofs.lemmas.List.{drop_all}
use Rattle.std.specs.Prelude.{if◌then◌else◌, ◌==◌, nat_le, nat_lt, slice_get}
use Rattle.std.proofs.lemmas.Bool.{lt-ltb, le-ltb}
use Rattle.flow_base.specs.declared.bounds.Bounds.{Bounds}
use Rattle.flow_base.specs.declared.fault.Fault.{Fault}
use Rattle.flow_base.specs.declared.fault.Fault.TheVariants as faults
use Rattle.active_config.specs.Tree.{Tree, state_count, parent_of}
use Rattle.active_config.specs.Marks.{is_on, is_bare}
use Rattle.actions.specs.declared.event.Event.{Event}
use Rattle.actions.specs.World.{World, emitted}
use Rattle.actions.specs.Changes.{paid_in, assigned_in, mark_in, clear_in, keep_in}
use Rattle.actions.specs.Work.{Now, deeper}
use Rattle.code_language.specs.Code.{Procedures, instructions, fetch}
use Rattle.code_language.specs.Instrs.{Cond, Instr}
use Rattle.code_language.specs.Instrs as i
use Rattle.code_language.specs.Machine as mach
use Rattle.actions.specs.Exprs.{Expr}
use Rattle.code_language.specs.Machine.{Program, Frame, CodeState, machine, later, fresh, next, past, returned, holds}
use Rattle.code_language.specs.Reach.{Reaches, Falls, with_note, pending}
use Rattle.code_language.proofs.Joins.{here}
use Rattle.code_language.proofs.Notes.{pending_past, IsHead, noted_head}
use Rattle.code_language.proofs.Steps.{go_mark, go_clear, go_keep, go_skip, go_home, go_begin, go_ret, go_pass}
use Rattle.code_language.proofs.Steps.{go_pass_zero}
use Rattle.code_language.proofs.Steps.{go_unless_true, go_unless_false, fall_unless, one_step, one_fall, go_play_none}
use Rattle.code_language.proofs.Steps.{go_play_lame}
use Rattle.code_language.proofs.Tails.{further, onward}
use Rattle.c_functions.specs.States.{Numbers, c_mark, c_clear, c_keep, keep_by}
use Rattle.c_functions.specs.Statements.{CMemory, Locals, Block, Out, Fell, Left, Failed, Starved, Wrong}
use Rattle.c_functions.specs.Statements as c
use Rattle.c_functions.specs.Meaning.{Sums, pay, turn, CProgram, Calls, check, truth_c, exec, branch, and_on, and_with}
use Rattle.c_functions.specs.Meaning.{and_stored, unless_met, turns, from_base, front, closed, with_states, begins}
use Rattle.c_functions.specs.Meaning.{call_fn}
use Rattle.c_functions.specs.Written.{test_of, on_check, noted_call, straight, keep_block, IsOrChild, IsStraight}
use Rattle.c_functions.specs.Written.{Written, Stops, Steps, Returns, Skips, Forks}
use Rattle.c_functions.specs.Written.{AreWritten}
use Rattle.c_functions.specs.Runs.{Stands, Stored, Agree, IsAt, DoesCall, CallsDo}
use Rattle.c_functions.proofs.StatesTests.{on_is, bare_is, last_is, differ}
use Rattle.c_functions.proofs.WrittenTests.{on_test, bare_test, last_test, mark_runs, clear_runs}
use Rattle.c_functions.proofs.RunsStatements.{fetched, same_pending, later_at, later_over, later_under}
use Rattle.c_functions.proofs.RunsStatements.{got, within_some, past_none, does_on, does_then, moved}
use Rattle.c_functions.proofs.RunsStatements.{left_notes, does_step, does_less, Does}
use Rattle.c_functions.proofs.RunsPlaces.{mark_stands, clear_stands, keep_stands, called, resulted, same_notes, sent_at}
use Rattle.c_functions.proofs.RunsPlaces.{played_at, turned_at}

module _ (t : Tree) (n : ℕ → ℕ) (num : Numbers t n) (same : length t.comps ≡ state_count t) (k : Procedures)
    (b : Bounds)
    (sums : Sums) (agree : Agree t n sums) (bodies : ℕ → Block) where
  -- the code under bounds
  abbrev pub code : Program
  code = record { tree = t; bounds = b; procedures = k }

  -- the C program
  abbrev pub prog : CProgram
  prog = record { sums = sums; tree = t; numbers = n; bounds = b; bodies = bodies }

  -- ---- conditions

  test_is : (x : Cond) (note : Option ℕ) (saved : Option Event) (xs : List Instr) (m : CMemory) (l : Locals) (w : World)
      (now : Now) (r : ℕ) (f : Frame) (fs : List Frame)
      → IsAt t n k note saved xs m l w r f fs → truth_c prog (test_of t n x) m now l ≡ holds t x w now r f.home
  unfolding holds
  test_is (i.On s) note saved xs m l w now r f fs h = ap Ok
      (on_test prog m now l s ∙ on_is t n m.states w.marks h.stands.states s)
  test_is (i.Bare s) note saved xs m l w now r f fs h = ap Ok
      (bare_test prog m now l s ∙ bare_is t n m.states w.marks h.stands.states num s)
  test_is i.OnHome note saved xs m l w now r f fs h = ap Ok
      (on_is t n m.states w.marks h.stands.states l.home ∙ ap (λ s. is_on s w.marks) h.home)
  test_is i.BareHome note saved xs m l w now r f fs h = ap Ok
      (bare_is t n m.states w.marks h.stands.states num l.home ∙ ap (λ s. is_bare t s w.marks) h.home)
  test_is (i.Current e) note saved xs m l w now r f fs h = refl
  test_is (i.Result x) note saved xs m l w now r f fs h = ap (λ y. Ok (y == x)) h.result
  test_is (i.Test x) note saved xs m l w now r f fs h = agree.truth x m w h.stands
  test_is (i.Last s) note saved xs m l w now r f fs h =
      ap Ok (last_test prog m now l s ∙ last_is t n m.states w.marks h.stands.states num h.stands.consistent s)

  module _ (call : Calls) (fuel less : ℕ) (near : fuel ≤ suc less) (under : less ≤ fuel)
      (calls : CallsDo code n less call) (now : Now) (note : Option ℕ) (saved : Option Event) (fs : List Frame) where
    -- from where some instructions follow, code does what these statements do, up to where the others follow
    abbrev pub Rest : List Instr → List Instr → Block → Type 0
    Rest xs ys a = (m : CMemory) (l : Locals) (w : World) (r : ℕ) (f : Frame) → IsAt t n k note saved xs m l w r f fs
        → Does code n fuel now note saved fs (machine w now r (f ∷ fs)) ys (exec prog call fuel now a m l)

    -- the statements after one
    abbrev after : Block → CMemory → Locals → Out
    after a v u = exec prog call fuel now a v u

    step_mark : (s : ℕ) (rest ys : List Instr) (a : Block) → s < state_count t → Rest rest ys a
        → Rest (i.Mark s ∷ rest) ys (straight t n k.react (i.Mark s) a)
    unfolding straight exec
    step_mark s rest ys a lt go m l w r f h =
        subst (λ o. Does code n fuel now note saved fs (machine w now r (f ∷ fs)) ys o)
        (sym (mark_runs prog m now l call fuel (after a) s))
        (does_on code n fuel now note saved fs _ _ ys (after a (with_states (c_mark t n s m.states) m) l)
        (go_mark (fetched k f.proc f.place (i.Mark s ∷ rest) h.code))
        (go (with_states (c_mark t n s m.states) m) l (mark_in t s w) r (next f)
        (moved t n k note saved (i.Mark s ∷ rest) rest m l w r f fs h (f.place + 1)
        (with_states (c_mark t n s m.states) m) (mark_in t s w)
        (onward (instructions k f.proc) f.place h.code)
        (mark_stands t n num same s m w lt h.stands) refl)))

    step_clear : (s : ℕ) (rest ys : List Instr) (a : Block) → s < state_count t → Rest rest ys a
        → Rest (i.Clear s ∷ rest) ys (straight t n k.react (i.Clear s) a)
    unfolding straight exec
    step_clear s rest ys a lt go m l w r f h =
        subst (λ o. Does code n fuel now note saved fs (machine w now r (f ∷ fs)) ys o)
        (sym (clear_runs prog m now l call fuel (after a) s))
        (does_on code n fuel now note saved fs _ _ ys (after a (with_states (c_clear t n s m.states) m) l)
        (go_clear (fetched k f.proc f.place (i.Clear s ∷ rest) h.code))
        (go (with_states (c_clear t n s m.states) m) l (clear_in t s w) r (next f)
        (moved t n k note saved (i.Clear s ∷ rest) rest m l w r f fs h (f.place + 1)
        (with_states (c_clear t n s m.states) m) (clear_in t s w)
        (onward (instructions k f.proc) f.place h.code)
        (clear_stands t n num same s m w lt h.stands) refl)))

    keep_runs : (s : ℕ) (o : Option ℕ) (a : Block) (m : CMemory) (l : Locals)
        → after (keep_block n s o a) m l ≡ after a (with_states (keep_by n s o m.states) m) l
    unfolding exec
    keep_runs s None a m l = refl
    keep_runs s (Some p) a m l = refl

    step_keep : (s : ℕ) (rest ys : List Instr) (a : Block) → IsOrChild t s → Rest rest ys a
        → Rest (i.Keep s ∷ rest) ys (straight t n k.react (i.Keep s) a)
    unfolding straight c_keep
    step_keep s rest ys a o go m l w r f h =
        subst (λ o. Does code n fuel now note saved fs (machine w now r (f ∷ fs)) ys o)
        (sym (keep_runs s (parent_of t s) a m l))
        (does_on code n fuel now note saved fs _ _ ys (after a (with_states (c_keep t n s m.states) m) l)
        (go_keep (fetched k f.proc f.place (i.Keep s ∷ rest) h.code))
        (go (with_states (c_keep t n s m.states) m) l (keep_in t s w) r (next f)
        (moved t n k note saved (i.Keep s ∷ rest) rest m l w r f fs h (f.place + 1)
        (with_states (c_keep t n s m.states) m) (keep_in t s w)
        (onward (instructions k f.proc) f.place h.code)
        (keep_stands t n num same s m w o h.stands) refl)))

    step_home : (s : ℕ) (rest ys : List Instr) (a : Block) → Rest rest ys a
        → Rest (i.Home s ∷ rest) ys (straight t n k.react (i.Home s) a)
    unfolding straight exec
    step_home s rest ys a go m l w r f h =
        let at = moved t n k note saved (i.Home s ∷ rest) rest m l w r f fs h (f.place + 1) m w
        (onward (instructions k f.proc) f.place h.code) h.stands refl in
        does_on code n fuel now note saved fs _ _ ys (after a m (record l { home = s }))
        (go_home (fetched k f.proc f.place (i.Home s ∷ rest) h.code))
        (go m (record l { home = s }) w r (next (record f { home = s })) (record {
          code = at.code;
          stands = at.stands;
          notes = at.notes ∙ same_pending 0 (next f) (next (record f { home = s })) fs refl;
          note_is = at.note_is;
          saved_is = at.saved_is;
          home = refl;
          result = at.result;
          within = at.within;
          base = at.base;
          above_base = at.above_base ∙ same_pending (suc f.base) (next f) (next (record f { home = s })) fs refl;
          cursor = at.cursor;
          above_cursor = at.above_cursor ∙ same_pending (later f.cursor (suc f.base)) (next f)
              (next (record f { home = s })) fs refl;
        }))

    step_begin : (rest ys : List Instr) (a : Block) → Rest rest ys a → Rest (i.Begin ∷ rest) ys
        (straight t n k.react i.Begin a)
    unfolding straight exec
    step_begin rest ys a go m l w r f h =
        let at = moved t n k note saved (i.Begin ∷ rest) rest m l w r f fs h (f.place + 1) m w
        (onward (instructions k f.proc) f.place h.code) h.stands refl in
        let g = next (record f { base = length fs }) in
        does_on code n fuel now note saved fs _ _ ys (after a m (record l { base = length m.notes }))
        (go_begin (fetched k f.proc f.place (i.Begin ∷ rest) h.code))
        (go m (record l { base = length m.notes }) w r g (record {
          code = at.code;
          stands = at.stands;
          notes = at.notes ∙ same_pending 0 (next f) g fs refl;
          note_is = at.note_is;
          saved_is = at.saved_is;
          home = at.home;
          result = at.result;
          within = omega arith;
          base = omega arith;
          above_base = drop_all (length m.notes) m.notes (omega arith) ∙ sym
              (pending_past (suc (length fs)) g fs (omega arith));
          cursor = at.cursor;
          above_cursor = drop_all (later l.cursor (length m.notes)) m.notes (later_over l.cursor (length m.notes)).1
              ∙ sym (pending_past (later f.cursor (suc (length fs))) g fs
              (omega (arith, (later_over f.cursor (suc (length fs))).1)));
        }))

    pass_by : (x : ℕ) (rest ys : List Instr) (a : Block) → Rest rest ys a → (m : CMemory) (l : Locals) (w : World)
        (f : Frame)
        → IsAt t n k note saved (i.Pass ∷ rest) m l w x f fs
        → Does code n fuel now note saved fs (machine w now x (f ∷ fs)) ys
        (and_on (branch (Ok (not (x == 0))) m (Left m x) (Fell m l)) (after a))
    pass_by zero rest ys a go m l w f h =
        does_on code n fuel now note saved fs _ _ ys (after a m l)
        (go_pass_zero (fetched k f.proc f.place (i.Pass ∷ rest) h.code))
        (go m l w 0 (next f) (moved t n k note saved (i.Pass ∷ rest) rest m l w 0 f fs h (f.place + 1) m w
        (onward (instructions k f.proc) f.place h.code) h.stands refl))
    pass_by (suc x) rest ys a go m l w f h =
        subst (λ d. Does code n fuel now note saved fs (machine w now (suc x) (f ∷ fs)) ys
        (and_on (branch (Ok (not d)) m (Left m (suc x)) (Fell m l)) (after a)))
        (sym (differ (suc x) 0 (λ e. absurd (omega (arith, e))))) passed
      where
        passed : Does code n fuel now note saved fs (machine w now (suc x) (f ∷ fs)) ys (Left m (suc x))
        passed = record {
          world = w;
          stands = h.stands;
          notes = left_notes t n k note saved (i.Pass ∷ rest) [] m l w (suc x) f fs h;
          reached = subst (λ o. Reaches code (machine w now (suc x) (f ∷ fs)) (returned w now (suc x) o fs)) h.saved_is
              (go_pass (fetched k f.proc f.place (i.Pass ∷ rest) h.code));
        }

    step_pass : (rest ys : List Instr) (a : Block) → Rest rest ys a → Rest (i.Pass ∷ rest) ys
        (straight t n k.react i.Pass a)
    unfolding straight exec
    step_pass rest ys a go m l w r f h =
        subst (λ x. Does code n fuel now note saved fs (machine w now r (f ∷ fs)) ys
        (and_on (branch (Ok (not (x == 0))) m (Left m x) (Fell m l)) (after a))) (sym h.result)
        (pass_by r rest ys a go m l w f h)

    -- ---- steps

    -- the instruction at the top frame acts
    acts : (w : World) (r : ℕ) (f : Frame) (x : Instr) → fetch k f.proc f.place ≡ Some x
        → mach.step code (machine w now r (f ∷ fs)) ≡ mach.act code (Some x) w now r f fs
    acts w r f x e = ap (λ o. mach.act code o w now r f fs) e

    -- a step is paid
    pays : (least later : ℕ) → least ≤ suc later → (s : CodeState) (ys : List Instr) (m : CMemory) (w : World)
        (go : CMemory → Out) (to : World → CodeState) → Stands t n m w
        → mach.step code s ≡ mach.if_ok (paid_in b w) w (λ v. mach.Goes (to v))
        → ((v : World) → Stands t n (record m { used = m.used + 1 }) v
        → Does code n later now note saved fs (to v) ys (go (record m { used = m.used + 1 })))
        → Does code n least now note saved fs s ys (pay b m go)
    unfolding paid_in
    pays least later le s ys m w go to h e rest =
        by (nat_le b.steps m.used)
        (e ∙ ap (λ u. mach.if_ok
        (if nat_le b.steps u then Err faults.Steps else Ok (record w { used = w.used + 1 })) w
        (λ v. mach.Goes (to v))) (sym h.used))
      where
        by : (d : Bool) → mach.step code s ≡ mach.if_ok
            (if d then Err faults.Steps else Ok (record w { used = w.used + 1 })) w (λ v. mach.Goes (to v))
            → Does code n least now note saved fs s ys
            (unless_met d faults.Steps m (go (record m { used = m.used + 1 })))
        by true e = record { world = w; stands = h; falls = one_fall e }
        by false e = does_step code n later now note saved fs least _ _ ys (go (record m { used = m.used + 1 })) le e
            (rest (record w { used = w.used + 1 }) (record {
              states = h.states;
              consistent = h.consistent;
              vals = h.vals;
              outputs = h.outputs;
              used = ap (λ u. u + 1) h.used;
            }))

    -- where a depth is left, a step is paid
    deeps : (least later : ℕ) → least ≤ suc later → (d : Bool) (s : CodeState) (ys : List Instr) (m : CMemory) (w : World)
        (go : CMemory → Out) (to : World → CodeState) → Stands t n m w
        → mach.step code s ≡ mach.if_deep d w (mach.if_ok (paid_in b w) w (λ v. mach.Goes (to v)))
        → ((v : World) → Stands t n (record m { used = m.used + 1 }) v
        → Does code n later now note saved fs (to v) ys (go (record m { used = m.used + 1 })))
        → Does code n least now note saved fs s ys (unless_met d faults.Depth m (pay b m go))
    deeps least later le true s ys m w go to h e rest = record { world = w; stands = h; falls = one_fall e }
    deeps least later le false s ys m w go to h e rest = pays least later le s ys m w go to h e rest

    -- a store
    stores : (s : CodeState) (ys : List Instr) (m : CMemory) (w : World) (go : CMemory → Out) (to : World → CodeState)
        (o : Result CMemory Fault) (q : Result World Fault) → Stands t n m w → Stored t n m o q
        → mach.step code s ≡ mach.if_ok q w (λ v. mach.Goes (to v))
        → ((u : CMemory) (v : World) → Stands t n u v → u.notes ≡ m.notes → Does code n fuel now note saved fs (to v) ys
        (go u))
        → Does code n fuel now note saved fs s ys (and_stored o m go)
    stores s ys m w go to (Ok u) (Ok v) h st e rest = does_on code n fuel now note saved fs _ _ ys (go u) (one_step e)
        (rest u v st.0 st.1)
    stores s ys m w go to (Err x) (Err y) h st e rest =
        record { world = w; stands = h; falls = subst (λ z. Falls code s w z) (sym st) (one_fall e) }
    stores s ys m w go to (Ok u) (Err y) h st e rest = absurd st
    stores s ys m w go to (Err x) (Ok v) h st e rest = absurd st

    step_assign : (v : ℕ) (x : Expr) (rest ys : List Instr) (a : Block) → Rest rest ys a
        → Rest (i.Assign v x ∷ rest) ys (straight t n k.react (i.Assign v x) a)
    unfolding straight exec
    step_assign v x rest ys a go m l w r f h =
        stores _ ys m w (λ u. after a u l) (λ u. machine u now r (next f ∷ fs)) (sums.store v x m)
        (assigned_in v x w) h.stands
        (agree.store v x m w h.stands)
        (acts w r f (i.Assign v x) (fetched k f.proc f.place (i.Assign v x ∷ rest) h.code))
        (λ u v' st e. go u l v' r (next f)
        (moved t n k note saved (i.Assign v x ∷ rest) rest m l w r f fs h (f.place + 1) u v'
        (onward (instructions k f.proc) f.place h.code) st e))

    step_emit : (x : ℕ) (rest ys : List Instr) (a : Block) → Rest rest ys a
        → Rest (i.Emit x ∷ rest) ys (straight t n k.react (i.Emit x) a)
    unfolding straight exec
    step_emit x rest ys a go m l w r f h =
        pays fuel fuel (omega arith) _ ys m w (λ u. after a (record u { outputs = u.outputs ++ x ∷ [] }) l)
        (λ u. machine (emitted x u) now r (next f ∷ fs)) h.stands
        (acts w r f (i.Emit x) (fetched k f.proc f.place (i.Emit x ∷ rest) h.code))
        (λ v st. go (record m { used = m.used + 1; outputs = m.outputs ++ x ∷ [] }) l (emitted x v) r (next f)
        (moved t n k note saved (i.Emit x ∷ rest) rest m l w r f fs h (f.place + 1)
        (record m { used = m.used + 1; outputs = m.outputs ++ x ∷ [] }) (emitted x v)
        (onward (instructions k f.proc) f.place h.code)
        (record {
          states = st.states;
          consistent = st.consistent;
          vals = st.vals;
          outputs = ap
              (λ o. o ++ x ∷ []) st.outputs;
          used = st.used;
        }) refl))

    -- ---- after a call

    after_call : (least : ℕ) → least ≤ less → (now' : Now) (saved' : Option Event) (tag : Option ℕ) (up : List Frame)
        (s : CodeState) (ys : List Instr) (o : Out) (go : CMemory → ℕ → Out)
        → mach.now_after saved' now' ≡ now → DoesCall code n less now' tag saved' up s o
        → ((v : CMemory) (x : ℕ) (w : World) → Stands t n v w → v.notes ≡ pending 0 up ++ with_note tag []
        → Does code n least now note saved fs (machine w now x up) ys (go v x))
        → Does code n least now note saved fs s ys (and_with o go)
    after_call least le now' saved' tag up s ys (Fell m l) go back h rest = absurd h
    after_call least le now' saved' tag up s ys (Left m x) go back h rest =
        does_on code n least now note saved fs s (machine h.world now x up) ys (go m x)
        (subst (λ y. Reaches code s (machine h.world y x up)) back h.reached) (rest m x h.world h.stands h.notes)
    after_call least le now' saved' tag up s ys
        (Failed m x) go back h rest = record { world = h.world; stands = h.stands; falls = h.falls }
    after_call least le now' saved' tag up s ys Starved go back h rest =
        record { steps = h.steps; last = h.last; by = h.by; enough = omega (arith, le, h.enough) }
    after_call least le now' saved' tag up s ys Wrong go back h rest = h

    -- after a call fewer steps are asked for
    low : (s : CodeState) (ys : List Instr) (o : Out) → Does code n fuel now note saved fs s ys o
        → Does code n less now note saved fs s ys o
    low s ys o h = does_less code n fuel now note saved fs less s ys o under h

    front_push : (xs : List ℕ) (q : ℕ) → front (xs ++ q ∷ []) ≡ xs
    front_push [] q = refl
    front_push (x ∷ []) q = refl
    front_push (x ∷ y ∷ xs) q = ap (λ l. x ∷ l) (front_push (y ∷ xs) q)

    -- a call, from the frame of the procedure on
    call_rest : (p : ℕ) (tag : Option ℕ) (x : Instr) (rest ys : List Instr) (a : Block) → Rest rest ys a
        → (m v : CMemory) (l : Locals) (w u : World) (r : ℕ) (f : Frame) → IsAt t n k note saved (x ∷ rest) m l w r f fs
        → Stands t n v u → v.notes ≡ m.notes
        → Does code n less now note saved fs (machine u now r (fresh p tag f.base f.home None ∷ next f ∷ fs)) ys
        (after (noted_call p tag a) v l)
    unfolding exec
    call_rest p None x rest ys a go m v l w u r f h st e =
        after_call less (omega arith) now None None (next f ∷ fs) _ ys (call p now l.base l.home l.result v)
        (λ o y. after a o (record l { result = y })) refl
        (subst (λ y. DoesCall code n less now None None (next f ∷ fs)
        (machine u now y (fresh p None f.base f.home None ∷ next f ∷ fs))
        (call p now l.base l.home l.result v)) h.result
        (calls p l.base l.home l.result now None None v u (fresh p None f.base f.home None) (next f ∷ fs) refl refl
        (called t n k note saved fs p None x rest m v l w u r f h st (e ∙ sym (append-nil m.notes)))))
        (λ o y z so eo. low (machine z now y (next f ∷ fs)) ys (after a o (record l { result = y }))
        (go o (record l { result = y }) z y (next f)
        (resulted t n k note saved fs x rest m o l w z r y f h so
        (eo ∙ append-nil (pending 0 (next f ∷ fs)) ∙ same_notes t n k note saved fs m x rest l w r f h))))
    call_rest p (Some q) x rest ys a go m v l w u r f h st e =
        after_call less (omega arith) now None (Some q) (next f ∷ fs) _ ys
        (call p now l.base l.home l.result (record v { notes = v.notes ++ q ∷ [] }))
        (λ o y. after a (record o { notes = front o.notes }) (record l { result = y })) refl
        (subst (λ y. DoesCall code n less now (Some q) None (next f ∷ fs)
        (machine u now y (fresh p (Some q) f.base f.home None ∷ next f ∷ fs))
        (call p now l.base l.home l.result (record v { notes = v.notes ++ q ∷ [] }))) h.result
        (calls p l.base l.home l.result now (Some q) None (record v { notes = v.notes ++ q ∷ [] }) u
        (fresh p (Some q) f.base f.home None) (next f ∷ fs) refl refl
        (called t n k note saved fs p (Some q) x rest m (record v { notes = v.notes ++ q ∷ [] }) l w u r f h
        (record {
          states = st.states;
          consistent = st.consistent;
          vals = st.vals;
          outputs = st.outputs;
          used = st.used;
        })
        (ap (λ y. y ++ q ∷ []) e))))
        (λ o y z so eo. low (machine z now y (next f ∷ fs)) ys
        (after a (record o { notes = front o.notes }) (record l { result = y }))
        (go (record o { notes = front o.notes }) (record l { result = y }) z y (next f)
        (resulted t n k note saved fs x rest m (record o { notes = front o.notes }) l w z r y f h
        (record {
          states = so.states;
          consistent = so.consistent;
          vals = so.vals;
          outputs = so.outputs;
          used = so.used;
        })
        (ap front eo ∙ front_push (pending 0 (next f ∷ fs)) q ∙ same_notes t n k note saved fs m x rest l w r f h))))

    step_call : (p : ℕ) (tag : Option ℕ) (rest ys : List Instr) (a : Block) → Rest rest ys a
        → Rest (i.Call p tag ∷ rest) ys (straight t n k.react (i.Call p tag) a)
    unfolding straight
    step_call p tag rest ys a go m l w r f h =
        does_step code n less now note saved fs fuel _ _ ys (after (noted_call p tag a) m l) near
        (acts w r f (i.Call p tag) (fetched k f.proc f.place (i.Call p tag ∷ rest) h.code))
        (call_rest p tag (i.Call p tag) rest ys a go m m l w w r f h h.stands refl)

    step_visit : (p : ℕ) (tag : Option ℕ) (rest ys : List Instr) (a : Block) → Rest rest ys a
        → Rest (i.Visit p tag ∷ rest) ys (straight t n k.react (i.Visit p tag) a)
    unfolding straight exec
    step_visit p tag rest ys a go m l w r f h =
        pays fuel less near _ ys m w (λ u. after (noted_call p tag a) u l)
        (λ u. machine u now r (fresh p tag f.base f.home None ∷ next f ∷ fs)) h.stands
        (acts w r f (i.Visit p tag) (fetched k f.proc f.place (i.Visit p tag ∷ rest) h.code))
        (λ u st. call_rest p tag (i.Visit p tag) rest ys a go m (record m { used = m.used + 1 }) l w u r f h st refl)

    -- ---- sends

    send_rest : (e p : ℕ) (x : Instr) (rest ys : List Instr) (a : Block) → Rest rest ys a
        → (m v : CMemory) (l : Locals) (w u : World) (r : ℕ) (f : Frame) → IsAt t n k note saved (x ∷ rest) m l w r f fs
        → Stands t n v u → v.notes ≡ m.notes
        → Does code n less now note saved fs (mach.sent true e p u now r f fs) ys (after (c.Send e p a) v l)
    unfolding exec
    send_rest e p x rest ys a go m v l w u r f h st same_as =
        after_call less (omega arith) (deeper e now) (Some now.event) None (next f ∷ fs) _ ys
        (call p (deeper e now) (length v.notes) 0 l.result v) (λ o y. after a o (record l { result = y })) refl
        (subst (λ y. DoesCall code n less (deeper e now) None (Some now.event) (next f ∷ fs)
        (mach.sent true e p u now y f fs)
        (call p (deeper e now) (length v.notes) 0 l.result v)) h.result
        (calls p (length v.notes) 0 l.result (deeper e now) None (Some now.event) v u
        (fresh p None (suc (length fs)) 0 (Some now.event)) (next f ∷ fs) refl refl
        (sent_at t n k note saved fs now e p x rest m v l w u r f h st same_as)))
        (λ o y z so eo. low (machine z now y (next f ∷ fs)) ys (after a o (record l { result = y }))
        (go o (record l { result = y }) z y (next f)
        (resulted t n k note saved fs x rest m o l w z r y f h so
        (eo ∙ append-nil (pending 0 (next f ∷ fs)) ∙ same_notes t n k note saved fs m x rest l w r f h))))

    step_send : (e : ℕ) (rest ys : List Instr) (a : Block) → Rest rest ys a
        → Rest (i.Send e ∷ rest) ys (straight t n k.react (i.Send e) a)
    unfolding straight exec
    step_send e rest ys a go m l w r f h =
        deeps fuel less near (nat_le b.depth now.depth) _ ys m w (λ u. after (c.Send e k.react a) u l)
        (λ u. mach.sent true e k.react u now r f fs) h.stands
        (acts w r f (i.Send e) (fetched k f.proc f.place (i.Send e ∷ rest) h.code))
        (λ u st. send_rest e k.react (i.Send e) rest ys a go m (record m { used = m.used + 1 }) l w u r f h st refl)

    stops_at : (xs : List Instr) → Rest xs xs c.End
    unfolding exec
    stops_at xs m l w r f h = record { world = w; result = r; frame = f; at = h; reached = here }

    heard_by : (d : Bool) (e s p : ℕ) (x : Instr) (rest ys : List Instr) (a : Block) → Rest rest ys a
        → (m v : CMemory) (l : Locals) (w u : World) (r : ℕ) (f : Frame) → IsAt t n k note saved (x ∷ rest) m l w r f fs
        → Stands t n v u → v.notes ≡ m.notes
        → Does code n less now note saved fs (mach.sent d e p u now r f fs) ys
        (and_on (branch (Ok d) v (after (c.Send e p c.End) v l) (after c.End v l)) (after a))
    heard_by true e s p x rest ys a go m v l w u r f h st same_as =
        does_then code n less now note saved fs _ rest ys (after (c.Send e p c.End) v l) (after a)
        (send_rest e p x rest rest c.End (stops_at rest) m v l w u r f h st same_as)
        (λ m l w r f h. low (machine w now r (f ∷ fs)) ys (after a m l) (go m l w r f h))
    heard_by false e s p x rest ys a go m v l w u r f h st same_as =
        does_then code n less now note saved fs _ rest ys (after c.End v l) (after a)
        (low (machine u now r (next f ∷ fs)) rest (after c.End v l)
        (stops_at rest v l u r (next f) (moved t n k note saved (x ∷ rest) rest m l w r f fs h (f.place + 1) v u
        (onward (instructions k f.proc) f.place h.code) st same_as)))
        (λ m l w r f h. low (machine w now r (f ∷ fs)) ys (after a m l) (go m l w r f h))

    step_send_to : (e s p : ℕ) (rest ys : List Instr) (a : Block) → Rest rest ys a
        → Rest (i.SendTo e s p ∷ rest) ys (straight t n k.react (i.SendTo e s p) a)
    unfolding straight exec
    step_send_to e s p rest ys a go m l w r f h =
        deeps fuel less near (nat_le b.depth now.depth) _ ys m w
        (λ u. and_on (branch (Ok (check prog (on_check t n s) u now l)) u (after (c.Send e p c.End) u l)
        (after c.End u l)) (after a))
        (λ u. mach.sent (is_on s u.marks) e p u now r f fs) h.stands
        (acts w r f (i.SendTo e s p) (fetched k f.proc f.place (i.SendTo e s p ∷ rest) h.code))
        (λ u st. let v = record m { used = m.used + 1 } in
        subst (λ d. Does code n less now note saved fs (mach.sent (is_on s u.marks) e p u now r f fs) ys
        (and_on (branch (Ok d) v (after (c.Send e p c.End) v l) (after c.End v l)) (after a)))
        (sym (on_test prog v now l s ∙ on_is t n v.states u.marks st.states s))
        (heard_by (is_on s u.marks) e s p (i.SendTo e s p) rest ys a go m v l w u r f h st refl))

    -- ---- `Play`

    -- where `Play` ends, the next place follows
    ends_at : (rest : List Instr) (m : CMemory) (l : Locals) (w : World) (r : ℕ) (f : Frame) → IsAt t n k note saved
        (i.Play ∷ rest) m l w r f fs
        → Reaches code (machine w now r (f ∷ fs)) (machine w now r (next f ∷ fs))
        → Does code n fuel now note saved fs (machine w now r (f ∷ fs)) rest (Fell m l)
    ends_at rest m l w r f h way = record {
      world = w;
      result = r;
      frame = next f;
      at = moved t n k note saved (i.Play ∷ rest) rest m l w r f fs h (f.place + 1) m w
          (onward (instructions k f.proc) f.place h.code) h.stands refl;
      reached = way;
    }

    -- one turn, by what `Play` finds and whether the home is bare
    turn_by : (j : ℕ) → suc j ≤ fuel → (rest : List Instr) (m : CMemory) (l : Locals) (w : World) (r : ℕ) (f : Frame)
        → IsAt t n k note saved (i.Play ∷ rest) m l w r f fs → l.base ≤ l.cursor
        → ((o : CMemory) (l' : Locals) (z : World) (y : ℕ) (g : Frame) → IsAt t n k note saved
        (i.Play ∷ rest) o l' z y g fs → l'.base ≤ l'.cursor
        → Does code n j now note saved fs (machine z now y (g ∷ fs)) rest (turns prog call j now o l'))
        → (q : Option (ℕ × ℕ)) → mach.noted (later f.cursor (suc f.base)) (f ∷ fs) ≡ q → IsHead
        (later f.cursor (suc f.base)) (f ∷ fs) q
        → (d : Bool) → is_bare t f.home w.marks ≡ d
        → Does code n (suc j) now note saved fs (machine w now r (f ∷ fs)) rest
        (if nat_lt l.cursor (length m.notes) && d
        then pay b m (λ v. turn call (slice_get v.notes l.cursor) now v (record l { cursor = suc l.cursor })
        (turns prog call j now))
        else Fell m l)
    turn_by j few rest m l w r f h le more None found head d e =
        let none : length m.notes ≤ l.cursor = past_none m.notes l.cursor
        (ap (λ x. drop x m.notes) (sym (later_at l.cursor l.base le)) ∙ h.above_cursor ∙ head) in
        subst (λ x. Does code n (suc j) now note saved fs (machine w now r (f ∷ fs)) rest
        (if x && d then pay b m
        (λ v. turn call (slice_get v.notes l.cursor) now v (record l { cursor = suc l.cursor }) (turns prog call j now))
        else Fell m l)) (sym (le-ltb l.cursor (length m.notes) none))
        (ends_at rest m l w r f h (go_play_none (fetched k f.proc f.place (i.Play ∷ rest) h.code) found))
    turn_by j few rest m l w r f h le more (Some q) found head false e =
        let lt = within_some m.notes l.cursor q.1 (pending (suc q.0) (f ∷ fs))
        (ap (λ x. drop x m.notes) (sym (later_at l.cursor l.base le)) ∙ h.above_cursor ∙ head.2) in
        subst (λ x. Does code n (suc j) now note saved fs (machine w now r (f ∷ fs)) rest
        (if x && false then pay b m
        (λ v. turn call (slice_get v.notes l.cursor) now v (record l { cursor = suc l.cursor }) (turns prog call j now))
        else Fell m l)) (sym (lt-ltb l.cursor (length m.notes) lt))
        (ends_at rest m l w r f h (go_play_lame (fetched k f.proc f.place (i.Play ∷ rest) h.code) e))
    turn_by j few rest m l w r f h le more (Some q) found head true e =
        let at_cursor = ap (λ x. drop x m.notes) (sym (later_at l.cursor l.base le)) ∙ h.above_cursor ∙ head.2 in
        let lt = within_some m.notes l.cursor q.1 (pending (suc q.0) (f ∷ fs)) at_cursor in
        let ge : suc f.base ≤ q.0 = omega (arith, head.0, (later_over f.cursor (suc f.base)).1) in
        subst (λ x. Does code n (suc j) now note saved fs (machine w now r (f ∷ fs)) rest
        (if x && true then pay b m
        (λ v. turn call (slice_get v.notes l.cursor) now v (record l { cursor = suc l.cursor }) (turns prog call j now))
        else Fell m l)) (sym (lt-ltb l.cursor (length m.notes) lt))
        (pays (suc j) j (omega arith) _ rest m w
        (λ v. turn call (slice_get v.notes l.cursor) now v (record l { cursor = suc l.cursor }) (turns prog call j now))
        (λ v. machine v now r
        (fresh q.1 None (suc (length fs)) f.home None ∷ record f { cursor = suc q.0 } ∷ fs)) h.stands
        (acts w r f i.Play (fetched k f.proc f.place (i.Play ∷ rest) h.code) ∙ ap
        (λ o. mach.play_next code o w now r f fs) found
        ∙ ap (λ x. if x then mach.if_ok (paid_in b w) w (λ v. mach.Goes (machine v now r
        (fresh q.1 None (suc (length fs)) f.home None ∷ record f { cursor = suc q.0 } ∷ fs))) else mach.Goes
        (machine w now r (next f ∷ fs))) e)
        (λ u st. let v = record m { used = m.used + 1 } in
        subst (λ o. Does code n j now note saved fs
        (machine u now r (fresh q.1 None (suc (length fs)) f.home None ∷ record f { cursor = suc q.0 } ∷ fs)) rest
        (turn call o now v (record l { cursor = suc l.cursor }) (turns prog call j now)))
        (sym (got m.notes l.cursor q.1 (pending (suc q.0) (f ∷ fs)) at_cursor))
        (after_call j (omega (arith, few, near)) now None None (record f { cursor = suc q.0 } ∷ fs) _ rest
        (call q.1 now (length m.notes) l.home l.result v)
        (λ o y. turns prog call j now o (record l { cursor = suc l.cursor; result = y })) refl
        (subst (λ y. DoesCall code n less now None None (record f { cursor = suc q.0 } ∷ fs)
        (machine u now y (fresh q.1 None (suc (length fs)) f.home None ∷ record f { cursor = suc q.0 } ∷ fs))
        (call q.1 now (length m.notes) l.home l.result v)) h.result
        (calls q.1 (length m.notes) l.home l.result now None None v u (fresh q.1 None (suc (length fs)) f.home None)
        (record f { cursor = suc q.0 } ∷ fs) refl refl
        (played_at t n k note saved fs q.1 (suc q.0) i.Play rest m v l w u r f h st refl)))
        (λ o y z so eo. more o (record l { cursor = suc l.cursor; result = y }) z y (record f { cursor = suc q.0 })
        (turned_at t n k note saved fs q.0 q.1 rest m o l w z r y f h so
        (eo ∙ append-nil (pending 0 (record f { cursor = suc q.0 } ∷ fs)) ∙ sym
        (h.notes ∙ same_pending 0 f (record f { cursor = suc q.0 }) fs refl)) le ge at_cursor)
        (omega (arith, le))))))

    -- the turns of `while`
    turns_do : (j : ℕ) → j ≤ fuel → (rest : List Instr) (m : CMemory) (l : Locals) (w : World) (r : ℕ) (f : Frame)
        → IsAt t n k note saved (i.Play ∷ rest) m l w r f fs → l.base ≤ l.cursor
        → Does code n j now note saved fs (machine w now r (f ∷ fs)) rest (turns prog call j now m l)
    unfolding turns
    turns_do zero few rest m l w r f h le = record {
      steps = 0;
      last = machine w now r
          (f ∷ fs);
      by = refl;
      enough = omega arith;
    }
    turns_do (suc j) few rest m l w r f h le =
        subst (λ d. Does code n (suc j) now note saved fs (machine w now r (f ∷ fs)) rest
        (if nat_lt l.cursor (length m.notes) && d
        then pay b m (λ v. turn call (slice_get v.notes l.cursor) now v (record l { cursor = suc l.cursor })
        (turns prog call j now))
        else Fell m l))
        (sym (bare_is t n m.states w.marks h.stands.states num l.home ∙ ap (λ s. is_bare t s w.marks) h.home))
        (turn_by j few rest m l w r f h le (λ o l' z y g at le'. turns_do j (omega (arith, few)) rest o l' z y g at le')
        (mach.noted (later f.cursor (suc f.base)) (f ∷ fs)) refl (noted_head (later f.cursor (suc f.base)) (f ∷ fs))
        (is_bare t f.home w.marks) refl)

    step_play : (rest ys : List Instr) (a : Block) → Rest rest ys a → Rest (i.Play ∷ rest) ys
        (straight t n k.react i.Play a)
    unfolding straight exec
    step_play rest ys a go m l w r f h =
        does_then code n fuel now note saved fs _ rest ys (turns prog call fuel now m (from_base l)) (after a)
        (turns_do fuel (omega arith) rest m (from_base l) w r f (record {
          code = h.code;
          stands = h.stands;
          notes = h.notes;
          note_is = h.note_is;
          saved_is = h.saved_is;
          home = h.home;
          result = h.result;
          within = h.within;
          base = h.base;
          above_base = h.above_base;
          cursor = later_under l.cursor l.base (length m.notes) h.cursor h.base;
          above_cursor = ap (λ x. drop x m.notes)
              (later_at (later l.cursor l.base) l.base (later_over l.cursor l.base).1) ∙ h.above_cursor;
        }) (later_over l.cursor l.base).1) go

    -- ---- all instructions

    step : (x : Instr) (rest ys : List Instr) (a : Block) → IsStraight t x → Rest rest ys a → Rest (x ∷ rest) ys
        (straight t n k.react x a)
    unfolding IsStraight
    step (i.Assign v x) rest ys a good go = step_assign v x rest ys a go
    step (i.Emit e) rest ys a good go = step_emit e rest ys a go
    step (i.Mark s) rest ys a good go = step_mark s rest ys a good go
    step (i.Clear s) rest ys a good go = step_clear s rest ys a good go
    step (i.Keep s) rest ys a good go = step_keep s rest ys a good go
    step (i.Unless j x) rest ys a good go = absurd good
    step (i.Skip j) rest ys a good go = absurd good
    step (i.Call p tag) rest ys a good go = step_call p tag rest ys a go
    step (i.Visit p tag) rest ys a good go = step_visit p tag rest ys a go
    step (i.Send e) rest ys a good go = step_send e rest ys a go
    step (i.SendTo e s p) rest ys a good go = step_send_to e s p rest ys a go
    step i.Play rest ys a good go = step_play rest ys a go
    step (i.Home s) rest ys a good go = step_home s rest ys a go
    step i.Begin rest ys a good go = step_begin rest ys a go
    step i.Pass rest ys a good go = step_pass rest ys a go
    step (i.Ret r) rest ys a good go = absurd good

    returns_at : (x : ℕ) (rest ys : List Instr) → Rest (i.Ret x ∷ rest) ys (c.Return x)
    unfolding exec
    returns_at x rest ys m l w r f h = record {
      world = w;
      stands = h.stands;
      notes = left_notes t n k note saved (i.Ret x ∷ rest) [] m l w r f fs h;
      reached = subst (λ o. Reaches code (machine w now r (f ∷ fs)) (returned w now x o fs)) h.saved_is
          (go_ret (fetched k f.proc f.place (i.Ret x ∷ rest) h.code));
    }

    skips_at : (j : ℕ) (rest ys : List Instr) (a : Block) → Rest (drop j rest) ys a → Rest (i.Skip j ∷ rest) ys a
    skips_at j rest ys a go m l w r f h =
        does_on code n fuel now note saved fs _ _ ys (after a m l)
        (go_skip (fetched k f.proc f.place (i.Skip j ∷ rest) h.code))
        (go m l w r (past f j)
        (moved t n k note saved (i.Skip j ∷ rest) (drop j rest) m l w r f fs h (f.place + 1 + j) m w
        (further (instructions k f.proc) f.place j h.code) h.stands refl))

    fork_by : (j : ℕ) (x : Cond) (rest mid : List Instr) (a d : Block) → Rest rest mid a → Rest (drop j rest) mid d
        → (m : CMemory) (l : Locals) (w : World) (r : ℕ) (f : Frame) → IsAt t n k note saved
        (i.Unless j x ∷ rest) m l w r f fs
        → (o : Result Bool Fault) → holds t x w now r f.home ≡ o
        → Does code n fuel now note saved fs (machine w now r (f ∷ fs)) mid (branch o m (after a m l) (after d m l))
    fork_by j x rest mid a d one_way other_way m l w r f h (Ok true) e =
        does_on code n fuel now note saved fs _ _ mid (after a m l)
        (go_unless_true (fetched k f.proc f.place (i.Unless j x ∷ rest) h.code) e)
        (one_way m l w r (next f) (moved t n k note saved (i.Unless j x ∷ rest) rest m l w r f fs h (f.place + 1) m w
        (onward (instructions k f.proc) f.place h.code) h.stands refl))
    fork_by j x rest mid a d one_way other_way m l w r f h (Ok false) e =
        does_on code n fuel now note saved fs _ _ mid (after d m l)
        (go_unless_false (fetched k f.proc f.place (i.Unless j x ∷ rest) h.code) e)
        (other_way m l w r (past f j)
        (moved t n k note saved (i.Unless j x ∷ rest) (drop j rest) m l w r f fs h (f.place + 1 + j) m w
        (further (instructions k f.proc) f.place j h.code) h.stands refl))
    fork_by j x rest mid a d one_way other_way m l w r f h (Err y) e = record {
      world = w;
      stands = h.stands;
      falls = fall_unless (fetched k f.proc f.place (i.Unless j x ∷ rest) h.code) e;
    }

    forks_at : (j : ℕ) (x : Cond) (rest mid ys : List Instr) (a d e : Block) → Rest rest mid a → Rest
        (drop j rest) mid d
        → Rest mid ys e → Rest (i.Unless j x ∷ rest) ys (c.If (test_of t n x) a d e)
    unfolding exec
    forks_at j x rest mid ys a d e one_way other_way more m l w r f h =
        does_then code n fuel now note saved fs (machine w now r (f ∷ fs)) mid ys
        (branch (truth_c prog (test_of t n x) m now l) m (after a m l) (after d m l)) (after e)
        (subst (λ o. Does code n fuel now note saved fs (machine w now r (f ∷ fs)) mid
        (branch o m (after a m l) (after d m l)))
        (sym (test_is x note saved (i.Unless j x ∷ rest) m l w now r f fs h))
        (fork_by j x rest mid a d one_way other_way m l w r f h (holds t x w now r f.home) refl))
        more

    -- what is written does what the instructions do
    pub sim : {xs ys : List Instr} {a : Block} → Written t n k.react xs ys a → Rest xs ys a
    sim (Stops xs) = stops_at xs
    sim (Steps x rest ys a good more) = step x rest ys a good (sim more)
    sim (Returns r rest ys) = returns_at r rest ys
    sim (Skips j rest ys a more) = skips_at j rest ys a (sim more)
    sim (Forks j further x rest mid ys a d e place one_way other_way more) = forks_at j x rest mid ys a d e (sim one_way)
        (sim other_way) (sim more)

  -- ---- functions

  -- what a function did, from what its body did
  closed_does : (least : ℕ) (now : Now) (note : Option ℕ) (saved : Option Event) (fs : List Frame) (s : CodeState)
      (o : Out)
      → Does code n least now note saved fs s [] o → DoesCall code n least now note saved fs s (closed o)
  closed_does least now note saved fs s (Fell m l) h = record {
    last = machine h.world now h.result (h.frame ∷ fs);
    reached = h.reached;
    frames = λ e. absurd cc;
    stops = ap (λ o. mach.act code o h.world now h.result h.frame fs)
        (fetched k h.frame.proc h.frame.place [] h.at.code);
  }
  closed_does least now note saved fs s (Left m r) h = h
  closed_does least now note saved fs s (Failed m x) h = h
  closed_does least now note saved fs s Starved h = h
  closed_does least now note saved fs s Wrong h = h

  near-pred : (j : ℕ) → j ≤ suc (pred j)
  near-pred zero = omega arith
  near-pred (suc j) = omega arith

  under-pred : (j : ℕ) → pred j ≤ j
  under-pred zero = omega arith
  under-pred (suc j) = omega arith

  -- calls do what frames do
  pub calls_do : AreWritten t n k bodies → (fuel : ℕ) → CallsDo code n (pred fuel) (call_fn prog fuel)
  unfolding call_fn
  calls_do written zero p base home r now note saved m w f fs proc place h =
      record { steps = 0; last = machine w now r (f ∷ fs); by = refl; enough = omega arith }
  calls_do written (suc j) p base home r now note saved m w f fs proc place h =
      closed_does j now note saved fs (machine w now r (f ∷ fs))
      (exec prog (call_fn prog j) j now (bodies p) m (begins base home r))
      (sim (call_fn prog j) j (pred j) (near-pred j) (under-pred j) (calls_do written j) now note saved fs
      (written.each p) m (begins base home r) w r f h)
