-- Calls, sends and turns over notes of a plan, as C.
use Rattle.std.proofs.Common.{◌≡◌, ℕ, zero, suc, ◌+◌, ◌-◌, ◌*◌, ◌^◌, ◌<◌, ◌≤◌, nat_le, nat_lt, pos}
use Rattle.std.proofs.Common.{Bool, true, false}
use Rattle.std.proofs.Common.{cond, ◌&&◌, Ok, List, [], ◌∷◌, ◌++◌, length, Option, Some, None, slice_get, refl}
use Rattle.std.proofs.Common.{sym, ap, ◌∙◌, subst, arith}
use Rattle.std.proofs.lemmas.Bool.Decides.{nat_tests}
use Rattle.flow_base.specs.declared.fault.Fault.{Fault}
use Rattle.flow_base.specs.declared.fault.Fault.TheVariants as faults
use Rattle.actions.specs.Work.{Now, deeper}
use Rattle.c_subset.specs.Trees.{CExpr, Field, Element, Calc}
use Rattle.c_subset.specs.declared.trees.Width.{Width}
use Rattle.c_subset.specs.declared.trees.Comparison.TheVariants.{IsBelow}
use Rattle.c_subset.specs.Trees.{Compare}
use Rattle.c_subset.specs.declared.trees.Arithmetic.TheVariants.{Plus, Less}
use Rattle.c_subset.specs.Trees.{Both, Block, End, If, Set, While}
use Rattle.c_subset.specs.declared.trees.CType.TheVariants.{Truth}
use Rattle.c_subset.specs.Meaning.{CValue, Meaning, with_meaning, gives, one_if, is_true, read}
use Rattle.c_subset.specs.Meaning.{element, Object, Store, Locals, meaning}
use Rattle.c_subset.specs.Running.{Outcome, Falls, Calls, with_value, and_on, with_local, with_values, called}
use Rattle.c_subset.specs.Running.{turns, outcome}
use Rattle.c_subset.proofs.TypeLemmas.{truth-stays}
use Rattle.c_functions.specs.Claims.{Has}
use Rattle.c_functions.proofs.TranslationQuotients.{local-has}
use Rattle.c_functions.proofs.CodePieces.{agree-set, set-there}
use Rattle.c_functions.specs.States.{c_on, c_bare}
use Rattle.c_functions.specs.Statements.{CMemory, Locals as Inner, Out, Fell, Left, Failed, Starved, Wrong}
use Rattle.c_functions.specs.Statements as plan
use Rattle.c_functions.specs.Meaning as p
use Rattle.c_functions.specs.Meaning.{exec}
use Rattle.c_functions.specs.Written.{noted_call}
use Rattle.c_functions.specs.Plans.{Shape, noted_field, on_function, bare_function, noted_function, event_number, word}
use Rattle.c_functions.specs.Plans.{number}
use Rattle.c_functions.specs.Plans.{event_local, depth_local, base_local, home_local, result_local, cursor_local}
use Rattle.c_functions.specs.Plans.{tested_local}
use Rattle.c_functions.specs.Plans.{unless_bad, called_c, ask_home, turn_c, plan_c, note_row}
use Rattle.c_functions.specs.Files.{Represents}
use Rattle.c_functions.proofs.LayoutTests.{both-has}
use Rattle.c_functions.proofs.PlansWords.{below-is, number-means, local-means, field-means, plus-means, less-means}
use Rattle.c_functions.proofs.PlansWords.{compare-has}
use Rattle.c_functions.proofs.PlansWords.{values-given, got, set-goes, if-goes}
use Rattle.c_functions.proofs.PlansEnds.{IsFit, HasRoomFor, IsAt, Ends, EndsCall, Follows, ends-on, program_c}
use Rattle.c_functions.proofs.PlansEnds.{pay-ends}
use Rattle.c_functions.proofs.NotesLemmas.{IsIn}
use Rattle.c_functions.proofs.PlansOutputs.{turns-keep, exec-keeps}
use Rattle.c_functions.proofs.PlansEnds.{push-ends, pop-ends}
use Rattle.c_functions.proofs.PlansBranches.{five, six, HasCalls, at-locals, called-ends, branch-ends, ask-goes}

-- more steps leave more room
pub more-room : (u v most : ℕ) → u ≤ v → suc u * suc most ≤ suc v * suc most
more-room u v most le = grind arith

-- one turn, and then the others
turn-on : (b : Bool) (x : Fault) (m : CMemory) (call : p.Calls) (o : Option ℕ) (now : Now) (v : CMemory) (l : Inner)
    (go : CMemory → Inner → Out)
    → p.unless_met b x m (p.turn call o now v l go) ≡ p.and_on (p.unless_met b x m (p.turn call o now v l Fell)) go
turn-on true x m call o now v l go = refl
turn-on false x m call None now v l go = refl
turn-on false x m call (Some q) now v l go = at (call q now (length v.notes) l.home l.result v)
  where
    at : (o : Out) → p.and_with o (λ w r. go w (record l { result = r }))
        ≡ p.and_on (p.and_with o (λ w r. Fell w (record l { result = r }))) go
    at (Fell w z) = refl
    at (Left w r) = refl
    at (Failed w y) = refl
    at Starved = refl
    at Wrong = refl

module _ (K : Shape) (int : Width) (fit : IsFit K int) (bodies : ℕ → plan.Block) (call : p.Calls) (turns_left : ℕ)
    (calls : Calls) (k : ℕ) (c0 u0 : ℕ) (f0 p0 : Bool) (now : Now) (h : ℕ → ℕ) (most : ℕ) (low : (q : ℕ) → h q ≤ most)
    (room : HasRoomFor K most) (has : HasCalls K h most call calls)
    (event_small : event_number K.names now.event < 2 ^ 17) (depth_small : now.depth ≤ K.bounds.depth) where
  abbrev X : plan.Block → CMemory → Inner → Out
  X a m l = exec (program_c K bodies) call turns_left now a m l

  abbrev Y : Block → Store → Locals → Outcome
  Y a s loc = outcome int calls k a s loc

  abbrev At : ℕ → CMemory → Inner → Store → Locals → Type 0
  At c m l s loc = IsAt K c0 u0 p0 now c m l s loc

  abbrev Goes : ℕ → (CMemory → Inner → Store → Locals → Type 0) → plan.Block → Type 0
  Goes c R a = Follows K c0 u0 f0 (At c) R (X a) (Y (plan_c K a))

  abbrev EndsIn : (CMemory → Inner → Store → Locals → Type 0) → Out → Outcome → Type 0
  EndsIn R o o' = Ends K c0 u0 f0 R o o'

  -- a call
  pub call-ends : (R : CMemory → Inner → Store → Locals → Type 0) (c q : ℕ) (rest : plan.Block)
      → (K.tests.after q ≡ true → f0 ≡ true) → q < K.procs → c0 ≤ c → Goes c R rest → (m : CMemory) (l : Inner)
      (s : Store) (loc : Locals) → At c m l s loc
      → c + suc (h q) ≤ suc m.used * suc most
      → EndsIn R (X (plan.Call q rest) m l) (Y (plan_c K (plan.Call q rest)) s loc)
  unfolding exec plan_c outcome
  call-ends R c q rest fails lt above go m l s loc at space =
      let e = event_number K.names now.event in
      subst (λ (o : Outcome). EndsIn R (X (plan.Call q rest) m l) o)
      (sym (values-given int fit.most s loc
      (event_local ∷ depth_local ∷ base_local ∷ home_local ∷ result_local ∷ [])
      (five e now.depth l.base l.home l.result)
      (λ xs. called (calls q xs s) word 4 loc (λ v z. Y (cond (K.tests.after q) (unless_bad (plan_c K rest))
      (plan_c K rest)) v z)) (
        local-means int fit.most s loc 0 e at.event,
        (
          local-means int fit.most s loc 1 now.depth at.depth,
          (
            local-means int fit.most s loc 2 l.base at.base,
            (
              local-means int fit.most s loc 3 l.home at.home,
              (local-means int fit.most s loc 4 l.result at.result, tt),
            ),
          ),
        ),
      )))
      (called-ends K int fit bodies call turns_left calls k c0 u0 f0 p0 now R (K.tests.after q) (K.tests.after q)
      (λ e. e) fails c
      (call q now l.base l.home l.result m) (calls q (five e now.depth l.base l.home l.result) s) m l s loc (X rest)
      (plan_c K rest) at
      (subst (λ (n : ℕ). EndsCall K n m.used (K.tests.after q) (call q now l.base l.home l.result m)
      (calls q (five e now.depth l.base l.home l.result) s)) at.notes
      (has.procedures q l.base l.home l.result now m s (record {
        proc = lt;
        shows = at.shows;
        fine = at.fine;
        base_le = let b = at.base_le in let n = at.notes in omega (arith, b, n, above);
        home_is = at.home_is;
        result_is = at.result_is;
        depth = depth_small;
        event = event_small;
        room = let n = at.notes in omega (arith, n, space);
      }))) (exec-keeps K bodies call has.keep turns_left now rest) go)

  -- a call with a note or none
  pub noted-ends : (R : CMemory → Inner → Store → Locals → Type 0) (q : ℕ) (tag : Option ℕ) (rest : plan.Block)
      → (K.tests.after q ≡ true → f0 ≡ true) → q < K.procs → ((b : ℕ) → tag ≡ Some b → IsIn K.noted b) → Goes c0 R rest
      → (m : CMemory) (l : Inner) (s : Store) (loc : Locals) → At c0 m l s loc
      → c0 + suc (suc (h q)) ≤ suc m.used * suc most
      → EndsIn R (X (noted_call q tag rest) m l) (Y (plan_c K (noted_call q tag rest)) s loc)
  noted-ends R q None rest fails lt noted go m l s loc at space =
      call-ends R c0 q rest fails lt (omega arith) go m l s loc at (omega (arith, space))
  noted-ends R q (Some b) rest fails lt noted go m l s loc at space =
      let used = at.fine.used in
      let more = more-room m.used K.bounds.steps most used in
      let enough = room.enough b (noted b refl) in
      push-ends K int fit bodies call turns_left calls k c0 u0 f0 p0 now R c0 b (plan.Call q (plan.Pop rest))
      (noted b refl) (omega (arith, space, more, enough)) (omega (arith, space, more, room.few)) m l s loc at
      (λ s' at'. call-ends R (c0 + 1) q (plan.Pop rest) fails lt (omega arith)
      (pop-ends K int fit bodies call turns_left calls k c0 u0 f0 p0 now R c0 rest go)
      (record m { notes = m.notes ++ b ∷ [] }) l s' loc at' (omega (arith, space)))

  -- a send
  pub send-ends : (R : CMemory → Inner → Store → Locals → Type 0) (e q : ℕ) (rest : plan.Block)
      → (K.tests.after q ≡ true → f0 ≡ true) → q < K.procs
      → e < length K.names.events → now.depth < K.bounds.depth → Goes c0 R rest
      → (m : CMemory) (l : Inner) (s : Store) (loc : Locals) → At c0 m l s loc
      → c0 + suc (h q) ≤ suc m.used * suc most
      → EndsIn R (X (plan.Send e q rest) m l) (Y (plan_c K (plan.Send e q rest)) s loc)
  unfolding exec plan_c outcome
  send-ends R e q rest fails lt within deep go m l s loc at space =
      let n = length m.notes in
      let few : suc now.depth < 2 ^ 16 = omega (arith, deep, fit.depth) in
      let next : now.depth + 1 ≡ suc now.depth = omega arith in
      subst (λ (o : Outcome). EndsIn R (X (plan.Send e q rest) m l) o)
      (sym (values-given int fit.most s loc
      (number e ∷ Calc Plus depth_local (number 1) ∷ Field (noted_field K) ∷ number 0 ∷ result_local ∷ [])
      (five e (suc now.depth) n 0 l.result)
      (λ xs. called (calls q xs s) word 4 loc (λ v z. Y (cond (K.tests.after q) (unless_bad (plan_c K rest))
      (plan_c K rest)) v z)) (
        number-means int fit.most s loc e (omega (arith, within, fit.events)),
        (
          plus-means int fit.most s loc depth_local (number 1) now.depth 1 (omega (arith, few)) (omega arith)
              (omega (arith, few)) (local-means int fit.most s loc 1 now.depth at.depth)
              (number-means int fit.most s loc 1 (omega arith)) ∙ ap (λ (d : ℕ). gives word (pos d)) next,
          (
            field-means int fit.most s loc (noted_field K) n at.shows.noted,
            (
              number-means int fit.most s loc 0 (omega arith),
              (local-means int fit.most s loc 4 l.result at.result, tt),
            ),
          ),
        ),
      )))
      (called-ends K int fit bodies call turns_left calls k c0 u0 f0 p0 now R (K.tests.after q) (K.tests.after q)
      (λ e. e) fails c0
      (call q (deeper e now) n 0 l.result m) (calls q (five e (suc now.depth) n 0 l.result) s) m l s loc (X rest)
      (plan_c K rest) at
      (subst (λ (c : ℕ). EndsCall K c m.used (K.tests.after q) (call q (deeper e now) n 0 l.result m)
      (calls q (five e (suc now.depth) n 0 l.result) s)) at.notes
      (has.procedures q n 0 l.result (deeper e now) m s (record {
        proc = lt;
        shows = at.shows;
        fine = at.fine;
        base_le = omega arith;
        home_is = fit.root;
        result_is = at.result_is;
        depth = deep;
        event = omega (arith, within, fit.events);
        room = let c = at.notes in omega (arith, c, space);
      }))) (exec-keeps K bodies call has.keep turns_left now rest) go)

  -- ---- play

  -- at the test of `while`
  abbrev pub Tested : CMemory → Inner → Store → Locals → Type 0
  Tested m l s loc = At c0 m l s loc × (loc Truth 6 ≡ Some (one_if (c_bare K.tree K.numbers l.home m.states)))

  -- the question about the home, and other statements
  asked : (m : CMemory) (l : Inner) (s : Store) (loc : Locals) (rest : Block) → At c0 m l s loc
      → Y (ask_home (bare_function K) rest) s loc
      ≡ Y rest s (with_local loc Truth 6 (one_if (c_bare K.tree K.numbers l.home m.states)))
  asked m l s loc rest at =
      ask-goes K int fit bodies call turns_left calls k c0 u0 f0 p0 now (bare_function K) l.home
      (c_bare K.tree K.numbers l.home m.states) rest s loc
      (has.asks_bare m.states s l.home at.shows.states at.home_is) at.home

  asked-at : (m : CMemory) (l : Inner) (s : Store) (loc : Locals) → At c0 m l s loc
      → Tested m l s (with_local loc Truth 6 (one_if (c_bare K.tree K.numbers l.home m.states)))
  asked-at m l s loc at = (
    at-locals K int fit bodies call turns_left calls k c0 u0 f0 p0 now c0 m l s loc _
        (agree-set 6 6 loc Truth (one_if (c_bare K.tree K.numbers l.home m.states)) (omega arith)) at,
    set-there loc Truth 6 (one_if (c_bare K.tree K.numbers l.home m.states)),
  )

  -- the cursor is set
  cursor-at : (m : CMemory) (l : Inner) (s : Store) (loc : Locals) (i : ℕ) → At c0 m l s loc → i ≤ c0
      → At c0 m (record l { cursor = i }) s (with_local loc word 5 (pos i))
  cursor-at m l s loc i at le = record {
    shows = at.shows;
    fine = at.fine;
    notes = at.notes;
    used = at.used;
    event = at.event;
    depth = at.depth;
    base = at.base;
    home = at.home;
    result = at.result;
    cursor = λ e. refl;
    base_le = at.base_le;
    home_is = at.home_is;
    result_is = at.result_is;
    cursor_le = le;
  }

  cursor-same : (m : CMemory) (l : Inner) (s : Store) (loc : Locals) → At c0 m l s loc
      → At c0 m (record l { cursor = l.cursor }) s loc
  cursor-same m l s loc at = record {
    shows = at.shows;
    fine = at.fine;
    notes = at.notes;
    used = at.used;
    event = at.event;
    depth = at.depth;
    base = at.base;
    home = at.home;
    result = at.result;
    cursor = at.cursor;
    base_le = at.base_le;
    home_is = at.home_is;
    result_is = at.result_is;
    cursor_le = at.cursor_le;
  }

  -- the note at the cursor
  note-means : (m : CMemory) (l : Inner) (s : Store) (loc : Locals) (i q : ℕ) → Represents K None m s
      → loc word 5 ≡ Some (pos (suc i)) → suc i < 2 ^ 32 → slice_get m.notes i ≡ Some q
      → meaning int s loc (Element note_row (Calc Less cursor_local (number 1))) ≡ gives word (pos q)
  unfolding meaning
  note-means m l s loc i q shows there small e =
      let back : suc i - 1 ≡ i = omega arith in
      ap (λ (z : Meaning). with_meaning z (λ j. read (element (slice_get s.rows note_row) j.value)))
      (less-means int fit.most s loc cursor_local (number 1) (suc i) 1 small (omega arith)
      (local-means int fit.most s loc 5 (suc i) there) (number-means int fit.most s loc 1 (omega arith))
      ∙ ap (λ (j : ℕ). gives word (pos j)) back)
      ∙ ap (λ (r : Option (List Object)). read (element r (pos i))) shows.note.there
      ∙ ap read (shows.note.shown i q e)

  -- a call of the function that calls a noted procedure
  note-goes : (rest : Block) (s : Store) (loc : Locals) (args : List CExpr) (vs : List CValue)
      → ((f : List CValue → Outcome) → with_values int s loc args f ≡ f vs)
      → Y (called_c (noted_function K) args rest) s loc
      ≡ called (calls (noted_function K) vs s) word 4 loc (λ v z. Y (unless_bad rest) v z)
  unfolding outcome
  note-goes rest s loc args vs given =
      given (λ xs. called (calls (noted_function K) xs s) word 4 loc (λ v z. Y (unless_bad rest) v z))

  end-falls : (s : Store) (loc : Locals) → Y End s loc ≡ Falls s loc
  unfolding outcome
  end-falls s loc = refl

  -- one turn
  turn-ends : p0 ≡ true → f0 ≡ true → c0 + 1 ≤ suc u0 * suc most → (m : CMemory) (l : Inner) (s : Store) (loc : Locals)
      → Tested m l s loc → l.cursor < length m.notes
      → EndsIn Tested (p.pay K.bounds m (λ v. p.turn call (slice_get v.notes l.cursor) now v
      (record l { cursor = suc l.cursor }) Fell)) (Y (turn_c K) s loc)
  turn-ends sets failing space m l s loc t lt =
      pay-ends K int fit bodies call turns_left calls k c0 u0 f0 p0 now Tested c0 m l s loc
      (λ v. p.turn call (slice_get v.notes l.cursor) now v (record l { cursor = suc l.cursor }) Fell)
      (Set word 5 (Calc Plus cursor_local (number 1))
      (called_c (noted_function K) args (ask_home (bare_function K) End))) (λ e. failing) t.0 paid
    where
      note : CExpr
      note = Element note_row (Calc Less cursor_local (number 1))

      args : List CExpr
      args = event_local ∷ depth_local ∷ Field (noted_field K) ∷ home_local ∷ result_local ∷ note ∷ []

      there : (q : ℕ) × (slice_get m.notes l.cursor ≡ Some q)
      there = got m.notes l.cursor lt

      v : CMemory
      v = record m { used = m.used + 1 }

      l' : Inner
      l' = record l { cursor = suc l.cursor }

      after : Locals
      after = with_local loc word 5 (pos (suc l.cursor))

      few : length m.notes < 2 ^ 32
      few = t.0.shows.noted.small

      e : ℕ
      e = event_number K.names now.event

      answered : Follows K c0 u0 f0 (At c0) Tested (λ w z. Fell w z) (Y (ask_home (bare_function K) End))
      answered w z s loc at = λ room.
          let after = with_local loc Truth 6 (one_if (c_bare K.tree K.numbers z.home w.states)) in
          (s, after, asked w z s loc End at ∙ end-falls s after, asked-at w z s loc at)

      paid : (s' : Store) → At c0 v l s' loc → length m.outputs < m.used + 1
          → EndsIn Tested (p.turn call (slice_get m.notes l.cursor) now v l' Fell)
          (Y (Set word 5 (Calc Plus cursor_local (number 1))
          (called_c (noted_function K) args (ask_home (bare_function K) End))) s' loc)
      paid s' at spare =
          let q = there.0 in
          let known = at.fine.noted l.cursor q there.1 in
          let at' : At c0 v l' s' after = cursor-at v l s' loc (suc l.cursor) at
          (let c = at.notes in omega (arith, c, lt)) in
          let next : l.cursor + 1 ≡ suc l.cursor = omega arith in
          subst (λ (o : Option ℕ). EndsIn Tested (p.turn call o now v l' Fell)
          (Y (Set word 5 (Calc Plus cursor_local (number 1))
          (called_c (noted_function K) args (ask_home (bare_function K) End))) s' loc)) (sym there.1)
          (subst (λ (o : Outcome). EndsIn Tested (p.turn call (Some q) now v l' Fell) o)
          (sym (set-goes int fit.most calls k
          (called_c (noted_function K) args (ask_home (bare_function K) End)) s' loc 5 (suc l.cursor)
          (Calc Plus cursor_local (number 1)) (omega (arith, lt, few))
          (plus-means int fit.most s' loc cursor_local (number 1) l.cursor 1 (omega (arith, lt, few)) (omega arith)
          (omega (arith, lt, few)) (local-means int fit.most s' loc 5 l.cursor (at.cursor sets))
          (number-means int fit.most s' loc 1 (omega arith)) ∙ ap (λ (d : ℕ). gives word (pos d)) next)
          ∙ note-goes (ask_home (bare_function K) End) s' after args
          (six e now.depth (length m.notes) l.home l.result q)
          (λ f. values-given int fit.most s' after args (six e now.depth (length m.notes) l.home l.result q) f (
            local-means int fit.most s' after 0 e at'.event,
            (
              local-means int fit.most s' after 1 now.depth at'.depth,
              (
                field-means int fit.most s' after (noted_field K) (length m.notes) at'.shows.noted,
                (
                  local-means int fit.most s' after 3 l.home at'.home,
                  (
                    local-means int fit.most s' after 4 l.result at'.result,
                    (note-means v l' s' after l.cursor q at'.shows refl (omega (arith, lt, few)) there.1, tt),
                  ),
                ),
              ),
            ),
          ))))
          (called-ends K int fit bodies call turns_left calls k c0 u0 f0 p0 now Tested true (K.tests.after there.0)
          (λ e. refl) (λ e. failing) c0
          (call q now (length m.notes) l.home l.result v)
          (calls (noted_function K) (six e now.depth (length m.notes) l.home l.result q) s') v l' s' after
          (λ w z. Fell w z)
          (ask_home (bare_function K) End) at'
          (subst (λ (n : ℕ). EndsCall K n (m.used + 1) (K.tests.after q) (call q now (length m.notes) l.home l.result v)
          (calls (noted_function K) (six e now.depth (length m.notes) l.home l.result q) s')) at'.notes
          (has.notes q (length m.notes) l.home l.result now v s' known (record {
            proc = fit.noted q known;
            shows = at'.shows;
            fine = at'.fine;
            base_le = omega arith;
            home_is = at'.home_is;
            result_is = at'.result_is;
            depth = depth_small;
            event = event_small;
            room = let c = at'.notes in let u = t.0.used in let lo = low q in
                let more = more-room u0 m.used most u in
                let twice : suc (m.used + 1) * suc most ≡ suc m.used * suc most + suc most = grind arith in
                omega (arith, c, space, more, lo, twice);
          }))) (λ w z n room. room) answered))

  -- the test of `while`
  test-has : p0 ≡ true → (m : CMemory) (l : Inner) (s : Store) (loc : Locals) → Tested m l s loc
      → Has int s loc (Both (Compare IsBelow cursor_local (Field (noted_field K))) tested_local)
      (one_if (nat_lt l.cursor (length m.notes) && c_bare K.tree K.numbers l.home m.states))
  test-has sets m l s loc t =
      both-has int s loc (Compare IsBelow cursor_local (Field (noted_field K))) tested_local
      (nat_lt l.cursor (length m.notes)) (c_bare K.tree K.numbers l.home m.states)
      (subst (λ (b : Bool). Has int s loc (Compare IsBelow cursor_local (Field (noted_field K))) (one_if b))
      (below-is l.cursor (length m.notes))
      (compare-has int fit.most s loc IsBelow cursor_local (Field (noted_field K)) l.cursor (length m.notes)
      (let a = t.0.cursor_le in let n = t.0.notes in let f = t.0.shows.noted.small in omega (arith, a, n, f))
      t.0.shows.noted.small (local-means int fit.most s loc 5 l.cursor (t.0.cursor sets))
      (field-means int fit.most s loc (noted_field K) (length m.notes) t.0.shows.noted)))
      (local-has int s loc Truth 6 (one_if (c_bare K.tree K.numbers l.home m.states)) t.1)

  and_left : (a b : Bool) → (a && b) ≡ true → a ≡ true
  and_left true b e = refl
  and_left false b e = absurd cc

  -- the turns
  loop-ends : p0 ≡ true → f0 ≡ true → c0 + 1 ≤ suc u0 * suc most → (j n : ℕ) → j < n → (m : CMemory) (l : Inner)
      (s : Store) (loc : Locals) → Tested m l s loc
      → EndsIn (At c0) (p.turns (program_c K bodies) call j now m l)
      (turns n (λ v z. meaning int v z (Both (Compare IsBelow cursor_local (Field (noted_field K))) tested_local))
      (λ v z. Y (turn_c K) v z) s loc)
  unfolding turns p.turns
  loop-ends sets failing space zero n lt m l s loc t = λ room. tt
  loop-ends sets failing space (suc j) zero lt m l s loc t = absurd (omega (arith, lt))
  loop-ends sets failing space (suc j) (suc n) lt m l s loc t =
      let c = test-has sets m l s loc t in
      let b = nat_lt l.cursor (length m.notes) && c_bare K.tree K.numbers l.home m.states in
      let test = λ (v : Store) (z : Locals). meaning int v z
      (Both (Compare IsBelow cursor_local (Field (noted_field K))) tested_local) in
      let others = and_on (Y (turn_c K) s loc) (turns n test (λ v z. Y (turn_c K) v z)) in
      subst (λ (o : Outcome). EndsIn (At c0) (p.turns (program_c K bodies) call (suc j) now m l) o)
      (sym (ap (λ (m : Meaning). with_value m (λ x. cond (is_true x.value) others (Falls s loc))) c.1
      ∙ ap (λ (b : Bool). cond b others (Falls s loc)) (truth-stays b)))
      (at b refl (λ m l s loc t. loop-ends sets failing space j n (omega (arith, lt)) m l s loc t))
    where
      at : (b : Bool) → (nat_lt l.cursor (length m.notes) && c_bare K.tree K.numbers l.home m.states) ≡ b
          → ((m : CMemory) (l : Inner) (s : Store) (loc : Locals) → Tested m l s loc
          → EndsIn (At c0) (p.turns (program_c K bodies) call j now m l) (turns n
          (λ v z. meaning int v z (Both (Compare IsBelow cursor_local (Field (noted_field K))) tested_local))
          (λ v z. Y (turn_c K) v z) s loc))
          → EndsIn (At c0) (cond b
          (p.pay K.bounds m (λ v. p.turn call (slice_get v.notes l.cursor) now v (record l { cursor = suc l.cursor })
          (p.turns (program_c K bodies) call j now))) (Fell m l))
          (cond b (and_on (Y (turn_c K) s loc) (turns n
          (λ v z. meaning int v z (Both (Compare IsBelow cursor_local (Field (noted_field K))) tested_local))
          (λ v z. Y (turn_c K) v z))) (Falls s loc))
      at false e more = λ room. (s, loc, refl, t.0)
      at true e more =
          let first = and_left (nat_lt l.cursor (length m.notes)) (c_bare K.tree K.numbers l.home m.states) e in
          let lt : l.cursor < length m.notes = grind (arith, nat_tests) in
          subst (λ (o : Out). EndsIn (At c0) o (and_on (Y (turn_c K) s loc) (turns n
          (λ v z. meaning int v z (Both (Compare IsBelow cursor_local (Field (noted_field K))) tested_local))
          (λ v z. Y (turn_c K) v z))))
          (sym (turn-on (nat_le K.bounds.steps m.used) faults.Steps m call (slice_get m.notes l.cursor) now
          (record m { used = m.used + 1 }) (record l { cursor = suc l.cursor })
          (p.turns (program_c K bodies) call j now)))
          (ends-on K c0 u0 f0 Tested (At c0)
          (p.pay K.bounds m (λ v. p.turn call (slice_get v.notes l.cursor) now v
          (record l { cursor = suc l.cursor }) Fell))
          (Y (turn_c K) s loc) (p.turns (program_c K bodies) call j now)
          (turns n (λ v z. meaning int v z (Both (Compare IsBelow cursor_local (Field
          (noted_field K))) tested_local))
          (λ v z. Y (turn_c K) v z))
          (turn-ends sets failing space m l s loc t lt)
          (turns-keep K bodies call has.keep j now) more)

  -- the turns from the base on
  pub play-ends : (R : CMemory → Inner → Store → Locals → Type 0) (rest : plan.Block) → turns_left < k
      → c0 + 1 ≤ suc u0 * suc most → p0 ≡ true → f0 ≡ true → Goes c0 R rest → Goes c0 R (plan.Play rest)
  unfolding exec plan_c outcome
  play-ends R rest fuel space sets failing go m l s loc at =
      subst (λ (o : Outcome). EndsIn R (X (plan.Play rest) m l) o)
      (sym (if-goes int fit.most calls k
      (ask_home (bare_function K) (While (Both (Compare IsBelow cursor_local (Field (noted_field K))) tested_local)
      (turn_c K) (plan_c K rest))) s loc (nat_lt l.cursor l.base) (Compare IsBelow cursor_local base_local)
      (Set word 5 base_local End) End
      (subst (λ (b : Bool). Has int s loc (Compare IsBelow cursor_local base_local) (one_if b))
      (below-is l.cursor l.base)
      (compare-has int fit.most s loc IsBelow cursor_local base_local l.cursor l.base
      (let a = at.cursor_le in let n = at.notes in let f = at.shows.noted.small in omega (arith, a, n, f))
      (let a = at.base_le in let n = at.notes in let f = at.shows.noted.small in omega (arith, a, n, f))
      (local-means int fit.most s loc 5 l.cursor (at.cursor sets)) (local-means int fit.most s loc 2 l.base at.base)))))
      (by (nat_lt l.cursor l.base))
    where
      -- from the question on
      on : (l : Inner) (loc : Locals) → At c0 m l s loc
          → EndsIn R (p.and_on (p.turns (program_c K bodies) call turns_left now m l) (X rest))
          (Y (ask_home (bare_function K) (While (Both (Compare IsBelow cursor_local (Field
          (noted_field K))) tested_local)
          (turn_c K) (plan_c K rest))) s loc)
      on l loc at =
          let t = asked-at m l s loc at in
          let after = with_local loc Truth 6 (one_if (c_bare K.tree K.numbers l.home m.states)) in
          subst (λ (o : Outcome). EndsIn R (p.and_on (p.turns (program_c K bodies) call turns_left now m l) (X rest)) o)
          (sym (asked m l s loc (While (Both (Compare IsBelow cursor_local (Field (noted_field K))) tested_local)
          (turn_c K) (plan_c K rest)) at))
          (ends-on K c0 u0 f0 (At c0) R (p.turns (program_c K bodies) call turns_left now m l)
          (turns k (λ v z. meaning int v z (Both (Compare IsBelow cursor_local (Field (noted_field K))) tested_local))
          (λ v z. Y (turn_c K) v z) s after) (X rest) (Y (plan_c K rest))
          (loop-ends sets failing space turns_left k fuel m l s after t)
          (exec-keeps K bodies call has.keep turns_left now rest) go)

      by : (b : Bool)
          → EndsIn R (p.and_on (p.turns (program_c K bodies) call turns_left now m
          (record l { cursor = cond b l.base l.cursor })) (X rest))
          (and_on (cond b (Y (Set word 5 base_local End) s loc) (Falls s loc))
          (λ v z. Y (ask_home (bare_function K)
          (While (Both (Compare IsBelow cursor_local (Field (noted_field K))) tested_local) (turn_c K) (plan_c K rest)))
          v z))
      by true =
          let after = with_local loc word 5 (pos l.base) in
          subst (λ (o : Outcome). EndsIn R (p.and_on (p.turns (program_c K bodies) call turns_left now m
          (record l { cursor = l.base })) (X rest))
          (and_on o (λ v z. Y (ask_home (bare_function K)
          (While (Both (Compare IsBelow cursor_local (Field (noted_field K))) tested_local) (turn_c K) (plan_c K rest)))
          v z)))
          (sym (set-goes int fit.most calls k End s loc 5 l.base base_local
          (let a = at.base_le in let n = at.notes in let f = at.shows.noted.small in omega (arith, a, n, f))
          (local-means int fit.most s loc 2 l.base at.base)))
          (on (record l { cursor = l.base }) after (cursor-at m l s loc l.base at at.base_le))
      by false = on (record l { cursor = l.cursor }) loc (cursor-same m l s loc at)

  -- ---- tests of the home

  pub home_on-ends : (R : CMemory → Inner → Store → Locals → Type 0) (x y rest : plan.Block) → Goes c0 (At c0) x
      → Goes c0 (At c0) y → Goes c0 R rest → Goes c0 R (plan.If plan.HomeOn x y rest)
  unfolding exec plan_c
  home_on-ends R x y rest one other go m l s loc at =
      let b = c_on K.tree K.numbers l.home m.states in
      let after = with_local loc Truth 6 (one_if b) in
      let at' = at-locals K int fit bodies call turns_left calls k c0 u0 f0 p0 now c0 m l s loc after
      (agree-set 6 6 loc Truth (one_if b) (omega arith)) at in
      subst (λ (o : Outcome). EndsIn R (p.and_on (p.branch (Ok b) m (X x m l) (X y m l)) (X rest)) o)
      (sym (ask-goes K int fit bodies call turns_left calls k c0 u0 f0 p0 now (on_function K) l.home b
      (If tested_local (plan_c K x) (plan_c K y) (plan_c K rest)) s loc
      (has.asks_on m.states s l.home at.shows.states at.home_is) at.home))
      (branch-ends K int fit bodies call turns_left calls k c0 u0 f0 p0 now R tested_local b x y rest m l s after
      (local-has int s after Truth 6 (one_if b) (set-there loc Truth 6 (one_if b))) (λ t. one m l s after at')
      (λ t. other m l s after at') has.keep go)

  pub home_bare-ends : (R : CMemory → Inner → Store → Locals → Type 0) (x y rest : plan.Block) → Goes c0 (At c0) x
      → Goes c0 (At c0) y → Goes c0 R rest → Goes c0 R (plan.If plan.HomeBare x y rest)
  unfolding exec plan_c
  home_bare-ends R x y rest one other go m l s loc at =
      let t = asked-at m l s loc at in
      let b = c_bare K.tree K.numbers l.home m.states in
      let after = with_local loc Truth 6 (one_if b) in
      subst (λ (o : Outcome). EndsIn R (p.and_on (p.branch (Ok b) m (X x m l) (X y m l)) (X rest)) o)
      (sym (asked m l s loc (If tested_local (plan_c K x) (plan_c K y) (plan_c K rest)) at))
      (branch-ends K int fit bodies call turns_left calls k c0 u0 f0 p0 now R tested_local b x y rest m l s after
      (local-has int s after Truth 6 (one_if b) t.1) (λ e. one m l s after t.0) (λ e. other m l s after t.0)
      has.keep go)
