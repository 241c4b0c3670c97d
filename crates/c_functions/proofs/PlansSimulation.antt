-- The C of a procedure does what its plan does, instruction by instruction.
use Rattle.std.proofs.Common.{◌≡◌, ℕ, zero, suc, ◌+◌, ◌*◌, ◌^◌, ◌<◌, ◌≤◌, nat_lt, Bool, true, false, ◌||◌}
use Rattle.std.proofs.Common.{List, [], ◌∷◌, length, drop, Option, Some, None, slice_get, refl, sym}
use Rattle.std.proofs.Common.{subst, arith}
use Rattle.std.specs.Option.{option_map_or}
use Rattle.std.proofs.lemmas.Bool.Decides.{nat_tests}
use Rattle.std.proofs.lemmas.Bool.{and_parts}
use Rattle.active_config.specs.Tree.{Tree, state_count, parent_of, comp_of, is_or}
use Rattle.actions.specs.Work.{Now}
use Rattle.code_language.specs.Instrs.{Cond, Instr}
use Rattle.code_language.specs.Instrs as i
use Rattle.code_language.specs.WellFormed.{Known, is_state, is_event, is_proc, note_known, instr_known}
use Rattle.code_language.specs.WellFormed.{cond_known, instr_typed, instr_keeps}
use Rattle.code_language.specs.WellFormed.{cond_keeps}
use Rattle.code_language.proofs.AssignLemmas.{assign_typed, test_typed}
use Rattle.c_subset.specs.Trees.{Block}
use Rattle.c_subset.specs.declared.trees.Width.{Width}
use Rattle.c_subset.specs.Meaning.{one_if, Store, Locals}
use Rattle.c_subset.specs.Running.{Outcome, Calls, outcome}
use Rattle.c_functions.specs.Claims.{Has}
use Rattle.c_functions.specs.States.{or_parent}
use Rattle.c_functions.specs.Statements.{CMemory, Locals as Inner, Check, Out}
use Rattle.c_functions.specs.Statements as plan
use Rattle.c_functions.specs.Meaning as p
use Rattle.c_functions.specs.Meaning.{check, exec}
use Rattle.c_functions.specs.Written.{Written, Stops, Steps, Returns as WrittenReturns, Skips, Forks, IsStraight}
use Rattle.c_functions.specs.Written.{IsOrChild, straight, test_of}
use Rattle.c_functions.specs.Written.{takes_check, bare_check, on_check, set_block, unset_block, keep_block}
use Rattle.c_functions.specs.Written.{noted_call, last_under}
use Rattle.c_functions.proofs.StatesTests.{or_parent_is}
use Rattle.c_functions.specs.Notes.{has_note}
use Rattle.c_functions.specs.Failing.{can_fail}
use Rattle.c_functions.specs.Plans.{Shape, event_number, bad, number, check_c, plays, plan_c, result_local}
use Rattle.c_functions.proofs.PlansWords.{number-means, local-means, return-gives}
use Rattle.c_functions.proofs.PlansEnds.{IsFit, HasRoomFor, IsAt, HasLeft, Follows, program_c, pay-ends, choose-ends}
use Rattle.c_functions.proofs.PlansEnds.{keep-ends}
use Rattle.c_functions.proofs.PlansEnds.{mark-ends, put-ends}
use Rattle.c_functions.proofs.PlansTests.{on-tells, bare-tells, takes-tells, last-tells, event-tells, result-tells}
use Rattle.c_functions.proofs.PlansTests.{not-tells}
use Rattle.c_functions.proofs.FailingLemmas.{or-left}
use Rattle.c_functions.proofs.NotesLemmas.{IsIn, or-right, tag-noted}
use Rattle.c_functions.proofs.PlansOutputs.{exec-keeps}
use Rattle.c_functions.proofs.PlansBranches.{HasCalls, if-ends, deep-ends, home-ends}
use Rattle.c_functions.proofs.PlansBranches.{base-ends}
use Rattle.c_functions.proofs.PlansCalls.{more-room, noted-ends, send-ends, play-ends, home_on-ends, home_bare-ends}
use Rattle.c_functions.proofs.PlansAssignments.{assign-ends, arithmetic-ends}

-- what instructions may name, in a shape
abbrev pub known_in : Shape → Known
known_in K = record { tree = K.tree; names = K.names; procs = K.procs }

-- what is needed of an instruction of a procedure of height m, whose result callers test where f0 says so
pub record IsGood (K : Shape) (react : ℕ) (f0 : Bool) (h : ℕ → ℕ) (m : ℕ) (x : Instr) : Type 0 where
  pub known : instr_known (known_in K) x ≡ true
  pub typed : instr_typed (known_in K) x ≡ true
  pub keeps : instr_keeps (known_in K) x ≡ true
  pub lower : (q : ℕ) (tag : Option ℕ) → x ≡ i.Call q tag → h q < m
  pub noted : (b : ℕ) → has_note b x ≡ true → IsIn K.noted b
  pub returned : (r : ℕ) → x ≡ i.Ret r → r < bad
  pub compared : (j r : ℕ) → x ≡ i.Unless j (i.Result r) → r < bad
  pub fails : can_fail K.tests K.names react x ≡ true → f0 ≡ true

-- each instruction of a list is such
abbrev pub AreGood : Shape → ℕ → Bool → (ℕ → ℕ) → ℕ → List Instr → Type 0
AreGood K react f0 h m xs = (j : ℕ) (x : Instr) → slice_get xs j ≡ Some x → IsGood K react f0 h m x

good-rest : (K : Shape) (react : ℕ) (f0 : Bool) (h : ℕ → ℕ) (m : ℕ) (x : Instr) (xs : List Instr)
    → AreGood K react f0 h m (x ∷ xs) → AreGood K react f0 h m xs
good-rest K react f0 h m x xs g j y e = g (suc j) y e

good-drop : (K : Shape) (react : ℕ) (f0 : Bool) (h : ℕ → ℕ) (m k : ℕ) (xs : List Instr) → AreGood K react f0 h m xs
    → AreGood K react f0 h m (drop k xs)
good-drop K react f0 h m zero xs g = g
good-drop K react f0 h m (suc k) [] g = g
good-drop K react f0 h m (suc k) (x ∷ xs) g = good-drop K react f0 h m k xs (good-rest K react f0 h m x xs g)

below : (a b : ℕ) → nat_lt a b ≡ true → a < b
below a b e = grind (arith, nat_tests)

kept-parent : (t : Tree) (o : Option ℕ) → option_map_or (λ q. is_or (comp_of t q)) o false ≡ true
    → (q : ℕ) × (o ≡ Some q) × (is_or (comp_of t q) ≡ true)
kept-parent t None e = absurd cc
kept-parent t (Some q) e = (q, refl, e)

-- ---- plans that play

keep-plays : (n : ℕ → ℕ) (s : ℕ) (o : Option ℕ) (a : plan.Block) → plays a ≡ true
    → plays (keep_block n s o a) ≡ true
unfolding plays
keep-plays n s None a e = e
keep-plays n s (Some q) a e = e

call-plays : (q : ℕ) (tag : Option ℕ) (a : plan.Block) → plays a ≡ true → plays (noted_call q tag a) ≡ true
unfolding plays
call-plays q None a e = e
call-plays q (Some b) a e = e

-- an instruction before a plan that plays
plays-after : (t : Tree) (n : ℕ → ℕ) (react : ℕ) (x : Instr) (a : plan.Block) → plays a ≡ true
    → plays (straight t n react x a) ≡ true
unfolding straight plays
plays-after t n react (i.Assign v x) a e = e
plays-after t n react (i.Emit z) a e = e
plays-after t n react (i.Mark s) a e = or-right (plays (set_block n s (or_parent t (parent_of t s)))) _ e
plays-after t n react (i.Clear s) a e = or-right (plays (unset_block s (or_parent t (parent_of t s)))) _ e
plays-after t n react (i.Keep s) a e = keep-plays n s (parent_of t s) a e
plays-after t n react (i.Unless k x) a e = e
plays-after t n react (i.Skip k) a e = e
plays-after t n react (i.Call q tag) a e = call-plays q tag a e
plays-after t n react (i.Visit q tag) a e = call-plays q tag a e
plays-after t n react (i.Send z) a e = e
plays-after t n react (i.SendTo z s q) a e = e
plays-after t n react i.Play a e = refl
plays-after t n react (i.Home s) a e = e
plays-after t n react i.Begin a e = e
plays-after t n react i.Pass a e = e
plays-after t n react (i.Ret r) a e = e

module _ (K : Shape) (int : Width) (fit : IsFit K int) (bodies : ℕ → plan.Block) (call : p.Calls) (turns_left : ℕ)
    (calls : Calls) (k : ℕ) (c0 u0 : ℕ) (f0 p0 : Bool) (now : Now) (h : ℕ → ℕ) (most : ℕ) (low : (q : ℕ) → h q ≤ most)
    (room : HasRoomFor K most) (has : HasCalls K h most call calls)
    (event_small : event_number K.names now.event < 2 ^ 17) (depth_small : now.depth ≤ K.bounds.depth)
    (fuel : turns_left < k) (react : ℕ) (react_there : react < K.procs)
    (parents : (s q : ℕ) → s < state_count K.tree → parent_of K.tree s ≡ Some q → q < state_count K.tree)
    (height : ℕ) (space : c0 + suc height ≤ suc u0 * suc most) where
  abbrev X : plan.Block → CMemory → Inner → Out
  X a m l = exec (program_c K bodies) call turns_left now a m l

  abbrev Y : Block → Store → Locals → Outcome
  Y a s loc = outcome int calls k a s loc

  abbrev At : CMemory → Inner → Store → Locals → Type 0
  At m l s loc = IsAt K c0 u0 p0 now c0 m l s loc

  -- statements and their C
  abbrev pub Does : plan.Block → Type 0
  Does a = Follows K c0 u0 f0 (IsAt K c0 u0 p0 now c0) (IsAt K c0 u0 p0 now c0)
      (exec (program_c K bodies) call turns_left now a) (outcome int calls k (plan_c K a))

  end-does : Does plan.End
  unfolding exec plan_c outcome
  end-does m l s loc at = λ room. (s, loc, refl, at)

  -- ---- states

  set-does : (s : ℕ) (o : Option ℕ) → s < state_count K.tree → or_parent K.tree (parent_of K.tree s) ≡ o
      → Does (set_block K.numbers s o)
  set-does s None lt e =
      mark-ends K int fit bodies call turns_left calls k c0 u0 f0 p0 now At c0 s true plan.End lt e end-does
  set-does s (Some q) lt e =
      let up = or_parent_is K.tree s q e in
      choose-ends K int fit bodies call turns_left calls k c0 u0 f0 p0 now At c0 q (K.numbers s) plan.End up.1
      (parents s q lt up.0) (fit.numbers s lt) end-does

  unset-does : (s : ℕ) (o : Option ℕ) → s < state_count K.tree → or_parent K.tree (parent_of K.tree s) ≡ o
      → Does (unset_block s o)
  unset-does s None lt e =
      mark-ends K int fit bodies call turns_left calls k c0 u0 f0 p0 now At c0 s false plan.End lt e end-does
  unset-does s (Some q) lt e =
      let up = or_parent_is K.tree s q e in
      choose-ends K int fit bodies call turns_left calls k c0 u0 f0 p0 now At c0 q 0 plan.End up.1 (parents s q lt up.0)
      (omega arith) end-does

  -- an `if` over a test without arithmetic
  if-does : (a : Check) (x y rest : plan.Block)
      → ((m : CMemory) (l : Inner) (s : Store) (loc : Locals) → At m l s loc
      → Has int s loc (check_c K a) (one_if (check (program_c K bodies) a m now l)))
      → Does x → Does y → Does rest → Does (plan.If (plan.Simple a) x y rest)
  if-does a x y rest tells one other go m l s loc at =
      if-ends K int fit bodies call turns_left calls k c0 u0 f0 p0 now At a x y rest m l s loc (tells m l s loc at)
      (λ e. one m l s loc at) (λ e. other m l s loc at) has.keep go

  mark-does : (s : ℕ) (rest : plan.Block) → s < state_count K.tree → Does rest
      → Does (straight K.tree K.numbers react (i.Mark s) rest)
  unfolding straight
  mark-does s rest lt go =
      if-does (takes_check K.tree K.numbers (parent_of K.tree s))
      (set_block K.numbers s (or_parent K.tree (parent_of K.tree s))) plan.End rest
      (λ m l v loc at. takes-tells K int fit bodies call turns_left calls k c0 u0 f0 p0 now m l v loc c0 at
      (parent_of K.tree s) (λ q e. parents s q lt e))
      (set-does s (or_parent K.tree (parent_of K.tree s)) lt refl) end-does go

  clear-does : (s : ℕ) (rest : plan.Block) → s < state_count K.tree → Does rest
      → Does (straight K.tree K.numbers react (i.Clear s) rest)
  unfolding straight
  clear-does s rest lt go =
      if-does (bare_check K.tree K.numbers s) (unset_block s (or_parent K.tree (parent_of K.tree s))) plan.End rest
      (λ m l v loc at. bare-tells K int fit bodies call turns_left calls k c0 u0 f0 p0 now m l v loc c0 at s lt)
      (unset-does s (or_parent K.tree (parent_of K.tree s)) lt refl) end-does go

  keep-does : (s : ℕ) (rest : plan.Block) → s < state_count K.tree → IsOrChild K.tree s → Does rest
      → Does (straight K.tree K.numbers react (i.Keep s) rest)
  unfolding straight
  keep-does s rest lt child go =
      subst (λ (o : Option ℕ). Does (keep_block K.numbers s o rest)) (sym child.up)
      (keep-ends K int fit bodies call turns_left calls k c0 u0 f0 p0 now At c0 child.parent (K.numbers s) rest child.or
      (parents s child.parent lt child.up) (fit.numbers s lt) go)

  -- ---- steps, calls and sends

  emit-does : (e : ℕ) (rest : plan.Block) → (K.tests.steps ≡ true → f0 ≡ true) → e < length K.names.events → Does rest
      → Does (straight K.tree K.numbers react (i.Emit e) rest)
  unfolding straight exec plan_c
  emit-does e rest fails lt go m l s loc at =
      pay-ends K int fit bodies call turns_left calls k c0 u0 f0 p0 now At c0 m l s loc (λ v. X (plan.Put e rest) v l)
      (plan_c K (plan.Put e rest)) fails at
      (λ s' at' spare. put-ends K int fit bodies call turns_left calls k c0 u0 f0 p0 now At c0 e rest
      (omega (arith, lt, fit.events)) (exec-keeps K bodies call has.keep turns_left now rest) go
      (record m { used = m.used + 1 }) l s' loc at' spare)

  call-does : (q : ℕ) (tag : Option ℕ) (rest : plan.Block) → (K.tests.after q ≡ true → f0 ≡ true) → q < K.procs
      → ((b : ℕ) → tag ≡ Some b → IsIn K.noted b)
      → h q < height → Does rest → Does (straight K.tree K.numbers react (i.Call q tag) rest)
  unfolding straight
  call-does q tag rest fails lt noted lower go m l s loc at =
      let u = at.used in
      let more = more-room u0 m.used most u in
      noted-ends K int fit bodies call turns_left calls k c0 u0 f0 p0 now h most low room has event_small depth_small At
      q tag rest fails lt noted go m l s loc at (omega (arith, space, more, lower))

  -- room for one more call after a step
  paid-room : (m : CMemory) (q : ℕ) → u0 ≤ m.used → c0 + suc (suc (h q)) ≤ suc (m.used + 1) * suc most
  paid-room m q u =
      let more = more-room u0 m.used most u in
      let twice : suc (m.used + 1) * suc most ≡ suc m.used * suc most + suc most = grind arith in
      let lo = low q in
      omega (arith, space, more, twice, lo)

  visit-does : (q : ℕ) (tag : Option ℕ) (rest : plan.Block)
      → ((K.tests.steps || K.tests.after q) ≡ true → f0 ≡ true) → q < K.procs
      → ((b : ℕ) → tag ≡ Some b → IsIn K.noted b)
      → Does rest → Does (straight K.tree K.numbers react (i.Visit q tag) rest)
  unfolding straight exec plan_c
  visit-does q tag rest fails lt noted go m l s loc at =
      pay-ends K int fit bodies call turns_left calls k c0 u0 f0 p0 now At c0 m l s loc
      (λ v. X (noted_call q tag rest) v l) (plan_c K (noted_call q tag rest))
      (λ e. fails (or-left K.tests.steps (K.tests.after q) e)) at
      (λ s' at' spare. noted-ends K int fit bodies call turns_left calls k c0 u0 f0 p0 now h most low room has
      event_small depth_small At q tag rest (λ e. fails (or-right K.tests.steps (K.tests.after q) e)) lt noted go
      (record m { used = m.used + 1 }) l s' loc at' (paid-room m q at.used))

  send-does : (e : ℕ) (rest : plan.Block)
      → ((K.tests.steps || (K.tests.depth || K.tests.after react)) ≡ true → f0 ≡ true) → e < length K.names.events
      → Does rest
      → Does (straight K.tree K.numbers react (i.Send e) rest)
  unfolding straight exec plan_c
  send-does e rest fails lt go m l s loc at =
      deep-ends K int fit bodies call turns_left calls k c0 u0 f0 p0 now At c0 (plan.Pay
      (plan.Send e react rest)) m l s loc
      (λ t. fails (or-right K.tests.steps _ (or-left K.tests.depth (K.tests.after react) t))) at
      depth_small (λ deep. pay-ends K int fit bodies call turns_left calls k c0 u0 f0 p0 now At c0 m l s loc
      (λ v. X (plan.Send e react rest) v l) (plan_c K (plan.Send e react rest))
      (λ t. fails (or-left K.tests.steps _ t)) at
      (λ s' at' spare. send-ends K int fit bodies call turns_left calls k c0 u0 f0 p0 now h most low room has
      event_small depth_small At e react rest
      (λ t. fails (or-right K.tests.steps _ (or-right K.tests.depth (K.tests.after react) t))) react_there lt deep go
      (record m { used = m.used + 1 }) l s' loc at'
      (let r = paid-room m react at.used in omega (arith, r))))

  send_to-does : (e s q : ℕ) (rest : plan.Block)
      → ((K.tests.steps || (K.tests.depth || K.tests.after q)) ≡ true → f0 ≡ true) → e < length K.names.events
      → s < state_count K.tree → q < K.procs
      → Does rest → Does (straight K.tree K.numbers react (i.SendTo e s q) rest)
  unfolding straight exec plan_c
  send_to-does e s q rest fails lt within there go m l v loc at =
      deep-ends K int fit bodies call turns_left calls k c0 u0 f0 p0 now At c0
      (plan.Pay (plan.If (plan.Simple (on_check K.tree K.numbers s))
      (plan.Send e q plan.End) plan.End rest)) m l v loc
      (λ t. fails (or-right K.tests.steps _ (or-left K.tests.depth (K.tests.after q) t))) at
      depth_small (λ deep. pay-ends K int fit bodies call turns_left calls k c0 u0 f0 p0 now At c0 m l v loc
      (λ z. X (plan.If (plan.Simple (on_check K.tree K.numbers s)) (plan.Send e q plan.End) plan.End rest) z l)
      (plan_c K (plan.If (plan.Simple (on_check K.tree K.numbers s)) (plan.Send e q plan.End) plan.End rest))
      (λ t. fails (or-left K.tests.steps _ t)) at
      (λ v' at' spare. if-ends K int fit bodies call turns_left calls k c0 u0 f0 p0 now At (on_check K.tree K.numbers s)
      (plan.Send e q plan.End) plan.End rest (record m { used = m.used + 1 }) l v' loc
      (on-tells K int fit bodies call turns_left calls k c0 u0 f0 p0 now (record m { used = m.used + 1 }) l v' loc c0
      at' s within)
      (λ t. send-ends K int fit bodies call turns_left calls k c0 u0 f0 p0 now h most low room has event_small
      depth_small At e q plan.End
      (λ t. fails (or-right K.tests.steps _ (or-right K.tests.depth (K.tests.after q) t))) there lt deep end-does
      (record m { used = m.used + 1 }) l v' loc at'
      (let r = paid-room m q at.used in omega (arith, r)))
      (λ t. end-does (record m { used = m.used + 1 }) l v' loc at') has.keep go))

  -- ---- results

  left-at : (m : CMemory) (l : Inner) (s : Store) (loc : Locals) (r : ℕ) → At m l s loc → r < bad
      → HasLeft K c0 u0 m r s
  left-at m l s loc r at small = record {
    shows = at.shows;
    fine = at.fine;
    notes = at.notes;
    used = at.used;
    result_is = small;
  }

  return-does : (r : ℕ) → r < bad → Does (plan.Return r)
  unfolding exec plan_c
  return-does r small m l s loc at = λ room. (
    s,
    return-gives int calls k s loc r (number r) (number-means int fit.most s loc r (omega (arith, small))),
    left-at m l s loc r at small,
  )

  pass-does : (rest : plan.Block) → Does rest → Does (straight K.tree K.numbers react i.Pass rest)
  unfolding straight exec plan_c
  pass-does rest go =
      if-does (plan.Not (plan.IsResult 0)) plan.ReturnResult plan.End rest
      (λ m l s loc at. not-tells K int fit bodies call turns_left calls k c0 u0 f0 p0 now m l s loc c0 at
      (plan.IsResult 0)
      (result-tells K int fit bodies call turns_left calls k c0 u0 f0 p0 now m l s loc c0 at 0 (omega arith)))
      result-does end-does go
    where
      result-does : Does plan.ReturnResult
      result-does m l s loc at = λ room. (
        s,
        return-gives int calls k s loc l.result result_local
            (local-means int fit.most s loc 4 l.result at.result),
        left-at m l s loc l.result at at.result_is,
      )

  -- ---- every straight instruction

  step-does : (x : Instr) (rest : plan.Block) → IsStraight K.tree x → IsGood K react f0 h height x
      → (plays (straight K.tree K.numbers react x rest) ≡ true → p0 ≡ true) → Does rest
      → Does (straight K.tree K.numbers react x rest)
  unfolding IsStraight instr_known straight plays
  step-does (i.Assign v x) rest is good sets go =
      assign-ends K int fit bodies call turns_left calls k c0 u0 f0 p0 now h most has At c0 v x rest good.fails
      (assign_typed (known_in K) v x good.typed) go
  step-does (i.Emit e) rest is good sets go =
      emit-does e rest good.fails (below e (length K.names.events) good.known) go
  step-does (i.Mark s) rest is good sets go = mark-does s rest is go
  step-does (i.Clear s) rest is good sets go = clear-does s rest is go
  step-does (i.Keep s) rest is good sets go = keep-does s rest (below s (state_count K.tree) good.known) is go
  step-does (i.Unless j x) rest is good sets go = absurd is
  step-does (i.Skip j) rest is good sets go = absurd is
  step-does (i.Call q tag) rest is good sets go =
      let known = and_parts (is_proc (known_in K) q) (note_known (known_in K) tag) good.known in
      call-does q tag rest good.fails (below q K.procs known.0) (λ b e. good.noted b (tag-noted tag b e))
      (good.lower q tag refl)
      go
  step-does (i.Visit q tag) rest is good sets go =
      let known = and_parts (is_proc (known_in K) q) (note_known (known_in K) tag) good.known in
      visit-does q tag rest good.fails (below q K.procs known.0) (λ b e. good.noted b (tag-noted tag b e)) go
  step-does (i.Send e) rest is good sets go =
      send-does e rest good.fails (below e (length K.names.events) good.known) go
  step-does (i.SendTo e s q) rest is good sets go =
      let known = and_parts (is_event (known_in K) e) _ good.known in
      let both = and_parts (is_state (known_in K) s) (is_proc (known_in K) q) known.1 in
      send_to-does e s q rest good.fails (below e (length K.names.events) known.0) (below s (state_count K.tree) both.0)
      (below q K.procs both.1) go
  step-does i.Play rest is good sets go =
      play-ends K int fit bodies call turns_left calls k c0 u0 f0 p0 now h most low room has event_small depth_small At
      rest fuel (omega (arith, space)) (sets refl) (good.fails refl) go
  step-does (i.Home s) rest is good sets go =
      home-ends K int fit bodies call turns_left calls k c0 u0 f0 p0 now At c0 s rest
      (below s (state_count K.tree) good.known) go
  step-does i.Begin rest is good sets go = base-ends K int fit bodies call turns_left calls k c0 u0 f0 p0 now At rest go
  step-does i.Pass rest is good sets go = pass-does rest go
  step-does (i.Ret r) rest is good sets go = absurd is

  -- ---- branches

  fork-does : (j : ℕ) (x : Cond) (a b d : plan.Block) → IsGood K react f0 h height (i.Unless j x) → Does a → Does b
      → Does d
      → Does (plan.If (test_of K.tree K.numbers x) a b d)
  unfolding instr_known cond_known instr_keeps cond_keeps
  fork-does j (i.On s) a b d good one other go =
      if-does (on_check K.tree K.numbers s) a b d
      (λ m l v loc at. on-tells K int fit bodies call turns_left calls k c0 u0 f0 p0 now m l v loc c0 at s
      (below s (state_count K.tree) good.known)) one other go
  fork-does j (i.Bare s) a b d good one other go =
      if-does (bare_check K.tree K.numbers s) a b d
      (λ m l v loc at. bare-tells K int fit bodies call turns_left calls k c0 u0 f0 p0 now m l v loc c0 at s
      (below s (state_count K.tree) good.known)) one other go
  fork-does j i.OnHome a b d good one other go =
      home_on-ends K int fit bodies call turns_left calls k c0 u0 f0 p0 now h most low room has event_small depth_small
      At a b d one other go
  fork-does j i.BareHome a b d good one other go =
      home_bare-ends K int fit bodies call turns_left calls k c0 u0 f0 p0 now h most low room has event_small
      depth_small At a b d one other go
  fork-does j (i.Current e) a b d good one other go =
      if-does (plan.IsEvent e) a b d
      (λ m l v loc at. event-tells K int fit bodies call turns_left calls k c0 u0 f0 p0 now m l v loc c0 at e
      (below e (length K.names.events) good.known) event_small) one other go
  fork-does j (i.Result r) a b d good one other go =
      if-does (plan.IsResult r) a b d
      (λ m l v loc at. result-tells K int fit bodies call turns_left calls k c0 u0 f0 p0 now m l v loc c0 at r
      (good.compared j r refl)) one other go
  fork-does j (i.Test e) a b d good one other go =
      arithmetic-ends K int fit bodies call turns_left calls k c0 u0 f0 p0 now h most has At e a b d good.fails
      (test_typed (known_in K) j e good.typed) one other go
  fork-does j (i.Last s) a b d good one other go =
      let up = kept-parent K.tree (parent_of K.tree s) good.keeps in
      subst (λ (o : Option ℕ). Does (plan.If (plan.Simple (last_under K.numbers s o)) a b d)) (sym up.1)
      (if-does (last_under K.numbers s (Some up.0)) a b d
      (λ m l v loc at. last-tells K int fit bodies call turns_left calls k c0 u0 f0 p0 now m l v loc c0 at up.0 s up.2
      (below s (state_count K.tree) good.known)) one other go)

  -- what is written for instructions
  pub sim : {xs ys : List Instr} {a : plan.Block} → Written K.tree K.numbers react xs ys a
      → AreGood K react f0 h height xs
      → (plays a ≡ true → p0 ≡ true) → Does a
  unfolding plays
  sim (Stops xs) good sets = end-does
  sim (Steps x rest ys a is more) good sets =
      step-does x a is (good 0 x refl) sets
      (sim more (good-rest K react f0 h height x rest good) (λ e. sets (plays-after K.tree K.numbers react x a e)))
  sim (WrittenReturns r rest ys) good sets = return-does r ((good 0 (i.Ret r) refl).returned r refl)
  sim (Skips j rest ys a more) good sets =
      sim more (good-drop K react f0 h height j rest (good-rest K react f0 h height (i.Skip j) rest good)) sets
  sim (Forks j z x rest mid ys a b d place one other more) good sets =
      let after = good-rest K react f0 h height (i.Unless j x) rest good in
      fork-does j x a b d (good 0 (i.Unless j x) refl) (sim one after (λ e. sets (or-left (plays a) _ e)))
      (sim other (good-drop K react f0 h height j rest after)
      (λ e. sets (or-right (plays a) _ (or-left (plays b) _ e))))
      (sim more (subst (λ (l : List Instr). AreGood K react f0 h height l) (sym place)
      (good-drop K react f0 h height z (drop j rest) (good-drop K react f0 h height j rest after)))
      (λ e. sets (or-right (plays a) _ (or-right (plays b) _ e))))
