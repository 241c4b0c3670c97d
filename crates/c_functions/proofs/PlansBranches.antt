-- Branches and calls of a plan, as C.
use Rattle.std.proofs.Common.{◌≡◌, ℕ, suc, ◌+◌, ◌*◌, ◌^◌, ◌<◌, ◌≤◌, nat_eq, nat_le, pos, Bool, true}
use Rattle.std.proofs.Common.{false, cond}
use Rattle.std.proofs.Common.{List, [], ◌∷◌, length, Some, None, Ok, refl, sym, ap, ◌∙◌, subst, arith}
use Rattle.std.proofs.lemmas.Bool.Decides.{nat_tests}
use Rattle.flow_base.specs.declared.fault.Fault.TheVariants as faults
use Rattle.active_config.specs.Tree.{state_count}
use Rattle.actions.specs.Work.{Now}
use Rattle.c_subset.specs.Trees.{CExpr, Compare, Block, End, If, Return}
use Rattle.c_subset.specs.declared.trees.Width.{Width}
use Rattle.c_subset.specs.declared.trees.Width.TheVariants.{W32}
use Rattle.c_subset.specs.declared.trees.Comparison.TheVariants.{IsAtLeast, IsEqual}
use Rattle.c_subset.specs.declared.trees.CType.TheVariants.{Truth}
use Rattle.c_subset.specs.Meaning.{CValue, one_if, Store, Locals}
use Rattle.c_subset.specs.Running.{Outcome, Falls, Returns, Calls, and_on, with_local, called, outcome}
use Rattle.c_subset.proofs.TypeLemmas.{truth-stays}
use Rattle.c_functions.specs.Claims.{Has, AgreeBelow}
use Rattle.c_functions.specs.Code.{Divides}
use Rattle.c_functions.specs.States.{States, c_on, c_bare}
use Rattle.c_functions.specs.Statements.{CMemory, Locals as Inner, Check, Out, Fell, Left, Failed, Starved, Wrong}
use Rattle.c_functions.specs.Statements as plan
use Rattle.c_functions.specs.Meaning as p
use Rattle.c_functions.specs.Meaning.{check, exec}
use Rattle.c_functions.specs.Layout.{HoldsStates}
use Rattle.c_functions.specs.Moments.{MayEnd}
use Rattle.c_functions.specs.Plans.{Shape, Tests, layout, noted_field, on_function, bare_function, helper}
use Rattle.c_functions.specs.Plans.{event_number, bad, word, noted_function}
use Rattle.c_functions.specs.Plans.{number, faulted, unless_bad, ask_home, check_c, plan_c, result_local, depth_local}
use Rattle.c_functions.specs.Plans.{home_local}
use Rattle.c_functions.specs.Files.{Represents}
use Rattle.c_functions.proofs.LayoutTests.{unsigned, equal-numbers}
use Rattle.c_functions.proofs.NotesLemmas.{IsIn}
use Rattle.c_functions.proofs.FilesShown.{not-both}
use Rattle.c_functions.proofs.PlansWords.{at_least-is, number-means, local-means, field-means, compare-has}
use Rattle.c_functions.proofs.PlansWords.{values-given}
use Rattle.c_functions.proofs.PlansWords.{called-goes, set-goes, if-goes, return-gives}
use Rattle.c_functions.proofs.PlansEnds.{IsFit, IsFine, IsAt, HasLeft, EndsAlike, Ends, EndsCall, Follows, ends-on}
use Rattle.c_functions.proofs.PlansEnds.{StatementsKeep, CallsKeep, program_c, faulted-ends}
use Rattle.c_functions.proofs.PlansOutputs.{exec-keeps}

-- ---- calls

-- the arguments of a procedure's function
abbrev pub five : ℕ → ℕ → ℕ → ℕ → ℕ → List CValue
five a b c d e =
    unsigned W32 a ∷ unsigned W32 b ∷ unsigned W32 c ∷ unsigned W32 d ∷ unsigned W32 e ∷ []

-- the arguments of the function that calls a noted procedure
abbrev pub six : ℕ → ℕ → ℕ → ℕ → ℕ → ℕ → List CValue
six a b c d e q =
    unsigned W32 a ∷ unsigned W32 b ∷ unsigned W32 c ∷ unsigned W32 d ∷ unsigned W32 e ∷ unsigned W32 q ∷ []

-- what a call needs: its notes leave room for the calls that it can make, by the heights h of procedures
pub record CanCall (K : Shape) (h : ℕ → ℕ) (most : ℕ) (q base home r : ℕ) (now : Now) (m : CMemory) (s : Store)
    : Type 0 where
  pub proc : q < K.procs
  pub shows : Represents K None m s
  pub fine : IsFine K m
  pub base_le : base ≤ length m.notes
  pub home_is : home < state_count K.tree
  pub result_is : r < bad
  pub depth : now.depth ≤ K.bounds.depth
  pub event : event_number K.names now.event < 2 ^ 17
  pub room : length m.notes + suc (h q) ≤ suc m.used * suc most

-- functions of procedures do what the plans do
abbrev pub ProceduresFollow : Shape → (ℕ → ℕ) → ℕ → p.Calls → Calls → Type 0
ProceduresFollow K h most call calls = (q base home r : ℕ) (now : Now) (m : CMemory) (s : Store)
    → CanCall K h most q base home r now m s
    → EndsCall K (length m.notes) m.used (K.tests.after q) (call q now base home r m)
    (calls q (five (event_number K.names now.event) now.depth base home r) s)

-- the function that calls a noted procedure does what that procedure's plan does
abbrev pub NotesFollow : Shape → (ℕ → ℕ) → ℕ → p.Calls → Calls → Type 0
NotesFollow K h most call calls = (q base home r : ℕ) (now : Now) (m : CMemory) (s : Store) → IsIn K.noted q
    → CanCall K h most q base home r now m s
    → EndsCall K (length m.notes) m.used (K.tests.after q) (call q now base home r m)
    (calls (noted_function K) (six (event_number K.names now.event) now.depth base home r q) s)

-- the calls of a file: those of procedures, which keep what was emitted, of noted ones, of the home, and of flow_divW
pub record HasCalls (K : Shape) (h : ℕ → ℕ) (most : ℕ) (call : p.Calls) (calls : Calls) : Type 0 where
  pub procedures : ProceduresFollow K h most call calls
  pub keep : CallsKeep call
  pub notes : NotesFollow K h most call calls
  pub divides : (s : Store) → Divides calls (helper K) s
  pub asks_on : (st : States) (s : Store) (x : ℕ) → HoldsStates K.tree (layout K) st s → x < state_count K.tree
      → calls (on_function K) (unsigned W32 x ∷ []) s
      ≡ Returns s (record { type = Truth; value = one_if (c_on K.tree K.numbers x st) })
  pub asks_bare : (st : States) (s : Store) (x : ℕ) → HoldsStates K.tree (layout K) st s → x < state_count K.tree
      → calls (bare_function K) (unsigned W32 x ∷ []) s
      ≡ Returns s (record { type = Truth; value = one_if (c_bare K.tree K.numbers x st) })

-- a run isn't ended by the bound of depth where the depth is tested and isn't
not-tested : (T : Tests) → MayEnd T (Some faults.Depth) → T.depth ≡ false → ⊥
unfolding MayEnd
not-tested T on off = not-both T.depth on off

not-same : (a b : ℕ) → a < b → nat_eq a b ≡ false
not-same a b lt = grind (arith, nat_tests)

self-same : (a : ℕ) → nat_eq a a ≡ true
self-same a = grind (arith, nat_tests)

module _ (K : Shape) (int : Width) (fit : IsFit K int) (bodies : ℕ → plan.Block) (call : p.Calls) (turns_left : ℕ)
    (calls : Calls) (k : ℕ) (c0 u0 : ℕ) (f0 p0 : Bool) (now : Now) where
  abbrev X : plan.Block → CMemory → Inner → Out
  X a m l = exec (program_c K bodies) call turns_left now a m l

  abbrev Y : Block → Store → Locals → Outcome
  Y a s loc = outcome int calls k a s loc

  abbrev At : ℕ → CMemory → Inner → Store → Locals → Type 0
  At c m l s loc = IsAt K c0 u0 p0 now c m l s loc

  abbrev Goes : ℕ → (CMemory → Inner → Store → Locals → Type 0) → plan.Block → Type 0
  Goes c R a = Follows K c0 u0 f0 (At c) R (X a) (Y (plan_c K a))

  abbrev EndsIn : (CMemory → Inner → Store → Locals → Type 0) → Out → Outcome → Type 0
  EndsIn R o o' = Ends K c0 u0 f0 R o o'

  -- other locals that agree
  pub at-locals : (c : ℕ) (m : CMemory) (l : Inner) (s : Store) (loc after : Locals) → AgreeBelow 6 loc after
      → At c m l s loc → At c m l s after
  at-locals c m l s loc after agree h = record {
    shows = h.shows;
    fine = h.fine;
    notes = h.notes;
    used = h.used;
    event = agree word 0 (omega arith) ∙ h.event;
    depth = agree word 1 (omega arith) ∙ h.depth;
    base = agree word 2 (omega arith) ∙ h.base;
    home = agree word 3 (omega arith) ∙ h.home;
    result = agree word 4 (omega arith) ∙ h.result;
    cursor = λ e. agree word 5 (omega arith) ∙ h.cursor e;
    base_le = h.base_le;
    home_is = h.home_is;
    result_is = h.result_is;
    cursor_le = h.cursor_le;
  }

  -- a result that a call gave
  pub at-result : (c : ℕ) (m v : CMemory) (l : Inner) (s s' : Store) (loc : Locals) (r : ℕ) → At c m l s loc
      → HasLeft K c m.used v r s' → At c v (record l { result = r }) s' (with_local loc word 4 (pos r))
  at-result c m v l s s' loc r h left = record {
    shows = left.shows;
    fine = left.fine;
    notes = left.notes;
    used = let a = h.used in let b = left.used in omega (arith, a, b);
    event = h.event;
    depth = h.depth;
    base = h.base;
    home = h.home;
    result = refl;
    cursor = h.cursor;
    base_le = h.base_le;
    home_is = h.home_is;
    result_is = left.result_is;
    cursor_le = h.cursor_le;
  }

  -- the test of what a call gave
  pub unless-goes : (rest : Block) (s : Store) (loc : Locals) (r : ℕ) → r < 2 ^ 32 → loc word 4 ≡ Some (pos r)
      → Y (unless_bad rest) s loc
      ≡ and_on (cond (nat_eq r bad) (Returns s (unsigned W32 bad)) (Falls s loc)) (λ v o. Y rest v o)
  unfolding outcome
  unless-goes rest s loc r small there =
      if-goes int fit.most calls k rest s loc (nat_eq r bad) (Compare IsEqual result_local (number bad))
      (Return (number bad)) End
      (subst (λ (b : Bool). Has int s loc (Compare IsEqual result_local (number bad)) (one_if b)) (equal-numbers r bad)
      (compare-has int fit.most s loc IsEqual result_local (number bad) r bad small (omega arith)
      (local-means int fit.most s loc 4 r there) (number-means int fit.most s loc bad (omega arith))))
      ∙ ap (λ (o : Outcome). and_on (cond (nat_eq r bad) o (Falls s loc)) (λ v o. Y rest v o))
      (return-gives int calls k s loc bad (number bad) (number-means int fit.most s loc bad (omega arith)))

  -- a result isn't BAD, whether it is tested or not
  after-goes : (b : Bool) (rest : Block) (s : Store) (loc : Locals) (r : ℕ) → r < bad → loc word 4 ≡ Some (pos r)
      → Y (cond b (unless_bad rest) rest) s loc ≡ Y rest s loc
  after-goes true rest s loc r low there =
      unless-goes rest s loc r (omega (arith, low)) there
      ∙ ap (λ (b : Bool). and_on (cond b (Returns s (unsigned W32 bad)) (Falls s loc)) (λ v o. Y rest v o))
      (not-same r bad low)
  after-goes false rest s loc r low there = refl

  -- or is BAD, and is tested
  after-returns : (b : Bool) → b ≡ true → (rest : Block) (s : Store) (loc : Locals) → loc word 4 ≡ Some (pos bad)
      → Y (cond b (unless_bad rest) rest) s loc ≡ Returns s (unsigned W32 bad)
  after-returns true on rest s loc there =
      unless-goes rest s loc bad (omega arith) there
      ∙ ap (λ (b : Bool). and_on (cond b (Returns s (unsigned W32 bad)) (Falls s loc)) (λ v o. Y rest v o))
      (self-same bad)
  after-returns false on rest s loc there = absurd cc

  -- a call, the test of what it gave, and other statements; the called function is one whose result is tested, as f1
  -- tells
  pub called-ends : (R : CMemory → Inner → Store → Locals → Type 0) (b f1 : Bool) → (f1 ≡ true → b ≡ true)
      → (f1 ≡ true → f0 ≡ true) → (c : ℕ) (o : Out) (o' : Outcome) (m : CMemory) (l : Inner) (s : Store) (loc : Locals)
      (f : CMemory → Inner → Out) (rest : Block) → At c m l s loc → EndsCall K c m.used f1 o o' → StatementsKeep f
      → Follows K c0 u0 f0 (At c) R f (Y rest)
      → EndsIn R (p.and_with o (λ v r. f v (record l { result = r })))
      (called o' word 4 loc (λ v z. Y (cond b (unless_bad rest) rest) v z))
  called-ends R b f1 on fails c (Fell v z) o' m l s loc f rest h ends keep go = λ room. tt
  called-ends R b f1 on fails c (Left v r) o' m l s loc f rest h ends keep go = λ room.
      let e = ends (keep v (record l { result = r }) K.outputs room) in
      let at = at-result c m v l s e.0 loc r h e.2 in
      let low = e.2.result_is in
      let after = with_local loc word 4 (pos r) in
      subst (λ (o : Outcome). EndsAlike K c0 u0 f0 R (f v (record l { result = r })) o)
      (sym (ap (λ (o : Outcome). called o word 4 loc (λ v z. Y (cond b (unless_bad rest) rest) v z)) e.1
      ∙ called-goes e.0 r 4 loc (λ v z. Y (cond b (unless_bad rest) rest) v z) (omega (arith, low))
      ∙ after-goes b rest e.0 after r low refl))
      (go v (record l { result = r }) e.0 after at room)
  called-ends R b f1 on fails c (Failed v x) o' m l s loc f rest h ends keep go = λ room t.
      let e = ends room t in
      let after = with_local loc word 4 (pos bad) in (
        e.0,
        ap (λ (o : Outcome). called o word 4 loc (λ v z. Y (cond b (unless_bad rest) rest) v z)) e.1
            ∙ called-goes e.0 bad 4 loc (λ v z. Y (cond b (unless_bad rest) rest) v z) (omega arith)
            ∙ after-returns b (on e.3) rest e.0 after refl,
        e.2,
        fails e.3,
      )
  called-ends R b f1 on fails c Starved o' m l s loc f rest h ends keep go = λ room. tt
  called-ends R b f1 on fails c Wrong o' m l s loc f rest h ends keep go = λ room. tt

  -- ---- branches

  -- one of two ways, and other statements
  pub branch-ends : (R : CMemory → Inner → Store → Locals → Type 0) (e : CExpr) (b : Bool) (x y rest : plan.Block)
      (m : CMemory) (l : Inner) (s : Store) (loc : Locals) → Has int s loc e (one_if b)
      → (b ≡ true → EndsIn (At c0) (X x m l) (Y (plan_c K x) s loc))
      → (b ≡ false → EndsIn (At c0) (X y m l) (Y (plan_c K y) s loc)) → CallsKeep call → Goes c0 R rest
      → EndsIn R (p.and_on (p.branch (Ok b) m (X x m l) (X y m l)) (X rest))
      (Y (If e (plan_c K x) (plan_c K y) (plan_c K rest)) s loc)
  branch-ends R e b x y rest m l s loc has one other keep go =
      subst (λ (o : Outcome). EndsIn R (p.and_on (p.branch (Ok b) m (X x m l) (X y m l)) (X rest)) o)
      (sym (if-goes int fit.most calls k (plan_c K rest) s loc b e (plan_c K x) (plan_c K y) has))
      (ends-on K c0 u0 f0 (At c0) R (p.branch (Ok b) m (X x m l) (X y m l))
      (cond b (Y (plan_c K x) s loc) (Y (plan_c K y) s loc)) (X rest) (Y (plan_c K rest)) (at b refl)
      (exec-keeps K bodies call keep turns_left now rest) go)
    where
      at : (d : Bool) → b ≡ d → EndsIn (At c0) (p.branch (Ok d) m (X x m l) (X y m l))
          (cond d (Y (plan_c K x) s loc) (Y (plan_c K y) s loc))
      at true e = one e
      at false e = other e

  pub if-ends : (R : CMemory → Inner → Store → Locals → Type 0) (a : Check) (x y rest : plan.Block) (m : CMemory)
      (l : Inner) (s : Store) (loc : Locals)
      → Has int s loc (check_c K a) (one_if (check (program_c K bodies) a m now l))
      → (check (program_c K bodies) a m now l ≡ true → EndsIn (At c0) (X x m l) (Y (plan_c K x) s loc))
      → (check (program_c K bodies) a m now l ≡ false → EndsIn (At c0) (X y m l) (Y (plan_c K y) s loc))
      → CallsKeep call → Goes c0 R rest
      → EndsIn R (X (plan.If (plan.Simple a) x y rest) m l) (Y (plan_c K (plan.If (plan.Simple a) x y rest)) s loc)
  unfolding exec plan_c
  if-ends R a x y rest m l s loc has one other keep go =
      branch-ends R (check_c K a) (check (program_c K bodies) a m now l) x y rest m l s loc has one other keep go

  -- a question about the home
  pub ask-goes : (f q : ℕ) (b : Bool) (rest : Block) (s : Store) (loc : Locals)
      → calls f (unsigned W32 q ∷ []) s ≡ Returns s (record { type = Truth; value = one_if b })
      → loc word 3 ≡ Some (pos q)
      → Y (ask_home f rest) s loc ≡ Y rest s (with_local loc Truth 6 (one_if b))
  unfolding outcome
  ask-goes f q b rest s loc asked there =
      values-given int fit.most s loc (home_local ∷ []) (unsigned W32 q ∷ [])
      (λ xs. called (calls f xs s) Truth 6 loc (λ v o. Y rest v o)) (local-means int fit.most s loc 3 q there, tt)
      ∙ ap (λ (o : Outcome). called o Truth 6 loc (λ v o. Y rest v o)) asked
      ∙ ap (λ (c : Bool). Y rest s (with_local loc Truth 6 (one_if c))) (truth-stays b)

  -- a test of depth
  pub deep-ends : (R : CMemory → Inner → Store → Locals → Type 0) (c : ℕ) (rest : plan.Block) (m : CMemory) (l : Inner)
      (s : Store) (loc : Locals) → (K.tests.depth ≡ true → f0 ≡ true) → At c m l s loc → now.depth ≤ K.bounds.depth
      → (now.depth < K.bounds.depth → EndsIn R (X rest m l) (Y (plan_c K rest) s loc))
      → EndsIn R (X (plan.Deep rest) m l) (Y (plan_c K (plan.Deep rest)) s loc)
  unfolding exec plan_c outcome
  deep-ends R c rest m l s loc fails h within go = by K.tests.depth refl
    where
      at : K.tests.depth ≡ true → (b : Bool) → nat_le K.bounds.depth now.depth ≡ b
          → EndsIn R (p.unless_met b faults.Depth m (X rest m l))
          (and_on (cond b (Y (faulted K faults.Depth) s loc) (Falls s loc)) (λ v o. Y (plan_c K rest) v o))
      at on true e = λ room t.
          let x = faulted-ends K int fit bodies call turns_left calls k c0 u0 f0 p0 now R c m l s loc faults.Depth h
          (omega arith) (fails on) room t
          in (x.0, ap (λ (o : Outcome). and_on o (λ v o. Y (plan_c K rest) v o)) x.1, x.2, x.3)
      at on false e = go (grind (arith, nat_tests))

      untold : K.tests.depth ≡ false → (b : Bool) → nat_le K.bounds.depth now.depth ≡ b
          → EndsIn R (p.unless_met b faults.Depth m (X rest m l)) (Y (plan_c K rest) s loc)
      untold off true e = λ room t. absurd (not-tested K.tests t off)
      untold off false e = go (grind (arith, nat_tests))

      by : (b : Bool) → K.tests.depth ≡ b
          → EndsIn R (X (plan.Deep rest) m l) (Y (cond b (If (Compare IsAtLeast depth_local (number K.bounds.depth))
          (faulted K faults.Depth) End (plan_c K rest)) (plan_c K rest)) s loc)
      by true on =
          subst (λ (o : Outcome). EndsIn R (X (plan.Deep rest) m l) o)
          (sym (if-goes int fit.most calls k (plan_c K rest) s loc (nat_le K.bounds.depth now.depth)
          (Compare IsAtLeast depth_local (number K.bounds.depth)) (faulted K faults.Depth) End
          (subst (λ (b : Bool). Has int s loc (Compare IsAtLeast depth_local (number K.bounds.depth)) (one_if b))
          (at_least-is now.depth K.bounds.depth)
          (compare-has int fit.most s loc IsAtLeast depth_local (number K.bounds.depth) now.depth K.bounds.depth
          (omega (arith, within, fit.depth)) (omega (arith, fit.depth))
          (local-means int fit.most s loc 1 now.depth h.depth)
          (number-means int fit.most s loc K.bounds.depth (omega (arith, fit.depth)))))))
          (at on (nat_le K.bounds.depth now.depth) refl)
      by false off = untold off (nat_le K.bounds.depth now.depth) refl

  -- the home is set
  pub home-ends : (R : CMemory → Inner → Store → Locals → Type 0) (c q : ℕ) (rest : plan.Block)
      → q < state_count K.tree → Goes c R rest → Goes c R (plan.SetHome q rest)
  unfolding exec plan_c
  home-ends R c q rest lt go m l s loc h =
      subst (λ (o : Outcome). EndsIn R (X rest m (record l { home = q })) o)
      (sym (set-goes int fit.most calls k (plan_c K rest) s loc 3 q (number q) (omega (arith, lt, fit.states))
      (number-means int fit.most s loc q (omega (arith, lt, fit.states)))))
      (go m (record l { home = q }) s (with_local loc word 3 (pos q)) (record {
        shows = h.shows;
        fine = h.fine;
        notes = h.notes;
        used = h.used;
        event = h.event;
        depth = h.depth;
        base = h.base;
        home = refl;
        result = h.result;
        cursor = h.cursor;
        base_le = h.base_le;
        home_is = lt;
        result_is = h.result_is;
        cursor_le = h.cursor_le;
      }))

  -- the base is set
  pub base-ends : (R : CMemory → Inner → Store → Locals → Type 0) (rest : plan.Block) → Goes c0 R rest
      → Goes c0 R (plan.SetBase rest)
  unfolding exec plan_c
  base-ends R rest go m l s loc h =
      let n = length m.notes in
      subst (λ (o : Outcome). EndsIn R (X rest m (record l { base = n })) o)
      (sym (set-goes int fit.most calls k (plan_c K rest) s loc 2 n _ h.shows.noted.small
      (field-means int fit.most s loc (noted_field K) n h.shows.noted)))
      (go m (record l { base = n }) s (with_local loc word 2 (pos n)) (record {
        shows = h.shows;
        fine = h.fine;
        notes = h.notes;
        used = h.used;
        event = h.event;
        depth = h.depth;
        base = refl;
        home = h.home;
        result = h.result;
        cursor = h.cursor;
        base_le = omega (arith, h.notes);
        home_is = h.home_is;
        result_is = h.result_is;
        cursor_le = h.cursor_le;
      }))
