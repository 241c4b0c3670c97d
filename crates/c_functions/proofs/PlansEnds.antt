-- When the C of a plan ends as the plan does, and statements that do.
use Rattle.std.proofs.Common.{◌≡◌, ℕ, suc, ◌+◌, ◌*◌, ◌-◌, ◌%◌, ◌^◌, ◌<◌, ◌≤◌, nat_le, pos, Bool}
use Rattle.std.proofs.Common.{true, false, cond}
use Rattle.std.proofs.Common.{[], ◌∷◌, ◌++◌, length, Some, None, slice_get, slice_set}
use Rattle.std.proofs.Common.{refl, sym, ap, ◌∙◌, subst, arith, mod-lt, mod-eq_of_lt, length-set, ⊎_elim}
use Rattle.std.proofs.lemmas.Bool.Decides.{nat_tests}
use Rattle.flow_base.specs.declared.fault.Fault.{Fault}
use Rattle.flow_base.specs.declared.fault.Fault.TheVariants as faults
use Rattle.active_config.specs.Tree.{state_count, parent_of, comp_of, is_or}
use Rattle.actions.specs.Data.{HaveTheirSorts}
use Rattle.actions.specs.Work.{Now}
use Rattle.actions.specs.World.{of_data, of_names}
use Rattle.c_subset.specs.Trees.{Field, Compare, Block, End, If, Return}
use Rattle.c_subset.specs.declared.trees.Width.{Width}
use Rattle.c_subset.specs.declared.trees.Width.TheVariants.{W32}
use Rattle.c_subset.specs.declared.trees.Comparison.TheVariants.{IsAtLeast}
use Rattle.c_subset.specs.Meaning.{bits, one_if, Store, Locals, meaning}
use Rattle.c_subset.specs.Running.{Outcome, Falls, Returns, Calls, and_on, with_field, with_element}
use Rattle.c_subset.specs.Running.{outcome}
use Rattle.c_functions.specs.Claims.{Has}
use Rattle.c_functions.specs.Code.{Returning}
use Rattle.c_functions.specs.States.{States, or_parent, choose_child, set_flag}
use Rattle.c_functions.specs.Statements.{CMemory, Locals as Inner, Out, Fell, Left, Failed, Starved, Wrong}
use Rattle.c_functions.specs.Statements as plan
use Rattle.c_functions.specs.Meaning as p
use Rattle.c_functions.specs.Meaning.{CProgram, exec, with_states}
use Rattle.c_functions.specs.Runs.{own_sums}
use Rattle.c_functions.specs.Layout.{IsLayout}
use Rattle.c_functions.specs.Moments.{MayEnd}
use Rattle.c_functions.specs.Plans.{Shape, Tests, layout, used_field, outs_field, noted_field, fault_field}
use Rattle.c_functions.specs.Plans.{fault_datum_field, ready_field, tell_fault}
use Rattle.c_functions.specs.Plans.{fault_number, fault_datum, event_number, bad, word, number, faulted, pay_c}
use Rattle.c_functions.specs.Plans.{count_up}
use Rattle.c_functions.specs.Plans.{plan_c, out_row, note_row}
use Rattle.c_functions.specs.Files.{HasWord, with_fault, Represents}
use Rattle.c_functions.proofs.LayoutTests.{unsigned}
use Rattle.c_functions.proofs.LayoutChanges.{chooses, keeps, turns}
use Rattle.c_functions.proofs.LayoutPlaces.{is-layout}
use Rattle.c_functions.proofs.NotesLemmas.{IsIn}
use Rattle.c_functions.proofs.FilesShown.{not-both, used-put, used-untold, out-put, note-put, note-drop, states-put}
use Rattle.c_functions.proofs.FilesShown.{fault-told}
use Rattle.c_functions.proofs.PlansWords.{at_least-is, number-means, field-means, plus-means, less-means}
use Rattle.c_functions.proofs.PlansWords.{compare-has}
use Rattle.c_functions.proofs.PlansWords.{front-got, front-length, length-push, put-word, if-goes, store_at-goes}
use Rattle.c_functions.proofs.PlansWords.{return-gives}
use Rattle.c_functions.proofs.PlansWords.{push-got, word-kept}

-- ---- what is needed of a shape, and of memory

-- numbers are small, and int has at most 32 bits
pub record IsFit (K : Shape) (int : Width) : Type 0 where
  pub most : bits int ≤ 32
  pub numbers : (x : ℕ) → x < state_count K.tree → K.numbers x < 2 ^ 16
  pub states : state_count K.tree < 2 ^ 16
  pub root : 0 < state_count K.tree
  pub named : length K.names.states ≡ state_count K.tree
  pub vars : length K.names.vars < 2 ^ 16
  pub events : length K.names.events < 2 ^ 16
  pub procs : K.procs < 2 ^ 31
  pub noted : (q : ℕ) → IsIn K.noted q → q < K.procs
  pub steps : K.bounds.steps < 2 ^ 16
  pub depth : K.bounds.depth < 2 ^ 16

-- where something is noted, note[] has room for the calls that are open at most in an event, where procedures have at
-- most that height
pub record HasRoomFor (K : Shape) (most : ℕ) : Type 0 where
  pub enough : (q : ℕ) → IsIn K.noted q → suc K.bounds.steps * suc most ≤ K.notes
  pub few : suc K.bounds.steps * suc most < 2 ^ 31

-- memory of a run: data of their sorts as declared, outputs that were paid, notes that are those of the shape
pub record IsFine (K : Shape) (m : CMemory) : Type 0 where
  pub chosen : length m.states.chosen ≡ state_count K.tree
  pub flags : length m.states.flags ≡ state_count K.tree
  pub kept : length m.states.kept ≡ state_count K.tree
  pub sorts : HaveTheirSorts m.vals
  pub declared : of_data m.vals ≡ of_names K.names
  pub long : length m.vals ≡ length K.names.vars
  pub outputs : length m.outputs ≤ m.used
  pub used : m.used ≤ K.bounds.steps
  pub noted : (i q : ℕ) → slice_get m.notes i ≡ Some q → IsIn K.noted q

-- ---- what is emitted

-- a plan ended, and at most so many events are emitted
abbrev pub HasRoom : ℕ → Out → Type 0
HasRoom n (Fell m l) = length m.outputs ≤ n
HasRoom n (Left m r) = length m.outputs ≤ n
HasRoom n (Failed m x) = length m.outputs ≤ n
HasRoom n Starved = ⊥
HasRoom n Wrong = ⊥

-- no more were emitted at first than at the end
abbrev pub Keeps : CMemory → Out → Type 0
Keeps m o = (n : ℕ) → HasRoom n o → length m.outputs ≤ n

-- so from whatever memory statements begin, and calls
abbrev pub StatementsKeep : (CMemory → Inner → Out) → Type 0
StatementsKeep f = (m : CMemory) (l : Inner) → Keeps m (f m l)

abbrev pub CallsKeep : p.Calls → Type 0
CallsKeep call = (q : ℕ) (now : Now) (base home r : ℕ) (m : CMemory) → Keeps m (call q now base home r m)

-- ---- plans

-- the program of a plan's bodies, with the arithmetic of code
abbrev pub program_c : Shape → (ℕ → plan.Block) → CProgram
program_c K bodies = record {
  sums = own_sums K.tree K.numbers;
  tree = K.tree;
  numbers = K.numbers;
  bounds = K.bounds;
  bodies = bodies;
}

-- the struct after a fault
abbrev pub told_c : Shape → Fault → Store → Store
told_c K x s = with_fault K s (fault_number (Some x)) (fault_datum (Some x) % 2 ^ 32)

-- a fault is told, and then other statements follow
pub tell-goes : (K : Shape) (int : Width) → bits int ≤ 32 → (calls : Calls) (k : ℕ) (rest : Block) (s : Store)
    (l : Locals) (a d r fault datum : ℕ) → HasWord s.fields (fault_field K) a → HasWord s.fields (fault_datum_field K) d
    → HasWord s.fields (ready_field K) r → fault < 2 ^ 32
    → outcome int calls k (tell_fault K fault datum rest) s l
    ≡ outcome int calls k rest (with_fault K s fault (datum % 2 ^ 32)) l
unfolding meaning
tell-goes K int most calls k rest s l a d r fault datum ha hd hr small =
    let f = fault_field K in
    let g = fault_datum_field K in
    let one = with_field s f (unsigned W32 fault) in
    let two = with_field one g (unsigned W32 (datum % 2 ^ 32)) in
    put-word int most calls k _ s l f a fault _ ha small (number-means int most s l fault small)
    ∙ put-word int most calls k _ one l g d (datum % 2 ^ 32) _
    (word-kept s.fields f g d _ (λ e. absurd (omega (arith, e))) hd) (mod-lt datum (omega arith)) refl
    ∙ put-word int most calls k rest two l (ready_field K) r 0 _
    (word-kept one.fields g (ready_field K) r _ (λ e. absurd (omega (arith, e)))
    (word-kept s.fields f (ready_field K) r _ (λ e. absurd (omega (arith, e))) hr))
    (omega arith) (number-means int most two l 0 (omega arith))

-- a run isn't ended by the bound of steps where steps are tested and aren't
not-tested : (T : Tests) → MayEnd T (Some faults.Steps) → T.steps ≡ false → ⊥
unfolding MayEnd
not-tested T on off = not-both T.steps on off

-- ---- where C stands to a plan, in a function that began with c0 notes and u0 steps

module _ (K : Shape) (c0 u0 : ℕ) where
  -- between statements, with c notes; the function sets the cursor only where its plan plays, as p0 tells
  pub record IsAt (p0 : Bool) (now : Now) (c : ℕ) (m : CMemory) (l : Inner) (s : Store) (loc : Locals) : Type 0 where
    pub shows : Represents K None m s
    pub fine : IsFine K m
    pub notes : length m.notes ≡ c
    pub used : u0 ≤ m.used
    pub event : loc word 0 ≡ Some (pos (event_number K.names now.event))
    pub depth : loc word 1 ≡ Some (pos now.depth)
    pub base : loc word 2 ≡ Some (pos l.base)
    pub home : loc word 3 ≡ Some (pos l.home)
    pub result : loc word 4 ≡ Some (pos l.result)
    pub cursor : p0 ≡ true → loc word 5 ≡ Some (pos l.cursor)
    pub base_le : l.base ≤ c0
    pub home_is : l.home < state_count K.tree
    pub result_is : l.result < bad
    pub cursor_le : l.cursor ≤ c0

  -- after a return
  pub record HasLeft (m : CMemory) (r : ℕ) (s : Store) : Type 0 where
    pub shows : Represents K None m s
    pub fine : IsFine K m
    pub notes : length m.notes ≡ c0
    pub used : u0 ≤ m.used
    pub result_is : r < bad

  -- memory and struct changed, and no local
  pub at-memory : (p0 : Bool) (now : Now) (c c' : ℕ) (m m' : CMemory) (l : Inner) (s s' : Store) (loc : Locals)
      → IsAt p0 now c m l s loc → Represents K None m' s' → IsFine K m' → length m'.notes ≡ c' → u0 ≤ m'.used
      → IsAt p0 now c' m' l s' loc
  at-memory p0 now c c' m m' l s s' loc h shows fine notes used = record {
    shows = shows;
    fine = fine;
    notes = notes;
    used = used;
    event = h.event;
    depth = h.depth;
    base = h.base;
    home = h.home;
    result = h.result;
    cursor = h.cursor;
    base_le = h.base_le;
    home_is = h.home_is;
    result_is = h.result_is;
    cursor_le = h.cursor_le;
  }

-- the same of a function, whose result its callers test where f0 says so
module _ (K : Shape) (c0 u0 : ℕ) (f0 : Bool) where
  -- C ends as the plan, with a claim where both fall through; where the plan meets a bound that isn't tested nothing is
  -- said, and after another fault the result is one that callers test
  abbrev pub EndsAlike : (CMemory → Inner → Store → Locals → Type 0) → Out → Outcome → Type 0
  EndsAlike Q (Fell m l) o = (s : Store) × (loc : Locals) × (o ≡ Falls s loc) × Q m l s loc
  EndsAlike Q (Left m r) o = (s : Store) × (o ≡ Returns s (unsigned W32 r)) × HasLeft K c0 u0 m r s
  EndsAlike Q (Failed m x) o =
      MayEnd K.tests (Some x)
      → (s : Store) × (o ≡ Returns s (unsigned W32 bad)) × Represents K (Some x) m s × (f0 ≡ true)
  EndsAlike Q Starved o = Unit {0}
  EndsAlike Q Wrong o = Unit {0}

  -- so it ends where out[] has room for what the plan emits until its end
  abbrev pub Ends : (CMemory → Inner → Store → Locals → Type 0) → Out → Outcome → Type 0
  Ends Q o o' = HasRoom K.outputs o → EndsAlike Q o o'

  -- the same of a call, which doesn't fall through
  abbrev pub EndsCall : Out → Outcome → Type 0
  EndsCall o o' = Ends (λ m l s loc. Unit {0}) o o'

  -- from wherever C stands to the plan
  abbrev pub Follows : (CMemory → Inner → Store → Locals → Type 0) → (CMemory → Inner → Store → Locals → Type 0)
      → (CMemory → Inner → Out) → (Store → Locals → Outcome) → Type 0
  Follows Q R f g = (m : CMemory) (l : Inner) (s : Store) (loc : Locals) → Q m l s loc → Ends R (f m l) (g s loc)

  pub ends-on : (Q R : CMemory → Inner → Store → Locals → Type 0) (o : Out) (o' : Outcome) (f : CMemory → Inner → Out)
      (g : Store → Locals → Outcome) → Ends Q o o' → StatementsKeep f → Follows Q R f g
      → Ends R (p.and_on o f) (and_on o' g)
  ends-on Q R (Fell m l) o' f g h keep go = λ room.
      let e = h (keep m l K.outputs room) in
      subst (λ (o : Outcome). EndsAlike R (f m l) (and_on o g)) (sym e.2) (go m l e.0 e.1 e.3 room)
  ends-on Q R (Left m r) o' f g h keep go = λ room. let e = h room in (e.0, ap (λ (o : Outcome). and_on o g) e.1, e.2)
  ends-on Q R (Failed m x) o' f g h keep go = λ room t.
      let e = h room t in (e.0, ap (λ (o : Outcome). and_on o g) e.1, e.2, e.3)
  ends-on Q R Starved o' f g h keep go = λ room. tt
  ends-on Q R Wrong o' f g h keep go = λ room. tt

-- memory with other states of the same lengths
pub fine-states : (K : Shape) (m : CMemory) (st : States) → IsFine K m → length st.chosen ≡ length m.states.chosen
    → length st.flags ≡ length m.states.flags → length st.kept ≡ length m.states.kept → IsFine K (with_states st m)
fine-states K m st f a b c = record {
  chosen = a ∙ f.chosen;
  flags = b ∙ f.flags;
  kept = c ∙ f.kept;
  sorts = f.sorts;
  declared = f.declared;
  long = f.long;
  outputs = f.outputs;
  used = f.used;
  noted = f.noted;
}

-- ---- statements

module _ (K : Shape) (int : Width) (fit : IsFit K int) (bodies : ℕ → plan.Block) (call : p.Calls) (turns_left : ℕ)
    (calls : Calls) (k : ℕ) (c0 u0 : ℕ) (f0 p0 : Bool) (now : Now) where
  P : CProgram
  P = program_c K bodies

  -- an expression of the plan's next statements
  abbrev pub X : plan.Block → CMemory → Inner → Out
  X a m l = exec (program_c K bodies) call turns_left now a m l

  abbrev pub Y : Block → Store → Locals → Outcome
  Y a s loc = outcome int calls k a s loc

  -- with c notes
  abbrev pub At : ℕ → CMemory → Inner → Store → Locals → Type 0
  At c m l s loc = IsAt K c0 u0 p0 now c m l s loc

  -- statements and their C, from c notes to a claim
  abbrev pub Goes : ℕ → (CMemory → Inner → Store → Locals → Type 0) → plan.Block → Type 0
  Goes c R a = Follows K c0 u0 f0 (At c) R (X a) (Y (plan_c K a))

  abbrev pub EndsIn : (CMemory → Inner → Store → Locals → Type 0) → Out → Outcome → Type 0
  EndsIn R o o' = Ends K c0 u0 f0 R o o'

  pub is_layout : IsLayout K.tree K.numbers (layout K)
  is_layout = is-layout K.tree K.numbers (length K.names.vars + 6) fit.numbers

  -- a fault is told
  pub faulted-goes : (s : Store) (l : Locals) (a d r : ℕ) → HasWord s.fields (fault_field K) a
      → HasWord s.fields (fault_datum_field K) d → HasWord s.fields (ready_field K) r → (x : Fault)
      → outcome int calls k (faulted K x) s l ≡ Returns (told_c K x s) (unsigned W32 bad)
  faulted-goes s l a d r ha hd hr x =
      tell-goes K int fit.most calls k (Return (number bad)) s l a d r (fault_number (Some x)) (fault_datum (Some x)) ha hd
      hr (fault_small x)
      ∙ return-gives int calls k (told_c K x s) l bad _ (number-means int fit.most (told_c K x s) l bad (omega arith))
    where
      fault_small : (x : Fault) → fault_number (Some x) < 2 ^ 32
      fault_small faults.Depth = omega arith
      fault_small faults.Steps = omega arith
      fault_small (faults.Overflow v) = omega arith
      fault_small faults.Zero = omega arith

  -- a fault of the plan
  pub faulted-ends : (R : CMemory → Inner → Store → Locals → Type 0) (c : ℕ) (m : CMemory) (l : Inner) (s : Store)
      (loc : Locals) (x : Fault) → At c m l s loc → fault_datum (Some x) < 2 ^ 32 → f0 ≡ true
      → EndsIn R (Failed m x) (outcome int calls k (faulted K x) s loc)
  faulted-ends R c m l s loc x h small fails = λ room t. (
    told_c K x s,
    faulted-goes s loc _ _ _ h.shows.fault_is h.shows.datum_is h.shows.ready_is x,
    subst (λ (d : ℕ). Represents K (Some x) m (with_fault K s (fault_number (Some x)) d)) (sym (mod-eq_of_lt small))
        (fault-told K None m s h.shows h.fine.long x (number_small x) small),
    fails,
  )
    where
      number_small : (x : Fault) → fault_number (Some x) < 2 ^ 32
      number_small faults.Depth = omega arith
      number_small faults.Steps = omega arith
      number_small (faults.Overflow v) = omega arith
      number_small faults.Zero = omega arith

  -- what is written for a fault returns
  pub returning : (s : Store) (a d r : ℕ) → HasWord s.fields (fault_field K) a → HasWord s.fields (fault_datum_field K) d
      → HasWord s.fields (ready_field K) r → Returning int calls k (faulted K) (told_c K) (unsigned W32 bad) s
  returning s a d r ha hd hr x l = faulted-goes s l a d r ha hd hr x

  -- a step is paid
  pub pay-ends : (R : CMemory → Inner → Store → Locals → Type 0) (c : ℕ) (m : CMemory) (l : Inner) (s : Store)
      (loc : Locals) (f : CMemory → Out) (rest : Block) → (K.tests.steps ≡ true → f0 ≡ true) → At c m l s loc
      → ((s' : Store) → At c (record m { used = m.used + 1 }) l s' loc → length m.outputs < m.used + 1
      → EndsIn R (f (record m { used = m.used + 1 })) (outcome int calls k rest s' loc))
      → EndsIn R (p.pay K.bounds m f) (outcome int calls k (pay_c K rest) s loc)
  unfolding outcome
  pay-ends R c m l s loc f rest fails h go = by K.tests.steps refl
    where
      small : m.used < 2 ^ 16
      small = omega (arith, h.fine.used, fit.steps)

      fine : m.used < K.bounds.steps → IsFine K (record m { used = m.used + 1 })
      fine left = record {
        chosen = h.fine.chosen;
        flags = h.fine.flags;
        kept = h.fine.kept;
        sorts = h.fine.sorts;
        declared = h.fine.declared;
        long = h.fine.long;
        outputs = omega (arith, h.fine.outputs);
        used = omega (arith, left);
        noted = h.fine.noted;
      }

      -- where steps are tested
      goes : HasWord s.fields (used_field K) m.used
          → outcome int calls k (If (Compare IsAtLeast (Field (used_field K)) (number K.bounds.steps))
          (faulted K faults.Steps) End (count_up (used_field K) rest)) s loc
          ≡ and_on (cond (nat_le K.bounds.steps m.used) (outcome int calls k (faulted K faults.Steps) s loc)
          (outcome int calls k End s loc)) (λ v o. outcome int calls k (count_up (used_field K) rest) v o)
      goes used = if-goes int fit.most calls k (count_up (used_field K) rest) s loc (nat_le K.bounds.steps m.used)
          (Compare IsAtLeast (Field (used_field K)) (number K.bounds.steps)) (faulted K faults.Steps) End
          (subst (λ (b : Bool). Has int s loc (Compare IsAtLeast (Field (used_field K)) (number K.bounds.steps))
          (one_if b)) (at_least-is m.used K.bounds.steps)
          (compare-has int fit.most s loc IsAtLeast (Field (used_field K)) (number K.bounds.steps) m.used K.bounds.steps
          used.small (omega (arith, fit.steps)) (field-means int fit.most s loc (used_field K) m.used used)
          (number-means int fit.most s loc K.bounds.steps (omega (arith, fit.steps)))))

      at : K.tests.steps ≡ true → HasWord s.fields (used_field K) m.used → (b : Bool) → nat_le K.bounds.steps m.used ≡ b
          → EndsIn R (p.unless_met b faults.Steps m (f (record m { used = m.used + 1 })))
          (and_on (cond b (outcome int calls k (faulted K faults.Steps) s loc) (outcome int calls k End s loc))
          (λ v o. outcome int calls k (count_up (used_field K) rest) v o))
      at on used true e = λ room t.
          let x = faulted-ends R c m l s loc faults.Steps h (omega arith) (fails on) room t in (
            x.0,
            ap (λ (o : Outcome). and_on o (λ v o. outcome int calls k (count_up (used_field K) rest) v o)) x.1,
            x.2,
            x.3,
          )
      at on used false e =
          let left : m.used < K.bounds.steps = grind (arith, nat_tests) in
          let s' = with_field s (used_field K) (unsigned W32 (m.used + 1)) in
          subst (λ (o : Outcome). EndsIn R (f (record m { used = m.used + 1 })) o)
          (sym (put-word int fit.most calls k rest s loc (used_field K) m.used _ _ used (omega (arith, small))
          (plus-means int fit.most s loc (Field (used_field K)) (number 1) m.used 1 used.small (omega arith)
          (omega (arith, small)) (field-means int fit.most s loc (used_field K) m.used used)
          (number-means int fit.most s loc 1 (omega arith)))))
          (go s' (at-memory K c0 u0 p0 now c c m (record m { used = m.used + 1 }) l s s' loc h
          (used-put K None m s h.shows h.fine.long (m.used + 1) (omega (arith, small))) (fine left) h.notes
          (omega (arith, h.used))) (omega (arith, h.fine.outputs)))

      -- and where they aren't
      untold : K.tests.steps ≡ false → (b : Bool) → nat_le K.bounds.steps m.used ≡ b
          → EndsIn R (p.unless_met b faults.Steps m (f (record m { used = m.used + 1 })))
          (outcome int calls k rest s loc)
      untold off true e = λ room t. absurd (not-tested K.tests t off)
      untold off false e =
          let left : m.used < K.bounds.steps = grind (arith, nat_tests) in
          go s (at-memory K c0 u0 p0 now c c m (record m { used = m.used + 1 }) l s s loc h
          (used-untold K None m s h.shows h.fine.long (m.used + 1) off) (fine left) h.notes (omega (arith, h.used)))
          (omega (arith, h.fine.outputs))

      by : (b : Bool) → K.tests.steps ≡ b
          → EndsIn R (p.pay K.bounds m f) (outcome int calls k
          (cond b (If (Compare IsAtLeast (Field (used_field K)) (number K.bounds.steps)) (faulted K faults.Steps) End
          (count_up (used_field K) rest)) rest) s loc)
      by true on =
          subst (λ (o : Outcome). EndsIn R (p.pay K.bounds m f) o) (sym (goes (h.shows.used on)))
          (at on (h.shows.used on) (nat_le K.bounds.steps m.used) refl)
      by false off = untold off (nat_le K.bounds.steps m.used) refl

  -- the number of an active child
  pub choose-ends : (R : CMemory → Inner → Store → Locals → Type 0) (c q i : ℕ) (rest : plan.Block)
      → is_or (comp_of K.tree q) ≡ true → q < state_count K.tree → i < 2 ^ 16 → Goes c R rest
      → Goes c R (plan.Choose q i rest)
  unfolding exec plan_c
  choose-ends R c q i rest or lt small go m l s loc h =
      let ch = chooses int calls k K.tree K.numbers (layout K) m.states q i
      (plan_c K rest) s loc is_layout h.shows.states
      or (omega (arith, lt, h.fine.chosen)) small in
      subst (λ (o : Outcome). EndsIn R (X rest (with_states (choose_child q i m.states) m) l) o) (sym ch.goes)
      (go _ l _ loc (at-memory K c0 u0 p0 now c c m _ l s _ loc h
      (states-put K None m s h.shows h.fine.long (choose_child q i m.states) _ ch.value (omega arith) ch.holds)
      (fine-states K m (choose_child q i m.states) h.fine (length-set m.states.chosen q i) refl refl) h.notes h.used))

  -- the number of a remembered child
  pub keep-ends : (R : CMemory → Inner → Store → Locals → Type 0) (c q i : ℕ) (rest : plan.Block)
      → is_or (comp_of K.tree q) ≡ true → q < state_count K.tree → i < 2 ^ 16 → Goes c R rest
      → Goes c R (plan.Keep q i rest)
  unfolding exec plan_c
  keep-ends R c q i rest or lt small go m l s loc h =
      let st = record m.states { kept = slice_set m.states.kept q i } in
      let ch = keeps int calls k K.tree K.numbers (layout K) m.states q i (plan_c K rest) s loc is_layout h.shows.states
      or (omega (arith, lt, h.fine.kept)) small in
      subst (λ (o : Outcome). EndsIn R (X rest (with_states st m) l) o) (sym ch.goes)
      (go _ l _ loc (at-memory K c0 u0 p0 now c c m _ l s _ loc h
      (states-put K None m s h.shows h.fine.long st _ ch.value (omega arith) ch.holds)
      (fine-states K m st h.fine refl refl (length-set m.states.kept q i)) h.notes h.used))

  -- the bit of a state
  pub mark-ends : (R : CMemory → Inner → Store → Locals → Type 0) (c q : ℕ) (b : Bool) (rest : plan.Block)
      → q < state_count K.tree → or_parent K.tree (parent_of K.tree q) ≡ None → Goes c R rest
      → Goes c R (plan.Mark q b rest)
  unfolding exec plan_c
  mark-ends R c q b rest lt none go m l s loc h =
      let ch = turns int calls k K.tree K.numbers (layout K) m.states q b (plan_c K rest) s loc fit.most is_layout
      h.shows.states lt none (omega (arith, lt, h.fine.flags)) in
      subst (λ (o : Outcome). EndsIn R (X rest (with_states (set_flag q b m.states) m) l) o) (sym ch.goes)
      (go _ l _ loc (at-memory K c0 u0 p0 now c c m _ l s _ loc h
      (states-put K None m s h.shows h.fine.long (set_flag q b m.states) _ ch.value (omega arith) ch.holds)
      (fine-states K m (set_flag q b m.states) h.fine refl (length-set m.states.flags q b) refl) h.notes h.used))

  -- an event is emitted, after a step was paid
  pub put-ends : (R : CMemory → Inner → Store → Locals → Type 0) (c e : ℕ) (rest : plan.Block) → e < 2 ^ 16
      → StatementsKeep (X rest) → Goes c R rest → (m : CMemory) (l : Inner) (s : Store) (loc : Locals)
      → At c m l s loc → length m.outputs < m.used
      → EndsIn R (X (plan.Put e rest) m l) (Y (plan_c K (plan.Put e rest)) s loc)
  unfolding exec plan_c
  put-ends R c e rest small keep go m l s loc h paid = λ room.
      let n = length m.outputs in
      let few : n < 2 ^ 16 = omega (arith, paid, h.fine.used, fit.steps) in
      let more = length-push m.outputs e in
      let later = keep (record m { outputs = m.outputs ++ e ∷ [] }) l K.outputs room in
      let lt : n < K.outputs = omega (arith, more, later) in
      let one = with_element s out_row (pos n) (unsigned W32 e) in
      let two = with_field one (outs_field K) (unsigned W32 (n + 1)) in
      subst (λ (o : Outcome). EndsAlike K c0 u0 f0 R (X rest (record m { outputs = m.outputs ++ e ∷ [] }) l) o)
      (sym (store_at-goes int fit.most calls k (count_up (outs_field K)
      (plan_c K rest)) s loc out_row n e K.outputs
      (Field (outs_field K)) (number e) m.outputs h.shows.out lt (omega (arith, small))
      (field-means int fit.most s loc (outs_field K) n h.shows.outs)
      (number-means int fit.most s loc e (omega (arith, small)))
      ∙ put-word int fit.most calls k (plan_c K rest) one loc (outs_field K) n _ _
      (record { there = h.shows.outs.there; small = h.shows.outs.small }) (omega (arith, few))
      (plus-means int fit.most one loc (Field (outs_field K)) (number 1) n 1 (omega (arith, few)) (omega arith)
      (omega (arith, few))
      (field-means int fit.most one loc (outs_field K) n
      (record { there = h.shows.outs.there; small = h.shows.outs.small }))
      (number-means int fit.most one loc 1 (omega arith)))))
      (go _ l two loc (at-memory K c0 u0 p0 now c c m _ l s two loc h
      (out-put K None m s h.shows h.fine.long e lt (omega (arith, few)))
      (record {
        chosen = h.fine.chosen;
        flags = h.fine.flags;
        kept = h.fine.kept;
        sorts = h.fine.sorts;
        declared = h.fine.declared;
        long = h.fine.long;
        outputs = omega (arith, more, paid);
        used = h.fine.used;
        noted = h.fine.noted;
      }) h.notes h.used) room)

  -- a note is pushed
  pub push-ends : (R : CMemory → Inner → Store → Locals → Type 0) (c q : ℕ) (rest : plan.Block) → IsIn K.noted q
      → c < K.notes → c < 2 ^ 31 → (m : CMemory) (l : Inner) (s : Store) (loc : Locals) → At c m l s loc
      → ((s' : Store) → At (c + 1) (record m { notes = m.notes ++ q ∷ [] }) l s' loc
      → EndsIn R (X rest (record m { notes = m.notes ++ q ∷ [] }) l) (Y (plan_c K rest) s' loc))
      → EndsIn R (X (plan.Push q rest) m l) (Y (plan_c K (plan.Push q rest)) s loc)
  unfolding exec plan_c
  push-ends R c q rest is room low m l s loc h go =
      let n = length m.notes in
      let lt = fit.noted q is in
      let few : n < K.notes = omega (arith, h.notes, room) in
      let small : n < 2 ^ 31 = omega (arith, h.notes, low) in
      let one = with_element s note_row (pos n) (unsigned W32 q) in
      let two = with_field one (noted_field K) (unsigned W32 (n + 1)) in
      subst (λ (o : Outcome). EndsIn R (X rest (record m { notes = m.notes ++ q ∷ [] }) l) o)
      (sym (store_at-goes int fit.most calls k (count_up (noted_field K) (plan_c K rest)) s loc note_row n q K.notes
      (Field (noted_field K)) (number q) m.notes h.shows.note few (omega (arith, lt, fit.procs))
      (field-means int fit.most s loc (noted_field K) n h.shows.noted)
      (number-means int fit.most s loc q (omega (arith, lt, fit.procs)))
      ∙ put-word int fit.most calls k (plan_c K rest) one loc (noted_field K) n _ _
      (record { there = h.shows.noted.there; small = h.shows.noted.small }) (omega (arith, small))
      (plus-means int fit.most one loc (Field (noted_field K)) (number 1) n 1 (omega (arith, small))
      (omega arith)
      (omega (arith, small))
      (field-means int fit.most one loc (noted_field K) n
      (record { there = h.shows.noted.there; small = h.shows.noted.small }))
      (number-means int fit.most one loc 1 (omega arith)))))
      (go two (at-memory K c0 u0 p0 now c (c + 1) m _ l s two loc h
      (note-put K None m s h.shows h.fine.long q few (omega (arith, small)))
      (record {
        chosen = h.fine.chosen;
        flags = h.fine.flags;
        kept = h.fine.kept;
        sorts = h.fine.sorts;
        declared = h.fine.declared;
        long = h.fine.long;
        outputs = h.fine.outputs;
        used = h.fine.used;
        noted = λ i x e. ⊎_elim (λ a. h.fine.noted i x a) (λ a. subst (λ (y : ℕ). IsIn K.noted y) (sym a.1) is)
            (push-got m.notes q i x e);
      }) (length-push m.notes q ∙ ap (λ (z : ℕ). z + 1) h.notes) h.used))

  -- the last note is dropped
  pub pop-ends : (R : CMemory → Inner → Store → Locals → Type 0) (c : ℕ) (rest : plan.Block) → Goes c R rest
      → Goes (c + 1) R (plan.Pop rest)
  unfolding exec plan_c
  pop-ends R c rest go m l s loc h =
      let n = length m.notes in
      let some : 1 ≤ n = omega (arith, h.notes) in
      let s' = with_field s (noted_field K) (unsigned W32 (n - 1)) in
      subst (λ (o : Outcome). EndsIn R (X rest (record m { notes = p.front m.notes }) l) o)
      (sym (put-word int fit.most calls k (plan_c K rest) s loc (noted_field K) n _ _ h.shows.noted
      (omega (arith, h.shows.noted.small))
      (less-means int fit.most s loc (Field (noted_field K)) (number 1) n 1 h.shows.noted.small some
      (field-means int fit.most s loc (noted_field K) n h.shows.noted)
      (number-means int fit.most s loc 1 (omega arith)))))
      (go _ l s' loc (at-memory K c0 u0 p0 now (c + 1) c m _ l s s' loc h
      (note-drop K None m s h.shows h.fine.long)
      (record {
        chosen = h.fine.chosen;
        flags = h.fine.flags;
        kept = h.fine.kept;
        sorts = h.fine.sorts;
        declared = h.fine.declared;
        long = h.fine.long;
        outputs = h.fine.outputs;
        used = h.fine.used;
        noted = λ i x e. h.fine.noted i x (front-got m.notes i x e);
      }) (let e = front-length m.notes in omega (arith, e, h.notes)) h.used))
