-- The functions of a file do what the plans of procedures do.
use Rattle.std.proofs.Common.{◌≡◌, ℕ, zero, suc, ◌+◌, ◌^◌, ◌<◌, ◌≤◌, nat_eq, pos, Bool, true, false, cond}
use Rattle.std.proofs.Common.{List, [], ◌∷◌, ◌++◌, length, map, Option, Some, None, slice_get, refl, sym, ap, ◌∙◌}
use Rattle.std.proofs.Common.{subst, arith}
use Rattle.std.proofs.lemmas.Bool.Decides.{nat_tests}
use Rattle.std.specs.List.{range_with_len}
use Rattle.active_config.specs.Tree.{state_count, parent_of}
use Rattle.actions.specs.Work.{Now}
use Rattle.code_language.specs.Code.{Procedures, instructions}
use Rattle.c_subset.specs.Trees.{CExpr, Local, Compare}
use Rattle.c_subset.specs.declared.trees.Width.{Width}
use Rattle.c_subset.specs.declared.trees.Width.TheVariants.{W8, W16, W32, W64, W128}
use Rattle.c_subset.specs.declared.trees.Comparison.TheVariants.{IsEqual}
use Rattle.c_subset.specs.declared.trees.CType.TheVariants.{Truth}
use Rattle.c_subset.specs.Trees.{Block, End, Return, Set}
use Rattle.c_subset.specs.Trees.{Function, File}
use Rattle.c_subset.specs.Meaning.{Meaning, one_if, Store, Locals}
use Rattle.c_subset.specs.Running.{Outcome, Falls, Returns, Calls, with_value, and_on, no_locals, with_local}
use Rattle.c_subset.specs.Running.{returned, run, outcome, call}
use Rattle.c_subset.specs.Helpers.{floor_function}
use Rattle.c_subset.proofs.TypeLemmas.{truth-stays}
use Rattle.c_functions.specs.Claims.{Has}
use Rattle.c_functions.proofs.CodeStatements.{file-divides}
use Rattle.c_functions.specs.Statements.{CMemory, Locals as Inner, Out, Fell, Left, Failed, Starved, Wrong}
use Rattle.c_functions.specs.Statements as plan
use Rattle.c_functions.specs.Meaning as p
use Rattle.c_functions.specs.Meaning.{begins, call_fn, exec}
use Rattle.c_functions.specs.Written.{Written}
use Rattle.c_functions.specs.Layout.{on_c, bare_c}
use Rattle.c_functions.specs.Plans.{Shape, layout, on_function, bare_function, noted_function, helper, event_number}
use Rattle.c_functions.specs.Plans.{bad, word, number, plays, plan_c}
use Rattle.c_functions.specs.Files.{Represents, procedure_c, home_body, home_function, noted_c, functions_c}
use Rattle.c_functions.specs.Moments.{BeginsWith}
use Rattle.c_functions.proofs.LayoutTests.{unsigned, own-stays, equal-numbers, on-has, bare-has}
use Rattle.c_functions.proofs.LayoutPlaces.{is-layout}
use Rattle.c_functions.proofs.PlansWords.{number-means, local-means, compare-has, argument-goes, arguments-end, set-goes}
use Rattle.c_functions.proofs.PlansWords.{if-goes}
use Rattle.c_functions.proofs.PlansEnds.{IsFit, HasRoomFor, IsFine, IsAt, Ends, EndsCall, program_c}
use Rattle.c_functions.proofs.PlansBranches.{five, ProceduresFollow, HasCalls}
use Rattle.c_functions.proofs.FilesNoted.{notes-follow}
use Rattle.c_functions.proofs.PlansSimulation.{AreGood, sim}
use Rattle.c_functions.proofs.PlansOutputs.{calls-keep}

-- ---- which functions stand where

pub get-left : {A : Type 0} (xs ys : List A) (i : ℕ) (x : A) → slice_get xs i ≡ Some x → slice_get (xs ++ ys) i ≡ Some x
get-left [] ys i x e = absurd cc
get-left (y ∷ xs) ys zero x e = e
get-left (y ∷ xs) ys (suc i) x e = get-left xs ys i x e

pub get-right : {A : Type 0} (xs ys : List A) (n i : ℕ) → length xs ≡ n → slice_get (xs ++ ys) (n + i) ≡ slice_get ys i
get-right [] ys n i e =
    let same : n + i ≡ i = omega (arith, e) in ap (λ (j : ℕ). slice_get ys j) same
get-right (x ∷ xs) ys zero i e = absurd (omega (arith, e))
get-right (x ∷ xs) ys (suc n) i e =
    let same : suc n + i ≡ suc (n + i) = omega arith in
    ap (λ (j : ℕ). slice_get (x ∷ (xs ++ ys)) j) same ∙ get-right xs ys n i (omega (arith, e))

range-got : {A : Type 0} (f : ℕ → A) (from n i : ℕ) → i < n → slice_get (map f (range_with_len from n)) i
    ≡ Some (f (from + i))
range-got f from zero i lt = absurd (omega arith)
range-got f from (suc n) zero lt = let e : from ≡ from + 0 = omega arith in ap (λ (x : ℕ). Some (f x)) e
range-got f from (suc n) (suc i) lt =
    let e : from + 1 + i ≡ from + suc i = omega arith in
    range-got f (from + 1) n i (omega arith) ∙ ap (λ (x : ℕ). Some (f x)) e

pub range-length : {A : Type 0} (f : ℕ → A) (from n : ℕ) → length (map f (range_with_len from n)) ≡ n
range-length f from zero = refl
range-length f from (suc n) = let h = range-length f (from + 1) n in omega (arith, h)

module _ (K : Shape) (bodies : ℕ → plan.Block) (file : File) (begins_with : BeginsWith file
    (functions_c K bodies)) where
  pub procedure-there : (q : ℕ) → q < K.procs → slice_get file.functions q ≡ Some (procedure_c K (bodies q))
  unfolding functions_c
  procedure-there q lt =
      let e : 0 + q ≡ q = omega arith in
      ap (λ (fs : List Function). slice_get fs q) begins_with.is
      ∙ get-left (functions_c K bodies) begins_with.later q _
      (get-left (map (λ q. procedure_c K (bodies q)) (range_with_len 0 K.procs)) _ q _
      (range-got (λ q. procedure_c K (bodies q)) 0 K.procs q lt ∙ ap (λ (q : ℕ). Some (procedure_c K (bodies q))) e))

  tail-there : (i : ℕ) (f : Function)
      → slice_get (home_function K (on_c K.tree (layout K) K.numbers) ∷ home_function K (bare_c K.tree
      (layout K) K.numbers)
      ∷ noted_c K ∷ floor_function W8 ∷ floor_function W16 ∷ floor_function W32 ∷ floor_function W64
      ∷ floor_function W128 ∷ []) i
      ≡ Some f → slice_get file.functions (K.procs + i) ≡ Some f
  unfolding functions_c
  tail-there i f e =
      ap (λ (fs : List Function). slice_get fs (K.procs + i)) begins_with.is
      ∙ get-left (functions_c K bodies) begins_with.later (K.procs + i) f
      (get-right (map (λ q. procedure_c K (bodies q)) (range_with_len 0 K.procs)) _ K.procs i
      (range-length (λ q. procedure_c K (bodies q)) 0 K.procs) ∙ e)

  on-there : slice_get file.functions (on_function K) ≡ Some (home_function K (on_c K.tree (layout K) K.numbers))
  on-there =
      let e : K.procs ≡ K.procs + 0 = omega arith in
      ap (λ (i : ℕ). slice_get file.functions i) e ∙ tail-there 0 _ refl

  bare-there : slice_get file.functions (bare_function K) ≡ Some (home_function K (bare_c K.tree (layout K) K.numbers))
  bare-there = tail-there 1 _ refl

  noted-there : slice_get file.functions (noted_function K) ≡ Some (noted_c K)
  noted-there = tail-there 2 _ refl

  floor-there : (w : Width) → slice_get file.functions (helper K w) ≡ Some (floor_function w)
  floor-there W8 =
      let e : K.procs + 3 + 0 ≡ K.procs + 3 = omega arith in
      ap (λ (i : ℕ). slice_get file.functions i) e ∙ tail-there 3 _ refl
  floor-there W16 =
      let e : K.procs + 3 + 1 ≡ K.procs + 4 = omega arith in
      ap (λ (i : ℕ). slice_get file.functions i) e ∙ tail-there 4 _ refl
  floor-there W32 =
      let e : K.procs + 3 + 2 ≡ K.procs + 5 = omega arith in
      ap (λ (i : ℕ). slice_get file.functions i) e ∙ tail-there 5 _ refl
  floor-there W64 =
      let e : K.procs + 3 + 3 ≡ K.procs + 6 = omega arith in
      ap (λ (i : ℕ). slice_get file.functions i) e ∙ tail-there 6 _ refl
  floor-there W128 =
      let e : K.procs + 3 + 4 ≡ K.procs + 7 = omega arith in
      ap (λ (i : ℕ). slice_get file.functions i) e ∙ tail-there 7 _ refl

-- ---- functions of the home

module _ (K : Shape) (int : Width) (fit : IsFit K int) where
  return-test : (calls : Calls) (k : ℕ) (s : Store) (loc : Locals) (e : CExpr) (b : Bool)
      (has : Has int s loc e (one_if b))
      → outcome int calls k (Return e) s loc ≡ Returns s (record { type = has.0; value = one_if b })
  unfolding outcome
  return-test calls k s loc e b has = ap (λ (m : Meaning). with_value m (λ x. Returns s x)) has.1

  end-goes : (calls : Calls) (k : ℕ) (s : Store) (loc : Locals) → outcome int calls k End s loc ≡ Falls s loc
  unfolding outcome
  end-goes calls k s loc = refl

  -- the test of a state among those from a number on
  home-goes : (calls : Calls) (k : ℕ) (test : ℕ → CExpr) (x : ℕ) (b : Bool) (s : Store) (loc : Locals)
      → x < state_count K.tree → loc word 0 ≡ Some (pos x) → (has : Has int s loc (test x) (one_if b)) → (from n : ℕ)
      → from ≤ x → x < from + n → from + n ≤ state_count K.tree
      → outcome int calls k (home_body test (range_with_len from n)) s loc
      ≡ Returns s (record { type = has.0; value = one_if b })
  home-goes calls k test x b s loc lt there has from zero low high within = absurd (omega (arith, low, high))
  home-goes calls k test x b s loc lt there has from (suc n) low high within =
      if-goes int fit.most calls k (home_body test (range_with_len (from + 1) n)) s loc (nat_eq x from)
      (Compare IsEqual (Local word 0) (number from)) (Return (test from)) End
      (subst (λ (c : Bool). Has int s loc (Compare IsEqual (Local word 0) (number from)) (one_if c))
      (equal-numbers x from)
      (compare-has int fit.most s loc IsEqual (Local word 0) (number from) x from (omega (arith, lt, fit.states))
      (omega (arith, within, fit.states)) (local-means int fit.most s loc 0 x there)
      (number-means int fit.most s loc from (omega (arith, within, fit.states)))))
      ∙ at (nat_eq x from) refl (return-test calls k s loc (test x) b has)
      (λ further. home-goes calls k test x b s loc lt there has (from + 1) n further (omega (arith, high))
      (omega (arith, within)))
    where
      at : (c : Bool) → nat_eq x from ≡ c
          → outcome int calls k (Return (test x)) s loc ≡ Returns s (record { type = has.0; value = one_if b })
          → (from + 1 ≤ x → outcome int calls k (home_body test (range_with_len (from + 1) n)) s loc
          ≡ Returns s (record { type = has.0; value = one_if b }))
          → and_on (cond c (outcome int calls k (Return (test from)) s loc) (outcome int calls k End s loc))
          (λ v m. outcome int calls k (home_body test (range_with_len (from + 1) n)) v m)
          ≡ Returns s (record { type = has.0; value = one_if b })
      at true e here more =
          let same : from ≡ x = grind (arith, nat_tests) in
          ap (λ (y : ℕ). and_on (outcome int calls k (Return (test y)) s loc)
          (λ v m. outcome int calls k (home_body test (range_with_len (from + 1) n)) v m)) same
          ∙ ap (λ (o : Outcome). and_on o
          (λ v m. outcome int calls k (home_body test (range_with_len (from + 1) n)) v m)) here
      at false e here more =
          let further : from + 1 ≤ x = grind (arith, nat_tests) in
          ap (λ (o : Outcome). and_on o (λ v m. outcome int calls k (home_body test (range_with_len (from + 1) n)) v m))
          (end-goes calls k s loc) ∙ more further

  home-call : (file : File) (j f x : ℕ) (test : ℕ → CExpr) (b : Bool) (s : Store)
      → slice_get file.functions f ≡ Some (home_function K test) → x < state_count K.tree
      → ((loc : Locals) → Has int s loc (test x) (one_if b))
      → call file int (suc j) f (unsigned W32 x ∷ []) s ≡ Returns s (record { type = Truth; value = one_if b })
  unfolding call
  home-call file j f x test b s there lt has =
      let loc = with_local no_locals word 0 (pos x) in
      ap (λ (o : Option Function). run int (call file int j) j o (unsigned W32 x ∷ []) s) there
      ∙ argument-goes [] x [] 0 no_locals (λ l. returned Truth
      (outcome int (call file int j) j (home_body test (range_with_len 0 (state_count K.tree))) s l))
      (omega (arith, lt, fit.states))
      ∙ arguments-end 1 loc (λ l. returned Truth
      (outcome int (call file int j) j (home_body test (range_with_len 0 (state_count K.tree))) s l))
      ∙ ap (returned Truth) (home-goes (call file int j) j test x b s loc lt refl (has loc) 0 (state_count K.tree)
      (omega arith) (omega (arith, lt)) (omega arith))
      ∙ ap (λ (c : Bool). Returns s (record { type = Truth; value = one_if c })) (truth-stays b)

-- ---- functions of procedures

module _ (K : Shape) (int : Width) (fit : IsFit K int) (bodies : ℕ → plan.Block) (file : File)
    (begins_with : BeginsWith file (functions_c K bodies)) (h : ℕ → ℕ) (most : ℕ) (low : (q : ℕ) → h q ≤ most)
    (room : HasRoomFor K most) (k : Procedures) (react_there : k.react < K.procs)
    (parents : (s q : ℕ) → s < state_count K.tree → parent_of K.tree s ≡ Some q → q < state_count K.tree)
    (written : (q : ℕ) → Written K.tree K.numbers k.react (instructions k q) [] (bodies q))
    (good : (q : ℕ) → q < K.procs → AreGood K k.react (K.tests.after q) h (h q) (instructions k q)) where
  -- what a function gives of what its body did
  closed-ends : (c0 u0 : ℕ) (f0 : Bool) (Q : CMemory → Inner → Store → Locals → Type 0) (o : Out) (o' : Outcome)
      → Ends K c0 u0 f0 Q o o' → EndsCall K c0 u0 f0 (p.closed o) (returned word o')
  closed-ends c0 u0 f0 Q (Fell m l) o' e = λ room. tt
  closed-ends c0 u0 f0 Q (Left m r) o' e = λ room.
      let f = e room in
      let small = f.2.result_is in (
        f.0,
        ap (returned word) f.1
            ∙ ap (λ (m : Meaning). with_value m (λ y. Returns f.0 y)) (own-stays W32 r (omega (arith, small))),
        f.2,
      )
  closed-ends c0 u0 f0 Q (Failed m x) o' e = λ room t.
      let f = e room t in (
        f.0,
        ap (returned word) f.1
            ∙ ap (λ (m : Meaning). with_value m (λ y. Returns f.0 y)) (own-stays W32 bad (omega arith)),
        f.2,
        f.3,
      )
  closed-ends c0 u0 f0 Q Starved o' e = λ room. tt
  closed-ends c0 u0 f0 Q Wrong o' e = λ room. tt

  -- the locals that are parameters
  abbrev given : ℕ → ℕ → ℕ → ℕ → ℕ → Locals
  given e d b h r =
      with_local (with_local (with_local (with_local (with_local no_locals word 0 (pos e)) word 1 (pos d))
      word 2 (pos b)) word 3 (pos h)) word 4 (pos r)

  -- the locals with which the body of a plan begins, which plays or doesn't
  abbrev begun : Bool → ℕ → ℕ → ℕ → ℕ → ℕ → Locals
  begun true e d b h r = with_local (given e d b h r) word 5 (pos 0)
  begun false e d b h r = given e d b h r

  -- a call of a plan's function doesn't fall through
  call-closes : (j q base home r : ℕ) (now : Now) (m : CMemory)
      → p.closed (call_fn (program_c K bodies) j q now base home r m)
      ≡ call_fn (program_c K bodies) j q now base home r m
  unfolding call_fn
  call-closes zero q base home r now m = refl
  call-closes (suc j) q base home r now m =
      at (exec (program_c K bodies) (call_fn (program_c K bodies) j) j now (bodies q) m (begins base home r))
    where
      at : (o : Out) → p.closed (p.closed o) ≡ p.closed o
      at (Fell m l) = refl
      at (Left m r) = refl
      at (Failed m x) = refl
      at Starved = refl
      at Wrong = refl

  -- where functions of procedures do what the plans do, with that fuel and with one unit less
  has-calls : (j n : ℕ) → ProceduresFollow K h most (call_fn (program_c K bodies) j) (call file int (suc n))
      → ProceduresFollow K h most (call_fn (program_c K bodies) j) (call file int n)
      → HasCalls K h most (call_fn (program_c K bodies) j) (call file int (suc n))
  has-calls j n follow less = record {
    procedures = follow;
    keep = calls-keep K bodies j;
    notes = notes-follow K int fit file (noted-there K bodies file begins_with) h most
        (call_fn (program_c K bodies) j) n (call-closes j) less;
    divides = λ s. file-divides file int n (helper K) s (floor-there K bodies file begins_with);
    asks_on = λ st s x holds lt. home-call K int fit file n (on_function K) x (on_c K.tree (layout K) K.numbers) _ s
        (on-there K bodies file begins_with) lt
        (λ loc. on-has int s loc K.tree K.numbers (layout K) st x fit.most
        (is-layout K.tree K.numbers (length K.names.vars + 6) fit.numbers) holds lt);
    asks_bare = λ st s x holds lt. home-call K int fit file n (bare_function K) x (bare_c K.tree
        (layout K) K.numbers) _ s
        (bare-there K bodies file begins_with) lt
        (λ loc. bare-has int s loc K.tree K.numbers (layout K) st x fit.most
        (is-layout K.tree K.numbers (length K.names.vars + 6) fit.numbers) holds lt);
  }

  -- the cursor is set, or there is none
  cursor-set : (calls : Calls) (n : ℕ) (plays : Bool) (a : Block) (e d b z r : ℕ) (s : Store)
      → outcome int calls n (cond plays (Set word 5 (number 0) a) a) s (given e d b z r)
      ≡ outcome int calls n a s (begun plays e d b z r)
  cursor-set calls n true a e d b z r s =
      set-goes int fit.most calls n a s (given e d b z r) 5 0 (number 0) (omega arith)
      (number-means int fit.most s (given e d b z r) 0 (omega arith))
  cursor-set calls n false a e d b z r s = refl

  -- a call binds its arguments and the cursor
  call-runs : (j q : ℕ) (body : plan.Block) (e d b z r : ℕ) (s : Store)
      → slice_get file.functions q ≡ Some (procedure_c K body) → e < 2 ^ 32 → d < 2 ^ 32 → b < 2 ^ 32 → z < 2 ^ 32
      → r < 2 ^ 32
      → call file int (suc (suc j)) q (five e d b z r) s
      ≡ returned word (outcome int (call file int (suc j)) (suc j) (plan_c K body) s (begun (plays body) e d b z r))
  unfolding call
  call-runs j q body e d b z r s there fe fd fb fz fr =
      let calls = call file int (suc j) in
      let go = λ (l : Locals). returned word (outcome int calls (suc j) (procedure_c K body).body s l) in
      let l1 = with_local no_locals word 0 (pos e) in
      let l2 = with_local l1 word 1 (pos d) in
      let l3 = with_local l2 word 2 (pos b) in
      let l4 = with_local l3 word 3 (pos z) in
      ap (λ (o : Option Function). run int calls (suc j) o (five e d b z r) s) there
      ∙ argument-goes (word ∷ word ∷ word ∷ word ∷ []) e _ 0 no_locals go fe
      ∙ argument-goes (word ∷ word ∷ word ∷ []) d _ 1 l1 go fd
      ∙ argument-goes (word ∷ word ∷ []) b _ 2 l2 go fb
      ∙ argument-goes (word ∷ []) z _ 3 l3 go fz
      ∙ argument-goes [] r _ 4 l4 go fr
      ∙ arguments-end 5 (given e d b z r) go
      ∙ ap (returned word) (cursor-set calls (suc j) (plays body) (plan_c K body) e d b z r s)

  -- where a body begins
  at-begin : (plays : Bool) (now : Now) (m : CMemory) (base home r : ℕ) (s : Store) → Represents K None m s → IsFine K m
      → base ≤ length m.notes → home < state_count K.tree → r < bad
      → IsAt K (length m.notes) m.used plays now (length m.notes) m (begins base home r) s
      (begun plays (event_number K.names now.event) now.depth base home r)
  at-begin true now m base home r s shows fine base_le home_is result_is = record {
    shows = shows;
    fine = fine;
    notes = refl;
    used = omega arith;
    event = refl;
    depth = refl;
    base = refl;
    home = refl;
    result = refl;
    cursor = λ e. refl;
    base_le = base_le;
    home_is = home_is;
    result_is = result_is;
    cursor_le = omega arith;
  }
  at-begin false now m base home r s shows fine base_le home_is result_is = record {
    shows = shows;
    fine = fine;
    notes = refl;
    used = omega arith;
    event = refl;
    depth = refl;
    base = refl;
    home = refl;
    result = refl;
    cursor = λ e. absurd cc;
    base_le = base_le;
    home_is = home_is;
    result_is = result_is;
    cursor_le = omega arith;
  }

  -- each call of a function does what the plan does, with two units of fuel for one of the plan: a noted procedure is
  -- called through one more function
  pub follow : (j n : ℕ) → j + j < n
      → ProceduresFollow K h most (call_fn (program_c K bodies) j) (call file int n)
  unfolding call_fn
  follow zero n lt q base home r now m s can = λ room. tt
  follow (suc j) zero lt q base home r now m s can = absurd (omega (arith, lt))
  follow (suc j) (suc zero) lt q base home r now m s can = absurd (omega (arith, lt))
  follow (suc j) (suc (suc zero)) lt q base home r now m s can = absurd (omega (arith, lt))
  follow (suc j) (suc (suc (suc n))) lt q base home r now m s can =
      let e = event_number K.names now.event in
      let c0 = length m.notes in
      let p0 = plays (bodies q) in
      let after = begun p0 e now.depth base home r in
      let calls = call file int (suc (suc n)) in
      let few = can.shows.noted.small in
      let at = at-begin p0 now m base home r s can.shows can.fine can.base_le can.home_is can.result_is in
      subst (λ (o : Outcome). EndsCall K c0 m.used (K.tests.after q)
      (call_fn (program_c K bodies) (suc j) q now base home r m) o)
      (sym (call-runs (suc n) q (bodies q) e now.depth base home r s (procedure-there K bodies file begins_with q
      can.proc) (let v = can.event in omega (arith, v)) (let d = can.depth in omega (arith, d, fit.depth))
      (let b = can.base_le in omega (arith, b, few)) (let h = can.home_is in omega (arith, h, fit.states))
      (let r = can.result_is in omega (arith, r))))
      (closed-ends c0 m.used (K.tests.after q) (IsAt K c0 m.used p0 now c0)
      (exec (program_c K bodies) (call_fn (program_c K bodies) j) j now (bodies q) m (begins base home r))
      (outcome int calls (suc (suc n)) (plan_c K (bodies q)) s after)
      (sim K int fit bodies (call_fn (program_c K bodies) j) j calls (suc (suc n)) c0 m.used (K.tests.after q) p0 now h
      most low room (has-calls j (suc n) (follow j (suc (suc n)) (omega (arith, lt)))
      (follow j (suc n) (omega (arith, lt))))
      can.event can.depth (omega (arith, lt)) k.react react_there parents (h q) can.room (written q)
      (good q can.proc) (λ e. e) m (begins base home r) s after at))
