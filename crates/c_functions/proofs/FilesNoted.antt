-- The function that calls a noted procedure does what that procedure's plan does.
use Rattle.std.proofs.Common.{◌≡◌, ℕ, suc, ◌^◌, ◌<◌, ◌≤◌, nat_eq, pos, int_le}
use Rattle.std.proofs.Common.{Bool, true, false, cond, ◌&&◌, ◌||◌, List, [], ◌∷◌, length, Option, Some, slice_get}
use Rattle.std.proofs.Common.{refl, sym, ap, ◌∙◌, subst, arith}
use Rattle.std.proofs.lemmas.Bool.Decides.{nat_tests}
use Rattle.std.proofs.lemmas.Int.{ints}
use Rattle.std.specs.List.{list_any}
use Rattle.actions.specs.Work.{Now}
use Rattle.c_subset.specs.Trees.{CExpr, Local, Block, Return, Select, Function, File}
use Rattle.c_subset.specs.declared.trees.Width.{Width}
use Rattle.c_subset.specs.declared.trees.Width.TheVariants.{W8, W16, W32, W64, W128}
use Rattle.c_subset.specs.declared.trees.CType.{CType}
use Rattle.c_subset.specs.Meaning.{bits, CValue, Meaning, gives, converted, promoted, Store, Locals, meaning}
use Rattle.c_subset.specs.Running.{Outcome, Returns, Calls, with_value, with_local, no_locals, with_values, called}
use Rattle.c_subset.specs.Running.{selected, returned, run, outcome, call}
use Rattle.c_functions.specs.Statements.{CMemory, Out, Fell, Left, Failed, Starved, Wrong}
use Rattle.c_functions.specs.Meaning as p
use Rattle.c_functions.specs.Plans.{Shape, noted_function, event_number, bad, word}
use Rattle.c_functions.specs.Plans.{event_local, depth_local, base_local, home_local, result_local, cases_of}
use Rattle.c_functions.specs.Files.{noted_c}
use Rattle.c_functions.proofs.LayoutTests.{unsigned, own-stays}
use Rattle.c_functions.proofs.PlansWords.{local-means, values-given, called-goes, argument-goes, arguments-end}
use Rattle.c_functions.proofs.PlansWords.{return-gives}
use Rattle.c_functions.proofs.NotesLemmas.{IsIn, or-right, same-true}
use Rattle.c_functions.proofs.PlansEnds.{IsFit, EndsCall}
use Rattle.c_functions.proofs.PlansBranches.{five, six, ProceduresFollow, NotesFollow}

-- a word isn't promoted
promoted_word : (int : Width) → bits int ≤ 32 → promoted int word ≡ word
promoted_word W8 most = refl
promoted_word W16 most = refl
promoted_word W32 most = refl
promoted_word W64 most = absurd (omega arith)
promoted_word W128 most = absurd (omega arith)

-- two numbers, compared as a label is
label-test : (a q : ℕ) → (int_le (pos a) (pos q) && int_le (pos q) (pos a)) ≡ nat_eq a q
label-test a q = at (nat_eq a q) refl
  where
    at : (b : Bool) → nat_eq a q ≡ b → (int_le (pos a) (pos q) && int_le (pos q) (pos a)) ≡ b
    at true e = let same : a ≡ q = grind (arith, nat_tests) in grind (arith, ints)
    at false e = let other : a ≡ q → ⊥ = grind (arith, nat_tests) in grind (arith, ints)

-- the case of a procedure is found
selects : (xs : List ℕ) (q : ℕ) (go : ℕ → Outcome) (other : Outcome) → IsIn xs q
    → ((x : ℕ) → IsIn xs x → x < 2 ^ 32) → selected word (pos q) (cases_of xs) go other ≡ go q
selects [] q go other is small = absurd cc
selects (a ∷ xs) q go other is small =
    ap (λ (m : Meaning). with_value m (λ y. cond (int_le y.value (pos q) && int_le (pos q) y.value) (go a)
    (selected word (pos q) (cases_of xs) go other)))
    (own-stays W32 a (small a (ap (λ (b : Bool). b || list_any (λ x. nat_eq x a) xs) (same-true a))))
    ∙ ap (λ (b : Bool). cond b (go a) (selected word (pos q) (cases_of xs) go other)) (label-test a q)
    ∙ at (nat_eq a q) refl is
    (λ later. selects xs q go other later (λ x h. small x (or-right (nat_eq a x) _ h)))
  where
    at : (b : Bool) → nat_eq a q ≡ b → (b || list_any (λ x. nat_eq x q) xs) ≡ true
        → (IsIn xs q → selected word (pos q) (cases_of xs) go other ≡ go q)
        → cond b (go a) (selected word (pos q) (cases_of xs) go other) ≡ go q
    at true e h more = let same : a ≡ q = grind (arith, nat_tests) in ap go same
    at false e h more = more h

module _ (K : Shape) (int : Width) (fit : IsFit K int) (calls : Calls) (k : ℕ) where
  abbrev Y : Block → Store → Locals → Outcome
  Y a s loc = outcome int calls k a s loc

  -- its case is chosen
  select-goes : (rest : Block) (s : Store) (loc : Locals) (e : CExpr) (args : List CExpr) (vs : List CValue) (q : ℕ)
      → IsIn K.noted q → meaning int s loc e ≡ gives word (pos q)
      → ((f : List CValue → Outcome) → with_values int s loc args f ≡ f vs)
      → Y (Select word 4 e (cases_of K.noted) args rest) s loc
      ≡ called (calls q vs s) word 4 loc (λ v z. Y rest v z)
  unfolding outcome
  select-goes rest s loc e args vs q is means given =
      let lt = fit.noted q is in
      let go = λ (p : CValue). with_values int s loc args (λ xs. selected p.type p.value (cases_of K.noted)
      (λ f. called (calls f xs s) word 4 loc (λ v z. Y rest v z)) (Y rest s loc)) in
      ap (λ (m : Meaning). with_value m (λ n. with_value (converted (promoted int n.type) n.value) go)) means
      ∙ ap (λ (t : CType). with_value (converted t (pos q)) go) (promoted_word int fit.most)
      ∙ ap (λ (m : Meaning). with_value m go) (own-stays W32 q (omega (arith, lt, fit.procs)))
      ∙ given (λ xs. selected word (pos q) (cases_of K.noted)
      (λ f. called (calls f xs s) word 4 loc (λ v z. Y rest v z)) (Y rest s loc))
      ∙ selects K.noted q (λ f. called (calls f vs s) word 4 loc (λ v z. Y rest v z)) (Y rest s loc) is
      (λ x h. let below = fit.noted x h in omega (arith, below, fit.procs))

  -- a result of the procedure is returned
  result-goes : (s : Store) (loc : Locals) (r : ℕ) → r < 2 ^ 32
      → returned word (called (Returns s (unsigned W32 r)) word 4 loc (λ v z. Y (Return result_local) v z))
      ≡ Returns s (unsigned W32 r)
  result-goes s loc r small =
      ap (returned word) (called-goes s r 4 loc (λ v z. Y (Return result_local) v z) small
      ∙ return-gives int calls k s (with_local loc word 4 (pos r)) r result_local
      (local-means int fit.most s (with_local loc word 4 (pos r)) 4 r refl))
      ∙ ap (λ (m : Meaning). with_value m (λ y. Returns s y)) (own-stays W32 r small)

  -- and so is what it ended with
  result-ends : (c u : ℕ) (f0 : Bool) (o : Out) (o' : Outcome) (loc : Locals) → EndsCall K c u f0 o o'
      → EndsCall K c u f0 (p.closed o) (returned word (called o' word 4 loc (λ v z. Y (Return result_local) v z)))
  result-ends c u f0 (Fell m l) o' loc e = λ room. tt
  result-ends c u f0 (Left m r) o' loc e = λ room.
      let f = e room in
      let small = f.2.result_is in (
        f.0,
        ap (λ (o : Outcome). returned word (called o word 4 loc (λ v z. Y (Return result_local) v z))) f.1
            ∙ result-goes f.0 loc r (omega (arith, small)),
        f.2,
      )
  result-ends c u f0 (Failed m x) o' loc e = λ room t.
      let f = e room t in (
        f.0,
        ap (λ (o : Outcome). returned word (called o word 4 loc (λ v z. Y (Return result_local) v z))) f.1
            ∙ result-goes f.0 loc bad (omega arith),
        f.2,
        f.3,
      )
  result-ends c u f0 Starved o' loc e = λ room. tt
  result-ends c u f0 Wrong o' loc e = λ room. tt

  -- the locals that are parameters
  abbrev handed : ℕ → ℕ → ℕ → ℕ → ℕ → ℕ → Locals
  handed e d b h r q =
      with_local (with_local (with_local (with_local (with_local (with_local no_locals word 0 (pos e)) word 1 (pos d))
      word 2 (pos b)) word 3 (pos h)) word 4 (pos r)) word 5 (pos q)

  -- the body calls the procedure
  body-goes : (e d b h r q : ℕ) (s : Store) → IsIn K.noted q
      → outcome int calls k (noted_c K).body s (handed e d b h r q)
      ≡ called (calls q (five e d b h r) s) word 4 (handed e d b h r q) (λ v z. Y (Return result_local) v z)
  body-goes e d b h r q s is =
      let loc = handed e d b h r q in
      let args = event_local ∷ depth_local ∷ base_local ∷ home_local ∷ result_local ∷ [] in
      select-goes (Return result_local) s loc (Local word 5) args (five e d b h r) q is
      (local-means int fit.most s loc 5 q refl)
      (λ f. values-given int fit.most s loc args (five e d b h r) f (
        local-means int fit.most s loc 0 e refl,
        (
          local-means int fit.most s loc 1 d refl,
          (
            local-means int fit.most s loc 2 b refl,
            (local-means int fit.most s loc 3 h refl, (local-means int fit.most s loc 4 r refl, tt)),
          ),
        ),
      ))

module _ (K : Shape) (int : Width) (fit : IsFit K int) (file : File)
    (there : slice_get file.functions (noted_function K) ≡ Some (noted_c K)) where
  -- a call binds its arguments
  note-runs : (n e d b h r q : ℕ) (s : Store) → IsIn K.noted q → e < 2 ^ 32 → d < 2 ^ 32 → b < 2 ^ 32 → h < 2 ^ 32
      → r < 2 ^ 32 → call file int (suc n) (noted_function K) (six e d b h r q) s
      ≡ returned word (called (call file int n q (five e d b h r) s) word 4
      (handed K int fit (call file int n) n e d b h r q)
      (λ v z. outcome int (call file int n) n (Return result_local) v z))
  unfolding call
  note-runs n e d b h r q s is fe fd fb fh fr =
      let calls = call file int n in
      let go = λ (l : Locals). returned word (outcome int calls n (noted_c K).body s l) in
      let l1 = with_local no_locals word 0 (pos e) in
      let l2 = with_local l1 word 1 (pos d) in
      let l3 = with_local l2 word 2 (pos b) in
      let l4 = with_local l3 word 3 (pos h) in
      let l5 = with_local l4 word 4 (pos r) in
      let lt = fit.noted q is in
      ap (λ (o : Option Function). run int calls n o (six e d b h r q) s) there
      ∙ argument-goes (word ∷ word ∷ word ∷ word ∷ word ∷ []) e _ 0 no_locals go fe
      ∙ argument-goes (word ∷ word ∷ word ∷ word ∷ []) d _ 1 l1 go fd
      ∙ argument-goes (word ∷ word ∷ word ∷ []) b _ 2 l2 go fb
      ∙ argument-goes (word ∷ word ∷ []) h _ 3 l3 go fh
      ∙ argument-goes (word ∷ []) r _ 4 l4 go fr
      ∙ argument-goes [] q _ 5 l5 go (omega (arith, lt, fit.procs))
      ∙ arguments-end 6 (handed K int fit calls n e d b h r q) go
      ∙ ap (returned word) (body-goes K int fit calls n e d b h r q s is)

  -- with one unit of fuel more than the procedures
  pub notes-follow : (h : ℕ → ℕ) (most : ℕ) (plans : p.Calls) (n : ℕ)
      → ((q base home r : ℕ) (now : Now) (m : CMemory)
      → p.closed (plans q now base home r m) ≡ plans q now base home r m)
      → ProceduresFollow K h most plans (call file int n) → NotesFollow K h most plans (call file int (suc n))
  notes-follow h most plans n closes follow q base home r now m s is can =
      let e = event_number K.names now.event in
      let few = can.shows.noted.small in
      let loc = handed K int fit (call file int n) n e now.depth base home r q in
      subst (λ (o : Outcome). EndsCall K (length m.notes) m.used (K.tests.after q) (plans q now base home r m) o)
      (sym (note-runs n e now.depth base home r q s is (let v = can.event in omega (arith, v))
      (let d = can.depth in omega (arith, d, fit.depth)) (let b = can.base_le in omega (arith, b, few))
      (let h = can.home_is in omega (arith, h, fit.states)) (let r = can.result_is in omega (arith, r))))
      (subst (λ (o : Out). EndsCall K (length m.notes) m.used (K.tests.after q) o (returned word
      (called (call file int n q (five e now.depth base home r) s) word 4 loc
      (λ v z. outcome int (call file int n) n (Return result_local) v z)))) (closes q base home r now m)
      (result-ends K int fit (call file int n) n (length m.notes) m.used (K.tests.after q) (plans q now base home r m)
      (call file int n q (five e now.depth base home r) s) loc (follow q base home r now m s can)))
