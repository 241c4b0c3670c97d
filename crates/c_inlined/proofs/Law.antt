-- A file in which calls are replaced by bodies runs as the file.
use Rattle.std.proofs.Common.{◌≡◌, ◌==◌, ℕ, zero, suc, ◌+◌, ◌≤◌, Bool, true, false, cond, List, [], ◌∷◌, Option, Some, None}
use Rattle.std.proofs.Common.{slice_get, slice_set, refl, sym, ap, ◌∙◌, subst, arith}
use Rattle.std.proofs.lemmas.Cmp.{nat_eq_equiv}
use Rattle.actions.specs.declared.expr.Value.{Value}
use Rattle.actions.specs.Runs.{EventWithInputs, Moment}
use Rattle.c_subset.specs.declared.trees.Width.{Width}
use Rattle.c_subset.specs.declared.trees.CType.{CType}
use Rattle.c_subset.specs.Trees.{Function, File, Block}
use Rattle.c_subset.specs.Meaning.{CValue, Meaning, Gives, Wrong, converted, Store, Locals}
use Rattle.c_subset.specs.Running.{Outcome, Falls, Returns, Starves, GoesWrong, with_value, no_locals, with_local}
use Rattle.c_subset.specs.Running.{Calls, outcome, with_arguments, returned, run, call}
use Rattle.c_functions.specs.Plans.{Shape, react_function}
use Rattle.c_functions.specs.Starts.{RunsOn, Refuses}
use Rattle.c_bare.proofs.Runs.{IsKept, runs-on, refuses-on}
use Rattle.c_placing.specs.Placing.{placed, ReturnAlike, HasPlaced}
use Rattle.c_placing.proofs.Base.{as-it-is}
use Rattle.c_placing.proofs.Doing.{Places, placed-places}
use Rattle.c_inlined.specs.Inlined.{IsInlinedFunction, FileIsInlined, with_function}
use Rattle.c_inlined.specs.Files.{IsInlinedFile, AsItIs, Further}
use Rattle.c_inlined.proofs.Keeping.{Keeps, inlined-keeps}

-- ---- functions

-- what the first returns the second returns
abbrev Alike : Outcome → Outcome → Type 0
Alike o p = (s : Store) (x : CValue) → o ≡ Returns s x → p ≡ Returns s x

value-alike : (m : Meaning) (f g : CValue → Outcome) → ((x : CValue) → Alike (f x) (g x))
    → Alike (with_value m f) (with_value m g)
value-alike (Gives x) f g h = h x
value-alike Wrong f g h = λ v x e. absurd cc

arguments-alike : (ts : List CType) (xs : List CValue) (k : ℕ) (l : Locals) (f g : Locals → Outcome)
    → ((l : Locals) → Alike (f l) (g l)) → Alike (with_arguments ts xs k l f) (with_arguments ts xs k l g)
unfolding with_arguments
arguments-alike [] [] k l f g h = h l
arguments-alike [] (x ∷ xs) k l f g h = λ v y e. absurd cc
arguments-alike (t ∷ ts) [] k l f g h = λ v y e. absurd cc
arguments-alike (t ∷ ts) (x ∷ xs) k l f g h =
    value-alike (converted t x.value) (λ y. with_arguments ts xs (suc k) (with_local l t k y.value) f)
    (λ y. with_arguments ts xs (suc k) (with_local l t k y.value) g)
    (λ y. arguments-alike ts xs (suc k) (with_local l t k y.value) f g h)

-- a function returns what its statements do, brought to its type
returned-alike : (n : ℕ) (t : CType) (o p : Outcome) → Keeps n t o p → Alike (returned t o) (returned t p)
returned-alike n t (Falls s l) p h = λ v x e. absurd cc
returned-alike n t (Returns s y) p h =
    λ v x e. ap (returned t) h.1 ∙ ap (λ (m : Meaning). with_value m (λ z. Returns s z)) h.2 ∙ e
returned-alike n t Starves p h = λ v x e. absurd cc
returned-alike n t GoesWrong p h = λ v x e. absurd cc

placed-alike : (t : CType) (o p : Outcome) → Places 0 o p → Alike (returned t o) (returned t p)
placed-alike t (Falls s l) p h = λ v x e. absurd cc
placed-alike t (Returns s y) p h = λ v x e. ap (returned t) h ∙ e
placed-alike t Starves p h = λ v x e. absurd cc
placed-alike t GoesWrong p h = λ v x e. absurd cc

-- locals have theirs from base 0 on
own-place : (l : Locals) → HasPlaced 0 l l
own-place l t i z e = let same : i ≡ 0 + i = omega arith in sym (ap (λ (j : ℕ). l t j) same) ∙ e

-- a function that stays as it is
same-alike : (int : Width) (c d : Calls) (k : ℕ) → ReturnAlike c d → (f : Function) (xs : List CValue) (s : Store)
    → Alike (run int c k (Some f) xs s) (run int d k (Some f) xs s)
same-alike int c d k alike f xs s =
    arguments-alike f.parameters xs 0 no_locals (λ l. returned f.result (outcome int c k f.body s l))
    (λ l. returned f.result (outcome int d k f.body s l))
    (λ l. placed-alike f.result (outcome int c k f.body s l) (outcome int d k f.body s l)
    (subst (λ (b : Block). Places 0 (outcome int c k f.body s l) (outcome int d k b s l)) (as-it-is f.body)
    (placed-places 0 int c d alike k k (omega arith) f.body s l l (own-place l))))

-- the function of that number is the other one, and the rest are as they were
set-here : (fs : List Function) (p : ℕ) (f g : Function) → slice_get fs p ≡ Some g
    → slice_get (slice_set fs p f) p ≡ Some f
set-here [] zero f g e = absurd cc
set-here [] (suc p) f g e = absurd cc
set-here (h ∷ fs) zero f g e = refl
set-here (h ∷ fs) (suc p) f g e = set-here fs p f g e

set-there : (fs : List Function) (p q : ℕ) (f : Function) → (q ≡ p → ⊥)
    → slice_get (slice_set fs p f) q ≡ slice_get fs q
set-there [] p q f other = refl
set-there (h ∷ fs) zero zero f other = absurd (other refl)
set-there (h ∷ fs) zero (suc q) f other = refl
set-there (h ∷ fs) (suc p) zero f other = refl
set-there (h ∷ fs) (suc p) (suc q) f other = set-there fs p q f (λ is. other (ap (λ (r : ℕ). suc r) is))

other-than : (q p : ℕ) → (q == p) ≡ false → q ≡ p → ⊥
other-than q p e is = at (sym e ∙ ap (λ (r : ℕ). q == r) (sym is) ∙ nat_eq_equiv.refl q)
  where
    at : false ≡ true → ⊥
    at e = absurd cc

-- ---- the file

module _ (file : File) (p : ℕ) (f' : Function) (is : FileIsInlined file p f') (int : Width) where
  abbrev made : File
  made = with_function file p f'

  -- the function with other statements
  other-alike : (k : ℕ) → ReturnAlike (call file int k) (call made int k) → (f : Function)
      → IsInlinedFunction file.functions p f f' → (xs : List CValue) (s : Store)
      → Alike (run int (call file int k) k (Some f) xs s) (run int (call made int k) k (Some f') xs s)
  other-alike k alike f h xs s =
      subst (λ (ts : List CType). Alike (run int (call file int k) k (Some f) xs s) (with_arguments ts xs 0 no_locals
      (λ l. returned f'.result (outcome int (call made int k) k f'.body s l)))) (sym h.parameters)
      (arguments-alike f.parameters xs 0 no_locals
      (λ l. returned f.result (outcome int (call file int k) k f.body s l))
      (λ l. returned f'.result (outcome int (call made int k) k f'.body s l))
      (λ l. subst (λ (t : CType). Alike (returned f.result (outcome int (call file int k) k f.body s l))
      (returned t (outcome int (call made int k) k f'.body s l))) (sym h.result)
      (returned-alike h.base f.result (outcome int (call file int k) k f.body s l)
      (outcome int (call made int k) k f'.body s l)
      (inlined-keeps file p f.result h.base int (call made int k) k alike f.body f'.body h.body h.below s l l
      (λ t i below. refl)))))

  run-alike : (k g : ℕ) (xs : List CValue) (s : Store) → ReturnAlike (call file int k) (call made int k)
      → (b : Bool) → (g == p) ≡ b → (o : Option Function) → slice_get file.functions g ≡ o
      → Alike (run int (call file int k) k o xs s)
      (run int (call made int k) k (slice_get made.functions g) xs s)
  run-alike k g xs s alike b here None there = λ v x e. absurd cc
  run-alike k g xs s alike true here (Some f) there =
      let number : g ≡ p = grind (arith, here) in
      let same : Some f ≡ Some is.function =
      sym there ∙ ap (λ (q : ℕ). slice_get file.functions q) number ∙ is.there in
      subst (λ (o : Option Function). Alike (run int (call file int k) k o xs s)
      (run int (call made int k) k (slice_get made.functions g) xs s)) (sym same)
      (subst (λ (o : Option Function). Alike (run int (call file int k) k (Some is.function) xs s)
      (run int (call made int k) k o xs s))
      (sym (ap (λ (q : ℕ). slice_get made.functions q) number ∙ set-here file.functions p f' is.function is.there))
      (other-alike k alike is.function is.inlined xs s))
  run-alike k g xs s alike false other (Some f) there =
      subst (λ (o : Option Function). Alike (run int (call file int k) k (Some f) xs s)
      (run int (call made int k) k o xs s)) (sym (set-there file.functions p g f' (other-than g p other) ∙ there))
      (same-alike int (call file int k) (call made int k) k alike f xs s)

  pub calls-alike : (k : ℕ) → ReturnAlike (call file int k) (call made int k)
  unfolding call
  calls-alike zero f xs s after x e = absurd cc
  calls-alike (suc k) f xs s after x e =
      run-alike k f xs s (calls-alike k) (f == p) refl (slice_get file.functions f) refl after x e

  kept : (f : ℕ) (xs : List CValue) → IsKept int file made f xs
  kept f xs k s after x e = calls-alike k f xs s after x e

  pub runs-as : (K : Shape) (s : Store) (given : List (Option Value)) (events : List EventWithInputs)
      (moments : List Moment) → RunsOn K file int s given events moments → RunsOn K made int s given events moments
  runs-as K = runs-on K file made int (λ f. kept f []) (λ x. kept (react_function K) (x ∷ []))

  pub refuses-as : (K : Shape) → Refuses K file int → Refuses K made int
  refuses-as K = refuses-on K file made int (λ f. kept f []) (λ x. kept (react_function K) (x ∷ []))

-- ---- one function after the other

module _ (file : File) (int : Width) where
  pub all-alike : (made : File) → IsInlinedFile file made → (k : ℕ) → ReturnAlike (call file int k) (call made int k)
  all-alike _ AsItIs k f xs s after x e = e
  all-alike _ (Further p f' made first is) k f xs s after x e =
      calls-alike made p f' is int k f xs s after x (all-alike made first k f xs s after x e)

  pub all-run : (made : File) → IsInlinedFile file made → (K : Shape) (s : Store) (given : List (Option Value))
      (events : List EventWithInputs) (moments : List Moment) → RunsOn K file int s given events moments
      → RunsOn K made int s given events moments
  all-run _ AsItIs K s given events moments run = run
  all-run _ (Further p f' made first is) K s given events moments run =
      runs-as made p f' is int K s given events moments (all-run made first K s given events moments run)

  pub all-refuse : (made : File) → IsInlinedFile file made → (K : Shape) → Refuses K file int → Refuses K made int
  all-refuse _ AsItIs K refuses = refuses
  all-refuse _ (Further p f' made first is) K refuses =
      refuses-as made p f' is int K (all-refuse made first K refuses)
