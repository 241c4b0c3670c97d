-- Functions without the parameters that no statement needs return what they did.
use Rattle.std.proofs.Common.{◌≡◌, ◌==◌, ℕ, zero, suc, ◌+◌, ℤ, ◌&&◌, ◌||◌, not, Bool, true, false, cond}
use Rattle.std.proofs.Common.{List, [], ◌∷◌, Option, Some, None, slice_get, refl, sym, ap, ◌∙◌, subst, arith}
use Rattle.c_subset.specs.declared.trees.Width.{Width}
use Rattle.c_subset.specs.declared.trees.Width.TheVariants.{W8, W16, W32, W64, W128}
use Rattle.c_subset.specs.declared.trees.CType.{CType}
use Rattle.c_subset.specs.declared.trees.CType.TheVariants.{Signed, Unsigned, Truth}
use Rattle.c_subset.specs.Trees.{Function, File, Block}
use Rattle.c_subset.specs.Meaning.{CValue, Meaning, Gives, Wrong, bits, converted, Store, Locals}
use Rattle.c_subset.specs.Running.{Outcome, Falls, Returns, Starves, GoesWrong, with_value, no_locals, with_local}
use Rattle.c_subset.specs.Running.{Calls}
use Rattle.c_subset.specs.Running.{same_type, outcome, with_arguments, returned, run, call}
use Rattle.c_bare.specs.Needs.{is_bare, needs, needs_none}
use Rattle.c_bare.specs.Bare.{selects_no_bare, AreNeedless, fewer, bared, bared_from, with_bare}
use Rattle.c_bare.proofs.Truth.{both}
use Rattle.c_bare.proofs.Keeping.{Sub, Keeps, Alike, fewer-keeps}

-- ---- types

same-width : (v w : Width) → (bits v == bits w) ≡ true → v ≡ w
same-width W8 W8 e = refl
same-width W16 W16 e = refl
same-width W32 W32 e = refl
same-width W64 W64 e = refl
same-width W128 W128 e = refl
same-width v w e = absurd cc

-- what has the same type has it
pub type-is : (u t : CType) → same_type u t ≡ true → u ≡ t
type-is (Signed v) (Signed w) e = ap (λ (w : Width). Signed w) (same-width v w e)
type-is (Unsigned v) (Unsigned w) e = ap (λ (w : Width). Unsigned w) (same-width v w e)
type-is Truth Truth e = refl
type-is u t e = absurd cc

-- ---- results

-- a function returns what its statements do
pub returned-alike : (r : CType → ℕ → Bool) (t : CType) (o p : Outcome) → Keeps r o p → Alike (returned t o) (returned t p)
returned-alike r t (Falls s l) p h = λ v x e. absurd cc
returned-alike r t (Returns s y) p h = λ v x e. ap (returned t) h ∙ e
returned-alike r t Starves p h = λ v x e. absurd cc
returned-alike r t GoesWrong p h = λ v x e. absurd cc

pub value-alike : (m : Meaning) (f g : CValue → Outcome) → ((x : CValue) → Alike (f x) (g x))
    → Alike (with_value m f) (with_value m g)
value-alike (Gives x) f g h = h x
value-alike Wrong f g h = λ v x e. absurd cc

-- ---- arguments

-- each local with a value is one that statements don't need
abbrev AreUnneeded : List Bool → Block → Locals → Type 0
AreUnneeded flags a l = (t : CType) (i : ℕ) (z : ℤ) → l t i ≡ Some z → needs flags t i a ≡ false

put-unneeded : (flags : List Bool) (a : Block) (l : Locals) (u : CType) (k : ℕ) (z : ℤ) → needs flags u k a ≡ false
    → AreUnneeded flags a l → AreUnneeded flags a (with_local l u k z)
put-unneeded flags a l u k z none h t i w e = at (i == k) (same_type t u) refl refl e
  where
    at : (b c : Bool) → (i == k) ≡ b → same_type t u ≡ c → cond (b && c) (Some z) (l t i) ≡ Some w
        → needs flags t i a ≡ false
    at true true here typed e =
        let number : i ≡ k = grind (arith, here) in
        ap (λ (u : CType). needs flags u i a) (type-is t u typed) ∙ ap (λ (j : ℕ). needs flags u j a) number ∙ none
    at true false here typed e = h t i w e
    at false c here typed e = h t i w e

not-true : (b c : Bool) → (not b && c) ≡ true → (b ≡ false) × (c ≡ true)
not-true true c e = absurd cc
not-true false c e = (refl, e)

-- arguments that nothing needs
arguments-unneeded : (flags : List Bool) (a : Block) (ts : List CType) (xs : List CValue) (k : ℕ) (l : Locals)
    (f : Locals → Outcome) (o : Outcome) → needs_none flags k ts a ≡ true → AreUnneeded flags a l
    → ((l : Locals) → AreUnneeded flags a l → Alike (f l) o) → Alike (with_arguments ts xs k l f) o
unfolding with_arguments
arguments-unneeded flags a [] [] k l f o none is h = h l is
arguments-unneeded flags a [] (x ∷ xs) k l f o none is h = λ v y e. absurd cc
arguments-unneeded flags a (t ∷ ts) [] k l f o none is h = λ v y e. absurd cc
arguments-unneeded flags a (t ∷ ts) (x ∷ xs) k l f o none is h =
    let parts = not-true (needs flags t k a) (needs_none flags (suc k) ts a) none in
    by (converted t x.value) (λ y. with_arguments ts xs (suc k) (with_local l t k y.value) f)
    (λ y. arguments-unneeded flags a ts xs (suc k) (with_local l t k y.value) f o parts.1
    (put-unneeded flags a l t k y.value parts.0 is) h)
  where
    by : (m : Meaning) (f : CValue → Outcome) → ((y : CValue) → Alike (f y) o) → Alike (with_value m f) o
    by (Gives y) f h = h y
    by Wrong f h = λ v y e. absurd cc

-- arguments that are handed over
pub arguments-alike : (ts : List CType) (xs : List CValue) (k : ℕ) (l : Locals) (f g : Locals → Outcome)
    → ((l : Locals) → Alike (f l) (g l)) → Alike (with_arguments ts xs k l f) (with_arguments ts xs k l g)
unfolding with_arguments
arguments-alike [] [] k l f g h = h l
arguments-alike [] (x ∷ xs) k l f g h = λ v y e. absurd cc
arguments-alike (t ∷ ts) [] k l f g h = λ v y e. absurd cc
arguments-alike (t ∷ ts) (x ∷ xs) k l f g h =
    value-alike (converted t x.value) (λ y. with_arguments ts xs (suc k) (with_local l t k y.value) f)
    (λ y. with_arguments ts xs (suc k) (with_local l t k y.value) g)
    (λ y. arguments-alike ts xs (suc k) (with_local l t k y.value) f g h)

-- ---- functions

-- the function with a number in the file with bare functions
bared-at : (flags : List Bool) (fs : List Function) (p i k : ℕ) (f : Function) → k ≡ p + i → slice_get fs i ≡ Some f
    → slice_get (bared_from flags p fs) i ≡ Some (bared flags k f)
bared-at flags [] p i k f e there = absurd cc
bared-at flags (g ∷ fs) p zero k f e there =
    let same : p ≡ k = omega (arith, e) in
    ap (λ (q : ℕ). Some (bared flags q g)) same ∙ ap (λ (o : Option Function). of o) there
  where
    of : Option Function → Option Function
    of (Some h) = Some (bared flags k h)
    of None = None
bared-at flags (g ∷ fs) p (suc i) k f e there = bared-at flags fs (suc p) i k f (omega (arith, e)) there

either : (b c : Bool) → (not b || c) ≡ true → b ≡ true → c ≡ true
either true c e is = e
either false c e is = absurd cc

module _ (flags : List Bool) (int : Width) (c d : Calls)
    (alike : (f : ℕ) (xs : List CValue) (s : Store) → Alike (c f xs s) (d f (cond (is_bare flags f) [] xs) s)) (k : ℕ)
    (f : Function) (sel : selects_no_bare flags f.body ≡ true) (xs : List CValue) (s : Store) where
  body-alike : (r : CType → ℕ → Bool) (l m : Locals) → Sub (λ t i. needs flags t i f.body || r t i) l m
      → Alike (returned f.result (outcome int c k f.body s l))
      (returned f.result (outcome int d k (fewer flags f.body) s m))
  body-alike r l m h =
      returned-alike r f.result (outcome int c k f.body s l) (outcome int d k (fewer flags f.body) s m)
      (fewer-keeps flags int c d alike k f.body sel r s l m h)

  unneeded : (l : Locals) → AreUnneeded flags f.body l → Sub (λ t i. needs flags t i f.body || false) l no_locals
  unneeded l is t i z q w = at (needs flags t i f.body) (is t i z w) q
    where
      at : (b : Bool) → b ≡ false → (b || false) ≡ true → no_locals t i ≡ Some z
      at true e q = absurd cc
      at false e q = absurd cc

  function-alike : (b : Bool) → (b ≡ true → needs_none flags 0 f.parameters f.body ≡ true)
      → Alike (with_arguments f.parameters xs 0 no_locals (λ l. returned f.result (outcome int c k f.body s l)))
      (with_arguments (cond b [] f.parameters) (cond b [] xs) 0 no_locals
      (λ l. returned f.result (outcome int d k (fewer flags f.body) s l)))
  unfolding with_arguments
  function-alike true none =
      arguments-unneeded flags f.body f.parameters xs 0 no_locals
      (λ l. returned f.result (outcome int c k f.body s l))
      (returned f.result (outcome int d k (fewer flags f.body) s no_locals)) (none refl) (λ t i z e. absurd cc)
      (λ l is. body-alike (λ t i. false) l no_locals (unneeded l is))
  function-alike false none =
      arguments-alike f.parameters xs 0 no_locals (λ l. returned f.result (outcome int c k f.body s l))
      (λ l. returned f.result (outcome int d k (fewer flags f.body) s l))
      (λ l. body-alike (λ t i. true) l l (λ t i z q w. w))

-- ---- the file

module _ (flags : List Bool) (file : File) (is : AreNeedless flags file.functions) (int : Width) where
  run-alike : (k f : ℕ) (xs : List CValue) (s : Store)
      → ((g : ℕ) (xs : List CValue) (s : Store) → Alike (call file int k g xs s)
      (call (with_bare flags file) int k g (cond (is_bare flags g) [] xs) s))
      → (o : Option Function) → slice_get file.functions f ≡ o
      → Alike (run int (call file int k) k o xs s) (run int (call (with_bare flags file) int k) k
      (slice_get (with_bare flags file).functions f) (cond (is_bare flags f) [] xs) s)
  run-alike k f xs s alike None there = λ v x e. absurd cc
  run-alike k f xs s alike (Some g) there =
      let parts = both (not (is_bare flags f) || needs_none flags 0 g.parameters g.body)
      (selects_no_bare flags g.body) (is f g there) in
      subst (λ (o : Option Function). Alike (run int (call file int k) k (Some g) xs s)
      (run int (call (with_bare flags file) int k) k o (cond (is_bare flags f) [] xs) s))
      (sym (bared-at flags file.functions 0 f f g (omega arith) there))
      (function-alike flags int (call file int k) (call (with_bare flags file) int k) alike k g parts.1 xs s
      (is_bare flags f)
      (λ e. either (is_bare flags f) (needs_none flags 0 g.parameters g.body) parts.0 e))

  pub calls-alike : (k f : ℕ) (xs : List CValue) (s : Store)
      → Alike (call file int k f xs s) (call (with_bare flags file) int k f (cond (is_bare flags f) [] xs) s)
  unfolding call
  calls-alike zero f xs s = λ v x e. absurd cc
  calls-alike (suc k) f xs s =
      run-alike k f xs s (λ g xs s. calls-alike k g xs s) (slice_get file.functions f) refl
