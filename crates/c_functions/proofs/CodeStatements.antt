-- The statements that are written for code do what it does.
use Rattle.std.proofs.Common.{◌≡◌, ℕ, suc, ℤ, Bool, true, false, cond, [], ◌∷◌, Some, slice_get, refl, sym, ap, ◌∙◌}
use Rattle.std.proofs.Common.{subst, arith}
use Rattle.flow_base.specs.declared.fault.Fault.{Fault}
use Rattle.fixed_point.specs.Numbers.{floor_div}
use Rattle.c_subset.specs.Trees.{Block, End, File}
use Rattle.c_subset.specs.declared.trees.Width.{Width}
use Rattle.c_subset.specs.declared.trees.CType.TheVariants.{Signed}
use Rattle.c_subset.specs.Meaning.{bits, fits_signed, CValue, Meaning, Gives, Wrong, with_meaning, gives, as_signed}
use Rattle.c_subset.specs.Meaning.{converted, is_true, Store, Locals, meaning}
use Rattle.c_subset.specs.Running.{Outcome, Falls, Returns, with_value, and_on, with_local, Calls, with_values, called}
use Rattle.c_subset.specs.Running.{outcome, call}
use Rattle.c_subset.specs.Helpers.{floor_function}
use Rattle.c_subset.proofs.TypeLemmas.{fitting-stays}
use Rattle.c_subset.proofs.FloorCalls.{floor-call}
use Rattle.c_functions.specs.Code.{CCode, Nothing, Then, Set, Divide, FaultIf, If, Ending, Goes, Faults, Lost}
use Rattle.c_functions.specs.Code.{with_locals, with_result, floored_by, ending, written, Divides, Returning}

-- ---- what flow_divW gives

-- the arguments and the floor are values of the type
record AreFloored (w : Width) (x y : ℤ) (z : CValue) : Type 0 where
  left : fits_signed (bits w) x ≡ true
  right : fits_signed (bits w) y ≡ true
  some : is_true y ≡ true
  floor : fits_signed (bits w) (floor_div x y) ≡ true
  is : z ≡ record { type = Signed w; value = floor_div x y }

floored-parts : (w : Width) (x y : ℤ) (z : CValue) → floored_by w x y ≡ Gives z → AreFloored w x y z
floored-parts w x y z e = first (fits_signed (bits w) x) refl e
  where
    fourth : (b : Bool) → fits_signed (bits w) x ≡ true → fits_signed (bits w) y ≡ true → is_true y ≡ true
        → fits_signed (bits w) (floor_div x y) ≡ b
        → cond b (gives (Signed w) (floor_div x y)) Wrong ≡ Gives z → AreFloored w x y z
    fourth true p q r is e = record { left = p; right = q; some = r; floor = is; is = cc }
    fourth false p q r is e = absurd (cc)

    third : (b : Bool) → fits_signed (bits w) x ≡ true → fits_signed (bits w) y ≡ true → is_true y ≡ b
        → cond b (as_signed w (floor_div x y)) Wrong ≡ Gives z → AreFloored w x y z
    third true p q is e = fourth (fits_signed (bits w) (floor_div x y)) p q is refl e
    third false p q is e = absurd (cc)

    second : (b : Bool) → fits_signed (bits w) x ≡ true → fits_signed (bits w) y ≡ b
        → with_meaning (cond b (gives (Signed w) y) Wrong)
        (λ b. cond (is_true b.value) (as_signed w (floor_div x b.value)) Wrong) ≡ Gives z
        → AreFloored w x y z
    second true p is e = third (is_true y) p is refl e
    second false p is e = absurd (cc)

    first : (b : Bool) → fits_signed (bits w) x ≡ b
        → with_meaning (cond b (gives (Signed w) x) Wrong)
        (λ a. with_meaning (as_signed w y)
        (λ b. cond (is_true b.value) (as_signed w (floor_div a.value b.value)) Wrong)) ≡ Gives z
        → AreFloored w x y z
    first true is e = second (fits_signed (bits w) y) is refl e
    first false is e = absurd (cc)

-- a file with the function has such calls
pub file-divides : (file : File) (int : Width) (k : ℕ) (helper : Width → ℕ) (s : Store)
    → ((w : Width) → slice_get file.functions (helper w) ≡ Some (floor_function w)) → Divides
    (call file int (suc k)) helper s
file-divides file int k helper s there w x y z e =
    let p = floored-parts w x.value y.value (record { type = Signed w; value = z }) e in
    let same : floor_div x.value y.value ≡ z = sym (ap (λ (c : CValue). c.value) p.is) in
    floor-call file int w k (helper w) s x y (there w) p.left p.right p.some p.floor
    ∙ ap (λ (z : ℤ). Returns s (record { type = Signed w; value = z })) same

-- ---- statements

-- an outcome is that of code that ended so: what follows, or what a fault gives
abbrev Matches : (Fault → Outcome) → (Locals → Outcome) → Ending → Outcome → Type 0
Matches at_fault go (Goes m) o = o ≡ go m
Matches at_fault go (Faults x) o = o ≡ at_fault x
Matches at_fault go Lost o = Unit {0}

module _ (at_fault : Fault → Outcome) (go : Locals → Outcome) where
  then-matches : (mid : Locals → Outcome) (e : Ending) (f : Locals → Ending) (o : Outcome) → Matches at_fault mid e o
      → ((m : Locals) → Matches at_fault go (f m) (mid m)) → Matches at_fault go (with_locals e f) o
  then-matches mid (Goes m) f o first second =
      subst (λ (o : Outcome). Matches at_fault go (f m) o) (sym first) (second m)
  then-matches mid (Faults x) f o first second = first
  then-matches mid Lost f o first second = tt

  set-matches : (m : Meaning) (f : CValue → Locals)
      → Matches at_fault go (with_result m (λ x. Goes (f x))) (with_value m (λ x. go (f x)))
  set-matches (Gives x) f = refl
  set-matches Wrong f = tt

  fault-matches : (m : Meaning) (l : Locals) (x : Fault) (s : Store) (o : Outcome) (rest : Store → Locals → Outcome)
      → and_on o rest ≡ at_fault x → rest s l ≡ go l
      → Matches at_fault go (with_result m (λ y. cond (is_true y.value) (Faults x) (Goes l)))
      (with_value m (λ y. and_on (cond (is_true y.value) o (Falls s l)) rest))
  fault-matches Wrong l x s o rest faults goes = tt
  fault-matches (Gives y) l x s o rest faults goes = at (is_true y.value)
    where
      at : (b : Bool) → Matches at_fault go (cond b (Faults x) (Goes l)) (and_on (cond b o (Falls s l)) rest)
      at true = faults
      at false = goes

  if-matches : (m : Meaning) (l : Locals) (s : Store) (e : Ending) (o : Outcome) (rest : Store → Locals → Outcome)
      → Matches at_fault go e (and_on o rest) → rest s l ≡ go l
      → Matches at_fault go (with_result m (λ y. cond (is_true y.value) e (Goes l)))
      (with_value m (λ y. and_on (cond (is_true y.value) o (Falls s l)) rest))
  if-matches Wrong l s e o rest inner goes = tt
  if-matches (Gives y) l s e o rest inner goes = at (is_true y.value)
    where
      at : (b : Bool) → Matches at_fault go (cond b e (Goes l)) (and_on (cond b o (Falls s l)) rest)
      at true = inner
      at false = goes

-- statements inside others
inner-matches : (after : Fault → Store → Store) (bad : CValue) (s : Store) (rest : Store → Locals → Outcome)
    (e : Ending) (o : Outcome)
    → Matches (λ x. Returns (after x s) bad) (λ m. Falls s m) e o
    → Matches (λ x. Returns (after x s) bad) (λ m. rest s m) e (and_on o rest)
inner-matches after bad s rest (Goes m) o is = ap (λ (o : Outcome). and_on o rest) is
inner-matches after bad s rest (Faults x) o is = ap (λ (o : Outcome). and_on o rest) is
inner-matches after bad s rest Lost o is = tt

-- a call of flow_divW
divide-matches : (calls : Calls) (helper : Width → ℕ) (s : Store) (at_fault : Fault → Outcome)
    (go : Store → Locals → Outcome)
    (w : Width) (k : ℕ) (l : Locals) (ma mb : Meaning) → Divides calls helper s
    → Matches at_fault (λ m. go s m)
    (with_result ma (λ x. with_result mb
    (λ y. with_result (floored_by w x.value y.value) (λ z. Goes (with_local l (Signed w) k z.value)))))
    (with_value ma (λ x. with_value mb (λ y. called (calls (helper w) (x ∷ y ∷ []) s) (Signed w) k l go)))
divide-matches calls helper s at_fault go w k l Wrong mb divides = tt
divide-matches calls helper s at_fault go w k l (Gives x) Wrong divides = tt
divide-matches calls helper s at_fault go w k l (Gives x) (Gives y) divides = at (floored_by w x.value y.value) refl
  where
    at : (m : Meaning) → floored_by w x.value y.value ≡ m
        → Matches at_fault (λ m. go s m) (with_result m (λ z. Goes (with_local l (Signed w) k z.value)))
        (called (calls (helper w) (x ∷ y ∷ []) s) (Signed w) k l go)
    at Wrong e = tt
    at (Gives z) e =
        let p = floored-parts w x.value y.value z e in
        let floor = floor_div x.value y.value in
        ap (λ (o : Outcome). called o (Signed w) k l go) (divides w x y floor (e ∙ ap Gives p.is))
        ∙ ap (λ (m : Meaning). with_value m (λ y. go s (with_local l (Signed w) k y.value)))
        (fitting-stays (bits w) w floor (omega arith) p.floor)
        ∙ ap (λ (z : CValue). go s (with_local l (Signed w) k z.value)) (sym p.is)

module _ (int : Width) (calls : Calls) (k : ℕ) (helper : Width → ℕ) (faulted : Fault → Block)
    (after : Fault → Store → Store)
    (bad : CValue) (s : Store) (divides : Divides calls helper s)
    (returning : Returning int calls k faulted after bad s) where
  written-matches : (code : CCode) (rest : Block) (l : Locals) → Matches (λ x. Returns (after x s) bad)
      (λ m. outcome int calls k rest s m) (ending int s l code)
      (outcome int calls k (written helper faulted code rest) s l)
  unfolding outcome ending written with_values
  written-matches Nothing rest l = refl
  written-matches (Then a b) rest l = then-matches (λ x. Returns (after x s) bad) (λ m. outcome int calls k rest s m)
      (λ m. outcome int calls k (written helper faulted b rest) s m) (ending int s l a) (λ m. ending int s m b) _
      (written-matches a (written helper faulted b rest) l) (λ m. written-matches b rest m)
  written-matches (Set t i e) rest l = set-matches (λ x. Returns (after x s) bad) (λ m. outcome int calls k rest s m)
      (with_meaning (meaning int s l e) (λ x. converted t x.value)) (λ x. with_local l t i x.value)
  written-matches (Divide w i a b) rest l = divide-matches calls helper s (λ x. Returns (after x s) bad)
      (λ v m. outcome int calls k rest v m) w i l (meaning int s l a) (meaning int s l b) divides
  written-matches (FaultIf x e) rest l = fault-matches (λ x. Returns (after x s) bad)
      (λ m. outcome int calls k rest s m)
      (meaning int s l e) l x s (outcome int calls k (faulted x) s l) (λ v m. outcome int calls k rest v m)
      (ap (λ (o : Outcome). and_on o (λ v m. outcome int calls k rest v m)) (returning x l)) refl
  written-matches (If e code) rest l = if-matches (λ x. Returns (after x s) bad) (λ m. outcome int calls k rest s m)
      (meaning int s l e) l s (ending int s l code) (outcome int calls k (written helper faulted code End) s l)
      (λ v m. outcome int calls k rest v m)
      (inner-matches after bad s (λ v m. outcome int calls k rest v m) (ending int s l code) _
      (written-matches code End l)) refl

  -- code that goes on
  pub written-goes : (code : CCode) (rest : Block) (l m : Locals) → ending int s l code ≡ Goes m
      → outcome int calls k (written helper faulted code rest) s l ≡ outcome int calls k rest s m
  written-goes code rest l m is = subst
      (λ (e : Ending). Matches (λ x. Returns (after x s) bad) (λ m. outcome int calls k rest s m) e
      (outcome int calls k (written helper faulted code rest) s l))
      is (written-matches code rest l)

  -- code that faults
  pub written-faults : (code : CCode) (rest : Block) (l : Locals) (x : Fault) → ending int s l code ≡ Faults x
      → outcome int calls k (written helper faulted code rest) s l ≡ Returns (after x s) bad
  written-faults code rest l x is = subst
      (λ (e : Ending). Matches (λ x. Returns (after x s) bad) (λ m. outcome int calls k rest s m) e
      (outcome int calls k (written helper faulted code rest) s l))
      is (written-matches code rest l)
