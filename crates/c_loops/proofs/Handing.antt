-- Calls that hand on: what they call with, and that what they give is given back.
use Rattle.std.proofs.Common.{◌≡◌, ℕ, zero, suc, ◌+◌, ◌^◌, ◌<◌, nat_eq, ℤ, pos, true, ◌&&◌, List, [], ◌∷◌}
use Rattle.std.proofs.Common.{length, map, Option, Some, None, refl, sym, ap, ap₂, ◌∙◌, subst, arith}
use Rattle.std.proofs.lemmas.Bool.Decides.{nat_tests}
use Rattle.c_subset.specs.declared.trees.Width.{Width}
use Rattle.c_subset.specs.declared.trees.Width.TheVariants.{W32}
use Rattle.c_subset.specs.declared.trees.CType.{CType}
use Rattle.c_subset.specs.Trees.{CExpr, Local, Block, Call}
use Rattle.c_subset.specs.Meaning.{CValue, read_as, Store, Locals, meaning}
use Rattle.c_subset.specs.Running.{Outcome, Falls, Returns, Starves, GoesWrong, with_value, same_type}
use Rattle.c_subset.specs.Running.{with_local, Calls, with_values, called, outcome, with_arguments}
use Rattle.c_functions.specs.Plans.{word}
use Rattle.c_functions.proofs.LayoutTests.{unsigned}
use Rattle.c_functions.proofs.PlansWords.{called-goes}
use Rattle.c_loops.specs.Results.{Known, is_local, gives_each_back}
use Rattle.c_loops.specs.Loops.{are_locals, are_words, hands_on}
use Rattle.c_loops.proofs.Locals.{type-is, More, AreTyped, put-typed, put-there}
use Rattle.c_loops.proofs.Giving.{both-true, local-is, Among, each-back}

-- ---- the parameters

-- so many locals from a number on
abbrev pub locals_from : ℕ → ℕ → List CExpr
locals_from zero i = []
locals_from (suc n) i = Local word i ∷ locals_from n (suc i)

-- so many words
abbrev pub words : ℕ → List CType
words zero = []
words (suc n) = word ∷ words n

number-is : (i j : ℕ) → nat_eq i j ≡ true → i ≡ j
number-is i j e = grind (arith, nat_tests)

no-locals-on : (es : List CExpr) (i : ℕ) → 5 < i → are_locals i es ≡ true → ⊥
no-locals-on [] i past h = let same = number-is i 5 h in absurd (omega arith)
no-locals-on (e ∷ es) i past h =
    no-locals-on es (suc i) (omega arith) (both-true (is_local i e) (are_locals (suc i) es) h).1

locals-are : (n i : ℕ) (es : List CExpr) → i + n ≡ 5 → are_locals i es ≡ true → es ≡ locals_from n i
locals-are zero i [] sum h = refl
locals-are zero i (e ∷ es) sum h =
    absurd (no-locals-on es (suc i) (omega arith) (both-true (is_local i e) (are_locals (suc i) es) h).1)
locals-are (suc n) i [] sum h = let same = number-is i 5 h in absurd (omega arith)
locals-are (suc n) i (e ∷ es) sum h =
    let h' = both-true (is_local i e) (are_locals (suc i) es) h in
    ap₂ (λ (e : CExpr) (es : List CExpr). e ∷ es) (local-is i e h'.0) (locals-are n (suc i) es (omega arith) h'.1)

no-words-on : (ts : List CType) (i : ℕ) → 5 < i → are_words i ts ≡ true → ⊥
no-words-on [] i past h = let same = number-is i 5 h in absurd (omega arith)
no-words-on (t ∷ ts) i past h =
    no-words-on ts (suc i) (omega arith) (both-true (same_type t word) (are_words (suc i) ts) h).1

words-are : (n i : ℕ) (ts : List CType) → i + n ≡ 5 → are_words i ts ≡ true → ts ≡ words n
words-are zero i [] sum h = refl
words-are zero i (t ∷ ts) sum h =
    absurd (no-words-on ts (suc i) (omega arith) (both-true (same_type t word) (are_words (suc i) ts) h).1)
words-are (suc n) i [] sum h = let same = number-is i 5 h in absurd (omega arith)
words-are (suc n) i (t ∷ ts) sum h =
    let h' = both-true (same_type t word) (are_words (suc i) ts) h in
    ap₂ (λ (t : CType) (ts : List CType). t ∷ ts) (type-is t word h'.0) (words-are n (suc i) ts (omega arith) h'.1)

-- the parameters of a procedure's function
pub parameters-are : (ts : List CType) → are_words 0 ts ≡ true → ts ≡ words 5
parameters-are ts h = words-are 5 0 ts (omega arith) h

-- the call that hands on
pub record IsHandOn (p : ℕ) (t : CType) (i f : ℕ) (args : List CExpr) : Type 0 where
  pub type : t ≡ word
  pub local : i ≡ 4
  pub function : f ≡ p
  pub args_are : args ≡ locals_from 5 0

pub hand-on-is : (p : ℕ) (t : CType) (i f : ℕ) (args : List CExpr) → hands_on p t i f args ≡ true
    → IsHandOn p t i f args
hand-on-is p t i f args h =
    let a = both-true (same_type t word) (nat_eq i 4 && (nat_eq f p && are_locals 0 args)) h in
    let b = both-true (nat_eq i 4) (nat_eq f p && are_locals 0 args) a.1 in
    let c = both-true (nat_eq f p) (are_locals 0 args) b.1 in
    record {
      type = type-is t word a.0;
      local = number-is i 4 b.0;
      function = number-is f p c.0;
      args_are = locals-are 5 0 args (omega arith) c.1;
    }

-- ---- what is handed on

abbrev pub as_word : ℤ → CValue
as_word z = record { type = word; value = z }

-- the locals from a number on have these values
abbrev pub AreThere : Locals → ℕ → List ℤ → Type 0
AreThere l i [] = Unit {0}
AreThere l i (z ∷ zs) = (l word i ≡ Some z) × AreThere l (suc i) zs

values-read : (int : Width) (s : Store) (l : Locals) (P : Outcome → Type 0) → P GoesWrong → (n i : ℕ)
    (f : List CValue → Outcome)
    → ((zs : List ℤ) → AreThere l i zs → length zs ≡ n → P (f (map as_word zs)))
    → P (with_values int s l (locals_from n i) f)
unfolding with_values meaning
values-read int s l P none zero i f h = h [] tt refl
values-read int s l P none (suc n) i f h =
    at (l word i) refl (λ z e. values-read int s l P none n (suc i) (λ xs. f (as_word z ∷ xs))
    (λ zs there size. h (z ∷ zs) (e, there) (ap suc size)))
  where
    go : CValue → Outcome
    go x = with_values int s l (locals_from n (suc i)) (λ xs. f (x ∷ xs))

    at : (o : Option ℤ) → l word i ≡ o → ((z : ℤ) → l word i ≡ Some z → P (go (as_word z)))
        → P (with_value (read_as word (l word i)) go)
    at (Some z) e later = subst (λ (o : Option ℤ). P (with_value (read_as word o) go)) (sym e) (later z e)
    at None e later = subst (λ (o : Option ℤ). P (with_value (read_as word o) go)) (sym e) none

-- the locals of a call with these arguments
abbrev pub locals_of : ℕ → List ℤ → Locals → Locals
locals_of i [] l = l
locals_of i (z ∷ zs) l = locals_of (suc i) zs (with_local l word i z)

pub arguments-go : (zs : List ℤ) (i : ℕ) (l m : Locals) (f : Locals → Outcome) → AreTyped m → AreThere m i zs
    → with_arguments (words (length zs)) (map as_word zs) i l f ≡ f (locals_of i zs l)
unfolding with_arguments
arguments-go [] i l m f typed there = refl
arguments-go (z ∷ zs) i l m f typed there =
    ap (λ c. with_value c (λ y. with_arguments (words (length zs)) (map as_word zs) (suc i)
    (with_local l word i y.value) f)) (typed word i z there.0)
    ∙ arguments-go zs (suc i) (with_local l word i z) m f typed there.1

-- they are those of the caller
pub locals-more : (zs : List ℤ) (i : ℕ) (l m : Locals) → More l m → AreThere m i zs → More (locals_of i zs l) m
locals-more [] i l m more there = more
locals-more (z ∷ zs) i l m more there =
    locals-more zs (suc i) (with_local l word i z) m (put-there l m more word i z there.0) there.1

pub locals-typed : (zs : List ℤ) (i : ℕ) (l m : Locals) → AreTyped l → AreTyped m → AreThere m i zs
    → AreTyped (locals_of i zs l)
locals-typed [] i l m typed all there = typed
locals-typed (z ∷ zs) i l m typed all there =
    locals-typed zs (suc i) (with_local l word i z) m (put-typed l word i z typed (all word i z there.0)) all there.1

-- ---- the call

-- a word that one of these allows
pub record IsResult (results : List Known) (x : CValue) : Type 0 where
  pub r : ℕ
  pub low : r < 2 ^ 32
  pub is : x ≡ unsigned W32 r
  pub among : Among results r

-- a call with the values of the parameters gave that
pub record Handed (c : Calls) (p : ℕ) (l : Locals) (s after : Store) (x : CValue) : Type 0 where
  pub zs : List ℤ
  pub there : AreThere l 0 zs
  pub size : length zs ≡ 5
  pub gave : c p (map as_word zs) s ≡ Returns after x

-- the statements return what a call with the values of the parameters gave, if anything
abbrev pub ComesBack : List Known → Calls → ℕ → Locals → Store → Outcome → Type 0
ComesBack results c p l s (Falls v m) = ⊥
ComesBack results c p l s (Returns after x) = IsResult results x × Handed c p l s after x
ComesBack results c p l s Starves = Unit {0}
ComesBack results c p l s GoesWrong = Unit {0}

module _ (int : Width) (c : Calls) (k p : ℕ) (results : List Known)
    (good : (xs : List CValue) (s after : Store) (x : CValue) → c p xs s ≡ Returns after x → IsResult results x) where
  called-back : (rest : Block) → gives_each_back results rest ≡ true → (s : Store) (l : Locals) (zs : List ℤ)
      → AreThere l 0 zs → length zs ≡ 5 → (o : Outcome) → c p (map as_word zs) s ≡ o
      → ComesBack results c p l s (called o word 4 l (λ v m. outcome int c k rest v m))
  called-back rest back s l zs there size (Falls v m) e = tt
  called-back rest back s l zs there size (Returns after x) e =
      let h = good (map as_word zs) s after x e in
      let goes : called (Returns after x) word 4 l (λ v m. outcome int c k rest v m) ≡ Returns after x =
      ap (λ (x : CValue). called (Returns after x) word 4 l (λ v m. outcome int c k rest v m)) h.is
      ∙ called-goes after h.r 4 l (λ v m. outcome int c k rest v m) h.low
      ∙ each-back int c k after (with_local l word 4 (pos h.r)) h.r h.low refl rest results h.among back
      ∙ ap (λ (x : CValue). Returns after x) (sym h.is) in
      subst (λ (o : Outcome). ComesBack results c p l s o) (sym goes)
      (h, record { zs = zs; there = there; size = size; gave = e })
  called-back rest back s l zs there size Starves e = tt
  called-back rest back s l zs there size GoesWrong e = tt

  pub comes-back : (t : CType) (i f : ℕ) (args : List CExpr) (rest : Block) → hands_on p t i f args ≡ true
      → gives_each_back results rest ≡ true → (s : Store) (l : Locals)
      → ComesBack results c p l s (outcome int c k (Call t i f args rest) s l)
  unfolding outcome
  comes-back t i f args rest hands back s l =
      let h = hand-on-is p t i f args hands in
      let same : outcome int c k (Call t i f args rest) s l
      ≡ with_values int s l (locals_from 5 0)
      (λ xs. called (c p xs s) word 4 l (λ v m. outcome int c k rest v m)) =
      ap (λ (t : CType). outcome int c k (Call t i f args rest) s l) h.type
      ∙ ap (λ (i : ℕ). outcome int c k (Call word i f args rest) s l) h.local
      ∙ ap (λ (f : ℕ). outcome int c k (Call word 4 f args rest) s l) h.function
      ∙ ap (λ (args : List CExpr). outcome int c k (Call word 4 p args rest) s l) h.args_are in
      subst (λ (o : Outcome). ComesBack results c p l s o) (sym same)
      (values-read int s l (λ (o : Outcome). ComesBack results c p l s o) tt 5 0
      (λ xs. called (c p xs s) word 4 l (λ v m. outcome int c k rest v m))
      (λ zs there size. called-back rest back s l zs there size (c p (map as_word zs) s) refl))
