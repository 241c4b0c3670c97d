-- Statements in which nothing is handed to bare functions.
use Rattle.std.proofs.Common.{◌≡◌, ◌==◌, ℕ, zero, suc, ℤ, pos, int_le, ◌&&◌, ◌||◌, not, Bool, true, false, cond}
use Rattle.std.proofs.Common.{List, [], ◌∷◌, Option, Some, None, slice_get, refl, sym, ap, ◌∙◌, subst}
use Rattle.std.proofs.Common.{inl, inr}
use Rattle.std.specs.List.{list_any}
use Rattle.std.proofs.lemmas.Cmp.{nat_eq_equiv}
use Rattle.c_subset.specs.declared.trees.Width.{Width}
use Rattle.c_subset.specs.declared.trees.CType.{CType}
use Rattle.c_subset.specs.declared.trees.Case.{Case}
use Rattle.c_subset.specs.Trees.{CExpr, Const, Field, Element, Local, Cast, Minus, Bang, Calc, Divide, Bits, Compare}
use Rattle.c_subset.specs.Trees.{Both, Either, Choose}
use Rattle.c_subset.specs.Trees.{Block, End, Set, Store as PutField, StoreAt, Call, Select, If, While, Return}
use Rattle.c_subset.specs.Meaning.{CValue, Meaning, Gives, Wrong, with_meaning, converted, promoted, is_true, Store}
use Rattle.c_subset.specs.Meaning.{element, Locals, meaning, read, read_as, negated, truth, calculated, divided}
use Rattle.c_subset.specs.Meaning.{combined}
use Rattle.c_subset.specs.Meaning.{compared}
use Rattle.c_subset.specs.Running.{Outcome, Falls, Returns, Starves, GoesWrong, with_value, and_on}
use Rattle.c_subset.specs.Running.{with_local, brought_to, with_field, with_element, Calls, with_values, called}
use Rattle.c_subset.specs.Running.{same_type}
use Rattle.c_subset.specs.Running.{turns, selected, outcome}
use Rattle.c_subset.proofs.TypeLemmas.{same_type-itself}
use Rattle.c_bare.specs.Needs.{is_bare, is_it, reads, needs}
use Rattle.c_bare.specs.Bare.{calls_bare, selects_no_bare, fewer}
use Rattle.c_bare.proofs.Clearer.{Clearer, with-clearer, cond-clearer}
use Rattle.c_bare.proofs.Truth.{left, right, put-at, in-first, in-rest, if-first, if-second, while-turn, while-after}
use Rattle.c_bare.proofs.Truth.{put-more, neither, both}

-- ---- expressions

-- what the first locals hold of these the second ones hold
abbrev pub Sub : (CType → ℕ → Bool) → Locals → Locals → Type 0
Sub r l m = (t : CType) (i : ℕ) (z : ℤ) → r t i ≡ true → l t i ≡ Some z → m t i ≡ Some z

module _ (int : Width) (s : Store) (l m : Locals) where
  two : (a b : CExpr) (f : CValue → CValue → Meaning) → Clearer (meaning int s l a) (meaning int s m a)
      → Clearer (meaning int s l b) (meaning int s m b)
      → Clearer (with_meaning (meaning int s l a) (λ x. with_meaning (meaning int s l b) (f x)))
      (with_meaning (meaning int s m a) (λ x. with_meaning (meaning int s m b) (f x)))
  two a b f ha hb =
      with-clearer (meaning int s l a) (meaning int s m a) (λ x. with_meaning (meaning int s l b) (f x))
      (λ x. with_meaning (meaning int s m b) (f x)) ha
      (λ x. with-clearer (meaning int s l b) (meaning int s m b) (f x) (f x) hb (λ y. inr refl))

  first : (a b : CExpr) → Sub (λ t i. reads t i a || reads t i b) l m → Sub (λ t i. reads t i a) l m
  first a b h t i z r e = h t i z (left (reads t i a) (reads t i b) r) e

  second : (a b : CExpr) → Sub (λ t i. reads t i a || reads t i b) l m → Sub (λ t i. reads t i b) l m
  second a b h t i z r e = h t i z (right (reads t i a) (reads t i b) r) e

  itself : (n : ℕ) (b c : Bool) → b ≡ true → c ≡ true → (b && c) ≡ true
  itself n true true e f = refl
  itself n true false e f = absurd cc
  itself n false c e f = absurd cc

  same-number : (n : ℕ) → (n == n) ≡ true
  same-number n = nat_eq_equiv.refl n

  pub means : (e : CExpr) → Sub (λ t i. reads t i e) l m → Clearer (meaning int s l e) (meaning int s m e)
  unfolding meaning reads
  means (Const t z) h = inr refl
  means (Field f) h = inr refl
  means (Element a e) h =
      with-clearer (meaning int s l e) (meaning int s m e) (λ i. read (element (slice_get s.rows a) i.value))
      (λ i. read (element (slice_get s.rows a) i.value)) (means e h) (λ i. inr refl)
  means (Local t k) h = at (l t k) refl
    where
      at : (o : Option ℤ) → l t k ≡ o → Clearer (read_as t (l t k)) (read_as t (m t k))
      at (Some z) e =
          inr (ap (read_as t) (h t k z (itself k (k == k) (same_type t t) (same-number k) (same_type-itself t)) e
          ∙ sym e))
      at None e = inl (ap (read_as t) e)
  means (Cast t e) h =
      with-clearer (meaning int s l e) (meaning int s m e) (λ x. converted t x.value) (λ x. converted t x.value)
      (means e h) (λ x. inr refl)
  means (Minus e) h =
      with-clearer (meaning int s l e) (meaning int s m e) (negated int) (negated int) (means e h) (λ x. inr refl)
  means (Bang e) h =
      with-clearer (meaning int s l e) (meaning int s m e) (λ x. truth int (not (is_true x.value)))
      (λ x. truth int (not (is_true x.value))) (means e h) (λ x. inr refl)
  means (Calc op a b) h = two a b (calculated int op) (means a (first a b h)) (means b (second a b h))
  means (Divide op a b) h = two a b (divided int op) (means a (first a b h)) (means b (second a b h))
  means (Bits op a b) h = two a b (combined int op) (means a (first a b h)) (means b (second a b h))
  means (Compare op a b) h = two a b (compared int op) (means a (first a b h)) (means b (second a b h))
  means (Both a b) h =
      with-clearer (meaning int s l a) (meaning int s m a)
      (λ x. cond (is_true x.value) (with_meaning (meaning int s l b) (λ y. truth int (is_true y.value)))
      (truth int false))
      (λ x. cond (is_true x.value) (with_meaning (meaning int s m b) (λ y. truth int (is_true y.value)))
      (truth int false)) (means a (first a b h))
      (λ x. cond-clearer (is_true x.value) (with_meaning (meaning int s l b) (λ y. truth int (is_true y.value)))
      (truth int false) (with_meaning (meaning int s m b) (λ y. truth int (is_true y.value))) (truth int false)
      (with-clearer (meaning int s l b) (meaning int s m b) (λ y. truth int (is_true y.value))
      (λ y. truth int (is_true y.value)) (means b (second a b h)) (λ y. inr refl)) (inr refl))
  means (Either a b) h =
      with-clearer (meaning int s l a) (meaning int s m a)
      (λ x. cond (is_true x.value) (truth int true)
      (with_meaning (meaning int s l b) (λ y. truth int (is_true y.value))))
      (λ x. cond (is_true x.value) (truth int true)
      (with_meaning (meaning int s m b) (λ y. truth int (is_true y.value)))) (means a (first a b h))
      (λ x. cond-clearer (is_true x.value) (truth int true)
      (with_meaning (meaning int s l b) (λ y. truth int (is_true y.value))) (truth int true)
      (with_meaning (meaning int s m b) (λ y. truth int (is_true y.value))) (inr refl)
      (with-clearer (meaning int s l b) (meaning int s m b) (λ y. truth int (is_true y.value))
      (λ y. truth int (is_true y.value)) (means b (second a b h)) (λ y. inr refl)))
  means (Choose t c a b) h =
      with-clearer (meaning int s l c) (meaning int s m c)
      (λ x. with_meaning (cond (is_true x.value) (meaning int s l a) (meaning int s l b)) chosen)
      (λ x. with_meaning (cond (is_true x.value) (meaning int s m a) (meaning int s m b)) chosen)
      (means c (λ t i z r e. h t i z (left (reads t i c) (reads t i a || reads t i b) r) e))
      (λ x. with-clearer (cond (is_true x.value) (meaning int s l a) (meaning int s l b))
      (cond (is_true x.value) (meaning int s m a) (meaning int s m b)) chosen chosen
      (cond-clearer (is_true x.value) (meaning int s l a) (meaning int s l b) (meaning int s m a) (meaning int s m b)
      (means a (λ t i z r e. h t i z (right (reads t i c) (reads t i a || reads t i b)
      (left (reads t i a) (reads t i b) r)) e))
      (means b (λ t i z r e. h t i z (right (reads t i c) (reads t i a || reads t i b)
      (right (reads t i a) (reads t i b) r)) e)))
      (λ y. inr refl))
    where
      chosen : CValue → Meaning
      chosen y = with_meaning (converted t y.value) (λ z. converted (promoted int t) z.value)

-- ---- statements

-- the second ending is the first one, with locals that hold what the first ones hold of these, unless that doesn't end
abbrev pub Keeps : (CType → ℕ → Bool) → Outcome → Outcome → Type 0
Keeps r (Falls s l) o = (m : Locals) × (o ≡ Falls s m) × Sub r l m
Keeps r (Returns s x) o = o ≡ Returns s x
Keeps r Starves o = Unit {0}
Keeps r GoesWrong o = Unit {0}

pub value-keeps : (r : CType → ℕ → Bool) (a b : Meaning) (f g : CValue → Outcome) → Clearer a b
    → ((x : CValue) → Keeps r (f x) (g x)) → Keeps r (with_value a f) (with_value b g)
value-keeps r Wrong b f g c h = tt
value-keeps r (Gives x) b f g (inl e) h = absurd cc
value-keeps r (Gives x) b f g (inr e) h = subst (λ (n : Meaning). Keeps r (f x) (with_value n g)) (sym e) (h x)

pub on-keeps : (q r : CType → ℕ → Bool) (o p : Outcome) (f g : Store → Locals → Outcome) → Keeps q o p
    → ((s : Store) (l m : Locals) → Sub q l m → Keeps r (f s l) (g s m)) → Keeps r (and_on o f) (and_on p g)
on-keeps q r (Falls s l) p f g e h = subst (λ (o : Outcome). Keeps r (f s l) (and_on o g)) (sym e.1) (h s l e.0 e.2)
on-keeps q r (Returns s x) p f g e h = ap (λ (o : Outcome). and_on o g) e
on-keeps q r Starves p f g e h = tt
on-keeps q r GoesWrong p f g e h = tt

pub cond-keeps : (r : CType → ℕ → Bool) (b : Bool) (o p o' p' : Outcome) → Keeps r o o' → Keeps r p p'
    → Keeps r (cond b o p) (cond b o' p')
cond-keeps r true o p o' p' h i = h
cond-keeps r false o p o' p' h i = i

-- what the second returns is what the first returns
abbrev pub Alike : Outcome → Outcome → Type 0
Alike o p = (s : Store) (x : CValue) → o ≡ Returns s x → p ≡ Returns s x

pub called-keeps : (r : CType → ℕ → Bool) (o p : Outcome) (t : CType) (i : ℕ) (l m : Locals)
    (f g : Store → Locals → Outcome) → Alike o p
    → ((s : Store) (z : ℤ) → Keeps r (f s (with_local l t i z)) (g s (with_local m t i z)))
    → Keeps r (called o t i l f) (called p t i m g)
called-keeps r (Falls s n) p t i l m f g e h = tt
called-keeps r (Returns s x) p t i l m f g e h =
    subst (λ (o : Outcome). Keeps r (called (Returns s x) t i l f) (called o t i m g)) (sym (e s x refl))
    (value-keeps r (converted t x.value) (converted t x.value) (λ y. f s (with_local l t i y.value))
    (λ y. g s (with_local m t i y.value)) (inr refl) (λ y. h s y.value))
called-keeps r Starves p t i l m f g e h = tt
called-keeps r GoesWrong p t i l m f g e h = tt

module _ (flags : List Bool) (int : Width) (s : Store) where
  pub values-keep : (r : CType → ℕ → Bool) (l m : Locals) (es : List CExpr) (f g : List CValue → Outcome)
      → Sub (λ t i. list_any (reads t i) es) l m → ((xs : List CValue) → Keeps r (f xs) (g xs))
      → Keeps r (with_values int s l es f) (with_values int s m es g)
  unfolding with_values
  values-keep r l m [] f g sub h = h []
  values-keep r l m (e ∷ es) f g sub h =
      value-keeps r (meaning int s l e) (meaning int s m e) (λ x. with_values int s l es (λ xs. f (x ∷ xs)))
      (λ x. with_values int s m es (λ xs. g (x ∷ xs)))
      (means int s l m e (λ t i z k w. sub t i z (left (reads t i e) (list_any (reads t i) es) k) w))
      (λ x. values-keep r l m es (λ xs. f (x ∷ xs)) (λ xs. g (x ∷ xs))
      (λ t i z k w. sub t i z (right (reads t i e) (list_any (reads t i) es) k) w) (λ xs. h (x ∷ xs)))

  values-gone : (r : CType → ℕ → Bool) (l : Locals) (es : List CExpr) (f : List CValue → Outcome) (o : Outcome)
      → ((xs : List CValue) → Keeps r (f xs) o) → Keeps r (with_values int s l es f) o
  unfolding with_values
  values-gone r l [] f o h = h []
  values-gone r l (e ∷ es) f o h =
      gone (meaning int s l e) (λ x. with_values int s l es (λ xs. f (x ∷ xs)))
      (λ x. values-gone r l es (λ xs. f (x ∷ xs)) o (λ xs. h (x ∷ xs)))
    where
      gone : (m : Meaning) (f : CValue → Outcome) → ((x : CValue) → Keeps r (f x) o) → Keeps r (with_value m f) o
      gone (Gives x) f h = h x
      gone Wrong f h = tt

  -- arguments that are handed over, or not
  arguments-keep : (b : Bool) (r : CType → ℕ → Bool) (l m : Locals) (es : List CExpr) (f g : List CValue → Outcome)
      → Sub (λ t i. not b && list_any (reads t i) es) l m → ((xs : List CValue) → Keeps r (f xs) (g (cond b [] xs)))
      → Keeps r (with_values int s l es f) (with_values int s m (cond b [] es) g)
  unfolding with_values
  arguments-keep true r l m es f g sub h = values-gone r l es f (g []) h
  arguments-keep false r l m es f g sub h = values-keep r l m es f g sub h

pub turns-keep : (w q : CType → ℕ → Bool) (j : ℕ) (test : Store → Locals → Meaning) (f g : Store → Locals → Outcome)
    → ((s : Store) (l m : Locals) → Sub w l m → Clearer (test s l) (test s m))
    → ((s : Store) (l m : Locals) → Sub w l m → Keeps w (f s l) (g s m))
    → ((l m : Locals) → Sub w l m → Sub q l m) → (s : Store) (l m : Locals) → Sub w l m
    → Keeps q (turns j test f s l) (turns j test g s m)
unfolding turns
turns-keep w q zero test f g c h after s l m sub = tt
turns-keep w q (suc j) test f g c h after s l m sub =
    value-keeps q (test s l) (test s m) (λ x. cond (is_true x.value) (and_on (f s l) (turns j test f)) (Falls s l))
    (λ x. cond (is_true x.value) (and_on (g s m) (turns j test g)) (Falls s m)) (c s l m sub)
    (λ x. cond-keeps q (is_true x.value) (and_on (f s l) (turns j test f)) (Falls s l)
    (and_on (g s m) (turns j test g)) (Falls s m)
    (on-keeps w q (f s l) (g s m) (turns j test f) (turns j test g) (h s l m sub)
    (λ s l m sub. turns-keep w q j test f g c h after s l m sub)) (m, refl, after l m sub))

pub selected-keeps : (flags : List Bool) (r : CType → ℕ → Bool) (t : CType) (z : ℤ) (cases : List Case) (f g : ℕ → Outcome)
    (o p : Outcome) → not (calls_bare flags cases) ≡ true → ((n : ℕ) → is_bare flags n ≡ false → Keeps r (f n) (g n))
    → Keeps r o p
    → Keeps r (selected t z cases f o) (selected t z cases g p)
selected-keeps flags r t z [] f g o p none h e = e
selected-keeps flags r t z (x ∷ cases) f g o p none h e =
    let parts = neither (is_bare flags x.function) (calls_bare flags cases) none in
    value-keeps r (converted t (pos x.label)) (converted t (pos x.label))
    (λ y. cond (int_le y.value z && int_le z y.value) (f x.function) (selected t z cases f o))
    (λ y. cond (int_le y.value z && int_le z y.value) (g x.function) (selected t z cases g p)) (inr refl)
    (λ y. cond-keeps r (int_le y.value z && int_le z y.value) (f x.function) (selected t z cases f o) (g x.function)
    (selected t z cases g p) (h x.function parts.0) (selected-keeps flags r t z cases f g o p parts.1 h e))

-- ---- statements without arguments that nothing needs

module _ (flags : List Bool) (int : Width) (c d : Calls)
    (alike : (f : ℕ) (xs : List CValue) (s : Store) → Alike (c f xs s) (d f (cond (is_bare flags f) [] xs) s)) (k : ℕ)
  where
    alike-same : (f : ℕ) (xs : List CValue) (s : Store) → is_bare flags f ≡ false → Alike (c f xs s) (d f xs s)
    alike-same f xs s e = subst (λ (b : Bool). Alike (c f xs s) (d f (cond b [] xs) s)) e (alike f xs s)

    pub fewer-keeps : (a : Block) → selects_no_bare flags a ≡ true → (r : CType → ℕ → Bool) (s : Store) (l m : Locals)
        → Sub (λ t i. needs flags t i a || r t i) l m → Keeps r (outcome int c k a s l)
        (outcome int d k (fewer flags a) s m)
    unfolding outcome needs selects_no_bare fewer
    fewer-keeps End none r s l m h = (m, refl, h)
    fewer-keeps (Set u j e rest) none r s l m h =
        value-keeps r (with_meaning (meaning int s l e) (λ x. converted u x.value))
        (with_meaning (meaning int s m e) (λ x. converted u x.value))
        (λ y. outcome int c k rest s (with_local l u j y.value))
        (λ y. outcome int d k (fewer flags rest) s (with_local m u j y.value))
        (with-clearer (meaning int s l e) (meaning int s m e) (λ x. converted u x.value) (λ x. converted u x.value)
        (means int s l m e (λ t i z q w. h t i z
        (in-first (reads t i e) (not (is_it t i u j) && needs flags t i rest) (r t i) q) w)) (λ x. inr refl))
        (λ y. fewer-keeps rest none r s (with_local l u j y.value) (with_local m u j y.value)
        (λ t i z q w. put-at ((i == j) && same_type t u) (reads t i e) (needs flags t i rest) (r t i) y.value (l t i)
        (m t i) z
        (h t i z) q w))
    fewer-keeps (PutField f e rest) none r s l m h =
        value-keeps r (with_meaning (meaning int s l e) (λ x. brought_to (slice_get s.fields f) x.value))
        (with_meaning (meaning int s m e) (λ x. brought_to (slice_get s.fields f) x.value))
        (λ y. outcome int c k rest (with_field s f y) l) (λ y. outcome int d k (fewer flags rest) (with_field s f y) m)
        (with-clearer (meaning int s l e) (meaning int s m e) (λ x. brought_to (slice_get s.fields f) x.value)
        (λ x. brought_to (slice_get s.fields f) x.value)
        (means int s l m e (λ t i z q w. h t i z (in-first (reads t i e) (needs flags t i rest) (r t i) q) w))
        (λ x. inr refl))
        (λ y. fewer-keeps rest none r (with_field s f y) l m
        (λ t i z q w. h t i z (in-rest (reads t i e) (needs flags t i rest) (r t i) q) w))
    fewer-keeps (StoreAt a x e rest) none r s l m h =
        value-keeps r (meaning int s l x) (meaning int s m x)
        (λ n. with_value (with_meaning (meaning int s l e)
        (λ x. brought_to (element (slice_get s.rows a) n.value) x.value))
        (λ y. outcome int c k rest (with_element s a n.value y) l))
        (λ n. with_value (with_meaning (meaning int s m e)
        (λ x. brought_to (element (slice_get s.rows a) n.value) x.value))
        (λ y. outcome int d k (fewer flags rest) (with_element s a n.value y) m))
        (means int s l m x (λ t i z q w. h t i z (in-first (reads t i x) (reads t i e || needs flags t i rest) (r t i)
        q) w))
        (λ n. value-keeps r
        (with_meaning (meaning int s l e) (λ x. brought_to (element (slice_get s.rows a) n.value) x.value))
        (with_meaning (meaning int s m e) (λ x. brought_to (element (slice_get s.rows a) n.value) x.value))
        (λ y. outcome int c k rest (with_element s a n.value y) l)
        (λ y. outcome int d k (fewer flags rest) (with_element s a n.value y) m)
        (with-clearer (meaning int s l e) (meaning int s m e)
        (λ x. brought_to (element (slice_get s.rows a) n.value) x.value)
        (λ x. brought_to (element (slice_get s.rows a) n.value) x.value)
        (means int s l m e (λ t i z q w. h t i z (in-rest (reads t i x) (reads t i e || needs flags t i rest) (r t i)
        (in-first (reads t i e) (needs flags t i rest) (r t i) q)) w)) (λ x. inr refl))
        (λ y. fewer-keeps rest none r (with_element s a n.value y) l m
        (λ t i z q w. h t i z (in-rest (reads t i x) (reads t i e || needs flags t i rest) (r t i)
        (in-rest (reads t i e) (needs flags t i rest) (r t i) q)) w)))
    fewer-keeps (Call u j f args rest) none r s l m h =
        arguments-keep flags int s (is_bare flags f) r l m args
        (λ xs. called (c f xs s) u j l (λ v n. outcome int c k rest v n))
        (λ xs. called (d f xs s) u j m (λ v n. outcome int d k (fewer flags rest) v n))
        (λ t i z q w. h t i z (in-first (not (is_bare flags f) && list_any (reads t i) args)
        (not (is_it t i u j) && needs flags t i rest) (r t i) q) w)
        (λ xs. called-keeps r (c f xs s) (d f (cond (is_bare flags f) [] xs) s) u j l m
        (λ v n. outcome int c k rest v n)
        (λ v n. outcome int d k (fewer flags rest) v n) (alike f xs s)
        (λ v y. fewer-keeps rest none r v (with_local l u j y) (with_local m u j y)
        (λ t i z q w. put-at ((i == j) && same_type t u) (not (is_bare flags f) && list_any (reads t i) args)
        (needs flags t i rest)
        (r t i) y (l t i) (m t i) z (h t i z) q w)))
    fewer-keeps (Select u j e cases args rest) none r s l m h =
        let parts = both (not (calls_bare flags cases)) (selects_no_bare flags rest) none in
        let after : Sub (λ t i. needs flags t i rest || r t i) l m =
        λ t i z q w. h t i z (in-rest (reads t i e) (list_any (reads t i) args || needs flags t i rest) (r t i)
        (in-rest (list_any (reads t i) args) (needs flags t i rest) (r t i) q)) w in
        value-keeps r (meaning int s l e) (meaning int s m e)
        (λ n. with_value (converted (promoted int n.type) n.value) (λ p. with_values int s l args (λ xs.
        selected p.type p.value cases (λ f. called (c f xs s) u j l (λ v n. outcome int c k rest v n))
        (outcome int c k rest s l))))
        (λ n. with_value (converted (promoted int n.type) n.value) (λ p. with_values int s m args (λ xs.
        selected p.type p.value cases (λ f. called (d f xs s) u j m (λ v n. outcome int d k (fewer flags rest) v n))
        (outcome int d k (fewer flags rest) s m))))
        (means int s l m e (λ t i z q w. h t i z
        (in-first (reads t i e) (list_any (reads t i) args || needs flags t i rest) (r t i) q) w))
        (λ n. value-keeps r (converted (promoted int n.type) n.value) (converted (promoted int n.type) n.value)
        (λ p. with_values int s l args (λ xs.
        selected p.type p.value cases (λ f. called (c f xs s) u j l (λ v n. outcome int c k rest v n))
        (outcome int c k rest s l)))
        (λ p. with_values int s m args (λ xs.
        selected p.type p.value cases (λ f. called (d f xs s) u j m (λ v n. outcome int d k (fewer flags rest) v n))
        (outcome int d k (fewer flags rest) s m))) (inr refl)
        (λ p. values-keep flags int s r l m args
        (λ xs. selected p.type p.value cases (λ f. called (c f xs s) u j l (λ v n. outcome int c k rest v n))
        (outcome int c k rest s l))
        (λ xs. selected p.type p.value cases
        (λ f. called (d f xs s) u j m (λ v n. outcome int d k (fewer flags rest) v n))
        (outcome int d k (fewer flags rest) s m))
        (λ t i z q w. h t i z (in-rest (reads t i e) (list_any (reads t i) args || needs flags t i rest) (r t i)
        (in-first (list_any (reads t i) args) (needs flags t i rest) (r t i) q)) w)
        (λ xs. selected-keeps flags r p.type p.value cases
        (λ f. called (c f xs s) u j l (λ v n. outcome int c k rest v n))
        (λ f. called (d f xs s) u j m (λ v n. outcome int d k (fewer flags rest) v n)) (outcome int c k rest s l)
        (outcome int d k (fewer flags rest) s m) parts.0
        (λ f is. called-keeps r (c f xs s) (d f xs s) u j l m (λ v n. outcome int c k rest v n)
        (λ v n. outcome int d k (fewer flags rest) v n) (alike-same f xs s is)
        (λ v y. fewer-keeps rest parts.1 r v (with_local l u j y) (with_local m u j y)
        (λ t i z q w. put-more ((i == j) && same_type t u) y (l t i) (m t i) z (after t i z q) w)))
        (fewer-keeps rest parts.1 r s l m after))))
    fewer-keeps (If e a b rest) none r s l m h =
        let p = both (selects_no_bare flags a) (selects_no_bare flags b && selects_no_bare flags rest) none in
        let q = both (selects_no_bare flags b) (selects_no_bare flags rest) p.1 in
        let n : CType → ℕ → Bool = λ t i. needs flags t i rest || r t i in
        value-keeps r (meaning int s l e) (meaning int s m e)
        (λ x. and_on (cond (is_true x.value) (outcome int c k a s l) (outcome int c k b s l))
        (λ v m. outcome int c k rest v m))
        (λ x. and_on (cond (is_true x.value) (outcome int d k (fewer flags a) s m)
        (outcome int d k (fewer flags b) s m))
        (λ v m. outcome int d k (fewer flags rest) v m))
        (means int s l m e (λ t i z k w. h t i z
        (in-first (reads t i e) (needs flags t i a || (needs flags t i b || needs flags t i rest)) (r t i) k) w))
        (λ x. on-keeps n r (cond (is_true x.value) (outcome int c k a s l) (outcome int c k b s l))
        (cond (is_true x.value) (outcome int d k (fewer flags a) s m) (outcome int d k (fewer flags b) s m))
        (λ v m. outcome int c k rest v m) (λ v m. outcome int d k (fewer flags rest) v m)
        (cond-keeps n (is_true x.value) (outcome int c k a s l) (outcome int c k b s l)
        (outcome int d k (fewer flags a) s m) (outcome int d k (fewer flags b) s m)
        (fewer-keeps a p.0 n s l m (λ t i z k w. h t i z
        (if-first (reads t i e) (needs flags t i a) (needs flags t i b) (needs flags t i rest) (r t i) k) w))
        (fewer-keeps b q.0 n s l m (λ t i z k w. h t i z
        (if-second (reads t i e) (needs flags t i a) (needs flags t i b) (needs flags t i rest) (r t i) k) w)))
        (λ v l m sub. fewer-keeps rest q.1 r v l m sub))
    fewer-keeps (While e a rest) none r s l m h =
        let p = both (selects_no_bare flags a) (selects_no_bare flags rest) none in
        let w : CType → ℕ → Bool = λ t i. (reads t i e || (needs flags t i a || needs flags t i rest)) || r t i in
        let n : CType → ℕ → Bool = λ t i. needs flags t i rest || r t i in
        on-keeps n r (turns k (λ v m. meaning int v m e) (λ v m. outcome int c k a v m) s l)
        (turns k (λ v m. meaning int v m e) (λ v m. outcome int d k (fewer flags a) v m) s m)
        (λ v m. outcome int c k rest v m) (λ v m. outcome int d k (fewer flags rest) v m)
        (turns-keep w n k (λ v m. meaning int v m e) (λ v m. outcome int c k a v m)
        (λ v m. outcome int d k (fewer flags a) v m)
        (λ v l m sub. means int v l m e (λ t i z k x. sub t i z
        (in-first (reads t i e) (needs flags t i a || needs flags t i rest) (r t i) k) x))
        (λ v l m sub. fewer-keeps a p.0 w v l m (λ t i z k x. sub t i z
        (while-turn (reads t i e) (needs flags t i a) (needs flags t i rest) (r t i) k) x))
        (λ l m sub t i z k x. sub t i z
        (while-after (reads t i e) (needs flags t i a) (needs flags t i rest) (r t i) k) x) s l m h)
        (λ v l m sub. fewer-keeps rest p.1 r v l m sub)
    fewer-keeps (Return e) none r s l m h =
        value-keeps r (meaning int s l e) (meaning int s m e) (λ x. Returns s x) (λ x. Returns s x)
        (means int s l m e (λ t i z q w. h t i z (left (reads t i e) (r t i) q) w)) (λ x. refl)
