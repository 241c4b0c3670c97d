-- Endings that stay as they were, and statements under calls that do.
use Rattle.std.proofs.Common.{◌≡◌, ℕ, zero, suc, ℤ, pos, int_le, ◌&&◌, Bool, true, false, cond, List, [], ◌∷◌, refl}
use Rattle.std.proofs.Common.{sym}
use Rattle.std.proofs.Common.{ap, subst}
use Rattle.c_subset.specs.declared.trees.Width.{Width}
use Rattle.c_subset.specs.declared.trees.CType.{CType}
use Rattle.c_subset.specs.declared.trees.Case.{Case}
use Rattle.c_subset.specs.Trees.{CExpr}
use Rattle.c_subset.specs.Meaning.{CValue, Meaning, Gives, Wrong, converted, is_true, Store, Locals, meaning}
use Rattle.c_subset.specs.Running.{Outcome, Falls, Returns, Starves, GoesWrong, with_value, and_on, and_with}
use Rattle.c_subset.specs.Running.{with_local, with_values, called, turns, selected, with_arguments, returned}

-- the second ending is the first one, unless that doesn't end
abbrev pub Kept : Outcome → Outcome → Type 0
Kept (Falls s l) o = o ≡ Falls s l
Kept (Returns s x) o = o ≡ Returns s x
Kept Starves o = Unit {0}
Kept GoesWrong o = Unit {0}

pub kept-itself : (o : Outcome) → Kept o o
kept-itself (Falls s l) = refl
kept-itself (Returns s x) = refl
kept-itself Starves = tt
kept-itself GoesWrong = tt

-- one after the other
pub kept-on : (o p q : Outcome) → Kept o p → Kept p q → Kept o q
kept-on (Falls s l) p q h i = subst (λ (p : Outcome). Kept p q) h i
kept-on (Returns s x) p q h i = subst (λ (p : Outcome). Kept p q) h i
kept-on Starves p q h i = tt
kept-on GoesWrong p q h i = tt

pub kept-same : (o p q : Outcome) → Kept o p → p ≡ q → Kept o q
kept-same o p q h e = subst (λ (q : Outcome). Kept o q) e h

pub same-kept : (o p q : Outcome) → o ≡ p → Kept p q → Kept o q
same-kept o p q e h = subst (λ (o : Outcome). Kept o q) (sym e) h

-- what returned returns
pub kept-returns : (o p : Outcome) (s : Store) (x : CValue) → Kept o p → o ≡ Returns s x → p ≡ Returns s x
kept-returns o p s x h e = subst (λ (o : Outcome). Kept o p) e h

-- ---- what goes on

pub value-kept : (m : Meaning) (f g : CValue → Outcome) → ((x : CValue) → Kept (f x) (g x))
    → Kept (with_value m f) (with_value m g)
value-kept (Gives x) f g h = h x
value-kept Wrong f g h = tt

pub on-kept : (o p : Outcome) (f g : Store → Locals → Outcome) → Kept o p
    → ((s : Store) (l : Locals) → Kept (f s l) (g s l)) → Kept (and_on o f) (and_on p g)
on-kept (Falls s l) p f g e h = subst (λ (p : Outcome). Kept (f s l) (and_on p g)) (sym e) (h s l)
on-kept (Returns s x) p f g e h = ap (λ (p : Outcome). and_on p g) e
on-kept Starves p f g e h = tt
on-kept GoesWrong p f g e h = tt

pub cond-kept : (b : Bool) (o p o' p' : Outcome) → Kept o o' → Kept p p' → Kept (cond b o p) (cond b o' p')
cond-kept true o p o' p' h i = h
cond-kept false o p o' p' h i = i

with-kept : (o p : Outcome) (f g : Store → CValue → Outcome) → Kept o p
    → ((s : Store) (x : CValue) → Kept (f s x) (g s x)) → Kept (and_with o f) (and_with p g)
with-kept (Falls s l) p f g e h = tt
with-kept (Returns s x) p f g e h = subst (λ (p : Outcome). Kept (f s x) (and_with p g)) (sym e) (h s x)
with-kept Starves p f g e h = tt
with-kept GoesWrong p f g e h = tt

pub called-kept : (o p : Outcome) (t : CType) (i : ℕ) (l : Locals) (f g : Store → Locals → Outcome) → Kept o p
    → ((s : Store) (l : Locals) → Kept (f s l) (g s l)) → Kept (called o t i l f) (called p t i l g)
called-kept o p t i l f g e h =
    with-kept o p (λ s x. with_value (converted t x.value) (λ y. f s (with_local l t i y.value)))
    (λ s x. with_value (converted t x.value) (λ y. g s (with_local l t i y.value))) e
    (λ s x. value-kept (converted t x.value) (λ y. f s (with_local l t i y.value))
    (λ y. g s (with_local l t i y.value)) (λ y. h s (with_local l t i y.value)))

pub values-kept : (int : Width) (s : Store) (l : Locals) (es : List CExpr) (f g : List CValue → Outcome)
    → ((xs : List CValue) → Kept (f xs) (g xs)) → Kept (with_values int s l es f) (with_values int s l es g)
unfolding with_values
values-kept int s l [] f g h = h []
values-kept int s l (e ∷ es) f g h =
    value-kept (meaning int s l e) (λ x. with_values int s l es (λ xs. f (x ∷ xs)))
    (λ x. with_values int s l es (λ xs. g (x ∷ xs)))
    (λ x. values-kept int s l es (λ xs. f (x ∷ xs)) (λ xs. g (x ∷ xs)) (λ xs. h (x ∷ xs)))

pub selected-kept : (t : CType) (z : ℤ) (cases : List Case) (f g : ℕ → Outcome) (o p : Outcome)
    → ((q : ℕ) → Kept (f q) (g q)) → Kept o p → Kept (selected t z cases f o) (selected t z cases g p)
selected-kept t z [] f g o p h e = e
selected-kept t z (c ∷ cases) f g o p h e =
    value-kept (converted t (pos c.label))
    (λ y. cond (int_le y.value z && int_le z y.value) (f c.function) (selected t z cases f o))
    (λ y. cond (int_le y.value z && int_le z y.value) (g c.function) (selected t z cases g p))
    (λ y. cond-kept (int_le y.value z && int_le z y.value) (f c.function) (selected t z cases f o) (g c.function)
    (selected t z cases g p) (h c.function) (selected-kept t z cases f g o p h e))

pub turns-kept : (k : ℕ) (test : Store → Locals → Meaning) (f g : Store → Locals → Outcome)
    → ((s : Store) (l : Locals) → Kept (f s l) (g s l)) → (s : Store) (l : Locals)
    → Kept (turns k test f s l) (turns k test g s l)
unfolding turns
turns-kept zero test f g h s l = tt
turns-kept (suc k) test f g h s l =
    value-kept (test s l) (λ x. cond (is_true x.value) (and_on (f s l) (turns k test f)) (Falls s l))
    (λ x. cond (is_true x.value) (and_on (g s l) (turns k test g)) (Falls s l))
    (λ x. cond-kept (is_true x.value) (and_on (f s l) (turns k test f)) (Falls s l)
    (and_on (g s l) (turns k test g)) (Falls s l)
    (on-kept (f s l) (g s l) (turns k test f) (turns k test g) (h s l) (λ v m. turns-kept k test f g h v m)) refl)

pub returned-kept : (t : CType) (o p : Outcome) → Kept o p → Kept (returned t o) (returned t p)
returned-kept t o p e =
    with-kept o p (λ s x. with_value (converted t x.value) (λ y. Returns s y))
    (λ s x. with_value (converted t x.value) (λ y. Returns s y)) e
    (λ s x. kept-itself (with_value (converted t x.value) (λ y. Returns s y)))

pub arguments-kept : (ts : List CType) (xs : List CValue) (k : ℕ) (l : Locals) (f g : Locals → Outcome)
    → ((l : Locals) → Kept (f l) (g l)) → Kept (with_arguments ts xs k l f) (with_arguments ts xs k l g)
unfolding with_arguments
arguments-kept [] [] k l f g h = h l
arguments-kept [] (x ∷ xs) k l f g h = tt
arguments-kept (t ∷ ts) [] k l f g h = tt
arguments-kept (t ∷ ts) (x ∷ xs) k l f g h =
    value-kept (converted t x.value) (λ y. with_arguments ts xs (suc k) (with_local l t k y.value) f)
    (λ y. with_arguments ts xs (suc k) (with_local l t k y.value) g)
    (λ y. arguments-kept ts xs (suc k) (with_local l t k y.value) f g h)
