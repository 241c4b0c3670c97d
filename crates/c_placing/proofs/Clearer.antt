-- Meanings of which the second one is the first, where that is one.
use Rattle.std.proofs.Common.{◌≡◌, Bool, true, false, cond, refl, sym, ap, subst, ◌⊎◌, inl, inr}
use Rattle.c_subset.specs.Meaning.{CValue, Meaning, Gives, Wrong, with_meaning}

-- the first is Wrong, or the second is the same
abbrev pub Clearer : Meaning → Meaning → Type 0
Clearer a b = (a ≡ Wrong) ⊎ (b ≡ a)

pub with-clearer : (a b : Meaning) (f g : CValue → Meaning) → Clearer a b → ((x : CValue) → Clearer (f x) (g x))
    → Clearer (with_meaning a f) (with_meaning b g)
with-clearer a b f g (inl e) h = inl (ap (λ (m : Meaning). with_meaning m f) e)
with-clearer a b f g (inr e) h = subst (λ (c : Meaning). Clearer (with_meaning a f) (with_meaning c g)) (sym e) (at a)
  where
    at : (m : Meaning) → Clearer (with_meaning m f) (with_meaning m g)
    at (Gives x) = h x
    at Wrong = inl refl

pub cond-clearer : (b : Bool) (m n m' n' : Meaning) → Clearer m m' → Clearer n n' → Clearer (cond b m n) (cond b m' n')
cond-clearer true m n m' n' h i = h
cond-clearer false m n m' n' h i = i
