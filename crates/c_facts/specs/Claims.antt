-- What holds after a test, a store and a call.
use Rattle.std.specs.Prelude.{◌≡◌, ℕ, ℤ, Bool, false, List, slice_get}
use Rattle.c_subset.specs.declared.trees.Width.{Width}
use Rattle.c_subset.specs.Trees.{CExpr}
use Rattle.c_subset.specs.Meaning.{CValue, Gives, is_true, Store, Locals, with_meaning, meaning}
use Rattle.c_subset.specs.Running.{brought_to, with_field, with_element}
use Rattle.c_facts.specs.Known.{Place, Known, Hold, Imply, Stays}
use Rattle.c_facts.specs.Facts.{is_touched}

-- where the test comes out so those facts hold too
abbrev pub AfterTest : Width → Known → CExpr → Bool → Known → Type 0
AfterTest int known e way next =
    (s : Store) (l : Locals) (x : CValue) → Hold s known → meaning int s l e ≡ Gives x → is_true x.value ≡ way
    → Hold s next

-- after `m->f = e;` those facts hold
abbrev pub AfterStore : Width → Known → ℕ → CExpr → Known → Type 0
AfterStore int known f e next =
    (s : Store) (l : Locals) (x : CValue) → Hold s known
    → with_meaning (meaning int s l e) (λ y. brought_to (slice_get s.fields f) y.value) ≡ Gives x
    → Hold (with_field s f x) next

-- `m->f = e;` changes no other places than these
abbrev pub StoresWithin : Width → List Place → Known → ℕ → CExpr → Type 0
StoresWithin int places known f e =
    (s : Store) (l : Locals) (x : CValue) → Hold s known
    → with_meaning (meaning int s l e) (λ y. brought_to (slice_get s.fields f) y.value) ≡ Gives x
    → (q : Place) → is_touched places q ≡ false → Stays s (with_field s f x) q

-- after `m->a[i] = e;` those facts hold
abbrev pub AfterElement : Known → Known → Type 0
AfterElement known next =
    (s : Store) (a : ℕ) (i : ℤ) (x : CValue) → Hold s known → Hold (with_element s a i x) next

-- after a call that changes no other places, and after which those facts hold that the callee leaves, these hold
abbrev pub AfterCall : (Place → Bool) → Known → Known → Known → Type 0
AfterCall touched known left next =
    (s after : Store) → Hold s known → Hold after left → ((p : Place) → touched p ≡ false → Stays s after p)
    → Hold after next

-- where no other places change those facts hold
abbrev pub AfterChange : (Place → Bool) → Known → Known → Type 0
AfterChange touched known next =
    (s after : Store) → Hold s known → ((p : Place) → touched p ≡ false → Stays s after p) → Hold after next

-- where one of both holds those facts hold
abbrev pub AfterEither : Known → Known → Known → Type 0
AfterEither a b next = Imply a next × Imply b next

-- no struct is such
abbrev pub NeverHolds : Known → Type 0
NeverHolds known = (s : Store) → Hold s known → ⊥
