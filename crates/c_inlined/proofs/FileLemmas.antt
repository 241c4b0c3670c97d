-- Files that are made one after the other.
use Rattle.std.proofs.Common.{◌≡◌, ◌==◌, ◌<◌, ℕ, zero, suc, Bool, true, false, List, [], ◌∷◌, length, Option, Some, None}
use Rattle.std.proofs.Common.{slice_get, slice_set, take, drop, ◌++◌, refl, sym, ap, ◌∙◌, subst, arith}
use Rattle.c_subset.specs.declared.trees.Function as declared_function
use Rattle.c_subset.specs.Trees.{Function, File}
use Rattle.c_subset.specs.Lines.{IsFunction}
use Rattle.c_bare.specs.Bare.{AreFunctions}
use Rattle.c_inlined.specs.Inlined.{FileIsInlined, IsMadeOf, with_function}
use Rattle.c_inlined.specs.Files.{IsInlinedFile, AsItIs, Further, AreInlined}

-- ---- functions of the code

-- as many with another one
set-length : {A : Type 0} (xs : List A) (p : ℕ) (x : A) → length (slice_set xs p x) ≡ length xs
set-length [] p x = refl
set-length (y ∷ xs) zero x = refl
set-length (y ∷ xs) (suc p) x = ap suc (set-length xs p x)

-- what was put in a slice of all of them
take-own : {A : Type 0} (xs ys : List A) (n : ℕ) → n ≡ length xs → take n (xs ++ ys) ≡ xs
take-own [] [] zero e = refl
take-own [] (y ∷ ys) zero e = refl
take-own [] ys (suc n) e = absurd (omega (arith, e))
take-own (x ∷ xs) ys zero e = absurd (omega (arith, e))
take-own {A} (x ∷ xs) ys (suc n) e =
    ap (λ (zs : List A). x ∷ zs) (take-own xs ys n (omega (arith, e)))

pub put-back : (n p : ℕ) (f : declared_function.Function) (items old new : List declared_function.Function)
    → n ≡ length items → old ≡ items → new ≡ slice_set old p f
    → take n (new ++ drop (length new) items) ≡ slice_set items p f
put-back n p f items old new size same put =
    take-own new (drop (length new) items) n
    (size ∙ sym (ap (λ (fs : List declared_function.Function). length fs) put ∙ set-length old p f
    ∙ ap (λ (fs : List declared_function.Function). length fs) same))
    ∙ put ∙ ap (λ (fs : List declared_function.Function). slice_set fs p f) same

-- those with another one are those of the file with another one
set-each : (fs : List declared_function.Function) (gs : List Function) (p : ℕ) (f : declared_function.Function)
    (g : Function) → ((i : ℕ) (f : declared_function.Function) (g : Function) → slice_get fs i ≡ Some f
    → slice_get gs i ≡ Some g → IsFunction f g) → IsFunction f g → (i : ℕ) (f' : declared_function.Function)
    (g' : Function) → slice_get (slice_set fs p f) i ≡ Some f' → slice_get (slice_set gs p g) i ≡ Some g'
    → IsFunction f' g'
set-each [] gs p f g each is i f' g' here there = none i here where
  none : (i : ℕ) → slice_get (slice_set {A = declared_function.Function} [] p f) i ≡ Some f' → IsFunction f' g'
  none zero e = absurd cc
  none (suc i) e = absurd cc
set-each (x ∷ fs) [] p f g each is i f' g' here there = none i there where
  none : (i : ℕ) → slice_get (slice_set {A = Function} [] p g) i ≡ Some g' → IsFunction f' g'
  none zero e = absurd cc
  none (suc i) e = absurd cc
set-each (x ∷ fs) (y ∷ gs) zero f g each is zero f' g' here there = at (some-is here) (some-is there) where
  some-is : {A : Type 0} {a b : A} → Some a ≡ Some b → a ≡ b
  some-is e = cc

  at : f ≡ f' → g ≡ g' → IsFunction f' g'
  at e h =
      subst (λ (a : declared_function.Function). IsFunction a g') e (subst (λ (b : Function). IsFunction f b) h is)
set-each (x ∷ fs) (y ∷ gs) zero f g each is (suc i) f' g' here there = each (suc i) f' g' here there
set-each (x ∷ fs) (y ∷ gs) (suc p) f g each is zero f' g' here there = each zero f' g' here there
set-each (x ∷ fs) (y ∷ gs) (suc p) f g each is (suc i) f' g' here there =
    set-each fs gs p f g (λ j a b. each (suc j) a b) is i f' g' here there

set-are : (fs : List declared_function.Function) (gs : List Function) (p : ℕ) (f : declared_function.Function)
    (g : Function) → AreFunctions fs gs → IsFunction f g → AreFunctions (slice_set fs p f) (slice_set gs p g)
set-are fs gs p f g are is = record {
  count = set-length fs p f ∙ are.count ∙ sym (set-length gs p g);
  each = set-each fs gs p f g are.each is;
}

-- ---- files

pub as-they-are : (file : File) (fs : List declared_function.Function) → AreFunctions fs file.functions
    → AreInlined file fs
as-they-are file fs are = record { made = file; inlined = AsItIs; are = are }

-- where there is no function with that number they stay
set-none : (fs : List declared_function.Function) (gs : List Function) (p : ℕ) (f : declared_function.Function)
    → length fs ≡ length gs → slice_get gs p ≡ None → slice_set fs p f ≡ fs
set-none [] gs p f same e = refl
set-none (x ∷ fs) [] p f same e = absurd (omega (arith, same))
set-none (x ∷ fs) (g ∷ gs) zero f same e = absurd cc
set-none (x ∷ fs) (g ∷ gs) (suc p) f same e =
    ap (λ (xs : List declared_function.Function). x ∷ xs) (set-none fs gs p f (omega (arith, same)) e)

-- one function is made
pub one-made : (file : File) (fs : List declared_function.Function) (p : ℕ) (f : declared_function.Function)
    (new : List declared_function.Function) → AreFunctions fs file.functions → IsMadeOf file.functions p f
    → new ≡ slice_set fs p f → AreInlined file new
one-made file fs p f new are is made =
    subst (AreInlined file) (sym made) (at (slice_get file.functions p) refl) where
      at : (o : Option Function) → slice_get file.functions p ≡ o → AreInlined file (slice_set fs p f)
      at None e =
          as-they-are file (slice_set fs p f)
          (subst (λ (xs : List declared_function.Function). AreFunctions xs file.functions)
          (sym (set-none fs file.functions p f are.count e)) are)
      at (Some g) e =
          let h = is g e in record {
            made = with_function file p h.0;
            inlined = Further p h.0 file AsItIs (record { function = g; there = e; inlined = h.2 });
            are = set-are fs file.functions p f h.0 are h.1;
          }

in-a-row : (file middle last : File) → IsInlinedFile file middle → IsInlinedFile middle last
    → IsInlinedFile file last
in-a-row file middle _ first AsItIs = first
in-a-row file middle _ first (Further p f' made second is) =
    Further p f' made (in-a-row file middle made first second) is

-- one file is made after the other
pub in-turn : (file : File) (fs gs : List declared_function.Function) → AreInlined file fs
    → ((other : File) → AreFunctions fs other.functions → AreInlined other gs) → AreInlined file gs
in-turn file fs gs first second =
    let next = second first.made first.are in record {
      made = next.made;
      inlined = in-a-row file first.made next.made first.inlined next.inlined;
      are = next.are;
    }
