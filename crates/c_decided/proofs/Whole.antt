-- Functions that were made one after another are those of a file.
use Rattle.std.proofs.Common.{◌≡◌, ◌+◌, ◌++◌, ℕ, suc, zero, List, [], ◌∷◌, length, Some, slice_get, refl, sym, ap}
use Rattle.std.proofs.Common.{◌∙◌, subst, arith}
use Rattle.c_subset.specs.declared.trees.Function as declared_function
use Rattle.c_subset.specs.Trees.{Function}
use Rattle.c_subset.specs.Lines.{IsFunction}
use Rattle.c_decided.specs.Decided.{Plan}
use Rattle.c_decided.specs.Made.{IsMade, IsMadeFunction, AreFunctions, AreMadeFunctions}

-- from a number on each of the second functions is made of the first one that stands there
abbrev pub AreMadeFrom : Plan → ℕ → List declared_function.Function → List declared_function.Function → Type 0
AreMadeFrom P p [] [] = Unit {0}
AreMadeFrom P p [] (m ∷ ms) = ⊥
AreMadeFrom P p (f ∷ fs) [] = ⊥
AreMadeFrom P p (f ∷ fs) (m ∷ ms) =
    ((g : Function) → IsFunction f g → IsMadeFunction P p g m) × AreMadeFrom P (suc p) fs ms

pub same_count : (P : Plan) (p : ℕ) (fs ms : List declared_function.Function) → AreMadeFrom P p fs ms
    → length ms ≡ length fs
same_count P p [] [] h = refl
same_count P p [] (m ∷ ms) h = absurd h
same_count P p (f ∷ fs) [] h = absurd h
same_count P p (f ∷ fs) (m ∷ ms) h = ap suc (same_count P (suc p) fs ms h.1)

pub none_made : (P : Plan) (ms : List declared_function.Function) → ms ≡ [] → AreMadeFrom P 0 [] ms
none_made P [] e = tt
none_made P (m ∷ ms) e = absurd cc

-- one more
pub one_made : (P : Plan) (p n : ℕ) (fs ms : List declared_function.Function) (f m : declared_function.Function)
    → AreMadeFrom P p fs ms → n ≡ p + length ms → ((g : Function) → IsFunction f g → IsMadeFunction P n g m)
    → AreMadeFrom P p (fs ++ f ∷ []) (ms ++ m ∷ [])
one_made P p n [] [] f m h e one =
    let at : n ≡ p = omega (arith, e) in
    (subst (λ (n : ℕ). (g : Function) → IsFunction f g → IsMadeFunction P n g m) at one, tt)
one_made P p n [] (x ∷ ms) f m h e one = absurd h
one_made P p n (x ∷ fs) [] f m h e one = absurd h
one_made P p n (x ∷ fs) (y ∷ ms) f m h e one =
    (h.0, one_made P (suc p) n fs ms f m h.1 (omega (arith, e)) one)

-- so, with the functions that there were
pub one_more_made : (P : Plan) (n : ℕ) (fs ms new : List declared_function.Function) (f m : declared_function.Function)
    → AreMadeFrom P 0 fs ms → n ≡ length ms → ((g : Function) → IsFunction f g → IsMadeFunction P n g m)
    → new ≡ ms ++ m ∷ [] → AreMadeFrom P 0 (fs ++ f ∷ []) new
one_more_made P n fs ms new f m h e one is =
    subst (λ (new : List declared_function.Function). AreMadeFrom P 0 (fs ++ f ∷ []) new) (sym is)
    (one_made P 0 n fs ms f m h (omega (arith, e)) one)

-- the functions from a number on
record Made (P : Plan) (p : ℕ) (gs : List Function) (ms : List declared_function.Function) : Type 0 where
  made : List Function
  are : AreFunctions ms made
  each : (i : ℕ) (g : Function) → slice_get gs i ≡ Some g
      → (g' : Function) × (slice_get made i ≡ Some g') × IsMade P (p + i) g g'

all-made : (P : Plan) (p : ℕ) (fs ms : List declared_function.Function) (gs : List Function) → AreMadeFrom P p fs ms
    → length fs ≡ length gs
    → ((i : ℕ) (f : declared_function.Function) (g : Function) → slice_get fs i ≡ Some f → slice_get gs i ≡ Some g
    → IsFunction f g) → Made P p gs ms
all-made P p [] [] [] h n each = record {
  made = [];
  are = record { count = refl; each = λ i f g there at. absurd (none i f there) };
  each = λ i g there. absurd (no-one i g there);
}
  where
    none : (i : ℕ) (f : declared_function.Function) → slice_get [] i ≡ Some f → ⊥
    none i f e = absurd cc

    no-one : (i : ℕ) (f : Function) → slice_get [] i ≡ Some f → ⊥
    no-one i f e = absurd cc
all-made P p [] (m ∷ ms) gs h n each = absurd h
all-made P p (f ∷ fs) [] gs h n each = absurd h
all-made P p [] [] (g ∷ gs) h n each = absurd (omega (arith, n))
all-made P p (f ∷ fs) (m ∷ ms) [] h n each = absurd (omega (arith, n))
all-made P p (f ∷ fs) (m ∷ ms) (g ∷ gs) h n each =
    join (h.0 g (each 0 f g refl refl))
    (all-made P (suc p) fs ms gs h.1 (omega (arith, n)) (λ i f g there at. each (suc i) f g there at))
  where
    join : IsMadeFunction P p g m → Made P (suc p) gs ms → Made P p (g ∷ gs) (m ∷ ms)
    join (g', are, is) rest = record {
      made = g' ∷ rest.made;
      are = record {
        count = ap suc rest.are.count;
        each = function;
      };
      each = one;
    }
      where
        function : (i : ℕ) (x : declared_function.Function) (y : Function) → slice_get (m ∷ ms) i ≡ Some x
            → slice_get (g' ∷ rest.made) i ≡ Some y → IsFunction x y
        function zero x y there at =
            subst (λ (y : Function). IsFunction x y) (some at)
            (subst (λ (x : declared_function.Function). IsFunction x g') (code there) are)
          where
            some : Some g' ≡ Some y → g' ≡ y
            some e = cc

            code : Some m ≡ Some x → m ≡ x
            code e = cc
        function (suc i) x y there at = rest.are.each i x y there at

        one : (i : ℕ) (x : Function) → slice_get (g ∷ gs) i ≡ Some x
            → (x' : Function) × (slice_get (g' ∷ rest.made) i ≡ Some x') × IsMade P (p + i) x x'
        one zero x there = (
          g',
          refl,
          subst (λ (k : ℕ). IsMade P k x g') (omega arith)
              (subst (λ (x : Function). IsMade P p x g') (some there) is),
        )
          where
            some : Some g ≡ Some x → g ≡ x
            some e = cc
        one (suc i) x there =
            let (x', at, made) = rest.each i x there in
            (x', at, subst (λ (k : ℕ). IsMade P k x x') (omega arith) made)

pub functions_made : (P : Plan) (fs ms : List declared_function.Function) (gs : List Function) → AreMadeFrom P 0 fs ms
    → AreFunctions fs gs → AreMadeFunctions P gs ms
functions_made P fs ms gs h are =
    let all = all-made P 0 fs ms gs h are.count are.each in record {
      functions = all.made;
      are = all.are;
      count = sym all.are.count ∙ same_count P 0 fs ms h ∙ are.count;
      each =
          λ i g there. let (g', at, is) = all.each i g there in
          (g', at, subst (λ (k : ℕ). IsMade P k g g') (omega arith) is);
    }
