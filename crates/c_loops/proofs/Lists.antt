-- Lists of blocks and of results, as the code goes through them.
use Rattle.std.proofs.Common.{◌≡◌, ◌≢◌, ℕ, suc, ◌+◌, Bool, true, false, cond, ◌&&◌, ◌||◌, List, []}
use Rattle.std.proofs.Common.{◌∷◌, ◌++◌}
use Rattle.std.proofs.Common.{length, refl, sym, ap, ◌∙◌, arith}
use Rattle.std.specs.List.{list_all}
use Rattle.std.proofs.lemmas.Bool.Decides.{nat_tests}
use Rattle.c_subset.specs.Running.{same_type}
use Rattle.c_subset.specs.Trees.{CExpr, Block, End, If}
use Rattle.c_subset.specs.declared.trees.CType.{CType}
use Rattle.c_functions.specs.Plans.{word}
use Rattle.c_trees.specs.Blocks.{is_end}
use Rattle.c_loops.specs.Results.{is_local}
use Rattle.c_loops.specs.Loops.{are_locals, are_words, is_some_of, leads_back, rests, again}
use Rattle.c_loops.proofs.Giving.{both-true}

pub and-true : (b : Bool) → (b && true) ≡ b
and-true true = refl
and-true false = refl

and-both : (a b c : Bool) → ((a && b) && c) ≡ (a && (b && c))
and-both true b c = refl
and-both false b c = refl

-- what holds of all holds of both lists
pub all-append : {A : Type 0} (f : A → Bool) (xs ys : List A) → list_all f (xs ++ ys) ≡ (list_all f xs && list_all f ys)
all-append f [] ys = refl
all-append f (x ∷ xs) ys =
    ap (λ (b : Bool). f x && b) (all-append f xs ys) ∙ sym (and-both (f x) (list_all f xs) (list_all f ys))

-- one of both lists
pub some-append : (xs ys : List Block) → is_some_of (xs ++ ys) ≡ (is_some_of xs || is_some_of ys)
some-append [] ys = refl
some-append (x ∷ xs) ys = refl

-- a list with a condition
pub all-if : {A : Type 0} (f : A → Bool) (b : Bool) (xs ys : List A)
    → list_all f (cond b xs ys) ≡ cond b (list_all f xs) (list_all f ys)
all-if f true xs ys = refl
all-if f false xs ys = refl

pub some-if : (b : Bool) (xs ys : List Block) → is_some_of (cond b xs ys) ≡ cond b (is_some_of xs) (is_some_of ys)
some-if true xs ys = refl
some-if false xs ys = refl

pub ruleset lists = (and-true, all-append, some-append, all-if, some-if)

-- an `if` stays one in a turn
pub if-again : (p : ℕ) (e : CExpr) (a b rest : Block) → is_end (again p (If e a b rest)) ≡ false
unfolding again
if-again p e a b rest = at (leads_back p (rests p a) a b)
  where
    at : (c : Bool) → is_end (cond c (If e (again p a) (again p rest) End) (If e a b (again p rest))) ≡ false
    at true = refl
    at false = refl

pub ruleset again_if = (if-again)

-- the parameters are five
locals-size : (es : List CExpr) (i : ℕ) → are_locals i es ≡ true → i + length es ≡ 5
locals-size [] i h = grind (arith, nat_tests)
locals-size (e ∷ es) i h =
    let size = locals-size es (suc i) (both-true (is_local i e) (are_locals (suc i) es) h).1 in omega (arith, size)

pub other-size : (es : List CExpr) → length es ≢ 5 → false ≡ are_locals 0 es
other-size es ne = at (are_locals 0 es) refl
  where
    at : (b : Bool) → are_locals 0 es ≡ b → false ≡ b
    at true h = let size = locals-size es 0 h in absurd (ne (omega (arith, size)))
    at false h = refl

-- so are their types
words-size : (ts : List CType) (i : ℕ) → are_words i ts ≡ true → i + length ts ≡ 5
words-size [] i h = grind (arith, nat_tests)
words-size (t ∷ ts) i h =
    let size = words-size ts (suc i) (both-true (same_type t word) (are_words (suc i) ts) h).1 in omega (arith, size)

pub other-words : (ts : List CType) → length ts ≢ 5 → false ≡ are_words 0 ts
other-words ts ne = at (are_words 0 ts) refl
  where
    at : (b : Bool) → are_words 0 ts ≡ b → false ≡ b
    at true h = let size = words-size ts 0 h in absurd (ne (omega (arith, size)))
    at false h = refl
