-- Sets of kinds, as FIRST and FOLLOW are, compared by computing.
use Rattle.std.proofs.Common.{◌≡◌, ℕ, zero, suc, Bool, true, false, List, []}
use Rattle.std.proofs.Common.{◌∷◌, Option, Some, None, refl, ◌||◌, ◌&&◌, not}
use Rattle.token_grammar.specs.declared.token.Kind.{Kind}
use Rattle.token_grammar.specs.declared.token.Kind.TheVariants as kinds
use Rattle.token_grammar.specs.Token.{kind_number}
use Rattle.token_grammar.proofs.Good.{Set, Apart, Within}

-- every kind, in the order of its number
abbrev pub all_kinds : List Kind
all_kinds =
    kinds.Chart ∷ kinds.Or ∷ kinds.And ∷ kinds.State ∷ kinds.Entry ∷ kinds.During ∷ kinds.Exit ∷ kinds.Outer ∷
    kinds.Inner ∷ kinds.Default ∷ kinds.Junction ∷ kinds.Event ∷ kinds.Input ∷ kinds.Output ∷ kinds.Local ∷ kinds.Send ∷
    kinds.To ∷ kinds.Emit ∷ kinds.In ∷ kinds.True ∷ kinds.False ∷ kinds.Tick ∷ kinds.Saturate ∷ kinds.Wrap ∷
    kinds.Error ∷ kinds.History ∷ kinds.Name ∷ kinds.Number ∷ kinds.Comment ∷ kinds.OpenBrace ∷ kinds.CloseBrace ∷ kinds.OpenBracket ∷
    kinds.CloseBracket ∷ kinds.OpenParen ∷ kinds.CloseParen ∷ kinds.Semicolon ∷ kinds.Colon ∷ kinds.Comma ∷ kinds.At ∷ kinds.Assign ∷
    kinds.Arrow ∷ kinds.Slash ∷ kinds.Plus ∷ kinds.Minus ∷ kinds.Star ∷ kinds.EqualEqual ∷ kinds.NotEqual ∷ kinds.Less ∷
    kinds.LessEqual ∷ kinds.Greater ∷ kinds.GreaterEqual ∷ kinds.AndAnd ∷ kinds.OrOr ∷ kinds.Not ∷ []

-- each kind of the list is in the set
abbrev pub each : Set → List Kind → Bool
each p [] = true
each p (k ∷ ks) = p k && each p ks

-- the kind at a place
abbrev pub at : List Kind → ℕ → Option Kind
at [] n = None
at (k ∷ ks) zero = Some k
at (k ∷ ks) (suc n) = at ks n

-- each kind stands at the place of its number
pub found : (k : Kind) → at all_kinds (kind_number k) ≡ Some k
found kinds.Chart = refl
found kinds.Or = refl
found kinds.And = refl
found kinds.State = refl
found kinds.Entry = refl
found kinds.During = refl
found kinds.Exit = refl
found kinds.Outer = refl
found kinds.Inner = refl
found kinds.Default = refl
found kinds.Junction = refl
found kinds.Event = refl
found kinds.Input = refl
found kinds.Output = refl
found kinds.Local = refl
found kinds.Send = refl
found kinds.To = refl
found kinds.Emit = refl
found kinds.In = refl
found kinds.True = refl
found kinds.False = refl
found kinds.Tick = refl
found kinds.Saturate = refl
found kinds.Wrap = refl
found kinds.Error = refl
found kinds.History = refl
found kinds.Name = refl
found kinds.Number = refl
found kinds.Comment = refl
found kinds.OpenBrace = refl
found kinds.CloseBrace = refl
found kinds.OpenBracket = refl
found kinds.CloseBracket = refl
found kinds.OpenParen = refl
found kinds.CloseParen = refl
found kinds.Semicolon = refl
found kinds.Colon = refl
found kinds.Comma = refl
found kinds.At = refl
found kinds.Assign = refl
found kinds.Arrow = refl
found kinds.Slash = refl
found kinds.Plus = refl
found kinds.Minus = refl
found kinds.Star = refl
found kinds.EqualEqual = refl
found kinds.NotEqual = refl
found kinds.Less = refl
found kinds.LessEqual = refl
found kinds.Greater = refl
found kinds.GreaterEqual = refl
found kinds.AndAnd = refl
found kinds.OrOr = refl
found kinds.Not = refl

-- of two that hold the first holds
and_left : (a b : Bool) → (a && b) ≡ true → a ≡ true
and_left true b h = refl
and_left false b h = absurd cc

-- and the second
and_right : (a b : Bool) → (a && b) ≡ true → b ≡ true
and_right true b h = h
and_right false b h = absurd cc

-- what holds of each holds of that at a place
each_at : (p : Set) (ks : List Kind) (n : ℕ) (k : Kind) → each p ks ≡ true → at ks n ≡ Some k → p k ≡ true
each_at p [] n k h e = absurd cc
each_at p (j ∷ ks) zero k h e = let same : j ≡ k = cc in rw (← same) (and_left (p j) (each p ks) h)
each_at p (j ∷ ks) (suc n) k h e = each_at p ks n k (and_right (p j) (each p ks) h) e

-- what holds of all kinds holds of each
each_kind : (p : Set) (k : Kind) → each p all_kinds ≡ true → p k ≡ true
each_kind p k h = each_at p all_kinds (kind_number k) k h (found k)

-- no kind is in both sets
abbrev pub disjoint : Set → Set → Bool
disjoint f m = each (λ k. not (f k) || not (m k)) all_kinds

-- each kind of the first set is in the second
abbrev pub subset : Set → Set → Bool
subset f m = each (λ k. not (f k) || m k) all_kinds

-- disjoint by computing is disjoint
pub apart : (f m : Set) → disjoint f m ≡ true → Apart f m
apart f m h k e = not_both (f k) (m k) (each_kind (λ j. not (f j) || not (m j)) k h) e
  where
    not_both : (a b : Bool) → (not a || not b) ≡ true → a ≡ true → b ≡ false
    not_both true true h e = absurd cc
    not_both true false h e = refl
    not_both false b h e = absurd cc

-- a subset by computing is a subset
pub within : (f m : Set) → subset f m ≡ true → Within f m
within f m h k e = also_that (f k) (m k) (each_kind (λ j. not (f j) || m j) k h) e
  where
    also_that : (a b : Bool) → (not a || b) ≡ true → a ≡ true → b ≡ true
    also_that true b h e = h
    also_that false b h e = absurd cc

-- ---- and back, for sets that don't compute

-- what holds of each kind holds of a list of them
each_true : (p : Set) → ((k : Kind) → p k ≡ true) → (ks : List Kind) → each p ks ≡ true
each_true p all [] = refl
each_true p all (k ∷ ks) = rw (all k) (each_true p all ks)

-- disjoint sets are so by computing
pub disjoint_apart : (f m : Set) → Apart f m → disjoint f m ≡ true
disjoint_apart f m a = each_true (λ k. not (f k) || not (m k)) (λ k. not_both (f k) (m k) (a k)) all_kinds
  where
    not_both : (a b : Bool) → (a ≡ true → b ≡ false) → (not a || not b) ≡ true
    not_both true true h = absurd (let bad = h refl in cc)
    not_both true false h = refl
    not_both false b h = refl

-- and so are subsets
pub subset_within : (f m : Set) → Within f m → subset f m ≡ true
subset_within f m w = each_true (λ k. not (f k) || m k) (λ k. also_that (f k) (m k) (w k)) all_kinds
  where
    also_that : (a b : Bool) → (a ≡ true → b ≡ true) → (not a || b) ≡ true
    also_that true b h = h refl
    also_that false b h = refl
