-- Statements in which tests are decided by what is known where they stand.
use Rattle.std.specs.Prelude.{◌≡◌, ℕ, Bool, true, false, List, [], ◌∷◌, Some, slice_get}
use Rattle.c_subset.specs.declared.trees.Width.{Width}
use Rattle.c_subset.specs.declared.trees.CType.{CType}
use Rattle.c_subset.specs.declared.trees.Case.{Case}
use Rattle.c_subset.specs.Trees.{CExpr}
use Rattle.c_subset.specs.Trees.{Block, End, Set, Store as PutField, StoreAt, Call, Select, If, While, Return}
use Rattle.c_subset.specs.Meaning.{CValue, Gives, converted, is_true, Store, Locals, meaning, with_meaning}
use Rattle.c_subset.specs.Running.{brought_to, with_local, with_field}
use Rattle.c_facts.specs.Known.{Known, Hold, Stays}
use Rattle.c_facts.specs.declared.known.Place.{Place}
use Rattle.c_facts.specs.Facts.{is_touched}
use Rattle.c_decided.specs.Facts.{ByNumber, at, Facts, Holds, Implies}

-- what is known where each function begins, and by the number that it returns; which places it and those that it calls
-- may change; and whether it stays as it is
pub record Plan : Type 0 where
  pub begins : ℕ → Known
  pub leaves : ℕ → ByNumber
  pub touched : ℕ → List Place
  pub stays : ℕ → Bool

-- statements before others
unfoldable pub before : Block → Block → Block
before End rest = rest
before (Set t i e a) rest = Set t i e (before a rest)
before (PutField f e a) rest = PutField f e (before a rest)
before (StoreAt r i e a) rest = StoreAt r i e (before a rest)
before (Call t i f args a) rest = Call t i f args (before a rest)
before (Select t i e cases args a) rest = Select t i e cases args (before a rest)
before (If e a b c) rest = If e a b (before c rest)
before (While e a b) rest = While e a (before b rest)
before (Return e) rest = Return e

-- ---- where facts hold

-- a test comes out so wherever these facts hold, if it has a value
abbrev pub ComesOut : Width → Facts → CExpr → Bool → Type 0
ComesOut int F e outcome = (s : Store) (l : Locals) (x : CValue) → Holds s l F → meaning int s l e ≡ Gives x
    → is_true x.value ≡ outcome

-- where a test comes out so those facts hold too
abbrev pub AfterTest : Width → Facts → CExpr → Bool → Facts → Type 0
AfterTest int F e outcome G = (s : Store) (l : Locals) (x : CValue) → Holds s l F → meaning int s l e ≡ Gives x
    → is_true x.value ≡ outcome → Holds s l G

-- after x = e; those facts hold
abbrev pub AfterSet : Width → Facts → CType → ℕ → CExpr → Facts → Type 0
AfterSet int F t i e G = (s : Store) (l : Locals) (y : CValue) → Holds s l F
    → with_meaning (meaning int s l e) (λ x. converted t x.value) ≡ Gives y → Holds s (with_local l t i y.value) G

-- after m->f = e; those facts hold
abbrev pub AfterStore : Width → Facts → ℕ → CExpr → Facts → Type 0
AfterStore int F f e G = (s : Store) (l : Locals) (y : CValue) → Holds s l F
    → with_meaning (meaning int s l e) (λ x. brought_to (slice_get s.fields f) x.value) ≡ Gives y
    → Holds (with_field s f y) l G

-- no other places than these change
abbrev pub Same : List Place → Store → Store → Type 0
Same touched s after = (q : Place) → is_touched touched q ≡ false → Stays s after q

-- m->f = e; changes no other places than these
abbrev pub StoresWithin : Width → List Place → Facts → ℕ → CExpr → Type 0
StoresWithin int touched F f e = (s : Store) (l : Locals) (y : CValue) → Holds s l F
    → with_meaning (meaning int s l e) (λ x. brought_to (slice_get s.fields f) x.value) ≡ Gives y
    → Same touched s (with_field s f y)

-- what is one of the first places is one of the second ones
abbrev pub Within : List Place → List Place → Type 0
Within few many = (q : Place) → is_touched few q ≡ true → is_touched many q ≡ true

module _ (P : Plan) where
  -- a function may be called in function p
  pub record MayCall (p : ℕ) (F : Facts) (f : ℕ) : Type 0 where
    pub begins : (s : Store) (l : Locals) → Holds s l F → Hold s (P.begins f)
    pub within : Within (P.touched f) (P.touched p)

  -- after x = f(..); those facts hold: what the function leaves, and what it doesn't change is as before
  abbrev pub AfterCall : Facts → CType → ℕ → ℕ → Facts → Type 0
  AfterCall F t i f G = (s after : Store) (l : Locals) (x y : CValue) → Holds s l F
      → Hold after (at (P.leaves f) (Some x.value)) → Same (P.touched f) s after → converted t x.value ≡ Gives y
      → Holds after (with_local l t i y.value) G

  -- each of these functions may be called, and then those facts hold
  abbrev pub EachCase : ℕ → Facts → CType → ℕ → Facts → List Case → Type 0
  EachCase p F t i G [] = Unit {0}
  EachCase p F t i G (x ∷ xs) = MayCall p F x.function × (AfterCall F t i x.function G × EachCase p F t i G xs)

-- ---- statements

module _ (int : Width) (P : Plan) (p : ℕ) (result : CType) where
  -- the second statements do what the first ones do wherever the facts before them hold, and where they fall through
  -- the facts after them hold
  pub data IsDecided : Facts → Block → Block → Facts → Type 0 where
    -- what no run comes to
    Unreached : (F G : Facts) (a a' : Block) → ((s : Store) (l : Locals) → Holds s l F → ⊥) → IsDecided F a a' G
    -- fewer facts after them
    Weakens : (F G H : Facts) (a a' : Block) → Implies G H → IsDecided F a a' G → IsDecided F a a' H
    Ends : (F : Facts) → IsDecided F End End F
    Sets : (F G H : Facts) (t : CType) (i : ℕ) (e : CExpr) (a a' : Block) → AfterSet int F t i e G
        → IsDecided G a a' H → IsDecided F (Set t i e a) (Set t i e a') H
    Stores : (F G H : Facts) (f : ℕ) (e : CExpr) (a a' : Block) → AfterStore int F f e G
        → StoresWithin int (P.touched p) F f e → IsDecided G a a' H
        → IsDecided F (PutField f e a) (PutField f e a') H
    -- of elements of arrays nothing is known
    StoresAt : (F G : Facts) (r : ℕ) (i e : CExpr) (a a' : Block) → IsDecided F a a' G
        → IsDecided F (StoreAt r i e a) (StoreAt r i e a') G
    Calls : (F G H : Facts) (t : CType) (i f : ℕ) (args : List CExpr) (a a' : Block) → MayCall P p F f
        → AfterCall P F t i f G → IsDecided G a a' H → IsDecided F (Call t i f args a) (Call t i f args a') H
    -- of several functions one is called, or none
    Selects : (F G H : Facts) (t : CType) (i : ℕ) (e : CExpr) (cases : List Case) (args : List CExpr) (a a' : Block)
        → EachCase P p F t i G cases → Implies F G → IsDecided G a a' H
        → IsDecided F (Select t i e cases args a) (Select t i e cases args a') H
    Asks : (F Y N G H : Facts) (e : CExpr) (a a' b b' c c' : Block) → AfterTest int F e true Y
        → AfterTest int F e false N → IsDecided Y a a' G → IsDecided N b b' G → IsDecided G c c' H
        → IsDecided F (If e a b c) (If e a' b' c') H
    -- a test that comes out so goes, with the statements of the other way
    TakesFirst : (F G H : Facts) (e : CExpr) (a a' b c c' : Block) → ComesOut int F e true → IsDecided F a a' G
        → IsDecided G c c' H → IsDecided F (If e a b c) (before a' c') H
    TakesSecond : (F G H : Facts) (e : CExpr) (a b b' c c' : Block) → ComesOut int F e false → IsDecided F b b' G
        → IsDecided G c c' H → IsDecided F (If e a b c) (before b' c') H
    -- facts that hold before and after each turn
    Loops : (F I Y N H : Facts) (e : CExpr) (a a' c c' : Block) → Implies F I → AfterTest int I e true Y
        → AfterTest int I e false N → IsDecided Y a a' I → IsDecided N c c' H
        → IsDecided F (While e a c) (While e a' c') H
    Returning : (F G : Facts) (e : CExpr)
        → ((s : Store) (l : Locals) (x y : CValue) → Holds s l F → meaning int s l e ≡ Gives x
        → converted result x.value ≡ Gives y → Hold s (at (P.leaves p) (Some y.value)))
        → IsDecided F (Return e) (Return e) G
