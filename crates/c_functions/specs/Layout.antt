-- Where the states of a chart stand in the struct, and the tests of states as C.
use Rattle.std.specs.Prelude.{◌≡◌, ℕ, ◌<◌, ◌^◌, pos, Bool, true, false, List, [], ◌∷◌, Option, Some, None}
use Rattle.std.specs.Prelude.{if◌then◌else◌}
use Rattle.std.specs.Prelude.{◌+◌, ◌-◌, ◌/◌, ◌%◌, ◌≢◌, slice_get, slice_index_or, take, count_by}
use Rattle.std.specs.Int.{bit_at}
use Rattle.active_config.specs.Tree.{Tree, state_count, parent_of, comp_of, children_of, is_or}
use Rattle.c_subset.specs.Trees.{CExpr, Const}
use Rattle.c_subset.specs.declared.trees.Width.{Width}
use Rattle.c_subset.specs.declared.trees.Width.TheVariants.{W16, W32}
use Rattle.c_subset.specs.declared.trees.CType.TheVariants.{Unsigned}
use Rattle.c_subset.specs.declared.trees.Bitwise.TheVariants.{BitAnd, BitOr}
use Rattle.c_subset.specs.declared.trees.Comparison.TheVariants.{IsEqual, IsUnequal}
use Rattle.c_subset.specs.Trees.{Field, Bang, Bits, Compare, Both}
use Rattle.c_subset.specs.Trees.{Block, Store as PutField}
use Rattle.c_subset.specs.Meaning.{bits, CValue, Object, Store, Locals}
use Rattle.c_subset.specs.Running.{Calls, with_field, outcome}
use Rattle.c_functions.specs.States.{States, or_parent}

-- the width of the numbers of children; for each OR the fields of its active child's number and of that which it
-- remembers; for each other state the word of 32 bits that has its bit, and which bit
pub record Layout : Type 0 where
  pub numbers : Width
  pub chosen : ℕ → ℕ
  pub kept : ℕ → ℕ
  pub word : ℕ → ℕ
  pub bit : ℕ → ℕ

-- ---- what the struct holds

-- a field with a number of a child
abbrev pub number_object : Layout → ℕ → Object
number_object L i = record { type = Unsigned L.numbers; value = Some (pos i) }

-- a word of flags, in which a bit is set or not
pub record HasBit (s : Store) (field bit : ℕ) (is_set : Bool) : Type 0 where
  pub word : ℕ
  pub there : slice_get s.fields field ≡ Some (record { type = Unsigned W32; value = Some (pos word) })
  pub small : word < 2 ^ 32
  pub bit_is : bit_at word bit ≡ (if is_set then 1 else 0)

-- a state whose parent is no OR
abbrev pub HasFlag : Tree → ℕ → Type 0
HasFlag t x = (x < state_count t) × (or_parent t (parent_of t x) ≡ None)

-- numbers of children are values of their type, and bits are bits of words; no two of what is there stand in one place
pub record IsLayout (t : Tree) (n : ℕ → ℕ) (L : Layout) : Type 0 where
  pub numbers : (x : ℕ) → x < state_count t → n x < 2 ^ bits L.numbers
  pub bits_are : (x : ℕ) → L.bit x < 32
  pub chosen_apart : (p q : ℕ) → is_or (comp_of t p) ≡ true → is_or (comp_of t q) ≡ true
      → L.chosen p ≡ L.chosen q → p ≡ q
  pub kept_apart : (p q : ℕ) → is_or (comp_of t p) ≡ true → is_or (comp_of t q) ≡ true → L.kept p ≡ L.kept q → p ≡ q
  pub kept_chosen : (p q : ℕ) → is_or (comp_of t p) ≡ true → is_or (comp_of t q) ≡ true → L.kept p ≢ L.chosen q
  pub word_chosen : (x p : ℕ) → HasFlag t x → is_or (comp_of t p) ≡ true → L.word x ≢ L.chosen p
  pub word_kept : (x p : ℕ) → HasFlag t x → is_or (comp_of t p) ≡ true → L.word x ≢ L.kept p
  pub bits_apart : (x y : ℕ) → HasFlag t x → HasFlag t y → L.word x ≡ L.word y → L.bit x ≡ L.bit y → x ≡ y

-- the struct holds the fields of states
pub record HoldsStates (t : Tree) (L : Layout) (st : States) (s : Store) : Type 0 where
  pub chosen : (p : ℕ) → is_or (comp_of t p) ≡ true
      → slice_get s.fields (L.chosen p) ≡ Some (number_object L (slice_index_or st.chosen p 0))
  pub chosen_small : (p : ℕ) → is_or (comp_of t p) ≡ true → slice_index_or st.chosen p 0 < 2 ^ bits L.numbers
  pub kept : (p : ℕ) → is_or (comp_of t p) ≡ true
      → slice_get s.fields (L.kept p) ≡ Some (number_object L (slice_index_or st.kept p 0))
  pub kept_small : (p : ℕ) → is_or (comp_of t p) ≡ true → slice_index_or st.kept p 0 < 2 ^ bits L.numbers
  pub flags : (x : ℕ) → x < state_count t → or_parent t (parent_of t x) ≡ None
      → HasBit s (L.word x) (L.bit x) (slice_index_or st.flags x false)

-- how many ORs there are
unfoldable pub or_count : Tree → ℕ
or_count t = count_by is_or t.comps

-- how many ORs have a number below that of a state
unfoldable pub or_rank : Tree → ℕ → ℕ
or_rank t p = count_by is_or (take p t.comps)

-- The layout of a tree after so many fields. For each OR comes the number of its active child, then for each OR that
-- of the child that it remembers, both in the order of the ORs; then a word for every 32 states.
abbrev pub layout_after : Tree → ℕ → Layout
layout_after t fields = record {
  numbers = W16;
  chosen = λ p. fields + or_rank t p;
  kept = λ p. fields + or_count t + or_rank t p;
  word = λ x. fields + or_count t + or_count t + x / 32;
  bit = λ x. x % 32;
}

-- ---- tests

-- m->f == i
abbrev pub number_test : Layout → ℕ → ℕ → CExpr
number_test L f i = Compare IsEqual (Field f) (Const (Unsigned L.numbers) (pos i))

-- (m->aK & BIT) != 0
abbrev pub bit_test : Layout → ℕ → CExpr
bit_test L x =
    Compare IsUnequal (Bits BitAnd (Field (L.word x)) (Const (Unsigned W32) (pos (2 ^ L.bit x))))
    (Const (Unsigned W32) (pos 0))

-- a state is active: under an OR by the number of its active child, else by its bit
abbrev pub on_by_c : Layout → (ℕ → ℕ) → ℕ → Option ℕ → CExpr
on_by_c L n x None = bit_test L x
on_by_c L n x (Some p) = number_test L (L.chosen p) (n x)

-- the test that a state of the tree is active
unfoldable pub on_c : Tree → Layout → (ℕ → ℕ) → ℕ → CExpr
on_c t L n x = on_by_c L n x (or_parent t (parent_of t x))

-- e && !x && !y: a test holds, and no bit of these states is set. The first operand of each && is the one before it,
-- which is written without parentheses.
abbrev pub and_no_bits : Layout → CExpr → List ℕ → CExpr
and_no_bits L e [] = e
and_no_bits L e (x ∷ xs) = and_no_bits L (Both e (Bang (bit_test L x))) xs

-- a test holds, and no child of a state is active: the number of an OR is 0, and else no bit of a child is set
abbrev pub and_childless_c : Tree → Layout → ℕ → CExpr → Bool → CExpr
and_childless_c t L x e true = Both e (number_test L (L.chosen x) 0)
and_childless_c t L x e false = and_no_bits L e (children_of t x)

-- a state is active and none of its children is
unfoldable pub bare_c : Tree → Layout → (ℕ → ℕ) → ℕ → CExpr
bare_c t L n x = and_childless_c t L x (on_c t L n x) (is_or (comp_of t x))

-- an OR remembers a state
abbrev pub last_c : Layout → (ℕ → ℕ) → ℕ → ℕ → CExpr
last_c L n p x = number_test L (L.kept p) (n x)

-- ---- changes, each before other statements

-- m->f = i;
abbrev pub put_number : Layout → ℕ → ℕ → Block → Block
put_number L f i rest = PutField f (Const (Unsigned L.numbers) (pos i)) rest

-- m->aK = m->aK | BIT; or m->aK = m->aK & REST;
abbrev pub put_bit : Layout → ℕ → Bool → Block → Block
put_bit L x true rest =
    PutField (L.word x) (Bits BitOr (Field (L.word x)) (Const (Unsigned W32) (pos (2 ^ L.bit x)))) rest
put_bit L x false rest =
    PutField (L.word x) (Bits BitAnd (Field (L.word x)) (Const (Unsigned W32) (pos (2 ^ 32 - 1 - 2 ^ L.bit x)))) rest

-- the statements go on with another value in that field, and then the struct holds these fields of states
pub record Changes (int : Width) (calls : Calls) (k : ℕ) (t : Tree) (L : Layout) (st : States) (field : ℕ)
    (written rest : Block) (s : Store) (l : Locals) : Type 0 where
  pub value : CValue
  pub goes : outcome int calls k written s l ≡ outcome int calls k rest (with_field s field value) l
  pub holds : HoldsStates t L st (with_field s field value)
