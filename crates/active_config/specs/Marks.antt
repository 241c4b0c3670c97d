-- The active configuration: the states that are active, and the child that each OR remembers.
use Rattle.std.specs.Prelude.{◌≡◌, ◌==◌, ◌&&◌, ℕ, ◌-◌, List, length, replicate, Option}
use Rattle.std.specs.Prelude.{Some, None, Bool, true, false, not, slice_index_or, slice_set}
use Rattle.std.specs.List.{find, list_any, range_with_len}
use Rattle.std.specs.Option.{option_map_or}
use Rattle.active_config.specs.declared.comp.Comp.{Comp}
use Rattle.active_config.specs.declared.comp.Comp.TheVariants.{Leaf, Or, And}
use Rattle.active_config.specs.Tree.{Tree, state_count, parent_of, comp_of, children_of}

-- for each state a flag that says whether it is active, and the child that it remembers, if any
pub record Configuration : Type 0 where
  pub flags : List Bool
  pub last : List (Option ℕ)

-- how many states have a flag
unfoldable pub mark_count : Configuration → ℕ
mark_count marks = length marks.flags

-- whether a state is active
unfoldable pub is_on : ℕ → Configuration → Bool
is_on s marks = slice_index_or marks.flags s false

-- active, and none of its children is
unfoldable pub is_bare : Tree → ℕ → Configuration → Bool
is_bare t s marks = is_on s marks && not (list_any (λ x. is_on x marks) (children_of t s))

-- the first active child of a state, if there is one
unfoldable pub active_child : Tree → ℕ → Configuration → Option ℕ
active_child t s marks = find (λ x. is_on x marks) (children_of t s)

-- the first active state from a number on, if there is one
unfoldable pub next_on : ℕ → Configuration → Option ℕ
next_on from marks = find (λ x. is_on x marks) (range_with_len from (mark_count marks - from))

-- no state is active, and none remembers a child
unfoldable pub no_marks : Tree → Configuration
no_marks t = record { flags = replicate (state_count t) false; last = replicate (state_count t) None }

-- that state becomes active or inactive, and all else stays
unfoldable pub with_mark : ℕ → Bool → Configuration → Configuration
with_mark s on marks = record marks { flags = slice_set marks.flags s on }

-- whether a state with this composition may get one more active child: an OR where it is bare, every other state where
-- it is active
abbrev pub takes_child : Tree → ℕ → Comp → Configuration → Bool
takes_child t s Leaf marks = is_on s marks
takes_child t s Or marks = is_bare t s marks
takes_child t s And marks = is_on s marks

-- whether a parent may get one more active child; for the root, which has no parent, it is true
abbrev pub parent_takes_child : Tree → Option ℕ → Configuration → Bool
parent_takes_child t None marks = true
parent_takes_child t (Some p) marks = takes_child t p (comp_of t p) marks

-- whether a state can be marked: it isn't active, its parent is or it has none, and a parent that is an OR is bare
unfoldable pub can_mark : Tree → ℕ → Configuration → Bool
can_mark t s marks = not (is_on s marks) && parent_takes_child t (parent_of t s) marks

-- the child that a state remembers, if any
unfoldable pub last_of : ℕ → Configuration → Option ℕ
last_of p marks = slice_index_or marks.last p None

-- the remembered children, where the parent of s, if there is one, now remembers s
abbrev pub remember : Option ℕ → ℕ → List (Option ℕ) → List (Option ℕ)
remember None s last = last
remember (Some p) s last = slice_set last p (Some s)

-- s becomes the child that its parent remembers, and all else stays
unfoldable pub with_last : Tree → ℕ → Configuration → Configuration
with_last t s marks = record marks { last = remember (parent_of t s) s marks.last }

-- whether a remembered child, if there is one, is x
abbrev pub is_this : Option ℕ → ℕ → Bool
is_this None x = false
is_this (Some y) x = y == x

-- whether x is the child that its parent remembers
unfoldable pub is_last : Tree → ℕ → Configuration → Bool
is_last t x marks = option_map_or (λ p. is_this (last_of p marks) x) (parent_of t x) false

-- There is a flag and an entry for each state, each active state but the root has an active parent, an OR has at most
-- one active child, and what is remembered is a child of an OR.
pub record IsConsistent (t : Tree) (marks : Configuration) : Type 0 where
  pub sized : mark_count marks ≡ state_count t
  pub parents : (s p : ℕ) → parent_of t s ≡ Some p → is_on s marks ≡ true → is_on p marks ≡ true
  pub single : (p x y : ℕ) → comp_of t p ≡ Or → parent_of t x ≡ Some p → parent_of t y ≡ Some p
      → is_on x marks ≡ true → is_on y marks ≡ true → x ≡ y
  pub entries : length marks.last ≡ state_count t
  pub lasts : (p x : ℕ) → last_of p marks ≡ Some x → (comp_of t p ≡ Or) × (parent_of t x ≡ Some p)
