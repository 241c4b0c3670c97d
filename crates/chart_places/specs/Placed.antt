-- The states and junctions of a chart text, by number.
use Rattle.std.specs.Prelude.{◌+◌, ◌==◌, ◌&&◌, ◌||◌, ℕ, suc, nat_lt, Bool, true, false, List}
use Rattle.std.specs.Prelude.{[], ◌∷◌, ◌++◌, length, map, Option, Some, None, if◌then◌else◌}
use Rattle.token_grammar.specs.declared.token.Span.{Span}
use Rattle.active_config.specs.declared.comp.Comp.{Comp}
use Rattle.active_config.specs.declared.comp.Comp.TheVariants as comps
use Rattle.active_config.specs.Tree.{Tree}
use Rattle.chart_tree.specs.declared.state.CompText.{CompText}
use Rattle.chart_tree.specs.declared.state.CompText.TheVariants as words
use Rattle.chart_tree.specs.Trees.{Junction, Parts, State, StateOf, States, NoState, MoreStates}

-- ---- states

-- a state: its parent, if it has one, what stands in it, and whether it has child states
pub record Placed : Type 0 where
  pub parent : Option ℕ
  pub parts : Parts
  pub has_children : Bool

-- whether there is a state
abbrev pub is_any : States → Bool
is_any NoState = false
is_any (MoreStates s rest) = true

abbrev mutual
  -- a state and those below it in pre-order, where the next number is n
  pub placed_from : Option ℕ → ℕ → State → List Placed
  placed_from parent n (StateOf parts below) =
      record { parent = parent; parts = parts; has_children = is_any below } ∷ placed_below n (suc n) below

  -- child states of the state of number s and those below them in pre-order, where the next number is n
  pub placed_below : ℕ → ℕ → States → List Placed
  placed_below s n NoState = []
  placed_below s n (MoreStates x rest) =
      placed_from (Some s) n x ++ placed_below s (n + length (placed_from (Some s) n x)) rest

-- the states of a chart text in pre-order, the root first
unfoldable pub placed_states : State → List Placed
placed_states root = placed_from None 0 root

-- the composition that a word names
abbrev pub word_comp : CompText → Comp
word_comp words.None = comps.Leaf
word_comp words.Or = comps.Or
word_comp words.And = comps.And

-- the composition of a state with children: an OR where no word stands
abbrev pub parent_comp : CompText → Comp
parent_comp words.None = comps.Or
parent_comp words.Or = comps.Or
parent_comp words.And = comps.And

-- the composition of a state: without children it is a leaf, whatever its word
abbrev pub placed_comp : Placed → Comp
placed_comp p = if p.has_children then parent_comp p.parts.comp else comps.Leaf

-- the composition word of a state: that of its composition where it has children, and else the word that stands there
abbrev pub placed_word : Placed → Comp
placed_word p = if p.has_children then parent_comp p.parts.comp else word_comp p.parts.comp

-- the tree of the states
unfoldable pub placed_tree : List Placed → Tree
placed_tree states = record { parents = map (λ (p : Placed). p.parent) states; comps = map placed_comp states }

-- ---- junctions

-- a junction, and the state in which it stands
pub record Owned : Type 0 where
  pub owner : ℕ
  pub junction : Junction

-- the junctions of a state
abbrev pub owned_by : ℕ → List Junction → List Owned
owned_by s js = map (λ (j : Junction). record { owner = s; junction = j }) js

-- the junctions of states, the first of which has number s
abbrev pub owned_from : ℕ → List Placed → List Owned
owned_from s [] = []
owned_from s (p ∷ ps) = owned_by s p.parts.junctions ++ owned_from (suc s) ps

-- whether a place is before another one
abbrev pub is_earlier : Span → Span → Bool
is_earlier a b = nat_lt a.line b.line || ((a.line == b.line) && nat_lt a.column b.column)

-- a junction is put before the first one whose name stands after its own name
abbrev pub inserted : Owned → List Owned → List Owned
inserted o [] = o ∷ []
inserted o (x ∷ xs) = if is_earlier o.junction.name.at x.junction.name.at then o ∷ (x ∷ xs) else x ∷ inserted o xs

-- junctions, and further ones among them by the places of their names
abbrev pub in_text_order : List Owned → List Owned → List Owned
in_text_order done [] = done
in_text_order done (o ∷ os) = in_text_order (inserted o done) os

-- the junctions of a chart text, in the order in which their names stand in it
unfoldable pub placed_junctions : List Placed → List Owned
placed_junctions states = in_text_order [] (owned_from 0 states)
