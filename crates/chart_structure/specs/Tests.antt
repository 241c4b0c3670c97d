-- The rules of structure as tests that decide.
use Rattle.std.specs.Prelude.{◌≡◌, ◌≢◌, ◌||◌, ◌&&◌, not, ℕ, List, [], Bool, true, false, Option, Some, None}
use Rattle.std.specs.Prelude.{if◌then◌else◌}
use Rattle.token_grammar.specs.declared.token.Span.{Span}
use Rattle.active_config.specs.declared.comp.Comp.{Comp}
use Rattle.active_config.specs.declared.comp.Comp.TheVariants.{Leaf, Or, And}
use Rattle.active_config.specs.Tree.{children_of, is_below, is_at_or_below, is_or}
use Rattle.chart_tree.specs.declared.fault.FormKind.{FormKind}
use Rattle.chart_tree.specs.declared.fault.FormKind.TheVariants as kinds
use Rattle.chart_tree.specs.declared.first.FaultAt.{FaultAt}
use Rattle.chart_tree.specs.First.{at_place, kept}
use Rattle.checked_chart.specs.declared.parts.Dest.{Dest}
use Rattle.checked_chart.specs.declared.parts.Dest.TheVariants.{State, Junction}
use Rattle.checked_chart.specs.declared.parts.ListKind.{ListKind}
use Rattle.checked_chart.specs.declared.parts.ListKind.TheVariants.{Outer, Inner, Default}
use Rattle.checked_chart.specs.Homes.{home_of}
use Rattle.chart_structure.specs.declared.net.Arrow.{Arrow}
use Rattle.chart_structure.specs.Net.{Net, word_of, list_of}
use Rattle.chart_structure.specs.Structure.{Leads}

-- ---- destinations

-- what is wrong with a home of this composition
abbrev pub crossing : Comp → Option FormKind
crossing Leaf = Some kinds.CrossesRegions
crossing Or = None
crossing And = Some kinds.CrossesRegions

-- what is wrong with a state to which a list of s leads
abbrev pub dest_fault : Net → ℕ → ListKind → ℕ → Option FormKind
dest_fault n s Outer d = crossing (word_of n (home_of n.tree s Outer d))
dest_fault n s Inner d = if is_at_or_below n.tree d s then crossing (word_of n s) else Some kinds.InnerLeaves
dest_fault n s Default d = if is_below n.tree d s then None else Some kinds.DefaultLeaves

-- a transition of the list leads to the state, and that is wrong
pub record IsDestFault (n : Net) (s : ℕ) (kind : ListKind) (list : List Arrow) (a : Arrow) (d : ℕ) (wrong : FormKind)
    : Type 0 where
  pub leads : Leads list a d
  pub fault : dest_fault n s kind d ≡ Some wrong

-- the first fault, with one more where there is one
abbrev pub with_fault : Option FormKind → Span → Option FaultAt → Option FaultAt
with_fault None at first = first
with_fault (Some kind) at first = kept first (at_place kind at)

-- the first fault, with that of one destination
abbrev pub with_dest : Net → ℕ → ListKind → Dest → Span → Option FaultAt → Option FaultAt
with_dest n s kind (State d) at first = with_fault (dest_fault n s kind d) at first
with_dest n s kind (Junction j) at first = first

-- ---- compositions

-- whether a composition is a leaf
abbrev pub is_leaf : Comp → Bool
is_leaf Leaf = true
is_leaf Or = false
is_leaf And = false

-- what is wrong with the composition of a state, by four things: whether it is the root, its word, whether it has no
-- children, and whether it has no default list
abbrev pub comp_fault : Bool → Comp → Bool → Bool → Option FormKind
comp_fault root word true listless = if root || not (is_leaf word) then Some kinds.EmptyComposition else None
comp_fault root word false listless = if is_or word && listless then Some kinds.DefaultMissing else None

-- what is wrong with the composition of a state, as the rules say it
pub data IsCompFault (n : Net) (s : ℕ) : FormKind → Type 0 where
  WordAlone : word_of n s ≢ Leaf → children_of n.tree s ≡ [] → IsCompFault n s kinds.EmptyComposition
  NoStates : s ≡ 0 → children_of n.tree s ≡ [] → IsCompFault n s kinds.EmptyComposition
  NoDefault : word_of n s ≡ Or → children_of n.tree s ≢ [] → list_of n s Default ≡ []
      → IsCompFault n s kinds.DefaultMissing
