-- A chart with nested and parallel states, for a line of a trace that is worked by hand.
use Rattle.std.specs.Prelude.{ℕ, pos, negsuc, Bool, true, false, List, [], ◌∷◌, None, codes}
use Rattle.fixed_point.specs.declared.fitting.Mode.TheVariants.{Saturate}
use Rattle.fixed_point.specs.declared.scale.Scale.{Scale}
use Rattle.active_config.specs.declared.comp.Comp.TheVariants.{Leaf, Or, And}
use Rattle.active_config.specs.Marks.{Configuration}
use Rattle.active_config.specs.Tree.{Tree, tree_of}
use Rattle.actions.specs.Data.{Datum}
use Rattle.actions.specs.Names.{Names}
use Rattle.actions.specs.declared.names.EventKind.TheVariants as event_kinds
use Rattle.actions.specs.declared.names.Sort.{Sort}
use Rattle.actions.specs.declared.names.Sort.TheVariants as sorts
use Rattle.actions.specs.declared.names.Var.{Var}
use Rattle.actions.specs.declared.names.VarKind.TheVariants as kinds

-- C has the children W and Z, W is an AND of P and Q, and P an OR with the child A
abbrev pub sample_tree : Tree
sample_tree = tree_of (0 ∷ 0 ∷ 1 ∷ 2 ∷ 1 ∷ 0 ∷ []) (Or ∷ And ∷ Or ∷ Leaf ∷ Leaf ∷ Leaf ∷ [])

-- a datum that is 0 first
abbrev pub sample_var : List ℕ → Sort → Var
sample_var name sort = record { name = name; kind = kinds.Input; sort = sort; mode = Saturate; init = pos 0 }

-- what the chart declares, where x is of that scale
abbrev pub sample_names : Scale → Names
sample_names scale = record {
  states = codes "C" ∷ codes "W" ∷ codes "P" ∷ codes "A" ∷ codes "Q" ∷ codes "Z" ∷ [];
  vars = sample_var (codes "x") (sorts.Number scale) ∷ sample_var (codes "on") sorts.Flag ∷ [];
  events = record { name = codes "GO"; kind = event_kinds.Input } ∷ record { name = codes "pi"; kind = event_kinds.Output } ∷ [];
}

-- all states but Z are active
abbrev pub sample_marks : Configuration
sample_marks = record {
  flags = true ∷ true ∷ true ∷ true ∷ true ∷ false ∷ [];
  last = None ∷ None ∷ None ∷ None ∷ None ∷ None ∷ [];
}

-- x is -0.5 at a scale of 8 fraction bits, and on is true
abbrev pub sample_vals : Scale → List Datum
sample_vals scale =
    record { sort = sorts.Number scale; mode = Saturate; mantissa = negsuc 127 }
    ∷ record { sort = sorts.Flag; mode = Saturate; mantissa = pos 1 } ∷ []
