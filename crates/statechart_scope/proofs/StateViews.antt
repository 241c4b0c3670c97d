-- A state of the code, part by part.
use Rattle.std.proofs.Common.{◌≡◌, refl, ap}
use Rattle.statechart_tree.specs.declared.state.SourceState.{SourceState, SourceState', out-SourceState, outs-SourceState'}
use Rattle.statechart_tree.specs.Trees.{Parts}
use Rattle.statechart_tree.specs.Views.{state_of, parts_of}
use Rattle.statechart_scope.specs.Frames.{parts_in}

-- what it has beside its child states
pub parts-seen : (s : SourceState) → parts_in (state_of s) ≡ parts_of (out-SourceState s).parts
parts-seen (SourceState' parts shape states) = rw (outs-SourceState' parts shape states) refl

-- its name
pub name-seen : (s : SourceState) → (parts_in (state_of s)).name ≡ (out-SourceState s).parts.name
name-seen s = ap (λ (p : Parts). p.name) (parts-seen s)
