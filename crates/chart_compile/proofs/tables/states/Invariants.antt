use Rattle.std.proofs.Common.{◌≡◌, map, take}
use Rattle.flow_base.specs.Lists.{items_of}
use Rattle.code_language.specs.declared.code.RawState.{RawState}
use Rattle.chart_compile.proofs.tables.states.Given as goal

-- the states so far are copied
abbrev pub invariant-loop-state : goal.invariant-loop-state
invariant-loop-state l = record {
  parents : map (λ (s : RawState). s.parent) (items_of l.states) ≡ take l.state l.shape.parents;
  comps : map (λ (s : RawState). s.comp) (items_of l.states) ≡ take l.state l.shape.comps;
  names : map (λ (s : RawState). s.name) (items_of l.states) ≡ take l.state l.names;
}
