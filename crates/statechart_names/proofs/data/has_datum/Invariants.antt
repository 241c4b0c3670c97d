use Rattle.std.proofs.Common.{◌≡◌, drop, is_some}
use Rattle.flow_base.specs.Names.{index_of}
use Rattle.statechart_names.specs.Seen.{lowest_names}
use Rattle.statechart_names.proofs.DatumLemmas.{var_names}
use Rattle.statechart_names.proofs.data.has_datum.Given as goal

-- what is left of the data gives what all give
abbrev pub invariant-loop-var : goal.invariant-loop-var
invariant-loop-var l =
    is_some (index_of l.name (var_names (drop l.var-index l.vars))) ≡ is_some (index_of l.name (lowest_names l.frames))
