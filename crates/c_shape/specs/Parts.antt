-- What is known of the parts of what a file is written for.
use Rattle.std.specs.Prelude.{◌≡◌, ◌<◌, ◌≤◌, ℕ, List, length, map, slice_index}
use Rattle.flow_base.specs.declared.list.List.{List as Kept}
use Rattle.code_language.specs.Code.{instrs_of}
use Rattle.code_language.specs.Instrs as spec
use Rattle.code_language.specs.declared.instr.Instr.{Instr}
use Rattle.flow_base.specs.Lists.{items_of}
use Rattle.flow_base.specs.declared.chart_limits.TheConstants.{STATE_LIMIT, VARIABLE_LIMIT}
use Rattle.active_config.specs.Tree.{Tree, state_count}
use Rattle.actions.specs.declared.names.Names.{Names}
use Rattle.code_language.specs.declared.limits.TheConstants.{PROC_LIMIT}
use Rattle.c_functions.specs.Layout.{or_count, or_rank}

-- these are the ORs, and for each state the ORs before it are counted
pub record AreRanks (t : Tree) (ors : ℕ) (ranks : List ℕ) : Type 0 where
  pub ors_are : ors ≡ or_count t
  pub ors_few : ors ≤ state_count t
  pub ranks_length : length ranks ≡ state_count t
  pub ranks_are : (s : ℕ) → s < state_count t → slice_index ranks s ≡ or_rank t s
  pub ranks_low : (s : ℕ) → s < state_count t → slice_index ranks s ≤ state_count t

-- each state has a name, and there are not too many states, data and procedures
pub record AreParts (t : Tree) (names : Names) (procs : ℕ) : Type 0 where
  pub named : length (items_of names.states) ≡ state_count t
  pub states : state_count t ≤ STATE_LIMIT
  pub vars : length (items_of names.vars) ≤ VARIABLE_LIMIT
  pub procs_few : procs ≤ PROC_LIMIT

-- the procedures of code as it is written
abbrev pub procs_seen : List (Kept Instr) → List (List spec.Instr)
procs_seen procs = map (λ is. instrs_of (items_of is)) procs
