-- Words for the part of a chart that a procedure is of.
use Rattle.std.specs.Prelude.{ℕ, zero, suc, ◌+◌, nat_eq, List, [], ◌++◌, codes, decimal, if◌then◌else◌}
use Rattle.active_config.specs.Tree.{Tree}
use Rattle.actions.specs.Names.{Names}
use Rattle.checked_chart.specs.declared.parts.BlockKind.{BlockKind}
use Rattle.checked_chart.specs.declared.parts.BlockKind.TheVariants.{Entry, During, Exit}
use Rattle.checked_chart.specs.declared.parts.ListKind.{ListKind}
use Rattle.checked_chart.specs.declared.parts.ListKind.TheVariants.{Outer, Inner, Default}
use Rattle.trace_text.specs.Trace.{path_of}
use Rattle.chart_parts.specs.declared.part.Owner.{Owner}
use Rattle.chart_parts.specs.declared.part.Owner.TheVariants as owners
use Rattle.chart_parts.specs.declared.part.Part.{Part}
use Rattle.chart_parts.specs.declared.part.Part.TheVariants as parts
use Rattle.chart_parts.specs.declared.part.Toward.{Toward}
use Rattle.chart_parts.specs.declared.part.Toward.TheVariants.{Arrive, Take, Enter}
use Rattle.chart_parts.specs.declared.part.TransPart.{TransPart}
use Rattle.chart_parts.specs.declared.part.TransPart.TheVariants.{Guard, ConditionOn, ConditionBare, Action}

-- an action of a state
abbrev pub block_words : BlockKind → List ℕ
block_words Entry = codes "entry action of "
block_words During = codes "during action of "
block_words Exit = codes "exit action of "

-- a list of a state
abbrev pub list_words : ListKind → List ℕ
list_words Outer = codes "the outer list of "
list_words Inner = codes "the inner list of "
list_words Default = codes "the default list of "

-- a part of a transition
abbrev pub trans_words : TransPart → List ℕ
trans_words Guard = codes "guard of transition "
trans_words ConditionOn = codes "condition action of transition "
trans_words ConditionBare = codes "condition action of transition "
trans_words Action = codes "transition action of transition "

-- how long a condition action goes on: its state is the one in whose list the search began
abbrev pub while_words : TransPart → List ℕ
while_words Guard = []
while_words ConditionOn = codes ", while its state is active"
while_words ConditionBare = codes ", while its state is bare"
while_words Action = []

-- what is done in a state on the way to another
abbrev pub way_words : Toward → List ℕ
way_words Arrive = codes "arriving in "
way_words Take = codes "taking a firing in "
way_words Enter = codes "entering "

module _ (t : Tree) (n : Names) where
  -- a state by its path, the root as the chart
  abbrev pub state_words : ℕ → List ℕ
  state_words zero = codes "the chart"
  state_words (suc s) = path_of t n (suc s)

  -- where a transition stands; the first junction is 1
  abbrev pub owner_words : Owner → List ℕ
  owner_words (owners.State s kind) = list_words kind ++ state_words s
  owner_words (owners.Junction j) = codes "junction " ++ decimal (j + 1)

  -- the state to which the way leads, where that is another one
  abbrev pub toward_words : ℕ → ℕ → List ℕ
  toward_words s d = if nat_eq s d then [] else codes " on the way to " ++ state_words d

  -- a part, in one line; the first transition of a list is 1
  unfoldable pub part_text : Part → List ℕ
  part_text parts.EndMark = codes "end of a search at an empty junction"
  part_text (parts.Block s kind) = block_words kind ++ state_words s
  part_text (parts.Transition part o i) =
      trans_words part ++ (decimal (i + 1) ++ (codes " of " ++ (owner_words o ++ while_words part)))
  part_text (parts.Leave s) = codes "leaving the children of " ++ state_words s
  part_text (parts.Exit s) = codes "leaving " ++ state_words s
  part_text (parts.Way way s d) = way_words way ++ (state_words s ++ toward_words s d)
  part_text (parts.Search s kind) = codes "search of " ++ (list_words kind ++ state_words s)
  part_text (parts.Junction s kind j) =
      codes "search of junction " ++ (decimal (j + 1) ++ (codes " from " ++ (list_words kind ++ state_words s)))
  part_text (parts.Defaults s) = codes "entering a child of " ++ (state_words s ++ codes " by default")
  part_text (parts.Process s) = codes "processing " ++ state_words s
