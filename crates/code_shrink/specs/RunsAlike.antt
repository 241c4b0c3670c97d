-- When two codes run alike whatever they declare, and so whatever the first values of their data are.
use Rattle.std.specs.Prelude.{◌↔◌, List}
use Rattle.flow_base.specs.declared.bounds.Bounds.{Bounds}
use Rattle.actions.specs.Names.{Names}
use Rattle.actions.specs.Runs.{Moment, EventWithInputs}
use Rattle.code_language.specs.Code.{Code}
use Rattle.code_language.specs.Reactions.{CodeRun}

-- the code with other declarations
abbrev pub with_names : Names → Code → Code
with_names names k = record k { names = names }

-- Where both declare the same, whatever that is, the second code has the runs of the first one under these bounds and no
-- others, for all lists of events. Of the declarations a run takes the first values alone, with which its data begin.
abbrev pub RunAlike : Bounds → Code → Code → Type 0
RunAlike b k k' =
    (names : Names) (events : List EventWithInputs) (moments : List Moment)
    → CodeRun (with_names names k) b events moments ↔ CodeRun (with_names names k') b events moments
