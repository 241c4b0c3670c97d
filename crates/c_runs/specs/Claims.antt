-- What is claimed of the file that is written for code.
use Rattle.std.specs.Prelude.{◌≡◌, ◌≤◌, ℕ, List, Option}
use Rattle.std.specs.List.{AllByRecursion}
use Rattle.flow_base.specs.declared.bounds.Bounds.{Bounds}
use Rattle.actions.specs.declared.expr.Value.{Value}
use Rattle.actions.specs.Runs.{EventWithInputs, Moment, AreInputValues}
use Rattle.checked_chart.specs.Chart.{Chart}
use Rattle.sos_rules.specs.Reactions.{RulesRun}
use Rattle.code_language.specs.Code.{Code}
use Rattle.code_language.specs.Reactions.{CodeRun}
use Rattle.code_language.specs.WellFormed.{IsCode}
use Rattle.code_shrink.specs.Shrunk.{KeepsResults}
use Rattle.chart_code.specs.Bodies.{code_of_chart}
use Rattle.c_subset.specs.declared.trees.Width.{Width}
use Rattle.c_subset.specs.Trees.{File}
use Rattle.c_subset.specs.Meaning.{bits, Store}
use Rattle.c_functions.specs.Statements.{Block}
use Rattle.c_functions.specs.Files.{shape_of}
use Rattle.c_functions.specs.Moments.{MayEndIn}
use Rattle.c_functions.specs.Plans.{Shape, Tests}
use Rattle.c_functions.specs.Inputs.{with_inputs}
use Rattle.c_functions.specs.Starts.{file_of, HasShape, AllGiven, RunsOn, Refuses}

-- Code is well formed, declares what a chart does, and has no results but those of the chart's code.
pub record FitsChart (c : Chart) (k : Code) : Type 0 where
  pub well_formed : IsCode k
  pub tree : k.tree ≡ c.tree
  pub names : k.names ≡ c.names
  pub results : KeepsResults (code_of_chart c).procedures k.procedures

-- the chart whose inputs have these first values, where one is given
abbrev pub with_first : List (Option Value) → Chart → Chart
with_first given c = record c { names = with_inputs given c.names }

-- Under the limits code runs as the chart does under its bounds, whatever first values inputs are given; no run is ended
-- by a bound that isn't tested, and there is room for what each event emits.
pub record Serves (c : Chart) (b : Bounds) (k : Code) (T : Tests) (limits : Bounds) (room : ℕ) : Type 0 where
  pub runs : (given : List (Option Value)) (events : List EventWithInputs) (moments : List Moment)
      → AreInputValues c.names 0 given → RulesRun (with_first given c) b events moments
      → CodeRun (record k { names = with_inputs given k.names }) limits events moments
  pub ends : (given : List (Option Value)) (events : List EventWithInputs) (moments : List Moment)
      → AreInputValues c.names 0 given → AllGiven c.names events → RulesRun (with_first given c) b events moments
      → AllByRecursion (MayEndIn T room) moments

-- A file with the struct of this shape runs as the rules say under these bounds, for widths of int up to 32 bits: from
-- every struct of its type, for all values that are given to inputs before the start and all events with inputs, the
-- start and the reactions show the moments of the chart that has these first values, and no call goes wrong. It refuses
-- what is no event, and a start where a run has begun.
pub record FileRunsAsRules (c : Chart) (b : Bounds) (K : Shape) (file : File) : Type 0 where
  pub runs : (int : Width) (s : Store) (given : List (Option Value)) (events : List EventWithInputs)
      (moments : List Moment) → bits int ≤ 32 → HasShape K s → AreInputValues c.names 0 given → AllGiven c.names events
      → RulesRun (with_first given c) b events moments → RunsOn K file int s given events moments
  pub refuses : (int : Width) → bits int ≤ 32 → Refuses K file int

-- The C of code, with these tests, limits and room for outputs, runs as the rules say under these bounds.
abbrev pub RunsAsRules : Chart → Bounds → Code → Tests → Bounds → ℕ → (ℕ → Block) → Type 0
RunsAsRules c b k T limits room bodies =
    FileRunsAsRules c b (shape_of k T limits room) (file_of k T limits room bodies)
