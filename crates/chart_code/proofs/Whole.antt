-- In the procedures of a valid chart all that its lists and states need stands at its number.
use Rattle.std.proofs.Common.{◌≡◌, ◌↔◌, ℕ, ◌-◌, ◌<◌, List, length, refl, ◌∙◌, arith}
use Rattle.std.proofs.lemmas.List.{length-map}
use Rattle.flow_base.specs.declared.bounds.Bounds.{Bounds}
use Rattle.active_config.specs.Tree.{state_count}
use Rattle.actions.specs.Runs.{EventWithInputs, Moment}
use Rattle.checked_chart.specs.declared.parts.ListKind.{ListKind}
use Rattle.checked_chart.specs.Chart.{Chart, list_of, junction}
use Rattle.checked_chart.specs.Reached.{links_of, Reached}
use Rattle.checked_chart.specs.Valid.{IsValid}
use Rattle.sos_rules.specs.Reactions.{RulesRun}
use Rattle.code_language.specs.Code.{Procedures}
use Rattle.code_language.specs.Reactions.{CodeRun}
use Rattle.chart_code.specs.Compiled.{Compiled, EachAt, ListCompiled, ListsCompiled}
use Rattle.chart_code.specs.ListProcedures.{search_of}
use Rattle.chart_code.specs.Numbers.{Numbers, ListNumbers}
use Rattle.chart_code.proofs.Runs.{same_runs}
use Rattle.chart_code.specs.Keys.{EndMark, Entry, During, ExitAction, Leave, Exit, Arrive, ListOf, JunctionOf}
use Rattle.chart_code.specs.Keys.{Defaults, Take, Enter, Process, layout}
use Rattle.chart_code.specs.Places.{total, numbers, list_numbers}
use Rattle.chart_code.specs.Bodies.{body, procedures_of, code_of_chart}
use Rattle.chart_code.proofs.EndsLemmas.{path_range}
use Rattle.chart_code.proofs.ReachedLemmas.{reached_within, has_reached, list_valid}
use Rattle.chart_code.proofs.Sizes.{layout_length}
use Rattle.chart_code.proofs.PartStands.{list_parts_stand, junction_list_stands}
use Rattle.chart_code.proofs.StateStands.{end_mark_stands, entry_stands, during_stands, exit_action_stands}
use Rattle.chart_code.proofs.StateStands.{leave_stands, exit_stands, defaults_stand, processing_stands}
use Rattle.chart_code.proofs.StateStands.{take_stands, enter_stands, arrive_stands}
use Rattle.chart_code.proofs.ListStands.{body_stands, each_at, list_stands, junction_stands}

module _ (c : Chart) where
  abbrev N : Numbers
  N = numbers c

  abbrev M : ListNumbers
  M = list_numbers c

  abbrev K : Procedures
  K = procedures_of c

  -- ---- counts

  -- there are as many procedures as the layout has keys
  pub procedures_length : length K.procs ≡ total c
  unfolding procedures_of
  procedures_length = length-map (layout c) (body c) ∙ layout_length c

  -- processing comes last, the last state first
  pub process_number : (s : ℕ) → s < state_count c.tree → N.process s ≡ total c - 1 - s
  unfolding numbers total
  process_number s lt = omega arith

  -- ---- states

  module _ (valid : IsValid c) where
    -- the procedures of states stand at their numbers
    pub compiled : Compiled c K N
    unfolding procedures_of
    compiled = record {
      react = refl;
      start = refl;
      end_mark = body_stands c N.end_mark EndMark (end_mark_stands c);
      entry = λ s lt. body_stands c (N.entry s) (Entry s) (entry_stands c s lt);
      during = λ s lt. body_stands c (N.during s) (During s) (during_stands c s lt);
      exit_action = λ s lt. body_stands c (N.exit_action s) (ExitAction s) (exit_action_stands c s lt);
      leave = λ s lt. body_stands c (N.leave s) (Leave s) (leave_stands c s lt);
      exit = λ s lt. body_stands c (N.exit s) (Exit s) (exit_stands c s lt);
      enter = λ s d path.
          let range = path_range c.tree valid.tree s d path in
          body_stands c (N.enter s d) (Enter s d) (enter_stands c s path.state valid.tree d range.0 range.1);
      defaults = λ s lt. body_stands c (N.defaults s) (Defaults s) (defaults_stand c s lt);
      arrive = λ s d path.
          let range = path_range c.tree valid.tree s d path in
          body_stands c (N.arrive s d) (Arrive s d) (arrive_stands c s path.state valid.tree d range.0 range.1);
      take = λ s d path.
          let range = path_range c.tree valid.tree s d path in
          body_stands c (N.take s d) (Take s d) (take_stands c s path.state valid.tree d range.0 range.1);
      process = λ s lt. body_stands c (N.process s) (Process s) (processing_stands c s lt);
    }

    -- ---- lists

    -- the parts of the transitions of a list stand at their numbers
    list_parts : (s : ℕ) (kind : ListKind) → s < state_count c.tree
        → EachAt K N (search_of N M c.tree s kind) (list_of c s kind) (M.parts s kind)
    list_parts s kind lt =
        each_at c (search_of N M c.tree s kind) (list_of c s kind) (M.parts s kind) (list_parts_stand c s kind lt)

    -- those of a junction that is reached from it
    junction_parts : (s : ℕ) (kind : ListKind) (j : ℕ) → Reached (links_of c) (list_of c s kind) j
        → EachAt K N (search_of N M c.tree s kind) (junction c j) (M.junction_parts j)
    junction_parts s kind j r =
        each_at c (search_of N M c.tree s kind) (junction c j) (M.junction_parts j)
        (junction_list_stands c j (reached_within c valid (list_of c s kind) (list_valid c valid s kind) j r))

    -- the procedures of a list stand at their numbers
    list_compiled : (s : ℕ) (kind : ListKind) → s < state_count c.tree
        → ListCompiled c K N M s kind (search_of N M c.tree s kind)
    list_compiled s kind lt = record {
      list = body_stands c (N.search s kind) (ListOf s kind) (list_stands c s kind lt);
      parts = list_parts s kind lt;
      junctions = λ j r. body_stands c (M.junction s kind j) (JunctionOf s kind j)
          (junction_stands c s kind lt j (has_reached c valid (list_of c s kind) (list_valid c valid s kind) j r));
      junction_parts = λ j r. junction_parts s kind j r;
    }

    -- those of all lists do
    pub lists_compiled : ListsCompiled c K N M
    lists_compiled = record { by = list_compiled }

    -- ---- runs

    -- the code has the runs of the chart
    pub code_runs : (b : Bounds) (events : List EventWithInputs) (moments : List Moment)
        → RulesRun c b events moments ↔ CodeRun (code_of_chart c) b events moments
    unfolding code_of_chart
    code_runs b events moments =
        same_runs c (code_of_chart c) N M valid refl refl compiled lists_compiled b events moments
