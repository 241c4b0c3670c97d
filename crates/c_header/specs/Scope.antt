-- The names that header and source give at file scope, where no two may be the same, and the one name that is replaced.
-- Each begins with the chart's name (c_names: Stems).
use Rattle.std.specs.Prelude.{◌≡◌, ℕ, ◌-◌, List, [], ◌∷◌, ◌++◌, length, map, codes}
use Rattle.std.specs.List.{range_with_len}
use Rattle.active_config.specs.Tree.{Tree, IsTree, state_count}
use Rattle.actions.specs.declared.names.EventDecl.{EventDecl}
use Rattle.actions.specs.declared.names.EventKind.{EventKind}
use Rattle.actions.specs.declared.names.EventKind.TheVariants as event_kinds
use Rattle.actions.specs.Names.{Names}
use Rattle.checked_chart.specs.Valid.{HasNames}
use Rattle.c_functions.specs.Plans.{Shape}
use Rattle.c_names.specs.Stems.{guard_of_chart, name_of_chart}
use Rattle.c_text.specs.Labels.{function_words}
use Rattle.c_header.specs.Paths.{state_label}

-- the names of a chart are those of a tree of states
pub record HasNamedTree (t : Tree) (n : Names) : Type 0 where
  pub tree : IsTree t
  pub size : length n.states ≡ state_count t
  pub names : HasNames t n

-- the word of an event that has a number in the header, before other words
abbrev pub event_word : EventKind → List ℕ → List (List ℕ) → List (List ℕ)
event_word event_kinds.Input name others = (codes "E_" ++ name) ∷ others
event_word event_kinds.Local name others = others
event_word event_kinds.Output name others = (codes "E_" ++ name) ∷ others

-- those of all events
abbrev pub event_words : List EventDecl → List (List ℕ)
event_words [] = []
event_words (e ∷ es) = event_word e.kind e.name (event_words es)

-- the word of the test of a state
abbrev pub test_word : Tree → Names → ℕ → List ℕ
test_word t n x = codes "in_" ++ state_label t n x

-- those of all states but the root
abbrev pub test_words : Tree → Names → List (List ℕ)
test_words t n = map (test_word t n) (range_with_len 1 (state_count t - 1))

-- the words that all files have: the struct, an event without a name, faults, bounds, for how many outputs and notes
-- there is room, how many functions are open, the sum of the chart, what tells the compiler that functions may call
-- themselves, the check of the source whether the header fits it, and the types of 128 bits
abbrev pub fixed_words : List (List ℕ)
fixed_words =
    codes "chart" ∷ codes "TICK" ∷ codes "FAULT_NONE" ∷ codes "FAULT_DEPTH" ∷ codes "FAULT_STEPS"
    ∷ codes "FAULT_OVERFLOW" ∷ codes "FAULT_ZERO" ∷ codes "FAULT_EVENT" ∷ codes "DEPTH" ∷ codes "STEPS"
    ∷ codes "OUTPUTS" ∷ codes "NOTES" ∷ codes "CALLS" ∷ codes "SUM_0" ∷ codes "SUM_1" ∷ codes "SUM_2" ∷ codes "SUM_3"
    ∷ codes "MAY_RECURSE" ∷ codes "header_fits" ∷ codes "int128" ∷ codes "uint128" ∷ []

-- the words of all names at file scope: of functions, and others
abbrev pub scope_words : Shape → List (List ℕ)
scope_words K = function_words K.procs ++ (fixed_words ++ (event_words K.names.events ++ test_words K.tree K.names))

-- the name that is replaced, and the others: the chart's name and a word
abbrev pub scope_labels : List ℕ → Shape → List (List ℕ)
scope_labels chart K = guard_of_chart chart ∷ map (name_of_chart chart) (scope_words K)
