-- The text of code: the one spelling of what is written, in each format.
use Rattle.std.specs.Prelude.{◌≡◌, ℕ, Bool, true, false, List, [], ◌∷◌, ◌++◌, length, map, codes, decimal}
use Rattle.std.specs.List.{flat_map, AllByRecursion}
use Rattle.actions.specs.declared.names.EventDecl.{EventDecl}
use Rattle.actions.specs.declared.names.Var.{Var}
use Rattle.code_language.specs.declared.code.RawState.{RawState}
use Rattle.code_language.specs.Code.{Procedures}
use Rattle.code_language.specs.Instrs.{Instr}
use Rattle.code_fields.specs.Spelling.{IsNumber, IsVar, var_line, IsEvent, event_line}
use Rattle.code_lines.specs.declared.format.Format.{Format}
use Rattle.code_lines.specs.declared.format.Format.TheVariants as formats
use Rattle.code_lines.specs.Fields.{parent_stands}
use Rattle.code_lines.specs.Spelling.{HasParent, IsState, state_line, IsInstr, instr_line}
use Rattle.code_text.specs.Written.{Written}

-- the first line
abbrev pub version_line : Format → List ℕ
version_line formats.One = codes "flowcode 1"
version_line formats.Two = codes "flowcode 2"

-- the line of the count of states
abbrev pub states_line : ℕ → List ℕ
states_line n = codes "states " ++ decimal n

-- the line of the count of data
abbrev pub data_line : ℕ → List ℕ
data_line n = codes "data " ++ decimal n

-- the line of the count of events
abbrev pub events_line : ℕ → List ℕ
events_line n = codes "events " ++ decimal n

-- the line of the count of procedures, with those of the start and of a reaction
abbrev pub procs_line : ℕ → ℕ → ℕ → List ℕ
procs_line n start react =
    codes "procs " ++ (decimal n ++ (32 ∷ (decimal start ++ (32 ∷ decimal react))))

-- the head of a procedure: the count of its instructions
abbrev pub head_line : ℕ → List ℕ
head_line n = codes "p " ++ decimal n

-- the last line
abbrev pub end_line : List ℕ
end_line = codes "end"

-- the lines of a procedure
abbrev pub proc_lines : List Instr → List (List ℕ)
proc_lines is = head_line (length is) ∷ map instr_line is

-- the states under their count
abbrev pub states_part : List RawState → List (List ℕ)
states_part states = states_line (length states) ∷ map state_line states

-- the data under their count
abbrev pub vars_part : List Var → List (List ℕ)
vars_part vars = data_line (length vars) ∷ map var_line vars

-- the events under their count
abbrev pub events_part : List EventDecl → List (List ℕ)
events_part events = events_line (length events) ∷ map event_line events

-- the procedures under their count
abbrev pub procs_part : Procedures → List (List ℕ)
procs_part k = procs_line (length k.procs) k.start k.react ∷ flat_map proc_lines k.procs

-- the lines of code after the first, without their newlines
abbrev pub body_lines : Written → List (List ℕ)
body_lines w =
    states_part w.states ++ (vars_part w.vars ++ (events_part w.events ++ (procs_part w.procedures ++ end_line ∷ [])))

-- all lines
unfoldable pub code_lines : Format → Written → List (List ℕ)
code_lines format w = version_line format ∷ body_lines w

-- lines, each ended by a newline
abbrev pub text_of : List (List ℕ) → List ℕ
text_of [] = []
text_of (line ∷ lines) = line ++ (10 ∷ text_of lines)

-- the one spelling in a format
unfoldable pub code_text : Format → Written → List ℕ
code_text format w = text_of (code_lines format w)

-- ---- what has a spelling

-- a state whose parent has a number of a text
abbrev pub HasItsParent : RawState → Type 0
HasItsParent s = HasParent s.parent

-- a state that has a line, first or after others
abbrev pub StandsAt : Bool → RawState → Type 0
StandsAt first s = IsState s × (parent_stands first s.parent ≡ true)

-- the first state has no parent, and the others have one
abbrev pub AreStates : List RawState → Type 0
AreStates [] = Unit {0}
AreStates (root ∷ others) = StandsAt true root × AllByRecursion (StandsAt false) others

-- a procedure whose instructions have lines in the format
pub record IsProc (format : Format) (is : List Instr) : Type 0 where
  pub count : IsNumber (length is)
  pub instrs : AllByRecursion (IsInstr format) is

-- code with numbers, names and instructions of a text of that format
pub record IsSpellable (format : Format) (w : Written) : Type 0 where
  pub states : IsNumber (length w.states)
  pub vars : IsNumber (length w.vars)
  pub events : IsNumber (length w.events)
  pub procs : IsNumber (length w.procedures.procs)
  pub start : IsNumber w.procedures.start
  pub react : IsNumber w.procedures.react
  pub are_states : AreStates w.states
  pub are_vars : AllByRecursion IsVar w.vars
  pub are_events : AllByRecursion IsEvent w.events
  pub are_procs : AllByRecursion (IsProc format) w.procedures.procs
