-- Reading a text line by line: which line can stand where, and the first refusal.
use Rattle.std.specs.Prelude.{◌≡◌, ℕ, zero, suc, ◌+◌, ◌==◌, nat_eq, nat_lt, Bool, true, false, not, ◌&&◌}
use Rattle.std.specs.Prelude.{List, [], ◌∷◌, ◌++◌, length, Option, Some, None, option_map, option_and_then}
use Rattle.std.specs.Prelude.{Result, Ok, Err, if◌then◌else◌, codes}
use Rattle.std.specs.List.{starts_with}
use Rattle.std.specs.Str.{bytes_eq}
use Rattle.actions.specs.declared.names.EventDecl.{EventDecl}
use Rattle.actions.specs.declared.names.Var.{Var}
use Rattle.code_language.specs.declared.code.RawState.{RawState}
use Rattle.code_language.specs.Instrs.{Instr}
use Rattle.code_language.specs.WellFormed.{IsFirstFault}
use Rattle.code_fields.specs.Fields.{number_of, number_behind, behind, word_then, var_of, event_of}
use Rattle.code_lines.specs.declared.format.Format.{Format}
use Rattle.code_lines.specs.declared.format.Format.TheVariants as formats
use Rattle.code_lines.specs.Fields.{state_at, instr_in}
use Rattle.code_text.specs.declared.fault.CodeTextFault.{CodeTextFault}
use Rattle.code_text.specs.declared.fault.CodeTextFault.TheVariants as faults
use Rattle.code_text.specs.declared.expected.Expected.{Expected}
use Rattle.code_text.specs.declared.expected.Expected.TheVariants as expects
use Rattle.code_text.specs.declared.limits.TheConstants.{TEXT_LIMIT}
use Rattle.code_fields.specs.Lines.{cut_of}
use Rattle.code_text.specs.Spelling.{version_line, end_line}
use Rattle.code_text.specs.Written.{Written, code_written}

-- ---- lines of numbers

-- the count of procedures, and those of the start and of a reaction
pub record Procs : Type 0 where
  pub count : ℕ
  pub start : ℕ
  pub react : ℕ

-- from the last number on
abbrev pub procs_with : ℕ → ℕ → List ℕ → Option Procs
procs_with count start text =
    option_map (λ react. record { count = count; start = start; react = react }) (number_of text)

-- from the second number on
abbrev pub procs_after : ℕ → List ℕ → Option Procs
procs_after count text = word_then number_of (procs_with count) text

-- the three numbers of the line of procedures
unfoldable pub procs_of : List ℕ → Option Procs
procs_of line = option_and_then (word_then number_of procs_after) (behind (codes "procs ") line)

-- the format that the first line names
unfoldable pub format_of : List ℕ → Option Format
format_of line =
    if bytes_eq line (version_line formats.One) then Some formats.One else
    if bytes_eq line (version_line formats.Two) then Some formats.Two else
    None

-- ---- what was read

-- whole procedures, the instructions of one that isn't whole, and the line that is next
pub record Partial : Type 0 where
  pub format : Format
  pub states : List RawState
  pub vars : List Var
  pub events : List EventDecl
  pub start : ℕ
  pub react : ℕ
  pub procs : List (List Instr)
  pub instrs : List Instr
  pub expected : Expected

-- nothing was read
abbrev pub nothing_read : Partial
nothing_read =
    record {
      format = formats.Two;
      states = [];
      vars = [];
      events = [];
      start = 0;
      react = 0;
      procs = [];
      instrs = [];
      expected = expects.Version;
    }

-- the line that is expected where n states are still to come, the first of all among them
abbrev pub root_next : ℕ → Expected
root_next zero = expects.VarCount
root_next (suc n) = expects.Root n

-- the line that is expected where n states are still to come after the first
abbrev pub state_next : ℕ → Expected
state_next zero = expects.VarCount
state_next (suc n) = expects.State n

-- the line that is expected where n data are still to come
abbrev pub var_next : ℕ → Expected
var_next zero = expects.EventCount
var_next (suc n) = expects.Var n

-- the line that is expected where n events are still to come
abbrev pub event_next : ℕ → Expected
event_next zero = expects.ProcCount
event_next (suc n) = expects.Event n

-- the line that is expected where n procedures are still to come
abbrev pub head_next : ℕ → Expected
head_next zero = expects.End
head_next (suc n) = expects.Head n

-- with the format
abbrev pub with_format : Partial → Format → Partial
with_format p format = record p { format = format; expected = expects.StateCount }

-- with one more state, and more states to come after it
abbrev pub with_state : Partial → ℕ → RawState → Partial
with_state p more s = record p { states = p.states ++ s ∷ []; expected = state_next more }

-- with one more datum, and more data to come after it
abbrev pub with_var : Partial → ℕ → Var → Partial
with_var p more v = record p { vars = p.vars ++ v ∷ []; expected = var_next more }

-- with one more event, and more events to come after it
abbrev pub with_event : Partial → ℕ → EventDecl → Partial
with_event p more e = record p { events = p.events ++ e ∷ []; expected = event_next more }

-- with the three numbers of the procedures
abbrev pub with_procs : Partial → Procs → Partial
with_procs p three =
    record p { start = three.start; react = three.react; expected = head_next three.count }

-- with n instructions to come in the procedure, and procs procedures after it
abbrev pub instr_next : Partial → ℕ → ℕ → Partial
instr_next p zero procs =
    record p { procs = p.procs ++ p.instrs ∷ []; instrs = []; expected = head_next procs }
instr_next p (suc n) procs = record p { expected = expects.Instr n procs }

-- with one more instruction, more instructions to come after it, and procs procedures after its own
abbrev pub with_instr : Partial → ℕ → ℕ → Instr → Partial
with_instr p more procs i = instr_next (record p { instrs = p.instrs ++ i ∷ [] }) more procs

-- ---- the next line

-- what is read with the last line
abbrev pub last_line : List ℕ → Partial → Option Partial
last_line line p = if bytes_eq line end_line then Some (record p { expected = expects.Nothing }) else None

-- what is read with a line that stands where this one is expected
abbrev pub next_at : Expected → Partial → List ℕ → Option Partial
next_at expects.Version p line = option_map (with_format p) (format_of line)
next_at expects.StateCount p line =
    option_map (λ n. record p { expected = root_next n }) (number_behind (codes "states ") line)
next_at (expects.Root more) p line = option_map (with_state p more) (state_at true line)
next_at (expects.State more) p line = option_map (with_state p more) (state_at false line)
next_at expects.VarCount p line =
    option_map (λ n. record p { expected = var_next n }) (number_behind (codes "data ") line)
next_at (expects.Var more) p line = option_map (with_var p more) (var_of line)
next_at expects.EventCount p line =
    option_map (λ n. record p { expected = event_next n }) (number_behind (codes "events ") line)
next_at (expects.Event more) p line = option_map (with_event p more) (event_of line)
next_at expects.ProcCount p line = option_map (with_procs p) (procs_of line)
next_at (expects.Head more) p line =
    option_map (λ n. instr_next p n more) (number_behind (codes "p ") line)
next_at (expects.Instr more procs) p line =
    option_map (with_instr p more procs) (instr_in p.format line)
next_at expects.End p line = last_line line p
next_at expects.Nothing p line = None

-- what is read with one more line, and nothing where the line can't stand
unfoldable pub next : Partial → List ℕ → Option Partial
next p line = next_at p.expected p line

-- the line `end` was read
abbrev pub is_whole : Expected → Bool
is_whole expects.Version = false
is_whole expects.StateCount = false
is_whole (expects.Root more) = false
is_whole (expects.State more) = false
is_whole expects.VarCount = false
is_whole (expects.Var more) = false
is_whole expects.EventCount = false
is_whole (expects.Event more) = false
is_whole expects.ProcCount = false
is_whole (expects.Head more) = false
is_whole (expects.Instr more procs) = false
is_whole expects.End = false
is_whole expects.Nothing = true

-- why the line of that number can't stand
abbrev pub refusal : Expected → ℕ → List ℕ → CodeTextFault
refusal expected n line =
    if is_whole expected then faults.Trailing n else
    if nat_eq n 1 && starts_with nat_eq line (codes "flowcode ") then faults.Version else
    faults.BadLine n

-- ---- whole texts

-- what is written, where all was read
abbrev pub all_read : Partial → Written
all_read p =
    record {
      states = p.states;
      vars = p.vars;
      events = p.events;
      procedures = record { procs = p.procs; start = p.start; react = p.react };
    }

-- the outcome where no whole line is left: n is the number of the line that is not whole
abbrev pub at_end : Partial → ℕ → List ℕ → Result Written CodeTextFault
at_end p n rest =
    if not (is_whole p.expected) then Err faults.Truncated else
    if length rest == 0 then Ok (all_read p) else Err (faults.Trailing n)

-- what go gives for what is read, or the fault where nothing is read
abbrev pub or_refuse :
    Option Partial → CodeTextFault → (Partial → Result Written CodeTextFault)
    → Result Written CodeTextFault
or_refuse None fault go = Err fault
or_refuse (Some p) fault go = go p

-- the outcome of whole lines, the first of which has number n, and of what stands after them
abbrev pub outcome_from : Partial → ℕ → List (List ℕ) → List ℕ → Result Written CodeTextFault
outcome_from p n [] rest = at_end p n rest
outcome_from p n (line ∷ lines) rest =
    or_refuse (next p line) (refusal p.expected n line) (λ q. outcome_from q (n + 1) lines rest)

-- what the lines of a text spell, or the first fault
abbrev pub spelled : List ℕ → Result Written CodeTextFault
spelled text =
    if nat_lt TEXT_LIMIT (length text) then Err faults.TextTooLong else
    outcome_from nothing_read 1 (cut_of text).lines (cut_of text).rest

-- why a text isn't read as code: it spells none, or its code has this first fault; Memory is allowed for every text
abbrev pub IsCause : List ℕ → CodeTextFault → Type 0
IsCause text (faults.BadLine n) = spelled text ≡ Err (faults.BadLine n)
IsCause text faults.Truncated = spelled text ≡ Err faults.Truncated
IsCause text (faults.Trailing n) = spelled text ≡ Err (faults.Trailing n)
IsCause text faults.Version = spelled text ≡ Err faults.Version
IsCause text faults.TextTooLong = spelled text ≡ Err faults.TextTooLong
IsCause text (faults.Form fault) =
    (w : Written) × (spelled text ≡ Ok w) × IsFirstFault (code_written w) fault
IsCause text faults.Memory = Unit {0}
