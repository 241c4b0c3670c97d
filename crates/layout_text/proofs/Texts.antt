-- The bytes of procedures and of texts.
use Rattle.std.proofs.Common.{◌≡◌, ℕ, ◌+◌, ◌≤◌, List, [], ◌∷◌, ◌++◌, length, map, flat_map, codes, decimal}
use Rattle.std.proofs.Common.{refl, ap, arith, length-append}
use Rattle.std.specs.List.{AllByRecursion}
use Rattle.code_language.specs.Instrs.{Instr}
use Rattle.code_fields.specs.Spelling.{IsNumber, var_line, event_line}
use Rattle.code_lines.specs.declared.format.Format.{Format}
use Rattle.code_lines.specs.declared.format.Format.TheVariants as formats
use Rattle.code_lines.specs.Spelling.{instr_line, state_line, IsInstr}
use Rattle.code_text.specs.Spelling.{version_line, head_line, procs_line, proc_lines, states_part, vars_part}
use Rattle.code_text.specs.Spelling.{events_part}
use Rattle.code_text.specs.Spelling.{procs_part, end_line, body_lines, text_of, code_text, IsProc, IsSpellable}
use Rattle.code_text.specs.Written.{Written}
use Rattle.code_text.proofs.TextLemmas.{text_of-append, code_text-first, body_parts}
use Rattle.layout_text.specs.Sizes.{lines_limit, proc_limit, procs_limit, text_limit}
use Rattle.layout_text.proofs.Lines.{number_size, instr_size}
use Rattle.layout_text.proofs.Tables.{states_size, vars_size, events_size}

-- ---- procedures

-- the lines of instructions
lines_size : (format : Format) (is : List Instr) → AllByRecursion (IsInstr format) is
    → length (text_of (map instr_line is)) ≤ lines_limit is
lines_size format [] h = omega arith
lines_size format (x ∷ is) h =
    omega (
      arith,
      length-append (instr_line x) (10 ∷ text_of (map instr_line is)),
      instr_size format x h.0,
      lines_size format is h.1,
    )

-- those of a procedure
proc_size : (format : Format) (is : List Instr) → IsProc format is → length (text_of (proc_lines is)) ≤ proc_limit is
proc_size format is h =
    omega (
      arith,
      length-append (head_line (length is)) (10 ∷ text_of (map instr_line is)),
      length-append (codes "p ") (decimal (length is)),
      number_size (length is) h.count,
      lines_size format is h.instrs,
    )

-- those of all procedures
procs_size : (format : Format) (procs : List (List Instr)) → AllByRecursion (IsProc format) procs
    → length (text_of (flat_map proc_lines procs)) ≤ procs_limit procs
procs_size format [] h = omega arith
procs_size format (is ∷ procs) h =
    let lines = proc_lines is in
    let others = flat_map proc_lines procs in
    omega (
      arith,
      ap length (text_of-append lines others),
      length-append (text_of lines) (text_of others),
      proc_size format is h.0,
      procs_size format procs h.1,
    )

-- ---- lines of counts

-- lines under a line of a word and a number
counted_size : (word : List ℕ) (n : ℕ) (lines : List (List ℕ)) → IsNumber n
    → length (text_of ((word ++ decimal n) ∷ lines)) ≤ length word + 11 + length (text_of lines)
counted_size word n lines h =
    omega (
      arith,
      length-append (word ++ decimal n) (10 ∷ text_of lines),
      length-append word (decimal n),
      number_size n h,
    )

-- lines under the line of the procedures
under_procs : (n start react : ℕ) (lines : List (List ℕ)) → IsNumber n → IsNumber start → IsNumber react
    → length (text_of (procs_line n start react ∷ lines)) ≤ 39 + length (text_of lines)
under_procs n start react lines h g k =
    omega (
      arith,
      length-append (procs_line n start react) (10 ∷ text_of lines),
      length-append (codes "procs ") (decimal n ++ (32 ∷ (decimal start ++ (32 ∷ decimal react)))),
      length-append (decimal n) (32 ∷ (decimal start ++ (32 ∷ decimal react))),
      length-append (decimal start) (32 ∷ decimal react),
      number_size n h,
      number_size start g,
      number_size react k,
    )

-- ---- texts

-- the first line
version_size : (format : Format) → length (version_line format) ≡ 10
version_size formats.One = refl {a = 10}
version_size formats.Two = refl {a = 10}

-- after it
body_size : (format : Format) (w : Written) → IsSpellable format w → length (text_of (body_lines w)) + 11 ≤ text_limit w
body_size format w h =
    let states = text_of (states_part w.states) in
    let vars = text_of (vars_part w.vars) in
    let events = text_of (events_part w.events) in
    let procs = text_of (procs_part w.procedures) in
    let last = text_of (end_line ∷ []) in
    omega (
      arith,
      ap length (body_parts w),
      length-append states (vars ++ (events ++ (procs ++ last))),
      length-append vars (events ++ (procs ++ last)),
      length-append events (procs ++ last),
      length-append procs last,
      counted_size (codes "states ") (length w.states) (map state_line w.states) h.states,
      counted_size (codes "data ") (length w.vars) (map var_line w.vars) h.vars,
      counted_size (codes "events ") (length w.events) (map event_line w.events) h.events,
      under_procs (length w.procedures.procs) w.procedures.start w.procedures.react
          (flat_map proc_lines w.procedures.procs) h.procs h.start h.react,
      states_size w.states h.are_states,
      vars_size w.vars h.are_vars,
      events_size w.events h.are_events,
      procs_size format w.procedures.procs h.are_procs,
    )

-- a whole text
pub text_size : (format : Format) (w : Written) → IsSpellable format w → length (code_text format w) ≤ text_limit w
text_size format w h =
    omega (
      arith,
      ap length (code_text-first format w),
      length-append (version_line format) (10 ∷ text_of (body_lines w)),
      version_size format,
      body_size format w h,
    )
