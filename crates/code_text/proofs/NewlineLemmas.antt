-- No line of code has a newline in it.
use Rattle.std.proofs.Common.{ℕ, false, List, [], ◌∷◌, ◌++◌, length, map, refl}
use Rattle.std.specs.Prelude.{codes, decimal}
use Rattle.std.specs.List.{flat_map, AllByRecursion}
use Rattle.code_language.specs.declared.code.RawState.{RawState}
use Rattle.code_language.specs.Instrs.{Instr}
use Rattle.code_fields.specs.Spelling.{IsNumber, IsVar, var_line, IsEvent, event_line}
use Rattle.code_fields.proofs.LineLemmas.{var_line-is, event_line-is}
use Rattle.code_fields.proofs.NewlineLemmas.{IsLine, line_tested, line_then, word_line}
use Rattle.code_lines.specs.declared.format.Format.{Format}
use Rattle.code_lines.specs.declared.format.Format.TheVariants as formats
use Rattle.code_lines.specs.Spelling.{state_line, IsInstr, instr_line}
use Rattle.code_lines.proofs.CondLemmas.{number_line}
use Rattle.code_lines.proofs.InstrLemmas.{number_is_word, instr_line-is}
use Rattle.code_lines.proofs.StateLemmas.{state_line-is}
use Rattle.code_text.specs.Written.{Written}
use Rattle.code_text.specs.Spelling.{version_line, procs_line, end_line, proc_lines}
use Rattle.code_text.specs.Spelling.{states_part, vars_part, events_part}
use Rattle.code_text.specs.Spelling.{procs_part, code_lines, StandsAt, AreStates, IsProc, IsSpellable}

-- each is a line
abbrev pub AreLines : List (List ℕ) → Type 0
AreLines lines = AllByRecursion IsLine lines

-- lines and those after them
both : (lines others : List (List ℕ)) → AreLines lines → AreLines others → AreLines (lines ++ others)
both [] others h g = g
both (line ∷ lines) others h g = (h.0, both lines others h.1 g)

-- a line for each element of a list
each : {A : Type 0} (Fits : A → Type 0) (line : A → List ℕ) → ((x : A) → Fits x → IsLine (line x))
    → (xs : List A) → AllByRecursion Fits xs → AreLines (map line xs)
each Fits line one [] h = tt
each Fits line one (x ∷ xs) h = (one x h.0, each Fits line one xs h.1)

-- the first line
version_is : (format : Format) → IsLine (version_line format)
version_is formats.One = line_tested (codes "flowcode 1") refl
version_is formats.Two = line_tested (codes "flowcode 2") refl

-- the lines of states
states_are : (states : List RawState) → AreStates states → AreLines (map state_line states)
states_are [] h = tt
states_are (root ∷ others) h =
    (state_line-is root h.0.0, each (StandsAt false) state_line (λ s at. state_line-is s at.0) others h.1)

-- the lines of a procedure
proc_are : (format : Format) (is : List Instr) → IsProc format is → AreLines (proc_lines is)
proc_are format is h = (
  line_then (codes "p ") (decimal (length is)) refl (number_line (length is) h.count),
  each (IsInstr format) instr_line (λ x at. instr_line-is x at.numbers at.words) is h.instrs,
)

-- the lines of procedures
procs_are : (format : Format) (procs : List (List Instr)) → AllByRecursion (IsProc format) procs
    → AreLines (flat_map proc_lines procs)
procs_are format [] h = tt
procs_are format (is ∷ procs) h = both (proc_lines is) (flat_map proc_lines procs) (proc_are format is h.0) (procs_are format procs h.1)

-- the line of the procedures
head_is : (n start react : ℕ) → IsNumber n → IsNumber start → IsNumber react → IsLine (procs_line n start react)
head_is n start react h g k =
    line_then (codes "procs ") (decimal n ++ 32 ∷ (decimal start ++ 32 ∷ decimal react)) refl
    (word_line (decimal n) (decimal start ++ 32 ∷ decimal react) (number_is_word n h)
    (word_line (decimal start) (decimal react) (number_is_word start g) (number_line react k)))

-- the lines of code are lines
pub code_lines-are : (format : Format) (w : Written) → IsSpellable format w → AreLines (code_lines format w)
unfolding code_lines
code_lines-are format w h =
    let states : AreLines (states_part w.states) =
    (line_then (codes "states ") (decimal (length w.states)) refl (number_line (length w.states) h.states), states_are w.states h.are_states) in
    let vars : AreLines (vars_part w.vars) =
    (line_then (codes "data ") (decimal (length w.vars)) refl (number_line (length w.vars) h.vars), each IsVar var_line var_line-is w.vars h.are_vars) in
    let events : AreLines (events_part w.events) =
    (line_then (codes "events ") (decimal (length w.events)) refl (number_line (length w.events) h.events), each IsEvent event_line event_line-is w.events h.are_events) in
    let k = w.procedures in
    let procs : AreLines (procs_part k) =
    (head_is (length k.procs) k.start k.react h.procs h.start h.react, procs_are format k.procs h.are_procs) in
    let last : AreLines (end_line ∷ []) = (line_tested (codes "end") refl, tt) in (
      version_is format,
      both (states_part w.states) (vars_part w.vars ++ (events_part w.events ++ (procs_part k ++ end_line ∷ []))) states
          (both (vars_part w.vars) (events_part w.events ++ (procs_part k ++ end_line ∷ [])) vars
          (both (events_part w.events) (procs_part k ++ end_line ∷ []) events (both (procs_part k) (end_line ∷ []) procs last))),
    )
