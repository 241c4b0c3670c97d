use Rattle.std.proofs.Common.{◌≡◌, ℕ, ◌<◌, false, ◌||◌, length, get_or, take}
use Rattle.std.specs.List.{list_any}
use Rattle.code_language.specs.Code.{instrs_of}
use Rattle.c_functions.specs.Notes.{has_note}
use Rattle.c_shape.proofs.notes.mark_notes.Given as goal

-- the notes of the instructions so far are marked
abbrev pub invariant-loop-instr : goal.invariant-loop-instr
invariant-loop-instr l =
    (b : ℕ) → b < length l.flags → get_or l.flags b false
    ≡ (get_or l.initial.flags b false || list_any (λ x. has_note b x) (instrs_of (take l.instr-index l.instrs)))
