-- Which procedures code notes.
use Rattle.std.specs.Prelude.{ℕ, ◌==◌, Bool, false, List, length, Option, filter}
use Rattle.std.specs.List.{list_any, range_with_len}
use Rattle.std.specs.Option.{option_map_or}
use Rattle.code_language.specs.Instrs.{Instr, Assign, Emit, Mark, Clear, Keep, Unless, Skip, Call, Visit, Send, SendTo}
use Rattle.code_language.specs.Instrs.{Play, Home, Begin, Pass, Ret}

-- a note is that procedure
abbrev pub is_note : ℕ → Option ℕ → Bool
is_note b tag = option_map_or (λ q. q == b) tag false

-- an instruction notes that procedure
abbrev pub has_note : ℕ → Instr → Bool
has_note b (Assign v x) = false
has_note b (Emit e) = false
has_note b (Mark s) = false
has_note b (Clear s) = false
has_note b (Keep s) = false
has_note b (Unless k c) = false
has_note b (Skip k) = false
has_note b (Call p tag) = is_note b tag
has_note b (Visit p tag) = is_note b tag
has_note b (Send e) = false
has_note b (SendTo e s p) = false
has_note b Play = false
has_note b (Home s) = false
has_note b Begin = false
has_note b Pass = false
has_note b (Ret r) = false

-- some instruction of these procedures notes that procedure
abbrev pub is_noted : List (List Instr) → ℕ → Bool
is_noted procs b = list_any (λ is. list_any (λ x. has_note b x) is) procs

-- the procedures that are noted, in ascending order
unfoldable pub noted_in : List (List Instr) → List ℕ
noted_in procs = filter (λ b. is_noted procs b) (range_with_len 0 (length procs))
