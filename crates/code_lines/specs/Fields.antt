-- What the line of a state and that of an instruction say.
use Rattle.std.specs.Prelude.{ℕ, Bool, true, false, List, Option, Some, None}
use Rattle.std.specs.Prelude.{option_and_then, option_map, is_some, is_none}
use Rattle.std.specs.Prelude.{if◌then◌else◌, codes}
use Rattle.std.specs.Str.{bytes_eq}
use Rattle.active_config.specs.declared.comp.Comp.{Comp}
use Rattle.code_language.specs.declared.code.RawState.{RawState}
use Rattle.code_language.specs.Instrs.{Cond, On, Bare, OnHome, BareHome, Current}
use Rattle.code_language.specs.Instrs.{Result, Test, Last, Instr, Assign, Emit}
use Rattle.code_language.specs.Instrs.{Mark, Clear, Keep, Unless, Skip, Call, Visit}
use Rattle.code_language.specs.Instrs.{Send, SendTo, Play, Home, Begin, Pass, Ret}
use Rattle.code_fields.specs.Cuts.{Parts, parts_at}
use Rattle.code_fields.specs.Fields.{kept, number_of, behind, name_of, word_then, comp_of}
use Rattle.code_fields.specs.Expressions.{expr_of}
use Rattle.code_lines.specs.declared.format.Format.{Format}
use Rattle.code_lines.specs.declared.words.Word.{Word}
use Rattle.code_lines.specs.declared.words.Word.TheVariants as words
use Rattle.code_lines.specs.declared.words.PlainWord.{PlainWord}
use Rattle.code_lines.specs.declared.words.PlainWord.TheVariants as plain
use Rattle.code_lines.specs.declared.words.CondWord.{CondWord}
use Rattle.code_lines.specs.declared.words.CondWord.TheVariants as cond
use Rattle.code_lines.specs.Spelling.{is_in}

-- a number, or `-` for none
abbrev pub note_of : List ℕ → Option (Option ℕ)
note_of token = if bytes_eq token (codes "-") then Some None else option_map (λ p. Some p) (number_of token)

-- ---- states

-- a state, from its name on
abbrev pub state_with_comp : Option ℕ → Comp → List ℕ → Option RawState
state_with_comp parent comp text =
    option_map (λ name. record { parent = parent; comp = comp; name = name }) (name_of text)

-- from its composition on
abbrev pub state_with_parent : Option ℕ → List ℕ → Option RawState
state_with_parent parent text = word_then comp_of (state_with_comp parent) text

-- the state of a line
unfoldable pub state_of : List ℕ → Option RawState
state_of line = option_and_then (word_then note_of state_with_parent) (behind (codes "s ") line)

-- the first state has no parent, and the others have one
abbrev pub parent_stands : Bool → Option ℕ → Bool
parent_stands true parent = is_none parent
parent_stands false parent = is_some parent

-- the state of a line that stands first or after others
unfoldable pub state_at : Bool → List ℕ → Option RawState
state_at first line =
    option_and_then (kept (λ (s : RawState). parent_stands first s.parent)) (state_of line)

-- ---- conditions

-- a condition of one word
abbrev pub bare_cond : List ℕ → Option Cond
bare_cond word =
    if bytes_eq word (codes "onhome") then Some OnHome else
    if bytes_eq word (codes "barehome") then Some BareHome else
    None

-- the first word of the other conditions
unfoldable pub cond_word_of : List ℕ → Option CondWord
cond_word_of word =
    if bytes_eq word (codes "on") then Some cond.On else
    if bytes_eq word (codes "bare") then Some cond.Bare else
    if bytes_eq word (codes "event") then Some cond.Current else
    if bytes_eq word (codes "result") then Some cond.Result else
    if bytes_eq word (codes "expr") then Some cond.Test else
    if bytes_eq word (codes "last") then Some cond.Last else
    None

-- a condition by its first word and what follows it
abbrev pub cond_with : List ℕ → CondWord → Option Cond
cond_with args cond.On = option_map (λ s. On s) (number_of args)
cond_with args cond.Bare = option_map (λ s. Bare s) (number_of args)
cond_with args cond.Current = option_map (λ e. Current e) (number_of args)
cond_with args cond.Result = option_map (λ r. Result r) (number_of args)
cond_with args cond.Test = option_map (λ x. Test x) (expr_of args)
cond_with args cond.Last = option_map (λ s. Last s) (number_of args)

-- a condition by the parts of its words
abbrev pub cond_at : List ℕ → Option Parts → Option Cond
cond_at text None = bare_cond text
cond_at text (Some parts) = option_and_then (cond_with parts.rest) (cond_word_of parts.front)

-- the condition of its words
unfoldable pub cond_of : List ℕ → Option Cond
cond_of text = cond_at text (parts_at 32 text)

-- ---- instructions

-- an instruction of one word
abbrev pub bare_instr : List ℕ → Option Instr
bare_instr word =
    if bytes_eq word (codes "play") then Some Play else
    if bytes_eq word (codes "begin") then Some Begin else
    if bytes_eq word (codes "pass") then Some Pass else
    None

-- the first word of the other instructions
unfoldable pub word_of : List ℕ → Option Word
word_of word =
    if bytes_eq word (codes "set") then Some words.Assign else
    if bytes_eq word (codes "unless") then Some words.Unless else
    if bytes_eq word (codes "emit") then Some (words.Plain plain.Emit) else
    if bytes_eq word (codes "mark") then Some (words.Plain plain.Mark) else
    if bytes_eq word (codes "clear") then Some (words.Plain plain.Clear) else
    if bytes_eq word (codes "keep") then Some (words.Plain plain.Keep) else
    if bytes_eq word (codes "skip") then Some (words.Plain plain.Skip) else
    if bytes_eq word (codes "call") then Some (words.Plain plain.Call) else
    if bytes_eq word (codes "visit") then Some (words.Plain plain.Visit) else
    if bytes_eq word (codes "send") then Some (words.Plain plain.Send) else
    if bytes_eq word (codes "sendto") then Some (words.Plain plain.SendTo) else
    if bytes_eq word (codes "home") then Some (words.Plain plain.Home) else
    if bytes_eq word (codes "ret") then Some (words.Plain plain.Ret) else
    None

-- a `set` from its expression on
abbrev pub set_with : ℕ → List ℕ → Option Instr
set_with v text = option_map (λ x. Assign v x) (expr_of text)

-- an `unless` from its condition on
abbrev pub unless_with : ℕ → List ℕ → Option Instr
unless_with k text = option_map (λ c. Unless k c) (cond_of text)

-- a `call` from its note on
abbrev pub call_with : ℕ → List ℕ → Option Instr
call_with p text = option_map (λ tag. Call p tag) (note_of text)

-- a `visit` from its note on
abbrev pub visit_with : ℕ → List ℕ → Option Instr
visit_with p text = option_map (λ tag. Visit p tag) (note_of text)

-- a `sendto` from its procedure on
abbrev pub send_to_with : ℕ → ℕ → List ℕ → Option Instr
send_to_with e s text = option_map (λ p. SendTo e s p) (number_of text)

-- and from its state on
abbrev pub send_with : ℕ → List ℕ → Option Instr
send_with e text = word_then number_of (send_to_with e) text

-- an instruction without expression, by its first word and what follows it
abbrev pub plain_with : List ℕ → PlainWord → Option Instr
plain_with args plain.Emit = option_map (λ e. Emit e) (number_of args)
plain_with args plain.Mark = option_map (λ s. Mark s) (number_of args)
plain_with args plain.Clear = option_map (λ s. Clear s) (number_of args)
plain_with args plain.Keep = option_map (λ s. Keep s) (number_of args)
plain_with args plain.Skip = option_map (λ k. Skip k) (number_of args)
plain_with args plain.Call = word_then number_of call_with args
plain_with args plain.Visit = word_then number_of visit_with args
plain_with args plain.Send = option_map (λ e. Send e) (number_of args)
plain_with args plain.SendTo = word_then number_of send_with args
plain_with args plain.Home = option_map (λ s. Home s) (number_of args)
plain_with args plain.Ret = option_map (λ r. Ret r) (number_of args)

-- an instruction by its first word and what follows it
abbrev pub instr_with : List ℕ → Word → Option Instr
instr_with args words.Assign = word_then number_of set_with args
instr_with args words.Unless = word_then number_of unless_with args
instr_with args (words.Plain word) = plain_with args word

-- an instruction by the parts of its line
abbrev pub instr_at : List ℕ → Option Parts → Option Instr
instr_at line None = bare_instr line
instr_at line (Some parts) = option_and_then (instr_with parts.rest) (word_of parts.front)

-- the instruction of a line
unfoldable pub instr_of : List ℕ → Option Instr
instr_of line = instr_at line (parts_at 32 line)

-- the instruction of a line of a text in that format
unfoldable pub instr_in : Format → List ℕ → Option Instr
instr_in format line = option_and_then (kept (is_in format)) (instr_of line)
