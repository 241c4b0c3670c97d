-- How states and instructions are spelled.
use Rattle.std.specs.Prelude.{◌≡◌, ℕ, Bool, true, false, List, ◌∷◌, ◌++◌, Option, Some, None, codes, decimal}
use Rattle.code_language.specs.declared.code.RawState.{RawState}
use Rattle.code_language.specs.Instrs.{Cond, On, Bare, OnHome, BareHome, Current}
use Rattle.code_language.specs.Instrs.{Result, Test, Last, Instr, Assign, Emit}
use Rattle.code_language.specs.Instrs.{Mark, Clear, Keep, Unless, Skip, Call, Visit}
use Rattle.code_language.specs.Instrs.{Send, SendTo, Play, Home, Begin, Pass, Ret}
use Rattle.code_fields.specs.Spelling.{IsNumber, IsName, IsExpr, comp_word, expr_words}
use Rattle.code_lines.specs.declared.format.Format.{Format}
use Rattle.code_lines.specs.declared.format.Format.TheVariants as formats

-- ---- states

-- the parent of a state; the root has none
abbrev pub parent_word : Option ℕ → List ℕ
parent_word None = codes "-"
parent_word (Some p) = decimal p

-- the line of a state
abbrev pub state_line : RawState → List ℕ
state_line s = codes "s " ++ (parent_word s.parent ++ (32 ∷ (comp_word s.comp ++ (32 ∷ s.name))))

-- a parent that a line can have
abbrev pub HasParent : Option ℕ → Type 0
HasParent None = Unit {0}
HasParent (Some p) = IsNumber p

-- a state that has a line
pub record IsState (s : RawState) : Type 0 where
  pub parent : HasParent s.parent
  pub named : IsName s.name

-- ---- instructions

-- a note: the number of a procedure, or none
abbrev pub note_word : Option ℕ → List ℕ
note_word None = codes "-"
note_word (Some p) = decimal p

-- the words of a condition
abbrev pub cond_words : Cond → List ℕ
cond_words (On s) = codes "on " ++ decimal s
cond_words (Bare s) = codes "bare " ++ decimal s
cond_words OnHome = codes "onhome"
cond_words BareHome = codes "barehome"
cond_words (Current e) = codes "event " ++ decimal e
cond_words (Result r) = codes "result " ++ decimal r
cond_words (Test x) = codes "expr " ++ expr_words x
cond_words (Last s) = codes "last " ++ decimal s

-- the line of an instruction
abbrev pub instr_line : Instr → List ℕ
instr_line (Assign v x) = codes "set " ++ (decimal v ++ (32 ∷ expr_words x))
instr_line (Emit e) = codes "emit " ++ decimal e
instr_line (Mark s) = codes "mark " ++ decimal s
instr_line (Clear s) = codes "clear " ++ decimal s
instr_line (Keep s) = codes "keep " ++ decimal s
instr_line (Unless k c) = codes "unless " ++ (decimal k ++ (32 ∷ cond_words c))
instr_line (Skip k) = codes "skip " ++ decimal k
instr_line (Call p tag) = codes "call " ++ (decimal p ++ (32 ∷ note_word tag))
instr_line (Visit p tag) = codes "visit " ++ (decimal p ++ (32 ∷ note_word tag))
instr_line (Send e) = codes "send " ++ decimal e
instr_line (SendTo e s p) = codes "sendto " ++ (decimal e ++ (32 ∷ (decimal s ++ (32 ∷ decimal p))))
instr_line Play = codes "play"
instr_line (Home s) = codes "home " ++ decimal s
instr_line Begin = codes "begin"
instr_line Pass = codes "pass"
instr_line (Ret r) = codes "ret " ++ decimal r

-- ---- what has a spelling

-- the numbers of a condition, but those of its expression, are those of a text
abbrev pub CondHasNumbers : Cond → Type 0
CondHasNumbers (On s) = IsNumber s
CondHasNumbers (Bare s) = IsNumber s
CondHasNumbers OnHome = Unit {0}
CondHasNumbers BareHome = Unit {0}
CondHasNumbers (Current e) = IsNumber e
CondHasNumbers (Result r) = IsNumber r
CondHasNumbers (Test x) = Unit {0}
CondHasNumbers (Last s) = IsNumber s

-- a note that a line can have
abbrev pub HasNote : Option ℕ → Type 0
HasNote None = Unit {0}
HasNote (Some p) = IsNumber p

-- the numbers of an instruction, but those of its expression, are those of a text
abbrev pub HasNumbers : Instr → Type 0
HasNumbers (Assign v x) = IsNumber v
HasNumbers (Emit e) = IsNumber e
HasNumbers (Mark s) = IsNumber s
HasNumbers (Clear s) = IsNumber s
HasNumbers (Keep s) = IsNumber s
HasNumbers (Unless k c) = IsNumber k × CondHasNumbers c
HasNumbers (Skip k) = IsNumber k
HasNumbers (Call p tag) = IsNumber p × HasNote tag
HasNumbers (Visit p tag) = IsNumber p × HasNote tag
HasNumbers (Send e) = IsNumber e
HasNumbers (SendTo e s p) = IsNumber e × (IsNumber s × IsNumber p)
HasNumbers Play = Unit {0}
HasNumbers (Home s) = IsNumber s
HasNumbers Begin = Unit {0}
HasNumbers Pass = Unit {0}
HasNumbers (Ret r) = IsNumber r

-- the expression of a condition, if it has one, has words
abbrev pub CondHasWords : Cond → Type 0
CondHasWords (On s) = Unit {0}
CondHasWords (Bare s) = Unit {0}
CondHasWords OnHome = Unit {0}
CondHasWords BareHome = Unit {0}
CondHasWords (Current e) = Unit {0}
CondHasWords (Result r) = Unit {0}
CondHasWords (Test x) = IsExpr x
CondHasWords (Last s) = Unit {0}

-- the expression of an instruction, if it has one, has words
abbrev pub HasWords : Instr → Type 0
HasWords (Assign v x) = IsExpr x
HasWords (Emit e) = Unit {0}
HasWords (Mark s) = Unit {0}
HasWords (Clear s) = Unit {0}
HasWords (Keep s) = Unit {0}
HasWords (Unless k c) = CondHasWords c
HasWords (Skip k) = Unit {0}
HasWords (Call p tag) = Unit {0}
HasWords (Visit p tag) = Unit {0}
HasWords (Send e) = Unit {0}
HasWords (SendTo e s p) = Unit {0}
HasWords Play = Unit {0}
HasWords (Home s) = Unit {0}
HasWords Begin = Unit {0}
HasWords Pass = Unit {0}
HasWords (Ret r) = Unit {0}

-- format 1 has no `last`
abbrev pub cond_is_in : Format → Cond → Bool
cond_is_in format (On s) = true
cond_is_in format (Bare s) = true
cond_is_in format OnHome = true
cond_is_in format BareHome = true
cond_is_in format (Current e) = true
cond_is_in format (Result r) = true
cond_is_in format (Test x) = true
cond_is_in formats.One (Last s) = false
cond_is_in formats.Two (Last s) = true

-- and no `keep`
abbrev pub is_in : Format → Instr → Bool
is_in format (Assign v x) = true
is_in format (Emit e) = true
is_in format (Mark s) = true
is_in format (Clear s) = true
is_in formats.One (Keep s) = false
is_in formats.Two (Keep s) = true
is_in format (Unless k c) = cond_is_in format c
is_in format (Skip k) = true
is_in format (Call p tag) = true
is_in format (Visit p tag) = true
is_in format (Send e) = true
is_in format (SendTo e s p) = true
is_in format Play = true
is_in format (Home s) = true
is_in format Begin = true
is_in format Pass = true
is_in format (Ret r) = true

-- an instruction that has a line in a format
pub record IsInstr (format : Format) (x : Instr) : Type 0 where
  pub numbers : HasNumbers x
  pub words : HasWords x
  pub format_has : is_in format x ≡ true
