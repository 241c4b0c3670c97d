-- How many bytes the lines of code have at most, with their newlines, and so its text.
use Rattle.std.specs.Prelude.{ℕ, ◌+◌, ◌*◌, List, [], ◌∷◌, length}
use Rattle.code_language.specs.Instrs.{Cond, On, Bare, OnHome, BareHome, Current}
use Rattle.code_language.specs.Instrs.{Result, Test, Last, Instr, Assign, Emit}
use Rattle.code_language.specs.Instrs.{Mark, Clear, Keep, Unless, Skip, Call, Visit}
use Rattle.code_language.specs.Instrs.{Send, SendTo, Play, Home, Begin, Pass}
use Rattle.code_language.specs.Instrs.{Ret}
use Rattle.code_text.specs.Written.{Written}

-- ---- instructions

-- the line of `unless` with this condition
abbrev pub cond_limit : Cond → ℕ
cond_limit (On s) = 40
cond_limit (Bare s) = 40
cond_limit OnHome = 40
cond_limit BareHome = 40
cond_limit (Current e) = 40
cond_limit (Result r) = 40
cond_limit (Test x) = 2506
cond_limit (Last s) = 40

-- the line of an instruction
abbrev pub line_limit : Instr → ℕ
line_limit (Assign v x) = 2506
line_limit (Emit e) = 40
line_limit (Mark s) = 40
line_limit (Clear s) = 40
line_limit (Keep s) = 40
line_limit (Unless k c) = cond_limit c
line_limit (Skip k) = 40
line_limit (Call p tag) = 40
line_limit (Visit p tag) = 40
line_limit (Send e) = 40
line_limit (SendTo e s p) = 40
line_limit Play = 40
line_limit (Home s) = 40
line_limit Begin = 40
line_limit Pass = 40
line_limit (Ret r) = 40

-- the lines of instructions
abbrev pub lines_limit : List Instr → ℕ
lines_limit [] = 0
lines_limit (x ∷ is) = line_limit x + lines_limit is

-- ---- texts

-- a procedure has a line more
abbrev pub proc_limit : List Instr → ℕ
proc_limit is = 13 + lines_limit is

-- the lines of procedures
abbrev pub procs_limit : List (List Instr) → ℕ
procs_limit [] = 0
procs_limit (is ∷ procs) = proc_limit is + procs_limit procs

-- a text: six lines, and those of states, data, events and procedures
abbrev pub text_limit : Written → ℕ
text_limit w =
    106 + 82 * length w.states + 118 * length w.vars + 73 * length w.events + procs_limit w.procedures.procs
