-- Height and work of procedures: numbers that are reckoned from the first procedure on, each from those of lower ones.
use Rattle.std.specs.Prelude.{ℕ, suc, ◌+◌, max, List, [], ◌∷◌, ◌++◌, slice_index}
use Rattle.code_language.specs.Instrs.{Instr, Assign, Emit, Mark, Clear, Keep, Unless, Skip, Call, Visit, Send, SendTo}
use Rattle.code_language.specs.Instrs.{Play, Home, Begin, Pass, Ret}

-- the numbers of procedures that stand after procedures with the numbers ns; one that isn't there yet counts as 0
unfoldable pub reckon : ((ℕ → ℕ) → List Instr → ℕ) → List ℕ → List (List Instr) → List ℕ
reckon F ns [] = ns
reckon F ns (is ∷ ps) = reckon F (ns ++ F (slice_index ns) is ∷ []) ps

-- the greatest of the numbers, 0 where there is none
abbrev pub greatest : List ℕ → ℕ
greatest [] = 0
greatest (n ∷ ns) = max n (greatest ns)

-- ---- height

-- how high an instruction stacks calls above its own procedure, by the heights h of the procedures
unfoldable pub rise : (ℕ → ℕ) → Instr → ℕ
rise h (Assign v x) = 0
rise h (Emit e) = 0
rise h (Mark s) = 0
rise h (Clear s) = 0
rise h (Keep s) = 0
rise h (Unless k c) = 0
rise h (Skip k) = 0
rise h (Call p tag) = suc (h p)
rise h (Visit p tag) = 0
rise h (Send e) = 0
rise h (SendTo e s p) = 0
rise h Play = 0
rise h (Home s) = 0
rise h Begin = 0
rise h Pass = 0
rise h (Ret r) = 0

-- the height of a procedure: 0 without a call, else one more than the greatest height of a procedure that it calls
unfoldable pub height_by : (ℕ → ℕ) → List Instr → ℕ
height_by h [] = 0
height_by h (x ∷ rest) = max (rise h x) (height_by h rest)

-- the heights of procedures
abbrev pub heights : List (List Instr) → List ℕ
heights ps = reckon height_by [] ps

-- ---- work

-- the most instructions from one instruction to a return, with those of the procedures that are called; w are the
-- works of the procedures, and ls what is left from each later place on
unfoldable pub work_from : (ℕ → ℕ) → Instr → List ℕ → ℕ
work_from w (Assign v x) ls = suc (slice_index ls 0)
work_from w (Emit e) ls = suc (slice_index ls 0)
work_from w (Mark s) ls = suc (slice_index ls 0)
work_from w (Clear s) ls = suc (slice_index ls 0)
work_from w (Keep s) ls = suc (slice_index ls 0)
work_from w (Unless k c) ls = suc (max (slice_index ls 0) (slice_index ls k))
work_from w (Skip k) ls = suc (slice_index ls k)
work_from w (Call p tag) ls = suc (w p + slice_index ls 0)
work_from w (Visit p tag) ls = suc (slice_index ls 0)
work_from w (Send e) ls = suc (slice_index ls 0)
work_from w (SendTo e s p) ls = suc (slice_index ls 0)
work_from w Play ls = suc (slice_index ls 0)
work_from w (Home s) ls = suc (slice_index ls 0)
work_from w Begin ls = suc (slice_index ls 0)
work_from w Pass ls = suc (slice_index ls 0)
work_from w (Ret r) ls = 1

-- what is left of a procedure from each place on
unfoldable pub lefts : (ℕ → ℕ) → List Instr → List ℕ
lefts w [] = []
lefts w (x ∷ rest) = work_from w x (lefts w rest) ∷ lefts w rest

-- the work of a procedure: the most instructions on a path from its first instruction to a return
unfoldable pub work_by : (ℕ → ℕ) → List Instr → ℕ
work_by w is = slice_index (lefts w is) 0

-- the works of procedures
abbrev pub works : List (List Instr) → List ℕ
works ps = reckon work_by [] ps
