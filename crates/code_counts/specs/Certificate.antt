-- Numbers at the places of code by which one knows how much an event can take at most.
use Rattle.std.specs.Prelude.{◌≡◌, ◌≤◌, ◌+◌, ℕ, max, Option, Some, None}
use Rattle.code_language.specs.Code.{Procedures, fetch}
use Rattle.code_language.specs.Instrs.{Instr, Assign, Emit, Mark, Clear, Keep, Unless, Skip, Call, Visit, Send, SendTo}
use Rattle.code_language.specs.Instrs.{Play, Home, Begin, Pass, Ret}
use Rattle.code_counts.specs.declared.numbers.Counted.{Counted}
use Rattle.code_counts.specs.declared.numbers.Counted.TheVariants.{Steps, Outputs, Depth, Notes}

-- Two numbers at each place of each procedure: how much of what is counted comes at most from there until the procedure
-- returns, with all that it calls, visits, sends and plays; and how much all notes bring at most that `Play` may run
-- there.
pub record Numbers : Type 0 where
  pub left : ℕ → ℕ → ℕ
  pub owed : ℕ → ℕ → ℕ

-- what two parts bring, one after the other: steps and outputs add up; of what there is at once the greater one counts
abbrev pub joined : Counted → ℕ → ℕ → ℕ
joined Steps a b = a + b
joined Outputs a b = a + b
joined Depth a b = max a b
joined Notes a b = max a b

-- what a paid step counts
abbrev pub of_step : Counted → ℕ
of_step Steps = 1
of_step Outputs = 0
of_step Depth = 0
of_step Notes = 0

-- what an output counts
abbrev pub of_output : Counted → ℕ
of_output Steps = 0
of_output Outputs = 1
of_output Depth = 0
of_output Notes = 0

-- what a send counts while it lasts
abbrev pub of_send : Counted → ℕ
of_send Steps = 0
of_send Outputs = 0
of_send Depth = 1
of_send Notes = 0

-- what a pending note counts
abbrev pub of_pending : Counted → ℕ
of_pending Steps = 0
of_pending Outputs = 0
of_pending Depth = 0
of_pending Notes = 1

-- what the note of a call counts while it is pending, if there is one
abbrev pub of_note : Counted → Option ℕ → ℕ
of_note c None = 0
of_note c (Some n) = of_pending c

-- what it brings to run a note, if there is one
abbrev pub of_play : Counted → Numbers → Option ℕ → ℕ
of_play c N None = 0
of_play c N (Some n) = of_step c + N.left n 0

-- what an instruction brings besides what comes after it in its procedure; `react` is the procedure of a reaction, and
-- `owed` is what the notes bring that may be run at the place
abbrev pub brings : Counted → Numbers → ℕ → ℕ → Instr → ℕ
brings c N react owed (Assign v x) = 0
brings c N react owed (Emit e) = of_step c + of_output c
brings c N react owed (Mark s) = 0
brings c N react owed (Clear s) = 0
brings c N react owed (Keep s) = 0
brings c N react owed (Unless k test) = 0
brings c N react owed (Skip k) = 0
brings c N react owed (Call q tag) = of_note c tag + N.left q 0
brings c N react owed (Visit q tag) = of_step c + of_note c tag + N.left q 0
brings c N react owed (Send e) = of_step c + of_send c + N.left react 0
brings c N react owed (SendTo e s q) = of_step c + of_send c + N.left q 0
brings c N react owed Play = owed
brings c N react owed (Home s) = 0
brings c N react owed Begin = 0
brings c N react owed Pass = 0
brings c N react owed (Ret r) = 0

-- what is left at place i of procedure p is enough for its instruction x and for what is left at place j
abbrev pub LeavesEnough : Counted → Numbers → ℕ → ℕ → ℕ → Instr → ℕ → Type 0
LeavesEnough c N react p i x j = joined c (brings c N react (N.owed p i) x) (N.left p j) ≤ N.left p i

-- place j may be next: what is left is enough, and place j owes no less for its notes
abbrev pub GoesOn : Counted → Numbers → ℕ → ℕ → ℕ → Instr → ℕ → Type 0
GoesOn c N react p i x j = LeavesEnough c N react p i x j × (N.owed p i ≤ N.owed p j)

-- a call of procedure q with a note owes enough for this note and for those that are owed already
abbrev pub HandsOn : Counted → Numbers → ℕ → ℕ → Option ℕ → Type 0
HandsOn c N owed q tag = joined c (of_play c N tag) owed ≤ N.owed q 0

-- the numbers at place i of procedure p are enough for the instruction there
abbrev pub IsEnough : Counted → Numbers → ℕ → ℕ → ℕ → Instr → Type 0
IsEnough c N react p i (Assign v x) = GoesOn c N react p i (Assign v x) (i + 1)
IsEnough c N react p i (Emit e) = GoesOn c N react p i (Emit e) (i + 1)
IsEnough c N react p i (Mark s) = GoesOn c N react p i (Mark s) (i + 1)
IsEnough c N react p i (Clear s) = GoesOn c N react p i (Clear s) (i + 1)
IsEnough c N react p i (Keep s) = GoesOn c N react p i (Keep s) (i + 1)
IsEnough c N react p i (Unless k test) =
    GoesOn c N react p i (Unless k test) (i + 1) × GoesOn c N react p i (Unless k test) (i + 1 + k)
IsEnough c N react p i (Skip k) = GoesOn c N react p i (Skip k) (i + 1 + k)
IsEnough c N react p i (Call q tag) =
    GoesOn c N react p i (Call q tag) (i + 1) × HandsOn c N (N.owed p i) q tag
IsEnough c N react p i (Visit q tag) =
    GoesOn c N react p i (Visit q tag) (i + 1) × HandsOn c N (N.owed p i) q tag
IsEnough c N react p i (Send e) = GoesOn c N react p i (Send e) (i + 1)
IsEnough c N react p i (SendTo e s q) = GoesOn c N react p i (SendTo e s q) (i + 1)
IsEnough c N react p i Play = GoesOn c N react p i Play (i + 1)
IsEnough c N react p i (Home s) = GoesOn c N react p i (Home s) (i + 1)
IsEnough c N react p i Begin = LeavesEnough c N react p i Begin (i + 1)
IsEnough c N react p i Pass = GoesOn c N react p i Pass (i + 1)
IsEnough c N react p i (Ret r) = Unit {0}

-- the numbers are enough at each place at which an instruction stands
abbrev pub IsCertificate : Counted → Procedures → Numbers → Type 0
IsCertificate c k N = (p i : ℕ) (x : Instr) → fetch k p i ≡ Some x → IsEnough c N k.react p i x

-- the start and a reaction bring no more than so much
pub record IsMost (k : Procedures) (N : Numbers) (most : ℕ) : Type 0 where
  pub start : N.left k.start 0 ≤ most
  pub reaction : N.left k.react 0 ≤ most
