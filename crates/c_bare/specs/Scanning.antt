-- How what statements need is found in their lines, from the first to the last.
use Rattle.std.specs.Prelude.{ℕ, zero, suc, Bool, true, false, ◌&&◌, ◌||◌, not, List, [], ◌∷◌, Option, Some, None}
use Rattle.std.specs.Prelude.{if◌then◌else◌}
use Rattle.c_subset.specs.declared.trees.CType.{CType}
use Rattle.c_subset.specs.Lines.{Line, Set, Store, StoreAt, Call, Select, If, Else, While, Close, Return}
use Rattle.c_bare.specs.Needs.{is_bare, is_it, reads, any_reads}
use Rattle.c_bare.specs.Bare.{calls_bare, handed}

-- a line names a local, where a bare function is handed nothing
abbrev pub line_reads : List Bool → CType → ℕ → Line → Bool
line_reads flags t i (Set u j e) = reads t i e
line_reads flags t i (Store f e) = reads t i e
line_reads flags t i (StoreAt a k e) = reads t i k || reads t i e
line_reads flags t i (Call u j f args) = not (is_bare flags f) && any_reads t i args
line_reads flags t i (Select u j e cases args) = reads t i e || any_reads t i args
line_reads flags t i (If e) = reads t i e
line_reads flags t i Else = false
line_reads flags t i (While e) = reads t i e
line_reads flags t i Close = false
line_reads flags t i (Return e) = reads t i e

-- a line sets it, whatever happens
abbrev pub line_sets : CType → ℕ → Line → Bool
line_sets t i (Set u j e) = is_it t i u j
line_sets t i (Store f e) = false
line_sets t i (StoreAt a k e) = false
line_sets t i (Call u j f args) = is_it t i u j
line_sets t i (Select u j e cases args) = false
line_sets t i (If e) = false
line_sets t i Else = false
line_sets t i (While e) = false
line_sets t i Close = false
line_sets t i (Return e) = false

-- one block less is open, since a local was set; none where that is the block in which it was
abbrev pub fewer_open : ℕ → Option ℕ
fewer_open zero = None
fewer_open (suc n) = Some n

-- the second part of an `if` begins; in the first part of that one it was set
abbrev pub other_part : ℕ → Option ℕ
other_part zero = None
other_part (suc n) = Some (suc n)

-- how many blocks are open after a line, since a local was set
abbrev pub open_after : Line → ℕ → Option ℕ
open_after (Set u j e) n = Some n
open_after (Store f e) n = Some n
open_after (StoreAt a k e) n = Some n
open_after (Call u j f args) n = Some n
open_after (Select u j e cases args) n = Some n
open_after (If e) n = Some (suc n)
open_after Else n = other_part n
open_after (While e) n = Some (suc n)
open_after Close n = fewer_open n
open_after (Return e) n = Some n

-- the same, where it may not be set yet
abbrev pub since_after : CType → ℕ → Line → Option ℕ → Option ℕ
since_after t i l None = if line_sets t i l then Some 0 else None
since_after t i l (Some n) = open_after l n

-- a line names a local that isn't set
abbrev pub line_needs : List Bool → CType → ℕ → Line → Option ℕ → Bool
line_needs flags t i l None = line_reads flags t i l
line_needs flags t i l (Some n) = false

-- Whether one of the lines does, where so many blocks are open since the local was set
unfoldable pub lines_need : List Bool → CType → ℕ → List Line → Option ℕ → Bool
lines_need flags t i [] since = false
lines_need flags t i (l ∷ ls) since =
    line_needs flags t i l since || lines_need flags t i ls (since_after t i l since)

-- a line is no `switch` that calls a bare function
abbrev pub line_selects : List Bool → Line → Bool
line_selects flags (Set u j e) = true
line_selects flags (Store f e) = true
line_selects flags (StoreAt a k e) = true
line_selects flags (Call u j f args) = true
line_selects flags (Select u j e cases args) = not (calls_bare flags cases)
line_selects flags (If e) = true
line_selects flags Else = true
line_selects flags (While e) = true
line_selects flags Close = true
line_selects flags (Return e) = true

-- a line in which nothing is handed to a bare function
abbrev pub fewer_line : List Bool → Line → Line
fewer_line flags (Set u j e) = Set u j e
fewer_line flags (Store f e) = Store f e
fewer_line flags (StoreAt a k e) = StoreAt a k e
fewer_line flags (Call u j f args) = Call u j f (handed flags f args)
fewer_line flags (Select u j e cases args) = Select u j e cases args
fewer_line flags (If e) = If e
fewer_line flags Else = Else
fewer_line flags (While e) = While e
fewer_line flags Close = Close
fewer_line flags (Return e) = Return e
