-- Lines are broken at blanks: the last ones before which they fit, where a name stays together with the word after it.
-- The text is a list of letters.
use Rattle.std.specs.Prelude.{ℕ, zero, suc, ◌+◌, ◌-◌, ◌==◌, ◌||◌, ◌&&◌, not, min, nat_le, Bool, true, false, List, [], ◌∷◌, ◌++◌}
use Rattle.std.specs.Prelude.{if◌then◌else◌}
use Rattle.std.specs.List.{repeat}
use Rattle.c_lines.specs.declared.breaking.Ahead.{Ahead}
use Rattle.c_lines.specs.declared.breaking.Ahead.TheVariants.{Sign, Name, Second}
use Rattle.c_lines.specs.declared.breaking.Place.{Place}
use Rattle.c_lines.specs.declared.breaking.Place.TheVariants.{Margin, Words, Whole}

-- a blank, or the end of a line
abbrev pub is_blank : ℕ → Bool
is_blank c = c == 32 || c == 10

-- a quote: what stands from it on stays on its line
abbrev pub is_quote : ℕ → Bool
is_quote c = c == 34 || c == 39

-- a letter of a name, as C has them
abbrev pub is_of_name : ℕ → Bool
is_of_name c = (nat_le 48 c && nat_le c 57) || ((nat_le 65 c && nat_le c 90) || (c == 95 || (nat_le 97 c && nat_le c 122)))

-- a letter of the word at hand: the end of a name, or another one
abbrev pub in_first : ℕ → Ahead
in_first c = if is_of_name c then Name else Sign

-- what is ahead after a letter: a word that ends with a name goes on with the one after it, so that a type and what has
-- it stay together
abbrev pub ahead_after : Ahead → ℕ → Ahead
ahead_after Sign c = in_first c
ahead_after Name c = if c == 32 then Second else in_first c
ahead_after Second c = Second

-- what stays together is over at a letter
abbrev pub is_over : Ahead → ℕ → Bool
is_over Sign c = is_blank c
is_over Name c = c == 10
is_over Second c = is_blank c

-- what stays together ends before so many letters
abbrev pub fits_from : Ahead → ℕ → List ℕ → Bool
fits_from ahead room [] = true
fits_from ahead zero (c ∷ rest) = is_over ahead c
fits_from ahead (suc room) (c ∷ rest) = is_over ahead c || fits_from (ahead_after ahead c) room rest

-- the next word ends before so many letters, and where that is a name, the word after it
abbrev pub fits : ℕ → List ℕ → Bool
fits room rest = fits_from Sign room rest

-- a line may begin with what follows: not with `#`, which would make it a directive, nor with a backslash
abbrev pub may_begin : List ℕ → Bool
may_begin [] = true
may_begin (c ∷ rest) = not (c == 35 || c == 92)

-- how many letters a line has at most, where blanks allow it
abbrev pub width : ℕ
width = 100

-- how many blanks a line begins with that goes on with one in whose margin so much room is left: four more, of forty at
-- most
abbrev pub margin_for : ℕ → ℕ
margin_for room = min (width - room) 40 + 4

-- the line is broken at this letter: at a blank after words, before a word that doesn't fit
abbrev pub is_break : Place → ℕ → List ℕ → Bool
is_break (Margin room) c rest = false
is_break (Words margin room) c rest = c == 32 && (not (fits (room - 1) rest) && may_begin rest)
is_break Whole c rest = false

-- what stands in place of a blank at which the line is broken: a new line and its margin
abbrev pub break_text : Place → List ℕ
break_text (Margin room) = []
break_text (Words margin room) = 10 ∷ repeat margin (32 ∷ [])
break_text Whole = []

-- the place after a letter of a line that isn't broken at it: a line that begins with `#` stays whole, and one from a
-- quote on
abbrev pub moved : Place → ℕ → Place
moved (Margin room) c =
    if c == 32 then Margin (room - 1)
    else (if c == 35 || is_quote c then Whole else Words (margin_for room) (room - 1))
moved (Words margin room) c = if is_quote c then Whole else Words margin (room - 1)
moved Whole c = Whole

-- the place after a break
abbrev pub after_break : Place → Place
after_break (Margin room) = Margin room
after_break (Words margin room) = Words margin (width - margin)
after_break Whole = Whole

-- the place after a letter
abbrev pub after : Place → ℕ → List ℕ → Place
after place c rest =
    if c == 10 then Margin width else (if is_break place c rest then after_break place else moved place c)

-- what is written for a letter
abbrev pub letter_text : Place → ℕ → List ℕ → List ℕ
letter_text place c rest = if is_break place c rest then break_text place else c ∷ []

-- a text from a place in a line on; from a backslash on it stays as it is
abbrev pub broken_from : Place → List ℕ → List ℕ
broken_from place [] = []
broken_from place (c ∷ rest) =
    if c == 92 then c ∷ rest else letter_text place c rest ++ broken_from (after place c rest) rest

-- a text with its lines broken
unfoldable pub broken : List ℕ → List ℕ
broken text = broken_from (Margin width) text
