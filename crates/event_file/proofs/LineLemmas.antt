-- The first line of a text, and the rest.
use Rattle.std.proofs.Common.{◌≡◌, ℕ, suc, ◌+◌, ◌<◌, ◌≤◌, Bool, true, false, cond, nat_eq, nat_lt}
use Rattle.std.proofs.Common.{List, [], ◌∷◌, ◌++◌, length, take, drop, Some, None, refl, subst, arith}
use Rattle.std.proofs.lemmas.Bool.Decides.{nat_tests}
use Rattle.std.proofs.lemmas.List.{take_all}
use Rattle.std.specs.Prelude.{if◌then◌else◌, not}
use Rattle.std.specs.List.{position}
use Rattle.event_file.specs.Lines.{begun_with, lines_of, line_length, IsPlain}

length_at : (n m : ℕ) (newline : Bool) → n ≤ m → cond (not newline) (1 + n) 0 ≤ suc m
length_at n m true le = omega arith
length_at n m false le = omega arith

-- the first line isn't longer than the text
pub line_length-le : (text : List ℕ) → line_length text ≤ length text
line_length-le [] = omega arith
line_length-le (b ∷ text) = length_at (line_length text) (length text) (nat_eq b 10) (line_length-le text)

left_out : (m n : ℕ) → None ≡ cond (nat_lt m n) (Some m) None → n ≤ m
left_out m n is = grind (arith, nat_tests)

-- a text without a newline is one line
pub line_length_none : (text : List ℕ) → None ≡ position (λ b. nat_eq b 10) text → length text ≡ line_length text
line_length_none text is =
    let past : length text ≤ line_length text = left_out (line_length text) (length text) is in
    let within = line_length-le text in
    omega arith

plain_at : (b : ℕ) (text : List ℕ) (n : ℕ) (newline : Bool) → nat_eq b 10 ≡ newline → IsPlain (take n text)
    → IsPlain (take (cond (not newline) (1 + n) 0) (b ∷ text))
plain_at b text n true e plain = tt
plain_at b text n false e plain = let k : 1 + n ≡ suc n = omega arith in rw k (e, plain)

-- the first line has no newline
pub take_line-plain : (text : List ℕ) → IsPlain (take (line_length text) text)
take_line-plain [] = tt
take_line-plain (b ∷ text) = plain_at b text (line_length text) (nat_eq b 10) refl (take_line-plain text)

newline_at_step : (b : ℕ) (text : List ℕ) (n : ℕ) (newline : Bool) → nat_eq b 10 ≡ newline
    → (n < length text → drop n text ≡ 10 ∷ drop (n + 1) text)
    → cond (not newline) (1 + n) 0 < length (b ∷ text)
    → drop (cond (not newline) (1 + n) 0) (b ∷ text) ≡ 10 ∷ drop (cond (not newline) (1 + n) 0 + 1) (b ∷ text)
newline_at_step b text n true e h within =
    let same : b ≡ 10 = grind (arith, nat_tests) in
    rw same refl
newline_at_step b text n false e h within =
    let k : 1 + n ≡ suc n = omega arith in
    let m : 1 + n + 1 ≡ suc (n + 1) = omega arith in
    let inner : n < length text = omega arith in
    rw (m, k) (h inner)

-- its newline comes after it
pub newline_at : (text : List ℕ) → line_length text < length text
    → drop (line_length text) text ≡ 10 ∷ drop (line_length text + 1) text
newline_at [] within = absurd (omega arith)
newline_at (b ∷ text) within =
    newline_at_step b text (line_length text) (nat_eq b 10) refl (newline_at text) within

-- a line with its newline in front of a text is the first of its lines
pub lines_of-closed : (line text : List ℕ) → IsPlain line → lines_of (line ++ 10 ∷ text) ≡ line ∷ lines_of text
lines_of-closed [] text plain = refl
lines_of-closed (b ∷ line) text plain =
    let e = plain.0 in let rest = lines_of-closed line text plain.1 in rw (e, rest) refl

-- a line without a newline is the only one
pub lines_of-open : (line : List ℕ) → IsPlain line → 0 < length line → lines_of line ≡ line ∷ []
lines_of-open [] plain some = absurd (omega arith)
lines_of-open (b ∷ []) plain some = let e = plain.0 in rw e refl
lines_of-open (b ∷ (d ∷ line)) plain some =
    let e = plain.0 in let rest = lines_of-open (d ∷ line) plain.1 (omega arith) in rw (e, rest) refl

-- the length of the first line, where no newline is in front
pub line_length-plain : (line text : List ℕ) → IsPlain line → line_length (line ++ text) ≡ length line + line_length text
line_length-plain [] text plain = omega arith
line_length-plain (b ∷ line) text plain =
    let e = plain.0 in let rest = line_length-plain line text plain.1 in rw e (omega (arith, rest))

front : (b n : ℕ) (text : List ℕ) (newline : Bool) → lines_of text ≡ take n text ∷ lines_of (drop (n + 1) text)
    → (if newline then [] ∷ lines_of text else begun_with b (lines_of text))
    ≡ take (cond (not newline) (1 + n) 0) (b ∷ text) ∷ lines_of (drop (cond (not newline) (1 + n) 0 + 1) (b ∷ text))
front b n text true e = refl
front b n text false e =
    let k : 1 + n ≡ suc n = omega arith in
    let m : 1 + n + 1 ≡ suc (n + 1) = omega arith in
    rw (e, m, k) refl

only : (b : ℕ) (newline : Bool) → (if newline then [] ∷ [] else begun_with b [])
    ≡ take (cond (not newline) 1 0) (b ∷ []) ∷ lines_of (drop (cond (not newline) 1 0 + 1) (b ∷ []))
only b true = refl
only b false = refl

-- the first line goes up to the first newline, and the others come after it
pub lines_of-first : (text : List ℕ) → 0 < length text → lines_of text ≡ take (line_length text) text ∷ lines_of (drop (line_length text + 1) text)
lines_of-first [] h = absurd (omega arith)
lines_of-first (b ∷ []) h = only b (nat_eq b 10)
lines_of-first (b ∷ (d ∷ text)) h = front b (line_length (d ∷ text)) (d ∷ text) (nat_eq b 10) (lines_of-first (d ∷ text) (omega arith))

more_at : (m n : ℕ) (newline : Bool) → m ≤ n → cond (not newline) (1 + m) 0 ≤ cond (not newline) (1 + n) 0
more_at m n true le = omega arith
more_at m n false le = omega arith

-- more bytes make the first line no shorter
pub line_length-append : (text more : List ℕ) → line_length text ≤ line_length (text ++ more)
line_length-append [] more = omega arith
line_length-append (b ∷ text) more = more_at (line_length text) (line_length (text ++ more)) (nat_eq b 10) (line_length-append text more)

-- where the first line is all, no byte is a newline
pub plain_all : (text : List ℕ) → length text ≤ line_length text → IsPlain text
plain_all text all = subst IsPlain (take_all (line_length text) text all) (take_line-plain text)
