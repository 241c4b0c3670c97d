-- The text of lines that are written one after another.
use Rattle.std.proofs.Common.{◌≡◌, ℕ, List, [], ◌∷◌, ◌++◌, refl, sym, ap, ◌∙◌, append_assoc, append-nil}
use Rattle.std.proofs.Common.{cond, Result, Ok, Err, OnOk, is_ok}
use Rattle.chart_gen.specs.Cases.{text_of}

-- the text of lines and of those after them
pub text_of-append : (lines others : List (List ℕ)) → text_of (lines ++ others) ≡ text_of lines ++ text_of others
unfolding text_of
text_of-append [] others = refl
text_of-append (line ∷ lines) others =
    rw (text_of-append lines others, append_assoc line (10 ∷ text_of lines) (text_of others)) refl

-- what follows where there was memory
pub after : {T E P Q : Type 0} (r : Result T E) → OnOk r P → (P → Q) → OnOk r Q
after (Ok x) p f = f p
after (Err e) p f = tt

-- a text is appended where there was memory
pub appended : {T E : Type 0} (r : Result T E) (before now text : List ℕ)
    → now ≡ cond (is_ok r) (before ++ text) before → OnOk r (now ≡ before ++ text)
appended (Ok x) before now text e = e
appended (Err x) before now text e = tt

-- no line is written
pub no_line : (all : List ℕ) → all ≡ all ++ text_of []
unfolding text_of
no_line all = sym (append-nil all)

-- a line is written, and then the others
pub line_then : (before now all line bytes : List ℕ) (lines : List (List ℕ)) → now ≡ before ++ bytes
    → bytes ≡ line ++ 10 ∷ [] → all ≡ now ++ text_of lines → all ≡ before ++ text_of (line ∷ lines)
unfolding text_of
line_then before now all line bytes lines e is more =
    let here : now ≡ before ++ (line ++ 10 ∷ []) = cc in
    more ∙ (ap (λ (t : List ℕ). t ++ text_of lines) here ∙ simp append_assoc)

-- some lines are written, and then others
pub lines_then : (before now all : List ℕ) (lines others : List (List ℕ)) → now ≡ before ++ text_of lines
    → all ≡ now ++ text_of others → all ≡ before ++ text_of (lines ++ others)
lines_then before now all lines others e more =
    more ∙ (ap (λ (t : List ℕ). t ++ text_of others) e
    ∙ (append_assoc before (text_of lines) (text_of others)
    ∙ ap (λ (t : List ℕ). before ++ t) (sym (text_of-append lines others))))

-- one step of a loop: the lines so far, and those of this step, are the lines after it
pub lines_more : (before now all : List ℕ) (lines new longer : List (List ℕ)) → longer ≡ lines ++ new
    → now ≡ before ++ text_of lines → all ≡ now ++ text_of new → all ≡ before ++ text_of longer
lines_more before now all lines new longer is e more =
    lines_then before now all lines new e more ∙ ap (λ ls. before ++ text_of ls) (sym is)

-- the same of one line
pub line_more : (before now all line : List ℕ) (lines longer : List (List ℕ)) → longer ≡ lines ++ line ∷ []
    → now ≡ before ++ text_of lines → all ≡ now ++ (line ++ 10 ∷ []) → all ≡ before ++ text_of longer
unfolding text_of
line_more before now all line lines longer is e more =
    lines_more before now all lines (line ∷ []) longer is e more
