-- Texts and their outcomes.
use Rattle.std.proofs.Common.{◌≡◌, ℕ, ◌+◌, ◌≤◌, Bool, true, false, nat_eq, nat_lt, List, [], ◌∷◌, ◌++◌, length, get_or}
use Rattle.std.proofs.Common.{Result, Ok, Err, refl, sym, ap, ◌∙◌, subst, append_assoc, arith}
use Rattle.std.specs.Prelude.{if◌then◌else◌}
use Rattle.std.proofs.lemmas.Bool.Decides.{nat_tests}
use Rattle.std.proofs.lemmas.List.{append-nil}
use Rattle.code_fields.proofs.CutLemmas.{parts_at-front}
use Rattle.code_lines.specs.declared.format.Format.{Format}
use Rattle.code_lines.specs.declared.format.Format.TheVariants as formats
use Rattle.code_text.specs.declared.fault.CodeTextFault.{CodeTextFault}
use Rattle.code_text.specs.declared.fault.CodeTextFault.TheVariants as faults
use Rattle.code_text.specs.declared.limits.TheConstants.{TEXT_LIMIT}
use Rattle.code_fields.specs.Lines.{Cut, begun_with, line_then, cut_of}
use Rattle.code_text.specs.Written.{Written}
use Rattle.code_text.specs.Spelling.{code_lines, text_of, code_text, IsSpellable}
use Rattle.code_text.specs.Reading.{nothing_read, outcome_from, spelled}
use Rattle.code_fields.proofs.LineCuts.{cut_of-line}
use Rattle.code_text.proofs.StepLemmas.{outcome-steps, read_from}
use Rattle.code_text.proofs.NewlineLemmas.{AreLines, code_lines-are}
use Rattle.code_text.proofs.CodeLemmas.{all_done, nothing_behind, lines_read, lines_spelled}

-- lines in front of a cut
abbrev lines_then : List (List ℕ) → Cut → Cut
lines_then lines cut = record { lines = lines ++ cut.lines; rest = cut.rest }

-- the text of lines is cut into them
cut_of-text : (lines : List (List ℕ)) (more : List ℕ) → AreLines lines
    → cut_of (text_of lines ++ more) ≡ lines_then lines (cut_of more)
cut_of-text [] more h = refl
cut_of-text (line ∷ lines) more h =
    ap cut_of (append_assoc line (10 ∷ text_of lines) more)
    ∙ (cut_of-line (line ++ 10 ∷ (text_of lines ++ more)) (record { front = line; rest = text_of lines ++ more }) (sym (parts_at-front 10 line (text_of lines ++ more) h.0))
    ∙ ap (line_then line) (cut_of-text lines more h.1))

-- a byte in front of lines
begun_text : (b : ℕ) (text : List ℕ) (lines : List (List ℕ)) (rest : List ℕ) → text ≡ text_of lines ++ rest
    → b ∷ text ≡ text_of (begun_with b lines rest).lines ++ (begun_with b lines rest).rest
begun_text b text [] rest e = ap (λ t. b ∷ t) e
begun_text b text (line ∷ lines) rest e = ap (λ t. b ∷ t) e

-- a byte in front of a cut text
put_back : (b : ℕ) (text : List ℕ) (newline : Bool) → nat_eq b 10 ≡ newline
    → text ≡ text_of (cut_of text).lines ++ (cut_of text).rest
    → (let cut = if newline then line_then [] (cut_of text) else begun_with b (cut_of text).lines (cut_of text).rest in b ∷ text ≡ text_of cut.lines ++ cut.rest)
put_back b text true same e = let ten : b ≡ 10 = grind (arith, nat_tests) in rw ten (ap (λ t. 10 ∷ t) e)
put_back b text false same e = begun_text b text (cut_of text).lines (cut_of text).rest e

-- what is cut is the text
text_of-cut : (text : List ℕ) → text ≡ text_of (cut_of text).lines ++ (cut_of text).rest
text_of-cut [] = refl
text_of-cut (b ∷ text) = put_back b text (nat_eq b 10) refl (text_of-cut text)

-- what the lines of a text give
abbrev outcome_of_lines : Cut → Result Written CodeTextFault
outcome_of_lines cut = outcome_from nothing_read 1 cut.lines cut.rest

-- a text of code with more after it
text_outcome : (format : Format) (w : Written) (more : List ℕ) → IsSpellable format w
    → outcome_of_lines (cut_of (code_text format w ++ more)) ≡ outcome_from (all_done format w) (1 + length (code_lines format w)) (cut_of more).lines (cut_of more).rest
unfolding code_text
text_outcome format w more h =
    ap outcome_of_lines (cut_of-text (code_lines format w) more (code_lines-are format w h))
    ∙ outcome-steps nothing_read (all_done format w) 1 (code_lines format w) (cut_of more).lines (cut_of more).rest (lines_read format w h)

-- a text of code
text_read : (format : Format) (w : Written) → IsSpellable format w → outcome_of_lines (cut_of (code_text format w)) ≡ Ok w
text_read format w h = ap (λ t. outcome_of_lines (cut_of t)) (sym (append-nil (code_text format w))) ∙ text_outcome format w [] h

-- a text within the limit passes the test
within : (n : ℕ) → n ≤ TEXT_LIMIT → nat_lt TEXT_LIMIT n ≡ false
within n h = grind (arith, nat_tests)

-- the text of code is read as it
pub spelled-text : (format : Format) (w : Written) → IsSpellable format w → length (code_text format w) ≤ TEXT_LIMIT
    → spelled (code_text format w) ≡ Ok w
spelled-text format w h few = rw (within (length (code_text format w)) few) (text_read format w h)

-- what is read from the lines of a text is spelled so
lines_say : (text : List ℕ) (w : Written) → outcome_of_lines (cut_of text) ≡ Ok w
    → (format : Format) × (text ≡ code_text format w) × IsSpellable format w
unfolding code_text
lines_say text w h =
    let read = read_from nothing_read 1 (cut_of text).lines (cut_of text).rest w h in
    let all = lines_spelled (cut_of text).lines read.last read.steps_are read.whole in
    let lines_are : (cut_of text).lines ≡ code_lines all.format w = all.spelled ∙ ap (code_lines all.format) read.code_is in (
      all.format,
      text_of-cut text
          ∙ (ap (λ t. text_of (cut_of text).lines ++ t) read.nothing_behind ∙ (append-nil (text_of (cut_of text).lines) ∙ ap text_of lines_are)),
      subst (IsSpellable all.format) read.code_is all.spellable,
    )

-- a text that is read passed the test of its length
not_too_long : (long : Bool) (o : Result Written CodeTextFault) (w : Written)
    → (if long then Err faults.TextTooLong else o) ≡ Ok w → o ≡ Ok w
not_too_long true o w h = absurd cc
not_too_long false o w h = h

-- what is read is spelled so
pub spelled-ok : (text : List ℕ) (w : Written) → spelled text ≡ Ok w
    → (format : Format) × (text ≡ code_text format w) × IsSpellable format w
spelled-ok text w h = lines_say text w (not_too_long (nat_lt TEXT_LIMIT (length text)) (outcome_of_lines (cut_of text)) w h)

-- one text, one code
same_code : (f g : Format) (v w : Written) → IsSpellable f v → IsSpellable g w → code_text f v ≡ code_text g w → v ≡ w
same_code f g v w h k e =
    let same : Ok v ≡ Ok w = sym (text_read f v h) ∙ (ap (λ t. outcome_of_lines (cut_of t)) e ∙ text_read g w k) in cc

-- the bytes by which the first lines differ
one_is_not_two : (m n : ℕ) → m ≡ 49 → n ≡ 50 → m ≡ n → ⊥
one_is_not_two m n e g h = omega arith

-- the first lines of two formats aren't the same
same_format : (f g : Format) (v w : Written) → code_text f v ≡ code_text g w → f ≡ g
unfolding code_text code_lines
same_format formats.One formats.One v w e = refl
same_format formats.One formats.Two v w e =
    absurd (one_is_not_two 49 50 refl refl (ap (λ (t : List ℕ). get_or t 9 0) e))
same_format formats.Two formats.One v w e =
    absurd (one_is_not_two 49 50 refl refl (sym (ap (λ (t : List ℕ). get_or t 9 0) e)))
same_format formats.Two formats.Two v w e = refl

-- one text, one format and one code
pub code_text-one : (f g : Format) (v w : Written) → IsSpellable f v → IsSpellable g w → code_text f v ≡ code_text g w
    → (f ≡ g) × (v ≡ w)
code_text-one f g v w h k e = (same_format f g v w e, same_code f g v w h k e)

-- after a whole text stands nothing
ends_there : (format : Format) (v w : Written) (n : ℕ) (more : List ℕ)
    → outcome_from (all_done format v) n (cut_of more).lines (cut_of more).rest ≡ Ok w → more ≡ []
ends_there format v w n more h =
    let read = read_from (all_done format v) n (cut_of more).lines (cut_of more).rest w h in
    let lines_are = (nothing_behind format v (cut_of more).lines read.last read.steps_are).0 in
    text_of-cut more ∙ (ap (λ lines. text_of lines ++ (cut_of more).rest) lines_are ∙ read.nothing_behind)

-- no text begins another
pub code_text-apart : (f g : Format) (v w : Written) (more : List ℕ) → IsSpellable f v → IsSpellable g w
    → code_text f v ++ more ≡ code_text g w → more ≡ []
code_text-apart f g v w more h k e =
    ends_there f v w (1 + length (code_lines f v)) more
    (sym (text_outcome f v more h) ∙ (ap (λ t. outcome_of_lines (cut_of t)) e ∙ text_read g w k))
