-- C reads the same of a text whose lines were cut and broken.
use Rattle.std.proofs.Common.{◌≡◌, ◌∙◌, ◌-◌, ◌++◌, ◌∷◌, [], ℕ, zero, suc, List, Bool, true, false, ap, sym, refl, cond}
use Rattle.std.specs.Prelude.{◌==◌, ◌||◌, ◌&&◌, not, if◌then◌else◌}
use Rattle.std.specs.List.{repeat}
use borrow.Author.Tests.{eqb-true, not-true}
use Rattle.c_lines.specs.declared.breaking.Place.{Place}
use Rattle.c_lines.specs.declared.breaking.Place.TheVariants.{Margin, Words, Whole}
use Rattle.c_lines.specs.Broken.{is_break, after_break, moved, margin_for, broken, broken_from, letter_text, break_text, after, fits, fits_from, in_first, may_begin, is_blank, is_quote, width}
use Rattle.c_lines.specs.Cut.{cut, cut_from, longest, room_after}
use Rattle.c_lines.specs.Reading.{joined_from, read, read_from, in_word, Where, AtStart, InWord, InGap, InWhole}

-- ---- lines that are cut

-- the same letter before what is joined alike
same_letter : (p : Bool) (c : ℕ) (xs ys : List ℕ) → joined_from true xs ≡ joined_from true ys
    → joined_from false xs ≡ joined_from false ys → joined_from p (c ∷ xs) ≡ joined_from p (c ∷ ys)
same_letter false c xs ys t f = λ i. if c == 92 then t i else c ∷ f i
same_letter true c xs ys t f = λ i. if c == 10 then f i else 92 ∷ (if c == 92 then t i else c ∷ f i)

-- a letter where none fits
joined_at_end : (p : Bool) (c : ℕ) (rest : List ℕ) (b : Bool) → (c == 10) ≡ b
    → ((q : Bool) (room : ℕ) → joined_from q (cut_from room rest) ≡ joined_from q rest)
    → joined_from p ((if b then c ∷ [] else 92 ∷ 10 ∷ c ∷ []) ++ cut_from (if b then longest else 507) rest)
    ≡ joined_from p (c ∷ rest)
joined_at_end p c rest true e same = same_letter p c (cut_from 508 rest) rest (same true 508) (same false 508)
joined_at_end false c rest false e same =
    same_letter false c (cut_from 507 rest) rest (same true 507) (same false 507)
joined_at_end true c rest false e same =
    ap (λ (x : List ℕ). 92 ∷ x) (same_letter false c (cut_from 507 rest) rest (same true 507) (same false 507))
    ∙ sym (ap (λ t. cond t (joined_from false rest) (92 ∷ joined_from false (c ∷ rest))) e)

-- what is cut is joined again
joined_cut : (text : List ℕ) (p : Bool) (room : ℕ) → joined_from p (cut_from room text) ≡ joined_from p text
joined_cut [] p room = refl
joined_cut (c ∷ rest) p zero = joined_at_end p c rest (c == 10) refl (joined_cut rest)
joined_cut (c ∷ rest) p (suc room) =
    same_letter p c (cut_from (room_after (suc room) c) rest) rest (joined_cut rest true (room_after (suc room) c))
    (joined_cut rest false (room_after (suc room) c))

-- ---- lines that are broken

-- a place of a line, and where a reader is there
abbrev Stands : Place → Where → Type 0
Stands (Margin room) AtStart = Unit {0}
Stands (Margin room) InWord = ⊥
Stands (Margin room) InGap = ⊥
Stands (Margin room) InWhole = ⊥
Stands (Words margin room) AtStart = ⊥
Stands (Words margin room) InWord = Unit {0}
Stands (Words margin room) InGap = Unit {0}
Stands (Words margin room) InWhole = ⊥
Stands Whole AtStart = ⊥
Stands Whole InWord = ⊥
Stands Whole InGap = ⊥
Stands Whole InWhole = Unit {0}

-- what is left of a text is read alike, wherever a line stands
abbrev ReadAlike : List ℕ → Type 0
ReadAlike rest = (place : Place) (w : Where) → Stands place w
    → read_from w (joined_from false (broken_from place rest)) ≡ read_from w (joined_from false rest)

-- a letter that is no backslash
plain : (c : ℕ) (xs : List ℕ) → (c == 92) ≡ false → joined_from false (c ∷ xs) ≡ c ∷ joined_from false xs
plain c xs e = ap (λ t. cond t (joined_from true xs) (c ∷ joined_from false xs)) e

-- a letter after blanks alone
at_margin : (c room margin : ℕ) (rest : List ℕ) (t10 t32 t35 tq : Bool) → ReadAlike rest
    → cond (t32 || t10)
    (read_from AtStart (joined_from false (broken_from
    (cond t10 (Margin width) (cond t32 (Margin (room - 1)) (cond (t35 || tq) Whole (Words margin (room - 1))))) rest)))
    (cond t35 (10 ∷ c ∷ read_from InWhole (joined_from false (broken_from
    (cond t10 (Margin width) (cond t32 (Margin (room - 1)) (cond (t35 || tq) Whole (Words margin (room - 1))))) rest)))
    (c ∷ read_from (cond tq InWhole InWord) (joined_from false (broken_from
    (cond t10 (Margin width) (cond t32 (Margin (room - 1)) (cond (t35 || tq) Whole (Words margin (room - 1))))) rest))))
    ≡ cond (t32 || t10) (read_from AtStart (joined_from false rest))
    (cond t35 (10 ∷ c ∷ read_from InWhole (joined_from false rest))
    (c ∷ read_from (cond tq InWhole InWord) (joined_from false rest)))
at_margin c room margin rest true true t35 tq same = same (Margin width) AtStart tt
at_margin c room margin rest true false t35 tq same = same (Margin width) AtStart tt
at_margin c room margin rest false true t35 tq same = same (Margin (room - 1)) AtStart tt
at_margin c room margin rest false false true tq same = λ i. 10 ∷ c ∷ same Whole InWhole tt i
at_margin c room margin rest false false false true same = λ i. c ∷ same Whole InWhole tt i
at_margin c room margin rest false false false false same = λ i. c ∷ same (Words margin (room - 1)) InWord tt i

-- a letter in what stays on its line
in_whole : (c : ℕ) (rest : List ℕ) (t10 : Bool) → ReadAlike rest
    → cond t10 (10 ∷ read_from AtStart (joined_from false (broken_from (cond t10 (Margin width) Whole) rest)))
    (c ∷ read_from InWhole (joined_from false (broken_from (cond t10 (Margin width) Whole) rest)))
    ≡ cond t10 (10 ∷ read_from AtStart (joined_from false rest)) (c ∷ read_from InWhole (joined_from false rest))
in_whole c rest true same = λ i. 10 ∷ same (Margin width) AtStart tt i
in_whole c rest false same = λ i. c ∷ same Whole InWhole tt i

-- a letter in a word, where the line isn't broken
in_words : (c margin room : ℕ) (rest : List ℕ) (t10 t32 tq : Bool) → (t32 ≡ true → tq ≡ false) → ReadAlike rest
    → cond t10 (32 ∷ read_from AtStart (joined_from false (broken_from
    (cond t10 (Margin width) (cond tq Whole (Words margin (room - 1)))) rest)))
    (cond t32 (32 ∷ read_from InGap (joined_from false (broken_from
    (cond t10 (Margin width) (cond tq Whole (Words margin (room - 1)))) rest)))
    (c ∷ read_from (cond tq InWhole InWord) (joined_from false (broken_from
    (cond t10 (Margin width) (cond tq Whole (Words margin (room - 1)))) rest))))
    ≡ cond t10 (32 ∷ read_from AtStart (joined_from false rest))
    (cond t32 (32 ∷ read_from InGap (joined_from false rest))
    (c ∷ read_from (cond tq InWhole InWord) (joined_from false rest)))
in_words c margin room rest true t32 tq h same = λ i. 32 ∷ same (Margin width) AtStart tt i
in_words c margin room rest false true true h same = let no : true ≡ false = h refl in absurd (cc)
in_words c margin room rest false true false h same = λ i. 32 ∷ same (Words margin (room - 1)) InGap tt i
in_words c margin room rest false false true h same = λ i. c ∷ same Whole InWhole tt i
in_words c margin room rest false false false h same = λ i. c ∷ same (Words margin (room - 1)) InWord tt i

-- the same after a blank
in_gap : (c margin room : ℕ) (rest : List ℕ) (t10 t32 tq : Bool) → (t32 ≡ true → tq ≡ false) → ReadAlike rest
    → cond t10 (read_from AtStart (joined_from false (broken_from
    (cond t10 (Margin width) (cond tq Whole (Words margin (room - 1)))) rest)))
    (cond t32 (read_from InGap (joined_from false (broken_from
    (cond t10 (Margin width) (cond tq Whole (Words margin (room - 1)))) rest)))
    (c ∷ read_from (cond tq InWhole InWord) (joined_from false (broken_from
    (cond t10 (Margin width) (cond tq Whole (Words margin (room - 1)))) rest))))
    ≡ cond t10 (read_from AtStart (joined_from false rest))
    (cond t32 (read_from InGap (joined_from false rest))
    (c ∷ read_from (cond tq InWhole InWord) (joined_from false rest)))
in_gap c margin room rest true t32 tq h same = λ i. same (Margin width) AtStart tt i
in_gap c margin room rest false true true h same = let no : true ≡ false = h refl in absurd (cc)
in_gap c margin room rest false true false h same = λ i. same (Words margin (room - 1)) InGap tt i
in_gap c margin room rest false false true h same = λ i. c ∷ same Whole InWhole tt i
in_gap c margin room rest false false false h same = λ i. c ∷ same (Words margin (room - 1)) InWord tt i

-- a blank is no quote
no_quote : (c : ℕ) → (c == 32) ≡ true → is_quote c ≡ false
no_quote c e = let same : c ≡ 32 = eqb-true c 32 e in ap is_quote same

-- blanks at the start of a line don't matter
margin_read : (n : ℕ) (xs : List ℕ) → read_from AtStart (joined_from false (repeat n (32 ∷ []) ++ xs))
    ≡ read_from AtStart (joined_from false xs)
margin_read zero xs = refl
margin_read (suc n) xs = margin_read n xs

-- a text begins with a letter that can begin a line
record BeginsWord (rest : List ℕ) : Type 0 where
  first : ℕ
  more : List ℕ
  is : rest ≡ first ∷ more
  no_blank : is_blank first ≡ false
  no_hash : (first == 35) ≡ false
  no_backslash : (first == 92) ≡ false

-- neither holds
neither : (a b : Bool) → (a || b) ≡ false → (a ≡ false) × (b ≡ false)
neither true b e = absurd (cc)
neither false b e = (refl, e)

-- both hold
both : (a b : Bool) → (a && b) ≡ true → (a ≡ true) × (b ≡ true)
both true b e = (refl, e)
both false b e = absurd (cc)

-- a letter that may begin a line
first_letter : (c : ℕ) (more : List ℕ) → is_blank c ≡ false → not (c == 35 || c == 92) ≡ true → BeginsWord (c ∷ more)
first_letter c more b m =
    let other = neither (c == 35) (c == 92) (not-true (c == 35 || c == 92) m) in
    record { first = c; more = more; is = refl; no_blank = b; no_hash = other.0; no_backslash = other.1 }

-- what doesn't fit and may begin a line begins with a word
begins : (room : ℕ) (rest : List ℕ) → fits room rest ≡ false → may_begin rest ≡ true → BeginsWord rest
begins room [] e m = let no : true ≡ false = e in absurd (cc)
begins zero (c ∷ more) e m = first_letter c more e m
begins (suc room) (c ∷ more) e m =
    first_letter c more (neither (is_blank c) (fits_from (in_first c) room more) e).0 m

-- such a letter is read alike at the start of a line and after a blank
as_after_blank : (c : ℕ) (xs : List ℕ) → is_blank c ≡ false → (c == 35) ≡ false
    → read_from AtStart (c ∷ xs) ≡ read_from InGap (c ∷ xs)
as_after_blank c xs b h =
    let other = neither (c == 32) (c == 10) b in
    ap (λ t. cond t (read_from AtStart xs)
    (if c == 35 then 10 ∷ c ∷ read_from InWhole xs else c ∷ read_from (in_word c) xs)) b
    ∙ ap (λ t. cond t (10 ∷ c ∷ read_from InWhole xs) (c ∷ read_from (in_word c) xs)) h
    ∙ sym (ap (λ t. cond t (read_from InGap xs) (c ∷ read_from (in_word c) xs)) other.0)
    ∙ sym (ap (λ t. cond t (read_from AtStart xs)
    (if c == 32 then read_from InGap xs else c ∷ read_from (in_word c) xs)) other.1)

-- what is broken from a word on begins with its letter
word_stays : (margin room : ℕ) (rest : List ℕ) (b : BeginsWord rest)
    → broken_from (Words margin room) rest ≡ b.first ∷ broken_from (after (Words margin room) b.first b.more) b.more
word_stays margin room rest b =
    let p : Place = Words margin room in
    let blanks = neither (b.first == 32) (b.first == 10) b.no_blank in
    ap (broken_from p) b.is
    ∙ ap (λ t. cond t (b.first ∷ b.more)
    (letter_text p b.first b.more ++ broken_from (after p b.first b.more) b.more)) b.no_backslash
    ∙ ap (λ t. (if t && (not (fits (room - 1) b.more) && may_begin b.more) then break_text p else b.first ∷ [])
    ++ broken_from (after p b.first b.more) b.more) blanks.0

-- after a break the word is read as after a blank
after_break_read : (margin room : ℕ) (rest : List ℕ) → BeginsWord rest → ReadAlike rest
    → read_from AtStart (joined_from false (broken_from (Words margin room) rest))
    ≡ read_from InGap (joined_from false rest)
after_break_read margin room rest b same =
    let xs = broken_from (after (Words margin room) b.first b.more) b.more in
    let is : joined_from false (broken_from (Words margin room) rest) ≡ b.first ∷ joined_from false xs =
    ap (joined_from false) (word_stays margin room rest b) ∙ plain b.first xs b.no_backslash in
    ap (read_from AtStart) is
    ∙ as_after_blank b.first (joined_from false xs) b.no_blank b.no_hash
    ∙ ap (read_from InGap) (sym is)
    ∙ same (Words margin room) InGap tt

-- a line that is broken
at_break : (margin : ℕ) (rest : List ℕ) → BeginsWord rest → ReadAlike rest
    → read_from AtStart (joined_from false (repeat margin (32 ∷ []) ++ broken_from (Words margin (width - margin)) rest))
    ≡ read_from InGap (joined_from false rest)
at_break margin rest b same =
    margin_read margin (broken_from (Words margin (width - margin)) rest)
    ∙ after_break_read margin (width - margin) rest b same

-- a letter in a word or after a blank between words
in_line : (c margin room : ℕ) (rest : List ℕ) (w : Where) → Stands (Words margin room) w → (c == 92) ≡ false
    → ReadAlike rest → (brk : Bool) → is_break (Words margin room) c rest ≡ brk
    → read_from w (joined_from false ((if brk then break_text (Words margin room) else c ∷ []) ++ broken_from
    (if c == 10 then Margin width else (if brk then after_break (Words margin room) else moved (Words margin room) c))
    rest))
    ≡ read_from w (joined_from false (c ∷ rest))
in_line c margin room rest AtStart f e same brk b = absurd f
in_line c margin room rest InWhole f e same brk b = absurd f
in_line c margin room rest InWord f e same false b =
    ap (read_from InWord)
    (plain c (broken_from (if c == 10 then Margin width else moved (Words margin room) c) rest) e)
    ∙ in_words c margin room rest (c == 10) (c == 32) (is_quote c) (no_quote c) same
    ∙ ap (read_from InWord) (sym (plain c rest e))
in_line c margin room rest InGap f e same false b =
    ap (read_from InGap)
    (plain c (broken_from (if c == 10 then Margin width else moved (Words margin room) c) rest) e)
    ∙ in_gap c margin room rest (c == 10) (c == 32) (is_quote c) (no_quote c) same
    ∙ ap (read_from InGap) (sym (plain c rest e))
in_line c margin room rest InWord f e same true b =
    let at = both (c == 32) (not (fits (room - 1) rest) && may_begin rest) b in
    let word = both (not (fits (room - 1) rest)) (may_begin rest) at.1 in
    let blank : c ≡ 32 = eqb-true c 32 at.0 in
    ap (λ k. read_from InWord (joined_from false (10 ∷ (repeat margin (32 ∷ []) ++ broken_from
    (if k == 10 then Margin width else Words margin (width - margin)) rest)))) blank
    ∙ ap (λ (x : List ℕ). 32 ∷ x)
    (at_break margin rest (begins (room - 1) rest (not-true (fits (room - 1) rest) word.0) word.1) same)
    ∙ ap (λ k. read_from InWord (joined_from false (k ∷ rest))) (sym blank)
in_line c margin room rest InGap f e same true b =
    let at = both (c == 32) (not (fits (room - 1) rest) && may_begin rest) b in
    let word = both (not (fits (room - 1) rest)) (may_begin rest) at.1 in
    let blank : c ≡ 32 = eqb-true c 32 at.0 in
    ap (λ k. read_from InGap (joined_from false (10 ∷ (repeat margin (32 ∷ []) ++ broken_from
    (if k == 10 then Margin width else Words margin (width - margin)) rest)))) blank
    ∙ at_break margin rest (begins (room - 1) rest (not-true (fits (room - 1) rest) word.0) word.1) same
    ∙ ap (λ k. read_from InGap (joined_from false (k ∷ rest))) (sym blank)

-- a letter that is no backslash, wherever it stands
at_place : (c : ℕ) (rest : List ℕ) (place : Place) (w : Where) → Stands place w → (c == 92) ≡ false → ReadAlike rest
    → read_from w (joined_from false (letter_text place c rest ++ broken_from (after place c rest) rest))
    ≡ read_from w (joined_from false (c ∷ rest))
at_place c rest (Margin room) AtStart f e same =
    ap (read_from AtStart) (plain c (broken_from (after (Margin room) c rest) rest) e)
    ∙ at_margin c room (margin_for room) rest (c == 10) (c == 32) (c == 35) (is_quote c) same
    ∙ ap (read_from AtStart) (sym (plain c rest e))
at_place c rest (Margin room) InWord f e same = absurd f
at_place c rest (Margin room) InGap f e same = absurd f
at_place c rest (Margin room) InWhole f e same = absurd f
at_place c rest (Words margin room) w f e same =
    in_line c margin room rest w f e same (is_break (Words margin room) c rest) refl
at_place c rest Whole AtStart f e same = absurd f
at_place c rest Whole InWord f e same = absurd f
at_place c rest Whole InGap f e same = absurd f
at_place c rest Whole InWhole f e same =
    ap (read_from InWhole) (plain c (broken_from (after Whole c rest) rest) e)
    ∙ in_whole c rest (c == 10) same
    ∙ ap (read_from InWhole) (sym (plain c rest e))

-- a letter
at_letter : (c : ℕ) (rest : List ℕ) (place : Place) (w : Where) → Stands place w → ReadAlike rest → (b : Bool)
    → (c == 92) ≡ b
    → read_from w (joined_from false
    (if b then c ∷ rest else letter_text place c rest ++ broken_from (after place c rest) rest))
    ≡ read_from w (joined_from false (c ∷ rest))
at_letter c rest place w f same true e = refl
at_letter c rest place w f same false e = at_place c rest place w f e same

-- what is broken is read alike
alike : (text : List ℕ) → ReadAlike text
alike [] place w f = refl
alike (c ∷ rest) place w f = at_letter c rest place w f (alike rest) (c == 92) refl

-- C reads the same of a text that was broken, and cut
pub read_same : (text : List ℕ) → read (cut (broken text)) ≡ read text
unfolding read cut broken
read_same text =
    ap (read_from AtStart) (joined_cut (broken_from (Margin width) text) false longest)
    ∙ alike text (Margin width) AtStart tt
