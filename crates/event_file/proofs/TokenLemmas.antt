-- The first token of a text, and the rest.
use Rattle.std.proofs.Common.{◌≡◌, ℕ, suc, ◌+◌, ◌<◌, ◌≤◌, Bool, true, false, cond, nat_lt, List}
use Rattle.std.proofs.Common.{[], ◌∷◌, length, take, drop, Some, None, refl, sym, ap, ◌∙◌, arith}
use Rattle.std.proofs.lemmas.Bool.Decides.{nat_tests}
use Rattle.std.proofs.lemmas.List.{length-take-le, take_all}
use Rattle.std.proofs.Math.ListN.{drop_of_length-le}
use Rattle.std.specs.Prelude.{not}
use Rattle.std.specs.List.{filter, position, position_or_len, slice_split}
use Rattle.event_file.specs.EventLines.{is_blank, tokens_of}

abbrev is_some_token : List ℕ → Bool
is_some_token token = nat_lt 0 (length token)

-- how many bytes of the front are blank, and how many aren't
abbrev blanks : List ℕ → ℕ
blanks text = position_or_len (λ b. not (is_blank b)) text

abbrev pub word : List ℕ → ℕ
word text = position_or_len is_blank text

-- ---- blanks in front

skip_at : (b k : ℕ) (text : List ℕ) (blank : Bool) → is_blank b ≡ blank → tokens_of text ≡ tokens_of (drop k text)
    → tokens_of (b ∷ text) ≡ tokens_of (drop (cond (not (not blank)) (1 + k) 0) (b ∷ text))
skip_at b k text true e rest = let m : 1 + k ≡ suc k = omega arith in rw (e, m) rest
skip_at b k text false e rest = refl

skipped : (text : List ℕ) → tokens_of text ≡ tokens_of (drop (blanks text) text)
skipped [] = refl
skipped (b ∷ text) = skip_at b (blanks text) text (is_blank b) refl (skipped text)

-- ---- a word in front

-- the parts after a blank
abbrev later_parts : List ℕ → List (List ℕ)
later_parts [] = []
later_parts (b ∷ rest) = slice_split is_blank rest

split_at : (b k : ℕ) (text : List ℕ) (blank : Bool) → is_blank b ≡ blank → slice_split is_blank text ≡ take k text ∷ later_parts (drop k text)
    → slice_split is_blank (b ∷ text) ≡ take (cond (not blank) (1 + k) 0) (b ∷ text) ∷ later_parts (drop (cond (not blank) (1 + k) 0) (b ∷ text))
split_at b k text true e rest = rw e refl
split_at b k text false e rest = let m : 1 + k ≡ suc k = omega arith in rw (e, m, rest) refl

split_word : (text : List ℕ) → slice_split is_blank text ≡ take (word text) text ∷ later_parts (drop (word text) text)
split_word [] = refl
split_word (b ∷ text) = split_at b (word text) text (is_blank b) refl (split_word text)

later_at : (b k : ℕ) (text : List ℕ) (blank : Bool) → is_blank b ≡ blank → filter is_some_token (later_parts (drop k text)) ≡ tokens_of (drop k text)
    → filter is_some_token (later_parts (drop (cond (not blank) (1 + k) 0) (b ∷ text))) ≡ tokens_of (drop (cond (not blank) (1 + k) 0) (b ∷ text))
later_at b k text true e rest = rw e refl
later_at b k text false e rest = let m : 1 + k ≡ suc k = omega arith in rw m rest

later_word : (text : List ℕ) → filter is_some_token (later_parts (drop (word text) text)) ≡ tokens_of (drop (word text) text)
later_word [] = refl
later_word (b ∷ text) = later_at b (word text) text (is_blank b) refl (later_word text)

word-le_at : (k n : ℕ) (blank : Bool) → k ≤ n → cond (not blank) (1 + k) 0 ≤ suc n
word-le_at k n true le = omega arith
word-le_at k n false le = omega arith

pub word-le : (text : List ℕ) → word text ≤ length text
word-le [] = omega arith
word-le (b ∷ text) = word-le_at (word text) (length text) (is_blank b) (word-le text)

kept : (token : List ℕ) (rest : List (List ℕ)) → 0 < length token → filter is_some_token (token ∷ rest) ≡ token ∷ filter is_some_token rest
kept token rest some = let e : nat_lt 0 (length token) ≡ true = grind (arith, nat_tests) in rw e refl

tokens_word : (text : List ℕ) → 0 < word text → tokens_of text ≡ take (word text) text ∷ tokens_of (drop (word text) text)
tokens_word text some =
    let len : length (take (word text) text) ≡ word text = length-take-le (word text) text (word-le text) in
    ap (filter is_some_token) (split_word text) ∙ kept (take (word text) text) (later_parts (drop (word text) text)) (omega arith)
    ∙ ap (λ (z : List (List ℕ)). take (word text) text ∷ z) (later_word text)

-- ---- blanks and then a word

some_at : (b k : ℕ) (text : List ℕ) (blank : Bool) → is_blank b ≡ blank → (k < length text → 0 < word (drop k text))
    → cond (not (not blank)) (1 + k) 0 < length (b ∷ text) → 0 < word (drop (cond (not (not blank)) (1 + k) 0) (b ∷ text))
some_at b k text true e rest within = let m : 1 + k ≡ suc k = omega arith in rw m (rest (omega arith))
some_at b k text false e rest within = rw e (omega arith)

some_word : (text : List ℕ) → blanks text < length text → 0 < word (drop (blanks text) text)
some_word [] within = absurd (omega arith)
some_word (b ∷ text) within = some_at b (blanks text) text (is_blank b) refl (some_word text) within

chosen : (b : Bool) (m n : ℕ) → Some n ≡ cond b (Some m) None → n ≡ m
chosen true m n is = cc
chosen false m n is = cc

left_out : (m n : ℕ) → None ≡ cond (nat_lt m n) (Some m) None → n ≤ m
left_out m n is = grind (arith, nat_tests)

front_of : (b k : ℕ) (text : List ℕ) → is_blank b ≡ false → take (cond (not (is_blank b)) (1 + k) 0) (b ∷ text) ≡ b ∷ take k text
front_of b k text e = let m : 1 + k ≡ suc k = omega arith in rw (e, m) refl

-- a text that begins with a byte that isn't blank has a token that begins with it
pub tokens_at_once : (b : ℕ) (text : List ℕ) → is_blank b ≡ false
    → tokens_of (b ∷ text) ≡ (b ∷ take (word text) text) ∷ tokens_of (drop (word (b ∷ text)) (b ∷ text))
tokens_at_once b text e =
    let some : 0 < word (b ∷ text) = rw e (omega arith) in
    tokens_word (b ∷ text) some ∙ ap (λ (z : List ℕ). z ∷ tokens_of (drop (word (b ∷ text)) (b ∷ text))) (front_of b (word text) text e)

-- a text of blanks has no token
pub tokens_none : (text : List ℕ) → None ≡ position (λ b. not (is_blank b)) text → tokens_of text ≡ []
tokens_none text is =
    let past : length text ≤ blanks text = left_out (blanks text) (length text) is in
    skipped text ∙ ap tokens_of (drop_of_length-le text past)

-- the token up to a blank
pub tokens_to_blank : (text : List ℕ) (start end : ℕ) → Some start ≡ position (λ b. not (is_blank b)) text → start < length text
    → Some end ≡ position is_blank (drop start text)
    → (tokens_of text ≡ take end (drop start text) ∷ tokens_of (drop end (drop start text))) × (0 < end)
tokens_to_blank text start end is within at =
    let s : start ≡ blanks text = chosen (nat_lt (blanks text) (length text)) (blanks text) start is in
    let from : List ℕ = drop start text in
    let e : end ≡ word from = chosen (nat_lt (word from) (length from)) (word from) end at in
    let some' : 0 < word (drop (blanks text) text) = some_word text (omega arith) in
    let some : 0 < word from = rw s some' in (
      skipped text ∙ ap (λ k. tokens_of (drop k text)) (sym s) ∙ tokens_word from some
          ∙ ap (λ k. take k from ∷ tokens_of (drop k from)) (sym e),
      omega arith,
    )

-- the last token
pub tokens_to_end : (text : List ℕ) (start : ℕ) → Some start ≡ position (λ b. not (is_blank b)) text → start < length text
    → None ≡ position is_blank (drop start text)
    → tokens_of text ≡ drop start text ∷ []
tokens_to_end text start is within at =
    let s : start ≡ blanks text = chosen (nat_lt (blanks text) (length text)) (blanks text) start is in
    let from : List ℕ = drop start text in
    let past : length from ≤ word from = left_out (word from) (length from) at in
    let some' : 0 < word (drop (blanks text) text) = some_word text (omega arith) in
    let some : 0 < word from = rw s some' in
    skipped text ∙ ap (λ k. tokens_of (drop k text)) (sym s) ∙ tokens_word from some
    ∙ ap (λ (z : List ℕ). z ∷ tokens_of (drop (word from) from)) (take_all (word from) from past)
    ∙ ap (λ (z : List ℕ). from ∷ tokens_of z) (drop_of_length-le from past)
