-- Texts that are written letter by letter.
use Rattle.std.proofs.Common.{◌≡◌, ◌∙◌, ◌+◌, ◌++◌, ◌∷◌, [], List, ℕ, zero, suc, ap, sym, refl, append_assoc, append-nil, length, arith}
use Rattle.std.proofs.Common.{encode_utf8_all, encode_utf8, IsUtf8, chars}
use Rattle.std.specs.List.{repeat}
use lib.Utf8.{encode}
use Rattle.std.proofs.lemmas.Str.{encodes-append, encodes-chars, chars-nil, chars_past_char, IsUtf8-past_char}

-- a piece more, of what was still to be written
pub written_more : (out new piece before rest whole : List ℕ) → new ≡ out ++ encode_utf8_all piece
    → before ≡ piece ++ rest → out ++ encode_utf8_all before ≡ whole → new ++ encode_utf8_all rest ≡ whole
written_more out new piece before rest whole n b w =
    ap (λ (x : List ℕ). x ++ encode_utf8_all rest) n
    ∙ append_assoc out (encode_utf8_all piece) (encode_utf8_all rest)
    ∙ ap (λ (x : List ℕ). out ++ x) (sym (encodes-append piece rest))
    ∙ ap (λ (x : List ℕ). out ++ encode_utf8_all x) (sym b)
    ∙ w

-- a letter is read
pub next_letter : (bs rest : List ℕ) (c : ℕ) → IsUtf8 bs → bs ≡ encode_utf8 c ++ rest
    → (chars bs ≡ c ∷ chars rest) × IsUtf8 rest
next_letter bs rest c u e = (chars_past_char bs rest c u e, IsUtf8-past_char bs rest c u e)

-- nothing is left
pub no_letter : (bs : List ℕ) → length bs ≡ 0 → chars bs ≡ []
no_letter [] e = chars-nil
no_letter (b ∷ bs) e = absurd (omega (arith, e))

-- a blank more
repeat_more : (n : ℕ) → repeat {A = ℕ} (n + 1) (32 ∷ []) ≡ repeat {A = ℕ} n (32 ∷ []) ++ 32 ∷ []
repeat_more zero = refl
repeat_more (suc n) =
    let one : suc n + 1 ≡ suc (n + 1) = omega arith in
    ap (λ k. repeat {A = ℕ} k (32 ∷ [])) one ∙ ap (λ (x : List ℕ). 32 ∷ x) (repeat_more n)

-- a blank more is written
pub blanks_more : (whole out new : List ℕ) (n : ℕ) → new ≡ out ++ 32 ∷ []
    → out ≡ whole ++ encode_utf8_all (repeat n (32 ∷ [])) → new ≡ whole ++ encode_utf8_all (repeat (n + 1) (32 ∷ []))
unfolding encode
blanks_more whole out new n e o =
    e ∙ ap (λ (x : List ℕ). x ++ 32 ∷ []) o
    ∙ append_assoc whole (encode_utf8_all (repeat {A = ℕ} n (32 ∷ []))) (32 ∷ [])
    ∙ ap (λ (x : List ℕ). whole ++ x) (sym (encodes-append (repeat {A = ℕ} n (32 ∷ [])) (32 ∷ [])))
    ∙ ap (λ (x : List ℕ). whole ++ encode_utf8_all x) (sym (repeat_more n))

-- nothing is left to be written
pub written_all : (out rest whole : List ℕ) → rest ≡ [] → out ++ encode_utf8_all rest ≡ whole → out ≡ whole
written_all out rest whole e w =
    sym (append-nil out) ∙ ap (λ (x : List ℕ). out ++ encode_utf8_all x) (sym e) ∙ w

-- a backslash and what stands behind it are written as they stand
pub written_end : (out one all rest before whole : List ℕ) → IsUtf8 rest → before ≡ 92 ∷ chars rest
    → one ≡ out ++ 92 ∷ [] → all ≡ one ++ rest → out ++ encode_utf8_all before ≡ whole → all ≡ whole
unfolding encode
written_end out one all rest before whole u b o a w =
    a ∙ ap (λ (x : List ℕ). x ++ rest) o ∙ append_assoc out (92 ∷ []) rest
    ∙ ap (λ (x : List ℕ). out ++ 92 ∷ x) (sym (encodes-chars rest u))
    ∙ ap (λ (x : List ℕ). out ++ encode_utf8_all x) (sym b)
    ∙ w
