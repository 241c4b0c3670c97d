-- The four forms of a word: `--`, `--x..`, `-x..` and any other.
use Rattle.std.proofs.Common.{◌≡◌, ◌∙◌, ℕ, Bool, true, false, ◌<◌, ◌==◌, refl, sym, ap, subst, arith, List, [], ◌∷◌}
use Rattle.std.proofs.Common.{◌++◌}
use Rattle.std.proofs.Common.{Some, None, eqb-true}
use Rattle.std.specs.Prelude.{⊤, slice_get}
use Rattle.std.specs.Str.{bytes_eq, chars, IsUtf8}
use lib.Utf8.{encodes}
use Rattle.std.proofs.lemmas.Str.{encodes-chars, encode_ascii, IsUtf8-past_char}
use Rattle.clap.specs.Lexer.{long_of, short_of}
use Rattle.command_words.specs.Numbers.{Text}
use Rattle.command_words.specs.Options.{File, Refused, word_of}

-- words of UTF-8
abbrev pub AreUtf8 : List Text → Type 0
AreUtf8 [] = ⊤
AreUtf8 (word ∷ rest) = IsUtf8 word × AreUtf8 rest

-- a word that is a file
pub record IsPlain (word : Text) : Type 0 where
  pub not_end : bytes_eq word (45 ∷ 45 ∷ []) ≡ false
  pub no_long : long_of word ≡ None
  pub no_short : short_of word ≡ None
  pub file : (bounded : Bool) → word_of bounded word ≡ File

-- the form of a word
pub data WordForm (word : Text) : Type 0 where
  is_end : word ≡ 45 ∷ 45 ∷ [] → WordForm word
  is_long : (x : ℕ) (xs : Text) → word ≡ 45 ∷ 45 ∷ x ∷ xs → WordForm word
  is_short : (x : ℕ) (xs : Text) → word ≡ 45 ∷ x ∷ xs → (x == 45) ≡ false → WordForm word
  is_file : IsPlain word → WordForm word

-- the empty word is a file
plain_nil : IsPlain []
plain_nil = record { not_end = refl; no_long = refl; no_short = refl; file = λ bounded. refl }

-- so is `-` alone
plain_hyphen : IsPlain (45 ∷ [])
plain_hyphen = record { not_end = refl; no_long = refl; no_short = refl; file = λ bounded. refl }

-- so is any other byte
plain_one : (b : ℕ) → (b == 45) ≡ false → IsPlain (b ∷ [])
plain_one b e = record { not_end = rw e refl; no_long = rw e refl; no_short = rw e refl; file = λ bounded. rw e refl }

-- so is a longer word that doesn't begin with `-`
plain_more : (b c : ℕ) (rest : Text) → (b == 45) ≡ false → IsPlain (b ∷ c ∷ rest)
plain_more b c rest e =
    record { not_end = rw e refl; no_long = rw e refl; no_short = rw e refl; file = λ bounded. rw e refl }

-- every word has one of these forms
pub form_of : (word : Text) → WordForm word
form_of [] = is_file plain_nil
form_of (b ∷ []) = go (b == 45) refl
  where
    go : (t : Bool) → (b == 45) ≡ t → WordForm (b ∷ [])
    go true e = is_file (subst (λ (n : ℕ). IsPlain (n ∷ [])) (sym (eqb-true b 45 e)) plain_hyphen)
    go false e = is_file (plain_one b e)
form_of (b ∷ c ∷ rest) = go (b == 45) (c == 45) refl refl
  where
    hyphens : (xs : Text) → b ≡ 45 → c ≡ 45 → rest ≡ xs → WordForm (b ∷ c ∷ rest)
    hyphens [] d e f = is_end (λ i. d i ∷ e i ∷ f i)
    hyphens (x ∷ xs) d e f = is_long x xs (λ i. d i ∷ e i ∷ f i)

    go : (t u : Bool) → (b == 45) ≡ t → (c == 45) ≡ u → WordForm (b ∷ c ∷ rest)
    go false u d e = is_file (plain_more b c rest d)
    go true false d e = is_short c rest (ap (λ (n : ℕ). n ∷ c ∷ rest) (eqb-true b 45 d)) e
    go true true d e = hyphens rest (eqb-true b 45 d) (eqb-true c 45 e) refl

-- a word of one hyphen and more is refused
pub short_refused : (x : ℕ) (xs word : Text) (bounded : Bool) → word ≡ 45 ∷ x ∷ xs → (x == 45) ≡ false
    → word_of bounded word ≡ Refused
short_refused x xs word bounded is e = ap (word_of bounded) is ∙ rw e refl

-- after its hyphen such a word has a first character
pub short_head : (x : ℕ) (xs : Text) → IsUtf8 (45 ∷ x ∷ xs) → (c : ℕ) × (slice_get (chars (x ∷ xs)) 0 ≡ Some c)
short_head x xs u =
    let small : 45 < 128 = omega arith in
    let rest =
    IsUtf8-past_char (45 ∷ x ∷ xs) (x ∷ xs) 45 u (ap (λ (e : Text). e ++ x ∷ xs) (sym (encode_ascii 45 small))) in
    go (chars (x ∷ xs)) (encodes-chars (x ∷ xs) rest)
  where
    go : (cs : List ℕ) → encodes cs ≡ x ∷ xs → (c : ℕ) × (slice_get cs 0 ≡ Some c)
    go [] e = absurd (cc)
    go (c ∷ cs) e = (c, refl)
