-- Pieces that stay apart where they are written one directly after the other.
-- `on_x` says that the pieces of x stay apart, and from the pieces after them, where these stay apart after x.
use Rattle.std.proofs.Common.{◌≡◌, ℕ, zero, suc, append_assoc, Bool, true, ◌&&◌, ◌||◌, not, List, [], ◌∷◌, ◌++◌, refl}
use Rattle.std.proofs.Common.{◌⊎◌, inl, cond, IsTrue}
use Rattle.std.specs.Prelude.{nat_le}
use Rattle.std.specs.List.{AllByRecursion, flat_map}
use Rattle.std.proofs.lemmas.Bool.{and_parts}
use Rattle.token_grammar.specs.declared.token.Kind.{Kind}
use Rattle.token_grammar.specs.declared.token.Kind.TheVariants as kinds
use Rattle.token_grammar.specs.Token.{kind_number, kind_eq}
use Rattle.chart_lexer.specs.Bytes.{is_blank, begins}
use Rattle.chart_lexer.specs.Words.{is_name}
use Rattle.chart_print.specs.Pieces.{Piece, Token, Blank, kind_bytes, key, space, newline, indent, line}
use Rattle.canonical_text.specs.Words.{IsNumber}

-- ---- what is after what

-- what stood before a piece: blanks or nothing, a word or a number, a symbol, or any of these tokens
pub data Seam : Type 0 where
  AfterBlank : Seam
  AfterWord : Seam
  AfterSymbol : Seam
  AfterToken : Seam

-- a word or a number
abbrev pub is_wordy : Kind → Bool
is_wordy k = nat_le (kind_number k) 27

-- a symbol
abbrev pub is_symbol : Kind → Bool
is_symbol k = nat_le 29 (kind_number k)

-- a keyword or a symbol
abbrev pub is_fixed : Kind → Bool
is_fixed k = nat_le (kind_number k) 25 || is_symbol k

-- a symbol whose first byte could belong to the symbol before it
abbrev pub is_merging : Kind → Bool
is_merging k =
    kind_eq k kinds.Assign || (kind_eq k kinds.EqualEqual || (kind_eq k kinds.Greater || (kind_eq k kinds.GreaterEqual
    || (kind_eq k kinds.Slash || (kind_eq k kinds.AndAnd || kind_eq k kinds.OrOr)))))

-- a token of that kind may stand directly there
abbrev pub fits : Seam → Kind → Bool
fits AfterBlank k = true
fits AfterWord k = not (is_wordy k)
fits AfterSymbol k = not (is_merging k)
fits AfterToken k = not (is_wordy k) && not (is_merging k)

-- what stood before the piece after a token
abbrev pub seam_of : Kind → Seam
seam_of k = cond (is_wordy k) AfterWord AfterSymbol

-- ---- pieces

-- the bytes of a token: those of the keyword or the symbol, a name, or a number
abbrev pub Spelling : Kind → List ℕ → Type 0
Spelling k b =
    ((is_fixed k ≡ true) × (b ≡ kind_bytes k))
    ⊎ (((k ≡ kinds.Name) × IsTrue (is_name b)) ⊎ ((k ≡ kinds.Number) × IsNumber b))

-- only blanks
abbrev pub all_blank : List ℕ → Bool
all_blank [] = true
all_blank (b ∷ s) = is_blank b && all_blank s

-- the pieces, after what stood before, stay apart
abbrev pub Apart : Seam → List Piece → Type 0
Apart s [] = Unit {0}
Apart s (Blank b ∷ ps) = (begins is_blank b ≡ true) × ((all_blank b ≡ true) × Apart AfterBlank ps)
Apart s (Token k b ∷ ps) = Spelling k b × ((fits s k ≡ true) × Apart (seam_of k) ps)

-- blanks stand after anything
pub loosen : (s : Seam) (ps : List Piece) → Apart s ps → Apart AfterBlank ps
loosen s [] h = tt
loosen s (Blank b ∷ ps) h = h
loosen s (Token k b ∷ ps) h = (h.0, (refl, h.1.1))

-- what stands after any token stands after a word and after a symbol
pub tighten : (s : Seam) (ps : List Piece) → Apart AfterToken ps → Apart s ps
tighten s [] h = tt
tighten s (Blank b ∷ ps) h = h
tighten s (Token k b ∷ ps) h = (h.0, (looser s k h.1.0, h.1.1))
  where
    looser : (s : Seam) (k : Kind) → fits AfterToken k ≡ true → fits s k ≡ true
    looser AfterBlank k h = refl
    looser AfterWord k h = (and_parts (not (is_wordy k)) (not (is_merging k)) h).0
    looser AfterSymbol k h = (and_parts (not (is_wordy k)) (not (is_merging k)) h).1
    looser AfterToken k h = h

-- ---- one piece in front

pub on_key : (k : Kind) (s : Seam) (rest : List Piece) → is_fixed k ≡ true → fits s k ≡ true → Apart (seam_of k) rest
    → Apart s (key k ++ rest)
unfolding key
on_key k s rest fixed fit h = (inl (fixed, refl), (fit, h))

pub on_space : (s : Seam) (rest : List Piece) → Apart AfterBlank rest → Apart s (space ++ rest)
unfolding space
on_space s rest h = (refl, (refl, h))

pub on_newline : (s : Seam) (rest : List Piece) → Apart AfterBlank rest → Apart s (newline ++ rest)
unfolding newline
on_newline s rest h = (refl, (refl, h))

on_indent : (level : ℕ) (rest : List Piece) → Apart AfterBlank rest → Apart AfterBlank (indent level ++ rest)
unfolding indent
on_indent zero rest h = h
on_indent (suc level) rest h = (refl, (refl, on_indent level rest h))

-- a line of its own
pub on_line : (level : ℕ) (content rest : List Piece) → Apart AfterBlank (content ++ (newline ++ rest))
    → Apart AfterBlank (line level content ++ rest)
unfolding line
on_line level content rest h = simp append_assoc (on_indent level (content ++ (newline ++ rest)) h)

-- the pieces of each of a list
pub on_each : {X : Type 0} (f : X → List Piece) (has : X → Type 0) (s : Seam) (xs : List X) (rest : List Piece)
    → ((x : X) → has x → (r : List Piece) → Apart s r → Apart s (f x ++ r)) → AllByRecursion has xs → Apart s rest
    → Apart s (flat_map f xs ++ rest)
on_each f has s [] rest one all h = h
on_each f has s (x ∷ xs) rest one all h =
    rw append_assoc (one x all.0 (flat_map f xs ++ rest) (on_each f has s xs rest one all.1 h))
