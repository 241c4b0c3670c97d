-- Words have no space and no newline, and lines have no newline.
use Rattle.std.proofs.Common.{◌≡◌, ℕ, suc, ◌+◌, ◌^◌, ◌<◌, ◌≤◌, Bool, true}
use Rattle.std.proofs.Common.{false, ◌&&◌, nat_eq, List, [], ◌∷◌, ◌++◌, length}
use Rattle.std.proofs.Common.{get_or, refl, arith}
use Rattle.std.specs.Prelude.{codes, not, decimal, ℤ, pos, negsuc, unsigned_abs}
use Rattle.std.specs.Fmt.{signed_decimal}
use Rattle.std.specs.List.{list_all, AllByRecursion}
use Rattle.std.proofs.lemmas.Bool.{and_parts}
use Rattle.std.proofs.lemmas.Bool.Decides.{nat_tests}
use Rattle.fixed_point.specs.declared.fitting.Mode.{Mode}
use Rattle.fixed_point.specs.declared.fitting.Mode.TheVariants as modes
use Rattle.chart_lexer.specs.Bytes.{is_name_byte}
use Rattle.active_config.specs.declared.comp.Comp.{Comp}
use Rattle.active_config.specs.declared.comp.Comp.TheVariants as comps
use Rattle.actions.specs.declared.names.EventKind.{EventKind}
use Rattle.actions.specs.declared.names.EventKind.TheVariants as event_kinds
use Rattle.actions.specs.declared.names.Sort.{Sort}
use Rattle.actions.specs.declared.names.Sort.TheVariants as sorts
use Rattle.actions.specs.declared.names.VarKind.{VarKind}
use Rattle.actions.specs.declared.names.VarKind.TheVariants as var_kinds
use Rattle.code_fields.specs.Spelling.{IsNumber, IsName, comp_word, var_kind_word, event_kind_word, mode_word, mode_in}
use Rattle.code_fields.specs.Spelling.{sign_word, sort_word}
use Rattle.code_fields.proofs.CutLemmas.{Lacks}
use Rattle.code_fields.proofs.NumberLemmas.{IsNoDigit, newline, space, decimal-lacks}
use Rattle.code_fields.proofs.NameLemmas.{is_name-bytes}

-- a text with no newline in it
abbrev pub IsLine : List ℕ → Type 0
IsLine line = Lacks 10 line

-- a text with no space and no newline in it
abbrev pub IsWord : List ℕ → Type 0
IsWord word = Lacks 32 word × Lacks 10 word

-- a byte that the test tells from another
differs : (b byte : ℕ) → not (nat_eq b byte) ≡ true → nat_eq b byte ≡ false
differs b byte h = grind (arith, nat_tests)

-- a text that passes the test for it
lacks_tested : (byte : ℕ) (words : List ℕ) → list_all (λ b. not (nat_eq b byte)) words ≡ true → Lacks byte words
lacks_tested byte [] h = tt
lacks_tested byte (b ∷ words) h =
    let both = and_parts (not (nat_eq b byte)) (list_all (λ c. not (nat_eq c byte)) words) h in
    (differs b byte both.0, lacks_tested byte words both.1)

-- a line that passes the test
pub line_tested : (words : List ℕ) → list_all (λ b. not (nat_eq b 10)) words ≡ true → IsLine words
line_tested words h = lacks_tested 10 words h

-- a word that passes both tests
pub word_tested : (words : List ℕ) → list_all (λ b. not (nat_eq b 32)) words ≡ true
    → list_all (λ b. not (nat_eq b 10)) words ≡ true → IsWord words
word_tested words h g = (lacks_tested 32 words h, lacks_tested 10 words g)

-- what neither of two texts has, both together haven't
pub lacks-append : (byte : ℕ) (words text : List ℕ) → Lacks byte words → Lacks byte text → Lacks byte (words ++ text)
lacks-append byte [] text h g = g
lacks-append byte (b ∷ words) text h g = (h.0, lacks-append byte words text h.1 g)

-- words and what is after them
pub line_then : (words text : List ℕ) → list_all (λ b. not (nat_eq b 10)) words ≡ true → IsLine text
    → IsLine (words ++ text)
line_then words text h g = lacks-append 10 words text (line_tested words h) g

-- a word, a space and what is after it
pub word_line : (word text : List ℕ) → IsWord word → IsLine text → IsLine (word ++ 32 ∷ text)
word_line word text h g = lacks-append 10 word (32 ∷ text) h.1 (refl, g)

-- two words without a space between them
pub word-append : (word text : List ℕ) → IsWord word → IsWord text → IsWord (word ++ text)
word-append word text h g = (lacks-append 32 word text h.0 g.0, lacks-append 10 word text h.1 g.1)

-- ---- names and numbers

-- a name byte is no newline
name_byte_is_no : (b : ℕ) → is_name_byte b ≡ true → nat_eq b 10 ≡ false
name_byte_is_no b h = grind (arith, nat_tests)

-- name bytes have no newline among them
bytes_lack : (name : List ℕ) → ((k : ℕ) → k < length name → is_name_byte (get_or name k 0) ≡ true) → IsLine name
bytes_lack [] h = tt
bytes_lack (b ∷ name) h = (name_byte_is_no b (h 0 (omega arith)), bytes_lack name (λ k lt. h (suc k) (omega arith)))

-- a name is a line
pub name_line : (name : List ℕ) → IsName name → IsLine name
name_line name h = bytes_lack name (is_name-bytes name h)

-- a number is a word
pub number_word : (n : ℕ) → n < 10 ^ 64 → IsWord (decimal n)
number_word n h = (decimal-lacks 32 n space h, decimal-lacks 10 n newline h)

-- so is one with a sign
pub signed_word : (z : ℤ) → unsigned_abs z < 10 ^ 64 → IsWord (signed_decimal z)
signed_word (pos n) h = number_word n h
signed_word (negsuc n) h = let digits = number_word (suc n) h in ((refl, digits.0), (refl, digits.1))

-- ---- words

-- how a state is composed
pub comp_is_word : (c : Comp) → IsWord (comp_word c)
comp_is_word comps.Leaf = word_tested (codes "leaf") refl refl
comp_is_word comps.Or = word_tested (codes "or") refl refl
comp_is_word comps.And = word_tested (codes "and") refl refl

-- kinds
pub var_kind_is_word : (k : VarKind) → IsWord (var_kind_word k)
var_kind_is_word var_kinds.Input = word_tested (codes "input") refl refl
var_kind_is_word var_kinds.Output = word_tested (codes "output") refl refl
var_kind_is_word var_kinds.Local = word_tested (codes "local") refl refl

pub event_kind_is_word : (k : EventKind) → IsWord (event_kind_word k)
event_kind_is_word event_kinds.Input = word_tested (codes "input") refl refl
event_kind_is_word event_kinds.Local = word_tested (codes "local") refl refl
event_kind_is_word event_kinds.Output = word_tested (codes "output") refl refl

-- a mode
mode_is_word : (m : Mode) → IsWord (mode_word m)
mode_is_word modes.Saturate = word_tested (codes "saturate") refl refl
mode_is_word modes.Wrap = word_tested (codes "wrap") refl refl
mode_is_word modes.Error = word_tested (codes "error") refl refl

-- of a datum
pub mode_in_is_word : (s : Sort) (m : Mode) → IsWord (mode_in s m)
mode_in_is_word sorts.Flag m = word_tested (codes "-") refl refl
mode_in_is_word (sorts.Number s) m = mode_is_word m

-- a sign
sign_is_word : (signed : Bool) → IsWord (sign_word signed)
sign_is_word true = word_tested (codes "sfix") refl refl
sign_is_word false = word_tested (codes "ufix") refl refl

-- the values of a datum
pub sort_is_word : (s : Sort) → IsWord (sort_word s)
sort_is_word sorts.Flag = word_tested (codes "bool") refl refl
sort_is_word (sorts.Number s) =
    word-append (sign_word s.signed) (decimal s.width ++ (codes "_En" ++ decimal s.frac)) (sign_is_word s.signed)
    (word-append (decimal s.width) (codes "_En" ++ decimal s.frac) (number_word s.width (omega (arith, s.bits_within)))
    (word-append (codes "_En") (decimal s.frac) (word_tested (codes "_En") refl refl) (number_word s.frac (omega (arith, s.frac_within)))))
