-- The bytes of names.
use Rattle.std.proofs.Common.{◌≡◌, ℕ, ◌<◌, ◌≤◌, ◌&&◌, true, eqb, leb, List, length, get_or, arith}
use Rattle.std.specs.Str.{IsAscii}
use Rattle.std.proofs.lemmas.Bool.{and_parts, eqb-true, leb-true}
use Rattle.std.proofs.lemmas.Bool.Decides.{nat_tests}
use Rattle.std.proofs.lemmas.List.Sums.{prefix_len_passes}
use Rattle.std.proofs.lemmas.Str.Ascii.{IsAscii-from_reads}
use Rattle.chart_lexer.specs.Bytes.{is_letter, is_name_byte, begins}
use Rattle.chart_lexer.specs.Words.{name_length, is_name}

name_byte_ascii : (b : ℕ) → is_name_byte b ≡ true → b < 128
name_byte_ascii b h = grind (arith, nat_tests)

-- each byte of a name is a name byte
pub is_name-bytes : (w : List ℕ) → is_name w ≡ true → (k : ℕ) → k < length w → is_name_byte (get_or w k 0) ≡ true
is_name-bytes w h k lt =
    let front = (and_parts (begins is_letter w && eqb (name_length w) (length w)) _ h).0 in
    let all : name_length w ≡ length w = eqb-true _ _ (and_parts (begins is_letter w) (eqb (name_length w) (length w)) front).1 in
    prefix_len_passes is_name_byte w k 0 (omega arith)

-- a name is ASCII
pub is_name-ascii : (w : List ℕ) → is_name w ≡ true → IsAscii w
is_name-ascii w h = IsAscii-from_reads w (length w) (omega arith) (λ k lt. name_byte_ascii (get_or w k 0) (is_name-bytes w h k lt))

-- a name has at most 63 bytes
pub is_name-short : (w : List ℕ) → is_name w ≡ true → length w ≤ 63
is_name-short w h =
    let back = (and_parts (begins is_letter w && eqb (name_length w) (length w)) _ h).1 in
    leb-true _ _ (and_parts (leb (length w) 63) _ back).0
