-- The bytes of names of files.
use Rattle.std.proofs.Common.{◌≡◌, ℕ, ◌<◌, true, ◌&&◌, nat_le, List, [], ◌∷◌, length, arith}
use Rattle.std.specs.List.{list_all}
use Rattle.std.specs.Str.{IsAscii}
use Rattle.std.proofs.lemmas.Bool.{and_parts}
use Rattle.std.proofs.lemmas.Bool.Decides.{nat_tests}
use Rattle.std.proofs.lemmas.Str.Ascii.{IsAscii-nil, IsAscii-cons}
use Rattle.net_text.specs.Fields.{is_file_byte, is_file_name}

-- a byte of the name of a file
file_byte-ascii : (b : ℕ) → is_file_byte b ≡ true → b < 128
file_byte-ascii b h = grind (arith, nat_tests)

-- such bytes
file_bytes-ascii : (text : List ℕ) → list_all is_file_byte text ≡ true → IsAscii text
file_bytes-ascii [] h = IsAscii-nil
file_bytes-ascii (b ∷ text) h =
    let both = and_parts (is_file_byte b) (list_all is_file_byte text) h in
    IsAscii-cons b text (file_byte-ascii b both.0) (file_bytes-ascii text both.1)

-- the name of a file is ASCII
pub is_file_name-ascii : (text : List ℕ) → is_file_name text ≡ true → IsAscii text
is_file_name-ascii text h =
    let late = and_parts (nat_le 1 (length text) && nat_le (length text) 255) (list_all is_file_byte text) in
    file_bytes-ascii text (late h).1
