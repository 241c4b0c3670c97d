-- The word of a scale is a name, and names that scale.
use Rattle.std.proofs.Common.{◌≡◌, ℕ, ◌+◌, ◌/◌, ◌%◌, ◌^◌, ◌<◌, ◌≤◌, Bool, true, false, ◌&&◌, ◌||◌, nat_le, eqb, List}
use Rattle.std.proofs.Common.{[], ◌∷◌, ◌++◌, Option, Some, None, if◌then◌else◌, length, decimal, codes, bytes_eq}
use Rattle.std.proofs.Common.{refl, sym, ap, ◌∙◌, subst, inl, inr, append_assoc, length-append, arith}
use Rattle.std.proofs.lemmas.Bool.{cases_Bool, eqb-true, and_parts, and_from, le-leb, or_left, or_right, eq-eqb}
use Rattle.std.proofs.lemmas.Fmt.{decimal_digit, decimal_step, length-decimal-le_wide}
use Rattle.std.specs.Char.{is_ascii_digit}
use Rattle.std.proofs.lemmas.Slice.Eq.{bytes_eq-Decides}
use Rattle.token_grammar.specs.declared.token.Kind.TheVariants as kinds
use Rattle.fixed_point.specs.declared.scale.TheConstants.{WIDTH_LIMIT, PLACES_LIMIT}
use Rattle.fixed_point.specs.Reading.{leading_digits, after_digits, value_of}
use Rattle.fixed_point.proofs.Numerals.{AreDigits, front_digits, back_digits, first_digit, other_digits}
use Rattle.fixed_point.proofs.Numerals.{numeral_decimal}
use Rattle.chart_tree.specs.Trees.{ScaleParts}
use Rattle.chart_lexer.specs.declared.words.TheConstants.{NAME_LIMIT}
use Rattle.chart_lexer.specs.Bytes.{is_letter, is_digit, is_name_byte}
use Rattle.chart_lexer.specs.Words.{name_length, word_kind, declaration_kind, statement_kind, mode_kind, is_name}
use Rattle.chart_grammar.specs.Types.{ScaleWord, plain_number, scale_within, frac_told, scale_told, scale_of}
use Rattle.chart_grammar.specs.Types.{scale_word, type_word}
use Rattle.chart_print.specs.Words.{is_int, int_bytes, fix_bytes}
use Rattle.canonical_text.specs.Terms.{IsScale}
use Rattle.canonical_text.specs.Claims.{scale_bytes, ScaleIsRead}
use Rattle.canonical_text.proofs.Runs.{run_append}

-- a scale by the word that it has
read_as : (scale : ScaleParts) (text : List ℕ) → scale_bytes scale ≡ text → is_name text ≡ true
    → type_word text ≡ Some (ScaleWord scale) → ScaleIsRead scale
read_as scale text bytes name told = record { named = ap is_name bytes ∙ name; told = ap type_word bytes ∙ told }

-- ---- whole numbers

-- two digits
decimal_two : (n : ℕ) → 10 ≤ n → n < 100 → decimal n ≡ (48 + n / 10) ∷ (48 + n % 10) ∷ []
decimal_two n many few =
    decimal_step n many (omega arith)
    ∙ ap (λ (ds : List ℕ). ds ++ (48 + n % 10) ∷ []) (decimal_digit (n / 10) (omega arith))

-- the same letters, and the digits
behind : {a b : List ℕ} (front : List ℕ) → a ≡ b → front ++ a ≡ front ++ b
behind front e = ap (λ (x : List ℕ). front ++ x) e

-- a whole number of `width` bits
abbrev whole_number : Bool → ℕ → ScaleParts
whole_number signed width = record { signed = signed; width = width; frac = 0 }

-- of 8, 16, 32 and 64 bits
read_8 : (signed : Bool) → ScaleIsRead (whole_number signed 8)
unfolding int_bytes word_kind scale_of type_word declaration_kind statement_kind mode_kind
read_8 true =
    read_as (whole_number true 8) (codes "int8") (behind (codes "int") (decimal_digit 8 (omega arith))) refl refl
read_8 false =
    read_as (whole_number false 8) (codes "uint8") (behind (codes "uint") (decimal_digit 8 (omega arith))) refl refl

-- a whole number of 16 bits
read_16 : (signed : Bool) → ScaleIsRead (whole_number signed 16)
unfolding int_bytes word_kind scale_of type_word declaration_kind statement_kind mode_kind
read_16 true = read_as (whole_number true 16) (codes "int16")
    (behind (codes "int") (decimal_two 16 (omega arith) (omega arith))) refl refl
read_16 false = read_as (whole_number false 16) (codes "uint16")
    (behind (codes "uint") (decimal_two 16 (omega arith) (omega arith))) refl refl

-- of 32 bits
read_32 : (signed : Bool) → ScaleIsRead (whole_number signed 32)
unfolding int_bytes word_kind scale_of type_word declaration_kind statement_kind mode_kind
read_32 true = read_as (whole_number true 32) (codes "int32")
    (behind (codes "int") (decimal_two 32 (omega arith) (omega arith))) refl refl
read_32 false = read_as (whole_number false 32) (codes "uint32")
    (behind (codes "uint") (decimal_two 32 (omega arith) (omega arith))) refl refl

-- of 64 bits
read_64 : (signed : Bool) → ScaleIsRead (whole_number signed 64)
unfolding int_bytes word_kind scale_of type_word declaration_kind statement_kind mode_kind
read_64 true = read_as (whole_number true 64) (codes "int64")
    (behind (codes "int") (decimal_two 64 (omega arith) (omega arith))) refl refl
read_64 false = read_as (whole_number false 64) (codes "uint64")
    (behind (codes "uint") (decimal_two 64 (omega arith) (omega arith))) refl refl

-- one of them, by its width
of_width : (scale : ScaleParts) (width : ℕ) → ((signed : Bool) → ScaleIsRead (whole_number signed width))
    → scale.width ≡ width → scale.frac ≡ 0 → ScaleIsRead scale
of_width scale width read wide whole =
    let same : whole_number scale.signed width ≡ scale =
    ap (λ (x : ℕ). record { signed = scale.signed; width = x; frac = 0 }) (sym wide)
    ∙ ap (λ (x : ℕ). record { signed = scale.signed; width = scale.width; frac = x }) (sym whole) in
    subst (λ (s : ScaleParts). ScaleIsRead s) same (read scale.signed)

-- any of them
int_read : (scale : ScaleParts) → is_int scale ≡ true → ScaleIsRead scale
int_read scale e =
    let tests = and_parts (eqb scale.frac 0)
    (eqb scale.width 8 || (eqb scale.width 16 || (eqb scale.width 32 || eqb scale.width 64))) e in
    let whole : scale.frac ≡ 0 = eqb-true scale.frac 0 tests.0 in
    elim (cases_Bool (eqb scale.width 8)) [
      | inl w8 ↦ of_width scale 8 read_8 (eqb-true scale.width 8 w8) whole
      | inr not_8 ↦ elim (cases_Bool (eqb scale.width 16)) [
        | inl w16 ↦ of_width scale 16 read_16 (eqb-true scale.width 16 w16) whole
        | inr not_16 ↦ elim (cases_Bool (eqb scale.width 32)) [
          | inl w32 ↦ of_width scale 32 read_32 (eqb-true scale.width 32 w32) whole
          | inr not_32 ↦ of_width scale 64 read_64
              (eqb-true scale.width 64 (rw (not_8, not_16, not_32) at tests.1)) whole
        ]
      ]
    ]

-- ---- other scales

-- all of these are bytes of names
NameBytes : List ℕ → Type 0
NameBytes s = name_length s ≡ length s

-- bytes of names after others are bytes of names
name_append : (front back : List ℕ) → NameBytes front → NameBytes back → NameBytes (front ++ back)
unfolding NameBytes
name_append front back all all_back = run_append is_name_byte front back all all_back

-- a digit is a byte of names
digit_is_name_byte : (d : ℕ) → is_ascii_digit d ≡ true → is_name_byte d ≡ true
digit_is_name_byte d e = or_right (is_letter d) (is_digit d || eqb d 95) (or_left (is_digit d) (eqb d 95) e)

-- digits are bytes of names
digits_name : (ds : List ℕ) → AreDigits ds → NameBytes ds
unfolding NameBytes
digits_name [] all = refl
digits_name (d ∷ ds) all =
    rw (digit_is_name_byte d (first_digit d ds all)) (omega (arith, digits_name ds (other_digits d ds all)))

-- digits, `_En` and digits
abbrev scaled_bytes : ScaleParts → List ℕ
scaled_bytes scale = decimal scale.width ++ 95 ∷ 69 ∷ 110 ∷ decimal scale.frac

-- they may stand in a name
scaled_names : (scale : ScaleParts) → IsScale scale → NameBytes (scaled_bytes scale)
unfolding NameBytes
scaled_names scale is =
    let wide = numeral_decimal scale.width (omega (arith, is.narrow)) in
    let short = numeral_decimal scale.frac (omega (arith, is.short)) in
    let rest : List ℕ = 95 ∷ 69 ∷ 110 ∷ decimal scale.frac in
    let last : name_length rest ≡ length rest = omega (arith, digits_name (decimal scale.frac) short.all) in
    name_append (decimal scale.width) rest (digits_name (decimal scale.width) wide.all) last

-- there are few of them
scaled_few : (scale : ScaleParts) → IsScale scale → length (scaled_bytes scale) ≤ 7
scaled_few scale is =
    let wide =
    length-decimal-le_wide 2 scale.width (omega arith) (omega (arith, is.narrow)) (omega (arith, is.narrow)) in
    let short = length-decimal-le_wide 2 scale.frac (omega arith) (omega (arith, is.short)) (omega (arith, is.short)) in
    omega (arith, length-append (decimal scale.width) (95 ∷ 69 ∷ 110 ∷ decimal scale.frac))

-- with a word of four letters in front they are a name
fixed_named : (letter : ℕ) (s : List ℕ) → is_letter letter ≡ true → NameBytes s → length s ≤ 7
    → word_kind (letter ∷ 102 ∷ 105 ∷ 120 ∷ s) ≡ kinds.Name → is_name (letter ∷ 102 ∷ 105 ∷ 120 ∷ s) ≡ true
unfolding NameBytes
fixed_named letter s first all few kind =
    let w : List ℕ = letter ∷ 102 ∷ 105 ∷ 120 ∷ s in
    let run : name_length w ≡ length w = rw first (omega (arith, all)) in
    and_from _ _ (and_from _ _ first (eq-eqb (name_length w) (length w) run))
    (and_from _ _ (le-leb (length w) NAME_LIMIT (omega arith)) (rw kind refl))

-- it is no reserved word, since none begins that way
signed_kind : (s : List ℕ) → word_kind (115 ∷ 102 ∷ 105 ∷ 120 ∷ s) ≡ kinds.Name
unfolding word_kind declaration_kind statement_kind mode_kind
signed_kind s = refl

-- a word that begins with `ufix` is no keyword
unsigned_kind : (s : List ℕ) → word_kind (117 ∷ 102 ∷ 105 ∷ 120 ∷ s) ≡ kinds.Name
unfolding word_kind declaration_kind statement_kind mode_kind
unsigned_kind s = refl

-- it is read as digits, `_En` and digits
signed_word : (s : List ℕ) → type_word (115 ∷ 102 ∷ 105 ∷ 120 ∷ s) ≡ scale_word (scale_told true s)
unfolding type_word scale_of
signed_word s = refl

-- and names an unsigned scale
unsigned_word : (s : List ℕ) → type_word (117 ∷ 102 ∷ 105 ∷ 120 ∷ s) ≡ scale_word (scale_told false s)
unfolding type_word scale_of
unsigned_word s = refl

-- the digits of a number are plain
plain_decimal : (n : ℕ) → n < 10 ^ 64 → plain_number (decimal n) ≡ Some n
plain_decimal n fits =
    let numeral = numeral_decimal n fits in
    let value : value_of (decimal n) ≡ n = numeral.value in
    let same : bytes_eq (decimal n) (decimal n) ≡ true = (bytes_eq-Decides (decimal n) (decimal n)).1 refl in
    rw (value, same) refl

-- the scale is told
told_again : (scale : ScaleParts) → IsScale scale → scale_told scale.signed (scaled_bytes scale) ≡ Some scale
told_again scale is =
    let rest : List ℕ = 95 ∷ 69 ∷ 110 ∷ decimal scale.frac in
    let wide = numeral_decimal scale.width (omega (arith, is.narrow)) in
    let front : plain_number (leading_digits (scaled_bytes scale)) ≡ Some scale.width =
    ap plain_number (front_digits (decimal scale.width) rest wide.all refl)
    ∙ plain_decimal scale.width (omega (arith, is.narrow)) in
    let back : frac_told (after_digits (scaled_bytes scale)) ≡ Some scale.frac =
    ap frac_told (back_digits (decimal scale.width) rest wide.all refl)
    ∙ plain_decimal scale.frac (omega (arith, is.short)) in
    let within :
    ((nat_le 1 scale.width && nat_le scale.width WIDTH_LIMIT) && (nat_le scale.frac PLACES_LIMIT && nat_le scale.frac scale.width))
    ≡ true =
    and_from _ _ (and_from _ _ (le-leb 1 scale.width is.some) (le-leb scale.width WIDTH_LIMIT is.narrow))
    (and_from _ _ (le-leb scale.frac PLACES_LIMIT is.short) (le-leb scale.frac scale.width is.inside)) in
    ap (λ (x : Option ℕ). scale_within scale.signed x (frac_told (after_digits (scaled_bytes scale)))) front
    ∙ ap (λ (x : Option ℕ). scale_within scale.signed (Some scale.width) x) back
    ∙ ap (λ (t : Bool). if t then Some scale else None) within

-- the word of a scale that isn't a whole number of 8, 16, 32 or 64 bits
fixed_bytes : (scale : ScaleParts) → is_int scale ≡ false
    → scale_bytes scale ≡ (if scale.signed then codes "sfix" else codes "ufix") ++ scaled_bytes scale
unfolding fix_bytes
fixed_bytes scale e =
    let prefix : List ℕ = if scale.signed then codes "sfix" else codes "ufix" in
    let wide : List ℕ = decimal scale.width in
    let short : List ℕ = decimal scale.frac in
    ap (λ (t : Bool). if t then int_bytes scale else fix_bytes scale) e
    ∙ append_assoc (prefix ++ wide) (codes "_En") short ∙ append_assoc prefix wide (codes "_En" ++ short)

-- it is read by its sign
fixed_read : (scale : ScaleParts) → IsScale scale → (signed : Bool) → scale.signed ≡ signed
    → scale_bytes scale ≡ (if signed then codes "sfix" else codes "ufix") ++ scaled_bytes scale → ScaleIsRead scale
fixed_read scale is true sign bytes =
    let s : List ℕ = scaled_bytes scale in
    let told : scale_told true s ≡ Some scale = ap (λ (x : Bool). scale_told x s) (sym sign) ∙ told_again scale is in
    read_as scale (115 ∷ 102 ∷ 105 ∷ 120 ∷ s) bytes
    (fixed_named 115 s refl (scaled_names scale is) (scaled_few scale is) (signed_kind s))
    (signed_word s ∙ ap scale_word told)
fixed_read scale is false sign bytes =
    let s : List ℕ = scaled_bytes scale in
    let told : scale_told false s ≡ Some scale = ap (λ (x : Bool). scale_told x s) (sym sign) ∙ told_again scale is in
    read_as scale (117 ∷ 102 ∷ 105 ∷ 120 ∷ s) bytes
    (fixed_named 117 s refl (scaled_names scale is) (scaled_few scale is) (unsigned_kind s))
    (unsigned_word s ∙ ap scale_word told)

-- every scale
pub scale_is_read : (scale : ScaleParts) → IsScale scale → ScaleIsRead scale
scale_is_read scale is =
    elim (cases_Bool (is_int scale)) [
      | inl whole ↦ int_read scale whole
      | inr other ↦ fixed_read scale is scale.signed refl (fixed_bytes scale other)
    ]
