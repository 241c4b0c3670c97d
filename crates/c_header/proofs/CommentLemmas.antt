-- The comments of fields are plain.
use Rattle.std.proofs.Common.{◌≡◌, ◌+◌, ◌/◌, ◌%◌, ◌==◌, ℕ, zero, suc, Bool, true, false, nat_lt, ℤ, pos}
use Rattle.std.proofs.Common.{negsuc, List, [], ◌∷◌, ◌++◌, map, drop, reverse, codes, decimal, refl, arith}
use Rattle.std.proofs.Common.{if◌then◌else◌}
use Rattle.std.specs.Prelude.{slice_index_or}
use Rattle.std.specs.Fmt.{digit_glyph, digits_onto, digits, signed_decimal}
use Rattle.std.specs.List.{list_all, join_with_byte, AllByRecursion}
use Rattle.std.proofs.lemmas.Bool.{and_parts}
use Rattle.std.proofs.lemmas.Bool.Decides.{nat_tests}
use Rattle.fixed_point.specs.declared.scale.Scale.{Scale}
use Rattle.fixed_point.specs.Scales.{least, greatest}
use Rattle.active_config.specs.Tree.{Tree, ancestors, state_count, is_child}
use Rattle.actions.specs.declared.names.Sort.{Sort}
use Rattle.actions.specs.declared.names.Sort.TheVariants as sorts
use Rattle.actions.specs.declared.names.Var.{Var}
use Rattle.actions.specs.declared.names.VarKind.{VarKind}
use Rattle.actions.specs.declared.names.VarKind.TheVariants as var_kinds
use Rattle.actions.specs.Names.{Names}
use Rattle.chart_lexer.specs.Words.{is_name}
use Rattle.code_fields.specs.Spelling.{sign_word, sort_word, var_kind_word}
use Rattle.code_fields.proofs.NameLemmas.{is_name-bytes}
use Rattle.chart_parts.specs.Plain.{IsPlainByte, IsPlain}
use Rattle.chart_parts.proofs.PlainLemmas.{is_plain_byte, tested, plain_append, bytes_plain}
use Rattle.c_functions.specs.Plans.{Shape}
use Rattle.c_header.specs.declared.paths.Form.TheVariants.{Words}
use Rattle.c_header.specs.Paths.{state_name, part_text, path_text, place_text}
use Rattle.c_header.specs.Struct.{IsInside}
use Rattle.c_header.specs.Fields.{texts_below, unit_text, limits_text, values_text, child_lead, child_text}
use Rattle.c_header.specs.Fields.{children_text}

-- ---- texts

-- either of two texts
either_plain : (b : Bool) (x y : List ℕ) → IsPlain x → IsPlain y → IsPlain (if b then x else y)
either_plain true x y h g = h
either_plain false x y h g = g

-- some texts after others
pub all_after : (xs ys : List (List ℕ)) → AllByRecursion IsPlain xs → AllByRecursion IsPlain ys
    → AllByRecursion IsPlain (xs ++ ys)
all_after [] ys h g = g
all_after (x ∷ xs) ys h g = (h.0, all_after xs ys h.1 g)

-- texts that pass the test
pub all_tested : (texts : List (List ℕ)) → list_all (list_all is_plain_byte) texts ≡ true
    → AllByRecursion IsPlain texts
all_tested [] h = tt
all_tested (text ∷ texts) h =
    let both = and_parts (list_all is_plain_byte text) (list_all (list_all is_plain_byte) texts) h in
    (tested text both.0, all_tested texts both.1)

-- ---- numbers

-- a digit is neither a newline nor `*`
glyph_at : (d : ℕ) (below : Bool) → IsPlainByte (if below then 48 + d else 87 + d)
glyph_at d true = (grind (arith, nat_tests), grind (arith, nat_tests))
glyph_at d false = (grind (arith, nat_tests), grind (arith, nat_tests))

-- digits in front of a text
digits_plain : (k n : ℕ) (acc : List ℕ) → IsPlain acc → IsPlain (digits_onto k 10 false n acc)
digits_plain zero n acc h = h
digits_plain (suc k) n acc h =
    let glyph = digit_glyph false (n % 10) in
    let more : IsPlain (glyph ∷ acc) = (glyph_at (n % 10) (nat_lt (n % 10) 10), h) in
    either_plain (n / 10 == 0) (glyph ∷ acc) (digits_onto k 10 false (n / 10) (glyph ∷ acc)) more
    (digits_plain k (n / 10) (glyph ∷ acc) more)

-- a number
decimal_plain : (n : ℕ) → IsPlain (decimal n)
unfolding digits
decimal_plain n = digits_plain 64 n [] tt

-- one with a sign
signed_plain : (z : ℤ) → IsPlain (signed_decimal z)
signed_plain (pos n) = decimal_plain n
signed_plain (negsuc n) = ((refl, refl), decimal_plain (suc n))

-- ---- names

-- a name
pub name_plain : (name : List ℕ) → is_name name ≡ true → IsPlain name
name_plain name h = bytes_plain name (is_name-bytes name h)

-- one of many names, or nothing
name_at : (names : List (List ℕ)) → list_all is_name names ≡ true → (s : ℕ) → IsPlain (slice_index_or names s [])
name_at [] h s = tt
name_at (name ∷ names) h zero = name_plain name (and_parts (is_name name) (list_all is_name names) h).0
name_at (name ∷ names) h (suc s) = name_at names (and_parts (is_name name) (list_all is_name names) h).1 s

module _ (t : Tree) (n : Names) (named : list_all is_name n.states ≡ true) where
  -- names with slashes between them
  joined_plain : (ss : List ℕ) → IsPlain (join_with_byte 47 (map (λ x. part_text Words (state_name n x)) ss))
  joined_plain [] = tt
  joined_plain (s ∷ []) = name_at n.states named s
  joined_plain (s ∷ r ∷ ss) =
      plain_append (state_name n s)
      (47 ∷ join_with_byte 47 (map (λ x. part_text Words (state_name n x)) (r ∷ ss))) (name_at n.states named s)
      ((refl, refl), joined_plain (r ∷ ss))

  -- a path
  path_plain : (s : ℕ) → IsPlain (path_text Words t n s)
  unfolding path_text
  path_plain s = joined_plain (drop 1 (reverse (s ∷ ancestors t s)))

  -- a state, of which the root is the chart
  pub place_plain : (chart : List ℕ) → IsPlain chart → (s : ℕ) → IsPlain (place_text chart t n s)
  place_plain chart h s = either_plain (s == 0) chart (path_text Words t n s) h (path_plain s)

-- ---- children

-- a plain text, and one text after another
pub inside_of : (text : List ℕ) → IsPlain text → IsInside text
inside_of [] h = tt
inside_of (b ∷ bs) h = (h.0.1, inside_of bs h.1)

pub inside_all : (texts : List (List ℕ)) → AllByRecursion IsPlain texts → AllByRecursion IsInside texts
inside_all [] h = tt
inside_all (text ∷ texts) h = (inside_of text h.0, inside_all texts h.1)

pub inside_append : (xs ys : List ℕ) → IsInside xs → IsInside ys → IsInside (xs ++ ys)
inside_append [] ys h g = g
inside_append (x ∷ xs) ys h g = (h.0, inside_append xs ys h.1 g)

-- either of two
either_inside : (b : Bool) (x y : List ℕ) → IsInside x → IsInside y → IsInside (if b then x else y)
either_inside true x y h g = h
either_inside false x y h g = g

-- the texts of numbers below another one
below_inside : (text : ℕ → List ℕ) → ((x : ℕ) → IsInside (text x)) → (n : ℕ) → IsInside (texts_below text n)
below_inside text each zero = tt
below_inside text each (suc n) = inside_append (texts_below text n) (text n) (below_inside text each n) (each n)

-- what stands before a child
lead_inside : (p x : ℕ) → IsInside (child_lead p x)
lead_inside p x =
    either_inside (x == p + 1) (codes ":\n        ") (codes ",\n        ")
    (refl, (refl, (refl, (refl, (refl, (refl, (refl, (refl, (refl, (refl, tt))))))))))
    (refl, (refl, (refl, (refl, (refl, (refl, (refl, (refl, (refl, (refl, tt))))))))))

module _ (K : Shape) (named : list_all is_name K.names.states ≡ true) (p : ℕ) where
  -- a state with its number, if it is a child
  child_inside : (x : ℕ) → IsInside (child_text K p x)
  child_inside x =
      either_inside (is_child K.tree p x)
      (child_lead p x ++ (decimal (K.numbers x) ++ (32 ∷ state_name K.names x))) []
      (inside_append (child_lead p x) (decimal (K.numbers x) ++ (32 ∷ state_name K.names x)) (lead_inside p x)
      (inside_of (decimal (K.numbers x) ++ (32 ∷ state_name K.names x))
      (plain_append (decimal (K.numbers x)) (32 ∷ state_name K.names x) (decimal_plain (K.numbers x))
      ((refl, refl), name_at K.names.states named x)))) tt

  -- all children
  pub children_inside : IsInside (children_text K p)
  unfolding children_text
  children_inside = below_inside (child_text K p) child_inside (state_count K.tree)

-- ---- data and counters

-- who sets a datum
kind_plain : (kind : VarKind) → IsPlain (var_kind_word kind)
kind_plain var_kinds.Input = tested (codes "input") refl
kind_plain var_kinds.Output = tested (codes "output") refl
kind_plain var_kinds.Local = tested (codes "local") refl

-- a scale is signed or unsigned
sign_plain : (signed : Bool) → IsPlain (sign_word signed)
sign_plain true = tested (codes "sfix") refl
sign_plain false = tested (codes "ufix") refl

module _ (scale : Scale) where
  -- the scale
  scale_plain : IsPlain (sort_word (sorts.Number scale))
  scale_plain =
      plain_append (sign_word scale.signed) (decimal scale.width ++ (codes "_En" ++ decimal scale.frac))
      (sign_plain scale.signed)
      (plain_append (decimal scale.width) (codes "_En" ++ decimal scale.frac) (decimal_plain scale.width)
      (plain_append (codes "_En") (decimal scale.frac) (tested (codes "_En") refl) (decimal_plain scale.frac)))

  -- its least and its greatest mantissa
  limits_plain : IsPlain (limits_text scale)
  unfolding limits_text
  limits_plain =
      plain_append (codes ": ")
      (signed_decimal (least scale) ++ (codes " to " ++ signed_decimal (greatest scale))) (tested (codes ": ") refl)
      (plain_append (signed_decimal (least scale)) (codes " to " ++ signed_decimal (greatest scale))
      (signed_plain (least scale))
      (plain_append (codes " to ") (signed_decimal (greatest scale)) (tested (codes " to ") refl)
      (signed_plain (greatest scale))))

  -- its unit
  unit_plain : IsPlain (unit_text scale.frac)
  unit_plain =
      either_plain (scale.frac == 0) [] (codes ", in units of 2^-" ++ decimal scale.frac) tt
      (plain_append (codes ", in units of 2^-") (decimal scale.frac) (tested (codes ", in units of 2^-") refl)
      (decimal_plain scale.frac))

-- the values of a datum
values_plain : (sort : Sort) → IsPlain (values_text sort)
unfolding values_text
values_plain sorts.Flag = tt
values_plain (sorts.Number scale) =
    plain_append (codes " ") (sort_word (sorts.Number scale) ++ (limits_text scale ++ unit_text scale.frac))
    (tested (codes " ") refl)
    (plain_append (sort_word (sorts.Number scale)) (limits_text scale ++ unit_text scale.frac) (scale_plain scale)
    (plain_append (limits_text scale) (unit_text scale.frac) (limits_plain scale) (unit_plain scale)))

-- a datum
pub datum_plain : (v : Var) → IsPlain (var_kind_word v.kind ++ values_text v.sort)
datum_plain v = plain_append (var_kind_word v.kind) (values_text v.sort) (kind_plain v.kind) (values_plain v.sort)
