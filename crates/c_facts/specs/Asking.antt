-- What tests and stores of the C tell.
use Rattle.std.specs.Prelude.{◌==◌, ◌-◌, ◌^◌, not, ℕ, zero, suc, ℤ, pos, negsuc, nat_lt, Bool, true, false, List}
use Rattle.std.specs.Prelude.{Option, Some, None, if◌then◌else◌}
use Rattle.c_subset.specs.declared.trees.Width.{Width}
use Rattle.c_subset.specs.declared.trees.Width.TheVariants.{W8, W16, W32, W64, W128}
use Rattle.c_subset.specs.declared.trees.CType.{CType}
use Rattle.c_subset.specs.declared.trees.CType.TheVariants.{Signed, Unsigned, Truth}
use Rattle.c_subset.specs.declared.trees.Bitwise.{Bitwise}
use Rattle.c_subset.specs.declared.trees.Bitwise.TheVariants.{BitAnd, BitOr}
use Rattle.c_subset.specs.declared.trees.Comparison.{Comparison}
use Rattle.c_subset.specs.declared.trees.Comparison.TheVariants.{IsEqual, IsUnequal, IsBelow, IsAtMost, IsAbove}
use Rattle.c_subset.specs.declared.trees.Comparison.TheVariants.{IsAtLeast}
use Rattle.c_subset.specs.Trees.{CExpr, Const, Field, Element, Local, Cast, Minus, Bang, Calc, Divide, Bits, Compare}
use Rattle.c_subset.specs.Trees.{Both, Either, Choose}
use Rattle.c_subset.specs.Meaning.{bits, is_true}
use Rattle.c_facts.specs.Known.{Place, Known, Never, Rows, Row}
use Rattle.c_facts.specs.Facts.{Written, agrees, width_at, is_numbered, narrowed, joined, stored_in, has_place}
use Rattle.c_facts.specs.Facts.{is_covered}
use Rattle.c_facts.specs.declared.known.Place.TheVariants as places
use Rattle.c_facts.specs.declared.known.Written.TheVariants as writes
-- a number of an unsigned type
pub use Rattle.c_facts.specs.declared.known.Constant.{Constant}
-- the question whether a place, whose field has that width, has a number
pub use Rattle.c_facts.specs.declared.known.Question.{Question}

-- ---- constants

-- numbers below it are of the type, and of 32 bits
abbrev pub limit : Width → ℕ
limit W8 = 256
limit W16 = 65536
limit W32 = 4294967296
limit W64 = 4294967296
limit W128 = 4294967296

-- the constant of the type, if it is a number of it
abbrev pub small : Width → ℤ → Option Constant
small w (pos n) = if nat_lt n (limit w) then Some (record { width = w; number = n }) else None
small w (negsuc n) = None

-- a constant of an unsigned type
abbrev pub unsigned_of : CType → ℤ → Option Constant
unsigned_of (Signed w) z = None
unsigned_of (Unsigned w) z = small w z
unsigned_of Truth z = None

-- the constant that an expression is
abbrev pub constant_of : CExpr → Option Constant
constant_of (Const t z) = unsigned_of t z
constant_of (Field f) = None
constant_of (Element a e) = None
constant_of (Local t k) = None
constant_of (Cast t e) = None
constant_of (Minus e) = None
constant_of (Bang e) = None
constant_of (Calc op a b) = None
constant_of (Divide op a b) = None
constant_of (Bits op a b) = None
constant_of (Compare op a b) = None
constant_of (Both a b) = None
constant_of (Either a b) = None
constant_of (Choose t c a b) = None

-- the field that an expression is
abbrev pub field_in : CExpr → Option ℕ
field_in (Const t z) = None
field_in (Field f) = Some f
field_in (Element a e) = None
field_in (Local t k) = None
field_in (Cast t e) = None
field_in (Minus e) = None
field_in (Bang e) = None
field_in (Calc op a b) = None
field_in (Divide op a b) = None
field_in (Bits op a b) = None
field_in (Compare op a b) = None
field_in (Both a b) = None
field_in (Either a b) = None
field_in (Choose t c a b) = None

-- ---- tests

-- which of so many bits alone is set in a mask, if it is one of them
abbrev pub single_bit : ℕ → ℕ → Option ℕ
single_bit zero mask = None
single_bit (suc b) mask = if mask == 2 ^ b then Some b else single_bit b mask

-- whether a bit is set, by the field, the mask and the number 0
abbrev pub bit_question : ℕ → Constant → Option ℕ → Option Question
bit_question f c None = None
bit_question f c (Some b) = Some (record { place = places.Bit f b; width = c.width; number = 0 })

-- `(m->f & MASK) == 0`, by its operands
abbrev pub masked_question : Option ℕ → Option Constant → Option Constant → Option Question
masked_question None m c = None
masked_question (Some f) None c = None
masked_question (Some f) (Some m) None = None
masked_question (Some f) (Some m) (Some c) =
    if bits m.width == bits c.width then (
    if c.number == 0 then bit_question f m (single_bit 32 m.number) else None
    ) else None

-- `m->f == C`, by its operands
abbrev pub field_question : Option ℕ → Option Constant → Option Question
field_question None c = None
field_question (Some f) None = None
field_question (Some f) (Some c) =
    Some (record { place = places.Field f; width = c.width; number = c.number })

-- `(a & b) == e`
abbrev pub bits_question : Bitwise → CExpr → CExpr → CExpr → Option Question
bits_question BitAnd a b e = masked_question (field_in a) (constant_of b) (constant_of e)
bits_question BitOr a b e = None

-- what a comparison of two expressions asks: a field and a constant, or a bit of a field and 0
abbrev pub question : CExpr → CExpr → Option Question
question (Const t z) e = None
question (Field f) e = field_question (Some f) (constant_of e)
question (Element a i) e = None
question (Local t k) e = None
question (Cast t a) e = None
question (Minus a) e = None
question (Bang a) e = None
question (Calc op a b) e = None
question (Divide op a b) e = None
question (Bits op a b) e = bits_question op a b e
question (Compare op a b) e = None
question (Both a b) e = None
question (Either a b) e = None
question (Choose t c a b) e = None

-- whether a comparison is one of equality, and of which kind
abbrev pub equality : Comparison → Option Bool
equality IsEqual = Some true
equality IsUnequal = Some false
equality IsBelow = None
equality IsAtMost = None
equality IsAbove = None
equality IsAtLeast = None

-- after a comparison of that kind came out so
abbrev pub answered : Bool → Option Bool → Option Question → Known → Known
answered way None q k = k
answered way (Some eq) None k = k
answered way (Some eq) (Some q) k = narrowed (agrees eq way) q.number q.place q.width k

-- after a constant came out so
abbrev pub settled : Bool → CType → ℤ → Known → Known
settled way (Signed w) z k = if agrees way (is_true z) then k else Never
settled way (Unsigned w) z k = k
settled way Truth z k = if agrees way (is_true z) then k else Never

-- after a test came out so
unfoldable pub tested : Bool → CExpr → Known → Known
tested way (Const t z) k = settled way t z k
tested way (Field f) k = k
tested way (Element a e) k = k
tested way (Local t i) k = k
tested way (Cast t e) k = k
tested way (Minus e) k = k
tested way (Bang e) k = tested (not way) e k
tested way (Calc op a b) k = k
tested way (Divide op a b) k = k
tested way (Bits op a b) k = k
tested way (Compare op a b) k = answered way (equality op) (question a b) k
tested true (Both a b) k = tested true b (tested true a k)
tested false (Both a b) k = joined (tested false a k) (tested false b (tested true a k))
tested true (Either a b) k = joined (tested true a k) (tested true b (tested false a k))
tested false (Either a b) k = tested false b (tested false a k)
tested way (Choose t c a b) k = k

-- ---- stores

-- a number, where it has that width
abbrev pub number_written : Width → Option Constant → Written
number_written w None = writes.Other
number_written w (Some c) = if bits c.width == bits w then writes.Number c.number else writes.Other

-- `m->f = m->g & C` and `m->f = m->g | C`
abbrev pub mask_written : Bitwise → ℕ → Written
mask_written BitAnd m = writes.KeepsBits m
mask_written BitOr m = writes.SetsBits m

-- bits of a field that has a number of that width, by the field to which they go, the field and the mask
abbrev pub bits_written : Width → ℕ → Bitwise → Option ℕ → Option Constant → Written
bits_written w f op None c = writes.Other
bits_written w f op (Some g) None = writes.Other
bits_written w f op (Some g) (Some c) =
    if f == g then (if bits c.width == bits w then mask_written op c.number else writes.Other) else writes.Other

-- what `m->f = e;` puts into a field that has that width, and a number or maybe none
abbrev pub written_in : Bool → Width → ℕ → CExpr → Written
written_in numbered w f (Const t z) = number_written w (unsigned_of t z)
written_in numbered w f (Field g) = writes.Other
written_in numbered w f (Element a e) = writes.Other
written_in numbered w f (Local t k) = writes.Other
written_in numbered w f (Cast t e) = writes.Other
written_in numbered w f (Minus e) = writes.Other
written_in numbered w f (Bang e) = writes.Other
written_in numbered w f (Calc op a b) = writes.Other
written_in numbered w f (Divide op a b) = writes.Other
written_in numbered w f (Bits op a b) =
    if numbered then bits_written w f op (field_in a) (constant_of b) else writes.Other
written_in numbered w f (Compare op a b) = writes.Other
written_in numbered w f (Both a b) = writes.Other
written_in numbered w f (Either a b) = writes.Other
written_in numbered w f (Choose t c a b) = writes.Other

-- the same, where nothing may be known of the field
abbrev pub written_by : Bool → Option Width → ℕ → CExpr → Written
written_by numbered None f e = writes.Other
written_by numbered (Some w) f e = written_in numbered w f e

-- what `m->f = e;` puts into the field by what is known
abbrev pub written : ℕ → CExpr → List Row → Written
written f e rs = written_by (is_numbered f rs) (width_at f rs) f e

-- after `m->f = e;`
abbrev pub stored : ℕ → CExpr → Known → Known
stored f e Never = Never
stored f e (Rows rs) = Rows (stored_in f (written f e rs) rs)

-- which of so many bits alone isn't set in a mask of 32 bits, if it is one of them
abbrev pub single_gap : ℕ → ℕ → Option ℕ
single_gap zero mask = None
single_gap (suc b) mask = if mask == 2 ^ 32 - 1 - 2 ^ b then Some b else single_gap b mask

-- the bit of the field is covered
abbrev pub bit_covered : List Place → ℕ → Option ℕ → Bool
bit_covered ps f None = false
bit_covered ps f (Some b) = is_covered ps (places.Bit f b)

-- what is written into the field changes only these places
abbrev pub may_write : List Place → Width → ℕ → Written → Bool
may_write ps w f writes.Other = false
may_write ps w f (writes.Number n) = false
may_write ps w f (writes.SetsBits m) = bit_covered ps f (single_bit 32 m)
may_write ps w f (writes.KeepsBits m) = if bits w == 32 then bit_covered ps f (single_gap 32 m) else false

-- the same, where nothing may be known of the field
abbrev pub may_write_by : List Place → Option Width → ℕ → Written → Bool
may_write_by ps None f e = false
may_write_by ps (Some w) f e = may_write ps w f e

-- `m->f = e;` changes only these places
abbrev pub may_store : List Place → ℕ → CExpr → Known → Bool
may_store ps f e Never = true
may_store ps f e (Rows rs) =
    if has_place ps (places.Field f) then true else may_write_by ps (width_at f rs) f (written f e rs)
