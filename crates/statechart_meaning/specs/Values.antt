-- The values of constants and enumerators, the types of enumerations, and first values.
use Rattle.std.specs.Prelude.{ℕ, ◌+◌, ◌-◌, ◌^◌, ◌==◌, nat_lt, nat_le, Bool, true, false, not, ◌&&◌}
use Rattle.std.specs.Prelude.{List, [], ◌∷◌, ◌++◌, map, Option, Some, None, bytes_eq, if◌then◌else◌}
use Rattle.std.specs.Option.{option_map, unwrap_or}
use Rattle.token_grammar.specs.declared.token.Span.{Span}
use Rattle.fixed_point.specs.declared.fitting.Mode.TheVariants.{Saturate}
use Rattle.chart_tree.specs.declared.name.NameText.{NameText}
use Rattle.chart_tree.specs.declared.name.LitText.{LitText}
use Rattle.chart_tree.specs.declared.expr.UnWord.TheVariants.{Neg}
use Rattle.chart_tree.specs.declared.sort.InitText.{InitText}
use Rattle.chart_tree.specs.declared.sort.InitText.TheVariants as inits
use Rattle.chart_tree.specs.Trees as core
use Rattle.chart_tree.specs.Trees.{Path}
use Rattle.statechart_tree.specs.declared.declarations.Member.{Member}
use Rattle.statechart_meaning.specs.Numbers.{number, binary_of, whole_of, at_bits, wide}
use Rattle.statechart_tree.specs.Trees.{Enumeration, Constant, Sort, Plain, OfEnumeration, First, Missing, Given, Named}

-- ---- values

-- the value of a constant or an enumerator: a number, with whether it is below 0, or a flag
pub data Value : Type 0 where
  NumberValue : Bool → LitText → Value
  FlagValue : Bool → Value

-- a value of that name
pub record Valued : Type 0 where
  pub name : List ℕ
  pub value : Value

-- the first value of the name
abbrev pub value_named : List Valued → List ℕ → Option Value
value_named [] name = None
value_named (v ∷ vs) name = if bytes_eq v.name name then Some v.value else value_named vs name

-- the value at the place of its use
abbrev pub value_expr : Value → Span → core.Expr
value_expr (NumberValue false lit) at = core.Lit lit at
value_expr (NumberValue true lit) at = core.Unary Neg (core.Lit lit at) at
value_expr (FlagValue value) at = core.Flag value at

-- ---- enumerators

-- a whole number
pub record Whole : Type 0 where
  pub negative : Bool
  pub size : ℕ

-- 0 isn't below 0
abbrev pub whole : Bool → ℕ → Whole
whole negative size = record { negative = negative && not (size == 0); size = size }

-- one more; one of over 64 bits isn't accepted
abbrev pub one_more : Whole → Whole
one_more w =
    if w.negative then whole true (w.size - 1) else (if nat_lt w.size wide then whole false (w.size + 1) else w)

-- the number that is written, or else the given one; one that isn't whole isn't accepted
abbrev pub member_number : Whole → Option (Bool × LitText × Span) → Whole
member_number next None = next
member_number next (Some n) = whole n.0 (unwrap_or (whole_of n.1) 0)

-- the enumerators with their numbers, where the next number is that one
abbrev pub numbered : Whole → List Member → List (Member × Whole)
numbered next [] = []
numbered next (m ∷ ms) = (m, member_number next m.number) ∷ numbered (one_more (member_number next m.number)) ms

-- those of an enumeration
abbrev pub members_of : Enumeration → List (Member × Whole)
members_of e = numbered (whole false 0) e.members

-- an enumerator as a value
abbrev pub member_value : Member × Whole → Valued
member_value m = record { name = m.0.name.text; value = NumberValue m.1.negative (number m.1.size) }

-- the values of an enumeration
abbrev pub enumeration_values : Enumeration → List Valued
enumeration_values e = map member_value (members_of e)

-- the first enumeration of the name
abbrev pub enumeration_named : List Enumeration → List ℕ → Option Enumeration
enumeration_named [] name = None
enumeration_named (e ∷ es) name = if bytes_eq e.name.text name then Some e else enumeration_named es name

-- the value, or else the other one
abbrev pub or_value : Option Value → Option Value → Option Value
or_value None other = other
or_value (Some v) other = Some v

-- the enumerator of the name, of the first enumeration that has one
abbrev pub enumerator_named : List Enumeration → List ℕ → Option Value
enumerator_named [] name = None
enumerator_named (e ∷ es) name = or_value (value_named (enumeration_values e) name) (enumerator_named es name)

-- the enumerator of that name of an enumeration, if there is one
abbrev pub value_in : Option Enumeration → List ℕ → Option Value
value_in None name = None
value_in (Some e) name = value_named (enumeration_values e) name

-- ---- the type of an enumeration

-- the size of a number that is below 0, or of one that isn't, and 0 of another one
abbrev pub size_with : Bool → Whole → ℕ
size_with false w = if w.negative then 0 else w.size
size_with true w = if w.negative then w.size else 0

-- the greatest of such sizes and of what was found before
abbrev pub farthest : Bool → ℕ → List (Member × Whole) → ℕ
farthest negative found [] = found
farthest negative found (m ∷ ms) =
    farthest negative (if nat_lt found (size_with negative m.1) then size_with negative m.1 else found) ms

-- whether the width has room: unsigned, and with a sign
abbrev pub holds : Bool → ℕ → ℕ → ℕ → Bool
holds false high low width = nat_lt high (2 ^ width)
holds true high low width = nat_lt high (2 ^ (width - 1)) && nat_le low (2 ^ (width - 1))

-- the least of the four widths that has room, or else the greatest
abbrev pub width_for : Bool → ℕ → ℕ → ℕ
width_for signed high low =
    if holds signed high low 8 then 8
    else (if holds signed high low 16 then 16 else (if holds signed high low 32 then 32 else 64))

-- the least type of whole numbers that has all enumerators; it has a sign where one of them is below 0
abbrev pub enumeration_sort : List (Member × Whole) → core.Sort
enumeration_sort ms =
    let high = farthest false 0 ms in
    let low = farthest true 0 ms in
    core.NumberSort (record { signed = nat_lt 0 low; width = width_for (nat_lt 0 low) high low; frac = 0 }) Saturate

-- ---- types and first values

-- the type of the enumeration, if there is one
abbrev pub sort_in : Option Enumeration → core.Sort
sort_in None = core.FlagSort
sort_in (Some e) = enumeration_sort (members_of e)

-- the type for which a type stands
abbrev pub expand_sort : List Enumeration → Sort → core.Sort
expand_sort es (Plain sort) = sort
expand_sort es (OfEnumeration name) = sort_in (enumeration_named es name.text)

-- the value of what is written
abbrev pub value_of : InitText → Value
value_of (inits.Number negative lit at) = NumberValue negative lit
value_of (inits.Flag value at) = FlagValue value

-- the number with a minus sign before it
abbrev pub minus : Value → Value
minus (NumberValue negative lit) = NumberValue (not negative) lit
minus (FlagValue value) = FlagValue value

-- the value, with a minus sign before it where one is written
abbrev pub with_sign : Bool → Value → Value
with_sign false v = v
with_sign true v = minus v

-- the literal of a number that isn't below 0
abbrev pub literal_of : Value → Option LitText
literal_of (NumberValue false lit) = Some lit
literal_of (NumberValue true lit) = None
literal_of (FlagValue value) = None

-- the value that a path denotes among constants and enumerators: `X`, or `M.X`
abbrev pub path_value : List Enumeration → List Valued → Path → Option Value
path_value es vs [] = None
path_value es vs (x ∷ []) = or_value (value_named vs x.text) (enumerator_named es x.text)
path_value es vs (m ∷ (x ∷ [])) = value_in (enumeration_named es m.text) x.text
path_value es vs (m ∷ (x ∷ (y ∷ rest))) = None

-- the value that is written, if one is
abbrev pub first_value : List Enumeration → List Valued → First → Option Value
first_value es vs Missing = None
first_value es vs (Given init) = Some (value_of init)
first_value es vs (Named negative path at) = option_map (with_sign negative) (path_value es vs path)

-- ---- constants

-- a value as that of a datum of the type
abbrev pub typed : core.Sort → Value → Value
typed core.FlagSort v = v
typed (core.NumberSort scale mode) (FlagValue value) = FlagValue value
typed (core.NumberSort scale mode) (NumberValue negative lit) =
    NumberValue negative (at_bits scale.frac lit (binary_of lit))

-- the value with the type, if one is written
abbrev pub with_sort : List Enumeration → Option Sort → Value → Value
with_sort es None v = v
with_sort es (Some sort) v = typed (expand_sort es sort) v

-- the value of a constant, where those above it have these values; one without a value isn't accepted
abbrev pub constant_value : List Enumeration → List Valued → Constant → Value
constant_value es vs k = with_sort es k.sort (unwrap_or (first_value es vs k.value) (FlagValue false))

-- the values of constants behind those that are known, each with those above it
abbrev pub values_after : List Enumeration → List Valued → List Constant → List Valued
values_after es vs [] = vs
values_after es vs (k ∷ ks) = values_after es (vs ++ record { name = k.name.text; value = constant_value es vs k } ∷ []) ks

-- the values of the constants
abbrev pub values_of : List Enumeration → List Constant → List Valued
values_of es ks = values_after es [] ks

-- ---- first values of data

-- the first enumerator
abbrev pub first_member : List (Member × Whole) → Value
first_member [] = FlagValue false
first_member (m ∷ ms) = NumberValue m.1.negative (number m.1.size)

-- the first enumerator of an enumeration, if there is one
abbrev pub first_in : Option Enumeration → Value
first_in None = FlagValue false
first_in (Some e) = first_member (members_of e)

-- the first value of a datum that has none written: 0, false, or the first enumerator
abbrev pub missing_value : List Enumeration → Sort → Value
missing_value es (Plain core.FlagSort) = FlagValue false
missing_value es (Plain (core.NumberSort scale mode)) = NumberValue false (number 0)
missing_value es (OfEnumeration name) = first_in (enumeration_named es name.text)

-- a value as a first value; 0 has one form
abbrev pub init_of : Value → Span → InitText
init_of (FlagValue value) at = inits.Flag value at
init_of (NumberValue negative lit) at =
    if lit.units == 0 then inits.Number false (number 0) at else inits.Number negative lit at

-- the first value of a datum of that type and name
abbrev pub expand_first : List Enumeration → List Valued → Sort → NameText → First → InitText
expand_first es vs sort name Missing = init_of (missing_value es sort) name.at
expand_first es vs sort name (Given init) = init
expand_first es vs sort name (Named negative path at) =
    init_of (unwrap_or (first_value es vs (Named negative path at)) (missing_value es sort)) at
