-- What is known of the struct where a statement stands, and when it holds. It is told of places: a place is a field, or
-- a bit of a field. Each place has a home: a place and a number, those of the state above it. Of its number two sets
-- are known: which numbers it has where its home has that number, and which where its home has another one or none.
use Rattle.std.specs.Prelude.{◌≡◌, ◌==◌, ◌^◌, ℕ, ℤ, pos, negsuc, nat_lt, Bool, true, false, List, [], ◌∷◌}
use Rattle.std.specs.Prelude.{Option, Some, None, slice_get, if◌then◌else◌}
use Rattle.std.specs.Option.{option_and_then}
use Rattle.std.specs.Int.{bit_at}
use Rattle.c_subset.specs.declared.trees.Width.{Width}
use Rattle.c_subset.specs.declared.trees.CType.{CType}
use Rattle.c_subset.specs.declared.trees.CType.TheVariants.{Signed, Unsigned, Truth}
use Rattle.c_subset.specs.Meaning.{bits, Object, Store}
-- a place: a field, or a bit of a field
pub use Rattle.c_facts.specs.declared.known.Place.{Place}
use Rattle.c_facts.specs.declared.known.Place.TheVariants as places
-- the home of a place: a place, and its number
pub use Rattle.c_facts.specs.declared.known.Home.{Home}

-- what is known of a number: nothing, or that it is one of the first ones where the home has its number, and one of the
-- second ones elsewhere
pub data Sets : Type 0 where
  Anything : Sets
  OneOf : List ℕ → List ℕ → Sets

-- what is known of a place, whose field has the unsigned type of that width
pub record Row : Type 0 where
  pub place : Place
  pub width : Width
  pub home : Home
  pub sets : Sets

-- what is known of the struct: nothing holds, since no run comes here, or this of places
pub data Known : Type 0 where
  Never : Known
  Rows : List Row → Known

-- ---- places

-- the field of a place
abbrev pub field_of : Place → ℕ
field_of (places.Field f) = f
field_of (places.Bit f b) = f

-- the number at a place whose field has that number
abbrev pub number_in : Place → ℕ → ℕ
number_in (places.Field f) n = n
number_in (places.Bit f b) n = bit_at n b

-- the number at a place of an object, if it is a number of an unsigned type
abbrev pub number_of : Place → CType → Option ℤ → Option ℕ
number_of p (Unsigned w) (Some (pos n)) = if nat_lt n (2 ^ bits w) then Some (number_in p n) else None
number_of p (Unsigned w) (Some (negsuc n)) = None
number_of p (Unsigned w) None = None
number_of p (Signed w) o = None
number_of p Truth o = None

-- the number at a place, if its field has one
abbrev pub number_at : Store → Place → Option ℕ
number_at s p = option_and_then (λ (o : Object). number_of p o.type o.value) (slice_get s.fields (field_of p))

-- it is that number
abbrev pub is_number : Option ℕ → ℕ → Bool
is_number (Some n) v = n == v
is_number None v = false

-- the home has its number
abbrev pub is_at : Store → Home → Bool
is_at s h = is_number (number_at s h.place) h.value

-- ---- what holds

-- the number is one of these
abbrev pub is_in : ℕ → List ℕ → Bool
is_in z [] = false
is_in z (x ∷ xs) = if x == z then true else is_in z xs

-- an object of an unsigned type with a value, or with none
abbrev pub object : Width → Option ℤ → Object
object w v = record { type = Unsigned w; value = v }

-- the field has the unsigned type of that width
pub record IsThere (w : Width) (s : Store) (f : ℕ) : Type 0 where
  pub value : Option ℤ
  pub there : slice_get s.fields f ≡ Some (object w value)

-- the number at the place is one of these
pub record HasOne (s : Store) (p : Place) (xs : List ℕ) : Type 0 where
  pub number : ℕ
  pub there : number_at s p ≡ Some number
  pub among : is_in number xs ≡ true

-- what is known of the number at a place holds, where its home has its number, or where it hasn't
abbrev pub HasSets : Store → Place → Bool → Sets → Type 0
HasSets s p on_home Anything = Unit {0}
HasSets s p on_home (OneOf on off) = HasOne s p (if on_home then on else off)

-- each of these holds
abbrev pub HoldRows : Store → List Row → Type 0
HoldRows s [] = Unit {0}
HoldRows s (r ∷ rs) =
    IsThere r.width s (field_of r.place) × (HasSets s r.place (is_at s r.home) r.sets × HoldRows s rs)

-- what is known holds
abbrev pub Hold : Store → Known → Type 0
Hold s Never = ⊥
Hold s (Rows rs) = HoldRows s rs

-- in each struct in which the first holds the second does
abbrev pub Imply : Known → Known → Type 0
Imply a b = (s : Store) → Hold s a → Hold s b

-- ---- what stays

-- the type of a field, if it is there
abbrev pub type_at : Store → ℕ → Option CType
type_at s f = option_and_then (λ (o : Object). Some o.type) (slice_get s.fields f)

-- the place has the number in both structs that it has in the first one, if any, and its field the type
pub record Stays (s after : Store) (p : Place) : Type 0 where
  pub type : type_at after (field_of p) ≡ type_at s (field_of p)
  pub number : number_at after p ≡ number_at s p
