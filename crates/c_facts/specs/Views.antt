-- What is known, as the code keeps it.
use Rattle.std.specs.Prelude.{List, [], ◌∷◌, ℕ}
use Rattle.c_facts.specs.Known as spec
use Rattle.c_facts.specs.Known.{Place}
use Rattle.c_facts.specs.declared.known.Numbers.{Numbers}
use Rattle.c_facts.specs.declared.known.Numbers.TheVariants as numbers
use Rattle.c_facts.specs.declared.known.Places.{Places}
use Rattle.c_facts.specs.declared.known.Places.TheVariants as sets_of_places
use Rattle.c_facts.specs.declared.known.Sets.{Sets}
use Rattle.c_facts.specs.declared.known.Sets.TheVariants as sets
use Rattle.c_facts.specs.declared.known.Row.{Row}
use Rattle.c_facts.specs.declared.known.Rows.{Rows}
use Rattle.c_facts.specs.declared.known.Rows.TheVariants as rows
use Rattle.c_facts.specs.declared.known.Known.{Known}
use Rattle.c_facts.specs.declared.known.Known.TheVariants as known

-- the numbers
abbrev pub numbers_of : Numbers → List ℕ
numbers_of numbers.Empty = []
numbers_of (numbers.One' x p rest) = x ∷ numbers_of rest

-- the places
abbrev pub places_of : Places → List Place
places_of sets_of_places.Empty = []
places_of (sets_of_places.One' x p rest) = x ∷ places_of rest

-- what is known of a number
abbrev pub sets_of : Sets → spec.Sets
sets_of sets.Anything = spec.Anything
sets_of (sets.OneOf on off) = spec.OneOf (numbers_of on) (numbers_of off)

-- what is known of a place
abbrev pub row_of : Row → spec.Row
row_of r = record { place = r.place; width = r.width; home = r.home; sets = sets_of r.sets }

-- what is known of each place
abbrev pub rows_of : Rows → List spec.Row
rows_of rows.End = []
rows_of (rows.More' r p rest) = row_of r ∷ rows_of rest

-- what is known
abbrev pub known_of : Known → spec.Known
known_of known.Never = spec.Never
known_of (known.Of rs) = spec.Rows (rows_of rs)
