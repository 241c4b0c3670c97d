-- What is known of a small chart, by which single cases are computed. Field 0 tells the child of an OR, of which child
-- 2 is an OR too, whose child field 1 tells. Field 2 has the flags: bit 0 is the root's, and bit 1 that of another
-- state below the root.
use Rattle.std.specs.Prelude.{ℕ, pos, List, [], ◌∷◌}
use Rattle.c_subset.specs.declared.trees.Width.TheVariants.{W16, W32}
use Rattle.c_subset.specs.declared.trees.CType.TheVariants.{Unsigned}
use Rattle.c_subset.specs.declared.trees.Bitwise.TheVariants.{BitAnd, BitOr}
use Rattle.c_subset.specs.declared.trees.Comparison.TheVariants.{IsEqual, IsUnequal}
use Rattle.c_subset.specs.Trees.{CExpr, Const, Field, Bits, Compare}
use Rattle.c_facts.specs.Known.{Sets, OneOf, Known, Rows}
use Rattle.c_facts.specs.declared.known.Place.TheVariants as places

-- what is known of the four places
abbrev pub chart_known : Sets → Sets → Sets → Sets → Known
chart_known outer inner root other = Rows (
    record {
      place = places.Field 0;
      width = W16;
      home = record { place = places.Bit 2 0; value = 1 };
      sets = outer;
    } ∷ record {
      place = places.Field 1;
      width = W16;
      home = record { place = places.Field 0; value = 2 };
      sets = inner;
    } ∷ record {
      place = places.Bit 2 0;
      width = W32;
      home = record { place = places.Bit 2 0; value = 1 };
      sets = root;
    } ∷ record {
      place = places.Bit 2 1;
      width = W32;
      home = record { place = places.Bit 2 0; value = 1 };
      sets = other;
    } ∷ []
    )

-- where a home has its number, one of these; elsewhere 0
abbrev pub or_none : List ℕ → Sets
or_none on = OneOf on (0 ∷ [])

-- one of these, in a home that has its number
abbrev pub surely : List ℕ → Sets
surely on = OneOf on []

-- what is known between two events
abbrev pub between : Known
between = chart_known (or_none (1 ∷ 2 ∷ [])) (or_none (3 ∷ 4 ∷ [])) (or_none (1 ∷ [])) (or_none (0 ∷ 1 ∷ []))

-- `m->f == C`
abbrev pub is_child : ℕ → ℕ → CExpr
is_child f n = Compare IsEqual (Field f) (Const (Unsigned W16) (pos n))

-- `(m->f & MASK) != 0`
abbrev pub is_set : ℕ → ℕ → CExpr
is_set f mask =
    Compare IsUnequal (Bits BitAnd (Field f) (Const (Unsigned W32) (pos mask))) (Const (Unsigned W32) (pos 0))

-- `m->f | MASK`
abbrev pub with_bits : ℕ → ℕ → CExpr
with_bits f mask = Bits BitOr (Field f) (Const (Unsigned W32) (pos mask))

-- `m->f & MASK`
abbrev pub only_bits : ℕ → ℕ → CExpr
only_bits f mask = Bits BitAnd (Field f) (Const (Unsigned W32) (pos mask))
