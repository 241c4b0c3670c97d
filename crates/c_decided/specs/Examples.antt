-- A small plan, by which single cases are computed. Field 0 tells the child of the chart, 2 or 5; child 2 has the
-- children 3 and 4, which field 1 tells, and child 5 has 6 and 7, which field 2 tells. Function 0 returns 1 where it
-- leaves child 4 active, and else 0.
use Rattle.std.specs.Prelude.{ℕ, pos, false, [], ◌∷◌}
use Rattle.c_subset.specs.declared.trees.Width.TheVariants.{W16, W32}
use Rattle.c_subset.specs.declared.trees.CType.{CType}
use Rattle.c_subset.specs.declared.trees.CType.TheVariants.{Unsigned}
use Rattle.c_subset.specs.declared.trees.Comparison.TheVariants.{IsEqual}
use Rattle.c_subset.specs.Trees.{CExpr, Const, Field, Local, Compare, Block, Call, Return}
use Rattle.c_facts.specs.Known.{Sets, OneOf, Known, Never, Rows}
use Rattle.c_facts.specs.declared.known.Place.TheVariants as places
use Rattle.c_decided.specs.Facts.{alone}
use Rattle.c_decided.specs.Decided.{Plan}
use Rattle.c_decided.specs.Walk.{Walked, walked}

-- the type of what functions return
abbrev pub word : CType
word = Unsigned W32

-- `m->f == C`
abbrev pub is_child : ℕ → ℕ → CExpr
is_child f n = Compare IsEqual (Field f) (Const (Unsigned W16) (pos n))

-- `return C;`
abbrev pub gives : ℕ → Block
gives n = Return (Const word (pos n))

-- `x = f0(m);`
abbrev pub calls : Block → Block
calls a = Call word 4 0 [] a

-- `x == C`
abbrev pub was : ℕ → CExpr
was n = Compare IsEqual (Local word 4) (Const word (pos n))

-- what is known of the three fields
abbrev pub chart_known : Sets → Sets → Sets → Known
chart_known outer first second = Rows (
    record {
      place = places.Field 0;
      width = W16;
      home = record { place = places.Field 0; value = 2 };
      sets = outer;
    } ∷ record {
      place = places.Field 1;
      width = W16;
      home = record { place = places.Field 0; value = 2 };
      sets = first;
    } ∷ record {
      place = places.Field 2;
      width = W16;
      home = record { place = places.Field 0; value = 5 };
      sets = second;
    } ∷ []
    )

-- between two events
abbrev pub between : Known
between = chart_known (OneOf (2 ∷ []) (5 ∷ [])) (OneOf (3 ∷ 4 ∷ []) (0 ∷ [])) (OneOf (6 ∷ 7 ∷ []) (0 ∷ []))

-- where child 4 is active
abbrev pub inside : Known
inside = chart_known (OneOf (2 ∷ []) []) (OneOf (4 ∷ []) []) (OneOf [] (0 ∷ []))

-- each function begins with what is known between events, and leaves that where it returns 0; where 1, child 4 is active
abbrev pub plan : Plan
plan = record {
  begins = λ p. between;
  leaves = λ p. record {
    cases = record { number = 1; known = inside } ∷ record { number = 0; known = between } ∷ [];
    others = Never;
  };
  touched = λ p. places.Field 0 ∷ places.Field 1 ∷ places.Field 2 ∷ [];
  stays = λ p. false;
}

-- what is made of a body of function 1
abbrev pub made : Block → Walked
made a = walked plan 1 word a (alone between)
