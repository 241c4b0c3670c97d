-- How statements are gone through, with what is known before each.
use Rattle.std.specs.Prelude.{◌&&◌, ℕ, ℤ, pos, negsuc, Bool, true, false, List, [], ◌∷◌}
use Rattle.std.specs.Prelude.{Option, Some, None, if◌then◌else◌}
use Rattle.c_subset.specs.declared.trees.CType.{CType}
use Rattle.c_subset.specs.declared.trees.Case.{Case}
use Rattle.c_subset.specs.Trees.{CExpr, Const, Field, Element, Local, Cast, Minus, Bang, Calc, Divide, Bits, Compare}
use Rattle.c_subset.specs.Trees.{Both, Either, Choose}
use Rattle.c_subset.specs.Trees.{Block, End, Set, Store as PutField, StoreAt, Call, Select, If, While, Return}
use Rattle.c_facts.specs.Known.{Known, Never, Rows}
use Rattle.c_facts.specs.Facts.{agrees, is_touched, all_covered, framed, covers}
use Rattle.c_facts.specs.Asking.{tested, stored, may_store}
use Rattle.c_decided.specs.Facts.{ByNumber, Facts, whatever, alone, is_local}
use Rattle.c_decided.specs.Numbered.{each, all_of, is_nowhere, joined_facts, covers_by, fits, brought, Inquiry}
use Rattle.c_decided.specs.Numbered.{asks, narrowed}
use Rattle.c_decided.specs.Decided.{Plan, before}

-- ---- one statement

-- after a test of the local came out so
abbrev pub narrowed_facts : Bool → Inquiry → Facts → Facts
narrowed_facts way q F = record {
  type = F.type;
  local = F.local;
  by = record { cases = narrowed q.of (agrees q.is way) q.number F.by.cases; others = F.by.others };
}

-- of each number of the local something else
abbrev pub each_fact : (Known → Known) → Facts → Facts
each_fact f F = record { type = F.type; local = F.local; by = each f F.by }

-- after a test that came out so: by the number, where it asks for the number of that local
abbrev pub inquired : Bool → CExpr → Option Inquiry → Facts → Facts
inquired way e None F = each_fact (tested way e) F
inquired way e (Some q) F =
    if is_local q.of q.local F then narrowed_facts way q F else each_fact (tested way e) F

-- after a test that came out so
abbrev pub test : Bool → CExpr → Facts → Facts
test way e F = inquired way e (asks e) F

-- one number alone
abbrev pub constant : CType → ℤ → Known → ByNumber
constant t (pos n) k =
    if fits t n then record { cases = record { number = n; known = k } ∷ []; others = Never } else whatever k
constant t (negsuc n) k = whatever k

-- by what a comparison gives
abbrev pub by_truth : CExpr → Facts → ByNumber
by_truth e F = record {
  cases = record { number = 1; known = all_of (test true e F).by }
      ∷ record { number = 0; known = all_of (test false e F).by } ∷ [];
  others = Never;
}

-- what is known by the value of an expression
abbrev pub by_value : CExpr → Facts → ByNumber
by_value (Const t z) F = constant t z (all_of F.by)
by_value (Field f) F = whatever (all_of F.by)
by_value (Element a e) F = whatever (all_of F.by)
by_value (Local t i) F = if is_local t i F then F.by else whatever (all_of F.by)
by_value (Cast t e) F = whatever (all_of F.by)
by_value (Minus e) F = whatever (all_of F.by)
by_value (Bang e) F = whatever (all_of F.by)
by_value (Calc op a b) F = whatever (all_of F.by)
by_value (Divide op a b) F = whatever (all_of F.by)
by_value (Bits op a b) F = whatever (all_of F.by)
by_value (Compare op a b) F = by_truth (Compare op a b) F
by_value (Both a b) F = whatever (all_of F.by)
by_value (Either a b) F = whatever (all_of F.by)
by_value (Choose t c a b) F = whatever (all_of F.by)

-- after x = e; facts by another local are kept
abbrev pub after_set : CType → ℕ → CExpr → Facts → Facts
after_set t i e F =
    if is_local t i F then record { type = t; local = i; by = brought t (by_value e F) } else F

-- after x = f(..);
abbrev pub after_call : Plan → CType → ℕ → ℕ → Facts → Facts
after_call P t i f F =
    record { type = t; local = i; by = brought t (each (framed (is_touched (P.touched f)) (all_of F.by)) (P.leaves f)) }

-- function p may call a function
abbrev pub may_call : Plan → ℕ → Facts → ℕ → Bool
may_call P p F f = covers (all_of F.by) (P.begins f) && all_covered (P.touched f) (P.touched p)

-- each of these functions
abbrev pub may_call_each : Plan → ℕ → Facts → List Case → Bool
may_call_each P p F [] = true
may_call_each P p F (x ∷ xs) = may_call P p F x.function && may_call_each P p F xs

-- after the call of one of these functions, or of none
abbrev pub after_cases : Plan → CType → ℕ → Facts → List Case → Facts
after_cases P t i F [] = F
after_cases P t i F (x ∷ xs) = joined_facts (after_call P t i x.function F) (after_cases P t i F xs)

-- nothing is known
abbrev pub nothing : Facts
nothing = alone (Rows [])

-- ---- statements

-- whether statements are right, what is made of them, and what is known where they fall through
pub record Walked : Type 0 where
  pub right : Bool
  pub block : Block
  pub after : Facts

-- what no run comes to goes, unless the function stays as it is
abbrev pub unreached : Bool → Block → Walked
unreached stays a = record { right = true; block = if stays then a else End; after = alone Never }

-- statements that no run comes to go; of others it is said what is made of them
abbrev pub reached : Bool → Block → Facts → Walked → Walked
reached stays a F r = if is_nowhere F.by then unreached stays a else r

-- a test of which no run comes that way goes, unless the function stays as it is
abbrev pub goes : Bool → Facts → Bool
goes stays F = if stays then false else is_nowhere F.by

-- a statement before others
abbrev pub put_before : Bool → (Block → Block) → Walked → Walked
put_before right f r = record { right = right && r.right; block = f r.block; after = r.after }

-- one before the other
abbrev pub in_turn : Walked → Walked → Walked
in_turn r q = record { right = r.right && q.right; block = before r.block q.block; after = q.after }

-- both ways of a test, and what comes after it
abbrev pub asked : CExpr → Walked → Walked → Walked → Walked
asked e r q o = record {
  right = r.right && (q.right && o.right);
  block = If e r.block q.block o.block;
  after = o.after;
}

-- each turn, and what comes after the loop
abbrev pub looped : CExpr → Walked → Walked → Walked
looped e r o = record { right = r.right && o.right; block = While e r.block o.block; after = o.after }

module _ (P : Plan) (p : ℕ) (result : CType) where
  -- statements are gone through from the facts before them on
  unfoldable pub walked : Block → Facts → Walked
  walked End F = reached (P.stays p) End F (record { right = true; block = End; after = F })
  walked (Set t i e a) F =
      reached (P.stays p) (Set t i e a) F
      (put_before true (λ b. Set t i e b) (walked a (after_set t i e F)))
  walked (PutField f e a) F =
      reached (P.stays p) (PutField f e a) F
      (put_before (may_store (P.touched p) f e (all_of F.by)) (λ b. PutField f e b)
      (walked a (each_fact (stored f e) F)))
  walked (StoreAt r i e a) F =
      reached (P.stays p) (StoreAt r i e a) F
      (put_before true (λ b. StoreAt r i e b) (walked a F))
  walked (Call t i f args a) F =
      reached (P.stays p) (Call t i f args a) F
      (put_before (may_call P p F f) (λ b. Call t i f args b)
      (walked a (after_call P t i f F)))
  walked (Select t i e cases args a) F =
      reached (P.stays p) (Select t i e cases args a) F
      (put_before (may_call_each P p F cases) (λ b. Select t i e cases args b)
      (walked a (after_cases P t i F cases)))
  -- a test that can't come out one way goes
  walked (If e a b c) F =
      reached (P.stays p) (If e a b c) F
      (if goes (P.stays p) (test false e F) then in_turn (walked a F) (walked c (walked a F).after)
      else (if goes (P.stays p) (test true e F) then in_turn (walked b F) (walked c (walked b F).after)
      else asked e (walked a (test true e F)) (walked b (test false e F))
      (walked c (joined_facts (walked a (test true e F)).after (walked b (test false e F)).after))))
  walked (While e a c) F =
      reached (P.stays p) (While e a c) F
      (looped e (walked a (test true e nothing)) (walked c (test false e nothing)))
  walked (Return e) F =
      reached (P.stays p) (Return e) F (record {
        right = covers_by (brought result (by_value e F)) (P.leaves p);
        block = Return e;
        after = alone Never;
      })
