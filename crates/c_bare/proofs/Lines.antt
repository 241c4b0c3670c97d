-- What the lines of statements need, and the lines of statements in which nothing is handed to bare functions.
use Rattle.std.proofs.Common.{◌≡◌, ℕ, zero, suc, ◌+◌, ◌-◌, ◌≤◌, ◌<◌, ◌^◌, ◌≢◌, IfSome, Bool, true, false, cond, ◌&&◌}
use Rattle.std.proofs.Common.{◌||◌, not}
use Rattle.std.proofs.Common.{List, [], ◌∷◌, ◌++◌, map, Option, Some, None, refl, sym, ap, ◌∙◌, arith}
use Rattle.std.proofs.lemmas.List.{append_assoc, append-nil, map-append}
use Rattle.std.specs.List.{list_all}
use Rattle.c_subset.specs.declared.trees.CType.{CType}
use Rattle.c_subset.specs.Trees.{CExpr, Block, Function}
use Rattle.c_subset.specs.Trees as c
use Rattle.c_subset.specs.Lines.{Line, Set, Store, StoreAt, Call, Select, If, Else, While, Close, Return, else_lines}
use Rattle.c_subset.specs.Lines.{lines_of}
use Rattle.c_bare.specs.Needs.{is_bare, is_it, reads, any_reads, needs}
use Rattle.c_bare.specs.Bare.{calls_bare, handed, selects_no_bare, fewer}
use Rattle.c_bare.specs.Scanning.{line_sets, since_after, line_needs, lines_need, line_selects}
use Rattle.c_bare.specs.Scanning.{fewer_line, fewer_open, other_part}

-- the lines of an `if` before others
if-lines : (e : CExpr) (a b rest : Block) (tail : List Line)
    → lines_of (c.If e a b rest) ++ tail
    ≡ If e ∷ (lines_of a ++ (else_lines (lines_of b) ++ (Close ∷ (lines_of rest ++ tail))))
unfolding lines_of
if-lines e a b rest tail =
    ap (λ (ls : List Line). If e ∷ ls)
    (append_assoc (lines_of a ++ else_lines (lines_of b)) (Close ∷ lines_of rest) tail
    ∙ append_assoc (lines_of a) (else_lines (lines_of b)) (Close ∷ (lines_of rest ++ tail)))

-- those of a `while`
while-lines : (e : CExpr) (a rest : Block) (tail : List Line)
    → lines_of (c.While e a rest) ++ tail ≡ While e ∷ (lines_of a ++ (Close ∷ (lines_of rest ++ tail)))
unfolding lines_of
while-lines e a rest tail =
    ap (λ (ls : List Line). While e ∷ ls) (append_assoc (lines_of a) (Close ∷ lines_of rest) tail)

-- ---- what is needed

-- no more blocks are open than so many
abbrev pub IsWithin : Option ℕ → ℕ → Type 0
IsWithin None i = Unit {0}
IsWithin (Some n) i = n ≤ i

-- a line opens one at most
pub within-after : (t : CType) (i : ℕ) (l : Line) (since : Option ℕ) (k : ℕ) → IsWithin since k
    → IsWithin (since_after t i l since) (k + 1)
within-after t i l None k h = at (line_sets t i l)
  where
    at : (b : Bool) → IsWithin (cond b (Some 0) None) (k + 1)
    at true = omega arith
    at false = tt
within-after t i (Set u j e) (Some n) k h = omega (arith, h)
within-after t i (Store f e) (Some n) k h = omega (arith, h)
within-after t i (StoreAt a x e) (Some n) k h = omega (arith, h)
within-after t i (Call u j f args) (Some n) k h = omega (arith, h)
within-after t i (Select u j e cases args) (Some n) k h = omega (arith, h)
within-after t i (If e) (Some n) k h = omega (arith, h)
within-after t i Else (Some zero) k h = tt
within-after t i Else (Some (suc n)) k h = omega (arith, h)
within-after t i (While e) (Some n) k h = omega (arith, h)
within-after t i Close (Some zero) k h = tt
within-after t i Close (Some (suc n)) k h = omega (arith, h)
within-after t i (Return e) (Some n) k h = omega (arith, h)

-- so one more can be
pub one-more : (since : Option ℕ) (i n : ℕ) → IsWithin since i → i < n → n < 2 ^ 64
    → IfSome since (λ count. count + 1 < 2 ^ 64)
one-more None i n h lt small = tt
one-more (Some k) i n h lt small = omega (arith, h, lt, small)

-- the block that is left, as the code counts
pub less-open : (n : ℕ) → n ≢ 0 → fewer_open n ≡ Some (n - 1)
less-open zero some = absurd (some refl)
less-open (suc n) some = let same : n ≡ suc n - 1 = omega arith in ap (λ (m : ℕ). Some m) same

pub part-open : (n : ℕ) → n ≢ 0 → other_part n ≡ Some n
part-open zero some = absurd (some refl)
part-open (suc n) some = refl

or-assoc : (a b c : Bool) → ((a || b) || c) ≡ (a || (b || c))
or-assoc true b c = refl
or-assoc false b c = refl

module _ (flags : List Bool) (t : CType) (i : ℕ) where
  abbrev need : List Line → Option ℕ → Bool
  need ls since = lines_need flags t i ls since

  -- the first line, and those after it
  pub need-first : (l : Line) (ls : List Line) (since : Option ℕ)
      → need (l ∷ ls) since ≡ (line_needs flags t i l since || need ls (since_after t i l since))
  unfolding lines_need
  need-first l ls since = refl

  pub need-none : (since : Option ℕ) → need [] since ≡ false
  unfolding lines_need
  need-none since = refl

  -- the second part of an `if`, where it was set outside
  else-set : (ls tail : List Line) (n : ℕ)
      → need (ls ++ tail) (Some (suc n)) ≡ need tail (Some (suc n))
      → need (else_lines ls ++ tail) (Some (suc n)) ≡ need tail (Some (suc n))
  unfolding lines_need
  else-set [] tail n h = h
  else-set (l ∷ ls) tail n h = h

  -- once it is set, nothing in the block needs it
  set-before : (b : Block) (tail : List Line) (n : ℕ) → need (lines_of b ++ tail) (Some n) ≡ need tail (Some n)
  unfolding lines_of lines_need
  set-before c.End tail n = refl
  set-before (c.Set u j e rest) tail n = set-before rest tail n
  set-before (c.Store f e rest) tail n = set-before rest tail n
  set-before (c.StoreAt a k e rest) tail n = set-before rest tail n
  set-before (c.Call u j f args rest) tail n = set-before rest tail n
  set-before (c.Select u j e cases args rest) tail n = set-before rest tail n
  set-before (c.If e a b rest) tail n =
      ap (λ (ls : List Line). need ls (Some n)) (if-lines e a b rest tail)
      ∙ set-before a (else_lines (lines_of b) ++ (Close ∷ (lines_of rest ++ tail))) (suc n)
      ∙ else-set (lines_of b) (Close ∷ (lines_of rest ++ tail)) n
      (set-before b (Close ∷ (lines_of rest ++ tail)) (suc n))
      ∙ set-before rest tail n
  set-before (c.While e a rest) tail n =
      ap (λ (ls : List Line). need ls (Some n)) (while-lines e a rest tail)
      ∙ set-before a (Close ∷ (lines_of rest ++ tail)) (suc n) ∙ set-before rest tail n
  set-before (c.Return e) tail n = refl

  -- the lines after a block: none, or the end of that block
  abbrev IsEnd : List Line → Type 0
  IsEnd ls = need ls (Some 0) ≡ need ls None

  close-ends : (ls : List Line) → IsEnd (Close ∷ ls)
  unfolding lines_need
  close-ends ls = refl

  else-ends : (ls tail : List Line) → IsEnd (else_lines ls ++ (Close ∷ tail))
  unfolding lines_need
  else-ends [] tail = refl
  else-ends (l ∷ ls) tail = refl

  -- a statement that sets it or not
  set-or-not : (x y : Bool) (b : Block) (tail : List Line) → IsEnd tail
      → need (lines_of b ++ tail) None ≡ (needs flags t i b || need tail None)
      → (x || need (lines_of b ++ tail) (cond y (Some 0) None))
      ≡ ((x || (not y && needs flags t i b)) || need tail None)
  set-or-not true y b tail ends h = refl
  set-or-not false true b tail ends h = set-before b tail 0 ∙ ends
  set-or-not false false b tail ends h = h

  else-part : (ls tail : List Line) (x : Bool) → need (ls ++ tail) None ≡ (x || need tail None)
      → need (else_lines ls ++ tail) None ≡ (x || need tail None)
  unfolding lines_need
  else-part [] tail x h = h
  else-part (l ∷ ls) tail x h = h

  if-needs : (x a b rest tail left mid right : Bool) → left ≡ (a || mid) → mid ≡ (b || right) → right ≡ (rest || tail)
      → (x || left) ≡ ((x || (a || (b || rest))) || tail)
  if-needs x a b rest tail left mid right p q r =
      ap (λ (y : Bool). x || y) (p ∙ ap (λ (y : Bool). a || y) (q ∙ ap (λ (y : Bool). b || y) r)) ∙ at x a b
    where
      at : (x a b : Bool) → (x || (a || (b || (rest || tail)))) ≡ ((x || (a || (b || rest))) || tail)
      at true a b = refl
      at false true b = refl
      at false false true = refl
      at false false false = refl

  while-needs : (x a rest tail left right : Bool) → left ≡ (a || right) → right ≡ (rest || tail)
      → (x || left) ≡ ((x || (a || rest)) || tail)
  while-needs x a rest tail left right p q =
      ap (λ (y : Bool). x || y) (p ∙ ap (λ (y : Bool). a || y) q) ∙ at x a
    where
      at : (x a : Bool) → (x || (a || (rest || tail))) ≡ ((x || (a || rest)) || tail)
      at true a = refl
      at false true = refl
      at false false = refl

  before-end : (x n : Bool) (left right : Bool) → left ≡ (n || right) → (x || left) ≡ ((x || n) || right)
  before-end x n left right h = ap (λ (y : Bool). x || y) h ∙ sym (or-assoc x n right)

  two-before : (x y n : Bool) (left right : Bool) → left ≡ (n || right)
      → ((x || y) || left) ≡ ((x || (y || n)) || right)
  two-before true y n left right h = refl
  two-before false y n left right h = before-end y n left right h

  -- the lines of statements need what these do
  needed : (b : Block) (tail : List Line) → IsEnd tail
      → need (lines_of b ++ tail) None ≡ (needs flags t i b || need tail None)
  unfolding lines_of lines_need needs
  needed c.End tail ends = refl
  needed (c.Set u j e rest) tail ends =
      set-or-not (reads t i e) (is_it t i u j) rest tail ends (needed rest tail ends)
  needed (c.Store f e rest) tail ends =
      before-end (reads t i e) (needs flags t i rest) (need (lines_of rest ++ tail) None) (need tail None)
      (needed rest tail ends)
  needed (c.StoreAt a k e rest) tail ends =
      two-before (reads t i k) (reads t i e) (needs flags t i rest) (need (lines_of rest ++ tail) None)
      (need tail None) (needed rest tail ends)
  needed (c.Call u j f args rest) tail ends =
      set-or-not (not (is_bare flags f) && any_reads t i args) (is_it t i u j) rest tail ends (needed rest tail ends)
  needed (c.Select u j e cases args rest) tail ends =
      two-before (reads t i e) (any_reads t i args) (needs flags t i rest) (need (lines_of rest ++ tail) None)
      (need tail None) (needed rest tail ends)
  needed (c.If e a b rest) tail ends =
      let after = lines_of rest ++ tail in
      ap (λ (ls : List Line). need ls None) (if-lines e a b rest tail)
      ∙ if-needs (reads t i e) (needs flags t i a) (needs flags t i b) (needs flags t i rest) (need tail None)
      (need (lines_of a ++ (else_lines (lines_of b) ++ (Close ∷ after))) None)
      (need (else_lines (lines_of b) ++ (Close ∷ after)) None) (need after None)
      (needed a (else_lines (lines_of b) ++ (Close ∷ after)) (else-ends (lines_of b) after))
      (else-part (lines_of b) (Close ∷ after) (needs flags t i b) (needed b (Close ∷ after) (close-ends after)))
      (needed rest tail ends)
  needed (c.While e a rest) tail ends =
      let after = lines_of rest ++ tail in
      ap (λ (ls : List Line). need ls None) (while-lines e a rest tail)
      ∙ while-needs (reads t i e) (needs flags t i a) (needs flags t i rest) (need tail None)
      (need (lines_of a ++ (Close ∷ after)) None) (need after None)
      (needed a (Close ∷ after) (close-ends after)) (needed rest tail ends)
  needed (c.Return e) tail ends = refl

  -- all of them
  pub need-is : (b : Block) (ls : List Line) → ls ≡ lines_of b → lines_need flags t i ls None ≡ needs flags t i b
  unfolding lines_need
  need-is b ls e =
      ap (λ (ls : List Line). need ls None) (e ∙ sym (append-nil (lines_of b))) ∙ needed b [] refl
      ∙ or-false (needs flags t i b)
    where
      or-false : (x : Bool) → (x || false) ≡ x
      or-false true = refl
      or-false false = refl

-- ---- `switch`

module _ (flags : List Bool) where
  abbrev select : List Line → Bool
  select ls = list_all (line_selects flags) ls

  and-assoc : (a b c : Bool) → ((a && b) && c) ≡ (a && (b && c))
  and-assoc true b c = refl
  and-assoc false b c = refl

  else-selects : (ls tail : List Line) → select (else_lines ls ++ tail) ≡ select (ls ++ tail)
  else-selects [] tail = refl
  else-selects (l ∷ ls) tail = refl

  selected : (b : Block) (tail : List Line)
      → select (lines_of b ++ tail) ≡ (selects_no_bare flags b && select tail)
  unfolding lines_of selects_no_bare
  selected c.End tail = refl
  selected (c.Set u j e rest) tail = selected rest tail
  selected (c.Store f e rest) tail = selected rest tail
  selected (c.StoreAt a k e rest) tail = selected rest tail
  selected (c.Call u j f args rest) tail = selected rest tail
  selected (c.Select u j e cases args rest) tail =
      ap (λ (y : Bool). not (calls_bare flags cases) && y) (selected rest tail)
      ∙ sym (and-assoc (not (calls_bare flags cases)) (selects_no_bare flags rest) (select tail))
  selected (c.If e a b rest) tail =
      let after = lines_of rest ++ tail in
      ap select (if-lines e a b rest tail)
      ∙ selected a (else_lines (lines_of b) ++ (Close ∷ after))
      ∙ ap (λ (y : Bool). selects_no_bare flags a && y)
      (else-selects (lines_of b) (Close ∷ after) ∙ selected b (Close ∷ after)
      ∙ ap (λ (y : Bool). selects_no_bare flags b && y) (selected rest tail)
      ∙ sym (and-assoc (selects_no_bare flags b) (selects_no_bare flags rest) (select tail)))
      ∙ sym (and-assoc (selects_no_bare flags a) (selects_no_bare flags b && selects_no_bare flags rest) (select tail))
  selected (c.While e a rest) tail =
      let after = lines_of rest ++ tail in
      ap select (while-lines e a rest tail) ∙ selected a (Close ∷ after)
      ∙ ap (λ (y : Bool). selects_no_bare flags a && y) (selected rest tail)
      ∙ sym (and-assoc (selects_no_bare flags a) (selects_no_bare flags rest) (select tail))
  selected (c.Return e) tail = refl

  pub select-is : (b : Block) (ls : List Line) → ls ≡ lines_of b
      → list_all (line_selects flags) ls ≡ selects_no_bare flags b
  select-is b ls e =
      ap select (e ∙ sym (append-nil (lines_of b))) ∙ selected b [] ∙ and-true (selects_no_bare flags b)
    where
      and-true : (x : Bool) → (x && true) ≡ x
      and-true true = refl
      and-true false = refl

  -- ---- what is handed over

  abbrev with-fewer : List Line → List Line
  with-fewer ls = map (fewer_line flags) ls

  else-fewer : (ls : List Line) → with-fewer (else_lines ls) ≡ else_lines (with-fewer ls)
  else-fewer [] = refl
  else-fewer (l ∷ ls) = refl

  -- the lines of statements in which nothing is handed to bare functions
  fewer-lines : (b : Block) → with-fewer (lines_of b) ≡ lines_of (fewer flags b)
  unfolding lines_of fewer
  fewer-lines c.End = refl
  fewer-lines (c.Set u j e rest) = ap (λ (ls : List Line). Set u j e ∷ ls) (fewer-lines rest)
  fewer-lines (c.Store f e rest) = ap (λ (ls : List Line). Store f e ∷ ls) (fewer-lines rest)
  fewer-lines (c.StoreAt a k e rest) = ap (λ (ls : List Line). StoreAt a k e ∷ ls) (fewer-lines rest)
  fewer-lines (c.Call u j f args rest) =
      ap (λ (ls : List Line). Call u j f (handed flags f args) ∷ ls) (fewer-lines rest)
  fewer-lines (c.Select u j e cases args rest) =
      ap (λ (ls : List Line). Select u j e cases args ∷ ls) (fewer-lines rest)
  fewer-lines (c.If e a b rest) =
      ap (λ (ls : List Line). If e ∷ ls)
      (map-append (fewer_line flags) (lines_of a ++ else_lines (lines_of b)) (Close ∷ lines_of rest)
      ∙ ap (λ (ls : List Line). ls ++ (Close ∷ with-fewer (lines_of rest)))
      (map-append (fewer_line flags) (lines_of a) (else_lines (lines_of b))
      ∙ ap (λ (ls : List Line). ls ++ with-fewer (else_lines (lines_of b))) (fewer-lines a)
      ∙ ap (λ (ls : List Line). lines_of (fewer flags a) ++ ls)
      (else-fewer (lines_of b) ∙ ap else_lines (fewer-lines b)))
      ∙ ap (λ (ls : List Line). (lines_of (fewer flags a) ++ else_lines (lines_of (fewer flags b))) ++ (Close ∷ ls))
      (fewer-lines rest))
  fewer-lines (c.While e a rest) =
      ap (λ (ls : List Line). While e ∷ ls)
      (map-append (fewer_line flags) (lines_of a) (Close ∷ lines_of rest)
      ∙ ap (λ (ls : List Line). ls ++ (Close ∷ with-fewer (lines_of rest))) (fewer-lines a)
      ∙ ap (λ (ls : List Line). lines_of (fewer flags a) ++ (Close ∷ ls)) (fewer-lines rest))
  fewer-lines (c.Return e) = refl

  pub fewer-is : (b : Block) (ls : List Line) → ls ≡ lines_of b → map (fewer_line flags) ls ≡ lines_of (fewer flags b)
  fewer-is b ls e = ap with-fewer e ∙ fewer-lines b
