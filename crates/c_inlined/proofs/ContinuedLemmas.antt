-- An `if` that goes on, part by part.
use Rattle.std.proofs.Common.{◌≡◌, ◌&&◌, ◌||◌, Bool, true, false, cond, refl, sym, ap, ◌∙◌, subst}
use Rattle.c_subset.specs.Trees.{CExpr}
use Rattle.c_subset.specs.Trees.{Block, End, Set, Store, StoreAt, Call, Select, If, While, Return}
use Rattle.c_trees.specs.Blocks.{block_of}
use Rattle.c_trees.specs.declared.trees.Tree.{Tree}
use Rattle.c_inlined.specs.Continued.{never_returns, always_returns, neither_returns, one_returns, can_go_on}
use Rattle.c_inlined.specs.Continued.{continued}
use Rattle.c_inlined.proofs.GoingOn.{both, parts}

neither : (a b : Bool) → a ≡ false → b ≡ false → (a || b) ≡ false
neither true b e f = absurd cc
neither false b e f = f

first-not : (a b : Bool) → a ≡ false → (a && b) ≡ false
first-not true b e = absurd cc
first-not false b e = refl

-- statements of which none returns don't always return
never-always : (a : Block) → never_returns a ≡ true → always_returns a ≡ false
unfolding never_returns always_returns
never-always End h = refl
never-always (Set t i e rest) h = never-always rest h
never-always (Store f e rest) h = never-always rest h
never-always (StoreAt r i e rest) h = never-always rest h
never-always (Call t i f args rest) h = never-always rest h
never-always (Select t i e cases args rest) h = never-always rest h
never-always (If e a b rest) h =
    let p = both (never_returns a) (never_returns b && never_returns rest) h in
    let q = both (never_returns b) (never_returns rest) p.1 in
    neither (always_returns a && always_returns b) (always_returns rest)
    (first-not (always_returns a) (always_returns b) (never-always a p.0)) (never-always rest q.1)
never-always (While e a rest) h =
    let p = both (never_returns a) (never_returns rest) h in never-always rest p.1
never-always (Return e) h = absurd cc

either : (a b : Bool) → (a || b) ≡ true → a ≡ false → b ≡ true
either true b e f = absurd cc
either false b e f = e

clash : (b : Bool) → b ≡ true → b ≡ false → ⊥
clash true e f = absurd cc
clash false e f = absurd cc

module _ (next : CExpr → Block) where
  -- what comes after an `if` that always returns makes no difference
  if-drops : (e : CExpr) (a b mid other : Block) (n q : Bool) → neither_returns a b ≡ n
      → (always_returns a && always_returns b) ≡ q → (q ≡ false → mid ≡ other)
      → (always_returns a ≡ true → continued next a mid ≡ continued next a other)
      → (always_returns b ≡ true → continued next b mid ≡ continued next b other)
      → cond n (If e a b mid) (If e (continued next a mid) (continued next b mid) End)
      ≡ cond n (If e a b other) (If e (continued next a other) (continued next b other) End)
  if-drops e a b mid other n false is may hr ha hb =
      ap (λ (m : Block). cond n (If e a b m) (If e (continued next a m) (continued next b m) End)) (hr refl)
  if-drops e a b mid other true true is surely hr ha hb =
      let p = both (never_returns a) (never_returns b) is in
      let q = both (always_returns a) (always_returns b) surely in
      absurd (clash (always_returns a) q.0 (never-always a p.0))
  if-drops e a b mid other false true is surely hr ha hb =
      let q = both (always_returns a) (always_returns b) surely in
      ap (λ (w : Block). If e w (continued next b mid) End) (ha q.0)
      ∙ ap (λ (w : Block). If e (continued next a other) w End) (hb q.1)

  -- nor after other statements that do
  always-drops : (a x y : Block) → always_returns a ≡ true → continued next a x ≡ continued next a y
  unfolding always_returns continued
  always-drops End x y h = absurd cc
  always-drops (Set t i e rest) x y h = ap (λ (b : Block). Set t i e b) (always-drops rest x y h)
  always-drops (Store f e rest) x y h = ap (λ (b : Block). Store f e b) (always-drops rest x y h)
  always-drops (StoreAt r i e rest) x y h = ap (λ (b : Block). StoreAt r i e b) (always-drops rest x y h)
  always-drops (Call t i f args rest) x y h = ap (λ (b : Block). Call t i f args b) (always-drops rest x y h)
  always-drops (Select t i e cases args rest) x y h =
      ap (λ (b : Block). Select t i e cases args b) (always-drops rest x y h)
  always-drops (If e a b rest) x y h =
      if-drops e a b (continued next rest x) (continued next rest y) (neither_returns a b)
      (always_returns a && always_returns b) refl refl
      (λ may. always-drops rest x y (either (always_returns a && always_returns b) (always_returns rest) h may))
      (λ surely. always-drops a (continued next rest x) (continued next rest y) surely)
      (λ surely. always-drops b (continued next rest x) (continued next rest y) surely)
  always-drops (While e a rest) x y h = ap (λ (b : Block). While e a b) (always-drops rest x y h)
  always-drops (Return e) x y h = refl

  -- no part returns
  pub if-kept : (e : CExpr) (a b rest after : Block) → neither_returns a b ≡ true
      → If e a b (continued next rest after) ≡ continued next (If e a b rest) after
  unfolding continued
  if-kept e a b rest after is =
      let mid = continued next rest after in
      ap (λ (n : Bool). cond n (If e a b mid) (If e (continued next a mid) (continued next b mid) End)) (sym is)

  -- the first part always returns
  pub if-first : (e : CExpr) (a b rest after : Block) → neither_returns a b ≡ false → always_returns a ≡ true
      → If e (continued next a End) (continued next b (continued next rest after)) End
      ≡ continued next (If e a b rest) after
  unfolding continued
  if-first e a b rest after is always =
      let mid = continued next rest after in
      ap (λ (w : Block). If e w (continued next b mid) End) (always-drops a End mid always)
      ∙ ap (λ (n : Bool). cond n (If e a b mid) (If e (continued next a mid) (continued next b mid) End)) (sym is)

  -- the second part always returns
  pub if-second : (e : CExpr) (a b rest after : Block) → neither_returns a b ≡ false → always_returns b ≡ true
      → If e (continued next a (continued next rest after)) (continued next b End) End
      ≡ continued next (If e a b rest) after
  unfolding continued
  if-second e a b rest after is always =
      let mid = continued next rest after in
      ap (λ (w : Block). If e (continued next a mid) w End) (always-drops b End mid always)
      ∙ ap (λ (n : Bool). cond n (If e a b mid) (If e (continued next a mid) (continued next b mid) End)) (sym is)

  -- as the code makes it, where the first part always returns
  pub first-joined : (e : CExpr) (a b rest after a' b' mid none end : Block) → a' ≡ continued next a none → none ≡ End
      → b' ≡ continued next b mid → mid ≡ continued next rest after → end ≡ End → neither_returns a b ≡ false
      → always_returns a ≡ true → If e a' b' end ≡ continued next (If e a b rest) after
  first-joined e a b rest after a' b' mid none end ha hn hb hm he is always =
      ap (λ (w : Block). If e w b' end) (ha ∙ ap (λ (w : Block). continued next a w) hn)
      ∙ ap (λ (w : Block). If e (continued next a End) w end) (hb ∙ ap (λ (w : Block). continued next b w) hm)
      ∙ ap (λ (w : Block). If e (continued next a End) (continued next b (continued next rest after)) w) he
      ∙ if-first e a b rest after is always

  -- and where the second part does
  pub second-joined : (e : CExpr) (a b rest after a' b' mid none end : Block) → a' ≡ continued next a mid
      → mid ≡ continued next rest after → b' ≡ continued next b none → none ≡ End → end ≡ End
      → neither_returns a b ≡ false → always_returns b ≡ true → If e a' b' end ≡ continued next (If e a b rest) after
  second-joined e a b rest after a' b' mid none end ha hm hb hn he is always =
      ap (λ (w : Block). If e w b' end) (ha ∙ ap (λ (w : Block). continued next a w) hm)
      ∙ ap (λ (w : Block). If e (continued next a (continued next rest after)) w end)
      (hb ∙ ap (λ (w : Block). continued next b w) hn)
      ∙ ap (λ (w : Block). If e (continued next a (continued next rest after)) (continued next b End) w) he
      ∙ if-second e a b rest after is always

-- ---- what is known of the parts of an `if` that can go on

-- whatever its test is
pub any-can : (e other : CExpr) (a b rest : Block) → can_go_on (If e a b rest) ≡ true
    → can_go_on (If other a b rest) ≡ true
unfolding can_go_on
any-can e other a b rest h = h

pub rest-can : (e : CExpr) (a b rest : Block) → can_go_on (If e a b rest) ≡ true → can_go_on rest ≡ true
unfolding can_go_on
rest-can e a b rest h =
    let p = both (neither_returns a b || (one_returns a b && (can_go_on a && can_go_on b))) (can_go_on rest) h in p.1

pub parts-can : (e : CExpr) (a b rest : Block) → can_go_on (If e a b rest) ≡ true → neither_returns a b ≡ false
    → (can_go_on a ≡ true) × (can_go_on b ≡ true)
unfolding can_go_on
parts-can e a b rest h may =
    let p = both (neither_returns a b || (one_returns a b && (can_go_on a && can_go_on b))) (can_go_on rest) h in
    parts (neither_returns a b) (one_returns a b) (can_go_on a) (can_go_on b) p.0 may

one-of : (x y z : Bool) → (x || (y && z)) ≡ true → x ≡ false → y ≡ true
one-of true y z e f = absurd cc
one-of false true z e f = refl
one-of false false z e f = absurd cc

pub other-always : (e : CExpr) (a b rest : Block) → can_go_on (If e a b rest) ≡ true → neither_returns a b ≡ false
    → always_returns a ≡ false → always_returns b ≡ true
unfolding can_go_on
other-always e a b rest h may first =
    let p = both (neither_returns a b || (one_returns a b && (can_go_on a && can_go_on b))) (can_go_on rest) h in
    either (always_returns a) (always_returns b)
    (one-of (neither_returns a b) (one_returns a b) (can_go_on a && can_go_on b) p.0 may) first

-- ---- in the code

-- where the first part always returns
pub whole-first : (next : CExpr → Block) (e : CExpr) (first second rest : Tree) (a' b' end : Block)
    (tree none last : Tree) (after mid : Block) → block_of tree ≡ If e (block_of first) (block_of second) (block_of rest)
    → neither_returns (block_of first) (block_of second) ≡ false → always_returns (block_of first) ≡ true
    → mid ≡ continued next (block_of rest) after → block_of last ≡ mid → block_of none ≡ End
    → a' ≡ continued next (block_of first) (block_of none) → b' ≡ continued next (block_of second) (block_of last)
    → end ≡ End → If e a' b' end ≡ continued next (block_of tree) after
whole-first next e first second rest a' b' end tree none last after mid is may always rested left nothing ha hb he =
    first-joined next e (block_of first) (block_of second) (block_of rest) after a' b' (block_of last) (block_of none) end
    ha nothing hb (left ∙ rested) he may always ∙ ap (λ (t : Block). continued next t after) (sym is)

-- where the second part does
pub whole-second : (next : CExpr → Block) (e : CExpr) (first second rest : Tree) (a' b' end : Block)
    (tree none last : Tree) (after mid : Block) → block_of tree ≡ If e (block_of first) (block_of second) (block_of rest)
    → can_go_on (block_of tree) ≡ true
    → neither_returns (block_of first) (block_of second) ≡ false → always_returns (block_of first) ≡ false
    → mid ≡ continued next (block_of rest) after → block_of last ≡ mid → block_of none ≡ End
    → a' ≡ continued next (block_of first) (block_of last) → b' ≡ continued next (block_of second) (block_of none)
    → end ≡ End → If e a' b' end ≡ continued next (block_of tree) after
whole-second next e first second rest a' b' end tree none last after mid is can may not-first rested left nothing ha hb he =
    second-joined next e (block_of first) (block_of second) (block_of rest) after a' b' (block_of last) (block_of none) end
    ha (left ∙ rested) hb nothing he may
    (other-always e (block_of first) (block_of second) (block_of rest)
    (subst (λ (b : Block). can_go_on b ≡ true) is can) may not-first)
    ∙ ap (λ (t : Block). continued next t after) (sym is)
