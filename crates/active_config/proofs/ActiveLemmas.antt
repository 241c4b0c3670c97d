-- The search for an active child, what it says of a bare state, and the search for an active state.
use Rattle.std.proofs.Common.{◌≡◌, ◌≢◌, ℕ, ◌+◌, ◌-◌, ◌≤◌, ◌<◌, List, [], ◌∷◌, Option, Some, None, Bool}
use Rattle.std.proofs.Common.{true, false, cond, not, ◌&&◌, ◌||◌, refl, sym}
use Rattle.std.proofs.Common.{ap, ◌∙◌, arith, inl, inr, ⊎_elim, get_or, length}
use Rattle.std.proofs.lemmas.Bool.{cases_lt}
use Rattle.std.proofs.lemmas.Bool.Decides.{nat_tests}
use Rattle.std.specs.Prelude.{◌⊎◌, nat_lt, is_some, IfSome}
use Rattle.std.specs.List.{find, list_any, range_with_len}
use Rattle.active_config.specs.Tree.{Tree, IsTree, state_count, parent_of, is_child}
use Rattle.active_config.specs.Tree.{is_below, children_of, children_below}
use Rattle.active_config.specs.Shape.{IsEnd}
use Rattle.active_config.specs.BitList.{first_on}
use Rattle.active_config.specs.Marks.{Configuration, mark_count, is_on, is_bare, active_child, next_on, IsConsistent}
use Rattle.active_config.proofs.ParentLemmas.{child_within}
use Rattle.active_config.proofs.PathLemmas.{Above, above_of_below, path_le, parent_lt}
use Rattle.active_config.proofs.PathLemmas.{is_below-step, is_at_or_below-same}
use Rattle.active_config.proofs.RangeLemmas.{find-filter, find-none, find-first}
use Rattle.active_config.proofs.SiblingLemmas.{IsFirst, is_first, is_none}
use Rattle.active_config.proofs.ChildLemmas.{parent_of_child, child_of_parent}
use Rattle.active_config.proofs.MarksLemmas.{on_past}
use Rattle.active_config.proofs.TableLemmas.{same_or_other}

-- of two tests that both hold each does, and they don't both hold where one doesn't
both_hold : (a b : Bool) → a ≡ true → b ≡ true → (a && b) ≡ true
both_hold true b e f = f
both_hold false b e f = absurd cc

not_both : (a b : Bool) → (a ≡ true → b ≡ false) → (a && b) ≡ false
not_both true b h = h refl
not_both false b h = refl

-- the first active child is the first state that is a child and active
active_child-find : (t : Tree) (s : ℕ) (m : Configuration)
    → active_child t s m ≡ find (λ x. is_child t s x && is_on x m) (range_with_len 0 (state_count t))
unfolding active_child children_of children_below
active_child-find t s m = find-filter (λ x. is_on x m) (is_child t s) (range_with_len 0 (state_count t))

module _ (t : Tree) (m : Configuration) (tree : IsTree t) (k : IsConsistent t m) (s e : ℕ) (end : IsEnd t s e) where
  -- the children of a state are among the states below it
  child_between : (y : ℕ) → is_child t s y ≡ true → (s < y) × (y < e)
  child_between y i =
      let up = parent_of_child t s y i in
      let lt = child_within t y s up in
      let low = parent_lt t (state_count t) tree.pre_order y s lt up in
      let below : is_below t y s ≡ true =
      is_below-step t (state_count t) tree.pre_order y s s lt up ∙ is_at_or_below-same t s s refl in
      let test = sym (end.between y lt) ∙ below in
      (low, grind (arith, nat_tests))

  -- the first active one among the states below a state is its child, since the parent of an active state is active
  first_below_is_child : (x : ℕ) → IsFirst (λ y. is_on y m) (s + 1) (e - (s + 1)) x → parent_of t x ≡ Some s
  first_below_is_child x first = at (same_or_other up.parent s)
    where
      low : s + 1 ≤ x
      low = first.low

      high : x < e
      high = omega (arith, first.high, end.after)

      within : x < state_count t
      within = omega (arith, high, end.within)

      test : (nat_lt s x && nat_lt x e) ≡ true
      test = let a = low in let b = high in grind (arith, nat_tests)

      up : Above t s x
      up = above_of_below t x s (end.between x within ∙ test)

      at : (up.parent ≡ s) ⊎ (up.parent ≢ s) → parent_of t x ≡ Some s
      at (inl same) = up.is_parent ∙ ap Some same
      at (inr ne) =
          let lower : up.parent < x = parent_lt t (state_count t) tree.pre_order x up.parent within up.is_parent in
          let over : s ≤ up.parent = path_le t (state_count t) tree.pre_order up.parent s (omega (arith, within)) up.path in
          let on : is_on up.parent m ≡ true = k.parents x up.parent up.is_parent first.passes in
          let off = first.none_before up.parent (omega arith) lower in
          absurd cc

  -- so it is the first active child
  first_below : (o : Option ℕ) → find (λ y. is_on y m) (range_with_len (s + 1) (e - (s + 1))) ≡ o → o ≡ active_child t s m
  first_below None none =
      sym (active_child-find t s m ∙ find-none (λ y. is_child t s y && is_on y m) 0 (state_count t)
      (λ y lo hi. not_both _ _ (λ i. let b = child_between y i in
      is_none (λ z. is_on z m) (s + 1) (e - (s + 1)) none y (omega arith) (omega arith))))
  first_below (Some x) some =
      let first = is_first (λ y. is_on y m) (s + 1) (e - (s + 1)) x some in
      let up = first_below_is_child x first in
      let within = child_within t x s up in
      sym (active_child-find t s m ∙ find-first (λ y. is_child t s y && is_on y m) 0 (state_count t) x (omega arith)
      (omega arith) (both_hold _ _ (child_of_parent t s x up) first.passes)
      (λ y lo hi. not_both _ _ (λ i. let b = child_between y i in first.none_before y (omega arith) hi)))

none_at : (b : Bool) (x : ℕ) (r : Option ℕ) (a : Bool) → is_some r ≡ a → is_some (cond b (Some x) r) ≡ (b || a)
none_at true x r a h = refl
none_at false x r a h = h

-- a search finds one exactly where some child is active
some_active : (m : Configuration) (xs : List ℕ) → is_some (find (λ x. is_on x m) xs) ≡ list_any (λ x. is_on x m) xs
some_active m [] = refl
some_active m (x ∷ xs) = none_at (is_on x m) x _ _ (some_active m xs)

-- an active state is bare where it has no active child
pub bare_where_on : (t : Tree) (s : ℕ) (m : Configuration) (o : Option ℕ) (b c : Bool) → b ≡ is_on s m → b ≡ true
    → o ≡ active_child t s m → is_some o ≡ not c → c ≡ is_bare t s m
unfolding active_child is_bare
bare_where_on t s m o b c e on f g =
    twice c ∙ ap not (sym g ∙ ap is_some f ∙ some_active m (children_of t s))
    ∙ ap (λ x. x && not (list_any (λ x. is_on x m) (children_of t s))) (sym on ∙ e)
  where
    twice : (c : Bool) → c ≡ not (not c)
    twice true = refl
    twice false = refl

-- a state that isn't active isn't bare
pub bare_where_off : (t : Tree) (s : ℕ) (m : Configuration) (b : Bool) → b ≡ is_on s m → b ≡ false → b ≡ is_bare t s m
unfolding is_bare
bare_where_off t s m b e off = off ∙ ap (λ x. x && not (list_any (λ x. is_on x m) (children_of t s))) (sym off ∙ e)

-- the first flag that is on among those of the states below a state
pub first_active_is : (t : Tree) (m : Configuration) (flags : List Bool) (s e : ℕ) (r : Option ℕ) → IsTree t
    → IsConsistent t m → IsEnd t s e → flags ≡ m.flags → r ≡ first_on (s + 1) e flags → r ≡ active_child t s m
unfolding first_on is_on
first_active_is t m flags s e r tree k end same is =
    first_below t m tree k s e end r
    (ap (λ l. find (λ y. get_or l y false) (range_with_len (s + 1) (e - (s + 1)))) (sym same) ∙ sym is)

-- it is a state after that one
pub first_active_after : (t : Tree) (s e : ℕ) (r : Option ℕ) → IsEnd t s e → IfSome r (λ x. (s + 1 ≤ x) × (x < e))
    → IfSome r (λ x. (s < x) × (x < state_count t))
first_active_after t s e None end h = tt
first_active_after t s e (Some x) end h = let low = h.0 in let high = h.1 in let within = end.within in (omega arith, omega arith)

-- the first flag that is on from a number on
pub next_on_is : (m : Configuration) (flags : List Bool) (from n : ℕ) (r : Option ℕ) → flags ≡ m.flags → n ≡ length flags
    → r ≡ first_on from n flags → r ≡ next_on from m
unfolding first_on next_on is_on mark_count
next_on_is m flags from n r same count is =
    is ∙ ap (λ k. find (λ y. get_or flags y false) (range_with_len from (k - from))) count
    ∙ ap (λ l. find (λ y. get_or l y false) (range_with_len from (length l - from))) same

-- what is found lies between the bounds, is on, and is the first one
pub record IsNext (m : Configuration) (from x : ℕ) : Type 0 where
  pub low : from ≤ x
  pub high : x < mark_count m
  pub on : is_on x m ≡ true
  pub first : (y : ℕ) → from ≤ y → y < x → is_on y m ≡ false

is_next : (m : Configuration) (from x : ℕ) → Some x ≡ next_on from m → IsNext m from x
unfolding next_on
is_next m from x e =
    let first = is_first (λ y. is_on y m) from (mark_count m - from) x (sym e) in
    record { low = first.low; high = omega (arith, first.low, first.high); on = first.passes; first = first.none_before }

-- so of an answer that is it
pub if_next : {P : ℕ → Type 0} (m : Configuration) (from : ℕ) (r : Option ℕ) → r ≡ next_on from m
    → ((x : ℕ) → IsNext m from x → P x) → IfSome r P
if_next m from None e h = tt
if_next m from (Some x) e h = h x (is_next m from x e)

-- where none is found, none is on
pub none_next : (m : Configuration) (from y : ℕ) → None ≡ next_on from m → from ≤ y → is_on y m ≡ false
unfolding next_on
none_next m from y e le = ⊎_elim
    (λ lt. is_none (λ z. is_on z m) from (mark_count m - from) (sym e) y le (omega arith))
    (λ past. on_past y m past)
    (cases_lt y (mark_count m))
