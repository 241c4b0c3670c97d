-- How many ORs stand before each state, counted from the first state on.
use Rattle.std.proofs.Common.{◌≡◌, ℕ, ◌+◌, ◌<◌, ◌≤◌, Bool, true, false, List, [], ◌∷◌, ◌++◌, length}
use Rattle.std.proofs.Common.{get_or, cond, count_by, refl, ap, sym, subst, ◌∙◌, arith, below_more}
use Rattle.std.proofs.lemmas.List.{take_all, get_or_push, get_or_append_left, length-append}
use Rattle.std.proofs.lemmas.List.Sums.{sum_by_more}
use Rattle.active_config.specs.Tree.{Tree, IsTree, state_count, comp_of, is_or}
use Rattle.active_config.specs.declared.comp.Comp.{Comp}
use Rattle.active_config.specs.declared.comp.Comp.TheVariants.{Leaf}
use Rattle.c_functions.specs.Layout.{or_count, or_rank}
use Rattle.c_shape.specs.Parts.{AreRanks}

-- what holds after the first i states
pub record RanksTo (t : Tree) (i ors : ℕ) (ranks : List ℕ) : Type 0 where
  pub ors_are : ors ≡ or_rank t i
  pub low : ors ≤ i
  pub size : length ranks ≡ i
  pub are : (s : ℕ) → s < i → get_or ranks s 0 ≡ or_rank t s
  pub lows : (s : ℕ) → s < i → get_or ranks s 0 ≤ s

-- no OR stands before the first state
none_before : (t : Tree) → 0 ≡ or_rank t 0
unfolding or_rank
none_before t = refl

-- before the first state
pub ranks_start : (t : Tree) (ranks : List ℕ) → ranks ≡ [] → RanksTo t 0 0 ranks
ranks_start t ranks e = record {
  ors_are = none_before t;
  low = omega arith;
  size = ap length e;
  are = λ s h. absurd (omega (arith, h));
  lows = λ s h. absurd (omega (arith, h));
}

-- one more state
rank-more : (t : Tree) (i : ℕ) → IsTree t → i < state_count t
    → or_rank t (i + 1) ≡ or_rank t i + cond (is_or (comp_of t i)) 1 0
unfolding or_rank comp_of state_count
rank-more t i tree lt =
    sum_by_more (λ (x : Comp). cond (is_or x) 1 0) t.comps i Leaf (let s = tree.same_length in omega (arith, s, lt))

-- a state is one OR at most
one_at_most : (b : Bool) → cond b 1 0 ≤ 1
one_at_most true = omega arith
one_at_most false = omega arith

-- after one more state
pub ranks_more : (t : Tree) (i ors more : ℕ) (old new : List ℕ) → IsTree t → i < state_count t → RanksTo t i ors old
    → new ≡ old ++ ors ∷ [] → more ≡ ors + cond (is_or (comp_of t i)) 1 0 → RanksTo t (i + 1) more new
ranks_more t i ors more old new tree lt is e m =
    let one = one_at_most (is_or (comp_of t i)) in let low = is.low in let size = is.size in
    record {
      ors_are = m ∙ ap (λ k. k + cond (is_or (comp_of t i)) 1 0) is.ors_are ∙ sym (rank-more t i tree lt);
      low = omega (arith, m, one, low);
      size = ap length e ∙ length-append old (ors ∷ []) ∙ omega (arith, size);
      are = below_more (λ k. get_or new k 0 ≡ or_rank t k) i
          (λ k h. ap (λ l. get_or l k 0) e ∙ get_or_append_left old (ors ∷ []) 0 k (omega (arith, h, size))
          ∙ is.are k h)
          (ap (λ l. get_or l i 0) e ∙ get_or_push old ors 0 i size ∙ is.ors_are);
      lows = below_more (λ k. get_or new k 0 ≤ k) i
          (λ k h. subst (λ (z : ℕ). z ≤ k)
          (sym (ap (λ l. get_or l k 0) e ∙ get_or_append_left old (ors ∷ []) 0 k (omega (arith, h, size))))
          (is.lows k h))
          (subst (λ (z : ℕ). z ≤ i) (sym (ap (λ l. get_or l i 0) e ∙ get_or_push old ors 0 i size)) low);
    }

-- all states
rank-all : (t : Tree) → IsTree t → or_rank t (state_count t) ≡ or_count t
unfolding or_rank or_count
rank-all t tree =
    ap (λ (l : List Comp). count_by is_or l) (take_all (state_count t) t.comps (let s = tree.same_length in omega
    (arith, s)))

-- after all states
pub ranks_end : (t : Tree) (i ors : ℕ) (ranks : List ℕ) → IsTree t → i ≡ state_count t → RanksTo t i ors ranks
    → AreRanks t ors ranks
ranks_end t i ors ranks tree e is =
    let low = is.low in
    record {
      ors_are = is.ors_are ∙ ap (or_rank t) e ∙ rank-all t tree;
      ors_few = omega (arith, low, e);
      ranks_length = is.size ∙ e;
      ranks_are = λ s h. is.are s (omega (arith, h, e));
      ranks_low = λ s h. let l = is.lows s (omega (arith, h, e)) in omega (arith, l, h);
    }
