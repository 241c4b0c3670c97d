-- How many ORs stand before a state.
use Rattle.std.proofs.Common.{◌≡◌, ℕ, ◌+◌, ◌<◌, ◌≤◌, true, false, length, take, refl, ap, arith}
use Rattle.std.specs.List.{count_by}
use Rattle.std.proofs.lemmas.List.{take_all, length-take}
use Rattle.std.proofs.lemmas.List.Sums.{count_by_more_yes, count_by_more_no, count_by-le-length}
use Rattle.active_config.specs.declared.comp.Comp.TheVariants.{Leaf}
use Rattle.active_config.specs.Tree.{Tree, comp_of, is_or}
use Rattle.c_functions.specs.Layout.{or_count, or_rank}

-- none before the first state
pub rank-none : (t : Tree) → or_rank t 0 ≡ 0
unfolding or_rank
rank-none t = refl

-- one more after an OR
pub rank-more : (t : Tree) (s : ℕ) → s < length t.comps → is_or (comp_of t s) ≡ true
    → or_rank t (s + 1) ≡ or_rank t s + 1
unfolding or_rank comp_of
rank-more t s within is = count_by_more_yes is_or t.comps s Leaf within is

-- as many after another state
pub rank-same : (t : Tree) (s : ℕ) → s < length t.comps → is_or (comp_of t s) ≡ false
    → or_rank t (s + 1) ≡ or_rank t s
unfolding or_rank comp_of
rank-same t s within is = count_by_more_no is_or t.comps s Leaf within is

-- all after the last one
pub rank-all : (t : Tree) (s : ℕ) → length t.comps ≤ s → or_rank t s ≡ or_count t
unfolding or_rank or_count
rank-all t s past = ap (λ xs. count_by is_or xs) (take_all s t.comps past)

-- at most as many as states
pub rank-few : (t : Tree) (s : ℕ) → or_rank t s ≤ s
unfolding or_rank
rank-few t s = omega (arith, count_by-le-length is_or (take s t.comps), length-take s t.comps)
