-- The first of the faults of several parts.
use Rattle.std.proofs.Common.{◌≡◌, List, [], ◌++◌, Option, refl, sym, ap, ◌∙◌, append_assoc}
use Rattle.std.proofs.lemmas.Grind.{common_steps, flat_map-append}
use Rattle.chart_tree.specs.declared.first.FaultAt.{FaultAt}
use Rattle.resolved_tree.specs.Faults.{first_with}
use Rattle.resolved_tree.proofs.FirstLemmas.{first_with_both}

-- of no faults the one that was found stays
pub first_with_none : (found : Option FaultAt) → first_with found [] ≡ found
unfolding first_with
first_with_none found = refl

-- the first fault of three parts
pub three_found : (o a b d : Option FaultAt) (xs ys zs : List FaultAt) → a ≡ first_with o xs → b ≡ first_with a ys
    → d ≡ first_with b zs → d ≡ first_with o (xs ++ ys ++ zs)
three_found o a b d xs ys zs ea eb ed =
    let e1 = first_with_both o (xs ++ ys) zs in
    let e2 = first_with_both o xs ys in
    cc

-- the first fault of three parts and of three more
pub three_more_found : (o a b : Option FaultAt) (xs ys zs us vs ws : List FaultAt) → a ≡ first_with o (xs ++ ys ++ zs)
    → b ≡ first_with a (us ++ vs ++ ws) → b ≡ first_with o (xs ++ ys ++ zs ++ us ++ vs ++ ws)
three_more_found o a b xs ys zs us vs ws ea eb =
    let front : List FaultAt = xs ++ ys ++ zs in
    eb ∙ ap (λ (f : Option FaultAt). first_with f (us ++ vs ++ ws)) ea
    ∙ sym (first_with_both o front (us ++ vs ++ ws))
    ∙ ap (first_with o)
    (sym (append_assoc front (us ++ vs) ws) ∙ ap (λ (l : List FaultAt). l ++ ws) (sym (append_assoc front us vs)))

-- the first fault of five parts
pub five_found : (o a b d e f : Option FaultAt) (xs ys zs vs ws : List FaultAt) → a ≡ first_with o xs
    → b ≡ first_with a ys → d ≡ first_with b zs → e ≡ first_with d vs → f ≡ first_with e ws
    → f ≡ first_with o (xs ++ ys ++ zs ++ vs ++ ws)
five_found o a b d e f xs ys zs vs ws ea eb ed ee ef =
    let e1 = first_with_both o (xs ++ ys ++ zs ++ vs) ws in
    let e2 = first_with_both o (xs ++ ys ++ zs) vs in
    let e3 = three_found o a b d xs ys zs ea eb ed in
    cc

-- faults part by part
pub ruleset found_steps = (common_steps, first_with_both, first_with_none, flat_map-append)
