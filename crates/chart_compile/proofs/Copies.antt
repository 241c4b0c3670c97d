-- Lists that are copied item by item, and trees of such lists.
use Rattle.std.proofs.Common.{◌≡◌, ℕ, ◌+◌, ◌<◌, List, [], ◌∷◌, ◌++◌, length, map, take, sym, ap, ◌∙◌}
use Rattle.std.specs.Prelude.{slice_index_or}
use Rattle.std.proofs.lemmas.List.{map-append, take_more}
use Rattle.active_config.specs.Tree.{Tree}

-- where each item but the last is that of a list, all are
pub copied_more : {A B : Type 0} (f : A → B) (xs : List A) (x : A) (ys : List B) (i : ℕ) (d : B) → i < length ys
    → map f xs ≡ take i ys → f x ≡ slice_index_or ys i d → map f (xs ++ x ∷ []) ≡ take (i + 1) ys
copied_more f xs x ys i d lt before last =
    map-append f xs (x ∷ []) ∙ ap (λ l. l ++ f x ∷ []) before ∙ ap (λ y. take i ys ++ y ∷ []) last
    ∙ sym (take_more ys i d lt)

-- trees are the same where both their lists are
pub same_tree : (t u : Tree) → t.parents ≡ u.parents → t.comps ≡ u.comps → t ≡ u
same_tree t u parents comps =
    ap (λ ps. record { parents = ps; comps = t.comps }) parents
    ∙ ap (λ cs. record { parents = u.parents; comps = cs }) comps
