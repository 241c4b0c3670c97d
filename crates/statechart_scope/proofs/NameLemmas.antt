-- Names that are put together from left to right.
use Rattle.std.proofs.Common.{◌≡◌, ℕ, List, [], ◌∷◌, ◌++◌, refl, ap, sym, ◌∙◌, append_assoc, append-nil}
use Rattle.std.proofs.lemmas.Grind.{common_steps}
use Rattle.std.proofs.lemmas.List.Concat.{flat_map-append}
use Rattle.std.specs.Prelude.{codes, decimal}
use Rattle.statechart_meaning.specs.Names.{Home, joined, fitted, datum_at, datum_name, counter_name, every_name}
use Rattle.statechart_scope.specs.Made.{prefix, fitting, made_name}
use Rattle.statechart_scope.proofs.StateViews.{name-seen}

-- the last one behind the others
pub joined_last : (names : List (List ℕ)) (x : List ℕ) → joined (names ++ x ∷ []) ≡ prefix names ++ x
joined_last [] x = refl
joined_last (y ∷ []) x = ap (λ l. l ++ x) (sym (append-nil (y ++ codes "__")))
joined_last (y ∷ (z ∷ rest)) x =
    ap (λ l. (y ++ codes "__") ++ l) (joined_last (z ∷ rest) x)
    ∙ sym (append_assoc (y ++ codes "__") (prefix (z ∷ rest)) x)

-- one more name of a path
pub prefix_more : (names : List (List ℕ)) (x : List ℕ) → prefix (names ++ x ∷ []) ≡ prefix names ++ (x ++ codes "__")
prefix_more names x =
    flat_map-append (λ (y : List ℕ). y ++ codes "__") names (x ∷ [])
    ∙ ap (λ l. prefix names ++ l) (append-nil (x ++ codes "__"))

pub ruleset path_steps = (common_steps, prefix_more, name-seen)

fitting_same : (a b c d : List ℕ) → a ≡ b → c ≡ d → fitting a c ≡ fitting b d
fitting_same a b c d p q = ap (λ l. fitting l c) p ∙ ap (λ l. fitting b l) q

-- three names behind words, from left to right
regroup : (w d u x : List ℕ) → w ++ ((d ++ u) ++ x) ≡ ((w ++ d) ++ u) ++ x
regroup w d u x = simp append_assoc

-- a datum of a state below the statechart
below_made : (path : List (List ℕ)) (s : List ℕ) (n : ℕ) (x : List ℕ)
    → datum_at (path ++ s ∷ []) n x
    ≡ fitted ((path ++ s ∷ []) ++ x ∷ []) (codes "state" ∷ (decimal n ∷ (x ∷ [])))
below_made [] s n x = refl
below_made (p ∷ path) s n x = refl

pub datum_made : (path : List (List ℕ)) (s : List ℕ) (n : ℕ) (x : List ℕ)
    → datum_at (path ++ s ∷ []) n x
    ≡ made_name (record { path = path ++ s ∷ []; number = n }) [] (codes "state__") x
datum_made path s n x =
    below_made path s n x
    ∙ fitting_same _ _ _ _ (joined_last (path ++ s ∷ []) x)
    (regroup (codes "state__") (decimal n) (codes "__") x)

pub counter_made : (h : Home) (e : List ℕ) → counter_name h e ≡ made_name h (codes "after__") (codes "after__") e
counter_made h e =
    fitting_same _ _ _ _ (joined_last (codes "after" ∷ h.path) e)
    (regroup (codes "after__") (decimal h.number) (codes "__") e)

-- an event and a number behind a path
every_long : (path : List (List ℕ)) (e d : List ℕ)
    → joined (codes "every" ∷ (path ++ (e ∷ (d ∷ []))))
    ≡ (codes "every__" ++ prefix path) ++ ((e ++ codes "__") ++ d)
every_long path e d =
    let names = codes "every" ∷ path in
    ap joined (sym (append_assoc names (e ∷ []) (d ∷ []))) ∙ joined_last (names ++ e ∷ []) d
    ∙ ap (λ l. l ++ d) (prefix_more names e) ∙ append_assoc (prefix names) (e ++ codes "__") d

pub every_made : (h : Home) (e : List ℕ) (n : ℕ)
    → every_name h e n ≡ made_name h (codes "every__") (codes "every__") ((e ++ codes "__") ++ decimal n)
every_made h e n =
    fitting_same _ _ _ _ (every_long h.path e (decimal n))
    (regroup (codes "every__") (decimal h.number) (codes "__") ((e ++ codes "__") ++ decimal n))
