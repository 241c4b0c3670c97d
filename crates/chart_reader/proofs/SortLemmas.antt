-- Items in their lists, the last first.
use Rattle.std.proofs.Common.{◌≡◌, List, [], ◌∷◌, ◌++◌, reverse, Result, Ok, Err, OnOk, refl, ap}
use Rattle.chart_tree.specs.declared.name.NameText.{NameText}
use Rattle.chart_tree.specs.declared.state.CompText.{CompText}
use Rattle.chart_grammar.specs.States.{Item, Sorted, no_items, put, sorted}
use Rattle.chart_reader.specs.Items.{put_all}

-- the last of them first
pub put_last : (xs : List Item) (x : Item) (s : Sorted) → put_all (xs ++ x ∷ []) s ≡ put_all xs (put x s)
put_last [] x s = refl
put_last (y ∷ xs) x s = ap (put y) (put_last xs x s)

-- all of them in front of none
pub put_sorted : (name : NameText) (comp : CompText) (xs : List Item)
    → put_all xs (no_items name comp) ≡ sorted name comp xs
put_sorted name comp [] = refl
put_sorted name comp (x ∷ xs) = ap (put x) (put_sorted name comp xs)

-- an item in front of a list, where there was memory for it
pub added : {X R E : Type 0} (make : List X → Sorted) (result : Result R E) (item : X) (old new : List X)
    → OnOk result (reverse new ≡ item ∷ reverse old) → OnOk result (make (reverse new) ≡ make (item ∷ reverse old))
added make (Ok done) item old new e = ap make e
added make (Err e) item old new h = tt
