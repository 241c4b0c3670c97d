-- What holds of each item of a list, data with their first values item by item, and charts by their parts.
use Rattle.std.proofs.Common.{◌≡◌, ℕ, zero, suc, ◌<◌, List, [], ◌∷◌, ◌++◌, length, map, get_or, take}
use Rattle.std.proofs.Common.{refl, ap, ◌∙◌, arith}
use Rattle.std.specs.List.{AllByRecursion}
use Rattle.actions.specs.declared.names.Var.{Var}
use Rattle.actions.specs.Names.{Names}
use Rattle.active_config.specs.Tree.{Tree}
use Rattle.chart_tree.specs.declared.sort.InitText.{InitText}
use Rattle.checked_chart.specs.declared.parts.StateParts.{StateParts}
use Rattle.checked_chart.specs.declared.parts.Trans.{Trans}
use Rattle.checked_chart.specs.Chart as charts
use Rattle.checked_chart.specs.Views.{node_seen, list_seen, chart_seen}
use Rattle.resolved_tree.specs.Plain.{with_init, with_inits}

-- what holds of all items, seen by a function, holds of each
pub all_at : {A B : Type 0} (P : B → Type 0) (f : A → B) (xs : List A) (i : ℕ) (d : A) → i < length xs
    → AllByRecursion P (map f xs) → P (f (get_or xs i d))
all_at P f [] i d lt all = absurd (omega arith)
all_at P f (x ∷ xs) zero d lt all = all.0
all_at P f (x ∷ xs) (suc i) d lt all = all_at P f xs i d (omega arith) all.1

pub each_at : {A : Type 0} (P : A → Type 0) (xs : List A) (i : ℕ) (d : A) → i < length xs
    → AllByRecursion P xs → P (get_or xs i d)
each_at P [] i d lt all = absurd (omega arith)
each_at P (x ∷ xs) zero d lt all = all.0
each_at P (x ∷ xs) (suc i) d lt all = each_at P xs i d (omega arith) all.1

-- one datum more
pub inits_more : (vs : List Var) (xs : List InitText) (i : ℕ) (v : Var) (x : InitText) → i < length vs → i < length xs
    → with_inits (take (suc i) vs) (take (suc i) xs)
    ≡ with_inits (take i vs) (take i xs) ++ with_init (get_or vs i v) (get_or xs i x) ∷ []
inits_more [] xs i v x lt lt2 = absurd (omega arith)
inits_more (y ∷ ys) [] i v x lt lt2 = absurd (omega arith)
inits_more (y ∷ ys) (z ∷ zs) zero v x lt lt2 = refl
inits_more (y ∷ ys) (z ∷ zs) (suc i) v x lt lt2 =
    ap (λ ws. with_init y z ∷ ws) (inits_more ys zs i v x (omega arith) (omega arith))

-- what is declared, with other data
abbrev pub names_with : Names → List Var → Names
names_with n vs = record n { vars = vs }

abbrev chart_with : Tree → Names → List charts.Node → List (List charts.Trans) → charts.Chart
chart_with t n nodes junctions = record { tree = t; names = n; nodes = nodes; junctions = junctions }

-- parts that are seen as those of a chart are that chart
pub chart_made : (c : charts.Chart) (t : Tree) (n : Names) (ss : List StateParts) (js : List (List Trans))
    → t ≡ c.tree → n ≡ c.names → map node_seen ss ≡ c.nodes → map list_seen js ≡ c.junctions → chart_seen t n ss js ≡ c
chart_made c t n ss js tree names nodes junctions =
    ap (λ x. chart_with x n (map node_seen ss) (map list_seen js)) tree
    ∙ ap (λ x. chart_with c.tree x (map node_seen ss) (map list_seen js)) names
    ∙ ap (λ x. chart_with c.tree c.names x (map list_seen js)) nodes
    ∙ ap (chart_with c.tree c.names c.nodes) junctions
