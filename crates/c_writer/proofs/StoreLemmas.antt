-- The stores of a start.
use Rattle.std.proofs.Common.{◌≡◌, ◌<◌, ◌+◌, ◌-◌, ◌/◌, ℕ, suc, List, [], ◌∷◌, ◌++◌, length, map, replicate}
use Rattle.std.proofs.Common.{sym, ap, ◌∙◌, arith}
use Rattle.std.proofs.lemmas.List.{length-map, length-replicate}
use Rattle.active_config.specs.Tree.{state_count}
use Rattle.actions.specs.declared.names.Var.{Var}
use Rattle.c_subset.specs.Trees.{Block}
use Rattle.c_subset.specs.Trees as c
use Rattle.c_subset.specs.declared.trees.CType.{CType}
use Rattle.c_subset.specs.declared.trees.CType.TheVariants.{Unsigned}
use Rattle.c_subset.specs.declared.trees.Line.{Line}
use Rattle.c_subset.specs.declared.trees.Width.TheVariants.{W16}
use Rattle.c_subset.specs.Lines.{Appends, lines_in, lines_of}
use Rattle.c_subset.specs.Meaning.{CValue}
use Rattle.c_functions.specs.Layout.{or_count}
use Rattle.c_functions.specs.Plans.{Shape, word}
use Rattle.c_functions.specs.Starts.{first_values, store_all}
use Rattle.c_writer.specs.Starting.{nothing_of, value_of}

-- values before others
store_all-append : (f : ℕ) (xs ys : List CValue) (rest : Block)
    → store_all f (xs ++ ys) rest ≡ store_all f xs (store_all (f + length xs) ys rest)
store_all-append f [] ys rest = let e : f ≡ f + 0 = omega arith in ap (λ k. store_all k ys rest) e
store_all-append f (x ∷ xs) ys rest =
    let e : suc f + length xs ≡ f + suc (length xs) = omega arith in
    ap (c.Store f (c.Const x.type x.value))
    (store_all-append (suc f) xs ys rest ∙ ap (λ k. store_all (suc f) xs (store_all k ys rest)) e)

-- zeros from one on
pub zeros_more : (f i n : ℕ) (t : CType) (rest : Block) → i < n
    → store_all (f + i) (replicate (n - i) (nothing_of t)) rest
    ≡ c.Store (f + i) (c.Const t (nothing_of t).value)
    (store_all (f + (i + 1)) (replicate (n - (i + 1)) (nothing_of t)) rest)
zeros_more f i n t rest lt =
    let count : n - i ≡ suc (n - (i + 1)) = omega arith in
    let next : suc (f + i) ≡ f + (i + 1) = omega arith in
    ap (λ k. store_all (f + i) (replicate k (nothing_of t)) rest) count
    ∙ ap (λ k. c.Store (f + i) (c.Const t (nothing_of t).value)
    (store_all k (replicate (n - (i + 1)) (nothing_of t)) rest)) next

-- all fields, kind by kind: the data, so many more words from a number on, the numbers of so many ORs, and words for
-- so many states
abbrev pub fields_by : List Var → ℕ → ℕ → ℕ → Block → Block
fields_by vars u o s rest =
    store_all 0 (map value_of vars) (store_all u (replicate 6 (nothing_of word))
    (store_all (u + 6) (replicate (o + o) (nothing_of (Unsigned W16)))
    (store_all (u + 6 + o + o) (replicate ((s + 31) / 32) (nothing_of word)) rest)))

all_fields : (K : Shape) (rest : Block) → store_all 0 (first_values K) rest
    ≡ fields_by K.names.vars (length K.names.vars) (or_count K.tree) (state_count K.tree) rest
unfolding first_values
all_fields K rest =
    let n = length K.names.vars in
    let m = or_count K.tree + or_count K.tree in
    let vars = map value_of K.names.vars in
    let six = replicate 6 (nothing_of word) in
    let numbers = replicate m (nothing_of (Unsigned W16)) in
    let words = replicate ((state_count K.tree + 31) / 32) (nothing_of word) in
    let vars_length : 0 + length vars ≡ n = omega (arith, length-map K.names.vars value_of) in
    let six_length : n + length six ≡ n + 6 = omega (arith, length-replicate 6 (nothing_of word)) in
    let numbers_length : n + 6 + length numbers ≡ n + 6 + or_count K.tree + or_count K.tree =
    omega (arith, length-replicate m (nothing_of (Unsigned W16))) in
    store_all-append 0 vars (six ++ (numbers ++ words)) rest
    ∙ ap (store_all 0 vars) (ap (λ k. store_all k (six ++ (numbers ++ words)) rest) vars_length
    ∙ store_all-append n six (numbers ++ words) rest
    ∙ ap (store_all n six) (ap (λ k. store_all k (numbers ++ words) rest) six_length
    ∙ store_all-append (n + 6) numbers words rest
    ∙ ap (λ k. store_all (n + 6) numbers (store_all k words rest)) numbers_length))

-- what was appended for each kind was appended for all fields
pub fields_put : (K : Shape) (vars : List Var) (u o s : ℕ) (l0 l1 l2 l3 l4 : List Line) → vars ≡ K.names.vars
    → u ≡ length K.names.vars → o ≡ or_count K.tree → s ≡ state_count K.tree
    → Appends l0 l1 (store_all 0 (map value_of vars)) → Appends l1 l2 (store_all u (replicate 6 (nothing_of word)))
    → Appends l2 l3 (store_all (u + 6) (replicate (o + o) (nothing_of (Unsigned W16))))
    → Appends l3 l4 (store_all (u + 6 + o + o) (replicate ((s + 31) / 32) (nothing_of word)))
    → Appends l0 l4 (store_all 0 (first_values K))
fields_put K vars u o s l0 l1 l2 l3 l4 ev eu eo es h1 h2 h3 h4 rest =
    let n = length K.names.vars in
    let last = store_all (u + 6 + o + o) (replicate ((s + 31) / 32) (nothing_of word)) rest in
    let third = store_all (u + 6) (replicate (o + o) (nothing_of (Unsigned W16))) last in
    h4 rest ∙ h3 last ∙ h2 third ∙ h1 (store_all u (replicate 6 (nothing_of word)) third)
    ∙ ap (λ b. lines_in l0 ++ lines_of b)
    (ap (λ x. fields_by x u o s rest) ev ∙ ap (λ x. fields_by K.names.vars x o s rest) eu
    ∙ ap (λ x. fields_by K.names.vars n x s rest) eo
    ∙ ap (λ x. fields_by K.names.vars n (or_count K.tree) x rest) es ∙ sym (all_fields K rest))
