-- What holds of the placed states of a chart that meets the conditions of chart texts.
use Rattle.std.proofs.Common.{◌≡◌, ◌≢◌, ℕ, zero, suc, ◌+◌, ◌≤◌, ◌<◌, List, [], ◌∷◌, ◌++◌, map, length, Option, Some}
use Rattle.std.proofs.Common.{None, Bool, true, false, refl, sym, ap, ◌∙◌, subst, arith, inl, inr, length-append}
use Rattle.std.proofs.lemmas.Bool.{cases_lt}
use Rattle.std.specs.Prelude.{◌⊎◌, slice_get, if◌then◌else◌}
use Rattle.std.specs.List.{AllByRecursion}
use Rattle.active_config.specs.declared.comp.Comp.TheVariants.{Leaf}
use Rattle.active_config.specs.Tree.{Tree, state_count, parent_of, comp_of, ancestors, IsPreOrder}
use Rattle.active_config.proofs.ParentLemmas.{child_within}
use Rattle.active_config.proofs.PathLemmas.{ancestors-step, ancestors-root}
use Rattle.chart_tree.specs.Trees.{State, StateOf, States, NoState, MoreStates}
use Rattle.chart_print.specs.Canonical.{parts_in, states_in}
use Rattle.canonical_text.specs.Terms.{IsParts, IsState, IsStates}
use Rattle.chart_places.specs.Placed.{Placed, is_any, placed_from, placed_below, placed_comp, placed_word, parent_comp}
use Rattle.chart_places.specs.Placed.{word_comp}
use Rattle.chart_places.specs.Scopes.{Scopes}
use Rattle.chart_places.proofs.TreeLemmas.{Lie, lie_first, lie_rest}
use Rattle.resolved_tree.specs.Resolved as resolved
use Rattle.chart_scope.specs.Resolution.{resolved_state, resolved_states}
use Rattle.chart_scope.specs.Uses.{resolved_stmt, resolved_trans}

-- the parts of each state meet their condition
abbrev pub HaveParts : List Placed → Type 0
HaveParts ps = AllByRecursion (λ (x : Placed). IsParts x.parts) ps

parts-append : (ps qs : List Placed) → HaveParts ps → HaveParts qs → HaveParts (ps ++ qs)
parts-append [] qs h k = k
parts-append (p ∷ ps) qs h k = (h.0, parts-append ps qs h.1 k)

mutual
  from_parts : (deep : ℕ) (parent : Option ℕ) (n : ℕ) (x : State) → IsState deep x → HaveParts (placed_from parent n x)
  from_parts deep parent n (StateOf parts below) h = (h.0, below_parts deep n (suc n) below h.2)

  below_parts : (deep s n : ℕ) (xs : States) → IsStates deep xs → HaveParts (placed_below s n xs)
  below_parts deep s n NoState h = tt
  below_parts zero s n (MoreStates x rest) h = absurd h
  below_parts (suc deeper) s n (MoreStates x rest) h =
      let l = placed_from (Some s) n x in
      parts-append l (placed_below s (n + length l) rest) (from_parts deeper (Some s) n x h.0)
      (below_parts (suc deeper) s (n + length l) rest h.1)

-- those of the root and of all states below it
pub root_parts : (deep : ℕ) (root : State) → IsParts (parts_in root) → IsStates deep (states_in root)
    → HaveParts (placed_from None 0 root)
root_parts deep (StateOf parts below) h k = (h, below_parts deep 0 1 below k)

-- ---- depth

-- the first of child states has that parent
first_parent : (t : Tree) (s n : ℕ) (x : State) (rest : List Placed) → Lie t n (placed_from (Some s) n x ++ rest)
    → parent_of t n ≡ Some s
first_parent t s n (StateOf parts below) rest h = h.0

-- states from number n on, before number e, have at most so many ancestors
abbrev pub AreShallow : Tree → ℕ → ℕ → ℕ → Type 0
AreShallow t most n e = (j : ℕ) → n ≤ j → j < e → length (ancestors t j) ≤ most

-- those before a number and those from it on
shallow_both : (t : Tree) (most n k e : ℕ) → AreShallow t most n k → AreShallow t most k e → AreShallow t most n e
shallow_both t most n k e low high j lo hi = at (cases_lt j k)
  where
    at : (j < k) ⊎ (k ≤ j) → length (ancestors t j) ≤ most
    at (inl before) = low j lo before
    at (inr after) = high j after hi

-- one state
shallow_one : (t : Tree) (most n : ℕ) → length (ancestors t n) ≤ most → AreShallow t most n (suc n)
shallow_one t most n h j lo hi =
    let same : n ≡ j = omega arith in subst (λ k. length (ancestors t k) ≤ most) same h

module _ (t : Tree) (order : IsPreOrder t (state_count t)) (most : ℕ) where
  mutual
    from_shallow : (deep : ℕ) (parent : Option ℕ) (n : ℕ) (x : State) → IsState deep x
        → Lie t n (placed_from parent n x) → length (ancestors t n) + deep ≤ most
        → AreShallow t most n (n + length (placed_from parent n x))
    from_shallow deep parent n (StateOf parts below) h lie few =
        let l = placed_below n (suc n) below in
        let e : suc n + length l ≡ n + suc (length l) = omega arith in
        let one = shallow_one t most n (omega arith) in
        let rest = below_shallow deep n (suc n) below h.2 lie.2 few in
        subst (AreShallow t most n) e (shallow_both t most n (suc n) (suc n + length l) one rest)

    below_shallow : (deep s n : ℕ) (xs : States) → IsStates deep xs → Lie t n (placed_below s n xs)
        → length (ancestors t s) + deep ≤ most → AreShallow t most n (n + length (placed_below s n xs))
    below_shallow deep s n NoState h lie few = λ j lo hi. absurd (omega arith)
    below_shallow zero s n (MoreStates x rest) h lie few = absurd h
    below_shallow (suc deeper) s n (MoreStates x rest) h lie few =
        let l = placed_from (Some s) n x in
        let k = n + length l in
        let more = placed_below s k rest in
        let up = first_parent t s n x more lie in
        let step = ap length (ancestors-step t (state_count t) order n s (child_within t n s up) up) in
        let first = from_shallow deeper (Some s) n x h.0 (lie_first t n l more lie) (omega arith) in
        let others = below_shallow (suc deeper) s k rest h.1 (lie_rest t n l more lie) few in
        let e : k + length more ≡ n + length (l ++ more) = omega (arith, length-append l more) in
        subst (AreShallow t most n) e (shallow_both t most n k (k + length more) first others)

  -- all states
  pub root_shallow : (root : State) → IsStates most (states_in root) → Lie t 0 (placed_from None 0 root)
      → AreShallow t most 0 (0 + length (placed_from None 0 root))
  root_shallow (StateOf parts below) h lie =
      let l = placed_below 0 1 below in
      let none = ap length (ancestors-root t 0 lie.0) in
      let e : 1 + length l ≡ 0 + suc (length l) = omega arith in
      let one = shallow_one t most 0 (omega arith) in
      let rest = below_shallow most 0 1 below h lie.2 (omega arith) in
      subst (AreShallow t most 0) e (shallow_both t most 0 1 (1 + length l) one rest)

-- ---- words

-- the word of a state with children is its composition
word_is_comp : (x : Placed) → placed_comp x ≢ Leaf → placed_word x ≡ placed_comp x
word_is_comp x some = at x.has_children some
  where
    at : (b : Bool) → (if b then parent_comp x.parts.comp else Leaf) ≢ Leaf
        → (if b then parent_comp x.parts.comp else word_comp x.parts.comp)
        ≡ (if b then parent_comp x.parts.comp else Leaf)
    at true some = refl
    at false some = absurd (some refl)

pub words_kept : (t : Tree) (p : Scopes) (n : ℕ) (ps : List Placed) → Lie t n ps → (i : ℕ) (x : resolved.State)
    → slice_get (resolved_states p n ps) i ≡ Some x → comp_of t (n + i) ≢ Leaf → x.word ≡ comp_of t (n + i)
words_kept t p n [] lie i x e some = absurd cc
words_kept t p n (y ∷ ys) lie zero x e some =
    let here : n + 0 ≡ n = omega arith in
    let is = ap (comp_of t) here ∙ lie.1 in
    let word : placed_word y ≡ x.word = cc in
    sym word ∙ word_is_comp y (λ leaf. some (is ∙ leaf)) ∙ sym is
words_kept t p n (y ∷ ys) lie (suc i) x e some =
    let next : suc n + i ≡ n + suc i = omega arith in
    let same = ap (comp_of t) next in
    words_kept t p (suc n) ys lie.2 i x e (λ leaf. some (sym same ∙ leaf)) ∙ same

-- ---- the root

-- the resolved root has no outer transition and no exit action, where the root of the text has none
pub root_kept : (p : Scopes) (root : State) (x : resolved.State) → (parts_in root).outer ≡ []
    → (parts_in root).exit ≡ [] → slice_get (resolved_states p 0 (placed_from None 0 root)) 0 ≡ Some x
    → (x.outer ≡ []) × (x.exit ≡ [])
root_kept p (StateOf parts below) x outer exit e =
    let here : Placed = record { parent = None; parts = parts; has_children = is_any below } in
    let same : resolved_state p 0 here ≡ x = cc in (
      sym (ap (λ (y : resolved.State). y.outer) same) ∙ ap (map (resolved_trans p 0)) outer,
      sym (ap (λ (y : resolved.State). y.exit) same) ∙ ap (map (resolved_stmt p 0)) exit,
    )
