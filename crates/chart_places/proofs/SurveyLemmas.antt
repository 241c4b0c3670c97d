-- A state of the code, placed with those below it.
use Rattle.std.proofs.Common.{◌≡◌, ℕ, suc, ◌+◌, ◌<◌, List, [], ◌∷◌, ◌++◌, map, length, drop, get_or, not, false}
use Rattle.std.proofs.Common.{Option, Some, refl, ap, sym, ◌∙◌, append_assoc, Bor, arith}
use Rattle.std.proofs.lemmas.Bool.Decides.{nat_tests}
use Rattle.std.proofs.lemmas.Grind.{common_steps}
use Rattle.std.proofs.lemmas.List.{map-append, length-map, length-append, drop_more}
use Rattle.std.specs.Prelude.{◌==◌}
use Rattle.flow_base.specs.Lists.{items_of}
use Rattle.chart_tree.specs.declared.state.StateText.{StateText, StateText', Row_of-StateText, end_of-StateText}
use Rattle.chart_tree.specs.declared.state.StateText.{more_of-StateText, out-StateText, outs-StateText'}
use Rattle.chart_tree.specs.declared.state.StateText.{items-the_row-StateText, items_shown-the_row-StateText-0}
use Rattle.chart_tree.specs.Trees.{State, StateOf}
use Rattle.chart_tree.specs.Views.{state_of, states_of, junction_of}
use Rattle.chart_places.specs.declared.states.PlacedState.{PlacedState}
use Rattle.chart_places.specs.Placed.{Placed, is_any, placed_from, placed_below}
use Rattle.chart_places.specs.Survey.{placed_of, placed_row, parts_in, states_in}

-- the states of a row, one after the other
below_row : (s n : ℕ) (m : _) (row : Row_of-StateText m)
    → placed_below s n (states_of row) ≡ placed_row s n (map state_of (items-the_row-StateText m row))
below_row s n m end_of-StateText = refl
below_row s n _ (more_of-StateText {n = m} state others) =
    ap (λ (ps : List Placed). placed_from (Some s) n (state_of state) ++ ps)
    (below_row s (n + length (placed_from (Some s) n (state_of state))) m others)

-- the child states of a state of the code
pub below-seen : (s n : ℕ) (x : StateText) → placed_below s n (states_in (state_of x))
    ≡ placed_row s n (map state_of (items_of (out-StateText x).states))
below-seen s n (StateText' name comp entry during exit history outer inner default junctions shape states) =
    rw (
      outs-StateText' name comp entry during exit history outer inner default junctions shape states,
      items_shown-the_row-StateText-0 shape states,
    )
    (below_row s n _ states)

-- a state of the code comes before those below it
pub placed_from-seen : (parent : Option ℕ) (n m : ℕ) (x : StateText) → m ≡ n + 1 → placed_from parent n (state_of x)
    ≡ record { parent = parent; parts = parts_in (state_of x); has_children = is_any (states_in (state_of x)) }
    ∷ placed_row n m (map state_of (items_of (out-StateText x).states))
placed_from-seen parent n m x next =
    from_parts (state_of x)
    ∙ ap (λ (ps : List Placed). record {
      parent = parent;
      parts = parts_in (state_of x);
      has_children = is_any (states_in (state_of x));
    } ∷ ps)
    (let same : suc n ≡ m = omega arith in ap (λ (k : ℕ). placed_below n k (states_in (state_of x))) same
    ∙ below-seen n m x)
  where
    from_parts : (y : State) → placed_from parent n y
        ≡ record { parent = parent; parts = parts_in y; has_children = is_any (states_in y) }
        ∷ placed_below n (suc n) (states_in y)
    from_parts (StateOf parts below) = refl

-- a state is appended, and those below it after it
pub placed-after : (olds news : List PlacedState) (parent : Option ℕ) (n m : ℕ) (x : Bor StateText)
    → news ≡ olds ++ record { parent = parent; state = x } ∷ [] → m ≡ n + 1
    → map placed_of news ++ placed_row n m (map state_of (items_of (out-StateText x.now).states))
    ≡ map placed_of olds ++ placed_from parent n (state_of x.now)
placed-after olds news parent n m x push next =
    let rest = placed_row n m (map state_of (items_of (out-StateText x.now).states)) in
    let p : PlacedState = record { parent = parent; state = x } in
    ap (λ (ps : List PlacedState). map placed_of ps ++ rest) push
    ∙ ap (λ (ps : List Placed). ps ++ rest) (map-append placed_of olds (p ∷ []))
    ∙ append_assoc (map placed_of olds) (placed_of p ∷ []) rest
    ∙ ap (λ (ps : List Placed). map placed_of olds ++ ps) (sym (placed_from-seen parent n m x.now next))

-- once a child state and those below it are appended, the others are left
pub row-next : (s : ℕ) (olds news : List PlacedState) (n m : ℕ) (xs : List StateText) (i : ℕ) (x : StateText)
    (all : List Placed) → i < length xs → x ≡ get_or xs i x → n ≡ length olds → m ≡ length news
    → map placed_of news ≡ map placed_of olds ++ placed_from (Some s) n (state_of x)
    → map placed_of olds ++ placed_row s n (map state_of (drop i xs)) ≡ all
    → map placed_of news ++ placed_row s m (map state_of (drop (i + 1) xs)) ≡ all
row-next s olds news n m xs i x all within at old_size new_size step so_far =
    let before = map placed_of olds in
    let here = placed_from (Some s) n (state_of x) in
    let rest = map state_of (drop (i + 1) xs) in
    let cut : drop i xs ≡ x ∷ drop (i + 1) xs =
    drop_more xs i x within ∙ ap (λ (y : StateText). y ∷ drop (i + 1) xs) (sym at) in
    let size : m ≡ n + length here =
    omega (
      arith,
      length-map news placed_of,
      length-map olds placed_of,
      ap length step,
      length-append before here,
    ) in
    ap (λ (ps : List Placed). ps ++ placed_row s m rest) step ∙ append_assoc before here (placed_row s m rest)
    ∙ ap (λ (k : ℕ). before ++ (here ++ placed_row s k rest)) size
    ∙ sym (ap (λ (ys : List StateText). before ++ placed_row s n (map state_of ys)) cut) ∙ so_far

-- ---- parts of a state of the code

-- its composition word
pub comp-seen : (x : StateText) → (parts_in (state_of x)).comp ≡ (out-StateText x).comp
comp-seen (StateText' name comp entry during exit history outer inner default junctions shape states) =
    rw (outs-StateText' name comp entry during exit history outer inner default junctions shape states) refl

-- its junctions
pub junctions-seen : (x : StateText)
    → (parts_in (state_of x)).junctions ≡ map junction_of (items_of (out-StateText x).junctions)
junctions-seen (StateText' name comp entry during exit history outer inner default junctions shape states) =
    rw (outs-StateText' name comp entry during exit history outer inner default junctions shape states) refl

-- its name
pub name-seen : (x : StateText) → (parts_in (state_of x)).name ≡ (out-StateText x).name
name-seen (StateText' name comp entry during exit history outer inner default junctions shape states) =
    rw (outs-StateText' name comp entry during exit history outer inner default junctions shape states) refl

no_zero : (n : ℕ) → (suc n == 0) ≡ false
no_zero n = grind (arith, nat_tests)

any_row : (m : _) (row : Row_of-StateText m) → is_any (states_of row) ≡ not (length (items-the_row-StateText m row) == 0)
any_row m end_of-StateText = refl
any_row _ (more_of-StateText {n = m} state others) =
    sym (ap not (no_zero (length (items-the_row-StateText m others))))

-- whether it has child states
pub children-seen : (x : StateText)
    → is_any (states_in (state_of x)) ≡ not (length (items_of (out-StateText x).states) == 0)
children-seen (StateText' name comp entry during exit history outer inner default junctions shape states) =
    rw (
      outs-StateText' name comp entry during exit history outer inner default junctions shape states,
      items_shown-the_row-StateText-0 shape states,
    )
    (any_row _ states)

pub ruleset seen = (comp-seen, children-seen)

pub ruleset named = (common_steps, name-seen)
