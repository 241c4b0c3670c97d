-- What is known of each child of a state, and of the procedures that a path goes on with.
use Rattle.std.proofs.Common.{◌≡◌, ◌≢◌, ℕ, ◌<◌, ◌≤◌, Bool, true, false, [], length, Option, Some, None, refl}
use Rattle.std.proofs.Common.{ap, ◌∙◌, arith}
use Rattle.std.specs.Prelude.{◌==◌, if◌then◌else◌}
use Rattle.std.specs.List.{AllByRecursion}
use Rattle.std.specs.Option.{option_map_or}
use Rattle.std.proofs.lemmas.Bool.Decides.{nat_tests}
use Rattle.active_config.specs.Tree.{state_count, parent_of, comp_of, children_of, is_at_or_below, is_or}
use Rattle.checked_chart.specs.Chart.{Chart, node, has_history, is_remembered, may_return}
use Rattle.checked_chart.specs.Homes.{child_toward, path_in}
use Rattle.checked_chart.specs.Valid.{IsValid}
use Rattle.checked_chart.proofs.Trees.{IsChild, all_map, children_are, toward_is_child}
use Rattle.code_language.specs.WellFormed.{can_be_kept}
use Rattle.code_language.proofs.Accepted.{first_true}
use Rattle.chart_code.specs.Numbers.{Numbers}
use Rattle.chart_code.proofs.Enters.{path_at}
use Rattle.layout_bounds.specs.Calls.{EnterCalls, ArriveCalls}

-- a state that is remembered has a parent that is able to
kept_by : (c : Chart) (up : Option ℕ) → option_map_or (has_history c) up false ≡ true
    → option_map_or (λ q. is_or (comp_of c.tree q)) up false ≡ true
unfolding has_history
kept_by c None h = h
kept_by c (Some q) h = first_true (is_or (comp_of c.tree q)) (node c q).history h

-- a state that is remembered can be
pub remembered_kept : (c : Chart) (s : ℕ) → is_remembered c s ≡ true → can_be_kept c.tree s ≡ true
unfolding is_remembered
remembered_kept c s h = kept_by c (parent_of c.tree s) h

-- a child of a state with history can be remembered
child_kept : (c : Chart) (s x : ℕ) → has_history c s ≡ true → parent_of c.tree x ≡ Some s
    → can_be_kept c.tree x ≡ true
unfolding has_history
child_kept c s x h up =
    ap (λ o. option_map_or (λ q. is_or (comp_of c.tree q)) o false) up
    ∙ first_true (is_or (comp_of c.tree s)) (node c s).history h

module _ (c : Chart) (valid : IsValid c) where
  -- what each child has
  pub on_children : (P : ℕ → Type 0) (s : ℕ) → ((x : ℕ) → x < state_count c.tree → parent_of c.tree x ≡ Some s → P x)
      → AllByRecursion P (children_of c.tree s)
  on_children P s h =
      all_map (IsChild c.tree s) P (children_of c.tree s) (λ x i. h x i.within i.parent)
      (children_are c.tree valid.tree s)

  -- what each child has that a state may enter again by history
  pub on_returns : (P : ℕ → Type 0) (s : ℕ)
      → ((x : ℕ) → x < state_count c.tree → can_be_kept c.tree x ≡ true → parent_of c.tree x ≡ Some s → P x)
      → AllByRecursion P (may_return c s)
  unfolding may_return
  on_returns P s h = go (has_history c s) refl
    where
      go : (b : Bool) → has_history c s ≡ b → AllByRecursion P (if b then children_of c.tree s else [])
      go true e = on_children P s (λ x lt up. h x lt (child_kept c s x e up) up)
      go false e = tt

  -- there are no more of them than children
  pub returns_few : (s : ℕ) → length (may_return c s) ≤ length (children_of c.tree s)
  unfolding may_return
  returns_few s = go (has_history c s)
    where
      go : (b : Bool) → length (if b then children_of c.tree s else []) ≤ length (children_of c.tree s)
      go true = omega arith
      go false = omega arith

  module _ (N : Numbers) (P : ℕ → Type 0) (s d : ℕ) where
    -- a path that ends enters by default
    pub to_defaults : ArriveCalls c.tree N P s d → (s == d) ≡ true → P (N.defaults s)
    to_defaults calls e = let same : s ≡ d = grind (arith, nat_tests) in calls.defaults same

    -- another one goes on with the child towards its end
    pub to_child : ArriveCalls c.tree N P s d → (s == d) ≡ false → (x : ℕ) → child_toward c.tree s d ≡ Some x
        → P (N.enter x d)
    to_child calls e x way =
        let child = toward_is_child c.tree valid.tree s d x way in
        let other : s ≢ d = λ same. different same e in
        calls.child x other child.1.parent (record { state = child.1.within; below = child.0 })
      where
        different : s ≡ d → (s == d) ≡ false → ⊥
        different same e = let yes : (s == d) ≡ true = grind (arith, nat_tests) in cc (yes, e)

    -- where s is entered, the path to d goes on so
    pub entering : EnterCalls c.tree N P s → ArriveCalls c.tree N P s d
    entering calls = record { defaults = λ same. calls.defaults; child = λ x other up path. calls.child x d up path }

    -- and each child of an AND is entered
    pub regions : EnterCalls c.tree N P s
        → AllByRecursion (λ x. P (N.enter x (path_in c.tree x d))) (children_of c.tree s)
    regions calls =
        on_children (λ x. P (N.enter x (path_in c.tree x d))) s
        (λ x lt up. calls.child x (path_in c.tree x d) up (path_at c.tree x d (is_at_or_below c.tree d x) refl lt))
