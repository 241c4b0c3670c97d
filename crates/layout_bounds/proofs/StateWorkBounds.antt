-- Each procedure of a state keeps to the work of its kind, where the procedures that it calls keep to theirs.
use Rattle.std.proofs.Common.{◌≡◌, ℕ, ◌+◌, ◌<◌, ◌≤◌, Bool, true, false, Some, refl, arith}
use Rattle.std.specs.Prelude.{◌==◌, if◌then◌else◌}
use Rattle.std.proofs.lemmas.Bool.Decides.{nat_tests}
use Rattle.active_config.specs.Tree.{state_count, parent_of}
use Rattle.active_config.proofs.ParentLemmas.{child_within}
use Rattle.active_config.proofs.PathLemmas.{is_at_or_below-same}
use Rattle.checked_chart.specs.declared.parts.ListKind.TheVariants.{Outer, Inner, Default}
use Rattle.checked_chart.specs.Chart.{Chart, list_of}
use Rattle.checked_chart.specs.Valid.{IsValid}
use Rattle.code_language.specs.Measures.{work_by}
use Rattle.chart_code.specs.Kinds.{IsPath}
use Rattle.chart_code.specs.Numbers.{Numbers}
use Rattle.chart_code.specs.Bodies.{body}
use Rattle.chart_code.specs.Ends.{end_of}
use Rattle.chart_code.specs.Keys.{Key, Entry, During, ExitAction, Leave, Exit, Arrive, ListOf, Defaults, Take}
use Rattle.chart_code.specs.Keys.{Enter, Process}
use Rattle.chart_code.specs.Places.{numbers}
use Rattle.chart_code.proofs.EndsLemmas.{path_range}
use Rattle.chart_code.proofs.ListStands.{list_stands}
use Rattle.chart_code.proofs.StateStands.{StandsAt, entry_stands, during_stands, exit_action_stands}
use Rattle.chart_code.proofs.StateStands.{leave_stands, exit_stands, defaults_stand, processing_stands}
use Rattle.chart_code.proofs.StateStands.{enter_stands, arrive_stands}
use Rattle.layout_bounds.specs.Calls.{DefaultsCalls, ArriveCalls}
use Rattle.layout_bounds.specs.Works.{StateWorks}
use Rattle.layout_bounds.specs.TreeSums.{sum_below}
use Rattle.layout_bounds.specs.WorkBounds.{exit_share, enter_share, process_share, enters_below}
use Rattle.layout_bounds.specs.WorkBounds.{tests_of, defaults_work, work_bound}
use Rattle.layout_bounds.proofs.ListTerms.{child_at_most}
use Rattle.layout_bounds.proofs.StateWorks.{state_works}
use Rattle.layout_bounds.proofs.WorkShares.{defaults_is, firing_is, exit_share_is, enter_share_is, process_share_is}
use Rattle.layout_bounds.proofs.WorkShares.{exits_split, enters_split, processes_split, exits_most, enters_most}

-- the works of all procedures are within the bounds
abbrev pub Keeps : Chart → (ℕ → ℕ) → Type 0
Keeps c w = (p : ℕ) (key : Key) → StandsAt c p key → w p ≤ work_bound c key

module _ (c : Chart) (valid : IsValid c) (w : ℕ → ℕ) (keeps : Keeps c w) where
  abbrev N : Numbers
  N = numbers c

  -- what is left, entered and processed at or below a state
  abbrev exits : ℕ → ℕ
  exits = sum_below c.tree (exit_share c)

  abbrev enters : ℕ → ℕ
  enters = sum_below c.tree (enter_share c)

  abbrev processes : ℕ → ℕ
  processes = sum_below c.tree (process_share c)

  -- how much work each kind is, by what it calls
  kinds : StateWorks c N w
  kinds = state_works c valid N w

  -- ---- leaving

  -- a child is left within its share
  exit_within : (s x : ℕ) → parent_of c.tree x ≡ Some s → w (N.exit x) + 3 ≤ exits x
  exit_within s x up =
      let lt = child_within c.tree x s up in
      omega (
        arith,
        keeps (N.exit x) (Exit x) (exit_stands c x lt),
        exits_split c valid x lt,
        exit_share_is c x,
      )

  -- the children are left
  pub leave_keeps : (s : ℕ) → work_by w (body c (Leave s)) ≤ work_bound c (Leave s)
  leave_keeps s = omega (arith, kinds.leave s exits (exit_within s))

  -- a state is left
  pub exit_keeps : (s : ℕ) → s < state_count c.tree → work_by w (body c (Exit s)) ≤ work_bound c (Exit s)
  exit_keeps s lt =
      omega (
        arith,
        kinds.exit s,
        keeps (N.leave s) (Leave s) (leave_stands c s lt),
        keeps (N.exit_action s) (ExitAction s) (exit_action_stands c s lt),
      )

  -- ---- entering

  -- entry on a path is within the share of the state
  enter_within : (x d : ℕ) → IsPath c.tree x d → w (N.enter x d) + 1 ≤ enters x
  enter_within x d path =
      let range = path_range c.tree valid.tree x d path in
      omega (
        arith,
        keeps (N.enter x d) (Enter x d) (enter_stands c x path.state valid.tree d range.0 range.1),
        enters_split c valid x path.state,
        enter_share_is c x,
        defaults_is c x,
      )

  -- that of a child is within what is below its parent
  child_enters : (s x d : ℕ) → parent_of c.tree x ≡ Some s → IsPath c.tree x d → w (N.enter x d) ≤ enters_below c s
  child_enters s x d up path =
      omega (arith, enter_within x d path, child_at_most c.tree valid.tree enters s x up)

  -- the children aren't more than entry by default
  below_defaults : (s : ℕ) → enters_below c s ≤ defaults_work c s
  below_defaults s = omega (arith, defaults_is c s)

  -- a state is entered
  pub enter_keeps : (s d : ℕ) → s < state_count c.tree
      → work_by w (body c (Enter s d)) ≤ work_bound c (Enter s d)
  enter_keeps s d lt =
      omega (
        arith,
        kinds.enter s d (defaults_work c s) enters (keeps (N.defaults s) (Defaults s) (defaults_stand c s lt))
            (λ x e up path. enter_within x e path) (below_defaults s),
        keeps (N.entry s) (Entry s) (entry_stands c s lt),
      )

  -- a state is entered by default
  pub defaults_keeps : (s : ℕ) → s < state_count c.tree
      → work_by w (body c (Defaults s)) ≤ work_bound c (Defaults s)
  defaults_keeps s lt =
      let most = 8 + tests_of (list_of c s Default) + enters_below c s in
      let calls : DefaultsCalls c.tree N (λ q. w q ≤ most) s = record {
        search = omega (arith, keeps (N.search s Default) (ListOf s Default) (list_stands c s Default lt));
        child = λ x up.
            let within = child_within c.tree x s up in
            let path : IsPath c.tree x x =
            record { state = within; below = is_at_or_below-same c.tree x x refl } in
            omega (arith, child_enters s x x up path);
      } in
      omega (arith, kinds.defaults s most calls, defaults_is c s)

  -- ---- firing

  -- what arrives at s, by whether it stays there
  abbrev inside : ℕ → Bool → ℕ
  inside s here = if here then defaults_work c s else enters_below c s

  -- an arrival
  pub arrive_keeps : (s d : ℕ) → s < state_count c.tree
      → work_by w (body c (Arrive s d)) ≤ work_bound c (Arrive s d)
  arrive_keeps s d lt = go (s == d) refl
    where
      go : (here : Bool) → (s == d) ≡ here → work_by w (body c (Arrive s d)) ≤ 6 + inside s here
      go true e =
          let calls : ArriveCalls c.tree N (λ q. w q ≤ defaults_work c s) s d = record {
            defaults = λ same. keeps (N.defaults s) (Defaults s) (defaults_stand c s lt);
            child = λ x other up path. omega (arith, child_enters s x d up path, below_defaults s);
          } in
          omega (arith, kinds.arrive s d (defaults_work c s) calls)
      go false e =
          let calls : ArriveCalls c.tree N (λ q. w q ≤ enters_below c s) s d = record {
            defaults = λ same. absurd (let here : (s == d) ≡ true = grind (arith, nat_tests) in cc);
            child = λ x other up path. child_enters s x d up path;
          } in
          omega (arith, kinds.arrive s d (enters_below c s) calls)

  -- an arrival, wherever
  inside_most : (s : ℕ) (here : Bool) → inside s here ≤ defaults_work c s
  inside_most s true = omega arith
  inside_most s false = below_defaults s

  -- a firing
  pub take_keeps : (s d : ℕ) → s < state_count c.tree → s ≤ d → d < end_of c.tree s
      → work_by w (body c (Take s d)) ≤ work_bound c (Take s d)
  take_keeps s d lt low high =
      omega (
        arith,
        kinds.take s d,
        keeps (N.leave s) (Leave s) (leave_stands c s lt),
        keeps (N.arrive s d) (Arrive s d) (arrive_stands c s lt valid.tree d low high),
        inside_most s (s == d),
        defaults_is c s,
        exits_split c valid s lt,
        enters_split c valid s lt,
        exit_share_is c s,
        enter_share_is c s,
        exits_most c valid s lt,
        enters_most c valid s lt,
        firing_is c,
      )

  -- ---- processing

  -- a child is processed within its share
  process_within : (s x : ℕ) → parent_of c.tree x ≡ Some s → w (N.process x) + 4 ≤ processes x
  process_within s x up =
      let lt = child_within c.tree x s up in
      omega (
        arith,
        keeps (N.process x) (Process x) (processing_stands c x lt),
        processes_split c valid x lt,
        process_share_is c x,
      )

  -- a state is processed
  pub process_keeps : (s : ℕ) → s < state_count c.tree
      → work_by w (body c (Process s)) ≤ work_bound c (Process s)
  process_keeps s lt =
      omega (
        arith,
        kinds.process s processes (process_within s),
        keeps (N.search s Outer) (ListOf s Outer) (list_stands c s Outer lt),
        keeps (N.during s) (During s) (during_stands c s lt),
        keeps (N.search s Inner) (ListOf s Inner) (list_stands c s Inner lt),
      )
