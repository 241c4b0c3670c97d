-- In a good certificate needs rise from each cell that is looked up to the one that looks it up.
use Rattle.std.proofs.Common.{ℕ, ◌-◌, ◌<◌, ◌≤◌, min, List, [], ◌∷◌, Bool, arith, subst}
use Rattle.std.specs.Prelude.{if◌then◌else◌}
use Rattle.std.specs.List.{AllByRecursion}
use Rattle.active_config.specs.declared.comp.Comp.{Comp}
use Rattle.active_config.specs.declared.comp.Comp.TheVariants.{Leaf, Or, And}
use Rattle.active_config.specs.Tree.{IsTree, state_count, comp_of, children_of}
use Rattle.actions.specs.declared.event.Event.{Event}
use Rattle.actions.specs.declared.event.Event.TheVariants.{Named}
use Rattle.actions.specs.Exprs.{Stmt, Assign, Send, SendTo, Emit}
use Rattle.sos_rules.specs.Searches.{event_fits}
use Rattle.checked_chart.proofs.Trees.{IsChild, children_are}
use Rattle.checked_chart.specs.declared.parts.Dest.{Dest}
use Rattle.checked_chart.specs.declared.parts.Dest.TheVariants.{State, Junction}
use Rattle.checked_chart.specs.declared.parts.ListKind.TheVariants.{Outer, Inner}
use Rattle.checked_chart.specs.Chart.{Chart, Trans, node, junction}
use Rattle.checked_chart.specs.Homes.{home_of}
use Rattle.bound_prove.specs.declared.need.Need.{Need}
use Rattle.bound_prove.specs.declared.need.Part.{Part}
use Rattle.bound_prove.specs.declared.need.Part.TheVariants as parts
use Rattle.bound_prove.specs.Needs.{nothing_needed, one_step, in_turn, either, sent, all_of, one_of}
use Rattle.bound_prove.specs.Cells.{Cells, stmt_need, block_need, action_need, dest_need, trans_need, list_need}
use Rattle.bound_prove.specs.Cells.{children_need, firing_need, IsGood}
use Rattle.bound_prove.specs.Cells.{Demands, OfList, OfExit, OfEntry, OfChildren, OfOuter, OfInner}
use Rattle.bound_prove.specs.Searches.{rank, ByStep, ByRank, LeadsOn}
use Rattle.bound_prove.specs.Uses.{OfCells, StmtUses, BlockUses, DestUses, ListUses, ChildrenUse, FiringUses}
use Rattle.bound_prove.specs.Uses.{ProcessUses, Uses}
use Rattle.bound_prove.proofs.Monotone.{all_map}

-- what two lists of facts say of each item
pub both_hold : {A : Type 0} (P Q R : A → Type 0) (xs : List A) → ((x : A) → P x → Q x → R x) → AllByRecursion P xs
    → AllByRecursion Q xs → AllByRecursion R xs
both_hold P Q R [] f h k = tt
both_hold P Q R (x ∷ xs) f h k = (f x h.0 k.0, both_hold P Q R xs f h.1 k.1)

-- of one cell
module _ (c : Chart) (e : Event) (part : Part) (i : ℕ) where
  -- in every good certificate the cell has at least the steps of that need
  abbrev Has : (Cells → Need) → Type 0
  Has f = (g : Cells) → IsGood c g → min 50001 (f g).steps ≤ (g e part i).steps

  -- what the cell is to cover
  demanded : (f : Cells → Need) → ((g : Cells) → Demands c g e part i (f g)) → Has f
  demanded f d g good = let h = good e part i (f g) (d g) in omega (arith, h.steps)

  has_first : (a b : Cells → Need) → Has (λ g. in_turn (a g) (b g)) → Has a
  unfolding in_turn
  has_first a b h g good = omega (arith, h g good)

  has_second : (a b : Cells → Need) → Has (λ g. in_turn (a g) (b g)) → Has b
  unfolding in_turn
  has_second a b h g good = omega (arith, h g good)

  has_left : (a b : Cells → Need) → Has (λ g. either (a g) (b g)) → Has a
  unfolding either
  has_left a b h g good = omega (arith, h g good)

  has_right : (a b : Cells → Need) → Has (λ g. either (a g) (b g)) → Has b
  unfolding either
  has_right a b h g good = omega (arith, h g good)

  has_each_of_all : (f : Cells → ℕ → Need) (xs : List ℕ) → Has (λ g. all_of (f g) xs)
      → AllByRecursion (λ x. Has (λ g. f g x)) xs
  has_each_of_all f [] h = tt
  has_each_of_all f (x ∷ xs) h = (
    has_first (λ g. f g x) (λ g. all_of (f g) xs) h,
    has_each_of_all f xs (has_second (λ g. f g x) (λ g. all_of (f g) xs) h),
  )

  has_each_of_one : (f : Cells → ℕ → Need) (xs : List ℕ) → Has (λ g. one_of (f g) xs)
      → AllByRecursion (λ x. Has (λ g. f g x)) xs
  has_each_of_one f [] h = tt
  has_each_of_one f (x ∷ xs) h = (
    has_left (λ g. f g x) (λ g. one_of (f g) xs) h,
    has_each_of_one f xs (has_right (λ g. f g x) (λ g. one_of (f g) xs) h),
  )

  -- a send and a visit of a junction are a step, and a child has a lower rank
  by_send : (e' : Event) (part' : Part) (i' : ℕ) → Has (λ g. sent (g e' part' i')) → LeadsOn c e part i e' part' i'
  unfolding sent
  by_send e' part' i' h g good = ByStep (omega (arith, h g good))

  by_visit : (e' : Event) (part' : Part) (i' : ℕ) → Has (λ g. in_turn one_step (g e' part' i'))
      → LeadsOn c e part i e' part' i'
  unfolding in_turn
  by_visit e' part' i' h g good = ByStep (omega (arith, h g good))

  by_rank : (e' : Event) (part' : Part) (i' : ℕ) → Has (λ g. g e' part' i') → rank c part' i' < rank c part i
      → LeadsOn c e part i e' part' i'
  by_rank e' part' i' h lt g good = ByRank (h g good) lt

  -- ---- statements, transitions and lists

  stmt_leads : (s : Stmt) → Has (λ g. stmt_need g s) → StmtUses (LeadsOn c e part i) s
  stmt_leads (Assign v x) h = tt
  stmt_leads (Emit o) h = tt
  stmt_leads (Send e') h = by_send (Named e') parts.Process 0 h
  stmt_leads (SendTo e' s) h = by_send (Named e') parts.Process s h

  block_leads : (ss : List Stmt) → Has (λ g. block_need g ss) → BlockUses (LeadsOn c e part i) ss
  block_leads [] h = tt
  block_leads (s ∷ rest) h = (
    stmt_leads s (has_first (λ g. stmt_need g s) (λ g. block_need g rest) h),
    block_leads rest (has_second (λ g. stmt_need g s) (λ g. block_need g rest) h),
  )

  action_leads : (ss : List Stmt) → Has (λ g. action_need g ss) → BlockUses (LeadsOn c e part i) ss
  action_leads [] h = tt
  action_leads (s ∷ rest) h = block_leads (s ∷ rest) (has_second (λ g. one_step) (λ g. block_need g (s ∷ rest)) h)

  dest_leads : (d : Dest) → Has (λ g. dest_need g e d) → DestUses (LeadsOn c e part i) e d
  dest_leads (State d) h = tt
  dest_leads (Junction j) h = by_visit e parts.Junction j h

  trans_leads : (t : Trans) → Has (λ g. trans_need g e t)
      → BlockUses (LeadsOn c e part i) t.condition × BlockUses (LeadsOn c e part i) t.action
      × DestUses (LeadsOn c e part i) e t.dest
  trans_leads t h =
      let more = has_second (λ g. block_need g t.condition)
      (λ g. in_turn (action_need g t.action) (dest_need g e t.dest)) h in (
        block_leads t.condition
            (has_first (λ g. block_need g t.condition) (λ g. in_turn (action_need g t.action)
            (dest_need g e t.dest)) h),
        action_leads t.action (has_first (λ g. action_need g t.action) (λ g. dest_need g e t.dest) more),
        dest_leads t.dest (has_second (λ g. action_need g t.action) (λ g. dest_need g e t.dest) more),
      )

  abbrev fit_need : Bool → Trans → Cells → Need
  fit_need fits t g = if fits then trans_need g e t else nothing_needed

  list_leads : (ts : List Trans) → Has (λ g. list_need g e ts) → ListUses (LeadsOn c e part i) e ts
  list_leads [] h = tt
  list_leads (t ∷ rest) h =
      let own = has_first (fit_need (event_fits t.event e) t) (λ g. list_need g e rest) h in (
        λ fits. trans_leads t (subst (λ b. Has (fit_need b t)) fits own),
        list_leads rest (has_second (fit_need (event_fits t.event e) t) (λ g. list_need g e rest) h),
      )

  -- ---- children and firings

  -- a part of each child, where it has a lower rank
  each_leads : (part' : Part) (xs : List ℕ) → AllByRecursion (λ x. rank c part' x < rank c part i) xs
      → AllByRecursion (λ x. Has (λ g. g e part' x)) xs → AllByRecursion (LeadsOn c e part i e part') xs
  each_leads part' xs low h =
      both_hold (λ x. rank c part' x < rank c part i) (λ x. Has (λ g. g e part' x)) (LeadsOn c e part i e part') xs
      (λ x lt k. by_rank e part' x k lt) low h

  children_lead : (part' : Part) (s : ℕ) (o : Comp)
      → AllByRecursion (λ x. rank c part' x < rank c part i) (children_of c.tree s)
      → Has (λ g. children_need c g e part' s o) → ChildrenUse c (LeadsOn c e part i) e part' s o
  children_lead part' s Leaf low h = tt
  children_lead part' s Or low h =
      each_leads part' (children_of c.tree s) low (has_each_of_one (λ g. g e part') (children_of c.tree s) h)
  children_lead part' s And low h =
      each_leads part' (children_of c.tree s) low (has_each_of_all (λ g. g e part') (children_of c.tree s) h)

  abbrev exits : ℕ → Cells → Need
  exits s g = one_of (g e parts.Exit) (children_of c.tree s)

  abbrev entries : ℕ → Cells → Need
  entries s g = one_of (g e parts.Enter) (children_of c.tree s)

  firing_leads : (s : ℕ) → AllByRecursion (λ x. rank c parts.Exit x < rank c part i) (children_of c.tree s)
      → Has (λ g. firing_need c g e s) → FiringUses c (LeadsOn c e part i) e s
  firing_leads s low h =
      let more = has_second (λ g. list_need g e (node c s).default) (λ g. in_turn (exits s g) (entries s g)) h in (
        list_leads (node c s).default
            (has_first (λ g. list_need g e (node c s).default) (λ g. in_turn (exits s g) (entries s g)) h),
        each_leads parts.Exit (children_of c.tree s) low
            (has_each_of_one (λ g. g e parts.Exit) (children_of c.tree s) (has_first (exits s) (entries s) more)),
        each_leads parts.Enter (children_of c.tree s) low
            (has_each_of_one (λ g. g e parts.Enter) (children_of c.tree s) (has_second (exits s) (entries s) more)),
      )

-- what all numbers have, those of a list have
all_hold : (P : ℕ → Type 0) (xs : List ℕ) → ((x : ℕ) → P x) → AllByRecursion P xs
all_hold P [] f = tt
all_hold P (x ∷ xs) f = (f x, all_hold P xs f)

module _ (c : Chart) (tree : IsTree c.tree) (e : Event) where
  -- children have a lower rank
  lower : (s : ℕ) → AllByRecursion (λ x. state_count c.tree - x < state_count c.tree - s) (children_of c.tree s)
  lower s =
      all_map (IsChild c.tree s) (λ x. state_count c.tree - x < state_count c.tree - s) (children_of c.tree s)
      (λ x k. omega (arith, k.above, k.within)) (children_are c.tree tree s)

  lower_process : (s : ℕ)
      → AllByRecursion (λ x. rank c parts.Process x < rank c parts.Process s) (children_of c.tree s)
  lower_process s =
      all_map (IsChild c.tree s) (λ x. rank c parts.Process x < rank c parts.Process s) (children_of c.tree s)
      (λ x k. omega (arith, k.above, k.within)) (children_are c.tree tree s)

  abbrev last : ℕ → Cells → Need
  last s g = children_need c g e parts.Process s (comp_of c.tree s)

  module _ (s : ℕ) where
    abbrev P : OfCells
    P = LeadsOn c e parts.Process s

    abbrev outer_list : Cells → Need
    outer_list g = list_need g e (node c s).outer

    abbrev during_block : Cells → Need
    during_block g = block_need g (node c s).during

    abbrev inner_list : Cells → Need
    inner_list g = list_need g e (node c s).inner

    -- what comes last
    has_last : (n : Cells → Need)
        → Has c e parts.Process s (λ g. in_turn (outer_list g) (in_turn (during_block g) (in_turn (inner_list g)
        (n g))))
        → Has c e parts.Process s n
    has_last n h =
        has_second c e parts.Process s inner_list n
        (has_second c e parts.Process s during_block (λ g. in_turn (inner_list g) (n g))
        (has_second c e parts.Process s outer_list (λ g. in_turn (during_block g) (in_turn (inner_list g) (n g))) h))

    firing_low : (d : ℕ) → AllByRecursion (λ x. rank c parts.Exit x < rank c parts.Process s) (children_of c.tree d)
    firing_low d = all_hold _ (children_of c.tree d) (λ x. omega arith)

    process_leads : ProcessUses c P e s
    process_leads =
        let own =
        demanded c e parts.Process s
        (λ g. in_turn (outer_list g) (in_turn (during_block g) (in_turn (inner_list g) (last s g))))
        (λ g. OfChildren s) in
        let own' =
        has_second c e parts.Process s outer_list (λ g. in_turn (during_block g) (in_turn (inner_list g)
        (last s g))) own in
        record {
          outer =
              list_leads c e parts.Process s (node c s).outer
              (has_first c e parts.Process s outer_list
              (λ g. in_turn (during_block g) (in_turn (inner_list g) (last s g))) own);
          during =
              block_leads c e parts.Process s (node c s).during
              (has_first c e parts.Process s during_block (λ g. in_turn (inner_list g) (last s g)) own');
          inner =
              list_leads c e parts.Process s (node c s).inner
              (has_first c e parts.Process s inner_list (last s)
              (has_second c e parts.Process s during_block (λ g. in_turn (inner_list g) (last s g)) own'));
          children =
              children_lead c e parts.Process s parts.Process s (comp_of c.tree s) (lower_process s)
              (has_last (last s) own);
          outer_firings = λ d r.
              let h = home_of c.tree s Outer d in
              firing_leads c e parts.Process s h (firing_low h)
              (has_last (λ g. firing_need c g e h)
              (demanded c e parts.Process s
              (λ g. in_turn (outer_list g) (in_turn (during_block g) (in_turn (inner_list g) (firing_need c g e h))))
              (λ g. OfOuter s d r)));
          inner_firings = λ d r.
              let h = home_of c.tree s Inner d in
              firing_leads c e parts.Process s h (firing_low h)
              (has_last (λ g. firing_need c g e h)
              (demanded c e parts.Process s
              (λ g. in_turn (outer_list g) (in_turn (during_block g) (in_turn (inner_list g) (firing_need c g e h))))
              (λ g. OfInner s d r)));
        }

  -- each cell leads to those that it looks up
  pub cell_leads : (part : Part) (i : ℕ) → Uses c (LeadsOn c e part i) e part i
  cell_leads parts.Junction j =
      list_leads c e parts.Junction j (junction c j)
      (demanded c e parts.Junction j (λ g. list_need g e (junction c j)) (λ g. OfList j))
  cell_leads parts.Exit s =
      let block : Cells → Need = λ g. block_need g (node c s).exit in
      let rest : Cells → Need = λ g. children_need c g e parts.Exit s (comp_of c.tree s) in
      let own = demanded c e parts.Exit s (λ g. in_turn (block g) (rest g)) (λ g. OfExit s) in (
        block_leads c e parts.Exit s (node c s).exit (has_first c e parts.Exit s block rest own),
        children_lead c e parts.Exit s parts.Exit s (comp_of c.tree s) (lower s)
            (has_second c e parts.Exit s block rest own),
      )
  cell_leads parts.Enter s =
      let block : Cells → Need = λ g. block_need g (node c s).entry in
      let list : Cells → Need = λ g. list_need g e (node c s).default in
      let rest : Cells → Need = λ g. children_need c g e parts.Enter s (comp_of c.tree s) in
      let own = demanded c e parts.Enter s (λ g. in_turn (block g) (in_turn (list g) (rest g))) (λ g. OfEntry s) in
      let own' = has_second c e parts.Enter s block (λ g. in_turn (list g) (rest g)) own in (
        block_leads c e parts.Enter s (node c s).entry
            (has_first c e parts.Enter s block (λ g. in_turn (list g) (rest g)) own),
        list_leads c e parts.Enter s (node c s).default (has_first c e parts.Enter s list rest own'),
        children_lead c e parts.Enter s parts.Enter s (comp_of c.tree s) (lower s)
            (has_second c e parts.Enter s list rest own'),
      )
  cell_leads parts.Process s = process_leads s
