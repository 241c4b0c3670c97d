-- Greater needs of the cells that are looked up make greater needs.
use Rattle.std.proofs.Common.{◌≡◌, ℕ, List, [], ◌∷◌, Bool, true, false, refl, arith}
use Rattle.std.specs.Prelude.{if◌then◌else◌}
use Rattle.std.specs.List.{AllByRecursion}
use Rattle.active_config.specs.declared.comp.Comp.{Comp}
use Rattle.active_config.specs.declared.comp.Comp.TheVariants.{Leaf, Or, And}
use Rattle.active_config.specs.Tree.{comp_of, children_of}
use Rattle.actions.specs.declared.event.Event.{Event}
use Rattle.actions.specs.Exprs.{Stmt, Assign, Send, SendTo, Emit}
use Rattle.sos_rules.specs.Searches.{event_fits}
use Rattle.checked_chart.specs.declared.parts.Dest.{Dest}
use Rattle.checked_chart.specs.declared.parts.Dest.TheVariants.{State, Junction}
use Rattle.checked_chart.specs.declared.parts.ListKind.TheVariants.{Outer, Inner}
use Rattle.checked_chart.specs.Chart.{Chart, Trans, node, junction}
use Rattle.checked_chart.specs.Homes.{home_of}
use Rattle.bound_prove.specs.declared.need.Need.{Need}
use Rattle.bound_prove.specs.declared.need.Part.{Part}
use Rattle.bound_prove.specs.declared.need.Part.TheVariants as parts
use Rattle.bound_prove.specs.Needs.{nothing_needed, one_step, in_turn, either, sent, all_of, one_of, Covers}
use Rattle.bound_prove.specs.Cells.{Cells, stmt_need, block_need, action_need, dest_need, trans_need, list_need}
use Rattle.bound_prove.specs.Cells.{children_need, process_need, firing_need}
use Rattle.bound_prove.specs.Cells.{Demands, OfList, OfExit, OfEntry, OfChildren, OfOuter, OfInner}
use Rattle.bound_prove.specs.Uses.{OfCells, StmtUses, BlockUses, DestUses, TransUses, ListUses, ChildrenUse, FiringUses}
use Rattle.bound_prove.specs.Uses.{ProcessUses, Uses}

-- ---- needs

pub itself : (n : Need) → Covers n n
itself n = record { depth = omega arith; steps = omega arith }

pub in_turn_more : (x y x' y' : Need) → Covers x x' → Covers y y' → Covers (in_turn x y) (in_turn x' y')
unfolding in_turn
in_turn_more x y x' y' h k =
    record { depth = omega (arith, h.depth, k.depth); steps = omega (arith, h.steps, k.steps) }

pub either_more : (x y x' y' : Need) → Covers x x' → Covers y y' → Covers (either x y) (either x' y')
unfolding either
either_more x y x' y' h k =
    record { depth = omega (arith, h.depth, k.depth); steps = omega (arith, h.steps, k.steps) }

sent_more : (x x' : Need) → Covers x x' → Covers (sent x) (sent x')
unfolding sent
sent_more x x' h = record { depth = omega (arith, h.depth); steps = omega (arith, h.steps) }

all_more : (f f' : ℕ → Need) (xs : List ℕ) → AllByRecursion (λ x. Covers (f x) (f' x)) xs
    → Covers (all_of f xs) (all_of f' xs)
all_more f f' [] h = itself nothing_needed
all_more f f' (x ∷ xs) h = in_turn_more _ _ _ _ h.0 (all_more f f' xs h.1)

one_more : (f f' : ℕ → Need) (xs : List ℕ) → AllByRecursion (λ x. Covers (f x) (f' x)) xs
    → Covers (one_of f xs) (one_of f' xs)
one_more f f' [] h = itself nothing_needed
one_more f f' (x ∷ xs) h = either_more _ _ _ _ h.0 (one_more f f' xs h.1)

-- ---- cells

module _ (c : Chart) (g g' : Cells) where
  -- where the first certificate has at least what the second has
  abbrev pub Most : OfCells
  Most e part i = Covers (g e part i) (g' e part i)

  stmt_most : (s : Stmt) → StmtUses Most s → Covers (stmt_need g s) (stmt_need g' s)
  stmt_most (Assign v x) h = itself nothing_needed
  stmt_most (Emit o) h = itself one_step
  stmt_most (Send e) h = sent_more _ _ h
  stmt_most (SendTo e s) h = sent_more _ _ h

  block_most : (ss : List Stmt) → BlockUses Most ss → Covers (block_need g ss) (block_need g' ss)
  block_most [] h = itself nothing_needed
  block_most (s ∷ rest) h = in_turn_more _ _ _ _ (stmt_most s h.0) (block_most rest h.1)

  action_most : (ss : List Stmt) → BlockUses Most ss → Covers (action_need g ss) (action_need g' ss)
  action_most [] h = itself nothing_needed
  action_most (s ∷ rest) h = in_turn_more _ _ _ _ (itself one_step) (block_most (s ∷ rest) h)

  module _ (e : Event) where
    dest_most : (d : Dest) → DestUses Most e d → Covers (dest_need g e d) (dest_need g' e d)
    dest_most (State d) h = itself nothing_needed
    dest_most (Junction j) h = in_turn_more _ _ _ _ (itself one_step) h

    trans_most : (t : Trans) → BlockUses Most t.condition × BlockUses Most t.action × DestUses Most e t.dest
        → Covers (trans_need g e t) (trans_need g' e t)
    trans_most t h =
        in_turn_more _ _ _ _ (block_most t.condition h.0)
        (in_turn_more _ _ _ _ (action_most t.action h.1) (dest_most t.dest h.2))

    fit_most : (t : Trans) (fits : Bool) → event_fits t.event e ≡ fits → TransUses Most e t
        → Covers (if fits then trans_need g e t else nothing_needed)
        (if fits then trans_need g' e t else nothing_needed)
    fit_most t true f h = trans_most t (h f)
    fit_most t false f h = itself nothing_needed

    pub list_most : (ts : List Trans) → ListUses Most e ts → Covers (list_need g e ts) (list_need g' e ts)
    list_most [] h = itself nothing_needed
    list_most (t ∷ rest) h = in_turn_more _ _ _ _ (fit_most t (event_fits t.event e) refl h.0) (list_most rest h.1)

    children_most : (part : Part) (s : ℕ) (o : Comp) → ChildrenUse c Most e part s o
        → Covers (children_need c g e part s o) (children_need c g' e part s o)
    children_most part s Leaf h = itself nothing_needed
    children_most part s Or h = one_more (g e part) (g' e part) (children_of c.tree s) h
    children_most part s And h = all_more (g e part) (g' e part) (children_of c.tree s) h

    pub firing_most : (s : ℕ) → FiringUses c Most e s → Covers (firing_need c g e s) (firing_need c g' e s)
    firing_most s h =
        in_turn_more _ _ _ _ (list_most (node c s).default h.0)
        (in_turn_more _ _ _ _ (one_more (g e parts.Exit) (g' e parts.Exit) (children_of c.tree s) h.1)
        (one_more (g e parts.Enter) (g' e parts.Enter) (children_of c.tree s) h.2))

    process_most : (s : ℕ) (n n' : Need) → ProcessUses c Most e s → Covers n n'
        → Covers (process_need c g e s n) (process_need c g' e s n')
    process_most s n n' h k =
        in_turn_more _ _ _ _ (list_most (node c s).outer h.outer)
        (in_turn_more _ _ _ _ (block_most (node c s).during h.during)
        (in_turn_more _ _ _ _ (list_most (node c s).inner h.inner) k))

    -- what the second certificate demands of a cell, the first covers by a demand
    pub demands_most : (part : Part) (i : ℕ) (n : Need) → Uses c Most e part i → Demands c g' e part i n
        → (n' : Need) × Demands c g e part i n' × Covers n' n
    demands_most part i n h (OfList j) = (_, OfList j, list_most (junction c j) h)
    demands_most part i n h (OfExit s) = (
      _,
      OfExit s,
      in_turn_more _ _ _ _ (block_most (node c s).exit h.0) (children_most parts.Exit s (comp_of c.tree s) h.1),
    )
    demands_most part i n h (OfEntry s) = (
      _,
      OfEntry s,
      in_turn_more _ _ _ _ (block_most (node c s).entry h.0)
          (in_turn_more _ _ _ _ (list_most (node c s).default h.1) (children_most parts.Enter s
          (comp_of c.tree s) h.2)),
    )
    demands_most part i n h (OfChildren s) =
        (_, OfChildren s, process_most s _ _ h (children_most parts.Process s (comp_of c.tree s) h.children))
    demands_most part i n h (OfOuter s d r) =
        (_, OfOuter s d r, process_most s _ _ h (firing_most (home_of c.tree s Outer d) (h.outer_firings d r)))
    demands_most part i n h (OfInner s d r) =
        (_, OfInner s d r, process_most s _ _ h (firing_most (home_of c.tree s Inner d) (h.inner_firings d r)))

-- ---- properties of the cells that are looked up

-- what all items of a list have, and what follows from it
pub all_map : {A : Type 0} (P Q : A → Type 0) (xs : List A) → ((x : A) → P x → Q x) → AllByRecursion P xs
    → AllByRecursion Q xs
all_map P Q [] f h = tt
all_map P Q (x ∷ xs) f h = (f x h.0, all_map P Q xs f h.1)

module _ (c : Chart) (P Q : OfCells) (f : (e : Event) (part : Part) (i : ℕ) → P e part i → Q e part i) where
  stmt_uses : (s : Stmt) → StmtUses P s → StmtUses Q s
  stmt_uses (Assign v x) h = tt
  stmt_uses (Emit o) h = tt
  stmt_uses (Send e) h = f _ _ _ h
  stmt_uses (SendTo e s) h = f _ _ _ h

  block_uses : (ss : List Stmt) → BlockUses P ss → BlockUses Q ss
  block_uses ss h = all_map (StmtUses P) (StmtUses Q) ss stmt_uses h

  module _ (e : Event) where
    dest_uses : (d : Dest) → DestUses P e d → DestUses Q e d
    dest_uses (State d) h = tt
    dest_uses (Junction j) h = f _ _ _ h

    trans_uses : (t : Trans) → TransUses P e t → TransUses Q e t
    trans_uses t h fits =
        let k = h fits in (block_uses t.condition k.0, block_uses t.action k.1, dest_uses t.dest k.2)

    list_uses : (ts : List Trans) → ListUses P e ts → ListUses Q e ts
    list_uses ts h = all_map (TransUses P e) (TransUses Q e) ts trans_uses h

    children_use : (part : Part) (s : ℕ) (o : Comp) → ChildrenUse c P e part s o → ChildrenUse c Q e part s o
    children_use part s Leaf h = tt
    children_use part s Or h = all_map (P e part) (Q e part) (children_of c.tree s) (λ x k. f e part x k) h
    children_use part s And h = all_map (P e part) (Q e part) (children_of c.tree s) (λ x k. f e part x k) h

    pub firing_uses : (s : ℕ) → FiringUses c P e s → FiringUses c Q e s
    firing_uses s h = (
      list_uses (node c s).default h.0,
      all_map (P e parts.Exit) (Q e parts.Exit) (children_of c.tree s) (λ x k. f e parts.Exit x k) h.1,
      all_map (P e parts.Enter) (Q e parts.Enter) (children_of c.tree s) (λ x k. f e parts.Enter x k) h.2,
    )

    -- what holds of each cell that is looked up, and what follows from it
    pub uses_map : (part : Part) (i : ℕ) → Uses c P e part i → Uses c Q e part i
    uses_map parts.Junction j h = list_uses (junction c j) h
    uses_map parts.Exit s h = (block_uses (node c s).exit h.0, children_use parts.Exit s (comp_of c.tree s) h.1)
    uses_map parts.Enter s h = (
      block_uses (node c s).entry h.0,
      list_uses (node c s).default h.1,
      children_use parts.Enter s (comp_of c.tree s) h.2,
    )
    uses_map parts.Process s h =
        record {
          outer = list_uses (node c s).outer h.outer;
          during = block_uses (node c s).during h.during;
          inner = list_uses (node c s).inner h.inner;
          children = children_use parts.Process s (comp_of c.tree s) h.children;
          outer_firings = λ d r. firing_uses (home_of c.tree s Outer d) (h.outer_firings d r);
          inner_firings = λ d r. firing_uses (home_of c.tree s Inner d) (h.inner_firings d r);
        }
