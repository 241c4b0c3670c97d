-- The cells that a cell of the chart looks up are cells of the chart too.
use Rattle.std.proofs.Common.{◌≡◌, ℕ, ◌<◌, List, refl, arith}
use Rattle.std.specs.List.{AllByRecursion}
use Rattle.active_config.specs.declared.comp.Comp.{Comp}
use Rattle.active_config.specs.declared.comp.Comp.TheVariants.{Leaf, Or, And}
use Rattle.active_config.specs.Tree.{state_count, comp_of, children_of}
use Rattle.actions.specs.declared.event.Event.{Event}
use Rattle.actions.specs.declared.event.Event.TheVariants.{Named}
use Rattle.actions.specs.declared.names.EventKind.{EventKind}
use Rattle.actions.specs.Exprs.{Stmt, Assign, Send, SendTo, Emit}
use Rattle.checked_chart.proofs.PartsLemmas.{node_valid, junction_valid}
use Rattle.checked_chart.proofs.Trees.{IsChild, children_are}
use Rattle.checked_chart.specs.declared.parts.Dest.{Dest}
use Rattle.checked_chart.specs.declared.parts.Dest.TheVariants.{State, Junction}
use Rattle.checked_chart.specs.declared.parts.ListKind.TheVariants.{Outer, Inner}
use Rattle.checked_chart.specs.Chart.{Chart, Trans, node, junction}
use Rattle.checked_chart.specs.Homes.{home_of}
use Rattle.checked_chart.specs.Valid.{IsValid, IsEventOf, IsStmt, AreStmts, IsDest, IsTrans, AreTrans}
use Rattle.bound_prove.specs.declared.cell.Cell.{Cell}
use Rattle.bound_prove.specs.declared.lookup.Lookup.{Lookup}
use Rattle.bound_prove.specs.declared.need.Part.{Part}
use Rattle.bound_prove.specs.declared.need.Part.TheVariants as parts
use Rattle.bound_prove.specs.Lookups.{cell_at, chart_in, IsLedTo, MayLook}
use Rattle.bound_prove.specs.Searches.{LeadsOn}
use Rattle.bound_prove.specs.Tables.{event_index, event_count, part_count}
use Rattle.bound_prove.specs.Uses.{OfCells, StmtUses, BlockUses, DestUses, TransUses, ListUses, ChildrenUse, FiringUses}
use Rattle.bound_prove.specs.Uses.{ProcessUses, Uses}
use Rattle.bound_prove.proofs.Rising.{both_hold, cell_leads}
use Rattle.bound_prove.proofs.Rows.{get_within}
use Rattle.bound_prove.specs.Tables.{IsInTable}
use Rattle.std.proofs.Common.{subst}

module _ (c : Chart) (valid : IsValid c) (from : Cell) (known : event_index from.event < event_count c) where
  -- what the cell leads on to, and those cells that are in the table
  abbrev P : OfCells
  P = LeadsOn c from.event from.part from.index

  -- and what of it is in the table
  abbrev Q : OfCells
  Q e part i = IsLedTo c from (cell_at e part i)

  -- a cell of the table that the cell leads on to
  may : (e : Event) (part : Part) (i : ℕ) → event_index e < event_count c → i < part_count c part → P e part i
      → Q e part i
  may e part i a b h = record { within = record { event = a; index = b }; leads = h }

  -- an event that is declared
  event_within : (n : ℕ) (kind : EventKind) → IsEventOf c.names n kind → event_index (Named n) < event_count c
  event_within n kind h = let lt = get_within c.names.events n h.decl h.declared in omega (arith, lt)

  -- a statement
  stmt_may : (s : Stmt) → IsStmt c s → StmtUses P s → StmtUses Q s
  stmt_may (Assign v x) ok h = tt
  stmt_may (Emit o) ok h = tt
  stmt_may (Send n) ok h = may (Named n) parts.Process 0 (event_within n _ ok) valid.tree.some h
  stmt_may (SendTo n s) ok h = may (Named n) parts.Process s (event_within n _ ok.0) ok.1 h

  -- an action
  block_may : (ss : List Stmt) → AreStmts c ss → BlockUses P ss → BlockUses Q ss
  block_may ss ok h = both_hold (IsStmt c) (StmtUses P) (StmtUses Q) ss stmt_may ok h

  -- a destination
  dest_may : (d : Dest) → IsDest c d → DestUses P from.event d → DestUses Q from.event d
  dest_may (State d) ok h = tt
  dest_may (Junction j) ok h = may from.event parts.Junction j known ok h

  -- a transition
  trans_may : (t : Trans) → IsTrans c t → TransUses P from.event t → TransUses Q from.event t
  trans_may t ok h fits =
      let u = h fits in (
        block_may t.condition ok.condition.stmts u.0,
        block_may t.action ok.action.stmts u.1,
        dest_may t.dest ok.dest u.2,
      )

  -- a list
  list_may : (ts : List Trans) → AreTrans c ts → ListUses P from.event ts → ListUses Q from.event ts
  list_may ts ok h = both_hold (IsTrans c) (TransUses P from.event) (TransUses Q from.event) ts trans_may ok h

  -- a part of each child
  each_may : (part : Part) → part_count c part ≡ state_count c.tree → (s : ℕ)
      → AllByRecursion (P from.event part) (children_of c.tree s) → AllByRecursion (Q from.event part)
      (children_of c.tree s)
  each_may part count s h =
      both_hold (IsChild c.tree s) (P from.event part) (Q from.event part) (children_of c.tree s)
      (λ x k u. may from.event part x known (let lt = k.within in omega (arith, count, lt)) u)
      (children_are c.tree valid.tree s) h

  -- a part of the children
  children_may : (part : Part) → part_count c part ≡ state_count c.tree → (s : ℕ) (o : Comp)
      → ChildrenUse c P from.event part s o → ChildrenUse c Q from.event part s o
  children_may part count s Leaf h = tt
  children_may part count s Or h = each_may part count s h
  children_may part count s And h = each_may part count s h

  -- a firing
  firing_may : (s : ℕ) → FiringUses c P from.event s → FiringUses c Q from.event s
  firing_may s h = (
    list_may (node c s).default (node_valid c valid s).default h.0,
    each_may parts.Exit refl s h.1,
    each_may parts.Enter refl s h.2,
  )

  -- a state that is processed
  process_may : (s : ℕ) → ProcessUses c P from.event s → ProcessUses c Q from.event s
  process_may s h =
      let ok = node_valid c valid s in
      record {
        outer = list_may (node c s).outer ok.outer h.outer;
        during = block_may (node c s).during ok.during.stmts h.during;
        inner = list_may (node c s).inner ok.inner h.inner;
        children = children_may parts.Process refl s (comp_of c.tree s) h.children;
        outer_firings = λ d r. firing_may (home_of c.tree s Outer d) (h.outer_firings d r);
        inner_firings = λ d r. firing_may (home_of c.tree s Inner d) (h.inner_firings d r);
      }

  -- a cell
  uses_may : (part : Part) (i : ℕ) → Uses c P from.event part i → Uses c Q from.event part i
  uses_may parts.Junction j h = list_may (junction c j) (junction_valid c valid j) h
  uses_may parts.Exit s h = (
    block_may (node c s).exit (node_valid c valid s).exit.stmts h.0,
    children_may parts.Exit refl s (comp_of c.tree s) h.1,
  )
  uses_may parts.Enter s h = (
    block_may (node c s).entry (node_valid c valid s).entry.stmts h.0,
    list_may (node c s).default (node_valid c valid s).default h.1,
    children_may parts.Enter refl s (comp_of c.tree s) h.2,
  )
  uses_may parts.Process s h = process_may s h

  -- all that a cell looks up is in the table, and the cell leads on to it
  pub cell_may : Uses c Q from.event from.part from.index
  cell_may = uses_may from.part from.index (cell_leads c valid.tree from.event from.part from.index)

-- so it is of the cell that is evaluated
pub uses_at : (l : Lookup) (part : Part) → IsValid (chart_in l)
    → IsInTable (chart_in l) l.cell.event l.cell.part l.cell.index → l.cell.part ≡ part
    → Uses (chart_in l) (MayLook l) l.cell.event part l.cell.index
uses_at l part valid inside same =
    subst (λ p. Uses (chart_in l) (MayLook l) l.cell.event p l.cell.index) same
    (cell_may (chart_in l) valid l.cell inside.event)
