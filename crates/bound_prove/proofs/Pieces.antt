-- The loops over statements, transitions, children and homes.
use Rattle.std.proofs.Common.{◌≡◌, ◌≢◌, ◌∙◌, ℕ, List, [], ◌∷◌, true, false, refl, sym, subst}
use Rattle.std.proofs.Common.{suc, ◌<◌, arith}
use Rattle.active_config.specs.Tree.{state_count}
use Rattle.std.proofs.lemmas.Bool.Decides.{nat_tests}
use Rattle.std.specs.Prelude.{if◌then◌else◌, ◌==◌, length, map, IfOk, Result, Ok, Err}
use Rattle.std.specs.List.{AllByRecursion}
use Rattle.actions.specs.declared.event.Event.{Event}
use Rattle.active_config.specs.declared.comp.Comp.{Comp}
use Rattle.actions.specs.declared.expr.Stmt as declared
use Rattle.actions.specs.Exprs.{Stmt}
use Rattle.actions.specs.Trees.{stmt_of}
use Rattle.checked_chart.specs.declared.parts.Dest.{Dest}
use Rattle.sos_rules.specs.Searches.{event_fits}
use Rattle.checked_chart.specs.declared.parts.ListKind.{ListKind}
use Rattle.checked_chart.specs.Chart.{Trans, list_of}
use Rattle.checked_chart.specs.Homes.{home_of}
use Rattle.bound_prove.specs.declared.cell.Cell.{Cell}
use Rattle.bound_prove.specs.declared.lookup.Lookup.{Lookup}
use Rattle.bound_prove.specs.declared.need.Need.{Need}
use Rattle.bound_prove.specs.declared.need.Part.{Part}
use Rattle.bound_prove.specs.Cells.{Cells, stmt_need, block_need, action_need}
use Rattle.bound_prove.specs.Cells.{dest_need, trans_need, fit_need, list_need}
use Rattle.bound_prove.specs.Cells.{children_need, firing_need}
use Rattle.bound_prove.specs.Homes.{IsHome}
use Rattle.bound_prove.specs.Reaches.{Reaches}
use Rattle.bound_prove.specs.Lookups.{chart_in, cells_in, IsKnown, MayLook, Evaluated}
use Rattle.bound_prove.specs.Needs.{nothing_needed, one_step, in_turn, either, all_of, one_of}
use Rattle.bound_prove.specs.Uses.{StmtUses, BlockUses, DestUses, TransUses, ListUses, ChildrenUse, FiringUses}
use Rattle.bound_prove.proofs.Sums.{IsSum, turn_sum, either_sum}
use Rattle.bound_prove.proofs.Evaluations.{SoFar, nothing_looked, three_evaluated, loop_begins, loop_goes_on, loop_ends}

-- all that a statement, a transition, or a part of a child looks up is known
abbrev pub StmtKnown : Lookup → Stmt → List Cell → Type 0
StmtKnown l s m = StmtUses (IsKnown l m) s

-- all that a transition looks up is known
abbrev pub TransKnown : Lookup → Trans → List Cell → Type 0
TransKnown l t m = TransUses (IsKnown l m) l.cell.event t

-- a part of a child is known
abbrev pub ChildKnown : Lookup → Part → ℕ → List Cell → Type 0
ChildKnown l part s m = IsKnown l m l.cell.event part s

-- the statements of an action
abbrev pub BlockSoFar : Lookup → List Cell → List Cell → List Stmt → List Stmt → Need → Type 0
BlockSoFar l before now xs rest acc =
    SoFar l in_turn (block_need (cells_in l)) (StmtKnown l) (StmtUses (MayLook l)) before now xs rest
    acc

-- an action puts its statements together
pub block_sum : (g : Cells) → IsSum in_turn (stmt_need g) (block_need g)
block_sum g = turn_sum (stmt_need g) (block_need g) refl (λ x xs. refl)

-- the transitions of a list
abbrev pub ListSoFar : Lookup → List Cell → List Cell → List Trans → List Trans → Need → Type 0
ListSoFar l before now xs rest acc =
    SoFar l in_turn (list_need (cells_in l) l.cell.event) (TransKnown l)
    (TransUses (MayLook l) l.cell.event) before now xs rest acc

-- a list puts its transitions together
pub list_sum : (g : Cells) (e : Event) → IsSum in_turn (fit_need g e) (list_need g e)
list_sum g e = turn_sum (fit_need g e) (list_need g e) refl (λ x xs. refl)

-- a part of all children, and of one of them
abbrev pub AllSoFar : Lookup → Part → List Cell → List Cell → List ℕ → List ℕ → Need → Type 0
AllSoFar l part before now xs rest acc =
    SoFar l in_turn (all_of (cells_in l l.cell.event part)) (ChildKnown l part)
    (MayLook l l.cell.event part) before now xs rest acc

-- a part of one of the children
abbrev pub OneSoFar : Lookup → Part → List Cell → List Cell → List ℕ → List ℕ → Need → Type 0
OneSoFar l part before now xs rest acc =
    SoFar l either (one_of (cells_in l l.cell.event part)) (ChildKnown l part)
    (MayLook l l.cell.event part) before now xs rest acc

-- what a firing needs and looks up, and which firings may be evaluated
abbrev pub fires : Lookup → ℕ → Need
fires l = firing_need (chart_in l) (cells_in l) l.cell.event

-- all that a firing looks up is known
abbrev pub FiringKnown : Lookup → ℕ → List Cell → Type 0
FiringKnown l h m = FiringUses (chart_in l) (IsKnown l m) l.cell.event h

-- a home of which the firing may be evaluated
pub record MayFire (l : Lookup) (h : ℕ) : Type 0 where
  pub within : h < state_count (chart_in l).tree
  pub may : FiringUses (chart_in l) (MayLook l) l.cell.event h

-- one of the firings with these homes
abbrev pub FiringsSoFar : Lookup → List Cell → List Cell → List ℕ → List ℕ → Need → Type 0
FiringsSoFar l before now xs rest acc =
    SoFar l either (one_of (fires l)) (FiringKnown l) (MayFire l) before now xs rest acc

-- each home of the firings from a list may fire
pub homes_may : (l : Lookup) (s : ℕ) (kind : ListKind) (homes : List ℕ)
    → ((d : ℕ) → Reaches (chart_in l) l.cell.event (list_of (chart_in l) s kind) d
    → FiringUses (chart_in l) (MayLook l) l.cell.event (home_of (chart_in l).tree s kind d))
    → AllByRecursion (IsHome (chart_in l) l.cell.event s kind) homes → AllByRecursion (MayFire l) homes
homes_may l s kind [] f h = tt
homes_may l s kind (x ∷ homes) f h = (
  record {
    within = h.0.within;
    may = subst (FiringUses (chart_in l) (MayLook l) l.cell.event) h.0.home (f h.0.dest h.0.reached);
  },
  homes_may l s kind homes f h.1,
)

-- an action and a list by another name
pub block_named : (l : Lookup) (a b : List Cell) (v : Need) (ss ss' : List Stmt) → ss ≡ ss'
    → Evaluated l a b v (block_need (cells_in l) ss) (λ m. BlockUses (IsKnown l m) ss)
    → Evaluated l a b v (block_need (cells_in l) ss') (λ m. BlockUses (IsKnown l m) ss')
block_named l a b v ss ss' e h =
    subst (λ z. Evaluated l a b v (block_need (cells_in l) z) (λ m. BlockUses (IsKnown l m) z)) e h

-- a list by another name
pub list_named : (l : Lookup) (a b : List Cell) (v : Need) (ts ts' : List Trans) → ts ≡ ts'
    → Evaluated l a b v (list_need (cells_in l) l.cell.event ts) (λ m. ListUses (IsKnown l m) l.cell.event ts)
    → Evaluated l a b v (list_need (cells_in l) l.cell.event ts') (λ m. ListUses (IsKnown l m) l.cell.event ts')
list_named l a b v ts ts' e h =
    subst (λ z. Evaluated l a b v (list_need (cells_in l) l.cell.event z) (λ m. ListUses
    (IsKnown l m) l.cell.event z)) e h

-- all children in turn
pub all_sum : (f : ℕ → Need) → IsSum in_turn f (all_of f)
all_sum f = turn_sum f (all_of f) refl (λ x xs. refl)

-- one of the children
pub one_sum : (f : ℕ → Need) → IsSum either f (one_of f)
one_sum f = either_sum f (one_of f) refl (λ x xs. refl)

-- ---- transitions

-- a transition action that isn't empty is a step, and then its statements
pub action_some : (g : Cells) (ss : List Stmt) → ss ≢ [] → in_turn one_step (block_need g ss) ≡ action_need g ss
action_some g [] ne = absurd (ne refl)
action_some g (s ∷ ss) ne = refl

-- an empty transition action takes nothing
pub action_none : (g : Cells) (ss : List Stmt) → ss ≡ [] → nothing_needed ≡ action_need g ss
action_none g [] e = refl
action_none g (s ∷ ss) e = absurd cc

module _ (l : Lookup) (t : Trans) where
  -- a transition that fits, and one that doesn't
  pub fit_evaluated : (a b : List Cell) (v : Need) (U : List Cell → Type 0) → event_fits t.event l.cell.event ≡ true
      → Evaluated l a b v (trans_need (cells_in l) l.cell.event t) U
      → ((m : List Cell) → U m → TransUses (IsKnown l m) l.cell.event t)
      → Evaluated l a b v (fit_need (cells_in l) l.cell.event t) (λ m. TransUses (IsKnown l m) l.cell.event t)
  fit_evaluated a b v U fits h f = record {
    value =
        subst
        (λ x. v ≡ (if x then trans_need (cells_in l) l.cell.event t else nothing_needed)) (sym fits) h.value;
    grows = h.grows;
    used = λ later g. f later (h.used later g);
  }

  -- a transition that does not fit
  pub unfit_evaluated : (a : List Cell) (v : Need) → event_fits t.event l.cell.event ≡ false → v ≡ nothing_needed
      → Evaluated l a a v (fit_need (cells_in l) l.cell.event t) (λ m. TransUses (IsKnown l m) l.cell.event t)
  unfit_evaluated a v unfits e =
      nothing_looked l a v (fit_need (cells_in l) l.cell.event t) (λ m. TransUses (IsKnown l m) l.cell.event t)
      (subst (λ x. v ≡ (if x then trans_need (cells_in l) l.cell.event t else nothing_needed)) (sym unfits) e)
      (λ m fits. absurd (let f : true ≡ false = sym fits ∙ unfits in cc))

-- what a call gives, and what follows from it
pub if_ok_map : {A E : Type 0} (P Q : A → Type 0) (r : Result A E) → ((a : A) → P a → Q a) → IfOk r P → IfOk r Q
if_ok_map P Q (Ok a) f h = f a h
if_ok_map P Q (Err x) f h = tt

-- a transition is evaluated where its actions and its destination are
pub trans_evaluated : (l : Lookup) (t : Trans) (a b d f : List Cell) (v w x r n : Need) (conds acts : List Stmt)
    → conds ≡ t.condition → acts ≡ t.action
    → Evaluated l a b v (block_need (cells_in l) conds) (λ m. BlockUses (IsKnown l m) conds)
    → Evaluated l b d w (action_need (cells_in l) acts) (λ m. BlockUses (IsKnown l m) acts)
    → Evaluated l d f x (dest_need (cells_in l) l.cell.event t.dest) (λ m. DestUses (IsKnown l m) l.cell.event t.dest)
    → r ≡ in_turn w x → n ≡ in_turn v r
    → Evaluated l a f n (trans_need (cells_in l) l.cell.event t)
    (λ m. BlockUses (IsKnown l m) t.condition × BlockUses (IsKnown l m) t.action
    × DestUses (IsKnown l m) l.cell.event t.dest)
trans_evaluated l t a b d f v w x r n conds acts ec ea h k i er en =
    three_evaluated l a b d f v w x r n _ _ _ _ _ _
    (subst (λ z. Evaluated l a b v (block_need (cells_in l) z) (λ m. BlockUses (IsKnown l m) z)) ec h)
    (subst (λ z. Evaluated l b d w (action_need (cells_in l) z) (λ m. BlockUses (IsKnown l m) z)) ea k) i er en

-- whether a number is 0
zero_test : (n : ℕ) → (n == 0) ≡ true → n ≡ 0
zero_test n e = grind (arith, nat_tests)

-- whether a number is not 0
nonzero_test : (n : ℕ) → (n == 0) ≡ false → n ≢ 0
nonzero_test n e = grind (arith, nat_tests)

-- a list of no items is empty, and a longer one isn't
pub empty_is : {A : Type 0} (xs : List A) → (length xs == 0) ≡ true → xs ≡ []
empty_is [] e = refl
empty_is (x ∷ xs) e = let h = zero_test (suc (length xs)) e in absurd (omega (arith, h))

-- a list of some items is not empty
pub not_empty : {A B : Type 0} (f : A → B) (xs : List A) → (length xs == 0) ≡ false → map f xs ≢ []
not_empty f [] e n = nonzero_test 0 e refl
not_empty f (x ∷ xs) e n = absurd cc

-- ---- where a match tells what a piece is

module _ (l : Lookup) (a b : List Cell) where
  -- a statement was evaluated
  abbrev pub StmtDone : declared.Stmt → Need → Type 0
  StmtDone s v =
      Evaluated l a b v (stmt_need (cells_in l) (stmt_of s)) (λ m. StmtUses (IsKnown l m) (stmt_of s))

  -- one that a match finds
  pub stmt_at : (v : Need) (s s' : declared.Stmt) → s ≡ s' → StmtDone s' v → StmtDone s v
  stmt_at v s s' e h = subst (λ z. StmtDone z v) (sym e) h

  -- one that a call evaluates
  pub stmt_ok : {E : Type 0} (r : Result Need E) (s s' : declared.Stmt) → s ≡ s' → IfOk r (StmtDone s') → IfOk r
      (StmtDone s)
  stmt_ok r s s' e h = subst (λ z. IfOk r (StmtDone z)) (sym e) h

  -- a destination was evaluated
  abbrev pub DestDone : Dest → Need → Type 0
  DestDone d v =
      Evaluated l a b v (dest_need (cells_in l) l.cell.event d) (λ m. DestUses (IsKnown l m) l.cell.event d)

  -- one that a match finds
  pub dest_at : (v : Need) (d d' : Dest) → d ≡ d' → DestDone d' v → DestDone d v
  dest_at v d d' e h = subst (λ z. DestDone z v) (sym e) h

  -- the children were evaluated
  abbrev pub ChildrenDone : Part → ℕ → Comp → Need → Type 0
  ChildrenDone part s o v =
      Evaluated l a b v (children_need (chart_in l) (cells_in l) l.cell.event part s o)
      (λ m. ChildrenUse (chart_in l) (IsKnown l m) l.cell.event part s o)

  -- as a match finds them composed
  pub children_at : (part : Part) (s : ℕ) (v : Need) (o o' : Comp) → o' ≡ o → ChildrenDone part s o' v
      → ChildrenDone part s o v
  children_at part s v o o' e h = subst (λ z. ChildrenDone part s z v) e h

  -- as a call evaluates them
  pub children_ok : {E : Type 0} (part : Part) (s : ℕ) (r : Result Need E) (o o' : Comp) → o' ≡ o
      → IfOk r (ChildrenDone part s o') → IfOk r (ChildrenDone part s o)
  children_ok part s r o o' e h = subst (λ z. IfOk r (ChildrenDone part s z)) e h

-- ---- loops

-- an action
module _ (l : Lookup) where
  -- before the first one
  pub block_begins : (met : List Cell) (xs rest : List Stmt) → xs ≡ rest → AllByRecursion (StmtUses (MayLook l)) xs
      → BlockSoFar l met met xs rest nothing_needed
  block_begins =
      loop_begins l in_turn (stmt_need (cells_in l)) (block_need (cells_in l)) (StmtKnown l) (StmtUses (MayLook l))
      (block_sum (cells_in l))

  -- one more
  pub block_goes_on : (before now later : List Cell) (xs rest : List Stmt) (x : Stmt) (rest' : List Stmt)
      (acc v n : Need)
      → BlockSoFar l before now xs rest acc → rest ≡ x ∷ rest'
      → Evaluated l now later v ((stmt_need (cells_in l)) x) ((StmtKnown l) x) → n ≡ in_turn acc v
      → BlockSoFar l before later xs rest' n
  block_goes_on =
      loop_goes_on l in_turn (stmt_need (cells_in l)) (block_need (cells_in l)) (StmtKnown l) (StmtUses (MayLook l))
      (block_sum (cells_in l))

  -- after the last one
  pub block_ends : (before now : List Cell) (xs rest : List Stmt) (acc : Need)
      → BlockSoFar l before now xs rest acc → rest ≡ []
      → Evaluated l before now acc ((block_need (cells_in l)) xs) (λ m. AllByRecursion (λ x. (StmtKnown l) x m) xs)
  block_ends =
      loop_ends l in_turn (stmt_need (cells_in l)) (block_need (cells_in l)) (StmtKnown l) (StmtUses (MayLook l))
      (block_sum (cells_in l))

-- a list
module _ (l : Lookup) where
  -- before the first one
  pub list_begins : (met : List Cell) (xs rest : List Trans) → xs ≡ rest → AllByRecursion (TransUses
      (MayLook l) l.cell.event) xs
      → ListSoFar l met met xs rest nothing_needed
  list_begins =
      loop_begins l in_turn (fit_need (cells_in l) l.cell.event) (list_need (cells_in l) l.cell.event) (TransKnown l)
      (TransUses (MayLook l) l.cell.event)
      (list_sum (cells_in l) l.cell.event)

  -- one more
  pub list_goes_on : (before now later : List Cell) (xs rest : List Trans) (x : Trans) (rest' : List Trans)
      (acc v n : Need)
      → ListSoFar l before now xs rest acc → rest ≡ x ∷ rest'
      → Evaluated l now later v ((fit_need (cells_in l) l.cell.event) x) ((TransKnown l) x) → n ≡ in_turn acc v
      → ListSoFar l before later xs rest' n
  list_goes_on =
      loop_goes_on l in_turn (fit_need (cells_in l) l.cell.event) (list_need (cells_in l) l.cell.event) (TransKnown l)
      (TransUses (MayLook l) l.cell.event)
      (list_sum (cells_in l) l.cell.event)

  -- after the last one
  pub list_ends : (before now : List Cell) (xs rest : List Trans) (acc : Need)
      → ListSoFar l before now xs rest acc → rest ≡ []
      → Evaluated l before now acc ((list_need (cells_in l) l.cell.event) xs) (λ m. AllByRecursion (λ x.
      (TransKnown l) x m) xs)
  list_ends =
      loop_ends l in_turn (fit_need (cells_in l) l.cell.event) (list_need (cells_in l) l.cell.event) (TransKnown l)
      (TransUses (MayLook l) l.cell.event)
      (list_sum (cells_in l) l.cell.event)

-- all children
module _ (l : Lookup) (part : Part) where
  -- before the first one
  pub all_begins : (met : List Cell) (xs rest : List ℕ) → xs ≡ rest → AllByRecursion (MayLook l l.cell.event part) xs
      → AllSoFar l part met met xs rest nothing_needed
  all_begins =
      loop_begins l in_turn (cells_in l l.cell.event part) (all_of (cells_in l l.cell.event part)) (ChildKnown l part)
      (MayLook l l.cell.event part)
      (all_sum (cells_in l l.cell.event part))

  -- one more
  pub all_goes_on : (before now later : List Cell) (xs rest : List ℕ) (x : ℕ) (rest' : List ℕ) (acc v n : Need)
      → AllSoFar l part before now xs rest acc → rest ≡ x ∷ rest'
      → Evaluated l now later v ((cells_in l l.cell.event part) x) ((ChildKnown l part) x) → n ≡ in_turn acc v
      → AllSoFar l part before later xs rest' n
  all_goes_on =
      loop_goes_on l in_turn (cells_in l l.cell.event part) (all_of (cells_in l l.cell.event part)) (ChildKnown l part)
      (MayLook l l.cell.event part)
      (all_sum (cells_in l l.cell.event part))

  -- after the last one
  pub all_ends : (before now : List Cell) (xs rest : List ℕ) (acc : Need)
      → AllSoFar l part before now xs rest acc → rest ≡ []
      → Evaluated l before now acc ((all_of (cells_in l l.cell.event part)) xs) (λ m. AllByRecursion (λ x.
      (ChildKnown l part) x m) xs)
  all_ends =
      loop_ends l in_turn (cells_in l l.cell.event part) (all_of (cells_in l l.cell.event part)) (ChildKnown l part)
      (MayLook l l.cell.event part)
      (all_sum (cells_in l l.cell.event part))

-- one of the children
module _ (l : Lookup) (part : Part) where
  -- before the first one
  pub one_begins : (met : List Cell) (xs rest : List ℕ) → xs ≡ rest → AllByRecursion (MayLook l l.cell.event part) xs
      → OneSoFar l part met met xs rest nothing_needed
  one_begins =
      loop_begins l either (cells_in l l.cell.event part) (one_of (cells_in l l.cell.event part)) (ChildKnown l part)
      (MayLook l l.cell.event part)
      (one_sum (cells_in l l.cell.event part))

  -- one more
  pub one_goes_on : (before now later : List Cell) (xs rest : List ℕ) (x : ℕ) (rest' : List ℕ) (acc v n : Need)
      → OneSoFar l part before now xs rest acc → rest ≡ x ∷ rest'
      → Evaluated l now later v ((cells_in l l.cell.event part) x) ((ChildKnown l part) x) → n ≡ either acc v
      → OneSoFar l part before later xs rest' n
  one_goes_on =
      loop_goes_on l either (cells_in l l.cell.event part) (one_of (cells_in l l.cell.event part)) (ChildKnown l part)
      (MayLook l l.cell.event part)
      (one_sum (cells_in l l.cell.event part))

  -- after the last one
  pub one_ends : (before now : List Cell) (xs rest : List ℕ) (acc : Need)
      → OneSoFar l part before now xs rest acc → rest ≡ []
      → Evaluated l before now acc ((one_of (cells_in l l.cell.event part)) xs) (λ m. AllByRecursion (λ x.
      (ChildKnown l part) x m) xs)
  one_ends =
      loop_ends l either (cells_in l l.cell.event part) (one_of (cells_in l l.cell.event part)) (ChildKnown l part)
      (MayLook l l.cell.event part)
      (one_sum (cells_in l l.cell.event part))

-- one of the firings
module _ (l : Lookup) where
  -- before the first one
  pub firings_begins : (met : List Cell) (xs rest : List ℕ) → xs ≡ rest → AllByRecursion (MayFire l) xs
      → FiringsSoFar l met met xs rest nothing_needed
  firings_begins =
      loop_begins l either (fires l) (one_of (fires l)) (FiringKnown l) (MayFire l)
      (one_sum (fires l))

  -- one more
  pub firings_goes_on : (before now later : List Cell) (xs rest : List ℕ) (x : ℕ) (rest' : List ℕ) (acc v n : Need)
      → FiringsSoFar l before now xs rest acc → rest ≡ x ∷ rest'
      → Evaluated l now later v ((fires l) x) ((FiringKnown l) x) → n ≡ either acc v
      → FiringsSoFar l before later xs rest' n
  firings_goes_on =
      loop_goes_on l either (fires l) (one_of (fires l)) (FiringKnown l) (MayFire l)
      (one_sum (fires l))

  -- after the last one
  pub firings_ends : (before now : List Cell) (xs rest : List ℕ) (acc : Need)
      → FiringsSoFar l before now xs rest acc → rest ≡ []
      → Evaluated l before now acc ((one_of (fires l)) xs) (λ m. AllByRecursion (λ x. (FiringKnown l) x m) xs)
  firings_ends =
      loop_ends l either (fires l) (one_of (fires l)) (FiringKnown l) (MayFire l)
      (one_sum (fires l))
