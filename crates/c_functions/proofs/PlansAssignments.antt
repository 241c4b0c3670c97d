-- Assignments and tests of expressions in a plan, as C.
use Rattle.std.proofs.Common.{◌≡◌, ℕ, zero, suc, ◌^◌, ◌<◌, ℤ, Bool, true, false, ◌||◌, List, [], ◌∷◌}
use Rattle.std.proofs.Common.{length, map, Option, Some, None}
use Rattle.std.proofs.Common.{Result, Ok, Err, IfOk, slice_get, slice_index_or, refl, sym, ap, ◌∙◌, subst, arith}
use Rattle.std.proofs.Common.{mod-eq_of_lt}
use Rattle.std.proofs.lemmas.Simd.{map-map}
use Rattle.std.proofs.lemmas.List.{get_or-map, length-map}
use Rattle.std.proofs.lemmas.List.FromFn.{length-map-range_with_len, get_or-map-range_with_len}
use Rattle.std.specs.Option.{option_map_or}
use Rattle.std.proofs.lemmas.Bool.{and_parts}
use Rattle.fixed_point.specs.declared.fitting.Mode.TheVariants.{Saturate}
use Rattle.flow_base.specs.declared.fault.Fault.{Fault}
use Rattle.flow_base.specs.declared.fault.Fault.TheVariants as faults
use Rattle.fixed_point.specs.declared.fitting.Overflow.{Overflow}
use Rattle.active_config.specs.Tree.{state_count}
use Rattle.active_config.specs.Marks.{Configuration, mark_count, is_on}
use Rattle.actions.specs.declared.expr.Value.{Value}
use Rattle.actions.specs.declared.expr.Value.TheVariants as values
use Rattle.actions.specs.declared.names.Var.{Var}
use Rattle.actions.specs.declared.names.Sort.{Sort}
use Rattle.actions.specs.declared.names.Sort.TheVariants as sorts
use Rattle.actions.specs.declared.sort.ExprSort.{ExprSort}
use Rattle.actions.specs.declared.sort.ExprSort.TheVariants as kinds
use Rattle.actions.specs.declared.sort.ExprFault.{ExprFault}
use Rattle.actions.specs.Data.{Datum, datum, no_datum, assigned, keep, kept, CanTake}
use Rattle.actions.specs.Engines.{IsFaultOf}
use Rattle.actions.specs.Exprs.{Expr}
use Rattle.actions.specs.Names.{Names}
use Rattle.actions.specs.Sorts.{Scope, Sorted, scope_of, sort_of, assignment_fault}
use Rattle.actions.specs.Values.{Valued, HasSort, value_of, scope_at}
use Rattle.actions.specs.Work.{Now}
use Rattle.actions.specs.World.{Declaration, of_data, of_names}
use Rattle.actions.specs.Changes.{with_data, assigned_value, assigned_in, truth, truth_of}
use Rattle.actions.proofs.AssignmentLemmas.{of_data-assigned, sorts-assigned}
use Rattle.actions.proofs.SizeLemmas.{CanTake-assignable}
use Rattle.code_language.specs.Instrs.{Assign, Unless, Test}
use Rattle.code_language.specs.WellFormed.{Known, is_plain, is_flag, is_assigned, is_fine, takes, instr_typed}
use Rattle.code_language.specs.WellFormed.{cond_typed}
use Rattle.code_language.proofs.AssignLemmas.{IsTyped, got_within}
use Rattle.code_language.proofs.ExprFaults.{Gives, Any, value_gives}
use Rattle.c_subset.specs.Trees.{CExpr, Block, If}
use Rattle.c_subset.specs.declared.trees.Width.{Width}
use Rattle.c_subset.specs.declared.trees.Width.TheVariants.{W32}
use Rattle.c_subset.specs.Meaning.{one_if, Store, Locals}
use Rattle.c_subset.specs.Running.{Outcome, Calls, with_field, outcome}
use Rattle.c_functions.specs.Assigning.{stores_of, assigned_block, assigned_by, EndsAssigned}
use Rattle.c_functions.specs.Claims.{Has, ShowsActive, EndsAs}
use Rattle.c_functions.specs.Code.{written, Returning}
use Rattle.c_functions.specs.Translation.{flat, sort_in}
use Rattle.c_functions.proofs.AssigningLemmas.{assigns-data}
use Rattle.c_functions.proofs.TranslationEnds.{ends_as_value, value_has_sort}
use Rattle.c_functions.proofs.CodePieces.{agree-itself, agree-less}
use Rattle.c_functions.proofs.CodeStatements.{written-goes, written-faults}
use Rattle.c_functions.specs.States.{States, c_on}
use Rattle.c_functions.specs.Statements.{CMemory, Locals as Inner, Out}
use Rattle.c_functions.specs.Statements as plan
use Rattle.c_functions.specs.Meaning as p
use Rattle.c_functions.specs.Meaning.{exec}
use Rattle.c_functions.specs.Runs.{told, world_of, with_vals}
use Rattle.c_functions.specs.Layout.{on_c}
use Rattle.c_functions.specs.Plans.{Shape, layout, helper, faulted, fault_datum}
use Rattle.c_functions.specs.Plans.{first_free, declared_at, expression_c, assign_c, bad}
use Rattle.c_functions.specs.Plans.{fault_number, plan_c}
use Rattle.c_functions.specs.Failing.{divides, is_error}
use Rattle.c_functions.specs.Plans.{leading}
use Rattle.c_functions.specs.Files.{with_fault, Represents}
use Rattle.c_functions.proofs.FailingLemmas.{FailsBy, or-left, value-fails, assigned-fails}
use Rattle.c_functions.proofs.NotesLemmas.{or-right}
use Rattle.c_functions.proofs.LayoutTests.{unsigned, on-has}
use Rattle.c_functions.proofs.FilesShown.{vals-put, fault-told}
use Rattle.c_functions.proofs.PlansWords.{or-got}
use Rattle.c_functions.proofs.PlansEnds.{IsFit, IsFine, IsAt, Ends, Follows, program_c, told_c, returning}
use Rattle.c_functions.proofs.PlansEnds.{at-memory}
use Rattle.c_functions.proofs.PlansEnds.{is_layout}
use Rattle.c_functions.proofs.PlansBranches.{HasCalls, at-locals, branch-ends}

-- ---- what is declared

-- the sorts of data are those that are declared
scope_sorts : (vals : List Datum) (n : Names) → of_data vals ≡ of_names n
    → map (λ (d : Datum). d.sort) vals ≡ map (λ (v : Var). v.sort) n.vars
scope_sorts vals n are =
    sym (map-map (λ (d : Declaration). d.sort) _ vals) ∙ ap (map (λ (d : Declaration). d.sort)) are
    ∙ map-map (λ (d : Declaration). d.sort) _ n.vars

pub long-of : (vals : List Datum) (n : Names) → of_data vals ≡ of_names n → length vals ≡ length n.vars
long-of vals n are = sym (length-map vals _) ∙ ap length are ∙ length-map n.vars _

-- what a datum is declared as
pub declared-of : (vals : List Datum) (n : Names) (v : ℕ) → of_data vals ≡ of_names n → v < length vals
    → record { sort = (datum vals v).sort; mode = (datum vals v).mode } ≡ declared_at n v
unfolding datum
declared-of vals n v are lt =
    let none : Declaration = record { sort = sorts.Flag; mode = Saturate } in
    sym (get_or-map (λ (d : Datum). record { sort = d.sort; mode = d.mode }) vals v no_datum none lt)
    ∙ ap (λ (l : List Declaration). slice_index_or l v none) are

-- what stands in a list stands in the list of what it is mapped to
pub mapped : {A B : Type 0} (g : A → B) (xs : List A) (i : ℕ) (x : A) → slice_get xs i ≡ Some x
    → slice_get (map g xs) i ≡ Some (g x)
mapped g [] i x e = absurd cc
mapped g (y ∷ xs) zero x e = let same : y ≡ x = cc in ap (λ z. Some (g z)) same
mapped g (y ∷ xs) (suc i) x e = mapped g xs i x e

declared-sort : (n : Names) (v : ℕ) (decl : Var) → slice_get n.vars v ≡ Some decl
    → (declared_at n v).sort ≡ decl.sort
declared-sort n v decl e =
    ap (λ (d : Declaration). d.sort)
    (or-got (of_names n) v (record { sort = decl.sort; mode = decl.mode })
    (record { sort = sorts.Flag; mode = Saturate })
    (mapped (λ (v : Var). record { sort = v.sort; mode = v.mode }) n.vars v decl e))

-- ---- faults

-- the datum of a fault of what is declared
fault-small : (n : Names) (x : Fault) → length n.vars < 2 ^ 16 → IsFaultOf n (Some x) → fault_datum (Some x) < 2 ^ 32
fault-small n faults.Depth few h = omega arith
fault-small n faults.Steps few h = omega arith
fault-small n (faults.Overflow v) few h = omega (arith, few, h)
fault-small n faults.Zero few h = omega arith

keep-small : (vals : List Datum) (v : ℕ) (r : Result ℤ Overflow) (y : Fault) → v < 2 ^ 16 → keep vals v r ≡ Err y
    → fault_datum (Some y) < 2 ^ 32
keep-small vals v (Ok m) y small e = absurd cc
keep-small vals v (Err o) y small e =
    let same : faults.Overflow v ≡ y = cc in
    subst (λ (x : Fault). fault_datum (Some x) < 2 ^ 32) same (omega (arith, small))

assigned-small : (vals : List Datum) (v : ℕ) (value : Value) (y : Fault) → v < 2 ^ 16 → assigned vals v value ≡ Err y
    → fault_datum (Some y) < 2 ^ 32
unfolding assigned
assigned-small vals v value y small e = keep-small vals v (kept value (datum vals v)) y small e

fault_number-small : (x : Fault) → fault_number (Some x) < 2 ^ 32
fault_number-small faults.Depth = omega arith
fault_number-small faults.Steps = omega arith
fault_number-small (faults.Overflow v) = omega arith
fault_number-small faults.Zero = omega arith

-- the struct shows a fault that was told
fault-shows : (K : Shape) (m : CMemory) (s : Store) (x : Fault) → Represents K None m s
    → length m.vals ≡ length K.names.vars → fault_datum (Some x) < 2 ^ 32 → Represents K (Some x) m (told_c K x s)
fault-shows K m s x h long small =
    subst (λ (d : ℕ). Represents K (Some x) m (with_fault K s (fault_number (Some x)) d)) (sym (mod-eq_of_lt small))
    (fault-told K None m s h long x (fault_number-small x) small)

-- ---- marks that fields tell

told-on : (K : Shape) (st : States) (q : ℕ) → q < state_count K.tree
    → is_on q (told K.tree K.numbers st) ≡ c_on K.tree K.numbers q st
unfolding is_on told
told-on K st q lt =
    get_or-map-range_with_len (λ (s : ℕ). c_on K.tree K.numbers s st) 0 (state_count K.tree) q q false lt (omega arith)

told-count : (K : Shape) (st : States) → mark_count (told K.tree K.numbers st) ≡ state_count K.tree
unfolding mark_count told
told-count K st = length-map-range_with_len (λ (s : ℕ). c_on K.tree K.numbers s st) 0 (state_count K.tree)

module _ (K : Shape) (int : Width) (fit : IsFit K int) (bodies : ℕ → plan.Block) (call : p.Calls) (turns_left : ℕ)
    (calls : Calls) (k : ℕ) (c0 u0 : ℕ) (f0 p0 : Bool) (now : Now) (h : ℕ → ℕ) (most : ℕ)
    (has : HasCalls K h most call calls) where
  abbrev X : plan.Block → CMemory → Inner → Out
  X a m l = exec (program_c K bodies) call turns_left now a m l

  abbrev Y : Block → Store → Locals → Outcome
  Y a s loc = outcome int calls k a s loc

  abbrev At : ℕ → CMemory → Inner → Store → Locals → Type 0
  At c m l s loc = IsAt K c0 u0 p0 now c m l s loc

  abbrev Goes : ℕ → (CMemory → Inner → Store → Locals → Type 0) → plan.Block → Type 0
  Goes c R a = Follows K c0 u0 f0 (At c) R (X a) (Y (plan_c K a))

  abbrev EndsIn : (CMemory → Inner → Store → Locals → Type 0) → Out → Outcome → Type 0
  EndsIn R o o' = Ends K c0 u0 f0 R o o'

  abbrev tests : ℕ → CExpr
  tests = on_c K.tree (layout K) K.numbers

  active : (m : CMemory) (s : Store) → Represents K None m s
      → ShowsActive int (on_c K.tree (layout K) K.numbers) (told K.tree K.numbers m.states) s
  active m s shows q l lt =
      let count = told-count K m.states in
      let within : q < state_count K.tree = omega (arith, lt, count) in
      subst (λ (b : Bool). Has int s l (on_c K.tree (layout K) K.numbers q) (one_if b))
      (sym (told-on K m.states q within))
      (on-has int s l K.tree K.numbers (layout K) m.states q fit.most
      (is_layout K int fit bodies call turns_left calls k c0 u0 f0 p0 now) shows.states within)

  scope-same : (m : CMemory) → IsFine K m → scope_at m.vals (told K.tree K.numbers m.states) ≡ scope_of K.names
  scope-same m fine =
      ap (λ (l : List Sort). record { sorts = l; states = mark_count (told K.tree K.numbers m.states) })
      (scope_sorts m.vals K.names fine.declared)
      ∙ ap (λ (n : ℕ). record { sorts = map (λ (v : Var). v.sort) K.names.vars; states = n })
      (told-count K m.states ∙ sym fit.named)

  -- an assignment
  pub assign-ends : (R : CMemory → Inner → Store → Locals → Type 0) (c v : ℕ) (x : Expr) (rest : plan.Block)
      → ((is_error (declared_at K.names v).mode || divides x) ≡ true → f0 ≡ true) → IsTyped K.names v x → Goes c R rest
      → Goes c R (plan.Store v x rest)
  unfolding exec plan_c assigned_in
  assign-ends R c v x rest fails typed go m l s loc at =
      by (value_of m.vals marks x) refl
      (value_has_sort int (on_c K.tree (layout K) K.numbers) s m.vals marks x first_free loc typed.sort at.fine.sorts
      at.shows.vals (active m s at.shows) sorted)
      (value_gives K.names m.vals marks x) ends
    where
      marks : Configuration
      marks = told K.tree K.numbers m.states

      within : v < length K.names.vars
      within = got_within K.names.vars v typed.decl typed.declared

      there : v < length m.vals
      there = omega (arith, within, at.fine.long)

      sorted : sort_of (scope_at m.vals (told K.tree K.numbers m.states)) x ≡ Ok typed.sort
      sorted = ap (λ (c : Scope). sort_of c x) (scope-same m at.fine) ∙ typed.sorted

      declared : record { sort = (datum m.vals v).sort; mode = (datum m.vals v).mode } ≡ declared_at K.names v
      declared = declared-of m.vals K.names v at.fine.declared there

      sort_is : (datum m.vals v).sort ≡ typed.decl.sort
      sort_is = ap (λ (d : Declaration). d.sort) declared ∙ declared-sort K.names v typed.decl typed.declared

      ends : EndsAssigned (λ u z. Y (plan_c K rest) u z) (told_c K) (unsigned W32 bad) v s 7 loc
          (Y (assign_c K v x (plan_c K rest)) s loc)
          (assigned_by m.vals v (value_of m.vals (told K.tree K.numbers m.states) x))
      ends =
          subst (λ (so : ExprSort). EndsAssigned (λ u z. Y (plan_c K rest) u z) (told_c K) (unsigned W32 bad) v s 7 loc
          (Y (assigned_block (helper K) (faulted K) v (stores_of v (declared_at K.names v).sort
          (declared_at K.names v).mode so (expression_c K x)) (plan_c K rest)) s loc)
          (assigned_by m.vals v (value_of m.vals (told K.tree K.numbers m.states) x))) (sym (ap sort_in typed.sorted))
          (subst (λ (c : Scope). EndsAssigned (λ u z. Y (plan_c K rest) u z) (told_c K) (unsigned W32 bad) v s 7 loc
          (Y (assigned_block (helper K) (faulted K) v (stores_of v (declared_at K.names v).sort
          (declared_at K.names v).mode typed.sort (flat c (on_c K.tree (layout K) K.numbers) 7 x))
          (plan_c K rest)) s loc)
          (assigned_by m.vals v (value_of m.vals (told K.tree K.numbers m.states) x))) (scope-same m at.fine)
          (subst (λ (d : Declaration). EndsAssigned (λ u z. Y (plan_c K rest) u z) (told_c K) (unsigned W32 bad) v s 7
          loc (Y (assigned_block (helper K) (faulted K) v (stores_of v d.sort d.mode typed.sort
          (flat (scope_at m.vals (told K.tree K.numbers m.states)) (on_c K.tree (layout K) K.numbers) 7 x))
          (plan_c K rest)) s loc) (assigned_by m.vals v (value_of m.vals (told K.tree K.numbers m.states) x))) declared
          (assigns-data int (on_c K.tree (layout K) K.numbers) calls k (helper K) (faulted K) (told_c K)
          (unsigned W32 bad) s m.vals (told K.tree K.numbers m.states) v x typed.sort 7 (plan_c K rest) loc (record {
            sorts = at.fine.sorts;
            shown = at.shows.vals;
            active = active m s at.shows;
            int_is = omega (arith, fit.most);
            divides = has.divides s;
            returning = returning K int fit bodies call turns_left calls k c0 u0 f0 p0 now s _ _ _ at.shows.fault_is
                at.shows.datum_is at.shows.ready_is;
            there = there;
            sorted = sorted;
            takes = subst (λ (so : Sort). assignment_fault so typed.sort ≡ None) (sym sort_is) typed.takes;
          }))))

      -- the datum can take the value
      can_take : (value : Value) → HasSort typed.sort value → CanTake (datum m.vals v).sort value
      can_take value sort =
          subst (λ (so : Sort). CanTake so value) (sym sort_is)
          (CanTake-assignable typed.decl.sort typed.sort value typed.takes sort)

      -- and is refused only by its mode
      errs : (value : Value) → HasSort typed.sort value → (y : Fault) → assigned m.vals v value ≡ Err y
          → is_error (declared_at K.names v).mode ≡ true
      errs value sort y e =
          subst (λ (d : Declaration). is_error d.mode ≡ true) declared
          (subst (λ (r : Result (List Datum) Fault). FailsBy (is_error (datum m.vals v).mode) r) e
          (assigned-fails m.vals v value (can_take value sort)))

      -- other data
      data_by : (value : Value) → HasSort typed.sort value → (r : Result (List Datum) Fault)
          → assigned m.vals v value ≡ r
          → EndsAssigned (λ u z. Y (plan_c K rest) u z) (told_c K) (unsigned W32 bad) v s 7 loc
          (Y (assign_c K v x (plan_c K rest)) s loc) r
          → EndsIn R (p.and_stored (with_vals m (with_data r (world_of K.tree K.numbers m))) m (λ z. X rest z l))
          (Y (assign_c K v x (plan_c K rest)) s loc)
      data_by value sort (Err y) e end = λ room t. (
        told_c K y s,
        end,
        fault-shows K m s y at.shows at.fine.long
            (assigned-small m.vals v value y (omega (arith, within, fit.vars)) e),
        fails (or-left (is_error (declared_at K.names v).mode) (divides x) (errs value sort y e)),
      )
      data_by value sort (Ok vals) e end =
          let of = of_data-assigned m.vals vals v value e ∙ at.fine.declared in
          subst (λ (o : Outcome). EndsIn R (X rest (record m { vals = vals }) l) o) (sym end.2)
          (go (record m { vals = vals }) l (with_field s v end.0) end.1
          (at-locals K int fit bodies call turns_left calls k c0 u0 f0 p0 now c (record m { vals = vals }) l
          (with_field s v end.0) loc end.1 (agree-less 6 7 loc end.1 (omega arith) end.3)
          (at-memory K c0 u0 p0 now c c m (record m { vals = vals }) l s (with_field s v end.0) loc at
          (vals-put K 0 0 (leading K) m s at.shows vals v end.0 within end.4)
          (record {
            chosen = at.fine.chosen;
            flags = at.fine.flags;
            kept = at.fine.kept;
            sorts = sorts-assigned m.vals vals v value e at.fine.sorts (can_take value sort);
            declared = of;
            long = long-of vals K.names of;
            outputs = at.fine.outputs;
            used = at.fine.used;
            noted = at.fine.noted;
          }) at.notes at.used)))

      by : (r : Valued) → value_of m.vals (told K.tree K.numbers m.states) x ≡ r → IfOk r (HasSort typed.sort)
          → Gives K.names Any r
          → EndsAssigned (λ u z. Y (plan_c K rest) u z) (told_c K) (unsigned W32 bad) v s 7 loc
          (Y (assign_c K v x (plan_c K rest)) s loc) (assigned_by m.vals v r)
          → EndsIn R (p.and_stored (with_vals m (assigned_value v r (world_of K.tree K.numbers m))) m (λ z. X rest z l))
          (Y (assign_c K v x (plan_c K rest)) s loc)
      by (Err y) is sort gives end = λ room t. (
        told_c K y s,
        end,
        fault-shows K m s y at.shows at.fine.long (fault-small K.names y fit.vars gives),
        fails (or-right (is_error (declared_at K.names v).mode) (divides x)
            (subst (λ (r : Valued). FailsBy (divides x) r) is (value-fails m.vals marks x))),
      )
      by (Ok value) is sort gives end = data_by value sort (assigned m.vals v value) refl end

  -- a test of an expression
  pub arithmetic-ends : (R : CMemory → Inner → Store → Locals → Type 0) (e : Expr) (x y rest : plan.Block)
      → (divides e ≡ true → f0 ≡ true) → sort_of (scope_of K.names) e ≡ Ok kinds.Flag → Goes c0 (At c0) x
      → Goes c0 (At c0) y → Goes c0 R rest
      → Goes c0 R (plan.If (plan.Arithmetic e) x y rest)
  unfolding exec plan_c truth_of
  arithmetic-ends R e x y rest fails flag one other go m l s loc at =
      by (value_of m.vals marks e) refl
      (value_has_sort int (on_c K.tree (layout K) K.numbers) s m.vals marks e first_free loc kinds.Flag at.fine.sorts
      at.shows.vals (active m s at.shows) sorted)
      (value_gives K.names m.vals marks e)
      (subst (λ (c : Scope). EndsAs int s 7 (flat c (on_c K.tree (layout K) K.numbers) 7 e) loc
      (value_of m.vals marks e)) (scope-same m at.fine)
      (ends_as_value int (on_c K.tree (layout K) K.numbers) s m.vals marks e 7 loc kinds.Flag at.fine.sorts
      at.shows.vals (active m s at.shows) sorted))
    where
      marks : Configuration
      marks = told K.tree K.numbers m.states

      sorted : sort_of (scope_at m.vals (told K.tree K.numbers m.states)) e ≡ Ok kinds.Flag
      sorted = ap (λ (c : Scope). sort_of c e) (scope-same m at.fine) ∙ flag

      returns : Returning int calls k (faulted K) (told_c K) (unsigned W32 bad) s
      returns =
          returning K int fit bodies call turns_left calls k c0 u0 f0 p0 now s _ _ _ at.shows.fault_is at.shows.datum_is
          at.shows.ready_is

      by : (r : Valued) → value_of m.vals (told K.tree K.numbers m.states) e ≡ r → IfOk r (HasSort kinds.Flag)
          → Gives K.names Any r → EndsAs int s 7 (expression_c K e) loc r
          → EndsIn R (p.and_on (p.branch (truth r) m (X x m l) (X y m l)) (X rest))
          (Y (written (helper K) (faulted K) (expression_c K e).code
          (If (expression_c K e).expr (plan_c K x) (plan_c K y) (plan_c K rest))) s loc)
      by (Err f) is sort gives end = λ room t. (
        told_c K f s,
        written-faults int calls k (helper K) (faulted K) (told_c K) (unsigned W32 bad) s
            (has.divides s) returns (expression_c K e).code
            (If (expression_c K e).expr (plan_c K x) (plan_c K y) (plan_c K rest)) loc f end,
        fault-shows K m s f at.shows at.fine.long (fault-small K.names f fit.vars gives),
        fails (subst (λ (r : Valued). FailsBy (divides e) r) is (value-fails m.vals marks e)),
      )
      by (Ok (values.Number n)) is sort gives end = absurd sort
      by (Ok (values.Flag b)) is sort gives end =
          let after = end.0 in
          let at' = at-locals K int fit bodies call turns_left calls k c0 u0 f0 p0 now c0 m l s loc after
          (agree-less 6 7 loc after (omega arith) end.2) at in
          subst (λ (o : Outcome). EndsIn R (p.and_on (p.branch (Ok b) m (X x m l) (X y m l)) (X rest)) o)
          (sym (written-goes int calls k (helper K) (faulted K) (told_c K) (unsigned W32 bad) s (has.divides s) returns
          (expression_c K e).code (If (expression_c K e).expr (plan_c K x) (plan_c K y)
          (plan_c K rest)) loc after end.1))
          (branch-ends K int fit bodies call turns_left calls k c0 u0 f0 p0 now R (expression_c K e).expr b x y rest m l
          s after (end.3 after (agree-itself (expression_c K e).next after)) (λ t. one m l s after at')
          (λ t. other m l s after at') has.keep go)
