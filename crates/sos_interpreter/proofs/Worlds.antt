-- Worlds that fit a chart, and what changes them.
use Rattle.std.proofs.Common.{◌≡◌, ℕ, zero, suc, ◌+◌, ◌<◌, List, [], ◌∷◌, length, Some, None, Result, Ok, Err, Bool}
use Rattle.std.proofs.Common.{true, false, cond, nat_le, OnOk, OnErr, IfErr, map, sym, ap, ◌∙◌, subst, arith}
use Rattle.std.specs.List.{AllByRecursion}
use Rattle.flow_base.specs.declared.bounds.Bounds.{Bounds}
use Rattle.flow_base.specs.declared.fault.Fault.{Fault}
use Rattle.flow_base.specs.declared.fault.Fault.TheVariants.{Steps}
use Rattle.active_config.specs.Tree.{Tree, parent_of, comp_of}
use Rattle.active_config.specs.Marks.{Configuration, IsConsistent}
use Rattle.std.specs.Prelude.{◌&&◌}
use Rattle.active_config.specs.declared.comp.Comp.TheVariants.{Or}
use Rattle.active_config.specs.Marks.{is_last, last_of}
use Rattle.std.specs.Prelude.{Option, IfSome}
use Rattle.active_config.specs.Tree.{IsTree, state_count}
use Rattle.checked_chart.proofs.Trees.{child_is}
use Rattle.std.specs.List.{find}
use Rattle.std.specs.Prelude.{IsSomeAnd, if◌then◌else◌}
use Rattle.active_config.specs.Tree.{children_of}
use Rattle.checked_chart.specs.Chart.{Chart, has_history, is_remembered, may_return}
use Rattle.actions.specs.Changes.{set_mark, keep_in}
use Rattle.sos_rules.specs.Moves.{entered_in, remembered}
use Rattle.sos_rules.proofs.MarkedStates.{remembering_parent, history_or, entered_done}
use Rattle.actions.specs.declared.expr.Value.{Value}
use Rattle.actions.specs.Data.{Datum, HaveTheirSorts, datum, assigned, CanTake}
use Rattle.actions.specs.Engines.{IsInputSet, halted}
use Rattle.actions.specs.Exprs.{Expr}
use Rattle.actions.specs.Names.{Names}
use Rattle.actions.specs.declared.names.Var.{Var}
use Rattle.actions.specs.declared.engine.Halt.{Halt}
use Rattle.actions.specs.Changes.{paid_in, assigned_in, truth_of, assigned_value, with_data, truth}
use Rattle.actions.specs.Work.{Ended, Faulted, flag_or_fault, change_or_fault}
use Rattle.sos_interpreter.specs.Gives.{Does}
use Rattle.sos_rules.specs.Searches.{pay, assign}
use Rattle.std.specs.Prelude.{slice_get}
use Rattle.actions.specs.Values.{Valued, value_of, flag_of}
use Rattle.actions.specs.World.{World, Fits, Declaration, of_data, of_names, emitted}
use Rattle.actions.proofs.AssignmentLemmas.{of_data-assigned, sorts-assigned}
use Rattle.actions.proofs.DataLemmas.{all_push}

-- an input that is set
pub input_set : (w w' : World) (v : ℕ) (value : Value) (vals : List Datum) → w ≡ w' → assigned w.vals v value ≡ Ok vals
    → IsInputSet w' v value (record w { vals = vals })
input_set w w' v value vals same e = (
  vals,
  ap (λ (x : World). assigned x.vals v value) (sym same) ∙ e,
  ap (λ (x : World). record x { vals = vals }) same,
)

-- another world with the same data and outputs, and consistent marks
pub fits_as : (t : Tree) (n : Names) (w v : World) → Fits t n w → IsConsistent t v.marks → v.vals ≡ w.vals
    → v.outputs ≡ w.outputs → Fits t n v
fits_as t n w v fits k a b = record {
  states = fits.states;
  consistent = k;
  declared = subst (λ (vals : List Datum). of_data vals ≡ of_names n) (sym a) fits.declared;
  sorts = subst HaveTheirSorts (sym a) fits.sorts;
  outputs = subst (AllByRecursion (λ event. event < length n.events)) (sym b) fits.outputs;
}

-- a world with one more output event fits
pub out_fits : (t : Tree) (n : Names) (e : ℕ) (w : World) → Fits t n w → e < length n.events → Fits t n (emitted e w)
out_fits t n e w fits lt = record {
  states = fits.states;
  consistent = fits.consistent;
  declared = fits.declared;
  sorts = fits.sorts;
  outputs = all_push (λ (event : ℕ). event < length n.events) w.outputs e fits.outputs lt;
}

-- a world with an assigned datum fits
pub assigned_fits : (t : Tree) (n : Names) (w : World) (v : ℕ) (value : Value) (vals : List Datum) → Fits t n w
    → CanTake (datum w.vals v).sort value → assigned w.vals v value ≡ Ok vals → Fits t n (record w { vals = vals })
assigned_fits t n w v value vals fits can e = record {
  states = fits.states;
  consistent = fits.consistent;
  declared = of_data-assigned w.vals vals v value e ∙ fits.declared;
  sorts = sorts-assigned w.vals vals v value e fits.sorts can;
  outputs = fits.outputs;
}

-- ---- paying, assigning and testing

-- no step is left to pay
pub pay_spent : (b : Bounds) (w : World) → nat_le b.steps w.used ≡ true → pay b w ≡ Faulted Steps w
unfolding paid_in
pay_spent b w e =
    ap (λ (full : Bool). change_or_fault (cond full (Err Steps) (Ok (record w { used = w.used + 1 }))) w) e

-- a step is paid
pub pay_left : (b : Bounds) (w : World) → nat_le b.steps w.used ≡ false
    → pay b w ≡ Ended tt (record w { used = w.used + 1 })
unfolding paid_in
pay_left b w e = ap (λ (full : Bool). change_or_fault (cond full (Err Steps) (Ok (record w { used = w.used + 1 }))) w) e

-- an expression without a value faults
pub assign_no_value : (v : ℕ) (e : Expr) (w : World) (x : Fault) → value_of w.vals w.marks e ≡ Err x
    → assign v e w ≡ Faulted x w
unfolding assigned_in
assign_no_value v e w x q = ap (λ (r : Valued). change_or_fault (assigned_value v r w) w) q

-- a value that its datum can't take faults
pub assign_no_room : (v : ℕ) (e : Expr) (w : World) (value : Value) (x : Fault) → value_of w.vals w.marks e ≡ Ok value
    → assigned w.vals v value ≡ Err x → assign v e w ≡ Faulted x w
unfolding assigned_in
assign_no_room v e w value x q r =
    ap (λ (r : Valued). change_or_fault (assigned_value v r w) w) q
    ∙ ap (λ (r : Result (List Datum) Fault). change_or_fault (with_data r w) w) r

-- a value is assigned
pub assign_kept : (v : ℕ) (e : Expr) (w : World) (value : Value) (vals : List Datum)
    → value_of w.vals w.marks e ≡ Ok value → assigned w.vals v value ≡ Ok vals
    → assign v e w ≡ Ended tt (record w { vals = vals })
unfolding assigned_in
assign_kept v e w value vals q r =
    ap (λ (r : Valued). change_or_fault (assigned_value v r w) w) q
    ∙ ap (λ (r : Result (List Datum) Fault). change_or_fault (with_data r w) w) r

-- a condition without a value faults
pub truth_fault : (e : Expr) (w : World) (x : Fault) → value_of w.vals w.marks e ≡ Err x
    → flag_or_fault (truth_of e w) w ≡ Faulted x w
unfolding truth_of
truth_fault e w x q = ap (λ (r : Valued). flag_or_fault (truth r) w) q

-- a condition is true or false as its value says
pub truth_is : (e : Expr) (w : World) (value : Value) → value_of w.vals w.marks e ≡ Ok value
    → flag_or_fault (truth_of e w) w ≡ Ended (flag_of value) w
unfolding truth_of
truth_is e w value q = ap (λ (r : Valued). flag_or_fault (truth r) w) q

-- what an assignment answers is what the rule for it gives
pub assign_does : (v : ℕ) (e : Expr) (w : World) (value : Value) (vals : List Datum) (answer : Result (Unit {0}) Fault)
    → value_of w.vals w.marks e ≡ Ok value → OnOk answer (assigned w.vals v value ≡ Ok vals)
    → IfErr answer (λ x. assigned w.vals v value ≡ Err x) → OnErr answer (vals ≡ w.vals)
    → Does {A = Unit {0}} (λ _. tt) (assign v e w) (halted answer) (record w { vals = vals })
assign_does v e w value vals (Ok a) q taken refused same = assign_kept v e w value vals q taken
assign_does v e w value vals (Err x) q taken refused same =
    assign_no_room v e w value x q refused ∙ ap (λ (l : List Datum). Faulted x (record w { vals = l })) (sym same)

-- after an assignment, also one that faulted, the world fits
pub assign_fits : (t : Tree) (n : Names) (w : World) (v : ℕ) (value : Value) (vals : List Datum)
    (answer : Result (Unit {0}) Fault)
    → Fits t n w → CanTake (datum w.vals v).sort value → OnOk answer (assigned w.vals v value ≡ Ok vals)
    → OnErr answer (vals ≡ w.vals) → Fits t n (record w { vals = vals })
assign_fits t n w v value vals (Ok done) fits can taken refused = assigned_fits t n w v value vals fits can taken
assign_fits t n w v value vals (Err fault) fits can taken refused =
    subst (λ (x : List Datum). Fits t n (record w { vals = x })) (sym refused) fits

-- the declaration of a datum
abbrev fixed_of : Datum → Declaration
fixed_of d = record { sort = d.sort; mode = d.mode }

-- the declaration of a datum, as a chart declares it
abbrev fixed_by : Var → Declaration
fixed_by v = record { sort = v.sort; mode = v.mode }

-- a declared datum is there, and has the sort that its declaration says
sort_there : (vals : List Datum) (vars : List Var) (v : ℕ) (decl : Var) → of_data vals ≡ map fixed_by vars
    → slice_get vars v ≡ Some decl → ((datum vals v).sort ≡ decl.sort) × (v < length vals)
unfolding datum
sort_there vals [] v decl e f = absurd cc
sort_there [] (x ∷ vars) v decl e f = absurd cc
sort_there (d ∷ vals) (x ∷ vars) zero decl e f =
    let h : fixed_of d ≡ fixed_by x = cc in
    let g : x ≡ decl = cc in
    (ap (λ (y : Declaration). y.sort) h ∙ ap (λ (y : Var). y.sort) g, omega arith)
sort_there (d ∷ vals) (x ∷ vars) (suc v) decl e f =
    let t : of_data vals ≡ map fixed_by vars = cc in
    let h = sort_there vals vars v decl t f in
    (h.0, let k = h.1 in omega arith)

-- the sort of a datum that is declared
pub declared_sort : (t : Tree) (n : Names) (w : World) (v : ℕ) (decl : Var) → Fits t n w
    → slice_get n.vars v ≡ Some decl → ((datum w.vals v).sort ≡ decl.sort) × (v < length w.vals)
declared_sort t n w v decl fits e = sort_there w.vals n.vars v decl fits.declared e

-- the same of a world and an answer that are equal to these
pub assign_did : (v : ℕ) (e : Expr) (w w' : World) (value : Value) (vals : List Datum)
    (answer : Result (Unit {0}) Fault) (r : Result (Unit {0}) Halt)
    → w ≡ w' → r ≡ halted answer → Ok value ≡ value_of w.vals w.marks e
    → OnOk answer (assigned w.vals v value ≡ Ok vals) → IfErr answer (λ x. assigned w.vals v value ≡ Err x)
    → OnErr answer (vals ≡ w.vals) → Does {A = Unit {0}} (λ _. tt) (assign v e w') r (record w { vals = vals })
assign_did v e w w' value vals answer r same is q taken refused kept =
    subst (λ (x : World). Does {A = Unit {0}} (λ _. tt) (assign v e x) r (record w { vals = vals })) same
    (subst (λ r. Does {A = Unit {0}} (λ _. tt) (assign v e w) r (record w { vals = vals })) (sym is)
    (assign_does v e w value vals answer (sym q) taken refused kept))

-- ---- history

-- a state without history remembers no child
pub remembers_none : (c : Chart) (s : ℕ) (w : World) → has_history c s ≡ false → None ≡ remembered c s w
unfolding may_return
remembers_none c s w e = ap (λ b. find (λ x. is_last c.tree x w.marks) (if b then children_of c.tree s else [])) (sym e)

-- a state whose parent has history has an OR as its parent
pub remembering_or : (c : Chart) (s : ℕ) → is_remembered c s ≡ true
    → IsSomeAnd (parent_of c.tree s) (λ p. comp_of c.tree p ≡ Or)
remembering_or c s h =
    let i = remembering_parent c s h in
    subst (λ o. IsSomeAnd o (λ p. comp_of c.tree p ≡ Or)) (sym i.1) (history_or c i.0 i.2)

-- a state that is entered, and whether its parent remembers it
pub entered_kept : (c : Chart) (s : ℕ) (w : World) → is_remembered c s ≡ true
    → entered_in c s w ≡ keep_in c.tree s (set_mark s true w)
entered_kept c s w e = entered_done c s w true e

-- a state that is entered, and its parent remembers nothing
pub entered_plain : (c : Chart) (s : ℕ) (w : World) → is_remembered c s ≡ false → entered_in c s w ≡ set_mark s true w
entered_plain c s w e = entered_done c s w false e

-- a child that is remembered is below, and a state
pub last_is_below : (t : Tree) → IsTree t → (s : ℕ) (m : Configuration) → IsConsistent t m → (o : Option ℕ)
    → o ≡ last_of s m → IfSome o (λ x. (s < x) × (x < state_count t))
last_is_below t tree s m k None e = tt
last_is_below t tree s m k (Some x) e =
    let child = child_is t tree s x (k.lasts s x (sym e)).1 in (child.above, child.within)
