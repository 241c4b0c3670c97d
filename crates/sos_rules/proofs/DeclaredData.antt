-- The data of a run stay those that are declared, so inputs can be set in each of its worlds.
use Rattle.std.proofs.Common.{◌≡◌, ℕ, zero, suc, ◌+◌, List, [], ◌∷◌, map, Option, Some, None, Result, Ok, Err}
use Rattle.std.proofs.Common.{Bool, true, false, slice_get, refl, sym, ap, ◌∙◌, subst}
use Rattle.std.specs.Prelude.{nat_le, if◌then◌else◌}
use Rattle.flow_base.specs.declared.bounds.Bounds.{Bounds}
use Rattle.flow_base.specs.declared.fault.Fault.{Fault}
use Rattle.flow_base.specs.declared.fault.Fault.TheVariants.{Steps}
use Rattle.active_config.specs.Tree.{Tree}
use Rattle.actions.specs.declared.event.Event.{Event}
use Rattle.actions.specs.declared.event.Event.TheVariants.{Start}
use Rattle.actions.specs.declared.expr.Value.{Value}
use Rattle.actions.specs.declared.names.Sort.{Sort}
use Rattle.actions.specs.declared.names.Var.{Var}
use Rattle.actions.specs.Changes.{paid_in, with_data, assigned_value, assigned_in, set_mark, keep_in}
use Rattle.actions.specs.Data.{Datum, datum, assigned, with_mantissa, IsValueOf}
use Rattle.actions.specs.Engines.{IsInputValue, IsInputSet}
use Rattle.actions.specs.Exprs.{Expr}
use Rattle.actions.specs.Names.{Names}
use Rattle.actions.specs.Runs.{Moment, AreInputValues, AreSet}
use Rattle.actions.specs.Values.{Valued, value_of}
use Rattle.actions.specs.World.{World, Declaration, world_before, begun, of_data, of_names}
use Rattle.actions.proofs.AssignmentLemmas.{of_data-assigned}
use Rattle.actions.proofs.StoredLemmas.{stored, mantissa_there}
use Rattle.actions.proofs.WorldLemmas.{world_before_fits}
use Rattle.checked_chart.specs.Chart.{Chart, is_remembered}
use Rattle.checked_chart.specs.Valid.{IsValid}
use Rattle.sos_rules.specs.Moves.{keep_if, entered_in}
use Rattle.sos_rules.specs.Reactions.{Gives, from_outside, start_upto, react_upto}
use Rattle.sos_rules.proofs.Keeps.{Closed, upto_keep}
use Rattle.sos_rules.proofs.Reactions.{reached}

-- the data are those that are declared
abbrev pub HasDeclared : Names → World → Type 0
HasDeclared n w = of_data w.vals ≡ of_names n

-- ---- what changes of the world leave

-- where it is a world, as much is declared of its data as of those of w
abbrev KeepsDeclared : World → Result World Fault → Type 0
KeepsDeclared w (Ok v) = of_data v.vals ≡ of_data w.vals
KeepsDeclared w (Err x) = Unit {0}

-- paying keeps the data, whether a step is left or not
paid_if : (w : World) (b : Bool) → KeepsDeclared w (if b then Err Steps else Ok (record w { used = w.used + 1 }))
paid_if w true = tt
paid_if w false = refl

paid_declared : (b : Bounds) (w : World) → KeepsDeclared w (paid_in b w)
unfolding paid_in
paid_declared b w = paid_if w (nat_le b.steps w.used)

-- an assignment keeps what is declared
data_declared : (w : World) (v : ℕ) (value : Value) (r : Result (List Datum) Fault) → assigned w.vals v value ≡ r
    → KeepsDeclared w (with_data r w)
data_declared w v value (Ok vals) e = of_data-assigned w.vals vals v value e
data_declared w v value (Err x) e = tt

value_declared : (v : ℕ) (r : Valued) (w : World) → KeepsDeclared w (assigned_value v r w)
value_declared v (Ok value) w = data_declared w v value (assigned w.vals v value) refl
value_declared v (Err x) w = tt

assigned_declared : (v : ℕ) (e : Expr) (w : World) → KeepsDeclared w (assigned_in v e w)
unfolding assigned_in
assigned_declared v e w = value_declared v (value_of w.vals w.marks e) w

-- so what is declared holds of the world that came of it
still : (n : Names) (w : World) {v : World} {r : Result World Fault} → KeepsDeclared w r → r ≡ Ok v → HasDeclared n w
    → HasDeclared n v
still n w {v = v} {r = Ok u} k e h =
    let f : u ≡ v = cc in sym (ap (λ (x : World). of_data x.vals) f) ∙ k ∙ h
still n w {v = v} {r = Err x} k e h = absurd cc

-- a state that is entered leaves the data
keep_if_vals : (remember : Bool) (t : Tree) (s : ℕ) (w : World) → (keep_if remember t s w).vals ≡ w.vals
unfolding keep_in
keep_if_vals true t s w = refl
keep_if_vals false t s w = refl

entered_vals : (c : Chart) (s : ℕ) (w : World) → (entered_in c s w).vals ≡ w.vals
unfolding entered_in
entered_vals c s w = keep_if_vals (is_remembered c s) c.tree s (set_mark s true w)

-- each change of the rules keeps the data that are declared
declared_closed : (c : Chart) (b : Bounds) → Closed c b (HasDeclared c.names)
declared_closed c b = record {
  pays = λ w v e h. still c.names w (paid_declared b w) e h;
  assigns = λ x e w v q h. still c.names w (assigned_declared x e w) q h;
  emits = λ e w h. h;
  marks = λ s w can h. ap of_data (entered_vals c s w) ∙ h;
  clears = λ s w pos bare h. h;
}

-- ---- starts and reactions

module _ (c : Chart) (valid : IsValid c) (b : Bounds) where
  -- after the start the data are those that are declared
  pub start_declared : (r : Moment) → Gives (start_upto c b) r → HasDeclared c.names r.world
  start_declared r x =
      let k = upto_keep c valid.tree b (HasDeclared c.names) (declared_closed c b) x.height in
      let before = (world_before_fits c.tree c.names valid.state_names valid.inits).declared in
      reached (HasDeclared c.names) (k.enter 0 0 (from_outside Start) (world_before c.tree c.names) before) r x.gives

  -- and a reaction keeps this
  pub reaction_declared : (w : World) (e : Event) (r : Moment) → HasDeclared c.names w → Gives (react_upto c b w e) r
      → HasDeclared c.names r.world
  reaction_declared w e r h x =
      let k = upto_keep c valid.tree b (HasDeclared c.names) (declared_closed c b) x.height in
      reached (HasDeclared c.names) (k.process 0 (from_outside e) (begun w) h) r x.gives

-- ---- inputs

-- what is fixed of a datum, and by a declaration
abbrev fixed_of : Datum → Declaration
fixed_of d = record { sort = d.sort; mode = d.mode }

abbrev declared_of : Var → Declaration
declared_of x = record { sort = x.sort; mode = x.mode }

-- a datum has the declared sort
sort_declared : (vals : List Datum) (vars : List Var) (v : ℕ) (decl : Var) → of_data vals ≡ map declared_of vars
    → slice_get vars v ≡ Some decl → (datum vals v).sort ≡ decl.sort
unfolding datum
sort_declared vals [] v decl same e = absurd cc
sort_declared [] (x ∷ vars) v decl same e = absurd cc
sort_declared (d ∷ vals) (x ∷ vars) zero decl same e =
    let first : fixed_of d ≡ declared_of x = cc in
    let found : x ≡ decl = cc in
    ap (λ (y : Declaration). y.sort) first ∙ ap (λ (y : Var). y.sort) found
sort_declared (d ∷ vals) (x ∷ vars) (suc v) decl same e =
    let rest : of_data vals ≡ map declared_of vars = cc in sort_declared vals vars v decl rest e

-- a world in which inputs are set, with the data that are declared
pub record CanSet (n : Names) (v : ℕ) (inputs : List (Option Value)) (w : World) : Type 0 where
  pub set : World
  pub are_set : AreSet v inputs w set
  pub declared : HasDeclared n set

-- an input can be set to each value of its sort
set_input : (n : Names) (v : ℕ) (value : Value) (w : World) → HasDeclared n w → IsInputValue n v value
    → (set : World) × IsInputSet w v value set × HasDeclared n set
set_input n v value w h is =
    let sort = sort_declared w.vals n.vars v is.0 h is.1 in
    let m = mantissa_there (datum w.vals v).sort value (subst (λ (s : Sort). IsValueOf s value) (sym sort) is.3) in
    let vals = with_mantissa w.vals v m.0 in
    let done : assigned w.vals v value ≡ Ok vals = stored w.vals v value m.0 m.1 in
    (record w { vals = vals }, (vals, done, refl), of_data-assigned w.vals vals v value done ∙ h)

-- and so can several
pub set_inputs : (n : Names) (v : ℕ) (inputs : List (Option Value)) (w : World) → HasDeclared n w
    → AreInputValues n v inputs → CanSet n v inputs w
set_inputs n v [] w h are = record { set = w; are_set = refl; declared = h }
set_inputs n v (None ∷ inputs) w h are =
    let rest = set_inputs n (v + 1) inputs w h are in
    record { set = rest.set; are_set = rest.are_set; declared = rest.declared }
set_inputs n v (Some value ∷ inputs) w h are =
    let one = set_input n v value w h are.0 in
    let rest = set_inputs n (v + 1) inputs one.0 one.2 are.1 in
    record { set = rest.set; are_set = (one.0, one.1, rest.are_set); declared = rest.declared }
