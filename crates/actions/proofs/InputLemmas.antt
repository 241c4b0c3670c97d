-- Inputs that are set in a world that fits what is declared.
use Rattle.std.proofs.Common.{◌≡◌, ℕ, zero, suc, ◌<◌, List, [], ◌∷◌, length}
use Rattle.std.proofs.Common.{get_or, Some, slice_get, sym, ap, ◌∙◌, subst, arith}
use Rattle.std.proofs.lemmas.List.{get_or-map, length-map}
use Rattle.active_config.specs.Tree.{Tree}
use Rattle.actions.specs.declared.expr.Value.{Value}
use Rattle.actions.specs.declared.names.Sort.{Sort}
use Rattle.actions.specs.declared.names.Var.{Var}
use Rattle.actions.specs.Data.{HaveTheirSorts, datum, no_datum, with_mantissa, IsValueOf}
use Rattle.actions.specs.Engines.{IsInputValue, IsInputSet}
use Rattle.actions.specs.Names.{Names}
use Rattle.actions.specs.World.{World, Declaration, begun, Fits}
use Rattle.actions.proofs.AssignmentLemmas.{of_data-assigned}
use Rattle.actions.proofs.DataLemmas.{with_mantissa_sorts}
use Rattle.actions.proofs.StoredLemmas.{stored, stored_in_range, mantissa_there}

-- what stands in a list at a number
found_at : {A : Type 0} (xs : List A) (i : ℕ) (x d : A) → slice_get xs i ≡ Some x
    → (i < length xs) × (get_or xs i d ≡ x)
found_at [] i x d e = absurd cc
found_at (y ∷ ys) zero x d e = (omega arith, cc)
found_at (y ∷ ys) (suc i) x d e = let rest = found_at ys i x d e in (omega (arith, rest.0), rest.1)

-- what a declaration fixes
declared_of : Var → Declaration
declared_of v = record { sort = v.sort; mode = v.mode }

-- a declared datum is there in a world that fits, and has the declared sort
pub record IsThere (w : World) (v : ℕ) (sort : Sort) : Type 0 where
  pub within : v < length w.vals
  pub sort_is : (datum w.vals v).sort ≡ sort

pub declared_there : (t : Tree) (n : Names) (w : World) (v : ℕ) (decl : Var) → Fits t n w
    → slice_get n.vars v ≡ Some decl → IsThere w v decl.sort
unfolding datum declared_of
declared_there t n w v decl fits e =
    let none : Declaration = record { sort = no_datum.sort; mode = no_datum.mode } in
    let at = found_at n.vars v decl decl e in
    let count : length w.vals ≡ length n.vars =
    sym (length-map w.vals _) ∙ ap length fits.declared ∙ length-map n.vars _ in
    let within : v < length w.vals = omega (arith, at.0, count) in
    record {
      within = within;
      sort_is = ap (λ (d : Declaration). d.sort) (sym (get_or-map _ w.vals v no_datum none within)
          ∙ ap (λ (l : List Declaration). get_or l v none) fits.declared
          ∙ get_or-map declared_of n.vars v decl none at.0)
          ∙ ap (λ (x : Var). x.sort) at.1;
    }

-- the value of an input is one of its datum
pub input_value : (t : Tree) (n : Names) (w : World) (v : ℕ) (value : Value) → Fits t n w → IsInputValue n v value
    → (v < length w.vals) × IsValueOf (datum w.vals v).sort value
input_value t n w v value fits is =
    let there = declared_there t n w v is.0 fits is.1 in
    (there.within, subst (λ (s : Sort). IsValueOf s value) (sym there.sort_is) is.3)

-- a world fits after an input was set
pub IsInputSet-fits : (t : Tree) (n : Names) (w w' : World) (v : ℕ) (value : Value) → Fits t n w
    → IsInputValue n v value → IsInputSet w v value w' → Fits t n w'
IsInputSet-fits t n w w' v value fits is set =
    let m = mantissa_there (datum w.vals v).sort value (input_value t n w v value fits is).1 in
    let same : with_mantissa w.vals v m.0 ≡ set.0 = let e = sym (stored w.vals v value m.0 m.1) ∙ set.1 in cc in
    let sorts : HaveTheirSorts set.0 = subst HaveTheirSorts same
    (with_mantissa_sorts w.vals v m.0 fits.sorts (stored_in_range (datum w.vals v).sort value m.0 m.1)) in
    subst (Fits t n) (sym set.2) (record {
      states = fits.states;
      consistent = fits.consistent;
      declared = of_data-assigned w.vals set.0 v value set.1 ∙ fits.declared;
      sorts = sorts;
      outputs = fits.outputs;
    })

-- and after a reaction began
pub begun_fits : (t : Tree) (n : Names) (w : World) → Fits t n w → Fits t n (begun w)
begun_fits t n w fits = record {
  states = fits.states;
  consistent = fits.consistent;
  declared = fits.declared;
  sorts = fits.sorts;
  outputs = tt;
}
