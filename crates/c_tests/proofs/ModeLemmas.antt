-- What is declared of a datum, as it is read from the data.
use Rattle.std.proofs.Common.{◌≡◌, ◌<◌, ℕ, zero, suc, List, [], ◌∷◌, length, map, get_or, sym, ap, ◌∙◌, arith}
use Rattle.std.specs.Prelude.{slice_index_or}
use Rattle.fixed_point.specs.declared.fitting.Mode.TheVariants.{Saturate}
use Rattle.actions.specs.declared.names.Sort.TheVariants.{Flag}
use Rattle.actions.specs.declared.names.Var.{Var}
use Rattle.actions.specs.Names.{Names}
use Rattle.actions.specs.World.{Declaration}
use Rattle.c_functions.specs.Plans.{declared_at}

-- what is declared of a datum
abbrev shown : Var → Declaration
shown v = record { sort = v.sort; mode = v.mode }

-- what stands for what is declared where there is no such datum
abbrev none : Declaration
none = record { sort = Flag; mode = Saturate }

-- the mode of a datum of a list
mode_in : (vs : List Var) (v : ℕ) (x : Var) → v < length vs → x ≡ get_or vs v x
    → (slice_index_or (map shown vs) v none).mode ≡ x.mode
mode_in [] v x h e = absurd (omega arith)
mode_in (y ∷ vs) zero x h e = ap (λ (z : Var). z.mode) (sym e)
mode_in (y ∷ vs) (suc v) x h e = mode_in vs v x (omega arith) e

-- the mode of a datum that is there
pub mode_there : (n : Names) (vs : List Var) (v : ℕ) (x : Var) → vs ≡ n.vars → v < length vs → x ≡ get_or vs v x
    → (declared_at n v).mode ≡ x.mode
mode_there n vs v x same h e =
    ap (λ l. (slice_index_or (map shown l) v none).mode) (sym same) ∙ mode_in vs v x h e
