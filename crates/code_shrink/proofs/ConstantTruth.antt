-- The truth of constant tests, as it is found.
use Rattle.std.proofs.Common.{◌≡◌, true, false, List, [], None, sym, ap, ◌∙◌}
use Rattle.std.specs.Prelude.{if◌then◌else◌}
use Rattle.active_config.specs.Marks.{Configuration}
use Rattle.actions.specs.Data.{Datum}
use Rattle.actions.specs.Exprs.{Expr}
use Rattle.actions.specs.Values.{Valued, value_of}
use Rattle.code_shrink.specs.Neat.{is_closed, nowhere, truth_in, constant_truth}
use Rattle.code_shrink.proofs.InstrKinds.{same_value}

-- what reads a datum or a state is no constant
pub not_constant : (e : Expr) → is_closed e ≡ false → constant_truth e ≡ None
unfolding constant_truth
not_constant e h = ap (λ c. if c then truth_in (value_of [] nowhere e) else None) h

-- any data and marks give the value of a constant
pub constant_found : (e : Expr) (vals : List Datum) (marks : Configuration) (r : Valued) → is_closed e ≡ true
    → r ≡ value_of vals marks e → constant_truth e ≡ truth_in r
unfolding constant_truth
constant_found e vals marks r h v =
    ap (λ c. if c then truth_in (value_of [] nowhere e) else None) h
    ∙ ap truth_in (same_value [] vals nowhere marks e h) ∙ ap truth_in (sym v)
