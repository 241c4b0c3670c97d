-- What is written for a fault.
use Rattle.std.proofs.Common.{◌≡◌, ◌++◌, ℕ, List, [], ◌∷◌, Some, ap, ◌∙◌}
use Rattle.flow_base.specs.declared.fault.Fault.{Fault}
use Rattle.c_subset.specs.Trees.{CExpr}
use Rattle.c_subset.specs.Trees as c
use Rattle.c_subset.specs.declared.trees.CExpr as declared_expr
use Rattle.c_subset.specs.declared.trees.Line as declared_line
use Rattle.c_subset.specs.declared.trees.Line.TheVariants as lines
use Rattle.c_subset.specs.Lines.{Return, Appends, expr_of, line_of, lines_in, lines_of}
use Rattle.c_functions.specs.Plans.{Shape, number, bad, fault_number, fault_datum, tell_fault, faulted}

-- it is told, and then BAD is returned
pub fault_written : (K : Shape) (old told new : List declared_line.Line) (x : Fault) (f d : ℕ)
    (value : declared_expr.CExpr) → f ≡ fault_number (Some x) → d ≡ fault_datum (Some x) → expr_of value ≡ number bad
    → Appends old told (tell_fault K f d) → lines_in new ≡ lines_in told ++ line_of (lines.Return value) ∷ []
    → lines_in new ≡ lines_in old ++ lines_of (faulted K x)
unfolding lines_of
fault_written K old told new x f d value ef ed ev appends put =
    let after = c.Return (number bad) in
    put ∙ ap (λ (e : CExpr). lines_in told ++ Return e ∷ []) ev ∙ appends after
    ∙ ap (λ (f : ℕ). lines_in old ++ lines_of (tell_fault K f d after)) ef
    ∙ ap (λ (d : ℕ). lines_in old ++ lines_of (tell_fault K (fault_number (Some x)) d after)) ed
