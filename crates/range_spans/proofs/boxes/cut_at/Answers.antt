use Rattle.std.proofs.Common.{◌≡◌, ◌-◌, ◌^◌, ◌≤◌, ◌*ℤ◌, ℕ, ℤ, pos, nat_le, Bool, true, FitsSigned, IfOk, ap}
use Rattle.std.proofs.Common.{sym, ◌∙◌, cond, subst, rules, arith}
use Rattle.std.proofs.lemmas.Int.{to_z-of_z}
use Rattle.std.specs.Int.{w128}
use Rattle.fixed_point.specs.declared.num.Num.{Num}
use Rattle.fixed_point.specs.declared.scale.Scale.{Scale}
use Rattle.actions.specs.declared.expr.Op.{Op}
use Rattle.actions.specs.declared.names.Sort.{Sort}
use Rattle.actions.specs.declared.names.Sort.TheVariants as sorts
use Rattle.range_spans.specs.Spans.{Span}
use Rattle.range_spans.specs.Narrow.{cut, cut_at}
use Rattle.range_spans.proofs.boxes.cut_at.Goals as goal

cut_number : (sort : Sort) (scale : Scale) (op : Op) (truth : Bool) (n : Num) (s : Span) (by : ℤ)
    → sort ≡ sorts.Number scale
    → n.frac ≤ scale.frac → by ≡ n.mantissa *ℤ pos (2 ^ (scale.frac - n.frac))
    → cut op truth by s ≡ cut_at sort op truth n s
cut_number sort scale op truth n s by i l q =
    let e : nat_le n.frac scale.frac ≡ true = grind arith in
    subst (λ (r : Sort). cut op truth by s ≡ cut_at r op truth n s) (sym i)
    (subst (λ (b : Bool). cut op truth by s ≡ cond b (cut op truth (n.mantissa *ℤ pos (2 ^ (scale.frac - n.frac))) s)
    s) (sym e)
    (ap (λ (z : ℤ). cut op truth z s) q))

pub returns-in_ok-by-in-Number : goal.returns-in_ok-by-in-Number
returns-in_ok-by-in-Number c =
    let fits : FitsSigned w128 c.in_ok-by-in-Number.by = search rules in
    let small : FitsSigned w128 c.args.number.mantissa = search rules in
    let by : c.in_ok-by-in-Number.by ≡ c.args.number.mantissa *ℤ pos (2 ^
    (c.in-Number.scale.frac - c.args.number.frac)) =
    c.in_ok-by-in-Number.ensures ∙ ap (λ (z : ℤ). z *ℤ pos (2 ^ (c.from-in-Number.result - c.args.number.frac)))
    (to_z-of_z w128 _ small)
    ∙ ap (λ (f : ℕ). c.args.number.mantissa *ℤ pos (2 ^ (f - c.args.number.frac))) c.from-in-Number.ensures in
    subst (λ (t : Span). IfOk c.cut.result (λ s. s ≡ t))
    (cut_number c.args.sort c.in-Number.scale c.args.op c.args.truth c.args.number c.args.span _ c.in-Number.is
    (omega arith)
    (to_z-of_z w128 _ fits ∙ by)) c.cut.ensures
