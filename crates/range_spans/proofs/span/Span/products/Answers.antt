use Rattle.std.proofs.Common.{◌≡◌, ℤ, FitsSigned, ap, ◌∙◌, rules}
use Rattle.std.proofs.lemmas.Int.{to_z-of_z}
use Rattle.std.specs.Int.{w128}
use Rattle.range_spans.specs.Spans.{Span, joined, times}
use Rattle.range_spans.proofs.span.Span.products.Goals as goal

-- the span that joins equal ones
same_joined : (s t u v : Span) → s ≡ u → t ≡ v → joined s t ≡ joined u v
same_joined s t u v e f = ap (λ x. joined x t) e ∙ ap (λ x. joined u x) f

pub returns : goal.returns
returns c =
    let low : FitsSigned w128 c.args.other.low = search rules in
    let high : FitsSigned w128 c.args.other.high = search rules in
    c.joined.ensures ∙ same_joined _ _ _ _
    (c.in_ok-low.ensures ∙ ap (λ (z : ℤ). times c.args.self z) (to_z-of_z w128 c.args.other.low low))
    (c.in_ok-high.ensures ∙ ap (λ (z : ℤ). times c.args.self z) (to_z-of_z w128 c.args.other.high high))
