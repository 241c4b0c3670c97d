-- Numbers of the same parts are one.
use Rattle.std.proofs.Common.{◌≡◌, ℕ, Option, ap, ◌∙◌}
use Rattle.chart_tree.specs.declared.name.LitText.{LitText}

-- numbers of the same digits, places and bits are one
pub same_literal : (a b : LitText) → a.units ≡ b.units → a.places ≡ b.places → a.q ≡ b.q → a ≡ b
same_literal a b units places q =
    ap (λ (x : ℕ). record { units = x; places = a.places; q = a.q }) units
    ∙ ap (λ (x : ℕ). record { units = b.units; places = x; q = a.q }) places
    ∙ ap (λ (x : Option ℕ). record { units = b.units; places = b.places; q = x }) q
