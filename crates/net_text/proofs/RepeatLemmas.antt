-- The first name that stands earlier already.
use Rattle.std.proofs.Common.{◌≡◌, ℕ, suc, ◌+◌, ◌<◌, Bool, List, [], ◌∷◌, ◌++◌, length, take, drop, get_or, Some}
use Rattle.std.proofs.Common.{refl, sym, ap, ◌∙◌, drop-cons, take-suc, length-take-le, arith}
use Rattle.std.specs.Prelude.{if◌then◌else◌}
use Rattle.std.specs.List.{list_any}
use Rattle.std.specs.Str.{bytes_eq}
use Rattle.std.proofs.lemmas.List.{length-map, map-append}
use Rattle.net_text.specs.declared.net.NetChart.{NetChart}
use Rattle.net_text.specs.NetTexts.{names_of, first_repeat}

-- one of the charts has that name
abbrev pub is_named : List ℕ → List NetChart → Bool
is_named name charts = list_any (λ (chart : NetChart). bytes_eq name chart.name) charts

-- one of the names is that name
named_by_names : (name : List ℕ) (charts : List NetChart)
    → list_any (bytes_eq name) (names_of charts) ≡ is_named name charts
named_by_names name [] = refl
named_by_names name (chart ∷ charts) = rw (named_by_names name charts) refl

-- with a name more
repeat_step : (front : List (List ℕ)) (name : List ℕ) (rest more : List (List ℕ)) (number : ℕ) (any : Bool)
    → length front ≡ number → list_any (bytes_eq name) front ≡ any → front ++ name ∷ [] ≡ more
    → first_repeat front (name ∷ rest) ≡ (if any then Some number else first_repeat more rest)
repeat_step front name rest more number any l a m = rw (← l, ← a, ← m) refl

-- from a chart on
pub repeat_from : (charts : List NetChart) (number : ℕ) (chart : NetChart) (any : Bool) → number < length charts
    → chart ≡ get_or charts number chart
    → any ≡ is_named chart.name (take number charts)
    → first_repeat (names_of (take number charts)) (names_of (drop number charts))
    ≡ (if any then Some number
    else first_repeat (names_of (take (number + 1) charts)) (names_of (drop (number + 1) charts)))
repeat_from charts number chart any within is named =
    let next : suc number ≡ number + 1 = omega arith in
    let last : drop number charts ≡ chart ∷ drop (suc number) charts =
    drop-cons charts number chart within ∙ ap (λ c. c ∷ drop (suc number) charts) (sym is) in
    let cut : drop number charts ≡ chart ∷ drop (number + 1) charts = last ∙ ap (λ k. chart ∷ drop k charts) next in
    let first : take (suc number) charts ≡ take number charts ++ chart ∷ [] =
    take-suc charts number chart within ∙ ap (λ c. take number charts ++ c ∷ []) (sym is) in
    let taken : take (number + 1) charts ≡ take number charts ++ chart ∷ [] =
    ap (λ k. take k charts) (sym next) ∙ first in
    let many : length (names_of (take number charts)) ≡ number =
    length-map (take number charts) (λ (c : NetChart). c.name) ∙ length-take-le number charts (omega arith) in
    let more : names_of (take number charts) ++ chart.name ∷ [] ≡ names_of (take (number + 1) charts) =
    sym (ap names_of taken ∙ map-append (λ (c : NetChart). c.name) (take number charts) (chart ∷ [])) in
    let front = names_of (take number charts) in
    let rest = names_of (drop (number + 1) charts) in
    let known = named_by_names chart.name (take number charts) ∙ sym named in
    ap (λ cs. first_repeat front (names_of cs)) cut
    ∙ repeat_step front chart.name rest (names_of (take (number + 1) charts)) number any many known more
