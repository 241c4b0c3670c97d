use Rattle.std.proofs.Common.{◌≡◌, ap, ◌∙◌, is_some}
use Rattle.std.proofs.lemmas.Int.{to_z-of_z}
use Rattle.fixed_point.specs.Scales.{is_in_range, exact_mantissa}
use Rattle.code_language.proofs.TableLemmas.{exact_in_range}
use Rattle.code_language.proofs.tables.is_value.Goals as goal

pub returns-in-Number : goal.returns-in-Number
returns-in-Number c =
    let scale = c.in-Number.scale in
    let same = to_z-of_z _ c.args.mantissa c.ranges.mantissa in
    let found = rw c.from-frac.ensures at c.exact.ensures in
    let at : is_some c.exact.result ≡ is_in_range scale c.args.mantissa =
    ap is_some found ∙ ap (λ m. is_some (exact_mantissa (record { mantissa = m; frac = scale.frac }) scale)) same
    ∙ exact_in_range scale c.args.mantissa in
    rw c.in-Number.is (c.is_some.ensures ∙ at)
