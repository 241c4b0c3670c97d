use Rattle.std.proofs.Common.{◌≡◌, Some, None, sym, subst, ◌∙◌, ap, rules}
use Rattle.actions.specs.Data.{IsValueOf, value_at}
use Rattle.actions.specs.declared.names.Sort.TheVariants as sorts
use Rattle.event_file.proofs.ValueLemmas.{number_value-is, number_value-sort}
use Rattle.event_file.proofs.values.number_value.Goals as goal

-- the value of the mantissa
pub returns-in-Some-clause-value : goal.returns-in-Some-clause-value
returns-in-Some-clause-value c =
    let value : c.number_at.result ≡ value_at (sorts.Number c.args.scale) c.in-Some.mantissa = search rules in
    ap Some value ∙ number_value-is c.args.scale c.args.text.now (Some c.in-Some.mantissa) c.in-Some.ensures

pub returns-in-Some-clause-sort : goal.returns-in-Some-clause-sort
returns-in-Some-clause-sort c =
    let value : c.number_at.result ≡ value_at (sorts.Number c.args.scale) c.in-Some.mantissa = search rules in
    subst (IsValueOf (sorts.Number c.args.scale)) (sym value) (number_value-sort c.args.scale c.args.text.now c.in-Some.mantissa c.in-Some.ensures)

-- no mantissa
pub returns-in-None-clause-value : goal.returns-in-None-clause-value
returns-in-None-clause-value c = number_value-is c.args.scale c.args.text.now None c.in-None.ensures
