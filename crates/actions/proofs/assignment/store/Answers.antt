use Rattle.std.proofs.Common.{◌∙◌, ap, sym, Ok, IsTrue, ℤ, FitsSigned, subst, rules}
use Rattle.std.proofs.lemmas.Int.{to_z-of_z}
use Rattle.std.specs.Int.{w128}
use Rattle.actions.specs.Data.{datum, is_mantissa_of, with_mantissa}
use Rattle.actions.proofs.StoredLemmas.{stored, stored_in_range, mantissa_there, mantissa_found}
use Rattle.actions.proofs.assignment.store.Goals as goal

pub keep-requires-clause-sort : goal.keep-requires-clause-sort
keep-requires-clause-sort c =
    let fits : FitsSigned w128 c.in-Some.mantissa = search rules in
    let sort = (datum c.args.vals.now c.args.v).sort in
    let found = mantissa_found _ _ c.args.value _ _ c.slot.ensures.datum c.mantissa_in.ensures c.in-Some.is in
    subst (λ (m : ℤ). IsTrue (is_mantissa_of sort m)) (sym (to_z-of_z w128 c.in-Some.mantissa fits))
    (stored_in_range sort c.args.value c.in-Some.mantissa found)

pub unreachable-requires : goal.unreachable-requires
unreachable-requires c =
    let none = mantissa_found _ _ c.args.value _ _ c.slot.ensures.datum c.mantissa_in.ensures c.in-None.is in
    let there = mantissa_there (datum c.args.vals.now c.args.v).sort c.args.value c.requires.value in
    let both = sym none ∙ there.1 in cc

pub returns : goal.returns
returns c =
    let fits : FitsSigned w128 c.in-Some.mantissa = search rules in
    let passed = ap (λ (m : ℤ). with_mantissa c.args.vals.now c.args.v m) (to_z-of_z w128 c.in-Some.mantissa fits) in
    let found = mantissa_found _ _ c.args.value _ _ c.slot.ensures.datum c.mantissa_in.ensures c.in-Some.is in
    stored c.args.vals.now c.args.v c.args.value c.in-Some.mantissa found ∙ ap Ok (sym (c.keep.ensures ∙ passed))
