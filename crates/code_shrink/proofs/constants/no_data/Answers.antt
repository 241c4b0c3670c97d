use Rattle.std.proofs.Common.{◌≡◌, IfOk, map, ◌∙◌, subst}
use Rattle.actions.specs.Data.{initial, declared_datum}
use Rattle.code_shrink.proofs.constants.no_data.Goals as goal

pub returns : goal.returns
unfolding initial
returns c =
    subst (λ vars. IfOk c.make.result (λ vals. vals ≡ map declared_datum vars)) (c.of-2.ensures ∙ c.new-2.ensures.items)
    c.make.ensures
