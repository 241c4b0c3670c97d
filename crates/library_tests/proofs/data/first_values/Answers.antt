use Rattle.std.proofs.Common.{◌≡◌, ◌∙◌, ap, length}
use Rattle.std.proofs.lemmas.Result.{IfOk-weaker}
use Rattle.actions.specs.Data.{initial}
use Rattle.actions.specs.Names.{names_of}
use Rattle.library_tests.proofs.DataLemmas.{length-initial}
use Rattle.library_tests.proofs.data.first_values.Goals as goal

pub returns : goal.returns
returns c =
    let names = names_of c.in_ok-declare.field-0 in
    IfOk-weaker c.make.result (λ vals. vals ≡ initial names) (λ vals. length vals ≡ length c.args.rows.now)
    (λ vals e. ap length e ∙ length-initial names ∙ c.in_ok-declare.ensures.count) c.make.ensures
