use Rattle.std.proofs.Common.{◌≡◌, ℕ, Option}
use Rattle.std.proofs.lemmas.Result.{IfOk-weaker}
use Rattle.actions.specs.declared.event.Event.{Event}
use Rattle.checked_chart.specs.Kept.{chart_of}
use Rattle.bound_prove.specs.declared.cert.Cert.{Cert}
use Rattle.bound_prove.specs.declared.need.Need.{Need}
use Rattle.bound_prove.specs.declared.need.Part.{Part}
use Rattle.bound_prove.specs.Cells.{IsGood}
use Rattle.bound_prove.specs.Certs.{cells_of}
use Rattle.bound_prove.specs.Roots.{root_need}
use Rattle.bound_prove.specs.Searches.{IsNeedOf, the_ends, Answers}
use Rattle.bound_prove.proofs.EndLemmas.{ends_good, ends_give}
use Rattle.bound_prove.proofs.find.find_cert.Goals as goal

-- all cells of a certificate are at the ends
abbrev AtEnds : Cert → Type 0
AtEnds cert = (e : Event) (part : Part) (i : ℕ) → cells_of cert e part i ≡ the_ends

pub returns-in-None-clause-good : goal.returns-in-None-clause-good
returns-in-None-clause-good c =
    let chart = chart_of c.args.chart.now in
    IfOk-weaker c.cert_at_ends.result AtEnds (λ cert. IsGood chart (cells_of cert))
    (λ cert ends. ends_good chart (cells_of cert) ends) c.cert_at_ends.ensures.ends

pub returns-in-None-clause-need : goal.returns-in-None-clause-need
returns-in-None-clause-need c =
    let chart = chart_of c.args.chart.now in
    IfOk-weaker c.cert_at_ends.result AtEnds
    (λ cert. (n : Option Need) → Answers (root_need chart (cells_of cert)) n → IsNeedOf chart n)
    (λ cert ends. ends_give chart (cells_of cert) ends (c.in_ok-cert.ensures.cycle c.in-None.is))
    c.cert_at_ends.ensures.ends
