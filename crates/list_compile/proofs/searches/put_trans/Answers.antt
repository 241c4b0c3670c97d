use Rattle.std.proofs.Common.{◌∙◌, ◌++◌, ap}
use Rattle.checked_chart.specs.Views.{trans_seen}
use Rattle.chart_code.specs.ListProcedures.{condition_code}
use Rattle.chart_code.specs.Places.{trans_numbers}
use Rattle.list_compile.specs.Drafts.{code_seen, test_of}
use Rattle.list_compile.specs.Numberings.{chart_in}
use Rattle.list_compile.specs.Searches.{search_seen}
use Rattle.list_compile.proofs.SearchTurns.{trans_turn}
use Rattle.list_compile.proofs.searches.put_trans.Goals as goal

pub returns : goal.returns
returns c =
    let chart = chart_in c.args.numbering.now in
    let S = search_seen chart c.args.search.now in
    trans_turn S (trans_seen c.args.trans.now) (trans_numbers c.args.first (trans_seen c.args.trans.now))
    (code_seen c.args.code.now) _ _ _ _ c.guard_number-guard.result c.condition_number-condition.result
    c.action_number-action.result c.guard_number-guard.ensures c.condition_number-condition.ensures
    c.action_number-action.ensures c.lead_length-lead.result c.guarded_length-passed.result
    (c.lead_length-lead.ensures.length) c.guarded_length-passed.ensures c.in_ok-put_event.ensures
    c.in_ok-put_guard.ensures
    (λ body. c.in_ok-put_condition.ensures body
    ∙ ap (λ l. code_seen c.put_guard.new.code ++ condition_code (test_of l) c.condition_number-condition.result body)
    c.lasting.ensures)
    c.in_ok-put_dest.ensures
