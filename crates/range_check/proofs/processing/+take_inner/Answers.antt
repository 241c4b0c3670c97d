use Rattle.std.proofs.Common.{map, subst}
use Rattle.checked_chart.specs.Views.{block_seen}
use Rattle.range_blocks.specs.Ends.{rules_in}
use Rattle.range_worlds.specs.Leads.{Among, Leads, now_at}
use Rattle.range_check.proofs.ProcessLemmas.{next_inner}
use Rattle.range_check.proofs.processing.+take_inner.Goals as goal

pub returns-in_ok-all-in-Some : goal.returns-in_ok-all-in-Some
returns-in_ok-all-in-Some t c =
    next_inner c.args.setting.now c.args.fires.items _ c.in-Some.firing c.args.state c.args.now
    c.in_ok-own-in-Some.own.items _ _ c.in-Some.ensures.items
    (subst (λ z. Leads c.args.setting.now (Among c.args.setting.now c.in-Some.firing.worlds.items)
    (λ b n depth. (rules_in c.args.setting.now b n).take c.args.state c.in-Some.firing.target
    (map (λ a. block_seen a.now) z) (now_at c.args.now depth))
    (λ _ w. Among c.args.setting.now c.in_ok-own-in-Some.own.items w)) c.deref.ensures.value c.in_ok-own-in-Some.ensures)
    c.in_ok-others-in-Some.ensures c.in_ok-all-in-Some.ensures
