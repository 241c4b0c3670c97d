use Rattle.std.proofs.Common.{map, subst, refl}
use Rattle.checked_chart.specs.Views.{block_seen}
use Rattle.range_blocks.specs.Ends.{rules_in}
use Rattle.range_worlds.specs.Leads.{Among, Leads, now_at}
use Rattle.range_check.specs.declared.processing.Way.{Way}
use Rattle.range_check.proofs.ProcessLemmas.{next_outer}
use Rattle.range_check.proofs.processing.+take_outer.Goals as goal

pub returns-in_ok-ways-in-Some : goal.returns-in_ok-ways-in-Some
returns-in_ok-ways-in-Some t c =
    let way : Way = record { home = c.in_ok-home-in-Some.home; worlds = c.in_ok-worlds-in-Some.worlds } in
    next_outer c.args.setting.now c.args.fires.items _ c.in-Some.firing c.args.state c.in_ok-home-in-Some.home
    c.args.now _ _ way c.in-Some.ensures.items c.in_ok-home-in-Some.ensures refl
    (subst (λ z. Leads c.args.setting.now (Among c.args.setting.now c.in-Some.firing.worlds.items)
    (λ b n depth. (rules_in c.args.setting.now b n).take c.in_ok-home-in-Some.home c.in-Some.firing.target
    (map (λ a. block_seen a.now) z) (now_at c.args.now depth))
    (λ _ w. Among c.args.setting.now c.in_ok-worlds-in-Some.worlds.items w)) c.deref.ensures.value
    c.in_ok-worlds-in-Some.ensures) c.in_ok-others-in-Some.ensures c.in_ok-ways-in-Some.ensures
