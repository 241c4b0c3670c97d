-- Without counters the rules with counters are the rules.
use Rattle.std.proofs.Common.{ℕ, zero, suc}
use Rattle.flow_base.specs.declared.bounds.Bounds.{Bounds}
use Rattle.active_config.specs.Marks.{can_mark}
use Rattle.active_config.specs.Tree.{comp_of}
use Rattle.actions.specs.World.{World, On, Bare}
use Rattle.actions.specs.Work.{Now}
use Rattle.checked_chart.specs.Chart.{Chart, node}
use Rattle.sos_rules.specs.Moves.{enter_rule}
use Rattle.sos_rules.specs.Parts.{Found, Fire, DeadEnd, No, Stop, Stay, Parts}
use Rattle.sos_rules.specs.Processing.{go_on_inside, after_outer, process_rule}
use Rattle.sos_rules.specs.Rules.{upto}
use Rattle.sos_rules.proofs.Extends.{Extends, same, Below, then_extends, choose_extends, if_done_extends, rules_below}
use Rattle.counting_rules.specs.Counters.{no_counters}
use Rattle.counting_rules.specs.Rules.{counting_enter, counting_inside, counting_outer, counting_process, counting_upto}
use Rattle.counting_rules.proofs.Together.{none_below}
use Rattle.counting_rules.proofs.Grows.{inside_extends, inner_extends}

module _ (c : Chart) (b : Bounds) where
  module _ (p q : Parts) (u : Below p q) where
    enter_extends : (s d : ℕ) (now : Now) (w : World)
        → Extends (enter_rule c p s d now w) (counting_enter c no_counters b q s d now w)
    enter_extends s d now w =
        choose_extends (can_mark c.tree s w.marks) _ _ _ _ w
        (then_extends (u.block (Bare s) (node c s).entry now _) (λ e v.
        if_done_extends e tt _ _ v (inside_extends c c.nodes p q u s d now (comp_of c.tree s) v))) same

    inside : (s : ℕ) (now : Now) (w : World)
        → Extends (go_on_inside c p s now w) (counting_inside c no_counters b q s now w)
    inside zero now w =
        then_extends (u.block (On 0) (node c 0).during now w) (λ e v.
        if_done_extends e Stay _ _ v
        (then_extends (u.search (On 0) (node c 0).inner now v) (inner_extends c c.nodes p q u 0 now)))
    inside (suc s) now w =
        then_extends (u.block (On (suc s)) (node c (suc s)).during now w) (λ e v.
        if_done_extends e Stay _ _ v
        (then_extends (u.search (On (suc s)) (node c (suc s)).inner now v)
        (inner_extends c c.nodes p q u (suc s) now)))

    outer : (s : ℕ) (now : Now) (f : Found) (w : World)
        → Extends (after_outer c p s now f w) (counting_outer c no_counters b q s now f w)
    outer s now (Fire d actions) w = then_extends (u.take _ d actions now w) (λ _ _. same)
    outer s now DeadEnd w = inside s now w
    outer s now No w = inside s now w
    outer s now Stop w = same

    process_extends : (s : ℕ) (now : Now) (w : World)
        → Extends (process_rule c p s now w) (counting_process c no_counters b q s now w)
    process_extends s now w = then_extends (u.search (On s) (node c s).outer now w) (outer s now)

  pub plain_below : (n : ℕ) → Below (upto c b n) (counting_upto c no_counters b n)
  plain_below zero = none_below (counting_upto c no_counters b 0)
  plain_below (suc n) =
      let u = plain_below n in
      let r = rules_below c b (upto c b n) (counting_upto c no_counters b n) u in
      record {
        block = r.block;
        send = r.send;
        search = r.search;
        exit = r.exit;
        exit_each = r.exit_each;
        enter = enter_extends (upto c b n) (counting_upto c no_counters b n) u;
        enter_each = r.enter_each;
        defaults = r.defaults;
        play = r.play;
        take = r.take;
        process = process_extends (upto c b n) (counting_upto c no_counters b n) u;
        process_each = r.process_each;
      }
