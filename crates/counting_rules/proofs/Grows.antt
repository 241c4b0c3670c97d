-- A greater height changes nothing of what is over by the rules with counters.
use Rattle.std.proofs.Common.{ℕ, zero, suc, ◌≤◌, List, arith}
use Rattle.flow_base.specs.declared.bounds.Bounds.{Bounds}
use Rattle.active_config.specs.declared.comp.Comp.{Comp}
use Rattle.active_config.specs.declared.comp.Comp.TheVariants.{Leaf, Or, And}
use Rattle.active_config.specs.Marks.{can_mark}
use Rattle.active_config.specs.Tree.{comp_of}
use Rattle.actions.specs.World.{World, On, Bare}
use Rattle.actions.specs.Work.{Now}
use Rattle.checked_chart.specs.Chart.{Chart, Node, node}
use Rattle.sos_rules.specs.Moves.{enter_inside}
use Rattle.sos_rules.specs.Parts.{Found, Fire, DeadEnd, No, Stop, Parts}
use Rattle.sos_rules.specs.Processing.{process_children, after_inner}
use Rattle.sos_rules.proofs.Extends.{Extends, same, Below, then_extends, choose_extends, if_done_extends}
use Rattle.sos_rules.proofs.Extends.{if_some_extends, rules_below}
use Rattle.counting_rules.specs.Counters.{Counters}
use Rattle.counting_rules.specs.Rules.{counting_enter, counting_inside, counting_outer, counting_process}
use Rattle.counting_rules.specs.Rules.{counting_rules, counting_upto}
use Rattle.counting_rules.specs.Written.{with_nodes}
use Rattle.counting_rules.proofs.Together.{none_below}

-- rules that look at no node: over the parts q, in the chart, they extend those over the parts p, in the chart with
-- other nodes
module _ (c : Chart) (ns : List Node) (p q : Parts) (h : Below p q) where
  pub inside_extends : (s d : ℕ) (now : Now) (k : Comp) (w : World)
      → Extends (enter_inside (with_nodes c ns) p s d now k w) (enter_inside c q s d now k w)
  inside_extends s d now Leaf w = same
  inside_extends s d now Or w = search (choose_extends, if_some_extends, same, h.defaults, h.enter)
  inside_extends s d now And w = search h.enter_each

  children_extends : (s : ℕ) (now : Now) (k : Comp) (w : World)
      → Extends (process_children (with_nodes c ns) p s now k w) (process_children c q s now k w)
  children_extends s now Leaf w = same
  children_extends s now Or w = search (then_extends, if_some_extends, same, h.process)
  children_extends s now And w = search h.process_each

  pub inner_extends : (s : ℕ) (now : Now) (f : Found) (w : World)
      → Extends (after_inner (with_nodes c ns) p s now f w) (after_inner c q s now f w)
  inner_extends s now (Fire d actions) w = search (then_extends, same, h.take)
  inner_extends s now DeadEnd w = search children_extends
  inner_extends s now No w = search children_extends
  inner_extends s now Stop w = same

module _ (c : Chart) (k : Counters) (b : Bounds) where
  module _ (p q : Parts) (h : Below p q) where
    enter_extends : (s d : ℕ) (now : Now) (w : World)
        → Extends (counting_enter c k b p s d now w) (counting_enter c k b q s d now w)
    enter_extends s d now w =
        choose_extends (can_mark c.tree s w.marks) _ _ _ _ w
        (then_extends same (λ _ v.
        then_extends (h.block (Bare s) (node c s).entry now v) (λ e u.
        if_done_extends e tt _ _ u (inside_extends c c.nodes p q h s d now (comp_of c.tree s) u)))) same

    counting_inside_extends : (s : ℕ) (now : Now) (w : World)
        → Extends (counting_inside c k b p s now w) (counting_inside c k b q s now w)
    counting_inside_extends s now w =
        then_extends (h.block (On s) (node c s).during now w) (λ e v.
        if_done_extends e _ _ _ v (then_extends same (λ _ u.
        then_extends (h.search (On s) (node c s).inner now u) (inner_extends c c.nodes p q h s now))))

    counting_outer_extends : (s : ℕ) (now : Now) (f : Found) (w : World)
        → Extends (counting_outer c k b p s now f w) (counting_outer c k b q s now f w)
    counting_outer_extends s now (Fire d actions) w = search (then_extends, same, h.take)
    counting_outer_extends s now DeadEnd w = counting_inside_extends s now w
    counting_outer_extends s now No w = counting_inside_extends s now w
    counting_outer_extends s now Stop w = same

    process_extends : (s : ℕ) (now : Now) (w : World)
        → Extends (counting_process c k b p s now w) (counting_process c k b q s now w)
    process_extends s now w =
        then_extends (h.search (On s) (node c s).outer now w) (counting_outer_extends s now)

    counting_below : Below (counting_rules c k b p) (counting_rules c k b q)
    counting_below = let r = rules_below c b p q h in record {
      block = r.block;
      send = r.send;
      search = r.search;
      exit = r.exit;
      exit_each = r.exit_each;
      enter = enter_extends;
      enter_each = r.enter_each;
      defaults = r.defaults;
      play = r.play;
      take = r.take;
      process = process_extends;
      process_each = r.process_each;
    }

  -- more height keeps what is over
  pub counting_grows : (m n : ℕ) → m ≤ n → Below (counting_upto c k b m) (counting_upto c k b n)
  counting_grows zero n le = none_below (counting_upto c k b n)
  counting_grows (suc m) zero le = absurd (omega arith)
  counting_grows (suc m) (suc n) le =
      counting_below (counting_upto c k b m) (counting_upto c k b n) (counting_grows m n (omega arith))
