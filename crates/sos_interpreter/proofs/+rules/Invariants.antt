use Rattle.std.proofs.Common.{map, ◌+◌, ◌-◌, ◌*◌, ◌^◌, length, drop, reverse}
use Rattle.std.specs.List.{sum_by, AllByRecursion}
use Rattle.active_config.specs.Tree.{children_of, children_from, children_back_from}
use Rattle.sos_interpreter.proofs.Measure.{measure_of}
use Rattle.sos_interpreter.proofs.Places.{Leads}
use Rattle.sos_interpreter.specs.Charts.{FitsChart}
use Rattle.sos_interpreter.specs.Settled.{Continues}
use Rattle.sos_interpreter.specs.Views.{chart_in, rules_in, life_seen, now_of}
use Rattle.checked_chart.proofs.Walks.{Stands, ahead, behind}
use Rattle.checked_chart.specs.Valid.{AreTrans, AreStmts}
use Rattle.checked_chart.specs.Views.{block_seen, list_seen}
use Rattle.sos_interpreter.proofs.+rules.Given as goal

-- ---- measures: the depth left, and at one depth what a call stands over

abbrev pub decreases-blocks::run_block : goal.decreases-blocks::run_block
decreases-blocks::run_block l = measure_of l.setting.now l.now (λ _. 2)

abbrev pub decreases-blocks::statement : goal.decreases-blocks::statement
decreases-blocks::statement l = measure_of l.setting.now l.now (λ _. 1)

abbrev pub decreases-blocks::send : goal.decreases-blocks::send
decreases-blocks::send l = measure_of l.setting.now l.now (λ _. 0)

abbrev pub decreases-searches::search : goal.decreases-searches::search
decreases-searches::search l = measure_of l.setting.now l.now (λ _. 3)

abbrev pub decreases-exits::exit : goal.decreases-exits::exit
decreases-exits::exit l = measure_of l.setting.now l.now (λ n. 3 * (n - l.state) + 6)

abbrev pub decreases-exits::exit_children : goal.decreases-exits::exit_children
decreases-exits::exit_children l = measure_of l.setting.now l.now (λ n. 3 * (n - l.state) + 5)

abbrev pub decreases-exits::exit_all : goal.decreases-exits::exit_all
decreases-exits::exit_all l = measure_of l.setting.now l.now (λ n. 3 * (n - l.state) + 4)

abbrev pub decreases-exits::exit_active : goal.decreases-exits::exit_active
decreases-exits::exit_active l = measure_of l.setting.now l.now (λ n. 3 * (n - l.state) + 4)

abbrev pub decreases-entries::enter : goal.decreases-entries::enter
decreases-entries::enter l = measure_of l.setting.now l.now (λ n. 6 * (n - l.state) + 9)

abbrev pub decreases-entries::enter_inside : goal.decreases-entries::enter_inside
decreases-entries::enter_inside l = measure_of l.setting.now l.now (λ n. 6 * (n - l.state) + 8)

abbrev pub decreases-entries::enter_all : goal.decreases-entries::enter_all
decreases-entries::enter_all l = measure_of l.setting.now l.now (λ n. 6 * (n - l.state) + 7)

abbrev pub decreases-entries::enter_toward : goal.decreases-entries::enter_toward
decreases-entries::enter_toward l = measure_of l.setting.now l.now (λ n. 6 * (n - l.state) + 7)

abbrev pub decreases-entries::enter_child : goal.decreases-entries::enter_child
decreases-entries::enter_child l = measure_of l.setting.now l.now (λ n. 6 * (n - l.state) + 4)

abbrev pub decreases-defaults::defaults : goal.decreases-defaults::defaults
decreases-defaults::defaults l = measure_of l.setting.now l.now (λ n. 6 * (n - l.state) + 6)

abbrev pub decreases-defaults::default_search : goal.decreases-defaults::default_search
decreases-defaults::default_search l = measure_of l.setting.now l.now (λ n. 6 * (n - l.state) + 5)

abbrev pub decreases-firings::play : goal.decreases-firings::play
decreases-firings::play l = measure_of l.setting.now l.now (λ _. 3)

abbrev pub decreases-firings::take : goal.decreases-firings::take
decreases-firings::take l = measure_of l.setting.now l.now (λ n. 6 * n + 10)

abbrev pub decreases-processing::process : goal.decreases-processing::process
decreases-processing::process l = measure_of l.setting.now l.now (λ n. 6 * n + 4 * (n - l.state) + 14)

abbrev pub decreases-processing::go_on_inside : goal.decreases-processing::go_on_inside
decreases-processing::go_on_inside l = measure_of l.setting.now l.now (λ n. 6 * n + 4 * (n - l.state) + 13)

abbrev pub decreases-processing::process_children : goal.decreases-processing::process_children
decreases-processing::process_children l = measure_of l.setting.now l.now (λ n. 6 * n + 4 * (n - l.state) + 12)

abbrev pub decreases-processing::process_all : goal.decreases-processing::process_all
decreases-processing::process_all l = measure_of l.setting.now l.now (λ n. 6 * n + 4 * (n - l.state) + 11)

-- ---- loops

abbrev pub invariant-blocks::run_block-loop-stmt : goal.invariant-blocks::run_block-loop-stmt
invariant-blocks::run_block-loop-stmt l = record {
  goes : Continues (λ n. (rules_in l.setting n).block (life_seen l.life)
      (block_seen (drop l.stmt-index l.stmts)) (now_of l.now) l.world)
      (λ n. (rules_in l.setting n).block (life_seen l.life) (block_seen l.stmts) (now_of l.now)
      l.fn.world);
  fits : FitsChart (chart_in l.setting) l.world;
}

abbrev pub invariant-searches::search-loop-places : goal.invariant-searches::search-loop-places
invariant-searches::search-loop-places l = record {
  leads : Leads (chart_in l.setting) l.setting.bounds (life_seen l.life) (now_of l.now) l.places.items
      (list_seen l.rest) l.world (list_seen l.list) l.fn.world;
  fits : FitsChart (chart_in l.setting) l.world;
  rest : AreTrans (chart_in l.setting) (list_seen l.rest);
  rests : AllByRecursion (λ p. AreTrans (chart_in l.setting) (list_seen p.rest.now)) l.places.items;
  actions : AllByRecursion (λ p. AreStmts (chart_in l.setting) (block_seen p.action.now)) l.places.items;
}

-- a visit uses a step, and brings one list
abbrev pub decreases-searches::search-loop-places : goal.decreases-searches::search-loop-places
decreases-searches::search-loop-places l =
    (l.setting.bounds.steps - l.world.used) * (2 ^ 64 + 1) + length l.rest
    + sum_by (λ p. length p.rest.now + 1) l.places.items

abbrev pub invariant-exits::exit_all-loop-next : goal.invariant-exits::exit_all-loop-next
invariant-exits::exit_all-loop-next l = record {
  goes : Continues (λ n. (rules_in l.setting n).exit_each
      (children_back_from (chart_in l.setting).tree l.state l.next) (now_of l.now) l.world)
      (λ n. (rules_in l.setting n).exit_each (reverse (children_of (chart_in l.setting).tree l.state))
      (now_of l.now) l.fn.world);
  stands : Stands (chart_in l.setting).tree l.state l.next;
  fits : FitsChart (chart_in l.setting) l.world;
}

abbrev pub decreases-exits::exit_all-loop-next : goal.decreases-exits::exit_all-loop-next
decreases-exits::exit_all-loop-next l = behind l.next

abbrev pub invariant-entries::enter_all-loop-next : goal.invariant-entries::enter_all-loop-next
invariant-entries::enter_all-loop-next l = record {
  goes : Continues (λ n. (rules_in l.setting n).enter_each
      (children_from (chart_in l.setting).tree l.state l.next) l.target (now_of l.now) l.world)
      (λ n. (rules_in l.setting n).enter_each (children_of (chart_in l.setting).tree l.state) l.target
      (now_of l.now) l.fn.world);
  stands : Stands (chart_in l.setting).tree l.state l.next;
  fits : FitsChart (chart_in l.setting) l.world;
}

abbrev pub decreases-entries::enter_all-loop-next : goal.decreases-entries::enter_all-loop-next
decreases-entries::enter_all-loop-next l = ahead (chart_in l.setting).tree l.next

abbrev pub invariant-firings::play-loop-action : goal.invariant-firings::play-loop-action
invariant-firings::play-loop-action l = record {
  goes : Continues (λ n. (rules_in l.setting n).play l.state
      (map (λ a. block_seen a.now) (drop l.action-index l.actions)) (now_of l.now) l.world)
      (λ n. (rules_in l.setting n).play l.state (map (λ a. block_seen a.now) l.actions) (now_of l.now)
      l.fn.world);
  fits : FitsChart (chart_in l.setting) l.world;
}

abbrev pub invariant-processing::process_all-loop-next : goal.invariant-processing::process_all-loop-next
invariant-processing::process_all-loop-next l = record {
  goes : Continues (λ n. (rules_in l.setting n).process_each
      (children_from (chart_in l.setting).tree l.state l.next) (now_of l.now) l.world)
      (λ n. (rules_in l.setting n).process_each (children_of (chart_in l.setting).tree l.state)
      (now_of l.now) l.fn.world);
  stands : Stands (chart_in l.setting).tree l.state l.next;
  fits : FitsChart (chart_in l.setting) l.world;
}

abbrev pub decreases-processing::process_all-loop-next : goal.decreases-processing::process_all-loop-next
decreases-processing::process_all-loop-next l = ahead (chart_in l.setting).tree l.next
