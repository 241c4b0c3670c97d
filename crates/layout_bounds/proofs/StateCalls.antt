-- What the procedures of states call has lower numbers.
use Rattle.std.proofs.Common.{◌≡◌, ℕ, zero, suc, ◌+◌, ◌-◌, ◌<◌, ◌≤◌, Some, refl, ap, arith}
use Rattle.active_config.specs.Tree.{state_count, parent_of}
use Rattle.active_config.proofs.PathLemmas.{is_at_or_below-same}
use Rattle.checked_chart.specs.declared.parts.ListKind.TheVariants.{Default}
use Rattle.checked_chart.specs.Chart.{Chart}
use Rattle.checked_chart.specs.Valid.{IsValid}
use Rattle.checked_chart.proofs.Trees.{child_is}
use Rattle.chart_code.specs.Kinds.{IsPath}
use Rattle.chart_code.specs.Numbers.{Numbers}
use Rattle.chart_code.specs.Ends.{below_count}
use Rattle.chart_code.specs.Places.{reached_count, group_at, arrive_at, numbers}
use Rattle.layout_bounds.specs.Calls.{LeaveCalls, ExitCalls, EnterCalls, DefaultsCalls, ArriveCalls, TakeCalls}
use Rattle.layout_bounds.specs.Calls.{ProcessCalls}
use Rattle.layout_bounds.proofs.NumberOrder.{group_from, groups_before, entry_low, during_low, exit_action_low, outer_low}
use Rattle.layout_bounds.proofs.NumberOrder.{inner_low, enter_before, exit_before}

module _ (c : Chart) where
  abbrev N : Numbers
  N = numbers c

  -- arriving is in the group
  arrive_from : (s n : ℕ) → group_at c s ≤ arrive_at c s n
  arrive_from s zero = omega arith
  arrive_from s (suc n) = omega arith

  -- and it stands before the firings
  arrive_end : (s n : ℕ) → n ≤ below_count c.tree s
      → arrive_at c s n ≤ group_at c s + 4 + below_count c.tree s + reached_count c s Default
  arrive_end s zero le = omega arith
  arrive_end s (suc n) le = omega arith

  module _ (valid : IsValid c) where
    -- leaving
    pub leave_calls : (s : ℕ) → LeaveCalls c.tree N (λ q. q < N.leave s) s
    unfolding numbers
    leave_calls s x up = exit_before c valid s x up

    -- exiting
    pub exit_calls : (s : ℕ) → s < state_count c.tree → ExitCalls c.tree N (λ q. q < N.exit s) s
    unfolding numbers
    exit_calls s lt =
        record { leave = omega arith; exit_action = omega (arith, exit_action_low c s lt, group_from c s) }

    -- entering
    pub enter_calls : (s d : ℕ) → s < state_count c.tree → EnterCalls c.tree N (λ q. q < N.enter s d) s
    unfolding numbers
    enter_calls s d lt = record {
      entry = omega (arith, entry_low c s lt, group_from c s);
      defaults = omega arith;
      child = λ x e up path. omega (arith, enter_before c valid s x e up path);
    }

    -- entering by default
    pub defaults_calls : (s : ℕ) → DefaultsCalls c.tree N (λ q. q < N.defaults s) s
    unfolding numbers
    defaults_calls s = record {
      search = omega arith;
      child = λ x up. omega (arith, enter_before c valid s x x up (to_itself s x up));
    }
      where
        to_itself : (s x : ℕ) → parent_of c.tree x ≡ Some s → IsPath c.tree x x
        to_itself s x up = record {
          state = (child_is c.tree valid.tree s x up).within;
          below = is_at_or_below-same c.tree x x refl;
        }

    -- arriving
    pub arrive_calls : (s d : ℕ) → ArriveCalls c.tree N (λ q. q < N.arrive s d) s d
    unfolding numbers
    arrive_calls s d = record {
      defaults = λ same.
          let z : d - s ≡ 0 = omega arith in
          omega (arith, ap (arrive_at c s) z);
      child = λ x other up path. omega (arith, enter_before c valid s x d up path, arrive_from s (d - s));
    }

    -- a firing
    pub take_calls : (s d : ℕ) → d - s ≤ below_count c.tree s → TakeCalls c.tree N (λ q. q < N.take s d) s d
    unfolding numbers
    take_calls s d le = record { leave = omega arith; arrive = omega (arith, arrive_end s (d - s) le) }

    -- processing
    pub process_calls : (s : ℕ) → s < state_count c.tree → ProcessCalls c.tree N (λ q. q < N.process s) s
    unfolding numbers
    process_calls s lt = record {
      outer = omega (arith, outer_low c s lt);
      during = omega (arith, during_low c s lt, groups_before c);
      inner = omega (arith, inner_low c s lt);
      child = λ x up. let child = child_is c.tree valid.tree s x up in omega (arith, child.above, child.within);
    }
