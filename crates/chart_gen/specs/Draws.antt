-- The numbers of a case, drawn one after another.
use Rattle.std.specs.Prelude.{ℕ, zero, suc, ◌+◌, ◌*◌, ◌/◌, ◌%◌, ◌^◌}
use Rattle.chart_gen.specs.declared.draws.EventDraws.{EventDraws}
use Rattle.chart_gen.specs.declared.draws.RegionDraws.{RegionDraws}
use Rattle.chart_gen.specs.declared.draws.Sizes.{Sizes}
use Rattle.chart_gen.specs.declared.draws.StateDraws.{StateDraws}

-- ---- one draw

-- the seed of case n before its first draw
unfoldable pub first_seed : ℕ → ℕ
first_seed n = n % 2 ^ 31

-- the seed after a draw; the numbers are those of the example of `rand` in the C standard (ISO/IEC 9899:2011, 7.22.2.2)
unfoldable pub next : ℕ → ℕ
next seed = (seed * 1103515245 + 12345) % 2 ^ 31

-- the number below k that a draw gives, made of the seed after it
unfoldable pub drawn : ℕ → ℕ → ℕ
drawn k seed = next seed / 65536 % k

-- ---- the sizes of a chart

-- the number of regions, and then the number of states of each region
abbrev pub sizes : ℕ → Sizes
sizes seed = record { regions = 2 + drawn 4 seed; states = 3 + drawn 60 (next seed) }

-- the seed after the sizes
abbrev pub after_sizes : ℕ → ℕ
after_sizes seed = next (next seed)

-- ---- a region of m states

-- before its states: a bound of x, the destination above it, and the bound of x below which junction j leads to z
abbrev pub region_draws : ℕ → ℕ → RegionDraws
region_draws m seed =
    record {
      over = drawn 200 seed;
      destination = drawn m (next seed);
      under = drawn 200 (next (next seed));
    }

-- the seed after that
abbrev pub after_region : ℕ → ℕ
after_region seed = next (next (next seed))

-- of a state: an event, the destination on the event after it, what the entry adds, the destination on the local event
abbrev pub state_draws : ℕ → ℕ → StateDraws
state_draws m seed =
    record {
      event = drawn 4 seed;
      destination = drawn m (next seed);
      added = drawn 9 (next (next seed));
      local_destination = drawn m (next (next (next seed)));
    }

-- the seed after a state
abbrev pub after_state : ℕ → ℕ
after_state seed = next (next (next (next seed)))

-- the seed after so many states
unfoldable pub after_states : ℕ → ℕ → ℕ
after_states zero seed = seed
after_states (suc count) seed = after_state (after_states count seed)

-- the seed after so many regions of m states each
unfoldable pub after_regions : ℕ → ℕ → ℕ → ℕ
after_regions m zero seed = seed
after_regions m (suc count) seed = after_states m (after_region (after_regions m count seed))

-- the seed after a chart
abbrev pub after_chart : ℕ → ℕ
after_chart seed = after_regions (sizes seed).states (sizes seed).regions (after_sizes seed)

-- ---- an event line

-- an event, 4 for a tick, and a number from which 100 is taken for the value of x
abbrev pub event_draws : ℕ → EventDraws
event_draws seed = record { event = drawn 5 seed; input = drawn 200 (next seed) }

-- the seed after an event line
abbrev pub after_event : ℕ → ℕ
after_event seed = next (next seed)

-- the seed after so many event lines
unfoldable pub after_events : ℕ → ℕ → ℕ
after_events zero seed = seed
after_events (suc count) seed = after_event (after_events count seed)
