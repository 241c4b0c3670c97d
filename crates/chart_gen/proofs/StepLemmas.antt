-- One more step of what is drawn and written again and again.
use Rattle.std.proofs.Common.{◌≡◌, ℕ, ◌+◌, List, [], ◌∷◌, ◌++◌, refl, sym, add-one, append-nil}
use Rattle.chart_gen.specs.declared.draws.Sizes.{Sizes}
use Rattle.chart_gen.specs.Draws.{after_state, after_states, after_region, after_regions, after_event, after_events}
use Rattle.chart_gen.specs.Draws.{state_draws, event_draws}
use Rattle.chart_gen.specs.Cases.{text_of, numbered, state_lines, states_lines, region_lines, regions_lines}
use Rattle.chart_gen.specs.Cases.{event_line, event_lines}

-- one more number
pub numbered-more : (line : ℕ → List ℕ) (i : ℕ) → numbered line (i + 1) ≡ numbered line i ++ line i ∷ []
unfolding numbered
numbered-more line i = rw add-one refl

-- the seed after one more state
pub after_states-more : (k seed : ℕ) → after_states (k + 1) seed ≡ after_state (after_states k seed)
unfolding after_states
after_states-more k seed = rw add-one refl

-- the lines of one more state
pub states_lines-more : (sizes : Sizes) (i k seed : ℕ) → states_lines sizes i (k + 1) seed
    ≡ states_lines sizes i k seed ++ state_lines sizes.regions i k (state_draws sizes.states (after_states k seed))
unfolding states_lines
states_lines-more sizes i k seed = rw (add-one k) refl

-- the seed after one more region
pub after_regions-more : (m i seed : ℕ) → after_regions m (i + 1) seed
    ≡ after_states m (after_region (after_regions m i seed))
unfolding after_regions
after_regions-more m i seed = rw add-one refl

-- the lines of one more region
pub regions_lines-more : (sizes : Sizes) (i seed : ℕ) → regions_lines sizes (i + 1) seed
    ≡ regions_lines sizes i seed ++ region_lines sizes i (after_regions sizes.states i seed)
unfolding regions_lines
regions_lines-more sizes i seed = rw add-one refl

-- the seed after one more event line
pub after_events-more : (count seed : ℕ) → after_events (count + 1) seed ≡ after_event (after_events count seed)
unfolding after_events
after_events-more count seed = rw add-one refl

-- one more event line
pub event_lines-more : (count seed : ℕ) → event_lines (count + 1) seed
    ≡ event_lines count seed ++ event_line (event_draws (after_events count seed)) ∷ []
unfolding event_lines
event_lines-more count seed = rw add-one refl

-- no states are written
pub no_states : (before : List ℕ) (sizes : Sizes) (i seed : ℕ)
    → before ≡ before ++ text_of (states_lines sizes i 0 seed)
unfolding text_of states_lines
no_states before sizes i seed = sym (append-nil before)

-- no regions are written
pub no_regions : (before : List ℕ) (sizes : Sizes) (seed : ℕ) → before ≡ before ++ text_of (regions_lines sizes 0 seed)
unfolding text_of regions_lines
no_regions before sizes seed = sym (append-nil before)

-- no lines of numbers are written
pub no_numbers : (before : List ℕ) (line : ℕ → List ℕ) → before ≡ before ++ text_of (numbered line 0)
unfolding text_of numbered
no_numbers before line = sym (append-nil before)

-- no event lines are written
pub no_events : (before : List ℕ) (seed : ℕ) → before ≡ before ++ text_of (event_lines 0 seed)
unfolding text_of event_lines
no_events before seed = sym (append-nil before)
