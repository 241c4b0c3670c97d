-- Moments of actions.
use Rattle.std.specs.Prelude.{Bool}
use Rattle.statechart_tree.specs.Trees.{ActionWord}
use Rattle.statechart_meaning.specs.Counting.{is_entry, is_during, is_exit}
use Rattle.statechart_counters.specs.declared.actions.Moment.{Moment}
use Rattle.statechart_counters.specs.declared.actions.Moment.TheVariants as moments

-- whether it is the word of the moment
abbrev pub is_moment : Moment → ActionWord → Bool
is_moment moments.Entry word = is_entry word
is_moment moments.During word = is_during word
is_moment moments.Exit word = is_exit word
