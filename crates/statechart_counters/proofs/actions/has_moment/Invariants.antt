use Rattle.std.proofs.Common.{◌≡◌, map, drop}
use Rattle.std.specs.List.{list_any}
use Rattle.statechart_tree.specs.Views.{word_of}
use Rattle.statechart_counters.specs.Moments.{is_moment}
use Rattle.statechart_counters.proofs.actions.has_moment.Given as goal

-- what is left of the words gives what all give
abbrev pub invariant-loop-word : goal.invariant-loop-word
invariant-loop-word l =
    list_any (is_moment l.moment) (map word_of (drop l.word-index l.words))
    ≡ list_any (is_moment l.moment) (map word_of l.words)
