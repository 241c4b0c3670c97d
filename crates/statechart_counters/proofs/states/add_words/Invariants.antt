use Rattle.std.proofs.Common.{◌≡◌, map, drop}
use Rattle.std.specs.List.{flat_map}
use Rattle.statechart_tree.specs.Views.{stmt_of, word_of}
use Rattle.statechart_meaning.specs.Counting as spec
use Rattle.statechart_counters.specs.Seen.{counted_seen, gathered}
use Rattle.statechart_counters.proofs.states.add_words.Given as goal

-- what is gathered so far, with what is left, is all
abbrev pub invariant-loop-word : goal.invariant-loop-word
invariant-loop-word l =
    gathered (map counted_seen l.counted.items)
    (flat_map (spec.counted_on l.events) (flat_map (spec.on_word (map stmt_of l.block)) (map word_of (drop l.word-index l.words))))
    ≡ gathered (map counted_seen l.fn.counted.items)
    (flat_map (spec.counted_on l.events) (flat_map (spec.on_word (map stmt_of l.block)) (map word_of l.words)))
