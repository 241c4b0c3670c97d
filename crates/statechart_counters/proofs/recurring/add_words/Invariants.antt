use Rattle.std.proofs.Common.{◌≡◌, map, drop}
use Rattle.std.specs.List.{flat_map}
use Rattle.statechart_tree.specs.Views.{stmt_of, word_of}
use Rattle.statechart_meaning.specs.Counting as spec
use Rattle.statechart_names.specs.Seen.{scope_seen}
use Rattle.statechart_counters.specs.Again.{recurring_seen, collected, on_cases, trans_cases}
use Rattle.statechart_counters.proofs.recurring.add_words.Given as goal

-- what is collected so far, with what is left, is all
abbrev pub invariant-loop-word : goal.invariant-loop-word
invariant-loop-word l =
    collected (map recurring_seen l.all.items)
    (flat_map (on_cases (scope_seen l.scope)) (flat_map (spec.on_word (map stmt_of l.block)) (map word_of (drop l.word-index l.words))))
    ≡ collected (map recurring_seen l.fn.all.items)
    (flat_map (on_cases (scope_seen l.scope)) (flat_map (spec.on_word (map stmt_of l.block)) (map word_of l.words)))
