use Rattle.std.proofs.Common.{◌≡◌, drop, map}
use Rattle.statechart_tree.specs.Views.{word_of}
use Rattle.statechart_grammar.specs.States.{after_words}
use Rattle.statechart_statements.specs.Words.{done_of}
use Rattle.statechart_statements.proofs.done.Done.after_all.Given as goal

-- the words to come give what all give
abbrev pub invariant-loop-word : goal.invariant-loop-word
invariant-loop-word l =
    after_words (done_of l.done) (map word_of (drop l.word-index l.words))
    ≡ after_words (done_of l.fn.self) (map word_of l.words)
