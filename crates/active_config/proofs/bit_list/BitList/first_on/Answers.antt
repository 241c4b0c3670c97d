use Rattle.std.proofs.Common.{rules, arith}
use Rattle.std.proofs.lemmas.List.{get_or_read}
use Rattle.active_config.proofs.BitListLemmas.{word_within, passed_all, found_before, found_past, passed_word}
use Rattle.active_config.proofs.bit_list.BitList.first_on.Goals as goal

pub index-requires : goal.index-requires
index-requires c =
    omega (arith, word_within _ _ _ c.self.view_is c.self.invariant c.words.at (omega arith))

pub returns-then-found-end-clause-first : goal.returns-then-found-end-clause-first
returns-then-found-end-clause-first c =
    let within = word_within _ _ _ c.self.view_is c.self.invariant c.words.at (omega arith) in
    let read = get_or_read c.self.inside.words.items _ _ within c.index.ensures 0 in
    found_before _ _ _ c.self.view_is c.self.invariant _ _ _ c.words.invariant read _ c.requires (search rules)
    c.if-rest-ne0.true c.if-found-end.true

pub returns-else-found-end-clause-first : goal.returns-else-found-end-clause-first
returns-else-found-end-clause-first c =
    let within = word_within _ _ _ c.self.view_is c.self.invariant c.words.at (omega arith) in
    let read = get_or_read c.self.inside.words.items _ _ within c.index.ensures 0 in
    found_past _ _ _ c.self.view_is c.self.invariant _ _ _ c.words.invariant read _ c.requires (search rules)
    c.if-rest-ne0.true c.if-found-end.false

pub words-preserved : goal.words-preserved
words-preserved c =
    let within = word_within _ _ _ c.self.view_is c.self.invariant c.words.at (omega arith) in
    let read = get_or_read c.self.inside.words.items _ _ within c.index.ensures 0 in
    passed_word _ _ _ c.self.view_is c.self.invariant _ _ _ c.words.invariant read c.if-rest-ne0.false

pub returns-clause-first : goal.returns-clause-first
returns-clause-first c = passed_all _ _ _ _ c.words.invariant c.words-test.false
