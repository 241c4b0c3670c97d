use Rattle.std.proofs.Common.{◌∙◌, sym}
use Rattle.code_language.proofs.RepeatLemmas.{first_is, seen_next}
use Rattle.code_language.proofs.repeats.is_first.Goals as goal

pub returns-clause-first : goal.returns-clause-first
returns-clause-first c =
    first_is (c.args.owner, c.text.result) c.args.seen.now.keys c.args.name.now c.in_ok-first.first c.text.ensures
    c.in_ok-first.ensures.added

pub returns-clause-seen : goal.returns-clause-seen
returns-clause-seen c = λ first.
    seen_next (c.args.owner, c.text.result) c.args.seen.now.keys c.insert.new.self.keys c.args.name.now _ c.text.ensures
    (sym c.in_ok-first.ensures.added ∙ first) c.in_ok-first.ensures.keys
