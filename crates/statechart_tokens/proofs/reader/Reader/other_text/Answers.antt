use Rattle.std.proofs.Common.{◌≡◌, true, sym, ◌∙◌}
use Rattle.token_grammar.specs.Token.{lexemes}
use Rattle.token_grammar.specs.Grammar.{heads, is}
use Rattle.statechart_grammar.specs.Words.{other_text}
use Rattle.statechart_tokens.proofs.FirstLemmas.{first_said, none_said}
use Rattle.statechart_tokens.proofs.reader.Reader.other_text.Goals as goal

pub returns-then-not-is_at : goal.returns-then-not-is_at
returns-then-not-is_at c =
    none_said (lexemes c.args.self.now.rest.now) (is c.args.kind) (other_text c.args.text.now)
    (sym c.is_at.ensures ∙ c.if-not-is_at.true)

pub returns-in-len1-up : goal.returns-in-len1-up
returns-in-len1-up c =
    let here : heads (is c.args.kind) (lexemes c.args.self.now.rest.now) ≡ true =
    sym c.is_at.ensures ∙ c.if-not-is_at.false in
    first_said c.args.self.now.rest.now _ (is c.args.kind) (other_text c.args.text.now) c.text_refused.result
    c.in-len1-up.len_at_least here c.text_refused.ensures
