use Rattle.std.proofs.Common.{◌≡◌, true, false}
use Rattle.token_grammar.specs.Token.{lexemes}
use Rattle.token_grammar.specs.Grammar.{heads}
use Rattle.statechart_tokens.specs.Groups.{set_of}
use Rattle.statechart_tokens.proofs.TokenLemmas.{one_read, one_refused}
use Rattle.statechart_tokens.proofs.reader.Reader.one_of.Goals as goal

pub returns-then-is_at_one_of-clause-read : goal.returns-then-is_at_one_of-clause-read
returns-then-is_at_one_of-clause-read c =
    let h : heads (set_of c.args.group) (lexemes c.args.self.now.rest.now) ≡ true = cc in
    one_read (lexemes c.args.self.now.rest.now) _ _ (set_of c.args.group) c.take.ensures.taken h

pub returns-else-is_at_one_of-clause-read : goal.returns-else-is_at_one_of-clause-read
returns-else-is_at_one_of-clause-read c =
    let h : heads (set_of c.args.group) (lexemes c.args.self.now.rest.now) ≡ false = cc in
    one_refused (lexemes c.args.self.now.rest.now) (set_of c.args.group) h
