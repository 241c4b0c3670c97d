use Rattle.std.proofs.Common.{◌≡◌, true, false}
use Rattle.token_grammar.specs.Token.{lexemes}
use Rattle.token_grammar.specs.Grammar.{heads, is}
use Rattle.statechart_tokens.proofs.TokenLemmas.{token_read, token_refused}
use Rattle.statechart_tokens.proofs.reader.Reader.token.Goals as goal

pub returns-then-is_at-clause-read : goal.returns-then-is_at-clause-read
returns-then-is_at-clause-read c =
    let h : heads (is c.args.kind) (lexemes c.args.self.now.rest.now) ≡ true = cc in
    token_read (lexemes c.args.self.now.rest.now) _ _ c.args.kind c.take.ensures.taken h

pub returns-else-is_at-clause-read : goal.returns-else-is_at-clause-read
returns-else-is_at-clause-read c =
    let h : heads (is c.args.kind) (lexemes c.args.self.now.rest.now) ≡ false = cc in
    token_refused (lexemes c.args.self.now.rest.now) c.args.kind h
