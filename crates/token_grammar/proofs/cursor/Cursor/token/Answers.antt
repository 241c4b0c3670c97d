use Rattle.std.proofs.Common.{◌≡◌, true, false}
use Rattle.token_grammar.specs.Token.{lexemes}
use Rattle.token_grammar.specs.Grammar.{heads, is}
use Rattle.token_grammar.proofs.Tokens.{token_taken, token_refused}
use Rattle.token_grammar.proofs.cursor.Cursor.token.Goals as goal

pub returns-then-is_at : goal.returns-then-is_at
returns-then-is_at c =
    let h : heads (is c.args.kind) (lexemes c.args.self.now.rest.now) ≡ true = cc in
    token_taken c.args.self.now.rest.now _ c.args.kind h

pub returns-else-is_at : goal.returns-else-is_at
returns-else-is_at c =
    let h : heads (is c.args.kind) (lexemes c.args.self.now.rest.now) ≡ false = cc in
    token_refused c.args.self.now.rest.now c.args.kind h
