use Rattle.token_grammar.specs.Token.{lexeme, lexemes}
use Rattle.statechart_tokens.proofs.WordLemmas.{token_named}
use Rattle.statechart_tokens.proofs.reader.Reader.name.Goals as goal

pub name_text-requires : goal.name_text-requires
name_text-requires c =
    token_named (lexemes c.args.self.now.rest.now) _
    (lexeme c.in_ok-token.token) c.args.self.now.named c.in_ok-token.ensures.read
