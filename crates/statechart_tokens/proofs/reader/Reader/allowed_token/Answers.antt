use Rattle.std.proofs.Common.{◌≡◌, true, false, refl, sym, ◌∙◌}
use Rattle.token_grammar.specs.Token.{lexemes}
use Rattle.token_grammar.specs.Grammar.{heads, is}
use Rattle.token_grammar.proofs.Allowed.{refused_always}
use Rattle.statechart_tokens.proofs.TokenLemmas.{token_refused}
use Rattle.statechart_tokens.proofs.reader.Reader.allowed_token.Goals as goal

pub returns-in-Some-clause-read : goal.returns-in-Some-clause-read
returns-in-Some-clause-read c =
    let s = lexemes c.args.self.now.rest.now in
    let here : heads (is c.args.kind) s ≡ true = sym c.is_at.ensures ∙ c.if-is_at.true in
    rw (refused_always (is c.args.kind) c.args.refused s, here, c.in-Some.is) refl

pub returns-in-Some-2-clause-read : goal.returns-in-Some-2-clause-read
returns-in-Some-2-clause-read c =
    let s = lexemes c.args.self.now.rest.now in
    let none : heads (is c.args.kind) s ≡ false = sym c.is_at.ensures ∙ c.if-is_at.false in
    rw (refused_always (is c.args.kind) c.args.refused s, none)
    (token_refused s c.args.kind none)
