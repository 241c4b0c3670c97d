use Rattle.std.proofs.Common.{◌≡◌, true, false, refl, sym, ◌∙◌}
use Rattle.token_grammar.specs.Token.{lexemes}
use Rattle.token_grammar.specs.Grammar.{heads}
use Rattle.token_grammar.proofs.Allowed.{refused_always}
use Rattle.statechart_tokens.specs.Groups.{set_of}
use Rattle.statechart_tokens.proofs.TokenLemmas.{one_refused}
use Rattle.statechart_tokens.proofs.FirstLemmas.{never_refused}
use Rattle.statechart_tokens.proofs.reader.Reader.allowed_one_of.Goals as goal

pub returns-in-Some-clause-read : goal.returns-in-Some-clause-read
returns-in-Some-clause-read c =
    let s = lexemes c.args.self.now.rest.now in
    let here : heads (set_of c.args.group) s ≡ true = sym c.is_at_one_of.ensures ∙ c.if-is_at_one_of.true in
    rw (refused_always (set_of c.args.group) c.args.refused s, here, c.in-Some.is) refl

pub returns-in-Some-2-clause-read : goal.returns-in-Some-2-clause-read
returns-in-Some-2-clause-read c =
    let s = lexemes c.args.self.now.rest.now in
    let none : heads (set_of c.args.group) s ≡ false = sym c.is_at_one_of.ensures ∙ c.if-is_at_one_of.false in
    rw (refused_always (set_of c.args.group) c.args.refused s, none)
    (one_refused s (set_of c.args.group) none)

pub returns-in-None-clause-read : goal.returns-in-None-clause-read
returns-in-None-clause-read c =
    rw (c.in-None.is, never_refused (set_of c.args.group) (lexemes c.args.self.now.rest.now)) c.one_of.ensures.read
