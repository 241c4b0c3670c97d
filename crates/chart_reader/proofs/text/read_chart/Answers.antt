use Rattle.std.proofs.Common.{◌≡◌, sym, subst}
use Rattle.token_grammar.specs.Token.{lexemes}
use Rattle.chart_reader.specs.Named.{AreNamed}
use Rattle.chart_reader.specs.Text.{tokens_of}
use Rattle.chart_reader.proofs.TextLemmas.{tokens_named, tokens_are, answer_is, returns_found, returns_only}
use Rattle.chart_reader.proofs.TextLemmas.{returns_refused}
use Rattle.chart_reader.proofs.text.read_chart.Goals as goal

pub read_tokens-requires : goal.read_tokens-requires
read_tokens-requires c =
    let same : lexemes c.deref-2.result.now ≡ tokens_of c.args.text.now =
    tokens_are c.in_ok-lexed.lexed c.args.text.now c.deref.result.now c.in_ok-tokens.tokens.items c.deref-2.result.now
    c.in_ok-lexed.ensures c.deref.ensures.value c.in_ok-tokens.ensures c.deref-2.ensures.value in
    subst AreNamed (sym same) (tokens_named c.args.text.now)

pub returns-clause-found : goal.returns-clause-found
returns-clause-found c =
    let same = tokens_are c.in_ok-lexed.lexed c.args.text.now c.deref.result.now c.in_ok-tokens.tokens.items c.deref-2.result.now
    c.in_ok-lexed.ensures c.deref.ensures.value c.in_ok-tokens.ensures c.deref-2.ensures.value in
    returns_found c.args.text.now c.read_tokens.result c.if-text-gt-CHART_TEXT_LIMIT.false
    (answer_is c.in_ok-lexed.lexed c.args.text.now c.read_tokens.result
    (lexemes c.deref-2.result.now) c.in_ok-lexed.ensures same c.read_tokens.ensures)

pub returns-clause-only : goal.returns-clause-only
returns-clause-only c =
    let same = tokens_are c.in_ok-lexed.lexed c.args.text.now c.deref.result.now c.in_ok-tokens.tokens.items c.deref-2.result.now
    c.in_ok-lexed.ensures c.deref.ensures.value c.in_ok-tokens.ensures c.deref-2.ensures.value in
    returns_only c.args.text.now c.read_tokens.result
    (answer_is c.in_ok-lexed.lexed c.args.text.now c.read_tokens.result
    (lexemes c.deref-2.result.now) c.in_ok-lexed.ensures same c.read_tokens.ensures)

pub returns-clause-refused : goal.returns-clause-refused
returns-clause-refused c =
    let same = tokens_are c.in_ok-lexed.lexed c.args.text.now c.deref.result.now c.in_ok-tokens.tokens.items c.deref-2.result.now
    c.in_ok-lexed.ensures c.deref.ensures.value c.in_ok-tokens.ensures c.deref-2.ensures.value in
    returns_refused c.args.text.now c.read_tokens.result c.if-text-gt-CHART_TEXT_LIMIT.false
    (answer_is c.in_ok-lexed.lexed c.args.text.now c.read_tokens.result
    (lexemes c.deref-2.result.now) c.in_ok-lexed.ensures same c.read_tokens.ensures)
