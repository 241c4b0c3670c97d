use Rattle.std.proofs.Common.{◌∙◌, ap, sym}
use Rattle.token_grammar.specs.Token.{lexeme, lexemes}
use Rattle.chart_grammar.specs.Limits.{usual, variable_refused}
use Rattle.chart_grammar.specs.Declarations.{kind_heads}
use Rattle.chart_reader.specs.Counts.{counts_of}
use Rattle.chart_reader.specs.declared.counts.Counts as declared
use Rattle.chart_reader.proofs.AllowedLemmas.{one_allowed}
use Rattle.chart_reader.proofs.reader.Reader.variable.Goals as goal

pub after_variable-self-requires : goal.after_variable-self-requires
after_variable-self-requires c =
    ap (λ (n : declared.Counts). variable_refused usual (counts_of n)) c.allowed_one_of.ensures.counts
    ∙ sym c.variable_refused-refused.ensures
    ∙ one_allowed kind_heads _ (lexemes c.args.self.now.rest.now) _
    (lexeme c.in_ok-token.token) c.in_ok-token.ensures.read
