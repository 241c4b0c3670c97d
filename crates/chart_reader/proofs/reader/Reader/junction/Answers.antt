use Rattle.std.proofs.Common.{sym, ◌∙◌}
use Rattle.token_grammar.specs.declared.token.Kind.TheVariants as kinds
use Rattle.token_grammar.specs.Token.{lexemes}
use Rattle.chart_reader.proofs.TokenLemmas.{allowed_passes}
use Rattle.chart_reader.proofs.reader.Reader.junction.Goals as goal

pub after_junction-self-requires : goal.after_junction-self-requires
after_junction-self-requires c =
    rw c.in_ok-allowed_token.ensures.counts
    (sym c.junction_refused.ensures
    ∙ allowed_passes kinds.Junction c.junction_refused.result
    (lexemes c.args.self.now.rest.now) _ _ c.in_ok-allowed_token.ensures.read)
