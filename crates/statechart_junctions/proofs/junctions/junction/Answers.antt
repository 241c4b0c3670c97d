use Rattle.std.proofs.Common.{sym, ◌∙◌}
use Rattle.token_grammar.specs.declared.token.Kind.TheVariants as kinds
use Rattle.token_grammar.specs.Token.{lexemes}
use Rattle.statechart_tokens.proofs.TokenLemmas.{allowed_passes}
use Rattle.statechart_junctions.proofs.junctions.junction.Goals as goal

pub after_junction-reader-requires : goal.after_junction-reader-requires
after_junction-reader-requires c =
    rw c.in_ok-allowed_token.ensures.counts
    (sym c.junction_refused-refused.ensures
    ∙ allowed_passes kinds.Junction c.junction_refused-refused.result
    (lexemes c.args.reader.now.rest.now) _ _ c.in_ok-allowed_token.ensures.read)
