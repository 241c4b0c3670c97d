use Rattle.std.proofs.Common.{◌∙◌, ap, sym}
use Rattle.token_grammar.specs.declared.token.Kind.TheVariants as kinds
use Rattle.token_grammar.specs.Token.{lexeme, lexemes}
use Rattle.chart_grammar.specs.Limits.{usual, event_refused}
use Rattle.chart_reader.specs.Counts.{counts_of}
use Rattle.chart_reader.specs.declared.counts.Counts as declared
use Rattle.chart_reader.proofs.AllowedLemmas.{token_allowed}
use Rattle.chart_reader.proofs.reader.Reader.event.Goals as goal

pub after_event-self-requires : goal.after_event-self-requires
after_event-self-requires c =
    ap (λ (n : declared.Counts). event_refused usual (counts_of n)) c.allowed_token.ensures.counts
    ∙ sym c.event_refused-refused.ensures
    ∙ token_allowed kinds.Event _ (lexemes c.args.self.now.rest.now) _
    (lexeme c.in_ok-allowed_token.field-0) c.in_ok-allowed_token.ensures.read
