use Rattle.std.proofs.Common.{◌≡◌, length}
use Rattle.token_grammar.specs.declared.token.Kind.TheVariants as kinds
use Rattle.token_grammar.specs.Token.{lexemes}
use Rattle.token_grammar.specs.Grammar.{is, many, after}
use Rattle.chart_grammar.specs.Words as spec
use Rattle.statechart_tokens.proofs.reader.Reader.steps.Given as goal

-- what was found, and what is still read, is what is read of all
abbrev pub invariant-items : goal.invariant-items
invariant-items l = record {
  so_far : after l.found.items ((many (is kinds.Slash) spec.step).reads (lexemes l.self.rest.now))
      ≡ (many (is kinds.Slash) spec.step).reads (lexemes l.initial.self.rest.now);
  counts : l.self.counts ≡ l.initial.self.counts;
}

abbrev pub decreases-items : goal.decreases-items
decreases-items l = length l.self.rest.now
