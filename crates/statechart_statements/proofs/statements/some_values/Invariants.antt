use Rattle.std.proofs.Common.{◌≡◌, length, map}
use Rattle.token_grammar.specs.declared.token.Kind.TheVariants as kinds
use Rattle.token_grammar.specs.Token.{lexemes}
use Rattle.token_grammar.specs.Grammar.{is, many}
use Rattle.statechart_tree.specs.Views.{expr_of}
use Rattle.chart_grammar.specs.Limits.{usual}
use Rattle.statechart_grammar.specs.Transitions.{next_value, some_values}
use Rattle.statechart_tokens.proofs.FirstLoop.{kept}
use Rattle.statechart_statements.proofs.ValueLoop.{in_row}
use Rattle.statechart_statements.proofs.statements.some_values.Given as goal

abbrev pub invariant-items : goal.invariant-items
invariant-items l = record {
  counts : l.reader.counts ≡ l.fn.reader.counts;
  so_far : kept in_row (map expr_of l.found.items)
      ((many (is kinds.Comma) (next_value usual)).reads (lexemes l.reader.rest.now))
      ≡ (some_values usual).reads (lexemes l.fn.reader.rest.now);
}

abbrev pub decreases-items : goal.decreases-items
decreases-items l = length l.reader.rest.now
