use Rattle.std.proofs.Common.{◌≡◌, length, map}
use Rattle.token_grammar.specs.declared.token.Kind.TheVariants as kinds
use Rattle.token_grammar.specs.Token.{lexemes}
use Rattle.token_grammar.specs.Grammar.{is, many}
use Rattle.statechart_tree.specs.Views.{case_of}
use Rattle.chart_grammar.specs.Limits.{usual}
use Rattle.statechart_grammar.specs.Transitions.{next_case, when}
use Rattle.statechart_tokens.proofs.FirstLoop.{kept}
use Rattle.statechart_statements.proofs.CaseLoop.{in_order}
use Rattle.statechart_statements.proofs.cases.cases.Given as goal

abbrev pub invariant-items : goal.invariant-items
invariant-items l = record {
  counts : l.reader.counts ≡ l.fn.reader.counts;
  so_far : kept in_order (map case_of l.found.items)
      ((many (is kinds.Comment) (next_case usual)).reads (lexemes l.reader.rest.now))
      ≡ (when usual).reads (lexemes l.fn.reader.rest.now);
}

abbrev pub decreases-items : goal.decreases-items
decreases-items l = length l.reader.rest.now
