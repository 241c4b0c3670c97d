use Rattle.std.proofs.Common.{◌≡◌, ◌+◌, ◌-◌, ◌≤◌, length, drop}
use Rattle.token_grammar.specs.Token.{lexemes}
use Rattle.chart_lexer.proofs.Cuts.{cut}
use Rattle.statechart_lexer.specs.Lex.{lexed, cut_of}
use Rattle.statechart_lexer.proofs.lexer.lex.Given as goal

-- what is cut so far, and then what is left
abbrev pub invariant-fronts : goal.invariant-fronts
invariant-fronts l = record {
  bound : l.at ≤ length l.text;
  line : l.place.line ≤ l.at + 1;
  column : l.place.column ≤ l.at + 1;
  some : 1 ≤ l.place.column;
  so_far : cut (lexemes l.tokens.items) (lexed 0 l.place (drop l.at l.text)) ≡ cut_of l.text;
}

abbrev pub decreases-fronts : goal.decreases-fronts
decreases-fronts l = length l.text - l.at
