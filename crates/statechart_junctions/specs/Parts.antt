-- Parts of productions that the code reads by functions of their own. What is made of a part is given, so that the
-- production is read as it stands.
use Rattle.std.specs.Prelude.{List}
use Rattle.token_grammar.specs.declared.token.Kind.TheVariants as kinds
use Rattle.token_grammar.specs.declared.token.Span.{Span}
use Rattle.token_grammar.specs.Grammar.{Grammar, token, give, ◌>>=◌, ◌>>◌}
use Rattle.chart_tree.specs.Trees.{Dest}
use Rattle.chart_grammar.specs.Limits.{Counts, Counted, usual}
use Rattle.chart_grammar.specs.Transitions.{dest}
use Rattle.statechart_tree.specs.Trees.{Case, Trans}
use Rattle.statechart_grammar.specs.Transitions.{maybe_block, maybe_action, after_stmts}

-- '->' dest ';'
unfoldable pub arrow_dest : {X : Type 0} → (Dest → X) → Grammar X
arrow_dest make = do
  token kinds.Arrow
  dest ← dest
  token kinds.Semicolon
  give (make dest)

-- block? ('/' block)? '->' dest ';': a transition behind its cases
unfoldable pub trans_rest : Counts → Span → List Case → Grammar (Counted Trans)
trans_rest n at cases = do
  cond ← maybe_block usual n
  act ← maybe_action usual (after_stmts n cond)
  arrow_dest (λ dest. record {
    value = record { at = at; cases = cases; cond = cond; act = act; dest = dest };
    counts = after_stmts (after_stmts n cond) act;
  })
