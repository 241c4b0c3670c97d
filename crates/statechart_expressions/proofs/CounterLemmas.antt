-- Tests of temporal words.
use Rattle.std.proofs.Common.{◌≡◌, refl}
use Rattle.std.proofs.lemmas.Grind.{common_steps}
use Rattle.token_grammar.specs.declared.token.Span.{Span}
use Rattle.chart_tree.specs.declared.name.NameText.{NameText}
use Rattle.chart_tree.specs.Trees as core
use Rattle.statechart_tree.specs.declared.expr.TimeWord.{TimeWord}
use Rattle.statechart_tree.specs.declared.expr.TimeWord.TheVariants as times
use Rattle.statechart_meaning.specs.Expressions.{test, timed_counter}
use Rattle.statechart_meaning.specs.Scope.{Scope}
use Rattle.statechart_expressions.specs.Called.{asked}

-- a test is the operator of its word between the counter and the count
pub test-asked : (s : Scope) (word : TimeWord) (n : core.Expr) (event : NameText) (at : Span)
    → test s word n event at ≡ core.Binary (asked word) (timed_counter s event at) n at
test-asked s times.After n event at = refl
test-asked s times.Before n event at = refl
test-asked s times.At n event at = refl

pub ruleset test_steps = (common_steps, test-asked)
