use Rattle.std.proofs.Common.{◌≡◌, not, take}
use Rattle.std.specs.List.{filter}
use Rattle.token_grammar.specs.declared.token.Kind.TheVariants as kinds
use Rattle.token_grammar.specs.Token.{lexemes, kind_eq}
use Rattle.chart_reader.proofs.text.without_comments.Given as goal

abbrev pub invariant-loop-token : goal.invariant-loop-token
invariant-loop-token l =
    lexemes l.found.items ≡ filter (λ t. not (kind_eq t.kind kinds.Comment)) (lexemes (take l.token-index l.tokens))
