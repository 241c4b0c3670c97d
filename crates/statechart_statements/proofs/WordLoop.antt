-- The words before a block.
use Rattle.std.proofs.Common.{◌≡◌, List, [], ◌∷◌, Ok}
use Rattle.token_grammar.specs.declared.token.Kind.TheVariants as kinds
use Rattle.token_grammar.specs.Token.{Lexeme, Outcome}
use Rattle.token_grammar.specs.Grammar.{is, many_from}
use Rattle.chart_grammar.specs.Limits.{usual}
use Rattle.statechart_tree.specs.Trees.{ActionWord}
use Rattle.statechart_grammar.specs.States.{Done, after_word, another_word}
use Rattle.statechart_statements.specs.Parts.{all_words}
use Rattle.statechart_tokens.proofs.FirstLoop.{kept, first_kept}

-- what is made of all of them
abbrev pub in_order : List ActionWord → List Lexeme → Outcome (List ActionWord)
in_order ws r = Ok (ws, r)

-- the words behind what is done
abbrev pub others : Done → List Lexeme → Outcome (List ActionWord)
others d s = (many_from (λ z. is kinds.Comma) (another_word usual) after_word d).reads s

-- the first is there
pub words_begin : (d : Done) (first : ActionWord) (s : List Lexeme)
    → kept in_order (first ∷ []) (others (after_word d first) s) ≡ (all_words d first).reads s
unfolding all_words
words_begin d first s = first_kept in_order first (others (after_word d first) s)
