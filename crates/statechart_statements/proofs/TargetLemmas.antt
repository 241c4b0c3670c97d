-- Statements behind a target.
use Rattle.std.proofs.Common.{◌≡◌, List, ◌∷◌, Ok, Err, refl, ap, ◌∙◌}
use Rattle.token_grammar.specs.declared.fault.ReadError.{ReadError}
use Rattle.token_grammar.specs.declared.fault.ReadError.TheVariants as errors
use Rattle.token_grammar.specs.Token.{Lexeme, Outcome, Fails}
use Rattle.token_grammar.specs.Grammar.{and_then}
use Rattle.chart_tree.specs.declared.name.NameText.{NameText}
use Rattle.chart_tree.specs.Trees.{Path}
use Rattle.chart_grammar.specs.Limits.{usual}
use Rattle.statechart_tree.specs.Trees.{Stmt}
use Rattle.statechart_grammar.specs.Words.{parts}
use Rattle.statechart_grammar.specs.Transitions.{target_stmt, longer_target}
use Rattle.statechart_tokens.specs.Parts.{longer}

-- the names of a target, and then more
then_longer : (first : NameText) (read : Outcome (List NameText)) (more : Path → List Lexeme → Outcome Stmt)
    → and_then read (λ others r. more (first ∷ others) r)
    ≡ and_then (and_then read (λ others r. Ok (first ∷ others, r))) more
then_longer first (Ok x) more = refl
then_longer first (Err e) more = refl

-- a statement behind its target
target_parts : (first : NameText) (s : List Lexeme)
    → (longer_target usual first).reads s
    ≡ and_then ((longer first).reads s) (λ target r. (target_stmt usual target).reads r)
unfolding longer_target
target_parts first s = then_longer first (parts.reads s) (λ target r. (target_stmt usual target).reads r)

-- its target was read
pub target_read : (first : NameText) (s : List Lexeme) (target : Path) (r : List Lexeme)
    → (longer first).reads s ≡ Ok (target, r)
    → (longer_target usual first).reads s ≡ (target_stmt usual target).reads r
target_read first s target r e =
    target_parts first s ∙ ap (λ (o : Outcome Path). and_then o (λ t q. (target_stmt usual t).reads q)) e

-- reading it failed
pub target_fails : (first : NameText) (err : ReadError) (s r : List Lexeme) → Fails err r ((longer first).reads s)
    → Fails err r ((longer_target usual first).reads s)
target_fails first errors.Memory s r e = tt
target_fails first (errors.Fault d) s r e =
    target_parts first s ∙ ap (λ (o : Outcome Path). and_then o (λ t q. (target_stmt usual t).reads q)) e
