-- Actions read from their words and their block.
use Rattle.std.proofs.Common.{◌≡◌, false, List, [], ◌∷◌, Ok, Err, refl, sym, ap, ◌∙◌}
use Rattle.token_grammar.specs.declared.fault.ReadError.{ReadError}
use Rattle.token_grammar.specs.declared.fault.ReadError.TheVariants as errors
use Rattle.token_grammar.specs.declared.fault.TokenFault.TheVariants as faults
use Rattle.token_grammar.specs.Token.{Lexeme, Outcome, Fails}
use Rattle.token_grammar.specs.Grammar.{and_then, heads, one_of, token}
use Rattle.chart_grammar.specs.Limits.{Counts, Counted, usual}
use Rattle.statechart_tree.specs.Trees.{ActionWord, Action, Stmt}
use Rattle.statechart_grammar.specs.Words.{word_in}
use Rattle.statechart_grammar.specs.Transitions.{block, after_stmts}
use Rattle.statechart_grammar.specs.States.{Done, action_heads, plain_word, on_word, any_word, next_word, action_rest}
use Rattle.statechart_statements.specs.Parts.{all_words}
use Rattle.statechart_statements.proofs.WordLoop.{others}
use Rattle.statechart_grammar.specs.States as states

-- ---- words

-- where no word may stand, none is read
pub word_misses : (d : Done) (s : List Lexeme) → heads (action_heads d) s ≡ false
    → (next_word usual d).reads s ≡ Err (faults.Expected, s)
unfolding any_word plain_word on_word word_in one_of token
word_misses d [] none = refl
word_misses d (t ∷ s) none = rw none refl

-- ---- actions

-- what is made of the words and the block
abbrev made : Counts → List ActionWord → List Stmt → Counted Action
made n ws found = record { value = record { words = ws; block = found }; counts = after_stmts n found }

-- what stands behind the words
abbrev behind_words : Counts → List ActionWord → List Lexeme → Outcome (Counted Action)
behind_words n ws r = and_then ((block usual n).reads r) (λ found q. Ok (made n ws found, q))

-- the words, and then more
then_words : {Y : Type 0} (first : ActionWord) (read : Outcome (List ActionWord))
    (more : List ActionWord → List Lexeme → Outcome Y)
    → and_then read (λ ws r. more (first ∷ ws) r) ≡ and_then (and_then read (λ ws r. Ok (first ∷ ws, r))) more
then_words first (Ok x) more = refl
then_words first (Err e) more = refl

module _ (n : Counts) (d : Done) (first : ActionWord) (s : List Lexeme) where
  -- an action is its words and its block
  action_parts : (action_rest usual n d first).reads s ≡ and_then ((all_words d first).reads s) (behind_words n)
  unfolding action_rest all_words
  action_parts = then_words first (others (states.after_word d first) s) (behind_words n)

  -- its words have a fault
  pub action_fails : (err : ReadError) (r : List Lexeme) → Fails err r ((all_words d first).reads s)
      → Fails err r ((action_rest usual n d first).reads s)
  action_fails errors.Memory r e = tt
  action_fails (errors.Fault f) r e =
      action_parts ∙ ap (λ (o : Outcome (List ActionWord)). and_then o (behind_words n)) e

  module _ (ws : List ActionWord) (p : List Lexeme) (words : (all_words d first).reads s ≡ Ok (ws, p)) (m : Counts)
      (kept : m ≡ n) where
    -- its words were read
    action_words : (action_rest usual n d first).reads s ≡ behind_words m ws p
    action_words =
        action_parts ∙ ap (λ (o : Outcome (List ActionWord)). and_then o (behind_words n)) words
        ∙ ap (λ (k : Counts). behind_words k ws p) (sym kept)

    -- its block has a fault
    pub block_fails : (err : ReadError) (r : List Lexeme) → Fails err r ((block usual m).reads p)
        → Fails err r ((action_rest usual n d first).reads s)
    block_fails errors.Memory r e = tt
    block_fails (errors.Fault f) r e = action_words ∙ rw e refl

    -- all of it was read
    pub action_read : (found : List Stmt) (q : List Lexeme) (k : Counts) → (block usual m).reads p ≡ Ok (found, q)
        → k ≡ after_stmts m found
        → (action_rest usual n d first).reads s
        ≡ Ok (record { value = record { words = ws; block = found }; counts = k }, q)
    action_read found q k e counts = action_words ∙ rw (e, counts) refl
