use Rattle.std.proofs.Common.{◌≡◌, ℕ, ◌+◌, ◌<◌, suc, Bool, true, false, not}
use Rattle.std.proofs.Common.{List, [], ◌∷◌, ◌++◌, length, get_or, take, rules}
use Rattle.std.proofs.Common.{refl, sym, ap, ◌∙◌, arith}
use Rattle.std.specs.List.{filter}
use Rattle.std.proofs.Math.Seq.{take-suc}
use Rattle.std.proofs.lemmas.List.{map-append, append-nil}
use Rattle.std.proofs.lemmas.List.Elements.{filter-append}
use denote.Enum.Bare.{sameb, same_true, same_false}
use Rattle.token_grammar.specs.contracts.token.Kind.{the_type}
use Rattle.token_grammar.specs.declared.token.Kind.{Kind}
use Rattle.token_grammar.specs.declared.token.Kind.TheVariants as kinds
use Rattle.token_grammar.specs.declared.token.Token.{Token}
use Rattle.token_grammar.specs.Token.{Lexeme, lexeme, lexemes, kind_eq}
use Rattle.token_grammar.proofs.Tokens.{kind_is}
use Rattle.chart_reader.proofs.text.without_comments.Goals as goal
use Rattle.chart_reader.proofs.text.without_comments.Goals.{then-ne+in_ok-push, else-ne}

-- the code's test says whether a token is no comment
no_comment : (k : Kind) (r : Bool) → r ≡ not (sameb the_type k kinds.Comment) → not (kind_eq k kinds.Comment) ≡ r
no_comment k r e =
    ap not (sym (kind_is k kinds.Comment (sameb the_type k kinds.Comment)
    (λ h. same_true the_type (search rules) _ _ h) (λ h. same_false the_type _ _ h))) ∙ sym e

module _ (p : Lexeme → Bool) (ts : List Token) (i : ℕ) (d : Token) (found : List Token) (within : i < length ts)
    (so_far : lexemes found ≡ filter p (lexemes (take i ts))) where
  -- one token more
  one_more : filter p (lexemes (take (i + 1) ts))
      ≡ filter p (lexemes (take i ts)) ++ filter p (lexeme (get_or ts i d) ∷ [])
  one_more =
      let next : i + 1 ≡ suc i = omega arith in
      ap (λ n. filter p (lexemes (take n ts))) next
      ∙ ap (λ xs. filter p (lexemes xs)) (take-suc ts i d within)
      ∙ ap (filter p) (map-append lexeme (take i ts) (get_or ts i d ∷ []))
      ∙ filter-append p (lexemes (take i ts)) (lexeme (get_or ts i d) ∷ [])

  -- it was taken
  taken : p (lexeme (get_or ts i d)) ≡ true
      → lexemes (found ++ get_or ts i d ∷ []) ≡ filter p (lexemes (take (i + 1) ts))
  taken passes =
      let one : filter p (lexeme (get_or ts i d) ∷ []) ≡ lexeme (get_or ts i d) ∷ [] = rw passes refl in
      map-append lexeme found (get_or ts i d ∷ [])
      ∙ ap (λ xs. xs ++ lexeme (get_or ts i d) ∷ []) so_far
      ∙ sym (one_more ∙ ap (λ xs. filter p (lexemes (take i ts)) ++ xs) one)

  -- it was left out
  left_out : p (lexeme (get_or ts i d)) ≡ false → lexemes found ≡ filter p (lexemes (take (i + 1) ts))
  left_out fails =
      let none : filter p (lexeme (get_or ts i d) ∷ []) ≡ [] = rw fails refl in
      so_far
      ∙ sym (one_more ∙ ap (λ xs. filter p (lexemes (take i ts)) ++ xs) none
      ∙ append-nil (filter p (lexemes (take i ts))))

pub loop-token-preserved : goal.loop-token-preserved
loop-token-preserved c =
    let p : Lexeme → Bool = λ t. not (kind_eq t.kind kinds.Comment) in
    elim c.if-ne.branch [
      | then-ne+in_ok-push w ↦
          rw (w.found-is, w.in_ok-push.ensures.items)
          (taken p c.args.tokens.now c.loop-token.token-index _ c.loop-token.found.items c.loop-token-test.true
          c.loop-token.invariant (no_comment _ _ c.ne.ensures ∙ w.if-ne.true))
      | else-ne w ↦
          rw w.found-is
          (left_out p c.args.tokens.now c.loop-token.token-index _ c.loop-token.found.items c.loop-token-test.true
          c.loop-token.invariant (no_comment _ _ c.ne.ensures ∙ w.if-ne.false))
    ]
