-- Cases in order.
use Rattle.std.proofs.Common.{◌≡◌, List, [], ◌∷◌, Ok, sym, refl, ◌∙◌}
use Rattle.token_grammar.specs.declared.token.Kind.TheVariants as kinds
use Rattle.token_grammar.specs.declared.fault.ReadError.{ReadError}
use Rattle.token_grammar.specs.declared.fault.ReadError.TheVariants as errors
use Rattle.token_grammar.specs.Token.{Lexeme, Outcome, Fails}
use Rattle.token_grammar.specs.Grammar.{is, many}
use Rattle.chart_grammar.specs.Limits.{usual}
use Rattle.statechart_tree.specs.Trees.{Case}
use Rattle.statechart_grammar.specs.Transitions.{case, next_case, when}
use Rattle.statechart_tokens.proofs.FirstLoop.{kept, first_kept}

-- what is made of all of them
abbrev pub in_order : List Case → List Lexeme → Outcome (List Case)
in_order cs r = Ok (cs, r)

-- the first was read
pub cases_begin : (s : List Lexeme) (x : Case) (r : List Lexeme) → (case usual).reads s ≡ Ok (x, r)
    → kept in_order (x ∷ []) ((many (is kinds.Comment) (next_case usual)).reads r) ≡ (when usual).reads s
unfolding when
cases_begin s x r one = first_kept in_order x _ ∙ sym (rw one refl)

-- reading it failed
pub cases_fail_first : (s : List Lexeme) (err : ReadError) (r : List Lexeme) → Fails err r ((case usual).reads s)
    → Fails err r ((when usual).reads s)
unfolding when
cases_fail_first s errors.Memory r one = tt
cases_fail_first s (errors.Fault d) r one = rw one refl
