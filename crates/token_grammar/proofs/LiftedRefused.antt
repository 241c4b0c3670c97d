-- The reading of what is refused at its first token, compared with what isn't.
use Rattle.std.proofs.Common.{◌≡◌, Bool, List, Some, refl, sym, ◌∙◌, inl, inr}
use Rattle.std.proofs.lemmas.Bool.{cases_Bool}
use Rattle.token_grammar.specs.declared.fault.TokenFault.{TokenFault}
use Rattle.token_grammar.specs.Token.{Lexeme}
use Rattle.token_grammar.specs.Grammar.{Grammar, heads, ◌>>=◌, allowed}
use Rattle.token_grammar.proofs.Good.{Set}
use Rattle.token_grammar.proofs.Allowed.{refused_always, forbidden}
use Rattle.token_grammar.proofs.Lifted.{Lifted}
use Rattle.token_grammar.proofs.Starts.{Expects}

-- of the left side only the reading matters
pub lifted_read : {X : Type 0} {lifts : TokenFault → Bool} {g h g' : Grammar X}
    → ((s : List Lexeme) → g.reads s ≡ h.reads s) → Lifted lifts h g'
    → Lifted lifts g g'
lifted_read same a = record {
  takes = λ s x r e. a.takes s x r (sym (same s) ∙ e);
  stays = λ s r f e kept. a.stays s r f (sym (same s) ∙ e) kept;
  passes = λ s r f e lift. a.passes s r f (sym (same s) ∙ e) lift;
}

-- where each token of the set is refused, reading is that of what is forbidden
pub refused_read : {X : Type 0} {g : Grammar X} (set : Set) (fault : TokenFault) → Expects set g → (s : List Lexeme)
    → (allowed set (λ t. Some fault) g).reads s ≡ (forbidden {X = X} set fault).reads s
unfolding forbidden
refused_read set fault a s =
    elim (cases_Bool (heads set s)) [
      | inl here ↦ rw (refused_always set (Some fault) s, here) refl
      | inr away ↦ rw (refused_always set (Some fault) s, away) (a.other s away)
    ]

-- and whatever would stand after it
pub refused_read_then : {X Y : Type 0} {g : Grammar X} (set : Set) (fault : TokenFault) (h : X → Grammar Y) → Expects set g
    → (s : List Lexeme)
    → (allowed set (λ t. Some fault) g >>= h).reads s ≡ (forbidden {X = Y} set fault).reads s
unfolding forbidden
refused_read_then set fault h a s = rw (refused_read set fault a s) refl
