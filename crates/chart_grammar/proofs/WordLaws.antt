-- Names, paths and numbers read as they spell.
-- `fine_x` says of the production x that it is LL(1): with its FIRST set, whether it is nullable, and the kinds that
-- may
-- go on with what is read, which its FOLLOW must not have. `good_x` says so of one of which limits may leave no
-- spelling.
use Rattle.std.proofs.Common.{◌≡◌, false, [], ◌∷◌, None, refl}
use Rattle.token_grammar.specs.declared.token.Kind.TheVariants as kinds
use Rattle.token_grammar.specs.Token.{Lexeme}
use Rattle.token_grammar.specs.Grammar.{is, token}
use Rattle.token_grammar.proofs.Good.{nothing, Sample}
use Rattle.token_grammar.proofs.Leaves.{good_token}
use Rattle.token_grammar.proofs.Allowed.{good_allowed}
use Rattle.token_grammar.proofs.Fine.{Fine, fine_token, fine_give, fine_then, fine_many, fine_as}
use Rattle.fixed_point.specs.Text.{first_from}
use Rattle.fixed_point.specs.Reading.{number_read, value_after}
use Rattle.chart_grammar.specs.Limits.{Limits}
use Rattle.chart_grammar.specs.Words.{name, name_of, step, path, fault_of_number, literal_refused, number}

pub fine_name : Fine name (is kinds.Name) false nothing
unfolding name
fine_name =
    fine_as (is kinds.Name) nothing (fine_then (fine_token kinds.Name) (λ t. fine_give (name_of t)) refl) refl refl

pub fine_step : Fine step (is kinds.Slash) false nothing
unfolding step
fine_step = fine_as (is kinds.Slash) nothing (fine_then (fine_token kinds.Slash) (λ _. fine_name) refl) refl refl

pub fine_path : Fine path (is kinds.Name) false (is kinds.Slash)
unfolding path
fine_path =
    fine_as (is kinds.Name) (is kinds.Slash)
    (fine_then fine_name (λ first.
    fine_then (fine_many (is kinds.Slash) fine_step.good refl refl) (λ others.
    fine_give (first ∷ others)) refl) refl) refl refl

-- ---- numbers

-- the number 0
abbrev zero_token : Lexeme
zero_token = record { kind = kinds.Number; text = 48 ∷ []; at = record { line = 0; column = 0 } }

-- `0` has no fault, so a number has a spelling
zero_passes : fault_of_number (number_read (48 ∷ [])) ≡ None
unfolding number_read value_after first_from
zero_passes = refl

sample_number : (l : Limits) → Sample (number l)
unfolding number token
sample_number l = record { tokens = zero_token ∷ []; value = zero_token; spelled = (rw zero_passes refl, (refl, refl)) }

pub fine_number : (l : Limits) → Fine (number l) (is kinds.Number) false nothing
unfolding number
fine_number l = record {
  good = good_allowed (is kinds.Number) (literal_refused l)
      (good_token kinds.Number);
  sample = sample_number l;
}
