-- Further words and symbols, targets and numbers read as they spell.
-- `fine_x` says of the production x that it is LL(1): with its FIRST set, whether it is nullable, and the kinds that
-- may go on with what is read, which its FOLLOW must not have. `good_x` says so of one of which limits may leave no
-- spelling.
use Rattle.std.proofs.Common.{◌≡◌, true, false, List, ℕ, [], ◌∷◌, Option, None, refl}
use Rattle.std.specs.Prelude.{codes}
use Rattle.token_grammar.specs.declared.token.Kind.{Kind}
use Rattle.token_grammar.specs.declared.token.Kind.TheVariants as kinds
use Rattle.token_grammar.specs.declared.fault.TokenFault.{TokenFault}
use Rattle.token_grammar.specs.Token.{Lexeme}
use Rattle.token_grammar.specs.Grammar.{is, token, allowed}
use Rattle.token_grammar.proofs.Good.{nothing}
use Rattle.token_grammar.proofs.Leaves.{good_token}
use Rattle.token_grammar.proofs.Allowed.{good_allowed}
use Rattle.token_grammar.proofs.Fine.{Fine, fine_give, fine_then, fine_many, fine_as}
use Rattle.fixed_point.specs.Text.{first_from}
use Rattle.fixed_point.specs.Reading.{number_read, value_after}
use Rattle.chart_grammar.specs.Limits.{Limits}
use Rattle.chart_grammar.proofs.WordLaws.{fine_name}
use Rattle.statechart_lexer.specs.declared.words.Word.TheVariants as words
use Rattle.statechart_lexer.specs.Words.{declaring_word, temporal_word}
use Rattle.statechart_grammar.specs.Words.{just, other_word, word_in, is_timing, other_text, spelled, dot, bar, part, parts}
use Rattle.statechart_grammar.specs.Words.{target, fault_of_length, too_long, number}

-- a token of that kind and text
abbrev pub sample_of : Kind → List ℕ → Lexeme
sample_of k text = record { kind = k; text = text; at = record { line = 0; column = 0 } }

-- one token that passes a test, where there is one that does
pub fine_tested : (k : Kind) (test : Lexeme → Option TokenFault) (text : List ℕ) → is k k ≡ true
    → test (sample_of k text) ≡ None
    → Fine (allowed (is k) test (token k)) (is k) false nothing
unfolding token
fine_tested k test text same passes = record {
  good = good_allowed (is k) test (good_token k);
  sample = record {
    tokens = sample_of k text ∷ [];
    value = sample_of k text;
    spelled = (rw same passes, (refl, same));
  };
}

-- ---- words and symbols

pub fine_on_word : Fine (word_in (just words.On)) (is kinds.Tick) false nothing
unfolding word_in declaring_word temporal_word
fine_on_word = fine_tested kinds.Tick (other_word (just words.On)) (codes "on") refl refl

pub fine_first_word : Fine (word_in (just words.Statechart)) (is kinds.Tick) false nothing
unfolding word_in declaring_word temporal_word
fine_first_word = fine_tested kinds.Tick (other_word (just words.Statechart)) (codes "statechart") refl refl

pub fine_timing_word : Fine (word_in is_timing) (is kinds.Tick) false nothing
unfolding word_in declaring_word temporal_word
fine_timing_word = fine_tested kinds.Tick (other_word is_timing) (codes "after") refl refl

pub fine_dot : Fine dot (is kinds.Comment) false nothing
unfolding spelled
fine_dot = fine_tested kinds.Comment (other_text (codes ".")) (codes ".") refl refl

pub fine_bar : Fine bar (is kinds.Comment) false nothing
unfolding spelled
fine_bar = fine_tested kinds.Comment (other_text (codes "|")) (codes "|") refl refl

pub fine_minuses : Fine (spelled kinds.Minus (codes "--")) (is kinds.Minus) false nothing
unfolding spelled
fine_minuses = fine_tested kinds.Minus (other_text (codes "--")) (codes "--") refl refl

-- ---- targets

pub fine_part : Fine part (is kinds.Comment) false nothing
unfolding part
fine_part = fine_as (is kinds.Comment) nothing (fine_then fine_dot (λ _. fine_name) refl) refl refl

pub fine_parts : Fine parts (is kinds.Comment) true (is kinds.Comment)
unfolding parts
fine_parts = fine_as (is kinds.Comment) (is kinds.Comment) (fine_many (is kinds.Comment) fine_part.good refl refl) refl refl

pub fine_target : Fine target (is kinds.Name) false (is kinds.Comment)
unfolding target
fine_target =
    fine_as (is kinds.Name) (is kinds.Comment)
    (fine_then fine_name (λ first. fine_then fine_parts (λ others. fine_give (first ∷ others)) refl) refl) refl refl

-- ---- numbers

-- `0` isn't too long, so a number has a spelling
zero_passes : fault_of_length (number_read (48 ∷ [])) ≡ None
unfolding number_read value_after first_from
zero_passes = refl

pub fine_number : (l : Limits) → Fine (number l) (is kinds.Number) false nothing
unfolding number
fine_number l = fine_tested kinds.Number (too_long l) (48 ∷ []) refl (rw zero_passes refl)
