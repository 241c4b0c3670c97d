-- Types read as they spell.
-- `fine_x` says of the production x that it is LL(1): with its FIRST set, whether it is nullable, and the kinds that
-- may
-- go on with what is read, which its FOLLOW must not have. `good_x` says so of one of which limits may leave no
-- spelling.
use Rattle.std.proofs.Common.{◌≡◌, true, false, [], ◌∷◌, None, refl}
use Rattle.std.specs.Prelude.{codes}
use Rattle.fixed_point.specs.declared.fitting.Mode.TheVariants as modes
use Rattle.token_grammar.specs.declared.token.Kind.TheVariants as kinds
use Rattle.token_grammar.specs.Token.{Lexeme}
use Rattle.token_grammar.specs.Grammar.{is, token, allowed}
use Rattle.token_grammar.proofs.Good.{nothing, Sample}
use Rattle.token_grammar.proofs.Leaves.{good_token}
use Rattle.token_grammar.proofs.Allowed.{good_allowed}
use Rattle.token_grammar.proofs.Fine.{Fine, fine_one_of, fine_give, fine_then, fine_either, fine_as}
use Rattle.chart_tree.specs.Trees.{FlagSort, NumberSort}
use Rattle.chart_grammar.specs.Types.{TypeWord, FlagWord, ScaleWord, type_word, type_refused, named_type, type_name}
use Rattle.chart_grammar.specs.Types.{mode_heads, mode_word, mode, maybe_mode, mode_of_type, sort}

-- the word `bool`
abbrev bool_token : Lexeme
bool_token = record { kind = kinds.Name; text = codes "bool"; at = record { line = 0; column = 0 } }

-- `bool` names a type, so a type has a spelling
bool_passes : type_refused bool_token ≡ None
unfolding type_word
bool_passes = refl

-- a word that names a type
sample_word : Sample (allowed (is kinds.Name) type_refused (token kinds.Name))
unfolding token
sample_word = record { tokens = bool_token ∷ []; value = bool_token; spelled = (bool_passes, (refl, refl)) }

pub fine_word : Fine (allowed (is kinds.Name) type_refused (token kinds.Name)) (is kinds.Name) false nothing
fine_word = record { good = good_allowed (is kinds.Name) type_refused (good_token kinds.Name); sample = sample_word }

pub fine_type_name : Fine type_name (is kinds.Name) false nothing
unfolding type_name
fine_type_name = fine_as (is kinds.Name) nothing
    (fine_then fine_word (λ t. fine_give (named_type (type_word t.text))) refl) refl refl

pub fine_mode : Fine mode mode_heads false nothing
unfolding mode
fine_mode = fine_as mode_heads nothing
    (fine_then (fine_one_of mode_heads kinds.Wrap refl) (λ t. fine_give (mode_word t.kind)) refl) refl refl

pub fine_maybe_mode : Fine maybe_mode mode_heads true mode_heads
unfolding maybe_mode
fine_maybe_mode = fine_as mode_heads mode_heads
    (fine_either mode_heads fine_mode.good (fine_give modes.Saturate) refl refl) refl refl

pub fine_mode_of_type : (word : TypeWord) → Fine (mode_of_type word) mode_heads true mode_heads
fine_mode_of_type FlagWord = fine_as mode_heads mode_heads (fine_give FlagSort) refl refl
fine_mode_of_type (ScaleWord scale) =
    fine_as mode_heads mode_heads (fine_then fine_maybe_mode (λ mode. fine_give (NumberSort scale mode)) refl) refl refl

pub fine_sort : Fine sort (is kinds.Name) false mode_heads
unfolding sort
fine_sort = fine_as (is kinds.Name) mode_heads (fine_then fine_type_name fine_mode_of_type refl) refl refl
