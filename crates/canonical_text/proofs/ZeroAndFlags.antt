-- The number 0, and the type of flags.
use Rattle.std.proofs.Common.{◌≡◌, Some, IsTrue, refl, codes}
use Rattle.fixed_point.specs.Text.{first_from}
use Rattle.fixed_point.specs.Reading.{value_after, number_read}
use Rattle.chart_lexer.specs.Numbers.{fraction_length, scale_length, decimal_length, number_length}
use Rattle.chart_lexer.specs.Words.{word_kind, declaration_kind, statement_kind, mode_kind, is_name}
use Rattle.chart_grammar.specs.Types.{FlagWord, type_word}
use Rattle.chart_grammar.specs.Declarations.{zero_lit}
use Rattle.canonical_text.specs.Terms.{IsLiteral}

-- 0 is a number without a fault
pub zero_is_literal : IsLiteral zero_lit
unfolding first_from value_after number_read fraction_length scale_length decimal_length number_length
zero_is_literal = record { text = codes "0"; number = (refl, refl); sound = refl; told = refl }

-- `bool` is a name
pub flag_is_named : IsTrue (is_name (codes "bool"))
unfolding word_kind declaration_kind statement_kind mode_kind
flag_is_named = refl

-- and names the type of flags
pub flag_is_told : type_word (codes "bool") ≡ Some FlagWord
unfolding type_word
flag_is_told = refl
