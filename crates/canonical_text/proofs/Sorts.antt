-- Types of data: what spelled ones have, and their canonical words spell them.
-- `x_has` says what is so of each x that tokens cut from a text spell, and `x_spelled` that the canonical words of an
-- x of
-- which that is so spell it.
use Rattle.std.proofs.Common.{◌≡◌, ℕ, true, List, [], ◌∷◌, ◌++◌, Option, Some, None, codes, refl, ap, sym, subst}
use Rattle.token_grammar.specs.declared.token.Kind.{Kind}
use Rattle.token_grammar.specs.declared.token.Kind.TheVariants as kinds
use Rattle.token_grammar.specs.Token.{Lexeme}
use Rattle.token_grammar.specs.Grammar.{is, token, first_refused}
use Rattle.fixed_point.specs.declared.fitting.Mode.{Mode}
use Rattle.fixed_point.specs.declared.fitting.Mode.TheVariants as modes
use Rattle.chart_tree.specs.Trees.{ScaleParts, Sort, FlagSort, NumberSort}
use Rattle.chart_grammar.specs.Types.{TypeWord, FlagWord, ScaleWord, type_word, no_type, type_refused, named_type}
use Rattle.chart_grammar.specs.Types.{type_name, mode_heads, mode_word, mode, maybe_mode, mode_of_type, sort}
use Rattle.chart_print.specs.Pieces.{key, space}
use Rattle.chart_print.specs.Words.{word_pieces, scale_pieces, mode_pieces, sort_pieces}
use Rattle.canonical_text.specs.Words.{Word, words_in, WordsSpell}
use Rattle.canonical_text.specs.Terms.{IsSort}
use Rattle.canonical_text.specs.Claims.{scale_bytes, NumberClaims}
use Rattle.canonical_text.proofs.Words.{one, keyword, words_apart}
use Rattle.canonical_text.proofs.Spelled.{spell_token, spell_then, spell_give, spell_left, spell_right}
use Rattle.canonical_text.proofs.Spelled.{spell_tested, spell_as, spell_made}
use Rattle.canonical_text.proofs.Keywords.{spell_kind}

-- ---- what spelled types have

-- a text that names a type
record Names (w : TypeWord) : Type 0 where
  text : List ℕ
  told : type_word text ≡ Some w

-- a word that isn't refused names a type
named : (said : Option TypeWord) → no_type said ≡ None → said ≡ Some (named_type said)
named None passes = absurd cc
named (Some w) passes = refl

type_name_has : (u : List Lexeme) (w : TypeWord) → type_name.spells u w → Names w
unfolding type_name token
type_name_has u w s =
    let t : Lexeme = s.x in
    let passes : first_refused (is kinds.Name) type_refused (t ∷ []) ≡ None = rw s.first.1.0 at s.first.0 in
    let sound : type_refused t ≡ None = rw s.first.1.1 at passes in
    record { text = t.text; told = rw s.second.1 (named (type_word t.text) sound) }

-- the type of numbers of a scale that was named
number_sort_has : (c : NumberClaims) (scale : ScaleParts) (q : List Lexeme) (x : Sort) → Names (ScaleWord scale)
    → (mode_of_type (ScaleWord scale)).spells q x → IsSort x
number_sort_has c scale q x n s = rw s.second.1 (c.scale_is_told n.text scale n.told)

pub sort_has : (c : NumberClaims) (u : List Lexeme) (x : Sort) → sort.spells u x → IsSort x
unfolding sort
sort_has c u x s = by_word s.x (type_name_has s.p s.x s.first) s.second
  where
    by_word : (w : TypeWord) → Names w → (mode_of_type w).spells s.q x → IsSort x
    by_word FlagWord n r = rw r.1 (record {})
    by_word (ScaleWord scale) n r = number_sort_has c scale s.q x n r

-- ---- types spelled

type_name_spelled : (text : List ℕ) (w : TypeWord) → type_word text ≡ Some w
    → WordsSpell type_name (λ (v : TypeWord). v) (one kinds.Name text) w
unfolding type_name
type_name_spelled text w told =
    spell_made (spell_tested (is kinds.Name) type_refused kinds.Name text (λ t _ same. rw (same, told) refl)
    (spell_token kinds.Name text)) (λ t e.
    let same : t.text ≡ text = ap (λ (z : Word). z.text) e in
    rw (same, told) refl)

-- the keyword of a mode
one_mode : (k : Kind) → mode_heads k ≡ true → WordsSpell maybe_mode (λ (m : Mode). m) (keyword k ∷ []) (mode_word k)
unfolding maybe_mode mode
one_mode k there =
    spell_left mode_heads
    (spell_kind mode_heads k there (λ t kind. spell_give (mode_word t.kind) (rw kind refl)))

mode_spelled : (m : Mode) → WordsSpell maybe_mode (λ (m : Mode). m) (words_in (mode_pieces m)) m
unfolding maybe_mode mode_pieces key space
mode_spelled modes.Saturate = spell_right mode_heads (spell_give modes.Saturate refl)
mode_spelled modes.Wrap = one_mode kinds.Wrap refl
mode_spelled modes.Error = one_mode kinds.Error refl

-- the words of a type of numbers
sort_words : (scale : ScaleParts) (m : Mode)
    → words_in (sort_pieces (NumberSort scale m)) ≡ one kinds.Name (scale_bytes scale) ++ words_in (mode_pieces m)
unfolding sort_pieces scale_pieces
sort_words scale m = simp words_apart

pub sort_spelled : (c : NumberClaims) (x : Sort) → IsSort x
    → WordsSpell sort (λ (v : Sort). v) (words_in (sort_pieces x)) x
unfolding sort sort_pieces word_pieces
sort_spelled c FlagSort has =
    spell_then (type_name_spelled (codes "bool") FlagWord c.flag_is_told) (λ w e.
    subst (λ z. WordsSpell (mode_of_type z) (λ (v : Sort). v) [] FlagSort) (sym e) (spell_give FlagSort refl))
sort_spelled c (NumberSort scale m) has =
    spell_as (sort_words scale m)
    (spell_then (type_name_spelled (scale_bytes scale) (ScaleWord scale) (c.scale_is_read scale has).told) (λ w e.
    subst (λ z. WordsSpell (mode_of_type z) (λ (v : Sort). v) (words_in (mode_pieces m)) (NumberSort scale m)) (sym e)
    (spell_made (mode_spelled m) (λ n r. ap (NumberSort scale) r))))
