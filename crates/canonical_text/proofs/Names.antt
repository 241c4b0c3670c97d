-- Names and paths: what spelled ones have, and their canonical words spell them.
-- `x_has` says what is so of each x that tokens cut from a text spell, and `x_spelled` that the canonical words of an
-- x of
-- which that is so spell it.
use Rattle.std.proofs.Common.{List, [], ◌∷◌, map, refl, ap, sym, subst}
use Rattle.std.specs.List.{AllByRecursion, flat_map}
use Rattle.token_grammar.specs.declared.token.Kind.TheVariants as kinds
use Rattle.token_grammar.specs.Token.{Lexeme}
use Rattle.token_grammar.specs.Grammar.{many, many_spells, is}
use Rattle.chart_tree.specs.declared.name.NameText.{NameText}
use Rattle.chart_tree.specs.Trees.{Path}
use Rattle.chart_grammar.specs.Words.{name, step, path}
use Rattle.chart_print.specs.Pieces.{key}
use Rattle.chart_print.specs.Words.{word_pieces, name_pieces, step_pieces, path_pieces}
use Rattle.chart_print.specs.Places.{unplaced_name, unplaced_path}
use Rattle.canonical_text.specs.Words.{Word, words_in, WordsSpell}
use Rattle.canonical_text.specs.Claims.{AreCut}
use Rattle.canonical_text.specs.Terms.{IsNamed, IsPath}
use Rattle.canonical_text.proofs.Words.{words_in-append}
use Rattle.canonical_text.proofs.Cut.{cut_token, cut_first, cut_second, cut_item, cut_rest}
use Rattle.canonical_text.proofs.Spelled.{spell_token, spell_then, spell_more, spell_no_more, spell_made}
use Rattle.canonical_text.proofs.Keywords.{spell_word}

-- ---- what they have

pub name_has : (u : List Lexeme) (x : NameText) → AreCut u → name.spells u x → IsNamed x
unfolding name
name_has u x cut s =
    let c = cut_token kinds.Name s.p s.x (cut_first s cut) s.first in
    rw s.second.1 (c.0.name c.1)

step_has : (u : List Lexeme) (x : NameText) → AreCut u → step.spells u x → IsNamed x
unfolding step
step_has u x cut s = name_has s.q x (cut_second s cut) s.second

steps_have : (u : List Lexeme) (xs : List NameText) → AreCut u → many_spells step.spells u xs
    → AllByRecursion IsNamed xs
steps_have u [] cut s = record {}
steps_have u (x ∷ xs) cut s =
    (step_has s.p x (cut_item s cut) s.first, steps_have s.q xs (cut_rest s cut) s.second)

pub path_has : (u : List Lexeme) (x : Path) → AreCut u → path.spells u x → IsPath x
unfolding path many
path_has u x cut s =
    let others = cut_first s.second (cut_second s cut) in
    subst IsPath (sym s.second.second.1)
    (name_has s.p s.x (cut_first s cut) s.first, steps_have s.second.p s.second.x others s.second.first)

-- ---- what spells them

pub name_spelled : (x : NameText) → WordsSpell name unplaced_name (words_in (name_pieces x)) (unplaced_name x)
unfolding name word_pieces
name_spelled x =
    spell_made (spell_token kinds.Name x.text) (λ t looks.
    ap (λ (w : Word). unplaced_name (record { text = w.text; at = record { line = 0; column = 0 } })) looks)

step_spelled : (x : NameText) → WordsSpell step unplaced_name (words_in (step_pieces x)) (unplaced_name x)
unfolding step step_pieces key
step_spelled x = spell_word kinds.Slash (name_spelled x)

steps_spelled : (xs : List NameText)
    → WordsSpell (many (is kinds.Slash) step) (λ xs. map unplaced_name xs) (words_in (flat_map step_pieces xs))
    (map unplaced_name xs)
steps_spelled [] = spell_no_more (is kinds.Slash) step
steps_spelled (x ∷ xs) =
    rw (words_in-append (step_pieces x) (flat_map step_pieces xs))
    (spell_more (is kinds.Slash) (step_spelled x) (steps_spelled xs))

pub path_spelled : (x : Path) → IsPath x → WordsSpell path unplaced_path (words_in (path_pieces x)) (unplaced_path x)
unfolding path path_pieces
path_spelled [] has = absurd has
path_spelled (x ∷ xs) has =
    rw (words_in-append (name_pieces x) (flat_map step_pieces xs))
    (spell_then (name_spelled x) (λ first looks.
    spell_made (steps_spelled xs) (λ others same. rw (looks, same) refl)))
