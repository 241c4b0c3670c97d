-- Declarations of events and data: what spelled ones have, and their canonical words spell them.
-- `x_has` says what is so of each x that tokens cut from a text spell, and `x_spelled` that the canonical words of an
-- x of
-- which that is so spell it.
use Rattle.std.proofs.Common.{◌≡◌, true, List, [], ◌∷◌, ◌++◌, refl, sym, subst}
use Rattle.token_grammar.specs.declared.token.Kind.TheVariants as kinds
use Rattle.token_grammar.specs.Token.{Lexeme}
use Rattle.token_grammar.specs.Grammar.{is}
use Rattle.token_grammar.proofs.Leaves.{good_token, good_one_of}
use Rattle.chart_tree.specs.declared.name.NameText.{NameText}
use Rattle.chart_tree.specs.declared.chart.EventText.{EventText}
use Rattle.chart_tree.specs.declared.chart.EventWord.{EventWord}
use Rattle.chart_tree.specs.declared.chart.EventWord.TheVariants as event_words
use Rattle.chart_tree.specs.declared.chart.VarWord.{VarWord}
use Rattle.chart_tree.specs.declared.chart.VarWord.TheVariants as var_words
use Rattle.chart_tree.specs.Trees.{Sort, Var}
use Rattle.chart_grammar.specs.Limits.{Counts, usual, after_event, after_variable}
use Rattle.chart_grammar.specs.Words.{name}
use Rattle.chart_grammar.specs.Types.{sort}
use Rattle.chart_grammar.specs.Declarations.{kind_heads, event_word, event, maybe_init, var_word, variable}
use Rattle.chart_print.specs.Words.{word_pieces, sort_pieces}
use Rattle.chart_print.specs.Declarations.{event_kind, event_pieces, init_pieces, var_kind, typed_pieces, var_pieces}
use Rattle.chart_print.specs.Places.{unplaced_init, unplaced_event, unplaced_var}
use Rattle.canonical_text.specs.Words.{words_in, WordsSpell}
use Rattle.canonical_text.specs.Sizes.{IsWithin}
use Rattle.canonical_text.specs.Terms.{IsNamed, IsVar}
use Rattle.canonical_text.specs.Claims.{AreCut, NumberClaims, ExpressionClaims}
use Rattle.canonical_text.proofs.Words.{one, keyword, words_apart}
use Rattle.canonical_text.proofs.Cut.{cut_first, cut_second}
use Rattle.canonical_text.proofs.Room.{event_within, event_room, variable_within, variable_room}
use Rattle.canonical_text.proofs.Spelled.{spell_then, spell_give, spell_as}
use Rattle.canonical_text.proofs.Keywords.{spell_word, spell_allowed_word, spell_kind, spell_allowed_kind}
use Rattle.canonical_text.proofs.Allowed.{was_allowed}
use Rattle.canonical_text.proofs.Sorts.{sort_has, sort_spelled}
use Rattle.canonical_text.proofs.Inits.{maybe_init_has, maybe_init_spelled}

-- ---- events

-- its name is one, and there is room for it
pub event_has : (d : ExpressionClaims) (n : Counts) (u : List Lexeme) (x : EventText) → AreCut u
    → (event usual n).spells u x
    → IsNamed x.name × (IsWithin n → IsWithin (after_event n))
unfolding event
event_has d n u x cut s =
    let named = s.second.second in
    let cut_named = cut_second s.second (cut_second s cut) in
    let free = was_allowed (is kinds.Event) _ s.p ((good_token kinds.Event).begins s.p s.x s.first.1) s.first.0 in
    let has : IsNamed named.x = d.name_has named.p named.x (cut_first named cut_named) named.first in
    (rw named.second.second.1 has, event_within n free)

-- each keyword may stand there, and tells its word
event_there : (w : EventWord) → kind_heads (event_kind w) ≡ true
event_there event_words.Input = refl
event_there event_words.Local = refl
event_there event_words.Output = refl

-- the word of an event tells who raises it
event_told : (w : EventWord) → event_word (event_kind w) ≡ w
event_told event_words.Input = refl
event_told event_words.Local = refl
event_told event_words.Output = refl

-- the words of an event one by one
event_words_in : (x : EventText) → words_in (event_pieces x)
    ≡ keyword kinds.Event ∷ (keyword (event_kind x.kind) ∷ (one kinds.Name x.name.text ++ keyword kinds.Semicolon ∷ []))
unfolding event_pieces
event_words_in x = simp words_apart

pub event_spelled : (d : ExpressionClaims) (n : Counts) (x : EventText) → IsNamed x.name → IsWithin (after_event n)
    → WordsSpell (event usual n) unplaced_event (words_in (event_pieces x)) (unplaced_event x)
unfolding event word_pieces
event_spelled d n x has within =
    spell_as (event_words_in x)
    (spell_allowed_word kinds.Event (event_room n within)
    (spell_kind kind_heads (event_kind x.kind) (event_there x.kind) (λ t kind.
    spell_then (d.name_spelled x.name) (λ name l.
    spell_word kinds.Semicolon
    (spell_give (record { kind = event_word t.kind; name = name }) (rw (kind, event_told x.kind, l) refl))))))

-- ---- data

pub variable_has : (c : NumberClaims) (d : ExpressionClaims) (n : Counts) (u : List Lexeme) (x : Var) → AreCut u
    → (variable usual n).spells u x
    → IsVar x × (IsWithin n → IsWithin (after_variable n))
unfolding variable
variable_has c d n u x cut s =
    let named = s.second in
    let cut_named = cut_second s cut in
    let typed = named.second.second in
    let cut_typed = cut_second named.second (cut_second named cut_named) in
    let valued = typed.second in
    let cut_valued = cut_second typed cut_typed in
    let free = was_allowed kind_heads _ s.p ((good_one_of kind_heads).begins s.p s.x s.first.1) s.first.0 in
    let has : IsVar (record { kind = var_word s.x.kind; name = named.x; sort = typed.x; init = valued.x }) = record {
      name = d.name_has named.p named.x (cut_first named cut_named) named.first;
      sort = sort_has c typed.p typed.x typed.first;
      init = maybe_init_has c d typed.x named.x.at valued.p valued.x (cut_first valued cut_valued) valued.first;
    } in
    (rw valued.second.second.1 has, variable_within n free)

-- each keyword may stand there, and tells its word
var_there : (w : VarWord) → kind_heads (var_kind w) ≡ true
var_there var_words.Input = refl
var_there var_words.Output = refl
var_there var_words.Local = refl

-- the word of a datum tells who sets it
var_told : (w : VarWord) → var_word (var_kind w) ≡ w
var_told var_words.Input = refl
var_told var_words.Output = refl
var_told var_words.Local = refl

-- the words of a datum one by one
var_words_in : (x : Var) → words_in (var_pieces x)
    ≡ keyword (var_kind x.kind) ∷ (one kinds.Name x.name.text ++ (keyword kinds.Colon
    ∷ (words_in (sort_pieces x.sort) ++ (words_in (init_pieces x.sort x.init) ++ keyword kinds.Semicolon ∷ []))))
unfolding var_pieces typed_pieces
var_words_in x = simp words_apart

pub variable_spelled : (c : NumberClaims) (d : ExpressionClaims) (n : Counts) (x : Var) → IsVar x
    → IsWithin (after_variable n)
    → WordsSpell (variable usual n) unplaced_var (words_in (var_pieces x)) (unplaced_var x)
unfolding variable word_pieces
variable_spelled c d n x has within =
    spell_as (var_words_in x)
    (spell_allowed_kind kind_heads (var_kind x.kind) (var_there x.kind) (variable_room n within) (λ t kind.
    spell_then (d.name_spelled x.name) (λ name l.
    spell_word kinds.Colon
    (spell_then (sort_spelled c x.sort has.sort) (λ sort e.
    spell_then (spell_init name sort e) (λ init r.
    spell_word kinds.Semicolon
    (spell_give (record { kind = var_word t.kind; name = name; sort = sort; init = init })
    (rw (kind, var_told x.kind, l, e, r) refl))))))))
  where
    spell_init : (name : NameText) (sort : Sort) → sort ≡ x.sort
        → WordsSpell (maybe_init usual sort name.at) unplaced_init (words_in (init_pieces x.sort x.init))
        (unplaced_init x.init)
    spell_init name sort e =
        subst (λ z. WordsSpell (maybe_init usual z name.at) unplaced_init (words_in (init_pieces x.sort x.init))
        (unplaced_init x.init))
        (sym e) (maybe_init_spelled d x.sort name.at x.init has.init)
