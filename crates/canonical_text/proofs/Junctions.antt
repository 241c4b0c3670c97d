-- Junctions: what spelled ones have, and their canonical words spell them.
-- `x_has` says what is so of each x that tokens cut from a text spell, and `x_spelled` that the canonical words of an
-- x of
-- which that is so spell it.
use Rattle.std.proofs.Common.{◌≡◌, ℕ, ◌+◌, List, [], ◌∷◌, ◌++◌, map, refl, ap, sym, subst, ◌∙◌, arith}
use Rattle.std.specs.List.{AllByRecursion, flat_map}
use Rattle.token_grammar.specs.declared.token.Kind.TheVariants as kinds
use Rattle.token_grammar.specs.Token.{Lexeme}
use Rattle.token_grammar.specs.Grammar.{is, many_from}
use Rattle.token_grammar.proofs.Leaves.{good_token}
use Rattle.chart_tree.specs.Trees.{Trans, Junction}
use Rattle.chart_grammar.specs.Limits.{Counts, Counted, usual, after_junction}
use Rattle.chart_grammar.specs.Transitions.{trans_heads, junction_trans}
use Rattle.chart_grammar.specs.States.{values, counts_behind, junction_list, junction}
use Rattle.chart_print.specs.Words.{word_pieces}
use Rattle.chart_print.specs.Transitions.{trans_pieces}
use Rattle.chart_print.specs.Canonical.{comp_pieces, junction_trans_line, junction_pieces}
use Rattle.chart_print.specs.Places.{unplaced_trans, unplaced_junction}
use Rattle.canonical_text.specs.Words.{words_in, WordsSpell}
use Rattle.canonical_text.specs.Sizes.{◌⊕◌, none, sizes, size_of_trans, size_of_junction, IsWithin}
use Rattle.canonical_text.specs.Terms.{IsTrans, IsJunction}
use Rattle.canonical_text.specs.Claims.{AreCut, Adds, counted, behind, ExpressionClaims}
use Rattle.canonical_text.proofs.Words.{head_words, end_words, one, keyword, words_apart}
use Rattle.canonical_text.proofs.Cut.{cut_first, cut_second, cut_item, cut_rest}
use Rattle.canonical_text.proofs.Counts.{sum-assoc, sum-none, one_junction}
use Rattle.canonical_text.proofs.Room.{junction_within, junction_room}
use Rattle.canonical_text.proofs.Spelled.{spell_then, spell_give, spell_end, spell_next, spell_as}
use Rattle.canonical_text.proofs.Keywords.{spell_word, spell_allowed_word}
use Rattle.canonical_text.proofs.Allowed.{was_allowed}
use Rattle.canonical_text.proofs.Transitions.{junction_trans_has, junction_trans_spelled}

-- ---- what spelled junctions have

-- one part after the other
adds_both : (n a m b k : Counts) → Adds n a m → Adds m b k → Adds n (a ⊕ b) k
adds_both n a m b k p q = record {
  count = q.count ∙ (ap (λ (z : Counts). z ⊕ b) p.count ∙ sum-assoc n a b);
  within = λ w. q.within (p.within w);
}

-- a junction's transitions
list_has : (c : ExpressionClaims) (n : Counts) (u : List Lexeme) (x : List (Counted Trans)) → AreCut u
    → (junction_list usual n).spells u x
    → AllByRecursion IsTrans (values x) × Adds n (sizes size_of_trans (values x)) (counts_behind n x)
unfolding junction_list many_from
list_has c n u [] cut s = (record {}, record { count = sym (sum-none n); within = λ w. w })
list_has c n u (x ∷ xs) cut s =
    let here = junction_trans_has c n s.p x (cut_item s cut) s.first in
    let others = list_has c x.counts s.q xs (cut_rest s cut) s.second in
    ((here.0, others.0), adds_both n _ x.counts _ (counts_behind x.counts xs) here.1 others.1)

pub junction_has : (c : ExpressionClaims) (n : Counts) (u : List Lexeme) (x : Counted Junction) → AreCut u
    → (junction usual n).spells u x
    → IsJunction x.value × Adds n (size_of_junction x.value) x.counts
unfolding junction
junction_has c n u x cut s =
    let named = s.second in
    let list = named.second.second in
    let cut_named = cut_second s cut in
    let cut_list = cut_second named.second (cut_second named cut_named) in
    let free = was_allowed (is kinds.Junction) _ s.p ((good_token kinds.Junction).begins s.p s.x s.first.1) s.first.0 in
    let inside = list_has c (after_junction n) list.p list.x (cut_first list cut_list) list.first in
    let adds : Adds n (after_junction none ⊕ sizes size_of_trans (values list.x))
    (counts_behind (after_junction n) list.x) = record {
      count = inside.1.count ∙ one_junction n (sizes size_of_trans (values list.x));
      within = λ w. inside.1.within (junction_within n free w);
    } in
    rw list.second.second.1
    (record { name = c.name_has named.p named.x (cut_first named cut_named) named.first; list = inside.0 }, adds)

-- ---- junctions spelled

-- transitions, each with the counts after it
abbrev counted_list : Counts → List Trans → List (Counted Trans)
counted_list n [] = []
counted_list n (x ∷ xs) = behind (unplaced_trans x) (n ⊕ size_of_trans x) ∷ counted_list (n ⊕ size_of_trans x) xs

-- what looks like them has their values, and the counts after all of them
record IsList (n : Counts) (list : List (Counted Trans)) (xs : List Trans) : Type 0 where
  values : map unplaced_trans (values list) ≡ map unplaced_trans xs
  counts : counts_behind n list ≡ n ⊕ sizes size_of_trans xs

-- a counted list without its places is the list
is_list : (n : Counts) (list : List (Counted Trans)) (xs : List Trans)
    → map (counted unplaced_trans) list ≡ counted_list n xs → IsList n list xs
is_list n [] [] e = record { values = refl; counts = sym (sum-none n) }
is_list n [] (x ∷ xs) e = absurd cc
is_list n (v ∷ vs) [] e = absurd cc
is_list n (v ∷ vs) (x ∷ xs) e =
    let here : counted unplaced_trans v ≡ behind (unplaced_trans x) (n ⊕ size_of_trans x) = cc in
    let others : map (counted unplaced_trans) vs ≡ counted_list (n ⊕ size_of_trans x) xs = cc in
    let rest = is_list (n ⊕ size_of_trans x) vs xs others in
    let value : unplaced_trans v.value ≡ unplaced_trans x = ap (λ (z : Counted Trans). z.value) here in
    let counts : v.counts ≡ n ⊕ size_of_trans x = ap (λ (z : Counted Trans). z.counts) here in
    record {
      values = rw (value, rest.values) refl;
      counts = rw counts (rest.counts ∙ sum-assoc n (size_of_trans x) (sizes size_of_trans xs));
    }

-- the words of lines, the first line first
line_words : (level : ℕ) (x : Trans) (xs : List Trans)
    → words_in (flat_map (junction_trans_line level) (x ∷ xs)) ≡ words_in (trans_pieces x) ++ words_in
    (flat_map (junction_trans_line level) xs)
unfolding junction_trans_line
line_words level x xs = simp words_apart

-- the lines of transitions spell them after m things, as they do after n
abbrev ListSpells : ℕ → Counts → List Trans → Counts → Type 0
ListSpells level n xs m =
    WordsSpell (junction_list usual m) (λ list. map (counted unplaced_trans) list)
    (words_in (flat_map (junction_trans_line level) xs))
    (counted_list n xs)

list_spelled : (c : ExpressionClaims) (level : ℕ) (n : Counts) (xs : List Trans) → AllByRecursion IsTrans xs
    → IsWithin (n ⊕ sizes size_of_trans xs)
    → ListSpells level n xs n
unfolding junction_list
list_spelled c level n [] each within = spell_end (λ z. trans_heads) (junction_trans usual) (λ z t. t.counts) n
list_spelled c level n (x ∷ xs) each within =
    spell_as (line_words level x xs)
    (spell_next (λ z. trans_heads) (junction_trans usual) (λ z t. t.counts) n
    (junction_trans_spelled c n x each.0 (omega arith))
    (λ v e.
    subst (ListSpells level (n ⊕ size_of_trans x) xs)
    (sym (ap (λ (z : Counted Trans). z.counts) e))
    (list_spelled c level (n ⊕ size_of_trans x) xs each.1 (omega arith))))

-- the words of a junction one by one
junction_words : (level : ℕ) (x : Junction) → words_in (junction_pieces level x)
    ≡ keyword kinds.Junction ∷ (one kinds.Name x.name.text ++ (keyword kinds.OpenBrace
    ∷ (words_in (flat_map (junction_trans_line (level + 1)) x.list) ++ keyword kinds.CloseBrace ∷ [])))
unfolding junction_pieces comp_pieces
junction_words level x = simp (words_apart, head_words, end_words)

pub junction_spelled : (c : ExpressionClaims) (level : ℕ) (n : Counts) (x : Junction) → IsJunction x
    → IsWithin (n ⊕ size_of_junction x)
    → WordsSpell (junction usual n) (counted unplaced_junction) (words_in (junction_pieces level x))
    (behind (unplaced_junction x) (n ⊕ size_of_junction x))
unfolding junction word_pieces
junction_spelled c level n x has within =
    spell_as (junction_words level x)
    (spell_allowed_word kinds.Junction (junction_room n (omega arith))
    (spell_then (c.name_spelled x.name) (λ name l.
    spell_word kinds.OpenBrace
    (spell_then (list_spelled c (level + 1) (after_junction n) x.list has.list (omega arith)) (λ list r.
    let same = is_list (after_junction n) list x.list r in
    spell_word kinds.CloseBrace
    (spell_give
    (record { value = record { name = name; list = values list }; counts = counts_behind (after_junction n) list })
    (rw (l, same.values, same.counts, ← one_junction n (sizes size_of_trans x.list)) refl)))))))
