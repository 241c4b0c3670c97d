-- Transitions: what spelled ones have, and their canonical words spell them.
-- `x_has` says what is so of each x that tokens cut from a text spell, and `x_spelled` that the canonical words of an
-- x of
-- which that is so spell it.
use Rattle.std.proofs.Common.{◌≡◌, List, [], ◌∷◌, ◌++◌, Option, Some, None, inl, inr, refl, ap, subst, ◌∙◌, eq-eqb}
use Rattle.std.proofs.Common.{arith}
use Rattle.std.specs.Option.{option_map}
use Rattle.token_grammar.specs.declared.token.Kind.{Kind}
use Rattle.token_grammar.specs.declared.token.Kind.TheVariants as kinds
use Rattle.token_grammar.specs.declared.token.Span.{Span}
use Rattle.token_grammar.specs.Token.{Lexeme}
use Rattle.token_grammar.specs.Grammar.{is, first_place}
use Rattle.token_grammar.proofs.Leaves.{good_one_of}
use Rattle.chart_tree.specs.declared.name.NameText.{NameText}
use Rattle.chart_tree.specs.Trees.{Stmt, Dest, ToState, ToJunction, Guard, Trans}
use Rattle.chart_grammar.specs.Limits.{Counts, Counted, usual, transition_refused, after_transition}
use Rattle.chart_grammar.specs.Words.{name, path}
use Rattle.chart_grammar.specs.Transitions.{after_stmts, to_junction, to_state, dest, guard, action, maybe_event}
use Rattle.chart_grammar.specs.Transitions.{maybe_guard, maybe_block, maybe_action, trans, trans_heads}
use Rattle.chart_grammar.specs.Transitions.{junction_trans, keyword_trans}
use Rattle.chart_grammar.proofs.TransitionLaws.{fine_trans}
use Rattle.chart_print.specs.Pieces.{kind_bytes}
use Rattle.chart_print.specs.Transitions.{trigger_pieces, guard_pieces, condition_pieces, action_pieces, dest_pieces}
use Rattle.chart_print.specs.Transitions.{arrow_pieces, trans_pieces}
use Rattle.chart_print.specs.Places.{unplaced_name, unplaced_block, unplaced_dest, unplaced_guard, unplaced_trans}
use Rattle.canonical_text.specs.Words.{words_in, WordsSpell}
use Rattle.canonical_text.specs.Sizes.{◌⊕◌, size_of_block, size_of_trans, IsWithin}
use Rattle.canonical_text.specs.Terms.{IsNamed, IsExpr, IsBlock, IsDest, IsTrans, IfThere}
use Rattle.canonical_text.specs.Claims.{AreCut, Adds, counted, behind, ExpressionClaims}
use Rattle.canonical_text.proofs.Words.{keyword, words_apart}
use Rattle.canonical_text.proofs.Cut.{cut_first, cut_second}
use Rattle.canonical_text.proofs.Counts.{same_length, one_transition}
use Rattle.canonical_text.proofs.Room.{transition_within, transition_room}
use Rattle.canonical_text.proofs.Spelled.{spell_token, spell_then, spell_give, spell_left, spell_right}
use Rattle.canonical_text.proofs.Spelled.{spell_allowed, spell_at_first, spell_as, spell_none, spell_some}
use Rattle.canonical_text.proofs.Spelled.{spell_made}
use Rattle.canonical_text.proofs.Keywords.{spell_word, spell_allowed_kind}
use Rattle.canonical_text.proofs.Allowed.{optional_has, was_allowed}
use Rattle.canonical_text.proofs.Statements.{block_has, block_spelled}

-- ---- what spelled transitions have

guard_has : (c : ExpressionClaims) (u : List Lexeme) (x : Guard) → AreCut u → (guard usual).spells u x → IsExpr x.expr
unfolding guard
guard_has c u x cut s =
    let inner = s.second in
    rw inner.second.second.1 (c.expr_has inner.p inner.x (cut_first inner (cut_second s cut)) inner.first)

-- a missing block is an empty one
no_block : (n : Counts) → IsBlock [] × (IsWithin n → IsWithin (n ⊕ size_of_block []))
no_block n = (record { each = record {}; few = omega arith }, λ w. omega arith)

condition_has : (c : ExpressionClaims) (n : Counts) (u : List Lexeme) (x : List Stmt) → AreCut u
    → (maybe_block usual n).spells u x
    → IsBlock x × (IsWithin n → IsWithin (n ⊕ size_of_block x))
unfolding maybe_block
condition_has c n u x cut (inl s) = block_has c n u x cut s
condition_has c n u x cut (inr s) = rw s.1 (no_block n)

action_has : (c : ExpressionClaims) (n : Counts) (u : List Lexeme) (x : List Stmt) → AreCut u
    → (maybe_action usual n).spells u x
    → IsBlock x × (IsWithin n → IsWithin (n ⊕ size_of_block x))
unfolding maybe_action action
action_has c n u x cut (inl s) = block_has c n s.q x (cut_second s cut) s.second
action_has c n u x cut (inr s) = rw s.1 (no_block n)

dest_has : (c : ExpressionClaims) (u : List Lexeme) (x : Dest) → AreCut u → dest.spells u x → IsDest x
unfolding dest to_junction to_state
dest_has c u x cut (inl s) =
    let named = s.second in
    rw named.second.1 (c.name_has named.p named.x (cut_first named (cut_second s cut)) named.first)
dest_has c u x cut (inr s) = rw s.second.1 (c.path_has s.p s.x (cut_first s cut) s.first)

-- a transition after n things, and the things after it
record Has (n : Counts) (x : Counted Trans) : Type 0 where
  is : IsTrans x.value
  count : x.counts ≡ after_stmts (after_stmts n x.value.cond) x.value.act
  within : IsWithin n → IsWithin x.counts

-- where one block keeps within the limits, and then the other, so do both
behind_both : (n : Counts) (cond act : List Stmt) → (IsWithin n → IsWithin (n ⊕ size_of_block cond))
    → (IsWithin (after_stmts n cond) → IsWithin (after_stmts n cond ⊕ size_of_block act))
    → IsWithin n → IsWithin (after_stmts (after_stmts n cond) act)
behind_both n cond act first second w =
    let front = first w in
    let back = second (omega arith) in
    omega arith

-- whatever place it is given
placed_has : (c : ExpressionClaims) (n : Counts) (at : Span) (u : List Lexeme) (x : Counted Trans) → AreCut u
    → (trans usual n at).spells u x → Has n x
unfolding trans maybe_event maybe_guard
placed_has c n at u x cut a =
    let b = a.second in
    let d = b.second in
    let e = d.second in
    let arrow = e.second in
    let f = arrow.second in
    let cut_b = cut_second a cut in
    let cut_d = cut_second b cut_b in
    let cut_e = cut_second d cut_d in
    let cut_f = cut_second arrow (cut_second e cut_e) in
    let cond = condition_has c n d.p d.x (cut_first d cut_d) d.first in
    let act = action_has c (after_stmts n d.x) e.p e.x (cut_first e cut_e) e.first in
    let is : IsTrans (record { at = at; event = a.x; guard = b.x; cond = d.x; act = e.x; dest = f.x }) = record {
      event = optional_has IsNamed (is kinds.Name) name a.p a.x (cut_first a cut) c.name_has a.first;
      guard = optional_has (λ (g : Guard). IsExpr g.expr) (is kinds.OpenBracket) (guard usual) b.p b.x
          (cut_first b cut_b) (guard_has c) b.first;
      cond = cond.0;
      act = act.0;
      dest = dest_has c f.p f.x (cut_first f cut_f) f.first;
    } in
    let within = behind_both n d.x e.x cond.1 act.1 in
    rw f.second.second.1 (record { is = is; count = refl; within = within })

-- a transition that was allowed adds what is in it
adds : (n : Counts) (x : Counted Trans) → transition_refused usual n ≡ None → Has (after_transition n) x
    → IsTrans x.value × Adds n (size_of_trans x.value) x.counts
adds n x free h = (
  h.is,
  record {
    count = h.count ∙ one_transition n x.value.cond x.value.act;
    within = λ w. h.within (transition_within n free w);
  },
)

pub trans_has : (c : ExpressionClaims) (k : Kind) (n : Counts) (u : List Lexeme) (x : Counted Trans) → AreCut u
    → (keyword_trans usual (is k) n).spells u x
    → IsTrans x.value × Adds n (size_of_trans x.value) x.counts
unfolding keyword_trans
trans_has c k n u x cut s =
    let free = was_allowed (is k) _ s.p ((good_one_of (is k)).begins s.p s.x s.first.1) s.first.0 in
    adds n x free (placed_has c (after_transition n) s.x.at s.q x (cut_second s cut) s.second)

pub junction_trans_has : (c : ExpressionClaims) (n : Counts) (u : List Lexeme) (x : Counted Trans) → AreCut u
    → (junction_trans usual n).spells u x
    → IsTrans x.value × Adds n (size_of_trans x.value) x.counts
unfolding junction_trans
junction_trans_has c n u x cut s =
    let free = was_allowed trans_heads _ u
    ((fine_trans usual (after_transition n) (first_place u)).good.begins u x s.1) s.0 in
    adds n x free (placed_has c (after_transition n) (first_place u) u x cut s.1)

-- ---- transitions spelled

trigger_spelled : (c : ExpressionClaims) (x : Option NameText)
    → WordsSpell maybe_event (option_map unplaced_name) (words_in (trigger_pieces x)) (option_map unplaced_name x)
unfolding maybe_event trigger_pieces
trigger_spelled c None = spell_none (is kinds.Name) name
trigger_spelled c (Some x) = spell_as (simp words_apart) (spell_some (is kinds.Name) (c.name_spelled x))

guard_spelled : (c : ExpressionClaims) (x : Option Guard) → IfThere (λ (g : Guard). IsExpr g.expr) x
    → WordsSpell (maybe_guard usual) (option_map unplaced_guard) (words_in (guard_pieces x))
    (option_map unplaced_guard x)
unfolding maybe_guard guard guard_pieces
guard_spelled c None has = spell_none (is kinds.OpenBracket) (guard usual)
guard_spelled c (Some x) has =
    spell_as (simp words_apart)
    (spell_some (is kinds.OpenBracket)
    (spell_then (spell_token kinds.OpenBracket (kind_bytes kinds.OpenBracket)) (λ t e.
    spell_then (c.expr_spelled x.expr has) (λ v l.
    spell_word kinds.CloseBracket (spell_give (record { expr = v; at = t.at }) (rw l refl))))))

condition_spelled : (c : ExpressionClaims) (n : Counts) (x : List Stmt) → IsBlock x → IsWithin (n ⊕ size_of_block x)
    → WordsSpell (maybe_block usual n) unplaced_block (words_in (condition_pieces x)) (unplaced_block x)
unfolding maybe_block condition_pieces
condition_spelled c n [] has within = spell_right (is kinds.OpenBrace) (spell_give [] refl)
condition_spelled c n (x ∷ xs) has within =
    spell_as (simp words_apart) (spell_left (is kinds.OpenBrace) (block_spelled c n (x ∷ xs) has within))

action_spelled : (c : ExpressionClaims) (n : Counts) (x : List Stmt) → IsBlock x → IsWithin (n ⊕ size_of_block x)
    → WordsSpell (maybe_action usual n) unplaced_block (words_in (action_pieces x)) (unplaced_block x)
unfolding maybe_action action action_pieces
action_spelled c n [] has within = spell_right (is kinds.Slash) (spell_give [] refl)
action_spelled c n (x ∷ xs) has within =
    spell_as (simp words_apart)
    (spell_left (is kinds.Slash) (spell_word kinds.Slash (block_spelled c n (x ∷ xs) has within)))

dest_spelled : (c : ExpressionClaims) (x : Dest) → IsDest x
    → WordsSpell dest unplaced_dest (words_in (dest_pieces x)) (unplaced_dest x)
unfolding dest to_state to_junction dest_pieces
dest_spelled c (ToState path) has =
    spell_right (is kinds.At) (spell_made (c.path_spelled path has) (λ v l. ap ToState l))
dest_spelled c (ToJunction name) has =
    spell_left (is kinds.At)
    (spell_as (simp words_apart) (spell_word kinds.At (spell_made (c.name_spelled name) (λ v l. ap ToJunction l))))

-- the words of an arrow and a destination
arrow_words : (x : Dest)
    → words_in (arrow_pieces x) ≡ keyword kinds.Arrow ∷ (words_in (dest_pieces x) ++ keyword kinds.Semicolon ∷ [])
unfolding arrow_pieces
arrow_words x = simp words_apart

-- the words of a transition, part by part
trans_words : (x : Trans) → words_in (trans_pieces x)
    ≡ words_in (trigger_pieces x.event) ++ (words_in (guard_pieces x.guard) ++ (words_in (condition_pieces x.cond)
    ++ (words_in (action_pieces x.act) ++ words_in (arrow_pieces x.dest))))
unfolding trans_pieces
trans_words x = simp words_apart

-- a transition, whatever place it is given
placed_spelled : (c : ExpressionClaims) (n : Counts) (at : Span) (x : Trans) → IsTrans x
    → IsWithin (after_stmts (after_stmts n x.cond) x.act)
    → WordsSpell (trans usual n at) (counted unplaced_trans) (words_in (trans_pieces x))
    (behind (unplaced_trans x) (after_stmts (after_stmts n x.cond) x.act))
unfolding trans
placed_spelled c n at x has within =
    spell_as (trans_words x)
    (spell_then (trigger_spelled c x.event) (λ event l1.
    spell_then (guard_spelled c x.guard has.guard) (λ guard l2.
    spell_then (condition_spelled c n x.cond has.cond (omega arith)) (λ cond l3.
    let few = same_length cond x.cond l3 in
    spell_then (action_spelled c (after_stmts n cond) x.act has.act (omega arith)) (λ act l4.
    let few' = same_length act x.act l4 in
    spell_as (arrow_words x.dest)
    (spell_word kinds.Arrow
    (spell_then (dest_spelled c x.dest has.dest) (λ dest l5.
    spell_word kinds.Semicolon
    (spell_give (record {
      value = record { at = at; event = event; guard = guard; cond = cond; act = act; dest = dest };
      counts = after_stmts (after_stmts n cond) act;
    }) (rw (l1, l2, l3, l4, l5, few, few') refl))))))))))

-- a transition that is allowed, and the counts after it
allowed_spelled : (c : ExpressionClaims) (n : Counts) (at : Span) (x : Trans) → IsTrans x
    → IsWithin (n ⊕ size_of_trans x)
    → WordsSpell (trans usual (after_transition n) at) (counted unplaced_trans) (words_in (trans_pieces x))
    (behind (unplaced_trans x) (n ⊕ size_of_trans x))
allowed_spelled c n at x has within =
    let sum = one_transition n x.cond x.act in
    let room : IsWithin (after_stmts (after_stmts (after_transition n) x.cond) x.act) = rw sum within in
    subst (λ m. WordsSpell (trans usual (after_transition n) at) (counted unplaced_trans) (words_in (trans_pieces x))
    (behind (unplaced_trans x) m))
    sum (placed_spelled c (after_transition n) at x has room)

-- where there is room for a transition, one more isn't refused
is_allowed : (n : Counts) (x : Trans) → IsWithin (n ⊕ size_of_trans x) → transition_refused usual n ≡ None
is_allowed n x within = transition_room n (omega arith)

pub trans_spelled : (c : ExpressionClaims) (k : Kind) (n : Counts) (x : Trans) → IsTrans x
    → IsWithin (n ⊕ size_of_trans x)
    → WordsSpell (keyword_trans usual (is k) n) (counted unplaced_trans) (keyword k ∷ words_in (trans_pieces x))
    (behind (unplaced_trans x) (n ⊕ size_of_trans x))
unfolding keyword_trans
trans_spelled c k n x has within =
    spell_allowed_kind (is k) k (eq-eqb _ _ refl) (is_allowed n x within)
    (λ t kind. allowed_spelled c n t.at x has within)

pub junction_trans_spelled : (c : ExpressionClaims) (n : Counts) (x : Trans) → IsTrans x
    → IsWithin (n ⊕ size_of_trans x)
    → WordsSpell (junction_trans usual n) (counted unplaced_trans) (words_in (trans_pieces x))
    (behind (unplaced_trans x) (n ⊕ size_of_trans x))
unfolding junction_trans
junction_trans_spelled c n x has within =
    spell_allowed trans_heads (is_allowed n x within)
    (spell_at_first (λ at. allowed_spelled c n at x has within))
