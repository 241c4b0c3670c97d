-- Statements and blocks of statements: what spelled ones have, and their canonical words spell them.
-- `x_has` says what is so of each x that tokens cut from a text spell, and `x_spelled` that the canonical words of an
-- x of
-- which that is so spell it.
use Rattle.std.proofs.Common.{◌≡◌, ◌+◌, ◌≤◌, List, [], ◌∷◌, ◌++◌, length, Option, Some, None, inl, inr, refl, ap, arith}
use Rattle.std.specs.Option.{option_map}
use Rattle.std.specs.List.{AllByRecursion, flat_map}
use Rattle.flow_base.specs.declared.chart_limits.TheConstants.{STATEMENT_LIMIT, ITEM_LIMIT}
use Rattle.token_grammar.specs.declared.token.Kind.TheVariants as kinds
use Rattle.token_grammar.specs.Token.{Lexeme}
use Rattle.token_grammar.specs.Grammar.{is, many_from}
use Rattle.chart_tree.specs.declared.name.NameText.{NameText}
use Rattle.chart_tree.specs.Trees.{Path, Expr, Stmt, Assign, Send, Emit}
use Rattle.chart_grammar.specs.Limits.{Counts, usual}
use Rattle.chart_grammar.specs.Transitions.{assign, target, maybe_target, send, emit, stmt_heads, stmt, Before}
use Rattle.chart_grammar.specs.Transitions.{after_stmt, next_stmt, stmts, block}
use Rattle.chart_grammar.proofs.TransitionLaws.{fine_stmt}
use Rattle.chart_print.specs.Pieces.{key, space}
use Rattle.chart_print.specs.Words.{word_pieces}
use Rattle.chart_print.specs.Transitions.{target_pieces, stmt_pieces, block_stmt_pieces, block_pieces}
use Rattle.chart_print.specs.Places.{unplaced_path, unplaced_stmt, unplaced_block}
use Rattle.canonical_text.specs.Words.{words_in, WordsSpell}
use Rattle.canonical_text.specs.Sizes.{◌⊕◌, size_of_block, IsWithin}
use Rattle.canonical_text.specs.Terms.{IsPath, IsExpr, IsStmt, IsBlock, IfThere}
use Rattle.canonical_text.specs.Claims.{AreCut, ExpressionClaims}
use Rattle.canonical_text.proofs.Words.{words_in-append, keyword, words_apart}
use Rattle.canonical_text.proofs.Cut.{cut_first, cut_second, cut_item, cut_rest}
use Rattle.canonical_text.proofs.Room.{had_statement_room, statement_room}
use Rattle.canonical_text.proofs.Spelled.{spell_then, spell_give, spell_left, spell_right, spell_allowed, spell_end}
use Rattle.canonical_text.proofs.Spelled.{spell_next, spell_as, spell_none, spell_some}
use Rattle.canonical_text.proofs.Keywords.{spell_word}
use Rattle.canonical_text.proofs.Allowed.{optional_has, was_allowed}

-- ---- what spelled statements have

assign_has : (c : ExpressionClaims) (u : List Lexeme) (x : Stmt) → AreCut u → (assign usual).spells u x → IsStmt x
unfolding assign
assign_has c u x cut s =
    let equals = s.second in
    let value = equals.second in
    let name = c.name_has s.p s.x (cut_first s cut) s.first in
    let expr = c.expr_has value.p value.x (cut_first value (cut_second equals (cut_second s cut))) value.first in
    rw value.second.second.1 (name, expr)

target_has : (c : ExpressionClaims) (u : List Lexeme) (x : Path) → AreCut u → target.spells u x → IsPath x
unfolding target
target_has c u x cut s = c.path_has s.q x (cut_second s cut) s.second

send_has : (c : ExpressionClaims) (u : List Lexeme) (x : Stmt) → AreCut u → send.spells u x → IsStmt x
unfolding send maybe_target
send_has c u x cut s =
    let named = s.second in
    let to = named.second in
    let behind = cut_second s cut in
    let name = c.name_has named.p named.x (cut_first named behind) named.first in
    let path = optional_has IsPath (is kinds.To) target to.p to.x (cut_first to (cut_second named behind))
    (target_has c) to.first in
    rw to.second.second.1 (name, path)

emit_has : (c : ExpressionClaims) (u : List Lexeme) (x : Stmt) → AreCut u → emit.spells u x → IsStmt x
unfolding emit
emit_has c u x cut s =
    let named = s.second in
    let name = c.name_has named.p named.x (cut_first named (cut_second s cut)) named.first in
    rw named.second.second.1 name

stmt_has : (c : ExpressionClaims) (u : List Lexeme) (x : Stmt) → AreCut u → (stmt usual).spells u x → IsStmt x
unfolding stmt
stmt_has c u x cut (inl s) = send_has c u x cut s
stmt_has c u x cut (inr (inl s)) = emit_has c u x cut s
stmt_has c u x cut (inr (inr s)) = assign_has c u x cut s

-- ---- what spelled blocks have

stmts_have : (c : ExpressionClaims) (b : Before) (u : List Lexeme) (x : List Stmt) → AreCut u
    → (stmts usual b).spells u x → AllByRecursion IsStmt x
unfolding stmts many_from next_stmt
stmts_have c b u [] cut s = record {}
stmts_have c b u (x ∷ xs) cut s =
    (stmt_has c s.p x (cut_item s cut) s.first.1, stmts_have c (after_stmt b) s.q xs (cut_rest s cut) s.second)

-- each was allowed where there was room for one more
stmts_room : (b : Before) (u : List Lexeme) (x : List Stmt) → (stmts usual b).spells u x
    → (b.statements ≤ STATEMENT_LIMIT → b.statements + length x ≤ STATEMENT_LIMIT)
    × (b.counts.items ≤ ITEM_LIMIT → b.counts.items + length x ≤ ITEM_LIMIT)
unfolding stmts many_from next_stmt
stmts_room b u [] s = omega arith
stmts_room b u (x ∷ xs) s =
    let here = had_statement_room b.statements b.counts
    (was_allowed stmt_heads _ s.p ((fine_stmt usual).good.begins s.p x s.first.1) s.first.0) in
    let others = stmts_room (after_stmt b) s.q xs s.second in
    (λ few. omega arith, λ few. omega arith)

pub block_has : (c : ExpressionClaims) (n : Counts) (u : List Lexeme) (x : List Stmt) → AreCut u
    → (block usual n).spells u x
    → IsBlock x × (IsWithin n → IsWithin (n ⊕ size_of_block x))
unfolding block
block_has c n u x cut s =
    let inner = s.second in
    let b : Before = record { statements = 0; counts = n } in
    let each = stmts_have c b inner.p inner.x (cut_first inner (cut_second s cut)) inner.first in
    let room = stmts_room b inner.p inner.x inner.first in
    let is : IsBlock inner.x = record { each = each; few = let few = room.0 (omega arith) in omega arith } in
    let within : IsWithin n → IsWithin (n ⊕ size_of_block inner.x) = λ w. let items = room.1 w.items in omega arith in
    rw inner.second.second.1 (is, within)

-- ---- statements spelled

assign_spelled : (c : ExpressionClaims) (x : NameText) (e : Expr) → IsExpr e
    → WordsSpell (assign usual) unplaced_stmt (words_in (stmt_pieces (Assign x e))) (unplaced_stmt (Assign x e))
unfolding assign stmt_pieces key space word_pieces
assign_spelled c x e has =
    spell_as (simp words_apart)
    (spell_then (c.name_spelled x) (λ v l.
    spell_word kinds.Assign
    (spell_then (c.expr_spelled e has) (λ w r.
    spell_word kinds.Semicolon (spell_give (Assign v w) (rw (l, r) refl))))))

target_spelled : (c : ExpressionClaims) (to : Option Path) → IfThere IsPath to
    → WordsSpell maybe_target (option_map unplaced_path) (words_in (target_pieces to)) (option_map unplaced_path to)
unfolding maybe_target target target_pieces key space
target_spelled c None has = spell_none (is kinds.To) target
target_spelled c (Some x) has = spell_some (is kinds.To) (spell_word kinds.To (c.path_spelled x has))

send_spelled : (c : ExpressionClaims) (x : NameText) (to : Option Path) → IfThere IsPath to
    → WordsSpell send unplaced_stmt (words_in (stmt_pieces (Send x to))) (unplaced_stmt (Send x to))
unfolding send stmt_pieces key space word_pieces
send_spelled c x to has =
    spell_as (simp words_apart)
    (spell_word kinds.Send
    (spell_then (c.name_spelled x) (λ v l.
    spell_then (target_spelled c to has) (λ w r.
    spell_word kinds.Semicolon (spell_give (Send v w) (rw (l, r) refl))))))

emit_spelled : (c : ExpressionClaims) (x : NameText)
    → WordsSpell emit unplaced_stmt (words_in (stmt_pieces (Emit x))) (unplaced_stmt (Emit x))
unfolding emit stmt_pieces key space word_pieces
emit_spelled c x =
    spell_word kinds.Emit
    (spell_then (c.name_spelled x) (λ v l.
    spell_word kinds.Semicolon (spell_give (Emit v) (ap Emit l))))

stmt_spelled : (c : ExpressionClaims) (x : Stmt) → IsStmt x
    → WordsSpell (stmt usual) unplaced_stmt (words_in (stmt_pieces x)) (unplaced_stmt x)
unfolding stmt
stmt_spelled c (Assign x e) has = spell_right (is kinds.Send) (spell_right (is kinds.Emit) (assign_spelled c x e has.1))
stmt_spelled c (Send x to) has = spell_left (is kinds.Send) (send_spelled c x to has.1)
stmt_spelled c (Emit x) has = spell_right (is kinds.Send) (spell_left (is kinds.Emit) (emit_spelled c x))

-- ---- blocks spelled

-- statements, where there is room for them after those before
stmts_spelled : (c : ExpressionClaims) (b : Before) (x : List Stmt) → AllByRecursion IsStmt x
    → b.statements + length x ≤ STATEMENT_LIMIT → b.counts.items + length x ≤ ITEM_LIMIT
    → WordsSpell (stmts usual b) unplaced_block (words_in (flat_map block_stmt_pieces x)) (unplaced_block x)
unfolding stmts next_stmt block_stmt_pieces space
stmts_spelled c b [] each few room = spell_end (λ z. stmt_heads) (next_stmt usual) (λ z s. after_stmt z) b
stmts_spelled c b (x ∷ xs) each few room =
    spell_as (words_in-append (stmt_pieces x) (flat_map block_stmt_pieces xs))
    (spell_next (λ z. stmt_heads) (next_stmt usual) (λ z s. after_stmt z) b
    (spell_allowed stmt_heads (statement_room b.statements b.counts (omega arith) (omega arith))
    (stmt_spelled c x each.0))
    (λ v l. stmts_spelled c (after_stmt b) xs each.1 (omega arith) (omega arith)))

-- the words of a block: a brace, statements, a brace
block_words : (x : List Stmt)
    → words_in (block_pieces x) ≡ keyword kinds.OpenBrace ∷
    (words_in (flat_map block_stmt_pieces x) ++ keyword kinds.CloseBrace ∷ [])
unfolding block_pieces
block_words x = simp words_apart

pub block_spelled : (c : ExpressionClaims) (n : Counts) (x : List Stmt) → IsBlock x → IsWithin (n ⊕ size_of_block x)
    → WordsSpell (block usual n) unplaced_block (words_in (block_pieces x)) (unplaced_block x)
unfolding block block_pieces key space
block_spelled c n x has within =
    let b : Before = record { statements = 0; counts = n } in
    spell_as (block_words x)
    (spell_word kinds.OpenBrace
    (spell_then (stmts_spelled c b x has.each (omega arith) (omega arith)) (λ v l.
    spell_word kinds.CloseBrace (spell_give v l))))
