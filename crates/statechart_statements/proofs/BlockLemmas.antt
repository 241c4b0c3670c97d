-- Statements that were read within the limits.
use Rattle.std.proofs.Common.{◌≡◌, ℕ, ◌<◌, true, List, [], ◌∷◌, ◌++◌, ◌+◌, length, Ok, Err, Option, Some, None, refl}
use Rattle.std.proofs.Common.{sym, ap, ◌∙◌, arith}
use Rattle.std.proofs.lemmas.List.{length-append}
use Rattle.flow_base.specs.declared.chart_limits.TheConstants.{STATEMENT_LIMIT, ITEM_LIMIT}
use Rattle.token_grammar.specs.declared.token.Kind.TheVariants as kinds
use Rattle.token_grammar.specs.declared.fault.TokenFault.{TokenFault}
use Rattle.token_grammar.specs.Token.{Lexeme}
use Rattle.token_grammar.specs.Grammar.{Grammar, heads, token, allowed}
use Rattle.token_grammar.proofs.Good.{Set}
use Rattle.statechart_tree.specs.Trees.{Stmt}
use Rattle.chart_grammar.specs.Limits.{Counts, usual, statement_refused}
use Rattle.chart_grammar.specs.Transitions.{stmt_heads}
use Rattle.statechart_grammar.specs.Transitions.{Before, stmt, next_stmt, after_stmts, stmts, block}

-- what was read wasn't refused
pub was_allowed : {X : Type 0} (g : Grammar X) (set : Set) (said : Option TokenFault) (s : List Lexeme) (x : X)
    (r : List Lexeme)
    → heads set s ≡ true → (allowed set (λ t. said) g).reads s ≡ Ok (x, r) → said ≡ None
was_allowed g set None s x r here read = refl
was_allowed g set (Some f) [] x r here read = absurd cc
was_allowed g set (Some f) (t ∷ s) x r here read =
    let stopped : (allowed set (λ t. Some f) g).reads (t ∷ s) ≡ Err (f, t ∷ s) = rw here refl in
    absurd cc

-- where one more isn't refused, there are few so far
few_left : (before : ℕ) (n : Counts) → statement_refused usual before n ≡ None
    → (before < STATEMENT_LIMIT) × (n.items < ITEM_LIMIT)
few_left before n h = grind arith

-- so where a statement was read
pub few_stmts : (b : Before) (s : List Lexeme) (x : Stmt) (r : List Lexeme) → heads stmt_heads s ≡ true
    → (next_stmt usual b).reads s ≡ Ok (x, r)
    → (b.statements < STATEMENT_LIMIT) × (b.counts.items < ITEM_LIMIT)
unfolding next_stmt
few_stmts b s x r here read = few_left b.statements b.counts (was_allowed (stmt usual) stmt_heads _ s x r here read)

-- one statement more is one item more
pub one_more_stmt : (n m : Counts) (front : List Stmt) (x : Stmt) → m ≡ after_stmts n front
    → record m { items = m.items + 1 } ≡ after_stmts n (front ++ x ∷ [])
one_more_stmt n m front x e =
    let longer : length (front ++ x ∷ []) ≡ length front + 1 = simp length-append in
    let items : m.items + 1 ≡ n.items + length (front ++ x ∷ []) = rw (e, longer) (omega arith) in
    rw e (ap (λ k. record n { items = k }) (sym (ap (λ z. z.items + 1) e) ∙ items))

-- statements between braces
pub block_read : (n m : Counts) (s p q r : List Lexeme) (t u : Lexeme) (found : List Stmt) → m ≡ n
    → (token kinds.OpenBrace).reads s ≡ Ok (t, p)
    → (stmts usual (record { statements = 0; counts = m })).reads p ≡ Ok (found, q)
    → (token kinds.CloseBrace).reads q ≡ Ok (u, r)
    → (block usual n).reads s ≡ Ok (found, r)
unfolding block
block_read n m s p q r t u found e opened inner closed = rw (sym e, opened, inner, closed) refl
