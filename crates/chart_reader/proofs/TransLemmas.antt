-- Tokens at which no transition begins.
use Rattle.std.proofs.Common.{◌≡◌, Bool, true, false, ◌||◌, List, [], ◌∷◌, Err, refl}
use Rattle.token_grammar.specs.declared.token.Kind.TheVariants as kinds
use Rattle.token_grammar.specs.declared.token.Span.{Span}
use Rattle.token_grammar.specs.declared.fault.TokenFault.TheVariants as faults
use Rattle.token_grammar.specs.Token.{Lexeme}
use Rattle.token_grammar.specs.Grammar.{heads, is, token}
use Rattle.token_grammar.proofs.Allowed.{refused_always}
use Rattle.chart_grammar.specs.Limits.{Limits, Counts, transition_refused}
use Rattle.chart_grammar.specs.Transitions.{trans, trans_heads, maybe_event, maybe_guard, maybe_block, maybe_action}
use Rattle.chart_grammar.specs.Transitions.{junction_trans}

-- where neither holds, the first doesn't
not_first : (a b : Bool) → (a || b) ≡ false → a ≡ false
not_first true b h = h
not_first false b h = refl

-- nor the second
not_second : (a b : Bool) → (a || b) ≡ false → b ≡ false
not_second true b h = absurd cc
not_second false b h = h

-- where no transition begins, its arrow is missing
trans_misses : (l : Limits) (n : Counts) (at : Span) (s : List Lexeme) → heads trans_heads s ≡ false
    → (trans l n at).reads s ≡ Err (faults.Expected, s)
unfolding trans maybe_event maybe_guard maybe_block maybe_action token
trans_misses l n at [] h = refl
trans_misses l n at (t ∷ s) h =
    let name = not_first (is kinds.Name t.kind) _ h in
    let others = not_second (is kinds.Name t.kind) _ h in
    let bracket = not_first (is kinds.OpenBracket t.kind) _ others in
    let blocks = not_second (is kinds.OpenBracket t.kind) _ others in
    let brace = not_first (is kinds.OpenBrace t.kind) _ blocks in
    let rest = not_second (is kinds.OpenBrace t.kind) _ blocks in
    let slash = not_first (is kinds.Slash t.kind) _ rest in
    let arrow = not_second (is kinds.Slash t.kind) _ rest in
    rw (name, bracket, brace, slash, arrow) refl

-- where no transition is at hand, none is read
pub junction_trans_misses : (l : Limits) (n : Counts) (s : List Lexeme) → heads trans_heads s ≡ false
    → (junction_trans l n).reads s ≡ Err (faults.Expected, s)
unfolding junction_trans
junction_trans_misses l n s h = rw (refused_always trans_heads (transition_refused l n) s, h) (trans_misses l _ _ s h)
