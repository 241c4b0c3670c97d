-- Reading what may be nested, and an item where it may stand.
use Rattle.std.proofs.Common.{◌≡◌, ℕ, zero, suc, ◌-◌, ◌<◌, true, false, List, [], ◌∷◌, Err, Some, refl, arith}
use Rattle.token_grammar.specs.declared.token.Kind.TheVariants as kinds
use Rattle.token_grammar.specs.declared.fault.TokenFault.TheVariants as faults
use Rattle.token_grammar.specs.declared.fault.Thing.TheVariants as things
use Rattle.token_grammar.specs.Token.{Lexeme}
use Rattle.token_grammar.specs.Grammar.{Grammar, heads, is}
use Rattle.token_grammar.proofs.Good.{Set}
use Rattle.token_grammar.proofs.Allowed.{refused_always}
use Rattle.chart_grammar.specs.Limits.{Limits, Counts}
use Rattle.chart_grammar.specs.Expressions.{nested_heads, plain, nested, unary}
use Rattle.chart_grammar.specs.States.{beginning, no_state, state_over, state}

-- a token of the set is at hand
pub beginning_read : {X : Type 0} (g : Grammar X) (set : Set) (s : List Lexeme) → heads set s ≡ true
    → (beginning set g).reads s ≡ g.reads s
beginning_read g set [] h = absurd cc
beginning_read g set (t ∷ s) h = rw h refl

-- ---- operands

-- where no operator nests, an operand is read without one
pub unary_plain : (l : Limits) (d n : ℕ) (s : List Lexeme) → heads nested_heads s ≡ false
    → (unary l d n).reads s ≡ (plain l n).reads s
unfolding unary
unary_plain l zero n s h = rw h refl
unary_plain l (suc d) n s h = rw h refl

-- where none may be nested, one more is refused
pub unary_stop : (l : Limits) (d n : ℕ) (s : List Lexeme) → heads nested_heads s ≡ true → d ≡ 0
    → (unary l d n).reads s ≡ Err (faults.TooMany things.Operators, s)
unfolding unary
unary_stop l zero n s h e = rw (h, refused_always nested_heads (Some (faults.TooMany things.Operators)) s, h) refl
unary_stop l (suc d) n s h e = absurd (omega arith)

-- where some may be nested, one more is read, with one less in it
pub unary_nested : (l : Limits) (d n : ℕ) (s : List Lexeme) → heads nested_heads s ≡ true → 0 < d
    → (unary l d n).reads s ≡ (nested l (unary l (d - 1)) n).reads s
unfolding unary
unary_nested l zero n s h p = absurd (omega arith)
unary_nested l (suc d) n s h p =
    let e : suc d - 1 ≡ d = omega arith in
    rw (h, e) refl

-- ---- states

-- where no state may be nested, one more is refused
pub state_stop : (l : Limits) (d : ℕ) (n : Counts) (s : List Lexeme) → heads (is kinds.State) s ≡ true → d ≡ 0
    → (state l d n).reads s ≡ Err (faults.NestTooDeep, s)
unfolding state no_state
state_stop l zero n s h e = rw (refused_always (is kinds.State) (Some faults.NestTooDeep) s, h) refl
state_stop l (suc d) n s h e = absurd (omega arith)

-- where some may be nested, one more is read, with one less in it
pub state_nested : (l : Limits) (d : ℕ) (n : Counts) (s : List Lexeme) → 0 < d
    → (state l d n).reads s ≡ (state_over l (state l (d - 1)) n).reads s
unfolding state
state_nested l zero n s p = absurd (omega arith)
state_nested l (suc d) n s p =
    let e : suc d - 1 ≡ d = omega arith in
    rw e refl
