-- Transitions behind their cases, and tokens at which none begins.
use Rattle.std.proofs.Common.{◌≡◌, Bool, true, false, ◌||◌, List, [], ◌∷◌, Ok, Err, Option, Some, None, refl, sym, ap, ◌∙◌}
use Rattle.token_grammar.specs.declared.token.Kind.TheVariants as kinds
use Rattle.token_grammar.specs.declared.token.Span.{Span}
use Rattle.token_grammar.specs.declared.fault.TokenFault.{TokenFault}
use Rattle.token_grammar.specs.declared.fault.TokenFault.TheVariants as faults
use Rattle.token_grammar.specs.declared.fault.ReadError.{ReadError}
use Rattle.token_grammar.specs.declared.fault.ReadError.TheVariants as errors
use Rattle.token_grammar.specs.Token.{Lexeme, Outcome, Fails}
use Rattle.token_grammar.specs.Grammar.{and_then, heads, is, token, first_refused, at_first}
use Rattle.chart_grammar.specs.Limits.{Limits, Counts, usual, first_of, transition_refused, after_transition}
use Rattle.statechart_tree.specs.Trees.{Case}
use Rattle.statechart_grammar.specs.Transitions.{trans, trans_heads, no_event, maybe_when, maybe_block, maybe_action}
use Rattle.statechart_grammar.specs.Transitions.{junction_trans}
use Rattle.statechart_junctions.specs.Parts.{trans_rest, arrow_dest}

-- a transition is its cases and what follows them
pub trans_parts : (n : Counts) (at : Span) (s : List Lexeme)
    → (trans usual n at).reads s
    ≡ and_then ((maybe_when usual).reads s) (λ cases r. (trans_rest n at cases).reads r)
unfolding trans trans_rest arrow_dest
trans_parts n at s = refl

-- where neither holds, the first doesn't
not_first : (a b : Bool) → (a || b) ≡ false → a ≡ false
not_first true b h = h
not_first false b h = refl

-- nor the second
not_second : (a b : Bool) → (a || b) ≡ false → b ≡ false
not_second true b h = absurd cc
not_second false b h = h

-- where no transition begins, its arrow is missing
trans_misses : (l : Limits) (n : Counts) (at : Span) (s : List Lexeme) → heads trans_heads s ≡ false
    → (trans l n at).reads s ≡ Err (faults.Expected, s)
unfolding trans maybe_when maybe_block maybe_action token
trans_misses l n at [] h = refl
trans_misses l n at (t ∷ s) h =
    let cases = not_first (is kinds.OpenBracket t.kind || (is kinds.Tick t.kind || is kinds.Name t.kind)) _ h in
    let blocks = not_second (is kinds.OpenBracket t.kind || (is kinds.Tick t.kind || is kinds.Name t.kind)) _ h in
    let brace = not_first (is kinds.OpenBrace t.kind) _ blocks in
    let rest = not_second (is kinds.OpenBrace t.kind) _ blocks in
    let slash = not_first (is kinds.Slash t.kind) _ rest in
    let arrow = not_second (is kinds.Slash t.kind) _ rest in
    rw (cases, brace, slash, arrow) refl

-- where no transition is at hand, nothing is refused before it is read
none_refused : (n : Counts) (s : List Lexeme) → heads trans_heads s ≡ false
    → first_refused trans_heads (λ t. first_of (no_event t) (transition_refused usual n)) s ≡ None
none_refused n [] h = refl
none_refused n (t ∷ s) h = rw h refl

-- and none is read
pub junction_trans_misses : (n : Counts) (s : List Lexeme) → heads trans_heads s ≡ false
    → (junction_trans usual n).reads s ≡ Err (faults.Expected, s)
unfolding junction_trans
junction_trans_misses n s h = rw (none_refused n s h) (trans_misses usual _ _ s h)

-- the cases of a transition have a fault
pub trans_fails : (n : Counts) (at : Span) (err : ReadError) (s r : List Lexeme)
    → Fails err r ((maybe_when usual).reads s) → Fails err r ((trans usual n at).reads s)
trans_fails n at errors.Memory s r e = tt
trans_fails n at (errors.Fault f) s r e =
    trans_parts n at s ∙ ap (λ (o : Outcome (List Case)). and_then o (λ cases q. (trans_rest n at cases).reads q)) e

-- the cases of a transition were read
pub trans_behind : (n m : Counts) (at : Span) (s p : List Lexeme) (cases : List Case) → m ≡ n
    → (maybe_when usual).reads s ≡ Ok (cases, p) → (trans usual n at).reads s ≡ (trans_rest m at cases).reads p
trans_behind n m at s p cases kept e =
    trans_parts n at s ∙ ap (λ (o : Outcome (List Case)). and_then o (λ cs q. (trans_rest n at cs).reads q)) e
    ∙ ap (λ (k : Counts). (trans_rest k at cases).reads p) (sym kept)

-- ---- transitions of junctions

-- what is said of the first token
abbrev pub said_of : Counts → List Lexeme → Option TokenFault
said_of n s = first_refused trans_heads (λ t. first_of (no_event t) (transition_refused usual n)) s

-- where nothing is said, there is room for one more
not_later : (first later : Option TokenFault) → first_of first later ≡ None → later ≡ None
not_later None later e = e
not_later (Some f) later e = absurd cc

-- so where one begins
pub trans_room : (n : Counts) (s : List Lexeme) → heads trans_heads s ≡ true → said_of n s ≡ None
    → transition_refused usual n ≡ None
trans_room n [] here e = absurd cc
trans_room n (t ∷ s) here e = let said = rw here at e in not_later (no_event t) (transition_refused usual n) said

-- where nothing is said, it is read
pub junction_trans_read : (n : Counts) (s : List Lexeme) → said_of n s ≡ None
    → (junction_trans usual n).reads s ≡ (at_first (trans usual (after_transition n))).reads s
unfolding junction_trans
junction_trans_read n s e = rw e refl

-- else it is refused
pub junction_trans_refused : (n : Counts) (s : List Lexeme) (f : TokenFault) → said_of n s ≡ Some f
    → (junction_trans usual n).reads s ≡ Err (f, s)
unfolding junction_trans
junction_trans_refused n s f e = rw e refl
