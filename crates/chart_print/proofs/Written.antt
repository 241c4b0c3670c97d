-- Texts with pieces after them.
use Rattle.std.proofs.Common.{◌≡◌, ℕ, zero, suc, ◌+◌, ◌-◌, ◌<◌, List, [], ◌∷◌, ◌++◌, refl, ap, sym, ◌∙◌, append_assoc}
use Rattle.std.proofs.Common.{arith}
use Rattle.std.specs.Prelude.{codes}
use Rattle.std.proofs.lemmas.List.{append-nil}
use Rattle.std.proofs.lemmas.Grind.{common_steps, flat_map-append}
use Rattle.token_grammar.specs.declared.token.Kind.{Kind}
use Rattle.chart_print.specs.Pieces.{Piece, Token, Blank, piece_bytes, bytes_of, written, indent}

-- pieces one after the other are written one after the other
pub written-append : (text : List ℕ) (front back : List Piece)
    → written text (front ++ back) ≡ written (written text front) back
unfolding written bytes_of
written-append text front back =
    rw (flat_map-append piece_bytes front back) (sym (append_assoc text (bytes_of front) (bytes_of back)))

-- no pieces add nothing
pub written-none : (text : List ℕ) → written text [] ≡ text
unfolding written bytes_of
written-none text = append-nil text

-- one piece adds its bytes
pub written-token : (text : List ℕ) (kind : Kind) (bytes : List ℕ)
    → written text (Token kind bytes ∷ []) ≡ text ++ bytes
unfolding written bytes_of
written-token text kind bytes = ap (λ (bs : List ℕ). text ++ bs) (append-nil bytes)

-- a blank is written as its bytes
pub written-blank : (text : List ℕ) (bytes : List ℕ) → written text (Blank bytes ∷ []) ≡ text ++ bytes
unfolding written bytes_of
written-blank text bytes = ap (λ (bs : List ℕ). text ++ bs) (append-nil bytes)

-- after nothing stand the bytes themselves
pub written-first : (pieces : List Piece) → written [] pieces ≡ bytes_of pieces
unfolding written
written-first pieces = refl

-- what is written piece by piece
pub ruleset printed = (common_steps, written-append, written-none, written-first, written-token, written-blank)

-- no level has no blanks
pub written-indent_none : (text : List ℕ) (level : ℕ) → level ≡ 0 → written text (indent level) ≡ text
unfolding indent
written-indent_none text level none = rw none (written-none text)

-- the blanks of one level, and those of the others
pub written-indent_more : (text : List ℕ) (level : ℕ) → 0 < level
    → written text (indent level) ≡ written (text ++ codes "  ") (indent (level - 1))
unfolding indent
written-indent_more text zero some = absurd (omega arith)
written-indent_more text (suc level) some =
    let less : suc level - 1 ≡ level = omega arith in
    rw less (written-append text (Blank (codes "  ") ∷ []) (indent level)
    ∙ ap (λ (t : List ℕ). written t (indent level)) (written-blank text (codes "  ")))

-- one more level has its blanks, and those of the levels to come are left
pub indent_step : (before now next : List ℕ) (level counter : ℕ) → counter < level
    → next ≡ now ++ codes "  " → written now (indent (level - counter)) ≡ written before (indent level)
    → written next (indent (level - (counter + 1))) ≡ written before (indent level)
indent_step before now next level counter within is all =
    let fewer : level - counter - 1 ≡ level - (counter + 1) = omega arith in
    rw is (rw (← fewer) (sym (written-indent_more now (level - counter) (omega arith)) ∙ all))
