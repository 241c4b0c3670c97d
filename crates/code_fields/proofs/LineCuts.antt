-- A text cut into lines.
use Rattle.std.proofs.Common.{◌≡◌, ℕ, Bool, true, false, nat_eq, List, [], ◌∷◌, Option, Some, None, refl, sym, subst}
use Rattle.std.specs.Prelude.{if◌then◌else◌, option_map}
use Rattle.code_fields.specs.Cuts.{Parts, parts_with, parts_at}
use Rattle.code_fields.specs.Lines.{Cut, begun_with, line_then, cut_of}

-- a cut that begins with the parts round the first newline, if there is one
abbrev CutFrom : Option Parts → List ℕ → Cut → Type 0
CutFrom None text cut = cut ≡ record { lines = []; rest = text }
CutFrom (Some parts) text cut = cut ≡ line_then parts.front (cut_of parts.rest)

-- a text with one more byte in front is cut as its parts say
cut_begun : (b : ℕ) (text : List ℕ) (newline : Bool) (parts : Option Parts) (cut : Cut) → cut_of text ≡ cut
    → CutFrom parts text cut
    → CutFrom (if newline then Some (record { front = []; rest = text }) else option_map (parts_with b) parts)
    (b ∷ text) (if newline then line_then [] cut else begun_with b cut.lines cut.rest)
cut_begun b text true parts cut e h = rw e refl
cut_begun b text false None cut e h = rw h refl
cut_begun b text false (Some parts) cut e h = rw h refl

-- every text is cut as its parts say
cut_from : (text : List ℕ) → CutFrom (parts_at 10 text) text (cut_of text)
cut_from [] = refl
cut_from (b ∷ text) = cut_begun b text (nat_eq b 10) (parts_at 10 text) (cut_of text) refl (cut_from text)

-- a text with a newline: its first line, and the cut of what is after it
pub cut_of-line : (text : List ℕ) (parts : Parts) → Some parts ≡ parts_at 10 text
    → cut_of text ≡ line_then parts.front (cut_of parts.rest)
cut_of-line text parts e =
    let Q : Option Parts → Type 0 = λ o. CutFrom o text (cut_of text) in
    subst Q (sym e) (cut_from text)

-- a text without one
pub cut_of-rest : (text : List ℕ) → None ≡ parts_at 10 text → cut_of text ≡ record { lines = []; rest = text }
cut_of-rest text e =
    let Q : Option Parts → Type 0 = λ o. CutFrom o text (cut_of text) in
    subst Q (sym e) (cut_from text)
