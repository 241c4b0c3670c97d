-- The lines of states, in both directions.
use Rattle.std.proofs.Common.{◌≡◌, ℕ, Bool, true, false, List, ◌∷◌, ◌++◌, Option, Some, None, refl, sym, ap, ◌∙◌, subst}
use Rattle.std.specs.Prelude.{codes, option_map, option_and_then}
use Rattle.std.proofs.lemmas.Option.{cond_some, option_and_then_some}
use Rattle.active_config.specs.declared.comp.Comp.{Comp}
use Rattle.code_language.specs.declared.code.RawState.{RawState}
use Rattle.code_fields.specs.Spelling.{IsName, comp_word}
use Rattle.code_fields.specs.Fields.{kept, behind, name_of, word_then, comp_of}
use Rattle.code_fields.proofs.CutLemmas.{option_map_some, word_then-line, word_then-some}
use Rattle.code_fields.proofs.BehindLemmas.{behind-append, behind-some, name_of-name, name_of-some}
use Rattle.code_fields.proofs.WordLemmas.{comp_of-word, comp_of-some}
use Rattle.code_fields.proofs.NewlineLemmas.{IsLine, line_then, word_line, comp_is_word, name_line}
use Rattle.code_lines.specs.Spelling.{note_word, parent_word, HasNote, HasParent, IsState, state_line}
use Rattle.code_lines.specs.Fields.{note_of, state_with_comp, state_with_parent, state_of, parent_stands, state_at}
use Rattle.code_lines.proofs.WordLemmas.{note_of-word, note_of-some}
use Rattle.code_lines.proofs.InstrLemmas.{note_is_word}

-- a parent is written as a note is
parent_is_note : (p : Option ℕ) → parent_word p ≡ note_word p
parent_is_note None = refl
parent_is_note (Some p) = refl

-- and has such a number
has_note : (p : Option ℕ) → HasParent p → HasNote p
has_note None h = h
has_note (Some p) h = h

has_parent : (p : Option ℕ) → HasNote p → HasParent p
has_parent None h = h
has_parent (Some p) h = h

-- what stands after the parent
abbrev from_comp : RawState → List ℕ
from_comp s = comp_word s.comp ++ 32 ∷ s.name

-- the line of a state is read as it
state_of-line : (s : RawState) → IsState s → state_of (state_line s) ≡ Some s
unfolding state_of
state_of-line s h =
    ap (λ (w : List ℕ). option_and_then (word_then note_of state_with_parent) (behind (codes "s ") (codes "s " ++ (w ++ 32 ∷ from_comp s)))) (parent_is_note s.parent)
    ∙ (ap (λ (o : Option (List ℕ)). option_and_then (word_then note_of state_with_parent) o) (behind-append (codes "s ") (note_word s.parent ++ 32 ∷ from_comp s))
    ∙ (word_then-line note_of state_with_parent (note_word s.parent) (from_comp s) s.parent (note_is_word s.parent (has_note s.parent h.parent)).0 (note_of-word s.parent (has_note s.parent h.parent))
    ∙ (word_then-line comp_of (state_with_comp s.parent) (comp_word s.comp) s.name s.comp (comp_is_word s.comp).0 (comp_of-word s.comp)
    ∙ ap (λ (o : Option (List ℕ)). option_map (λ name. record { parent = s.parent; comp = s.comp; name = name }) o) (name_of-name s.name h.named))))

-- a line that spells the state
abbrev IsStateLine : List ℕ → RawState → Type 0
IsStateLine line s = (line ≡ state_line s) × IsState s

-- only its line is read as the state
state_of-some : (line : List ℕ) (s : RawState) → state_of line ≡ Some s → IsStateLine line s
unfolding state_of
state_of-some line s h =
    option_and_then_some (word_then note_of state_with_parent) (behind (codes "s ") line) s h (λ text e g.
    word_then-some note_of state_with_parent text s g (λ w1 r1 parent t1 e1 g1.
    word_then-some comp_of (state_with_comp parent) r1 s g1 (λ w2 r2 comp t2 e2 g2.
    option_map_some (λ name. record { parent = parent; comp = comp; name = name }) (name_of r2) s g2 (λ name e3 made.
    let tag = note_of-some w1 parent e1 in
    let got = name_of-some r2 name e3 in
    let from_1 : r1 ≡ comp_word comp ++ 32 ∷ name =
    t2 ∙ (ap (λ (w : List ℕ). w ++ 32 ∷ r2) (comp_of-some w2 comp e2) ∙ ap (λ (t : List ℕ). comp_word comp ++ 32 ∷ t) got.0) in
    let from_0 : text ≡ parent_word parent ++ 32 ∷ (comp_word comp ++ 32 ∷ name) =
    t1 ∙ (ap (λ (w : List ℕ). w ++ 32 ∷ r1) (tag.0 ∙ sym (parent_is_note parent)) ∙ ap (λ (t : List ℕ). parent_word parent ++ 32 ∷ t) from_1) in
    let fits : IsState (record { parent = parent; comp = comp; name = name }) = record { parent = has_parent parent tag.1; named = got.1 } in
    subst (IsStateLine line) made (behind-some (codes "s ") line text e ∙ ap (λ (t : List ℕ). codes "s " ++ t) from_0, fits)))))

-- where it may stand
pub state_at-line : (first : Bool) (s : RawState) → IsState s → parent_stands first s.parent ≡ true
    → state_at first (state_line s) ≡ Some s
unfolding state_at
state_at-line first s h stands =
    ap (λ (o : Option RawState). option_and_then (kept (λ (t : RawState). parent_stands first t.parent)) o) (state_of-line s h) ∙ rw stands refl

-- and only its line
pub state_at-some : (first : Bool) (line : List ℕ) (s : RawState) → state_at first line ≡ Some s
    → (line ≡ state_line s) × IsState s × (parent_stands first s.parent ≡ true)
unfolding state_at
state_at-some first line s h =
    option_and_then_some (kept (λ (t : RawState). parent_stands first t.parent)) (state_of line) s h (λ t e g.
    let got = state_of-some line t e in
    let test = cond_some (parent_stands first t.parent) t s g in
    let P : RawState → Type 0 = λ u. (line ≡ state_line u) × IsState u × (parent_stands first u.parent ≡ true) in
    subst P test.1 (got.0, got.1, test.0))

-- the line of a state has no newline in it
pub state_line-is : (s : RawState) → IsState s → IsLine (state_line s)
state_line-is s h =
    line_then (codes "s ") (parent_word s.parent ++ 32 ∷ from_comp s) refl
    (subst (λ (w : List ℕ). IsLine (w ++ 32 ∷ from_comp s)) (sym (parent_is_note s.parent))
    (word_line (note_word s.parent) (from_comp s) (note_is_word s.parent (has_note s.parent h.parent))
    (word_line (comp_word s.comp) s.name (comp_is_word s.comp) (name_line s.name h.named))))
