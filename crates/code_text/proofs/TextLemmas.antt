-- The text of lines.
use Rattle.std.proofs.Common.{◌≡◌, ℕ, List, [], ◌∷◌, ◌++◌, refl, ap, ◌∙◌, append_assoc}
use Rattle.code_lines.specs.declared.format.Format.{Format}
use Rattle.code_text.specs.Written.{Written}
use Rattle.code_text.specs.Spelling.{version_line, states_part, vars_part}
use Rattle.code_text.specs.Spelling.{events_part, procs_part, end_line, body_lines}
use Rattle.code_text.specs.Spelling.{code_lines, text_of, code_text}

-- the text of lines and of those after them
pub text_of-append : (lines others : List (List ℕ)) → text_of (lines ++ others) ≡ text_of lines ++ text_of others
text_of-append [] others = refl
text_of-append (line ∷ lines) others = rw (text_of-append lines others, append_assoc line (10 ∷ text_of lines) (text_of others)) refl

-- the text of code after the first line, part by part
pub body_parts : (w : Written) → text_of (body_lines w)
    ≡ text_of (states_part w.states) ++ (text_of (vars_part w.vars) ++ (text_of (events_part w.events) ++ (text_of (procs_part w.procedures) ++ text_of (end_line ∷ []))))
body_parts w =
    let states = states_part w.states in
    let vars = vars_part w.vars in
    let events = events_part w.events in
    let procs = procs_part w.procedures in
    text_of-append states (vars ++ (events ++ (procs ++ end_line ∷ [])))
    ∙ ap (λ (t : List ℕ). text_of states ++ t) (text_of-append vars (events ++ (procs ++ end_line ∷ []))
    ∙ ap (λ (t : List ℕ). text_of vars ++ t) (text_of-append events (procs ++ end_line ∷ [])
    ∙ ap (λ (t : List ℕ). text_of events ++ t) (text_of-append procs (end_line ∷ []))))

-- the two formats of one code differ in the first line alone
pub code_text-first : (format : Format) (w : Written) → code_text format w ≡ version_line format ++ (10 ∷ text_of (body_lines w))
unfolding code_text code_lines
code_text-first format w = refl

-- six parts that are appended one after another
pub appended : (o0 o1 o2 o3 o4 o5 all first a b c d last : List ℕ) → o0 ≡ [] → o1 ≡ o0 ++ first → o2 ≡ o1 ++ a → o3 ≡ o2 ++ b
    → o4 ≡ o3 ++ c → o5 ≡ o4 ++ d → all ≡ o5 ++ last
    → all ≡ first ++ (a ++ (b ++ (c ++ (d ++ last))))
appended o0 o1 o2 o3 o4 o5 all first a b c d last p0 p1 p2 p3 p4 p5 p6 =
    let e : all ≡ ((((([] ++ first) ++ a) ++ b) ++ c) ++ d) ++ last = cc in e ∙ simp append_assoc
