-- Whole code and its lines.
use Rattle.std.proofs.Common.{◌≡◌, ℕ, ◌^◌, zero, suc, true, false, List, []}
use Rattle.std.proofs.Common.{◌∷◌, ◌++◌, length, map, Option, Some, refl, sym}
use Rattle.std.proofs.Common.{ap, ◌∙◌, subst}
use Rattle.std.specs.Prelude.{codes, decimal, option_map, option_and_then}
use Rattle.std.specs.List.{flat_map, AllByRecursion}
use Rattle.std.specs.Str.{bytes_eq}
use Rattle.std.proofs.lemmas.List.Concat.{flat_map_single}
use Rattle.std.proofs.lemmas.Option.{none-some, same_Some, cond_some, option_and_then_some}
use Rattle.std.proofs.lemmas.Slice.Eq.{bytes_eq-Decides}
use Rattle.actions.specs.declared.names.EventDecl.{EventDecl}
use Rattle.actions.specs.declared.names.Var.{Var}
use Rattle.code_language.specs.declared.code.RawState.{RawState}
use Rattle.code_language.specs.Code.{Procedures}
use Rattle.code_fields.specs.Spelling.{IsNumber, IsVar, var_line, IsEvent, event_line}
use Rattle.code_fields.specs.Fields.{number_of, number_behind, behind, word_then}
use Rattle.code_fields.proofs.CutLemmas.{option_map_some, word_then-some}
use Rattle.code_fields.proofs.NumberLemmas.{numeral-some}
use Rattle.code_fields.proofs.BehindLemmas.{behind-append, behind-some, number_of-decimal}
use Rattle.code_fields.proofs.BehindLemmas.{number_behind-line, number_behind-some}
use Rattle.code_fields.proofs.WordLemmas.{tested}
use Rattle.code_lines.specs.declared.format.Format.{Format}
use Rattle.code_lines.specs.declared.format.Format.TheVariants as formats
use Rattle.code_lines.specs.Fields.{state_at}
use Rattle.code_lines.specs.Spelling.{state_line}
use Rattle.code_lines.proofs.InstrLemmas.{number_then}
use Rattle.code_lines.proofs.StateLemmas.{state_at-line, state_at-some}
use Rattle.code_text.specs.declared.expected.Expected.TheVariants as expects
use Rattle.code_text.specs.Written.{Written}
use Rattle.code_text.specs.Spelling.{version_line, states_line, procs_line, end_line, proc_lines, StandsAt, AreStates}
use Rattle.code_text.specs.Spelling.{states_part as states_lines, vars_part as vars_lines, events_part as events_lines}
use Rattle.code_text.specs.Spelling.{procs_part as procs_lines, body_lines, code_lines, IsProc, IsSpellable}
use Rattle.code_text.specs.Reading.{Procs, procs_with, procs_after, procs_of}
use Rattle.code_text.specs.Reading.{format_of, Partial, nothing_read, root_next}
use Rattle.code_text.specs.Reading.{with_format, with_state, with_procs, next, all_read}
use Rattle.code_text.proofs.StepLemmas.{steps, IsWhole, steps-append, part_read, part_spelled}
use Rattle.code_text.proofs.PartLemmas.{made, first_line, counted_read, counted_spelled, states_left, states_part}
use Rattle.code_text.proofs.PartLemmas.{vars_left, vars_part, events_left, events_part}
use Rattle.code_text.proofs.PartLemmas.{Above, below, procs_left, procs_part}

-- ---- the first line

-- a format is read from its line
format_of-line : (format : Format) → format_of (version_line format) ≡ Some format
unfolding format_of
format_of-line formats.One = refl
format_of-line formats.Two = refl

-- and only from it
format_of-some : (line : List ℕ) (format : Format) → format_of line ≡ Some format → line ≡ version_line format
unfolding format_of
format_of-some line format h =
    tested line (version_line formats.One) formats.One format _ h (λ e same. e ∙ ap version_line same) (λ h1.
    tested line (version_line formats.Two) formats.Two format _ h1 (λ e same. e ∙ ap version_line same) (λ h2. absurd (none-some format h2)))

-- ---- the line of the procedures

-- three numbers
abbrev three : ℕ → ℕ → ℕ → Procs
three count start react = record { count = count; start = start; react = react }

-- the line of the procedures is read as its three numbers
procs_of-line : (n start react : ℕ) → IsNumber n → IsNumber start → IsNumber react
    → procs_of (procs_line n start react) ≡ Some (three n start react)
unfolding procs_of
procs_of-line n start react f g h =
    ap (λ (o : Option (List ℕ)). option_and_then (word_then number_of procs_after) o) (behind-append (codes "procs ") (decimal n ++ 32 ∷ (decimal start ++ 32 ∷ decimal react)))
    ∙ (number_then procs_after n (decimal start ++ 32 ∷ decimal react) f
    ∙ (number_then (procs_with n) start (decimal react) g
    ∙ ap (λ (o : Option ℕ). option_map (λ m. three n start m) o) (number_of-decimal react h)))

-- three numbers that a line has
record AreProcs (line : List ℕ) (p : Procs) : Type 0 where
  spelled : line ≡ procs_line p.count p.start p.react
  count : IsNumber p.count
  start : IsNumber p.start
  react : IsNumber p.react

-- only the line of the three numbers is read so
procs_of-some : (line : List ℕ) (p : Procs) → procs_of line ≡ Some p → AreProcs line p
unfolding procs_of
procs_of-some line p h =
    option_and_then_some (word_then number_of procs_after) (behind (codes "procs ") line) p h (λ text e g.
    word_then-some number_of procs_after text p g (λ w1 r1 n t1 e1 g1.
    word_then-some number_of (procs_with n) r1 p g1 (λ w2 r2 start t2 e2 g2.
    option_map_some (λ m. three n start m) (number_of r2) p g2 (λ react e3 made_is.
    let one = numeral-some (2 ^ 32) w1 n e1 in
    let two = numeral-some (2 ^ 32) w2 start e2 in
    let last = numeral-some (2 ^ 32) r2 react e3 in
    let from_1 : r1 ≡ decimal start ++ 32 ∷ decimal react =
    t2 ∙ (ap (λ (t : List ℕ). t ++ 32 ∷ r2) two.1 ∙ ap (λ (t : List ℕ). decimal start ++ 32 ∷ t) last.1) in
    let from_0 : text ≡ decimal n ++ 32 ∷ (decimal start ++ 32 ∷ decimal react) =
    t1 ∙ (ap (λ (t : List ℕ). t ++ 32 ∷ r1) one.1 ∙ ap (λ (t : List ℕ). decimal n ++ 32 ∷ t) from_1) in
    let line_is : line ≡ procs_line n start react = behind-some (codes "procs ") line text e ∙ ap (λ (t : List ℕ). codes "procs " ++ t) from_0 in
    subst (AreProcs line) made_is (record { spelled = line_is; count = one.0; start = two.0; react = last.0 })))))

-- ---- what is read, part by part

-- the format was read
abbrev format_done : Format → Partial
format_done format = made format [] [] [] 0 0 [] [] expects.StateCount

-- n states to come, the first of all among them
abbrev roots_left : Format → ℕ → Partial
roots_left format n = made format [] [] [] 0 0 [] [] (root_next n)

-- all states were read, and all data, and all events
abbrev states_done : Format → List RawState → Partial
states_done format states = made format states [] [] 0 0 [] [] expects.VarCount

abbrev vars_done : Format → List RawState → List Var → Partial
vars_done format states vars = made format states vars [] 0 0 [] [] expects.EventCount

abbrev events_done : Format → List RawState → List Var → List EventDecl → Partial
events_done format states vars events = made format states vars events 0 0 [] [] expects.ProcCount

-- what stands above the procedures of code
abbrev above_of : Format → Written → Above
above_of format w =
    record {
      format = format;
      states = w.states;
      vars = w.vars;
      events = w.events;
      start = w.procedures.start;
      react = w.procedures.react;
    }

-- all of code but the line `end`
abbrev procs_done : Format → Written → Partial
procs_done format w = below (above_of format w) w.procedures.procs [] expects.End

-- all of code
abbrev pub all_done : Format → Written → Partial
all_done format w = below (above_of format w) w.procedures.procs [] expects.Nothing

-- ---- the lines of code are read as it

-- the lines of states
roots_read : (format : Format) (states : List RawState) → AreStates states
    → steps (roots_left format (length states)) (map state_line states) ≡ Some (states_done format states)
unfolding next
roots_read format [] h = refl
roots_read format (root ∷ states) h =
    let p = roots_left format (suc (length states)) in
    ap (λ o. option_and_then (λ r. steps r (map state_line states)) (option_map (with_state p (length states)) o)) (state_at-line true root h.0.0 h.0.1)
    ∙ (ap (λ ls. steps (states_left format (length states) (root ∷ [])) ls) (sym (flat_map_single state_line states))
    ∙ part_read (states_left format) (λ s. state_line s ∷ []) (StandsAt false) (states_part format) states (root ∷ []) h.1)

-- with their count
states_read : (format : Format) (states : List RawState) → IsNumber (length states) → AreStates states
    → steps (format_done format) (states_lines states) ≡ Some (states_done format states)
unfolding next
states_read format states few h =
    let p = format_done format in
    ap (λ o. option_and_then (λ r. steps r (map state_line states)) (option_map (λ m. record p { expected = root_next m }) o)) (number_behind-line (codes "states ") (length states) few)
    ∙ roots_read format states h

-- the next line of the counts of data and of events
vars_counted : (format : Format) (states : List RawState) (l : List ℕ)
    → next (states_done format states) l ≡ option_map (λ n. vars_left format states n []) (number_behind (codes "data ") l)
unfolding next
vars_counted format states l = refl

events_counted : (format : Format) (states : List RawState) (vars : List Var) (l : List ℕ)
    → next (vars_done format states vars) l ≡ option_map (λ n. events_left format states vars n []) (number_behind (codes "events ") l)
unfolding next
events_counted format states vars l = refl

-- the lines of the procedures
procs_read : (format : Format) (w : Written) → IsSpellable format w
    → steps (events_done format w.states w.vars w.events) (procs_lines w.procedures) ≡ Some (procs_done format w)
unfolding next
procs_read format w h =
    let k = w.procedures in
    let a = above_of format w in
    ap (λ o. option_and_then (λ r. steps r (flat_map proc_lines k.procs)) (option_map (with_procs (events_done format w.states w.vars w.events)) o))
    (procs_of-line (length k.procs) k.start k.react h.procs h.start h.react)
    ∙ part_read (procs_left a) proc_lines (IsProc format) (procs_part a) k.procs [] h.are_procs

-- the last line
end_read : (format : Format) (w : Written) → steps (procs_done format w) (end_line ∷ []) ≡ Some (all_done format w)
unfolding next
end_read format w = refl

-- the lines after the first
body_read : (format : Format) (w : Written) → IsSpellable format w
    → steps (format_done format) (body_lines w) ≡ Some (all_done format w)
body_read format w h =
    let last = procs_lines w.procedures ++ end_line ∷ [] in
    steps-append (format_done format) (states_done format w.states) (states_lines w.states) (vars_lines w.vars ++ (events_lines w.events ++ last)) (states_read format w.states h.states h.are_states)
    ∙ (steps-append (states_done format w.states) (vars_done format w.states w.vars) (vars_lines w.vars) (events_lines w.events ++ last)
    (counted_read (vars_left format w.states) var_line IsVar (states_done format w.states) (codes "data ") (vars_counted format w.states) (vars_part format w.states) w.vars h.vars h.are_vars)
    ∙ (steps-append (vars_done format w.states w.vars) (events_done format w.states w.vars w.events) (events_lines w.events) last
    (counted_read (events_left format w.states w.vars) event_line IsEvent (vars_done format w.states w.vars)
    (codes "events ") (events_counted format w.states w.vars) (events_part format w.states w.vars) w.events h.events
    h.are_events)
    ∙ (steps-append (events_done format w.states w.vars w.events) (procs_done format w) (procs_lines w.procedures) (end_line ∷ []) (procs_read format w h)
    ∙ end_read format w)))

-- all lines
pub lines_read : (format : Format) (w : Written) → IsSpellable format w
    → steps nothing_read (code_lines format w) ≡ Some (all_done format w)
unfolding code_lines next
lines_read format w h =
    ap (λ (o : Option Format). option_and_then (λ r. steps r (body_lines w)) (option_map (with_format nothing_read) o)) (format_of-line format)
    ∙ body_read format w h

-- ---- what is read is the lines of code

-- states that were read, and the lines after theirs
record StatesRead (format : Format) (lines : List (List ℕ)) (q : Partial) : Type 0 where
  states : List RawState
  others : List (List ℕ)
  is : lines ≡ states_lines states ++ others
  few : IsNumber (length states)
  fits : AreStates states
  goes : steps (states_done format states) others ≡ Some q

-- lines that are read as states begin with those of the states
roots_spelled : (format : Format) (n : ℕ) (lines : List (List ℕ)) (q : Partial) → IsNumber n → steps (roots_left format n) lines ≡ Some q
    → IsWhole q → StatesRead format (states_line n ∷ lines) q
unfolding next
roots_spelled format zero lines q few h w = record { states = []; others = lines; is = refl; few = few; fits = tt; goes = h }
roots_spelled format (suc n) lines q few h w =
    let p = roots_left format (suc n) in
    let first = first_line p q lines h w refl in
    option_map_some (with_state p n) (state_at true first.line) first.after first.read (λ root is made_is.
    let got = state_at-some true first.line root is in
    let goes : steps (states_left format n (root ∷ [])) first.others ≡ Some q = ap (λ r. steps r first.others) made_is ∙ first.goes in
    let all = part_spelled (states_left format) (λ s. state_line s ∷ []) (StandsAt false) (states_part format) n (root ∷ []) first.others q goes w in
    let count : suc n ≡ suc (length all.items) = ap (λ k. suc k) (sym all.count) in
    record {
      states = root ∷ all.items;
      others = all.others;
      is = ap (λ k. states_line k ∷ lines) count
          ∙ ap (λ ls. states_line (suc (length all.items)) ∷ ls)
          (first.is ∙ (ap (λ l. l ∷ first.others) got.0 ∙ ap (λ ls. state_line root ∷ ls) (all.is ∙ ap (λ ls. ls ++ all.others) (flat_map_single state_line all.items))));
      few = subst IsNumber count few;
      fits = ((got.1, got.2), all.fits);
      goes = all.goes;
    })

-- with their count
states_spelled : (format : Format) (lines : List (List ℕ)) (q : Partial) → steps (format_done format) lines ≡ Some q → IsWhole q
    → StatesRead format lines q
unfolding next
states_spelled format lines q h w =
    let p = format_done format in
    let first = first_line p q lines h w refl in
    option_map_some (λ n. record p { expected = root_next n }) (number_behind (codes "states ") first.line) first.after first.read (λ n is made_is.
    let got = number_behind-some (codes "states ") first.line n is in
    let rest = roots_spelled format n first.others q got.1 (ap (λ r. steps r first.others) made_is ∙ first.goes) w in
    record {
      states = rest.states;
      others = rest.others;
      is = first.is ∙ (ap (λ l. l ∷ first.others) got.0 ∙ rest.is);
      few = rest.few;
      fits = rest.fits;
      goes = rest.goes;
    })

-- the procedures that were read, and the lines after theirs
record ProcsRead (format : Format) (states : List RawState) (vars : List Var) (events : List EventDecl) (lines : List (List ℕ)) (q : Partial) : Type 0 where
  procedures : Procedures
  others : List (List ℕ)
  is : lines ≡ procs_lines procedures ++ others
  few : IsNumber (length procedures.procs)
  start_is : IsNumber procedures.start
  react_is : IsNumber procedures.react
  fits : AllByRecursion (IsProc format) procedures.procs
  goes : steps (made format states vars events procedures.start procedures.react procedures.procs [] expects.End) others ≡ Some q

-- those of the procedures
procs_spelled : (format : Format) (states : List RawState) (vars : List Var) (events : List EventDecl) (lines : List (List ℕ)) (q : Partial)
    → steps (events_done format states vars events) lines ≡ Some q → IsWhole q → ProcsRead format states vars events lines q
unfolding next
procs_spelled format states vars events lines q h w =
    let p = events_done format states vars events in
    let first = first_line p q lines h w refl in
    option_map_some (with_procs p) (procs_of first.line) first.after first.read (λ t is made_is.
    let got = procs_of-some first.line t is in
    let a : Above = record { format = format; states = states; vars = vars; events = events; start = t.start; react = t.react } in
    let rest = part_spelled (procs_left a) proc_lines (IsProc format) (procs_part a) t.count [] first.others q (ap (λ r. steps r first.others) made_is ∙ first.goes) w in
    let line_is : first.line ≡ procs_line (length rest.items) t.start t.react = got.spelled ∙ ap (λ n. procs_line n t.start t.react) (sym rest.count) in
    record {
      procedures = record { procs = rest.items; start = t.start; react = t.react };
      others = rest.others;
      is = first.is
          ∙ (ap (λ l. l ∷ first.others) line_is ∙ ap (λ ls. procs_line (length rest.items) t.start t.react ∷ ls) rest.is);
      few = subst IsNumber (sym rest.count) got.count;
      start_is = got.start;
      react_is = got.react;
      fits = rest.fits;
      goes = rest.goes;
    })

-- after the line `end` no line can stand
pub nothing_behind : (format : Format) (v : Written) (lines : List (List ℕ)) (q : Partial) → steps (all_done format v) lines ≡ Some q
    → (lines ≡ []) × (all_done format v ≡ q)
unfolding next
nothing_behind format v [] q h = (refl, same_Some (all_done format v) q h)
nothing_behind format v (line ∷ lines) q h = absurd cc

-- and the last line, with nothing after it
end_spelled : (format : Format) (v : Written) (lines : List (List ℕ)) (q : Partial) → steps (procs_done format v) lines ≡ Some q → IsWhole q
    → (lines ≡ end_line ∷ []) × (all_done format v ≡ q)
unfolding next
end_spelled format v lines q h w =
    let first = first_line (procs_done format v) q lines h w refl in
    let got = cond_some (bytes_eq first.line end_line) (all_done format v) first.after first.read in
    let line_is : first.line ≡ end_line = (bytes_eq-Decides first.line end_line).0 got.0 in
    let last = nothing_behind format v first.others q (ap (λ r. steps r first.others) got.1 ∙ first.goes) in
    (first.is ∙ (ap (λ l. l ∷ first.others) line_is ∙ ap (λ ls. end_line ∷ ls) last.0), last.1)

-- lines that were read to the end
pub record AreSpelled (lines : List (List ℕ)) (v : Written) : Type 0 where
  pub format : Format
  pub spelled : lines ≡ code_lines format v
  pub spellable : IsSpellable format v

-- the lines after the first
record BodyRead (format : Format) (lines : List (List ℕ)) (q : Partial) : Type 0 where
  code : Written
  is : lines ≡ body_lines code
  fits : IsSpellable format code
  last : all_done format code ≡ q

-- what is read to the end after the first line is the lines of code
body_spelled : (format : Format) (lines : List (List ℕ)) (q : Partial) → steps (format_done format) lines ≡ Some q → IsWhole q
    → BodyRead format lines q
body_spelled format lines q h w =
    let states = states_spelled format lines q h w in
    let vars = counted_spelled (vars_left format states.states) var_line IsVar (states_done format states.states)
    (codes "data ") (vars_counted format states.states) refl (vars_part format states.states) states.others q
    states.goes w in
    let events = counted_spelled (events_left format states.states vars.items) event_line IsEvent
    (vars_done format states.states vars.items) (codes "events ") (events_counted format states.states vars.items)
    refl (events_part format states.states vars.items) vars.others q vars.goes w in
    let procs = procs_spelled format states.states vars.items events.items events.others q events.goes w in
    let v : Written = record { states = states.states; vars = vars.items; events = events.items; procedures = procs.procedures } in
    let last = end_spelled format v procs.others q procs.goes w in
    record {
      code = v;
      is = states.is
          ∙ ap (λ ls. states_lines states.states ++ ls) (vars.is
          ∙ ap (λ ls. vars_lines vars.items ++ ls) (events.is
          ∙ ap (λ ls. events_lines events.items ++ ls) (procs.is ∙ ap (λ ls. procs_lines procs.procedures ++ ls) last.0)));
      fits = record {
        states = states.few;
        vars = vars.few;
        events = events.few;
        procs = procs.few;
        start = procs.start_is;
        react = procs.react_is;
        are_states = states.fits;
        are_vars = vars.fits;
        are_events = events.fits;
        are_procs = procs.fits;
      };
      last = last.1;
    }

-- what is read to the end is the lines of the code that was read
pub lines_spelled : (lines : List (List ℕ)) (q : Partial) → steps nothing_read lines ≡ Some q → IsWhole q
    → AreSpelled lines (all_read q)
unfolding code_lines next
lines_spelled lines q h w =
    let first = first_line nothing_read q lines h w refl in
    option_map_some (with_format nothing_read) (format_of first.line) first.after first.read (λ format is made_is.
    let line_is = format_of-some first.line format is in
    let body = body_spelled format first.others q (ap (λ r. steps r first.others) made_is ∙ first.goes) w in
    let is_lines : lines ≡ version_line format ∷ body_lines body.code = first.is ∙ (ap (λ l. l ∷ first.others) line_is ∙ ap (λ ls. version_line format ∷ ls) body.is) in
    subst (AreSpelled lines) (ap all_read body.last) (record { format = format; spelled = is_lines; spellable = body.fits }))
