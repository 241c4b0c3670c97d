-- The parts of a text: states, data, events, instructions and procedures.
use Rattle.std.proofs.Common.{◌≡◌, ℕ, zero, suc, true, false, List, [], ◌∷◌, ◌++◌, length, map, Option, Some, refl, sym}
use Rattle.std.proofs.Common.{ap, ◌∙◌, subst}
use Rattle.std.specs.Prelude.{codes, decimal, option_map, option_and_then}
use Rattle.std.specs.List.{AllByRecursion}
use Rattle.std.proofs.lemmas.Bool.{false≢true}
use Rattle.std.proofs.lemmas.Option.{same_Some, option_and_then_some}
use Rattle.std.proofs.lemmas.List.Concat.{flat_map_single}
use Rattle.actions.specs.declared.names.EventDecl.{EventDecl}
use Rattle.actions.specs.declared.names.Var.{Var}
use Rattle.code_language.specs.declared.code.RawState.{RawState}
use Rattle.code_language.specs.Instrs.{Instr}
use Rattle.code_fields.specs.Spelling.{IsNumber, IsVar, var_line, IsEvent, event_line}
use Rattle.code_fields.specs.Fields.{number_behind, var_of, event_of}
use Rattle.code_fields.proofs.CutLemmas.{option_map_some}
use Rattle.code_fields.proofs.BehindLemmas.{number_behind-line, number_behind-some}
use Rattle.code_fields.proofs.LineLemmas.{var_of-line, var_of-some, event_of-line, event_of-some}
use Rattle.code_lines.specs.declared.format.Format.{Format}
use Rattle.code_lines.specs.Spelling.{state_line, IsInstr, instr_line}
use Rattle.code_lines.specs.Fields.{state_at, instr_in}
use Rattle.code_lines.proofs.InstrLemmas.{instr_in-line, instr_in-some}
use Rattle.code_lines.proofs.StateLemmas.{state_at-line, state_at-some}
use Rattle.code_text.specs.declared.expected.Expected.{Expected}
use Rattle.code_text.specs.declared.expected.Expected.TheVariants as expects
use Rattle.code_text.specs.Spelling.{head_line, proc_lines, StandsAt, IsProc}
use Rattle.code_text.specs.Reading.{Partial, next, is_whole, state_next, var_next, event_next, head_next, instr_next}
use Rattle.code_text.proofs.StepLemmas.{steps, IsWhole, FrontItem, IsPart, part_read, part_spelled}

-- what was read, field by field
abbrev pub made : Format → List RawState → List Var → List EventDecl → ℕ → ℕ → List (List Instr) → List Instr → Expected → Partial
made format states vars events start react procs instrs expected =
    record {
      format = format;
      states = states;
      vars = vars;
      events = events;
      start = start;
      react = react;
      procs = procs;
      instrs = instrs;
      expected = expected;
    }

-- where more is to come, there is a first line
pub record FirstLine (p : Partial) (lines : List (List ℕ)) (q : Partial) : Type 0 where
  pub line : List ℕ
  pub others : List (List ℕ)
  pub after : Partial
  pub is : lines ≡ line ∷ others
  pub read : next p line ≡ Some after
  pub goes : steps after others ≡ Some q

-- lines that lead to a whole code begin with one that can stand
pub first_line : (p q : Partial) (lines : List (List ℕ)) → steps p lines ≡ Some q → IsWhole q
    → is_whole p.expected ≡ false → FirstLine p lines q
first_line p q [] h w more =
    let P : Partial → Type 0 = λ r. is_whole r.expected ≡ true in
    absurd (false≢true (sym more ∙ subst P (sym (same_Some p q h)) w))
first_line p q (line ∷ lines) h w more =
    option_and_then_some (λ r. steps r lines) (next p line) q h (λ r e g. record { line = line; others = lines; after = r; is = refl; read = e; goes = g })

-- an item of one line is spelled so
line_spelled : {X : Type 0} (with : ℕ → List X → Partial) (line : X → List ℕ) (Fits : X → Type 0) (reads : List ℕ → Option X)
    → ((n : ℕ) (xs : List X) (l : List ℕ) → next (with (suc n) xs) l ≡ option_map (λ x. with n (xs ++ x ∷ [])) (reads l))
    → ((l : List ℕ) (x : X) → reads l ≡ Some x → (l ≡ line x) × Fits x)
    → ((n : ℕ) (xs : List X) → is_whole (with (suc n) xs).expected ≡ false)
    → (n : ℕ) (xs : List X) (lines : List (List ℕ)) (q : Partial) → steps (with (suc n) xs) lines ≡ Some q → IsWhole q
    → FrontItem (with n) (λ x. line x ∷ []) Fits xs lines q
line_spelled with line Fits reads goes some more n xs lines q h w =
    let first = first_line (with (suc n) xs) q lines h w (more n xs) in
    option_map_some (λ x. with n (xs ++ x ∷ [])) (reads first.line) first.after (sym (goes n xs first.line) ∙ first.read) (λ x is made_is.
    let got = some first.line x is in
    record {
      item = x;
      others = first.others;
      is = first.is ∙ ap (λ l. l ∷ first.others) got.0;
      fits = got.1;
      goes = ap (λ r. steps r first.others) made_is ∙ first.goes;
    })

-- items of one line each
line_part : {X : Type 0} (with : ℕ → List X → Partial) (line : X → List ℕ) (Fits : X → Type 0) (reads : List ℕ → Option X)
    → ((n : ℕ) (xs : List X) (l : List ℕ) → next (with (suc n) xs) l ≡ option_map (λ x. with n (xs ++ x ∷ [])) (reads l))
    → ((x : X) → Fits x → reads (line x) ≡ Some x)
    → ((l : List ℕ) (x : X) → reads l ≡ Some x → (l ≡ line x) × Fits x)
    → ((n : ℕ) (xs : List X) → is_whole (with (suc n) xs).expected ≡ false)
    → IsPart with (λ x. line x ∷ []) Fits
line_part with line Fits reads goes is_read some more =
    record {
      one_read = λ n xs x h. ap (λ o. option_and_then (λ r. steps r []) o) (goes n xs (line x) ∙ ap (λ o. option_map (λ y. with n (xs ++ y ∷ [])) o) (is_read x h));
      one_spelled = line_spelled with line Fits reads goes some more;
    }

-- ---- a count, and so many lines

-- the lines of items under their count are read
pub counted_read : {X : Type 0} (with : ℕ → List X → Partial) (line : X → List ℕ) (Fits : X → Type 0) (p : Partial) (words : List ℕ)
    → ((l : List ℕ) → next p l ≡ option_map (λ n. with n []) (number_behind words l))
    → IsPart with (λ x. line x ∷ []) Fits
    → (xs : List X) → IsNumber (length xs) → AllByRecursion Fits xs
    → steps p ((words ++ decimal (length xs)) ∷ map line xs) ≡ Some (with 0 xs)
counted_read with line Fits p words counts part xs few fits =
    ap (λ o. option_and_then (λ r. steps r (map line xs)) o) (counts (words ++ decimal (length xs)) ∙ ap (λ (o : Option ℕ). option_map (λ n. with n []) o) (number_behind-line words (length xs) few))
    ∙ (ap (λ ls. steps (with (length xs) []) ls) (sym (flat_map_single line xs))
    ∙ part_read with (λ x. line x ∷ []) Fits part xs [] fits)

-- items under their count, and the lines after theirs
pub record Counted {X : Type 0} (words : List ℕ) (line : X → List ℕ) (Fits : X → Type 0) (after : List X → Partial) (lines : List (List ℕ)) (q : Partial) : Type 0 where
  pub items : List X
  pub others : List (List ℕ)
  pub is : lines ≡ ((words ++ decimal (length items)) ∷ map line items) ++ others
  pub few : IsNumber (length items)
  pub fits : AllByRecursion Fits items
  pub goes : steps (after items) others ≡ Some q

-- and spelled so
pub counted_spelled : {X : Type 0} (with : ℕ → List X → Partial) (line : X → List ℕ) (Fits : X → Type 0) (p : Partial) (words : List ℕ)
    → ((l : List ℕ) → next p l ≡ option_map (λ n. with n []) (number_behind words l))
    → is_whole p.expected ≡ false → IsPart with (λ x. line x ∷ []) Fits
    → (lines : List (List ℕ)) (q : Partial) → steps p lines ≡ Some q → IsWhole q
    → Counted words line Fits (with 0) lines q
counted_spelled with line Fits p words counts more part lines q h w =
    let first = first_line p q lines h w more in
    option_map_some (λ n. with n []) (number_behind words first.line) first.after (sym (counts first.line) ∙ first.read) (λ n is made_is.
    let got = number_behind-some words first.line n is in
    let rest = part_spelled with (λ x. line x ∷ []) Fits part n [] first.others q (ap (λ r. steps r first.others) made_is ∙ first.goes) w in
    let line_is : first.line ≡ words ++ decimal (length rest.items) = got.0 ∙ ap (λ (m : ℕ). words ++ decimal m) (sym rest.count) in
    record {
      items = rest.items;
      others = rest.others;
      is = first.is ∙ (ap (λ l. l ∷ first.others) line_is
          ∙ ap (λ ls. (words ++ decimal (length rest.items)) ∷ ls) (rest.is ∙ ap (λ ls. ls ++ rest.others) (flat_map_single line rest.items)));
      few = subst IsNumber (sym rest.count) got.1;
      fits = rest.fits;
      goes = rest.goes;
    })

-- ---- states, data and events

-- n states to come after the first
abbrev pub states_left : Format → ℕ → List RawState → Partial
states_left format n states = made format states [] [] 0 0 [] [] (state_next n)

-- they are a part
pub states_part : (format : Format) → IsPart (states_left format) (λ s. state_line s ∷ []) (StandsAt false)
unfolding next
states_part format =
    line_part (states_left format) state_line (StandsAt false) (state_at false) (λ n xs l. refl) (λ s h. state_at-line false s h.0 h.1)
    (λ l s h. let got = state_at-some false l s h in (got.0, (got.1, got.2))) (λ n xs. refl)

-- n data to come
abbrev pub vars_left : Format → List RawState → ℕ → List Var → Partial
vars_left format states n vars = made format states vars [] 0 0 [] [] (var_next n)

-- they are a part
pub vars_part : (format : Format) (states : List RawState) → IsPart (vars_left format states) (λ v. var_line v ∷ []) IsVar
unfolding next
vars_part format states =
    line_part (vars_left format states) var_line IsVar var_of (λ n xs l. refl) var_of-line var_of-some (λ n xs. refl)

-- n events to come
abbrev pub events_left : Format → List RawState → List Var → ℕ → List EventDecl → Partial
events_left format states vars n events = made format states vars events 0 0 [] [] (event_next n)

-- they are a part
pub events_part : (format : Format) (states : List RawState) (vars : List Var)
    → IsPart (events_left format states vars) (λ e. event_line e ∷ []) IsEvent
unfolding next
events_part format states vars =
    line_part (events_left format states vars) event_line IsEvent event_of (λ n xs l. refl) event_of-line event_of-some (λ n xs. refl)

-- ---- procedures

-- what stands above the procedures
pub record Above : Type 0 where
  pub format : Format
  pub states : List RawState
  pub vars : List Var
  pub events : List EventDecl
  pub start : ℕ
  pub react : ℕ

-- procedures that were read, and how many come after the one that is read now
pub record Around : Type 0 where
  pub above : Above
  pub procs : List (List Instr)
  pub more : ℕ

-- with these procedures and instructions
abbrev pub below : Above → List (List Instr) → List Instr → Expected → Partial
below a procs instrs expected = made a.format a.states a.vars a.events a.start a.react procs instrs expected

-- n instructions to come
abbrev pub instrs_left : Around → ℕ → List Instr → Partial
instrs_left a n is = instr_next (below a.above a.procs is expects.End) n a.more

-- an instruction goes on to the next
instrs_next : (a : Around) (n : ℕ) (is : List Instr) (l : List ℕ)
    → next (instrs_left a (suc n) is) l ≡ option_map (λ i. instrs_left a n (is ++ i ∷ [])) (instr_in a.above.format l)
unfolding next
instrs_next a zero is l = refl
instrs_next a (suc n) is l = refl

-- the instructions of a procedure are a part
pub instrs_part : (a : Around) → IsPart (instrs_left a) (λ i. instr_line i ∷ []) (IsInstr a.above.format)
instrs_part a =
    line_part (instrs_left a) instr_line (IsInstr a.above.format) (instr_in a.above.format) (instrs_next a)
    (instr_in-line a.above.format) (instr_in-some a.above.format) (λ n xs. refl)

-- n procedures to come
abbrev pub procs_left : Above → ℕ → List (List Instr) → Partial
procs_left a n procs = below a procs [] (head_next n)

-- the next line doesn't matter where the count of instructions is known
same_next : (a : Around) (k : ℕ) (is : List Instr) (e : Expected)
    → instr_next (below a.above a.procs is e) k a.more ≡ instrs_left a k is
same_next a zero is e = refl
same_next a (suc k) is e = refl

-- the head of a procedure
head_next_is : (a : Around) (l : List ℕ) (k : ℕ) → number_behind (codes "p ") l ≡ Some k
    → next (procs_left a.above (suc a.more) a.procs) l ≡ Some (instrs_left a k [])
unfolding next
head_next_is a l k h =
    ap (λ (o : Option ℕ). option_map (λ m. instr_next (procs_left a.above (suc a.more) a.procs) m a.more) o) h
    ∙ ap Some (same_next a k [] (expects.Head a.more))

-- the lines of a procedure are read
proc_read : (a : Around) (is : List Instr) → IsProc a.above.format is
    → steps (procs_left a.above (suc a.more) a.procs) (proc_lines is) ≡ Some (procs_left a.above a.more (a.procs ++ is ∷ []))
proc_read a is h =
    ap (λ o. option_and_then (λ r. steps r (map instr_line is)) o) (head_next_is a (head_line (length is)) (length is) (number_behind-line (codes "p ") (length is) h.count))
    ∙ (ap (λ ls. steps (instrs_left a (length is) []) ls) (sym (flat_map_single instr_line is))
    ∙ part_read (instrs_left a) (λ i. instr_line i ∷ []) (IsInstr a.above.format) (instrs_part a) is [] h.instrs)

-- and spelled so
proc_spelled : (a : Around) (lines : List (List ℕ)) (q : Partial)
    → steps (procs_left a.above (suc a.more) a.procs) lines ≡ Some q → IsWhole q
    → FrontItem (procs_left a.above a.more) proc_lines (IsProc a.above.format) a.procs lines q
unfolding next
proc_spelled a lines q h w =
    let p = procs_left a.above (suc a.more) a.procs in
    let first = first_line p q lines h w refl in
    option_map_some (λ k. instr_next p k a.more) (number_behind (codes "p ") first.line) first.after first.read (λ k is made_is.
    let head = number_behind-some (codes "p ") first.line k is in
    let goes : steps (instrs_left a k []) first.others ≡ Some q = ap (λ r. steps r first.others) (sym (same_next a k [] (expects.Head a.more)) ∙ made_is)
    ∙ first.goes in
    let all = part_spelled (instrs_left a) (λ i. instr_line i ∷ []) (IsInstr a.above.format) (instrs_part a) k [] first.others q goes w in
    let count : head_line k ≡ head_line (length all.items) = ap head_line (sym all.count) in
    record {
      item = all.items;
      others = all.others;
      is = first.is ∙ (ap (λ l. l ∷ first.others) (head.0 ∙ count)
          ∙ ap (λ ls. head_line (length all.items) ∷ ls) (all.is ∙ ap (λ ls. ls ++ all.others) (flat_map_single instr_line all.items)));
      fits = record { count = subst IsNumber (sym all.count) head.1; instrs = all.fits };
      goes = all.goes;
    })

-- the procedures are a part
pub procs_part : (a : Above) → IsPart (procs_left a) proc_lines (IsProc a.format)
procs_part a =
    record {
      one_read = λ n procs is h. proc_read (record { above = a; procs = procs; more = n }) is h;
      one_spelled = λ n procs lines q h w. proc_spelled (record { above = a; procs = procs; more = n }) lines q h w;
    }
