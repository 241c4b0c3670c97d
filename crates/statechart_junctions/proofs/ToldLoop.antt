-- Reading any number of counted things, as a loop does that keeps their values and the counts after the last.
use Rattle.std.proofs.Common.{◌≡◌, true, false, List, [], ◌∷◌, ◌++◌, Ok, Err, refl, sym, ap, ◌∙◌, append_assoc}
use Rattle.std.proofs.lemmas.List.{append-nil}
use Rattle.token_grammar.specs.declared.fault.ReadError.{ReadError}
use Rattle.token_grammar.specs.declared.fault.ReadError.TheVariants as errors
use Rattle.token_grammar.specs.Token.{Lexeme, Outcome, Fails}
use Rattle.token_grammar.specs.Grammar.{Grammar, and_then, heads, many_from}
use Rattle.token_grammar.proofs.Good.{Set, Good}
use Rattle.token_grammar.proofs.State.{consed, from_none, from_one}
use Rattle.chart_grammar.specs.Limits.{Counts, Counted}
use Rattle.chart_grammar.specs.States.{values, counts_behind}
use Rattle.statechart_junctions.specs.Told.{told}

-- what was read before, and what is still read
abbrev pub behind : {X : Type 0} → List X → Outcome (Counted (List X)) → Outcome (Counted (List X))
behind front read = and_then read (λ x r. Ok (record { value = front ++ x.value; counts = x.counts }, r))

-- before the first nothing is counted
pub told_begins : {X : Type 0} (read : Outcome (Counted (List X))) → behind [] read ≡ read
told_begins (Ok x) = refl
told_begins (Err e) = refl

-- one more in front is one more counted
regroup : {X : Type 0} (front : List X) (n : Counts) (x : Counted X) (rest : Outcome (List (Counted X)))
    → behind front (told n (consed x rest)) ≡ behind (front ++ x.value ∷ []) (told x.counts rest)
regroup front n x (Ok y) =
    ap (λ (vs : List _). Ok (record { value = vs; counts = counts_behind x.counts y.0 }, y.1))
    (sym (append_assoc front (x.value ∷ []) (values y.0)))
regroup front n x (Err e) = refl

module _ {S X : Type 0} (set : S → Set) (g : S → Grammar (Counted X)) (next : S → Counted X → S) {f : S → Set} {m : Set}
    (good : (z : S) → Good (g z) (f z) false m) where
  -- one more was read
  pub told_goes_on : (st : S) (n : Counts) (front : List X) (s : List Lexeme) (x : Counted X) (r : List Lexeme)
      (total : Outcome (Counted (List X)))
      → heads (set st) s ≡ true → (g st).reads s ≡ Ok (x, r)
      → behind front (told n ((many_from set g next st).reads s)) ≡ total
      → behind (front ++ x.value ∷ []) (told x.counts ((many_from set g next (next st x)).reads r)) ≡ total
  told_goes_on st n front s x r total here one so_far =
      sym (regroup front n x ((many_from set g next (next st x)).reads r))
      ∙ ap (λ o. behind front (told n o)) (sym (from_one set g next f m good st s here ∙ rw one refl))
      ∙ so_far

  -- reading one failed
  pub told_fails : (err : ReadError) (st : S) (n : Counts) (front : List X) (s r : List Lexeme)
      (total : Outcome (Counted (List X)))
      → heads (set st) s ≡ true → Fails err r ((g st).reads s)
      → behind front (told n ((many_from set g next st).reads s)) ≡ total → Fails err r total
  told_fails errors.Memory st n front s r total here one so_far = tt
  told_fails (errors.Fault d) st n front s r total here one so_far =
      let stopped : (many_from set g next st).reads s ≡ Err (d, r) =
      from_one set g next f m good st s here ∙ rw one refl in
      sym so_far ∙ ap (λ o. behind front (told n o)) stopped

  -- no more stand there
  pub told_ends : (st : S) (n : Counts) (front : List X) (s : List Lexeme) (total : Outcome (Counted (List X)))
      → heads (set st) s ≡ false → behind front (told n ((many_from set g next st).reads s)) ≡ total
      → total ≡ Ok (record { value = front; counts = n }, s)
  told_ends st n front s total none so_far =
      sym so_far ∙ ap (λ o. behind front (told n o)) (from_none set g next f m good st s none)
      ∙ ap (λ (vs : List _). Ok (record { value = vs; counts = n }, s)) (append-nil front)

-- ---- what stands after the loop

-- what is read from the list is read from its values and counts
pub told_more : {X Y : Type 0} (n : Counts) (read : Outcome (List (Counted X)))
    (more : Counted (List X) → List Lexeme → Outcome Y)
    → and_then read (λ found r. more (record { value = values found; counts = counts_behind n found }) r)
    ≡ and_then (told n read) more
told_more n (Ok x) more = refl
told_more n (Err e) more = refl

-- and so is what failed
pub told_stops : {X Y : Type 0} (n : Counts) (err : ReadError) (read : Outcome (List (Counted X))) (r : List Lexeme)
    (h : List (Counted X) → List Lexeme → Outcome Y) → Fails err r (told n read) → Fails err r (and_then read h)
told_stops n errors.Memory read r h e = tt
told_stops n (errors.Fault d) (Ok x) r h e = absurd cc
told_stops n (errors.Fault d) (Err x) r h e = let same : x ≡ (d, r) = cc in ap (λ z. Err z) same
