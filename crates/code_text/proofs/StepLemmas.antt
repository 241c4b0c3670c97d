-- Lines read one after another, and parts of a text that have a count.
use Rattle.std.proofs.Common.{◌≡◌, ℕ, zero, suc, ◌+◌, Bool, true, false, List, [], ◌∷◌, ◌++◌, length, Option, Some}
use Rattle.std.proofs.Common.{None, Ok, Err, refl, sym, ap, ◌∙◌, append_assoc, arith}
use Rattle.std.specs.Prelude.{option_and_then, nat_eq, not, if◌then◌else◌}
use Rattle.std.specs.List.{flat_map, AllByRecursion}
use Rattle.std.proofs.lemmas.Option.{same_Some, option_and_then_some}
use Rattle.std.proofs.lemmas.List.{append-nil}
use Rattle.std.proofs.lemmas.Bool.Decides.{nat_tests}
use Rattle.code_text.specs.Written.{Written}
use Rattle.code_text.specs.declared.fault.CodeTextFault.TheVariants as faults
use Rattle.code_text.specs.Reading.{Partial, next, refusal, or_refuse, outcome_from, all_read, is_whole}

-- what is read after some lines
abbrev pub steps : Partial → List (List ℕ) → Option Partial
steps p [] = Some p
steps p (line ∷ lines) = option_and_then (λ q. steps q lines) (next p line)

-- all was read
abbrev pub IsWhole : Partial → Type 0
IsWhole p = is_whole p.expected ≡ true

-- steps over lines, and over those after them
pub steps-append : (p q : Partial) (lines others : List (List ℕ)) → steps p lines ≡ Some q
    → steps p (lines ++ others) ≡ steps q others
steps-append p q [] others h = ap (λ r. steps r others) (same_Some p q h)
steps-append p q (line ∷ lines) others h =
    option_and_then_some (λ r. steps r lines) (next p line) q h (λ r e g.
    ap (λ (o : Option Partial). option_and_then (λ s. steps s (lines ++ others)) o) e ∙ steps-append r q lines others g)

-- lines that can stand don't change the outcome
pub outcome-steps : (p q : Partial) (n : ℕ) (lines others : List (List ℕ)) (rest : List ℕ) → steps p lines ≡ Some q
    → outcome_from p n (lines ++ others) rest ≡ outcome_from q (n + length lines) others rest
outcome-steps p q n [] others rest h =
    let same : p ≡ q = same_Some p q h in
    let zero_more : n + 0 ≡ n = omega arith in
    rw (same, zero_more) refl
outcome-steps p q n (line ∷ lines) others rest h =
    option_and_then_some (λ r. steps r lines) (next p line) q h (λ r e g.
    let one_more : n + 1 + length lines ≡ n + suc (length lines) = omega arith in
    ap (λ (o : Option Partial). or_refuse o (refusal p.expected n line) (λ s. outcome_from s (n + 1) (lines ++ others) rest)) e
    ∙ (outcome-steps r q (n + 1) lines others rest g ∙ ap (λ m. outcome_from q m others rest) one_more))

-- what a code was read from
pub record ReadFrom (p : Partial) (lines : List (List ℕ)) (rest : List ℕ) (code : Written) : Type 0 where
  pub last : Partial
  pub steps_are : steps p lines ≡ Some last
  pub whole : IsWhole last
  pub nothing_behind : rest ≡ []
  pub code_is : all_read last ≡ code

-- what is read to its end has the line `end`, and nothing after it
ended : (whole empty : Bool) (p : Partial) (n : ℕ) (rest : List ℕ) (code : Written) → is_whole p.expected ≡ whole
    → nat_eq (length rest) 0 ≡ empty
    → (if not whole then Err faults.Truncated else if empty then Ok (all_read p) else Err (faults.Trailing n)) ≡ Ok code
    → (whole ≡ true) × (empty ≡ true) × (all_read p ≡ code)
ended false empty p n rest code w e h = absurd cc
ended true false p n rest code w e h = absurd cc
ended true true p n rest code w e h = (refl, refl, cc)

-- a text of no length is empty
no_bytes : (rest : List ℕ) → nat_eq (length rest) 0 ≡ true → rest ≡ []
no_bytes [] h = refl
no_bytes (b ∷ rest) h = absurd (grind (arith, nat_tests))

-- where the outcome is a code, the line could stand
read_on : (p : Partial) (n : ℕ) (line : List ℕ) (lines : List (List ℕ)) (rest : List ℕ) (code : Written) (o : Option Partial)
    → next p line ≡ o
    → or_refuse o (refusal p.expected n line) (λ q. outcome_from q (n + 1) lines rest) ≡ Ok code
    → ((q : Partial) → outcome_from q (n + 1) lines rest ≡ Ok code → ReadFrom q lines rest code)
    → ReadFrom p (line ∷ lines) rest code
read_on p n line lines rest code None e h on = absurd cc
read_on p n line lines rest code (Some q) e h on =
    let r = on q h in
    record {
      last = r.last;
      steps_are = ap (λ (o : Option Partial). option_and_then (λ s. steps s lines) o) e ∙ r.steps_are;
      whole = r.whole;
      nothing_behind = r.nothing_behind;
      code_is = r.code_is;
    }

-- a code is read by steps to its end
pub read_from : (p : Partial) (n : ℕ) (lines : List (List ℕ)) (rest : List ℕ) (code : Written)
    → outcome_from p n lines rest ≡ Ok code → ReadFrom p lines rest code
read_from p n [] rest code h =
    let at = ended (is_whole p.expected) (nat_eq (length rest) 0) p n rest code refl refl h in
    record { last = p; steps_are = refl; whole = at.0; nothing_behind = no_bytes rest at.1; code_is = at.2 }
read_from p n (line ∷ lines) rest code h =
    read_on p n line lines rest code (next p line) refl h (λ q. read_from q (n + 1) lines rest code)

-- the lines of one item, and those after them
pub record FrontItem {X : Type 0} (more : List X → Partial) (lines_of : X → List (List ℕ)) (Fits : X → Type 0) (xs : List X) (lines : List (List ℕ)) (q : Partial) : Type 0 where
  pub item : X
  pub others : List (List ℕ)
  pub is : lines ≡ lines_of item ++ others
  pub fits : Fits item
  pub goes : steps (more (xs ++ item ∷ [])) others ≡ Some q

-- a part of a text: n items to come, each with lines of its own
pub record IsPart {X : Type 0} (with : ℕ → List X → Partial) (lines_of : X → List (List ℕ)) (Fits : X → Type 0) : Type 0 where
  pub one_read : (n : ℕ) (xs : List X) (x : X) → Fits x
      → steps (with (suc n) xs) (lines_of x) ≡ Some (with n (xs ++ x ∷ []))
  pub one_spelled : (n : ℕ) (xs : List X) (lines : List (List ℕ)) (q : Partial) → steps (with (suc n) xs) lines ≡ Some q
      → IsWhole q → FrontItem (with n) lines_of Fits xs lines q

-- the lines of all items, and those after them
pub record FrontItems {X : Type 0} (with : ℕ → List X → Partial) (lines_of : X → List (List ℕ)) (Fits : X → Type 0) (n : ℕ) (xs : List X) (lines : List (List ℕ)) (q : Partial) : Type 0 where
  pub items : List X
  pub others : List (List ℕ)
  pub is : lines ≡ flat_map lines_of items ++ others
  pub count : length items ≡ n
  pub fits : AllByRecursion Fits items
  pub goes : steps (with 0 (xs ++ items)) others ≡ Some q

-- the lines of items are read as them
pub part_read : {X : Type 0} (with : ℕ → List X → Partial) (lines_of : X → List (List ℕ)) (Fits : X → Type 0)
    → IsPart with lines_of Fits
    → (ys xs : List X) → AllByRecursion Fits ys
    → steps (with (length ys) xs) (flat_map lines_of ys) ≡ Some (with 0 (xs ++ ys))
part_read with lines_of Fits part [] xs h = ap (λ zs. Some (with 0 zs)) (sym (append-nil xs))
part_read with lines_of Fits part (y ∷ ys) xs h =
    steps-append (with (suc (length ys)) xs) (with (length ys) (xs ++ y ∷ [])) (lines_of y) (flat_map lines_of ys) (part.one_read (length ys) xs y h.0)
    ∙ (part_read with lines_of Fits part ys (xs ++ y ∷ []) h.1 ∙ ap (λ zs. Some (with 0 zs)) (append_assoc xs (y ∷ []) ys))

-- what is read is the lines of items
pub part_spelled : {X : Type 0} (with : ℕ → List X → Partial) (lines_of : X → List (List ℕ)) (Fits : X → Type 0)
    → IsPart with lines_of Fits
    → (n : ℕ) (xs : List X) (lines : List (List ℕ)) (q : Partial) → steps (with n xs) lines ≡ Some q → IsWhole q
    → FrontItems with lines_of Fits n xs lines q
part_spelled with lines_of Fits part zero xs lines q h w =
    record { items = []; others = lines; is = refl; count = refl; fits = tt; goes = ap (λ zs. steps (with 0 zs) lines) (append-nil xs) ∙ h }
part_spelled with lines_of Fits part (suc n) xs lines q h w =
    let one = part.one_spelled n xs lines q h w in
    let all = part_spelled with lines_of Fits part n (xs ++ one.item ∷ []) one.others q one.goes w in
    record {
      items = one.item ∷ all.items;
      others = all.others;
      is = one.is
          ∙ (ap (λ ls. lines_of one.item ++ ls) all.is ∙ sym (append_assoc (lines_of one.item) (flat_map lines_of all.items) all.others));
      count = ap (λ m. suc m) all.count;
      fits = (one.fits, all.fits);
      goes = ap (λ zs. steps (with 0 zs) all.others) (sym (append_assoc xs (one.item ∷ []) all.items)) ∙ all.goes;
    }
