-- Where a reader of lines is in a file.
use Rattle.std.proofs.Common.{◌≡◌, ℕ, ◌+◌, ◌<◌, ◌≤◌, ◌⊎◌, Bool, true, false, ◌||◌, List, [], ◌∷◌, ◌++◌, length, Option}
use Rattle.std.proofs.Common.{Some, None, refl, sym, ap, ◌∙◌, subst, arith, append_assoc, length-append, inl, inr}
use Rattle.event_file.specs.declared.limits.TheConstants.{LINE_LIMIT, FILE_LIMIT}
use Rattle.std.specs.Io.KnownBytes.{prepend_known, IsAtEnd}
use Rattle.std.proofs.lemmas.Bool.Decides.{nat_tests}
use Rattle.event_file.specs.Lines.{spelled}
use Rattle.event_file.specs.NextLine.{TakesLine, Fills}
use Rattle.event_file.specs.Reading.{Reading, is_enough}
use Rattle.event_file.proofs.NextLemmas.{kept_at_end}
use Rattle.step_driver.specs.Driving.{IsText, is_closed}

-- the end of the file was met, and no bytes are at hand
abbrev pub AllTaken : Reading → Type 0
AllTaken r = (r.ended ≡ true) × (r.pending ≡ [])

-- the bytes of lines taken so far, of a file of which that was left and this is left
pub record Place (before : Option (List ℕ)) (r : Reading) (left : Option (List ℕ)) : Type 0 where
  pub taken : List ℕ
  pub bytes : before ≡ prepend_known taken (prepend_known r.pending left)
  pub sized : length taken ≡ r.at
  pub closed : (is_closed taken ≡ true) ⊎ AllTaken r
  pub within : r.at ≤ FILE_LIMIT
  pub ended : r.ended ≡ true → IsAtEnd left
  pub failed : r.failed ≡ false

-- these bytes may come after the lines taken: none where all were
abbrev pub MayCome : Reading → List ℕ → Type 0
MayCome r to_come = AllTaken r → to_come ≡ []

pub prepend_none : (left : Option (List ℕ)) → left ≡ prepend_known [] (prepend_known [] left)
prepend_none None = refl
prepend_none (Some bytes) = refl

pub kept_end : (before : Option (List ℕ)) (old mid : Reading) (left left' : Option (List ℕ)) (b : Bool) → old.ended ≡ b
    → Place before old left → Fills old mid left left' → mid.ended ≡ true → IsAtEnd left'
kept_end before old mid left left' true e p f ended = subst IsAtEnd (sym (kept_at_end old mid left left' f e).1)
    (p.ended e)
kept_end before old mid left left' false e p f ended = f.ended ended e

-- where all was taken before a read, it is after it
pub all_taken : (old mid : Reading) (left left' : Option (List ℕ)) → Fills old mid left left' → AllTaken old
    → AllTaken mid
all_taken old mid left left' f all =
    let same = (kept_at_end old mid left left' f all.0).0 in
    (ap (λ (r : Reading). r.ended) same ∙ all.0, ap (λ (r : Reading). r.pending) same ∙ all.1)

is_closed-snoc : (bytes : List ℕ) → is_closed (bytes ++ 10 ∷ []) ≡ true
is_closed-snoc [] = refl
is_closed-snoc (b ∷ []) = refl
is_closed-snoc (b ∷ (d ∷ bytes)) = is_closed-snoc (d ∷ bytes)

-- the bytes of the lines are closed after a line that isn't the last
pub closed_after : (taken raw : List ℕ) (new : Reading) (closed : Bool) → (closed ≡ false → AllTaken new)
    → (is_closed (taken ++ spelled raw closed) ≡ true) ⊎ AllTaken new
closed_after taken raw new true last = inl
    (ap is_closed (sym (append_assoc taken raw (10 ∷ []))) ∙ is_closed-snoc (taken ++ raw))
closed_after taken raw new false last = inr (last refl)

-- all is taken only where nothing is at hand
pub not_all : (r : Reading) → 0 < length r.pending → AllTaken r → ⊥
not_all r some all = let none : length r.pending ≡ 0 = ap length all.1 in absurd (omega (arith, some, none))

-- a line that was taken was at hand
pub line_at_hand : (mid new : Reading) → TakesLine mid new → 0 < length mid.pending
line_at_hand mid new l =
    omega (arith, l.some, ap length l.pending, length-append (spelled l.raw l.closed) new.pending)

-- what is told to be left, nothing where it isn't told
abbrev pub told : Option (List ℕ) → List ℕ
told None = []
told (Some bytes) = bytes

pub told_end : (left : Option (List ℕ)) → IsAtEnd left → told left ≡ []
told_end None e = refl
told_end (Some bytes) e = e

pub told_text : (before left : Option (List ℕ)) (taken pending : List ℕ)
    → before ≡ prepend_known taken (prepend_known pending left)
    → IsText before (taken ++ (pending ++ told left))
told_text before None taken pending is = rw is tt
told_text before (Some bytes) taken pending is = rw is refl

-- they are closed where bytes are at hand
pub taken_closed : (before : Option (List ℕ)) (mid : Reading) (left : Option (List ℕ)) → (p : Place before mid left)
    → 0 < length mid.pending
    → is_closed p.taken ≡ true
taken_closed before mid left p some = elim p.closed [ inl closed ↦ closed | inr all ↦ absurd (not_all mid some all) ]

-- the bytes at hand tell nothing yet: the end wasn't met, and they are part of a line, within the limits
pub record NotReady (at n held : ℕ) (ended : Bool) : Type 0 where
  pub open_end : ended ≡ false
  pub part : held ≤ n
  pub short : held ≤ LINE_LIMIT
  pub within : at + held ≤ FILE_LIMIT

pub not_ready : (at n held : ℕ) (ended : Bool) → (ended || is_enough at n held) ≡ false → NotReady at n held ended
not_ready at n held true e = absurd (cc)
not_ready at n held false e = record {
  open_end = refl;
  part = grind (arith, nat_tests);
  short = grind (arith, nat_tests);
  within = grind (arith, nat_tests);
}
