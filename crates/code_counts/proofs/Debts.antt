-- What the notes bring that a frame may run.
use Rattle.std.proofs.Common.{◌≡◌, ℕ, suc, ◌<◌, ◌≤◌, Bool, true, false, List, [], ◌∷◌, length}
use Rattle.std.proofs.Common.{Option, Some, None, refl, ap, ◌∙◌, subst, arith}
use Rattle.std.specs.Prelude.{nat_lt, if◌then◌else◌}
use Rattle.std.proofs.lemmas.Bool.{ltb-true}
use Rattle.std.proofs.lemmas.Bool.Decides.{nat_tests}
use Rattle.code_language.specs.Machine.{Frame, fresh, or_this, noted, later}
use Rattle.code_counts.specs.Certificate.{Numbers, joined, of_play, HandsOn}
use Rattle.code_counts.specs.declared.numbers.Counted.{Counted}
use Rattle.code_counts.specs.declared.numbers.Counted.TheVariants.{Steps, Outputs, Depth, Notes}

-- ---- two parts together

-- with a greater part there is more
pub joined_more : (c : Counted) (a x y : ℕ) → x ≤ y → joined c a x ≤ joined c a y
joined_more Steps a x y le = omega arith
joined_more Outputs a x y le = omega arith
joined_more Depth a x y le = omega arith
joined_more Notes a x y le = omega arith

-- with nothing there is as much
pub joined_none : (c : Counted) (a : ℕ) → joined c a 0 ≡ a
joined_none Steps a = omega arith
joined_none Outputs a = omega arith
joined_none Depth a = omega arith
joined_none Notes a = omega arith

-- two parts are at least the first one
pub joined_first : (c : Counted) (a x : ℕ) → a ≤ joined c a x
joined_first Steps a x = omega arith
joined_first Outputs a x = omega arith
joined_first Depth a x = omega arith
joined_first Notes a x = omega arith

-- and at least the second one
pub joined_second : (c : Counted) (a x : ℕ) → x ≤ joined c a x
joined_second Steps a x = omega arith
joined_second Outputs a x = omega arith
joined_second Depth a x = omega arith
joined_second Notes a x = omega arith

-- three parts in another order
joined_swap : (c : Counted) (a x y : ℕ) → joined c a (joined c x y) ≤ joined c x (joined c a y)
joined_swap Steps a x y = omega arith
joined_swap Outputs a x y = omega arith
joined_swap Depth a x y = omega arith
joined_swap Notes a x y = omega arith

-- ---- numbers of frames

-- the later of two numbers isn't below either
later_by : (a b : ℕ) (t : Bool) → nat_lt a b ≡ t → (a ≤ (if t then b else a)) × (b ≤ (if t then b else a))
later_by a b true e = let h = ltb-true a b e in (omega arith, omega arith)
later_by a b false e = (omega arith, grind (arith, nat_tests, e))

-- the later of two numbers isn't below either
pub later_both : (a b : ℕ) → (a ≤ later a b) × (b ≤ later a b)
later_both a b = later_by a b (nat_lt a b) refl

-- a lower number passes the test
pub is_lower : (n k : ℕ) → n < k → nat_lt n k ≡ true
is_lower n k lt = by (nat_lt n k) refl
  where
    by : (t : Bool) → nat_lt n k ≡ t → t ≡ true
    by true e = refl
    by false e = absurd (let h : k ≤ n = grind (arith, nat_tests, e) in omega arith)

-- ---- debts

-- what the notes of frames from number k on bring
abbrev pub debt : Counted → Numbers → ℕ → List Frame → ℕ
debt c N k [] = 0
debt c N k (f ∷ fs) = if nat_lt (length fs) k then 0 else joined c (of_play c N f.note) (debt c N k fs)

-- a frame owes enough for the notes that it may run
abbrev pub Owes : Counted → Numbers → Frame → List Frame → Type 0
Owes c N f fs = debt c N (suc f.base) (f ∷ fs) ≤ N.owed f.proc f.place

-- nothing or something is at most something
if_at_most : (b : Bool) (x y : ℕ) → x ≤ y → (if b then 0 else x) ≤ y
if_at_most true x y le = omega arith
if_at_most false x y le = le

module _ (c : Counted) (N : Numbers) where
  -- above all frames there are no notes
  pub debt_none : (k : ℕ) (fs : List Frame) → length fs ≤ k → debt c N k fs ≡ 0
  debt_none k [] le = refl
  debt_none k (f ∷ fs) le =
      ap (λ b. if b then 0 else joined c (of_play c N f.note) (debt c N k fs)) (is_lower (length fs) k (omega arith))

  -- from a later frame on there is no more
  pub debt_later : (j k : ℕ) (fs : List Frame) → j ≤ k → debt c N k fs ≤ debt c N j fs
  debt_later j k [] le = omega arith
  debt_later j k (f ∷ fs) le = by (debt_later j k fs le) (nat_lt (length fs) k) refl (nat_lt (length fs) j) refl
    where
      by : debt c N k fs ≤ debt c N j fs → (s : Bool) → nat_lt (length fs) k ≡ s → (t : Bool) → nat_lt (length fs) j ≡ t
          → (if s then 0 else joined c (of_play c N f.note) (debt c N k fs))
          ≤ (if t then 0 else joined c (of_play c N f.note) (debt c N j fs))
      by less true e t d = omega arith
      by less false e true d =
          absurd (let h : k ≤ length fs = grind (arith, nat_tests, e) in
          let l = ltb-true (length fs) j d in omega arith)
      by less false e false d =
          joined_more c (of_play c N f.note) (debt c N k fs) (debt c N j fs) less

  -- the first note, and what comes after it
  abbrev First : ℕ → List Frame → Option (ℕ × ℕ) → Type 0
  First d fs None = Unit {0}
  First d fs (Some x) = joined c (of_play c N (Some x.1)) (debt c N (suc x.0) fs) ≤ d

  -- the first note and those after it are among all
  first_of_all : (k : ℕ) (fs : List Frame) → First (debt c N k fs) fs (noted k fs)
  unfolding noted
  first_of_all k [] = tt
  first_of_all k (f ∷ fs) = by (first_of_all k fs) (nat_lt (length fs) k)
    where
      -- the frames below have one, or else this one has
      this : (o : Option (ℕ × ℕ)) (tag : Option ℕ) → f.note ≡ tag → First (debt c N k fs) fs o
          → First (joined c (of_play c N f.note) (debt c N k fs)) (f ∷ fs) (or_this o (length fs) tag)
      this (Some x) tag is h =
          let a = of_play c N (Some x.1) in
          let b = of_play c N f.note in
          let d = debt c N (suc x.0) fs in
          let below : debt c N (suc x.0) (f ∷ fs) ≤ joined c b d =
          if_at_most (nat_lt (length fs) (suc x.0)) (joined c b d) (joined c b d) (omega arith) in
          omega (
            arith,
            joined_more c a (debt c N (suc x.0) (f ∷ fs)) (joined c b d) below,
            joined_swap c a b d,
            joined_more c b (joined c a d) (debt c N k fs) h,
          )
      this None None is h = tt
      this None (Some p) is h =
          let none = debt_none (suc (length fs)) (f ∷ fs) (omega arith) in
          let same = ap (of_play c N) is in
          let q = ap (joined c (of_play c N (Some p))) none ∙ joined_none c (of_play c N (Some p)) in
          omega (arith, q, same, joined_first c (of_play c N f.note) (debt c N k fs))

      by : First (debt c N k fs) fs (noted k fs) → (t : Bool) → First
          (if t then 0 else joined c (of_play c N f.note) (debt c N k fs)) (f ∷ fs)
          (if t then None else or_this (noted k fs) (length fs) f.note)
      by h true = tt
      by h false = this (noted k fs) f.note refl h

  -- the note that is found and those after it are among all
  pub debt_first : (k : ℕ) (fs : List Frame) (x : ℕ × ℕ) → noted k fs ≡ Some x
      → joined c (of_play c N (Some x.1)) (debt c N (suc x.0) fs) ≤ debt c N k fs
  debt_first k fs x is = subst (First (debt c N k fs) fs) is (first_of_all k fs)

  -- a frame that is its own base owes nothing
  pub own_base : (g : Frame) (fs : List Frame) → g.base ≡ length fs → Owes c N g fs
  own_base g fs is =
      let none = debt_none (suc g.base) (g ∷ fs) (omega arith) in omega (arith, none)

  -- a call owes what its caller does, and its own note
  pub called_owes : (q : ℕ) (tag : Option ℕ) (f f' : Frame) (fs : List Frame) → f'.note ≡ f.note
      → Owes c N f fs → HandsOn c N (N.owed f.proc f.place) q tag
      → Owes c N (fresh q tag f.base f.home None) (f' ∷ fs)
  called_owes q tag f f' fs note owes hands =
      let same =
      ap (λ n. if nat_lt (length fs) (suc f.base) then 0
      else joined c (of_play c N n) (debt c N (suc f.base) fs)) note in
      let d = debt c N (suc f.base) (f' ∷ fs) in
      let all : joined c (of_play c N tag) d ≤ N.owed q 0 =
      omega (arith, joined_more c (of_play c N tag) d (N.owed f.proc f.place) (omega (arith, owes, same)), hands) in
      if_at_most (nat_lt (suc (length fs)) (suc f.base)) (joined c (of_play c N tag) d) (N.owed q 0) all
