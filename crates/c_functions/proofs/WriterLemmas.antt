-- What the writer writes is written for the instructions.
use Rattle.std.proofs.Common.{◌≡◌, ◌≤◌, ◌<◌, ℕ, zero, suc, ◌+◌, ◌-◌, List, [], ◌∷◌, length, drop, Option, Some, None}
use Rattle.std.proofs.Common.{Bool, true, false, refl, sym, ap, ◌∙◌, subst, arith}
use Rattle.std.specs.Prelude.{◌&&◌, nat_le, slice_get}
use Rattle.std.proofs.lemmas.Bool.Decides.{nat_tests}
use Rattle.std.proofs.lemmas.List.{drop_all}
use Rattle.std.proofs.lemmas.Bool.{and_parts}
use Rattle.active_config.specs.declared.comp.Comp.{Comp}
use Rattle.active_config.specs.declared.comp.Comp.TheVariants.{Leaf, Or, And}
use Rattle.active_config.specs.Tree.{Tree, state_count, parent_of, comp_of, is_or}
use Rattle.code_language.specs.Code.{Code, instructions}
use Rattle.code_language.specs.Instrs.{Cond, Instr}
use Rattle.code_language.specs.Instrs as i
use Rattle.code_language.specs.Sound.{AreSound}
use Rattle.code_language.specs.WellFormed.{Known, known_of, IsCode, can_be_kept, instr_known, instr_keeps}
use Rattle.code_language.specs.WellFormed.{skips_within}
use Rattle.code_language.proofs.Sound.{code_parts, proc_at, instructions_at, or_none}
use Rattle.code_language.proofs.Tails.{drop_none}
use Rattle.c_functions.specs.Statements.{Block}
use Rattle.c_functions.specs.Statements as c
use Rattle.c_functions.specs.Written.{straight, IsOrChild, IsStraight, Written, Stops, Steps, Returns, Skips}
use Rattle.c_functions.specs.Written.{Forks, AreWritten}
use Rattle.c_functions.specs.Writer.{jump_of, stays_within, skip_of, join_of, fork_at, write_one, write, plan_of}
use Rattle.c_functions.specs.Writer.{plans_of}

-- ---- lists without their first ones

-- what is left after k and then the rest of m
pub drop_rest : (k m : ℕ) (xs : List Instr) → k ≤ m → drop (m - k) (drop k xs) ≡ drop m xs
drop_rest zero m xs le = let e : m - 0 ≡ m = omega arith in ap (λ j. drop j xs) e
drop_rest (suc k) zero xs le = absurd (omega arith)
drop_rest (suc k) (suc m) [] le = drop_none (suc m - suc k)
drop_rest (suc k) (suc m) (x ∷ xs) le =
    let e : suc m - suc k ≡ m - k = omega arith in ap (λ j. drop j (drop k xs)) e ∙ drop_rest k m xs (omega arith)

-- ---- jumps that stay among the first instructions

-- the jump of the first one, and those of the others
pub stays_rest : (m : ℕ) (x : Instr) (rest : List Instr) → stays_within (suc m) (x ∷ rest) ≡ true
    → (jump_of x ≤ m) × (stays_within m rest ≡ true)
stays_rest m x rest e =
    let h = and_parts (nat_le (jump_of x) m) (stays_within m rest) e in
    let first : nat_le (jump_of x) m ≡ true = h.0 in (grind (arith, nat_tests), h.1)

stays_none : (m : ℕ) → stays_within m [] ≡ true
stays_none zero = refl
stays_none (suc m) = refl

-- those after the first k
pub stays_drop : (k m : ℕ) (xs : List Instr) → k ≤ m → stays_within m xs ≡ true
    → stays_within (m - k) (drop k xs) ≡ true
stays_drop zero m xs le e = let same : m - 0 ≡ m = omega arith in ap (λ j. stays_within j xs) same ∙ e
stays_drop (suc k) zero xs le e = absurd (omega arith)
stays_drop (suc k) (suc m) [] le e = stays_none (suc m - suc k)
stays_drop (suc k) (suc m) (x ∷ xs) le e =
    let same : suc m - suc k ≡ m - k = omega arith in
    ap (λ j. stays_within j (drop k xs)) same ∙ stays_drop k m xs (omega arith) (stays_rest m x xs e).1

-- the jump of the one at a place
stays_at : (m k : ℕ) (xs : List Instr) (x : Instr) → stays_within m xs ≡ true → k < m → slice_get xs k ≡ Some x
    → suc k + jump_of x ≤ m
stays_at zero k xs x e lt got = absurd (omega arith)
stays_at (suc m) zero [] x e lt got = absurd cc
stays_at (suc m) (suc k) [] x e lt got = absurd cc
stays_at (suc m) zero (y ∷ xs) x e lt got =
    let same : y ≡ x = cc in
    let first = (stays_rest m y xs e).0 in subst (λ z. suc 0 + jump_of z ≤ suc m) same (omega (arith, first))
stays_at (suc m) (suc k) (y ∷ xs) x e lt got =
    let more = stays_at m k xs x (stays_rest m y xs e).1 (omega arith) got in omega (arith, more)

-- a skip is a jump
skip_jumps : (x : Instr) → skip_of (Some x) ≤ jump_of x
skip_jumps (i.Assign v x) = omega arith
skip_jumps (i.Emit e) = omega arith
skip_jumps (i.Mark s) = omega arith
skip_jumps (i.Clear s) = omega arith
skip_jumps (i.Keep s) = omega arith
skip_jumps (i.Unless k x) = omega arith
skip_jumps (i.Skip j) = omega arith
skip_jumps (i.Call p tag) = omega arith
skip_jumps (i.Visit p tag) = omega arith
skip_jumps (i.Send e) = omega arith
skip_jumps (i.SendTo e s p) = omega arith
skip_jumps i.Play = omega arith
skip_jumps (i.Home s) = omega arith
skip_jumps i.Begin = omega arith
skip_jumps i.Pass = omega arith
skip_jumps (i.Ret r) = omega arith

-- the two parts of an `unless` come together among the instructions that its part has
pub join_within : (k m : ℕ) (rest : List Instr) → k ≤ m → stays_within m rest ≡ true → join_of k rest ≤ m
join_within zero m rest le e = omega arith
join_within (suc k) m rest le e = at (slice_get rest k) refl
  where
    at : (o : Option Instr) → slice_get rest k ≡ o → suc k + skip_of o ≤ m
    at None got = omega arith
    at (Some x) got =
        let place = stays_at m k rest x e (omega arith) got in
        let skip = skip_jumps x in omega (arith, place, skip)

-- and not before the second one begins
pub join_after : (k : ℕ) (rest : List Instr) → k ≤ join_of k rest
join_after zero rest = omega arith
join_after (suc k) rest = omega arith

-- ---- states

-- what well-formed code knows of the state of an instruction
abbrev pub KnowsState : Tree → Instr → Type 0
KnowsState t (i.Assign v x) = Unit {0}
KnowsState t (i.Emit e) = Unit {0}
KnowsState t (i.Mark s) = s < state_count t
KnowsState t (i.Clear s) = s < state_count t
KnowsState t (i.Keep s) = IsOrChild t s
KnowsState t (i.Unless k x) = Unit {0}
KnowsState t (i.Skip j) = Unit {0}
KnowsState t (i.Call p tag) = Unit {0}
KnowsState t (i.Visit p tag) = Unit {0}
KnowsState t (i.Send e) = Unit {0}
KnowsState t (i.SendTo e s p) = Unit {0}
KnowsState t i.Play = Unit {0}
KnowsState t (i.Home s) = Unit {0}
KnowsState t i.Begin = Unit {0}
KnowsState t i.Pass = Unit {0}
KnowsState t (i.Ret r) = Unit {0}

-- the same of each instruction
abbrev pub KnowStates : Tree → List Instr → Type 0
KnowStates t [] = Unit {0}
KnowStates t (x ∷ rest) = KnowsState t x × KnowStates t rest

know_drop : (t : Tree) (k : ℕ) (xs : List Instr) → KnowStates t xs → KnowStates t (drop k xs)
know_drop t zero xs h = h
know_drop t (suc k) [] h = tt
know_drop t (suc k) (x ∷ xs) h = know_drop t k xs h.1

module _ (t : Tree) (n : ℕ → ℕ) (react : ℕ) where
  -- what is written of at most so many instructions is right
  abbrev pub Right : ℕ → (ℕ → List Instr → Block) → Type 0
  Right fuel more = (m : ℕ) (xs : List Instr) → m ≤ fuel → stays_within m xs ≡ true → KnowStates t xs
      → Written t n react xs (drop m xs) (more m xs)

  module _ (fuel : ℕ) (more : ℕ → List Instr → Block) (right : Right fuel more) where
    fork_at_is : (m k j : ℕ) (x : Cond) (rest : List Instr) (b : Bool) → stays_within j rest ≡ b → m ≤ fuel → k ≤ m
        → k ≤ j → j ≤ m → stays_within m rest ≡ true → KnowStates t rest
        → Written t n react (i.Unless k x ∷ rest) (drop m rest) (fork_at t n react more m k x rest j b)
    fork_at_is m k j x rest true stay enough here after within stays know =
        Forks k (j - k) x rest (drop j rest) (drop m rest) (more j rest) (more (j - k) (drop k rest))
        (more (m - j) (drop j rest)) (sym (drop_rest k j rest after)) (right j rest (omega arith) stay know)
        (subst (λ ys. Written t n react (drop k rest) ys (more (j - k) (drop k rest))) (drop_rest k j rest after)
        (right (j - k) (drop k rest) (omega arith) (stays_drop k j rest after stay) (know_drop t k rest know)))
        (subst (λ ys. Written t n react (drop j rest) ys (more (m - j) (drop j rest))) (drop_rest j m rest within)
        (right (m - j) (drop j rest) (omega arith) (stays_drop j m rest within stays) (know_drop t j rest know)))
    fork_at_is m k j x rest false stay enough here after within stays know =
        Forks k (m - k) x rest (drop m rest) (drop m rest) (more m rest) (more (m - k) (drop k rest)) c.End
        (sym (drop_rest k m rest here)) (right m rest enough stays know)
        (subst (λ ys. Written t n react (drop k rest) ys (more (m - k) (drop k rest))) (drop_rest k m rest here)
        (right (m - k) (drop k rest) (omega arith) (stays_drop k m rest here stays) (know_drop t k rest know)))
        (Stops (drop m rest))

    one_is : (m : ℕ) (x : Instr) (rest : List Instr) → m ≤ fuel → jump_of x ≤ m → stays_within m rest ≡ true
        → KnowsState t x → KnowStates t rest
        → Written t n react (x ∷ rest) (drop m rest) (write_one t n react more m x rest)
    unfolding IsStraight
    one_is m (i.Assign v x) rest enough jump stays one know =
        Steps (i.Assign v x) rest (drop m rest) (more m rest) tt (right m rest enough stays know)
    one_is m (i.Emit e) rest enough jump stays one know =
        Steps (i.Emit e) rest (drop m rest) (more m rest) tt (right m rest enough stays know)
    one_is m (i.Mark s) rest enough jump stays one know =
        Steps (i.Mark s) rest (drop m rest) (more m rest) one (right m rest enough stays know)
    one_is m (i.Clear s) rest enough jump stays one know =
        Steps (i.Clear s) rest (drop m rest) (more m rest) one (right m rest enough stays know)
    one_is m (i.Keep s) rest enough jump stays one know =
        Steps (i.Keep s) rest (drop m rest) (more m rest) one (right m rest enough stays know)
    one_is m (i.Unless k x) rest enough jump stays one know =
        fork_at_is m k (join_of k rest) x rest (stays_within (join_of k rest) rest) refl enough jump (join_after k rest)
        (join_within k m rest jump stays) stays know
    one_is m (i.Skip j) rest enough jump stays one know =
        Skips j rest (drop m rest) (more (m - j) (drop j rest))
        (subst (λ ys. Written t n react (drop j rest) ys (more (m - j) (drop j rest))) (drop_rest j m rest jump)
        (right (m - j) (drop j rest) (omega arith) (stays_drop j m rest jump stays) (know_drop t j rest know)))
    one_is m (i.Call p tag) rest enough jump stays one know =
        Steps (i.Call p tag) rest (drop m rest) (more m rest) tt (right m rest enough stays know)
    one_is m (i.Visit p tag) rest enough jump stays one know =
        Steps (i.Visit p tag) rest (drop m rest) (more m rest) tt (right m rest enough stays know)
    one_is m (i.Send e) rest enough jump stays one know =
        Steps (i.Send e) rest (drop m rest) (more m rest) tt (right m rest enough stays know)
    one_is m (i.SendTo e s p) rest enough jump stays one know =
        Steps (i.SendTo e s p) rest (drop m rest) (more m rest) tt (right m rest enough stays know)
    one_is m i.Play rest enough jump stays one know =
        Steps i.Play rest (drop m rest) (more m rest) tt (right m rest enough stays know)
    one_is m (i.Home s) rest enough jump stays one know =
        Steps (i.Home s) rest (drop m rest) (more m rest) tt (right m rest enough stays know)
    one_is m i.Begin rest enough jump stays one know =
        Steps i.Begin rest (drop m rest) (more m rest) tt (right m rest enough stays know)
    one_is m i.Pass rest enough jump stays one know =
        Steps i.Pass rest (drop m rest) (more m rest) tt (right m rest enough stays know)
    one_is m (i.Ret r) rest enough jump stays one know = Returns r rest (drop m rest)

  -- what is written is right
  pub write_is : (fuel : ℕ) → Right fuel (write t n react fuel)
  write_is zero zero xs enough stays know = Stops xs
  write_is zero (suc m) xs enough stays know = absurd (omega arith)
  write_is (suc fuel) zero xs enough stays know = Stops xs
  write_is (suc fuel) (suc m) [] enough stays know = Stops []
  write_is (suc fuel) (suc m) (x ∷ rest) enough stays know =
      let h = stays_rest m x rest stays in
      one_is fuel (write t n react fuel) (write_is fuel) m x rest (omega arith) h.0 h.1 know.0 know.1

-- ---- well-formed code

-- a state that can be remembered is a child of an OR
child_of_or : (t : Tree) (s : ℕ) → can_be_kept t s ≡ true → IsOrChild t s
child_of_or t s e = at (parent_of t s) refl e
  where
    at : (o : Option ℕ) → parent_of t s ≡ o → can_be_kept t s ≡ true → IsOrChild t s
    at None up kept = absurd cc
    at (Some p) up kept = record { parent = p; up = up; or = rw up at kept }

-- an instruction that is known and keeps what can be remembered knows its state
knows_state : (K : Known) (x : Instr) → instr_known K x ≡ true → instr_keeps K x ≡ true → KnowsState K.tree x
unfolding instr_known instr_keeps
knows_state K (i.Assign v x) known keeps = tt
knows_state K (i.Emit e) known keeps = tt
knows_state K (i.Mark s) known keeps = grind (arith, nat_tests)
knows_state K (i.Clear s) known keeps = grind (arith, nat_tests)
knows_state K (i.Keep s) known keeps = child_of_or K.tree s keeps
knows_state K (i.Unless k x) known keeps = tt
knows_state K (i.Skip j) known keeps = tt
knows_state K (i.Call p tag) known keeps = tt
knows_state K (i.Visit p tag) known keeps = tt
knows_state K (i.Send e) known keeps = tt
knows_state K (i.SendTo e s p) known keeps = tt
knows_state K i.Play known keeps = tt
knows_state K (i.Home s) known keeps = tt
knows_state K i.Begin known keeps = tt
knows_state K i.Pass known keeps = tt
knows_state K (i.Ret r) known keeps = tt

-- a jump that passes over no end stays among the instructions
jump_le : (m : ℕ) (x : Instr) → skips_within m x ≡ true → jump_of x ≤ m
unfolding skips_within
jump_le m (i.Assign v x) e = omega arith
jump_le m (i.Emit x) e = omega arith
jump_le m (i.Mark s) e = omega arith
jump_le m (i.Clear s) e = omega arith
jump_le m (i.Keep s) e = omega arith
jump_le m (i.Unless k x) e = grind (arith, nat_tests)
jump_le m (i.Skip j) e = grind (arith, nat_tests)
jump_le m (i.Call p tag) e = omega arith
jump_le m (i.Visit p tag) e = omega arith
jump_le m (i.Send x) e = omega arith
jump_le m (i.SendTo x s p) e = omega arith
jump_le m i.Play e = omega arith
jump_le m (i.Home s) e = omega arith
jump_le m i.Begin e = omega arith
jump_le m i.Pass e = omega arith
jump_le m (i.Ret r) e = omega arith

-- so do those of sound instructions
pub stays_sound : (K : Known) (p : ℕ) (xs : List Instr) → AreSound K p 0 xs → stays_within (length xs) xs ≡ true
stays_sound K p [] h = refl
stays_sound K p (x ∷ rest) h =
    let count : length rest + 0 ≡ length rest = omega arith in
    let jump = jump_le (length rest) x (subst (λ m. skips_within m x ≡ true) count h.0.within) in
    let first : nat_le (jump_of x) (length rest) ≡ true = grind (arith, nat_tests, jump) in
    ap (λ b. b && stays_within (length rest) rest) first ∙ stays_sound K p rest h.1

know_sound : (K : Known) (p : ℕ) (xs : List Instr) → AreSound K p 0 xs → KnowStates K.tree xs
know_sound K p [] h = tt
know_sound K p (x ∷ rest) h = (knows_state K x h.0.known h.0.keeps, know_sound K p rest h.1)

-- the plan of sound instructions is written for them
plan_is : (K : Known) (n : ℕ → ℕ) (react p : ℕ) (xs : List Instr) → AreSound K p 0 xs
    → Written K.tree n react xs [] (plan_of K.tree n react xs)
unfolding plan_of
plan_is K n react p xs h =
    subst (λ ys. Written K.tree n react xs ys (write K.tree n react (length xs) (length xs) xs))
    (drop_all (length xs) xs (omega arith))
    (write_is K.tree n react (length xs) (length xs) xs (omega arith) (stays_sound K p xs h) (know_sound K p xs h))

-- the instructions of each procedure of well-formed code are sound, and so are none
pub sound_at : (k : Code) → IsCode k → (p : ℕ) → AreSound (known_of k) p 0 (instructions k.procedures p)
unfolding instructions
sound_at k is p =
    subst (λ xs. AreSound (known_of k) p 0 xs) (sym (instructions_at k.procedures.procs p))
    (at (slice_get k.procedures.procs p) refl)
  where
    at : (o : Option (List Instr)) → slice_get k.procedures.procs p ≡ o → AreSound (known_of k) p 0 (or_none o)
    at None e = tt
    at (Some xs) e =
        let same : 0 + p ≡ p = omega arith in
        subst (λ q. AreSound (known_of k) q 0 xs) same
        (proc_at (known_of k) k.procedures.procs 0 p xs (code_parts k is).procs e).sound

-- the plans of well-formed code are written for its procedures
pub plans_are : (k : Code) → IsCode k → AreWritten k.tree (λ x. suc x) k.procedures (plans_of k)
unfolding plans_of
plans_are k is = record {
  each = λ p. plan_is (known_of k) (λ x. suc x) k.procedures.react p (instructions k.procedures p) (sound_at k is p);
}

-- ---- fuel

module _ (t : Tree) (n : ℕ → ℕ) (react : ℕ) where
  -- these write the same of at most so many instructions
  abbrev pub Same : ℕ → (f g : ℕ → List Instr → Block) → Type 0
  Same fuel f g = (m : ℕ) (xs : List Instr) → m ≤ fuel → stays_within m xs ≡ true → f m xs ≡ g m xs

  module _ (fuel : ℕ) (f g : ℕ → List Instr → Block) (same : Same fuel f g) where
    fork_same : (m k j : ℕ) (x : Cond) (rest : List Instr) (b : Bool) → stays_within j rest ≡ b → m ≤ fuel → k ≤ m
        → k ≤ j → j ≤ m → stays_within m rest ≡ true
        → fork_at t n react f m k x rest j b ≡ fork_at t n react g m k x rest j b
    fork_same m k j x rest true stay enough here after within stays =
        let a = same j rest (omega arith) stay in
        let b = same (j - k) (drop k rest) (omega arith) (stays_drop k j rest after stay) in
        let d = same (m - j) (drop j rest) (omega arith) (stays_drop j m rest within stays) in cc (a, b, d)
    fork_same m k j x rest false stay enough here after within stays =
        let a = same m rest enough stays in
        let b = same (m - k) (drop k rest) (omega arith) (stays_drop k m rest here stays) in cc (a, b)

    one_same : (m : ℕ) (x : Instr) (rest : List Instr) → m ≤ fuel → jump_of x ≤ m → stays_within m rest ≡ true
        → write_one t n react f m x rest ≡ write_one t n react g m x rest
    one_same m (i.Assign v x) rest enough jump stays = ap (straight t n react (i.Assign v x)) (same m rest enough stays)
    one_same m (i.Emit e) rest enough jump stays = ap (straight t n react (i.Emit e)) (same m rest enough stays)
    one_same m (i.Mark s) rest enough jump stays = ap (straight t n react (i.Mark s)) (same m rest enough stays)
    one_same m (i.Clear s) rest enough jump stays = ap (straight t n react (i.Clear s)) (same m rest enough stays)
    one_same m (i.Keep s) rest enough jump stays = ap (straight t n react (i.Keep s)) (same m rest enough stays)
    one_same m (i.Unless k x) rest enough jump stays =
        fork_same m k (join_of k rest) x rest (stays_within (join_of k rest) rest) refl enough jump (join_after k rest)
        (join_within k m rest jump stays) stays
    one_same m (i.Skip j) rest enough jump stays =
        same (m - j) (drop j rest) (omega arith) (stays_drop j m rest jump stays)
    one_same m (i.Call p tag) rest enough jump stays =
        ap (straight t n react (i.Call p tag)) (same m rest enough stays)
    one_same m (i.Visit p tag) rest enough jump stays =
        ap (straight t n react (i.Visit p tag)) (same m rest enough stays)
    one_same m (i.Send e) rest enough jump stays = ap (straight t n react (i.Send e)) (same m rest enough stays)
    one_same m (i.SendTo e s p) rest enough jump stays =
        ap (straight t n react (i.SendTo e s p)) (same m rest enough stays)
    one_same m i.Play rest enough jump stays = ap (straight t n react i.Play) (same m rest enough stays)
    one_same m (i.Home s) rest enough jump stays = ap (straight t n react (i.Home s)) (same m rest enough stays)
    one_same m i.Begin rest enough jump stays = ap (straight t n react i.Begin) (same m rest enough stays)
    one_same m i.Pass rest enough jump stays = ap (straight t n react i.Pass) (same m rest enough stays)
    one_same m (i.Ret r) rest enough jump stays = refl

  -- more fuel than instructions gives the same
  pub write_enough : (fuel fuel' m : ℕ) (xs : List Instr) → m ≤ fuel → m ≤ fuel' → stays_within m xs ≡ true
      → write t n react fuel m xs ≡ write t n react fuel' m xs
  write_enough zero zero m xs enough enough' stays = refl
  write_enough zero (suc fuel') zero xs enough enough' stays = refl
  write_enough zero (suc fuel') (suc m) xs enough enough' stays = absurd (omega arith)
  write_enough (suc fuel) zero zero xs enough enough' stays = refl
  write_enough (suc fuel) zero (suc m) xs enough enough' stays = absurd (omega arith)
  write_enough (suc fuel) (suc fuel') zero xs enough enough' stays = refl
  write_enough (suc fuel) (suc fuel') (suc m) [] enough enough' stays = refl
  write_enough (suc fuel) (suc fuel') (suc m) (x ∷ rest) enough enough' stays =
      let h = stays_rest m x rest stays in
      one_same m (write t n react fuel) (write t n react fuel')
      (λ z ys le stay. write_enough fuel fuel' z ys (omega arith) (omega arith) stay) m x rest (omega arith) h.0 h.1
