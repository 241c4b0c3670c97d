-- A sound instruction in front of a sound procedure makes a sound procedure.
use Rattle.std.proofs.Common.{◌≡◌, ℕ, ◌+◌, ◌<◌, true, List, [], ◌∷◌, length, Option, Some, None, refl, arith}
use Rattle.std.specs.Prelude.{nat_lt, IfSome}
use Rattle.std.proofs.lemmas.Bool.{lt-ltb, and_from}
use Rattle.active_config.specs.Tree.{state_count}
use Rattle.code_language.specs.Instrs.{Cond, Instr, Mark, Clear, Keep, Unless, Skip, Call, Visit, Play, Home}
use Rattle.code_language.specs.Instrs.{Begin, Pass, Ret}
use Rattle.code_language.specs.Sound.{IsSound, EndsInRet, IsProc}
use Rattle.code_language.specs.WellFormed.{Known, instr_known, skips_within, calls_lower, instr_typed, instr_keeps}
use Rattle.code_language.specs.WellFormed.{note_known, cond_known, cond_typed, cond_keeps, can_be_kept, is_ret}

-- what ends in a return does so after one more instruction
pub ends_behind : (x : Instr) (is : List Instr) → EndsInRet is → EndsInRet (x ∷ is)
ends_behind x [] h = absurd h
ends_behind x (y ∷ is) h = h

-- what ends in a return isn't empty
ends_some : (is : List Instr) → EndsInRet is → 0 < length is
ends_some [] h = absurd h
ends_some (x ∷ is) h = omega arith

-- a condition that names what is there, has the right types, and looks at what can be remembered
pub record IsCond (K : Known) (c : Cond) : Type 0 where
  pub known : cond_known K c ≡ true
  pub typed : cond_typed K c ≡ true
  pub keeps : cond_keeps K c ≡ true

-- a return alone
pub ret_alone : (K : Known) (p r : ℕ) → IsProc K p (Ret r ∷ [])
unfolding instr_known skips_within calls_lower instr_typed instr_keeps is_ret
ret_alone K p r = record {
  sound = (record { known = refl; within = refl; lower = refl; typed = refl; keeps = refl }, tt);
  ends = refl;
}

-- a note is a procedure that is there
note_there : (K : Known) (tag : Option ℕ) → IfSome tag (λ q. q < K.procs) → note_known K tag ≡ true
note_there K None h = refl
note_there K (Some q) h = lt-ltb q K.procs h

module _ {K : Known} {p : ℕ} {rest : List Instr} where
  -- a procedure isn't empty
  pub some : IsProc K p rest → 0 < length rest
  some h = ends_some rest h.ends

  -- one sound instruction in front
  pub in_front : (x : Instr) → IsSound K p (length rest + 0) x → IsProc K p rest → IsProc K p (x ∷ rest)
  in_front x h r = record { sound = (h, r.sound); ends = ends_behind x rest r.ends }

  -- ---- instructions that name nothing

  -- a return
  pub ret : (r : ℕ) → IsProc K p rest → IsProc K p (Ret r ∷ rest)
  unfolding instr_known skips_within calls_lower instr_typed instr_keeps
  ret r h =
      in_front (Ret r) (record { known = refl; within = refl; lower = refl; typed = refl; keeps = refl }) h

  -- a result that is passed on
  pub pass : IsProc K p rest → IsProc K p (Pass ∷ rest)
  unfolding instr_known skips_within calls_lower instr_typed instr_keeps
  pass h =
      in_front Pass (record { known = refl; within = refl; lower = refl; typed = refl; keeps = refl }) h

  -- the beginning of a search
  pub begin : IsProc K p rest → IsProc K p (Begin ∷ rest)
  unfolding instr_known skips_within calls_lower instr_typed instr_keeps
  begin h =
      in_front Begin (record { known = refl; within = refl; lower = refl; typed = refl; keeps = refl }) h

  -- the run of the notes
  pub play : IsProc K p rest → IsProc K p (Play ∷ rest)
  unfolding instr_known skips_within calls_lower instr_typed instr_keeps
  play h =
      in_front Play (record { known = refl; within = refl; lower = refl; typed = refl; keeps = refl }) h

  -- ---- instructions that pass over others

  -- a condition that passes over fewer than follow
  pub unless : (k : ℕ) (c : Cond) → IsCond K c → k < length rest → IsProc K p rest
      → IsProc K p (Unless k c ∷ rest)
  unfolding instr_known skips_within calls_lower instr_typed instr_keeps
  unless k c is lt h =
      in_front (Unless k c) (record {
        known = is.known;
        within = lt-ltb k (length rest + 0) (omega arith);
        lower = refl;
        typed = is.typed;
        keeps = is.keeps;
      }) h

  -- the same without a condition
  pub skip : (k : ℕ) → k < length rest → IsProc K p rest → IsProc K p (Skip k ∷ rest)
  unfolding instr_known skips_within calls_lower instr_typed instr_keeps
  skip k lt h =
      in_front (Skip k) (record {
        known = refl;
        within = lt-ltb k (length rest + 0) (omega arith);
        lower = refl;
        typed = refl;
        keeps = refl;
      }) h

  -- ---- instructions that name a state

  -- a state is the home
  pub home : (s : ℕ) → s < state_count K.tree → IsProc K p rest → IsProc K p (Home s ∷ rest)
  unfolding instr_known skips_within calls_lower instr_typed instr_keeps
  home s lt h =
      in_front (Home s) (record {
        known = lt-ltb s (state_count K.tree) lt;
        within = refl;
        lower = refl;
        typed = refl;
        keeps = refl;
      }) h

  -- a state becomes active
  pub mark : (s : ℕ) → s < state_count K.tree → IsProc K p rest → IsProc K p (Mark s ∷ rest)
  unfolding instr_known skips_within calls_lower instr_typed instr_keeps
  mark s lt h =
      in_front (Mark s) (record {
        known = lt-ltb s (state_count K.tree) lt;
        within = refl;
        lower = refl;
        typed = refl;
        keeps = refl;
      }) h

  -- a state becomes inactive
  pub clear : (s : ℕ) → s < state_count K.tree → IsProc K p rest → IsProc K p (Clear s ∷ rest)
  unfolding instr_known skips_within calls_lower instr_typed instr_keeps
  clear s lt h =
      in_front (Clear s) (record {
        known = lt-ltb s (state_count K.tree) lt;
        within = refl;
        lower = refl;
        typed = refl;
        keeps = refl;
      }) h

  -- a state is remembered
  pub keep : (s : ℕ) → s < state_count K.tree → can_be_kept K.tree s ≡ true → IsProc K p rest
      → IsProc K p (Keep s ∷ rest)
  unfolding instr_known skips_within calls_lower instr_typed instr_keeps
  keep s lt can h =
      in_front (Keep s) (record {
        known = lt-ltb s (state_count K.tree) lt;
        within = refl;
        lower = refl;
        typed = refl;
        keeps = can;
      }) h

  -- ---- calls

  -- a call of a lower procedure
  pub call_noting : (q : ℕ) (tag : Option ℕ) → p < K.procs → q < p
      → IfSome tag (λ a. a < K.procs) → IsProc K p rest → IsProc K p (Call q tag ∷ rest)
  unfolding instr_known skips_within calls_lower instr_typed instr_keeps
  call_noting q tag there lt named h =
      in_front (Call q tag) (record {
        known = and_from (nat_lt q K.procs) (note_known K tag) (lt-ltb q K.procs (omega arith))
            (note_there K tag named);
        within = refl;
        lower = lt-ltb q p lt;
        typed = refl;
        keeps = refl;
      }) h

  -- a call without a note
  pub call : (q : ℕ) → p < K.procs → q < p → IsProc K p rest → IsProc K p (Call q None ∷ rest)
  call q there lt h = call_noting q None there lt tt h

  -- a visit of a procedure
  pub visit : (q : ℕ) (tag : Option ℕ) → q < K.procs → IfSome tag (λ a. a < K.procs)
      → IsProc K p rest → IsProc K p (Visit q tag ∷ rest)
  unfolding instr_known skips_within calls_lower instr_typed instr_keeps
  visit q tag there named h =
      in_front (Visit q tag) (record {
        known = and_from (nat_lt q K.procs) (note_known K tag) (lt-ltb q K.procs there) (note_there K tag named);
        within = refl;
        lower = refl;
        typed = refl;
        keeps = refl;
      }) h
