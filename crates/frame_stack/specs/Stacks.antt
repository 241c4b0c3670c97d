-- What a contract sees of a stack of frames.
use Rattle.std.specs.Prelude.{ℕ, List, refl}
use Rattle.std.specs.Coded.{Coded, code_by, coded×, coded_list, coded_ℕ}

-- the frames from the bottom up, each a list of words, and how many more can be pushed
pub record Stack : Type 0 where
  pub frames : List (List ℕ)
  pub spare : ℕ

-- the stack of these frames and this spare
abbrev pub stack : List (List ℕ) → ℕ → Stack
stack fs n = record { frames = fs; spare = n }

-- a stack as a pair, by which it is coded
abbrev pub stack_code : Coded Stack
stack_code = code_by (List (List ℕ) × ℕ) (coded× (coded_list (coded_list coded_ℕ)) coded_ℕ)
    (λ s. (s.frames, s.spare)) (λ p. stack p.0 p.1) (λ _. refl)
