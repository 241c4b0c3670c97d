-- Smaller code: the procedures that are still reached, each made smaller, in the same order.
use Rattle.std.specs.Prelude.{◌≡◌, ◌<◌, ◌≤◌, ℕ, Bool, true, false, List, [], ◌∷◌, length, Some}
use Rattle.std.specs.Prelude.{slice_get, slice_index_or}
use Rattle.code_language.specs.Code.{Code, Procedures, instructions}
use Rattle.code_language.specs.Instrs.{Instr}
use Rattle.code_shrink.specs.Neat.{Comes, Names, IsReached}
use Rattle.code_shrink.specs.Smaller.{count, smaller, straight}

-- a procedure before others where it is kept
abbrev pub keep_if : Bool → List Instr → List (List Instr) → List (List Instr)
keep_if true is rest = is ∷ rest
keep_if false is rest = rest

-- the procedure is one of those that are kept
abbrev pub is_live : List Bool → ℕ → Bool
is_live live p = slice_index_or live p false

-- its new number: how many are kept before it
abbrev pub number_in : List Bool → ℕ → ℕ
number_in live p = count p live

-- the kept procedures, smaller, under the numbers m; flags says for each procedure which places of it are reached
abbrev pub collected : (ℕ → ℕ) → List Bool → List (List Bool) → List (List Instr) → List (List Instr)
collected m [] flags procs = []
collected m (b ∷ live) [] procs = []
collected m (b ∷ live) (bs ∷ flags) [] = []
collected m (b ∷ live) (bs ∷ flags) (is ∷ procs) = keep_if b (smaller m bs is) (collected m live flags procs)

-- the smaller procedures
abbrev pub smaller_procedures : List Bool → List (List Bool) → Procedures → Procedures
smaller_procedures live flags k = record {
  procs = collected (number_in live) live flags k.procs;
  start = number_in live k.start;
  react = number_in live k.react;
}

-- the flags of a procedure say exactly which of its places are reached
pub record AreReached (is : List Instr) (bs : List Bool) : Type 0 where
  pub size : length bs ≡ length is
  pub sound : (i : ℕ) → slice_index_or bs i false ≡ true → Comes is i
  pub complete : (i : ℕ) → i < length is → Comes is i → slice_index_or bs i false ≡ true

-- the smaller code
abbrev pub smaller_code : List Bool → List (List Bool) → Code → Code
smaller_code live flags k = record k { procedures = smaller_procedures live flags k.procedures }

-- ---- what is reached once procedures are straight

-- the procedure is that of the start or of a reaction, or a reached place of such a straight procedure names it
pub data IsLive (k : Procedures) : ℕ → Type 0 where
  LiveStart : IsLive k k.start
  LiveReaction : IsLive k k.react
  LiveNamed : (p i q : ℕ) (x : Instr) → IsLive k p → Comes (straight (instructions k p)) i
      → slice_get (straight (instructions k p)) i ≡ Some x → Names x q → IsLive k q

-- the flags of each kept procedure say which of its places are reached
abbrev pub AllReached : List Bool → List (List Bool) → List (List Instr) → Type 0
AllReached [] [] [] = Unit {0}
AllReached [] [] (is ∷ procs) = ⊥
AllReached [] (bs ∷ flags) procs = ⊥
AllReached (b ∷ live) [] procs = ⊥
AllReached (b ∷ live) (bs ∷ flags) [] = ⊥
AllReached (b ∷ live) (bs ∷ flags) (is ∷ procs) = (b ≡ true → AreReached (straight is) bs) × AllReached live flags procs

-- the flags say exactly which procedures and which of their places are reached
pub record IsExact (live : List Bool) (flags : List (List Bool)) (k : Procedures) : Type 0 where
  pub sound : (p : ℕ) → is_live live p ≡ true → IsLive k p
  pub complete : (p : ℕ) → IsLive k p → is_live live p ≡ true
  pub places : AllReached live flags k.procs

-- the second procedures are what is left of the first ones where exactly what is reached is kept
pub record AreSmaller (k k' : Procedures) : Type 0 where
  pub live : List Bool
  pub flags : List (List Bool)
  pub exact : IsExact live flags k
  pub made : k' ≡ smaller_procedures live flags k

-- the procedures of k' come, in their order, from reached ones of k, which aren't shorter
pub record ComesInOrder (k k' : Procedures) : Type 0 where
  pub old : ℕ → ℕ
  pub reached : (i : ℕ) → i < length k'.procs → IsReached k (old i)
  pub ordered : (i j : ℕ) → i < j → old i < old j
  pub shorter : (i : ℕ) → i < length k'.procs → length (instructions k' i) ≤ length (instructions k (old i))
