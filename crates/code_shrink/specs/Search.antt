-- The search for the procedures that are reached: which are found, and which of these are still to be looked at.
use Rattle.std.specs.Prelude.{◌≡◌, ◌+◌, ◌<◌, ◌⊎◌, ℕ, suc, Bool, true, false, List, [], ◌∷◌, length, map, Some, Vec}
use Rattle.std.specs.Prelude.{slice_get, slice_index_or}
use Rattle.std.specs.declared.alloc.Global.{Global}
use Rattle.code_language.specs.Code.{Procedures, instructions}
use Rattle.code_language.specs.Instrs.{Instr}
use Rattle.code_shrink.specs.declared.live.Live.{Live}
use Rattle.code_shrink.specs.declared.places.Way.{Way}
use Rattle.code_shrink.specs.declared.search.Search.{Search}
use Rattle.code_shrink.specs.Neat.{Names}
use Rattle.code_shrink.specs.Smaller.{straight}
use Rattle.code_shrink.specs.Whole.{AreReached, IsLive}

-- ---- what is found of all procedures

-- what lies in each of the lists
abbrev pub items_in : {A : Type 0} → List (Vec A Global) → List (List A)
items_in {A} lists = map (λ (v : Vec A Global). v.items) lists

-- the flags of each procedure
abbrev pub flags_of : Live → List (List Bool)
flags_of live = items_in live.flags.items

-- the ways of each procedure
abbrev pub ways_in : Live → List (List Way)
ways_in live = items_in live.ways.items

-- the flags of each procedure say which of its places are reached
abbrev pub EachReached : List (List Instr) → List (List Bool) → Type 0
EachReached [] [] = Unit {0}
EachReached [] (bs ∷ flags) = ⊥
EachReached (is ∷ procs) [] = ⊥
EachReached (is ∷ procs) (bs ∷ flags) = AreReached (straight is) bs × EachReached procs flags

-- ---- a search

-- the procedure is found
abbrev pub IsFound : Search → ℕ → Type 0
IsFound s q = slice_index_or s.found.items q false ≡ true

-- the number stands in the list
abbrev pub IsListed : List ℕ → ℕ → Type 0
IsListed [] q = ⊥
IsListed (p ∷ ps) q = (q ≡ p) ⊎ IsListed ps q

-- how many flags aren't set
abbrev pub unset_count : List Bool → ℕ
unset_count [] = 0
unset_count (true ∷ bs) = unset_count bs
unset_count (false ∷ bs) = suc (unset_count bs)

-- how much a search has to do: the procedures that it may find, and those to be looked at
abbrev pub work_left : Search → ℕ
work_left s = unset_count s.found.items + length s.todo.items

-- one of the first i instructions, at a place that is marked, names the procedure
pub record NamesBefore (i : ℕ) (is : List Instr) (bs : List Bool) (q : ℕ) : Type 0 where
  pub place : ℕ
  pub instr : Instr
  pub before : place < i
  pub there : slice_get is place ≡ Some instr
  pub marked : slice_index_or bs place false ≡ true
  pub names : Names instr q

-- the instructions name procedures below n alone
abbrev pub AllNameBelow : ℕ → List Instr → Type 0
AllNameBelow n is = (i : ℕ) (x : Instr) → slice_get is i ≡ Some x → (q : ℕ) → Names x q → q < n

-- The new search has found all that the old one had and all of these, and nothing else. What is new is to be looked at,
-- what was to be looked at still is, and what is new there is found; as much is to do as before.
pub record Finds (these : ℕ → Type 0) (old new : Search) : Type 0 where
  pub size : length new.found.items ≡ length old.found.items
  pub kept : (q : ℕ) → IsFound old q → IsFound new q
  pub all : (q : ℕ) → these q → IsFound new q
  pub only : (q : ℕ) → IsFound new q → IsFound old q ⊎ these q
  pub listed : (q : ℕ) → IsListed old.todo.items q → IsListed new.todo.items q
  pub fresh : (q : ℕ) → IsFound new q → IsFound old q ⊎ IsListed new.todo.items q
  pub right : (q : ℕ) → IsListed new.todo.items q → IsListed old.todo.items q ⊎ IsFound new q
  pub left : work_left new ≡ work_left old

-- an instruction at a marked place of procedure p, by the flags of each procedure, names procedure q
abbrev pub NamedBy : Procedures → List (List Bool) → ℕ → ℕ → Type 0
NamedBy k flags p q = NamesBefore (length (instructions k p)) (instructions k p) (slice_index_or flags p []) q

-- A search for the procedures that are reached: the procedures of the start and of a reaction are found, what is found
-- is reached, and what a found one names is found unless it is still to be looked at.
pub record IsSearch (k : Procedures) (flags : List (List Bool)) (s : Search) : Type 0 where
  pub size : length s.found.items ≡ length k.procs
  pub start : IsFound s k.start
  pub react : IsFound s k.react
  pub sound : (p : ℕ) → IsFound s p → IsLive k p
  pub right : (p : ℕ) → IsListed s.todo.items p → IsFound s p
  pub done : (p q : ℕ) → IsFound s p → NamedBy k flags p q → IsListed s.todo.items p ⊎ IsFound s q
