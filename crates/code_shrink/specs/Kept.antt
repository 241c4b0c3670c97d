-- Which places of a procedure are kept, and how many.
use Rattle.std.specs.Prelude.{◌≡◌, ℕ, Bool, List, [], ◌∷◌, reverse, slice_index}
use Rattle.code_language.specs.Instrs.{Instr}
use Rattle.code_shrink.specs.Smaller.{folded, threaded, one_if}

-- an instruction with its constant test decided and its jump past skips, by how far the skips after it lead
abbrev pub straightened : Instr → List ℕ → Instr
straightened x slides = threaded (folded x) slides

-- for each place, how many are kept from it on
abbrev pub totals : List Bool → List ℕ
totals [] = []
totals (b ∷ bs) = one_if b (slice_index (totals bs) 0) ∷ totals bs

-- how many are kept from each of these places on, the last place first
abbrev pub Counts : List Bool → List ℕ → Type 0
Counts bs counts = reverse counts ≡ totals bs

-- they are counts of some places
pub record AreCounts (counts : List ℕ) : Type 0 where
  pub kept : List Bool
  pub are : Counts kept counts
