-- How the order of functions is put together, and how those are found that are called before they stand. Only the
-- contracts of these steps say this.
use Rattle.std.specs.Prelude.{◌≡◌, ◌==◌, ◌&&◌, ◌||◌, ◌<◌, not, ℕ, Bool, true, false, List, length, slice_index_or}
use Rattle.std.specs.Prelude.{if◌then◌else◌}
use Rattle.c_subset.specs.Trees.{Function}
use Rattle.c_file.specs.Reached.{IsFlagged}
use Rattle.c_file.specs.Order.{times, calls_by, is_called, is_early}

-- a function is reached, and doesn't stand in the order yet
abbrev pub is_next : List Bool → List Bool → ℕ → Bool
is_next reached placed f = slice_index_or reached f false && not (slice_index_or placed f true)

-- each function whose flag is set stands in the order once, and no other one; all of them are reached
pub record IsPlaced (reached placed : List Bool) (order : List ℕ) : Type 0 where
  pub size : length placed ≡ length reached
  pub each : (f : ℕ) → times f order ≡ (if slice_index_or placed f false then 1 else 0)
  pub are_reached : (f : ℕ) → IsFlagged placed f → IsFlagged reached f

-- so it is after a function that is reached was put there, and the others stay
pub record Places (reached : List Bool) (number : ℕ) (old new : List Bool) (order : List ℕ) : Type 0 where
  pub is : IsPlaced reached new order
  pub kept : (f : ℕ) → IsFlagged old f → IsFlagged new f
  pub placed : IsFlagged reached number → IsFlagged new number

-- the next function stands, and those that it calls have their flags set unless they stand
pub record Stands (functions : List Function) (number : ℕ) (stands now early later : List Bool) : Type 0 where
  pub size : length now ≡ length stands
  pub same_size : length later ≡ length early
  pub now_stand : (g : ℕ) → g < length stands
      → slice_index_or now g false ≡ (number == g || slice_index_or stands g false)
  pub are_early : (g : ℕ) → g < length early → slice_index_or later g false
      ≡ (slice_index_or early g false
      || (not (slice_index_or now g false) && is_called g (calls_by functions number)))

-- the flags say which of the functions are called before they stand in the order
pub record AreEarly (functions : List Function) (order : List ℕ) (early : List Bool) : Type 0 where
  pub size : length early ≡ length functions
  pub each : (g : ℕ) → g < length functions → slice_index_or early g false ≡ is_early functions order g
