-- The children that ORs with history remember.
use Rattle.std.specs.Prelude.{◌≡◌, ℕ, Some, true}
use Rattle.active_config.specs.Tree.{parent_of}
use Rattle.active_config.specs.Marks.{Configuration, is_on, last_of, IsConsistent}
use Rattle.checked_chart.specs.Chart.{Chart, has_history}

-- an OR with history remembers its active child, and no other state remembers anything
pub record Remembers (c : Chart) (marks : Configuration) : Type 0 where
  pub consistent : IsConsistent c.tree marks
  pub active : (s x : ℕ) → has_history c s ≡ true → parent_of c.tree x ≡ Some s → is_on x marks ≡ true
      → last_of s marks ≡ Some x
  pub only : (s x : ℕ) → last_of s marks ≡ Some x → has_history c s ≡ true
