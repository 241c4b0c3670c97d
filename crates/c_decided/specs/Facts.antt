-- What is known at a place of a body: of the struct, and of at most one local, by its number.
use Rattle.std.specs.Prelude.{◌&&◌, ◌==◌, ℕ, ℤ, pos, negsuc, Bool, false, List, [], ◌∷◌, Option, Some, None}
use Rattle.std.specs.Prelude.{if◌then◌else◌}
use Rattle.c_subset.specs.declared.trees.CType.{CType}
use Rattle.c_subset.specs.declared.trees.CType.TheVariants.{Truth}
use Rattle.c_subset.specs.Meaning.{Store, Locals}
use Rattle.c_subset.specs.Running.{same_type}
use Rattle.c_facts.specs.Known.{Known, Hold}

-- what is known of the struct where a value is that number
pub record Numbered : Type 0 where
  pub number : ℕ
  pub known : Known

-- what is known by a value: where it is each of some numbers, and where it is another one or none
pub record ByNumber : Type 0 where
  pub cases : List Numbered
  pub others : Known

-- the value is that number
abbrev pub is_value : Option ℤ → ℕ → Bool
is_value (Some (pos m)) n = m == n
is_value (Some (negsuc m)) n = false
is_value None n = false

-- where the value is that one; of a number that is named twice the first counts
abbrev pub known_at : List Numbered → Known → Option ℤ → Known
known_at [] others v = others
known_at (c ∷ cs) others v = if is_value v c.number then c.known else known_at cs others v

-- what is known where the value is that one
abbrev pub at : ByNumber → Option ℤ → Known
at b v = known_at b.cases b.others v

-- facts at a place: a local, and what is known by its number
pub record Facts : Type 0 where
  pub type : CType
  pub local : ℕ
  pub by : ByNumber

-- they hold
abbrev pub Holds : Store → Locals → Facts → Type 0
Holds s l F = Hold s (at F.by (l F.type F.local))

-- in each struct, with all locals, where these facts hold those do
abbrev pub Implies : Facts → Facts → Type 0
Implies F G = (s : Store) (l : Locals) → Holds s l F → Holds s l G

-- the same whatever the value is
abbrev pub whatever : Known → ByNumber
whatever k = record { cases = []; others = k }

-- no local is looked at
abbrev pub alone : Known → Facts
alone k = record { type = Truth; local = 0; by = whatever k }

-- the local of these facts
abbrev pub is_local : CType → ℕ → Facts → Bool
is_local t i F = (F.local == i) && same_type F.type t
