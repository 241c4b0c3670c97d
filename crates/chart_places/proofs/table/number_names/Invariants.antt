use Rattle.std.proofs.Common.{◌≡◌, ℕ, List, Option, map, take}
use Rattle.indexmap.specs.IndexMap.{get_by}
use Rattle.chart_places.specs.Tables.{declared_of, declared_from, is_key}
use Rattle.chart_places.proofs.table.number_names.Given as goal

-- the names so far have their numbers
abbrev pub invariant-loop-i : goal.invariant-loop-i
invariant-loop-i l = (owner : Option ℕ) (text : List ℕ)
    → get_by (is_key owner text) l.numbers ≡ declared_from 0 (map declared_of (take l.i l.names)) owner text
