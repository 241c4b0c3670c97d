-- The parts of a trace line, as they are put one after the other.
use Rattle.std.specs.Prelude.{ℕ, ◌^◌, ◌≤◌, unsigned_abs, Bool, List, [], ◌∷◌, ◌++◌, if◌then◌else◌}
use Rattle.actions.specs.declared.expr.Value.{Value}
use Rattle.actions.specs.declared.expr.Value.TheVariants as values

-- the separator, which stands before every text but the first
abbrev pub separator_before : ℕ → Bool → List ℕ
separator_before separator is_first = if is_first then [] else separator ∷ []

-- one text more of those between which a separator stands
abbrev pub item : ℕ → Bool → List ℕ → List ℕ
item separator is_first text = separator_before separator is_first ++ text

-- the number has a decimal text within the room that there is for one
abbrev pub CanBeWritten : Value → Type 0
CanBeWritten (values.Flag b) = Unit {0}
CanBeWritten (values.Number x) = (unsigned_abs x.mantissa ≤ 2 ^ 100) × (x.frac ≤ 64)
