-- The first of several faults: by place, and at one place by number.
use Rattle.std.specs.Prelude.{◌≡◌, ◌==◌, ◌&&◌, ◌||◌, ℕ, nat_lt, Bool, false, Option, Some, None, if◌then◌else◌}
use Rattle.token_grammar.specs.declared.token.Span.{Span}
use Rattle.chart_tree.specs.declared.fault.FormKind.{FormKind}
use Rattle.chart_tree.specs.Form.{form_number}
use Rattle.chart_tree.specs.declared.first.FaultAt.{FaultAt}

-- whether (a, b, c) comes before (x, y, z)
unfoldable pub comes_before : ℕ → ℕ → ℕ → ℕ → ℕ → ℕ → Bool
comes_before a b c x y z = nat_lt a x || ((a == x) && (nat_lt b y || ((b == y) && nat_lt c z)))

-- whether a fault is before another one: its place is, or at one place its number is lower
abbrev pub is_before : FaultAt → FaultAt → Bool
is_before f g = comes_before f.at.line f.at.column (form_number f.kind) g.at.line g.at.column (form_number g.kind)

-- a fault of some kind at some place
abbrev pub at_place : FormKind → Span → FaultAt
at_place kind at = record { kind = kind; at = at }

-- the first of several faults, none where there are none
abbrev pub IsFirst : (FaultAt → Type 0) → Option FaultAt → Type 0
IsFirst F None = (f : FaultAt) → F f → ⊥
IsFirst F (Some g) = F g × ((f : FaultAt) → F f → is_before f g ≡ false)

-- the earlier of a fault that was kept and one more
unfoldable pub kept : Option FaultAt → FaultAt → Option FaultAt
kept None g = Some g
kept (Some f) g = if is_before g f then Some g else Some f

-- what was kept is one of the faults
abbrev pub IsOne : (FaultAt → Type 0) → Option FaultAt → Type 0
IsOne F None = Unit {0}
IsOne F (Some f) = F f

-- a fault is kept, or one that isn't after it
abbrev pub Passed : Option FaultAt → FaultAt → Type 0
Passed None f = ⊥
Passed (Some g) f = is_before f g ≡ false
