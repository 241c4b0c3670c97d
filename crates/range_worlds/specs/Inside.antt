-- Sets of worlds that are inside others.
use Rattle.std.specs.Prelude.{ℕ, ℤ, List}
use Rattle.actions.specs.World.{World}
use Rattle.range_rules.specs.declared.cert.Around.{Around}
use Rattle.range_spans.specs.Boxes.{box_of}
use Rattle.range_spans.specs.Spans.{IsIn}
use Rattle.range_spans.specs.declared.span.Span.{Span}
use Rattle.range_worlds.specs.declared.setting.Setting.{Setting}
use Rattle.range_worlds.specs.Leads.{At}

-- each number of a span is in the one at its place in the other list
pub record IsWithin (a b : List Span) : Type 0 where
  pub within : (v : ℕ) (m : ℤ) → IsIn (box_of a v) m → IsIn (box_of b v) m

-- the first set has all worlds of the second
pub record HasAll (s : Setting) (x y : Around) : Type 0 where
  pub has : (w : World) → At s y w → At s x w
