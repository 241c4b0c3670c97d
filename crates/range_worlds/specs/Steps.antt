-- What assignments and guards make of a set of worlds.
use Rattle.std.specs.Prelude.{◌≡◌, ◌<◌, ℕ, Bool, true, false, Ok, List, length}
use Rattle.actions.specs.declared.expr.Value.{Value}
use Rattle.actions.specs.Changes.{assigned_value}
use Rattle.actions.specs.Exprs.{Expr}
use Rattle.actions.specs.Values.{value_of, flag_of}
use Rattle.actions.specs.Work.{change_or_fault}
use Rattle.actions.specs.World.{World}
use Rattle.range_worlds.specs.declared.setting.Setting.{Setting}
use Rattle.range_worlds.specs.declared.steps.Guarded.{Guarded}
use Rattle.range_worlds.specs.Leads.{At, Among, chart_in, cert_in}
use Rattle.range_rules.specs.declared.cert.Around.{Around}
use Rattle.range_rules.specs.Worlds.{EndsIn, always_of}
use Rattle.range_spans.specs.Boxes.{box_of}
use Rattle.range_spans.specs.Narrow.{put}
use Rattle.range_spans.specs.declared.known.Known.{Known}
use Rattle.range_spans.specs.declared.known.Known.TheVariants.{Truth}
use Rattle.range_spans.specs.Known.{Has, Tells}
use Rattle.range_spans.specs.Spans.{is_inside}
use Rattle.range_spans.specs.declared.span.Span.{Span}

-- in the worlds of a set the value of an expression is one of those, and a divisor is 0 only where the certificate says
-- so
pub record IsTold (s : Setting) (x : Around) (e : Expr) (k : Known) : Type 0 where
  pub tells : (w : World) → At s x w → Tells (record { known = k; zero = (cert_in s).zero }) (value_of w.vals w.marks e)

-- the second set has the worlds of the first at which the expression has that truth
pub record IsNarrowed (s : Setting) (x : Around) (e : Expr) (truth : Bool) (y : Around) : Type 0 where
  pub has : (w : World) → At s x w → (a : Value) → value_of w.vals w.marks e ≡ Ok a → flag_of a ≡ truth → At s y w

-- a list of sets has grown by the worlds in which a datum takes values of those of an expression
pub record Takes (s : Setting) (x : Around) (v : ℕ) (e : Expr) (k : Known) (old new : List Around) : Type 0 where
  pub kept : (w : World) → Among s old w → Among s new w
  pub ends : (w : World) → At s x w → (a : Value) → value_of w.vals w.marks e ≡ Ok a → Has k a
      → EndsIn (cert_in s) (λ _ u. Among s new u) (change_or_fault (assigned_value v (Ok a) w) w)

-- the second set is the first, where a datum has another span, which is inside the one that it has at each moment
pub record IsPut (s : Setting) (x : Around) (v : ℕ) (span : Span) (y : Around) : Type 0 where
  pub config : y.config ≡ x.config
  pub box : box_of y.spans.items ≡ put v span (box_of x.spans.items)
  pub inside : is_inside span (always_of (cert_in s) v) ≡ true
  pub declared : v < length (chart_in s).names.vars

-- a flag may have that truth, or no value
abbrev pub only : Bool → Bool → Known
only true may = Truth false may
only false may = Truth may false

-- a list of sets has grown by the worlds in which an expression has that truth, where it may have it
pub record Sides (s : Setting) (x : Around) (e : Expr) (truth may : Bool) (old new : List Around) : Type 0 where
  pub kept : (w : World) → Among s old w → Among s new w
  pub has : (w : World) → At s x w → (a : Value) → value_of w.vals w.marks e ≡ Ok a → flag_of a ≡ truth → may ≡ true
      → Among s new w

-- where a guard is true and where it is false
abbrev pub guard_ends : Setting → Guarded → Bool → World → Type 0
guard_ends s r true w = Among s r.yes.items w
guard_ends s r false w = Among s r.no.items w
