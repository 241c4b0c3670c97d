-- Which statements assign an expression to a datum.
use Rattle.std.specs.Prelude.{◌≡◌, ℕ, ◌<◌, ◌≤◌, List, length, None, Result, Ok, Err}
use Rattle.flow_base.specs.declared.fault.Fault.{Fault}
use Rattle.fixed_point.specs.declared.fitting.Mode.{Mode}
use Rattle.active_config.specs.Marks.{Configuration}
use Rattle.actions.specs.declared.names.Sort.{Sort}
use Rattle.actions.specs.declared.names.Sort.TheVariants as sorts
use Rattle.actions.specs.declared.sort.ExprSort.{ExprSort}
use Rattle.actions.specs.declared.sort.ExprSort.TheVariants as kinds
use Rattle.actions.specs.Data.{Datum, datum, assigned, HaveTheirSorts}
use Rattle.actions.specs.Exprs.{Expr}
use Rattle.actions.specs.Sorts.{sort_of, assignment_fault}
use Rattle.actions.specs.Values.{Valued, scope_at}
use Rattle.c_subset.specs.Trees.{CExpr, Block, Store as PutField}
use Rattle.c_subset.specs.declared.trees.Width.{Width}
use Rattle.c_subset.specs.Meaning.{bits, CValue, Store, Locals}
use Rattle.c_subset.specs.Running.{Calls, Outcome, Returns, with_field}
use Rattle.c_functions.specs.Code.{written, Divides, Returning}
use Rattle.c_functions.specs.Translation.{Flat}
use Rattle.c_functions.specs.Storing.{Stores, stored_c}
use Rattle.c_functions.specs.Claims.{ShowsData, ShowsActive, AgreeBelow}

-- what is stored of an expression: of a number what the mode keeps of it, and a flag as it is
abbrev pub stores_of : ℕ → Sort → Mode → ExprSort → Flat → Stores
stores_of v sorts.Flag mode given x = record { code = x.code; kept = x.expr }
stores_of v (sorts.Number scale) mode kinds.Flag x = record { code = x.code; kept = x.expr }
stores_of v (sorts.Number scale) mode (kinds.Number frac size) x = stored_c v frac size scale mode x

-- `m->v = e;` with the code before it, and then other statements
abbrev pub assigned_block : (Width → ℕ) → (Fault → Block) → ℕ → Stores → Block → Block
assigned_block helper faulted v x rest = written helper faulted x.code (PutField v x.kept rest)

-- the data after an assignment of a value, or the fault of the value or of the assignment
abbrev pub assigned_by : List Datum → ℕ → Valued → Result (List Datum) Fault
assigned_by vals v (Ok value) = assigned vals v value
assigned_by vals v (Err x) = Err x

-- the statements store a value in the datum's field and go on, with the same locals below n, and the struct shows the
-- new data; or they return with the fault
abbrev pub EndsAssigned : (Store → Locals → Outcome) → (Fault → Store → Store) → CValue → ℕ → Store → ℕ → Locals → Outcome
    → Result (List Datum) Fault → Type 0
EndsAssigned go after bad v s n l o (Ok vals) =
    (x : CValue) × (m : Locals) × (o ≡ go (with_field s v x) m) × AgreeBelow n l m × ShowsData vals (with_field s v x)
EndsAssigned go after bad v s n l o (Err fault) = o ≡ Returns (after fault s) bad

-- what the assignment of an expression to a datum needs: the struct shows data of their sorts and which states are
-- active, int has at most 64 bits, flow_divW is there, what is written for a fault returns, and the datum takes the
-- sort
pub record CanAssign (int : Width) (tests : ℕ → CExpr) (calls : Calls) (k : ℕ) (helper : Width → ℕ)
    (faulted : Fault → Block)
    (after : Fault → Store → Store) (bad : CValue) (s : Store) (vals : List Datum) (marks : Configuration) (v : ℕ)
    (e : Expr) (sort : ExprSort) : Type 0 where
  pub sorts : HaveTheirSorts vals
  pub shown : ShowsData vals s
  pub active : ShowsActive int tests marks s
  pub int_is : bits int ≤ 64
  pub divides : Divides calls helper s
  pub returning : Returning int calls k faulted after bad s
  pub there : v < length vals
  pub sorted : sort_of (scope_at vals marks) e ≡ Ok sort
  pub takes : assignment_fault (datum vals v).sort sort ≡ None
