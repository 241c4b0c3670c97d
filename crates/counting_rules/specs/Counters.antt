-- Counters, and what is done with them. A counter is a datum that counts an event for a state: it is 0 from when the
-- state is entered, and one more each time that the chart is processed with the event.
use Rattle.std.specs.Prelude.{ℕ, zero, suc, pos, List, [], ◌∷◌}
use Rattle.flow_base.specs.declared.bounds.Bounds.{Bounds}
use Rattle.actions.specs.declared.expr.Op.TheVariants as ops
use Rattle.actions.specs.Exprs.{Expr, Lit, Read, Bin}
use Rattle.actions.specs.Work.{Work, ◌>>◌, nothing, choose, Now, is_event}
use Rattle.sos_rules.specs.Searches.{assign, pay}

-- an event, and the data that count it
pub record Counted : Type 0 where
  pub event : ℕ
  pub counters : List ℕ

-- the counters of a chart: which of them count which event, and which of them entering a state sets to 0
pub record Counters : Type 0 where
  pub counted : List Counted
  pub resets : ℕ → List ℕ

-- no counters
abbrev pub no_counters : Counters
no_counters = record { counted = []; resets = λ _. [] }

-- a whole number, as an expression
abbrev pub whole : ℕ → Expr
whole n = Lit (record { mantissa = pos n; frac = 0 })

-- the value of a counter and one more
abbrev pub one_more : ℕ → Expr
one_more v = Bin ops.Add (Read v) (whole 1)

-- counters become 0
abbrev pub reset : List ℕ → Work (Unit {0})
reset [] = nothing
reset (v ∷ vs) = assign v (whole 0) >> reset vs

-- counters become one more, each as its type holds it: a counter at the end of its type stays there
abbrev pub count_up : List ℕ → Work (Unit {0})
count_up [] = nothing
count_up (v ∷ vs) = assign v (one_more v) >> count_up vs

-- the counters of the current event count it, and then one step is paid for all of them
abbrev pub count : Bounds → List Counted → Now → Work (Unit {0})
count b [] now = nothing
count b (k ∷ ks) now =
    choose (is_event k.event now.event) (count_up k.counters >> (pay b >> count b ks now)) (count b ks now)

-- the first for the chart itself, the second for every other state
abbrev pub of_root : {A : Type 0} → ℕ → A → A → A
of_root zero a o = a
of_root (suc s) a o = o
