-- A counter to which nothing assigns is exactly the number of times.
use Rattle.std.proofs.Common.{◌≢◌, ℕ, List, [], ◌∷◌, arith}
use Rattle.flow_base.specs.declared.bounds.Bounds.{Bounds}
use Rattle.actions.specs.declared.event.Event.{Event}
use Rattle.actions.specs.declared.event.Event.TheVariants.{Start}
use Rattle.actions.specs.Data.{datum, initial}
use Rattle.actions.specs.World.{World, world_before, begun}
use Rattle.actions.specs.Work.{Run, from_outside}
use Rattle.checked_chart.specs.Chart.{Chart}
use Rattle.counting_rules.specs.Counters.{Counters}
use Rattle.counting_rules.specs.Numbers.{IsCounter}
use Rattle.counting_rules.specs.Reactions.{counting_start_upto, counting_react_upto}
use Rattle.counting_log.specs.Tells.{Tells, ended, faulted, unfinished}
use Rattle.counting_log.specs.Assigned.{OnlyChart}
use Rattle.counting_log.specs.Reactions.{logged_start_upto, logged_react_upto}
use Rattle.counting_log.specs.Times.{IsCounterOf, IsNumber, IsCount}
use Rattle.counting_log.specs.Log.{Note, Entered, Processed, Assigned, Untouched}
use Rattle.counting_log.specs.Work.{Logged, Ended}
use Rattle.counting_log.proofs.Assigned as kept
use Rattle.counting_log.proofs.Assigned.{OnlyLog, Keeps, untouched, good_upto}
use Rattle.counting_log.proofs.Since.{number_is_kept, has_number}
use Rattle.counting_log.proofs.Tells.{logged_match}

log_of : {Q : ℕ → Type 0} {A : Type 0} {R : A → Type 0} {a : A} {w : World} {l : List Note} → Keeps Q R (Ended a w l)
    → OnlyLog Q l
log_of (kept.ended a w l r h) = h

only_of : (v : ℕ) (l : List Note) → Untouched v l → OnlyLog (λ u. u ≢ v) l
only_of v [] h = tt
only_of v (Entered x ∷ l) h = only_of v l h
only_of v (Processed e ∷ l) h = only_of v l h
only_of v (Assigned u ∷ l) h = (h.0, only_of v l h.1)

exact : (v s e greatest : ℕ) {A : Type 0} (R : A → Type 0) (r : Logged A) (q : Run A) → Tells (IsNumber v s e greatest) r q
    → Keeps (λ u. u ≢ v) R r → Tells (IsCount v s e greatest) r q
exact v s e greatest R _ _ (ended a w l number) k =
    let clean = untouched v l (log_of k) in ended a w l (clean, number clean)
exact v s e greatest R _ _ (faulted x w l) k = faulted x w l
exact v s e greatest R _ _ unfinished k = unfinished

module _ (c : Chart) (k : Counters) (b : Bounds) (v s e greatest n : ℕ) (own : IsCounterOf k v s e)
    (only : OnlyChart (λ u. u ≢ v) c) where
  -- after the start
  pub exact_start : IsCounter (datum (initial c.names) v) greatest 0
      → Tells (IsCount v s e greatest) (logged_start_upto c k b n) (counting_start_upto c k b n)
  exact_start first =
      exact v s e greatest _ _ _
      ((logged_match c k b _ (number_is_kept c k b v s e greatest own) n).enter 0 0 (from_outside Start)
      (world_before c.tree c.names) _
      (λ clean. has_number v greatest _ _ (world_before c.tree c.names) (omega arith) first))
      ((good_upto (λ u. u ≢ v) c k b only n).enter 0 0 (from_outside Start) (world_before c.tree c.names) _ tt)

  -- after a reaction
  pub exact_reaction : (w : World) (log : List Note) (event : Event) → IsCount v s e greatest w log
      → Tells (IsCount v s e greatest) (logged_react_upto c k b w log event n) (counting_react_upto c k b w event n)
  exact_reaction w log event before =
      exact v s e greatest _ _ _
      ((logged_match c k b _ (number_is_kept c k b v s e greatest own) n).process 0 (from_outside event) (begun w) log
      (λ clean. before.1))
      ((good_upto (λ u. u ≢ v) c k b only n).process 0 (from_outside event) (begun w) log (only_of v log before.0))
