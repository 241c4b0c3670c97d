-- What a closed certificate says of claims.
use Rattle.std.proofs.Common.{◌≡◌, Bool, true, false, List, [], ◌∷◌, Ok, Err, refl, subst}
use Rattle.std.specs.List.{AllByRecursion}
use Rattle.flow_base.specs.declared.bounds.Bounds.{Bounds}
use Rattle.active_config.specs.Marks.{Configuration}
use Rattle.actions.specs.declared.expr.Value.TheVariants as values
use Rattle.actions.specs.Exprs.{Expr}
use Rattle.actions.specs.Runs.{Moment, EventWithInputs, CanBeGiven}
use Rattle.actions.specs.Values.{Valued, value_of}
use Rattle.checked_chart.specs.Chart.{Chart}
use Rattle.sos_rules.specs.Reactions.{RulesRun}
use Rattle.range_rules.specs.declared.cert.Certificate.{Certificate}
use Rattle.range_rules.specs.Closed.{IsClosed}
use Rattle.range_rules.specs.Kept.{KeepsRanges, Proves, IsTrueAt}
use Rattle.range_rules.specs.Worlds.{always_of}
use Rattle.range_rules.proofs.Runs.{run_keeps}
use Rattle.range_spans.specs.Boxes.{box_of, sort_at}
use Rattle.range_spans.specs.declared.known.Guess.{Guess}
use Rattle.range_spans.specs.declared.known.Known.TheVariants.{Truth}
use Rattle.range_spans.specs.Known.{Tells, guess}
use Rattle.range_spans.proofs.BoxLemmas.{guess_holds}

all_follow : {A : Type 0} {P Q : A → Type 0} → ((a : A) → P a → Q a) → (xs : List A) → AllByRecursion P xs
    → AllByRecursion Q xs
all_follow f [] h = h
all_follow f (x ∷ xs) h = (f x h.0, all_follow f xs h.1)

-- what is known to be true is true
sure : (may : Bool) (r : Valued) → Tells (record { known = Truth false may; zero = false }) r → r ≡ Ok
    (values.Flag true)
sure may (Ok (values.Flag true)) h = refl
sure may (Ok (values.Flag false)) h = absurd cc
sure may (Ok (values.Number n)) h = absurd h
sure may (Err z) h = let wrong : false ≡ true = h.1 in absurd cc

module _ (c : Chart) (cert : Certificate) where
  claimed : (claim : Expr) → Proves c cert claim → (m : Moment) → KeepsRanges c cert m → IsTrueAt claim m
  claimed claim p m h e =
      let at = h.rests e in
      let x = at.set in
      let told = guess_holds c.names (always_of cert) claim (box_of x.spans.items) m.world.vals m.world.marks
      at.stands.data_in in
      let told' : Tells (guess (sort_at c.names) (box_of x.spans.items) x.config claim)
      (value_of m.world.vals m.world.marks claim) =
      subst (λ (k : Configuration). Tells (guess (sort_at c.names) (box_of x.spans.items) k claim)
      (value_of m.world.vals m.world.marks claim)) at.stands.config told in
      let known = p at.place x at.is in
      sure known.0 (value_of m.world.vals m.world.marks claim)
      (subst (λ (g : Guess). Tells g (value_of m.world.vals m.world.marks claim)) known.1 told')

  pub claim_kept : (claim : Expr) → IsClosed c cert → Proves c cert claim → (b : Bounds) (events : List EventWithInputs)
      (moments : List Moment) → AllByRecursion (CanBeGiven c.names) events → RulesRun c b events moments
      → AllByRecursion (IsTrueAt claim) moments
  claim_kept claim closed p b events moments can run =
      all_follow (claimed claim p) moments (run_keeps c cert closed b events moments can run)
