-- Starts, reactions and certificates that are closed, and what follows for runs.
use Rattle.std.proofs.Common.{◌≡◌, ◌<◌, ◌≤◌, ◌+◌, ◌⊎◌, inl, inr, ℕ, Bool, true, false, List, Some, length}
use Rattle.std.proofs.Common.{slice_get, sym, subst, arith}
use Rattle.std.specs.Bool.{OnTrue}
use Rattle.actions.specs.declared.event.Event.{Event}
use Rattle.actions.specs.declared.event.Event.TheVariants.{Start, Tick, Named}
use Rattle.actions.specs.declared.names.EventDecl.{EventDecl}
use Rattle.actions.specs.declared.names.EventKind.TheVariants as event_kinds
use Rattle.actions.specs.Engines.{CanReactTo}
use Rattle.actions.specs.Exprs.{Expr}
use Rattle.actions.specs.World.{world_before}
use Rattle.checked_chart.specs.Chart.{Chart}
use Rattle.range_blocks.specs.Ends.{rules_in}
use Rattle.range_check.specs.Checks.{AreCellsClosed}
use Rattle.range_check.specs.Places.{IsFirst, ReactsTo, ReactsToInput, ReactsToAll, Starts, ReactsFrom}
use Rattle.range_check.specs.Places.{ReactsFromAll}
use Rattle.range_check.specs.Runs.{StaysInRanges, IsTrueInRuns}
use Rattle.range_check.proofs.CheckLemmas.{below_or, at_place}
use Rattle.range_rules.specs.declared.cert.Around.{Around}
use Rattle.range_rules.specs.declared.cert.Certificate.{Certificate}
use Rattle.range_rules.specs.Closed.{IsClosed}
use Rattle.range_rules.specs.Kept.{IsKnown, Proves}
use Rattle.range_rules.specs.Worlds.{always_of}
use Rattle.range_rules.proofs.Runs.{run_keeps}
use Rattle.range_rules.proofs.Claims.{claim_kept}
use Rattle.range_spans.specs.Boxes.{CoversInputs}
use Rattle.range_worlds.specs.declared.setting.Setting.{Setting}
use Rattle.range_worlds.specs.Leads.{At, Among, Adds, Keeps, Leads, chart_in, cert_in, now_at}
use Rattle.range_worlds.proofs.Leading.{leads_more, leads_from}

module _ (s : Setting) where
  pub starts_at : (x : Around) (none xs ys : List Around) → IsFirst s x → Adds s x none xs
      → Leads s (Among s xs) (λ b n depth. (rules_in s b n).enter 0 0 (now_at Start depth)) (λ _ w. Among s ys w)
      → Starts s ys
  starts_at x none xs ys f a l = record {
    first = x;
    at = f.at;
    starts = leads_from s (λ b n depth. (rules_in s b n).enter 0 0 (now_at Start depth)) (Among s xs) (At s x)
        (λ _ w. Among s ys w) (λ w h. a.has w h) l;
  }

  pub starts_more : (ys ends : List Around) → Starts s ys → Keeps s ys ends → Starts s ends
  starts_more ys ends h k = record {
    first = h.first;
    at = h.at;
    starts = leads_more s (λ b n depth. (rules_in s b n).enter 0 0 (now_at Start depth)) (At s h.first)
        (λ _ w. Among s ys w) (λ _ w. Among s ends w) (λ _ w g. k.kept w g) h.starts;
  }

  pub reacts_no_input : (y : Around) (event : EventDecl) (e : ℕ) → (event.kind ≡ event_kinds.Input → ⊥)
      → ReactsToInput s y event e
  reacts_no_input y event e h = record { reacts = λ q. absurd (h q) }

  -- a tick and the first input events
  pub record ReactsSoFar (y : Around) (events : List EventDecl) (i : ℕ) : Type 0 where
    pub tick : ReactsTo s y Tick
    pub first : (k : ℕ) (event : EventDecl) → k < i → slice_get events k ≡ Some event → ReactsToInput s y event k

  pub reacts_first : (y : Around) (events : List EventDecl) → ReactsTo s y Tick → ReactsSoFar y events 0
  reacts_first y events t = record { tick = t; first = λ k event lt e. absurd (omega arith) }

  pub reacts_next : (y : Around) (events : List EventDecl) (i : ℕ) (x : EventDecl) → slice_get events i ≡ Some x
      → ReactsToInput s y x i → ReactsSoFar y events i → ReactsSoFar y events (i + 1)
  reacts_next y events i x e a h = record { tick = h.tick; first = λ k z lt g. one k z (below_or k i lt) g }
    where
      one : (k : ℕ) (z : EventDecl) → (k < i) ⊎ (k ≡ i) → slice_get events k ≡ Some z → ReactsToInput s y z k
      one k z (inl lt) g = h.first k z lt g
      one k z (inr q) g =
          let f : slice_get events i ≡ Some z = subst (λ j. slice_get events j ≡ Some z) q g in
          let same : x ≡ z = cc in
          subst (λ j. ReactsToInput s y z j) (sym q) (subst (λ v. ReactsToInput s y v i) same a)

  pub reacts_all : (y : Around) (events : List EventDecl) (i : ℕ) → events ≡ (chart_in s).names.events
      → length events ≤ i → ReactsSoFar y events i → ReactsToAll s y
  reacts_all y events i same le h = record { reacts = at }
    where
      at : (e : Event) → CanReactTo (chart_in s).names e → ReactsTo s y e
      at Start can = absurd can
      at Tick can = h.tick
      at (Named e) can =
          let own : slice_get events e ≡ Some can.0 = subst (λ l. slice_get l e ≡ Some can.0) (sym same) can.1 in
          let lt = at_place events e can.0 own in (h.first e can.0 (omega arith) own).reacts can.2

  pub no_reactions : ReactsFromAll s 0
  no_reactions = record { reacts = λ i x lt e. absurd (omega arith) }

  pub next_reactions : (i : ℕ) (x : Around) → slice_get (cert_in s).rest.items i ≡ Some x → ReactsFrom s x
      → ReactsFromAll s i → ReactsFromAll s (i + 1)
  next_reactions i x e a h = record { reacts = λ k y lt g. one k y (below_or k i lt) g }
    where
      one : (k : ℕ) (y : Around) → (k < i) ⊎ (k ≡ i) → slice_get (cert_in s).rest.items k ≡ Some y → ReactsFrom s y
      one k y (inl lt) g = h.reacts k y lt g
      one k y (inr q) g =
          let f : slice_get (cert_in s).rest.items i ≡ Some y =
          subst (λ j. slice_get (cert_in s).rest.items j ≡ Some y) q g in
          let same : x ≡ y = cc in subst (λ z. ReactsFrom s z) same a

  -- a closed certificate
  pub closes : CoversInputs (chart_in s).names (always_of (cert_in s))
      → AreCellsClosed s (length (cert_in s).cells.items) → Starts s (cert_in s).rest.items
      → ReactsFromAll s (length (cert_in s).rest.items) → IsClosed (chart_in s) (cert_in s)
  closes covers cells start reacts = record {
    inputs = covers;
    cells = λ b n right i cell is. (cells.closed i cell (at_place (cert_in s).cells.items i cell is) is).closed b n right;
    starts = λ b n right. start.starts.leads b n 0 (world_before (chart_in s).tree (chart_in s).names)
        (λ m lt i cell is. right m (omega arith) i cell is) start.at;
    reacts = λ b n right e can i x is w h.
        let from = reacts.reacts i x (at_place (cert_in s).rest.items i x is) is in
        ((from.reacts.reacts e can).leads).leads b n 0 w (λ m lt j cell here. right m (omega arith) j cell here)
        (from.frees.frees w h);
  }

-- ---- runs

pub closed_stays : (c : Chart) (cert : Certificate) (b : Bool) → OnTrue b (IsClosed c cert)
    → OnTrue b (StaysInRanges c cert)
closed_stays c cert true h = λ b events moments can run. run_keeps c cert h b events moments can run
closed_stays c cert false h = tt

-- a claim is known in the first sets
pub record KnownBefore (c : Chart) (cert : Certificate) (claim : Expr) (i : ℕ) : Type 0 where
  pub known : (k : ℕ) (x : Around) → k < i → slice_get cert.rest.items k ≡ Some x → IsKnown c claim x

pub known_none : (c : Chart) (cert : Certificate) (claim : Expr) → KnownBefore c cert claim 0
known_none c cert claim = record { known = λ k x lt e. absurd (omega arith) }

pub known_next : (c : Chart) (cert : Certificate) (claim : Expr) (i : ℕ) (x : Around)
    → slice_get cert.rest.items i ≡ Some x → IsKnown c claim x → KnownBefore c cert claim i
    → KnownBefore c cert claim (i + 1)
known_next c cert claim i x e a h = record { known = λ k y lt g. one k y (below_or k i lt) g }
  where
    one : (k : ℕ) (y : Around) → (k < i) ⊎ (k ≡ i) → slice_get cert.rest.items k ≡ Some y → IsKnown c claim y
    one k y (inl lt) g = h.known k y lt g
    one k y (inr q) g =
        let f : slice_get cert.rest.items i ≡ Some y = subst (λ j. slice_get cert.rest.items j ≡ Some y) q g in
        let same : x ≡ y = cc in subst (λ z. IsKnown c claim z) same a

pub known_all : (c : Chart) (cert : Certificate) (claim : Expr) (i : ℕ) → length cert.rest.items ≤ i
    → KnownBefore c cert claim i → Proves c cert claim
known_all c cert claim i le h = λ k x is. let lt = at_place cert.rest.items k x is in h.known k x (omega arith) is

pub proved_in_runs : (c : Chart) (cert : Certificate) (claim : Expr) → Proves c cert claim → IsClosed c cert
    → IsTrueInRuns c claim
proved_in_runs c cert claim p closed b events moments can run =
    claim_kept c cert claim closed p b events moments can run
