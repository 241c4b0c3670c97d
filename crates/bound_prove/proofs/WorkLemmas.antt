-- The finder's work falls with each look.
use Rattle.std.proofs.Common.{◌≡◌, ℕ, zero, suc, ◌+◌, ◌<◌, ◌≤◌, ◌⊎◌, ⊎_elim, subst, sym, ap, refl, arith}
use Rattle.std.proofs.lemmas.Bool.{cases_lt}
use Rattle.actions.specs.declared.event.Event.{Event}
use Rattle.actions.specs.declared.event.Event.TheVariants.{Start, Tick, Named}
use Rattle.checked_chart.specs.Chart.{Chart}
use Rattle.bound_prove.specs.declared.need.Part.TheVariants as parts
use Rattle.bound_prove.specs.declared.cell.Cell.{Cell}
use Rattle.bound_prove.specs.declared.cell.Colour.{Colour}
use Rattle.bound_prove.specs.declared.cell.Colour.TheVariants.{White, Grey, Black}
use Rattle.bound_prove.specs.declared.need.Part.{Part}
use Rattle.bound_prove.specs.Colourings.{Colouring}
use Rattle.bound_prove.specs.Searches.{IsSame}
use Rattle.bound_prove.specs.Tables.{event_index, event_count, part_count, IsInTable}
use Rattle.bound_prove.specs.WorkLeft.{looks_left, sum_below, event_at, part_left, event_left, work_left}
use Rattle.bound_prove.proofs.ChangeLemmas.{same_has}

-- a sum of terms of which none is greater
sum_more : (f f' : ℕ → ℕ) (n : ℕ) → ((i : ℕ) → f' i ≤ f i) → sum_below f' n ≤ sum_below f n
sum_more f f' zero h = omega arith
sum_more f f' (suc n) h = omega (arith, h n, sum_more f f' n h)

-- and of which one is less
sum_less : (f f' : ℕ → ℕ) (n i : ℕ) → ((i : ℕ) → f' i ≤ f i) → i < n → f' i < f i → sum_below f' n < sum_below f n
sum_less f f' zero i h lt less = absurd (omega (arith, lt))
sum_less f f' (suc n) i h lt less =
    ⊎_elim (λ below. omega (arith, h n, sum_less f f' n i h below less))
    (λ above. let e : i ≡ n = omega (arith, lt, above) in
    let less' : f' n < f n = subst (λ j. f' j < f j) e less in omega (arith, less', sum_more f f' n h)) (cases_lt i n)

-- the event of an event's number is that event
pub event_at_index : (e : Event) → event_at (event_index e) ≡ e
event_at_index Start = refl
event_at_index Tick = refl
event_at_index (Named e) = let two : e + 2 ≡ suc (suc e) = omega arith in ap event_at two

-- of colourings of which the second has no more work in any cell, and less in one
module _ (c : Chart) (k k' : Colouring) (more : (e : Event) (part : Part) (i : ℕ)
    → looks_left (k' e part i) ≤ looks_left (k e part i)) where
  -- no part has more
  part_more : (e : Event) (part : Part) → part_left c k' e part ≤ part_left c k e part
  part_more e part =
      sum_more (λ i. looks_left (k e part i)) (λ i. looks_left (k' e part i)) (part_count c part) (more e part)

  -- the part of that cell has less
  part_less : (e : Event) (part : Part) (i : ℕ) → i < part_count c part
      → looks_left (k' e part i) < looks_left (k e part i) → part_left c k' e part < part_left c k e part
  part_less e part i lt less =
      sum_less (λ i. looks_left (k e part i)) (λ i. looks_left (k' e part i)) (part_count c part) i (more e part) lt
      less

  -- no event has more
  event_more : (e : Event) → event_left c k' e ≤ event_left c k e
  event_more e =
      omega (
        arith,
        part_more e parts.Junction,
        part_more e parts.Exit,
        part_more e parts.Enter,
        part_more e parts.Process,
      )

  -- the event of that part has less
  event_less : (e : Event) (part : Part) → part_left c k' e part < part_left c k e part
      → event_left c k' e < event_left c k e
  event_less e parts.Junction less =
      omega (arith, less, part_more e parts.Exit, part_more e parts.Enter, part_more e parts.Process)
  event_less e parts.Exit less =
      omega (arith, less, part_more e parts.Junction, part_more e parts.Enter, part_more e parts.Process)
  event_less e parts.Enter less =
      omega (arith, less, part_more e parts.Junction, part_more e parts.Exit, part_more e parts.Process)
  event_less e parts.Process less =
      omega (arith, less, part_more e parts.Junction, part_more e parts.Exit, part_more e parts.Enter)

  -- so all cells together have less
  all_less : (e : Event) (part : Part) (i : ℕ) → IsInTable c e part i
      → looks_left (k' e part i) < looks_left (k e part i) → work_left c k' < work_left c k
  unfolding work_left
  all_less e part i within less =
      sum_less (λ n. event_left c k (event_at n)) (λ n. event_left c k' (event_at n)) (event_count c) (event_index e)
      (λ n. event_more (event_at n)) within.event
      (subst (λ x. event_left c k' x < event_left c k x) (sym (event_at_index e))
      (event_less e part (part_less e part i within.index less)))

-- where one cell alone has another colour, with less work, there is less work
pub work_falls : (c : Chart) (k k' : Colouring) (t : Cell) → IsInTable c t.event t.part t.index
    → ((e : Event) (part : Part) (i : ℕ) → IsSame t.event t.part t.index e part i ⊎ (k' e part i ≡ k e part i))
    → looks_left (k' t.event t.part t.index) < looks_left (k t.event t.part t.index) → work_left c k' < work_left c k
work_falls c k k' t within others less =
    all_less c k k'
    (λ e part i.
    ⊎_elim
    (λ same.
    let here : looks_left (k' t.event t.part t.index) ≤ looks_left (k t.event t.part t.index) = omega (arith, less) in
    same_has (λ x p j. looks_left (k' x p j) ≤ looks_left (k x p j)) t.event t.part t.index e part i same here)
    (λ x. let same : looks_left (k' e part i) ≡ looks_left (k e part i) = ap looks_left x in omega (arith, same))
    (others e part i))
    t.event t.part t.index within less

-- a cell that wasn't done and is
pub black_less : (x y : Colour) → (x ≡ Black → ⊥) → y ≡ Black → looks_left y < looks_left x
black_less White y differ e = let less : looks_left y ≡ 0 = ap looks_left e in omega (arith, less)
black_less Grey y differ e = let less : looks_left y ≡ 0 = ap looks_left e in omega (arith, less)
black_less Black y differ e = absurd (differ refl)

-- a white cell that turned grey
pub grey_less : (x y : Colour) → x ≡ White → y ≡ Grey → looks_left y < looks_left x
grey_less x y white grey =
    let less : looks_left y ≡ 1 = ap looks_left grey in let more : looks_left x ≡ 2 = ap looks_left white in
    omega (arith, less, more)
