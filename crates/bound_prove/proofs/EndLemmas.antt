-- How a finder begins, and how it ends.
use Rattle.std.proofs.Common.{◌≡◌, ◌∙◌, ℕ, List, [], ◌∷◌, ◌++◌, Contains, Option, None, arith}
use Rattle.std.proofs.Common.{inr, ⊎_elim, sym, subst, refl}
use Rattle.std.proofs.lemmas.List.Elements.{All-contains}
use Rattle.std.proofs.lemmas.List.Elements.{Contains-push}
use Rattle.actions.specs.declared.event.Event.{Event}
use Rattle.actions.specs.declared.event.Event.TheVariants.{Start}
use Rattle.checked_chart.specs.Chart.{Chart}
use Rattle.bound_prove.specs.declared.need.Part.TheVariants as parts
use Rattle.bound_prove.specs.declared.cell.Cell.{Cell}
use Rattle.bound_prove.specs.declared.cell.Colour.TheVariants.{White, Grey}
use Rattle.bound_prove.specs.declared.need.Need.{Need}
use Rattle.bound_prove.specs.declared.need.Part.{Part}
use Rattle.bound_prove.specs.Cells.{Cells, IsGood}
use Rattle.bound_prove.specs.Colourings.{Colouring, IsBlack}
use Rattle.bound_prove.specs.Finding.{AreRoots}
use Rattle.bound_prove.specs.Lookups.{IsLedTo}
use Rattle.bound_prove.specs.Needs.{Covers}
use Rattle.bound_prove.specs.Roots.{root_need, IsWithin}
use Rattle.bound_prove.specs.Searches.{IsNeedOf, LeadsOn, the_ends, Answers, Below, Beyond}
use Rattle.bound_prove.specs.Waiting.{IsWaiting, IsToDo, IsUnderWay}
use Rattle.bound_prove.proofs.ChangeLemmas.{OthersKept, same_had, no_black_white, no_grey_white}
use Rattle.bound_prove.proofs.Overruns.{start_covered}
use Rattle.bound_prove.proofs.PlaceLemmas.{cut_cases, only_item}
use Rattle.bound_prove.proofs.Settling.{leads_on, cycle_has_no_bounds, done_is_good, roots_done, ends_cover}

-- where all cells are white and at the ends, the roots are to be looked at
pub way_begins : (c : Chart) (g : Cells) (k : Colouring) (cells : List Cell)
    → ((e : Event) (part : Part) (i : ℕ) → g e part i ≡ the_ends)
    → ((e : Event) (part : Part) (i : ℕ) → k e part i ≡ White) → AreRoots c cells → IsUnderWay c g k cells
way_begins c g k cells ends white roots = record {
  done = record {
    closed = λ e part i b. absurd (no_black_white _ b (white e part i));
    enough = λ e part i b. absurd (no_black_white _ b (white e part i));
    least = λ other good e part i b. absurd (no_black_white _ b (white e part i));
  };
  others = λ e part i. inr (ends e part i);
  stacked = λ i d lt. record {
    within = roots.within i d lt;
    below = (_, _, _, roots.are i d lt, inr (record { same_event = refl; same_part = refl; same_index = refl }));
  };
  roots = λ e part i r. inr (roots.whole e part i r);
  grey = λ x h. absurd (no_grey_white _ h (white x.event x.part x.index));
}

-- ---- a cycle

module _ (c : Chart) (g : Cells) (k : Colouring) where
  -- a cell that leads on to a grey cell below it or to itself is on a cycle
  pub met_grey : (s : List Cell) (t y : Cell) → IsUnderWay c g k (s ++ t ∷ []) → IsLedTo c t y
      → k y.event y.part y.index ≡ Grey → IsNeedOf c None
  met_grey s t y way led grey =
      let w : IsWaiting c k (s ++ t ∷ []) y = way.grey y grey in
      let its_root : IsToDo c t = All-contains (IsToDo c) (s ++ t ∷ []) t way.stacked (Contains-push s t) in
      cycle_has_no_bounds c t.event t.part t.index its_root.below
      (⊎_elim
      (λ b. subst (λ z. LeadsOn c t.event t.part t.index z.event z.part z.index) (sym (only_item t y b)) led.leads)
      (λ r.
      let back : IsLedTo c y t =
      All-contains (IsLedTo c y) w.above t w.leads
      (subst (λ z. Contains z t) (sym r.2) (Contains-push r.0 t)) in
      leads_on c t.event t.part t.index y.event y.part y.index t.event t.part t.index led.leads back.leads)
      (cut_cases w.below y w.above s (t ∷ []) (sym w.place)))

-- a cell that turned grey and met a grey one is on a cycle
pub turned_met_grey : (c : Chart) (g : Cells) (k k' : Colouring) (s : List Cell) (t y : Cell)
    → IsUnderWay c g k (s ++ t ∷ [])
    → OthersKept k k' t
    → IsLedTo c t y → k' y.event y.part y.index ≡ Grey → IsNeedOf c None
turned_met_grey c g k k' s t y way others led grey =
    let its_root : IsToDo c t = All-contains (IsToDo c) (s ++ t ∷ []) t way.stacked (Contains-push s t) in
    ⊎_elim
    (λ same. cycle_has_no_bounds c t.event t.part t.index its_root.below
    (same_had (λ e part i. LeadsOn c t.event t.part t.index e part i) t.event t.part t.index y.event y.part y.index same
    led.leads))
    (λ e. met_grey c g k s t y way led (sym e ∙ grey)) (others y.event y.part y.index)

-- ---- the end

module _ (c : Chart) (g : Cells) (k : Colouring) where
  -- where the stack is empty, the certificate is good and gives the need
  pub end_is_good : IsUnderWay c g k [] → IsGood c g
  end_is_good way = done_is_good c g (IsBlack k) way.done way.others

  -- and its roots give the need of the chart
  pub end_gives : IsUnderWay c g k [] → (answer : Option Need) → Answers (root_need c g) answer → IsNeedOf c answer
  end_gives way answer a =
      roots_done c g (IsBlack k) way.done way.others
      (λ e part i r. ⊎_elim (λ b. b) (λ m. absurd (omega (arith, m.1))) (way.roots e part i r)) answer a

-- ---- no bounds

module _ (c : Chart) (g : Cells) (ends : (e : Event) (part : Part) (i : ℕ) → g e part i ≡ the_ends) where
  -- a certificate with all cells at the ends is good
  pub ends_good : IsGood c g
  ends_good e part i n d = subst (λ z. Covers z n) (sym (ends e part i)) (ends_cover c g e part i n d)

  -- and its roots give no bounds
  ends_beyond : IsWithin (root_need c g) → ⊥
  ends_beyond within =
      let cover : Covers (root_need c g) the_ends =
      subst (Covers (root_need c g)) (ends Start parts.Enter 0) (start_covered c g) in
      omega (arith, cover.depth, within.depth)

  -- so it gives the need of a chart that has none
  pub ends_give : IsNeedOf c None → (answer : Option Need) → Answers (root_need c g) answer → IsNeedOf c answer
  ends_give none answer (Below w) = absurd (ends_beyond w)
  ends_give none answer (Beyond f) = none
