-- What each step of a finder keeps.
use Rattle.std.proofs.Common.{◌≡◌, ◌∙◌, ℕ, List, [], ◌∷◌, ◌++◌, All, Contains}
use Rattle.std.proofs.Common.{◌⊎◌, inl, inr, ⊎_elim, ap, sym, subst, refl, append_assoc}
use Rattle.std.proofs.lemmas.List.Elements.{All-nil, All-append, All-push, All-contains}
use Rattle.std.proofs.lemmas.List.Elements.{All-weaker, Contains-append_left, Contains-append_cases}
use Rattle.std.proofs.lemmas.List.Elements.{Contains-push}
use Rattle.actions.specs.declared.event.Event.{Event}
use Rattle.checked_chart.specs.Chart.{Chart}
use Rattle.bound_prove.specs.declared.cell.Cell.{Cell}
use Rattle.bound_prove.specs.declared.cell.Colour.TheVariants.{White, Grey, Black}
use Rattle.bound_prove.specs.declared.need.Need.{Need}
use Rattle.bound_prove.specs.declared.need.Part.{Part}
use Rattle.bound_prove.specs.Cells.{Cells, Demands}
use Rattle.bound_prove.specs.Colourings.{Colouring, IsBlack}
use Rattle.bound_prove.specs.Lookups.{cell_at, IsLedTo, IsBlackOrIn}
use Rattle.bound_prove.specs.Needs.{Covers}
use Rattle.bound_prove.specs.Searches.{AreDone, IsSame, LeadsOn, IsBelowRoot, the_ends}
use Rattle.bound_prove.specs.Uses.{Uses}
use Rattle.bound_prove.specs.Waiting.{IsWaiting, IsToDo, IsUnderWay}
use Rattle.bound_prove.proofs.ChangeLemmas.{OthersKept, same_has, same_had, no_black_grey, no_black_white}
use Rattle.bound_prove.proofs.ChangeLemmas.{no_grey_white, kept_colour, had_colour, black_kept}
use Rattle.bound_prove.proofs.Monotone.{uses_map}
use Rattle.bound_prove.proofs.PlaceLemmas.{cut_cases, only_item}
use Rattle.bound_prove.proofs.Settling.{leads_on, settled}
use Rattle.bound_prove.proofs.StackLemmas.{done_left_out}

-- a grey cell still waits where the black ones stay so
pub waits_on : (c : Chart) (k k' : Colouring) → ((e : Event) (part : Part) (i : ℕ) → IsBlack k e part i
    → IsBlack k' e part i) → (stack : List Cell) (x : Cell) → IsWaiting c k stack x → IsWaiting c k' stack x
waits_on c k k' kept stack x w = record {
  below = w.below;
  above = w.above;
  place = w.place;
  last = w.last;
  leads = w.leads;
  uses =
      uses_map c (IsBlackOrIn k w.above) (IsBlackOrIn k' w.above)
      (λ e part i u. ⊎_elim (λ b. inl (kept e part i b)) inr u) x.event x.part x.index w.uses;
}

module _ (c : Chart) (g g' : Cells) (k k' : Colouring) (stack : List Cell) (t : Cell) (way : IsUnderWay c g k stack)
    (not_done : IsBlack k t.event t.part t.index → ⊥)
    (other_needs : OthersKept g g' t)
    (other_colours : OthersKept k k' t)
    (black : IsBlack k' t.event t.part t.index) where
  -- the needs of the cells that were done are kept
  pub needs_kept : (e : Event) (part : Part) (i : ℕ) → IsBlack k e part i → g' e part i ≡ g e part i
  needs_kept e part i h =
      ⊎_elim (λ same. absurd (not_done (same_had (IsBlack k) t.event t.part t.index e part i same h))) (λ x. x)
      (other_needs e part i)

  -- what was done stays so
  pub done_kept : (e : Event) (part : Part) (i : ℕ) → IsBlack k e part i → IsBlack k' e part i
  done_kept = black_kept k k' t other_colours black

  -- each cell is done, or still at the ends
  still_else : (e : Event) (part : Part) (i : ℕ) → IsBlack k e part i ⊎ (g e part i ≡ the_ends)
      → IsBlack k' e part i ⊎ (g' e part i ≡ the_ends)
  still_else e part i h =
      ⊎_elim (λ same. inl (same_has (IsBlack k') t.event t.part t.index e part i same black))
      (λ need. ⊎_elim (λ b. inl (done_kept e part i b)) (λ ends. inr (need ∙ ends)) h) (other_needs e part i)

  -- the value of a cell whose looked-up cells are done is final
  pub cell_settled : Uses c (IsBlack k) t.event t.part t.index
      → ((n : Need) → Demands c g t.event t.part t.index n → Covers (g' t.event t.part t.index) n)
      → ((v : Need) → ((n : Need) → Demands c g t.event t.part t.index n → Covers v n)
      → Covers v (g' t.event t.part t.index)) → IsUnderWay c g' k' stack
  cell_settled uses enough least = record {
    done =
        settled c g g' (IsBlack k) (IsBlack k') way.done needs_kept done_kept t.event t.part t.index
        (λ e part i h. ⊎_elim inr (λ x. inl (sym x ∙ h)) (other_colours e part i)) uses enough least;
    others = λ e part i. still_else e part i (way.others e part i);
    stacked = way.stacked;
    roots = λ e part i r. ⊎_elim (λ b. inl (done_kept e part i b)) inr (way.roots e part i r);
    grey = λ x h.
        waits_on c k k' done_kept stack x
        (way.grey x (had_colour k k' t other_colours Grey Black (λ e. no_black_grey _ refl e) black
        x.event x.part x.index h));
  }

-- a cell that was taken off the stack is done
pub taken_settled : (c : Chart) (g g' : Cells) (k k' : Colouring) (s : List Cell) (t : Cell) (need : Need)
    → IsUnderWay c g k (s ++ t ∷ []) → (IsBlack k t.event t.part t.index → ⊥)
    → Uses c (IsBlack k) t.event t.part t.index
    → ((n : Need) → Demands c g t.event t.part t.index n → Covers need n)
    → ((v : Need) → ((n : Need) → Demands c g t.event t.part t.index n → Covers v n) → Covers v need)
    → g' t.event t.part t.index ≡ need
    → OthersKept g g' t
    → IsBlack k' t.event t.part t.index
    → OthersKept k k' t
    → IsUnderWay c g' k' s
taken_settled c g g' k k' s t need way not_done uses enough least value other_needs black other_colours =
    done_left_out c k' (t ∷ [])
    (All-push (λ (x : Cell). IsBlack k' x.event x.part x.index) [] t
    (All-nil (λ (x : Cell). IsBlack k' x.event x.part x.index)) black) g' s
    (cell_settled c g g' k k' (s ++ t ∷ []) t way not_done other_needs other_colours black uses
    (λ n d. subst (λ z. Covers z n) (sym value) (enough n d))
    (λ v h. subst (Covers v) (sym value) (least v h)))

-- ---- a cell begins to wait

-- all that a cell below a root leads on to is below that root
below_root_on : (c : Chart) (t x : Cell) → IsBelowRoot c t.event t.part t.index
    → LeadsOn c t.event t.part t.index x.event x.part x.index → IsBelowRoot c x.event x.part x.index
below_root_on c t x below leads = (
  below.0,
  below.1,
  below.2,
  below.3,
  inl (⊎_elim
      (λ l. leads_on c below.0 below.1 below.2 t.event t.part t.index x.event x.part x.index l leads)
      (λ same. same_has (λ e part i. LeadsOn c e part i x.event x.part x.index) t.event t.part t.index below.0 below.1
      below.2 same leads) below.4),
)

-- a cell leads on to what a cell leads on to that it leads on to
led_on : (c : Chart) (x t y : Cell) → LeadsOn c x.event x.part x.index t.event t.part t.index → IsLedTo c t y
    → IsLedTo c x y
led_on c x t y l h = record {
  within = h.within;
  leads = leads_on c x.event x.part x.index t.event t.part t.index y.event y.part y.index l h.leads;
}

module _ (c : Chart) (g : Cells) (k k' : Colouring) (s : List Cell) (t : Cell) (met : List Cell)
    (way : IsUnderWay c g k (s ++ t ∷ [])) (white : k t.event t.part t.index ≡ White)
    (other_colours : OthersKept k k' t)
    (grey : k' t.event t.part t.index ≡ Grey) (led : All (IsLedTo c t) met)
    (no_grey : All (λ (y : Cell). k' y.event y.part y.index ≡ Grey → ⊥) met)
    (uses : Uses c (IsBlackOrIn k met) t.event t.part t.index) where
  -- the same cells are done
  blacks_stay : (e : Event) (part : Part) (i : ℕ) → IsBlack k e part i → IsBlack k' e part i
  blacks_stay = kept_colour k k' t other_colours Black White (λ e. no_black_white _ refl (sym e)) white

  -- no cell more is done
  blacks_were : (e : Event) (part : Part) (i : ℕ) → IsBlack k' e part i → IsBlack k e part i
  blacks_were = had_colour k k' t other_colours Black Grey (λ e. no_black_grey _ refl (sym e)) grey

  -- grey cells stay grey
  greys_stay : (e : Event) (part : Part) (i : ℕ) → k e part i ≡ Grey → k' e part i ≡ Grey
  greys_stay = kept_colour k k' t other_colours Grey White (λ e. no_grey_white _ refl (sym e)) white

  -- what is known of the cells that are done stays true
  done_as_before : AreDone c g (IsBlack k')
  done_as_before = record {
    closed = λ e part i b.
        uses_map c (IsBlack k) (IsBlack k') blacks_stay e part i (way.done.closed e part i (blacks_were e part i b));
    enough = λ e part i b. way.done.enough e part i (blacks_were e part i b);
    least = λ other good e part i b. way.done.least other good e part i (blacks_were e part i b);
  }

  -- the cell itself waits for what it looked up
  it_waits : IsWaiting c k' ((s ++ t ∷ []) ++ met) t
  it_waits = record {
    below = s;
    above = met;
    place = append_assoc s (t ∷ []) met;
    last = λ m. All-contains (λ (y : Cell). k' y.event y.part y.index ≡ Grey → ⊥) met t no_grey m grey;
    leads = led;
    uses =
        uses_map c (IsBlackOrIn k met) (IsBlackOrIn k' met)
        (λ e part i u. ⊎_elim (λ b. inl (blacks_stay e part i b)) inr u) t.event t.part t.index uses;
  }

  -- those that waited below it lead on to it, so to all that it looked up
  others_wait : (x : Cell) → k x.event x.part x.index ≡ Grey → IsWaiting c k (s ++ t ∷ []) x
      → IsWaiting c k' ((s ++ t ∷ []) ++ met) x
  others_wait x h w =
      ⊎_elim
      (λ b. absurd (no_grey_white _ (subst (λ y. k y.event y.part y.index ≡ Grey) (sym (only_item t x b)) h) white))
      (λ r.
      let to_it : IsLedTo c x t =
      All-contains (IsLedTo c x) w.above t w.leads
      (subst (λ z. Contains z t) (sym r.2) (Contains-push r.0 t)) in
      record {
        below = w.below;
        above = w.above ++ met;
        place =
            ap (λ z. z ++ met) w.place ∙ append_assoc w.below (x ∷ w.above) met;
        last = λ m.
            ⊎_elim w.last
            (λ n. All-contains (λ (y : Cell). k' y.event y.part y.index ≡ Grey → ⊥) met x no_grey n
            (greys_stay x.event x.part x.index h)) (Contains-append_cases w.above met x m);
        leads =
            All-append (IsLedTo c x) w.above met w.leads
            (All-weaker (IsLedTo c t) (IsLedTo c x) (λ y l. led_on c x t y to_it.leads l) met led);
        uses =
            uses_map c (IsBlackOrIn k w.above) (IsBlackOrIn k' (w.above ++ met))
            (λ e part i u.
            ⊎_elim (λ b. inl (blacks_stay e part i b))
            (λ m. inr (Contains-append_left w.above met (cell_at e part i) m)) u) x.event x.part x.index w.uses;
      })
      (cut_cases w.below x w.above s (t ∷ []) (sym w.place))

  -- so the finder goes on with the cells that were met on top
  pub cell_waits : IsUnderWay c g k' ((s ++ t ∷ []) ++ met)
  cell_waits = record {
    done = done_as_before;
    others = λ e part i. ⊎_elim (λ b. inl (blacks_stay e part i b)) inr (way.others e part i);
    stacked =
        All-append (IsToDo c) (s ++ t ∷ []) met way.stacked
        (All-weaker (IsLedTo c t) (IsToDo c)
        (λ x l. record { within = l.within; below = below_root_on c t x its_root.below l.leads }) met led);
    roots = λ e part i r.
        ⊎_elim (λ b. inl (blacks_stay e part i b))
        (λ m. inr (Contains-append_left (s ++ t ∷ []) met (cell_at e part i) m)) (way.roots e part i r);
    grey = λ x h.
        ⊎_elim
        (λ same. subst (IsWaiting c k' ((s ++ t ∷ []) ++ met)) (same_cell x same) it_waits)
        (λ e. others_wait x (sym e ∙ h) (way.grey x (sym e ∙ h)))
        (other_colours x.event x.part x.index);
  }
    where
      its_root : IsToDo c t
      its_root = All-contains (IsToDo c) (s ++ t ∷ []) t way.stacked (Contains-push s t)

      same_cell : (x : Cell) → IsSame t.event t.part t.index x.event x.part x.index → t ≡ x
      same_cell x same =
          subst (λ e. t ≡ cell_at e x.part x.index) (sym same.same_event)
          (subst (λ p. t ≡ cell_at t.event p x.index) (sym same.same_part)
          (subst (λ i. t ≡ cell_at t.event t.part i) (sym same.same_index) refl))
