-- The stack of a finder, and the cells that are done.
use Rattle.std.proofs.Common.{◌≡◌, ◌∙◌, ℕ, List, [], ◌∷◌, ◌++◌, All, Contains, Option, Some, None, IfNone, arith}
use Rattle.std.proofs.Common.{inl, inr, ⊎_elim, ap, sym, subst, refl}
use Rattle.std.specs.Option.{option_to_list}
use Rattle.std.proofs.lemmas.List.Elements.{All-contains}
use Rattle.std.proofs.lemmas.List.Elements.{Contains-append_left, Contains-append_cases}
use Rattle.std.proofs.lemmas.List.Elements.{Contains-push}
use Rattle.actions.specs.declared.event.Event.{Event}
use Rattle.checked_chart.specs.Chart.{Chart}
use Rattle.bound_prove.specs.declared.cell.Cell.{Cell}
use Rattle.bound_prove.specs.declared.cell.Colour.TheVariants.{Grey}
use Rattle.bound_prove.specs.declared.need.Part.{Part}
use Rattle.bound_prove.specs.Cells.{Cells}
use Rattle.bound_prove.specs.Colourings.{Colouring, IsBlack}
use Rattle.bound_prove.specs.Finding.{LeavesOutDone}
use Rattle.bound_prove.specs.Lookups.{cell_at, IsLedTo, IsBlackOrIn}
use Rattle.bound_prove.specs.Tables.{IsInTable}
use Rattle.bound_prove.specs.Uses.{Uses}
use Rattle.bound_prove.specs.Waiting.{IsWaiting, IsToDo, IsUnderWay}
use Rattle.bound_prove.proofs.ChangeLemmas.{no_black_grey}
use Rattle.bound_prove.proofs.Monotone.{uses_map}
use Rattle.bound_prove.proofs.PlaceLemmas.{cut_cases, front_has, last_follows}

module _ (c : Chart) (k : Colouring) (t : List Cell)
    (black : All (λ (x : Cell). IsBlack k x.event x.part x.index) t) where
  -- a cell among them is done
  still_in_front : (cells : List Cell) (e : Event) (part : Part) (i : ℕ) → IsBlackOrIn k (cells ++ t) e part i
      → IsBlackOrIn k cells e part i
  still_in_front cells e part i h =
      ⊎_elim inl
      (λ m. ⊎_elim inr
      (λ b. inl (All-contains (λ (x : Cell). IsBlack k x.event x.part x.index) t (cell_at e part i) black b))
      (Contains-append_cases cells t (cell_at e part i) m)) h

  -- so the grey cells wait below them
  still_waiting : (s : List Cell) (x : Cell) → k x.event x.part x.index ≡ Grey → IsWaiting c k (s ++ t) x
      → IsWaiting c k s x
  still_waiting s x h w =
      ⊎_elim
      (λ b. absurd (no_black_grey _ (All-contains (λ (y : Cell). IsBlack k y.event y.part y.index) t x black b) h))
      (λ r. record {
        below = w.below;
        above = r.0;
        place = r.1;
        last = λ m. w.last (subst (λ z. Contains z x) (sym r.2) (Contains-append_left r.0 t x m));
        leads = front_has (IsLedTo c x) r.0 t (subst (All (IsLedTo c x)) r.2 w.leads);
        uses =
            uses_map c (IsBlackOrIn k w.above) (IsBlackOrIn k r.0)
            (λ e part i u. still_in_front r.0 e part i (subst (λ z. IsBlackOrIn k z e part i) r.2 u))
            x.event x.part x.index w.uses;
      })
      (cut_cases w.below x w.above s t (sym w.place))

  -- and they can be left out
  pub done_left_out : (g : Cells) (s : List Cell) → IsUnderWay c g k (s ++ t) → IsUnderWay c g k s
  done_left_out g s way = record {
    done = way.done;
    others = way.others;
    stacked = front_has (IsToDo c) s t way.stacked;
    roots = λ e part i r. still_in_front s e part i (way.roots e part i r);
    grey = λ x h. still_waiting s x h (way.grey x h);
  }

-- a stack from which done cells were taken off
pub left_out : (c : Chart) (g : Cells) (k : Colouring) (before after : List Cell) → LeavesOutDone k before after
    → IsUnderWay c g k before → IsUnderWay c g k after
left_out c g k before after l way = done_left_out c k l.out l.black g after (subst (IsUnderWay c g k) l.place way)

-- what is left where no cell is taken
pub none_left : (k : Colouring) (before after : List Cell) (o : Option Cell) → ((x : Cell) → o ≡ Some x → ⊥)
    → IfNone o (after ≡ []) → LeavesOutDone k before (after ++ option_to_list o) → LeavesOutDone k before []
none_left k before after None other empty l =
    record {
      out = l.out;
      place = l.place ∙ ap (λ z. (z ++ []) ++ l.out) empty;
      black = l.black;
    }
none_left k before after (Some x) other empty l = absurd (other x refl)

-- a grey cell on top of the stack looks up done cells alone
pub top_uses_done : (c : Chart) (g : Cells) (k : Colouring) (s : List Cell) (t : Cell) → IsUnderWay c g k (s ++ t ∷ [])
    → k t.event t.part t.index ≡ Grey → Uses c (IsBlack k) t.event t.part t.index
top_uses_done c g k s t way grey =
    let w : IsWaiting c k (s ++ t ∷ []) t = way.grey t grey in
    let none : w.above ≡ [] =
    ⊎_elim (λ e. e) (λ m. absurd (w.last m)) (last_follows w.below t w.above s t (sym w.place)) in
    uses_map c (IsBlackOrIn k w.above) (IsBlack k)
    (λ e part i u.
    ⊎_elim (λ b. b)
    (λ m. let k : Contains [] (cell_at e part i) = subst (λ z. Contains z (cell_at e part i)) none m in
    absurd (omega (arith, k.1))) u) t.event t.part t.index w.uses

-- a cell that met none uses done cells alone
pub none_met : (c : Chart) (k : Colouring) (met : List Cell) (e : Event) (part : Part) (i : ℕ) → met ≡ []
    → Uses c (IsBlackOrIn k met) e part i → Uses c (IsBlack k) e part i
none_met c k met e part i none =
    uses_map c (IsBlackOrIn k met) (IsBlack k)
    (λ x p j u. ⊎_elim (λ b. b)
    (λ m. let m' : Contains [] (cell_at x p j) = subst (λ z. Contains z (cell_at x p j)) none m in
    absurd (omega (arith, m'.1))) u) e part i

-- a cell that was taken off the stack is in the table
pub taken_within : (c : Chart) (g : Cells) (k : Colouring) (s : List Cell) (t : Cell) → IsUnderWay c g k (s ++ t ∷ [])
    → IsInTable c t.event t.part t.index
taken_within c g k s t way =
    let to_do : IsToDo c t = All-contains (IsToDo c) (s ++ t ∷ []) t way.stacked (Contains-push s t) in to_do.within
