-- What a change of one cell keeps.
use Rattle.std.proofs.Common.{◌≡◌, ◌∙◌, ℕ, true, false}
use Rattle.std.proofs.Common.{◌⊎◌, ⊎_elim, sym, subst, refl}
use Rattle.actions.specs.declared.event.Event.{Event}
use Rattle.bound_prove.specs.declared.cell.Cell.{Cell}
use Rattle.bound_prove.specs.declared.cell.Colour.{Colour}
use Rattle.bound_prove.specs.declared.cell.Colour.TheVariants.{White, Grey, Black}
use Rattle.bound_prove.specs.declared.need.Part.{Part}
use Rattle.bound_prove.specs.Colourings.{Colouring, IsBlack}
use Rattle.bound_prove.specs.Searches.{IsSame}
use Rattle.bound_prove.specs.Uses.{OfCells}
use Rattle.bound_prove.specs.Waiting.{is_grey}

-- no other cell has another value
abbrev pub OthersKept : {A : Type 0} → (Event → Part → ℕ → A) → (Event → Part → ℕ → A) → Cell → Type 0
OthersKept f f' t =
    (e : Event) (part : Part) (i : ℕ) → IsSame t.event t.part t.index e part i ⊎ (f' e part i ≡ f e part i)

-- what a cell has, the same cell has
pub same_has : (P : OfCells) (e : Event) (part : Part) (i : ℕ) (e' : Event) (part' : Part) (i' : ℕ)
    → IsSame e part i e' part' i' → P e part i → P e' part' i'
same_has P e part i e' part' i' same h =
    subst (λ x. P x part' i') (sym same.same_event)
    (subst (λ x. P e x i') (sym same.same_part) (subst (P e part) (sym same.same_index) h))

-- the other way round
pub same_had : (P : OfCells) (e : Event) (part : Part) (i : ℕ) (e' : Event) (part' : Part) (i' : ℕ)
    → IsSame e part i e' part' i' → P e' part' i' → P e part i
same_had P e part i e' part' i' same h =
    subst (P e part) same.same_index
    (subst (λ x. P e x i') same.same_part (subst (λ x. P x part' i') same.same_event h))

-- a colour is one alone
pub no_black_grey : (x : Colour) → x ≡ Black → x ≡ Grey → ⊥
no_black_grey x b g = cc

-- black is not white
pub no_black_white : (x : Colour) → x ≡ Black → x ≡ White → ⊥
no_black_white x b w = cc

-- grey is not white
pub no_grey_white : (x : Colour) → x ≡ Grey → x ≡ White → ⊥
no_grey_white x g w = cc

-- a colour that is neither black nor grey
pub is_white : (x : Colour) → (x ≡ Black → ⊥) → (x ≡ Grey → ⊥) → x ≡ White
is_white White b g = refl
is_white Grey b g = absurd (g refl)
is_white Black b g = absurd (b refl)

-- what passes the test for grey is grey
pub from_grey : (x : Colour) → is_grey x ≡ true → x ≡ Grey
from_grey White e = cc
from_grey Grey e = refl
from_grey Black e = cc

-- what fails it is not
pub not_from_grey : (x : Colour) → is_grey x ≡ false → x ≡ Grey → ⊥
not_from_grey White e g = cc
not_from_grey Grey e g = cc
not_from_grey Black e g = cc

-- of a cell and two colourings, which differ in the colour of that cell alone
module _ (k k' : Colouring) (t : Cell) (others : OthersKept k k' t) where
  -- a cell that has another colour than the one cell had has that colour still
  pub kept_colour : (w v : Colour) → (v ≡ w → ⊥) → k t.event t.part t.index ≡ v → (e : Event) (part : Part) (i : ℕ)
      → k e part i ≡ w → k' e part i ≡ w
  kept_colour w v differ had e part i h =
      ⊎_elim
      (λ same. absurd (differ (sym had ∙ same_had (λ e part i. k e part i ≡ w) t.event t.part t.index e part i same h)))
      (λ x. x ∙ h) (others e part i)

  -- and a cell that has another colour than the one cell has had that colour before
  pub had_colour : (w v : Colour) → (v ≡ w → ⊥) → k' t.event t.part t.index ≡ v → (e : Event) (part : Part) (i : ℕ)
      → k' e part i ≡ w → k e part i ≡ w
  had_colour w v differ has e part i h =
      ⊎_elim
      (λ same.
      absurd (differ (sym has ∙ same_had (λ e part i. k' e part i ≡ w) t.event t.part t.index e part i same h)))
      (λ x. sym x ∙ h) (others e part i)

  -- where the one cell becomes black, the black ones stay so
  pub black_kept : k' t.event t.part t.index ≡ Black → (e : Event) (part : Part) (i : ℕ) → IsBlack k e part i
      → IsBlack k' e part i
  black_kept black e part i h =
      ⊎_elim (λ same. same_has (IsBlack k') t.event t.part t.index e part i same black) (λ x. x ∙ h) (others e part i)

-- a cell that waits leaves the needs and the cells that are done as they were
pub wait_keeps : (k k' : Colouring) (t : Cell) → k t.event t.part t.index ≡ White → k' t.event t.part t.index ≡ Grey
    → OthersKept k k' t
    → (e : Event) (part : Part) (i : ℕ) → IsBlack k e part i → IsBlack k' e part i
wait_keeps k k' t white grey others =
    kept_colour k k' t others Black White (λ e. no_black_white _ refl (sym e)) white
