-- Tables of rows: a row for each event, and in each a list for each part.
use Rattle.std.proofs.Common.{◌≡◌, ◌≢◌, ℕ, zero, suc, ◌<◌, List, [], ◌∷◌, ◌++◌, length, Some, None}
use Rattle.std.proofs.Common.{◌⊎◌, inl, inr, refl, sym, ap, subst, arith}
use Rattle.std.specs.Prelude.{slice_get, slice_set, slice_index_or}
use Rattle.actions.specs.declared.event.Event.{Event}
use Rattle.actions.specs.declared.event.Event.TheVariants.{Start, Tick, Named}
use Rattle.active_config.proofs.TableLemmas.{same_or_other}
use Rattle.bound_prove.specs.declared.need.Part.{Part}
use Rattle.bound_prove.specs.declared.need.Part.TheVariants as parts
use Rattle.bound_prove.specs.Searches.{IsSame}
use Rattle.bound_prove.specs.Tables.{event_index}

-- what each item of a list has, and one more item, each of both together has
pub each_pushed : {A : Type 0} (P : A → Type 0) (xs : List A) (x : A)
    → ((n : ℕ) (y : A) → slice_get xs n ≡ Some y → P y) → P x
    → (n : ℕ) (y : A) → slice_get (xs ++ x ∷ []) n ≡ Some y → P y
each_pushed P [] x h p zero y e = let f : x ≡ y = cc in subst P f p
each_pushed P [] x h p (suc n) y e = absurd cc
each_pushed P (z ∷ xs) x h p zero y e = h 0 y e
each_pushed P (z ∷ xs) x h p (suc n) y e = each_pushed P xs x (λ m w f. h (suc m) w f) p n y e

-- a changed item, and the others
pub get_changed : {A : Type 0} (xs : List A) (n : ℕ) (y : A) → n < length xs → slice_get (slice_set xs n y) n ≡ Some y
get_changed [] n y lt = absurd (omega arith)
get_changed (x ∷ xs) zero y lt = refl
get_changed (x ∷ xs) (suc n) y lt = get_changed xs n y (omega arith)

pub get_others : {A : Type 0} (xs : List A) (n m : ℕ) (y : A) → m ≢ n → slice_get (slice_set xs n y) m ≡ slice_get xs m
get_others [] n m y ne = refl
get_others (x ∷ xs) zero zero y ne = absurd (ne refl)
get_others (x ∷ xs) zero (suc m) y ne = refl
get_others (x ∷ xs) (suc n) zero y ne = refl
get_others (x ∷ xs) (suc n) (suc m) y ne = get_others xs n m y (λ e. ne (ap suc e))

-- an item that is there stands at its place
pub get_within : {A : Type 0} (xs : List A) (n : ℕ) (x : A) → slice_get xs n ≡ Some x → n < length xs
get_within [] n x e = absurd cc
get_within (y ∷ xs) zero x e = omega arith
get_within (y ∷ xs) (suc n) x e = let h = get_within xs n x e in omega arith

pub get_there : {A : Type 0} (xs : List A) (n : ℕ) (x : A) → n < length xs → x ≡ slice_index_or xs n x
    → slice_get xs n ≡ Some x
get_there [] n x lt e = absurd (omega arith)
get_there (y ∷ xs) zero x lt e = ap Some (sym e)
get_there (y ∷ xs) (suc n) x lt e = get_there xs n x (omega arith) e

-- an index within a list has an item
pub not_missing : {A : Type 0} (xs : List A) (n : ℕ) → n < length xs → slice_get xs n ≡ None → ⊥
not_missing [] n lt e = absurd (omega arith)
not_missing (x ∷ xs) zero lt e = absurd cc
not_missing (x ∷ xs) (suc n) lt e = not_missing xs n (omega arith) e

-- an index is within a list, or past its end, where the default stands
pub within_or_default : {A : Type 0} (xs : List A) (i : ℕ) (d : A)
    → (i < length xs) ⊎ (slice_index_or xs i d ≡ d)
within_or_default [] i d = inr refl
within_or_default (x ∷ xs) zero d = inl (omega arith)
within_or_default (x ∷ xs) (suc i) d = later (within_or_default xs i d)
  where
    later : (i < length xs) ⊎ (slice_index_or xs i d ≡ d) → (suc i < suc (length xs)) ⊎ (slice_index_or xs i d ≡ d)
    later (inl lt) = inl (omega arith)
    later (inr e) = inr e

-- two parts are the same, or aren't
pub same_part : (p q : Part) → (p ≡ q) ⊎ (p ≢ q)
same_part parts.Junction parts.Junction = inl refl
same_part parts.Junction parts.Exit = inr (λ e. absurd cc)
same_part parts.Junction parts.Enter = inr (λ e. absurd cc)
same_part parts.Junction parts.Process = inr (λ e. absurd cc)
same_part parts.Exit parts.Junction = inr (λ e. absurd cc)
same_part parts.Exit parts.Exit = inl refl
same_part parts.Exit parts.Enter = inr (λ e. absurd cc)
same_part parts.Exit parts.Process = inr (λ e. absurd cc)
same_part parts.Enter parts.Junction = inr (λ e. absurd cc)
same_part parts.Enter parts.Exit = inr (λ e. absurd cc)
same_part parts.Enter parts.Enter = inl refl
same_part parts.Enter parts.Process = inr (λ e. absurd cc)
same_part parts.Process parts.Junction = inr (λ e. absurd cc)
same_part parts.Process parts.Exit = inr (λ e. absurd cc)
same_part parts.Process parts.Enter = inr (λ e. absurd cc)
same_part parts.Process parts.Process = inl refl

-- events of one number are one
pub same_event : (e f : Event) → event_index e ≡ event_index f → e ≡ f
same_event Start Start h = refl
same_event Start Tick h = absurd (omega arith)
same_event Start (Named n) h = absurd (omega arith)
same_event Tick Start h = absurd (omega arith)
same_event Tick Tick h = refl
same_event Tick (Named n) h = absurd (omega arith)
same_event (Named m) Start h = absurd (omega arith)
same_event (Named m) Tick h = absurd (omega arith)
same_event (Named m) (Named n) h = let k : m ≡ n = omega arith in ap Named k

-- a cell is another one, or differs in the number of the event, the part or the index
pub same_cell : (e : Event) (part : Part) (i : ℕ) (e' : Event) (part' : Part) (i' : ℕ)
    → IsSame e part i e' part' i' ⊎ (event_index e' ≡ event_index e → part' ≡ part → i' ≡ i → ⊥)
same_cell e part i e' part' i' = at (same_or_other (event_index e') (event_index e)) (same_part part' part)
    (same_or_other i' i)
  where
    at : (event_index e' ≡ event_index e) ⊎ (event_index e' ≢ event_index e) → (part' ≡ part) ⊎ (part' ≢ part)
        → (i' ≡ i) ⊎ (i' ≢ i)
        → IsSame e part i e' part' i' ⊎ (event_index e' ≡ event_index e → part' ≡ part → i' ≡ i → ⊥)
    at (inr ne) p j = inr (λ a b d. ne a)
    at (inl h) (inr ne) j = inr (λ a b d. ne b)
    at (inl h) (inl p) (inr ne) = inr (λ a b d. ne d)
    at (inl h) (inl p) (inl j) =
        inl (record { same_event = same_event e' e h; same_part = p; same_index = j })
