-- Pieces of work that are evaluated one after another.
use Rattle.std.proofs.Common.{◌≡◌, ◌∙◌, ℕ, zero, suc, ◌+◌, ◌<◌, ◌≤◌, List, []}
use Rattle.std.proofs.Common.{◌∷◌, ◌++◌, length, map, drop, get_or, inl, inr}
use Rattle.std.proofs.Common.{append_assoc, append-nil, refl, sym, ap, subst, arith}
use Rattle.std.specs.Prelude.{Contains, slice_index_or}
use Rattle.std.specs.List.{AllByRecursion}
use Rattle.actions.specs.declared.event.Event.{Event}
use Rattle.bound_prove.specs.declared.cell.Cell.{Cell}
use Rattle.bound_prove.specs.declared.lookup.Lookup.{Lookup}
use Rattle.bound_prove.specs.declared.need.Need.{Need}
use Rattle.bound_prove.specs.declared.need.Part.{Part}
use Rattle.bound_prove.specs.Lookups.{cell_at, cells_in, IsDone, IsMet, IsLedTo}
use Rattle.bound_prove.specs.Lookups.{chart_in, IsKnown, Grows, AreIn, Evaluated}
use Rattle.bound_prove.specs.Needs.{nothing_needed, one_step, in_turn, sent}
use Rattle.bound_prove.proofs.Sums.{IsSum, drop_item, drop_none}

-- ---- lists

-- what all items of two lists have, all items of both together have
pub all_append : {A : Type 0} (P : A → Type 0) (xs ys : List A) → AllByRecursion P xs → AllByRecursion P ys
    → AllByRecursion P (xs ++ ys)
all_append P [] ys a b = b
all_append P (x ∷ xs) ys a b = (a.0, all_append P xs ys a.1 b)

-- an item of a list is one of a longer list
contains_at : {A : Type 0} (xs ys : List A) (x : A) (k : ℕ) → k < length xs → slice_index_or xs k x ≡ x
    → Contains (xs ++ ys) x
contains_at [] ys x k lt e = absurd (omega arith)
contains_at (z ∷ xs) ys x zero lt e = (0, omega arith, e)
contains_at (z ∷ xs) ys x (suc k) lt e =
    let h = contains_at xs ys x k (omega arith) e in (suc h.0, omega (arith, h.1), h.2)

pub contains_left : {A : Type 0} (xs ys : List A) (x : A) → Contains xs x → Contains (xs ++ ys) x
contains_left xs ys x h = contains_at xs ys x h.0 h.1 h.2

-- an item of the second list is one of both together
pub contains_right : {A : Type 0} (xs ys : List A) (x : A) → Contains ys x → Contains (xs ++ ys) x
contains_right [] ys x h = h
contains_right (z ∷ xs) ys x h = let k = contains_right xs ys x h in (suc k.0, omega (arith, k.1), k.2)

-- the last item of a list is one of it
pub contains_last : {A : Type 0} (xs : List A) (x : A) → Contains (xs ++ x ∷ []) x
contains_last [] x = (0, omega arith, refl)
contains_last (y ∷ xs) x = let h = contains_last xs x in (suc h.0, omega (arith, h.1), h.2)

-- the rest of a list, seen by f, begins with the next item
pub rest_seen : {A B : Type 0} (f : A → B) (xs : List A) (i : ℕ) (x : A) → i < length xs → x ≡ get_or xs i x
    → map f (drop i xs) ≡ f x ∷ map f (drop (i + 1) xs)
rest_seen f xs i x lt e = ap (map f) (drop_item xs i x lt e)

-- after the last item nothing is left
pub rest_none : {A B : Type 0} (f : A → B) (xs : List A) (i : ℕ) → length xs ≤ i → map f (drop i xs) ≡ []
rest_none f xs i le = ap (map f) (drop_none xs i le)

-- what all have, the first has
pub first_has : {A : Type 0} (P : A → Type 0) (xs : List A) (x : A) (rest : List A) → xs ≡ x ∷ rest
    → AllByRecursion P xs → P x
first_has P xs x rest e a = (subst (AllByRecursion P) e a).0

-- ---- what is met

module _ (l : Lookup) where
  -- what is met stays
  pub grows_not : (met : List Cell) → Grows l met met
  grows_not met = record { more = []; joined = sym (append-nil met); met = tt }

  -- what is met grows twice
  pub grows_on : (a b d : List Cell) → Grows l a b → Grows l b d → Grows l a d
  grows_on a b d g h = record {
    more = g.more ++ h.more;
    joined = h.joined ∙ ap (λ z. z ++ h.more) g.joined ∙ append_assoc a g.more h.more;
    met = all_append (IsMet l) g.more h.more g.met h.met;
  }

  -- what was met before is met still
  pub still_met : (a b : List Cell) → Grows l a b → AreIn a b
  still_met a b g x h = subst (λ z. Contains z x) (sym g.joined) (contains_left a g.more x h)

  -- a look-up of a cell that is done, and of another one
  pub looked_done : (met : List Cell) (e : Event) (part : Part) (i : ℕ) (v : Need) → v ≡ cells_in l e part i
      → IsDone l e part i → Evaluated l met met v (cells_in l e part i) (λ m. IsKnown l m e part i)
  looked_done met e part i v h done =
      record { value = h; grows = grows_not met; used = λ later g. inl done }

  -- a look-up of a cell that is not done
  pub looked_met : (met after : List Cell) (e : Event) (part : Part) (i : ℕ) (v : Need) → v ≡ cells_in l e part i
      → IsLedTo (chart_in l) l.cell (cell_at e part i) → (IsDone l e part i → ⊥)
      → after ≡ met ++ cell_at e part i ∷ []
      → Evaluated l met after v (cells_in l e part i) (λ m. IsKnown l m e part i)
  looked_met met after e part i v h led undone joined = record {
    value = h;
    grows = record {
      more = cell_at e part i ∷ [];
      joined = joined;
      met = (record { led = led; undone = undone }, tt);
    };
    used = λ later g.
        inr (g (cell_at e part i)
        (subst (λ z. Contains z (cell_at e part i)) (sym joined) (contains_last met (cell_at e part i))));
  }

  -- ---- pieces of work

  -- work that looks nothing up
  pub nothing_looked : (met : List Cell) (v x : Need) (U : List Cell → Type 0) → v ≡ x → ((m : List Cell) → U m)
      → Evaluated l met met v x U
  nothing_looked met v x U h u = record { value = h; grows = grows_not met; used = λ later g. u later }

  -- two pieces in turn
  pub both_evaluated : (a b d : List Cell) (v w n x y : Need) (U V : List Cell → Type 0) → Evaluated l a b v x U
      → Evaluated l b d w y V → n ≡ in_turn v w → Evaluated l a d n (in_turn x y) (λ m. U m × V m)
  both_evaluated a b d v w n x y U V h k e = record {
    value = e ∙ ap (λ z. in_turn z w) h.value ∙ ap (in_turn x) k.value;
    grows = grows_on a b d h.grows k.grows;
    used = λ later g. (h.used later (λ z m. g z (still_met b d k.grows z m)), k.used later g);
  }

  -- three pieces in turn
  pub three_evaluated : (a b d f : List Cell) (v w x r n p q t : Need) (U V W : List Cell → Type 0)
      → Evaluated l a b v p U
      → Evaluated l b d w q V → Evaluated l d f x t W → r ≡ in_turn w x → n ≡ in_turn v r
      → Evaluated l a f n (in_turn p (in_turn q t)) (λ m. U m × V m × W m)
  three_evaluated a b d f v w x r n p q t U V W h k i er en =
      let all =
      both_evaluated a b f v r n p (in_turn q t) U (λ m. V m × W m) h (both_evaluated b d f w x r q t V W k i er) en in
      record { value = all.value; grows = all.grows; used = λ m g. let u = all.used m g in (u.0, u.1.0, u.1.1) }

  -- a step, and then a piece
  pub step_evaluated : (a b : List Cell) (v n x : Need) (U : List Cell → Type 0) → Evaluated l a b v x U
      → n ≡ in_turn one_step v → Evaluated l a b n (in_turn one_step x) U
  step_evaluated a b v n x U h e = record {
    value = e ∙ ap (in_turn one_step) h.value;
    grows = h.grows;
    used = h.used;
  }

  -- a send
  pub sent_evaluated : (a b : List Cell) (v n x : Need) (U : List Cell → Type 0) → Evaluated l a b v x U → n ≡ sent v
      → Evaluated l a b n (sent x) U
  sent_evaluated a b v n x U h e = record { value = e ∙ ap sent h.value; grows = h.grows; used = h.used }

  -- a value by another name
  pub as_evaluated : (a b : List Cell) (v n x y : Need) (U : List Cell → Type 0) → Evaluated l a b v x U → n ≡ v → x ≡ y
      → Evaluated l a b n y U
  as_evaluated a b v n x y U h e f = record { value = e ∙ h.value ∙ f; grows = h.grows; used = h.used }

-- ---- loops

-- Of the items the rest is to be evaluated: what is put together and the rest make the whole, and where the rest is
-- used, all are.
pub record SoFar (l : Lookup) {A : Type 0} (op : Need → Need → Need) (whole : List A → Need)
    (Use : A → List Cell → Type 0) (May : A → Type 0) (before now : List Cell) (xs rest : List A) (acc : Need)
    : Type 0 where
  pub sum : op acc (whole rest) ≡ whole xs
  pub closed : op acc nothing_needed ≡ acc
  pub used : (m : List Cell) → AreIn now m → AllByRecursion (λ x. Use x m) rest → AllByRecursion (λ x. Use x m) xs
  pub may : AllByRecursion May rest
  pub grows : Grows l before now

module _ (l : Lookup) {A : Type 0} (op : Need → Need → Need) (item : A → Need) (whole : List A → Need)
    (Use : A → List Cell → Type 0) (May : A → Type 0) (laws : IsSum op item whole) where
  -- before the first item
  pub loop_begins : (met : List Cell) (xs rest : List A) → xs ≡ rest → AllByRecursion May xs
      → SoFar l op whole Use May met met xs rest nothing_needed
  loop_begins met xs rest e may = record {
    sum = ap (λ z. op nothing_needed (whole z)) (sym e) ∙ laws.first xs;
    closed = laws.empty;
    used = λ m g u. subst (AllByRecursion (λ y. Use y m)) (sym e) u;
    may = subst (AllByRecursion May) e may;
    grows = grows_not l met;
  }

  -- one item more
  pub loop_goes_on : (before now later : List Cell) (xs rest : List A) (x : A) (rest' : List A) (acc v n : Need)
      → SoFar l op whole Use May before now xs rest acc → rest ≡ x ∷ rest' → Evaluated l now later v (item x) (Use x)
      → n ≡ op acc v → SoFar l op whole Use May before later xs rest' n
  loop_goes_on before now later xs rest x rest' acc v n h split own e =
      let n' : n ≡ op acc (item x) = e ∙ ap (op acc) own.value in
      record {
        sum =
            ap (λ z. op z (whole rest')) n' ∙ laws.assoc acc (item x) (whole rest')
            ∙ ap (op acc) (sym (ap whole split ∙ laws.step x rest')) ∙ h.sum;
        closed = ap (λ z. op z nothing_needed) n' ∙ laws.closed acc (item x) ∙ sym n';
        used = λ m g u.
            h.used m (λ z k. g z (still_met l now later own.grows z k))
            (subst (AllByRecursion (λ y. Use y m)) (sym split) (own.used m g, u));
        may = (subst (AllByRecursion May) split h.may).1;
        grows = grows_on l before now later h.grows own.grows;
      }

  -- after the last item
  pub loop_ends : (before now : List Cell) (xs rest : List A) (acc : Need)
      → SoFar l op whole Use May before now xs rest acc → rest ≡ []
      → Evaluated l before now acc (whole xs) (λ m. AllByRecursion (λ x. Use x m) xs)
  loop_ends before now xs rest acc h over = record {
    value = sym h.closed ∙ ap (op acc) (sym (ap whole over ∙ laws.none)) ∙ h.sum;
    grows = h.grows;
    used = λ m g. h.used m g (subst (AllByRecursion (λ y. Use y m)) (sym over) tt);
  }
