-- How a walk finds the homes of the firings from a list.
use Rattle.std.proofs.Common.{◌≡◌, ◌≢◌, ◌∙◌, ℕ, zero, suc, ◌+◌, ◌<◌, ◌≤◌}
use Rattle.std.proofs.Common.{◌==◌, List, [], ◌∷◌, ◌++◌, length, map, get_or}
use Rattle.std.proofs.Common.{Bool, true, false, ◌⊎◌, inl, inr, ⊎_elim, refl, sym, ap, subst, arith, length-set}
use Rattle.std.proofs.lemmas.Bool.Decides.{nat_tests}
use Rattle.std.specs.Prelude.{Contains, slice_index, slice_index_or, slice_set}
use Rattle.std.specs.List.{AllByRecursion}
use Rattle.active_config.proofs.TableLemmas.{same_or_other}
use Rattle.actions.specs.declared.event.Event.{Event}
use Rattle.sos_rules.specs.Searches.{event_fits}
use Rattle.checked_chart.specs.declared.parts.Dest.{Dest}
use Rattle.checked_chart.specs.declared.parts.Dest.TheVariants.{State, Junction}
use Rattle.checked_chart.specs.declared.parts.ListKind.{ListKind}
use Rattle.checked_chart.specs.Chart.{Chart, Trans, list_of, junction, junction_count}
use Rattle.checked_chart.specs.Homes.{home_of}
use Rattle.bound_prove.specs.declared.homes.Marks.{Marks}
use Rattle.bound_prove.specs.Homes.{IsFresh, IsMarked, one_if_not, unmarked, IsHome, AreHomes, IsPart}
use Rattle.bound_prove.specs.Homes.{IsToFollow, MayMeet, IsDestMet, IsFollowed, GoesOn}
use Rattle.bound_prove.specs.Reaches.{AtOnce, Through}
use Rattle.bound_prove.proofs.Evaluations.{all_append, contains_left, contains_last}
use Rattle.bound_prove.proofs.Walks.{StaysIn, reaches_within}

-- ---- lists

-- the changed number, and the others
set_here : (xs : List ℕ) (j v : ℕ) → j < length xs → slice_index (slice_set xs j v) j ≡ v
set_here [] j v lt = absurd (omega arith)
set_here (x ∷ xs) zero v lt = refl
set_here (x ∷ xs) (suc j) v lt = set_here xs j v (omega arith)

-- the others
set_there : (xs : List ℕ) (j k v : ℕ) → k ≢ j → slice_index (slice_set xs j v) k ≡ slice_index xs k
set_there [] j k v ne = refl
set_there (x ∷ xs) zero zero v ne = absurd (ne refl)
set_there (x ∷ xs) zero (suc k) v ne = refl
set_there (x ∷ xs) (suc j) zero v ne = refl
set_there (x ∷ xs) (suc j) (suc k) v ne = set_there xs j k v (λ e. ne (ap suc e))

-- a number is itself, and no other one
eq_self : (n : ℕ) → (n == n) ≡ true
eq_self n = grind (arith, nat_tests)

-- and no other one
eq_other : (m n : ℕ) → m ≢ n → (m == n) ≡ false
eq_other m n ne = at (m == n) refl
  where
    at : (b : Bool) → (m == n) ≡ b → (m == n) ≡ false
    at false e = e
    at true e = let h : m ≡ n = grind (arith, nat_tests) in absurd (ne h)

-- one junction less is without the mark
fewer : (stamp : ℕ) (xs : List ℕ) (j : ℕ) → j < length xs → slice_index xs j ≢ stamp
    → suc (unmarked stamp (slice_set xs j stamp)) ≡ unmarked stamp xs
fewer stamp [] j lt ne = absurd (omega arith)
fewer stamp (x ∷ xs) zero lt ne =
    let a : one_if_not (stamp == stamp) ≡ 0 = ap one_if_not (eq_self stamp) in
    let b : one_if_not (x == stamp) ≡ 1 = ap one_if_not (eq_other x stamp ne) in
    omega (arith, a, b)
fewer stamp (x ∷ xs) (suc j) lt ne = let h = fewer stamp xs j (omega arith) ne in omega (arith, h)

-- one item more
pub pushed_length : (xs : List ℕ) (y : ℕ) → length (xs ++ y ∷ []) ≡ length xs + 1
pushed_length [] y = refl
pushed_length (x ∷ xs) y = let h = pushed_length xs y in omega (arith, h)

-- what all have, each that is contained has
has_at : {A : Type 0} (P : A → Type 0) (xs : List A) (x : A) (k : ℕ) → k < length xs → slice_index_or xs k x ≡ x
    → AllByRecursion P xs → P x
has_at P [] x k lt e a = absurd (omega arith)
has_at P (y ∷ xs) x zero lt e a = subst P e a.0
has_at P (y ∷ xs) x (suc k) lt e a = has_at P xs x k (omega arith) e a.1

pub contains_has : {A : Type 0} (P : A → Type 0) (xs : List A) (x : A) → Contains xs x → AllByRecursion P xs → P x
contains_has P xs x h a = has_at P xs x h.0 h.1 h.2 a

-- an item of a list, seen by f
pub contains_seen : {A B : Type 0} (f : A → B) (xs : List A) (i : ℕ) (x : A) → i < length xs → x ≡ get_or xs i x
    → Contains (map f xs) (f x)
contains_seen f [] i x lt e = absurd (omega arith)
contains_seen f (y ∷ xs) zero x lt e = (0, omega arith, ap f (sym e))
contains_seen f (y ∷ xs) (suc i) x lt e =
    let h = contains_seen f xs i x (omega arith) e in (suc h.0, omega (arith, h.1), h.2)

-- the last item, or one of the others
last_or_before : {A : Type 0} (xs : List A) (y x : A) (k : ℕ) → k < length (xs ++ y ∷ [])
    → slice_index_or (xs ++ y ∷ []) k x ≡ x → Contains xs x ⊎ (y ≡ x)
last_or_before [] y x zero lt e = inr e
last_or_before [] y x (suc k) lt e = absurd (omega arith)
last_or_before (z ∷ xs) y x zero lt e = inl (0, omega arith, e)
last_or_before (z ∷ xs) y x (suc k) lt e = later (last_or_before xs y x k (omega arith) e)
  where
    later : Contains xs x ⊎ (y ≡ x) → Contains (z ∷ xs) x ⊎ (y ≡ x)
    later (inl h) = inl (suc h.0, omega (arith, h.1), h.2)
    later (inr f) = inr f

pub contains_pushed : {A : Type 0} (xs : List A) (y x : A) → Contains (xs ++ y ∷ []) x → Contains xs x ⊎ (y ≡ x)
contains_pushed xs y x h = last_or_before xs y x h.0 h.1 h.2

-- all but the last
all_but_last : {A : Type 0} (P : A → Type 0) (xs : List A) (y : A) → AllByRecursion P (xs ++ y ∷ [])
    → AllByRecursion P xs × P y
all_but_last P [] y a = (tt, a.0)
all_but_last P (x ∷ xs) y a = let h = all_but_last P xs y a.1 in ((a.0, h.0), h.1)

-- an empty list contains nothing
pub contains_none_of : {A : Type 0} (xs : List A) (x : A) → xs ≡ [] → Contains xs x → ⊥
contains_none_of xs x e h = let n = ap length e in let lt = h.1 in absurd (omega arith)

-- a list of no items is empty
pub popped_none : (xs : List ℕ) → length xs ≡ 0 → xs ≡ []
popped_none [] e = refl
popped_none (x ∷ xs) e = absurd (omega (arith, e))

-- a number of a list, read by two defaults
pub read_is : (xs : List ℕ) (i : ℕ) → i < length xs → get_or xs i 0 ≡ get_or xs i (get_or xs i 0)
read_is [] i lt = absurd (omega arith)
read_is (x ∷ xs) zero lt = refl
read_is (x ∷ xs) (suc i) lt = read_is xs i (omega arith)

-- what an index reads
pub index_is : (xs : List ℕ) (j x : ℕ) → j < length xs → x ≡ get_or xs j x → x ≡ slice_index xs j
index_is [] j x lt e = absurd (omega arith)
index_is (y ∷ xs) zero x lt e = e
index_is (y ∷ xs) (suc j) x lt e = index_is xs j x (omega arith) e

-- ---- a walk goes on

module _ (c : Chart) (e : Event) (s : ℕ) (kind : ListKind) where
  -- nothing was met
  pub unchanged : (m : Marks) → GoesOn c e s kind m m
  unchanged m = record {
    stamp = refl;
    sized = refl;
    below = λ h. h;
    marked = λ j h. h;
    newly = λ j h. inl h;
    todo = λ j h. h;
    homes = λ x h. h;
    todo_right = λ a. a;
    homes_right = λ a. a;
    left = refl;
  }

  -- a walk goes on twice
  pub goes_further : (a b d : Marks) → GoesOn c e s kind a b → GoesOn c e s kind b d → GoesOn c e s kind a d
  goes_further a b d g h = record {
    stamp = h.stamp ∙ g.stamp;
    sized = h.sized ∙ g.sized;
    below = λ x. h.below (g.below x);
    marked = λ j x. h.marked j (g.marked j x);
    newly = λ j x.
        ⊎_elim (λ y. ⊎_elim (λ z. inl z) (λ z. inr (h.todo j z)) (g.newly j y)) (λ y. inr y) (h.newly j x);
    todo = λ j x. h.todo j (g.todo j x);
    homes = λ y x. h.homes y (g.homes y x);
    todo_right = λ x. h.todo_right (g.todo_right x);
    homes_right = λ x. h.homes_right (g.homes_right x);
    left = h.left ∙ g.left;
  }

  -- a junction gets the mark
  module _ (old new : Marks) (j : ℕ) (lt : j < length old.walks.items) (ne : slice_index old.walks.items j ≢ old.stamp)
      (walks : new.walks.items ≡ slice_set old.walks.items j old.stamp) (stamp : new.stamp ≡ old.stamp) where
    -- the junction has the mark
    here : slice_index new.walks.items j ≡ old.stamp
    here = ap (λ z. slice_index z j) walks ∙ set_here old.walks.items j old.stamp lt

    -- the others keep theirs
    there : (k : ℕ) → k ≢ j → slice_index new.walks.items k ≡ slice_index old.walks.items k
    there k other = ap (λ z. slice_index z k) walks ∙ set_there old.walks.items j k old.stamp other

    -- so it is of each number that is that of the junction
    here_at : (k : ℕ) → k ≡ j → slice_index new.walks.items k ≡ old.stamp
    here_at k same = ap (slice_index new.walks.items) same ∙ here

    -- the junction is marked
    pub now_marked : IsMarked new j
    now_marked = here ∙ sym stamp

    -- and the walk goes on
    pub marks_junction : IsToFollow c e s kind j → new.todo.items ≡ old.todo.items ++ j ∷ []
        → new.homes.items ≡ old.homes.items → GoesOn c e s kind old new
    marks_junction right todo homes = record {
      stamp = stamp;
      sized = ap length walks ∙ length-set old.walks.items j old.stamp;
      below = λ h k.
          ⊎_elim (λ same. let a = here_at k same in omega (arith, a, stamp))
          (λ other. let a = there k other in let b = h k in omega (arith, a, b, stamp)) (same_or_other k j);
      marked = λ k h.
          ⊎_elim (λ same. here_at k same ∙ sym stamp) (λ other. there k other ∙ h ∙ sym stamp) (same_or_other k j);
      newly = λ k h.
          ⊎_elim
          (λ same. inr (subst (λ z. Contains z k) (sym todo)
          (subst (λ z. Contains (old.todo.items ++ j ∷ []) z) (sym same) (contains_last old.todo.items j))))
          (λ other. inl (sym (there k other) ∙ h ∙ stamp)) (same_or_other k j);
      todo = λ k h. subst (λ z. Contains z k) (sym todo) (contains_left old.todo.items (j ∷ []) k h);
      homes = λ k h. subst (λ z. Contains z k) (sym homes) h;
      todo_right = λ a.
          subst (AllByRecursion (IsToFollow c e s kind)) (sym todo)
          (all_append (IsToFollow c e s kind) old.todo.items (j ∷ []) a (right, tt));
      homes_right = λ a. subst (AllByRecursion (IsHome c e s kind)) (sym homes) a;
      left =
          let a : unmarked new.stamp new.walks.items ≡ unmarked old.stamp (slice_set old.walks.items j old.stamp) =
          ap (λ z. unmarked z new.walks.items) stamp ∙ ap (unmarked old.stamp) walks in
          let b = fewer old.stamp old.walks.items j lt ne in
          let d : length new.todo.items ≡ length old.todo.items + 1 = ap length todo ∙ pushed_length old.todo.items j in
          omega (arith, a, b, d);
    }

  -- a home is noted
  pub notes_home : (old new : Marks) (h : ℕ) → IsHome c e s kind h → new.walks.items ≡ old.walks.items
      → new.stamp ≡ old.stamp → new.todo.items ≡ old.todo.items → new.homes.items ≡ old.homes.items ++ h ∷ []
      → GoesOn c e s kind old new
  notes_home old new h right walks stamp todo homes = record {
    stamp = stamp;
    sized = ap length walks;
    below = λ x k. let a = ap (λ z. slice_index z k) walks in let b = x k in omega (arith, a, b, stamp);
    marked = λ k x. ap (λ z. slice_index z k) walks ∙ x ∙ sym stamp;
    newly = λ k x. inl (sym (ap (λ z. slice_index z k) walks) ∙ x ∙ stamp);
    todo = λ k x. subst (λ z. Contains z k) (sym todo) x;
    homes = λ k x. subst (λ z. Contains z k) (sym homes) (contains_left old.homes.items (h ∷ []) k x);
    todo_right = λ a. subst (AllByRecursion (IsToFollow c e s kind)) (sym todo) a;
    homes_right = λ a.
        subst (AllByRecursion (IsHome c e s kind)) (sym homes)
        (all_append (IsHome c e s kind) old.homes.items (h ∷ []) a (right, tt));
    left =
        let a : unmarked new.stamp new.walks.items ≡ unmarked old.stamp old.walks.items =
        ap (λ z. unmarked z new.walks.items) stamp ∙ ap (unmarked old.stamp) walks in
        let b = ap length todo in
        omega (arith, a, b);
  }

  -- ---- transitions

  -- what the list of the state reaches by a transition of a part of it
  pub part_may : (list : List Trans) (t : Trans) → IsPart c e s kind list → Contains list t
      → event_fits t.event e ≡ true → MayMeet c e s kind t.dest
  part_may list t part within fits = at t.dest refl
    where
      at : (d : Dest) → t.dest ≡ d → MayMeet c e s kind d
      at (State d) is = part d (AtOnce list d (record { trans = t; within = within; fits = fits; leads = is }))
      at (Junction j) is = λ d r.
          part d (Through list j d (record { trans = t; within = within; fits = fits; leads = is }) r)

  -- what is met is met still
  dest_still : (a b : Marks) (d : Dest) → GoesOn c e s kind a b → IsDestMet c e s kind a d → IsDestMet c e s kind b d
  dest_still a b (State d) g h = g.homes (home_of c.tree s kind d) h
  dest_still a b (Junction j) g h = g.marked j h

  -- what was followed was followed still
  pub followed_still : (a b : Marks) (t : Trans) → GoesOn c e s kind a b → IsFollowed c e s kind a t
      → IsFollowed c e s kind b t
  followed_still a b t g h fits = dest_still a b t.dest g (h fits)

  -- The transitions before the rest of a list are followed: where the rest is, all are.
  pub record FollowedSoFar (old now : Marks) (list rest : List Trans) : Type 0 where
    pub goes_on : GoesOn c e s kind old now
    pub followed : (later : Marks) → GoesOn c e s kind now later → AllByRecursion (IsFollowed c e s kind later) rest
        → AllByRecursion (IsFollowed c e s kind later) list

  -- before the first transition
  pub follow_begins : (m : Marks) (list : List Trans) → FollowedSoFar m m list list
  follow_begins m list = record { goes_on = unchanged m; followed = λ later g h. h }

  -- one transition more
  pub follow_goes_on : (old now next : Marks) (list rest : List Trans) (t : Trans) (rest' : List Trans)
      → FollowedSoFar old now list rest → rest ≡ t ∷ rest' → GoesOn c e s kind now next → IsFollowed c e s kind next t
      → FollowedSoFar old next list rest'
  follow_goes_on old now next list rest t rest' h split g f = record {
    goes_on = goes_further old now next h.goes_on g;
    followed = λ later k x.
        h.followed later (goes_further now next later g k)
        (subst (AllByRecursion (IsFollowed c e s kind later)) (sym split) (followed_still next later t k f, x));
  }

  -- after the last transition
  pub follow_ends : (old now : Marks) (list rest : List Trans) → FollowedSoFar old now list rest → rest ≡ []
      → AllByRecursion (IsFollowed c e s kind now) list
  follow_ends old now list rest h over =
      h.followed now (unchanged now) (subst (AllByRecursion (IsFollowed c e s kind now)) (sym over) tt)

  -- ---- the whole walk

  -- each marked junction is to be followed, or its list was
  pub record IsUnderWay (m : Marks) : Type 0 where
    pub sized : length m.walks.items ≡ junction_count c
    pub below : (j : ℕ) → slice_index m.walks.items j ≤ m.stamp
    pub todo : AllByRecursion (IsToFollow c e s kind) m.todo.items
    pub homes : AllByRecursion (IsHome c e s kind) m.homes.items
    pub root : AllByRecursion (IsFollowed c e s kind m) (list_of c s kind)
    pub seen : (j : ℕ) → IsMarked m j
        → Contains m.todo.items j ⊎ AllByRecursion (IsFollowed c e s kind m) (junction c j)

  -- the list of the state was followed
  pub walk_begins : (old m : Marks) → IsFresh c old → GoesOn c e s kind old m
      → AllByRecursion (IsFollowed c e s kind m) (list_of c s kind) → IsUnderWay m
  walk_begins old m fresh g root = record {
    sized = g.sized ∙ fresh.sized;
    below = g.below (λ j. let h = fresh.below j in omega (arith, h));
    todo = g.todo_right (subst (AllByRecursion (IsToFollow c e s kind)) (sym fresh.todo) tt);
    homes = g.homes_right (subst (AllByRecursion (IsHome c e s kind)) (sym fresh.homes) tt);
    root = root;
    seen = λ j h.
        ⊎_elim (λ was. let lt = fresh.below j in absurd (omega (arith, lt, was))) (λ x. inl x) (g.newly j h);
  }

  -- one junction is taken, and its list is followed
  pub walk_goes_on : (m popped next : Marks) (j : ℕ) → IsUnderWay m → m.todo.items ≡ popped.todo.items ++ j ∷ []
      → m.walks.items ≡ popped.walks.items → m.stamp ≡ popped.stamp → m.homes.items ≡ popped.homes.items
      → GoesOn c e s kind popped next → AllByRecursion (IsFollowed c e s kind next) (junction c j) → IsUnderWay next
  walk_goes_on m popped next j h todo walks stamp homes g own = record {
    sized = g.sized ∙ ap length (sym walks) ∙ h.sized;
    below = g.below (λ k. let a = ap (λ z. slice_index z k) walks in let b = h.below k in omega (arith, a, b, stamp));
    todo =
        g.todo_right (all_but_last (IsToFollow c e s kind) popped.todo.items j
        (subst (AllByRecursion (IsToFollow c e s kind)) todo h.todo)).0;
    homes = g.homes_right (subst (AllByRecursion (IsHome c e s kind)) homes h.homes);
    root = further (list_of c s kind) h.root;
    seen = λ k x. ⊎_elim (λ was. old k (ap (λ z. slice_index z k) walks ∙ was ∙ sym stamp)) (λ y. inl y) (g.newly k x);
  }
    where
      dest_further : (d : Dest) → IsDestMet c e s kind m d → IsDestMet c e s kind next d
      dest_further (State d) x =
          g.homes (home_of c.tree s kind d) (subst (λ z. Contains z (home_of c.tree s kind d)) homes x)
      dest_further (Junction k) x = g.marked k (sym (ap (λ z. slice_index z k) walks) ∙ x ∙ stamp)

      further : (list : List Trans) → AllByRecursion (IsFollowed c e s kind m) list
          → AllByRecursion (IsFollowed c e s kind next) list
      further [] x = tt
      further (t ∷ list) x = (λ fits. dest_further t.dest (x.0 fits), further list x.1)

      old : (k : ℕ) → IsMarked m k
          → Contains next.todo.items k ⊎ AllByRecursion (IsFollowed c e s kind next) (junction c k)
      old k x =
          ⊎_elim
          (λ there. ⊎_elim (λ rest. inl (g.todo k rest))
          (λ same. inr (subst (λ z. AllByRecursion (IsFollowed c e s kind next) (junction c z)) same own))
          (contains_pushed popped.todo.items j k (subst (λ z. Contains z k) todo there)))
          (λ done. inr (further (junction c k) done)) (h.seen k x)

  -- less is left
  pub pop_falls : (m popped next : Marks) (j : ℕ) → m.todo.items ≡ popped.todo.items ++ j ∷ []
      → m.walks.items ≡ popped.walks.items → m.stamp ≡ popped.stamp → GoesOn c e s kind popped next
      → length next.todo.items + unmarked next.stamp next.walks.items
      < length m.todo.items + unmarked m.stamp m.walks.items
  pop_falls m popped next j todo walks stamp g =
      let a = g.left in
      let b : length m.todo.items ≡ length popped.todo.items + 1 =
      ap length todo ∙ pushed_length popped.todo.items j in
      let d : unmarked m.stamp m.walks.items ≡ unmarked popped.stamp popped.walks.items =
      ap (λ z. unmarked z m.walks.items) stamp ∙ ap (unmarked popped.stamp) walks in
      omega (arith, a, b, d)

  -- a list that was followed stays with what is met
  stays : (m : Marks) (list : List Trans) → AllByRecursion (IsFollowed c e s kind m) list
      → StaysIn c e (IsMarked m) (λ d. Contains m.homes.items (home_of c.tree s kind d)) list
  stays m list h = record {
    junctions = λ j x.
        subst (IsDestMet c e s kind m) x.leads (contains_has (IsFollowed c e s kind m) list x.trans x.within h x.fits);
    states = λ d x.
        subst (IsDestMet c e s kind m) x.leads (contains_has (IsFollowed c e s kind m) list x.trans x.within h x.fits);
  }

  -- all homes are found
  pub walk_ends : (m : Marks) → IsUnderWay m → m.todo.items ≡ [] → AreHomes c e s kind m.homes.items
  walk_ends m h over = record {
    right = h.homes;
    all = λ d r.
        reaches_within c e (IsMarked m) (λ x. Contains m.homes.items (home_of c.tree s kind x))
        (λ j x. stays m (junction c j)
        (⊎_elim (λ there. absurd (contains_none_of m.todo.items j over there)) (λ done. done) (h.seen j x)))
        (list_of c s kind) d r (stays m (list_of c s kind) h.root);
  }

  -- the next junction is one of the chart, and its list a part
  pub next_junction : (m : Marks) (rest : List ℕ) (j : ℕ) → IsUnderWay m → m.todo.items ≡ rest ++ j ∷ []
      → IsToFollow c e s kind j
  next_junction m rest j h todo =
      (all_but_last (IsToFollow c e s kind) rest j (subst (AllByRecursion (IsToFollow c e s kind)) todo h.todo)).1
