-- Marking the junctions that are reached from a list.
use Rattle.std.proofs.Common.{◌≡◌, ◌≢◌, ℕ, zero, suc, ◌+◌, ◌≤◌, ◌<◌, List, [], ◌∷◌, ◌++◌, length, get_or, set, Some}
use Rattle.std.proofs.Common.{None, Bool, true, false, refl, sym, ap, ◌∙◌, subst, arith, ⊎_elim, cond}
use Rattle.std.specs.Prelude.{◌==◌, min, slice_get}
use Rattle.std.proofs.lemmas.Bool.{cases_lt, cases_eq}
use Rattle.std.proofs.lemmas.Bool.Decides.{nat_tests}
use Rattle.std.proofs.lemmas.List.{get_or-set_same, get_or-set_other, length-set, length-append}
use Rattle.std.proofs.Math.ListN.{get_or-append, get_or-eq_default}
use Rattle.std.proofs.Math.Seq.{get_or-append_seam}
use Rattle.std.proofs.lemmas.Option.{slice_get-get_or}
use Rattle.checked_chart.specs.declared.parts.Dest.TheVariants.{State, Junction}
use Rattle.checked_chart.specs.Reached.{Reached, Directly, Through, LeadsTo, weight}
use Rattle.chart_structure.specs.declared.net.Arrow.{Arrow}
use Rattle.chart_structure.specs.Net.{Net, junction_count, junction_list, Has, IsDest}
use Rattle.chart_structure.specs.Reached.{links_of}
use Rattle.chart_structure.specs.Marks.{has_mark, IsIn, greatest_count, IsWalk, Grows, Marked}
use Rattle.chart_structure.proofs.WeightLemmas.{weight_more, weight_ones}
use Rattle.chart_structure.proofs.LinkLemmas.{contains_at, stands_at}

same_test : (a b : ℕ) → a ≡ b → (a == b) ≡ true
same_test a b e = grind (arith, nat_tests)

other_test : (a b : ℕ) → a ≢ b → (a == b) ≡ false
other_test a b ne = grind (arith, nat_tests)

pub same_of : (a b : ℕ) → (a == b) ≡ true → a ≡ b
same_of a b e = grind (arith, nat_tests)

pub marked_here : (marks : List ℕ) (mark j : ℕ) → j < length marks → has_mark (set marks j mark) mark j ≡ true
marked_here marks mark j lt = same_test _ _ (get_or-set_same marks j mark 0 lt)

pub marked_other : (marks : List ℕ) (mark j i : ℕ) → i ≢ j → has_mark (set marks j mark) mark i ≡ has_mark marks mark i
marked_other marks mark j i ne = ap (λ x. x == mark) (get_or-set_other marks j i mark 0 ne)

-- a mark that was there stays
pub marked_still : (marks : List ℕ) (mark j i : ℕ) → j < length marks → has_mark marks mark i ≡ true
    → has_mark (set marks j mark) mark i ≡ true
marked_still marks mark j i lt h =
    ⊎_elim (λ e. subst (λ k. has_mark (set marks j mark) mark k ≡ true) (sym e) (marked_here marks mark j lt))
    (λ ne. marked_other marks mark j i ne ∙ h) (cases_eq i j)

-- what has the new marks had the mark, or is the one marked
marked_cases : (marks : List ℕ) (mark j i : ℕ) (P : Type 0) → (i ≡ j → P) → (has_mark marks mark i ≡ true → P)
    → has_mark (set marks j mark) mark i ≡ true → P
marked_cases marks mark j i P f g h = ⊎_elim f (λ ne. g (sym (marked_other marks mark j i ne) ∙ h)) (cases_eq i j)

-- the last number of a list is in it
last_in : (xs : List ℕ) (j : ℕ) → IsIn (xs ++ j ∷ []) j
last_in xs j = (length xs, omega (arith, length-append xs (j ∷ [])), get_or-append_seam xs j [] 0)

-- what is in a list stays in a longer one
still_in : (xs : List ℕ) (j i : ℕ) → IsIn xs i → IsIn (xs ++ j ∷ []) i
still_in xs j i h = (h.0, omega (arith, length-append xs (j ∷ []), h.1), get_or-append xs (j ∷ []) 0 h.0 h.1 ∙ h.2)

-- one junction more
pub grows_by_one : (mark : ℕ) (marks found : List ℕ) (j : ℕ) → j < length marks
    → Grows mark marks (set marks j mark) found (found ++ j ∷ [])
grows_by_one mark marks found j lt = record {
  kept = λ i h. marked_still marks mark j i lt h;
  grown = omega (arith, length-append found (j ∷ []));
  same = λ i h. get_or-append found (j ∷ []) 0 i h;
}

pub grows_none : (mark : ℕ) (marks found : List ℕ) → Grows mark marks marks found found
grows_none mark marks found = record { kept = λ i h. h; grown = omega arith; same = λ i h. refl }

-- one growth after another is one
pub grows_then : (mark : ℕ) (a b c x y z : List ℕ) → Grows mark a b x y → Grows mark b c y z → Grows mark a c x z
grows_then mark a b c x y z g h = record {
  kept = λ i m. h.kept i (g.kept i m);
  grown = omega (arith, g.grown, h.grown);
  same = λ i lt. h.same i (omega (arith, g.grown)) ∙ g.same i lt;
}

module _ (n : Net) (root : List Arrow) (mark : ℕ) (marks found : List ℕ) (pairs j : ℕ) where
  -- a walk with one junction more, which is reached and has no mark yet
  pub walk_more : IsWalk n root mark marks found pairs → Reached (links_of n) root j → j < junction_count n
      → get_or marks j 0 ≢ mark
      → IsWalk n root mark (set marks j mark) (found ++ j ∷ [])
      (min (pairs + length (junction_list n j)) greatest_count)
  walk_more w r lt ne =
      let inside : j < length marks = omega (arith, w.sized) in
      let off : has_mark marks mark j ≡ false = other_test _ _ ne in
      let on = marked_here marks mark j inside in
      let one = weight_more (has_mark marks mark) (has_mark (set marks j mark) mark) (λ _. 1) (junction_count n) j
      lt off on (marked_other marks mark j) in
      let more = weight_more (has_mark marks mark) (has_mark (set marks j mark) mark)
      (λ j. length (junction_list n j)) (junction_count n) j lt off on (marked_other marks mark j) in
      record {
        sized = length-set marks j mark ∙ w.sized;
        below =
            λ i. ⊎_elim
            (λ e. omega (arith, ap (λ k. get_or (set marks j mark) k 0) e, get_or-set_same marks j mark 0 inside))
            (λ ne. omega (arith, get_or-set_other marks j i mark 0 ne, w.below i)) (cases_eq i j);
        listed = λ i h. ⊎_elim
            (λ old. subst (λ k. has_mark (set marks j mark) mark k ≡ true)
            (sym (get_or-append found (j ∷ []) 0 i old))
            (marked_still marks mark j (get_or found i 0) inside (w.listed i old)))
            (λ new. let e : i ≡ length found = omega (arith, length-append found (j ∷ [])) in
            subst (λ k. has_mark (set marks j mark) mark k ≡ true)
            (sym (ap (λ m. get_or (found ++ j ∷ []) m 0) e ∙ get_or-append_seam found j [] 0)) on)
            (cases_lt i (length found));
        all =
            λ i h. marked_cases marks mark j i (IsIn (found ++ j ∷ []) i)
            (λ e. subst (IsIn (found ++ j ∷ [])) (sym e) (last_in found j))
            (λ old. still_in found j i (w.all i old)) h;
        sound =
            λ i h. marked_cases marks mark j i (Reached (links_of n) root i)
            (λ e. subst (Reached (links_of n) root) (sym e) r)
            (λ old. w.sound i old) h;
        count = omega (arith, length-append found (j ∷ []), w.count, one);
        total = omega (arith, w.total, more);
      }

  pub walk_more_at : (more longer : List ℕ) (count : ℕ) (list : List Arrow) → IsWalk n root mark marks found pairs
      → Reached (links_of n) root j → j < junction_count n → get_or marks j 0 ≢ mark
      → more ≡ set marks j mark → longer ≡ found ++ j ∷ [] → list ≡ junction_list n j
      → count ≡ min (pairs + length list) greatest_count → IsWalk n root mark more longer count
  walk_more_at more longer count list w r lt ne e f g h =
      let k : count ≡ min (pairs + length (junction_list n j)) greatest_count =
      h ∙ ap (λ (l : List Arrow). min (pairs + length l) greatest_count) g in
      subst (λ m. IsWalk n root mark m longer count) (sym e)
      (subst (λ l. IsWalk n root mark (set marks j mark) l count) (sym f)
      (subst (IsWalk n root mark (set marks j mark) (found ++ j ∷ [])) (sym k) (walk_more w r lt ne)))

-- ---- the transitions of one list

-- what is known when the first i transitions of a list were followed
pub record FollowsSoFar (n : Net) (list : List Arrow) (mark i : ℕ) (marks more found longer : List ℕ)
    (pairs count : ℕ) : Type 0 where
  pub sized : length more ≡ junction_count n
  pub walk : (root : List Arrow) → IsWalk n root mark marks found pairs
      → ((j : ℕ) → LeadsTo (links_of n) list j → Reached (links_of n) root j) → IsWalk n root mark more longer count
  pub grows : Grows mark marks more found longer
  pub marked : (k j : ℕ) (a : Arrow) → k < i → slice_get list k ≡ Some a → a.to ≡ Junction j
      → has_mark more mark j ≡ true

-- the junction of a transition is there
pub dest_within : (n : Net) (list : List Arrow) (i j : ℕ) (d : Arrow) → ((a : Arrow) → Has list a → IsDest n a.to)
    → i < length list → (get_or list i d).to ≡ Junction j → j < junction_count n
dest_within n list i j d h lt e = subst (IsDest n) e (h (get_or list i d) (i, slice_get-get_or list i d lt))

-- within a list the default doesn't count
pub at_zero : (xs : List ℕ) (i x : ℕ) → i < length xs → x ≡ get_or xs i x → x ≡ get_or xs i 0
at_zero xs i x lt e = let f = slice_get-get_or xs i x lt in let g = slice_get-get_or xs i 0 lt in cc

-- a transition that is read at a place is the one that stands there
same_arrow : (list : List Arrow) (i k : ℕ) (d a : Arrow) → i < length list → k ≡ i → slice_get list k ≡ Some a
    → get_or list i d ≡ a
same_arrow list i k d a lt e h =
    let f = slice_get-get_or list i d lt in
    let g : slice_get list i ≡ slice_get list k = ap (slice_get list) (sym e) in cc

module _ (n : Net) (list : List Arrow) (mark i : ℕ) (marks more found longer : List ℕ) (pairs count : ℕ)
    (d : Arrow) where
  -- a transition to a state marks nothing
  pub follows_state : (s : ℕ) → FollowsSoFar n list mark i marks more found longer pairs count → i < length list
      → (get_or list i d).to ≡ State s
      → FollowsSoFar n list mark (i + 1) marks more found longer pairs count
  follows_state s f lt e = record {
    sized = f.sized;
    walk = f.walk;
    grows = f.grows;
    marked = λ k j a h g t. ⊎_elim (λ old. f.marked k j a old g t)
        (λ new. absurd (let x = same_arrow list i k d a lt (omega arith) g in
        let y = ap (λ (b : Arrow). b.to) x in cc))
        (cases_lt k i);
  }

  -- a transition to a junction marks it
  pub follows_junction : (j : ℕ) (marks2 found2 : List ℕ) (count2 : ℕ)
      → FollowsSoFar n list mark i marks more found longer pairs count → i < length list
      → (get_or list i d).to ≡ Junction j
      → length marks2 ≡ length more
      → ((root : List Arrow) → IsWalk n root mark more longer count → Reached (links_of n) root j
      → IsWalk n root mark marks2 found2 count2)
      → Grows mark more marks2 longer found2 → has_mark marks2 mark j ≡ true
      → FollowsSoFar n list mark (i + 1) marks marks2 found found2 pairs count2
  follows_junction j marks2 found2 count2 f lt e len walk grows on = record {
    sized = len ∙ f.sized;
    walk = λ root w r. walk root (f.walk root w r) (r j (record {
      trans = get_or list i d;
      within = contains_at list i (get_or list i d) (slice_get-get_or list i d lt);
      leads = e;
    }));
    grows = grows_then mark marks more marks2 found longer found2 f.grows grows;
    marked = λ k j2 a h g t. ⊎_elim (λ old. grows.kept j2 (f.marked k j2 a old g t))
        (λ new. let x = same_arrow list i k d a lt (omega arith) g in
        let y = ap (λ (b : Arrow). b.to) x in
        let same : j ≡ j2 = cc in subst (λ m. has_mark marks2 mark m ≡ true) same on) (cases_lt k i);
  }

-- at the end of the list all that it leads to has the mark
pub follows_all : (n : Net) (list : List Arrow) (mark i : ℕ) (marks more found longer : List ℕ) (pairs count : ℕ)
    → length list ≤ i
    → FollowsSoFar n list mark i marks more found longer pairs count → Marked n mark more list
follows_all n list mark i marks more found longer pairs count le f j h =
    let lt = h.within.1 in
    f.marked h.within.0 j h.trans (omega arith) (stands_at list h.trans h.within) h.leads

-- ---- the whole walk

-- an empty set weighs nothing
weight_none : (p : ℕ → Bool) (w : ℕ → ℕ) (n : ℕ) → ((i : ℕ) → p i ≡ false) → weight p w n ≡ 0
weight_none p w zero f = refl
weight_none p w (suc n) f =
    let rest = weight_none p w n f in
    let here : cond (p n) (w n) 0 ≡ 0 = ap (λ b. cond b (w n) 0) (f n) in omega arith

-- at the start no junction has the mark
pub walk_start : (n : Net) (root : List Arrow) (mark : ℕ) (marks found : List ℕ) (pairs : ℕ)
    → length marks ≡ junction_count n → ((j : ℕ) → get_or marks j 0 < mark)
    → found ≡ [] → pairs ≡ length root → pairs ≤ greatest_count → IsWalk n root mark marks found pairs
walk_start n root mark marks found pairs sized fresh none count few =
    let off : (j : ℕ) → has_mark marks mark j ≡ false = λ j. other_test _ _ (λ e. absurd (omega (arith, fresh j))) in
    let no : length found ≡ 0 = ap length none in
    let ones = weight_none (has_mark marks mark) (λ _. 1) (junction_count n) off in
    let sizes = weight_none (has_mark marks mark) (λ j. length (junction_list n j)) (junction_count n) off in
    record {
      sized = sized;
      below = λ j. omega (arith, fresh j);
      listed = λ i lt. absurd (omega arith);
      all = λ j h. absurd (let f = off j in cc);
      sound = λ j h. absurd (let f = off j in cc);
      count = omega arith;
      total = omega arith;
    }

-- what is known when the first junctions that were found, up to the next one, were followed
pub record ReachesSoFar (n : Net) (list : List Arrow) (mark next : ℕ) (marks found : List ℕ) (pairs : ℕ) : Type 0 where
  pub walk : IsWalk n list mark marks found pairs
  pub direct : Marked n mark marks list
  pub closed : (i : ℕ) → i < next → Marked n mark marks (junction_list n (get_or found i 0))

-- no more junctions are found than there are
pub found_few : (n : Net) (list : List Arrow) (mark : ℕ) (marks found : List ℕ) (pairs : ℕ)
    → IsWalk n list mark marks found pairs → length found ≤ junction_count n
found_few n list mark marks found pairs w = omega (arith, w.count, weight_ones (has_mark marks mark) (junction_count n))

-- what has a mark is a junction
pub marked_within : (marks : List ℕ) (mark j : ℕ) → 0 < mark → has_mark marks mark j ≡ true → j < length marks
marked_within marks mark j pos h =
    ⊎_elim (λ lt. lt) (λ le. absurd (let e = get_or-eq_default marks 0 le in let f = same_of _ _ h in omega arith))
    (cases_lt j (length marks))

pub found_within : (n : Net) (list : List Arrow) (mark : ℕ) (marks found : List ℕ) (pairs i j : ℕ) → 0 < mark
    → IsWalk n list mark marks found pairs → i < length found → j ≡ get_or found i 0
    → j < junction_count n
found_within n list mark marks found pairs i j pos w lt e =
    omega (arith, w.sized, marked_within marks mark (get_or found i 0) pos (w.listed i lt))

-- after the list itself was followed
pub reaches_start : (n : Net) (list : List Arrow) (mark : ℕ) (marks more found longer : List ℕ) (pairs count : ℕ)
    → IsWalk n list mark marks found pairs
    → ((root : List Arrow) → IsWalk n root mark marks found pairs
    → ((j : ℕ) → LeadsTo (links_of n) list j → Reached (links_of n) root j)
    → IsWalk n root mark more longer count)
    → Marked n mark more list → ReachesSoFar n list mark 0 more longer count
reaches_start n list mark marks more found longer pairs count w walk marked = record {
  walk = walk list w (λ j h. Directly j h);
  direct = marked;
  closed = λ i lt. absurd (omega arith);
}

-- one junction more
pub reaches_more : (n : Net) (list : List Arrow) (mark next : ℕ) (marks more found longer : List ℕ)
    (pairs count j : ℕ) (own : List Arrow) → ReachesSoFar n list mark next marks found pairs
    → next < length found → j ≡ get_or found next 0 → own ≡ junction_list n j
    → ((root : List Arrow) → IsWalk n root mark marks found pairs
    → ((j : ℕ) → LeadsTo (links_of n) own j → Reached (links_of n) root j)
    → IsWalk n root mark more longer count)
    → Grows mark marks more found longer → Marked n mark more own
    → ReachesSoFar n list mark (next + 1) more longer count
reaches_more n list mark next marks more found longer pairs count j own r lt e f walk grows marked =
    let sound = r.walk.sound (get_or found next 0) (r.walk.listed next lt) in
    let reached : Reached (links_of n) list j = subst (Reached (links_of n) list) (sym e) sound in
    record {
      walk = walk list r.walk (λ k h. Through j k reached (subst (λ l. LeadsTo (links_of n) l k) f h));
      direct = λ k h. grows.kept k (r.direct k h);
      closed = λ i h. ⊎_elim
          (λ old. λ k to. grows.kept k
          (r.closed i old k (subst (λ m. LeadsTo (links_of n) (junction_list n m) k) (grows.same i (omega arith)) to)))
          (λ new. let at : i ≡ next = omega arith in
          let is : get_or longer i 0 ≡ j = grows.same i (omega arith) ∙ ap (λ m. get_or found m 0) at ∙ sym e in
          λ k to. marked k (subst (λ l. LeadsTo (links_of n) l k) (ap (junction_list n) is ∙ sym f) to))
          (cases_lt i next);
    }

-- all that is reached has the mark
pub reaches_all : (n : Net) (list : List Arrow) (mark next : ℕ) (marks found : List ℕ) (pairs : ℕ)
    → ReachesSoFar n list mark next marks found pairs → length found ≤ next
    → (j : ℕ) → Reached (links_of n) list j → has_mark marks mark j ≡ true
reaches_all n list mark next marks found pairs r le _ (Directly j h) = r.direct j h
reaches_all n list mark next marks found pairs r le _ (Through k j h to) =
    let at = r.walk.all k (reaches_all n list mark next marks found pairs r le k h) in
    r.closed at.0 (omega (arith, at.1)) j (subst (λ m. LeadsTo (links_of n) (junction_list n m) j) (sym at.2) to)
