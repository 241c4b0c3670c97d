-- How a depth-first search of the cells finds the least needs, or a cycle.
use Rattle.std.proofs.Common.{◌≡◌, ℕ, suc, ◌+◌, ◌≤◌, List, [], ◌∷◌, Option, Some, None}
use Rattle.std.proofs.Common.{◌⊎◌, ⊎_elim, ap, sym, subst, refl, arith}
use Rattle.std.specs.Prelude.{slice_get, if◌then◌else◌}
use Rattle.actions.specs.declared.event.Event.{Event}
use Rattle.actions.specs.declared.event.Event.TheVariants.{Named}
use Rattle.actions.specs.declared.names.EventDecl.{EventDecl}
use Rattle.actions.specs.declared.names.EventKind.{EventKind}
use Rattle.actions.specs.declared.names.EventKind.TheVariants.{Input, Local, Output}
use Rattle.checked_chart.specs.Chart.{Chart, Trans, junction}
use Rattle.bound_prove.specs.declared.need.Need.{Need}
use Rattle.bound_prove.specs.declared.need.Part.{Part}
use Rattle.bound_prove.specs.declared.need.Part.TheVariants as parts
use Rattle.bound_prove.specs.Needs.{nothing_needed, in_turn, Covers}
use Rattle.bound_prove.specs.Cells.{Cells, list_need, IsGood}
use Rattle.bound_prove.specs.Cells.{Demands, OfList, OfExit, OfEntry, OfChildren, OfOuter, OfInner}
use Rattle.bound_prove.specs.Roots.{is_input, inputs_need, at_least_one, root_need, IsWithin}
use Rattle.bound_prove.specs.Searches.{IsNeedOf, AreDone, IsSame, Rises, ByStep, ByRank, LeadsOn, IsRoot, OfStart}
use Rattle.bound_prove.specs.Searches.{OfTick, OfInput, IsBelowRoot, the_ends, Answers, Below, Beyond, IsLeast}
use Rattle.bound_prove.specs.Uses.{OfCells, Uses}
use Rattle.bound_prove.proofs.Rooms.{covers_more}
use Rattle.bound_prove.proofs.Monotone.{itself, either_more, demands_most, uses_map}
use Rattle.bound_prove.proofs.Overruns.{start_covered, tick_covered, input_event_covered}

-- ---- cycles

-- what rises twice rises
rises_on : {a b d : Need} {h k m : ℕ} → Rises a b h k → Rises b d k m → Rises a d h m
rises_on (ByStep x) (ByStep y) = ByStep (omega (arith, x, y))
rises_on (ByStep x) (ByRank y lt) = ByStep (omega (arith, x, y))
rises_on (ByRank x lt) (ByStep y) = ByStep (omega (arith, x, y))
rises_on (ByRank x lt) (ByRank y lt') = ByRank (omega (arith, x, y)) (omega (arith, lt, lt'))

-- what rises to itself is at the end
rises_itself : {a : Need} {h : ℕ} → Rises a a h h → 50001 ≤ a.steps
rises_itself (ByStep x) = omega (arith, x)
rises_itself (ByRank x lt) = absurd (omega (arith, lt))

-- and so is what rises from there
rises_end : {a b : Need} {h k : ℕ} → Rises a b h k → 50001 ≤ b.steps → 50001 ≤ a.steps
rises_end (ByStep x) le = omega (arith, x, le)
rises_end (ByRank x lt) le = omega (arith, x, le)

-- a cell that leads on to one that leads on to a third leads on to this one
pub leads_on : (c : Chart) (e : Event) (part : Part) (i : ℕ) (e1 : Event) (part1 : Part) (i1 : ℕ) (e2 : Event)
    (part2 : Part) (i2 : ℕ) → LeadsOn c e part i e1 part1 i1 → LeadsOn c e1 part1 i1 e2 part2 i2
    → LeadsOn c e part i e2 part2 i2
leads_on c e part i e1 part1 i1 e2 part2 i2 h k g good = rises_on (h g good) (k g good)

-- every root is covered
root_covered : (c : Chart) (g : Cells) (e : Event) (part : Part) (i : ℕ) → IsRoot c e part i
    → Covers (root_need c g) (g e part i)
root_covered c g e part i OfStart = start_covered c g
root_covered c g e part i OfTick = tick_covered c g
root_covered c g e part i (OfInput n input) = input_event_covered c g n input

-- a cell at the end, which a root is or leads to, leaves no bounds
end_below_root : (c : Chart) (g : Cells) → IsGood c g → (e : Event) (part : Part) (i : ℕ) → IsBelowRoot c e part i
    → 50001 ≤ (g e part i).steps → IsWithin (root_need c g) → ⊥
end_below_root c g good e part i below at within =
    let cover = root_covered c g below.0 below.1 below.2 below.3 in
    let high : 50001 ≤ (g below.0 below.1 below.2).steps =
    ⊎_elim (λ leads. rises_end (leads g good) at)
    (λ same. subst (λ x. 50001 ≤ (g x below.1 below.2).steps) (sym same.same_event)
    (subst (λ x. 50001 ≤ (g e x below.2).steps) (sym same.same_part)
    (subst (λ x. 50001 ≤ (g e part x).steps) (sym same.same_index) at))) below.4 in
    omega (arith, cover.steps, high, within.steps)

-- a cycle below a root leaves no bounds
pub cycle_has_no_bounds : (c : Chart) (e : Event) (part : Part) (i : ℕ) → IsBelowRoot c e part i
    → LeadsOn c e part i e part i → IsNeedOf c None
cycle_has_no_bounds c e part i below cycle g good within =
    end_below_root c g good e part i below (rises_itself (cycle g good)) within

-- ---- the ends

pub turn_capped : (x y : Need) → Covers the_ends (in_turn x y)
unfolding in_turn
turn_capped x y = record { depth = omega arith; steps = omega arith }

list_capped : (c : Chart) (g : Cells) (e : Event) (ts : List Trans) → Covers the_ends (list_need g e ts)
list_capped c g e [] = record { depth = omega arith; steps = omega arith }
list_capped c g e (t ∷ ts) = turn_capped _ _

-- the ends cover all that a cell is to cover
pub ends_cover : (c : Chart) (g : Cells) (e : Event) (part : Part) (i : ℕ) (n : Need) → Demands c g e part i n
    → Covers the_ends n
ends_cover c g e part i n (OfList j) = list_capped c g e (junction c j)
ends_cover c g e part i n (OfExit s) = turn_capped _ _
ends_cover c g e part i n (OfEntry s) = turn_capped _ _
ends_cover c g e part i n (OfChildren s) = turn_capped _ _
ends_cover c g e part i n (OfOuter s d r) = turn_capped _ _
ends_cover c g e part i n (OfInner s d r) = turn_capped _ _

-- ---- one more cell is done

pub same_covers : (x y : Need) → x ≡ y → Covers x y
same_covers x y e = subst (Covers x) e (itself x)

module _ (c : Chart) (g g' : Cells) (Done Done' : OfCells) (done : AreDone c g Done)
    (kept : (e : Event) (part : Part) (i : ℕ) → Done e part i → g' e part i ≡ g e part i)
    (grow : (e : Event) (part : Part) (i : ℕ) → Done e part i → Done' e part i)
    (e : Event) (part : Part) (i : ℕ)
    (split : (e' : Event) (part' : Part) (i' : ℕ) → Done' e' part' i' → Done e' part' i' ⊎ IsSame e part i e' part' i')
    (uses : Uses c Done e part i)
    (enough : (n : Need) → Demands c g e part i n → Covers (g' e part i) n)
    (least : (v : Need) → ((n : Need) → Demands c g e part i n → Covers v n) → Covers v (g' e part i)) where
  -- what holds of the cells that were done and of the new one
  for_each : (P : OfCells) → ((e' : Event) (part' : Part) (i' : ℕ) → Done e' part' i' → P e' part' i') → P e part i
      → (e' : Event) (part' : Part) (i' : ℕ) → Done' e' part' i' → P e' part' i'
  for_each P h new e' part' i' d =
      ⊎_elim (h e' part' i')
      (λ same. subst (λ x. P x part' i') (sym same.same_event)
      (subst (λ x. P e x i') (sym same.same_part) (subst (P e part) (sym same.same_index) new))) (split e' part' i' d)

  -- what the new certificate demands of a cell that looks up cells that were done, the old one covers
  old_demands : (e' : Event) (part' : Part) (i' : ℕ) → Uses c Done e' part' i' → (n : Need) → Demands c g' e' part' i' n
      → (n' : Need) × Demands c g e' part' i' n' × Covers n' n
  old_demands e' part' i' u n d =
      demands_most c g g' e' part' i' n
      (uses_map c Done (λ x p j. Covers (g x p j) (g' x p j)) (λ x p j k. same_covers _ _ (sym
      (kept x p j k))) e' part' i' u)
      d

  pub settled : AreDone c g' Done'
  settled = record {
    closed =
        for_each (λ x p j. Uses c Done' x p j)
        (λ x p j k. uses_map c Done Done' grow x p j (done.closed x p j k)) (uses_map c Done Done' grow e part i uses);
    enough =
        for_each (λ x p j. (n : Need) → Demands c g' x p j n → Covers (g' x p j) n)
        (λ x p j k n d.
        let old = old_demands x p j (done.closed x p j k) n d in
        covers_more (same_covers _ _ (kept x p j k)) (covers_more (done.enough x p j k old.0 old.1) old.2))
        (λ n d. let old = old_demands e part i uses n d in covers_more (enough old.0 old.1) old.2);
    least = λ other good.
        for_each (λ x p j. Covers (other x p j) (g' x p j))
        (λ x p j k. covers_more (done.least other good x p j k) (same_covers _ _ (sym (kept x p j k))))
        (least (other e part i) (λ n d.
        let more =
        demands_most c other g e part i n
        (uses_map c Done (λ x p j. Covers (other x p j) (g x p j)) (done.least other good) e part i uses) d in
        covers_more (good e part i more.0 more.1) more.2));
  }

-- ---- the end of a search

module _ (c : Chart) (g : Cells) (Done : OfCells) (done : AreDone c g Done)
    (rest : (e : Event) (part : Part) (i : ℕ) → Done e part i ⊎ (g e part i ≡ the_ends)) where
  -- where all other cells are at the ends, the certificate is good
  pub done_is_good : IsGood c g
  done_is_good e part i n d =
      ⊎_elim (λ k. done.enough e part i k n d)
      (λ at. covers_more (same_covers _ _ at) (ends_cover c g e part i n d)) (rest e part i)

raise_more : (x y : Need) → Covers x y → Covers (at_least_one x) (at_least_one y)
raise_more x y h = record { depth = omega (arith, h.depth); steps = omega (arith, h.steps) }

inputs_more : (f f' : ℕ → Need) (from : ℕ) (events : List EventDecl)
    → ((i : ℕ) (d : EventDecl) → slice_get events i ≡ Some d → d.kind ≡ Input → Covers (f (from + i)) (f' (from + i)))
    → Covers (inputs_need f from events) (inputs_need f' from events)
inputs_more f f' from [] h = itself nothing_needed
inputs_more f f' from (x ∷ events) h =
    either_more _ _ _ _
    (at x.kind refl)
    (inputs_more f f' (from + 1) events (λ i d e k.
    subst (λ z. Covers (f z) (f' z)) (omega arith) (h (suc i) d e k)))
  where
    at : (k : EventKind) → x.kind ≡ k
        → Covers (if is_input k then f from else nothing_needed) (if is_input k then f' from else nothing_needed)
    at Input e = subst (λ z. Covers (f z) (f' z)) (omega arith) (h 0 x refl e)
    at Local e = itself nothing_needed
    at Output e = itself nothing_needed

-- ---- the need of a chart

-- roots of which each covers another
roots_more : (c : Chart) (g g' : Cells) → ((e : Event) (part : Part) (i : ℕ) → IsRoot c e part i
    → Covers (g e part i) (g' e part i)) → Covers (root_need c g) (root_need c g')
roots_more c g g' h =
    raise_more _ _ (either_more _ _ _ _ (h _ _ _ OfStart)
    (either_more _ _ _ _ (h _ _ _ OfTick)
    (inputs_more (λ e. g (Named e) parts.Process 0) (λ e. g' (Named e) parts.Process 0) 0 c.names.events
    (λ i d e k. h _ _ _ (OfInput (0 + i) (d, subst (λ z. slice_get c.names.events z ≡ Some d) (omega arith) e, k))))))

-- needs that cover each other are one
pub both_cover : (x y : Need) → Covers x y → Covers y x → x ≡ y
both_cover x y h k =
    let d : x.depth ≡ y.depth = omega (arith, h.depth, k.depth) in
    let s : x.steps ≡ y.steps = omega (arith, h.steps, k.steps) in
    subst (λ z. x ≡ record { depth = z; steps = y.steps }) d (subst
    (λ z. x ≡ record { depth = x.depth; steps = z }) s refl)

-- a chart has at most one need
pub need_is_one : (c : Chart) (m n : Option Need) → IsNeedOf c m → IsNeedOf c n → m ≡ n
need_is_one c None None h k = refl
need_is_one c None (Some n) h k = absurd (h k.0 k.1 (subst IsWithin (sym k.2) k.3))
need_is_one c (Some m) None h k = absurd (k h.0 h.1 (subst IsWithin (sym h.2) h.3))
need_is_one c (Some m) (Some n) h k =
    ap Some
    (both_cover m n (subst (λ x. Covers x n) h.2 (k.4 h.0 h.1)) (subst (λ x. Covers x m) k.2 (h.4 k.0 k.1)))

-- what a good certificate whose roots are lowest gives
lowest_gives : (c : Chart) (g : Cells) → IsGood c g
    → ((other : Cells) → IsGood c other → Covers (root_need c other) (root_need c g)) → (answer : Option Need)
    → Answers (root_need c g) answer → IsNeedOf c answer
lowest_gives c g good lowest answer (Below w) = (g, good, refl, w, lowest)
lowest_gives c g good lowest answer (Beyond f) = λ other h w.
    let low = lowest other h in
    f (record { depth = omega (arith, low.depth, w.depth); steps = omega (arith, low.steps, w.steps) })

-- the least good certificate gives the need
pub least_gives : (c : Chart) (g : Cells) (n : Option Need) → IsLeast c g → Answers (root_need c g) n → IsNeedOf c n
least_gives c g n l a =
    lowest_gives c g l.good (λ other good. roots_more c other g (λ e part i r. l.least other good e part i)) n a

-- where the roots are done, they give the need, or there is none
pub roots_done : (c : Chart) (g : Cells) (Done : OfCells) → AreDone c g Done
    → ((e : Event) (part : Part) (i : ℕ) → Done e part i ⊎ (g e part i ≡ the_ends))
    → ((e : Event) (part : Part) (i : ℕ) → IsRoot c e part i → Done e part i) → (answer : Option Need)
    → Answers (root_need c g) answer → IsNeedOf c answer
roots_done c g Done done rest roots answer a =
    lowest_gives c g (done_is_good c g Done done rest)
    (λ other good. roots_more c other g (λ e part i r. done.least other good e part i (roots e part i r))) answer a
