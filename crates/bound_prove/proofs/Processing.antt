-- What processing a state needs is the least need that covers each way in which it may go.
use Rattle.std.proofs.Common.{◌≡◌, ◌∙◌, ℕ, List, [], ◌∷◌, ◌⊎◌, inl, inr, ⊎_elim, refl, sym, ap, subst, arith}
use Rattle.std.specs.List.{AllByRecursion}
use Rattle.active_config.specs.Tree.{comp_of}
use Rattle.actions.specs.declared.event.Event.{Event}
use Rattle.checked_chart.specs.declared.parts.ListKind.{ListKind}
use Rattle.checked_chart.specs.declared.parts.ListKind.TheVariants.{Outer, Inner}
use Rattle.checked_chart.specs.Chart.{Chart, list_of, node, junction}
use Rattle.checked_chart.specs.Homes.{home_of}
use Rattle.bound_prove.specs.declared.cell.Cell.{Cell}
use Rattle.bound_prove.specs.declared.lookup.Lookup.{Lookup}
use Rattle.bound_prove.specs.declared.need.Need.{Need}
use Rattle.bound_prove.specs.declared.need.Part.{Part}
use Rattle.bound_prove.specs.declared.need.Part.TheVariants as parts
use Rattle.bound_prove.specs.Cells.{Cells, block_need, list_need, children_need, exit_need, enter_need, process_need}
use Rattle.bound_prove.specs.Cells.{firing_need, Demands, OfList, OfExit, OfEntry, OfChildren, OfOuter, OfInner}
use Rattle.bound_prove.specs.Homes.{IsHome}
use Rattle.bound_prove.specs.Lookups.{chart_in, cells_in, IsKnown, AreIn, Evaluated, CellEvaluated}
use Rattle.bound_prove.specs.Needs.{nothing_needed, in_turn, either, one_of, Covers}
use Rattle.bound_prove.specs.Processes.{FiringsFrom}
use Rattle.bound_prove.specs.Reaches.{Reaches}
use Rattle.bound_prove.specs.Uses.{BlockUses, ListUses, ChildrenUse, FiringUses, Uses}
use Rattle.bound_prove.proofs.Evaluations.{grows_on, still_met}
use Rattle.bound_prove.proofs.HomeLemmas.{contains_has}
use Rattle.bound_prove.proofs.Monotone.{itself, in_turn_more}
use Rattle.bound_prove.proofs.Rooms.{covers_more, covers_left, covers_right, covers_each}
use Rattle.bound_prove.proofs.Settling.{same_covers}
use Rattle.bound_prove.proofs.Values.{covers_both, turn_even}
use Rattle.std.specs.Prelude.{IfOk, Result}

-- ---- what a cell is to cover, by its part

module _ (c : Chart) (g : Cells) (e : Event) where
  -- a way through a state that ends with a firing from one of its lists
  pub record Fires (kind : ListKind) (s : ℕ) (n : Need) : Type 0 where
    pub dest : ℕ
    pub reached : Reaches c e (list_of c s kind) dest
    pub same : n ≡ process_need c g e s (firing_need c g e (home_of c.tree s kind dest))

  -- the needs that a cell is to cover
  abbrev pub Asks : Part → ℕ → Need → Type 0
  Asks parts.Junction j n = n ≡ list_need g e (junction c j)
  Asks parts.Exit s n = n ≡ exit_need c g e s
  Asks parts.Enter s n = n ≡ enter_need c g e s
  Asks parts.Process s n =
      (n ≡ process_need c g e s (children_need c g e parts.Process s (comp_of c.tree s)))
      ⊎ (Fires Outer s n ⊎ Fires Inner s n)

  -- and no others are
  pub asks : (part : Part) (i : ℕ) (n : Need) → Demands c g e part i n → Asks part i n
  asks part i n (OfList j) = refl
  asks part i n (OfExit s) = refl
  asks part i n (OfEntry s) = refl
  asks part i n (OfChildren s) = inl refl
  asks part i n (OfOuter s d r) = inr (inl (record { dest = d; reached = r; same = refl }))
  asks part i n (OfInner s d r) = inr (inr (record { dest = d; reached = r; same = refl }))

-- ---- lists, exits and entries

module _ (l : Lookup) (a b : List Cell) (v : Need) where
  -- the list of a junction
  pub junction_evaluated : (j : ℕ)
      → Evaluated l a b v (list_need (cells_in l) l.cell.event (junction (chart_in l) j))
      (λ m. ListUses (IsKnown l m) l.cell.event (junction (chart_in l) j))
      → CellEvaluated l parts.Junction j a b v
  junction_evaluated j h = record {
    covers = λ n d. same_covers v n (h.value ∙ sym (asks (chart_in l) (cells_in l) l.cell.event parts.Junction j n d));
    least = λ w f. subst (Covers w) (sym h.value) (f _ (OfList j));
    grows = h.grows;
    uses = h.used b (λ x k. k);
  }

  -- the exit of a state
  pub exit_evaluated : (s : ℕ)
      → Evaluated l a b v (exit_need (chart_in l) (cells_in l) l.cell.event s)
      (λ m. Uses (chart_in l) (IsKnown l m) l.cell.event parts.Exit s)
      → CellEvaluated l parts.Exit s a b v
  exit_evaluated s h = record {
    covers = λ n d. same_covers v n (h.value ∙ sym (asks (chart_in l) (cells_in l) l.cell.event parts.Exit s n d));
    least = λ w f. subst (Covers w) (sym h.value) (f _ (OfExit s));
    grows = h.grows;
    uses = h.used b (λ x k. k);
  }

  -- the entry of a state
  pub enter_evaluated : (s : ℕ)
      → Evaluated l a b v (enter_need (chart_in l) (cells_in l) l.cell.event s)
      (λ m. Uses (chart_in l) (IsKnown l m) l.cell.event parts.Enter s)
      → CellEvaluated l parts.Enter s a b v
  enter_evaluated s h = record {
    covers = λ n d. same_covers v n (h.value ∙ sym (asks (chart_in l) (cells_in l) l.cell.event parts.Enter s n d));
    least = λ w f. subst (Covers w) (sym h.value) (f _ (OfEntry s));
    grows = h.grows;
    uses = h.used b (λ x k. k);
  }

-- ---- processing

-- equal pieces in turn
turn_same : {x x' y y' : Need} → x ≡ x' → y ≡ y' → in_turn x y ≡ in_turn x' y'
turn_same {x} {x'} {y} {y'} e f = ap (λ z. in_turn z y) e ∙ ap (in_turn x') f

-- one of equal pieces
either_same : {x x' y y' : Need} → x ≡ x' → y ≡ y' → either x y ≡ either x' y'
either_same {x} {x'} {y} {y'} e f = ap (λ z. either z y) e ∙ ap (either x') f

module _ (c : Chart) (g : Cells) (e : Event) (s : ℕ) where
  -- what a way through a state needs that ends with that
  abbrev Way : Need → Need
  Way n = process_need c g e s n

  -- more at the end makes more
  way_more : (x y : Need) → Covers x y → Covers (Way x) (Way y)
  way_more x y h =
      in_turn_more _ _ _ _ (itself (list_need g e (node c s).outer))
      (in_turn_more _ _ _ _ (itself (block_need g (node c s).during))
      (in_turn_more _ _ _ _ (itself (list_need g e (node c s).inner)) h))

  -- what covers two ways covers the way that ends with either
  way_even : (x y : Need) → Covers (either (Way x) (Way y)) (Way (either x y))
  way_even x y =
      let o = list_need g e (node c s).outer in
      let d = block_need g (node c s).during in
      let i = list_need g e (node c s).inner in
      covers_more (turn_even o (in_turn d (in_turn i x)) (in_turn d (in_turn i y)))
      (in_turn_more _ _ _ _ (itself o)
      (covers_more (turn_even d (in_turn i x) (in_turn i y))
      (in_turn_more _ _ _ _ (itself d) (turn_even i x y))))

  -- so what covers both ways covers it
  way_split : (v x y : Need) → Covers v (Way x) → Covers v (Way y) → Covers v (Way (either x y))
  way_split v x y h k = covers_more (covers_both (Way x) (Way y) h k) (way_even x y)

  -- what covers a way that ends with nothing, and each that ends with one of some firings, covers one of them
  way_one : (v : Need) (f : ℕ → Need) (xs : List ℕ) → Covers v (Way nothing_needed)
      → AllByRecursion (λ x. Covers v (Way (f x))) xs → Covers v (Way (one_of f xs))
  way_one v f [] none h = none
  way_one v f (x ∷ xs) none h = way_split v (f x) (one_of f xs) h.0 (way_one v f xs none h.1)

  -- what covers each firing from a list covers each of its homes
  homes_covered : (v : Need) (kind : ListKind) (xs : List ℕ) → AllByRecursion (IsHome c e s kind) xs
      → ((d : ℕ) → Reaches c e (list_of c s kind) d → Covers v (Way (firing_need c g e (home_of c.tree s kind d))))
      → AllByRecursion (λ x. Covers v (Way (firing_need c g e x))) xs
  homes_covered v kind [] h f = tt
  homes_covered v kind (x ∷ xs) h f = (
    subst (λ z. Covers v (Way (firing_need c g e z))) h.0.home (f h.0.dest h.0.reached),
    homes_covered v kind xs h.1 f,
  )

module _ (l : Lookup) (s : ℕ) (m0 m1 m2 m3 m4 m5 m6 : List Cell)
    (o d i ch x y fired last from_inner from_during v : Need)
    (ho : Evaluated l m0 m1 o (list_need (cells_in l) l.cell.event (node (chart_in l) s).outer)
    (λ m. ListUses (IsKnown l m) l.cell.event (node (chart_in l) s).outer))
    (hd : Evaluated l m1 m2 d (block_need (cells_in l) (node (chart_in l) s).during)
    (λ m. BlockUses (IsKnown l m) (node (chart_in l) s).during))
    (hi : Evaluated l m2 m3 i (list_need (cells_in l) l.cell.event (node (chart_in l) s).inner)
    (λ m. ListUses (IsKnown l m) l.cell.event (node (chart_in l) s).inner))
    (hc : Evaluated l m3 m4 ch
    (children_need (chart_in l) (cells_in l) l.cell.event parts.Process s (comp_of (chart_in l).tree s))
    (λ m. ChildrenUse (chart_in l) (IsKnown l m) l.cell.event parts.Process s (comp_of (chart_in l).tree s)))
    (hx : FiringsFrom l s Outer m4 m5 x) (hy : FiringsFrom l s Inner m5 m6 y) where
  -- what a firing needs
  abbrev fires : ℕ → Need
  fires = firing_need (chart_in l) (cells_in l) l.cell.event

  -- what the children need
  abbrev children : Need
  children = children_need (chart_in l) (cells_in l) l.cell.event parts.Process s (comp_of (chart_in l).tree s)

  -- what one of the firings from the outer list needs
  abbrev left : Need
  left = one_of fires hx.homes

  -- what one of the firings from the inner list needs
  abbrev right : Need
  right = one_of fires hy.homes

  -- what a way through the state needs
  abbrev whole : Need → Need
  whole = Way (chart_in l) (cells_in l) l.cell.event s

  -- what was met stays met from each piece on
  after5 : AreIn m5 m6
  after5 = still_met l m5 m6 hy.evaluated.grows

  -- from the firings of the outer list on
  after4 : AreIn m4 m6
  after4 z k = after5 z (still_met l m4 m5 hx.evaluated.grows z k)

  -- from the children on
  after3 : AreIn m3 m6
  after3 z k = after4 z (still_met l m3 m4 hc.grows z k)

  -- from the inner list on
  after2 : AreIn m2 m6
  after2 z k = after3 z (still_met l m2 m3 hi.grows z k)

  -- from the during action on
  after1 : AreIn m1 m6
  after1 z k = after2 z (still_met l m1 m2 hd.grows z k)

  -- the cell is evaluated
  pub process_evaluated : fired ≡ either x y → last ≡ either ch fired → from_inner ≡ in_turn i last
      → from_during ≡ in_turn d from_inner → v ≡ in_turn o from_during → CellEvaluated l parts.Process s m0 m6 v
  process_evaluated ef el ei ed ev =
      let all : v ≡ whole (either children (either left right)) =
      ev ∙ turn_same ho.value (ed ∙ turn_same hd.value (ei ∙ turn_same hi.value
      (el ∙ either_same hc.value (ef ∙ either_same hx.evaluated.value hy.evaluated.value)))) in
      let top = same_covers v (whole (either children (either left right))) all in
      let c = chart_in l in
      let g = cells_in l in
      let e = l.cell.event in
      let in_children = covers_left children (either left right) (itself (either children (either left right))) in
      let in_fired = covers_right children (either left right) (itself (either children (either left right))) in
      let in_left : AllByRecursion (λ h. Covers (either children (either left right)) (fires h)) hx.homes =
      covers_each fires _ hx.homes (covers_more in_fired (covers_left left right (itself (either left right)))) in
      let in_right : AllByRecursion (λ h. Covers (either children (either left right)) (fires h)) hy.homes =
      covers_each fires _ hy.homes (covers_more in_fired (covers_right left right (itself (either left right)))) in
      record {
        covers = λ n dem.
            ⊎_elim
            (λ same. covers_more top (covers_more (way_more c g e s _ _ in_children) (same_covers _ n (sym same))))
            (⊎_elim
            (λ (f : Fires c g e Outer s n). covers_more top
            (covers_more
            (way_more c g e s _ _
            (contains_has (λ h. Covers (either children (either left right)) (fires h)) hx.homes
            (home_of c.tree s Outer f.dest) (hx.are.all f.dest f.reached) in_left))
            (same_covers _ n (sym f.same))))
            (λ (f : Fires c g e Inner s n). covers_more top
            (covers_more
            (way_more c g e s _ _
            (contains_has (λ h. Covers (either children (either left right)) (fires h)) hy.homes
            (home_of c.tree s Inner f.dest) (hy.are.all f.dest f.reached) in_right))
            (same_covers _ n (sym f.same)))))
            (asks c g e parts.Process s n dem);
        least = λ w f.
            let own = f _ (OfChildren s) in
            let none = covers_more own (way_more c g e s children nothing_needed
            (record { depth = omega arith; steps = omega arith })) in
            subst (Covers w) (sym all)
            (way_split c g e s w children (either left right) own
            (way_split c g e s w left right
            (way_one c g e s w fires hx.homes none
            (homes_covered c g e s w Outer hx.homes hx.are.right (λ d r. f _ (OfOuter s d r))))
            (way_one c g e s w fires hy.homes none
            (homes_covered c g e s w Inner hy.homes hy.are.right (λ d r. f _ (OfInner s d r))))));
        grows =
            grows_on l m0 m1 m6 ho.grows (grows_on l m1 m2 m6 hd.grows (grows_on l m2 m3 m6 hi.grows
            (grows_on l m3 m4 m6 hc.grows (grows_on l m4 m5 m6 hx.evaluated.grows hy.evaluated.grows))));
        uses = record {
          outer = ho.used m6 after1;
          during = hd.used m6 after2;
          inner = hi.used m6 after3;
          children = hc.used m6 after4;
          outer_firings = λ d r.
              contains_has (FiringUses c (IsKnown l m6) e) hx.homes (home_of c.tree s Outer d) (hx.are.all d r)
              (hx.evaluated.used m6 after5);
          inner_firings = λ d r.
              contains_has (FiringUses c (IsKnown l m6) e) hy.homes (home_of c.tree s Inner d) (hy.are.all d r)
              (hy.evaluated.used m6 (λ z k. k));
        };
      }

-- what holds of the part that a match finds holds of the part of the cell
pub part_ok : (l : Lookup) (part : Part) (a b : List Cell) {E : Type 0} (r : Result Need E) → l.cell.part ≡ part
    → IfOk r (CellEvaluated l part l.cell.index a b) → IfOk r (CellEvaluated l l.cell.part l.cell.index a b)
part_ok l part a b r same h = subst (λ p. IfOk r (CellEvaluated l p l.cell.index a b)) (sym same) h
