-- What is reached where the transitions of one form come from those of another.
use Rattle.std.proofs.Common.{◌≡◌, ℕ, zero, suc, ◌≤◌, ◌<◌, List, length, map, Some, Bool, refl, sym, ap, ◌∙◌}
use Rattle.std.proofs.Common.{subst, arith}
use Rattle.std.specs.Prelude.{Contains, slice_get}
use Rattle.std.proofs.lemmas.List.{length-map}
use Rattle.std.proofs.lemmas.Option.{slice_get-get_or, slice_get_within, get_or_from_slice_get}
use Rattle.checked_chart.specs.declared.parts.ListKind.{ListKind}
use Rattle.checked_chart.specs.declared.parts.ListKind.TheVariants.{Outer, Inner, Default}
use Rattle.checked_chart.specs.Reached.{Links, LeadsTo, Reached, Directly, Through, Meets, Itself, AtJunction}
use Rattle.checked_chart.specs.Reached.{weight, ArePairs, PairsBelow}
use Rattle.chart_structure.proofs.MapLemmas.{from_map, into_map}
use Rattle.chart_structure.proofs.WeightLemmas.{weight_by}

-- a list contains what stands at a place of it
pub contains_at : {A : Type 0} (list : List A) (i : ℕ) (a : A) → slice_get list i ≡ Some a → Contains list a
contains_at list i a e = (i, slice_get_within list i a e, get_or_from_slice_get list i a a e)

-- what a list contains stands at that place of it
pub stands_at : {A : Type 0} (list : List A) (a : A) (h : Contains list a) → slice_get list h.0 ≡ Some a
stands_at list a h = slice_get-get_or list h.0 a h.1 ∙ ap (λ x. Some x) h.2

-- the lists of the first states and those of the junctions come from the others by f, which keeps where each leads
pub record IsImage {X Y : Type 0} (f : X → Y) (k : Links X) (l : Links Y) (states : ℕ) : Type 0 where
  pub dests : (x : X) → l.dest (f x) ≡ k.dest x
  pub each : (j : ℕ) → l.junction j ≡ map f (k.junction j)
  pub count : l.junctions ≡ k.junctions
  pub lists : (s : ℕ) (kind : ListKind) → s < states → l.lists s kind ≡ map f (k.lists s kind)

module _ {X Y : Type 0} {f : X → Y} {k : Links X} {l : Links Y} {states : ℕ} (image : IsImage f k l states) where
  -- ---- what is reached

  leads_back : (list : List X) (j : ℕ) → LeadsTo l (map f list) j → LeadsTo k list j
  leads_back list j h =
      let r = from_map f list h.within.0 h.trans (stands_at (map f list) h.trans h.within) in
      record {
        trans = r.item;
        within = contains_at list h.within.0 r.item r.is;
        leads = sym (image.dests r.item) ∙ ap l.dest r.same ∙ h.leads;
      }

  leads_on : (list : List X) (j : ℕ) → LeadsTo k list j → LeadsTo l (map f list) j
  leads_on list j h = record {
    trans = f h.trans;
    within = contains_at (map f list) h.within.0 (f h.trans)
        (into_map f list h.within.0 h.trans (stands_at list h.trans h.within));
    leads = image.dests h.trans ∙ h.leads;
  }

  reached_back : (list : List X) (j : ℕ) → Reached l (map f list) j → Reached k list j
  reached_back list _ (Directly j h) = Directly j (leads_back list j h)
  reached_back list _ (Through i j r h) =
      Through i j (reached_back list i r)
      (leads_back (k.junction i) j (subst (λ m. LeadsTo l m j) (image.each i) h))

  reached_on : (list : List X) (j : ℕ) → Reached k list j → Reached l (map f list) j
  reached_on list _ (Directly j h) = Directly j (leads_on list j h)
  reached_on list _ (Through i j r h) =
      Through i j (reached_on list i r)
      (subst (λ m. LeadsTo l m j) (sym (image.each i)) (leads_on (k.junction i) j h))

  -- a list that is met comes from one that is met
  pub record MeetsBack (base : List X) (list : List Y) : Type 0 where
    pub own : List X
    pub met : Meets k base own
    pub same : list ≡ map f own

  meets_back : (base : List X) (list : List Y) → Meets l (map f base) list → MeetsBack base list
  meets_back base _ Itself = record { own = base; met = Itself; same = refl }
  meets_back base _ (AtJunction j r) =
      record { own = k.junction j; met = AtJunction j (reached_back base j r); same = image.each j }

  meets_on : (base list : List X) → Meets k base list → Meets l (map f base) (map f list)
  meets_on base _ Itself = Itself
  meets_on base _ (AtJunction j r) = subst (Meets l (map f base)) (image.each j) (AtJunction j (reached_on base j r))

  -- ---- from the lists of states

  pub kind_reached_back : (s : ℕ) (kind : ListKind) (j : ℕ) → s < states → Reached l (l.lists s kind) j
      → Reached k (k.lists s kind) j
  kind_reached_back s kind j lt r =
      reached_back (k.lists s kind) j (subst (λ m. Reached l m j) (image.lists s kind lt) r)

  pub kind_reached_on : (s : ℕ) (kind : ListKind) (j : ℕ) → s < states → Reached k (k.lists s kind) j
      → Reached l (l.lists s kind) j
  kind_reached_on s kind j lt r =
      subst (λ m. Reached l m j) (sym (image.lists s kind lt)) (reached_on (k.lists s kind) j r)

  pub kind_meets_back : (s : ℕ) (kind : ListKind) (list : List Y) → s < states → Meets l (l.lists s kind) list
      → MeetsBack (k.lists s kind) list
  kind_meets_back s kind list lt m =
      meets_back (k.lists s kind) list (subst (λ base. Meets l base list) (image.lists s kind lt) m)

  pub kind_meets_on : (s : ℕ) (kind : ListKind) (list : List X) → s < states → Meets k (k.lists s kind) list
      → Meets l (l.lists s kind) (map f list)
  kind_meets_on s kind list lt m =
      subst (λ base. Meets l base (map f list)) (sym (image.lists s kind lt)) (meets_on (k.lists s kind) list m)

  -- ---- pairs

  size_same : (j : ℕ) → length (l.junction j) ≡ length (k.junction j)
  size_same j = ap length (image.each j) ∙ length-map (k.junction j) f

  weight_is : (p : ℕ → Bool) → weight p (λ j. length (l.junction j)) l.junctions
      ≡ weight p (λ j. length (k.junction j)) k.junctions
  weight_is p =
      ap (weight p (λ j. length (l.junction j))) image.count
      ∙ weight_by p (λ j. length (l.junction j)) (λ j. length (k.junction j)) size_same k.junctions

  kind_back : (s : ℕ) (kind : ListKind) (count : ℕ) → s < states → ArePairs l (l.lists s kind) count
      → ArePairs k (k.lists s kind) count
  kind_back s kind count lt a = record {
    within = a.within;
    exact = λ j. (
      λ h. kind_reached_back s kind j lt ((a.exact j).0 h),
      λ r. (a.exact j).1 (kind_reached_on s kind j lt r),
    );
    sum = omega (
      arith,
      a.sum,
      weight_is a.within,
      ap length (image.lists s kind lt),
      length-map (k.lists s kind) f,
    );
  }

  kind_on : (s : ℕ) (kind : ListKind) (count : ℕ) → s < states → ArePairs k (k.lists s kind) count
      → ArePairs l (l.lists s kind) count
  kind_on s kind count lt a = record {
    within = a.within;
    exact = λ j. (
      λ h. kind_reached_on s kind j lt ((a.exact j).0 h),
      λ r. (a.exact j).1 (kind_reached_back s kind j lt r),
    );
    sum = omega (
      arith,
      a.sum,
      weight_is a.within,
      ap length (image.lists s kind lt),
      length-map (k.lists s kind) f,
    );
  }

  pub below_back : (s count : ℕ) → s ≤ states → PairsBelow l s count → PairsBelow k s count
  below_back zero count le a = a
  below_back (suc s) count le a =
      let lt : s < states = omega arith in (
        a.0,
        a.1,
        record {
          outer = a.2.outer;
          inner = a.2.inner;
          default = a.2.default;
          of_outer = kind_back s Outer a.2.outer lt a.2.of_outer;
          of_inner = kind_back s Inner a.2.inner lt a.2.of_inner;
          of_default = kind_back s Default a.2.default lt a.2.of_default;
          sum = a.2.sum;
        },
        below_back s a.1 (omega arith) a.3,
        a.4,
      )

  pub below_on : (s count : ℕ) → s ≤ states → PairsBelow k s count → PairsBelow l s count
  below_on zero count le a = a
  below_on (suc s) count le a =
      let lt : s < states = omega arith in (
        a.0,
        a.1,
        record {
          outer = a.2.outer;
          inner = a.2.inner;
          default = a.2.default;
          of_outer = kind_on s Outer a.2.outer lt a.2.of_outer;
          of_inner = kind_on s Inner a.2.inner lt a.2.of_inner;
          of_default = kind_on s Default a.2.default lt a.2.of_default;
          sum = a.2.sum;
        },
        below_on s a.1 (omega arith) a.3,
        a.4,
      )
