-- The pass over all states.
use Rattle.std.proofs.Common.{◌≡◌, ℕ, zero, suc, ◌+◌, ◌*◌, ◌≤◌, ◌<◌, List, [], length, get_or, Option, Some, None}
use Rattle.std.proofs.Common.{Bool, true, false, not, refl, sym, ap, ◌∙◌, subst, arith, ⊎_elim, inl, inr}
use Rattle.std.specs.Prelude.{min}
use Rattle.std.specs.Option.{is_some}
use Rattle.std.proofs.lemmas.Bool.{cases_lt}
use Rattle.active_config.specs.Tree.{state_count}
use Rattle.chart_tree.specs.declared.fault.FormKind.TheVariants as kinds
use Rattle.chart_tree.specs.declared.first.FaultAt.{FaultAt}
use Rattle.chart_structure.specs.declared.net.Arrow.{Arrow}
use Rattle.checked_chart.specs.Reached.{Reached, Meets, Itself, AtJunction, ArePairs, StatePairs, PairsBelow, weight}
use Rattle.checked_chart.specs.declared.limits.TheConstants.{PAIR_LIMIT}
use Rattle.checked_chart.specs.declared.parts.ListKind.{ListKind}
use Rattle.checked_chart.specs.declared.parts.ListKind.TheVariants.{Outer, Inner, Default}
use Rattle.chart_structure.specs.Net.{Net, name_of, list_of, junction_count, junction_list, junction_name}
use Rattle.chart_structure.specs.Marks.{has_mark, IsIn, greatest_count, IsWalk}
use Rattle.chart_structure.specs.Reached.{links_of}
use Rattle.chart_tree.specs.First.{at_place, IsFirst, IsOne, Passed}
use Rattle.chart_structure.specs.Structure.{StateFault, ListFault, StructureFault, OfState, OfList, OfEmpty}
use Rattle.chart_structure.specs.Structure.{PairFault, TooMany}
use Rattle.chart_structure.specs.Pass.{KindPassed, StatePassed, AddsPairs, AddsStatePairs, CountsPairs, IsAnswer}
use Rattle.chart_tree.proofs.FirstLemmas.{first_of_passed}
use Rattle.chart_structure.proofs.WeightLemmas.{weight_where}

module _ (n : Net) (s : ℕ) (kind : ListKind) (list : List Arrow) (mark : ℕ) (marks found : List ℕ) (pairs : ℕ)
    (l : list ≡ list_of n s kind) (w : IsWalk n list mark marks found pairs)
    (all : (j : ℕ) → Reached (links_of n) list j → has_mark marks mark j ≡ true) where
  -- what is reached was found
  reached_in : (j : ℕ) → Reached (links_of n) (list_of n s kind) j → IsIn found j
  reached_in j r = w.all j (all j (subst (λ m. Reached (links_of n) m j) (sym l) r))

  -- the faults of the list, and those of each junction that was found, are all that are met from it
  pub kind_passed : (own fault : Option FaultAt) (items : List ℕ) → items ≡ found
      → ((f : FaultAt) → ListFault n s list kind f → Passed own f)
      → ((f : FaultAt) → Passed own f → Passed fault f)
      → ((j : ℕ) → IsIn items j → (f : FaultAt) → ListFault n s (junction_list n j) kind f → Passed fault f)
      → (kind ≡ Default → (j : ℕ) → IsIn items j → junction_list n j ≡ []
      → Passed fault (at_place kinds.DefaultOpen (junction_name n j)))
      → KindPassed n s kind fault
  kind_passed own fault items e here old new empty = record {
    lists = go;
    empty = λ d j r none. empty d j (subst (λ m. IsIn m j) (sym e) (reached_in j r)) none;
  }
    where
      go : (m : List Arrow) → Meets (links_of n) (list_of n s kind) m → (f : FaultAt) → ListFault n s m kind f
          → Passed fault f
      go _ Itself f h = old f (here f (subst (λ m. ListFault n s m kind f) (sym l) h))
      go _ (AtJunction j r) f h = new j (subst (λ m. IsIn m j) (sym e) (reached_in j r)) f h

  -- what the walk counts are the pairs of the list
  pub kind_pairs : (before after : ℕ) → after ≡ min (before + pairs) greatest_count
      → AddsPairs n (list_of n s kind) before after
  kind_pairs before after e = record {
    count =
        length (list_of n s kind) + weight (has_mark marks mark) (λ j. length (junction_list n j)) (junction_count n);
    are = record {
      within = has_mark marks mark;
      exact = λ j. (
        λ h. subst (λ m. Reached (links_of n) m j) l (w.sound j h),
        λ r. all j (subst (λ m. Reached (links_of n) m j) (sym l) r),
      );
      sum = refl;
    };
    sum = e ∙ ap (λ p. min (before + p) greatest_count)
        (w.total ∙ ap (λ (m : List Arrow).
        min (length m + weight (has_mark marks mark) (λ j. length (junction_list n j)) (junction_count n))
        greatest_count) l);
  }

  -- each found junction is there and reached
  pub found_reached : (items : List ℕ) → items ≡ found → (i : ℕ) → i < length items
      → Reached (links_of n) (list_of n s kind) (get_or items i 0)
  found_reached items e i lt =
      subst (λ m. Reached (links_of n) m (get_or items i 0)) l
      (subst (λ (v : List ℕ). Reached (links_of n) list (get_or v i 0)) (sym e)
      (w.sound (get_or found i 0) (w.listed i (subst (λ (v : List ℕ). i < length v) e lt))))

-- what was passed stays so
pub kind_passed_still : (n : Net) (s : ℕ) (kind : ListKind) (r q : Option FaultAt)
    → ((f : FaultAt) → Passed r f → Passed q f) → KindPassed n s kind r → KindPassed n s kind q
kind_passed_still n s kind r q old k =
    record { lists = λ list m f h. old f (k.lists list m f h); empty = λ d j x none. old _ (k.empty d j x none) }

pub state_passed_still : (n : Net) (s : ℕ) (r q : Option FaultAt) → ((f : FaultAt) → Passed r f → Passed q f)
    → StatePassed n s r → StatePassed n s q
state_passed_still n s r q old k =
    record { own = λ f h. old f (k.own f h); kinds = λ kind. kind_passed_still n s kind r q old (k.kinds kind) }

-- a state was passed where it was itself, and then each of its lists
pub state_passed_by : (n : Net) (s : ℕ) (own outer inner all : Option FaultAt)
    → ((f : FaultAt) → StateFault n s f → Passed own f) → ((f : FaultAt) → Passed own f → Passed outer f)
    → ((f : FaultAt) → Passed outer f → Passed inner f) → ((f : FaultAt) → Passed inner f → Passed all f)
    → KindPassed n s Outer outer → KindPassed n s Inner inner → KindPassed n s Default all → StatePassed n s all
state_passed_by n s own outer inner all f a b c x y z = record { own = λ g h. c g (b g (a g (f g h))); kinds = go }
  where
    go : (kind : ListKind) → KindPassed n s kind all
    go Outer = kind_passed_still n s Outer outer all (λ g h. c g (b g h)) x
    go Inner = kind_passed_still n s Inner inner all c y
    go Default = z

-- three sums that stay at a greatest number are one such sum
sum_of : (m before r1 r2 r3 o i d : ℕ) → r1 ≡ min (before + min o m) m → r2 ≡ min (r1 + min i m) m
    → r3 ≡ min (r2 + min d m) m → r3 ≡ min (min before m + (o + i + d)) m
sum_of m before r1 r2 r3 o i d e f g = omega arith

pub state_pairs : (n : Net) (s before r1 r2 r3 : ℕ) → AddsPairs n (list_of n s Outer) before r1
    → AddsPairs n (list_of n s Inner) r1 r2 → AddsPairs n (list_of n s Default) r2 r3
    → AddsStatePairs n s before r3
state_pairs n s before r1 r2 r3 a b c = record {
  count = a.count + b.count + c.count;
  are = record {
    outer = a.count;
    inner = b.count;
    default = c.count;
    of_outer = a.are;
    of_inner = b.are;
    of_default = c.are;
    sum = refl;
  };
  sum = sum_of greatest_count before r1 r2 r3 a.count b.count c.count a.sum b.sum c.sum;
}

-- ---- all states

-- what is known when the first s states were looked at
pub record StatesSoFar (n : Net) (s : ℕ) (marks : List ℕ) (fault : Option FaultAt) (pairs : ℕ) : Type 0 where
  pub sized : length marks ≡ junction_count n
  pub below : (j : ℕ) → get_or marks j 0 ≤ 3 * s
  pub one : IsOne (StructureFault n) fault
  pub passed : (t : ℕ) → t < s → StatePassed n t fault
  pub count : ℕ
  pub are : PairsBelow (links_of n) s count
  pub bounded : pairs ≡ min count greatest_count

pub states_start : (n : Net) (marks : List ℕ) → length marks ≡ junction_count n → ((j : ℕ) → get_or marks j 0 ≡ 0)
    → StatesSoFar n 0 marks None 0
states_start n marks sized none = record {
  sized = sized;
  below = λ j. omega (arith, none j);
  one = tt;
  passed = λ t lt. absurd (omega arith);
  count = 0;
  are = refl;
  bounded = refl;
}

-- a sum that stays at a greatest number, with one more summand
more_sum : (m p q c own : ℕ) → p ≡ min c m → q ≡ min (min p m + own) m → q ≡ min (c + own) m
more_sum m p q c own e f = omega arith

below_suc : (n : Net) (s count own below : ℕ) → StatePairs (links_of n) s own → PairsBelow (links_of n) s below
    → count ≡ below + own → PairsBelow (links_of n) (s + 1) count
below_suc n s count own below a b e =
    let same : suc s ≡ s + 1 = omega arith in subst (λ m. PairsBelow (links_of n) m count) same (own, below, a, b, e)

-- one state more
pub states_more : (n : Net) (s : ℕ) (marks more : List ℕ) (fault next : Option FaultAt) (pairs total : ℕ)
    → StatesSoFar n s marks fault pairs → length more ≡ length marks
    → ((j : ℕ) → get_or more j 0 ≤ 3 * (s + 1)) → IsOne (StructureFault n) next
    → ((f : FaultAt) → Passed fault f → Passed next f) → StatePassed n s next → AddsStatePairs n s pairs total
    → StatesSoFar n (s + 1) more next total
states_more n s marks more fault next pairs total so len below one old here adds = record {
  sized = len ∙ so.sized;
  below = below;
  one = one;
  passed =
      λ t lt. ⊎_elim (λ less. state_passed_still n t fault next old (so.passed t less))
      (λ eq. let same : s ≡ t = omega arith in subst (λ m. StatePassed n m next) same here) (cases_lt t s);
  count = so.count + adds.count;
  are = below_suc n s (so.count + adds.count) adds.count so.count adds.are so.are refl;
  bounded = more_sum greatest_count pairs total so.count adds.count so.bounded adds.sum;
}

-- after all states the fault that is kept is the first of all
pub states_first : (n : Net) (s : ℕ) (marks : List ℕ) (fault : Option FaultAt) (pairs : ℕ) → state_count n.tree ≤ s
    → StatesSoFar n s marks fault pairs → IsFirst (StructureFault n) fault
states_first n s marks fault pairs le so = first_of_passed (StructureFault n) fault so.one go
  where
    go : (f : FaultAt) → StructureFault n f → Passed fault f
    go f (OfState t _ lt h) = (so.passed t (omega arith)).own f h
    go f (OfList t kind list _ lt m h) = ((so.passed t (omega arith)).kinds kind).lists list m f h
    go _ (OfEmpty t j lt r none) = ((so.passed t (omega arith)).kinds Default).empty refl j r none

pub states_pairs : (n : Net) (s : ℕ) (marks : List ℕ) (fault : Option FaultAt) (pairs : ℕ) → s ≡ state_count n.tree
    → StatesSoFar n s marks fault pairs → CountsPairs n pairs
states_pairs n s marks fault pairs e so =
    record { count = so.count; are = subst (λ m. PairsBelow (links_of n) m so.count) e so.are; bounded = so.bounded }

-- ---- there is one count

pub pairs_same : (n : Net) (list : List Arrow) (a b : ℕ) → ArePairs (links_of n) list a
    → ArePairs (links_of n) list b → a ≡ b
pairs_same n list a b x y =
    let e = weight_where y.within x.within (λ j. length (junction_list n j)) (junction_count n)
    (λ i h. (x.exact i).1 ((y.exact i).0 h)) (λ i h. (y.exact i).1 ((x.exact i).0 h)) in
    omega (arith, x.sum, y.sum)

state_same : (n : Net) (s a b : ℕ) → StatePairs (links_of n) s a → StatePairs (links_of n) s b → a ≡ b
state_same n s a b x y =
    let o = pairs_same n _ _ _ x.of_outer y.of_outer in
    let i = pairs_same n _ _ _ x.of_inner y.of_inner in
    let d = pairs_same n _ _ _ x.of_default y.of_default in
    omega (arith, x.sum, y.sum)

pub below_same : (n : Net) (s a b : ℕ) → PairsBelow (links_of n) s a → PairsBelow (links_of n) s b → a ≡ b
below_same n zero a b x y = omega arith
below_same n (suc s) a b x y =
    let o = state_same n s x.0 y.0 x.2 y.2 in
    let r = below_same n s x.1 y.1 x.3 y.3 in
    let e = x.4 in
    let f = y.4 in
    omega arith

-- ---- the answer

-- without a fault of structure, too many pairs are the answer
pub answer_pairs : (n : Net) (fault : Option FaultAt) (total : ℕ) → IsFirst (StructureFault n) fault
    → CountsPairs n total → fault ≡ None → PAIR_LIMIT < total
    → IsAnswer n (Some (at_place kinds.TooManyPairs (name_of n 0)))
answer_pairs n fault total first c e lt =
    inr (subst (IsFirst (StructureFault n)) e first, TooMany c.count c.are (omega (arith, c.bounded)))

-- else the first fault of structure is
pub answer_first : (n : Net) (fault : Option FaultAt) (total : ℕ) → IsFirst (StructureFault n) fault
    → CountsPairs n total → (fault ≡ None → total ≤ PAIR_LIMIT) → IsAnswer n fault
answer_first n (Some f) total first c few = inl first
answer_first n None total first c few = (first, go)
  where
    go : (f : FaultAt) → PairFault n f → ⊥
    go _ (TooMany count are over) =
        absurd (let e = below_same n (state_count n.tree) c.count count c.are are in
        let k = few refl in omega (arith, c.bounded))

-- what `is_none` answers
pub none_where : (o : Option FaultAt) (b : Bool) → is_some o ≡ not b → b ≡ true → o ≡ None
none_where None b e f = refl
none_where (Some x) b e f = absurd (let g = ap not f in cc)

pub some_where : (o : Option FaultAt) (b : Bool) → is_some o ≡ not b → b ≡ false → o ≡ None → ⊥
some_where None b e f g = absurd (let h = ap not f in cc)
some_where (Some x) b e f g = absurd cc
