-- What guards, assignments and inputs make of data in a box stays in what is made of the box.
use Rattle.std.proofs.Common.{◌≡◌, ◌^◌, ◌≤◌, ◌<◌, ◌≤ℤ◌, ℕ, zero, suc, ℤ, pos}
use Rattle.std.proofs.Common.{negsuc}
use Rattle.std.proofs.Common.{Bool, true, false, ◌&&◌, cond, int_lt, int_le, Ok, Err, List, [], ◌∷◌, map, length}
use Rattle.std.proofs.Common.{get_or}
use Rattle.std.proofs.Common.{Option, Some, None, Result, refl, sym, ap, ◌∙◌, subst, arith, slice_get}
use Rattle.std.proofs.Common.{get_or-set_other, if◌then◌else◌}
use Rattle.std.proofs.lemmas.Int.{ints}
use Rattle.std.proofs.lemmas.List.{get_or-set_same, length-map}
use Rattle.std.proofs.Math.Pow.{shr_mono}
use Rattle.flow_base.specs.declared.fault.Fault.{Fault}
use Rattle.fixed_point.specs.declared.fitting.Mode.{Mode}
use Rattle.fixed_point.specs.declared.fitting.Mode.TheVariants.{Saturate, Wrap, Error}
use Rattle.fixed_point.specs.declared.fitting.Overflow.{Overflow}
use Rattle.fixed_point.specs.declared.num.Num.{Num}
use Rattle.fixed_point.specs.declared.scale.Scale.{Scale}
use Rattle.fixed_point.specs.Numbers.{floored, floor_by}
use Rattle.fixed_point.specs.Scales.{least, greatest, is_in_range, fitted, by_mode, wrapped}
use Rattle.active_config.specs.Marks.{Configuration}
use Rattle.actions.specs.declared.expr.Value.{Value}
use Rattle.actions.specs.declared.expr.Value.TheVariants as values
use Rattle.actions.specs.declared.names.Sort.{Sort}
use Rattle.actions.specs.declared.names.Sort.TheVariants as sorts
use Rattle.actions.specs.declared.names.Var.{Var}
use Rattle.actions.specs.declared.names.VarKind.TheVariants as kinds
use Rattle.actions.specs.Data.{Datum, datum, no_datum, initial, declared_datum, kept, kept_number, keep}
use Rattle.actions.specs.Data.{assigned}
use Rattle.actions.specs.Data.{with_mantissa, mantissa_in}
use Rattle.actions.specs.Engines.{IsInputValue}
use Rattle.actions.specs.Exprs.{Expr}
use Rattle.actions.specs.Names.{Names}
use Rattle.actions.specs.Values.{value_of, flag_of}
use Rattle.actions.specs.World.{Declaration, of_data, of_names}
use Rattle.actions.proofs.AssignmentLemmas.{of_data-assigned}
use Rattle.actions.proofs.RangeLemmas.{fitted_is_in}
use Rattle.actions.proofs.StoredLemmas.{stored, stored_in_range, mantissa_there}
use Rattle.range_spans.specs.Spans.{Span, IsIn, is_inside, greater, smaller}
use Rattle.range_spans.specs.Known.{Known, Truth, Number, Nothing, Has, Tells, guess}
use Rattle.range_spans.specs.Boxes.{Box, sort_at, mode_at, IsBox, put, Kept, all_in_range, by_mode_kept}
use Rattle.range_spans.specs.Boxes.{fit_kept}
use Rattle.range_spans.specs.Boxes.{floors, number_kept, point, may_be, narrowed, IsStored}
use Rattle.range_spans.specs.Boxes.{is_input, is_input_at, freed, CoversInputs}
use Rattle.range_spans.proofs.Guesses.{guess_tells, times_le}
use Rattle.range_spans.proofs.Narrowing.{same_or_not, narrowed_holds}

-- ---- what is declared of a datum

abbrev declared_of : Var → Declaration
declared_of x = record { sort = x.sort; mode = x.mode }

abbrev fixed_of : Datum → Declaration
fixed_of d = record { sort = d.sort; mode = d.mode }

-- the sort and the mode of a datum are those of its declaration
same_declared : (vals : List Datum) (vars : List Var) (v : ℕ) → of_data vals ≡ map declared_of vars
    → fixed_of (get_or vals v no_datum) ≡ fixed_of (get_or (map declared_datum vars) v no_datum)
same_declared [] [] v e = refl
same_declared [] (x ∷ vars) v e = absurd cc
same_declared (d ∷ vals) [] v e = absurd cc
same_declared (d ∷ vals) (x ∷ vars) zero e = cc
same_declared (d ∷ vals) (x ∷ vars) (suc v) e =
    let rest : of_data vals ≡ map declared_of vars = cc in same_declared vals vars v rest

declared_at : (n : Names) (vals : List Datum) (v : ℕ) → of_data vals ≡ of_names n
    → fixed_of (datum vals v) ≡ fixed_of (datum (initial n) v)
unfolding datum initial
declared_at n vals v e = same_declared vals n.vars v e

pub sort_declared : (n : Names) (vals : List Datum) (v : ℕ) → of_data vals ≡ of_names n
    → (datum vals v).sort ≡ sort_at n v
sort_declared n vals v e = ap (λ (x : Declaration). x.sort) (declared_at n vals v e)

mode_declared : (n : Names) (vals : List Datum) (v : ℕ) → of_data vals ≡ of_names n → (datum vals v).mode ≡ mode_at n v
mode_declared n vals v e = ap (λ (x : Declaration). x.mode) (declared_at n vals v e)

-- what is declared at a number
got_within : {A : Type 0} (xs : List A) (i : ℕ) (x : A) → slice_get xs i ≡ Some x → i < length xs
got_within [] i x e = absurd cc
got_within (y ∷ xs) zero x e = omega arith
got_within (y ∷ xs) (suc i) x e = let h = got_within xs i x e in omega arith

var_sort : (vars : List Var) (v : ℕ) (decl : Var) → slice_get vars v ≡ Some decl
    → (get_or (map declared_datum vars) v no_datum).sort ≡ decl.sort
var_sort [] v decl e = absurd cc
var_sort (x ∷ vars) zero decl e = let h : x ≡ decl = cc in ap (λ (y : Var). y.sort) h
var_sort (x ∷ vars) (suc v) decl e = let h : slice_get vars v ≡ Some decl = cc in var_sort vars v decl h

initial_sort : (n : Names) (v : ℕ) (decl : Var) → slice_get n.vars v ≡ Some decl → sort_at n v ≡ decl.sort
unfolding datum initial
initial_sort n v decl e = var_sort n.vars v decl e

-- there are as many data as are declared
pub count_declared : (n : Names) (vals : List Datum) → of_data vals ≡ of_names n → length vals ≡ length n.vars
count_declared n vals e =
    sym (length-map vals fixed_of) ∙ ap length e ∙ length-map n.vars declared_of

-- ---- what a datum keeps

-- a floor keeps the order
floor_le : (a b : ℤ) (k : ℕ) → a ≤ℤ b → floor_by a (2 ^ k) ≤ℤ floor_by b (2 ^ k)
floor_le (pos a) (pos b) k h =
    let l : a ≤ b = grind (arith, ints) in let m = shr_mono k l in grind (arith, ints)
floor_le (pos a) (negsuc b) k h = absurd (grind (arith, ints))
floor_le (negsuc a) (pos b) k h = grind (arith, ints)
floor_le (negsuc a) (negsuc b) k h =
    let l : b ≤ a = grind (arith, ints) in let m = shr_mono k l in grind (arith, ints)

-- a number of a span has a floor in the floors of the span
floors_have : (s : Span) (n : Num) (scale : Scale) → IsIn s n.mantissa → IsIn (floors s n.frac scale)
    (floored n scale.frac)
floors_have s n scale h = record {
  above = floor_le _ _ n.frac (times_le s.low n.mantissa (2 ^ scale.frac) h.above);
  below = floor_le _ _ n.frac (times_le n.mantissa s.high (2 ^ scale.frac) h.below);
}

-- what is kept is one of those
abbrev KeepsIn : Kept → Result ℤ Overflow → Type 0
KeepsIn k (Ok m) = IsIn k.span m
KeepsIn k (Err e) = k.over ≡ true

-- what lies between two numbers that are in a range is in it
between_in : (l g : ℤ) (s : Span) (z : ℤ) → IsIn s z
    → ((int_le l s.low && int_le s.low g) && (int_le l s.high && int_le s.high g)) ≡ true
    → (int_le l z && int_le z g) ≡ true
between_in l g s z h e = let p = h.above in let q = h.below in grind (arith, ints)

clamped_own : (l g : ℤ) (s : Span) (z : ℤ) → IsIn s z → (int_le l z && int_le z g) ≡ true
    → IsIn (record { low = greater l (smaller s.low g); high = smaller g (greater s.high l) }) z
clamped_own l g s z h e =
    let p = h.above in let q = h.below in record { above = grind (arith, ints); below = grind (arith, ints) }

clamped_end : (l g : ℤ) (s : Span) (z : ℤ) → l ≤ℤ g → IsIn s z → (int_le l z && int_le z g) ≡ false
    → IsIn (record { low = greater l (smaller s.low g); high = smaller g (greater s.high l) })
    (if int_lt z l then l else g)
clamped_end l g s z o h e =
    let p = h.above in let q = h.below in record { above = grind (arith, ints); below = grind (arith, ints) }

whole_in : (l g m : ℤ) → (int_le l m && int_le m g) ≡ true → IsIn (record { low = l; high = g }) m
whole_in l g m e = record { above = grind (arith, ints); below = grind (arith, ints) }

some_range : (l g m : ℤ) → (int_le l m && int_le m g) ≡ true → l ≤ℤ g
some_range l g m e = grind (arith, ints)

-- what the mode makes of a number out of range
by_mode_keeps : (mode : Mode) (scale : Scale) (s : Span) (z : ℤ) → IsIn s z → is_in_range scale z ≡ false
    → ((m : ℤ) → by_mode mode scale z ≡ Ok m → is_in_range scale m ≡ true)
    → KeepsIn (by_mode_kept mode scale s) (by_mode mode scale z)
by_mode_keeps Saturate scale s z h e in_range =
    clamped_end (least scale) (greatest scale) s z (some_range (least scale) (greatest scale) _ (in_range _ refl)) h e
by_mode_keeps Wrap scale s z h e in_range = whole_in (least scale) (greatest scale) (wrapped scale z) (in_range _ refl)
by_mode_keeps Error scale s z h e in_range = refl

-- a number in range is kept, also where the span has others
own_keeps : (mode : Mode) (scale : Scale) (s : Span) (z : ℤ) → IsIn s z → is_in_range scale z ≡ true
    → IsIn (by_mode_kept mode scale s).span z
own_keeps Saturate scale s z h e = clamped_own (least scale) (greatest scale) s z h e
own_keeps Wrap scale s z h e = whole_in (least scale) (greatest scale) z e
own_keeps Error scale s z h e = clamped_own (least scale) (greatest scale) s z h e

fit_keeps : (mode : Mode) (scale : Scale) (s : Span) (z : ℤ) (all own : Bool) → IsIn s z
    → all_in_range scale s ≡ all → is_in_range scale z ≡ own
    → ((m : ℤ) → cond own (Ok z) (by_mode mode scale z) ≡ Ok m → is_in_range scale m ≡ true)
    → KeepsIn (cond all (record { span = s; over = false }) (by_mode_kept mode scale s))
    (cond own (Ok z) (by_mode mode scale z))
fit_keeps mode scale s z true true h a o r = h
fit_keeps mode scale s z true false h a o r =
    absurd (false_true (sym o ∙ between_in (least scale) (greatest scale) s z h a))
  where
    false_true : false ≡ true → ⊥
    false_true e = absurd cc
fit_keeps mode scale s z false true h a o r = own_keeps mode scale s z h o
fit_keeps mode scale s z false false h a o r = by_mode_keeps mode scale s z h o r

fitted_keeps : (n : Num) (scale : Scale) (mode : Mode) (s : Span) → IsIn s (floored n scale.frac)
    → KeepsIn (fit_kept mode scale s) (fitted n scale mode)
unfolding fitted
fitted_keeps n scale mode s h =
    fit_keeps mode scale s (floored n scale.frac) (all_in_range scale s) (is_in_range scale (floored n scale.frac)) h
    refl
    refl (λ m e. fitted_is_in n scale mode m e)

-- what a datum keeps of a value, where something is known of it
abbrev KeepsWhere : Option Kept → Result ℤ Overflow → Type 0
KeepsWhere None r = Unit {0}
KeepsWhere (Some k) r = KeepsIn k r

number_keeps : (d : Datum) (s : Span) (n : Num) → IsIn s n.mantissa
    → KeepsWhere (number_kept d.sort d.mode s n.frac) (kept (values.Number n) d)
number_keeps d s n h = at d.sort
  where
    at : (sort : Sort) → KeepsWhere (number_kept sort d.mode s n.frac) (kept_number n sort d.mode)
    at sorts.Flag = tt
    at (sorts.Number scale) = fitted_keeps n scale d.mode (floors s n.frac scale) (floors_have s n scale h)

-- a flag is kept as it is
point_keeps : (b : Bool) → IsIn (point b) (cond b (pos 1) (pos 0))
point_keeps true = record { above = omega (arith, ints); below = omega (arith, ints) }
point_keeps false = record { above = omega (arith, ints); below = omega (arith, ints) }

-- ---- data after a change of one

put_inside : (box : Box) (v : ℕ) (s : Span) (vals : List Datum) (m : ℤ) → v < length vals
    → ((u : ℕ) → IsIn (box u) (datum vals u).mantissa) → IsIn s m
    → (u : ℕ) → IsIn (put v s box u) (datum (with_mantissa vals v m) u).mantissa
unfolding datum
put_inside box v s vals m lt i h u =
    let d : Datum = record (get_or vals v no_datum) { mantissa = m } in
    same_or_not (λ b. IsIn (cond b s (box u)) (get_or (with_mantissa vals v m) u no_datum).mantissa) u v
    (λ e. subst (λ (x : Datum). IsIn s x.mantissa)
    (sym (ap (λ j. get_or (with_mantissa vals v m) j no_datum) e ∙ get_or-set_same vals v d no_datum lt)) h)
    (λ e. subst (λ (x : Datum). IsIn (box u) x.mantissa) (sym (get_or-set_other vals v u d no_datum e)) (i u))

always_inside : (always : Box) (v : ℕ) (vals : List Datum) (m : ℤ) → v < length vals
    → ((u : ℕ) → IsIn (always u) (datum vals u).mantissa) → IsIn (always v) m
    → (u : ℕ) → IsIn (always u) (datum (with_mantissa vals v m) u).mantissa
unfolding datum
always_inside always v vals m lt i h u =
    let d : Datum = record (get_or vals v no_datum) { mantissa = m } in
    same_or_not (λ b. IsIn (always u) (get_or (with_mantissa vals v m) u no_datum).mantissa) u v
    (λ e. subst (λ (x : Datum). IsIn (always u) x.mantissa)
    (sym (ap (λ j. get_or (with_mantissa vals v m) j no_datum) e ∙ get_or-set_same vals v d no_datum lt))
    (subst (λ j. IsIn (always j) m) (sym e) h))
    (λ e. subst (λ (x : Datum). IsIn (always u) x.mantissa) (sym (get_or-set_other vals v u d no_datum e)) (i u))

pub inside_in : (s t : Span) (m : ℤ) → is_inside s t ≡ true → IsIn s m → IsIn t m
inside_in s t m e h =
    let p = h.above in let q = h.below in record { above = grind (arith, ints); below = grind (arith, ints) }

pub both_left : (a b : Bool) → (a && b) ≡ true → a ≡ true
both_left true b e = refl
both_left false b e = absurd cc

pub both_right : (a b : Bool) → (a && b) ≡ true → b ≡ true
both_right true b e = e
both_right false b e = absurd cc

module _ (n : Names) (always : Box) where
  -- ---- assignments

  -- a mantissa that is stored
  pub stored_box : (v : ℕ) (span : Span) (box : Box) (vals : List Datum) (m : ℤ) → is_inside span (always v) ≡ true
      → v < length n.vars → IsBox n always box vals → IsIn span m → of_data (with_mantissa vals v m) ≡ of_names n
      → IsBox n always (put v span box) (with_mantissa vals v m)
  stored_box v span box vals m q few h i e =
      let lt : v < length vals = omega (arith, count_declared n vals h.declared) in
      record {
        declared = e;
        at_each_moment = always_inside always v vals m lt h.at_each_moment (inside_in span (always v) m q i);
        inside = put_inside box v span vals m lt h.inside i;
      }

  -- what is known of an expression where the data are in a box
  pub guess_holds : (e : Expr) (box : Box) (vals : List Datum) (marks : Configuration) → IsBox n always box vals
      → Tells (guess (sort_at n) box marks e) (value_of vals marks e)
  guess_holds e box vals marks h =
      guess_tells (sort_at n) box vals marks e (λ v. sort_declared n vals v h.declared) h.inside

  -- a value may have the truth that it has
  may_be_own : (k : Known) (x : Value) → Has k x → may_be (flag_of x) k ≡ true
  may_be_own (Truth f t) (values.Flag b) h = h
  may_be_own (Truth f t) (values.Number m) h = absurd h
  may_be_own (Number s frac) x h = refl
  may_be_own Nothing x h = refl

  pub truth_may_be : (e : Expr) (box : Box) (vals : List Datum) (marks : Configuration) (x : Value)
      → IsBox n always box vals → value_of vals marks e ≡ Ok x
      → may_be (flag_of x) (guess (sort_at n) box marks e).known ≡ true
  truth_may_be e box vals marks x h is =
      may_be_own (guess (sort_at n) box marks e).known x
      (subst (Tells (guess (sort_at n) box marks e)) is (guess_holds e box vals marks h))

  -- what a guard leaves of a box has the data
  pub narrowed_box : (e : Expr) (truth : Bool) (x : Value) (box : Box) (vals : List Datum) (marks : Configuration)
      → IsBox n always box vals → value_of vals marks e ≡ Ok x → flag_of x ≡ truth
      → IsBox n always (narrowed (sort_at n) e truth box) vals
  narrowed_box e truth x box vals marks h is f = record {
    declared = h.declared;
    at_each_moment = h.at_each_moment;
    inside = narrowed_holds (sort_at n) vals marks (λ v. sort_declared n vals v h.declared) e truth x box h.inside is f;
  }

  -- a number is kept in the span that is told, or overflows where that is told
  kept_data : (v : ℕ) (k : Kept) (box : Box) (vals : List Datum) (r : Result ℤ Overflow) → KeepsIn k r
      → is_inside k.span (always v) ≡ true → v < length n.vars → IsBox n always box vals
      → ((m : ℤ) → r ≡ Ok m → of_data (with_mantissa vals v m) ≡ of_names n)
      → IsStored n always (put v k.span box) v k.over (keep vals v r)
  kept_data v k box vals (Err o) keeps q few h f = (refl, keeps)
  kept_data v k box vals (Ok m) keeps q few h f = stored_box v k.span box vals m q few h keeps (f m refl)

  pub number_stored : (v : ℕ) (s : Span) (m : Num) (k : Kept) (box : Box) (vals : List Datum)
      → IsIn s m.mantissa → Some k ≡ number_kept (sort_at n v) (mode_at n v) s m.frac
      → is_inside k.span (always v) ≡ true → v < length n.vars → IsBox n always box vals
      → IsStored n always (put v k.span box) v k.over (assigned vals v (values.Number m))
  unfolding assigned
  number_stored v s m k box vals i is q few h =
      let keeps = subst (λ (o : Option Kept). KeepsWhere o (kept (values.Number m) (datum vals v))) (sym is)
      (subst (λ (d : Mode). KeepsWhere (number_kept (sort_at n v) d s m.frac) (kept (values.Number m) (datum vals v)))
      (mode_declared n vals v h.declared)
      (subst (λ (q : Sort). KeepsWhere (number_kept q (datum vals v).mode s m.frac)
      (kept (values.Number m) (datum vals v)))
      (sort_declared n vals v h.declared) (number_keeps (datum vals v) s m i))) in
      kept_data v k box vals (kept (values.Number m) (datum vals v)) keeps q few h
      (λ z e. of_data-assigned vals (with_mantissa vals v z) v (values.Number m) (ap (keep vals v) e) ∙ h.declared)

  -- a flag is kept as it is
  pub flag_stored : (v : ℕ) (b over : Bool) (box : Box) (vals : List Datum)
      → is_inside (point b) (always v) ≡ true → v < length n.vars → IsBox n always box vals
      → IsStored n always (put v (point b) box) v over (assigned vals v (values.Flag b))
  unfolding assigned
  flag_stored v b over box vals q few h =
      let m = cond b (pos 1) (pos 0) in
      stored_box v (point b) box vals m q few h (point_keeps b)
      (of_data-assigned vals (with_mantissa vals v m) v (values.Flag b) refl ∙ h.declared)

  -- ---- inputs

  pub freed_box : (box : Box) (vals : List Datum) → IsBox n always box vals → IsBox n always (freed n always box) vals
  freed_box box vals h = record {
    declared = h.declared;
    at_each_moment = h.at_each_moment;
    inside = λ v. at v (is_input_at (slice_get n.vars v));
  }
    where
      at : (v : ℕ) (b : Bool) → IsIn (cond b (always v) (box v)) (datum vals v).mantissa
      at v true = h.at_each_moment v
      at v false = h.inside v

  pub input_freed : (box : Box) (v : ℕ) (decl : Var) → slice_get n.vars v ≡ Some decl → decl.kind ≡ kinds.Input
      → freed n always box v ≡ always v
  input_freed box v decl e k =
      ap (λ o. cond (is_input_at o) (always v) (box v)) e
      ∙ ap (λ kind. cond (is_input kind) (always v) (box v)) k

  -- the value that an input is given is one that it may have
  pub sets_box : CoversInputs n always → (box : Box) (v : ℕ) (value : Value) (vals vals' : List Datum)
      → IsInputValue n v value → assigned vals v value ≡ Ok vals' → IsBox n always (freed n always box) vals
      → IsBox n always (freed n always box) vals'
  sets_box covers box v value vals vals' is e h =
      let lt : v < length vals = omega (arith, count_declared n vals h.declared, got_within n.vars v is.0 is.1) in
      let there = mantissa_there is.0.sort value is.3 in
      let m = there.0 in
      let sort : (datum vals v).sort ≡ is.0.sort = sort_declared n vals v h.declared ∙ initial_sort n v is.0 is.1 in
      let done = stored vals v value m (subst (λ (q : Sort). mantissa_in q value ≡ Some m) (sym sort) there.1) in
      let same : with_mantissa vals v m ≡ vals' = one_ok (with_mantissa vals v m) vals' (sym done ∙ e) in
      let i : IsIn (always v) m = covers.covers v is.0 m is.1 is.2 (stored_in_range is.0.sort value m there.1) in
      let f : IsIn (freed n always box v) m = subst (λ s. IsIn s m) (sym (input_freed box v is.0 is.1 is.2)) i in
      record {
        declared = of_data-assigned vals vals' v value e ∙ h.declared;
        at_each_moment = subst (λ (l : List Datum). (u : ℕ) → IsIn (always u) (datum l u).mantissa) same
            (always_inside always v vals m lt h.at_each_moment i);
        inside = subst (λ (l : List Datum). (u : ℕ) → IsIn (freed n always box u) (datum l u).mantissa) same
            (always_inside (freed n always box) v vals m lt h.inside f);
      }
    where
      ok : List Datum → Result (List Datum) Fault
      ok a = Ok a

      one_ok : (a b : List Datum) → ok a ≡ ok b → a ≡ b
      one_ok a b e = cc
