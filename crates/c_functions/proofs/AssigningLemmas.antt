-- The statements of an assignment store what the datum keeps, and the struct shows the new data.
use Rattle.std.proofs.Common.{◌≡◌, ℕ, zero, suc, ◌<◌, ℤ, Bool, List, [], ◌∷◌, length, slice_get, slice_set, Some, None}
use Rattle.std.proofs.Common.{Option, Result, Ok, Err, IfOk, refl, sym, ap, ◌∙◌, subst, arith}
use Rattle.flow_base.specs.declared.fault.Fault.{Fault}
use Rattle.flow_base.specs.declared.fault.Fault.TheVariants.{Overflow as Overflows}
use Rattle.fixed_point.specs.declared.scale.Scale.{Scale}
use Rattle.fixed_point.specs.declared.fitting.Mode.{Mode}
use Rattle.fixed_point.specs.declared.fitting.Mode.TheVariants.{Saturate, Wrap, Error}
use Rattle.fixed_point.specs.declared.fitting.Overflow.{Overflow}
use Rattle.fixed_point.specs.Scales.{fitted}
use Rattle.active_config.specs.Marks.{Configuration}
use Rattle.actions.specs.declared.expr.Value.TheVariants as values
use Rattle.actions.specs.declared.names.Sort.{Sort}
use Rattle.actions.specs.declared.names.Sort.TheVariants as sorts
use Rattle.actions.specs.declared.sort.ExprSort.{ExprSort}
use Rattle.actions.specs.declared.sort.ExprSort.TheVariants as kinds
use Rattle.actions.specs.Data.{Datum, datum, with_mantissa, keep, kept_number, assigned}
use Rattle.actions.specs.Exprs.{Expr}
use Rattle.actions.specs.Sorts.{sort_of, assignment_fault}
use Rattle.actions.specs.Values.{Valued, HasSort, value_of, scope_at}
use Rattle.actions.proofs.RangeLemmas.{fitted_is_in}
use Rattle.c_subset.specs.Trees.{CExpr, Block, Store as PutField}
use Rattle.c_subset.specs.declared.trees.Width.{Width}
use Rattle.c_subset.specs.declared.trees.CType.TheVariants.{Truth}
use Rattle.c_subset.specs.Meaning.{CValue, Meaning, Object, with_meaning, gives, converted, one_if, Store, Locals}
use Rattle.c_subset.specs.Running.{Calls, with_value, brought_to, with_field, outcome}
use Rattle.c_subset.proofs.TypeLemmas.{truth-stays}
use Rattle.c_functions.specs.Code.{Faults, ending, Divides, Returning}
use Rattle.c_functions.specs.Translation.{Flat, flat}
use Rattle.c_functions.specs.Storing.{Stores, stored_c, StoresAs}
use Rattle.c_functions.specs.Claims.{ShowsData, field_type, field_of, Has, EndsAs}
use Rattle.c_functions.specs.Assigning.{stores_of, assigned_block, assigned_by, EndsAssigned, CanAssign}
use Rattle.c_functions.proofs.TranslationEnds.{ends_as_value, value_has_sort}
use Rattle.c_functions.proofs.CodePieces.{agree-itself, then-faults}
use Rattle.c_functions.proofs.StoringFields.{field-takes}
use Rattle.c_functions.proofs.StoringAssignments.{assigns}
use Rattle.c_functions.proofs.CodeStatements.{written-goes, written-faults}

-- ---- the struct

-- a field that is stored as a datum is, among fields that show data
pub set-shows : (vals : List Datum) (fields : List Object) (v : ℕ) (d : Datum)
    → ((u : ℕ) → u < length vals → slice_get fields u ≡ Some (field_of (datum vals u))) → v < length vals
    → (u : ℕ) → u < length (slice_set vals v d)
    → slice_get (slice_set fields v (field_of d)) u ≡ Some (field_of (datum (slice_set vals v d) u))
unfolding datum
set-shows [] fields v d show lt u within = absurd (omega arith)
set-shows (x ∷ vals) [] v d show lt u within = absurd (let e = show 0 (omega arith) in cc)
set-shows (x ∷ vals) (f ∷ fields) zero d show lt zero within = refl
set-shows (x ∷ vals) (f ∷ fields) zero d show lt (suc u) within = show (suc u) within
set-shows (x ∷ vals) (f ∷ fields) (suc v) d show lt zero within = show zero (omega arith)
set-shows (x ∷ vals) (f ∷ fields) (suc v) d show lt (suc u) within =
    set-shows vals fields v d (λ u lt. show (suc u) (omega arith)) (omega arith) u (omega arith)

-- the statement that stores the mantissa of a datum
put-stores : (int : Width) (calls : Calls) (k : ℕ) (s : Store) (l : Locals) (vals : List Datum) (v : ℕ) (m : ℤ)
    (e : CExpr)
    (rest : Block) → ShowsData vals s → v < length vals → Has int s l e m
    → converted (field_type (datum vals v).sort) m ≡ gives (field_type (datum vals v).sort) m
    → (outcome int calls k (PutField v e rest) s l
    ≡ outcome int calls k rest (with_field s v (record { type = field_type (datum vals v).sort; value = m })) l)
    × ShowsData (with_mantissa vals v m) (with_field s v (record { type = field_type (datum vals v).sort; value = m }))
unfolding outcome
put-stores int calls k s l vals v m e rest show lt has takes = (
  ap (λ (x : Meaning). with_value (with_meaning x (λ x. brought_to (slice_get s.fields v) x.value))
      (λ y. outcome int calls k rest (with_field s v y) l)) has.1
      ∙ ap (λ (o : Option Object). with_value (brought_to o m) (λ y. outcome int calls k rest (with_field s v y) l))
      (show v lt)
      ∙ ap (λ (x : Meaning). with_value x (λ y. outcome int calls k rest (with_field s v y) l)) takes,
  set-shows vals s.fields v (record (datum vals v) { mantissa = m }) show lt,
)

-- ---- what is kept

-- a flag is stored as it is
flag-takes : (b : Bool) → converted Truth (one_if b) ≡ gives Truth (one_if b)
flag-takes b = ap (λ (c : Bool). gives Truth (one_if c)) (truth-stays b)

-- ---- assignments

-- the fault of an expression is one of its assignment
stored-faults : (int : Width) (s : Store) (l : Locals) (v frac size : ℕ) (scale : Scale) (mode : Mode) (x : Flat)
    (f : Fault)
    → ending int s l x.code ≡ Faults f → ending int s l (stored_c v frac size scale mode x).code ≡ Faults f
stored-faults int s l v frac size scale Saturate x f is = then-faults int s l x.code _ f is
stored-faults int s l v frac size scale Wrap x f is = then-faults int s l _ _ f (then-faults int s l x.code _ f is)
stored-faults int s l v frac size scale Error x f is = then-faults int s l _ _ f (then-faults int s l x.code _ f is)

module _ (int : Width) (calls : Calls) (k : ℕ) (helper : Width → ℕ) (faulted : Fault → Block)
    (after : Fault → Store → Store) (bad : CValue) (s : Store) (divides : Divides calls helper s)
    (returning : Returning int calls k faulted after bad s) (vals : List Datum) (v : ℕ) (show : ShowsData vals s)
    (there : v < length vals) (rest : Block) (n : ℕ) (l : Locals) where
  -- what the code of an assignment ends as, its statements do
  stores-assign : (c : Stores) (r : Result ℤ Overflow) → StoresAs int s n l v c r
      → ((m : ℤ) → r ≡ Ok m → converted (field_type (datum vals v).sort) m ≡ gives (field_type (datum vals v).sort) m)
      → EndsAssigned (λ u m. outcome int calls k rest u m) after bad v s n l
      (outcome int calls k (assigned_block helper faulted v c rest) s l) (keep vals v r)
  stores-assign c (Ok m) ends takes =
      let put = put-stores int calls k s ends.0 vals v m c.kept rest show there ends.3 (takes m refl) in (
        record { type = field_type (datum vals v).sort; value = m },
        ends.0,
        written-goes int calls k helper faulted after bad s divides returning c.code
            (PutField v c.kept rest) l ends.0 ends.1 ∙ put.0,
        ends.2,
        put.1,
      )
  stores-assign c (Err e) ends takes =
      written-faults int calls k helper faulted after bad s divides returning c.code (PutField v c.kept rest) l
      (Overflows v) ends

  -- a fault of the expression
  faults-assign : (c : Stores) (f : Fault) → ending int s l c.code ≡ Faults f
      → EndsAssigned (λ u m. outcome int calls k rest u m) after bad v s n l
      (outcome int calls k (assigned_block helper faulted v c rest) s l) (Err f)
  faults-assign c f is =
      written-faults int calls k helper faulted after bad s divides returning c.code (PutField v c.kept rest) l f is

-- the assignment of an expression
pub assigns-data : (int : Width) (tests : ℕ → CExpr) (calls : Calls) (k : ℕ) (helper : Width → ℕ)
    (faulted : Fault → Block)
    (after : Fault → Store → Store) (bad : CValue) (s : Store) (vals : List Datum) (marks : Configuration) (v : ℕ)
    (e : Expr) (sort : ExprSort) (n : ℕ) (rest : Block) (l : Locals)
    → CanAssign int tests calls k helper faulted after bad s vals marks v e sort
    → EndsAssigned (λ u m. outcome int calls k rest u m) after bad v s n l
    (outcome int calls k (assigned_block helper faulted v
    (stores_of v (datum vals v).sort (datum vals v).mode sort (flat (scope_at vals marks) tests n e)) rest) s l)
    (assigned_by vals v (value_of vals marks e))
unfolding assigned
assigns-data int tests calls k helper faulted after bad s vals marks v e sort n rest l c =
    by_sort (datum vals v).sort sort (value_of vals marks e) refl c.takes c.sorted refl
    (value_has_sort int tests s vals marks e n l sort c.sorts c.shown c.active c.sorted)
    (ends_as_value int tests s vals marks e n l sort c.sorts c.shown c.active c.sorted)
  where
    x : Flat
    x = flat (scope_at vals marks) tests n e

    stores : (st : Stores) (r : Result ℤ Overflow) → StoresAs int s n l v st r
        → ((m : ℤ) → r ≡ Ok m → converted (field_type (datum vals v).sort) m ≡ gives (field_type (datum vals v).sort) m)
        → EndsAssigned (λ u m. outcome int calls k rest u m) after bad v s n l
        (outcome int calls k (assigned_block helper faulted v st rest) s l) (keep vals v r)
    stores = stores-assign int calls k helper faulted after bad s c.divides c.returning vals v c.shown c.there rest n l

    faults : (st : Stores) (f : Fault) → ending int s l st.code ≡ Faults f
        → EndsAssigned (λ u m. outcome int calls k rest u m) after bad v s n l
        (outcome int calls k (assigned_block helper faulted v st rest) s l) (Err f)
    faults = faults-assign int calls k helper faulted after bad s c.divides c.returning vals v c.shown c.there rest n l

    by_sort : (so : Sort) (given : ExprSort) (value : Valued) → (datum vals v).sort ≡ so → assignment_fault so given
        ≡ None
        → sort_of (scope_at vals marks) e ≡ Ok given → value_of vals marks e ≡ value → IfOk value (HasSort given)
        → EndsAs int s n x l value
        → EndsAssigned (λ u m. outcome int calls k rest u m) after bad v s n l
        (outcome int calls k (assigned_block helper faulted v (stores_of v so (datum vals v).mode given x) rest) s l)
        (assigned_by vals v value)
    by_sort sorts.Flag kinds.Flag (Err f) is none sorted value has ends = faults
        (record { code = x.code; kept = x.expr }) f ends
    by_sort sorts.Flag kinds.Flag (Ok (values.Number y)) is none sorted value has ends = absurd has
    by_sort sorts.Flag kinds.Flag (Ok (values.Flag b)) is none sorted value has ends =
        stores (record { code = x.code; kept = x.expr }) (Ok (one_if b))
        (ends.0, ends.1, ends.2, ends.3 ends.0 (agree-itself x.next ends.0))
        (λ m same. let own : one_if b ≡ m = cc in
        subst (λ (so : Sort). converted (field_type so) m ≡ gives (field_type so) m) (sym is)
        (subst (λ (z : ℤ). converted Truth z ≡ gives Truth z) own (flag-takes b)))
    by_sort sorts.Flag (kinds.Number frac size) value is none sorted value_is has ends = cc
    by_sort (sorts.Number scale) kinds.Flag value is none sorted value_is has ends = cc
    by_sort (sorts.Number scale) (kinds.Number frac size) (Err f) is none sorted value has ends =
        faults (stored_c v frac size scale (datum vals v).mode x) f
        (stored-faults int s l v frac size scale (datum vals v).mode x f ends)
    by_sort (sorts.Number scale) (kinds.Number frac size)
        (Ok (values.Flag b)) is none sorted value has ends = absurd has
    by_sort (sorts.Number scale) (kinds.Number frac size) (Ok (values.Number y)) is none sorted value has ends =
        let mode = (datum vals v).mode in
        let st = stored_c v frac size scale mode x in
        subst (λ (so : Sort). EndsAssigned (λ u m. outcome int calls k rest u m) after bad v s n l
        (outcome int calls k (assigned_block helper faulted v st rest) s l) (keep vals v (kept_number y so mode)))
        (sym is)
        (stores st (fitted y scale mode)
        (assigns int tests s vals marks e n v l frac size scale mode y c.sorts c.shown c.active c.int_is sorted none
        value)
        (λ m same. subst (λ (so : Sort). converted (field_type so) m ≡ gives (field_type so) m) (sym is)
        (field-takes scale m (fitted_is_in y scale mode m same))))
