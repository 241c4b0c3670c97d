-- A counter is 0 at first, and no input.
use Rattle.std.proofs.Common.{◌≡◌, ℕ, zero, suc, ◌+◌, ◌-◌, ◌^◌, Bool, true, false, List, [], ◌∷◌, map, length}
use Rattle.std.proofs.Common.{Some, None, pos, refl, sym, ap, ap₂, ◌∙◌, subst, arith}
use Rattle.std.specs.Prelude.{slice_get, slice_index_or, if◌then◌else◌}
use Rattle.token_grammar.specs.declared.token.Span.{Span}
use Rattle.fixed_point.specs.declared.num.Num.{Num}
use Rattle.fixed_point.specs.declared.scale.Scale.{Scale}
use Rattle.fixed_point.specs.declared.fitting.Mode.{Mode}
use Rattle.fixed_point.specs.declared.fitting.Mode.TheVariants.{Saturate}
use Rattle.fixed_point.specs.Numbers.{floored}
use Rattle.fixed_point.specs.Scales.{exact_mantissa}
use Rattle.fixed_point.proofs.Floors.{floored-raised, scaled-own}
use Rattle.actions.specs.declared.names.Sort.{Sort}
use Rattle.actions.specs.declared.names.Sort.TheVariants as sorts
use Rattle.actions.specs.declared.names.Var.{Var}
use Rattle.actions.specs.declared.names.VarKind.TheVariants as kinds
use Rattle.actions.specs.Data.{Datum, no_datum, datum, initial, declared_datum, mantissa_in}
use Rattle.chart_tree.specs.declared.sort.InitText.{InitText}
use Rattle.chart_tree.specs.declared.sort.InitText.TheVariants as inits
use Rattle.chart_tree.specs.Trees as trees
use Rattle.chart_tree.specs.Trees.{ScaleParts, NumberSort}
use Rattle.chart_tree.specs.Views.{parts_of}
use Rattle.checked_chart.specs.Chart.{Chart}
use Rattle.resolved_tree.specs.Plain.{init_value, mantissa_or_zero, with_init, with_inits, chart_of}
use Rattle.chart_scope.specs.Resolution.{type_of, IsVarOf, AreVarsOf}
use Rattle.counting_rules.specs.Numbers.{IsCounter}
use Rattle.counting_log.specs.Runs.{IsNoInput}
use Rattle.counting_trees.specs.Counters.{Counter, number, counter_var, counter_end}
use Rattle.counting_trees.specs.Counting.{all_of}
use Rattle.counting_trees.specs.Numbers.{counter_number}
use Rattle.counting_trees.specs.Written.{IsWrittenOut}
use Rattle.counting_trees.proofs.Lists.{Has, get_map}
use Rattle.counting_trees.proofs.Counters.{number_is, var_at}
use Rattle.counting_trees.proofs.Nodes.{zero_is}

-- the parts of a counter's type
abbrev counter_parts : ScaleParts
counter_parts = record { signed = false; width = 32; frac = 0 }

-- a datum of a counter's type with its first value
module _ (scale : Scale) (same : parts_of scale ≡ counter_parts) where
  is_whole_scale : 0 ≡ scale.frac
  is_whole_scale = sym (ap (λ (s : ScaleParts). s.frac) same)

  floor_is : floored (record { mantissa = pos 0; frac = 0 }) scale.frac ≡ pos 0
  floor_is =
      floored-raised (record { mantissa = pos 0; frac = 0 }) scale.frac (omega arith)
      ∙ scaled-own (record { mantissa = pos 0; frac = 0 }) scale.frac (sym is_whole_scale)

  mantissa_is : mantissa_or_zero (exact_mantissa (record { mantissa = pos 0; frac = 0 }) scale) ≡ pos 0
  unfolding exact_mantissa
  mantissa_is = at _
    where
      at : (b : Bool) → mantissa_or_zero (if b then Some (floored (record { mantissa = pos 0; frac = 0 }) scale.frac) else None)
          ≡ pos 0
      at true = floor_is
      at false = refl

counter_datum : (s : Sort) (m : Mode) (at : Span) → type_of s m ≡ NumberSort counter_parts Saturate
    → IsCounter (record { sort = s; mode = m; mantissa = mantissa_or_zero (mantissa_in s (init_value (inits.Number false (number 0) at))) })
    counter_end 0
counter_datum sorts.Flag m at e = absurd cc
counter_datum (sorts.Number scale) m at e =
    let same : parts_of scale ≡ counter_parts = cc in
    let mode : m ≡ Saturate = cc in
    record {
      scale = scale;
      unsigned = ap (λ (p : ScaleParts). p.signed) same;
      whole = ap (λ (p : ScaleParts). p.frac) same;
      top = sym (ap (λ (p : ScaleParts). 2 ^ p.width - 1) same);
      is = λ i. record {
        sort = sorts.Number scale;
        mode = mode i;
        mantissa =
            (ap (λ (n : Num). mantissa_or_zero (exact_mantissa n scale)) zero_is ∙ mantissa_is scale same) i;
      };
    }

-- ---- by its number

-- the datum of a declaration
pub record IsDeclared (ds : List Var) (i : ℕ) (v : trees.Var) : Type 0 where
  pub item : Var
  pub at : slice_get ds i ≡ Some item
  pub is : IsVarOf v item

declared_at : (vs : List trees.Var) (ds : List Var) (i : ℕ) (v : trees.Var) → AreVarsOf vs ds → slice_get vs i ≡ Some v
    → IsDeclared ds i v
declared_at [] ds i v are e = absurd cc
declared_at (w ∷ vs) [] i v are e = absurd are
declared_at (w ∷ vs) (d ∷ ds) zero v are e =
    let same : w ≡ v = cc in record { item = d; at = refl; is = subst (λ z. IsVarOf z d) same are.0 }
declared_at (w ∷ vs) (d ∷ ds) (suc i) v are e =
    let r = declared_at vs ds i v are.1 e in record { item = r.item; at = r.at; is = r.is }

init_at : (ds : List Var) (is : List InitText) (i : ℕ) (d : Var) (init : InitText) → slice_get ds i ≡ Some d
    → slice_get is i ≡ Some init → slice_get (with_inits ds is) i ≡ Some (with_init d init)
init_at [] is i d init e f = absurd cc
init_at (w ∷ ds) [] i d init e f = absurd cc
init_at (w ∷ ds) (t ∷ is) zero d init e f =
    let one : w ≡ d = cc in
    let two : t ≡ init = cc in
    ap₂ (λ a b. Some (with_init a b)) one two
init_at (w ∷ ds) (t ∷ is) (suc i) d init e f = init_at ds is i d init e f

datum_at : (vs : List Var) (i : ℕ) (v : Var) → slice_get vs i ≡ Some v
    → slice_index_or (map declared_datum vs) i no_datum ≡ declared_datum v
datum_at [] i v e = absurd cc
datum_at (w ∷ vs) zero v e = let same : w ≡ v = cc in ap declared_datum same
datum_at (w ∷ vs) (suc i) v e = datum_at vs i v e

-- a counter by its number
module _ (ks : List (List Counter)) (t : trees.Chart) (c d : Chart) (w : IsWrittenOut ks t c d) (k : Counter)
    (h : Has (all_of ks) k) where
  -- its number, among the data
  place : ℕ
  place = length w.ready.others + h.0

  number_at : counter_number t k ≡ place
  unfolding place
  number_at = number_is ks t w.ready w.without.resolves.faultless h.0 k h.1

  decl : IsDeclared w.without.resolved.names.vars place (counter_var k)
  unfolding place
  decl =
      declared_at t.vars w.without.resolved.names.vars (length w.ready.others + h.0) (counter_var k)
      w.without.resolves.resolves.vars (var_at ks t w.ready h.0 k h.1)

  init : slice_get w.without.resolved.inits place ≡ Some (counter_var k).init
  unfolding place
  init =
      ap (λ is. slice_get is (length w.ready.others + h.0)) w.without.resolves.resolves.inits
      ∙ get_map (λ (v : trees.Var). v.init) t.vars (length w.ready.others + h.0) (counter_var k)
      (var_at ks t w.ready h.0 k h.1)

  -- the datum of the chart
  item_at : slice_get c.names.vars (counter_number t k) ≡ Some (with_init decl.item (counter_var k).init)
  unfolding chart_of
  item_at =
      let r = w.without.resolved in
      ap (λ (y : Chart). slice_get y.names.vars (counter_number t k)) w.without.checked.chart
      ∙ ap (slice_get (with_inits r.names.vars r.inits)) number_at
      ∙ init_at r.names.vars r.inits place decl.item (counter_var k).init decl.at init

  pub first_is : IsCounter (datum (initial c.names) (counter_number t k)) counter_end 0
  unfolding initial datum
  first_is =
      let is = datum_at c.names.vars (counter_number t k) (with_init decl.item (counter_var k).init) item_at in
      subst (λ (y : Datum). IsCounter y counter_end 0) (sym is)
      (counter_datum decl.item.sort decl.item.mode k.event.at decl.is.type)

  pub no_input : IsNoInput c.names (counter_number t k)
  no_input other e input =
      let same : other ≡ with_init decl.item (counter_var k).init = (let f = item_at in cc) in
      let kind : other.kind ≡ kinds.Local = ap (λ (v : Var). v.kind) same ∙ decl.is.kind in
      absurd cc
