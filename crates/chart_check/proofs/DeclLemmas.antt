-- The declarations of a chart with the first values of its data: all else stays, and each value is one of its type.
use Rattle.std.proofs.Common.{◌≡◌, ℕ, zero, suc, List, [], ◌∷◌, ◌++◌, length, map, Option, Some, None, ℤ, pos, IsTrue}
use Rattle.std.proofs.Common.{cond, slice_get, refl, ap, ap₂, ◌∙◌, arith}
use Rattle.std.specs.List.{AllByRecursion, list_all}
use Rattle.token_grammar.specs.declared.token.Span.{Span}
use Rattle.flow_base.specs.Names.{are_distinct}
use Rattle.chart_lexer.specs.Words.{is_name}
use Rattle.chart_tree.specs.declared.sort.InitText.{InitText}
use Rattle.chart_tree.specs.declared.sort.InitText.TheVariants as inits
use Rattle.actions.specs.declared.expr.Value.{Value}
use Rattle.actions.specs.declared.expr.Value.TheVariants as values
use Rattle.actions.specs.declared.names.EventDecl.{EventDecl}
use Rattle.actions.specs.declared.names.Sort.{Sort}
use Rattle.actions.specs.declared.names.Sort.TheVariants as sorts
use Rattle.actions.specs.declared.names.Var.{Var}
use Rattle.actions.specs.Data.{is_mantissa_of, mantissa_in, HasInits}
use Rattle.actions.specs.Sorts.{Scope, scope_of}
use Rattle.actions.proofs.StoredLemmas.{stored_in_range}
use Rattle.checked_chart.specs.Valid.{HasNames, HasFlagMode, declared_names}
use Rattle.resolved_tree.specs.Resolved.{Resolved}
use Rattle.resolved_tree.specs.Plain.{init_value, mantissa_or_zero, with_init, with_inits, plain_names}
use Rattle.chart_types.specs.Types.{init_faults, inits_faults, out_of_type}
use Rattle.chart_check.proofs.ListLemmas.{neither}

-- ---- what stays

-- a part of each datum that its first value leaves stays
part_kept : {X : Type 0} (part : Var → X) → ((v : Var) (i : InitText) → part (with_init v i) ≡ part v)
    → (vs : List Var) (is : List InitText) → map part (with_inits vs is) ≡ map part vs
part_kept part kept [] is = refl
part_kept part kept (v ∷ vs) [] = ap (λ xs. part v ∷ xs) (part_kept part kept vs [])
part_kept part kept (v ∷ vs) (i ∷ is) = ap₂ (λ x xs. x ∷ xs) (kept v i) (part_kept part kept vs is)

-- a datum is declared with its kind and its sort
pub record IsDeclaredAs (vs : List Var) (is : List InitText) (i : ℕ) (v : Var) : Type 0 where
  pub decl : Var
  pub declared : slice_get (with_inits vs is) i ≡ Some decl
  pub kind : decl.kind ≡ v.kind
  pub sort : decl.sort ≡ v.sort

pub decl_kept : (vs : List Var) (is : List InitText) (i : ℕ) (v : Var) → slice_get vs i ≡ Some v → IsDeclaredAs vs is i v
decl_kept [] is i v e = absurd cc
decl_kept (x ∷ xs) [] zero v e =
    let same : x ≡ v = cc in
    record { decl = x; declared = refl; kind = ap (λ (y : Var). y.kind) same; sort = ap (λ (y : Var). y.sort) same }
decl_kept (x ∷ xs) [] (suc i) v e =
    let k = decl_kept xs [] i v e in
    record { decl = k.decl; declared = k.declared; kind = k.kind; sort = k.sort }
decl_kept (x ∷ xs) (init ∷ is) zero v e =
    let same : x ≡ v = cc in
    record {
      decl = with_init x init;
      declared = refl;
      kind = ap (λ (y : Var). y.kind) same;
      sort = ap (λ (y : Var). y.sort) same;
    }
decl_kept (x ∷ xs) (init ∷ is) (suc i) v e =
    let k = decl_kept xs is i v e in
    record { decl = k.decl; declared = k.declared; kind = k.kind; sort = k.sort }

-- flags have no mode of their own
flags_kept : (vs : List Var) (is : List InitText) → AllByRecursion HasFlagMode vs
    → AllByRecursion HasFlagMode (with_inits vs is)
flags_kept [] is all = tt
flags_kept (v ∷ vs) [] all = (all.0, flags_kept vs [] all.1)
flags_kept (v ∷ vs) (i ∷ is) all = (all.0, flags_kept vs is all.1)

-- ---- first values

-- a mantissa that a value has at a type is one of the type
found_fits : (s : Sort) (value : Value) (o : Option ℤ) (at : Span) → mantissa_in s value ≡ o → out_of_type o at ≡ []
    → IsTrue (is_mantissa_of s (mantissa_or_zero o))
found_fits s value None at is none = absurd cc
found_fits s value (Some m) at is none = stored_in_range s value m is

init_fits : (s : Sort) (init : InitText) → init_faults s init ≡ []
    → IsTrue (is_mantissa_of s (mantissa_or_zero (mantissa_in s (init_value init))))
init_fits sorts.Flag (inits.Number negative lit at) none = absurd cc
init_fits sorts.Flag (inits.Flag value at) none =
    stored_in_range sorts.Flag (values.Flag value) (cond value (pos 1) (pos 0)) refl
init_fits (sorts.Number scale) (inits.Flag value at) none = absurd cc
init_fits (sorts.Number scale) (inits.Number negative lit at) none =
    let value = init_value (inits.Number negative lit at) in
    found_fits (sorts.Number scale) value (mantissa_in (sorts.Number scale) value) at refl none

inits_fit : (vs : List Var) (is : List InitText) → length is ≡ length vs → inits_faults vs is ≡ []
    → AllByRecursion (λ (v : Var). IsTrue (is_mantissa_of v.sort v.init)) (with_inits vs is)
inits_fit [] is long none = tt
inits_fit (v ∷ vs) [] long none = absurd (omega arith)
inits_fit (v ∷ vs) (i ∷ is) long none =
    let parts = neither (init_faults v.sort i) (inits_faults vs is) none in
    (init_fits v.sort i parts.0, inits_fit vs is (omega arith) parts.1)

-- ---- the declarations of a chart

abbrev scope_with : ℕ → List Sort → Scope
scope_with states given = record { sorts = given; states = states }

module _ (r : Resolved) where
  -- the scope stays
  pub scope_kept : scope_of (plain_names r) ≡ scope_of r.names
  scope_kept = ap (scope_with (length r.names.states))
      (part_kept (λ (v : Var). v.sort) (λ v i. refl) r.names.vars r.inits)

  -- so do the names of the data and the events
  names_kept : declared_names (plain_names r) ≡ declared_names r.names
  names_kept = ap (λ (xs : List (List ℕ)). xs ++ map (λ (e : EventDecl). e.name) r.names.events)
      (part_kept (λ (v : Var). v.name) (λ v i. refl) r.names.vars r.inits)

  pub has_names : HasNames r.tree r.names → HasNames r.tree (plain_names r)
  has_names h = record {
    states = h.states;
    declared = ap (list_all is_name) names_kept ∙ h.declared;
    distinct = ap are_distinct names_kept ∙ h.distinct;
    siblings = h.siblings;
  }

  pub has_flags : AllByRecursion HasFlagMode r.names.vars → AllByRecursion HasFlagMode (plain_names r).vars
  has_flags all = flags_kept r.names.vars r.inits all

  pub has_inits : length r.inits ≡ length r.names.vars → inits_faults r.names.vars r.inits ≡ []
      → HasInits (plain_names r)
  has_inits long none = inits_fit r.names.vars r.inits long none
