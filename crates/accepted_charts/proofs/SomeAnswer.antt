-- Every text is accepted, or has a first fault.
use Rattle.std.proofs.Common.{◌≡◌, ◌⊎◌, ℕ, pos, List, [], ◌∷◌, map, Option, Some, None, inl, inr, refl}
use Rattle.std.specs.List.{AllByRecursion}
use Rattle.token_grammar.specs.declared.token.Span.{Span}
use Rattle.fixed_point.specs.declared.fitting.Mode.{Mode}
use Rattle.fixed_point.specs.declared.fitting.Mode.TheVariants.{Saturate}
use Rattle.actions.specs.declared.names.Sort.{Sort}
use Rattle.actions.specs.declared.names.Sort.TheVariants as sorts
use Rattle.actions.specs.declared.names.Var.{Var}
use Rattle.chart_tree.specs.declared.fault.FormKind.{FormKind}
use Rattle.chart_tree.specs.declared.first.FaultAt.{FaultAt}
use Rattle.chart_tree.specs.Trees as trees
use Rattle.chart_tree.specs.Trees.{FlagSort, NumberSort}
use Rattle.canonical_text.specs.Terms.{IsSort, IsVar, IsChart}
use Rattle.chart_reader.specs.Text.{Spells}
use Rattle.chart_reader.proofs.OneRefusal.{spells_or_refused}
use Rattle.chart_format.proofs.Formatted.{spelled_has}
use Rattle.checked_chart.specs.Chart.{Chart}
use Rattle.chart_places.specs.Placed.{Placed, placed_states, placed_tree, placed_junctions}
use Rattle.chart_places.specs.Scopes.{scopes_of}
use Rattle.resolved_tree.specs.Faults.{first_of}
use Rattle.resolved_tree.specs.Plain.{chart_of}
use Rattle.resolved_tree.specs.Resolved.{Resolved}
use Rattle.resolved_tree.proofs.FirstLemmas.{none_found}
use Rattle.chart_scope.specs.Names.{name_faults}
use Rattle.chart_scope.specs.Resolution.{type_of, var_kind, event_decl, resolved_states, resolved_junction, IsVarOf}
use Rattle.chart_scope.specs.Resolution.{AreVarsOf, IsResolved}
use Rattle.chart_check.specs.Check.{HasNoFaults, IsFirstOf}
use Rattle.chart_check.proofs.FirstLemmas.{sound_or_faulty}
use Rattle.accepted_charts.specs.Accepted.{IsResolvedText, IsAccepted, IsFirstFault, OfText, OfNames, OfChart}
use Rattle.accepted_charts.proofs.AcceptLemmas.{promised}
use Rattle.accepted_charts.proofs.OneAnswer.{var_with, whole}

-- ---- a chart text without faults of names has a resolved chart

-- the sort and the mode of a declared type
record HasType (s : trees.Sort) : Type 0 where
  sort : Sort
  mode : Mode
  type : type_of sort mode ≡ s
  flag : sort ≡ sorts.Flag → mode ≡ Saturate

has_type : (s : trees.Sort) → IsSort s → HasType s
has_type FlagSort h = record { sort = sorts.Flag; mode = Saturate; type = refl; flag = λ e. refl }
has_type (NumberSort scale mode) h = record {
  sort = sorts.Number (record {
    signed = scale.signed;
    width = scale.width;
    frac = scale.frac;
    some_bits = h.some;
    bits_within = h.narrow;
    frac_within = h.short;
    frac_in_width = h.inside;
  });
  mode = mode;
  type = refl;
  flag = λ e. absurd (cc e);
}

-- the datum that is declared
has_var : (v : trees.Var) → IsVar v → (d : Var) × IsVarOf v d
has_var v h =
    let t = has_type v.sort h.sort in (
      var_with v.name.text (var_kind v.kind) t.sort t.mode (pos 0),
      record { name = refl; kind = refl; type = t.type; flag = t.flag; init = refl },
    )

has_vars : (vs : List trees.Var) → AllByRecursion IsVar vs → (ds : List Var) × AreVarsOf vs ds
has_vars [] h = ([], tt)
has_vars (v ∷ vs) h =
    let one = has_var v h.0 in
    let others = has_vars vs h.1 in
    (one.0 ∷ others.0, (one.1, others.1))

-- the resolved chart
has_resolved : (c : trees.Chart) → IsChart c → name_faults c ≡ [] → (r : Resolved) × IsResolved c r
has_resolved c is none =
    let ps = placed_states c.root in
    let vars = has_vars c.vars is.vars in (
      whole (placed_tree ps) (map (λ (x : Placed). x.parts.name.text) ps) vars.0 (map event_decl c.events)
          (map (λ (v : trees.Var). v.init) c.vars) (resolved_states (scopes_of c) 0 ps)
          (map (resolved_junction (scopes_of c)) (placed_junctions ps)),
      record {
        faultless = none;
        resolves = record {
          tree = refl;
          state_names = refl;
          vars = vars.1;
          events = refl;
          inits = refl;
          states = refl;
          junctions = refl;
        };
      },
    )

-- ---- a text has an answer

-- it is accepted, or has a first fault
abbrev pub IsAnswered : List ℕ → Type 0
IsAnswered text = ((c : Chart) × IsAccepted text c) ⊎ ((kind : FormKind) × (at : Span) × IsFirstFault text kind at)

-- with a resolved chart
by_check : (text : List ℕ) (r : Resolved) → IsResolvedText text r → HasNoFaults r ⊎ ((f : FaultAt) × IsFirstOf r f)
    → IsAnswered text
by_check text r read (inl sound) =
    inl (chart_of r, record { resolved = r; read = read; checked = record { sound = sound; chart = refl } })
by_check text r read (inr h) = inr (h.0.kind, h.0.at, OfChart r read h.1)

-- with the chart that it spells
by_names : (text : List ℕ) (tree : trees.Chart) → Spells text tree → (o : Option FaultAt)
    → first_of (name_faults tree) ≡ o → IsAnswered text
by_names text tree spells (Some f) e = inr (f.kind, f.at, OfNames tree spells e)
by_names text tree spells None e =
    let res = has_resolved tree (spelled_has text tree spells) (none_found (name_faults tree) e) in
    by_check text res.0 (record { tree = tree; spells = spells; resolves = res.1 })
    (sound_or_faulty res.0 (promised text tree res.0 spells res.1))

pub accepted_or_faulty : (text : List ℕ) → IsAnswered text
accepted_or_faulty text = elim (spells_or_refused text) [
  | inl h ↦ by_names text h.0 h.1 (first_of (name_faults h.0)) refl
  | inr h ↦ inr (h.0, h.1, OfText h.2)
]
