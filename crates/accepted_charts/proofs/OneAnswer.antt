-- A text has one resolved chart, and one first fault.
use Rattle.std.proofs.Common.{◌≡◌, ◌≤◌, ℕ, ℤ, List, [], ◌∷◌, Some, refl, sym, ap, ap₂, ◌∙◌, subst}
use native.Mathlib.Bridge.{le_prop}
use mathlib.Core.HLevel.{is_prop→PathP}
use Rattle.token_grammar.specs.declared.token.Span.{Span}
use Rattle.fixed_point.specs.declared.fitting.Mode.{Mode}
use Rattle.fixed_point.specs.declared.fitting.Mode.TheVariants.{Saturate}
use Rattle.fixed_point.specs.declared.scale.Scale.{Scale}
use Rattle.fixed_point.specs.declared.scale.TheConstants.{WIDTH_LIMIT, PLACES_LIMIT}
use Rattle.active_config.specs.Tree.{Tree}
use Rattle.actions.specs.declared.names.EventDecl.{EventDecl}
use Rattle.actions.specs.declared.names.Sort.{Sort}
use Rattle.actions.specs.declared.names.Sort.TheVariants as sorts
use Rattle.actions.specs.declared.names.Var.{Var}
use Rattle.actions.specs.declared.names.VarKind.{VarKind}
use Rattle.chart_tree.specs.declared.fault.FormKind.{FormKind}
use Rattle.chart_tree.specs.declared.first.FaultAt.{FaultAt}
use Rattle.chart_tree.specs.declared.sort.InitText.{InitText}
use Rattle.chart_tree.specs.First.{at_place}
use Rattle.chart_tree.specs.Trees as trees
use Rattle.chart_tree.specs.Trees.{ScaleParts}
use Rattle.chart_tree.specs.Views.{parts_of}
use Rattle.chart_reader.specs.Text.{Spells}
use Rattle.chart_reader.proofs.OneRefusal.{one_chart, refused_spells_none, one_refusal}
use Rattle.checked_chart.specs.Chart.{Chart}
use Rattle.resolved_tree.specs.Faults.{first_of, first_with}
use Rattle.resolved_tree.specs.Plain.{chart_of}
use Rattle.resolved_tree.specs.Resolved as resolved
use Rattle.resolved_tree.specs.Resolved.{Resolved}
use Rattle.chart_scope.specs.Names.{name_faults}
use Rattle.chart_scope.specs.Resolution.{type_of, IsVarOf, AreVarsOf, IsResolutionOf}
use Rattle.chart_check.specs.Check.{IsFirstOf}
use Rattle.chart_check.proofs.FirstLemmas.{one_first, none_where_sound}
use Rattle.accepted_charts.specs.Accepted.{IsResolvedText, IsAccepted, IsFirstFault, OfText, OfNames, OfChart}

-- ---- the resolved chart of a chart text

-- scales with the same parts are one
same_scale : (a b : Scale) → parts_of a ≡ parts_of b → a ≡ b
same_scale a b h =
    let q = ap (λ (p : ScaleParts). p.width) h in
    let r = ap (λ (p : ScaleParts). p.frac) h in
    λ i. record {
      signed = ap (λ (p : ScaleParts). p.signed) h i;
      width = q i;
      frac = r i;
      some_bits = is_prop→PathP (λ j. 1 ≤ q j) (λ j. le_prop) a.some_bits b.some_bits i;
      bits_within = is_prop→PathP (λ j. q j ≤ WIDTH_LIMIT) (λ j. le_prop) a.bits_within b.bits_within i;
      frac_within = is_prop→PathP (λ j. r j ≤ PLACES_LIMIT) (λ j. le_prop) a.frac_within b.frac_within i;
      frac_in_width = is_prop→PathP (λ j. r j ≤ q j) (λ j. le_prop) a.frac_in_width b.frac_in_width i;
    }

-- a type decides its sort, and the mode that a datum of it has
same_type : (s u : Sort) (m n : Mode) → type_of s m ≡ type_of u n → (s ≡ sorts.Flag → m ≡ Saturate) → (u ≡ sorts.Flag → n ≡ Saturate)
    → (s ≡ u) × (m ≡ n)
same_type sorts.Flag sorts.Flag m n h f g = (refl, f refl ∙ sym (g refl))
same_type sorts.Flag (sorts.Number b) m n h f g = absurd (cc h)
same_type (sorts.Number a) sorts.Flag m n h f g = absurd (cc h)
same_type (sorts.Number a) (sorts.Number b) m n h f g =
    let parts : parts_of a ≡ parts_of b = cc h in
    let mode : m ≡ n = cc h in
    (ap sorts.Number (same_scale a b parts), mode)

-- a datum of its parts
abbrev pub var_with : List ℕ → VarKind → Sort → Mode → ℤ → Var
var_with name kind sort mode init = record { name = name; kind = kind; sort = sort; mode = mode; init = init }

-- a declaration declares one datum
same_var : (v : trees.Var) (d e : Var) → IsVarOf v d → IsVarOf v e → d ≡ e
same_var v d e a b =
    let type = same_type d.sort e.sort d.mode e.mode (a.type ∙ sym b.type) a.flag b.flag in
    ap (λ x. var_with x d.kind d.sort d.mode d.init) (a.name ∙ sym b.name)
    ∙ ap (λ x. var_with e.name x d.sort d.mode d.init) (a.kind ∙ sym b.kind)
    ∙ ap (λ x. var_with e.name e.kind x d.mode d.init) type.0
    ∙ ap (λ x. var_with e.name e.kind e.sort x d.init) type.1
    ∙ ap (λ x. var_with e.name e.kind e.sort e.mode x) (a.init ∙ sym b.init)

same_vars : (vs : List trees.Var) (ds es : List Var) → AreVarsOf vs ds → AreVarsOf vs es → ds ≡ es
same_vars [] [] [] a b = refl
same_vars [] [] (e ∷ es) a b = absurd b
same_vars [] (d ∷ ds) es a b = absurd a
same_vars (v ∷ vs) [] es a b = absurd a
same_vars (v ∷ vs) (d ∷ ds) [] a b = absurd b
same_vars (v ∷ vs) (d ∷ ds) (e ∷ es) a b =
    ap₂ (λ x xs. x ∷ xs) (same_var v d e a.0 b.0) (same_vars vs ds es a.1 b.1)

-- a resolved chart of its parts
abbrev pub whole : Tree → List (List ℕ) → List Var → List EventDecl → List InitText → List resolved.State
    → List resolved.Junction → Resolved
whole tree names vars events inits states junctions = record {
  tree = tree;
  names = record { states = names; vars = vars; events = events };
  inits = inits;
  states = states;
  junctions = junctions;
}

-- a chart text has one resolved chart
one_resolved : (c : trees.Chart) (r s : Resolved) → IsResolutionOf c r → IsResolutionOf c s → r ≡ s
one_resolved c r s a b =
    ap (λ x. whole x r.names.states r.names.vars r.names.events r.inits r.states r.junctions) (a.tree ∙ sym b.tree)
    ∙ ap (λ x. whole s.tree x r.names.vars r.names.events r.inits r.states r.junctions) (a.state_names ∙ sym b.state_names)
    ∙ ap (λ x. whole s.tree s.names.states x r.names.events r.inits r.states r.junctions)
    (same_vars c.vars r.names.vars s.names.vars a.vars b.vars)
    ∙ ap (λ x. whole s.tree s.names.states s.names.vars x r.inits r.states r.junctions) (a.events ∙ sym b.events)
    ∙ ap (λ x. whole s.tree s.names.states s.names.vars s.names.events x r.states r.junctions) (a.inits ∙ sym b.inits)
    ∙ ap (λ x. whole s.tree s.names.states s.names.vars s.names.events s.inits x r.junctions) (a.states ∙ sym b.states)
    ∙ ap (λ x. whole s.tree s.names.states s.names.vars s.names.events s.inits s.states x) (a.junctions ∙ sym b.junctions)

-- so has a text
same_resolved : (text : List ℕ) (r s : Resolved) → IsResolvedText text r → IsResolvedText text s → r ≡ s
same_resolved text r s a b =
    let tree = one_chart text a.tree b.tree a.spells b.spells in
    one_resolved b.tree r s (subst (λ t. IsResolutionOf t r) tree a.resolves.resolves) b.resolves.resolves

-- ---- first faults

-- faults at places are one where kind and place are
same_found : (kind other : FormKind) (at there : Span) → at_place kind at ≡ at_place other there → (kind ≡ other) × (at ≡ there)
same_found kind other at there e = (ap (λ (f : FaultAt). f.kind) e, ap (λ (f : FaultAt). f.at) e)

-- a chart text has one first fault of its names
one_of_names : (c : trees.Chart) (kind other : FormKind) (at there : Span) → first_of (name_faults c) ≡ Some (at_place kind at)
    → first_of (name_faults c) ≡ Some (at_place other there) → (kind ≡ other) × (at ≡ there)
one_of_names c kind other at there a b =
    let e = sym a ∙ b in
    same_found kind other at there (cc e)

-- a text whose names have a fault has no resolved chart
not_both : (text : List ℕ) (tree : trees.Chart) (r : Resolved) (f : FaultAt) → Spells text tree → first_of (name_faults tree) ≡ Some f
    → IsResolvedText text r → ⊥
unfolding first_of first_with
not_both text tree r f spells n i =
    let none = ap name_faults (one_chart text tree i.tree spells i.spells) ∙ i.resolves.faultless in
    let e : first_of [] ≡ Some f = sym (ap first_of none) ∙ n in
    absurd (cc e)

-- a text has one chart
pub one_accepted : (text : List ℕ) (c d : Chart) → IsAccepted text c → IsAccepted text d → c ≡ d
one_accepted text c d a b =
    a.checked.chart ∙ ap chart_of (same_resolved text a.resolved b.resolved a.read b.read) ∙ sym b.checked.chart

-- a text has one first fault
pub one_fault : (text : List ℕ) (kind other : FormKind) (at there : Span) → IsFirstFault text kind at → IsFirstFault text other there
    → (kind ≡ other) × (at ≡ there)
one_fault text kind other at there (OfText h) (OfText k) = one_refusal text kind other at there h k
one_fault text kind other at there (OfText h) (OfNames tree s n) = absurd (refused_spells_none text kind at tree h s)
one_fault text kind other at there (OfText h) (OfChart r i f) = absurd (refused_spells_none text kind at i.tree h i.spells)
one_fault text kind other at there (OfNames tree s n) (OfText k) = absurd (refused_spells_none text other there tree k s)
one_fault text kind other at there (OfNames tree s n) (OfNames tree' s' n') =
    one_of_names tree' kind other at there
    (subst (λ c. first_of (name_faults c) ≡ Some (at_place kind at)) (one_chart text tree tree' s s') n) n'
one_fault text kind other at there (OfNames tree s n) (OfChart r i f) = absurd (not_both text tree r (at_place kind at) s n i)
one_fault text kind other at there (OfChart r i f) (OfText k) = absurd (refused_spells_none text other there i.tree k i.spells)
one_fault text kind other at there (OfChart r i f) (OfNames tree s n) = absurd (not_both text tree r (at_place other there) s n i)
one_fault text kind other at there (OfChart r i f) (OfChart r' i' f') =
    same_found kind other at there
    (one_first r' (at_place kind at) (at_place other there)
    (subst (λ x. IsFirstOf x (at_place kind at)) (same_resolved text r r' i i') f) f')

-- a text that is accepted has no first fault
pub accepted_or_refused : (text : List ℕ) (c : Chart) (kind : FormKind) (at : Span) → IsAccepted text c → IsFirstFault text kind at → ⊥
accepted_or_refused text c kind at a (OfText h) = refused_spells_none text kind at a.read.tree h a.read.spells
accepted_or_refused text c kind at a (OfNames tree s n) = not_both text tree a.resolved (at_place kind at) s n a.read
accepted_or_refused text c kind at a (OfChart r i f) =
    none_where_sound a.resolved (at_place kind at) a.checked.sound
    (subst (λ x. IsFirstOf x (at_place kind at)) (same_resolved text r a.resolved i a.read) f)
