-- The numbers of names without faults are in range of what is declared.
use Rattle.std.proofs.Common.{◌≡◌, ℕ, ◌<◌, List, [], ◌∷◌, length, Option, Some, None, refl, arith}
use Rattle.std.specs.Prelude.{Result, Ok, Err}
use Rattle.token_grammar.specs.declared.token.Span.{Span}
use Rattle.active_config.specs.Tree.{state_count, IsTree}
use Rattle.chart_tree.specs.declared.name.NameText.{NameText}
use Rattle.chart_tree.specs.Trees.{Path}
use Rattle.canonical_text.specs.Terms as terms
use Rattle.chart_places.specs.Scopes.{Scopes, Meaning, Event, Datum, meaning_of, state_at, junction_at}
use Rattle.resolved_tree.specs.Resolved.{Resolved}
use Rattle.resolved_tree.specs.Promise.{IsState}
use Rattle.chart_scope.specs.Uses.{event_faults, datum_faults, state_faults, junction_faults, meaning_number}
use Rattle.chart_scope.specs.Uses.{number_or_zero, state_or_zero, state_ref}
use Rattle.accepted_charts.proofs.ScopeLemmas.{number_within, meaning_event, meaning_datum, path_below_root}
use Rattle.accepted_charts.proofs.ScopeLemmas.{junction_within}
use Rattle.accepted_charts.proofs.UseLemmas.{AreThere}

-- the resolved chart has the tree of the scopes, and as many events, data and junctions
pub record AreSized (p : Scopes) (r : Resolved) : Type 0 where
  pub tree : IsTree p.tree
  pub states : state_count r.tree ≡ state_count p.tree
  pub events : length r.names.events ≡ length p.events
  pub vars : length r.names.vars ≡ length p.vars
  pub junctions : length r.junctions ≡ length p.junctions

module _ (p : Scopes) (r : Resolved) (h : AreSized p r) where
  datum_there : (name : List ℕ) (at : Span) (m : Option Meaning) → meaning_of p name ≡ m → datum_faults m at ≡ []
      → meaning_number m < length r.names.vars
  datum_there name at None is none = absurd cc
  datum_there name at (Some (Event e)) is none = absurd cc
  datum_there name at (Some (Datum v)) is none =
      let low = number_within 0 p.vars name v (meaning_datum p name v is) in omega arith

  event_there : (name : List ℕ) (at : Span) (m : Option Meaning) → meaning_of p name ≡ m → event_faults m at ≡ []
      → meaning_number m < length r.names.events
  event_there name at None is none = absurd cc
  event_there name at (Some (Event e)) is none =
      let low = number_within 0 p.events name e (meaning_event p name e is) in omega arith
  event_there name at (Some (Datum v)) is none = absurd cc

  state_there : (s : ℕ) (name : NameText) (names : Path) (found : Result ℕ Span) → state_at p s (name ∷ names) ≡ found
      → state_faults found ≡ [] → (0 < state_or_zero found) × (state_or_zero found < state_count r.tree)
  state_there s name names (Ok x) is none =
      let low = path_below_root p h.tree s name names x is in (low.0, omega arith)
  state_there s name names (Err at) is none = absurd cc

  path_there : (s : ℕ) (path : Path) → terms.IsPath path → state_faults (state_at p s path) ≡ []
      → (0 < (state_ref p s path).number) × IsState r (state_ref p s path)
  path_there s [] is none = absurd is
  path_there s (name ∷ names) is none = state_there s name names (state_at p s (name ∷ names)) refl none

  junction_there : (s : ℕ) (name : List ℕ) (at : Span) (found : Option ℕ) → junction_at p s name ≡ found
      → junction_faults found at ≡ [] → number_or_zero found < length r.junctions
  junction_there s name at None is none = absurd cc
  junction_there s name at (Some j) is none = let low = junction_within p s name j is in omega arith

  -- all numbers are in range
  pub are_there : AreThere p r
  are_there = record {
    datum = λ name none. datum_there name.text name.at (meaning_of p name.text) refl none;
    event = λ name none. event_there name.text name.at (meaning_of p name.text) refl none;
    state = path_there;
    junction = λ s name none. junction_there s name.text name.at (junction_at p s name.text) refl none;
  }
