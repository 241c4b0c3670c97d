-- A chart with the same events needs the same, whatever its data are.
use Rattle.std.proofs.Common.{◌≡◌, ◌∙◌, ℕ, List, Option, Some, None, sym, ap, subst}
use Rattle.std.specs.List.{AllByRecursion}
use Rattle.flow_base.specs.declared.bounds.Bounds.{Bounds}
use Rattle.actions.specs.declared.event.Event.{Event}
use Rattle.actions.specs.declared.names.EventDecl.{EventDecl}
use Rattle.actions.specs.Names.{Names}
use Rattle.actions.specs.Runs.{CanBeGiven, EventWithInputs, Moment}
use Rattle.checked_chart.specs.Chart.{Chart, Trans, node, junction}
use Rattle.sos_rules.specs.Reactions.{RulesRun}
use Rattle.bound_prove.specs.declared.need.Need.{Need}
use Rattle.bound_prove.specs.declared.need.Part.{Part}
use Rattle.bound_prove.specs.Cells.{Cells, Demands, OfList, OfExit, OfEntry, OfChildren, OfOuter, OfInner, IsGood}
use Rattle.bound_prove.specs.Needs.{Covers}
use Rattle.bound_prove.specs.Reaches.{Reaches, AtOnce, Through}
use Rattle.bound_prove.specs.Roots.{root_need, IsWithin, NoOverrun}
use Rattle.bound_prove.specs.Searches.{IsNeedOf}
use Rattle.c_program.specs.Bounds.{IsGiven}
use Rattle.c_program.proofs.NeedLemmas.{given_fine}

-- ---- what a cell is to cover

-- the chart that declares other names
abbrev with_declared : Names → Chart → Chart
with_declared names c = record c { names = names }

-- a list reaches the same states
reaches_too : (c : Chart) (names : Names) (e : Event) (list : List Trans) (d : ℕ) → Reaches c e list d
    → Reaches (with_declared names c) e list d
unfolding junction
reaches_too c names e list d (AtOnce _ _ leads) = AtOnce list d leads
reaches_too c names e list d (Through _ j _ leads more) =
    Through list j d leads (reaches_too c names e (junction c j) d more)

-- a cell is to cover the same
demands_too : (c : Chart) (names : Names) (g : Cells) (e : Event) (part : Part) (i : ℕ) (need : Need)
    → Demands c g e part i need → Demands (with_declared names c) g e part i need
unfolding junction node
demands_too c names g e part i need (OfList j) = OfList j
demands_too c names g e part i need (OfExit s) = OfExit s
demands_too c names g e part i need (OfEntry s) = OfEntry s
demands_too c names g e part i need (OfChildren s) = OfChildren s
demands_too c names g e part i need (OfOuter s d reaches) =
    OfOuter s d (reaches_too c names e (node c s).outer d reaches)
demands_too c names g e part i need (OfInner s d reaches) =
    OfInner s d (reaches_too c names e (node c s).inner d reaches)

-- ---- the need

module _ (c : Chart) (names : Names) (same : names.events ≡ c.names.events) where
  -- the chart with these names
  abbrev other : Chart
  other = with_declared names c

  -- a certificate is good of both
  good_too : (g : Cells) → IsGood c g → IsGood other g
  good_too g good e part i need demands = good e part i need (demands_too other c.names g e part i need demands)

  good_back : (g : Cells) → IsGood other g → IsGood c g
  good_back g good e part i need demands = good e part i need (demands_too c names g e part i need demands)

  -- the roots need the same
  root_same : (g : Cells) → root_need other g ≡ root_need c g
  root_same g = ap (λ (es : List EventDecl). root_need (with_declared (record c.names { events = es }) c) g) same

  -- so the chart needs the same
  need_too : (need : Option Need) → IsNeedOf c need → IsNeedOf other need
  need_too None none = λ g good within. none g (good_back g good) (subst IsWithin (root_same g) within)
  need_too (Some need) h = (
    h.0,
    good_too h.0 h.1,
    root_same h.0 ∙ h.2,
    h.3,
    λ g good. subst (λ x. Covers x need) (sym (root_same g)) (h.4 g (good_back g good)),
  )

  -- and under the bounds that the first chart gives, no bound ends a run of the other one
  pub others_fine : (n : Need) (b : Bounds) (events : List EventWithInputs) (moments : List Moment)
      → IsNeedOf c (Some n) → IsGiven c b → AllByRecursion (CanBeGiven names) events → RulesRun other b events moments
      → AllByRecursion (λ (m : Moment). NoOverrun m.fault) moments
  others_fine n b events moments need given can run =
      given_fine other n b events moments (need_too (Some n) need)
      (record { need = given.need; is_need = need_too given.need given.is_need; bounds_are = given.bounds_are }) can run
