-- The tests of a plan, as C.
use Rattle.std.proofs.Common.{◌≡◌, ℕ, ◌+◌, ◌^◌, ◌<◌, nat_eq, Bool, true, false}
use Rattle.std.proofs.Common.{List, [], ◌∷◌, length, Option, Some, None, refl, sym, ap, ◌∙◌, subst}
use Rattle.std.proofs.Common.{arith}
use Rattle.std.proofs.lemmas.Bool.Decides.{nat_tests}
use Rattle.active_config.specs.Tree.{state_count, parent_of, comp_of, children_of, is_or}
use Rattle.actions.specs.declared.event.Event.{Event}
use Rattle.actions.specs.declared.event.Event.TheVariants as events
use Rattle.actions.specs.Work.{Now, is_event}
use Rattle.c_subset.specs.Trees.{CExpr}
use Rattle.c_subset.specs.declared.trees.Width.{Width}
use Rattle.c_subset.specs.declared.trees.Comparison.TheVariants.{IsEqual}
use Rattle.c_subset.specs.Meaning.{one_if, Store, Locals}
use Rattle.c_subset.specs.Running.{Calls}
use Rattle.c_functions.specs.Claims.{Has}
use Rattle.c_functions.proofs.TranslationOperators.{bang-has}
use Rattle.c_functions.proofs.StoringScales.{flag-const}
use Rattle.c_functions.specs.States.{or_parent}
use Rattle.c_functions.specs.Statements.{CMemory, Locals as Inner, Check}
use Rattle.c_functions.specs.Statements as plan
use Rattle.c_functions.specs.Meaning as p
use Rattle.c_functions.specs.Meaning.{check}
use Rattle.c_functions.specs.Written.{and_no_flag, on_under, on_check, and_childless, bare_check, last_under}
use Rattle.c_functions.specs.Written.{takes_if, takes_check}
use Rattle.c_functions.proofs.WrittenTests.{on_test, bare_test}
use Rattle.c_functions.specs.Layout.{on_c, on_by_c, bare_c, and_no_bits, and_childless_c}
use Rattle.c_functions.specs.Plans.{Shape, layout, check_c, event_number, event_local, result_local, number}
use Rattle.c_functions.specs.Plans.{bad}
use Rattle.c_functions.proofs.LayoutTests.{equal-numbers, on-has, bare-has, last-has}
use Rattle.c_functions.proofs.PlansWords.{number-means, local-means, compare-has}
use Rattle.c_functions.proofs.PlansEnds.{IsFit, IsAt, program_c, is_layout}

-- ---- tests of states are those of the layout

on_same : (K : Shape) (s : ℕ) (o : Option ℕ) → check_c K (on_under K.numbers s o) ≡ on_by_c (layout K) K.numbers s o
on_same K s None = refl
on_same K s (Some q) = refl

pub on_is_c : (K : Shape) (s : ℕ) → check_c K (on_check K.tree K.numbers s) ≡ on_c K.tree (layout K) K.numbers s
unfolding on_c
on_is_c K s = on_same K s (or_parent K.tree (parent_of K.tree s))

flags_same : (K : Shape) (a : Check) (xs : List ℕ)
    → check_c K (and_no_flag a xs) ≡ and_no_bits (layout K) (check_c K a) xs
flags_same K a [] = refl
flags_same K a (x ∷ xs) = flags_same K (plan.Both a (plan.Not (plan.Flag x))) xs

childless_same : (K : Shape) (s : ℕ) (a : Check) (b : Bool) → check_c K (and_childless K.tree s a b)
    ≡ and_childless_c K.tree (layout K) s (check_c K a) b
childless_same K s a true = refl
childless_same K s a false = flags_same K a (children_of K.tree s)

pub bare_is_c : (K : Shape) (s : ℕ) → check_c K (bare_check K.tree K.numbers s) ≡ bare_c K.tree (layout K) K.numbers s
unfolding bare_c
bare_is_c K s =
    childless_same K s (on_check K.tree K.numbers s) (is_or (comp_of K.tree s))
    ∙ ap (λ (e : CExpr). and_childless_c K.tree (layout K) s e (is_or (comp_of K.tree s))) (on_is_c K s)

-- a number that is no event of the chart is none
apart : (a b : ℕ) → b < a → nat_eq a b ≡ false
apart a b lt = grind (arith, nat_tests)

event_test : (K : Shape) (e : ℕ) (event : Event) → e < length K.names.events
    → nat_eq (event_number K.names event) e ≡ is_event e event
event_test K e (events.Named x) lt = refl
event_test K e events.Tick lt = apart (length K.names.events) e lt
event_test K e events.Start lt = apart (length K.names.events + 1) e (omega (arith, lt))

module _ (K : Shape) (int : Width) (fit : IsFit K int) (bodies : ℕ → plan.Block) (call : p.Calls) (turns_left : ℕ)
    (calls : Calls) (k : ℕ) (c0 u0 : ℕ) (f0 p0 : Bool) (now : Now) (m : CMemory) (l : Inner) (s : Store) (loc : Locals)
    (c : ℕ) (h : IsAt K c0 u0 p0 now c m l s loc) where
  -- the C of a test gives what the test gives
  abbrev pub Tells : Check → Type 0
  Tells a = Has int s loc (check_c K a) (one_if (check (program_c K bodies) a m now l))

  pub on-tells : (q : ℕ) → q < state_count K.tree → Tells (on_check K.tree K.numbers q)
  on-tells q lt =
      subst (λ (e : CExpr). Has int s loc e (one_if (check (program_c K bodies) (on_check K.tree K.numbers q) m now l)))
      (sym (on_is_c K q))
      (subst (λ (b : Bool). Has int s loc (on_c K.tree (layout K) K.numbers q) (one_if b))
      (sym (on_test (program_c K bodies) m now l q))
      (on-has int s loc K.tree K.numbers (layout K) m.states q fit.most
      (is_layout K int fit bodies call turns_left calls k c0 u0 f0 p0 now) h.shows.states lt))

  pub bare-tells : (q : ℕ) → q < state_count K.tree → Tells (bare_check K.tree K.numbers q)
  bare-tells q lt =
      subst (λ (e : CExpr). Has int s loc e
      (one_if (check (program_c K bodies) (bare_check K.tree K.numbers q) m now l))) (sym (bare_is_c K q))
      (subst (λ (b : Bool). Has int s loc (bare_c K.tree (layout K) K.numbers q) (one_if b))
      (sym (bare_test (program_c K bodies) m now l q))
      (bare-has int s loc K.tree K.numbers (layout K) m.states q fit.most
      (is_layout K int fit bodies call turns_left calls k c0 u0 f0 p0 now) h.shows.states lt))

  takes_if-tells : (q : ℕ) (b : Bool) → q < state_count K.tree → Tells (takes_if K.tree K.numbers q b)
  takes_if-tells q true lt = bare-tells q lt
  takes_if-tells q false lt = on-tells q lt

  pub takes-tells : (o : Option ℕ) → ((q : ℕ) → o ≡ Some q → q < state_count K.tree)
      → Tells (takes_check K.tree K.numbers o)
  takes-tells None within = flag-const int s loc true
  takes-tells (Some q) within = takes_if-tells q (is_or (comp_of K.tree q)) (within q refl)

  pub last-tells : (q x : ℕ) → is_or (comp_of K.tree q) ≡ true → x < state_count K.tree
      → Tells (last_under K.numbers x (Some q))
  last-tells q x or lt =
      last-has int s loc K.tree K.numbers (layout K) m.states q x
      (is_layout K int fit bodies call turns_left calls k c0 u0 f0 p0 now) h.shows.states or lt

  pub event-tells : (e : ℕ) → e < length K.names.events → event_number K.names now.event < 2 ^ 17
      → Tells (plan.IsEvent e)
  event-tells e lt small =
      subst (λ (b : Bool). Has int s loc (check_c K (plan.IsEvent e)) (one_if b))
      (equal-numbers (event_number K.names now.event) e ∙ event_test K e now.event lt)
      (compare-has int fit.most s loc IsEqual event_local (number e) (event_number K.names now.event) e
      (omega (arith, small)) (omega (arith, lt, fit.events))
      (local-means int fit.most s loc 0 (event_number K.names now.event) h.event)
      (number-means int fit.most s loc e (omega (arith, lt, fit.events))))

  pub result-tells : (x : ℕ) → x < bad → Tells (plan.IsResult x)
  result-tells x small =
      subst (λ (b : Bool). Has int s loc (check_c K (plan.IsResult x)) (one_if b)) (equal-numbers l.result x)
      (compare-has int fit.most s loc IsEqual result_local (number x) l.result x (omega (arith, h.result_is))
      (omega (arith, small)) (local-means int fit.most s loc 4 l.result h.result)
      (number-means int fit.most s loc x (omega (arith, small))))

  pub not-tells : (a : Check) → Tells a → Tells (plan.Not a)
  not-tells a has = bang-has int s loc (check_c K a) (check (program_c K bodies) a m now l) has
