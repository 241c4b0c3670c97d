-- Where a key stands in the layout its instructions stand in the code; and the procedures of lists and junctions.
use Rattle.std.proofs.Common.{◌≡◌, ℕ, zero, suc, ◌+◌, ◌<◌, true, List, [], ◌∷◌, map, Option, Some, None, option_map}
use Rattle.std.proofs.Common.{refl, ap, ◌∙◌, subst, arith}
use Rattle.std.specs.Prelude.{slice_get, slice_index_or}
use Rattle.std.proofs.lemmas.Option.{slice_get-map}
use Rattle.active_config.specs.Tree.{state_count}
use Rattle.actions.specs.Exprs.{Expr, Stmt}
use Rattle.checked_chart.specs.declared.parts.ListKind.{ListKind}
use Rattle.checked_chart.specs.declared.parts.ListKind.TheVariants.{Outer, Inner, Default}
use Rattle.checked_chart.specs.Chart.{Chart, Trans, list_of, life_of}
use Rattle.code_language.specs.Code.{Procedures, instructions}
use Rattle.code_language.specs.Instrs.{Cond}
use Rattle.code_language.specs.Instrs as instrs
use Rattle.code_language.specs.Reach.{HasAt}
use Rattle.code_language.proofs.Places.{has_whole}
use Rattle.chart_code.specs.Compiled.{GuardBy, PartBy, BlockAt, PartsAt, EachAt}
use Rattle.chart_code.specs.ListProcedures.{Search}
use Rattle.chart_code.specs.Numbers.{Numbers, TransNumbers, condition_of, first_of_parts, other_parts}
use Rattle.chart_code.specs.StateProcedures.{life_test, block_code, guard_code}
use Rattle.chart_code.specs.ReachedJunctions.{has, place_of, reached}
use Rattle.chart_code.specs.Keys.{Key, Guard, ConditionOn, ConditionBare, Action, ListOf, JunctionOf, search_keys}
use Rattle.chart_code.specs.Keys.{layout}
use Rattle.chart_code.specs.Places.{list_at, numbers, list_numbers}
use Rattle.chart_code.specs.Bodies.{body, procedures_of}
use Rattle.chart_code.proofs.Members.{place_get}
use Rattle.chart_code.proofs.Segments.{holds_get, holds_first}
use Rattle.chart_code.proofs.StateStands.{StandsAt, search_stands}
use Rattle.chart_code.proofs.PartStands.{PartsStand, EachStands}

-- what stands in a list is found there, seen by f
found_map : {A B : Type 0} (f : A → B) (xs : List A) (n : ℕ) (x : A) (d : B) → slice_get xs n ≡ Some x
    → slice_index_or (map f xs) n d ≡ f x
found_map f [] n x d e = absurd cc
found_map f (y ∷ xs) zero x d e = let q : y ≡ x = cc in ap f q
found_map f (y ∷ xs) (suc n) x d e = found_map f xs n x d e

module _ (c : Chart) where
  abbrev L : List Key
  L = layout c

  abbrev N : Numbers
  N = numbers c

  abbrev K : Procedures
  K = procedures_of c

  -- where a key stands its instructions stand
  pub body_stands : (p : ℕ) (key : Key) → StandsAt c p key → HasAt K p 0 (body c key)
  unfolding procedures_of instructions
  body_stands p key e = has_whole K p (body c key) (found_map (body c) L p key [] e)

  -- ---- the parts of transitions

  -- what a guard's number says of the layout it says of the code
  guard_at : (o : Option Expr) (q : Option ℕ) → GuardBy (λ q e. StandsAt c q (Guard e)) o q
      → GuardBy (λ q e. HasAt K q 0 (guard_code e)) o q
  guard_at None None h = tt
  guard_at None (Some q) h = absurd h
  guard_at (Some e) None h = absurd h
  guard_at (Some e) (Some q) h = body_stands q (Guard e) h

  -- the same of an action, for keys whose instructions are those of a block
  part_at : (key : List Stmt → Key) (alive : Cond) → ((ss : List Stmt) → body c (key ss) ≡ block_code N alive ss)
      → (ss : List Stmt) (q : Option ℕ) → PartBy (λ q ss. StandsAt c q (key ss)) ss q → PartBy (BlockAt K N alive) ss q
  part_at key alive is [] None h = tt
  part_at key alive is [] (Some q) h = absurd h
  part_at key alive is (s ∷ ss) None h = absurd h
  part_at key alive is (s ∷ ss) (Some q) h =
      subst (λ code. HasAt K q 0 code) (is (s ∷ ss)) (body_stands q (key (s ∷ ss)) h)

  -- the parts of a transition
  trans_at : (S : Search) (t : Trans) (q : TransNumbers) → PartsStand c t q → PartsAt K N S t q
  trans_at S t q h = record {
    guard = guard_at t.guard q.guard h.guard;
    condition = at S.state S.kind;
    action = part_at Action instrs.BareHome (λ ss. refl) t.action q.action h.action;
  }
    where
      at : (s : ℕ) (kind : ListKind)
          → PartBy (BlockAt K N (life_test (life_of s kind))) t.condition (condition_of kind q)
      at s Outer = part_at ConditionOn instrs.OnHome (λ ss. refl) t.condition q.condition_on h.condition_on
      at s Inner = part_at ConditionOn instrs.OnHome (λ ss. refl) t.condition q.condition_on h.condition_on
      at s Default =
          part_at ConditionBare instrs.BareHome (λ ss. refl) t.condition q.condition_bare h.condition_bare

  -- those of the transitions of a list
  pub each_at : (S : Search) (ts : List Trans) (qs : List TransNumbers) → EachStands c ts qs → EachAt K N S ts qs
  each_at S [] qs h = tt
  each_at S (t ∷ ts) qs h = (trans_at S t (first_of_parts qs) h.0, each_at S ts (other_parts qs) h.1)

  -- ---- lists and junctions

  module _ (s : ℕ) (kind : ListKind) (lt : s < state_count c.tree) where
    -- a list of a state
    pub list_stands : StandsAt c (N.search s kind) (ListOf s kind)
    unfolding numbers search_keys
    list_stands =
        holds_first L (list_at c s kind) (ListOf s kind) (map (λ j. JunctionOf s kind j) (reached c (list_of c s kind)))
        (search_stands c s lt kind)

    -- a junction that is reached from it
    pub junction_stands : (j : ℕ) → has (reached c (list_of c s kind)) j ≡ true
        → StandsAt c ((list_numbers c).junction s kind j) (JunctionOf s kind j)
    unfolding list_numbers search_keys
    junction_stands j h =
        let all = reached c (list_of c s kind) in
        let e : list_at c s kind + suc (place_of all j) ≡ list_at c s kind + 1 + place_of all j = omega arith in
        holds_get L (list_at c s kind) (suc (place_of all j)) (list_at c s kind + 1 + place_of all j)
        (search_keys c s kind) (JunctionOf s kind j) e (search_stands c s lt kind)
        (slice_get-map (λ i. JunctionOf s kind i) all (place_of all j)
        ∙ ap (λ o. option_map (λ i. JunctionOf s kind i) o) (place_get all j h))
