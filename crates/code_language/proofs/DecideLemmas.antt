-- Code is well formed, or it has a first fault: each condition of its tables is decided.
use Rattle.std.proofs.Common.{◌≡◌, ◌⊎◌, ◌↔◌, ℕ, zero, suc, ◌+◌, ◌≤◌, ◌<◌, Bool, true, false, List, [], ◌∷◌, length}
use Rattle.std.proofs.Common.{map, Option, Some, None, inl, inr, refl, sym, subst, arith}
use Rattle.std.specs.Prelude.{IsTrue, IsSomeAnd}
use Rattle.std.specs.List.{AllByRecursion, list_all}
use Rattle.std.proofs.lemmas.Bool.{cases_lt, cases_eq}
use Rattle.fixed_point.specs.declared.fitting.Mode.{Mode}
use Rattle.fixed_point.specs.declared.fitting.Mode.TheVariants.{Saturate, Wrap, Error}
use Rattle.flow_base.specs.Names.{are_distinct}
use Rattle.flow_base.specs.declared.chart_limits.TheConstants.{STATE_LIMIT, STATE_DEPTH_LIMIT, VARIABLE_LIMIT}
use Rattle.flow_base.specs.declared.chart_limits.TheConstants.{EVENT_LIMIT}
use Rattle.chart_lexer.specs.Words.{is_name}
use Rattle.active_config.specs.declared.comp.Comp.{Comp}
use Rattle.active_config.specs.declared.comp.Comp.TheVariants.{Leaf, Or, And}
use Rattle.active_config.specs.Tree.{Tree, IsPreOrder, IsTree, LeavesAreChildless, state_count, parent_of, comp_of}
use Rattle.active_config.specs.Tree.{children_of, ancestors, is_at_or_below}
use Rattle.actions.specs.Data.{HasInits, is_mantissa_of}
use Rattle.actions.specs.declared.names.Sort.{Sort}
use Rattle.actions.specs.declared.names.Sort.TheVariants.{Flag, Number}
use Rattle.actions.specs.declared.names.Var.{Var}
use Rattle.actions.specs.Names.{Names}
use Rattle.checked_chart.specs.Valid.{HasNames, HasFlagMode, declared_names, state_name}
use Rattle.code_language.specs.declared.fault.CodeFault.{CodeFault}
use Rattle.code_language.specs.declared.fault.CodeKind.TheVariants as kinds
use Rattle.code_language.specs.Code.{Code}
use Rattle.code_language.specs.Acceptance.{IsShallow}
use Rattle.code_language.specs.Tables.{IsTable}
use Rattle.code_language.specs.WellFormed.{too_many, later_fault, IsCode, IsFirstFault, TooMany, BadTable, Later}

-- ---- what can be decided

-- it holds, or it doesn't
abbrev Decided : Type 0 → Type 0
Decided A = A ⊎ (A → ⊥)

-- what follows from what is decided, and from which that follows
by : (A B : Type 0) → (A → B) → (B → A) → Decided A → Decided B
by A B f g (inl a) = inl (f a)
by A B f g (inr never) = inr (λ b. never (g b))

both : (A B : Type 0) → Decided A → Decided B → Decided (A × B)
both A B (inl a) (inl b) = inl (a, b)
both A B (inl a) (inr never) = inr (λ p. never p.1)
both A B (inr never) d = inr (λ p. never p.0)

implied : (A B : Type 0) → Decided A → Decided B → Decided (A → B)
implied A B (inl a) (inl b) = inl (λ _. b)
implied A B (inl a) (inr never) = inr (λ f. never (f a))
implied A B (inr never) d = inl (λ a. absurd (never a))

-- of each number below the limit
each_below : (P : ℕ → Type 0) → ((s : ℕ) → Decided (P s)) → (n : ℕ) → Decided ((s : ℕ) → s < n → P s)
each_below P d zero = inl (λ s lt. absurd (omega arith))
each_below P d (suc n) =
    by (((s : ℕ) → s < n → P s) × P n) ((s : ℕ) → s < suc n → P s)
    (λ h s lt. elim (cases_eq s n) [
      | inl same ↦ subst P (sym same) h.1
      | inr other ↦ h.0 s (omega arith)
    ])
    (λ h. ((λ s lt. h s (omega arith)), h n (omega arith)))
    (both ((s : ℕ) → s < n → P s) (P n) (each_below P d n) (d n))

-- of each item of a list
each_in : {X : Type 0} (P : X → Type 0) → ((x : X) → Decided (P x)) → (xs : List X) → Decided (AllByRecursion P xs)
each_in P d [] = inl tt
each_in P d (x ∷ xs) = both (P x) (AllByRecursion P xs) (d x) (each_in P d xs)

less : (a b : ℕ) → Decided (a < b)
less a b = elim (cases_lt a b) [ inl lt ↦ inl lt | inr le ↦ inr (λ lt. omega arith) ]

at_most : (a b : ℕ) → Decided (a ≤ b)
at_most a b = elim (cases_lt b a) [ inl lt ↦ inr (λ le. omega arith) | inr le ↦ inl le ]

same_number : (a b : ℕ) → Decided (a ≡ b)
same_number a b = elim (cases_eq a b) [ inl e ↦ inl e | inr ne ↦ inr ne ]

holds : (b : Bool) → Decided (b ≡ true)
holds true = inl refl
holds false = inr (λ e. absurd (cc e))

is_leaf : (c : Comp) → Decided (c ≡ Leaf)
is_leaf Leaf = inl refl
is_leaf Or = inr (λ e. absurd (cc e))
is_leaf And = inr (λ e. absurd (cc e))

is_empty : (xs : List ℕ) → Decided (xs ≡ [])
is_empty [] = inl refl
is_empty (x ∷ xs) = inr (λ e. absurd (cc e))

is_nothing : (o : Option ℕ) → Decided (o ≡ None)
is_nothing None = inl refl
is_nothing (Some x) = inr (λ e. absurd (cc e))

is_there : (P : ℕ → Type 0) → ((x : ℕ) → Decided (P x)) → (o : Option ℕ) → Decided (IsSomeAnd o P)
is_there P d None = inr (λ h. h)
is_there P d (Some x) = d x

is_flag : (s : Sort) → Decided (s ≡ Flag)
is_flag Flag = inl refl
is_flag (Number scale) = inr (λ e. absurd (cc e))

saturates : (m : Mode) → Decided (m ≡ Saturate)
saturates Saturate = inl refl
saturates Wrap = inr (λ e. absurd (cc e))
saturates Error = inr (λ e. absurd (cc e))

-- ---- the tables

module _ (t : Tree) where
  -- the children of a state, and whether it is a leaf
  leaf_decided : (s : ℕ) → Decided ((comp_of t s ≡ Leaf) ↔ (children_of t s ≡ []))
  leaf_decided s =
      let leaf = comp_of t s ≡ Leaf in
      let childless = children_of t s ≡ [] in
      both (leaf → childless) (childless → leaf)
      (implied leaf childless (is_leaf (comp_of t s)) (is_empty (children_of t s)))
      (implied childless leaf (is_empty (children_of t s)) (is_leaf (comp_of t s)))

  -- where a state stands
  abbrev IsPlaced : ℕ → Type 0
  IsPlaced s = s + 1 < state_count t → IsSomeAnd (parent_of t (s + 1)) (λ p. IsTrue (is_at_or_below t s p))

  placed_decided : (s : ℕ) → Decided (IsPlaced s)
  placed_decided s =
      implied (s + 1 < state_count t) (IsSomeAnd (parent_of t (s + 1)) (λ p. IsTrue (is_at_or_below t s p)))
      (less (s + 1) (state_count t))
      (is_there (λ p. IsTrue (is_at_or_below t s p)) (λ p. holds (is_at_or_below t s p)) (parent_of t (s + 1)))

  -- the order of the states
  order_decided : Decided (IsPreOrder t (state_count t))
  order_decided =
      by ((parent_of t 0 ≡ None) × ((s : ℕ) → s < state_count t → IsPlaced s)) (IsPreOrder t (state_count t))
      (λ h. record { root = h.0; others = λ s lt. h.1 s (omega arith) lt })
      (λ h. (h.root, λ s lt next. h.others s next))
      (both (parent_of t 0 ≡ None) ((s : ℕ) → s < state_count t → IsPlaced s) (is_nothing (parent_of t 0))
      (each_below IsPlaced placed_decided (state_count t)))

  -- the tree
  tree_decided : Decided (IsTree t)
  tree_decided =
      let some = 0 < state_count t in
      let same = length t.comps ≡ state_count t in
      let order = IsPreOrder t (state_count t) in
      by (some × (same × (order × LeavesAreChildless t))) (IsTree t)
      (λ h. record { some = h.0; same_length = h.1.0; pre_order = h.1.1.0; leaves = h.1.1.1 })
      (λ h. (h.some, (h.same_length, (h.pre_order, h.leaves))))
      (both some (same × (order × LeavesAreChildless t)) (less 0 (state_count t))
      (both same (order × LeavesAreChildless t) (same_number (length t.comps) (state_count t))
      (both order (LeavesAreChildless t) order_decided
      (each_below (λ s. (comp_of t s ≡ Leaf) ↔ (children_of t s ≡ [])) leaf_decided (state_count t)))))

  -- the depths
  shallow_decided : Decided (IsShallow t)
  shallow_decided =
      each_below (λ s. length (ancestors t s) ≤ STATE_DEPTH_LIMIT)
      (λ s. at_most (length (ancestors t s)) STATE_DEPTH_LIMIT) (state_count t)

  module _ (n : Names) where
    -- names of siblings
    abbrev HasSiblings : Type 0
    HasSiblings = (s : ℕ) → s < state_count t → are_distinct (map (state_name n) (children_of t s)) ≡ true

    siblings_decided : Decided HasSiblings
    siblings_decided =
        each_below (λ s. are_distinct (map (state_name n) (children_of t s)) ≡ true)
        (λ s. holds (are_distinct (map (state_name n) (children_of t s)))) (state_count t)

    -- names
    names_decided : Decided (HasNames t n)
    names_decided =
        let states = list_all is_name n.states ≡ true in
        let declared = list_all is_name (declared_names n) ≡ true in
        let distinct = are_distinct (declared_names n) ≡ true in
        by (states × (declared × (distinct × HasSiblings))) (HasNames t n)
        (λ h. record { states = h.0; declared = h.1.0; distinct = h.1.1.0; siblings = h.1.1.1 })
        (λ h. (h.states, (h.declared, (h.distinct, h.siblings))))
        (both states (declared × (distinct × HasSiblings)) (holds (list_all is_name n.states))
        (both declared (distinct × HasSiblings) (holds (list_all is_name (declared_names n)))
        (both distinct HasSiblings (holds (are_distinct (declared_names n))) siblings_decided)))

    -- first values and modes
    inits_decided : Decided (HasInits n)
    inits_decided =
        each_in (λ (v : Var). IsTrue (is_mantissa_of v.sort v.init)) (λ v. holds (is_mantissa_of v.sort v.init)) n.vars

    flags_decided : Decided (AllByRecursion HasFlagMode n.vars)
    flags_decided =
        each_in HasFlagMode
        (λ v. implied (v.sort ≡ Flag) (v.mode ≡ Saturate) (is_flag v.sort) (saturates v.mode)) n.vars

    -- counts
    record AreFew : Type 0 where
      states : state_count t ≤ STATE_LIMIT
      vars : length n.vars ≤ VARIABLE_LIMIT
      events : length n.events ≤ EVENT_LIMIT

    few_decided : Decided AreFew
    few_decided =
        let states = state_count t ≤ STATE_LIMIT in
        let vars = length n.vars ≤ VARIABLE_LIMIT in
        let events = length n.events ≤ EVENT_LIMIT in
        by (states × (vars × events)) AreFew
        (λ h. record { states = h.0; vars = h.1.0; events = h.1.1 })
        (λ h. (h.states, (h.vars, h.events)))
        (both states (vars × events) (at_most (state_count t) STATE_LIMIT)
        (both vars events (at_most (length n.vars) VARIABLE_LIMIT) (at_most (length n.events) EVENT_LIMIT)))

    -- the whole table
    pub table_decided : Decided (IsTable t n)
    table_decided =
        let flags = AllByRecursion HasFlagMode n.vars in
        by (IsTree t × (IsShallow t × (AreFew × (HasNames t n × (HasInits n × flags))))) (IsTable t n)
        (λ h. record {
          tree = h.0;
          states = h.1.1.0.states;
          depth = h.1.0;
          vars = h.1.1.0.vars;
          events = h.1.1.0.events;
          names = h.1.1.1.0;
          inits = h.1.1.1.1.0;
          flags = h.1.1.1.1.1;
        })
        (λ h. (
          h.tree,
          (
            h.depth,
            (
              record { states = h.states; vars = h.vars; events = h.events },
              (h.names, (h.inits, h.flags)),
            ),
          ),
        ))
        (both (IsTree t) (IsShallow t × (AreFew × (HasNames t n × (HasInits n × flags)))) tree_decided
        (both (IsShallow t) (AreFew × (HasNames t n × (HasInits n × flags))) shallow_decided
        (both AreFew (HasNames t n × (HasInits n × flags)) few_decided
        (both (HasNames t n) (HasInits n × flags) names_decided
        (both (HasInits n) flags inits_decided flags_decided)))))

-- ---- the whole code

-- code is well formed, or has a first fault
pub formed_or_faulty : (k : Code) → IsCode k ⊎ ((fault : CodeFault) × IsFirstFault k fault)
formed_or_faulty k = by_count (too_many k.procedures.procs) refl
  where
    by_later : (found : Option CodeFault) → too_many k.procedures.procs ≡ false → IsTable k.tree k.names
        → later_fault k ≡ found → IsCode k ⊎ ((fault : CodeFault) × IsFirstFault k fault)
    by_later None few table e = inl (record { few = few; table = table; sound = e })
    by_later (Some fault) few table e = inr (fault, Later fault few table e)

    by_table : too_many k.procedures.procs ≡ false → Decided (IsTable k.tree k.names)
        → IsCode k ⊎ ((fault : CodeFault) × IsFirstFault k fault)
    by_table few (inl table) = by_later (later_fault k) few table refl
    by_table few (inr none) = inr (record { kind = kinds.BadTable; proc = 0; place = 0 }, BadTable few none)

    by_count : (b : Bool) → too_many k.procedures.procs ≡ b → IsCode k ⊎ ((fault : CodeFault) × IsFirstFault k fault)
    by_count true many = inr (record { kind = kinds.TooManyProcs; proc = 0; place = 0 }, TooMany many)
    by_count false few = by_table few (table_decided k.tree k.names)
