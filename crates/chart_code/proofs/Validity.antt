-- What a valid chart says of the procedures that stand in code: states that are sent to, and destinations of lists.
use Rattle.std.proofs.Common.{◌≡◌, ◌<◌, ◌≤◌, ℕ, zero, suc, List, [], ◌∷◌, Option, Some, None, Bool, true, false}
use Rattle.std.proofs.Common.{length, refl, ap, ◌∙◌, subst, arith, cond, ⊎_elim}
use Rattle.std.specs.Prelude.{◌==◌}
use Rattle.std.specs.List.{AllByRecursion, find}
use Rattle.std.proofs.lemmas.Bool.{cases_lt}
use Rattle.std.proofs.lemmas.Bool.Decides.{nat_tests}
use Rattle.std.proofs.lemmas.List.{get_or_past}
use Rattle.active_config.specs.declared.comp.Comp.{Comp}
use Rattle.active_config.specs.declared.comp.Comp.TheVariants.{Leaf, Or, And}
use Rattle.active_config.specs.Tree.{Tree, IsTree, state_count, comp_of, ancestors, is_below, is_at_or_below}
use Rattle.active_config.proofs.PathLemmas.{Path, Here, Up, above_of_below, parent_before, path_le}
use Rattle.active_config.proofs.PathLemmas.{parent_lt, of_path}
use Rattle.actions.specs.Exprs.{Stmt, Assign, Send, SendTo, Emit}
use Rattle.checked_chart.specs.declared.parts.Dest.{Dest}
use Rattle.checked_chart.specs.declared.parts.Dest.TheVariants.{State, Junction}
use Rattle.checked_chart.specs.declared.parts.ListKind.{ListKind}
use Rattle.checked_chart.specs.declared.parts.ListKind.TheVariants.{Outer, Inner, Default}
use Rattle.checked_chart.specs.Chart.{Chart, Trans, node, list_of, junction}
use Rattle.checked_chart.specs.Homes.{common_above, or_root, home_of}
use Rattle.checked_chart.specs.Reached.{links_of, LeadsTo, Reached, Directly, Through, Meets, Itself, AtJunction}
use Rattle.checked_chart.specs.Valid.{IsValid, AreStmts, AreTrans, IsDest, Closes, MayLead, LeadsWell}
use Rattle.checked_chart.proofs.PartsLemmas.{node_valid, junction_valid}
use Rattle.checked_chart.proofs.Walks.{below_is}
use Rattle.code_language.specs.Code.{Procedures}
use Rattle.code_language.specs.Instrs.{Cond}
use Rattle.chart_code.specs.Compiled.{PartBy, BlockAt, EachAt, ListCompiled}
use Rattle.chart_code.specs.Kinds.{Targets, HasBlock, IsDestination}
use Rattle.chart_code.specs.ListProcedures.{Search, context_of, search_of}
use Rattle.chart_code.specs.Numbers.{Numbers, TransNumbers, ListNumbers, other_parts}
use Rattle.chart_code.specs.SearchParts.{Meaning, DestBy, EachBy, MayEnd, JunctionBy}
use Rattle.chart_code.proofs.Known.{meaning_of}

-- ---- statements

-- the directed sends of a chart's statements name states
block_targets : (c : Chart) (ss : List Stmt) → AreStmts c ss → Targets c.tree ss
block_targets c [] h = tt
block_targets c (Assign v e ∷ rest) h = block_targets c rest h.1
block_targets c (Emit e ∷ rest) h = block_targets c rest h.1
block_targets c (Send e ∷ rest) h = block_targets c rest h.1
block_targets c (SendTo e s ∷ rest) h = (h.0.1, block_targets c rest h.1)

-- those of an entry action
pub entry_targets : (c : Chart) → IsValid c → (s : ℕ) → Targets c.tree (node c s).entry
entry_targets c valid s = block_targets c (node c s).entry (node_valid c valid s).entry.stmts

-- those of a during action
pub during_targets : (c : Chart) → IsValid c → (s : ℕ) → Targets c.tree (node c s).during
during_targets c valid s = block_targets c (node c s).during (node_valid c valid s).during.stmts

-- those of an exit action
pub exit_targets : (c : Chart) → IsValid c → (s : ℕ) → Targets c.tree (node c s).exit
exit_targets c valid s = block_targets c (node c s).exit (node_valid c valid s).exit.stmts

-- a procedure of a part, with the states that it sends to
part_block : (c : Chart) (k : Procedures) (N : Numbers) (alive : Cond) (ss : List Stmt) (q : Option ℕ)
    → AreStmts c ss → PartBy (BlockAt k N alive) ss q → PartBy (HasBlock c.tree k N alive) ss q
part_block c k N alive [] None st h = tt
part_block c k N alive [] (Some q) st h = absurd h
part_block c k N alive (s ∷ ss) None st h = absurd h
part_block c k N alive (s ∷ ss) (Some q) st h = record { code = h; targets = block_targets c (s ∷ ss) st }

-- ---- destinations

-- what is composed is a state
comp_within : (t : Tree) → IsTree t → (s : ℕ) → comp_of t s ≡ Or → s < state_count t
unfolding comp_of
comp_within t tree s e =
    ⊎_elim (λ lt. lt)
    (λ le. absurd (let past = get_or_past t.comps s Leaf (omega (arith, tree.same_length, le)) in cc))
    (cases_lt s (state_count t))

-- the root is above every state
root_reaches : (t : Tree) → IsTree t → (m s : ℕ) → s ≤ m → s < state_count t → Path t 0 s
root_reaches t tree m zero le lt = Here refl
root_reaches t tree zero (suc s) le lt = absurd (omega arith)
root_reaches t tree (suc m) (suc s) le lt =
    let up = parent_before t (state_count t) tree.pre_order s lt in
    let low : up.0 < suc s = parent_lt t (state_count t) tree.pre_order (suc s) up.0 lt up.1 in
    Up up.0 up.1 (root_reaches t tree m up.0 (omega arith) (omega arith))

-- what is below a state is at or below it
below_is_at : (t : Tree) → IsTree t → (s d : ℕ) → d < state_count t → is_below t d s ≡ true
    → is_at_or_below t d s ≡ true
below_is_at t tree s d lt h =
    let up = above_of_below t d s h in
    of_path t (state_count t) tree.pre_order d s lt (Up up.parent up.is_parent up.path)

-- and it isn't that state
below_is_other : (t : Tree) → IsTree t → (s d : ℕ) → d < state_count t → is_below t d s ≡ true → (s == d) ≡ false
below_is_other t tree s d lt h =
    let up = above_of_below t d s h in
    let low = parent_lt t (state_count t) tree.pre_order d up.parent lt up.is_parent in
    let le = path_le t (state_count t) tree.pre_order up.parent s (omega arith) up.path in
    let less : s < d = omega arith in
    grind (arith, nat_tests)

-- what was found passes the test
find_passes : (p : ℕ → Bool) (xs : List ℕ) (y : ℕ) → find p xs ≡ Some y → p y ≡ true
find_passes p [] y e = absurd cc
find_passes p (x ∷ xs) y e = go (p x) refl e (find_passes p xs y)
  where
    go : (b : Bool) → p x ≡ b → cond b (Some x) (find p xs) ≡ Some y → (find p xs ≡ Some y → p y ≡ true) → p y ≡ true
    go true f e rest = let same : x ≡ y = cc in subst (λ z. p z ≡ true) same f
    go false f e rest = rest e

-- the destination of an outer list is at or below its home
outer_below : (t : Tree) → IsTree t → (s d : ℕ) → d < state_count t → is_at_or_below t d (home_of t s Outer d) ≡ true
outer_below t tree s d lt = go (common_above t s d) refl
  where
    go : (o : Option ℕ) → common_above t s d ≡ o → is_at_or_below t d (or_root o) ≡ true
    go None e = of_path t (state_count t) tree.pre_order d 0 lt (root_reaches t tree d d (omega arith) lt)
    go (Some a) e = below_is_at t tree a d lt (find_passes (is_below t d) (ancestors t s) a (below_is t s d ∙ e))

-- only ORs have default lists
abbrev IsHomeOf : Tree → ℕ → ListKind → Type 0
IsHomeOf t s Outer = Unit {0}
IsHomeOf t s Inner = Unit {0}
IsHomeOf t s Default = comp_of t s ≡ Or

-- a state that a list may lead to is a destination of it
destination : (t : Tree) → IsTree t → (s : ℕ) (kind : ListKind) (d : ℕ) → s < state_count t → d < state_count t
    → IsHomeOf t s kind → MayLead t s kind d → IsDestination t s kind d
destination t tree s Outer d lt le or h = record {
  home = h;
  path = record { state = comp_within t tree (home_of t s Outer d) h; below = outer_below t tree s d le };
  below = tt;
}
destination t tree s Inner d lt le or h =
    record { home = h.1; path = record { state = lt; below = h.0 }; below = tt }
destination t tree s Default d lt le or h = record {
  home = or;
  path = record { state = lt; below = below_is_at t tree s d le h };
  below = below_is_other t tree s d le h;
}

-- ---- lists that are met

-- no junction is reached from a list without transitions
nothing_reached : (c : Chart) (list : List Trans) → list ≡ [] → (j : ℕ) → Reached (links_of c) list j → ⊥
nothing_reached c list e j (Directly _ leads) =
    let n = ap length e in let i = leads.within.1 in omega (arith, i, n)
nothing_reached c list e j (Through k _ r leads) = nothing_reached c list e k r

-- a transition that is met from a default list belongs to an OR
default_or : (c : Chart) → IsValid c → (s : ℕ) → s < state_count c.tree → (l : List Trans)
    → Meets (links_of c) (list_of c s Default) l → (t : Trans) (ts : List Trans) → l ≡ t ∷ ts → comp_of c.tree s ≡ Or
default_or c valid s lt l m t ts e = go (comp_of c.tree s) refl
  where
    met : (list l : List Trans) → list ≡ [] → Meets (links_of c) list l → l ≡ t ∷ ts → ⊥
    met list _ none Itself e = absurd cc
    met list _ none (AtJunction j r) e = nothing_reached c list none j r

    go : (o : Comp) → comp_of c.tree s ≡ o → comp_of c.tree s ≡ Or
    go Leaf is = absurd (met (list_of c s Default) l (valid.structure.no_default s lt (λ or. cc)) m e)
    go Or is = is
    go And is = absurd (met (list_of c s Default) l (valid.structure.no_default s lt (λ or. cc)) m e)

-- the same for every kind of list
home_is_or : (c : Chart) → IsValid c → (s : ℕ) (kind : ListKind) → s < state_count c.tree
    → (t : Trans) (ts : List Trans)
    → Meets (links_of c) (list_of c s kind) (t ∷ ts) → IsHomeOf c.tree s kind
home_is_or c valid s Outer lt t ts m = tt
home_is_or c valid s Inner lt t ts m = tt
home_is_or c valid s Default lt t ts m = default_or c valid s lt (t ∷ ts) m t ts refl

-- the transitions of a list that is met are those of a chart
met_trans : (c : Chart) → IsValid c → (s : ℕ) (kind : ListKind) (l : List Trans)
    → Meets (links_of c) (list_of c s kind) l → AreTrans c l
met_trans c valid s kind _ (AtJunction j r) = junction_valid c valid j
met_trans c valid s Outer _ Itself = (node_valid c valid s).outer
met_trans c valid s Inner _ Itself = (node_valid c valid s).inner
met_trans c valid s Default _ Itself = (node_valid c valid s).default

-- a list that closes isn't empty
closes_some : (l : List Trans) → Closes l → MayEnd None l
closes_some [] h = absurd h
closes_some (t ∷ ts) h = tt

-- no junction that is reached from a default list is empty
may_end : (c : Chart) → IsValid c → (N : Numbers) (s : ℕ) (kind : ListKind) (j : ℕ) → s < state_count c.tree
    → Reached (links_of c) (list_of c s kind) j → MayEnd (context_of N c.tree s kind).end (junction c j)
may_end c valid N s Outer j lt r = tt
may_end c valid N s Inner j lt r = tt
may_end c valid N s Default j lt r = closes_some (junction c j) (valid.structure.junctions s j lt r)

module _ (c : Chart) (valid : IsValid c) (k : Procedures) (N : Numbers) (M : ListNumbers) (s : ℕ) (kind : ListKind)
    (lt : s < state_count c.tree) where
  -- what the procedures of the list share
  abbrev S : Search
  S = search_of N M c.tree s kind

  -- the junctions that are reached from the list
  abbrev Comes : ℕ → Type 0
  Comes = Reached (links_of c) (list_of c s kind)

  -- what is known of the parts
  abbrev P : Meaning
  P = meaning_of c.tree k N s kind Comes

  -- where a transition leads
  leads_by : (d : Dest) → IsHomeOf c.tree s kind → IsDest c d → LeadsWell c.tree s kind d
      → ((j : ℕ) → d ≡ Junction j → Comes j) → DestBy P.dest P.junction d
  leads_by (State d) or is well comes = destination c.tree valid.tree s kind d lt is.1 or well
  leads_by (Junction j) or is well comes = comes j refl

  -- the procedures of the transitions of a list that leads to what is reached
  each_by : (ts : List Trans) (qs : List TransNumbers) → IsHomeOf c.tree s kind → AreTrans c ts
      → AllByRecursion (λ (t : Trans). LeadsWell c.tree s kind t.dest) ts
      → ((j : ℕ) → LeadsTo (links_of c) ts j → Comes j) → EachAt k N S ts qs → EachBy P kind ts qs
  each_by [] qs or are well comes h = tt
  each_by (t ∷ ts) qs or are well comes h = (
    record {
      guard = h.0.guard;
      condition = part_block c k N _ t.condition _ are.0.condition.stmts h.0.condition;
      action = part_block c k N _ t.action _ are.0.action.stmts h.0.action;
      dest = leads_by t.dest or are.0.dest well.0
          (λ j e. comes j (record { trans = t; within = (0, omega arith, refl); leads = e }));
    },
    each_by ts (other_parts qs) or are.1 well.1
        (λ j l. comes j (record {
          trans = l.trans;
          within = (suc l.within.0, omega (arith, l.within.1), l.within.2);
          leads = l.leads;
        })) h.1,
  )

  -- the procedures of a list that is met
  met_by : (ts : List Trans) (qs : List TransNumbers) → Meets (links_of c) (list_of c s kind) ts
      → ((j : ℕ) → LeadsTo (links_of c) ts j → Comes j) → EachAt k N S ts qs → EachBy P kind ts qs
  met_by [] qs m comes h = tt
  met_by (t ∷ ts) qs m comes h =
      each_by (t ∷ ts) qs (home_is_or c valid s kind lt t ts m) (met_trans c valid s kind (t ∷ ts) m)
      (valid.structure.leads s kind (t ∷ ts) lt m) comes h

  module _ (L : ListCompiled c k N M s kind S) where
    -- what is known of the transitions of the list
    pub list_by : EachBy P kind (list_of c s kind) (M.parts s kind)
    list_by = met_by (list_of c s kind) (M.parts s kind) Itself (λ j l. Directly j l) L.parts

    -- what is known of a junction that is reached
    pub junction_by : (j : ℕ) → Comes j → JunctionBy k P S (S.junction j) (junction c j) (M.junction_parts j)
    junction_by j r = record {
      code = L.junctions j r;
      parts =
          met_by (junction c j) (M.junction_parts j) (AtJunction j r) (λ i l. Through j i r l) (L.junction_parts j r);
      may_end = may_end c valid N s kind j lt r;
    }
