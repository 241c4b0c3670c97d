-- Under a good certificate each piece of work spends no more than its cell says.
use Rattle.std.proofs.Common.{◌≡◌, ℕ, zero, suc, ◌+◌, ◌≤◌, ◌==◌, nat_le, List, [], ◌∷◌, Option, Some, None, Bool, true}
use Rattle.std.proofs.Common.{false, refl, arith}
use Rattle.std.proofs.lemmas.Bool.Decides.{nat_tests}
use Rattle.std.specs.Prelude.{if◌then◌else◌}
use Rattle.std.specs.List.{AllByRecursion}
use Rattle.flow_base.specs.declared.bounds.Bounds.{Bounds}
use Rattle.flow_base.specs.declared.fault.Fault.TheVariants as kinds
use Rattle.active_config.specs.declared.comp.Comp.{Comp}
use Rattle.active_config.specs.declared.comp.Comp.TheVariants.{Leaf, Or, And}
use Rattle.active_config.specs.Tree.{Tree, comp_of, children_of, is_at_or_below}
use Rattle.active_config.specs.Marks.{is_on, is_bare, can_mark, active_child, is_last}
use Rattle.actions.specs.declared.event.Event.{Event}
use Rattle.actions.specs.declared.event.Event.TheVariants.{Named}
use Rattle.actions.specs.Exprs.{Stmt, Assign, Send, SendTo, Emit}
use Rattle.actions.specs.World.{World, emitted, Life, On, Bare, lives}
use Rattle.actions.specs.Changes.{set_mark, keep_in}
use Rattle.actions.specs.Work.{Run, Work, ◌>>=◌, ◌>>◌, then_do, give, nothing, fault, change}
use Rattle.actions.specs.Work.{choose, if_some, if_done, End, Done, Cut, Now, deeper}
use Rattle.sos_rules.specs.Moves.{if_bare, keep_if, entered_in, exit_active, exit_children, exit_rule, exit_each_rule}
use Rattle.sos_rules.specs.Moves.{enter_toward, enter_inside, enter_rule}
use Rattle.sos_rules.specs.Moves.{enter_each_rule, after_default, default_search}
use Rattle.sos_rules.specs.Moves.{defaults_rule, remembered, take_rule}
use Rattle.sos_rules.specs.Parts.{Found, Fire, DeadEnd, No, Stop, Went, Stay, Out, Parts}
use Rattle.sos_rules.specs.Processing.{from_child, process_children, after_inner}
use Rattle.sos_rules.specs.Processing.{go_on_inside, after_outer, process_rule}
use Rattle.sos_rules.specs.Processing.{after_region, process_each_rule}
use Rattle.sos_rules.specs.Rules.{rules, upto}
use Rattle.sos_rules.specs.Searches.{pay, while_alive, receiver, receives, event_fits, guard_holds}
use Rattle.sos_rules.specs.Searches.{statement, block_rule, send_rule, after_junction, visit, at_dest, after_condition}
use Rattle.sos_rules.specs.Searches.{search_rule, play_rule}
use Rattle.checked_chart.proofs.Trees.{find_all}
use Rattle.checked_chart.specs.declared.parts.Dest.{Dest}
use Rattle.checked_chart.specs.declared.parts.Dest.TheVariants.{State, Junction}
use Rattle.checked_chart.specs.declared.parts.ListKind.TheVariants.{Outer, Inner}
use Rattle.checked_chart.specs.Chart.{Chart, Trans, node, junction, is_remembered, may_return, has_history}
use Rattle.checked_chart.specs.Homes.{child_toward, home_of}
use Rattle.bound_prove.specs.declared.need.Need.{Need}
use Rattle.bound_prove.specs.declared.need.Part.TheVariants as parts
use Rattle.bound_prove.specs.Needs.{nothing_needed, one_step, in_turn, sent, all_of, one_of, Covers}
use Rattle.bound_prove.specs.Reaches.{Leads, Reaches, AtOnce, Through}
use Rattle.bound_prove.specs.Cells.{Cells, stmt_need, block_need, action_need, dest_need, trans_need, list_need}
use Rattle.bound_prove.specs.Cells.{children_need, process_need, firing_need, IsGood}
use Rattle.bound_prove.specs.Cells.{OfList, OfExit, OfEntry, OfChildren, OfOuter, OfInner}
use Rattle.bound_prove.proofs.Rooms.{Limits, Room, covers_each, covered, still, first, second, swap, regroup}
use Rattle.bound_prove.proofs.Rooms.{exchange, pull, less, alone, skip, front, fired}
use Rattle.bound_prove.proofs.Rooms.{sent_step, sent_work, sent_depth, backward}
use Rattle.bound_prove.proofs.Rooms.{Within, ends, faults, over, Any, then_within, choose_within, if_done_within}
use Rattle.bound_prove.proofs.Rooms.{if_some_within}
use Rattle.bound_prove.proofs.Others.{assign_within, guard_within, pay_within}

-- the transition actions of a firing, in turn
abbrev pub actions_need : Cells → List (List Stmt) → Need
actions_need g [] = nothing_needed
actions_need g (action ∷ rest) = in_turn (action_need g action) (actions_need g rest)

-- ---- what a list reaches

-- what the rest of a list leads to and reaches, the list does
leads_later : {e : Event} {d : Dest} (t : Trans) (ts : List Trans) → Leads e ts d → Leads e (t ∷ ts) d
leads_later t ts x =
    record {
      trans = x.trans;
      within = let i = x.within in (suc i.0, omega (arith, i.1), i.2);
      fits = x.fits;
      leads = x.leads;
    }

reaches_later : (c : Chart) (e : Event) (t : Trans) (ts : List Trans) (d : ℕ) → Reaches c e ts d → Reaches c e
    (t ∷ ts) d
reaches_later c e t ts d (AtOnce list d' x) = AtOnce (t ∷ list) d' (leads_later t list x)
reaches_later c e t ts d (Through list j d' x r) = Through (t ∷ list) j d' (leads_later t list x) r

-- the first transition of a list leads where it leads
leads_first : (e : Event) (t : Trans) (ts : List Trans) → event_fits t.event e ≡ true → Leads e (t ∷ ts) t.dest
leads_first e t ts f = record { trans = t; within = (0, omega arith, refl); fits = f; leads = refl }

-- ---- steps that nothing is paid for

-- entering a state changes no number of steps
kept_used : (h : Bool) (t : Tree) (s : ℕ) (w : World) → (keep_if h t s (set_mark s true w)).used ≡ w.used
unfolding keep_in
kept_used true t s w = refl
kept_used false t s w = refl

entered_used : (c : Chart) (s : ℕ) (w : World) → (entered_in c s w).used ≡ w.used
unfolding entered_in
entered_used c s w = kept_used (is_remembered c s) c.tree s w

-- ---- children that are found

-- all items of a list, or none
all_if : (b : Bool) (P : ℕ → Type 0) (xs : List ℕ) → AllByRecursion P xs → AllByRecursion P (if b then xs else [])
all_if true P xs a = a
all_if false P xs a = tt

module _ (t : Tree) (f : ℕ → Need) (n : Need) (s : ℕ) (cover : Covers n (one_of f (children_of t s))) where
  -- what covers one of the children covers each child that is found
  active_covered : (w : World) (x : ℕ) → active_child t s w.marks ≡ Some x → Covers n (f x)
  unfolding active_child
  active_covered w x e =
      let h =
      find_all (λ x. is_on x w.marks) (λ x. Covers n (f x)) (children_of t s) x (covers_each f n
      (children_of t s) cover)
      e in h.1

  toward_covered : (d x : ℕ) → child_toward t s d ≡ Some x → Covers n (f x)
  unfolding child_toward
  toward_covered d x e =
      let h =
      find_all (λ x. is_at_or_below t d x) (λ x. Covers n (f x)) (children_of t s) x
      (covers_each f n (children_of t s) cover) e in h.1

remembered_covered : (c : Chart) (f : ℕ → Need) (n : Need) (s : ℕ) → Covers n (one_of f (children_of c.tree s))
    → (w : World) (x : ℕ) → remembered c s w ≡ Some x → Covers n (f x)
unfolding may_return
remembered_covered c f n s cover w x e =
    let h =
    find_all (λ x. is_last c.tree x w.marks) (λ x. Covers n (f x)) (may_return c s) x
    (all_if (has_history c s) (λ x. Covers n (f x)) (children_of c.tree s) (covers_each f n
    (children_of c.tree s) cover))
    e in h.1

-- what covers something covers it
covers_itself : (n : Need) → Covers n n
covers_itself n = record { depth = omega arith; steps = omega arith }

-- ---- the claims

-- after a search with room up to m steps there is room for the actions of the firing that was found
abbrev pub Pays : Limits → Chart → Cells → Now → ℕ → List Trans → Found → World → Type 0
Pays l c g now m ts (Fire d actions) w = Room l m now.depth w.used (actions_need g actions) × Reaches c now.event ts d
Pays l c g now m ts DeadEnd w = Unit {0}
Pays l c g now m ts No w = Unit {0}
Pays l c g now m ts Stop w = Unit {0}

-- each piece of work that has room for what its cells say stays within that room
pub record Spends (l : Limits) (c : Chart) (g : Cells) (p : Parts) : Type 0 where
  pub block : (life : Life) (ss : List Stmt) (now : Now) (w : World) (m : ℕ)
      → Room l m now.depth w.used (block_need g ss) → Within m Any (p.block life ss now w)
  pub send : (e : ℕ) (to : Option ℕ) (now : Now) (w : World) (m : ℕ)
      → Room l m now.depth w.used (sent (g (Named e) parts.Process (receiver to))) → Within m Any (p.send e to now w)
  pub search : (life : Life) (ts : List Trans) (now : Now) (w : World) (m : ℕ)
      → Room l m now.depth w.used (list_need g now.event ts)
      → Within m (Pays l c g now m ts) (p.search life ts now w)
  pub exit : (s : ℕ) (now : Now) (w : World) (m : ℕ) → Room l m now.depth w.used (g now.event parts.Exit s)
      → Within m Any (p.exit s now w)
  pub exit_each : (xs : List ℕ) (now : Now) (w : World) (m : ℕ)
      → Room l m now.depth w.used (all_of (g now.event parts.Exit) xs) → Within m Any (p.exit_each xs now w)
  pub enter : (s d : ℕ) (now : Now) (w : World) (m : ℕ) → Room l m now.depth w.used (g now.event parts.Enter s)
      → Within m Any (p.enter s d now w)
  pub enter_each : (xs : List ℕ) (d : ℕ) (now : Now) (w : World) (m : ℕ)
      → Room l m now.depth w.used (all_of (g now.event parts.Enter) xs) → Within m Any (p.enter_each xs d now w)
  pub defaults : (s : ℕ) (now : Now) (w : World) (m : ℕ)
      → Room l m now.depth w.used
      (in_turn (list_need g now.event (node c s).default) (one_of (g now.event parts.Enter) (children_of c.tree s)))
      → Within m Any (p.defaults s now w)
  pub play : (s : ℕ) (actions : List (List Stmt)) (now : Now) (w : World) (m : ℕ)
      → Room l m now.depth w.used (actions_need g actions) → Within m Any (p.play s actions now w)
  pub take : (s d : ℕ) (actions : List (List Stmt)) (now : Now) (w : World) (m : ℕ)
      → Room l m now.depth w.used (in_turn (actions_need g actions) (firing_need c g now.event s))
      → Within m Any (p.take s d actions now w)
  pub process : (s : ℕ) (now : Now) (w : World) (m : ℕ) → Room l m now.depth w.used (g now.event parts.Process s)
      → Within m Any (p.process s now w)
  pub process_each : (xs : List ℕ) (now : Now) (w : World) (m : ℕ)
      → Room l m now.depth w.used (all_of (g now.event parts.Process) xs) → Within m Any (p.process_each xs now w)

-- what processing a state may end with: its children, or a firing
pub data Lasts (c : Chart) (g : Cells) (e : Event) (s : ℕ) : Need → Type 0 where
  by_children : Lasts c g e s (children_need c g e parts.Process s (comp_of c.tree s))
  by_outer : (d : ℕ) → Reaches c e (node c s).outer d → Lasts c g e s (firing_need c g e (home_of c.tree s Outer d))
  by_inner : (d : ℕ) → Reaches c e (node c s).inner d → Lasts c g e s (firing_need c g e (home_of c.tree s Inner d))

-- the cell of processing a state covers each
lasts_covered : (c : Chart) (g : Cells) → IsGood c g → (e : Event) (s : ℕ) (n : Need) → Lasts c g e s n
    → Covers (g e parts.Process s) (process_need c g e s n)
lasts_covered c g good e s n by_children = good e parts.Process s _ (OfChildren s)
lasts_covered c g good e s n (by_outer d r) = good e parts.Process s _ (OfOuter s d r)
lasts_covered c g good e s n (by_inner d r) = good e parts.Process s _ (OfInner s d r)

-- the certificate is good, and the bounds are at least the limits
pub record Given (l : Limits) (c : Chart) (g : Cells) (b : Bounds) : Type 0 where
  pub good : IsGood c g
  pub depth : l.depth ≤ b.depth
  pub steps : l.steps ≤ b.steps

module _ (l : Limits) (c : Chart) (g : Cells) (b : Bounds) (given : Given l c g b) where
  pay_one : (w : World) (m h : ℕ) → Room l m h w.used one_step → Within m Any (pay b w)
  pay_one w m h r = pay_within b w m r.steps (omega (arith, r.most, given.steps))

  alive_within : (life : Life) (w : World) (m : ℕ) → w.used ≤ m → Within m Any (while_alive c.tree life w)
  alive_within life w m le =
      choose_within (lives c.tree life w.marks) (give Done) (give Cut) w (λ _. ends Done w le tt)
      (λ _. ends Cut w le tt)

  module _ (p : Parts) (h : Spends l c g p) where
    statement_within : (life : Life) (s : Stmt) (now : Now) (w : World) (m : ℕ)
        → Room l m now.depth w.used (stmt_need g s) → Within m Any (statement c b p life s now w)
    statement_within life (Assign v e) now w m r =
        then_within (assign_within v e w m (still l r)) (λ _ u le _. ends Done u le tt)
    statement_within life (Emit e) now w m r =
        then_within (pay_one w m now.depth r) (λ _ u le _. ends Done (emitted e u) le tt)
    statement_within life (Send e) now w m r =
        then_within (h.send e None now w m r) (λ _ u le _. alive_within life u m le)
    statement_within life (SendTo e s) now w m r =
        then_within (h.send e (Some s) now w m r) (λ _ u le _. alive_within life u m le)

    block_within : (life : Life) (ss : List Stmt) (now : Now) (w : World) (m : ℕ)
        → Room l m now.depth w.used (block_need g ss) → Within m Any (block_rule c b p life ss now w)
    block_within life [] now w m r = ends Done w (still l r) tt
    block_within life (s ∷ rest) now w m r =
        then_within (statement_within life s now w _ (first l _ _ r)) (λ e u le _.
        let r' = second l _ _ r le in
        if_done_within e Cut (p.block life rest now) u (still l r') tt (h.block life rest now u m r'))

    abbrev send_on : ℕ → Option ℕ → Now → Work (Unit {0})
    send_on e to now w = choose (receives to w) (p.process (receiver to) (deeper e now) >> nothing) nothing w

    send_within : (e : ℕ) (to : Option ℕ) (now : Now) (w : World) (m : ℕ)
        → Room l m now.depth w.used (sent (g (Named e) parts.Process (receiver to)))
        → Within m Any (send_rule c b p e to now w)
    send_within e to now w m r =
        choose_within (nat_le b.depth now.depth) (fault kinds.Depth) (pay b >> send_on e to now) w
        (λ deep. absurd (let d = sent_depth l _ r in let f = given.depth in grind (arith, nat_tests)))
        (λ _. then_within (pay_one w _ now.depth (sent_step l _ r)) (λ _ u le _.
        choose_within (receives to u) (p.process (receiver to) (deeper e now) >> nothing) nothing u
        (λ _. then_within (h.process (receiver to) (deeper e now) u m (sent_work l _ r le))
        (λ _ v le' _. ends tt v le' tt))
        (λ _. ends tt u (still l (sent_work l _ r le)) tt)))

    -- ---- searches

    -- what the answer to a search of one list says, it says of a list that reaches the same states
    pays_wider : (now : Now) (m : ℕ) (ts us : List Trans) → ((d : ℕ) → Reaches c now.event ts d
        → Reaches c now.event us d)
        → (f : Found) (w : World) → Pays l c g now m ts f w → Pays l c g now m us f w
    pays_wider now m ts us k (Fire d actions) w x = (x.0, k d x.1)
    pays_wider now m ts us k DeadEnd w x = tt
    pays_wider now m ts us k No w x = tt
    pays_wider now m ts us k Stop w x = tt

    wider : (now : Now) (m : ℕ) (ts us : List Trans) → ((d : ℕ) → Reaches c now.event ts d → Reaches c now.event us d)
        → {r : Run Found} → Within m (Pays l c g now m ts) r → Within m (Pays l c g now m us) r
    wider now m ts us k (ends f w le x) = ends f w le (pays_wider now m ts us k f w x)
    wider now m ts us k (faults x w o) = faults x w o
    wider now m ts us k over = over

    after_junction_within : (life : Life) (action : List Stmt) (t : Trans) (rest ts : List Trans) (now : Now)
        (f : Found)
        (w : World) (m : ℕ) (x : Need) (u : ℕ)
        → Room l m now.depth u (in_turn x (in_turn (action_need g action) (list_need g now.event rest)))
        → w.used ≤ u + x.steps → ((d : ℕ) → Reaches c now.event ts d → Reaches c now.event (t ∷ rest) d)
        → Pays l c g now (u + x.steps) ts f w
        → Within m (Pays l c g now m (t ∷ rest)) (after_junction c b p life action rest now f w)
    after_junction_within life action t rest ts now (Fire d actions) w m x u r le k pays =
        let a = front l _ _ _ (fired l _ _ r pays.0) in ends _ w (still l a) (a, k d pays.1)
    after_junction_within life action t rest ts now DeadEnd w m x u r le k pays =
        ends _ w (still l (second l _ _ r le)) tt
    after_junction_within life action t rest ts now No w m x u r le k pays =
        wider now m rest (t ∷ rest) (λ d y. reaches_later c now.event t rest d y)
        (h.search life rest now w m (skip l _ _ (second l _ _ r le)))
    after_junction_within life action t rest ts now Stop w m x u r le k pays =
        ends _ w (still l (second l _ _ r le)) tt

    visit_within : (life : Life) (action : List Stmt) (t : Trans) (rest ts : List Trans) (now : Now) (w : World) (m : ℕ)
        (x : Need) → Covers x (list_need g now.event ts)
        → Room l m now.depth w.used (in_turn x (in_turn (action_need g action) (list_need g now.event rest)))
        → ((d : ℕ) → Reaches c now.event ts d → Reaches c now.event (t ∷ rest) d)
        → Within m (Pays l c g now m (t ∷ rest)) (visit c b p life action rest now ts w)
    visit_within life action t rest [] now w m x cover r k = ends _ w (still l r) tt
    visit_within life action t rest (t' ∷ ts) now w m x cover r k =
        then_within (h.search life (t' ∷ ts) now w (w.used + x.steps) (covered l cover (first l _ _ r))) (λ f v le pays.
        after_junction_within life action t rest (t' ∷ ts) now f v m x w.used r le k pays)

    at_dest_within : (life : Life) (action : List Stmt) (t : Trans) (rest : List Trans) (now : Now) (w : World) (m : ℕ)
        (d : Dest) → Leads now.event (t ∷ rest) d
        → Room l m now.depth w.used
        (in_turn (in_turn (action_need g action) (dest_need g now.event d)) (list_need g now.event rest))
        → Within m (Pays l c g now m (t ∷ rest)) (at_dest c b p life action rest now d w)
    at_dest_within life action t rest now w m (State d) leads r =
        ends _ w (still l r) (alone l _ _ r, AtOnce (t ∷ rest) d leads)
    at_dest_within life action t rest now w m (Junction j) leads r =
        let r' = regroup l _ _ _ (exchange l _ _ _ (regroup l _ _ _ r)) in
        then_within (pay_one w _ now.depth (first l _ _ r')) (λ _ u le _.
        visit_within life action t rest (junction c j) now u m (g now.event parts.Junction j)
        (given.good now.event parts.Junction j _ (OfList j)) (second l _ _ r' le) (λ d y. Through
        (t ∷ rest) j d leads y))

    after_condition_within : (life : Life) (t : Trans) (rest : List Trans) (now : Now) (e : End) (w : World) (m : ℕ)
        → event_fits t.event now.event ≡ true
        → Room l m now.depth w.used
        (in_turn (in_turn (action_need g t.action) (dest_need g now.event t.dest)) (list_need g now.event rest))
        → Within m (Pays l c g now m (t ∷ rest)) (after_condition c b p life t rest now e w)
    after_condition_within life t rest now Done w m fits r =
        at_dest_within life t.action t rest now w m t.dest (leads_first now.event t rest fits) r
    after_condition_within life t rest now Cut w m fits r = ends _ w (still l r) tt

    enabled_within : (life : Life) (t : Trans) (rest : List Trans) (now : Now) (w : World) (m : ℕ) (fits : Bool)
        → event_fits t.event now.event ≡ fits
        → Room l m now.depth w.used
        (in_turn (if fits then trans_need g now.event t else nothing_needed) (list_need g now.event rest))
        → Within m (Pays l c g now m (t ∷ rest)) (then_do (choose fits (guard_holds t.guard) (give false) w)
        (λ e. choose e (p.block life t.condition now >>= after_condition c b p life t rest now)
        (p.search life rest now)))
    enabled_within life t rest now w m true fits r =
        then_within (guard_within t.guard w w.used (omega arith)) (λ e u le _.
        let r' = less l r le in
        choose_within e (p.block life t.condition now >>= after_condition c b p life t rest now)
        (p.search life rest now) u
        (λ _. let r2 = regroup l _ _ _ r' in
        then_within (h.block life t.condition now u _ (first l _ _ r2))
        (λ end v le' _. after_condition_within life t rest now end v m fits (second l _ _ r2 le')))
        (λ _. wider now m rest (t ∷ rest) (λ d y. reaches_later c now.event t rest d y)
        (h.search life rest now u m (skip l _ _ r'))))
    enabled_within life t rest now w m false fits r =
        wider now m rest (t ∷ rest) (λ d y. reaches_later c now.event t rest d y)
        (h.search life rest now w m (skip l _ _ r))

    search_within : (life : Life) (ts : List Trans) (now : Now) (w : World) (m : ℕ)
        → Room l m now.depth w.used (list_need g now.event ts)
        → Within m (Pays l c g now m ts) (search_rule c b p life ts now w)
    search_within life [] now w m r = ends _ w (still l r) tt
    search_within life (t ∷ rest) now w m r = enabled_within life t rest now w m (event_fits t.event now.event) refl r

    -- ---- leaving

    exit_active_within : (s : ℕ) (now : Now) (w : World) (m : ℕ)
        → Room l m now.depth w.used (one_of (g now.event parts.Exit) (children_of c.tree s))
        → Within m Any (exit_active c p s now w)
    exit_active_within s now w m r =
        if_some_within (active_child c.tree s w.marks) nothing (λ x. p.exit x now) w (ends tt w (still l r) tt)
        (λ x e. h.exit x now w m (covered l (active_covered c.tree (g now.event parts.Exit) _ s
        (covers_itself _) w x e) r))

    exit_children_within : (s : ℕ) (now : Now) (o : Comp) (w : World) (m : ℕ)
        → Room l m now.depth w.used (children_need c g now.event parts.Exit s o)
        → Within m Any (exit_children c p s now o w)
    exit_children_within s now Leaf w m r = ends tt w (still l r) tt
    exit_children_within s now Or w m r = exit_active_within s now w m r
    exit_children_within s now And w m r =
        h.exit_each _ now w m (backward l (g now.event parts.Exit) (children_of c.tree s) _ _ _ r)

    abbrev exit_work : ℕ → Now → Work (Unit {0})
    exit_work s now =
        p.block (Bare s) (node c s).exit now >>= (λ e. if_done e tt (if_bare c.tree s (change (set_mark s false))))

    exit_within : (s : ℕ) (now : Now) (w : World) (m : ℕ) → Room l m now.depth w.used (g now.event parts.Exit s)
        → Within m Any (exit_rule c p s now w)
    exit_within s now w m r =
        let r' = swap l _ _ (covered l (given.good now.event parts.Exit s _ (OfExit s)) r) in
        choose_within (is_on s w.marks)
        (exit_children c p s now (comp_of c.tree s) >> if_bare c.tree s (exit_work s now)) nothing w
        (λ _. then_within (exit_children_within s now (comp_of c.tree s) w _ (first l _ _ r')) (λ _ u le _.
        let r2 = second l _ _ r' le in
        choose_within (is_bare c.tree s u.marks) (exit_work s now) nothing u
        (λ _. then_within (h.block (Bare s) (node c s).exit now u m r2) (λ e v le' _.
        if_done_within e tt (if_bare c.tree s (change (set_mark s false))) v le' tt
        (choose_within (is_bare c.tree s v.marks) (change (set_mark s false)) nothing v
        (λ _. ends tt (set_mark s false v) le' tt) (λ _. ends tt v le' tt)))) (λ _. ends tt u (still l r2) tt)))
        (λ _. ends tt w (still l r) tt)

    exit_each_within : (xs : List ℕ) (now : Now) (w : World) (m : ℕ)
        → Room l m now.depth w.used (all_of (g now.event parts.Exit) xs)
        → Within m Any (exit_each_rule c p xs now w)
    exit_each_within [] now w m r = ends tt w (still l r) tt
    exit_each_within (x ∷ xs) now w m r =
        then_within (h.exit x now w _ (first l _ _ r)) (λ _ u le _. h.exit_each xs now u m (second l _ _ r le))

    -- ---- entering

    toward_within : (s d : ℕ) (now : Now) (w : World) (m : ℕ)
        → Room l m now.depth w.used
        (in_turn (list_need g now.event (node c s).default) (one_of (g now.event parts.Enter) (children_of c.tree s)))
        → Within m Any (enter_toward c p s d now w)
    toward_within s d now w m r =
        choose_within (s == d) (p.defaults s now) (if_some (child_toward c.tree s d) nothing (λ x. p.enter x d now)) w
        (λ _. h.defaults s now w m r)
        (λ _. if_some_within (child_toward c.tree s d) nothing (λ x. p.enter x d now) w (ends tt w (still l r) tt)
        (λ x e. h.enter x d now w m
        (covered l (toward_covered c.tree (g now.event parts.Enter) _ s (covers_itself _) d x e) (skip l _ _ r))))

    enter_inside_within : (s d : ℕ) (now : Now) (o : Comp) (w : World) (m : ℕ)
        → Room l m now.depth w.used
        (in_turn (list_need g now.event (node c s).default) (children_need c g now.event parts.Enter s o))
        → Within m Any (enter_inside c p s d now o w)
    enter_inside_within s d now Leaf w m r = ends tt w (still l r) tt
    enter_inside_within s d now Or w m r = toward_within s d now w m r
    enter_inside_within s d now And w m r = h.enter_each _ d now w m (skip l _ _ r)

    enter_within : (s d : ℕ) (now : Now) (w : World) (m : ℕ) → Room l m now.depth w.used (g now.event parts.Enter s)
        → Within m Any (enter_rule c p s d now w)
    enter_within s d now w m r =
        let le0 : (entered_in c s w).used ≤ w.used = omega (arith, entered_used c s w) in
        let r' = less l (covered l (given.good now.event parts.Enter s _ (OfEntry s)) r) le0 in
        choose_within (can_mark c.tree s w.marks) (change (entered_in c s) >>
        (p.block (Bare s) (node c s).entry now >>= (λ e. if_done e tt (enter_inside c p s d now (comp_of c.tree s)))))
        nothing w
        (λ _. then_within (h.block (Bare s) (node c s).entry now (entered_in c s w) _ (first l _ _ r')) (λ e v le _.
        let r2 = second l _ _ r' le in
        if_done_within e tt (enter_inside c p s d now (comp_of c.tree s)) v (still l r2) tt
        (enter_inside_within s d now (comp_of c.tree s) v m r2))) (λ _. ends tt w (still l r) tt)

    enter_each_within : (xs : List ℕ) (d : ℕ) (now : Now) (w : World) (m : ℕ)
        → Room l m now.depth w.used (all_of (g now.event parts.Enter) xs)
        → Within m Any (enter_each_rule c p xs d now w)
    enter_each_within [] d now w m r = ends tt w (still l r) tt
    enter_each_within (x ∷ xs) d now w m r =
        then_within (h.enter x _ now w _ (first l _ _ r)) (λ _ u le _. h.enter_each xs d now u m (second l _ _ r le))

    after_default_within : (s : ℕ) (now : Now) (ts : List Trans) (f : Found) (w : World) (m u : ℕ) (x : Need)
        → Room l m now.depth u (in_turn x (one_of (g now.event parts.Enter) (children_of c.tree s)))
        → w.used ≤ u + x.steps → Pays l c g now (u + x.steps) ts f w
        → Within m Any (after_default c p s now f w)
    after_default_within s now ts (Fire d actions) w m u x r le pays =
        let r' = fired l _ _ r pays.0 in
        then_within (h.play s actions now w _ (first l _ _ r')) (λ e v le' _.
        let r2 = second l _ _ r' le' in
        if_done_within e tt (if_some (child_toward c.tree s d) nothing (λ x. p.enter x d now)) v (still l r2) tt
        (if_some_within (child_toward c.tree s d) nothing (λ x. p.enter x d now) v (ends tt v (still l r2) tt)
        (λ x e. h.enter x d now v m
        (covered l (toward_covered c.tree (g now.event parts.Enter) _ s (covers_itself _) d x e) r2))))
    after_default_within s now ts DeadEnd w m u x r le pays = ends tt w (still l (second l _ _ r le)) tt
    after_default_within s now ts No w m u x r le pays = ends tt w (still l (second l _ _ r le)) tt
    after_default_within s now ts Stop w m u x r le pays = ends tt w (still l (second l _ _ r le)) tt

    defaults_within : (s : ℕ) (now : Now) (w : World) (m : ℕ)
        → Room l m now.depth w.used
        (in_turn (list_need g now.event (node c s).default) (one_of (g now.event parts.Enter) (children_of c.tree s)))
        → Within m Any (defaults_rule c p s now w)
    defaults_within s now w m r =
        if_some_within (remembered c s w) (default_search c p s now) (λ x. p.enter x x now) w
        (then_within (h.search (Bare s) (node c s).default now w _ (first l _ _ r)) (λ f u le pays.
        after_default_within s now (node c s).default f u m w.used _ r le pays))
        (λ x e. h.enter x x now w m
        (covered l (remembered_covered c (g now.event parts.Enter) _ s (covers_itself _) w x e) (skip l _ _ r)))

    -- ---- firings

    play_within : (s : ℕ) (actions : List (List Stmt)) (now : Now) (w : World) (m : ℕ)
        → Room l m now.depth w.used (actions_need g actions) → Within m Any (play_rule c b p s actions now w)
    play_within s [] now w m r = ends Done w (still l r) tt
    play_within s ([] ∷ actions) now w m r = h.play s actions now w m (skip l _ _ r)
    play_within s ((x ∷ xs) ∷ actions) now w m r =
        let r' = regroup l _ _ _ r in
        then_within (pay_one w _ now.depth (first l _ _ r')) (λ _ u le _.
        let r2 = second l _ _ r' le in
        then_within (h.block (Bare s) (x ∷ xs) now u _ (first l _ _ r2)) (λ e v le' _.
        let r3 = second l _ _ r2 le' in
        if_done_within e Cut (p.play s actions now) v (still l r3) tt (h.play s actions now v m r3)))

    take_within : (s d : ℕ) (actions : List (List Stmt)) (now : Now) (w : World) (m : ℕ)
        → Room l m now.depth w.used (in_turn (actions_need g actions) (firing_need c g now.event s))
        → Within m Any (take_rule c p s d actions now w)
    take_within s d actions now w m r =
        let r' = pull l _ _ _ _ r in
        then_within (exit_active_within s now w _ (first l _ _ r')) (λ _ u le _.
        let r2 = second l _ _ r' le in
        choose_within (is_bare c.tree s u.marks)
        (p.play s actions now >>= (λ e. if_done e tt (if_bare c.tree s (enter_toward c p s d now)))) nothing u
        (λ _. then_within (h.play s actions now u _ (first l _ _ r2)) (λ e v le' _.
        let r3 = second l _ _ r2 le' in
        if_done_within e tt (if_bare c.tree s (enter_toward c p s d now)) v (still l r3) tt
        (choose_within (is_bare c.tree s v.marks) (enter_toward c p s d now) nothing v
        (λ _. toward_within s d now v m r3) (λ _. ends tt v (still l r3) tt))))
        (λ _. ends tt u (still l r2) tt))

    -- ---- processing

    from_child_within : (s : ℕ) (a : Went) (w : World) (m : ℕ) → w.used ≤ m → Within m Any (from_child s a w)
    from_child_within s Stay w m le = ends _ w le tt
    from_child_within s (Out d) w m le =
        choose_within (d == s) (give Stay) (give (Out d)) w (λ _. ends _ w le tt) (λ _. ends _ w le tt)

    process_children_within : (s : ℕ) (now : Now) (o : Comp) (w : World) (m : ℕ)
        → Room l m now.depth w.used (children_need c g now.event parts.Process s o)
        → Within m Any (process_children c p s now o w)
    process_children_within s now Leaf w m r = ends _ w (still l r) tt
    process_children_within s now Or w m r =
        if_some_within (active_child c.tree s w.marks) (give Stay) (λ x. p.process x now >>= from_child s) w
        (ends Stay w (still l r) tt)
        (λ x e. then_within
        (h.process x now w m
        (covered l (active_covered c.tree (g now.event parts.Process) _ s (covers_itself _) w x e) r))
        (λ a u le _. from_child_within s a u m le))
    process_children_within s now And w m r = h.process_each _ now w m r

    after_inner_within : (s : ℕ) (now : Now) (f : Found) (w : World) (m u : ℕ) (x : Need)
        → ((n : Need) → Lasts c g now.event s n → Room l m now.depth u (in_turn x n)) → w.used ≤ u + x.steps
        → Pays l c g now (u + x.steps) (node c s).inner f w
        → Within m Any (after_inner c p s now f w)
    after_inner_within s now (Fire d actions) w m u x r le pays =
        then_within (h.take s d actions now w m (fired l _ _ (r _ (by_inner d pays.1)) pays.0))
        (λ _ v le' _. ends _ v le' tt)
    after_inner_within s now DeadEnd w m u x r le pays =
        process_children_within s now (comp_of c.tree s) w m (second l _ _ (r _ by_children) le)
    after_inner_within s now No w m u x r le pays =
        process_children_within s now (comp_of c.tree s) w m (second l _ _ (r _ by_children) le)
    after_inner_within s now Stop w m u x r le pays = ends _ w (still l (second l _ _ (r _ by_children) le)) tt

    inside_within : (s : ℕ) (now : Now) (w : World) (m : ℕ)
        → ((n : Need) → Lasts c g now.event s n → Room l m now.depth w.used
        (in_turn (block_need g (node c s).during) (in_turn (list_need g now.event (node c s).inner) n)))
        → Within m Any (go_on_inside c p s now w)
    inside_within s now w m r =
        then_within (h.block (On s) (node c s).during now w _ (first l _ _ (r _ by_children))) (λ e u le _.
        if_done_within e Stay (p.search (On s) (node c s).inner now >>= after_inner c p s now) u
        (still l (second l _ _ (r _ by_children) le)) tt
        (then_within
        (h.search (On s) (node c s).inner now u _ (first l _ _ (second l _ _ (r _ by_children) le)))
        (λ f v le' pays. after_inner_within s now f v m u.used _ (λ n x. second l _ _ (r n x) le) le' pays)))

    after_outer_within : (s : ℕ) (now : Now) (f : Found) (w : World) (m u : ℕ)
        → ((n : Need) → Lasts c g now.event s n → Room l m now.depth u (process_need c g now.event s n))
        → w.used ≤ u + (list_need g now.event (node c s).outer).steps
        → Pays l c g now (u + (list_need g now.event (node c s).outer).steps) (node c s).outer f w
        → Within m Any (after_outer c p s now f w)
    after_outer_within s now (Fire d actions) w m u r le pays =
        let r1 = r _ (by_outer d pays.1) in
        let r2 = skip l _ _ (exchange l _ _ _ (fired l _ _ r1 pays.0)) in
        let r3 = skip l _ _ (exchange l _ _ _ r2) in
        then_within (h.take _ d actions now w m r3) (λ _ v le' _. ends _ v le' tt)
    after_outer_within s now DeadEnd w m u r le pays = inside_within s now w m (λ n x. second l _ _ (r n x) le)
    after_outer_within s now No w m u r le pays = inside_within s now w m (λ n x. second l _ _ (r n x) le)
    after_outer_within s now Stop w m u r le pays = ends _ w (still l (second l _ _ (r _ by_children) le)) tt

    process_within : (s : ℕ) (now : Now) (w : World) (m : ℕ) → Room l m now.depth w.used (g now.event parts.Process s)
        → Within m Any (process_rule c p s now w)
    process_within s now w m r =
        let all : (n : Need) → Lasts c g now.event s n → Room l m now.depth w.used (process_need c g now.event s n) =
        λ n x. covered l (lasts_covered c g given.good now.event s n x) r in
        then_within (h.search (On s) (node c s).outer now w _ (first l _ _ (all _ by_children))) (λ f u le pays.
        after_outer_within s now f u m w.used all le pays)

    after_region_within : (xs : List ℕ) (now : Now) (a : Went) (w : World) (m : ℕ)
        → Room l m now.depth w.used (all_of (g now.event parts.Process) xs)
        → Within m Any (after_region c p xs now a w)
    after_region_within xs now Stay w m r = h.process_each xs now w m r
    after_region_within xs now (Out s) w m r = ends _ w (still l r) tt

    process_each_within : (xs : List ℕ) (now : Now) (w : World) (m : ℕ)
        → Room l m now.depth w.used (all_of (g now.event parts.Process) xs)
        → Within m Any (process_each_rule c p xs now w)
    process_each_within [] now w m r = ends _ w (still l r) tt
    process_each_within (x ∷ xs) now w m r =
        choose_within (is_on x w.marks) (p.process x now >>= after_region c p xs now) (p.process_each xs now) w
        (λ _. then_within (h.process x now w _ (first l _ _ r)) (λ a u le _.
        after_region_within xs now a u m (second l _ _ r le))) (λ _. h.process_each xs now w m (skip l _ _ r))

    rules_spend : Spends l c g (rules c b p)
    rules_spend = record {
      block = block_within;
      send = send_within;
      search = search_within;
      exit = exit_within;
      exit_each = exit_each_within;
      enter = enter_within;
      enter_each = enter_each_within;
      defaults = defaults_within;
      play = play_within;
      take = take_within;
      process = process_within;
      process_each = process_each_within;
    }

  -- work of every height spends no more than its cells say
  pub upto_spends : (n : ℕ) → Spends l c g (upto c b n)
  upto_spends zero = record {
    block = λ _ _ _ _ _ _. over;
    send = λ _ _ _ _ _ _. over;
    search = λ _ _ _ _ _ _. over;
    exit = λ _ _ _ _ _. over;
    exit_each = λ _ _ _ _ _. over;
    enter = λ _ _ _ _ _ _. over;
    enter_each = λ _ _ _ _ _ _. over;
    defaults = λ _ _ _ _ _. over;
    play = λ _ _ _ _ _ _. over;
    take = λ _ _ _ _ _ _ _. over;
    process = λ _ _ _ _ _. over;
    process_each = λ _ _ _ _ _. over;
  }
  upto_spends (suc n) = rules_spend (upto c b n) (upto_spends n)
