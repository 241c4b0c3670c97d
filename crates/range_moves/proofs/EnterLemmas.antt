-- Entering states.
use Rattle.std.proofs.Common.{◌≡◌, ◌==◌, ℕ, Bool, true, false, List, [], ◌∷◌, ◌++◌, Option, Some, None, refl}
use Rattle.std.proofs.Common.{sym, subst, ◌∙◌, map}
use Rattle.active_config.specs.declared.comp.Comp.{Comp}
use Rattle.active_config.specs.declared.comp.Comp.TheVariants.{Leaf, Or, And}
use Rattle.active_config.specs.Marks.{can_mark}
use Rattle.active_config.specs.Tree.{comp_of, children_of}
use Rattle.actions.specs.declared.event.Event.{Event}
use Rattle.actions.specs.Exprs.{Stmt}
use Rattle.actions.specs.Work.{◌>>=◌, ◌>>◌, nothing, change, choose, End, Done, Cut, if_done, if_some}
use Rattle.actions.specs.World as worlds
use Rattle.actions.specs.World.{World}
use Rattle.checked_chart.specs.Chart.{Trans, node, may_return}
use Rattle.checked_chart.specs.Homes.{child_toward, path_in}
use Rattle.checked_chart.specs.Views.{block_seen}
use Rattle.sos_rules.specs.Moves.{entered_in, enter_toward, enter_inside, enter_rule, after_default}
use Rattle.sos_rules.specs.Moves.{default_search, defaults_rule}
use Rattle.sos_rules.specs.Parts.{Found, Fire, DeadEnd, No, Stop}
use Rattle.range_blocks.specs.declared.blocks.Ran.{Ran}
use Rattle.range_blocks.specs.declared.searches.Firing.{Firing}
use Rattle.range_blocks.specs.declared.searches.Searched.{Searched}
use Rattle.range_blocks.specs.Ends.{rules_in, ran_ends}
use Rattle.range_blocks.specs.Finds.{IsFired, found_ends}
use Rattle.range_blocks.proofs.Combining.{by_rule, leads_then, leads_after, leads_split, leads_either}
use Rattle.range_blocks.proofs.FiringLemmas.{IsOf, no_firing, fired_popped}
use Rattle.range_moves.specs.Moved.{Enters, return_found}
use Rattle.range_moves.proofs.MoveLemmas.{leads_left, leads_right, leads_nothing, first_leads}
use Rattle.range_rules.specs.declared.cert.Around.{Around}
use Rattle.range_rules.specs.Worlds.{EndsIn}
use Rattle.range_worlds.specs.declared.configs.Change.TheVariants.{Enter}
use Rattle.range_worlds.specs.declared.configs.Test.TheVariants.{CanMark, Last}
use Rattle.range_worlds.specs.declared.setting.Setting.{Setting}
use Rattle.range_worlds.specs.Leads.{chart_in, cert_in, Among, Unites, Works, Leads, now_at}
use Rattle.range_worlds.specs.Splits.{turn, Splits}

module _ (s : Setting) where
  -- the whole rule
  pub enter_leads : (state d : ℕ) (action : List Stmt) (now : Event) (xs pass fail active inner early all : List Around)
      (r : Ran) → action ≡ (node (chart_in s) state).entry → Splits s (CanMark state) xs pass fail
      → Leads s (Among s pass) (λ b n depth. change (turn (chart_in s) (Enter state))) (λ _ w. Among s active w)
      → Leads s (Among s active) (λ b n depth. (rules_in s b n).block (worlds.Bare state) action (now_at now depth))
      (ran_ends s r)
      → Leads s (Among s r.done.items) (λ b n depth. enter_inside (chart_in s) (rules_in s b n) state d
      (now_at now depth) (comp_of (chart_in s).tree state)) (λ _ w. Among s inner w)
      → Unites s r.cut.items fail early → Unites s inner early all
      → Leads s (Among s xs) (λ b n depth. (rules_in s b n).enter state d (now_at now depth)) (λ _ w. Among s all w)
  enter_leads state d action now xs pass fail active inner early all r e sp turned block inside u v =
      by_rule s (Among s xs) (λ b n depth. (rules_in s b n).enter state d (now_at now depth))
      (λ b n depth. enter_rule (chart_in s) (rules_in s b n) state d (now_at now depth)) (λ _ w. Among s all w)
      (λ b depth w. refl) (λ b n depth w. refl)
      (leads_split s (λ _ w. Among s all w) (CanMark state) (λ w. can_mark (chart_in s).tree state w.marks) xs pass fail
      (λ b n depth. change (entered_in (chart_in s) state)
      >> ((rules_in s b n).block (worlds.Bare state) (node (chart_in s) state).entry (now_at now depth)
      >>= (λ end. if_done end tt (enter_inside (chart_in s) (rules_in s b n) state d (now_at now depth)
      (comp_of (chart_in s).tree state))))) (λ b n depth. nothing) (λ w. refl) sp
      (leads_after s (λ _ w. Among s all w) (Among s pass) (λ b n depth. change (entered_in (chart_in s) state))
      (λ b n depth. (rules_in s b n).block (worlds.Bare state) (node (chart_in s) state).entry (now_at now depth)
      >>= (λ end. if_done end tt (enter_inside (chart_in s) (rules_in s b n) state d (now_at now depth)
      (comp_of (chart_in s).tree state)))) (λ _ w. Among s active w) turned (λ _. ran))
      (leads_nothing s fail all (λ w h. v.right w (u.right w h))))
    where
      after : (end : End) → Leads s (ran_ends s r end)
          (λ b n depth. if_done end tt (enter_inside (chart_in s) (rules_in s b n) state d (now_at now depth)
          (comp_of (chart_in s).tree state))) (λ _ w. Among s all w)
      after Done =
          leads_left s (Among s r.done.items) (λ b n depth. enter_inside (chart_in s) (rules_in s b n) state d
          (now_at now depth) (comp_of (chart_in s).tree state)) inner early all v inside
      after Cut = leads_nothing s r.cut.items all (λ w h. v.right w (u.left w h))

      ran : Leads s (Among s active)
          (λ b n depth. (rules_in s b n).block (worlds.Bare state) (node (chart_in s) state).entry (now_at now depth)
          >>= (λ end. if_done end tt (enter_inside (chart_in s) (rules_in s b n) state d (now_at now depth)
          (comp_of (chart_in s).tree state)))) (λ _ w. Among s all w)
      ran =
          leads_then s (Among s active)
          (λ b n depth. (rules_in s b n).block (worlds.Bare state) (node (chart_in s) state).entry (now_at now depth))
          (λ end b n depth. if_done end tt (enter_inside (chart_in s) (rules_in s b n) state d (now_at now depth)
          (comp_of (chart_in s).tree state))) (ran_ends s r) (λ _ w. Among s all w)
          (subst (λ a. Leads s (Among s active)
          (λ b n depth. (rules_in s b n).block (worlds.Bare state) a (now_at now depth)) (ran_ends s r)) e block) after

  -- inside, by how a state is composed
  inside_same : (state d : ℕ) (now : Event) (xs ys : List Around) (k m : Comp) → k ≡ m
      → Leads s (Among s xs) (λ b n depth. enter_inside (chart_in s) (rules_in s b n) state d (now_at now depth) k)
      (λ _ w. Among s ys w)
      → Leads s (Among s xs) (λ b n depth. enter_inside (chart_in s) (rules_in s b n) state d (now_at now depth) m)
      (λ _ w. Among s ys w)
  inside_same state d now xs ys k m e l =
      subst (λ z. Leads s (Among s xs)
      (λ b n depth. enter_inside (chart_in s) (rules_in s b n) state d (now_at now depth) z) (λ _ w. Among s ys w)) e l

  pub leaf_entered : (state d : ℕ) (now : Event) (xs : List Around) → Leaf ≡ comp_of (chart_in s).tree state
      → Leads s (Among s xs) (λ b n depth. enter_inside (chart_in s) (rules_in s b n) state d (now_at now depth)
      (comp_of (chart_in s).tree state)) (λ _ w. Among s xs w)
  leaf_entered state d now xs e =
      inside_same state d now xs xs Leaf (comp_of (chart_in s).tree state) e (leads_nothing s xs xs (λ w h. h))

  pub or_entered : (state d : ℕ) (now : Event) (xs ys : List Around) → Or ≡ comp_of (chart_in s).tree state
      → Leads s (Among s xs) (λ b n depth. enter_toward (chart_in s) (rules_in s b n) state d (now_at now depth))
      (λ _ w. Among s ys w)
      → Leads s (Among s xs) (λ b n depth. enter_inside (chart_in s) (rules_in s b n) state d (now_at now depth)
      (comp_of (chart_in s).tree state)) (λ _ w. Among s ys w)
  or_entered state d now xs ys e l = inside_same state d now xs ys Or (comp_of (chart_in s).tree state) e l

  pub and_entered : (state d : ℕ) (now : Event) (xs ys : List Around) (regions : List ℕ)
      → And ≡ comp_of (chart_in s).tree state → regions ≡ children_of (chart_in s).tree state
      → Leads s (Among s xs) (λ b n depth. (rules_in s b n).enter_each regions d (now_at now depth))
      (λ _ w. Among s ys w)
      → Leads s (Among s xs) (λ b n depth. enter_inside (chart_in s) (rules_in s b n) state d (now_at now depth)
      (comp_of (chart_in s).tree state)) (λ _ w. Among s ys w)
  and_entered state d now xs ys regions e q l =
      inside_same state d now xs ys And (comp_of (chart_in s).tree state) e
      (subst (λ z. Leads s (Among s xs) (λ b n depth. (rules_in s b n).enter_each z d (now_at now depth))
      (λ _ w. Among s ys w)) q l)

  -- one region after another
  pub no_more_entered : (states : List ℕ) (d : ℕ) (now : Event) (xs : List Around) → states ≡ []
      → Leads s (Among s xs) (λ b n depth. (rules_in s b n).enter_each states d (now_at now depth))
      (λ _ w. Among s xs w)
  no_more_entered states d now xs e =
      subst (λ z. Leads s (Among s xs) (λ b n depth. (rules_in s b n).enter_each z d (now_at now depth))
      (λ _ w. Among s xs w)) (sym e)
      (by_rule s (Among s xs) (λ b n depth. (rules_in s b n).enter_each [] d (now_at now depth)) (λ b n depth. nothing)
      (λ _ w. Among s xs w) (λ b depth w. refl) (λ b n depth w. refl) (leads_nothing s xs xs (λ w h. h)))

  pub next_entered : (states rest : List ℕ) (x d to : ℕ) (now : Event) (xs ys all : List Around) → states ≡ x ∷ rest
      → to ≡ path_in (chart_in s).tree x d
      → Leads s (Among s xs) (λ b n depth. (rules_in s b n).enter x to (now_at now depth)) (λ _ w. Among s ys w)
      → Leads s (Among s ys) (λ b n depth. (rules_in s b n).enter_each rest d (now_at now depth))
      (λ _ w. Among s all w)
      → Leads s (Among s xs) (λ b n depth. (rules_in s b n).enter_each states d (now_at now depth))
      (λ _ w. Among s all w)
  next_entered states rest x d to now xs ys all e q l k =
      subst (λ z. Leads s (Among s xs) (λ b n depth. (rules_in s b n).enter_each z d (now_at now depth))
      (λ _ w. Among s all w)) (sym e)
      (by_rule s (Among s xs) (λ b n depth. (rules_in s b n).enter_each (x ∷ rest) d (now_at now depth))
      (λ b n depth. (rules_in s b n).enter x (path_in (chart_in s).tree x d) (now_at now depth)
      >> (rules_in s b n).enter_each rest d (now_at now depth)) (λ _ w. Among s all w) (λ b depth w. refl)
      (λ b n depth w. refl)
      (leads_after s (λ _ w. Among s all w) (Among s xs)
      (λ b n depth. (rules_in s b n).enter x (path_in (chart_in s).tree x d) (now_at now depth))
      (λ b n depth. (rules_in s b n).enter_each rest d (now_at now depth)) (λ _ w. Among s ys w)
      (subst (λ z. Leads s (Among s xs) (λ b n depth. (rules_in s b n).enter x z (now_at now depth))
      (λ _ w. Among s ys w)) q l) (λ _. k)))

  -- on the path to a state
  toward_same : (state d : ℕ) (now : Event) (xs ys : List Around) (k m : Bool) → k ≡ m
      → Leads s (Among s xs) (λ b n depth. choose k ((rules_in s b n).defaults state (now_at now depth))
      (if_some (child_toward (chart_in s).tree state d) nothing
      (λ x. (rules_in s b n).enter x d (now_at now depth)))) (λ _ w. Among s ys w)
      → Leads s (Among s xs) (λ b n depth. choose m ((rules_in s b n).defaults state (now_at now depth))
      (if_some (child_toward (chart_in s).tree state d) nothing
      (λ x. (rules_in s b n).enter x d (now_at now depth)))) (λ _ w. Among s ys w)
  toward_same state d now xs ys k m e l =
      subst (λ z. Leads s (Among s xs) (λ b n depth. choose z ((rules_in s b n).defaults state (now_at now depth))
      (if_some (child_toward (chart_in s).tree state d) nothing
      (λ x. (rules_in s b n).enter x d (now_at now depth)))) (λ _ w. Among s ys w)) e l

  pub here_entered : (state d : ℕ) (now : Event) (xs ys : List Around) → (state == d) ≡ true
      → Leads s (Among s xs) (λ b n depth. (rules_in s b n).defaults state (now_at now depth)) (λ _ w. Among s ys w)
      → Leads s (Among s xs) (λ b n depth. enter_toward (chart_in s) (rules_in s b n) state d (now_at now depth))
      (λ _ w. Among s ys w)
  here_entered state d now xs ys e l = toward_same state d now xs ys true (state == d) (sym e) l

  pub below_entered : (state d : ℕ) (now : Event) (xs ys : List Around) → (state == d) ≡ false
      → Leads s (Among s xs) (λ b n depth. if_some (child_toward (chart_in s).tree state d) nothing
      (λ x. (rules_in s b n).enter x d (now_at now depth))) (λ _ w. Among s ys w)
      → Leads s (Among s xs) (λ b n depth. enter_toward (chart_in s) (rules_in s b n) state d (now_at now depth))
      (λ _ w. Among s ys w)
  below_entered state d now xs ys e l = toward_same state d now xs ys false (state == d) (sym e) l

  -- the child towards a state
  child_same : (d : ℕ) (now : Event) (xs ys : List Around) (k m : Option ℕ) → k ≡ m
      → Leads s (Among s xs) (λ b n depth. if_some k nothing (λ x. (rules_in s b n).enter x d (now_at now depth)))
      (λ _ w. Among s ys w)
      → Leads s (Among s xs) (λ b n depth. if_some m nothing (λ x. (rules_in s b n).enter x d (now_at now depth)))
      (λ _ w. Among s ys w)
  child_same d now xs ys k m e l =
      subst (λ z. Leads s (Among s xs)
      (λ b n depth. if_some z nothing (λ x. (rules_in s b n).enter x d (now_at now depth))) (λ _ w. Among s ys w)) e l

  pub no_child_entered : (state d : ℕ) (now : Event) (xs : List Around) (k : Option ℕ)
      → k ≡ child_toward (chart_in s).tree state d → k ≡ None
      → Leads s (Among s xs) (λ b n depth. if_some (child_toward (chart_in s).tree state d) nothing
      (λ x. (rules_in s b n).enter x d (now_at now depth))) (λ _ w. Among s xs w)
  no_child_entered state d now xs k e q =
      child_same d now xs xs None (child_toward (chart_in s).tree state d) (sym q ∙ e)
      (leads_nothing s xs xs (λ w h. h))

  pub child_entered : (state d x : ℕ) (now : Event) (xs ys : List Around) (k : Option ℕ)
      → k ≡ child_toward (chart_in s).tree state d → k ≡ Some x
      → Leads s (Among s xs) (λ b n depth. (rules_in s b n).enter x d (now_at now depth)) (λ _ w. Among s ys w)
      → Leads s (Among s xs) (λ b n depth. if_some (child_toward (chart_in s).tree state d) nothing
      (λ x. (rules_in s b n).enter x d (now_at now depth))) (λ _ w. Among s ys w)
  child_entered state d x now xs ys k e q l =
      child_same d now xs ys (Some x) (child_toward (chart_in s).tree state d) (sym q ∙ e) l

  -- by default
  pub defaults_lead : (state : ℕ) (now : Event) (states : List ℕ) (xs ys : List Around)
      → states ≡ may_return (chart_in s) state
      → Leads s (Among s xs) (λ b n depth. return_found (chart_in s) (rules_in s b n) state states (now_at now depth))
      (λ _ w. Among s ys w)
      → Leads s (Among s xs) (λ b n depth. (rules_in s b n).defaults state (now_at now depth)) (λ _ w. Among s ys w)
  defaults_lead state now states xs ys e l =
      by_rule s (Among s xs) (λ b n depth. (rules_in s b n).defaults state (now_at now depth))
      (λ b n depth. defaults_rule (chart_in s) (rules_in s b n) state (now_at now depth)) (λ _ w. Among s ys w)
      (λ b depth w. refl) (λ b n depth w. refl)
      (subst (λ z. Leads s (Among s xs)
      (λ b n depth. return_found (chart_in s) (rules_in s b n) state z (now_at now depth)) (λ _ w. Among s ys w)) e l)

  pub none_returned : (state : ℕ) (now : Event) (states : List ℕ) (xs ys : List Around) → states ≡ []
      → Leads s (Among s xs) (λ b n depth. default_search (chart_in s) (rules_in s b n) state (now_at now depth))
      (λ _ w. Among s ys w)
      → Leads s (Among s xs) (λ b n depth. return_found (chart_in s) (rules_in s b n) state states (now_at now depth))
      (λ _ w. Among s ys w)
  none_returned state now states xs ys e l =
      subst (λ z. Leads s (Among s xs)
      (λ b n depth. return_found (chart_in s) (rules_in s b n) state z (now_at now depth)) (λ _ w. Among s ys w))
      (sym e) l

  pub first_returned : (state : ℕ) (now : Event) (states rest : List ℕ) (x : ℕ)
      (xs pass fail back others all : List Around) → states ≡ x ∷ rest → Splits s (Last x) xs pass fail
      → Leads s (Among s pass) (λ b n depth. (rules_in s b n).enter x x (now_at now depth)) (λ _ w. Among s back w)
      → Leads s (Among s fail) (λ b n depth. return_found (chart_in s) (rules_in s b n) state rest (now_at now depth))
      (λ _ w. Among s others w) → Unites s back others all
      → Leads s (Among s xs) (λ b n depth. return_found (chart_in s) (rules_in s b n) state states (now_at now depth))
      (λ _ w. Among s all w)
  first_returned state now states rest x xs pass fail back others all e sp l k u =
      subst (λ z. Leads s (Among s xs)
      (λ b n depth. return_found (chart_in s) (rules_in s b n) state z (now_at now depth)) (λ _ w. Among s all w))
      (sym e)
      (first_leads s Last x rest xs pass fail all
      (λ b n depth. default_search (chart_in s) (rules_in s b n) state (now_at now depth))
      (λ y b n depth. (rules_in s b n).enter y y (now_at now depth)) sp
      (leads_left s (Among s pass) (λ b n depth. (rules_in s b n).enter x x (now_at now depth)) back others all u l)
      (leads_right s (Among s fail)
      (λ b n depth. return_found (chart_in s) (rules_in s b n) state rest (now_at now depth)) back others all u k))

  -- what a default list finds
  pub default_leads : (state : ℕ) (now : Event) (list : List Trans) (xs inner none still all : List Around)
      (r : Searched) → list ≡ (node (chart_in s) state).default
      → Leads s (Among s xs) (λ b n depth. (rules_in s b n).search (worlds.Bare state) list (now_at now depth))
      (found_ends s r) → Enters s r.fires.items state now inner → Unites s r.dead.items r.no.items none
      → Unites s none r.stop.items still → Unites s inner still all
      → Leads s (Among s xs) (λ b n depth. default_search (chart_in s) (rules_in s b n) state (now_at now depth))
      (λ _ w. Among s all w)
  default_leads state now list xs inner none still all r e l f u v t =
      leads_then s (Among s xs)
      (λ b n depth. (rules_in s b n).search (worlds.Bare state) (node (chart_in s) state).default (now_at now depth))
      (λ g b n depth. after_default (chart_in s) (rules_in s b n) state (now_at now depth) g) (found_ends s r)
      (λ _ w. Among s all w)
      (subst (λ z. Leads s (Among s xs)
      (λ b n depth. (rules_in s b n).search (worlds.Bare state) z (now_at now depth)) (found_ends s r)) e l) after
    where
      after : (g : Found) → Leads s (found_ends s r g)
          (λ b n depth. after_default (chart_in s) (rules_in s b n) state (now_at now depth) g) (λ _ w. Among s all w)
      after (Fire d actions) =
          leads_left s (IsFired s r.fires.items d actions)
          (λ b n depth. after_default (chart_in s) (rules_in s b n) state (now_at now depth) (Fire d actions)) inner
          still all t (f.enters d actions)
      after DeadEnd = leads_nothing s r.dead.items all (λ w h. t.right w (v.left w (u.left w h)))
      after No = leads_nothing s r.no.items all (λ w h. t.right w (v.left w (u.right w h)))
      after Stop = leads_nothing s r.stop.items all (λ w h. t.right w (v.right w h))

  -- firings of a default list
  pub no_fires : (fires : List Firing) (state : ℕ) (now : Event) (ys : List Around) → fires ≡ []
      → Enters s fires state now ys
  no_fires fires state now ys e = record {
    enters = λ d actions. record {
      leads = λ b n depth w right h. absurd (no_firing s d actions w (subst (λ l. IsFired s l d actions w) e h));
    };
  }

  abbrev one : ℕ → Event → ℕ → List (List Stmt) → Works (Unit {0})
  one state now d actions b n depth =
      after_default (chart_in s) (rules_in s b n) state (now_at now depth) (Fire d actions)

  pub next_fires : (fires rest : List Firing) (x : Firing) (state : ℕ) (now : Event)
      (inner own others all : List Around) (r : Ran) → fires ≡ rest ++ x ∷ []
      → Leads s (Among s x.worlds.items)
      (λ b n depth. (rules_in s b n).play state (map (λ a. block_seen a.now) x.actions.items) (now_at now depth))
      (ran_ends s r)
      → Leads s (Among s r.done.items) (λ b n depth. if_some (child_toward (chart_in s).tree state x.target) nothing
      (λ y. (rules_in s b n).enter y x.target (now_at now depth))) (λ _ w. Among s inner w)
      → Unites s inner r.cut.items own → Enters s rest state now others → Unites s own others all
      → Enters s fires state now all
  next_fires fires rest x state now inner own others all r e play enter u more v = record { enters = at }
    where
      after : (end : End) → Leads s (ran_ends s r end)
          (λ b n depth. if_done end tt (if_some (child_toward (chart_in s).tree state x.target) nothing
          (λ y. (rules_in s b n).enter y x.target (now_at now depth)))) (λ _ w. Among s all w)
      after Done =
          leads_left s (Among s r.done.items)
          (λ b n depth. if_some (child_toward (chart_in s).tree state x.target) nothing
          (λ y. (rules_in s b n).enter y x.target (now_at now depth))) own others all v
          (leads_left s (Among s r.done.items)
          (λ b n depth. if_some (child_toward (chart_in s).tree state x.target) nothing
          (λ y. (rules_in s b n).enter y x.target (now_at now depth))) inner r.cut.items own u enter)
      after Cut = leads_nothing s r.cut.items all (λ w h. v.left w (u.right w h))

      last : Leads s (Among s x.worlds.items) (one state now x.target (map (λ a. block_seen a.now) x.actions.items))
          (λ _ w. Among s all w)
      last =
          leads_then s (Among s x.worlds.items)
          (λ b n depth. (rules_in s b n).play state (map (λ a. block_seen a.now) x.actions.items) (now_at now depth))
          (λ end b n depth. if_done end tt (if_some (child_toward (chart_in s).tree state x.target) nothing
          (λ y. (rules_in s b n).enter y x.target (now_at now depth)))) (ran_ends s r) (λ _ w. Among s all w) play after

      own_leads : (d : ℕ) (actions : List (List Stmt)) → Leads s (IsOf s x d actions) (one state now d actions)
          (λ _ w. Among s all w)
      own_leads d actions = record {
        leads = λ b n depth w right h.
            subst (λ z. EndsIn (cert_in s) (λ _ v. Among s all v) (one state now d z b n depth w)) h.actions_are
            (subst (λ z. EndsIn (cert_in s) (λ _ v. Among s all v)
            (one state now z (map (λ a. block_seen a.now) x.actions.items) b n depth w)) h.target_is
            (last.leads b n depth w right h.at));
      }

      at : (d : ℕ) (actions : List (List Stmt)) → Leads s (IsFired s fires d actions) (one state now d actions)
          (λ _ w. Among s all w)
      at d actions =
          leads_either s (λ _ w. Among s all w) (IsFired s fires d actions) (IsFired s rest d actions)
          (IsOf s x d actions) (one state now d actions) (fired_popped s rest fires x e d actions)
          (leads_right s (IsFired s rest d actions) (one state now d actions) own others all v (more.enters d actions))
          (own_leads d actions)
