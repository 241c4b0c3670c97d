-- Leaving states.
use Rattle.std.proofs.Common.{◌≡◌, ℕ, false, List, [], ◌∷◌, ◌++◌, reverse, refl, sym, ap, subst, ◌∙◌}
use Rattle.std.proofs.lemmas.List.{reverse-append}
use Rattle.active_config.specs.declared.comp.Comp.TheVariants.{Leaf, Or, And}
use Rattle.active_config.specs.Marks.{is_on, active_child}
use Rattle.active_config.specs.Tree.{comp_of, children_of}
use Rattle.actions.specs.declared.event.Event.{Event}
use Rattle.actions.specs.Changes.{set_mark}
use Rattle.actions.specs.Exprs.{Stmt}
use Rattle.actions.specs.Work.{◌>>=◌, ◌>>◌, nothing, change, End, Done, Cut, if_done}
use Rattle.actions.specs.World as worlds
use Rattle.actions.specs.World.{World}
use Rattle.checked_chart.specs.Chart.{node}
use Rattle.sos_rules.specs.Moves.{if_bare, exit_active, exit_children, exit_rule}
use Rattle.range_blocks.specs.declared.blocks.Ran.{Ran}
use Rattle.range_blocks.specs.Ends.{rules_in, ran_ends}
use Rattle.range_blocks.proofs.Combining.{by_rule, leads_then, leads_after, leads_split}
use Rattle.range_moves.specs.Moved.{leave_rule, exit_found}
use Rattle.range_moves.proofs.MoveLemmas.{leads_left, leads_nothing, bare_leads, first_leads}
use Rattle.range_rules.specs.declared.cert.Around.{Around}
use Rattle.range_worlds.specs.declared.configs.Change.TheVariants.{Clear}
use Rattle.range_worlds.specs.declared.configs.Test.TheVariants.{On, Bare}
use Rattle.range_worlds.specs.declared.setting.Setting.{Setting}
use Rattle.range_worlds.specs.Leads.{chart_in, Among, Unites, Leads, now_at}
use Rattle.range_worlds.specs.Splits.{turn, Splits}
use Rattle.range_worlds.proofs.Leading.{leads_more}

module _ (s : Setting) where
  pub inactive_leads : (state : ℕ) (xs pass fail gone all : List Around) → Splits s (Bare state) xs pass fail
      → Leads s (Among s pass) (λ b n depth. change (turn (chart_in s) (Clear state))) (λ _ w. Among s gone w)
      → Unites s gone fail all
      → Leads s (Among s xs) (λ b n depth. if_bare (chart_in s).tree state (change (set_mark state false)))
      (λ _ w. Among s all w)
  inactive_leads state xs pass fail gone all sp l u =
      bare_leads s state xs pass fail all (λ b n depth. change (set_mark state false)) sp
      (leads_left s (Among s pass) (λ b n depth. change (set_mark state false)) gone fail all u l)
      (λ w h. u.right w h)

  -- after the exit action
  pub leave_leads : (state : ℕ) (action : List Stmt) (now : Event) (xs pass fail gone early all : List Around) (r : Ran)
      → action ≡ (node (chart_in s) state).exit → Splits s (Bare state) xs pass fail
      → Leads s (Among s pass) (λ b n depth. (rules_in s b n).block (worlds.Bare state) action (now_at now depth))
      (ran_ends s r)
      → Leads s (Among s r.done.items)
      (λ b n depth. if_bare (chart_in s).tree state (change (set_mark state false))) (λ _ w. Among s gone w)
      → Unites s r.cut.items fail early → Unites s gone early all
      → Leads s (Among s xs) (λ b n depth. leave_rule (chart_in s) (rules_in s b n) state (now_at now depth))
      (λ _ w. Among s all w)
  leave_leads state action now xs pass fail gone early all r e sp block off u v =
      bare_leads s state xs pass fail all
      (λ b n depth. (rules_in s b n).block (worlds.Bare state) (node (chart_in s) state).exit (now_at now depth)
      >>= (λ end. if_done end tt (if_bare (chart_in s).tree state (change (set_mark state false))))) sp
      (leads_then s (Among s pass)
      (λ b n depth. (rules_in s b n).block (worlds.Bare state) (node (chart_in s) state).exit (now_at now depth))
      (λ end b n depth. if_done end tt (if_bare (chart_in s).tree state (change (set_mark state false))))
      (ran_ends s r) (λ _ w. Among s all w)
      (subst (λ a. Leads s (Among s pass)
      (λ b n depth. (rules_in s b n).block (worlds.Bare state) a (now_at now depth)) (ran_ends s r)) e block) after)
      (λ w h. v.right w (u.right w h))
    where
      after : (end : End) → Leads s (ran_ends s r end)
          (λ b n depth. if_done end tt (if_bare (chart_in s).tree state (change (set_mark state false))))
          (λ _ w. Among s all w)
      after Done =
          leads_left s (Among s r.done.items)
          (λ b n depth. if_bare (chart_in s).tree state (change (set_mark state false))) gone early all v off
      after Cut = leads_nothing s r.cut.items all (λ w h. v.right w (u.left w h))

  -- the whole rule
  pub exit_leads : (state : ℕ) (now : Event) (xs pass fail inner left all : List Around)
      → Splits s (On state) xs pass fail
      → Leads s (Among s pass) (λ b n depth. exit_children (chart_in s) (rules_in s b n) state (now_at now depth)
      (comp_of (chart_in s).tree state)) (λ _ w. Among s inner w)
      → Leads s (Among s inner) (λ b n depth. leave_rule (chart_in s) (rules_in s b n) state (now_at now depth))
      (λ _ w. Among s left w) → Unites s left fail all
      → Leads s (Among s xs) (λ b n depth. (rules_in s b n).exit state (now_at now depth)) (λ _ w. Among s all w)
  exit_leads state now xs pass fail inner left all sp l k u =
      by_rule s (Among s xs) (λ b n depth. (rules_in s b n).exit state (now_at now depth))
      (λ b n depth. exit_rule (chart_in s) (rules_in s b n) state (now_at now depth)) (λ _ w. Among s all w)
      (λ b depth w. refl) (λ b n depth w. refl)
      (leads_split s (λ _ w. Among s all w) (On state) (λ w. is_on state w.marks) xs pass fail
      (λ b n depth. exit_children (chart_in s) (rules_in s b n) state (now_at now depth)
      (comp_of (chart_in s).tree state) >> leave_rule (chart_in s) (rules_in s b n) state (now_at now depth))
      (λ b n depth. nothing) (λ w. refl) sp
      (leads_after s (λ _ w. Among s all w) (Among s pass)
      (λ b n depth. exit_children (chart_in s) (rules_in s b n) state (now_at now depth)
      (comp_of (chart_in s).tree state))
      (λ b n depth. leave_rule (chart_in s) (rules_in s b n) state (now_at now depth)) (λ _ w. Among s inner w) l
      (λ _. leads_left s (Among s inner)
      (λ b n depth. leave_rule (chart_in s) (rules_in s b n) state (now_at now depth)) left fail all u k))
      (leads_nothing s fail all (λ w h. u.right w h)))

  -- children, by how a state is composed
  pub leaf_left : (state : ℕ) (now : Event) (xs : List Around) → Leaf ≡ comp_of (chart_in s).tree state
      → Leads s (Among s xs) (λ b n depth. exit_children (chart_in s) (rules_in s b n) state (now_at now depth)
      (comp_of (chart_in s).tree state)) (λ _ w. Among s xs w)
  leaf_left state now xs e =
      subst (λ k. Leads s (Among s xs)
      (λ b n depth. exit_children (chart_in s) (rules_in s b n) state (now_at now depth) k) (λ _ w. Among s xs w)) e
      (leads_nothing s xs xs (λ w h. h))

  pub or_left : (state : ℕ) (now : Event) (xs ys : List Around) → Or ≡ comp_of (chart_in s).tree state
      → Leads s (Among s xs) (λ b n depth. exit_active (chart_in s) (rules_in s b n) state (now_at now depth))
      (λ _ w. Among s ys w)
      → Leads s (Among s xs) (λ b n depth. exit_children (chart_in s) (rules_in s b n) state (now_at now depth)
      (comp_of (chart_in s).tree state)) (λ _ w. Among s ys w)
  or_left state now xs ys e l =
      subst (λ k. Leads s (Among s xs)
      (λ b n depth. exit_children (chart_in s) (rules_in s b n) state (now_at now depth) k) (λ _ w. Among s ys w)) e l

  pub and_left : (state : ℕ) (now : Event) (xs ys : List Around) (regions : List ℕ)
      → And ≡ comp_of (chart_in s).tree state → regions ≡ children_of (chart_in s).tree state
      → Leads s (Among s xs) (λ b n depth. (rules_in s b n).exit_each (reverse regions) (now_at now depth))
      (λ _ w. Among s ys w)
      → Leads s (Among s xs) (λ b n depth. exit_children (chart_in s) (rules_in s b n) state (now_at now depth)
      (comp_of (chart_in s).tree state)) (λ _ w. Among s ys w)
  and_left state now xs ys regions e q l =
      subst (λ k. Leads s (Among s xs)
      (λ b n depth. exit_children (chart_in s) (rules_in s b n) state (now_at now depth) k) (λ _ w. Among s ys w)) e
      (subst (λ z. Leads s (Among s xs) (λ b n depth. (rules_in s b n).exit_each (reverse z) (now_at now depth))
      (λ _ w. Among s ys w)) q l)

  -- the active child
  pub active_left : (state : ℕ) (now : Event) (xs ys : List Around) (inner : List ℕ)
      → inner ≡ children_of (chart_in s).tree state
      → Leads s (Among s xs) (λ b n depth. exit_found (rules_in s b n) inner (now_at now depth)) (λ _ w. Among s ys w)
      → Leads s (Among s xs) (λ b n depth. exit_active (chart_in s) (rules_in s b n) state (now_at now depth))
      (λ _ w. Among s ys w)
  unfolding active_child
  active_left state now xs ys inner e l =
      subst (λ z. Leads s (Among s xs) (λ b n depth. exit_found (rules_in s b n) z (now_at now depth))
      (λ _ w. Among s ys w)) e l

  pub none_left : (states : List ℕ) (now : Event) (xs : List Around) → states ≡ []
      → Leads s (Among s xs) (λ b n depth. exit_found (rules_in s b n) states (now_at now depth)) (λ _ w. Among s xs w)
  none_left states now xs e =
      subst (λ z. Leads s (Among s xs) (λ b n depth. exit_found (rules_in s b n) z (now_at now depth))
      (λ _ w. Among s xs w)) (sym e) (leads_nothing s xs xs (λ w h. h))

  pub first_left : (states rest : List ℕ) (x : ℕ) (now : Event) (xs pass fail left others all : List Around)
      → states ≡ x ∷ rest → Splits s (On x) xs pass fail
      → Leads s (Among s pass) (λ b n depth. (rules_in s b n).exit x (now_at now depth)) (λ _ w. Among s left w)
      → Leads s (Among s fail) (λ b n depth. exit_found (rules_in s b n) rest (now_at now depth))
      (λ _ w. Among s others w) → Unites s left others all
      → Leads s (Among s xs) (λ b n depth. exit_found (rules_in s b n) states (now_at now depth))
      (λ _ w. Among s all w)
  first_left states rest x now xs pass fail left others all e sp l k u =
      subst (λ z. Leads s (Among s xs) (λ b n depth. exit_found (rules_in s b n) z (now_at now depth))
      (λ _ w. Among s all w)) (sym e)
      (first_leads s On x rest xs pass fail all (λ b n depth. nothing)
      (λ y b n depth. (rules_in s b n).exit y (now_at now depth)) sp
      (leads_left s (Among s pass) (λ b n depth. (rules_in s b n).exit x (now_at now depth)) left others all u l)
      (leads_more s (λ b n depth. exit_found (rules_in s b n) rest (now_at now depth)) (Among s fail)
      (λ _ w. Among s others w) (λ _ w. Among s all w) (λ _ w h. u.right w h) k))

  -- one after another
  pub no_more_left : (states : List ℕ) (now : Event) (xs : List Around) → states ≡ []
      → Leads s (Among s xs) (λ b n depth. (rules_in s b n).exit_each (reverse states) (now_at now depth))
      (λ _ w. Among s xs w)
  no_more_left states now xs e =
      subst (λ z. Leads s (Among s xs) (λ b n depth. (rules_in s b n).exit_each (reverse z) (now_at now depth))
      (λ _ w. Among s xs w)) (sym e)
      (by_rule s (Among s xs) (λ b n depth. (rules_in s b n).exit_each [] (now_at now depth)) (λ b n depth. nothing)
      (λ _ w. Among s xs w) (λ b depth w. refl) (λ b n depth w. refl) (leads_nothing s xs xs (λ w h. h)))

  pub last_left : (states rest : List ℕ) (x : ℕ) (now : Event) (xs ys all : List Around) → states ≡ rest ++ x ∷ []
      → Leads s (Among s xs) (λ b n depth. (rules_in s b n).exit x (now_at now depth)) (λ _ w. Among s ys w)
      → Leads s (Among s ys) (λ b n depth. (rules_in s b n).exit_each (reverse rest) (now_at now depth))
      (λ _ w. Among s all w)
      → Leads s (Among s xs) (λ b n depth. (rules_in s b n).exit_each (reverse states) (now_at now depth))
      (λ _ w. Among s all w)
  last_left states rest x now xs ys all e l k =
      subst (λ z. Leads s (Among s xs) (λ b n depth. (rules_in s b n).exit_each z (now_at now depth))
      (λ _ w. Among s all w)) (sym (ap reverse e ∙ reverse-append rest (x ∷ [])))
      (by_rule s (Among s xs) (λ b n depth. (rules_in s b n).exit_each (x ∷ reverse rest) (now_at now depth))
      (λ b n depth. (rules_in s b n).exit x (now_at now depth)
      >> (rules_in s b n).exit_each (reverse rest) (now_at now depth)) (λ _ w. Among s all w) (λ b depth w. refl)
      (λ b n depth w. refl)
      (leads_after s (λ _ w. Among s all w) (Among s xs)
      (λ b n depth. (rules_in s b n).exit x (now_at now depth))
      (λ b n depth. (rules_in s b n).exit_each (reverse rest) (now_at now depth)) (λ _ w. Among s ys w) l (λ _. k)))
