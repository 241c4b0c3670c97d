-- Taking a firing.
use Rattle.std.proofs.Common.{ℕ, List, refl}
use Rattle.actions.specs.declared.event.Event.{Event}
use Rattle.actions.specs.Exprs.{Stmt}
use Rattle.actions.specs.Work.{◌>>=◌, End, Done, Cut, if_done}
use Rattle.sos_rules.specs.Moves.{if_bare, exit_active, enter_toward, take_rule}
use Rattle.range_blocks.specs.declared.blocks.Ran.{Ran}
use Rattle.range_blocks.specs.Ends.{rules_in, ran_ends}
use Rattle.range_blocks.proofs.Combining.{by_rule, leads_then, leads_after}
use Rattle.range_moves.proofs.MoveLemmas.{leads_left, leads_nothing, bare_leads}
use Rattle.range_rules.specs.declared.cert.Around.{Around}
use Rattle.range_worlds.specs.declared.configs.Test.TheVariants.{Bare}
use Rattle.range_worlds.specs.declared.setting.Setting.{Setting}
use Rattle.range_worlds.specs.Leads.{chart_in, Among, Unites, Works, Leads, now_at}
use Rattle.range_worlds.specs.Splits.{Splits}

module _ (s : Setting) (home d : ℕ) (now : Event) where
  -- the destination is entered where the home is bare
  pub bare_entered : (xs pass fail inner all : List Around) → Splits s (Bare home) xs pass fail
      → Leads s (Among s pass) (λ b n depth. enter_toward (chart_in s) (rules_in s b n) home d (now_at now depth))
      (λ _ w. Among s inner w) → Unites s inner fail all
      → Leads s (Among s xs) (λ b n depth. if_bare (chart_in s).tree home
      (enter_toward (chart_in s) (rules_in s b n) home d (now_at now depth))) (λ _ w. Among s all w)
  bare_entered xs pass fail inner all sp l u =
      bare_leads s home xs pass fail all
      (λ b n depth. enter_toward (chart_in s) (rules_in s b n) home d (now_at now depth)) sp
      (leads_left s (Among s pass)
      (λ b n depth. enter_toward (chart_in s) (rules_in s b n) home d (now_at now depth)) inner fail all u l)
      (λ w h. u.right w h)

  abbrev into : Works (Unit {0})
  into b n depth =
      if_bare (chart_in s).tree home (enter_toward (chart_in s) (rules_in s b n) home d (now_at now depth))

  abbrev run : List (List Stmt) → Works (Unit {0})
  run actions b n depth =
      (rules_in s b n).play home actions (now_at now depth) >>= (λ end. if_done end tt (into b n depth))

  -- the whole rule
  pub take_leads : (actions : List (List Stmt)) (xs left pass fail inner early all : List Around) (r : Ran)
      → Leads s (Among s xs) (λ b n depth. exit_active (chart_in s) (rules_in s b n) home (now_at now depth))
      (λ _ w. Among s left w) → Splits s (Bare home) left pass fail
      → Leads s (Among s pass) (λ b n depth. (rules_in s b n).play home actions (now_at now depth)) (ran_ends s r)
      → Leads s (Among s r.done.items) (λ b n depth. if_bare (chart_in s).tree home
      (enter_toward (chart_in s) (rules_in s b n) home d (now_at now depth))) (λ _ w. Among s inner w)
      → Unites s r.cut.items fail early → Unites s inner early all
      → Leads s (Among s xs) (λ b n depth. (rules_in s b n).take home d actions (now_at now depth))
      (λ _ w. Among s all w)
  take_leads actions xs left pass fail inner early all r l sp play enter u v =
      by_rule s (Among s xs) (λ b n depth. (rules_in s b n).take home d actions (now_at now depth))
      (λ b n depth. take_rule (chart_in s) (rules_in s b n) home d actions (now_at now depth)) (λ _ w. Among s all w)
      (λ b depth w. refl) (λ b n depth w. refl)
      (leads_after s (λ _ w. Among s all w) (Among s xs)
      (λ b n depth. exit_active (chart_in s) (rules_in s b n) home (now_at now depth))
      (λ b n depth. if_bare (chart_in s).tree home (run actions b n depth)) (λ _ w. Among s left w) l
      (λ _. bare_leads s home left pass fail all (run actions) sp
      (leads_then s (Among s pass) (λ b n depth. (rules_in s b n).play home actions (now_at now depth))
      (λ end b n depth. if_done end tt (into b n depth)) (ran_ends s r) (λ _ w. Among s all w) play after)
      (λ w h. v.right w (u.right w h))))
    where
      after : (end : End) → Leads s (ran_ends s r end) (λ b n depth. if_done end tt (into b n depth))
          (λ _ w. Among s all w)
      after Done = leads_left s (Among s r.done.items) into inner early all v enter
      after Cut = leads_nothing s r.cut.items all (λ w h. v.right w (u.left w h))
