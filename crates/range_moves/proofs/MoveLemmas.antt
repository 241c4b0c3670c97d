-- Work under a test, and where lists that are put together end.
use Rattle.std.proofs.Common.{◌≡◌, ◌⊎◌, inl, inr, ℕ, Bool, true, false, List, ◌∷◌, Some, refl, sym, subst}
use Rattle.std.proofs.Common.{cond}
use Rattle.std.specs.List.{find}
use Rattle.flow_base.specs.declared.bounds.Bounds.{Bounds}
use Rattle.active_config.specs.Marks.{is_bare}
use Rattle.actions.specs.Work.{nothing, if_some}
use Rattle.actions.specs.World.{World}
use Rattle.sos_rules.specs.Moves.{if_bare}
use Rattle.range_blocks.proofs.Combining.{leads_give, leads_split}
use Rattle.range_rules.specs.declared.cert.Around.{Around}
use Rattle.range_rules.specs.Worlds.{EndsIn}
use Rattle.range_worlds.specs.declared.configs.Test.{Test}
use Rattle.range_worlds.specs.declared.configs.Test.TheVariants.{Bare}
use Rattle.range_worlds.specs.declared.setting.Setting.{Setting}
use Rattle.range_worlds.specs.Leads.{AreBelow, chart_in, cert_in, Among, Unites, Works, Leads}
use Rattle.range_worlds.specs.Splits.{passes, Splits}
use Rattle.range_worlds.proofs.Leading.{leads_more}

module _ (s : Setting) where
  -- worlds of one of two lists are in both
  pub leads_left : {A : Type 0} (from : World → Type 0) (work : Works A) (xs ys all : List Around) → Unites s xs ys all
      → Leads s from work (λ _ w. Among s xs w) → Leads s from work (λ _ w. Among s all w)
  leads_left from work xs ys all u l =
      leads_more s work from (λ _ w. Among s xs w) (λ _ w. Among s all w) (λ _ w h. u.left w h) l

  pub leads_right : {A : Type 0} (from : World → Type 0) (work : Works A) (xs ys all : List Around) → Unites s xs ys all
      → Leads s from work (λ _ w. Among s ys w) → Leads s from work (λ _ w. Among s all w)
  leads_right from work xs ys all u l =
      leads_more s work from (λ _ w. Among s ys w) (λ _ w. Among s all w) (λ _ w h. u.right w h) l

  -- nothing is done
  pub leads_nothing : (xs all : List Around) → ((w : World) → Among s xs w → Among s all w)
      → Leads s (Among s xs) (λ b n depth. nothing) (λ _ w. Among s all w)
  leads_nothing xs all h = leads_give s (λ _ w. Among s all w) (Among s xs) tt h

  -- work that is done where a state is bare
  pub bare_leads : (state : ℕ) (xs pass fail all : List Around) (work : Works (Unit {0}))
      → Splits s (Bare state) xs pass fail → Leads s (Among s pass) work (λ _ w. Among s all w)
      → ((w : World) → Among s fail w → Among s all w)
      → Leads s (Among s xs) (λ b n depth. if_bare (chart_in s).tree state (work b n depth)) (λ _ w. Among s all w)
  bare_leads state xs pass fail all work sp l h =
      leads_split s (λ _ w. Among s all w) (Bare state) (λ w. is_bare (chart_in s).tree state w.marks) xs pass fail work
      (λ b n depth. nothing) (λ w. refl) sp l (leads_nothing fail all h)

  -- work on the first of a list that passes a test
  pub first_leads : (kind : ℕ → Test) (x : ℕ) (rest : List ℕ) (xs pass fail all : List Around) (none : Works (Unit {0}))
      (some : ℕ → Works (Unit {0})) → Splits s (kind x) xs pass fail
      → Leads s (Among s pass) (some x) (λ _ w. Among s all w)
      → Leads s (Among s fail) (λ b n depth w. if_some (find (λ y. passes (chart_in s).tree (kind y) w.marks) rest)
      (none b n depth) (λ y. some y b n depth) w) (λ _ w. Among s all w)
      → Leads s (Among s xs) (λ b n depth w. if_some (find (λ y. passes (chart_in s).tree (kind y) w.marks) (x ∷ rest))
      (none b n depth) (λ y. some y b n depth) w) (λ _ w. Among s all w)
  first_leads kind x rest xs pass fail all none some sp l k = record {
    leads = λ b n depth w right h. at b n depth w right (sp.split w h);
  }
    where
      by : (b : Bounds) (n depth : ℕ) (w : World) (y z : Bool) → y ≡ z
          → EndsIn (cert_in s) (λ _ v. Among s all v)
          (if_some (cond z (Some x) (find (λ y. passes (chart_in s).tree (kind y) w.marks) rest)) (none b n depth)
          (λ y. some y b n depth) w)
          → EndsIn (cert_in s) (λ _ v. Among s all v)
          (if_some (cond y (Some x) (find (λ y. passes (chart_in s).tree (kind y) w.marks) rest)) (none b n depth)
          (λ y. some y b n depth) w)
      by b n depth w y z e h = subst (λ q. EndsIn (cert_in s) (λ _ v. Among s all v)
          (if_some (cond q (Some x) (find (λ y. passes (chart_in s).tree (kind y) w.marks) rest)) (none b n depth)
          (λ y. some y b n depth) w)) (sym e) h

      at : (b : Bounds) (n depth : ℕ) (w : World) → AreBelow s b n
          → ((passes (chart_in s).tree (kind x) w.marks ≡ true) × Among s pass w)
          ⊎ ((passes (chart_in s).tree (kind x) w.marks ≡ false) × Among s fail w)
          → EndsIn (cert_in s) (λ _ v. Among s all v)
          (if_some (find (λ y. passes (chart_in s).tree (kind y) w.marks) (x ∷ rest)) (none b n depth)
          (λ y. some y b n depth) w)
      at b n depth w right (inl h) =
          by b n depth w (passes (chart_in s).tree (kind x) w.marks) true h.0 (l.leads b n depth w right h.1)
      at b n depth w right (inr h) =
          by b n depth w (passes (chart_in s).tree (kind x) w.marks) false h.0 (k.leads b n depth w right h.1)
