-- How what is said of pieces of work is put together to what is said of a rule.
use Rattle.std.proofs.Common.{◌≡◌, ◌⊎◌, inl, inr, ℕ, zero, suc, Bool, true, false, List, sym, subst, ◌∙◌, arith}
use Rattle.flow_base.specs.declared.bounds.Bounds.{Bounds}
use Rattle.actions.specs.Work.{Run, Ended, Unfinished, ◌>>=◌, ◌>>◌, test, choose}
use Rattle.actions.specs.World.{World}
use Rattle.range_rules.specs.declared.cert.Around.{Around}
use Rattle.range_rules.specs.Worlds.{EndsIn}
use Rattle.range_worlds.specs.declared.configs.Test.{Test}
use Rattle.range_worlds.specs.declared.setting.Setting.{Setting}
use Rattle.range_worlds.specs.Leads.{AreBelow, chart_in, cert_in, Among, Works, Leads}
use Rattle.range_worlds.specs.Splits.{passes, Splits}
use Rattle.range_worlds.proofs.Leading.{then_end}

-- cells that are right below a height are right below each lower one
pub below_lower : (s : Setting) (b : Bounds) (n : ℕ) → AreBelow s b (suc n) → AreBelow s b n
below_lower s b n h m l i cell is = h m (omega arith) i cell is

module _ {A : Type 0} (s : Setting) (from : World → Type 0) (work rule : Works A) (ends : A → World → Type 0) where
  run_ends : (r q : Run A) → r ≡ q → EndsIn (cert_in s) ends q → EndsIn (cert_in s) ends r
  run_ends r q e h = subst (EndsIn (cert_in s) ends) (sym e) h

  -- work that is nothing at height 0, and above it another
  pub by_cases : ((b : Bounds) (depth : ℕ) (w : World) → work b zero depth w ≡ Unfinished)
      → ((b : Bounds) (n depth : ℕ) (w : World) → work b (suc n) depth w ≡ rule b (suc n) depth w)
      → Leads s from rule ends → Leads s from work ends
  by_cases z e l = record { leads = at }
    where
      at : (b : Bounds) (n depth : ℕ) (w : World) → AreBelow s b n → from w
          → EndsIn (cert_in s) ends (work b n depth w)
      at b zero depth w right h = run_ends (work b zero depth w) Unfinished (z b depth w) tt
      at b (suc n) depth w right h =
          run_ends (work b (suc n) depth w) (rule b (suc n) depth w) (e b n depth w) (l.leads b (suc n) depth w right h)

  -- work that is nothing at height 0, and above it a rule over work that is one height lower
  pub by_rule : ((b : Bounds) (depth : ℕ) (w : World) → work b zero depth w ≡ Unfinished)
      → ((b : Bounds) (n depth : ℕ) (w : World) → work b (suc n) depth w ≡ rule b n depth w)
      → Leads s from rule ends → Leads s from work ends
  by_rule z e l = record { leads = at }
    where
      at : (b : Bounds) (n depth : ℕ) (w : World) → AreBelow s b n → from w
          → EndsIn (cert_in s) ends (work b n depth w)
      at b zero depth w right h = run_ends (work b zero depth w) Unfinished (z b depth w) tt
      at b (suc n) depth w right h =
          run_ends (work b (suc n) depth w) (rule b n depth w) (e b n depth w)
          (l.leads b n depth w (below_lower s b n right) h)

module _ {A B : Type 0} (s : Setting) (from : World → Type 0) (work : Works A) (next : A → Works B)
    (mid : A → World → Type 0) (ends : B → World → Type 0) where
  -- one piece of work, and then another from where it ended
  pub leads_then : Leads s from work mid → ((a : A) → Leads s (mid a) (next a) ends)
      → Leads s from (λ b n depth. work b n depth >>= (λ a. next a b n depth)) ends
  leads_then l k = record {
    leads = λ b n depth w right h. then_end (cert_in s) mid ends (work b n depth w) (λ a. next a b n depth)
        (l.leads b n depth w right h) (λ a v g. (k a).leads b n depth v right g);
  }

module _ {A : Type 0} (s : Setting) (ends : A → World → Type 0) where
  -- what is left of an answer
  pub leads_after : {B : Type 0} (from : World → Type 0) (work : Works B) (next : Works A) (mid : B → World → Type 0)
      → Leads s from work mid → ((a : B) → Leads s (mid a) next ends)
      → Leads s from (λ b n depth. work b n depth >> next b n depth) ends
  leads_after from work next mid l k = leads_then s from work (λ _. next) mid ends l k

  -- an answer at once
  pub leads_give : (from : World → Type 0) (a : A) → ((w : World) → from w → ends a w)
      → Leads s from (λ b n depth w. Ended a w) ends
  leads_give from a h = record { leads = λ b n depth w right at. h w at }

  -- one of two pieces of work by a test
  pub leads_split : (t : Test) (p : World → Bool) (xs pass fail : List Around) (taken left : Works A)
      → ((w : World) → p w ≡ passes (chart_in s).tree t w.marks) → Splits s t xs pass fail
      → Leads s (Among s pass) taken ends → Leads s (Among s fail) left ends
      → Leads s (Among s xs) (λ b n depth. test p >>= (λ y. choose y (taken b n depth) (left b n depth))) ends
  leads_split t p xs pass fail taken left e sp l r = record {
    leads = λ b n depth w right h. at b n depth w right (sp.split w h);
  }
    where
      pick : (b : Bounds) (n depth : ℕ) (w : World) (y z : Bool) → y ≡ z
          → EndsIn (cert_in s) ends (choose z (taken b n depth) (left b n depth) w)
          → EndsIn (cert_in s) ends (choose y (taken b n depth) (left b n depth) w)
      pick b n depth w y z q h =
          subst (λ x. EndsIn (cert_in s) ends (choose x (taken b n depth) (left b n depth) w)) (sym q) h

      at : (b : Bounds) (n depth : ℕ) (w : World) → AreBelow s b n
          → ((passes (chart_in s).tree t w.marks ≡ true) × Among s pass w)
          ⊎ ((passes (chart_in s).tree t w.marks ≡ false) × Among s fail w)
          → EndsIn (cert_in s) ends (choose (p w) (taken b n depth) (left b n depth) w)
      at b n depth w right (inl h) =
          pick b n depth w (p w) true (e w ∙ h.0) (l.leads b n depth w right h.1)
      at b n depth w right (inr h) =
          pick b n depth w (p w) false (e w ∙ h.0) (r.leads b n depth w right h.1)

  -- more worlds where work begins, in one of two lists
  pub leads_either : (from p q : World → Type 0) (work : Works A) → ((w : World) → from w → p w ⊎ q w)
      → Leads s p work ends → Leads s q work ends → Leads s from work ends
  leads_either from p q work h l r = record { leads = λ b n depth w right g. at b n depth w right (h w g) }
    where
      at : (b : Bounds) (n depth : ℕ) (w : World) → AreBelow s b n → p w ⊎ q w
          → EndsIn (cert_in s) ends (work b n depth w)
      at b n depth w right (inl g) = l.leads b n depth w right g
      at b n depth w right (inr g) = r.leads b n depth w right g

  -- the same work at each depth is the same one deeper
  pub leads_deeper : (from : World → Type 0) (work : Works A) → Leads s from work ends
      → Leads s from (λ b n depth. work b n (suc depth)) ends
  leads_deeper from work l = record { leads = λ b n depth w right h. l.leads b n (suc depth) w right h }
