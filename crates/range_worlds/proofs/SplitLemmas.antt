-- Worlds that are parted by a test, and changes of what is active.
use Rattle.std.proofs.Common.{◌≡◌, ◌⊎◌, inl, inr, Bool, true, false, List, [], ◌∷◌, ◌++◌, refl, sym, ap, subst, ◌∙◌}
use Rattle.active_config.specs.Marks.{with_mark}
use Rattle.actions.specs.Changes.{keep_in}
use Rattle.actions.specs.Work.{change}
use Rattle.actions.specs.World.{World}
use Rattle.checked_chart.specs.Chart.{Chart, is_remembered}
use Rattle.sos_rules.specs.Moves.{entered_in, keep_if}
use Rattle.range_worlds.specs.declared.configs.Test.{Test}
use Rattle.range_worlds.specs.declared.configs.Change.{Change}
use Rattle.range_worlds.specs.declared.configs.Change.TheVariants.{Clear, Enter}
use Rattle.range_worlds.specs.declared.setting.Setting.{Setting}
use Rattle.range_worlds.specs.declared.worlds.Parted.{Parted}
use Rattle.range_worlds.specs.Leads.{chart_in, cert_in, At, Among, Adds, Leads}
use Rattle.range_worlds.specs.Splits.{passes, turned, turn, marks_kept, Splits, Sorts}
use Rattle.range_worlds.proofs.Leading.{popped, no_world}
use Rattle.range_rules.specs.declared.cert.Around.{Around}
use Rattle.range_rules.specs.Worlds.{always_of}
use Rattle.range_spans.specs.Boxes.{IsBox, box_of}

-- a world of the sets is in one that is left, or it passes the test and is in the first ones, or it is in the others
pub record Parting (s : Setting) (test : Test) (xs left pass fail : List Around) : Type 0 where
  pub at : (w : World) → Among s xs w → Among s left w
      ⊎ (((passes (chart_in s).tree test w.marks ≡ true) × Among s pass w)
      ⊎ ((passes (chart_in s).tree test w.marks ≡ false) × Among s fail w))

-- a world passes the test and is in the first sets, or it is in the others
abbrev Apart : Setting → Test → Parted → World → Type 0
Apart s test parts w = ((passes (chart_in s).tree test w.marks ≡ true) × Among s parts.yes.items w)
    ⊎ ((passes (chart_in s).tree test w.marks ≡ false) × Among s parts.no.items w)

module _ (s : Setting) (test : Test) where
  pub parting_first : (xs left pass fail : List Around) → left ≡ xs → Parting s test xs left pass fail
  parting_first xs left pass fail e = record { at = λ w h. inl (subst (λ ys. Among s ys w) (sym e) h) }

  pub parting_step : (xs left next : List Around) (x : Around) (old new : Parted) (passed : Bool)
      → left ≡ next ++ x ∷ []
      → passed ≡ passes (chart_in s).tree test x.config → Sorts s x passed old new
      → Parting s test xs left old.yes.items old.no.items → Parting s test xs next new.yes.items new.no.items
  parting_step xs left next x old new passed e p q h = record { at = λ w a. after w (h.at w a) }
    where
      own : (w : World) → At s x w → passed ≡ passes (chart_in s).tree test w.marks
      own w a = p ∙ ap (λ m. passes (chart_in s).tree test m) (sym a.config)

      sort : (w : World) → At s x w → (b : Bool) → passed ≡ b → Apart s test new w
      sort w a true f = inl (sym (own w a) ∙ f, q.passes f w a)
      sort w a false f = inr (sym (own w a) ∙ f, q.fails f w a)

      one : (w : World) → Among s next w ⊎ At s x w → Among s next w ⊎ Apart s test new w
      one w (inl a) = inl a
      one w (inr a) = inr (sort w a passed refl)

      after : (w : World) → Among s left w ⊎ (((passes (chart_in s).tree test w.marks ≡ true) × Among s old.yes.items w)
          ⊎ ((passes (chart_in s).tree test w.marks ≡ false) × Among s old.no.items w))
          → Among s next w ⊎ Apart s test new w
      after w (inl a) = one w (popped s next x w (subst (λ ys. Among s ys w) e a))
      after w (inr (inl a)) = inr (inl (a.0, q.yes w a.1))
      after w (inr (inr a)) = inr (inr (a.0, q.no w a.1))

  pub parting_last : (xs left pass fail : List Around) → left ≡ [] → Parting s test xs left pass fail
      → Splits s test xs pass fail
  parting_last xs left pass fail e h = record { split = λ w a. after w (h.at w a) }
    where
      after : (w : World) → Among s left w ⊎ (((passes (chart_in s).tree test w.marks ≡ true) × Among s pass w)
          ⊎ ((passes (chart_in s).tree test w.marks ≡ false) × Among s fail w))
          → ((passes (chart_in s).tree test w.marks ≡ true) × Among s pass w)
          ⊎ ((passes (chart_in s).tree test w.marks ≡ false) × Among s fail w)
      after w (inl a) = absurd (no_world s w (subst (λ ys. Among s ys w) e a))
      after w (inr a) = a

-- a change of a world is one of its marks
turned_marks : (c : Chart) (t : Change) (w : World) → (turn c t w).marks ≡ turned c t w.marks
unfolding entered_in keep_in
turned_marks c (Clear s) w = refl
turned_marks c (Enter s) w = at (is_remembered c s)
  where
    at : (b : Bool) → (keep_if b c.tree s (record w { marks = with_mark s true w.marks })).marks
        ≡ marks_kept b c.tree s (with_mark s true w.marks)
    at true = refl
    at false = refl

turned_vals : (c : Chart) (t : Change) (w : World) → (turn c t w).vals ≡ w.vals
unfolding entered_in keep_in
turned_vals c (Clear s) w = refl
turned_vals c (Enter s) w = at (is_remembered c s)
  where
    at : (b : Bool) → (keep_if b c.tree s (record w { marks = with_mark s true w.marks })).vals ≡ w.vals
    at true = refl
    at false = refl

pub turned_leads : (s : Setting) (x y : Around) (t : Change) (outs new : List Around)
    → y.config ≡ turned (chart_in s) t x.config → y.spans.items ≡ x.spans.items → Adds s y outs new
    → Leads s (At s x) (λ b n depth. change (turn (chart_in s) t)) (λ _ w. Among s new w)
turned_leads s x y t outs new c b a = record {
  leads = λ k n depth w right h. a.has (turn (chart_in s) t w) (record {
    config = turned_marks (chart_in s) t w ∙ ap (turned (chart_in s) t) h.config ∙ sym c;
    data_in = subst (λ v. IsBox (chart_in s).names (always_of (cert_in s)) (box_of y.spans.items) v)
        (sym (turned_vals (chart_in s) t w))
        (subst (λ l. IsBox (chart_in s).names (always_of (cert_in s)) (box_of l) w.vals) (sym b) h.data_in);
  });
}
