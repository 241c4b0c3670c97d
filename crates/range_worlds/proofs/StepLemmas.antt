-- Assignments and guards in a set of worlds.
use Rattle.std.proofs.Common.{◌≡◌, ℕ, Bool, true, false, List, Ok, Err, Some, Result, refl, sym, ap, subst, ◌∙◌}
use Rattle.std.proofs.Common.{slice_index_or}
use Rattle.flow_base.specs.declared.fault.Fault.{Fault}
use Rattle.active_config.specs.Marks.{Configuration}
use Rattle.actions.specs.declared.expr.Value.{Value}
use Rattle.actions.specs.declared.expr.Value.TheVariants as values
use Rattle.actions.specs.Changes.{with_data, assigned_value, assigned_in, truth, truth_of}
use Rattle.actions.specs.Data.{Datum, assigned}
use Rattle.actions.specs.Exprs.{Expr}
use Rattle.actions.specs.Names.{Names}
use Rattle.actions.specs.Values.{Valued, value_of, flag_of}
use Rattle.actions.specs.Work.{Run, change_or_fault, flag_or_fault}
use Rattle.actions.specs.World.{World}
use Rattle.sos_rules.specs.Searches.{assign, guard_holds}
use Rattle.range_worlds.specs.declared.setting.Setting.{Setting}
use Rattle.range_worlds.specs.Leads.{chart_in, cert_in, At, Among, Adds, Leads}
use Rattle.range_worlds.proofs.Leading.{weaker_end}
use Rattle.range_worlds.specs.declared.steps.Guarded.{Guarded}
use Rattle.range_worlds.specs.Steps as spec
use Rattle.range_worlds.specs.Steps.{IsTold, IsNarrowed, IsPut, Takes, Sides, only}
use Rattle.range_rules.specs.declared.cert.Around.{Around}
use Rattle.range_rules.specs.Worlds.{EndsIn, MayBe, always_of}
use Rattle.range_spans.specs.Boxes.{box_of, IsBox, IsStored, sort_at, mode_at, number_kept, point, may_be}
use Rattle.range_spans.specs.Narrow.{Box, put, narrowed}
use Rattle.range_spans.specs.declared.kept.Kept.{Kept}
use Rattle.range_spans.specs.declared.known.Guess.{Guess}
use Rattle.range_spans.specs.declared.known.Known.{Known}
use Rattle.range_spans.specs.declared.known.Known.TheVariants.{Truth, Number, Nothing}
use Rattle.range_spans.specs.Known.{Has, Tells, guess}
use Rattle.range_spans.specs.declared.span.Span.{Span}
use Rattle.range_spans.proofs.BoxLemmas.{guess_holds, narrowed_box, number_stored, flag_stored}

-- where a guard is true and where it is false
abbrev pub sides : Setting → List Around → List Around → Bool → World → Type 0
sides s pass fail true w = Among s pass w
sides s pass fail false w = Among s fail w

module _ (s : Setting) where
  -- what is known of an expression, where a divisor of 0 is allowed
  zero_told : (g : Guess) (r : Valued) → (g.zero ≡ true → (cert_in s).zero ≡ true) → Tells g r
      → Tells (record { known = g.known; zero = (cert_in s).zero }) r
  zero_told g (Ok a) z h = h
  zero_told g (Err f) z h = (h.0, z h.1)

  pub is_told : (x : Around) (e : Expr) (g : Guess) (n : Names) (l : List Span) → n ≡ (chart_in s).names
      → l ≡ x.spans.items → g ≡ guess (sort_at n) (box_of l) x.config e
      → (g.zero ≡ true → (cert_in s).zero ≡ true) → IsTold s x e g.known
  is_told x e g n l q d is z =
      let own : g ≡ guess (sort_at (chart_in s).names) (box_of x.spans.items) x.config e =
      is ∙ ap (λ (m : Names). guess (sort_at m) (box_of l) x.config e) q
      ∙ ap (λ (m : List Span). guess (sort_at (chart_in s).names) (box_of m) x.config e) d in
      record {
        tells = λ w h. zero_told g (value_of w.vals w.marks e) z
            (subst (λ k. Tells k (value_of w.vals w.marks e)) (sym own)
            (subst (λ (m : Configuration). Tells (guess (sort_at (chart_in s).names) (box_of x.spans.items) m e)
            (value_of w.vals w.marks e)) h.config
            (guess_holds (chart_in s).names (always_of (cert_in s)) e (box_of x.spans.items) w.vals w.marks
            h.data_in)));
      }

  pub is_narrowed : (x y : Around) (e : Expr) (t : Bool) (n : Names) (l old : List Span) → n ≡ (chart_in s).names
      → l ≡ x.spans.items → old ≡ l → y.config ≡ x.config
      → box_of y.spans.items ≡ narrowed (sort_at n) e t (box_of old) → IsNarrowed s x e t y
  is_narrowed x y e t n l old q d o c b =
      let own : box_of y.spans.items ≡ narrowed (sort_at (chart_in s).names) e t (box_of x.spans.items) =
      b ∙ ap (λ (m : Names). narrowed (sort_at m) e t (box_of old)) q
      ∙ ap (λ (m : List Span). narrowed (sort_at (chart_in s).names) e t (box_of m)) (o ∙ d) in
      record {
        has = λ w h a is f. record {
          config = h.config ∙ sym c;
          data_in = subst (λ (k : Box). IsBox (chart_in s).names (always_of (cert_in s)) k w.vals) (sym own)
              (narrowed_box (chart_in s).names (always_of (cert_in s)) e t a (box_of x.spans.items) w.vals w.marks
              h.data_in
              is f);
        };
      }

  -- a stored value
  put_ends : (x y : Around) (v : ℕ) (span : Span) (over : Bool) (outs new : List Around) (w : World)
      (r : Result (List Datum) Fault) → At s x w → IsPut s x v span y → Adds s y outs new
      → (over ≡ true → slice_index_or (cert_in s).over.items v false ≡ true)
      → IsStored (chart_in s).names (always_of (cert_in s)) (put v span (box_of x.spans.items)) v over r
      → EndsIn (cert_in s) (λ _ u. Among s new u) (change_or_fault (with_data r w) w)
  put_ends x y v span over outs new w (Err f) h p a o i =
      (subst (λ g. MayBe (cert_in s) g) (sym i.0) (o i.1), h.data_in.at_each_moment)
  put_ends x y v span over outs new w (Ok vals) h p a o i =
      a.has (record w { vals = vals }) (record {
        config = h.config ∙ sym p.config;
        data_in = subst (λ (k : Box). IsBox (chart_in s).names (always_of (cert_in s)) k vals) (sym p.box) i;
      })

  pub number_taken : (x y : Around) (v : ℕ) (e : Expr) (span : Span) (frac : ℕ) (k : Kept) (same : Around)
      (outs new : List Around) (n : Names) → n ≡ (chart_in s).names → same.config ≡ x.config
      → same.spans.items ≡ x.spans.items → Some k ≡ number_kept (sort_at n v) (mode_at n v) span frac
      → (k.over ≡ true → slice_index_or (cert_in s).over.items v false ≡ true)
      → IsPut s same v k.span y → Adds s y outs new → Takes s x v e (Number span frac) outs new
  number_taken x y v e span frac k same outs new n q c b told o p a = record {
    kept = a.kept;
    ends = λ w h value r has. at w h value has;
  }
    where
      is : Some k ≡ number_kept (sort_at (chart_in s).names v) (mode_at (chart_in s).names v) span frac
      is = told ∙ ap (λ (m : Names). number_kept (sort_at m v) (mode_at m v) span frac) q

      here : (w : World) → At s x w → At s same w
      here w h = record {
        config = h.config ∙ sym c;
        data_in = subst (λ (l : List Span). IsBox (chart_in s).names (always_of (cert_in s)) (box_of l) w.vals)
            (sym b) h.data_in;
      }

      at : (w : World) → At s x w → (value : Value) → Has (Number span frac) value
          → EndsIn (cert_in s) (λ _ u. Among s new u) (change_or_fault (assigned_value v (Ok value) w) w)
      at w h (values.Flag t) has = absurd has
      at w h (values.Number m) has =
          put_ends same y v k.span k.over outs new w (assigned w.vals v (values.Number m)) (here w h) p a o
          (number_stored (chart_in s).names (always_of (cert_in s)) v span m k (box_of same.spans.items) w.vals has.1
          (subst (λ f. Some k ≡ number_kept (sort_at (chart_in s).names v) (mode_at (chart_in s).names v) span f)
          (sym has.0) is)
          p.inside p.declared (here w h).data_in)

  pub none_taken : (x : Around) (v : ℕ) (e : Expr) (t : Bool) (outs : List Around)
      → Takes s x v e (only t false) outs outs
  none_taken x v e t outs = record { kept = λ w h. h; ends = λ w h a is has. absurd (none t a has) }
    where
      none : (t : Bool) (a : Value) → Has (only t false) a → ⊥
      none true (values.Flag true) h = absurd cc
      none true (values.Flag false) h = absurd cc
      none false (values.Flag true) h = absurd cc
      none false (values.Flag false) h = absurd cc
      none true (values.Number m) h = h
      none false (values.Number m) h = h

  pub flag_taken : (x y part : Around) (v : ℕ) (e : Expr) (t may : Bool) (outs new : List Around)
      → IsNarrowed s x e t part → IsPut s part v (point t) y → Adds s y outs new → Takes s x v e (only t may) outs new
  flag_taken x y part v e t may outs new n p a = record {
    kept = a.kept;
    ends = λ w h value is has. at w h value is (own t value has);
  }
    where
      own : (t : Bool) (value : Value) → Has (only t may) value → value ≡ values.Flag t
      own true (values.Flag true) h = refl
      own true (values.Flag false) h = absurd cc
      own false (values.Flag true) h = absurd cc
      own false (values.Flag false) h = refl
      own true (values.Number m) h = absurd h
      own false (values.Number m) h = absurd h

      at : (w : World) → At s x w → (value : Value) → value_of w.vals w.marks e ≡ Ok value → value ≡ values.Flag t
          → EndsIn (cert_in s) (λ _ u. Among s new u) (change_or_fault (assigned_value v (Ok value) w) w)
      at w h value is q =
          let here = n.has w h value is (ap flag_of q) in
          subst (λ (z : Value). EndsIn (cert_in s) (λ _ u. Among s new u)
          (change_or_fault (assigned_value v (Ok z) w) w)) (sym q)
          (put_ends part y v (point t) false outs new w (assigned w.vals v (values.Flag t)) here p a (λ f. absurd cc)
          (flag_stored (chart_in s).names (always_of (cert_in s)) v t false (box_of part.spans.items) w.vals p.inside
          p.declared
          here.data_in))

  pub truth_taken : (x : Around) (v : ℕ) (e : Expr) (f t : Bool) (outs both new : List Around)
      → Takes s x v e (only false f) outs both → Takes s x v e (only true t) both new
      → Takes s x v e (Truth f t) outs new
  truth_taken x v e f t outs both new l r = record {
    kept = λ w h. r.kept w (l.kept w h);
    ends = λ w h a is has. at w h a is has;
  }
    where
      more : (w : World) (q : Run (Unit {0})) → EndsIn (cert_in s) (λ _ u. Among s both u) q
          → EndsIn (cert_in s) (λ _ u. Among s new u) q
      more w q h =
          weaker_end (cert_in s) (λ _ u. Among s both u) (λ _ u. Among s new u) q (λ _ u g. r.kept u g) h

      at : (w : World) → At s x w → (a : Value) → value_of w.vals w.marks e ≡ Ok a → Has (Truth f t) a
          → EndsIn (cert_in s) (λ _ u. Among s new u) (change_or_fault (assigned_value v (Ok a) w) w)
      at w h (values.Flag true) is has = r.ends w h (values.Flag true) is has
      at w h (values.Flag false) is has = more w _ (l.ends w h (values.Flag false) is has)
      at w h (values.Number m) is has = absurd has

  -- the whole assignment
  assign_ends : (x : Around) (v : ℕ) (e : Expr) (k : Known) (outs new : List Around) (w : World) (r : Valued) → At s x w
      → Tells (record { known = k; zero = (cert_in s).zero }) r → value_of w.vals w.marks e ≡ r
      → Takes s x v e k outs new
      → EndsIn (cert_in s) (λ _ u. Among s new u) (change_or_fault (assigned_value v r w) w)
  assign_ends x v e k outs new w (Err f) h t is a =
      (subst (λ g. MayBe (cert_in s) g) (sym t.0) t.1, h.data_in.at_each_moment)
  assign_ends x v e k outs new w (Ok value) h t is a = a.ends w h value is t

  pub assign_leads : (x : Around) (v : ℕ) (e : Expr) (k : Known) (outs new : List Around) → IsTold s x e k
      → Takes s x v e k outs new → Leads s (At s x) (λ b n depth. assign v e) (λ _ w. Among s new w)
  unfolding assigned_in
  assign_leads x v e k outs new t a = record {
    leads = λ b n depth w right h.
        assign_ends x v e k outs new w (value_of w.vals w.marks e) h (t.tells w h) refl a;
  }

  -- the whole guard
  may_own : (k : Known) (a : Value) → Has k a → may_be (flag_of a) k ≡ true
  may_own (Truth f t) (values.Flag b) h = h
  may_own (Truth f t) (values.Number m) h = absurd h
  may_own (Number q frac) a h = refl
  may_own Nothing a h = refl

  guard_ends : (x : Around) (e : Expr) (k : Known) (pass fail newyes newno : List Around) (w : World) (r : Valued)
      → At s x w → Tells (record { known = k; zero = (cert_in s).zero }) r → value_of w.vals w.marks e ≡ r
      → Sides s x e true (may_be true k) pass newyes → Sides s x e false (may_be false k) fail newno
      → EndsIn (cert_in s) (sides s newyes newno) (flag_or_fault (truth r) w)
  guard_ends x e k pass fail newyes newno w (Err f) h t is p q =
      (subst (λ g. MayBe (cert_in s) g) (sym t.0) t.1, h.data_in.at_each_moment)
  guard_ends x e k pass fail newyes newno w (Ok a) h t is p q = at (flag_of a) refl
    where
      at : (b : Bool) → flag_of a ≡ b → sides s newyes newno (flag_of a) w
      at true f =
          subst (λ b. sides s newyes newno b w) (sym f)
          (p.has w h a is f (subst (λ b. may_be b k ≡ true) f (may_own k a t)))
      at false f =
          subst (λ b. sides s newyes newno b w) (sym f)
          (q.has w h a is f (subst (λ b. may_be b k ≡ true) f (may_own k a t)))

  pub guard_leads : (x : Around) (e : Expr) (k : Known) (pass fail newyes newno : List Around) (f g : Bool)
      → IsTold s x e k
      → f ≡ may_be true k → g ≡ may_be false k → Sides s x e true f pass newyes → Sides s x e false g fail newno
      → Leads s (At s x) (λ b n depth. guard_holds (Some e)) (sides s newyes newno)
  unfolding truth_of
  guard_leads x e k pass fail newyes newno f g t a b p q = record {
    leads = λ m n depth w right h.
        guard_ends x e k pass fail newyes newno w (value_of w.vals w.marks e) h (t.tells w h) refl
        (subst (λ c. Sides s x e true c pass newyes) a p) (subst (λ c. Sides s x e false c fail newno) b q);
  }

  pub sides_are : (r : Guarded) (b : Bool) (w : World) → sides s r.yes.items r.no.items b w → spec.guard_ends s r b w
  sides_are r true w h = h
  sides_are r false w h = h

  -- sides of a guard
  pub none_sided : (x : Around) (e : Expr) (t : Bool) (outs : List Around) → Sides s x e t false outs outs
  none_sided x e t outs = record { kept = λ w h. h; has = λ w h a is f may. absurd cc }

  pub part_sided : (x part : Around) (e : Expr) (t may : Bool) (outs new : List Around) → IsNarrowed s x e t part
      → Adds s part outs new → Sides s x e t may outs new
  part_sided x part e t may outs new n a = record { kept = a.kept; has = λ w h v is f m. a.has w (n.has w h v is f) }

  pub sides_more : (pass fail newyes newno : List Around) → ((w : World) → Among s pass w → Among s newyes w)
      → ((w : World) → Among s fail w → Among s newno w) → (b : Bool) (w : World) → sides s pass fail b w
      → sides s newyes newno b w
  sides_more pass fail newyes newno p q true w h = p w h
  sides_more pass fail newyes newno p q false w h = q w h
