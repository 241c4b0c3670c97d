-- Sets that are inside others, and cells that are closed.
use Rattle.std.proofs.Common.{◌≡◌, ◌<◌, ◌≤◌, ◌+◌, ◌⊎◌, inl, inr, nat_le, ℕ, zero, suc, Bool, true, false, List, [], ◌∷◌, ◌++◌}
use Rattle.std.proofs.Common.{Some, length, slice_get, refl, sym, subst, ◌∙◌, arith}
use Rattle.std.proofs.lemmas.Bool.Decides.{nat_tests}
use Rattle.actions.specs.declared.event.Event.{Event}
use Rattle.actions.specs.declared.event.Event.TheVariants.{Named}
use Rattle.actions.specs.World.{World}
use Rattle.sos_rules.specs.Parts.{Went, Stay, Out}
use Rattle.range_blocks.specs.Ends.{rules_in}
use Rattle.range_check.specs.declared.processing.Processed.{Processed}
use Rattle.range_check.specs.declared.processing.Way.{Way}
use Rattle.range_check.specs.Checks.{Accepts, AllEnds, Processes, IsCellClosed, AreCellsClosed}
use Rattle.range_check.specs.Went.{IsOut, went_ends}
use Rattle.range_check.proofs.WayLemmas.{no_way, out_popped}
use Rattle.range_rules.specs.declared.cert.Around.{Around}
use Rattle.range_rules.specs.declared.cert.Cell.{Cell}
use Rattle.range_rules.specs.Worlds.{always_of}
use Rattle.range_spans.specs.Boxes.{box_of, IsBox}
use Rattle.range_worlds.specs.declared.setting.Setting.{Setting}
use Rattle.range_worlds.specs.Inside.{HasAll}
use Rattle.range_worlds.specs.Leads.{At, Among, Adds, Keeps, Unites, Leads, chart_in, cert_in, now_at}
use Rattle.range_worlds.proofs.Leading.{leads_more, leads_from}

-- a number below the next one
pub below_or : (k i : ℕ) → k < i + 1 → (k < i) ⊎ (k ≡ i)
below_or k i lt = at (nat_le i k) refl
  where
    at : (b : Bool) → nat_le i k ≡ b → (k < i) ⊎ (k ≡ i)
    at true q = inr (grind (arith, nat_tests))
    at false q = inl (grind (arith, nat_tests))

-- what is at a place
pub at_place : {A : Type 0} (xs : List A) (i : ℕ) (x : A) → slice_get xs i ≡ Some x → i < length xs
at_place [] i x e = absurd cc
at_place (z ∷ xs) zero x e = omega arith
at_place (z ∷ xs) (suc i) x e = let lt = at_place xs i x e in omega arith

module _ (s : Setting) where
  pub accepted_at : (y x : Around) (ends : List Around) (i : ℕ) → slice_get ends i ≡ Some x → HasAll s x y
      → Accepts s ends y
  accepted_at y x ends i e h = record {
    has = λ w g. record { place = i; set = x; is = e; stands = h.has w g };
  }

  -- the first sets of a list are accepted
  pub record Accepted (ys : List Around) (i : ℕ) (ends : List Around) : Type 0 where
    pub first : (k : ℕ) (y : Around) → k < i → slice_get ys k ≡ Some y → Accepts s ends y

  pub accepted_none : (ys ends : List Around) → Accepted ys 0 ends
  accepted_none ys ends = record { first = λ k y lt e. absurd (omega arith) }

  pub accepted_next : (ys ends : List Around) (i : ℕ) (x : Around) → slice_get ys i ≡ Some x → Accepts s ends x
      → Accepted ys i ends → Accepted ys (i + 1) ends
  accepted_next ys ends i x e a h = record { first = λ k y lt g. one k y (below_or k i lt) g }
    where
      one : (k : ℕ) (y : Around) → (k < i) ⊎ (k ≡ i) → slice_get ys k ≡ Some y → Accepts s ends y
      one k y (inl lt) g = h.first k y lt g
      one k y (inr q) g =
          let f : slice_get ys i ≡ Some y = subst (λ j. slice_get ys j ≡ Some y) q g in
          let same : x ≡ y = cc in subst (λ z. Accepts s ends z) same a

  pub accepted_all : (ys ends : List Around) (i : ℕ) → length ys ≤ i → Accepted ys i ends → Keeps s ys ends
  accepted_all ys ends i le h = record {
    kept = λ w g. let lt = at_place ys g.place g.set g.is in
        (h.first g.place g.set (omega arith) g.is).has w g.stands;
  }

  -- all ends of a processing
  pub record Ending (processed : Processed) (left : List Way) (all : List Around) : Type 0 where
    pub stay : (w : World) → Among s processed.stay.items w → Among s all w
    pub outs : (h : ℕ) (w : World) → IsOut s processed.outs.items h w → IsOut s left h w ⊎ Among s all w

  pub ending_first : (processed : Processed) (left : List Way) (all : List Around) → left ≡ processed.outs.items
      → all ≡ processed.stay.items → Ending processed left all
  ending_first processed left all e q = record {
    stay = λ w h. subst (λ l. Among s l w) (sym q) h;
    outs = λ h w o. inl (subst (λ l. IsOut s l h w) (sym e) o);
  }

  pub ending_step : (processed : Processed) (left next : List Way) (x : Way) (all more : List Around)
      → left ≡ next ++ x ∷ [] → Unites s all x.worlds.items more → Ending processed left all
      → Ending processed next more
  ending_step processed left next x all more e u h = record {
    stay = λ w g. u.left w (h.stay w g);
    outs = λ k w o. after k w (h.outs k w o);
  }
    where
      one : (k : ℕ) (w : World) → IsOut s next k w ⊎ ((x.home ≡ k) × Among s x.worlds.items w)
          → IsOut s next k w ⊎ Among s more w
      one k w (inl o) = inl o
      one k w (inr o) = inr (u.right w o.1)

      after : (k : ℕ) (w : World) → IsOut s left k w ⊎ Among s all w → IsOut s next k w ⊎ Among s more w
      after k w (inl o) = one k w (out_popped s next left x e k w o)
      after k w (inr o) = inr (u.left w o)

  pub ending_last : (processed : Processed) (left : List Way) (all : List Around) → left ≡ []
      → Ending processed left all → AllEnds s processed all
  ending_last processed left all e h = record { ends = at }
    where
      out : (k : ℕ) (w : World) → IsOut s left k w ⊎ Among s all w → Among s all w
      out k w (inl o) = absurd (no_way s k w (subst (λ l. IsOut s l k w) e o))
      out k w (inr o) = o

      at : (went : Went) (w : World) → went_ends s processed went w → Among s all w
      at Stay w g = h.stay w g
      at (Out home) w g = out home w (h.outs home w g)

  pub all_processed : (x same : Around) (none xs ys : List Around) (state : ℕ) (now : Event) (r : Processed)
      → same.config ≡ x.config → same.spans.items ≡ x.spans.items → Adds s same none xs
      → Leads s (Among s xs) (λ b n depth. (rules_in s b n).process state (now_at now depth)) (went_ends s r)
      → AllEnds s r ys → Processes s x state now ys
  all_processed x same none xs ys state now r c v a l e = record {
    leads = leads_from s (λ b n depth. (rules_in s b n).process state (now_at now depth)) (Among s xs) (At s x)
        (λ _ w. Among s ys w) (λ w h. a.has w (there w h))
        (leads_more s (λ b n depth. (rules_in s b n).process state (now_at now depth)) (Among s xs) (went_ends s r)
        (λ _ w. Among s ys w) e.ends l);
  }
    where
      there : (w : World) → At s x w → At s same w
      there w h = record {
        config = h.config ∙ sym c;
        data_in = subst (λ l. IsBox (chart_in s).names (always_of (cert_in s)) (box_of l) w.vals) (sym v) h.data_in;
      }

  pub processes_more : (x : Around) (ys ends : List Around) (state : ℕ) (now : Event) → Processes s x state now ys
      → Keeps s ys ends → Processes s x state now ends
  processes_more x ys ends state now p k = record {
    leads = leads_more s (λ b n depth. (rules_in s b n).process state (now_at now depth)) (At s x)
        (λ _ w. Among s ys w) (λ _ w. Among s ends w) (λ _ w h. k.kept w h) p.leads;
  }

  -- cells
  pub cell_closed : (cell : Cell) → Processes s cell.from cell.state (Named cell.event) cell.ends.items
      → IsCellClosed s cell
  cell_closed cell p = record {
    closed = λ b n right depth w h. p.leads.leads b (suc n) depth w
        (λ m lt i other is. right m (omega arith) i other is) h;
  }

  pub no_cells_closed : AreCellsClosed s 0
  no_cells_closed = record { closed = λ i cell lt e. absurd (omega arith) }

  pub next_cells_closed : (i : ℕ) (x : Cell) → slice_get (cert_in s).cells.items i ≡ Some x → IsCellClosed s x
      → AreCellsClosed s i → AreCellsClosed s (i + 1)
  next_cells_closed i x e a h = record { closed = λ k y lt g. one k y (below_or k i lt) g }
    where
      one : (k : ℕ) (y : Cell) → (k < i) ⊎ (k ≡ i) → slice_get (cert_in s).cells.items k ≡ Some y → IsCellClosed s y
      one k y (inl lt) g = h.closed k y lt g
      one k y (inr q) g =
          let f : slice_get (cert_in s).cells.items i ≡ Some y =
          subst (λ j. slice_get (cert_in s).cells.items j ≡ Some y) q g in
          let same : x ≡ y = cc in subst (λ z. IsCellClosed s z) same a
