-- What the cells of a certificate say of sent events.
use Rattle.std.proofs.Common.{◌≡◌, ◌⊎◌, inl, inr, nat_le, ℕ, zero, suc, Bool, true, false, List, Option, Some, None}
use Rattle.std.proofs.Common.{Ok, Err, refl, sym, ap, subst, ◌∙◌, ◌<◌, ◌≤◌, ◌+◌, get_or, slice_get, length, [], ◌∷◌}
use Rattle.std.proofs.Common.{arith, if◌then◌else◌}
use Rattle.std.proofs.lemmas.Bool.Decides.{nat_tests}
use Rattle.flow_base.specs.declared.bounds.Bounds.{Bounds}
use Rattle.flow_base.specs.declared.fault.Fault.TheVariants as faults
use Rattle.actions.specs.declared.event.Event.TheVariants.{Named}
use Rattle.actions.specs.Changes.{paid_in}
use Rattle.actions.specs.Work.{Work, ◌>>=◌, ◌>>◌, nothing, fault, test, choose}
use Rattle.actions.specs.Work.{change_or_fault}
use Rattle.actions.specs.World.{World}
use Rattle.sos_rules.specs.Searches.{pay, receiver, receives}
use Rattle.range_blocks.specs.Cells.{IsFound, Sends, hearing}
use Rattle.range_blocks.specs.Ends.{rules_in}
use Rattle.range_blocks.proofs.Combining.{by_cases, leads_after, leads_give, leads_split, leads_deeper}
use Rattle.range_rules.specs.declared.cert.Around.{Around}
use Rattle.range_rules.specs.declared.cert.Cell.{Cell}
use Rattle.range_rules.specs.Worlds.{EndsIn, AreAlways, always_of}
use Rattle.range_spans.specs.Boxes.{box_of, IsBox}
use Rattle.range_worlds.specs.declared.configs.Test.TheVariants.{On}
use Rattle.range_worlds.specs.declared.setting.Setting.{Setting}
use Rattle.range_worlds.specs.Leads.{AreBelow, chart_in, cert_in, At, Among, Adds, Unites, Works, Leads, now_at}
use Rattle.range_worlds.specs.Splits.{Splits}
use Rattle.range_worlds.proofs.Leading.{weaker_end, leads_more}

-- an item that a list has at a place
pub got_item : {A : Type 0} (xs : List A) (i : ℕ) (x y : A) → x ≡ get_or xs i x → slice_get xs i ≡ Some y → y ≡ x
got_item [] i x y e g = absurd cc
got_item (z ∷ xs) zero x y e g = let f : z ≡ y = cc in sym f ∙ sym e
got_item (z ∷ xs) (suc i) x y e g = got_item xs i x y e g

got_within : {A : Type 0} (xs : List A) (i : ℕ) (y : A) → slice_get xs i ≡ Some y → i < length xs
got_within [] i y g = absurd cc
got_within (z ∷ xs) zero y g = omega arith
got_within (z ∷ xs) (suc i) y g = let lt = got_within xs i y g in omega arith

pub get_slice : {A : Type 0} (xs : List A) (i : ℕ) (x : A) → i < length xs → x ≡ get_or xs i x → slice_get xs i ≡ Some x
get_slice [] i x lt e = absurd (omega arith)
get_slice (z ∷ xs) zero x lt e = ap Some (sym e)
get_slice (z ∷ xs) (suc i) x lt e = get_slice xs i x (omega arith) e

-- the first sets of a list were put into another
pub record Copying (s : Setting) (xs ends : List Around) (i : ℕ) (both : List Around) : Type 0 where
  pub first : (w : World) → Among s xs w → Among s both w
  pub second : (k : ℕ) (y : Around) → k < i → slice_get ends k ≡ Some y → (w : World) → At s y w → Among s both w

module _ (s : Setting) where
  pub copying_first : (xs ends both : List Around) → both ≡ xs → Copying s xs ends 0 both
  copying_first xs ends both e = record {
    first = λ w h. subst (λ l. Among s l w) (sym e) h;
    second = λ k y lt g w h. absurd (omega arith);
  }

  pub copying_step : (xs ends both more : List Around) (i : ℕ) (x same : Around) → x ≡ get_or ends i x
      → same.config ≡ x.config → same.spans.items ≡ x.spans.items → Adds s same both more
      → Copying s xs ends i both → Copying s xs ends (i + 1) more
  copying_step xs ends both more i x same e c v a h = record {
    first = λ w g. a.kept w (h.first w g);
    second = λ k y lt g w at. one k y (below_or k i lt) g w at;
  }
    where
      here : (y : Around) → y ≡ x → (w : World) → At s y w → At s same w
      here y q w at =
          let own : At s x w = subst (λ z. At s z w) q at in record {
            config = own.config ∙ sym c;
            data_in =
                subst (λ l. IsBox (chart_in s).names (always_of (cert_in s)) (box_of l) w.vals) (sym v) own.data_in;
          }

      below_or : (k i : ℕ) → k < i + 1 → (k < i) ⊎ (k ≡ i)
      below_or k i lt = at (nat_le i k) refl
        where
          at : (b : Bool) → nat_le i k ≡ b → (k < i) ⊎ (k ≡ i)
          at true q = inr (grind (arith, nat_tests))
          at false q = inl (grind (arith, nat_tests))

      one : (k : ℕ) (y : Around) → (k < i) ⊎ (k ≡ i) → slice_get ends k ≡ Some y → (w : World) → At s y w
          → Among s more w
      one k y (inl lt) g w at = a.kept w (h.second k y lt g w at)
      one k y (inr q) g w at =
          a.has w (here y (got_item ends i x y e (subst (λ j. slice_get ends j ≡ Some y) q g)) w at)

  pub copying_last : (xs ends both : List Around) (i : ℕ) → length ends ≤ i → Copying s xs ends i both
      → Unites s xs ends both
  copying_last xs ends both i le h = record {
    left = h.first;
    right = λ w g. let lt = got_within ends g.place g.set g.is in
        h.second g.place g.set (omega arith) g.is w g.stands;
  }

  -- steps are paid in the same set
  paid_ends : (xs : List Around) (w : World) (y : Bool) → Among s xs w
      → EndsIn (cert_in s) (λ _ v. Among s xs v)
      (change_or_fault (if y then Err faults.Steps else Ok (record w { used = w.used + 1 })) w)
  paid_ends xs w true h = (tt, h.stands.data_in.at_each_moment)
  paid_ends xs w false h = record {
    place = h.place;
    set = h.set;
    is = h.is;
    stands = record { config = h.stands.config; data_in = h.stands.data_in };
  }

  pub pay_leads : (xs : List Around) → Leads s (Among s xs) (λ b n depth. pay b) (λ _ w. Among s xs w)
  unfolding paid_in
  pay_leads xs = record { leads = λ b n depth w right h. paid_ends xs w (nat_le b.steps w.used) h }

  -- the processing that a cell is for
  heard_ends : (state event : ℕ) (x : Around) (ys : List Around) (b : Bounds) (n depth : ℕ) (w : World) (cell : Cell)
      → cell.state ≡ state → cell.event ≡ event → ((v : World) → Among s cell.ends.items v → Among s ys v)
      → EndsIn (cert_in s) (λ _ v. Among s cell.ends.items v)
      ((rules_in s b n).process cell.state (now_at (Named cell.event) depth) w)
      → EndsIn (cert_in s) (λ _ v. Among s ys v) ((rules_in s b n).process state (now_at (Named event) depth) w)
  heard_ends state event x ys b n depth w cell p q more h =
      weaker_end (cert_in s) (λ _ v. Among s cell.ends.items v) (λ _ v. Among s ys v)
      ((rules_in s b n).process state (now_at (Named event) depth) w) (λ _ v g. more v g)
      (subst (λ (e : ℕ). EndsIn (cert_in s) (λ _ v. Among s cell.ends.items v)
      ((rules_in s b n).process state (now_at (Named e) depth) w)) q
      (subst (λ (a : ℕ). EndsIn (cert_in s) (λ _ v. Among s cell.ends.items v)
      ((rules_in s b n).process a (now_at (Named cell.event) depth) w)) p h))

  -- the cell that was found
  pub cell_leads : (state event : ℕ) (x : Around) (i : ℕ) (ends outs ys : List Around) (f : IsFound s state event x i)
      → ends ≡ f.cell.ends.items → Unites s outs ends ys
      → Leads s (At s x) (hearing s state event) (λ _ w. Among s ys w)
  cell_leads state event x i ends outs ys f same u = record { leads = at }
    where
      at : (b : Bounds) (n depth : ℕ) (w : World) → AreBelow s b n → At s x w
          → EndsIn (cert_in s) (λ _ v. Among s ys v) (hearing s state event b n depth w)
      at b zero depth w right h = tt
      at b (suc n) depth w right h =
          heard_ends state event x ys b n depth w f.cell f.fits.state_is f.fits.event_is
          (λ v g. u.right v (subst (λ l. Among s l v) (sym same) g))
          (right n (omega arith) i f.cell f.is depth w (f.fits.from.has w h))

  -- where an event is sent
  abbrev sending : ℕ → Option ℕ → Works (Unit {0})
  sending e to b n depth =
      choose (nat_le b.depth depth) (fault faults.Depth)
      (pay b >> (test (receives to)
      >>= (λ heard. choose heard (hearing s (receiver to) e b n (suc depth) >> nothing) nothing)))

  -- too deep, or not
  deep_ends : (from : World → Type 0) (work : Work (Unit {0})) (ends : World → Type 0) (w : World) (deep : Bool)
      → AreAlways (cert_in s) w → EndsIn (cert_in s) (λ _ v. ends v) (work w)
      → EndsIn (cert_in s) (λ _ v. ends v) (choose deep (fault faults.Depth) work w)
  deep_ends from work ends w true a h = (tt, a)
  deep_ends from work ends w false a h = h

  pub send_leads : (xs : List Around) (e : ℕ) (to : Option ℕ) (ys : List Around)
      → Leads s (Among s xs) (λ b n depth. test (receives to)
      >>= (λ heard. choose heard (hearing s (receiver to) e b n (suc depth) >> nothing) nothing)) (λ _ w. Among s ys w)
      → Sends s xs e to ys
  send_leads xs e to ys l = record {
    sends = λ now.
        by_cases s (Among s xs) (λ b n depth. (rules_in s b n).send e to (now_at now depth)) (sending e to)
        (λ _ w. Among s ys w) (λ b depth w. refl) (λ b n depth w. refl) sent;
  }
    where
      paid : Leads s (Among s xs) (λ b n depth. pay b >> (test (receives to)
          >>= (λ heard. choose heard (hearing s (receiver to) e b n (suc depth) >> nothing) nothing)))
          (λ _ w. Among s ys w)
      paid = leads_after s (λ _ w. Among s ys w) (Among s xs) (λ b n depth. pay b) (λ b n depth. test (receives to)
          >>= (λ heard. choose heard (hearing s (receiver to) e b n (suc depth) >> nothing) nothing))
          (λ _ w. Among s xs w) (pay_leads xs) (λ _. l)

      sent : Leads s (Among s xs) (sending e to) (λ _ w. Among s ys w)
      sent = record {
        leads = λ b n depth w right h.
            deep_ends (Among s xs) _ (λ v. Among s ys v) w (nat_le b.depth depth) h.stands.data_in.at_each_moment
            (paid.leads b n depth w right h);
      }

  -- the receiver is processed, and its answer is dropped
  heard_deeper : (xs ys : List Around) (state e : ℕ)
      → Leads s (Among s xs) (hearing s state e) (λ _ w. Among s ys w)
      → Leads s (Among s xs) (λ b n depth. hearing s state e b n (suc depth) >> nothing) (λ _ w. Among s ys w)
  heard_deeper xs ys state e l =
      leads_after s (λ _ w. Among s ys w) (Among s xs) (λ b n depth. hearing s state e b n (suc depth))
      (λ b n depth. nothing) (λ _ w. Among s ys w)
      (leads_deeper s (λ _ w. Among s ys w) (Among s xs) (hearing s state e) l)
      (λ _. leads_give s (λ _ w. Among s ys w) (Among s ys) tt (λ w h. h))

  -- an event that is sent to the whole chart
  pub sent_to_all : (xs ys : List Around) (e : ℕ) → Leads s (Among s xs) (hearing s 0 e) (λ _ w. Among s ys w)
      → Sends s xs e None ys
  sent_to_all xs ys e l = send_leads xs e None ys (record {
    leads = λ b n depth w right h. (heard_deeper xs ys 0 e l).leads b n depth w right h;
  })

  -- an event that is sent to a state
  pub sent_to_one : (xs pass fail ends all : List Around) (e state : ℕ) → Splits s (On state) xs pass fail
      → Leads s (Among s pass) (hearing s state e) (λ _ w. Among s ends w) → Unites s ends fail all
      → Sends s xs e (Some state) all
  sent_to_one xs pass fail ends all e state sp l u =
      send_leads xs e (Some state) all
      (leads_split s (λ _ w. Among s all w) (On state) (receives (Some state)) xs pass fail
      (λ b n depth. hearing s state e b n (suc depth) >> nothing) (λ b n depth. nothing) (λ w. refl) sp
      (leads_more s _ (Among s pass) (λ _ w. Among s ends w) (λ _ w. Among s all w) (λ _ w h. u.left w h)
      (heard_deeper pass ends state e l))
      (leads_give s (λ _ w. Among s all w) (Among s fail) tt (λ w h. u.right w h)))
