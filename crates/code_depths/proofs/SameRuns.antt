-- Code whose sends lead elsewhere where no depth is left for them has the same runs.
use Rattle.std.proofs.Common.{◌≡◌, ℕ, zero, suc, ◌≤◌, ◌<◌, Bool, true, false, List, [], ◌∷◌, Option, Some, None}
use Rattle.std.proofs.Common.{refl, sym, ap, ◌∙◌, subst, arith, option_map, unwrap_or}
use Rattle.std.specs.Prelude.{◌↔◌, nat_le, if◌then◌else◌}
use Rattle.std.proofs.lemmas.Bool.Decides.{nat_tests}
use Rattle.flow_base.specs.declared.bounds.Bounds.{Bounds}
use Rattle.active_config.specs.Marks.{is_on}
use Rattle.actions.specs.Changes.{paid_in}
use Rattle.actions.specs.Runs.{Moment, EventWithInputs}
use Rattle.actions.specs.World.{World}
use Rattle.actions.specs.Work.{Now}
use Rattle.code_language.specs.Code.{Code, fetch}
use Rattle.code_language.specs.Instrs.{Instr, Assign, Emit, Mark, Clear, Keep, Unless, Skip, Call, Visit, Send, SendTo}
use Rattle.code_language.specs.Instrs.{Play, Home, Begin, Pass, Ret}
use Rattle.code_language.specs.Machine.{Program, Frame, CodeState, noted, later}
use Rattle.code_language.specs.Machine.{sent, Next, Goes, Stops, if_ok, if_deep}
use Rattle.code_language.specs.Machine.{play_next, act, act_on, step, and_then, run}
use Rattle.code_language.specs.Reactions.{program_of, start_machine, react_machine, CodeRun}
use Rattle.code_language.specs.WellFormed.{IsCode}
use Rattle.code_shrink.specs.RunsAlike.{with_names}
use Rattle.code_shrink.proofs.Endings.{same_runs}
use Rattle.code_shrink.proofs.RunsAlike.{alike_itself, alike_runs}
use Rattle.code_shrink.proofs.Simulation.{LeadAlike}
use Rattle.code_depths.specs.Depths.{level_of, AreLevels, instead, led, cut_code, IsCut, AsItWas, ByLevels}
use Rattle.code_depths.specs.Depths.{HasSameRunsUnder}
use Rattle.code_depths.proofs.Cuts.{fetch_cut}
use Rattle.code_depths.proofs.Shallow.{AreShallow, IsShallow, StaysShallow, step_stays, first_shallow}

-- a send fails wherever it leads, where no depth is left for it
send_same : (depth q level : ℕ) (d : ℕ) (w : World) (go : ℕ → Next) (p : ℕ) → level ≤ d
    → if_deep (nat_le depth d) w (go (unwrap_or (instead depth q level) p)) ≡ if_deep (nat_le depth d) w (go p)
send_same depth q level d w go p le = by (nat_le depth level) refl
  where
    used : depth ≤ level → (u : Bool) → nat_le depth d ≡ u → if_deep u w (go q) ≡ if_deep u w (go p)
    used less true e = refl
    used less false e = absurd (let h : d < depth = grind (arith, nat_tests, e) in omega (arith, h, less, le))

    by : (t : Bool) → nat_le depth level ≡ t
        → if_deep (nat_le depth d) w (go (unwrap_or (if t then Some q else None) p)) ≡ if_deep (nat_le depth d) w (go p)
    by true e = used (grind (arith, nat_tests, e)) (nat_le depth d) refl
    by false e = refl

module _ (k : Code) (b : Bounds) (levels : List ℕ) (q : ℕ) (ok : AreLevels levels k.procedures) where
  -- the code
  abbrev C : Program
  C = program_of k b

  -- the code that was cut
  abbrev cut : Code
  cut = cut_code b.depth levels q k

  -- what the machine runs of it
  abbrev C' : Program
  C' = program_of cut b

  -- ---- a step

  -- `Play`
  play_same : (o : Option (ℕ × ℕ)) (w : World) (now : Now) (r : ℕ) (f : Frame) (fs : List Frame)
      → play_next C' o w now r f fs ≡ play_next C o w now r f fs
  play_same None w now r f fs = refl
  play_same (Some x) w now r f fs = refl

  -- whatever instruction stands at the place
  act_same : (level : ℕ) (o : Option Instr) (w : World) (now : Now) (r : ℕ) (f : Frame) (fs : List Frame)
      → level ≤ now.depth
      → act C' (option_map (led (instead b.depth q level)) o) w now r f fs ≡ act C o w now r f fs
  unfolding led
  act_same level None w now r f fs le = refl
  act_same level (Some (Assign v e)) w now r f fs le = refl
  act_same level (Some (Emit e)) w now r f fs le = refl
  act_same level (Some (Mark x)) w now r f fs le = refl
  act_same level (Some (Clear x)) w now r f fs le = refl
  act_same level (Some (Keep x)) w now r f fs le = refl
  act_same level (Some (Unless j test)) w now r f fs le = refl
  act_same level (Some (Skip j)) w now r f fs le = refl
  act_same level (Some (Call p tag)) w now r f fs le = refl
  act_same level (Some (Visit p tag)) w now r f fs le = refl
  act_same level (Some (Send e)) w now r f fs le = refl
  act_same level (Some (SendTo e x p)) w now r f fs le =
      send_same b.depth q level now.depth w
      (λ to. if_ok (paid_in b w) w (λ v. Goes (sent (is_on x v.marks) e to v now r f fs))) p le
  act_same level (Some Play) w now r f fs le = play_same (noted (later f.cursor (suc f.base)) (f ∷ fs)) w now r f fs
  act_same level (Some (Home x)) w now r f fs le = refl
  act_same level (Some Begin) w now r f fs le = refl
  act_same level (Some Pass) w now r f fs le = refl
  act_same level (Some (Ret x)) w now r f fs le = refl

  -- a step
  act_on_same : (w : World) (now : Now) (r : ℕ) (fs : List Frame) → AreShallow levels now.depth fs
      → act_on C' w now r fs ≡ act_on C w now r fs
  act_on_same w now r [] low = refl
  act_on_same w now r (f ∷ fs) low =
      ap (λ o. act C' o w now r f fs) (fetch_cut b.depth levels q k.procedures f.proc f.place)
      ∙ act_same (level_of levels f.proc) (fetch k.procedures f.proc f.place) w now r f fs low.0

  -- ---- a run

  -- after the same step the rest of both runs is the same
  rest_same : (n : ℕ) (o : Next) → StaysShallow levels o
      → ((m : CodeState) → IsShallow levels m → run C' n m ≡ run C n m)
      → and_then o (run C' n) ≡ and_then o (run C n)
  rest_same n (Goes m) low go = go m low
  rest_same n (Stops w x) low go = refl

  -- both runs are the same
  run_same : (n : ℕ) (m : CodeState) → IsShallow levels m → run C' n m ≡ run C n m
  run_same zero m low = refl
  run_same (suc n) m low =
      ap (λ o. and_then o (run C' n)) (act_on_same m.world m.now m.result m.frames low)
      ∙ rest_same n (step C m) (step_stays levels C ok m low) (λ m' h. run_same n m' h)

  -- so both lead to the same moments
  leads_alike : (m : CodeState) → IsShallow levels m → LeadAlike C C' m m
  leads_alike m low = record {
    on = λ moment h. record { steps = h.steps; ends = run_same h.steps m low ∙ h.ends };
    back = λ moment h. record { steps = h.steps; ends = sym (run_same h.steps m low) ∙ h.ends };
  }

-- both run alike: a start and a reaction begin with procedures of level 0
by_levels : (k : Code) (b : Bounds) (levels : List ℕ) (q : ℕ) → AreLevels levels k.procedures
    → IsCode (cut_code b.depth levels q k) → HasSameRunsUnder b k (cut_code b.depth levels q k)
by_levels k b levels q ok well = record {
  well_formed = well;
  tree = refl;
  names = refl;
  runs = same_runs b k (cut_code b.depth levels q k)
      (λ names. leads_alike k b levels q ok (start_machine (with_names names k))
      (first_shallow levels k.procedures.start 0 ok.start))
      (λ w e. leads_alike k b levels q ok (react_machine k w e) (first_shallow levels k.procedures.react 0 ok.react));
}

-- code has its own runs
as_it_was : (k : Code) (b : Bounds) → IsCode k → HasSameRunsUnder b k k
as_it_was k b well = record {
  well_formed = well;
  tree = refl;
  names = refl;
  runs = alike_itself b k;
}

-- the runs of code that was cut are those of the code
pub cut_same_runs : (k k' : Code) (b : Bounds) → IsCode k' → IsCut b.depth k k' → HasSameRunsUnder b k k'
cut_same_runs k k' b well (AsItWas is) =
    subst (λ c. IsCode c → HasSameRunsUnder b k c) (sym is) (as_it_was k b) well
cut_same_runs k k' b well (ByLevels levels q ok is) =
    subst (λ c. IsCode c → HasSameRunsUnder b k c) (sym is) (by_levels k b levels q ok) well

-- as they are declared, both have the same runs
pub runs_under : (k k' : Code) (b : Bounds) → HasSameRunsUnder b k k' → (events : List EventWithInputs)
    (moments : List Moment) → CodeRun k b events moments ↔ CodeRun k' b events moments
runs_under k k' b h events moments = alike_runs b k k' h.names h.runs events moments
