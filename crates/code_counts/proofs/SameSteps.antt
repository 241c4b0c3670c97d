-- Under bounds that no event passes, runs are the same.
use Rattle.std.proofs.Common.{◌≡◌, ℕ, zero, suc, ◌≤◌, ◌⊎◌, inl, inr, Bool, true, false, List, [], ◌∷◌, length}
use Rattle.std.proofs.Common.{Option, Some, None, Result, Ok, Err, refl, sym, ap, ◌∙◌, subst, arith}
use Rattle.std.specs.Prelude.{◌+◌, nat_le, if◌then◌else◌}
use Rattle.flow_base.specs.declared.bounds.Bounds.{Bounds}
use Rattle.flow_base.specs.declared.fault.Fault.{Fault}
use Rattle.flow_base.specs.declared.fault.Fault.TheVariants as faults
use Rattle.active_config.specs.Marks.{is_bare, is_on}
use Rattle.actions.specs.Changes.{paid_in}
use Rattle.actions.specs.Runs.{Moment}
use Rattle.actions.specs.World.{World, emitted}
use Rattle.actions.specs.Work.{Now}
use Rattle.code_language.specs.Ahead.{next_then, ahead}
use Rattle.code_language.specs.Code.{Code, fetch}
use Rattle.code_language.specs.Instrs.{Instr, Assign, Emit, Mark, Clear, Keep, Unless, Skip, Call, Visit, Send, SendTo}
use Rattle.code_language.specs.Instrs.{Play, Home, Begin, Pass, Ret}
use Rattle.code_language.specs.Machine.{Program, Frame, CodeState, machine, fresh, next, later, noted, sent, Next, Goes}
use Rattle.code_language.specs.Machine.{Stops, if_ok, if_deep, play_next, act, act_on, step, and_then, run}
use Rattle.code_language.specs.Reactions.{Leads, program_of}
use Rattle.code_counts.specs.Claims.{IsWithin}
use Rattle.code_counts.specs.declared.numbers.Counted.TheVariants.{Steps, Depth}

-- ---- how a run stands

-- a run hasn't ended because all steps were used
abbrev pub IsUnspent : Next → Type 0
IsUnspent (Goes m) = Unit {0}
IsUnspent (Stops w None) = Unit {0}
IsUnspent (Stops w (Some faults.Depth)) = Unit {0}
IsUnspent (Stops w (Some faults.Steps)) = ⊥
IsUnspent (Stops w (Some (faults.Overflow v))) = Unit {0}
IsUnspent (Stops w (Some faults.Zero)) = Unit {0}

-- a run hasn't ended because an event was sent too deep
abbrev pub IsShallow : Next → Type 0
IsShallow (Goes m) = Unit {0}
IsShallow (Stops w None) = Unit {0}
IsShallow (Stops w (Some faults.Depth)) = ⊥
IsShallow (Stops w (Some faults.Steps)) = Unit {0}
IsShallow (Stops w (Some (faults.Overflow v))) = Unit {0}
IsShallow (Stops w (Some faults.Zero)) = Unit {0}

-- where no more steps are taken than the bound, no run has ended so
pub unspent : (b : Bounds) (most : ℕ) → most ≤ b.steps → (o : Next) → IsWithin Steps b most o → IsUnspent o
unspent b most le (Goes m) h = tt
unspent b most le (Stops w None) h = tt
unspent b most le (Stops w (Some faults.Depth)) h = tt
unspent b most le (Stops w (Some faults.Steps)) h = absurd (omega (arith, le, h.1))
unspent b most le (Stops w (Some (faults.Overflow v))) h = tt
unspent b most le (Stops w (Some faults.Zero)) h = tt

-- and where no event is sent deeper than the bound
pub shallow : (b : Bounds) (most : ℕ) → most ≤ b.depth → (o : Next) → IsWithin Depth b most o → IsShallow o
shallow b most le (Goes m) h = tt
shallow b most le (Stops w None) h = tt
shallow b most le (Stops w (Some faults.Depth)) h = absurd (omega (arith, le, h.1))
shallow b most le (Stops w (Some faults.Steps)) h = tt
shallow b most le (Stops w (Some (faults.Overflow v))) h = tt
shallow b most le (Stops w (Some faults.Zero)) h = tt

-- ---- a step under two bounds

module _ (b b' : Bounds) where
  -- both have as many steps, or neither run has ended because all were used
  abbrev pub Paid : Next → Next → Type 0
  Paid o o' = (b'.steps ≡ b.steps) ⊎ (IsUnspent o × IsUnspent o')

  -- both are as deep, or neither run has ended because an event was sent too deep
  abbrev pub Sent : Next → Next → Type 0
  Sent o o' = (b'.depth ≡ b.depth) ⊎ (IsShallow o × IsShallow o')

  -- a payment by a test
  abbrev payment : Bool → World → Result World Fault
  payment t w = if t then Err faults.Steps else Ok (record w { used = w.used + 1 })

  -- a payment that both can make
  both_paid : (w : World) (go : World → Next) (t t' : Bool) → IsUnspent (if_ok (payment t w) w go)
      → IsUnspent (if_ok (payment t' w) w go) → if_ok (payment t w) w go ≡ if_ok (payment t' w) w go
  both_paid w go true t' u u' = absurd u
  both_paid w go false true u u' = absurd u'
  both_paid w go false false u u' = refl

  -- a payment
  pays_same : (w : World) (go : World → Next) → Paid (if_ok (paid_in b w) w go) (if_ok (paid_in b' w) w go)
      → if_ok (paid_in b w) w go ≡ if_ok (paid_in b' w) w go
  unfolding paid_in
  pays_same w go (inl e) = ap (λ n. if_ok (payment (nat_le n w.used) w) w go) (sym e)
  pays_same w go (inr u) = both_paid w go (nat_le b.steps w.used) (nat_le b'.steps w.used) u.0 u.1

  -- a test of the depth that ends in the same way for both
  same_test : (w : World) (o o' : Next) (t : Bool) → (Paid o o' → o ≡ o')
      → Paid (if_deep t w o) (if_deep t w o') → if_deep t w o ≡ if_deep t w o'
  same_test w o o' true same p = refl
  same_test w o o' false same p = same p

  -- a test of the depth that lets both go on
  both_deep : (w : World) (o o' : Next) (t t' : Bool) → (Paid o o' → o ≡ o')
      → Paid (if_deep t w o) (if_deep t' w o') → IsShallow (if_deep t w o) → IsShallow (if_deep t' w o')
      → if_deep t w o ≡ if_deep t' w o'
  both_deep w o o' true t' same p s s' = absurd s
  both_deep w o o' false true same p s s' = absurd s'
  both_deep w o o' false false same p s s' = same p

  -- a send, before it is paid
  sends_same : (d : ℕ) (w : World) (o o' : Next) → (Paid o o' → o ≡ o')
      → Paid (if_deep (nat_le b.depth d) w o) (if_deep (nat_le b'.depth d) w o')
      → Sent (if_deep (nat_le b.depth d) w o) (if_deep (nat_le b'.depth d) w o')
      → if_deep (nat_le b.depth d) w o ≡ if_deep (nat_le b'.depth d) w o'
  sends_same d w o o' same p (inl e) =
      subst (λ n. Paid (if_deep (nat_le b.depth d) w o) (if_deep (nat_le n d) w o')
      → if_deep (nat_le b.depth d) w o ≡ if_deep (nat_le n d) w o') (sym e)
      (same_test w o o' (nat_le b.depth d) same) p
  sends_same d w o o' same p (inr s) =
      both_deep w o o' (nat_le b.depth d) (nat_le b'.depth d) same p s.0 s.1

  module _ (k : Code) where
    -- the code under one of the bounds
    abbrev C : Program
    C = program_of k b

    -- and under the other
    abbrev C' : Program
    C' = program_of k b'

    -- `Play` that found a note
    play_if : (w : World) (now : Now) (r : ℕ) (f : Frame) (fs : List Frame) (t : Bool) (go : World → Next) → Paid
        (if t then if_ok (paid_in b w) w go else Goes (machine w now r (next f ∷ fs)))
        (if t then if_ok (paid_in b' w) w go else Goes (machine w now r (next f ∷ fs)))
        → (if t then if_ok (paid_in b w) w go else Goes (machine w now r (next f ∷ fs)))
        ≡ (if t then if_ok (paid_in b' w) w go else Goes (machine w now r (next f ∷ fs)))
    play_if w now r f fs true go p = pays_same w go p
    play_if w now r f fs false go p = refl

    -- `Play`
    play_same : (o : Option (ℕ × ℕ)) (w : World) (now : Now) (r : ℕ) (f : Frame) (fs : List Frame)
        → Paid (play_next C o w now r f fs) (play_next C' o w now r f fs)
        → play_next C o w now r f fs ≡ play_next C' o w now r f fs
    play_same None w now r f fs p = refl
    play_same (Some x) w now r f fs p =
        play_if w now r f fs (is_bare k.tree f.home w.marks) (λ v. Goes (machine v now r
        (fresh x.1 None (suc (length fs)) f.home None ∷ record f { cursor = suc x.0 } ∷ fs))) p

    -- whatever instruction stands at the place
    act_same : (o : Option Instr) (w : World) (now : Now) (r : ℕ) (f : Frame) (fs : List Frame)
        → Paid (act C o w now r f fs) (act C' o w now r f fs)
        → Sent (act C o w now r f fs) (act C' o w now r f fs)
        → act C o w now r f fs ≡ act C' o w now r f fs
    act_same None w now r f fs p s = refl
    act_same (Some (Assign v e)) w now r f fs p s = refl
    act_same (Some (Emit e)) w now r f fs p s =
        pays_same w (λ v. Goes (machine (emitted e v) now r (next f ∷ fs))) p
    act_same (Some (Mark x)) w now r f fs p s = refl
    act_same (Some (Clear x)) w now r f fs p s = refl
    act_same (Some (Keep x)) w now r f fs p s = refl
    act_same (Some (Unless j test)) w now r f fs p s = refl
    act_same (Some (Skip j)) w now r f fs p s = refl
    act_same (Some (Call q tag)) w now r f fs p s = refl
    act_same (Some (Visit q tag)) w now r f fs p s =
        pays_same w (λ v. Goes (machine v now r (fresh q tag f.base f.home None ∷ next f ∷ fs))) p
    act_same (Some (Send e)) w now r f fs p s =
        let go = λ (v : World). Goes (sent true e k.procedures.react v now r f fs) in
        sends_same now.depth w (if_ok (paid_in b w) w go) (if_ok (paid_in b' w) w go) (pays_same w go) p s
    act_same (Some (SendTo e x q)) w now r f fs p s =
        let go = λ (v : World). Goes (sent (is_on x v.marks) e q v now r f fs) in
        sends_same now.depth w (if_ok (paid_in b w) w go) (if_ok (paid_in b' w) w go) (pays_same w go) p s
    act_same (Some Play) w now r f fs p s = play_same (noted (later f.cursor (suc f.base)) (f ∷ fs)) w now r f fs p
    act_same (Some (Home x)) w now r f fs p s = refl
    act_same (Some Begin) w now r f fs p s = refl
    act_same (Some Pass) w now r f fs p s = refl
    act_same (Some (Ret x)) w now r f fs p s = refl

    -- a step
    act_on_same : (w : World) (now : Now) (r : ℕ) (fs : List Frame)
        → Paid (act_on C w now r fs) (act_on C' w now r fs) → Sent (act_on C w now r fs) (act_on C' w now r fs)
        → act_on C w now r fs ≡ act_on C' w now r fs
    act_on_same w now r [] p s = refl
    act_on_same w now r (f ∷ fs) p s = act_same (fetch k.procedures f.proc f.place) w now r f fs p s

    -- ---- a run under two bounds

    -- neither run is ended by a bound that differs
    abbrev AreAlike : Next → Next → Type 0
    AreAlike o o' = Paid o o' × Sent o o'

    -- neither run from a state is ever ended so
    abbrev pub StayAlike : CodeState → Type 0
    StayAlike m = (j : ℕ) → AreAlike (ahead C j m) (ahead C' j m)

    -- nor is it ended so by its first step
    at_once : (o o' : Next) → AreAlike (next_then o (ahead C zero)) (next_then o' (ahead C' zero)) → AreAlike o o'
    at_once (Goes m) (Goes m') h = h
    at_once (Goes m) (Stops w x) h = h
    at_once (Stops w x) (Goes m) h = h
    at_once (Stops w x) (Stops v y) h = h

    -- after the same step the rest of both runs is the same
    rest_same : (n : ℕ) (o : Next)
        → ((j : ℕ) → AreAlike (next_then o (ahead C j)) (next_then o (ahead C' j)))
        → ((m : CodeState) → StayAlike m → run C n m ≡ run C' n m)
        → and_then o (run C n) ≡ and_then o (run C' n)
    rest_same n (Goes m) all go = go m all
    rest_same n (Stops w x) all go = refl

    -- both runs are the same
    pub run_same : (n : ℕ) (m : CodeState) → StayAlike m → run C n m ≡ run C' n m
    run_same zero m all = refl
    run_same (suc n) m all =
        let first = at_once (step C m) (step C' m) (all (suc zero)) in
        let same : step C m ≡ step C' m = act_on_same m.world m.now m.result m.frames first.0 first.1 in
        subst (λ o. ((j : ℕ) → AreAlike (next_then (step C m) (ahead C j)) (next_then o (ahead C' j)))
        → and_then (step C m) (run C n) ≡ and_then o (run C' n)) same
        (λ each. rest_same n (step C m) each (λ m' rest. run_same n m' rest)) (λ j. all (suc j))

    -- so they lead to the same moments
    pub leads_same : (m : CodeState) (moment : Moment) → StayAlike m → Leads C m moment → Leads C' m moment
    leads_same m moment all h = record {
      steps = h.steps;
      ends = sym (run_same h.steps m all) ∙ h.ends;
    }
