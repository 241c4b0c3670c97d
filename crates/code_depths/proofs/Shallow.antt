-- At all times of a run, each open call is of a procedure whose level is at most the depth of the call.
use Rattle.std.proofs.Common.{◌≡◌, ℕ, zero, suc, pred, ◌≤◌, Bool, true, false, List, [], ◌∷◌, length}
use Rattle.std.proofs.Common.{Option, Some, None, Result, Ok, Err, refl, ap, subst, arith}
use Rattle.std.specs.Prelude.{nat_le, nat_lt, if◌then◌else◌}
use Rattle.std.proofs.lemmas.Bool.Decides.{nat_tests}
use Rattle.flow_base.specs.declared.fault.Fault.{Fault}
use Rattle.active_config.specs.Marks.{is_on, is_bare}
use Rattle.actions.specs.declared.event.Event.{Event}
use Rattle.actions.specs.World.{World, emitted}
use Rattle.actions.specs.Changes.{paid_in, assigned_in, mark_in, clear_in, keep_in}
use Rattle.actions.specs.Work.{Now}
use Rattle.code_language.specs.Code.{fetch}
use Rattle.code_language.specs.Instrs.{Instr, Assign, Emit, Mark, Clear, Keep, Unless, Skip, Call, Visit, Send, SendTo}
use Rattle.code_language.specs.Instrs.{Play, Home, Begin, Pass, Ret}
use Rattle.code_language.specs.Machine.{Program, Frame, CodeState, machine, fresh, next, Next, Goes, Stops, holds}
use Rattle.code_language.specs.Machine.{if_ok, test_next, now_after, pass_on, or_this, noted, later, sent, if_deep}
use Rattle.code_language.specs.Machine.{play_next, act, act_on, step}
use Rattle.code_depths.specs.Depths.{level_of, IsNoteWithin, AreLevels}

-- ---- calls at one depth

-- the depth once a call with this saved event returns
abbrev pub depth_after : Option Event → ℕ → ℕ
depth_after None d = d
depth_after (Some e) d = pred d

-- no send lies between the calls of the frames from number k on
abbrev pub AreTogether : ℕ → List Frame → Type 0
AreTogether k [] = Unit {0}
AreTogether k (f ∷ fs) = (k ≤ length fs → f.saved ≡ None) × AreTogether k fs

-- nor from a later frame on
together_later : (j k : ℕ) (fs : List Frame) → j ≤ k → AreTogether j fs → AreTogether k fs
together_later j k [] le h = tt
together_later j k (f ∷ fs) le h = (λ past. h.0 (omega (arith, le, past)), together_later j k fs le h.1)

-- above all frames there is none
together_none : (k : ℕ) (fs : List Frame) → length fs ≤ k → AreTogether k fs
together_none k [] le = tt
together_none k (f ∷ fs) le = (λ past. absurd (omega (arith, le, past)), together_none k fs (omega (arith, le)))

-- the later of two numbers is at least the second one
later_past : (a b : ℕ) → b ≤ later a b
later_past a b = by (nat_lt a b) refl
  where
    by : (t : Bool) → nat_lt a b ≡ t → b ≤ (if t then b else a)
    by true e = omega arith
    by false e = grind (arith, nat_tests, e)

-- ---- the frames of a run

module _ (levels : List ℕ) where
  -- each frame's procedure and note have at most the depth of the frame as their level, and no send lies above its base
  abbrev pub AreShallow : ℕ → List Frame → Type 0
  AreShallow d [] = Unit {0}
  AreShallow d (f ∷ fs) =
      (level_of levels f.proc ≤ d)
      × (IsNoteWithin levels d f.note × (AreTogether (suc f.base) (f ∷ fs) × AreShallow (depth_after f.saved d) fs))

  -- a note that has been found, if one has, has at most this level
  abbrev pub IsFoundWithin : ℕ → Option (ℕ × ℕ) → Type 0
  IsFoundWithin d None = Unit {0}
  IsFoundWithin d (Some x) = level_of levels x.1 ≤ d

  -- the frames below have a note, or else this one has
  found_here : (d i : ℕ) (o : Option (ℕ × ℕ)) (tag : Option ℕ) → IsFoundWithin d o → IsNoteWithin levels d tag
      → IsFoundWithin d (or_this o i tag)
  found_here d i (Some x) tag h g = h
  found_here d i None None h g = tt
  found_here d i None (Some p) h g = g

  -- the note that is found among frames without a send between them has at most their depth as its level
  found_within : (d k : ℕ) (fs : List Frame) → AreShallow d fs → AreTogether k fs → IsFoundWithin d (noted k fs)
  unfolding noted
  found_within d k [] h g = tt
  found_within d k (f ∷ fs) h g =
      by (nat_lt (length fs) k) refl (found_within (depth_after f.saved d) k fs h.1.1.1 g.1)
    where
      by : (t : Bool) → nat_lt (length fs) k ≡ t → IsFoundWithin (depth_after f.saved d) (noted k fs)
          → IsFoundWithin d (if t then None else or_this (noted k fs) (length fs) f.note)
      by true e found = tt
      by false e found =
          let past : k ≤ length fs = grind (arith, nat_tests, e) in
          let same : depth_after f.saved d ≡ d = ap (λ s. depth_after s d) (g.0 past) in
          found_here d (length fs) (noted k fs) f.note
          (subst (λ n. IsFoundWithin n (noted k fs)) same found) h.1.0

  -- a note of at most one level has at most a greater one
  note_more : (d d' : ℕ) (tag : Option ℕ) → d ≤ d' → IsNoteWithin levels d tag → IsNoteWithin levels d' tag
  note_more d d' None le h = tt
  note_more d d' (Some p) le h = omega (arith, le, h)

  -- the depth of what is current after a return
  after_depth : (saved : Option Event) (now : Now) → depth_after saved now.depth ≡ (now_after saved now).depth
  after_depth None now = refl
  after_depth (Some e) now = refl

  -- a state of a run whose frames are such
  abbrev pub IsShallow : CodeState → Type 0
  IsShallow m = AreShallow m.now.depth m.frames

  -- what a step gives, where it goes on
  abbrev pub StaysShallow : Next → Type 0
  StaysShallow (Goes m) = IsShallow m
  StaysShallow (Stops w fault) = Unit {0}

  module _ (C : Program) (ok : AreLevels levels C.procedures) where
    module _ (w : World) (now : Now) (r : ℕ) (f : Frame) (fs : List Frame) (low : AreShallow now.depth (f ∷ fs)) where
      -- a step that may fault
      if_ok_stays : (o : Result World Fault) (go : World → Next) → ((v : World) → StaysShallow (go v))
          → StaysShallow (if_ok o w go)
      if_ok_stays (Ok v) go t = t v
      if_ok_stays (Err x) go t = tt

      -- a test
      test_stays : (o : Result Bool Fault) (a b : Next) → StaysShallow a → StaysShallow b
          → StaysShallow (test_next o w a b)
      test_stays (Ok true) a b y n = y
      test_stays (Ok false) a b y n = n
      test_stays (Err x) a b y n = tt

      -- a step that needs depth
      deep_stays : (b : Bool) (go : Next) → StaysShallow go → StaysShallow (if_deep b w go)
      deep_stays true go t = tt
      deep_stays false go t = t

      -- an instruction that only goes on
      plain : (v : World) (r' : ℕ) → StaysShallow (Goes (machine v now r' (next f ∷ fs)))
      plain v r' = low

      -- a frame that is its own base
      own_base : (g : Frame) (gs : List Frame) → g.base ≡ length gs → AreTogether (suc g.base) (g ∷ gs)
      own_base g gs is = (
        λ past. absurd (omega (arith, is, past)),
        together_none (suc g.base) gs (omega (arith, is)),
      )

      -- a call
      calls : (v : World) (p : ℕ) (tag : Option ℕ) → level_of levels p ≤ level_of levels f.proc
          → IsNoteWithin levels (level_of levels f.proc) tag
          → StaysShallow (Goes (machine v now r (fresh p tag f.base f.home None ∷ next f ∷ fs)))
      calls v p tag le note = (
        omega (arith, le, low.0),
        (note_more (level_of levels f.proc) now.depth tag low.0 note, ((λ past. refl, low.1.1.0), low)),
      )

      -- a send
      sent_stays : (v : World) (b : Bool) (e p : ℕ) → level_of levels p ≤ suc (level_of levels f.proc)
          → StaysShallow (Goes (sent b e p v now r f fs))
      sent_stays v true e p le =
          let g = fresh p None (suc (length fs)) 0 (Some now.event) in
          (omega (arith, le, low.0), (tt, (own_base g (next f ∷ fs) refl, low)))
      sent_stays v false e p le = low

      -- a return
      dropped : (r' : ℕ) → StaysShallow (Goes (machine w (now_after f.saved now) r' fs))
      dropped r' = subst (λ d. AreShallow d fs) (after_depth f.saved now) low.1.1.1

      -- `Pass`
      pass_stays : (x : ℕ) → StaysShallow (pass_on w now x f fs)
      pass_stays zero = low
      pass_stays (suc x) = dropped (suc x)

      -- `Play` that found a note
      play_if : (x : ℕ × ℕ) → level_of levels x.1 ≤ now.depth → (b : Bool) → StaysShallow
          (if b then if_ok (paid_in C.bounds w) w (λ v. Goes (machine v now r
          (fresh x.1 None (suc (length fs)) f.home None ∷ record f { cursor = suc x.0 } ∷ fs)))
          else Goes (machine w now r (next f ∷ fs)))
      play_if x le true =
          let g = fresh x.1 None (suc (length fs)) f.home None in
          let f' = record f { cursor = suc x.0 } in
          if_ok_stays (paid_in C.bounds w) (λ v. Goes (machine v now r (g ∷ f' ∷ fs)))
          (λ v. (le, (tt, (own_base g (f' ∷ fs) refl, low))))
      play_if x le false = low

      -- `Play`
      play_stays : (o : Option (ℕ × ℕ)) → IsFoundWithin now.depth o → StaysShallow (play_next C o w now r f fs)
      play_stays None h = low
      play_stays (Some x) h = play_if x h (is_bare C.tree f.home w.marks)

      -- whatever instruction stands at the place
      act_stays : (o : Option Instr) → fetch C.procedures f.proc f.place ≡ o → StaysShallow (act C o w now r f fs)
      act_stays None q = tt
      act_stays (Some (Assign v e)) q = if_ok_stays (assigned_in v e w) _ (λ u. plain u r)
      act_stays (Some (Emit e)) q = if_ok_stays (paid_in C.bounds w) _ (λ v. plain (emitted e v) r)
      act_stays (Some (Mark x)) q = plain (mark_in C.tree x w) r
      act_stays (Some (Clear x)) q = plain (clear_in C.tree x w) r
      act_stays (Some (Keep x)) q = plain (keep_in C.tree x w) r
      act_stays (Some (Unless k test)) q = test_stays (holds C.tree test w now r f.home) _ _ (plain w r) low
      act_stays (Some (Skip k)) q = low
      act_stays (Some (Call p tag)) q =
          let on = ok.named f.proc f.place (Call p tag) q in calls w p tag on.0 on.1
      act_stays (Some (Visit p tag)) q =
          let on = ok.named f.proc f.place (Visit p tag) q in
          if_ok_stays (paid_in C.bounds w) _ (λ v. calls v p tag on.0 on.1)
      act_stays (Some (Send e)) q =
          let p = C.procedures.react in
          let le : level_of levels p ≤ suc (level_of levels f.proc) = omega (arith, ok.react) in
          deep_stays (nat_le C.bounds.depth now.depth) _
          (if_ok_stays (paid_in C.bounds w) _ (λ v. sent_stays v true e p le))
      act_stays (Some (SendTo e x p)) q =
          let le = ok.named f.proc f.place (SendTo e x p) q in
          deep_stays (nat_le C.bounds.depth now.depth) _
          (if_ok_stays (paid_in C.bounds w) _ (λ v. sent_stays v (is_on x v.marks) e p le))
      act_stays (Some Play) q =
          let k = later f.cursor (suc f.base) in
          play_stays (noted k (f ∷ fs)) (found_within now.depth k (f ∷ fs) low
          (together_later (suc f.base) k (f ∷ fs) (later_past f.cursor (suc f.base)) low.1.1.0))
      act_stays (Some (Home x)) q = low
      act_stays (Some Begin) q =
          let g = next (record f { base = length fs }) in
          (low.0, (low.1.0, (own_base g fs refl, low.1.1.1)))
      act_stays (Some Pass) q = pass_stays r
      act_stays (Some (Ret x)) q = dropped x

    -- a step
    pub step_stays : (m : CodeState) → IsShallow m → StaysShallow (step C m)
    step_stays m low = on m.world m.now m.result m.frames low
      where
        on : (w : World) (now : Now) (r : ℕ) (fs : List Frame) → AreShallow now.depth fs
            → StaysShallow (act_on C w now r fs)
        on w now r [] h = tt
        on w now r (f ∷ fs) h = act_stays w now r f fs h (fetch C.procedures f.proc f.place) refl

  -- a run begins with one frame
  pub first_shallow : (p d : ℕ) → level_of levels p ≡ 0 → AreShallow d (fresh p None 0 0 None ∷ [])
  first_shallow p d is = (omega (arith, is), (tt, ((λ past. refl, tt), tt)))
