-- What is counted by the greatest of what there is at once: the frames have so much, and each of them leaves room for
-- what it may still bring.
use Rattle.std.proofs.Common.{◌≡◌, ℕ, zero, suc, pred, ◌+◌, ◌≤◌, max, Bool, true, false, List, [], ◌∷◌, length}
use Rattle.std.proofs.Common.{Option, Some, None, Result, Ok, Err, refl, sym, ap, ◌∙◌, subst, arith}
use Rattle.std.specs.Prelude.{nat_le, if◌then◌else◌}
use Rattle.std.proofs.lemmas.Bool.Decides.{nat_tests}
use Rattle.flow_base.specs.declared.bounds.Bounds.{Bounds}
use Rattle.flow_base.specs.declared.fault.Fault.{Fault}
use Rattle.flow_base.specs.declared.fault.Fault.TheVariants as faults
use Rattle.active_config.specs.Marks.{is_on, is_bare}
use Rattle.actions.specs.declared.event.Event.{Event}
use Rattle.actions.specs.World.{World, emitted}
use Rattle.actions.specs.Changes.{paid_in, assigned_in, mark_in, clear_in, keep_in}
use Rattle.actions.specs.Work.{Now, deeper}
use Rattle.code_language.specs.Code.{fetch}
use Rattle.code_language.specs.Instrs.{Instr, Assign, Emit, Mark, Clear, Keep, Unless, Skip, Call, Visit, Send, SendTo}
use Rattle.code_language.specs.Instrs.{Play, Home, Begin, Pass, Ret}
use Rattle.code_language.specs.Machine.{Program, Frame, CodeState, machine, fresh, next, past, Next, Goes, Stops, holds}
use Rattle.code_language.specs.Machine.{if_ok}
use Rattle.code_language.specs.Machine.{test_next, now_after, pass_on, noted, later, sent, if_deep, play_next, act}
use Rattle.code_language.specs.Machine.{act_on, step}
use Rattle.code_language.specs.Ahead.{next_then, ahead}
use Rattle.code_counts.specs.Certificate.{Numbers, joined, of_step, of_send, of_note, of_play, HandsOn}
use Rattle.code_counts.specs.Certificate.{IsCertificate}
use Rattle.code_counts.specs.Claims.{note_count, notes_of, amount, end_amount, MayFault, IsWithin}
use Rattle.code_counts.specs.declared.numbers.Counted.{Counted}
use Rattle.code_counts.specs.declared.numbers.Counted.TheVariants.{Depth, Notes}
use Rattle.code_counts.proofs.Debts.{debt, Owes, joined_first, later_both, debt_later, debt_first, own_base}
use Rattle.code_counts.proofs.Debts.{called_owes}
use Rattle.code_counts.proofs.Faults.{Leaves, Any, IsOfValue, IsSame, IsPaid, IsSpent, holds_leaves, assign_leaves}
use Rattle.code_counts.proofs.Faults.{paid_leaves}

-- one where an event was saved, else none
abbrev pub saved_count : Option Event → ℕ
saved_count None = 0
saved_count (Some e) = 1

-- how many events the frames have saved
abbrev pub sends_of : List Frame → ℕ
sends_of [] = 0
sends_of (f ∷ fs) = saved_count f.saved + sends_of fs

-- what a saved event counts
abbrev pub of_saved : Counted → Option Event → ℕ
of_saved c None = 0
of_saved c (Some e) = of_send c

-- how much the frames have of what is counted
abbrev pub level : Counted → List Frame → ℕ
level c [] = 0
level c (f ∷ fs) = of_saved c f.saved + (of_note c f.note + level c fs)

-- of what is counted the greater part counts, and the frames tell how much there is
pub record IsLevel (c : Counted) : Type 0 where
  pub joins : (a x : ℕ) → joined c a x ≡ max a x
  pub none : (w : World) → end_amount c w ≡ 0
  pub deep : (b : Bounds) (now : Now) (fs : List Frame) (most : ℕ) → b.depth ≤ now.depth → now.depth ≡ sends_of fs
      → level c fs + of_send c ≤ most → MayFault c b most (Some faults.Depth)
  pub spent : (b : Bounds) (most : ℕ) → MayFault c b most (Some faults.Steps)
  pub value : (b : Bounds) (most : ℕ) (x : Fault) → IsOfValue x → MayFault c b most (Some x)
  pub over : (b : Bounds) (most : ℕ) → MayFault c b most None
  pub amounts : (m : CodeState) → m.now.depth ≡ sends_of m.frames → amount c m ≡ level c m.frames

-- the depth is a level
pub depth_level : IsLevel Depth
depth_level = record {
  joins = λ a x. refl;
  none = λ w. refl;
  deep = λ b now fs most le is h. omega (arith, le, is, sends fs, h);
  spent = λ b most. tt;
  value = of_value;
  over = λ b most. tt;
  amounts = λ m is. is ∙ sends m.frames;
}
  where
    one : (saved : Option Event) → saved_count saved ≡ of_saved Depth saved
    one None = refl
    one (Some e) = refl

    no_note : (tag : Option ℕ) → of_note Depth tag ≡ 0
    no_note None = refl
    no_note (Some n) = refl

    sends : (fs : List Frame) → sends_of fs ≡ level Depth fs
    sends [] = refl
    sends (f ∷ fs) = omega (arith, sends fs, one f.saved, no_note f.note)

    of_value : (b : Bounds) (most : ℕ) (x : Fault) → IsOfValue x → MayFault Depth b most (Some x)
    of_value b most faults.Depth h = absurd h
    of_value b most faults.Steps h = tt
    of_value b most (faults.Overflow v) h = tt
    of_value b most faults.Zero h = tt

-- and so is the number of pending notes
pub notes_level : IsLevel Notes
unfolding notes_of
notes_level = record {
  joins = λ a x. refl;
  none = λ w. refl;
  deep = λ b now fs most le is h. tt;
  spent = λ b most. tt;
  value = λ b most x h. tt;
  over = λ b most. tt;
  amounts = λ m is. notes m.frames;
}
  where
    no_send : (saved : Option Event) → of_saved Notes saved ≡ 0
    no_send None = refl
    no_send (Some e) = refl

    one : (tag : Option ℕ) → note_count tag ≡ of_note Notes tag
    one None = refl
    one (Some n) = refl

    notes : (fs : List Frame) → notes_of fs ≡ level Notes fs
    notes [] = refl
    notes (f ∷ fs) = omega (arith, notes fs, no_send f.saved, one f.note)

-- each frame leaves room for what it may bring
abbrev pub HaveRoom : Counted → Numbers → ℕ → List Frame → Type 0
HaveRoom c N most [] = Unit {0}
HaveRoom c N most (f ∷ fs) =
    (level c (f ∷ fs) + N.left f.proc f.place ≤ most) × (Owes c N f fs × HaveRoom c N most fs)

-- the frames leave room, and each level of depth has saved an event
pub record IsLow (C : Program) (c : Counted) (N : Numbers) (most : ℕ) (m : CodeState) : Type 0 where
  pub depth : m.now.depth ≡ sends_of m.frames
  pub room : HaveRoom c N most m.frames

-- the same of what a step gives
abbrev pub StaysLow : Program → Counted → Numbers → ℕ → Next → Type 0
StaysLow C c N most (Goes m) = IsLow C c N most m
StaysLow C c N most (Stops w fault) = MayFault c C.bounds most fault

-- a return gives the depth back
depth_after : (saved : Option Event) (now : Now) (n : ℕ) → now.depth ≡ saved_count saved + n
    → (now_after saved now).depth ≡ n
depth_after None now n h = omega (arith, h)
depth_after (Some e) now n h = ap pred h ∙ omega arith

module _ (C : Program) (c : Counted) (N : Numbers) (most : ℕ) (s : IsLevel c)
    (ok : IsCertificate c C.procedures N) where
  module _ (w : World) (now : Now) (r : ℕ) (f : Frame) (fs : List Frame)
      (low : IsLow C c N most (machine w now r (f ∷ fs))) where
    -- so much, and what is left at a place, is within what is left, and the place owes no less
    abbrev HasRoomAt : ℕ → ℕ → Type 0
    HasRoomAt brings j =
        (joined c brings (N.left f.proc j) ≤ N.left f.proc f.place) × (N.owed f.proc f.place ≤ N.owed f.proc j)

    -- the top frame has room at a place to which it goes on
    room_at : (brings j : ℕ) → joined c brings (N.left f.proc j) ≤ N.left f.proc f.place
        → (level c (f ∷ fs) + N.left f.proc j ≤ most) × (level c (f ∷ fs) + brings ≤ most)
    room_at brings j le =
        let both = s.joins brings (N.left f.proc j) in
        (omega (arith, low.room.0, both, le), omega (arith, low.room.0, both, le))

    -- the top frame goes on
    goes : (v : World) (r' : ℕ) (f' : Frame) → f'.saved ≡ f.saved → f'.note ≡ f.note
        → level c (f ∷ fs) + N.left f'.proc f'.place ≤ most → Owes c N f' fs
        → StaysLow C c N most (Goes (machine v now r' (f' ∷ fs)))
    goes v r' f' saved note le owes =
        let p = ap saved_count saved in
        let q = ap (of_saved c) saved in
        let q' = ap (of_note c) note in
        record {
          depth = omega (arith, low.depth, p);
          room = (omega (arith, le, q, q'), (owes, low.room.1.1));
        }

    -- a new frame is pushed
    pushes : (v : World) (now' : Now) (f' g : Frame) → now'.depth ≡ saved_count g.saved + now.depth
        → f'.saved ≡ f.saved → f'.note ≡ f.note
        → level c (f ∷ fs) + (of_saved c g.saved + of_note c g.note + N.left g.proc g.place) ≤ most
        → level c (f ∷ fs) + N.left f'.proc f'.place ≤ most → Owes c N g (f' ∷ fs) → Owes c N f' fs
        → StaysLow C c N most (Goes (machine v now' r (g ∷ f' ∷ fs)))
    pushes v now' f' g deep saved note high le owes owes' =
        let p = ap saved_count saved in
        let q = ap (of_saved c) saved in
        let q' = ap (of_note c) note in
        record {
          depth = omega (arith, low.depth, deep, p);
          room = (omega (arith, high, q, q'), (owes, (omega (arith, le, q, q'), (owes', low.room.1.1))));
        }

    -- the top frame is dropped
    dropped : (r' : ℕ) → StaysLow C c N most (Goes (machine w (now_after f.saved now) r' fs))
    dropped r' = record { depth = depth_after f.saved now (sends_of fs) low.depth; room = low.room.1.1 }

    -- ---- the forms of a step

    -- a step that may fault
    if_ok_low : (P : World → Type 0) (F : Fault → Type 0) (o : Result World Fault) (go : World → Next) → Leaves P F o
        → ((v : World) → StaysLow C c N most (go v)) → ((x : Fault) → F x → MayFault c C.bounds most (Some x))
        → StaysLow C c N most (if_ok o w go)
    if_ok_low P F (Ok v) go l t u = t v
    if_ok_low P F (Err x) go l t u = u x l

    -- a test
    test_low : (o : Result Bool Fault) (a b : Next) → Leaves Any IsOfValue o → StaysLow C c N most a
        → StaysLow C c N most b → StaysLow C c N most (test_next o w a b)
    test_low (Err x) a b l y n = s.value C.bounds most x l
    test_low (Ok true) a b l y n = y
    test_low (Ok false) a b l y n = n

    -- a payment
    pays : (go : World → Next) → ((v : World) → StaysLow C c N most (go v))
        → StaysLow C c N most (if_ok (paid_in C.bounds w) w go)
    pays go t =
        if_ok_low (IsPaid w) (IsSpent C.bounds w) (paid_in C.bounds w) go (paid_leaves C.bounds w) t
        (λ x is. subst (λ (y : Fault). MayFault c C.bounds most (Some y)) (sym is.0) (s.spent C.bounds most))

    -- a step that needs depth
    deep_low : (go : Next) → level c (f ∷ fs) + of_send c ≤ most → StaysLow C c N most go → (b : Bool)
        → nat_le C.bounds.depth now.depth ≡ b → StaysLow C c N most (if_deep b w go)
    deep_low go le y true e =
        s.deep C.bounds now (f ∷ fs) most (grind (arith, nat_tests, e)) low.depth le
    deep_low go le y false e = y

    -- ---- instructions

    -- the next place owes enough
    next_owes : (brings : ℕ) → HasRoomAt brings (f.place + 1) → Owes c N (next f) fs
    next_owes brings on = omega (arith, on.1, low.room.1.0)

    -- and so does a place past others
    past_owes : (k : ℕ) → HasRoomAt 0 (f.place + 1 + k) → Owes c N (past f k) fs
    past_owes k on = omega (arith, on.1, low.room.1.0)

    -- an instruction that only goes on
    plain : (v : World) (r' : ℕ) → (brings : ℕ) → HasRoomAt brings (f.place + 1)
        → StaysLow C c N most (Goes (machine v now r' (next f ∷ fs)))
    plain v r' brings on =
        goes v r' (next f) refl refl (room_at brings (f.place + 1) on.0).0 (next_owes brings on)

    -- one that goes on past others
    passes : (k : ℕ) → HasRoomAt 0 (f.place + 1 + k) → StaysLow C c N most (Goes (machine w now r (past f k ∷ fs)))
    passes k on = goes w r (past f k) refl refl (room_at 0 (f.place + 1 + k) on.0).0 (past_owes k on)

    -- a call
    calls : (v : World) (p : ℕ) (tag : Option ℕ) (brings : ℕ) → of_note c tag + N.left p 0 ≤ brings
        → HasRoomAt brings (f.place + 1) → HandsOn c N (N.owed f.proc f.place) p tag
        → StaysLow C c N most (Goes (machine v now r (fresh p tag f.base f.home None ∷ next f ∷ fs)))
    calls v p tag brings le on hands =
        let room = room_at brings (f.place + 1) on.0 in
        pushes v now (next f) (fresh p tag f.base f.home None) (omega arith) refl refl (omega (arith, room.1, le))
        room.0 (called_owes c N p tag f (next f) fs refl low.room.1.0 hands) (next_owes brings on)

    -- a send
    sent_low : (v : World) (b : Bool) (e p : ℕ) → HasRoomAt (of_step c + of_send c + N.left p 0) (f.place + 1)
        → StaysLow C c N most (Goes (sent b e p v now r f fs))
    sent_low v true e p on =
        let brings = of_step c + of_send c + N.left p 0 in
        let room = room_at brings (f.place + 1) on.0 in
        let g = fresh p None (suc (length fs)) 0 (Some now.event) in
        pushes v (deeper e now) (next f) g (omega arith) refl refl (omega (arith, room.1)) room.0
        (own_base c N g (next f ∷ fs) refl) (next_owes brings on)
    sent_low v false e p on = plain v r (of_step c + of_send c + N.left p 0) on

    -- there is room for a send
    send_room : (p : ℕ) → HasRoomAt (of_step c + of_send c + N.left p 0) (f.place + 1)
        → level c (f ∷ fs) + of_send c ≤ most
    send_room p on =
        omega (arith, (room_at (of_step c + of_send c + N.left p 0) (f.place + 1) on.0).1)

    -- `Pass`
    pass_low : (x : ℕ) → HasRoomAt 0 (f.place + 1) → StaysLow C c N most (pass_on w now x f fs)
    pass_low zero on = plain w 0 0 on
    pass_low (suc x) on = dropped (suc x)

    -- `Play` that found a note
    play_if : HasRoomAt (N.owed f.proc f.place) (f.place + 1) → (x : ℕ × ℕ)
        → joined c (of_play c N (Some x.1)) (debt c N (suc x.0) (f ∷ fs))
        ≤ debt c N (later f.cursor (suc f.base)) (f ∷ fs)
        → (b : Bool) → StaysLow C c N most
        (if b then if_ok (paid_in C.bounds w) w (λ v. Goes (machine v now r
        (fresh x.1 None (suc (length fs)) f.home None ∷ record f { cursor = suc x.0 } ∷ fs)))
        else Goes (machine w now r (next f ∷ fs)))
    play_if on x first true =
        let f' = record f { cursor = suc x.0 } in
        let g = fresh x.1 None (suc (length fs)) f.home None in
        let room = room_at (N.owed f.proc f.place) (f.place + 1) on.0 in
        let part = joined_first c (of_play c N (Some x.1)) (debt c N (suc x.0) (f ∷ fs)) in
        let less = debt_later c N (suc f.base) (later f.cursor (suc f.base)) (f ∷ fs)
        (later_both f.cursor (suc f.base)).1 in
        pays _ (λ v. pushes v now f' g (omega arith) refl refl
        (omega (arith, room.1, part, first, less, low.room.1.0)) (omega (arith, low.room.0))
        (own_base c N g (f' ∷ fs) refl) (omega (arith, low.room.1.0)))
    play_if on x first false = plain w r (N.owed f.proc f.place) on

    -- `Play`
    play_low : HasRoomAt (N.owed f.proc f.place) (f.place + 1) → (o : Option (ℕ × ℕ))
        → noted (later f.cursor (suc f.base)) (f ∷ fs) ≡ o → StaysLow C c N most (play_next C o w now r f fs)
    play_low on None q = plain w r (N.owed f.proc f.place) on
    play_low on (Some x) q =
        play_if on x (debt_first c N (later f.cursor (suc f.base)) (f ∷ fs) x q) (is_bare C.tree f.home w.marks)

    -- whatever instruction stands at the place
    act_low : (o : Option Instr) → fetch C.procedures f.proc f.place ≡ o → StaysLow C c N most (act C o w now r f fs)
    act_low None q = s.over C.bounds most
    act_low (Some (Assign v e)) q =
        if_ok_low (IsSame w) IsOfValue (assigned_in v e w) _ (assign_leaves v e w)
        (λ u. plain u r 0 (ok f.proc f.place (Assign v e) q)) (s.value C.bounds most)
    act_low (Some (Emit e)) q = pays _ (λ v. plain (emitted e v) r _ (ok f.proc f.place (Emit e) q))
    act_low (Some (Mark x)) q = plain (mark_in C.tree x w) r 0 (ok f.proc f.place (Mark x) q)
    act_low (Some (Clear x)) q = plain (clear_in C.tree x w) r 0 (ok f.proc f.place (Clear x) q)
    act_low (Some (Keep x)) q = plain (keep_in C.tree x w) r 0 (ok f.proc f.place (Keep x) q)
    act_low (Some (Unless k test)) q =
        let on = ok f.proc f.place (Unless k test) q in
        test_low (holds C.tree test w now r f.home) _ _ (holds_leaves C.tree test w now r f.home) (plain w r 0 on.0)
        (passes k on.1)
    act_low (Some (Skip k)) q = passes k (ok f.proc f.place (Skip k) q)
    act_low (Some (Call p tag)) q =
        let on = ok f.proc f.place (Call p tag) q in
        calls w p tag (of_note c tag + N.left p 0) (omega arith) on.0 on.1
    act_low (Some (Visit p tag)) q =
        let on = ok f.proc f.place (Visit p tag) q in
        pays _ (λ v. calls v p tag (of_step c + of_note c tag + N.left p 0) (omega arith) on.0 on.1)
    act_low (Some (Send e)) q =
        let on = ok f.proc f.place (Send e) q in
        let p = C.procedures.react in
        deep_low _ (send_room p on) (pays _ (λ v. sent_low v true e p on)) (nat_le C.bounds.depth now.depth) refl
    act_low (Some (SendTo e x p)) q =
        let on = ok f.proc f.place (SendTo e x p) q in
        deep_low _ (send_room p on) (pays _ (λ v. sent_low v (is_on x v.marks) e p on))
        (nat_le C.bounds.depth now.depth) refl
    act_low (Some Play) q =
        play_low (ok f.proc f.place Play q) (noted (later f.cursor (suc f.base)) (f ∷ fs)) refl
    act_low (Some (Home x)) q =
        let on = ok f.proc f.place (Home x) q in
        goes w r (next (record f { home = x })) refl refl (room_at 0 (f.place + 1) on.0).0
        (omega (arith, on.1, low.room.1.0))
    act_low (Some Begin) q =
        goes w r (next (record f { base = length fs })) refl refl
        (room_at 0 (f.place + 1) (ok f.proc f.place Begin q)).0
        (own_base c N (next (record f { base = length fs })) fs refl)
    act_low (Some Pass) q = pass_low r (ok f.proc f.place Pass q)
    act_low (Some (Ret x)) q = dropped x

  -- a step
  step_on : (w : World) (now : Now) (r : ℕ) (fs : List Frame) → IsLow C c N most (machine w now r fs)
      → StaysLow C c N most (act_on C w now r fs)
  step_on w now r [] low = s.over C.bounds most
  step_on w now r (f ∷ fs) low = act_low w now r f fs low (fetch C.procedures f.proc f.place) refl

  -- what follows a step
  low_then : (o : Next) (go : CodeState → Next) → StaysLow C c N most o
      → ((m : CodeState) → IsLow C c N most m → StaysLow C c N most (go m)) → StaysLow C c N most (next_then o go)
  low_then (Goes m) go k t = t m k
  low_then (Stops w x) go k t = k

  -- a run that leaves room stays so
  ahead_low : (n : ℕ) (m : CodeState) → IsLow C c N most m → StaysLow C c N most (ahead C n m)
  ahead_low zero m low = low
  ahead_low (suc n) m low =
      low_then (step C m) (ahead C n) (step_on m.world m.now m.result m.frames low) (λ m' k. ahead_low n m' k)

  -- the frames have no more than the most
  level_within : (fs : List Frame) → HaveRoom c N most fs → level c fs ≤ most
  level_within [] room = omega arith
  level_within (f ∷ fs) room = omega (arith, room.0)

  -- so there is no more than the most
  within : (o : Next) → StaysLow C c N most o → IsWithin c C.bounds most o
  within (Goes m) low = omega (arith, s.amounts m low.depth, level_within m.frames low.room)
  within (Stops w x) low = (omega (arith, s.none w), low)

  -- a run from one frame at no depth
  pub level_stays : (n : ℕ) (w : World) (now : Now) (p : ℕ) → now.depth ≡ 0 → N.left p 0 ≤ most
      → IsWithin c C.bounds most (ahead C n (machine w now 0 (fresh p None 0 0 None ∷ [])))
  level_stays n w now p flat le =
      within (ahead C n (machine w now 0 (fresh p None 0 0 None ∷ [])))
      (ahead_low n (machine w now 0 (fresh p None 0 0 None ∷ [])) (record {
        depth = flat;
        room = (omega (arith, le), (own_base c N (fresh p None 0 0 None) [] refl, tt));
      }))
