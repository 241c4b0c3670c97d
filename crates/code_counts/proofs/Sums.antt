-- What is counted by a sum: what was counted so far, and what the frames may still bring, is never more than at first.
use Rattle.std.proofs.Common.{◌≡◌, ℕ, zero, suc, ◌+◌, ◌≤◌, Bool, true, false, List, [], ◌∷◌, length}
use Rattle.std.proofs.Common.{Option, Some, None, Result, Ok, Err, refl, sym, ap, ◌∙◌, subst, arith}
use Rattle.std.specs.Prelude.{nat_le, if◌then◌else◌}
use Rattle.std.proofs.lemmas.List.{length-append}
use Rattle.flow_base.specs.declared.bounds.Bounds.{Bounds}
use Rattle.flow_base.specs.declared.fault.Fault.{Fault}
use Rattle.flow_base.specs.declared.fault.Fault.TheVariants as faults
use Rattle.active_config.specs.Marks.{is_on, is_bare}
use Rattle.actions.specs.World.{World, emitted}
use Rattle.actions.specs.Changes.{paid_in, assigned_in, mark_in, clear_in, keep_in}
use Rattle.actions.specs.Work.{Now, deeper}
use Rattle.code_language.specs.Code.{fetch}
use Rattle.code_language.specs.Instrs.{Instr, Assign, Emit, Mark, Clear, Keep, Unless, Skip, Call, Visit, Send, SendTo}
use Rattle.code_language.specs.Instrs.{Play, Home, Begin, Pass, Ret}
use Rattle.code_language.specs.Machine.{Program, Frame, CodeState, machine, fresh, next, past, Next, Goes, Stops, holds}
use Rattle.code_language.specs.Machine.{if_ok}
use Rattle.code_language.specs.Machine.{test_next, now_after, pass_on, noted, later, sent, if_deep, play_next, act}
use Rattle.code_language.specs.Machine.{act_on, step}
use Rattle.code_language.specs.Ahead.{next_then, ahead}
use Rattle.code_counts.specs.Certificate.{Numbers, joined, of_step, of_output, of_send, of_note, of_play}
use Rattle.code_counts.specs.Certificate.{IsCertificate}
use Rattle.code_counts.specs.Claims.{amount, end_amount, MayFault, IsWithin}
use Rattle.code_counts.specs.declared.numbers.Counted.{Counted}
use Rattle.code_counts.specs.declared.numbers.Counted.TheVariants.{Steps, Outputs}
use Rattle.code_counts.proofs.Debts.{debt, Owes, later_both, debt_later, debt_first, own_base, called_owes}
use Rattle.code_counts.proofs.Faults.{Leaves, Any, IsOfValue, IsSame, IsPaid, IsSpent, holds_leaves, assign_leaves}
use Rattle.code_counts.proofs.Faults.{paid_leaves, mark_same, clear_same, keep_same}

-- what is counted adds up, and a world tells how much there is
pub record IsSum (c : Counted) : Type 0 where
  pub joins : (a x : ℕ) → joined c a x ≡ a + x
  pub same : (w v : World) → IsSame w v → end_amount c v ≡ end_amount c w
  pub pays : (w v : World) → IsPaid w v → end_amount c v ≡ of_step c + end_amount c w
  pub puts : (e : ℕ) (w : World) → end_amount c (emitted e w) ≡ of_output c + end_amount c w
  pub spent : (b : Bounds) (w : World) (most : ℕ) → b.steps ≤ w.used → of_step c + end_amount c w ≤ most
      → MayFault c b most (Some faults.Steps)
  pub deep : (b : Bounds) (most : ℕ) → MayFault c b most (Some faults.Depth)
  pub value : (b : Bounds) (most : ℕ) (x : Fault) → IsOfValue x → MayFault c b most (Some x)
  pub none : (b : Bounds) (most : ℕ) → MayFault c b most None
  pub amounts : (m : CodeState) → amount c m ≡ end_amount c m.world

-- steps add up
pub steps_sum : IsSum Steps
steps_sum = record {
  joins = λ a x. refl;
  same = λ w v s. s.0;
  pays = λ w v s. omega (arith, s.0);
  puts = λ e w. omega arith;
  spent = λ b w most le h. omega (arith, le, h);
  deep = λ b most. tt;
  value = of_value;
  none = λ b most. tt;
  amounts = λ m. refl;
}
  where
    of_value : (b : Bounds) (most : ℕ) (x : Fault) → IsOfValue x → MayFault Steps b most (Some x)
    of_value b most faults.Depth h = tt
    of_value b most faults.Steps h = absurd h
    of_value b most (faults.Overflow v) h = tt
    of_value b most faults.Zero h = tt

-- and so do outputs
pub outputs_sum : IsSum Outputs
outputs_sum = record {
  joins = λ a x. refl;
  same = λ w v s. ap length s.1;
  pays = λ w v s. ap length s.1 ∙ omega arith;
  puts = λ e w. length-append w.outputs (e ∷ []) ∙ omega arith;
  spent = λ b w most le h. tt;
  deep = λ b most. tt;
  value = λ b most x h. tt;
  none = λ b most. tt;
  amounts = λ m. refl;
}

-- a frame may bring no more than so much: what is left from its place on, or at `Play` what the notes bring that aren't
-- run yet, and what is left after it
pub data Share (C : Program) (c : Counted) (N : Numbers) (f : Frame) (fs : List Frame) (m : ℕ) : Type 0 where
  Whole : N.left f.proc f.place ≤ m → Share C c N f fs m
  Playing : fetch C.procedures f.proc f.place ≡ Some Play
      → debt c N (later f.cursor (suc f.base)) (f ∷ fs) + N.left f.proc (f.place + 1) ≤ m → Share C c N f fs m

-- the top frame brings no more than its share of so much, and what is below it no more than the rest
pub record Affording (C : Program) (c : Counted) (N : Numbers) (n : ℕ) (f : Frame) (fs : List Frame) (Rest : ℕ → Type 0)
    : Type 0 where
  pub own : ℕ
  pub rest : ℕ
  pub enough : own + rest ≤ n
  pub share : Share C c N f fs own
  pub owes : Owes c N f fs
  pub below : Rest rest

-- all frames bring no more than so much
abbrev pub Affords : Program → Counted → Numbers → ℕ → List Frame → Type 0
Affords C c N n [] = Unit {0}
Affords C c N n (f ∷ fs) = Affording C c N n f fs (λ r. Affords C c N r fs)

-- what was counted, and what the frames may bring, is no more than the most
pub record IsPaidFor (C : Program) (c : Counted) (N : Numbers) (most : ℕ) (m : CodeState) : Type 0 where
  pub still : ℕ
  pub enough : end_amount c m.world + still ≤ most
  pub frames : Affords C c N still m.frames

-- the same of what a step gives
abbrev pub StaysPaid : Program → Counted → Numbers → ℕ → Next → Type 0
StaysPaid C c N most (Goes m) = IsPaidFor C c N most m
StaysPaid C c N most (Stops w fault) = (end_amount c w ≤ most) × MayFault c C.bounds most fault

module _ (C : Program) (c : Counted) (N : Numbers) (most : ℕ) (s : IsSum c) (ok : IsCertificate c C.procedures N) where
  module _ (w : World) (now : Now) (r : ℕ) (f : Frame) (fs : List Frame)
      (paid : IsPaidFor C c N most (machine w now r (f ∷ fs))) where
    -- what the top frame may bring
    abbrev top : Affording C c N paid.still f fs (λ n. Affords C c N n fs)
    top = paid.frames

    -- but at `Play` it is what is left
    whole_by : (o : Option Instr) → fetch C.procedures f.proc f.place ≡ o → (o ≡ Some Play → ⊥)
        → Share C c N f fs top.own → N.left f.proc f.place ≤ top.own
    whole_by o is other (Whole h) = h
    whole_by o is other (Playing at h) = absurd (other (sym is ∙ at))

    whole : (x : Instr) → fetch C.procedures f.proc f.place ≡ Some x → (Some x ≡ Some Play → ⊥)
        → N.left f.proc f.place ≤ top.own
    whole x is other = whole_by (Some x) is other top.share

    -- at `Play` it is what the notes bring that aren't run yet, and what is left after it
    playing_by : fetch C.procedures f.proc f.place ≡ Some Play → Share C c N f fs top.own
        → debt c N (later f.cursor (suc f.base)) (f ∷ fs) + N.left f.proc (f.place + 1) ≤ top.own
    playing_by is (Playing at h) = h
    playing_by is (Whole h) =
        let enough = ok f.proc f.place Play is in
        let both = s.joins (N.owed f.proc f.place) (N.left f.proc (f.place + 1)) in
        let less = debt_later c N (suc f.base) (later f.cursor (suc f.base)) (f ∷ fs)
        (later_both f.cursor (suc f.base)).1 in
        omega (arith, h, enough.0, both, less, top.owes)

    playing : fetch C.procedures f.proc f.place ≡ Some Play
        → debt c N (later f.cursor (suc f.base)) (f ∷ fs) + N.left f.proc (f.place + 1) ≤ top.own
    playing is = playing_by is top.share

    -- ---- what a step makes of the frames

    -- the top frame goes on, and so much is counted
    goes : (v : World) (now' : Now) (r' : ℕ) (f' : Frame) (a : ℕ) → end_amount c v ≡ a + end_amount c w
        → a + N.left f'.proc f'.place ≤ top.own → Owes c N f' fs
        → StaysPaid C c N most (Goes (machine v now' r' (f' ∷ fs)))
    goes v now' r' f' a is h owes = record {
      still = N.left f'.proc f'.place + top.rest;
      enough = omega (arith, is, h, top.enough, paid.enough);
      frames = record {
        own = N.left f'.proc f'.place;
        rest = top.rest;
        enough = omega arith;
        share = Whole (omega arith);
        owes = owes;
        below = top.below;
      };
    }

    -- a new frame is pushed, and so much is counted
    pushes : (v : World) (now' : Now) (f' g : Frame) (a o : ℕ) → end_amount c v ≡ a + end_amount c w
        → a + N.left g.proc g.place + o ≤ top.own → Owes c N g (f' ∷ fs) → Share C c N f' fs o → Owes c N f' fs
        → StaysPaid C c N most (Goes (machine v now' r (g ∷ f' ∷ fs)))
    pushes v now' f' g a o is h owes share owes' = record {
      still = N.left g.proc g.place + (o + top.rest);
      enough = omega (arith, is, h, top.enough, paid.enough);
      frames = record {
        own = N.left g.proc g.place;
        rest = o + top.rest;
        enough = omega arith;
        share = Whole (omega arith);
        owes = owes;
        below = record {
          own = o;
          rest = top.rest;
          enough = omega arith;
          share = share;
          owes = owes';
          below = top.below;
        };
      };
    }

    -- the top frame is dropped
    dropped : (now' : Now) (r' : ℕ) → StaysPaid C c N most (Goes (machine w now' r' fs))
    dropped now' r' = record { still = top.rest; enough = omega (arith, top.enough, paid.enough); frames = top.below }

    -- a run ends with no more than before
    ends : (fault : Option Fault) → MayFault c C.bounds most fault → StaysPaid C c N most (Stops w fault)
    ends fault may = (omega (arith, paid.enough), may)

    -- ---- the forms of a step

    -- a step that may fault
    if_ok_paid : (P : World → Type 0) (F : Fault → Type 0) (o : Result World Fault) (go : World → Next) → Leaves P F o
        → ((v : World) → P v → StaysPaid C c N most (go v)) → ((x : Fault) → F x → MayFault c C.bounds most (Some x))
        → StaysPaid C c N most (if_ok o w go)
    if_ok_paid P F (Ok v) go l t u = t v l
    if_ok_paid P F (Err x) go l t u = ends (Some x) (u x l)

    -- a test
    test_paid : (o : Result Bool Fault) (a b : Next) → Leaves Any IsOfValue o → StaysPaid C c N most a
        → StaysPaid C c N most b → StaysPaid C c N most (test_next o w a b)
    test_paid (Err x) a b l y n = ends (Some x) (s.value C.bounds most x l)
    test_paid (Ok true) a b l y n = y
    test_paid (Ok false) a b l y n = n

    -- a step that needs depth
    deep_paid : (b : Bool) (go : Next) → StaysPaid C c N most go → StaysPaid C c N most (if_deep b w go)
    deep_paid true go y = ends (Some faults.Depth) (s.deep C.bounds most)
    deep_paid false go y = y

    -- where no step is left, the most is more than the bound
    spent : of_step c ≤ top.own → (x : Fault) → IsSpent C.bounds w x → MayFault c C.bounds most (Some x)
    spent le x is =
        subst (λ (y : Fault). MayFault c C.bounds most (Some y)) (sym is.0)
        (s.spent C.bounds w most is.1 (omega (arith, le, top.enough, paid.enough)))

    -- ---- instructions

    -- so much, and what is left at a place, is within what is left, and the place owes no less
    abbrev HasRoomAt : ℕ → ℕ → Type 0
    HasRoomAt brings j =
        (joined c brings (N.left f.proc j) ≤ N.left f.proc f.place) × (N.owed f.proc f.place ≤ N.owed f.proc j)

    -- an instruction that only goes on
    plain : (x : Instr) → fetch C.procedures f.proc f.place ≡ Some x → (Some x ≡ Some Play → ⊥) → (v : World)
        → IsSame w v → (j : ℕ) (f' : Frame) → HasRoomAt 0 j → f'.proc ≡ f.proc → f'.place ≡ j → Owes c N f' fs
        → StaysPaid C c N most (Goes (machine v now r (f' ∷ fs)))
    plain x is other v same j f' on p i owes =
        let q = ap (λ (z : ℕ). N.left z f'.place) p in
        let q' = ap (N.left f.proc) i in
        let both = s.joins 0 (N.left f.proc j) in
        goes v now r f' 0 (omega (arith, s.same w v same)) (omega (arith, on.0, both, q, q', whole x is other)) owes

    -- the next place owes enough
    next_owes : (brings : ℕ) → HasRoomAt brings (f.place + 1) → Owes c N (next f) fs
    next_owes brings on = omega (arith, on.1, top.owes)

    -- and so does a place past others
    past_owes : (k : ℕ) → HasRoomAt 0 (f.place + 1 + k) → Owes c N (past f k) fs
    past_owes k on = omega (arith, on.1, top.owes)

    -- a call
    calls : (x : Instr) → fetch C.procedures f.proc f.place ≡ Some x → (Some x ≡ Some Play → ⊥) → (v : World)
        → (now' : Now) (g : Frame) (a brings : ℕ) → end_amount c v ≡ a + end_amount c w → g.place ≡ 0
        → a + N.left g.proc 0 ≤ brings → HasRoomAt brings (f.place + 1) → Owes c N g (next f ∷ fs)
        → StaysPaid C c N most (Goes (machine v now' r (g ∷ next f ∷ fs)))
    calls x is other v now' g a brings more i le on owes =
        let both = s.joins brings (N.left f.proc (f.place + 1)) in
        let q = ap (N.left g.proc) i in
        pushes v now' (next f) g a (N.left f.proc (f.place + 1)) more
        (omega (arith, on.0, both, q, le, whole x is other)) owes (Whole (omega arith)) (next_owes brings on)

    -- a send
    sent_paid : (x : Instr) → fetch C.procedures f.proc f.place ≡ Some x → (Some x ≡ Some Play → ⊥) → (v : World)
        (b : Bool) (e p : ℕ) → IsPaid w v → HasRoomAt (of_step c + of_send c + N.left p 0) (f.place + 1)
        → StaysPaid C c N most (Goes (sent b e p v now r f fs))
    sent_paid x is other v true e p u on =
        calls x is other v (deeper e now) (fresh p None (suc (length fs)) 0 (Some now.event)) (of_step c)
        (of_step c + of_send c + N.left p 0) (s.pays w v u) refl (omega arith) on
        (own_base c N (fresh p None (suc (length fs)) 0 (Some now.event)) (next f ∷ fs) refl)
    sent_paid x is other v false e p u on =
        let brings = of_step c + of_send c + N.left p 0 in
        let both = s.joins brings (N.left f.proc (f.place + 1)) in
        goes v now r (next f) (of_step c) (s.pays w v u) (omega (arith, on.0, both, whole x is other))
        (next_owes brings on)

    -- a payment for an instruction
    pays : (x : Instr) → fetch C.procedures f.proc f.place ≡ Some x → (Some x ≡ Some Play → ⊥) → (brings : ℕ)
        → of_step c ≤ brings → HasRoomAt brings (f.place + 1) → (go : World → Next)
        → ((v : World) → IsPaid w v → StaysPaid C c N most (go v))
        → StaysPaid C c N most (if_ok (paid_in C.bounds w) w go)
    pays x is other brings le on go t =
        let both = s.joins brings (N.left f.proc (f.place + 1)) in
        if_ok_paid (IsPaid w) (IsSpent C.bounds w) (paid_in C.bounds w) go (paid_leaves C.bounds w) t
        (spent (omega (arith, le, on.0, both, whole x is other)))

    -- `Pass`
    pass_paid : (x : ℕ) → fetch C.procedures f.proc f.place ≡ Some Pass → StaysPaid C c N most (pass_on w now x f fs)
    pass_paid zero is =
        let on = ok f.proc f.place Pass is in
        let both = s.joins 0 (N.left f.proc (f.place + 1)) in
        goes w now 0 (next f) 0 (omega arith) (omega (arith, on.0, both, whole Pass is (λ q. absurd (cc q))))
        (next_owes 0 on)
    pass_paid (suc x) is = dropped (now_after f.saved now) (suc x)

    -- `Play` that runs nothing more
    play_on : fetch C.procedures f.proc f.place ≡ Some Play
        → StaysPaid C c N most (Goes (machine w now r (next f ∷ fs)))
    play_on is =
        goes w now r (next f) 0 (omega arith) (omega (arith, playing is))
        (next_owes (N.owed f.proc f.place) (ok f.proc f.place Play is))

    -- `Play` that found a note
    play_if : fetch C.procedures f.proc f.place ≡ Some Play → (x : ℕ × ℕ)
        → joined c (of_play c N (Some x.1)) (debt c N (suc x.0) (f ∷ fs))
        ≤ debt c N (later f.cursor (suc f.base)) (f ∷ fs)
        → (b : Bool) → StaysPaid C c N most
        (if b then if_ok (paid_in C.bounds w) w (λ v. Goes (machine v now r
        (fresh x.1 None (suc (length fs)) f.home None ∷ record f { cursor = suc x.0 } ∷ fs)))
        else Goes (machine w now r (next f ∷ fs)))
    play_if is x first true =
        let f' = record f { cursor = suc x.0 } in
        let both = s.joins (of_play c N (Some x.1)) (debt c N (suc x.0) (f ∷ fs)) in
        let less = debt_later c N (suc x.0) (later (suc x.0) (suc f.base)) (f ∷ fs)
        (later_both (suc x.0) (suc f.base)).0 in
        let still = debt c N (later (suc x.0) (suc f.base)) (f ∷ fs) + N.left f.proc (f.place + 1) in
        if_ok_paid (IsPaid w) (IsSpent C.bounds w) (paid_in C.bounds w) _ (paid_leaves C.bounds w)
        (λ v u. pushes v now f' (fresh x.1 None (suc (length fs)) f.home None) (of_step c) still (s.pays w v u)
        (omega (arith, first, both, less, playing is))
        (own_base c N (fresh x.1 None (suc (length fs)) f.home None) (f' ∷ fs) refl)
        (Playing is (omega arith)) (omega (arith, top.owes)))
        (spent (omega (arith, first, both, playing is)))
    play_if is x first false = play_on is

    -- `Play`
    play_paid : fetch C.procedures f.proc f.place ≡ Some Play → (o : Option (ℕ × ℕ))
        → noted (later f.cursor (suc f.base)) (f ∷ fs) ≡ o → StaysPaid C c N most (play_next C o w now r f fs)
    play_paid is None q = play_on is
    play_paid is (Some x) q =
        play_if is x (debt_first c N (later f.cursor (suc f.base)) (f ∷ fs) x q) (is_bare C.tree f.home w.marks)

    -- whatever instruction stands at the place
    act_paid : (o : Option Instr) → fetch C.procedures f.proc f.place ≡ o
        → StaysPaid C c N most (act C o w now r f fs)
    act_paid None q = ends None (s.none C.bounds most)
    act_paid (Some (Assign v e)) q =
        let on = ok f.proc f.place (Assign v e) q in
        if_ok_paid (IsSame w) IsOfValue (assigned_in v e w) _ (assign_leaves v e w)
        (λ u same. plain (Assign v e) q (λ d. absurd (cc d)) u same (f.place + 1) (next f) on refl refl
        (next_owes 0 on))
        (s.value C.bounds most)
    act_paid (Some (Emit e)) q =
        let on = ok f.proc f.place (Emit e) q in
        let both = s.joins (of_step c + of_output c) (N.left f.proc (f.place + 1)) in
        pays (Emit e) q (λ d. absurd (cc d)) (of_step c + of_output c) (omega arith) on _
        (λ v u. goes (emitted e v) now r (next f) (of_step c + of_output c)
        (omega (arith, s.puts e v, s.pays w v u)) (omega (arith, on.0, both, whole (Emit e) q (λ d. absurd (cc d))))
        (next_owes (of_step c + of_output c) on))
    act_paid (Some (Mark x)) q =
        let on = ok f.proc f.place (Mark x) q in
        plain (Mark x) q (λ d. absurd (cc d)) (mark_in C.tree x w) (mark_same C.tree x w) (f.place + 1) (next f) on refl
        refl (next_owes 0 on)
    act_paid (Some (Clear x)) q =
        let on = ok f.proc f.place (Clear x) q in
        plain (Clear x) q (λ d. absurd (cc d)) (clear_in C.tree x w) (clear_same C.tree x w) (f.place + 1) (next f) on
        refl refl (next_owes 0 on)
    act_paid (Some (Keep x)) q =
        let on = ok f.proc f.place (Keep x) q in
        plain (Keep x) q (λ d. absurd (cc d)) (keep_in C.tree x w) (keep_same C.tree x w) (f.place + 1) (next f) on refl
        refl (next_owes 0 on)
    act_paid (Some (Unless k test)) q =
        let on = ok f.proc f.place (Unless k test) q in
        test_paid (holds C.tree test w now r f.home) _ _ (holds_leaves C.tree test w now r f.home)
        (plain (Unless k test) q (λ d. absurd (cc d)) w (refl, refl) (f.place + 1) (next f) on.0 refl refl
        (next_owes 0 on.0))
        (plain (Unless k test) q (λ d. absurd (cc d)) w (refl, refl) (f.place + 1 + k) (past f k) on.1 refl refl
        (past_owes k on.1))
    act_paid (Some (Skip k)) q =
        let on = ok f.proc f.place (Skip k) q in
        plain (Skip k) q (λ d. absurd (cc d)) w (refl, refl) (f.place + 1 + k) (past f k) on refl refl (past_owes k on)
    act_paid (Some (Call p tag)) q =
        let on = ok f.proc f.place (Call p tag) q in
        calls (Call p tag) q (λ d. absurd (cc d)) w now (fresh p tag f.base f.home None) 0
        (of_note c tag + N.left p 0) (omega arith) refl (omega arith) on.0
        (called_owes c N p tag f (next f) fs refl top.owes on.1)
    act_paid (Some (Visit p tag)) q =
        let on = ok f.proc f.place (Visit p tag) q in
        pays (Visit p tag) q (λ d. absurd (cc d)) (of_step c + of_note c tag + N.left p 0) (omega arith)
        on.0 _
        (λ v u. calls (Visit p tag) q (λ d. absurd (cc d)) v now (fresh p tag f.base f.home None) (of_step c)
        (of_step c + of_note c tag + N.left p 0) (s.pays w v u) refl (omega arith) on.0
        (called_owes c N p tag f (next f) fs refl top.owes on.1))
    act_paid (Some (Send e)) q =
        let on = ok f.proc f.place (Send e) q in
        let p = C.procedures.react in
        deep_paid (nat_le C.bounds.depth now.depth) _
        (pays (Send e) q (λ d. absurd (cc d)) (of_step c + of_send c + N.left p 0) (omega arith) on _
        (λ v u. sent_paid (Send e) q (λ d. absurd (cc d)) v true e p u on))
    act_paid (Some (SendTo e x p)) q =
        let on = ok f.proc f.place (SendTo e x p) q in
        deep_paid (nat_le C.bounds.depth now.depth) _
        (pays (SendTo e x p) q (λ d. absurd (cc d)) (of_step c + of_send c + N.left p 0) (omega arith) on _
        (λ v u. sent_paid (SendTo e x p) q (λ d. absurd (cc d)) v (is_on x v.marks) e p u on))
    act_paid (Some Play) q = play_paid q (noted (later f.cursor (suc f.base)) (f ∷ fs)) refl
    act_paid (Some (Home x)) q =
        let on = ok f.proc f.place (Home x) q in
        plain (Home x) q (λ d. absurd (cc d)) w (refl, refl) (f.place + 1) (next (record f { home = x })) on refl refl
        (omega (arith, on.1, top.owes))
    act_paid (Some Begin) q =
        let on = ok f.proc f.place Begin q in
        let both = s.joins 0 (N.left f.proc (f.place + 1)) in
        goes w now r (next (record f { base = length fs })) 0 (omega arith)
        (omega (arith, on, both, whole Begin q (λ d. absurd (cc d))))
        (own_base c N (next (record f { base = length fs })) fs refl)
    act_paid (Some Pass) q = pass_paid r q
    act_paid (Some (Ret x)) q = dropped (now_after f.saved now) x

  -- a step
  step_on : (w : World) (now : Now) (r : ℕ) (fs : List Frame) → IsPaidFor C c N most (machine w now r fs)
      → StaysPaid C c N most (act_on C w now r fs)
  step_on w now r [] paid = (omega (arith, paid.enough), s.none C.bounds most)
  step_on w now r (f ∷ fs) paid = act_paid w now r f fs paid (fetch C.procedures f.proc f.place) refl

  -- what follows a step
  paid_then : (o : Next) (go : CodeState → Next) → StaysPaid C c N most o
      → ((m : CodeState) → IsPaidFor C c N most m → StaysPaid C c N most (go m)) → StaysPaid C c N most (next_then o go)
  paid_then (Goes m) go k t = t m k
  paid_then (Stops w x) go k t = k

  -- a run that is paid for stays so
  ahead_paid : (n : ℕ) (m : CodeState) → IsPaidFor C c N most m → StaysPaid C c N most (ahead C n m)
  ahead_paid zero m paid = paid
  ahead_paid (suc n) m paid =
      paid_then (step C m) (ahead C n) (step_on m.world m.now m.result m.frames paid) (λ m' k. ahead_paid n m' k)

  -- so there is no more than the most
  within : (o : Next) → StaysPaid C c N most o → IsWithin c C.bounds most o
  within (Goes m) paid = omega (arith, s.amounts m, paid.enough)
  within (Stops w x) paid = paid

  -- a run from one frame, with nothing counted so far
  pub sum_within : (n : ℕ) (w : World) (now : Now) (p : ℕ) → end_amount c w ≡ 0 → N.left p 0 ≤ most
      → IsWithin c C.bounds most (ahead C n (machine w now 0 (fresh p None 0 0 None ∷ [])))
  sum_within n w now p none le =
      within (ahead C n (machine w now 0 (fresh p None 0 0 None ∷ [])))
      (ahead_paid n (machine w now 0 (fresh p None 0 0 None ∷ [])) (record {
        still = N.left p 0;
        enough = omega (arith, none, le);
        frames = record {
          own = N.left p 0;
          rest = 0;
          enough = omega arith;
          share = Whole (omega arith);
          owes = own_base c N (fresh p None 0 0 None) [] refl;
          below = tt;
        };
      }))
