-- Code and its copy go on side by side: the code jumps first, and then both take a step of the same kind.
use Rattle.std.proofs.Common.{◌≡◌, ℕ, zero, suc, ◌+◌, Bool, true, List, ◌∷◌, drop, Option, Some, None}
use Rattle.std.proofs.Common.{false, refl, sym, ap, subst}
use Rattle.std.specs.Prelude.{nat_le}
use Rattle.flow_base.specs.declared.bounds.Bounds.{Bounds}
use Rattle.active_config.specs.Tree.{Tree}
use Rattle.active_config.specs.Marks.{is_on, is_bare}
use Rattle.actions.specs.World.{World}
use Rattle.actions.specs.Changes.{paid_in, assigned_in}
use Rattle.actions.specs.Work.{Now}
use Rattle.code_language.specs.Code.{Procedures, instructions}
use Rattle.code_language.specs.Instrs.{Instr, Unless, Skip, Ret}
use Rattle.code_language.specs.Instrs as instrs
use Rattle.code_language.specs.Machine.{Program, Frame, CodeState, machine, fresh, next, holds, now_after, pass_on}
use Rattle.code_language.specs.Machine.{noted, later, sent, play_next, act}
use Rattle.code_language.specs.Machine as m
use Rattle.code_language.specs.Reactions.{first_frame}
use Rattle.code_language.proofs.Tails.{further, onward}
use Rattle.code_shrink.specs.Follows.{note_by, renamed, NoteIn, NamesIn, goes_on}
use Rattle.code_shrink.specs.Follows.{Follows, Nothing, Goes, Returns, Tests, Passes, Jumps, AreCopied}
use Rattle.code_shrink.proofs.Simulation.{Alike, Go, Stop, alike_if, alike_test, alike_deep, alike_either, Ahead}
use Rattle.code_shrink.proofs.Simulation.{at_once, first_alone, LeadAlike, lead_alike}
use Rattle.code_shrink.proofs.Pairs.{twin, Paired, End, Both, same_length, Notes, Neither, Each, Found, Nowhere, There}
use Rattle.code_shrink.proofs.Pairs.{found_alike, head_of, acts_at}
use Rattle.code_shrink.proofs.Jumping.{jumped}

module _ (R : ℕ → Bool) (n : ℕ → ℕ) (k k' : Procedures) (copied : AreCopied R n k k') (t : Tree) (b : Bounds) where
  -- the code under bounds
  abbrev pub code : Program
  code = record { tree = t; bounds = b; procedures = k }

  -- the copy under the same bounds
  abbrev pub copy : Program
  copy = record { tree = t; bounds = b; procedures = k' }

  -- from place i' of its procedure p' on the copy does what the code does from place i of procedure p on
  abbrev Further : ℕ → ℕ → ℕ → ℕ → Type 0
  Further p i p' i' = Follows R n (drop i (instructions k p)) (drop i' (instructions k' p'))

  -- the same from the beginning of the procedures on
  abbrev Begins : ℕ → ℕ → Type 0
  Begins p p' = Further p 0 p' 0

  -- a frame and its twin
  pub record Good (now : Now) (f : Frame) (p i : ℕ) (tag : Option ℕ) : Type 0 where
    pub code : Further f.proc f.place p i
    pub note : Notes Begins f.note tag

  -- states whose frames are paired
  pub data Beside : CodeState → CodeState → Type 0 where
    Frames : {w : World} {now : Now} {r : ℕ} {fs fs' : List Frame} → Paired Good now fs fs'
        → Beside (machine w now r fs) (machine w now r fs')

  -- a copied procedure begins as its copy does
  begins : (p p' : ℕ) → R p ≡ true → p' ≡ n p → Begins p p'
  begins p p' h e = subst (λ q. Begins p q) (sym e) (copied.each p h)

  -- a note that is copied
  noted_by : (tag : Option ℕ) → NoteIn R tag → Notes Begins tag (note_by n tag)
  noted_by None h = Neither
  noted_by (Some p) h = Each (copied.each p h)

  -- what follows, at the places where it stands
  at_places : {xs ys is is' : List Instr} → Follows R n xs ys → is ≡ xs → is' ≡ ys → Follows R n is is'
  at_places {xs = xs} {is' = is'} h e e' =
      subst (λ l. Follows R n l is') (sym e) (subst (λ l. Follows R n xs l) (sym e') h)

  module _ (w : World) (now : Now) (r : ℕ) (f : Frame) (p base : ℕ) (tag : Option ℕ) (fs fs' : List Frame)
      (note : Notes Begins f.note tag) (same : base ≡ f.base) (under : Paired Good (now_after f.saved now) fs fs') where
    -- the frame of the code at a place
    abbrev left : ℕ → Frame
    left i = record f { place = i }

    -- the frame of the copy at a place
    abbrev right : ℕ → Frame
    right i' = twin f p i' tag base

    -- the instructions of the code
    abbrev is : List Instr
    is = instructions k f.proc

    -- the instructions of the copy
    abbrev is' : List Instr
    is' = instructions k' p

    -- the frames at places from which on the copy does what the code does
    at : {i i' : ℕ} → Further f.proc i p i' → Paired Good now (left i ∷ fs) (right i' ∷ fs')
    at h = Both (record { code = h; note = note }) same under

    -- both go on there
    moves : {v : World} {i i' : ℕ} → Further f.proc i p i'
        → Alike Beside (m.Goes (machine v now r (left i ∷ fs))) (m.Goes (machine v now r (right i' ∷ fs')))
    moves h = Go (Frames (at h))

    module _ (i i' : ℕ) where
      -- the frame of the code
      abbrev g : Frame
      g = left i

      -- the frame of the copy
      abbrev g' : Frame
      g' = right i'

      -- the same from the next places on
      abbrev Onward : Type 0
      Onward = Further f.proc (i + 1) p (i' + 1)

      -- a call
      calls : {v : World} {q q' : ℕ} {t t' : Option ℕ} → Begins q q' → Notes Begins t t' → Onward
          → Alike Beside (m.Goes (machine v now r (fresh q t f.base f.home None ∷ next g ∷ fs)))
          (m.Goes (machine v now r (fresh q' t' base f.home None ∷ next g' ∷ fs')))
      calls begin notes h = Go (Frames (Both (record { code = begin; note = notes }) same (at h)))

      -- a send
      sends : (heard : Bool) (e q q' : ℕ) (v : World) → Begins q q' → Onward
          → Alike Beside (m.Goes (sent heard e q v now r g fs)) (m.Goes (sent heard e q' v now r g' fs'))
      sends false e q q' v begin h = moves h
      sends true e q q' v begin h =
          Go (Frames (Both (record { code = begin; note = Neither }) (ap suc (same_length under)) (at h)))

      -- a result is passed on
      passes : (x : ℕ) → Onward → Alike Beside (pass_on w now x g fs) (pass_on w now x g' fs')
      passes zero h = Go (Frames (at h))
      passes (suc x) h = Go (Frames under)

      -- `Play`, by what both find
      plays : {o o' : Option (ℕ × ℕ)} → Found Begins o o' → Onward → Further f.proc i p i'
          → Alike Beside (play_next code o w now r g fs) (play_next copy o' w now r g' fs')
      plays Nowhere h here = moves h
      plays (There begin) h here = alike_either (is_bare t f.home w.marks)
          (alike_if (paid_in b w) w (λ v _. Go (Frames
          (Both (record { code = begin; note = Neither }) (ap suc (same_length under))
          (Both (record { code = here; note = note }) same under)))))
          (moves h)

      -- an instruction that goes on does in the copy what it does in the code
      both_go : (x : Instr) → goes_on x ≡ true → NamesIn R x → Onward → Further f.proc i p i'
          → Alike Beside (act code (Some x) w now r g fs) (act copy (Some (renamed n x)) w now r g' fs')
      unfolding goes_on NamesIn renamed
      both_go (instrs.Assign v e) y named h here = alike_if (assigned_in v e w) w (λ u _. moves h)
      both_go (instrs.Emit e) y named h here = alike_if (paid_in b w) w (λ u _. moves h)
      both_go (instrs.Mark s) y named h here = moves h
      both_go (instrs.Clear s) y named h here = moves h
      both_go (instrs.Keep s) y named h here = moves h
      both_go (Unless j c) y named h here = absurd (cc y)
      both_go (Skip j) y named h here = absurd (cc y)
      both_go (instrs.Call q t) y named h here = calls (copied.each q named.0) (noted_by t named.1) h
      both_go (instrs.Visit q t) y named h here =
          alike_if (paid_in b w) w (λ u _. calls (copied.each q named.0) (noted_by t named.1) h)
      both_go (instrs.Send e) y named h here = alike_deep (nat_le b.depth now.depth) w (alike_if (paid_in b w) w
          (λ u _. sends true e k.react k'.react u (begins k.react k'.react copied.react copied.react_at) h))
      both_go (instrs.SendTo e s q) y named h here = alike_deep (nat_le b.depth now.depth) w
          (alike_if (paid_in b w) w (λ u _. sends (is_on s u.marks) e q (n q) u (copied.each q named) h))
      both_go instrs.Play y named h here =
          plays (subst (λ c. Found Begins (noted (later f.cursor (suc f.base)) (g ∷ fs))
          (noted (later f.cursor (suc c)) (g' ∷ fs'))) (sym same)
          (found_alike (λ _ _ _ _ _ q. q.note) (later f.cursor (suc f.base)) (at here))) h here
      both_go (instrs.Home s) y named h here = Go (Frames (Both (record { code = h; note = note }) same under))
      both_go instrs.Begin y named h here =
          Go (Frames (Both (record { code = h; note = note }) (same_length under) under))
      both_go instrs.Pass y named h here = passes r h
      both_go (Ret x) y named h here = absurd (cc y)

      -- both take a step by what stands there
      both_act : {xs ys : List Instr} → drop i is ≡ xs → drop i' is' ≡ ys
          → Alike Beside (act code (head_of xs) w now r g fs) (act copy (head_of ys) w now r g' fs')
          → Ahead Beside code copy (machine w now r (g ∷ fs)) (machine w now r (g' ∷ fs'))
      both_act e e' h = at_once (acts_at code w now r g fs e) (acts_at copy w now r g' fs' e') h

    -- from these frames on code and copy go on side by side
    ahead : (i i' : ℕ) (xs ys : List Instr) → Follows R n xs ys → drop i is ≡ xs → drop i' is' ≡ ys
        → Ahead Beside code copy (machine w now r (left i ∷ fs)) (machine w now r (right i' ∷ fs'))
    ahead i i' xs ys Nothing e e' = both_act i i' e e' Stop
    ahead i i' xs ys (Goes x rest rest' y named h) e e' =
        both_act i i' e e' (both_go i i' x y named (at_places h (onward is i e) (onward is' i' e'))
        (at_places (Goes x rest rest' y named h) e e'))
    ahead i i' xs ys (Returns x rest rest') e e' = both_act i i' e e' (Go (Frames under))
    ahead i i' xs ys (Tests j j' c rest rest' h l) e e' =
        both_act i i' e e' (alike_test (holds t c w now r f.home) w
        (λ _. moves (at_places h (onward is i e) (onward is' i' e')))
        (λ _. moves (at_places l (further is i j e) (further is' i' j' e'))))
    ahead i i' xs ys (Passes _ after _ slides h) e e' =
        let x = jumped code (left i) xs after slides e in
        first_alone (x.by w now r fs) (ahead x.to i' after ys h x.there e')
    ahead i i' xs ys (Jumps _ after _ after' slides slides' h) e e' =
        let x = jumped code (left i) xs after slides e in
        let x' = jumped copy (right i') ys after' slides' e' in
        at_once (x.by w now r fs) (x'.by w now r fs') (moves (at_places h x.there x'.there))

  -- from states beside each other on
  goes_ahead : (a a' : CodeState) → Beside a a' → Ahead Beside code copy a a'
  goes_ahead a a' (Frames End) = at_once refl refl Stop
  goes_ahead a a' (Frames {w = w} {now = now} {r = r}
      (Both {f = f} {p = p} {i = i} {base = base} {tag = tag} {fs = fs} {fs' = fs'} good same under)) =
      ahead w now r f p base tag fs fs' good.note same under f.place i (drop f.place (instructions k f.proc))
      (drop i (instructions k' p)) good.code refl refl

  -- both lead to the same moments
  pub copy_leads : (p p' : ℕ) → R p ≡ true → p' ≡ n p → (w : World) (now : Now)
      → LeadAlike code copy (first_frame p w now) (first_frame p' w now)
  copy_leads p p' h e w now =
      lead_alike goes_ahead (Frames (Both (record { code = begins p p' h e; note = Neither }) refl End))
