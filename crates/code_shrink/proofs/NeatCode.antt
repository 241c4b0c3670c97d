-- Smaller code is neat.
use Rattle.std.proofs.Common.{◌≡◌, ◌<◌, inl, inr, ⊎_elim, ℕ, zero, suc, Bool, true, false, List, [], ◌∷◌, length}
use Rattle.std.proofs.Common.{drop, Some}
use Rattle.std.proofs.Common.{refl, sym, ap, ◌∙◌, subst, arith}
use Rattle.std.specs.Prelude.{slice_get, slice_index_or, not, ◌&&◌}
use Rattle.code_language.specs.Code.{Procedures, instructions, fetch}
use Rattle.code_language.specs.Instrs.{Instr, Assign, Emit, Mark, Clear, Keep, Unless, Skip, Call, Visit, Send}
use Rattle.code_language.specs.Instrs.{SendTo, Play, Home, Begin, Pass, Ret}
use Rattle.code_language.proofs.Sound.{or_none, instructions_at}
use Rattle.code_shrink.specs.Follows.{renamed, note_by}
use Rattle.code_shrink.specs.Neat.{Names, IsReached, AtStart, AtReaction, Named, IsNeat, IsNeatProcedure}
use Rattle.code_shrink.specs.Smaller.{count, one_if, keeps, is_idle, straight, smaller, recounted}
use Rattle.code_shrink.specs.Whole.{keep_if, is_live, number_in, collected, smaller_procedures, AreReached}
use Rattle.code_shrink.specs.Whole.{IsLive, LiveStart, LiveReaction, LiveNamed, AllReached, IsExact}
use Rattle.code_shrink.proofs.Placed.{kept_at, kept_where}
use Rattle.code_shrink.proofs.Tidy.{smaller_is_neat}

-- what names a procedure isn't idle
namer_busy : (x : Instr) (rest : List Bool) (q : ℕ) → Names x q → is_idle x rest ≡ false
namer_busy (Assign v x) rest q h = refl
namer_busy (Emit e) rest q h = refl
namer_busy (Mark s) rest q h = refl
namer_busy (Clear s) rest q h = refl
namer_busy (Keep s) rest q h = refl
namer_busy (Call p tag) rest q h = refl
namer_busy (Visit p tag) rest q h = refl
namer_busy (Send e) rest q h = refl
namer_busy (SendTo e s p) rest q h = refl
namer_busy Play rest q h = refl
namer_busy (Home s) rest q h = refl
namer_busy Begin rest q h = refl
namer_busy Pass rest q h = refl
namer_busy (Unless k c) rest q h = refl
namer_busy (Ret r) rest q h = refl
namer_busy (Skip k) rest q h = absurd h

-- it names the new number
names_renamed : (m : ℕ → ℕ) (x : Instr) (rest : List Bool) (q : ℕ) → Names x q → Names (recounted m x rest) (m q)
unfolding renamed
names_renamed m (Assign v x) rest q h = absurd h
names_renamed m (Emit e) rest q h = absurd h
names_renamed m (Mark s) rest q h = absurd h
names_renamed m (Clear s) rest q h = absurd h
names_renamed m (Keep s) rest q h = absurd h
names_renamed m (Call p tag) rest q h =
    ⊎_elim (λ (e : q ≡ p). inl (ap m e)) (λ (e : tag ≡ Some q). inr (ap (note_by m) e)) h
names_renamed m (Visit p tag) rest q h =
    ⊎_elim (λ (e : q ≡ p). inl (ap m e)) (λ (e : tag ≡ Some q). inr (ap (note_by m) e)) h
names_renamed m (Send e) rest q h = absurd h
names_renamed m (SendTo e s p) rest q h = ap m h
names_renamed m Play rest q h = absurd h
names_renamed m (Home s) rest q h = absurd h
names_renamed m Begin rest q h = absurd h
names_renamed m Pass rest q h = absurd h
names_renamed m (Unless k c) rest q h = absurd h
names_renamed m (Skip k) rest q h = absurd h
names_renamed m (Ret r) rest q h = absurd h

-- something stands before the end only
within : (t : List Instr) (i : ℕ) (x : Instr) → slice_get t i ≡ Some x → i < length t
within [] i x e = absurd (cc e)
within (y ∷ t) zero x e = omega arith
within (y ∷ t) (suc i) x e = omega (arith, within t i x e)

-- a procedure stands before the end
pub proc_at_place : (ps : List (List Instr)) (i : ℕ) → i < length ps → (is : List Instr) × (slice_get ps i ≡ Some is)
proc_at_place [] i h = absurd (omega arith)
proc_at_place (is ∷ ps) zero h = (is, refl)
proc_at_place (is ∷ ps) (suc i) h = proc_at_place ps i (omega (arith, h))

-- where a kept procedure stands, and that its flags are right
pub record StandsReached (m : ℕ → ℕ) (live : List Bool) (flags : List (List Bool)) (procs : List (List Instr))
    (p : ℕ) : Type 0 where
  pub marks : List Bool
  pub reached : AreReached (straight (slice_index_or procs p [])) marks
  pub there : slice_index_or (collected m live flags procs) (count p live) [] ≡ smaller m marks
      (slice_index_or procs p [])

-- past a procedure that may be kept
past_kept : (b : Bool) (is : List Instr) (n : ℕ) (out : List (List Instr))
    → slice_index_or (keep_if b is out) (one_if b n) [] ≡ slice_index_or out n []
past_kept true is n out = refl
past_kept false is n out = refl

-- each kept procedure stands so
stands_reached : (m : ℕ → ℕ) (live : List Bool) (flags : List (List Bool)) (procs : List (List Instr)) (p : ℕ)
    → AllReached live flags procs → is_live live p ≡ true → StandsReached m live flags procs p
stands_reached m [] [] [] p all h = absurd (cc h)
stands_reached m [] [] (is ∷ procs) p all h = absurd all
stands_reached m [] (bs ∷ flags) procs p all h = absurd all
stands_reached m (b ∷ live) [] procs p all h = absurd all
stands_reached m (b ∷ live) (bs ∷ flags) [] p all h = absurd all
stands_reached m (false ∷ live) (bs ∷ flags) (is ∷ procs) zero all h = absurd (cc h)
stands_reached m (true ∷ live) (bs ∷ flags) (is ∷ procs) zero all h =
    record { marks = bs; reached = all.0 refl; there = refl }
stands_reached m (b ∷ live) (bs ∷ flags) (is ∷ procs) (suc p) all h =
    let s = stands_reached m live flags procs p all.1 h in
    record {
      marks = s.marks;
      reached = s.reached;
      there = past_kept b (smaller m bs is) (count p live) (collected m live flags procs) ∙ s.there;
    }

-- where a procedure of the smaller code comes from, and that its flags are right
pub record FromReached (m : ℕ → ℕ) (live : List Bool) (i : ℕ) (now : List Instr) : Type 0 where
  pub old : ℕ
  pub before : List Instr
  pub stays : is_live live old ≡ true
  pub at : count old live ≡ i
  pub marks : List Bool
  pub reached : AreReached (straight before) marks
  pub made : smaller m marks before ≡ now

-- each comes so
from_reached : (m : ℕ → ℕ) (live : List Bool) (flags : List (List Bool)) (procs : List (List Instr)) (i : ℕ)
    (now : List Instr)
    → AllReached live flags procs → slice_get (collected m live flags procs) i ≡ Some now → FromReached m live i now
from_reached m [] [] [] i now all e = absurd (cc e)
from_reached m [] [] (is ∷ procs) i now all e = absurd all
from_reached m [] (bs ∷ flags) procs i now all e = absurd all
from_reached m (b ∷ live) [] procs i now all e = absurd all
from_reached m (b ∷ live) (bs ∷ flags) [] i now all e = absurd all
from_reached m (true ∷ live) (bs ∷ flags) (is ∷ procs) zero now all e =
    let made : smaller m bs is ≡ now = cc e in
    record { old = 0; before = is; stays = refl; at = refl; marks = bs; reached = all.0 refl; made = made }
from_reached m (true ∷ live) (bs ∷ flags) (is ∷ procs) (suc i) now all e =
    let f = from_reached m live flags procs i now all.1 e in
    record {
      old = suc f.old;
      before = f.before;
      stays = f.stays;
      at = ap suc f.at;
      marks = f.marks;
      reached = f.reached;
      made = f.made;
    }
from_reached m (false ∷ live) (bs ∷ flags) (is ∷ procs) i now all e =
    let f = from_reached m live flags procs i now all.1 e in
    record {
      old = suc f.old;
      before = f.before;
      stays = f.stays;
      at = f.at;
      marks = f.marks;
      reached = f.reached;
      made = f.made;
    }

module _ (live : List Bool) (flags : List (List Bool)) (k : Procedures) (exact : IsExact live flags k) where
  -- the smaller procedures
  abbrev pub small : Procedures
  small = smaller_procedures live flags k

  -- what is reached in the straight procedures is reached in the smaller code
  live_reached : (p : ℕ) → IsLive k p → IsReached small (number_in live p)
  unfolding fetch instructions
  live_reached _ LiveStart = AtStart
  live_reached _ LiveReaction = AtReaction
  live_reached _ (LiveNamed p i q x l c e n) =
      let m = number_in live in
      let s = stands_reached m live flags k.procs p exact.places (exact.complete p l) in
      let t = straight (slice_index_or k.procs p []) in
      let mask = keeps s.marks t in
      let kept : slice_index_or mask i false ≡ true = kept_where s.marks t i x e
      ∙ ap (λ b. b && not (is_idle x (drop (suc i) mask))) (s.reached.complete i (within t i x e) c)
      ∙ ap not (namer_busy x (drop (suc i) mask) q n) in
      let there = ap (λ l. slice_get l (count i mask)) s.there ∙ kept_at m mask t i x e kept in
      Named (number_in live p) (count i mask) (number_in live q) (recounted m x (drop (suc i) mask))
      (live_reached p l) there (names_renamed m x (drop (suc i) mask) q n)

  -- Smaller code is neat.
  pub smaller_code_is_neat : IsNeat small
  unfolding instructions
  smaller_code_is_neat = record {
    reached = λ p h.
        let s = proc_at_place small.procs p h in
        let f = from_reached (number_in live) live flags k.procs p s.0 exact.places s.1 in
        subst (λ n. IsReached small n) f.at (live_reached f.old (exact.sound f.old f.stays));
    each = λ p h.
        let s = proc_at_place small.procs p h in
        let f = from_reached (number_in live) live flags k.procs p s.0 exact.places s.1 in
        let now = instructions_at small.procs p ∙ ap or_none s.1 in
        subst (λ l. IsNeatProcedure l) (f.made ∙ sym now)
        (smaller_is_neat (number_in live) f.before f.marks f.reached);
  }
