-- How code follows statements, one after another.
use Rattle.std.proofs.Common.{◌≡◌, ◌≤◌, ◌<◌, ℕ, zero, suc, ◌+◌, ◌++◌, List, [], ◌∷◌, length, drop, Option, Some, None}
use Rattle.std.proofs.Common.{Bool, true, false, cond, refl, sym, ap, ◌∙◌, subst, arith}
use Rattle.std.specs.Prelude.{slice_get, nat_lt, if◌then◌else◌}
use Rattle.std.proofs.lemmas.Bool.{le-ltb, ltb-true, ltb-false}
use Rattle.actions.specs.declared.event.Event.{Event}
use Rattle.actions.specs.Work.{Now}
use Rattle.code_language.specs.Code.{Procedures, instructions, fetch}
use Rattle.code_language.specs.Instrs.{Instr}
use Rattle.code_language.specs.Machine.{Program, Frame, CodeState, machine, later, Goes, step}
use Rattle.code_language.specs.Reach.{Reaches, with_note, pending, ReachesIn}
use Rattle.code_language.proofs.Joins.{on_to, falls_on}
use Rattle.code_language.proofs.Notes.{pending_at}
use Rattle.actions.specs.World.{World}
use Rattle.active_config.specs.Tree.{Tree}
use Rattle.c_functions.specs.Statements.{CMemory, Locals, Out, Fell, Left, Failed, Starved, Wrong}
use Rattle.c_functions.specs.Meaning.{and_on}
use Rattle.c_functions.specs.Runs.{Stands, IsAt, GoesFor, Returned, Lost, Stuck}
use Rattle.code_language.proofs.Steps.{one_step}

-- ---- places

-- the first of some instructions
abbrev pub head_of : List Instr → Option Instr
head_of [] = None
head_of (x ∷ rest) = Some x

at_place : (is : List Instr) (i : ℕ) → slice_get is i ≡ head_of (drop i is)
at_place [] zero = refl
at_place [] (suc i) = refl
at_place (x ∷ is) zero = refl
at_place (x ∷ is) (suc i) = at_place is i

-- at a place stands the first instruction from there on
pub fetched : (k : Procedures) (p i : ℕ) (xs : List Instr) → drop i (instructions k p) ≡ xs → fetch k p i ≡ head_of xs
unfolding fetch
fetched k p i xs e = at_place (instructions k p) i ∙ ap head_of e

-- ---- notes

-- what is pending depends on the note of the top frame alone
pub same_pending : (j : ℕ) (f g : Frame) (fs : List Frame) → f.note ≡ g.note → pending j (f ∷ fs) ≡ pending j (g ∷ fs)
unfolding pending
same_pending j f g fs e = ap (λ o. cond (nat_lt (length fs) j) [] (pending j fs ++ with_note o [])) e

-- ---- the later of two numbers

later_keeps : (x y : ℕ) → y ≤ x → (if nat_lt x y then y else x) ≡ x
later_keeps x y le = ap (λ d. if d then y else x) (le-ltb x y le)

pub later_at : (x y : ℕ) → y ≤ x → later x y ≡ x
later_at x y le = later_keeps x y le

later_by : (x y : ℕ) (d : Bool) → nat_lt x y ≡ d → (x ≤ (if d then y else x)) × (y ≤ (if d then y else x))
later_by x y true e = let lt = ltb-true x y e in (omega (arith, lt), omega arith)
later_by x y false e = let le = ltb-false x y e in (omega arith, omega (arith, le))

-- the later one is no less than both
pub later_over : (x y : ℕ) → (x ≤ later x y) × (y ≤ later x y)
later_over x y = later_by x y (nat_lt x y) refl

later_one : (x y z : ℕ) (d : Bool) → x ≤ z → y ≤ z → (if d then y else x) ≤ z
later_one x y z true a b = b
later_one x y z false a b = a

-- nor more than what both are at most
pub later_under : (x y z : ℕ) → x ≤ z → y ≤ z → later x y ≤ z
later_under x y z a b = later_one x y z (nat_lt x y) a b

zero_by : (y : ℕ) (d : Bool) → nat_lt 0 y ≡ d → (if d then y else 0) ≡ y
zero_by y true e = refl
zero_by y false e = let le = ltb-false 0 y e in omega (arith, le)

pub later_zero : (y : ℕ) → later 0 y ≡ y
later_zero y = zero_by y (nat_lt 0 y) refl

-- ---- numbers from a place on

-- the head of the rest
pub got : (xs : List ℕ) (j y : ℕ) (ys : List ℕ) → drop j xs ≡ y ∷ ys → slice_get xs j ≡ Some y
got [] zero y ys e = absurd cc
got [] (suc j) y ys e = absurd cc
got (x ∷ xs) zero y ys e = cc
got (x ∷ xs) (suc j) y ys e = got xs j y ys e

-- and what follows it
pub dropped : (xs : List ℕ) (j y : ℕ) (ys : List ℕ) → drop j xs ≡ y ∷ ys → drop (suc j) xs ≡ ys
dropped [] zero y ys e = absurd cc
dropped [] (suc j) y ys e = absurd cc
dropped (x ∷ xs) zero y ys e = cc
dropped (x ∷ xs) (suc j) y ys e = dropped xs j y ys e

pub within_some : (xs : List ℕ) (j y : ℕ) (ys : List ℕ) → drop j xs ≡ y ∷ ys → j < length xs
within_some [] zero y ys e = absurd cc
within_some [] (suc j) y ys e = absurd cc
within_some (x ∷ xs) zero y ys e = omega arith
within_some (x ∷ xs) (suc j) y ys e = omega (arith, within_some xs j y ys e)

pub past_none : (xs : List ℕ) (j : ℕ) → drop j xs ≡ [] → length xs ≤ j
past_none [] j e = omega arith
past_none (x ∷ xs) zero e = absurd cc
past_none (x ∷ xs) (suc j) e = omega (arith, past_none xs j e)

-- ---- what statements did

module _ (C : Program) (n : ℕ → ℕ) (now : Now) (note : Option ℕ) (saved : Option Event) (fs : List Frame) where
  -- statements that fell through: code comes from the start to where these instructions follow
  pub record Passed (start : CodeState) (ys : List Instr) (m : CMemory) (l : Locals) : Type 0 where
    pub world : World
    pub result : ℕ
    pub frame : Frame
    pub at : IsAt C.tree n C.procedures note saved ys m l world result frame fs
    pub reached : Reaches C start (machine world now result (frame ∷ fs))

module _ (C : Program) (n : ℕ → ℕ) (least : ℕ) (now : Now) (note : Option ℕ) (saved : Option Event)
    (fs : List Frame) where
  -- code does what statements did, from a start; where they were starved it goes on for so many steps
  abbrev pub Does : CodeState → List Instr → Out → Type 0
  Does start ys (Fell m l) = Passed C n now note saved fs start ys m l
  Does start ys (Left m r) = Returned C n now note saved fs start m r
  Does start ys (Failed m x) = Lost C n now note saved fs start m x
  Does start ys Starved = GoesFor C least start
  Does start ys Wrong = Stuck C start

-- ---- after some steps

-- one stretch after another is no shorter than the second
longer : (C : Program) (i j : ℕ) (m m' m'' : CodeState) → ReachesIn C i m m' → ReachesIn C j m' m''
    → (x : ℕ) × ReachesIn C x m m'' × (j ≤ x)
longer C zero j m m' m'' a b = (j, subst (λ x. ReachesIn C j x m'') (sym a) b, omega arith)
longer C (suc i) j m m' m'' a b =
    let x = longer C i j a.0 m' m'' a.2 b in (suc x.0, (a.0, a.1, x.1), omega (arith, x.2))

-- code that goes on goes on from before
goes_on : (C : Program) (least : ℕ) (s s' : CodeState) → Reaches C s s' → GoesFor C least s' → GoesFor C least s
goes_on C least s s' way h =
    let x = longer C way.steps h.steps s s' h.last way.by h.by in
    record { steps = x.0; last = h.last; by = x.1; enough = omega (arith, x.2, h.enough) }

module _ (C : Program) (n : ℕ → ℕ) (least : ℕ) (now : Now) (note : Option ℕ) (saved : Option Event)
    (fs : List Frame) where
  -- code comes to the start before
  pub does_on : (s s' : CodeState) (ys : List Instr) (o : Out) → Reaches C s s' → Does C n least now note saved fs s' ys o
      → Does C n least now note saved fs s ys o
  does_on s s' ys (Fell m l) way h =
      record { world = h.world; result = h.result; frame = h.frame; at = h.at; reached = on_to way h.reached }
  does_on s s' ys (Left m r) way h =
      record { world = h.world; stands = h.stands; notes = h.notes; reached = on_to way h.reached }
  does_on s s' ys (Failed m x) way h = record { world = h.world; stands = h.stands; falls = falls_on way h.falls }
  does_on s s' ys Starved way h = goes_on C least s s' way h
  does_on s s' ys Wrong way h =
      record { last = h.last; reached = on_to way h.reached; frames = h.frames; stops = h.stops }

  -- by one step, which counts
  pub does_step : (before : ℕ) (s s' : CodeState) (ys : List Instr) (o : Out) → before ≤ suc least → step C s ≡ Goes s'
      → Does C n least now note saved fs s' ys o → Does C n before now note saved fs s ys o
  does_step before s s' ys (Fell m l) le e h = does_on s s' ys (Fell m l) (one_step e) h
  does_step before s s' ys (Left m r) le e h = does_on s s' ys (Left m r) (one_step e) h
  does_step before s s' ys (Failed m x) le e h = does_on s s' ys (Failed m x) (one_step e) h
  does_step before s s' ys Starved le e h =
      record { steps = suc h.steps; last = h.last; by = (s', e, h.by); enough = omega (arith, le, h.enough) }
  does_step before s s' ys Wrong le e h = does_on s s' ys Wrong (one_step e) h

  -- fewer steps are asked for
  pub does_less : (fewer : ℕ) (s : CodeState) (ys : List Instr) (o : Out) → fewer ≤ least
      → Does C n least now note saved fs s ys o → Does C n fewer now note saved fs s ys o
  does_less fewer s ys (Fell m l) le h = h
  does_less fewer s ys (Left m r) le h = h
  does_less fewer s ys (Failed m x) le h = h
  does_less fewer s ys Starved le h = record {
    steps = h.steps;
    last = h.last;
    by = h.by;
    enough = omega
        (arith, le, h.enough);
  }
  does_less fewer s ys Wrong le h = h

  -- first some statements and then others
  pub does_then : (s : CodeState) (mid ys : List Instr) (o : Out) (go : CMemory → Locals → Out)
      → Does C n least now note saved fs s mid o
      → ((m : CMemory) (l : Locals) (w : World) (r : ℕ) (f : Frame)
      → IsAt C.tree n C.procedures note saved mid m l w r f fs
      → Does C n least now note saved fs (machine w now r (f ∷ fs)) ys (go m l))
      → Does C n least now note saved fs s ys (and_on o go)
  does_then s mid ys (Fell m l) go h rest =
      does_on s (machine h.world now h.result (h.frame ∷ fs)) ys (go m l) h.reached
      (rest m l h.world h.result h.frame h.at)
  does_then s mid ys (Left m r) go h rest = h
  does_then s mid ys (Failed m x) go h rest = h
  does_then s mid ys Starved go h rest = h
  does_then s mid ys Wrong go h rest = h

-- ---- the function further on

module _ (t : Tree) (n : ℕ → ℕ) (k : Procedures) (note : Option ℕ) (saved : Option Event) (xs ys : List Instr)
    (m : CMemory)
    (l : Locals) (w : World) (r : ℕ) (f : Frame) (fs : List Frame) (h : IsAt t n k note saved xs m l w r f fs) where
  -- at another place, in another world with the same notes
  pub moved : (i : ℕ) (m' : CMemory) (w' : World) → drop i (instructions k f.proc) ≡ ys → Stands t n m' w' → m'.notes
      ≡ m.notes
      → IsAt t n k note saved ys m' l w' r (record f { place = i }) fs
  moved i m' w' code stands same = record {
    code = code;
    stands = stands;
    notes = same ∙ h.notes ∙ same_pending 0 f (record f { place = i }) fs refl;
    note_is = h.note_is;
    saved_is = h.saved_is;
    home = h.home;
    result = h.result;
    within = h.within;
    base = subst (λ x. l.base ≤ length x) (sym same) h.base;
    above_base = ap (drop l.base) same ∙ h.above_base ∙ same_pending (suc f.base) f (record f { place = i }) fs refl;
    cursor = subst (λ x. l.cursor ≤ length x) (sym same) h.cursor;
    above_cursor = ap (drop (later l.cursor l.base)) same ∙ h.above_cursor ∙ same_pending
        (later f.cursor (suc f.base)) f (record f { place = i }) fs refl;
  }

  -- the notes, where the function returns
  pub left_notes : m.notes ≡ pending 0 fs ++ with_note note []
  left_notes = h.notes ∙ pending_at 0 f fs (omega arith) ∙ ap (λ o. pending 0 fs ++ with_note o []) h.note_is
