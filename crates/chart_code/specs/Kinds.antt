-- What the procedures of each kind do, where the work of the rules is that of p.
use Rattle.std.specs.Prelude.{◌≡◌, ◌==◌, ℕ, suc, ◌<◌, List, [], ◌∷◌, Option, Some, None, Bool, true, false}
use Rattle.std.specs.List.{AllByRecursion}
use Rattle.flow_base.specs.declared.bounds.Bounds.{Bounds}
use Rattle.active_config.specs.declared.comp.Comp.TheVariants.{Or}
use Rattle.active_config.specs.Marks.{is_on, is_bare, IsConsistent}
use Rattle.active_config.specs.Tree.{Tree, state_count, comp_of, is_at_or_below}
use Rattle.actions.specs.declared.event.Event.{Event}
use Rattle.actions.specs.Exprs.{Stmt, Assign, Send, SendTo, Emit}
use Rattle.actions.specs.World.{World, Life, lives}
use Rattle.actions.specs.Work.{End, Done, Cut, Now}
use Rattle.checked_chart.specs.declared.parts.ListKind.{ListKind}
use Rattle.checked_chart.specs.declared.parts.ListKind.TheVariants.{Outer, Inner, Default}
use Rattle.checked_chart.specs.Chart.{Chart, list_of, life_of}
use Rattle.checked_chart.specs.Homes.{path_in, home_of}
use Rattle.sos_rules.specs.Parts.{Found, Fire, DeadEnd, No, Stop, Parts}
use Rattle.code_language.specs.Code.{Procedures, fetch}
use Rattle.code_language.specs.Instrs.{Cond}
use Rattle.code_language.specs.Machine.{Program, Frame, CodeState, machine, fresh, next, later}
use Rattle.code_language.specs.Instrs as instrs
use Rattle.code_language.specs.Reach.{Reaches, Aim, MeetsAim, leaves, returns, Any, HasAt, pending}
use Rattle.chart_code.specs.ListProcedures.{context_of, fired_result}
use Rattle.chart_code.specs.Numbers.{Numbers}
use Rattle.chart_code.specs.StateProcedures.{went_result, life_test, state_of_life, block_code, each_code}
use Rattle.chart_code.specs.StateProcedures.{enters_code, regions_code}

-- procedures of a chart under these bounds
abbrev pub program : Chart → Bounds → Procedures → Program
program c b k = record { tree = c.tree; bounds = b; procedures = k }

-- a frame in the middle of a procedure
abbrev pub running : ℕ → ℕ → Option ℕ → ℕ → ℕ → Option Event → Frame
running p i tag base home saved = record (fresh p tag base home saved) { place = i }

-- the same frame with another cursor
abbrev pub aimed : Frame → ℕ → Frame
aimed f c = record f { cursor = c }

-- d is a state at or below s
pub record IsPath (t : Tree) (s d : ℕ) : Type 0 where
  pub state : s < state_count t
  pub below : is_at_or_below t d s ≡ true

-- the states that directed sends name are states of the tree
abbrev pub Targets : Tree → List Stmt → Type 0
Targets t [] = Unit {0}
Targets t (Assign v e ∷ rest) = Targets t rest
Targets t (Emit e ∷ rest) = Targets t rest
Targets t (Send e ∷ rest) = Targets t rest
Targets t (SendTo e s ∷ rest) = (s < state_count t) × Targets t rest

-- a block was done where its life holds, and cut where it no longer holds
abbrev pub Tells : End → Bool → Type 0
Tells Done b = b ≡ true
Tells Cut b = b ≡ false

-- ---- notes

-- p is a procedure of these statements, with this test of their life
pub record HasBlock (t : Tree) (k : Procedures) (N : Numbers) (alive : Cond) (p : ℕ) (ss : List Stmt) : Type 0 where
  pub code : HasAt k p 0 (block_code N alive ss)
  pub targets : Targets t ss

-- the notes are procedures of the blocks that aren't empty, in their order; A p ss says that p is one of ss
abbrev pub NotesBy : (ℕ → List Stmt → Type 0) → List ℕ → List (List Stmt) → Type 0
NotesBy A [] [] = Unit {0}
NotesBy A (p ∷ ps) [] = ⊥
NotesBy A [] ([] ∷ actions) = NotesBy A [] actions
NotesBy A (p ∷ ps) ([] ∷ actions) = NotesBy A (p ∷ ps) actions
NotesBy A [] ((s ∷ ss) ∷ actions) = ⊥
NotesBy A (p ∷ ps) ((s ∷ ss) ∷ actions) = A p (s ∷ ss) × NotesBy A ps actions

-- the notes are procedures of transition actions, which run while the home is bare
abbrev pub AreNotes : Tree → Procedures → Numbers → List ℕ → List (List Stmt) → Type 0
AreNotes t k N ps actions = NotesBy (HasBlock t k N instrs.BareHome) ps actions

-- ---- searches

-- the destination of a default transition isn't the state itself
abbrev pub IsDefaultBelow : ListKind → ℕ → ℕ → Type 0
IsDefaultBelow Outer s d = Unit {0}
IsDefaultBelow Inner s d = Unit {0}
IsDefaultBelow Default s d = (s == d) ≡ false

-- a state that a list leads to: the home of the firing is an OR, and the destination is at or below it
pub record IsDestination (t : Tree) (s : ℕ) (kind : ListKind) (d : ℕ) : Type 0 where
  pub home : comp_of t (home_of t s kind d) ≡ Or
  pub path : IsPath t (home_of t s kind d) d
  pub below : IsDefaultBelow kind s d

-- a search found a firing: a new frame of its procedure stands on these frames, with the actions noted above its base;
-- once it has returned, in whatever world and with whatever result, the search's frame returns with the list's result
pub record Fires (C : Program) (N : Numbers) (s : ℕ) (kind : ListKind) (now : Now) (fs : List Frame) (w : World) (d : ℕ)
    (actions : List (List Stmt)) : Type 0 where
  pub result : ℕ
  pub tag : Option ℕ
  pub base : ℕ
  pub below : List Frame
  pub alive : lives C.tree (life_of s kind) w.marks ≡ true
  pub leads : IsDestination C.tree s kind d
  pub notes : AreNotes C.tree C.procedures N
      (pending (suc base) (fresh ((context_of N C.tree s kind).fire d) tag base s None ∷ below)) actions
  pub back : (v : World) (r : ℕ) → Reaches C (machine v now r below) (machine v now (fired_result C.tree s kind d) fs)

-- a search came to an empty junction: a new frame of the end procedure stands on these frames; once it has returned
-- with a result that isn't 0, the search's frame returns with it
pub record Ends (C : Program) (s : ℕ) (kind : ListKind) (now : Now) (fs : List Frame) (w : World) : Type 0 where
  pub result : ℕ
  pub tag : Option ℕ
  pub base : ℕ
  pub below : List Frame
  pub alive : lives C.tree (life_of s kind) w.marks ≡ true
  pub back : (v : World) (r : ℕ) → Reaches C (machine v now (suc r) below) (machine v now (suc r) fs)

-- where there is no end procedure a search comes to no empty junction
abbrev pub EndFacts : Program → Option ℕ → ℕ → ListKind → Now → List Frame → World → Type 0
EndFacts C None s kind now fs w = ⊥
EndFacts C (Some e) s kind now fs w = Ends C s kind now fs w

-- where the search stands then
abbrev pub end_at : (C : Program) (end : Option ℕ) (s : ℕ) (kind : ListKind) (now : Now) (fs : List Frame) (w : World)
    → EndFacts C end s kind now fs w → CodeState
end_at C None s kind now fs w i = absurd i
end_at C (Some e) s kind now fs w i = machine w now i.result (fresh e i.tag i.base s None ∷ i.below)

-- what is known of what a search found: its life holds, unless it was stopped
abbrev pub FoundFacts : Program → Numbers → ℕ → ListKind → Now → List Frame → Found → World → Type 0
FoundFacts C N s kind now fs No w = lives C.tree (life_of s kind) w.marks ≡ true
FoundFacts C N s kind now fs Stop w = Unit {0}
FoundFacts C N s kind now fs (Fire d actions) w = Fires C N s kind now fs w d actions
FoundFacts C N s kind now fs DeadEnd w = EndFacts C (context_of N C.tree s kind).end s kind now fs w

-- where the search stands then: its frame has returned 0 or 1, or a new frame stands on it
abbrev pub found_at : (C : Program) (N : Numbers) (s : ℕ) (kind : ListKind) (now : Now) (fs : List Frame) (f : Found)
    (w : World) → FoundFacts C N s kind now fs f w → CodeState
found_at C N s kind now fs No w i = machine w now 0 fs
found_at C N s kind now fs Stop w i = machine w now 1 fs
found_at C N s kind now fs (Fire d actions) w i =
    machine w now i.result (fresh ((context_of N C.tree s kind).fire d) i.tag i.base s None ∷ i.below)
found_at C N s kind now fs DeadEnd w i = end_at C (context_of N C.tree s kind).end s kind now fs w i

-- where a search leads for each answer
abbrev pub finds : Program → Numbers → ℕ → ListKind → Now → List Frame → Aim Found
finds C N s kind now fs = record { Facts = FoundFacts C N s kind now fs; stands = found_at C N s kind now fs }

-- ---- the kinds

-- the rest of a block, from the place where its code stands
pub record DoesBlock (C : Program) (N : Numbers) (p : Parts) : Type 0 where
  pub by : (life : Life) (ss : List Stmt) (q i : ℕ) → HasAt C.procedures q i (block_code N (life_test life) ss)
      → Targets C.tree ss
      → (w : World) → IsConsistent C.tree w.marks → lives C.tree life w.marks ≡ true
      → (now : Now) (r : ℕ) (tag : Option ℕ) (base : ℕ) (fs : List Frame)
      → MeetsAim C (machine w now r (running q i tag base (state_of_life life) None ∷ fs))
      (returns now fs (λ a v x. Tells a (lives C.tree life v.marks))) (p.block life ss now w)

-- the instruction of a send, in whatever frame
pub record DoesSend (C : Program) (N : Numbers) (p : Parts) : Type 0 where
  pub chart : (e : ℕ) (f : Frame) (fs : List Frame) → fetch C.procedures f.proc f.place ≡ Some (instrs.Send e)
      → (w : World) → IsConsistent C.tree w.marks → is_on 0 w.marks ≡ true → (now : Now) (r : ℕ)
      → MeetsAim C (machine w now r (f ∷ fs)) (returns now (next f ∷ fs) Any) (p.send e None now w)
  pub state : (e s : ℕ) (f : Frame) (fs : List Frame)
      → fetch C.procedures f.proc f.place ≡ Some (instrs.SendTo e s (N.process s))
      → s < state_count C.tree → (w : World) → IsConsistent C.tree w.marks → (now : Now) (r : ℕ)
      → MeetsAim C (machine w now r (f ∷ fs)) (returns now (next f ∷ fs) Any) (p.send e (Some s) now w)

-- the procedure of a list
pub record DoesSearch (C : Program) (c : Chart) (N : Numbers) (p : Parts) : Type 0 where
  pub by : (s : ℕ) (kind : ListKind) → s < state_count C.tree
      → (w : World) → IsConsistent C.tree w.marks → lives C.tree (life_of s kind) w.marks ≡ true
      → (now : Now) (r : ℕ) (tag : Option ℕ) (base : ℕ) (fs : List Frame)
      → MeetsAim C (machine w now r (fresh (N.search s kind) tag base s None ∷ fs)) (finds C N s kind now fs)
      (p.search (life_of s kind) (list_of c s kind) now w)

-- any state but the root is left
pub record DoesExit (C : Program) (N : Numbers) (p : Parts) : Type 0 where
  pub by : (s : ℕ) → 0 < s → s < state_count C.tree → (w : World) → IsConsistent C.tree w.marks
      → (now : Now) (r : ℕ) (tag : Option ℕ) (base home : ℕ) (fs : List Frame)
      → MeetsAim C (machine w now r (fresh (N.exit s) tag base home None ∷ fs)) (returns now fs Any) (p.exit s now w)

-- states are left one after another, from the place where the code for them stands
pub record DoesExitEach (C : Program) (N : Numbers) (p : Parts) : Type 0 where
  pub by : (xs : List ℕ) (q i : ℕ) → HasAt C.procedures q i (each_code N.exit xs)
      → AllByRecursion (λ x. (0 < x) × (x < state_count C.tree)) xs
      → (w : World) → IsConsistent C.tree w.marks
      → (now : Now) (r : ℕ) (tag : Option ℕ) (base home : ℕ) (fs : List Frame)
      → MeetsAim C (machine w now r (running q i tag base home None ∷ fs)) (returns now fs Any) (p.exit_each xs now w)

-- a state is entered on the path to another one
pub record DoesEnter (C : Program) (N : Numbers) (p : Parts) : Type 0 where
  pub by : (s d : ℕ) → IsPath C.tree s d → (w : World) → IsConsistent C.tree w.marks
      → (now : Now) (r : ℕ) (tag : Option ℕ) (base home : ℕ) (fs : List Frame)
      → MeetsAim C (machine w now r (fresh (N.enter s d) tag base home None ∷ fs)) (returns now fs Any)
      (p.enter s d now w)

-- the children of an AND are entered one after another
pub record DoesEnterEach (C : Program) (N : Numbers) (p : Parts) : Type 0 where
  pub by : (xs : List ℕ) (d q i : ℕ) → HasAt C.procedures q i (enters_code N C.tree d xs)
      → AllByRecursion (λ x. IsPath C.tree x (path_in C.tree x d)) xs
      → (w : World) → IsConsistent C.tree w.marks
      → (now : Now) (r : ℕ) (tag : Option ℕ) (base home : ℕ) (fs : List Frame)
      → MeetsAim C (machine w now r (running q i tag base home None ∷ fs)) (returns now fs Any)
      (p.enter_each xs d now w)

-- an OR that is bare is entered by default
pub record DoesDefaults (C : Program) (N : Numbers) (p : Parts) : Type 0 where
  pub by : (s : ℕ) → s < state_count C.tree → comp_of C.tree s ≡ Or
      → (w : World) → IsConsistent C.tree w.marks → is_bare C.tree s w.marks ≡ true
      → (now : Now) (r : ℕ) (tag : Option ℕ) (base home : ℕ) (fs : List Frame)
      → MeetsAim C (machine w now r (fresh (N.defaults s) tag base home None ∷ fs)) (returns now fs Any)
      (p.defaults s now w)

-- after `Play`, whatever the cursor is then: the home is bare exactly where all notes were run
pub record Played (t : Tree) (home : ℕ) (a : End) (w : World) : Type 0 where
  pub cursor : ℕ
  pub number : ℕ
  pub good : Tells a (is_bare t home w.marks)

-- after `Play`, at the next place
abbrev pub behind : Tree → Frame → List Frame → Now → Aim End
behind t f fs now =
    record { Facts = Played t f.home; stands = λ a w i. machine w now i.number (next (aimed f i.cursor) ∷ fs) }

-- the instruction `Play`, where these notes are pending
pub record DoesPlay (C : Program) (N : Numbers) (p : Parts) : Type 0 where
  pub by : (f : Frame) (fs : List Frame) → fetch C.procedures f.proc f.place ≡ Some instrs.Play
      → f.home < state_count C.tree
      → (actions : List (List Stmt)) (cursor : ℕ)
      → AreNotes C.tree C.procedures N (pending (later cursor (suc f.base)) (f ∷ fs)) actions
      → (w : World) → IsConsistent C.tree w.marks → is_bare C.tree f.home w.marks ≡ true → (now : Now) (r : ℕ)
      → MeetsAim C (machine w now r (aimed f cursor ∷ fs)) (behind C.tree f fs now) (p.play f.home actions now w)

-- a firing whose home is an OR, with the actions noted above the base
pub record DoesTake (C : Program) (N : Numbers) (p : Parts) : Type 0 where
  pub by : (s d : ℕ) → comp_of C.tree s ≡ Or → IsPath C.tree s d
      → (now : Now) (r : ℕ) (tag : Option ℕ) (base home : ℕ) (fs : List Frame)
      → (actions : List (List Stmt))
      → AreNotes C.tree C.procedures N (pending (suc base) (fresh (N.take s d) tag base home None ∷ fs)) actions
      → (w : World) → IsConsistent C.tree w.marks
      → MeetsAim C (machine w now r (fresh (N.take s d) tag base home None ∷ fs)) (returns now fs Any)
      (p.take s d actions now w)

-- an active state is processed, also for a send: the frame may have a saved event
pub record DoesProcess (C : Program) (N : Numbers) (p : Parts) : Type 0 where
  pub by : (s : ℕ) → s < state_count C.tree → (w : World) → IsConsistent C.tree w.marks → is_on s w.marks ≡ true
      → (now : Now) (r : ℕ) (tag : Option ℕ) (base home : ℕ) (saved : Option Event) (fs : List Frame)
      → MeetsAim C (machine w now r (fresh (N.process s) tag base home saved ∷ fs))
      (leaves saved now fs (λ a v x. x ≡ went_result a)) (p.process s now w)

-- regions are processed one after another
pub record DoesProcessEach (C : Program) (N : Numbers) (p : Parts) : Type 0 where
  pub by : (xs : List ℕ) (q i : ℕ) → HasAt C.procedures q i (regions_code N xs)
      → AllByRecursion (λ x. x < state_count C.tree) xs
      → (w : World) → IsConsistent C.tree w.marks
      → (now : Now) (r : ℕ) (tag : Option ℕ) (base home : ℕ) (saved : Option Event) (fs : List Frame)
      → MeetsAim C (machine w now r (running q i tag base home saved ∷ fs))
      (leaves saved now fs (λ a v x. x ≡ went_result a)) (p.process_each xs now w)

-- all kinds
pub record AllDo (C : Program) (c : Chart) (N : Numbers) (p : Parts) : Type 0 where
  pub block : DoesBlock C N p
  pub send : DoesSend C N p
  pub search : DoesSearch C c N p
  pub exit : DoesExit C N p
  pub exit_each : DoesExitEach C N p
  pub enter : DoesEnter C N p
  pub enter_each : DoesEnterEach C N p
  pub defaults : DoesDefaults C N p
  pub play : DoesPlay C N p
  pub take : DoesTake C N p
  pub process : DoesProcess C N p
  pub process_each : DoesProcessEach C N p
