-- What a search of a list asks of the procedures of its parts, and of those of its junctions: all that is assumed of code. Of
-- the procedures of its firings and of its end nothing is asked.
use Rattle.std.specs.Prelude.{◌≡◌, ◌<◌, ℕ, suc, Bool, true, false, List, [], ◌∷◌, Option, Some, None}
use Rattle.flow_base.specs.declared.bounds.Bounds.{Bounds}
use Rattle.active_config.specs.Tree.{IsTree}
use Rattle.active_config.specs.Marks.{IsConsistent}
use Rattle.actions.specs.Exprs.{Expr, Stmt}
use Rattle.actions.specs.World.{World, Life, lives}
use Rattle.actions.specs.Changes.{truth_of}
use Rattle.actions.specs.Work.{Now, flag_or_fault}
use Rattle.checked_chart.specs.declared.parts.Dest.{Dest}
use Rattle.checked_chart.specs.declared.parts.Dest.TheVariants.{State, Junction}
use Rattle.checked_chart.specs.declared.parts.ListKind.{ListKind}
use Rattle.checked_chart.specs.Chart.{Chart, Trans, junction, life_of}
use Rattle.sos_rules.specs.Parts.{Parts}
use Rattle.sos_rules.specs.Rules.{upto}
use Rattle.code_language.specs.Code.{Procedures}
use Rattle.code_language.specs.Instrs as instrs
use Rattle.code_language.specs.Machine.{Program, Frame, machine, fresh}
use Rattle.code_language.specs.Reach.{MeetsAim, returns, HasAt}
use Rattle.chart_code.specs.Compiled.{GuardBy, PartBy}
use Rattle.chart_code.specs.Kinds.{Tells, program}
use Rattle.chart_code.specs.ListProcedures.{Search, list_code, junction_code}
use Rattle.chart_code.specs.Numbers.{TransNumbers, condition_of, first_of_parts, other_parts}
use Rattle.chart_code.specs.StateProcedures.{state_of_life}

-- what the rows return isn't 0, which says that nothing was found
pub record HasResults (S : Search) : Type 0 where
  pub by : (d : ℕ) → (x : ℕ) × (S.result d ≡ suc x)

-- ---- what is known of the parts

-- what is known of the procedures of guards, condition actions and transition actions, of destinations, and of the
-- junctions that the list comes to
pub record Meaning : Type 1 where
  pub guard : ℕ → Expr → Type 0
  pub condition : ℕ → List Stmt → Type 0
  pub action : ℕ → List Stmt → Type 0
  pub dest : ℕ → Type 0
  pub junction : ℕ → Type 0

-- a destination of which L holds, or a junction of which J holds
abbrev pub DestBy : (L J : ℕ → Type 0) → Dest → Type 0
DestBy L J (State d) = L d
DestBy L J (Junction j) = J j

-- what is known of the procedures of a transition
pub record PartsBy (P : Meaning) (kind : ListKind) (tr : Trans) (q : TransNumbers) : Type 0 where
  pub guard : GuardBy P.guard tr.guard q.guard
  pub condition : PartBy P.condition tr.condition (condition_of kind q)
  pub action : PartBy P.action tr.action q.action
  pub dest : DestBy P.dest P.junction tr.dest

-- what is known of the procedures of the transitions of a list
abbrev pub EachBy : Meaning → ListKind → List Trans → List TransNumbers → Type 0
EachBy P kind [] qs = Unit {0}
EachBy P kind (tr ∷ ts) qs = PartsBy P kind tr (first_of_parts qs) × EachBy P kind ts (other_parts qs)

-- where there is no end procedure no junction is empty
abbrev pub MayEnd : Option ℕ → List Trans → Type 0
MayEnd None [] = ⊥
MayEnd None (t ∷ ts) = Unit {0}
MayEnd (Some e) ts = Unit {0}

-- a junction's procedure stands at its number, and its parts are known
pub record JunctionBy (k : Procedures) (P : Meaning) (S : Search) (number : ℕ) (list : List Trans)
    (qs : List TransNumbers) : Type 0 where
  pub code : HasAt k number 0 (junction_code S list qs)
  pub parts : EachBy P S.kind list qs
  pub may_end : MayEnd S.end list

-- the junctions that the list comes to have their procedures
abbrev pub HasJunctions : Chart → Procedures → Meaning → Search → (ℕ → List TransNumbers) → Type 0
HasJunctions c k P S qs = (j : ℕ) → P.junction j → JunctionBy k P S (S.junction j) (junction c j) (qs j)

-- ---- what the procedures of the parts do: all that a search asks of them

-- the number of a flag
abbrev pub flag_number : Bool → ℕ
flag_number true = 1
flag_number false = 0

-- a guard's procedure returns 1 or 0, and the marks stay
pub record DoesGuard (C : Program) (q : ℕ) (e : Expr) : Type 0 where
  pub by : (w : World) (now : Now) (r : ℕ) (tag : Option ℕ) (base home : ℕ) (fs : List Frame)
      → MeetsAim C (machine w now r (fresh q tag base home None ∷ fs))
      (record { Facts = λ a v. v.marks ≡ w.marks; stands = λ a v i. machine v now (flag_number a) fs })
      (flag_or_fault (truth_of e w) w)

-- a block's procedure does the block, where the work of the rules is that of p
pub record DoesPart (C : Program) (p : Parts) (life : Life) (q : ℕ) (ss : List Stmt) : Type 0 where
  pub by : (w : World) → IsConsistent C.tree w.marks → lives C.tree life w.marks ≡ true
      → (now : Now) (r : ℕ) (tag : Option ℕ) (base : ℕ) (fs : List Frame)
      → MeetsAim C (machine w now r (fresh q tag base (state_of_life life) None ∷ fs))
      (returns now fs (λ a v x. Tells a (lives C.tree life v.marks))) (p.block life ss now w)

-- the procedures of guards and of condition actions do their work
pub record PartsDo (C : Program) (P : Meaning) (life : Life) (p : Parts) : Type 0 where
  pub guard : (q : ℕ) (e : Expr) → P.guard q e → DoesGuard C q e
  pub condition : (q : ℕ) (ss : List Stmt) → P.condition q ss → DoesPart C p life q ss

-- ---- a list in any code

-- what is told of the numbers of a list: which procedure is that of which transition action, to which states the list leads, and
-- to which junctions it comes
pub record Told : Type 0 where
  pub action : ℕ → List Stmt → Bool
  pub dest : ℕ → Bool
  pub junction : ℕ → Bool

-- the procedures of guards do their work, those of condition actions theirs at every lower height, and the others are those that
-- are told
abbrev pub told_meaning : Chart → Bounds → Procedures → Search → Told → ℕ → Meaning
told_meaning c b k S told height = record {
  guard = DoesGuard (program c b k);
  condition = λ q ss. (m : ℕ) → m < height → DoesPart (program c b k) (upto c b m) (life_of S.state S.kind) q ss;
  action = λ q ss. told.action q ss ≡ true;
  dest = λ d. told.dest d ≡ true;
  junction = λ j. told.junction j ≡ true;
}

-- the procedures of a list and of the junctions to which it comes stand at their numbers, and the parts of its transitions are known
pub record ListStands (c : Chart) (b : Bounds) (k : Procedures) (S : Search) (told : Told) (height proc : ℕ)
    (list : List Trans) (numbers : List TransNumbers) (junction_numbers : ℕ → List TransNumbers) : Type 0 where
  pub tree : IsTree c.tree
  pub results : HasResults S
  pub code : HasAt k proc 0 (instrs.Begin ∷ list_code S list numbers)
  pub parts : EachBy (told_meaning c b k S told height) S.kind list numbers
  pub junctions : HasJunctions c k (told_meaning c b k S told height) S junction_numbers
