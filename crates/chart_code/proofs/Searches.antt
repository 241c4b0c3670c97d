-- The code of a list does its search, at one height from the height below: so a cycle of junctions needs nothing more.
use Rattle.std.proofs.Common.{◌≡◌, ℕ, zero, suc, ◌+◌, ◌<◌, Bool, true, false, List, [], ◌∷◌, length, Option, Some, None}
use Rattle.std.proofs.Common.{refl, sym, ap, ◌∙◌, subst, arith}
use Rattle.flow_base.specs.declared.bounds.Bounds.{Bounds}
use Rattle.active_config.specs.Tree.{IsTree}
use Rattle.active_config.specs.Marks.{IsConsistent}
use Rattle.actions.specs.Exprs.{Expr, Stmt}
use Rattle.actions.specs.World.{World, Life, lives}
use Rattle.actions.specs.Work.{◌>>=◌, then_do, give, choose, End, Done, Cut, Now, is_event}
use Rattle.actions.proofs.ChangeLemmas.{kept, paid_keeps}
use Rattle.checked_chart.specs.Chart.{junction, Chart, Trans, life_of}
use Rattle.checked_chart.specs.declared.parts.Dest.{Dest}
use Rattle.checked_chart.specs.declared.parts.Dest.TheVariants.{State, Junction}
use Rattle.sos_rules.specs.Parts.{Found, Fire, DeadEnd, No, Stop, Parts}
use Rattle.sos_rules.specs.Searches.{event_fits, guard_holds, after_junction, visit, at_dest, after_condition}
use Rattle.sos_rules.specs.Searches.{search_rule}
use Rattle.sos_rules.specs.Rules.{upto}
use Rattle.sos_rules.proofs.Keeps.{Keeps, Consistent, consistent_closed, upto_keep}
use Rattle.code_language.specs.Instrs.{Instr}
use Rattle.code_language.specs.Code.{Procedures, fetch}
use Rattle.code_language.specs.Machine.{Program, Frame, CodeState, machine, fresh}
use Rattle.code_language.specs.Instrs as instrs
use Rattle.code_language.specs.Reach.{Reaches, Aim, Arrives, MeetsAim, HasAt, with_note, HasResult}
use Rattle.code_language.proofs.Places.{has_front, has_back}
use Rattle.code_language.proofs.Joins.{here, on_to, meets_on, meets_end, meets_unfinished, meets_more, then_meets}
use Rattle.code_language.proofs.Joins.{then_meets_with, choose_meets}
use Rattle.code_language.proofs.Steps.{go_skip, go_call, go_ret, go_pass, go_pass_zero, go_visit}
use Rattle.code_language.proofs.Tests.{yes_result, no_result, yes_current, no_current}
use Rattle.chart_code.specs.Numbers.{TransNumbers, condition_of, first_of_parts, other_parts}
use Rattle.chart_code.specs.StateProcedures.{require, life_test}
use Rattle.chart_code.specs.Kinds.{running, Tells, program}
use Rattle.chart_code.specs.ListProcedures.{Search, dest_code, condition_code, guarded_code, event_code}
use Rattle.chart_code.specs.ListProcedures.{lead_code, trans_code, list_code, empty_code, junction_code}
use Rattle.chart_code.specs.Compiled.{GuardBy, PartBy}
use Rattle.chart_code.specs.SearchParts.{HasResults, Meaning, DestBy, PartsBy, EachBy, MayEnd, flag_number}
use Rattle.chart_code.specs.SearchParts.{HasJunctions, PartsDo}
use Rattle.chart_code.specs.SearchFrames.{notes_of, Searcher, searching, EndFactsFrom, end_from, FactsFrom}
use Rattle.chart_code.specs.SearchFrames.{found_from, finds_from}
use Rattle.chart_code.proofs.Pieces.{yes_life, no_life, keeping}
use Rattle.chart_code.proofs.Noted.{one_note, more_notes, home_is}

-- a block without statements is done at once
abbrev pub IdleFacts : World → End → World → Type 0
IdleFacts w Done v = w ≡ v
IdleFacts w Cut v = ⊥

-- a block without statements does nothing
pub record IsIdle (p : Parts) : Type 0 where
  pub by : (life : Life) (now : Now) (w : World) (C : Program) (m : CodeState)
      → MeetsAim C m (record { Facts = IdleFacts w; stands = λ a v i. m }) (p.block life [] now w)

-- the rules have this at every height
idle_upto : (c : Chart) (b : Bounds) (n : ℕ) → IsIdle (upto c b n)
idle_upto c b zero = record { by = λ life now w C m. meets_unfinished }
idle_upto c b (suc n) = record { by = λ life now w C m. meets_end refl here }

-- wherever the code of a list of this search stands, it does the list's search
pub record DoesList (C : Program) (P : Meaning) (S : Search) (p : Parts) : Type 0 where
  pub by : (ts : List Trans) (qs : List TransNumbers) (R : Searcher) (i : ℕ) → EachBy P S.kind ts qs
      → HasAt C.procedures R.proc i (list_code S ts qs)
      → (w : World) → IsConsistent C.tree w.marks → lives C.tree (life_of S.state S.kind) w.marks ≡ true → (r : ℕ)
      → MeetsAim C (machine w R.now r (searching S R i ∷ R.below)) (finds_from C P S R)
      (p.search (life_of S.state S.kind) ts R.now w)

module _ (c : Chart) (b : Bounds) (k : Procedures) (P : Meaning) (S : Search) (results : HasResults S)
    (qs_of : ℕ → List TransNumbers) (junctions : HasJunctions c k P S qs_of) (p : Parts) (keep : Keeps (Consistent c) p)
    (does : PartsDo (program c b k) P (life_of S.state S.kind) p) (idle : IsIdle p)
    (low : DoesList (program c b k) P S p) where
  -- the chart's code under these bounds
  abbrev C : Program
  C = program c b k

  -- the life of the list
  abbrev life : Life
  life = life_of S.state S.kind

  -- the life holds
  abbrev Alive : World → Type 0
  Alive w = lives c.tree life w.marks ≡ true

  module _ (R : Searcher) where
    -- the frame that searches, at a place
    abbrev frame : ℕ → Frame
    frame i = searching S R i

    -- the code at a place
    abbrev stand : World → ℕ → ℕ → CodeState
    stand w r i = machine w R.now r (frame i ∷ R.below)

    -- where the search leads
    abbrev SearchAim : Aim Found
    SearchAim = finds_from C P S R

    -- the search of a junction that is visited from place i
    abbrev into : ℕ → Option ℕ → ℕ → Searcher
    into q tag i = record { proc = q; tag = tag; base = R.base; now = R.now; below = frame i ∷ R.below }

    -- what the rest of the list does, from the place after a transition
    abbrev Rest : ℕ → List Trans → Type 0
    Rest i rest =
        (w : World) → Consistent c w → Alive w → (r : ℕ) → MeetsAim C (stand w r i) SearchAim (p.search life rest R.now w)

    -- the rest, from a place that is written in another way
    moved : (i j : ℕ) (rest : List Trans) → i ≡ j → Rest j rest → Rest i rest
    moved i j rest e = subst (λ n. Rest n rest) (sym e)

    -- an empty junction that the search of a junction came to
    end_through : (w : World) (q : ℕ) (tag : Option ℕ) (i : ℕ) → fetch k R.proc i ≡ Some instrs.Pass
        → (end : Option ℕ) (y : EndFactsFrom C end S (into q tag i) w)
        → (z : EndFactsFrom C end S R w) × Reaches C (end_from C end S (into q tag i) w y) (end_from C end S R w z)
    end_through w q tag i pass None y = absurd y
    end_through w q tag i pass (Some e) y = (
      record {
        result = y.result;
        place = i;
        between = searching S (into q tag i) y.place ∷ y.between;
        alive = y.alive;
        back = λ v r. on_to (y.back v r) (go_pass pass);
      },
      here,
    )

    -- an empty junction that is visited now
    end_now : (w : World) (r q : ℕ) (tag : Option ℕ) (i : ℕ) → fetch k R.proc i ≡ Some instrs.Pass → Alive w
        → (end : Option ℕ) → HasAt k q 0 (empty_code end) → MayEnd end []
        → (z : EndFactsFrom C end S R w) × Reaches C
        (machine w R.now r (fresh q tag R.base S.state None ∷ frame i ∷ R.below)) (end_from C end S R w z)
    end_now w r q tag i pass l None h may = absurd may
    end_now w r q tag i pass l (Some e) h may = (
      record {
        result = r;
        place = i;
        between = searching S (into q tag i) 1 ∷ [];
        alive = l;
        back = λ v x. on_to (go_pass h.1.0) (go_pass pass);
      },
      go_call h.0,
    )

    -- the result of a firing is passed on
    passed : (d i : ℕ) (v : World) → fetch k R.proc i ≡ Some instrs.Pass
        → Reaches C (machine v R.now (S.result d) (frame i ∷ R.below)) (machine v R.now (S.result d) R.below)
    passed d i v pass =
        let x = results.by d in subst (λ n. Reaches C (machine v R.now n (frame i ∷ R.below))
        (machine v R.now n R.below)) (sym x.1) (go_pass pass)

    -- the answer of a junction's search, in the frame that visited it and waits at `Pass`
    answered : (action : List Stmt) (tag : Option ℕ) (q i : ℕ) (rest : List Trans) → PartBy P.action action tag
        → fetch k R.proc i ≡ Some instrs.Pass → Rest (i + 1) rest
        → (f : Found) (w : World) → Consistent c w → (y : FactsFrom C P S (into q tag i) f w)
        → MeetsAim C (found_from C P S (into q tag i) f w y) SearchAim (after_junction c b p life action rest R.now f w)
    answered action tag q i rest is pass others No w ok y = meets_on (go_pass_zero pass) (others w ok y 0)
    answered action tag q i rest is pass others Stop w ok y = meets_end tt (go_pass pass)
    answered action tag q i rest is pass others (Fire d actions) w ok y =
        meets_end (record {
          result = y.result;
          place = i;
          between = searching S (into q tag i) y.place ∷ y.between;
          tag = y.tag;
          alive = y.alive;
          leads = y.leads;
          notes = more_notes P.action action tag (notes_of y.between (with_note y.tag [])) actions is y.notes;
          back = λ v r. on_to (y.back v r) (passed d i v pass);
        }) here
    answered action tag q i rest is pass others DeadEnd w ok y =
        let z = end_through w q tag i pass S.end y in meets_end z.0 z.1

    -- a junction's procedure, just called
    visited : (action : List Stmt) (tag : Option ℕ) (q i : ℕ) (rest : List Trans) → PartBy P.action action tag
        → fetch k R.proc i ≡ Some instrs.Pass → Rest (i + 1) rest
        → (ts : List Trans) (qs : List TransNumbers) → HasAt k q 0 (junction_code S ts qs) → EachBy P S.kind ts qs
        → MayEnd S.end ts → (w : World) → Consistent c w → Alive w → (r : ℕ)
        → MeetsAim C (machine w R.now r (fresh q tag R.base S.state None ∷ frame i ∷ R.below)) SearchAim
        (visit c b p life action rest R.now ts w)
    visited action tag q i rest is pass others [] qs h each may w ok l r =
        let z = end_now w r q tag i pass l S.end h may in meets_end z.0 z.1
    visited action tag q i rest is pass others (t ∷ ts) qs h each may w ok l r =
        then_meets_with (keeping (keep.search life (t ∷ ts) R.now w ok))
        (low.by (t ∷ ts) qs (into q tag i) 0 each h w ok l r)
        (λ f v y ok'. answered action tag q i rest is pass others f v ok' y)

    -- the destination
    leads : (action : List Stmt) (tag : Option ℕ) (dest : Dest) (i : ℕ) (rest : List Trans) → PartBy P.action action tag
        → DestBy P.dest P.junction dest
        → HasAt k R.proc i (dest_code S tag dest) → Rest (i + 1 + 1) rest → (w : World) → Consistent c w → Alive w
        → (r : ℕ)
        → MeetsAim C (stand w r i) SearchAim (at_dest c b p life action rest R.now dest w)
    leads action tag (State d) i rest is to h others w ok l r =
        meets_end (record {
          result = r;
          place = i + 1;
          between = [];
          tag = tag;
          alive = l;
          leads = to;
          notes = one_note P.action action tag is;
          back = λ v x. go_ret h.1.0;
        }) (go_call h.0)
    leads action tag (Junction j) i rest is to h others w ok l r =
        let there = junctions j to in
        go_visit h.0 (λ u m.
        let same = kept w (paid_keeps b w) m in
        visited action tag (S.junction j) (i + 1) rest is h.1.0 others (junction c j)
        (qs_of j) there.code there.parts there.may_end u (subst (IsConsistent c.tree) (sym same) ok)
        (ap (lives c.tree life) same ∙ l) r)

    -- a destination has two instructions
    two_long : (tag : Option ℕ) (dest : Dest) → length (dest_code S tag dest) ≡ 2
    two_long tag (State d) = refl
    two_long tag (Junction j) = refl

    -- after the condition action
    ended : (t : Trans) (tag : Option ℕ) (i : ℕ) (rest : List Trans) → PartBy P.action t.action tag
        → DestBy P.dest P.junction t.dest
        → HasAt k R.proc i (require (life_test life) (dest_code S tag t.dest)) → Rest (i + 1 + 1 + 1 + 1 + 1) rest
        → (a : End) (w : World) (r : ℕ) → Consistent c w → Tells a (lives c.tree life w.marks)
        → MeetsAim C (stand w r i) SearchAim (after_condition c b p life t rest R.now a w)
    ended t tag i rest is to h others Done w r ok l =
        meets_on (on_to (yes_life life (sym (home_is S.state S.kind)) h.0 l) (go_skip h.1.0))
        (leads t.action tag t.dest (i + 1 + 1 + 1) rest is to h.1.1.1 others w ok l r)
    ended t tag i rest is to h others Cut w r ok l =
        meets_end tt (on_to (no_life life (sym (home_is S.state S.kind)) h.0 l) (go_ret h.1.1.0))

    -- without a condition action the search goes on at once
    idled : (t : Trans) (tag : Option ℕ) (i : ℕ) (rest : List Trans) → PartBy P.action t.action tag
        → DestBy P.dest P.junction t.dest
        → HasAt k R.proc i (dest_code S tag t.dest) → Rest (i + 1 + 1) rest → (w : World) → Consistent c w → Alive w
        → (r : ℕ) (a : End) (v : World) → IdleFacts w a v
        → MeetsAim C (stand w r i) SearchAim (after_condition c b p life t rest R.now a v)
    idled t tag i rest is to h others w ok l r Done v e =
        subst (λ u. MeetsAim C (stand w r i) SearchAim (after_condition c b p life t rest R.now Done u)) e
        (leads t.action tag t.dest i rest is to h others w ok l r)
    idled t tag i rest is to h others w ok l r Cut v e = absurd e

    -- the condition action, if there is one, and the destination
    conditions : (t : Trans) (cond : List Stmt) (part : Option ℕ) (tag : Option ℕ) (i j : ℕ) (rest : List Trans)
        → PartBy P.condition cond part → PartBy P.action t.action tag → DestBy P.dest P.junction t.dest
        → HasAt k R.proc i (condition_code (life_test life) part (dest_code S tag t.dest))
        → i + length (condition_code (life_test life) part (dest_code S tag t.dest)) ≡ j → Rest j rest
        → (w : World) → Consistent c w → Alive w → (r : ℕ)
        → MeetsAim C (stand w r i) SearchAim
        (then_do (p.block life cond R.now w) (after_condition c b p life t rest R.now))
    conditions t [] None tag i j rest is act to h e others w ok l r =
        then_meets (idle.by life R.now w C (stand w r i)) (λ a v y. idled t tag i rest act to h
        (moved (i + 1 + 1) j rest (omega (arith, two_long tag t.dest)) others) w ok l r a v y)
    conditions t [] (Some q) tag i j rest is act to h e others w ok l r = absurd is
    conditions t (s ∷ ss) None tag i j rest is act to h e others w ok l r = absurd is
    conditions t (s ∷ ss) (Some q) tag i j rest is act to h e others w ok l r =
        let others' = moved (i + 1 + 1 + 1 + 1 + 1 + 1) j rest (omega (arith, two_long tag t.dest)) others in
        let part = (does.condition q (s ∷ ss) is).by w ok l R.now r None R.base (frame (i + 1) ∷ R.below) in
        meets_on (go_call h.0) (then_meets_with (keeping (keep.block life (s ∷ ss) R.now w ok))
        (subst (λ h. MeetsAim C (machine w R.now r (running q 0 None R.base h None ∷ frame (i + 1) ∷ R.below))
        (record {
          Facts = λ a v. HasResult (λ a v x. Tells a (lives c.tree life v.marks)) a v;
          stands =
              λ a v y. machine v R.now y.number (frame (i + 1) ∷ R.below);
        }) (p.block life (s ∷ ss) R.now w))
        (home_is S.state S.kind) part)
        (λ a v y ok'. ended t tag (i + 1) rest act to h.1 others' a v y.number ok' y.good))

    -- ---- the tests of a transition: the marks stay

    -- the marks stay after a test
    pub record TestEnds (w v : World) : Type 0 where
      pub number : ℕ
      pub same : v.marks ≡ w.marks

    -- where the code stands after a test
    abbrev test_at : (w : World) (i j : ℕ) (a : Bool) (v : World) → TestEnds w v → CodeState
    test_at w i j true v y = machine v R.now y.number (frame i ∷ R.below)
    test_at w i j false v y = machine v R.now y.number (frame j ∷ R.below)

    -- where they hold at place i, else at place j
    abbrev Tested : World → ℕ → ℕ → Aim Bool
    Tested w i j = record { Facts = λ a v. TestEnds w v; stands = test_at w i j }

    -- after the guard's procedure
    judged : (body : List Instr) (i n j : ℕ) → HasAt k R.proc i (instrs.Unless (length body) (instrs.Result 1) ∷ body)
        → i + 1 + length body ≡ j → i + 1 ≡ n
        → (w : World) (a : Bool) (v : World) → v.marks ≡ w.marks
        → Arrives C (machine v R.now (flag_number a) (frame i ∷ R.below)) (Tested w n j) a v
    judged body i n j h e f w true v same =
        record {
          facts = record { number = 1; same = same };
          reached = subst
              (λ x. Reaches C (stand v 1 i) (stand v 1 x)) f (yes_result h.0 refl);
        }
    judged body i n j h e f w false v same =
        record {
          facts = record { number = 0; same = same };
          reached = subst
              (λ x. Reaches C (stand v 0 i) (stand v 0 x)) e (no_result h.0 refl);
        }

    -- the guard, if there is one
    guards : (g : Option Expr) (gp : Option ℕ) (body : List Instr) (i n j : ℕ) → GuardBy P.guard g gp
        → HasAt k R.proc i (guarded_code gp body) → i + length (guarded_code gp body) ≡ j → n + length body ≡ j
        → (w : World) (r : ℕ) → MeetsAim C (stand w r i) (Tested w n j) (guard_holds g w)
    guards None None body i n j is h e f w r =
        let same : i ≡ n = omega arith in meets_end (record { number = r; same = refl })
        (subst (λ x. Reaches C (stand w r i) (stand w r x)) same here)
    guards None (Some q) body i n j is h e f w r = absurd is
    guards (Some g) None body i n j is h e f w r = absurd is
    guards (Some g) (Some q) body i n j is h e f w r =
        meets_on (go_call h.0) (meets_more ((does.guard q g is).by w R.now r None R.base S.state
        (frame (i + 1) ∷ R.below)) (λ a v same. judged body (i + 1) n j h.1 (omega arith) (omega arith) w a v same))

    -- the trigger and the guard
    enabled : (ev : Option ℕ) (g : Option Expr) (gp : Option ℕ) (body : List Instr) (i n j : ℕ) → GuardBy P.guard g gp
        → HasAt k R.proc i (event_code ev (guarded_code gp body))
        → i + length (event_code ev (guarded_code gp body)) ≡ j → n + length body ≡ j
        → (w : World) (r : ℕ) → MeetsAim C (stand w r i) (Tested w n j)
        (choose (event_fits ev R.now.event) (guard_holds g) (give false) w)
    enabled None g gp body i n j is h e f w r = guards g gp body i n j is h e f w r
    enabled (Some x) g gp body i n j is h e f w r =
        choose_meets (is_event x R.now.event) (guard_holds g) (give false) w
        (λ t. meets_on (yes_current h.0 t) (guards g gp body (i + 1) n j is h.1 (omega arith) f w r))
        (λ t. let same : i + 1 + length (guarded_code gp body) ≡ j = omega arith in
        meets_end (record { number = r; same = refl }) (subst (λ x. Reaches C (stand w r i) (stand w r x)) same
        (no_current h.0 t)))

    -- after the tests stands the rest of the transition
    behind_guard : (gp : Option ℕ) (body : List Instr) (i n j : ℕ) → HasAt k R.proc i (guarded_code gp body)
        → i + length (guarded_code gp body) ≡ j → n + length body ≡ j → HasAt k R.proc n body
    behind_guard None body i n j h e f = let same : i ≡ n = omega arith in subst (λ x. HasAt k R.proc x body) same h
    behind_guard (Some q) body i n j h e f =
        let same : i + 1 + 1 ≡ n = omega arith in subst (λ x. HasAt k R.proc x body) same h.1.1

    -- the same after both tests
    behind_tests : (ev gp : Option ℕ) (body : List Instr) (i n j : ℕ)
        → HasAt k R.proc i (event_code ev (guarded_code gp body))
        → i + length (event_code ev (guarded_code gp body)) ≡ j → n + length body ≡ j → HasAt k R.proc n body
    behind_tests None gp body i n j h e f = behind_guard gp body i n j h e f
    behind_tests (Some x) gp body i n j h e f = behind_guard gp body (i + 1) n j h.1 (omega arith) f

    -- ---- a list

    -- a transition that is enabled, or the rest
    chosen : (t : Trans) (q : TransNumbers) (rest : List Trans) (n j : ℕ) → PartsBy P S.kind t q
        → HasAt k R.proc n (lead_code S t q) → n + length (lead_code S t q) ≡ j → Rest j rest
        → (w : World) → Consistent c w → Alive w → (a : Bool) (v : World) (y : TestEnds w v)
        → MeetsAim C (test_at w n j a v y) SearchAim
        (choose a (p.block life t.condition R.now >>= after_condition c b p life t rest R.now)
        (p.search life rest R.now) v)
    chosen t q rest n j are h e others w ok l true v y =
        conditions t t.condition (condition_of S.kind q) q.action n j rest are.condition are.action are.dest h e others
        v (subst (IsConsistent c.tree) (sym y.same) ok) (ap (lives c.tree life) y.same ∙ l) y.number
    chosen t q rest n j are h e others w ok l false v y =
        others v (subst (IsConsistent c.tree) (sym y.same) ok) (ap (lives c.tree life) y.same ∙ l) y.number

    -- where the rest of a transition stands after its tests
    ends_at : (ev gp : Option ℕ) (body : List Instr) (i : ℕ)
        → (n : ℕ) × (n + length body ≡ i + length (event_code ev (guarded_code gp body)))
    ends_at None None body i = (i, refl)
    ends_at None (Some q) body i = (i + 1 + 1, omega arith)
    ends_at (Some x) None body i = (i + 1, omega arith)
    ends_at (Some x) (Some q) body i = (i + 1 + 1 + 1, omega arith)

    -- the transitions of a list in order
    list_runs : (ts : List Trans) (qs : List TransNumbers) (i : ℕ) → EachBy P S.kind ts qs
        → HasAt k R.proc i (list_code S ts qs) → (w : World) → Consistent c w → Alive w → (r : ℕ)
        → MeetsAim C (stand w r i) SearchAim (search_rule c b p life ts R.now w)
    list_runs [] qs i each h w ok l r = meets_end l (go_ret h.0)
    list_runs (t ∷ ts) qs i each h w ok l r =
        let q = first_of_parts qs in
        let j = i + length (trans_code S t q) in
        let front = has_front k R.proc i (trans_code S t q) (list_code S ts (other_parts qs)) h in
        let back = has_back k R.proc i (trans_code S t q) (list_code S ts (other_parts qs)) h in
        let n = ends_at t.event q.guard (lead_code S t q) i in
        let others : Rest j ts = λ v ok' l' x. low.by ts (other_parts qs) R j each.1 back v ok' l' x in
        then_meets (enabled t.event t.guard q.guard (lead_code S t q) i n.0 j each.0.guard front refl n.1 w r)
        (λ a v y. chosen t q ts n.0 j each.0 (behind_tests t.event q.guard
        (lead_code S t q) i n.0 j front refl n.1) n.1 others w ok l a v y)

-- ---- a search at every height, from its parts at every lower one

-- the code of a list does its search at every height
pub lists : (c : Chart) (tree : IsTree c.tree) (b : Bounds) (k : Procedures) (P : Meaning) (S : Search) → HasResults S
    → (qs_of : ℕ → List TransNumbers) → HasJunctions c k P S qs_of
    → (n : ℕ) → ((m : ℕ) → m < n → PartsDo (program c b k) P (life_of S.state S.kind) (upto c b m))
    → DoesList (program c b k) P S (upto c b n)
lists c tree b k P S results qs_of junctions zero parts = record { by = λ ts qs R i each h w ok l r. meets_unfinished }
lists c tree b k P S results qs_of junctions (suc n) parts =
    let keep = upto_keep c tree b (Consistent c) (consistent_closed c b) n in
    let low = lists c tree b k P S results qs_of junctions n (λ m lt. parts m (omega arith)) in
    record {
      by = λ ts qs R i each h w ok l r. list_runs c b k P S results qs_of junctions (upto c b n) keep
          (parts n (omega arith)) (idle_upto c b n) low R ts qs i each h w ok l r;
    }
