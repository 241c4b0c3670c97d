-- `Play`: the noted actions one after another, each one step.
use Rattle.std.proofs.Common.{◌≡◌, ℕ, suc, ◌≤◌, ◌<◌, true, List, [], ◌∷◌, length, Option, Some, None, refl, sym, ap}
use Rattle.std.proofs.Common.{◌∙◌, subst, arith}
use Rattle.std.specs.Prelude.{if◌then◌else◌}
use Rattle.std.proofs.lemmas.Bool.{le-ltb}
use Rattle.std.proofs.lemmas.Bool.Decides.{nat_tests}
use Rattle.flow_base.specs.declared.bounds.Bounds.{Bounds}
use Rattle.active_config.specs.Tree.{state_count}
use Rattle.active_config.specs.Marks.{is_bare, IsConsistent}
use Rattle.actions.specs.Exprs.{Stmt}
use Rattle.actions.specs.World.{World, Bare}
use Rattle.actions.specs.Work.{if_done, End, Done, Cut, Now}
use Rattle.actions.proofs.ChangeLemmas.{kept, paid_keeps}
use Rattle.checked_chart.specs.Chart.{Chart}
use Rattle.checked_chart.specs.Valid.{IsValid}
use Rattle.sos_rules.specs.Parts.{Parts}
use Rattle.sos_rules.specs.Searches.{play_rule}
use Rattle.sos_rules.specs.Rules.{rules}
use Rattle.sos_rules.proofs.Keeps.{Keeps, Consistent}
use Rattle.code_language.specs.Code.{Procedures, fetch}
use Rattle.code_language.specs.Machine.{Program, Frame, machine, later, noted}
use Rattle.code_language.specs.Instrs as instrs
use Rattle.code_language.specs.Reach.{MeetsAim, pending}
use Rattle.code_language.proofs.Notes.{IsHead, noted_head}
use Rattle.code_language.proofs.Joins.{meets_end, then_meets_with}
use Rattle.code_language.proofs.Steps.{go_play_none, go_play_lame, go_play}
use Rattle.chart_code.specs.Numbers.{Numbers}
use Rattle.chart_code.specs.Kinds.{aimed, Tells, AreNotes, HasBlock, behind, DoesPlay, AllDo, program}
use Rattle.chart_code.specs.Compiled.{Compiled}
use Rattle.chart_code.proofs.Pieces.{keeping}

-- the cursor of the top frame tells nothing of notes
noted_aimed : (k cursor : ℕ) (f : Frame) (fs : List Frame) → noted k (aimed f cursor ∷ fs) ≡ noted k (f ∷ fs)
unfolding noted
noted_aimed k cursor f fs = refl

-- the later of two numbers is the first, where the second isn't greater
later_same : (x y : ℕ) → y ≤ x → later x y ≡ x
later_same x y h = ap (λ t. if t then y else x) (le-ltb x y h)

-- the later of two numbers is at least the second
later_from : (x y : ℕ) → y ≤ later x y
later_from x y = grind (arith, nat_tests)

module _ (c : Chart) (b : Bounds) (k : Procedures) (N : Numbers) (valid : IsValid c) (K : Compiled c k N) (p : Parts)
    (keep : Keeps (Consistent c) p) (low : AllDo (program c b k) c N p) where
  -- the chart's code under these bounds
  abbrev C : Program
  C = program c b k

  module _ (f : Frame) (fs : List Frame) (has : fetch k f.proc f.place ≡ Some instrs.Play)
      (lt : f.home < state_count c.tree) (now : Now) where
    -- from which frame `Play` looks, with this cursor
    abbrev from : ℕ → ℕ
    from cursor = later cursor (suc f.base)

    -- no note is left
    none : (cursor r : ℕ) (w : World) → is_bare c.tree f.home w.marks ≡ true → (o : Option (ℕ × ℕ))
        → noted (from cursor) (f ∷ fs) ≡ o → IsHead (from cursor) (f ∷ fs) o → pending (from cursor) (f ∷ fs) ≡ []
        → MeetsAim C (machine w now r (aimed f cursor ∷ fs)) (behind c.tree f fs now) (play_rule c b p f.home [] now w)
    none cursor r w bare None q y n =
        meets_end (record { cursor = cursor; number = r; good = bare })
        (go_play_none has (noted_aimed (from cursor) cursor f fs ∙ q))
    none cursor r w bare (Some x) q y n = absurd (cc (y.2, n))

    -- after a noted procedure has returned
    played : (i : ℕ) (actions : List (List Stmt)) → f.base < i → AreNotes c.tree k N (pending i (f ∷ fs)) actions
        → (a : End) (w : World) (r : ℕ) → Consistent c w → Tells a (is_bare c.tree f.home w.marks)
        → MeetsAim C (machine w now r (aimed f i ∷ fs)) (behind c.tree f fs now)
        (if_done a Cut (p.play f.home actions now) w)
    played i actions le notes Done w r ok e =
        low.play.by f fs has lt actions i (subst (λ n. AreNotes c.tree k N (pending n (f ∷ fs)) actions)
        (sym (later_same i (suc f.base) le)) notes) w ok e now r
    played i actions le notes Cut w r ok e =
        meets_end (record { cursor = i; number = r; good = e }) (go_play_lame has e)

    -- a note is found
    some : (s : Stmt) (ss : List Stmt) (actions : List (List Stmt)) (q : ℕ) (ps : List ℕ)
        → HasBlock c.tree k N instrs.BareHome q (s ∷ ss) → AreNotes c.tree k N ps actions
        → (cursor r : ℕ) (w : World) → Consistent c w → is_bare c.tree f.home w.marks ≡ true
        → (o : Option (ℕ × ℕ)) → noted (from cursor) (f ∷ fs) ≡ o → IsHead (from cursor) (f ∷ fs) o
        → pending (from cursor) (f ∷ fs) ≡ q ∷ ps
        → MeetsAim C (machine w now r (aimed f cursor ∷ fs)) (behind c.tree f fs now)
        (play_rule c b p f.home ((s ∷ ss) ∷ actions) now w)
    some s ss actions q ps block notes cursor r w ok bare None e y n = absurd (cc (y, n))
    some s ss actions q ps block notes cursor r w ok bare (Some x) e y n =
        let e1 : q ≡ x.1 = cc (y.2, n) in
        let e2 : ps ≡ pending (suc x.0) (f ∷ fs) = cc (y.2, n) in
        let le : f.base < suc x.0 = omega (arith, y.0, later_from cursor (suc f.base)) in
        let block' = subst (λ z. HasBlock c.tree k N instrs.BareHome z (s ∷ ss)) e1 block in
        go_play has (noted_aimed (from cursor) cursor f fs ∙ e) bare (λ u m.
        let same = kept w (paid_keeps b w) m in
        let ok' = subst (IsConsistent c.tree) (sym same) ok in
        then_meets_with (keeping (keep.block (Bare f.home) (s ∷ ss) now u ok'))
        (low.block.by (Bare f.home) (s ∷ ss) x.1 0 block'.code block'.targets u ok'
        (ap (is_bare c.tree f.home) same ∙ bare) now r None (suc (length fs)) (aimed f (suc x.0) ∷ fs))
        (λ a v z ok''. played (suc x.0) actions le (subst (λ l. AreNotes c.tree k N l actions) e2 notes) a v z.number
        ok'' z.good))

    -- by the actions that are left
    plays_by : (actions : List (List Stmt)) (ps : List ℕ) (cursor : ℕ) → pending (from cursor) (f ∷ fs) ≡ ps
        → AreNotes c.tree k N ps actions
        → (w : World) → Consistent c w → is_bare c.tree f.home w.marks ≡ true → (r : ℕ)
        → MeetsAim C (machine w now r (aimed f cursor ∷ fs)) (behind c.tree f fs now)
        (play_rule c b p f.home actions now w)
    plays_by [] [] cursor e notes w ok bare r =
        none cursor r w bare (noted (from cursor) (f ∷ fs)) refl (noted_head (from cursor) (f ∷ fs)) e
    plays_by [] (q ∷ ps) cursor e notes w ok bare r = absurd notes
    plays_by ([] ∷ actions) [] cursor e notes w ok bare r =
        low.play.by f fs has lt actions cursor (subst (λ l. AreNotes c.tree k N l actions)
        (sym e) notes) w ok bare now r
    plays_by ([] ∷ actions) (q ∷ ps) cursor e notes w ok bare r =
        low.play.by f fs has lt actions cursor (subst (λ l. AreNotes c.tree k N l actions)
        (sym e) notes) w ok bare now r
    plays_by ((s ∷ ss) ∷ actions) [] cursor e notes w ok bare r = absurd notes
    plays_by ((s ∷ ss) ∷ actions) (q ∷ ps) cursor e notes w ok bare r =
        some s ss actions q ps notes.0 notes.1 cursor r w ok bare (noted (from cursor) (f ∷ fs)) refl
        (noted_head (from cursor) (f ∷ fs)) e

  -- the contract of `Play`
  pub does_play : DoesPlay C N (rules c b p)
  does_play =
      record {
        by = λ f fs has lt actions cursor notes w ok bare now r. plays_by f fs has lt now actions
            (pending (later cursor (suc f.base)) (f ∷ fs)) cursor refl notes w ok bare r;
      }
