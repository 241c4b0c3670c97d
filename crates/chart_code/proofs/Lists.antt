-- The procedures of lists do their searches, where those of their blocks do their work.
use Rattle.std.proofs.Common.{◌≡◌, ℕ, suc, Bool, true, false, List, [], ◌∷◌, length, Option, Some, None, Result, Ok}
use Rattle.std.proofs.Common.{Err, refl, sym, subst}
use Rattle.flow_base.specs.declared.bounds.Bounds.{Bounds}
use Rattle.flow_base.specs.declared.fault.Fault.{Fault}
use Rattle.actions.specs.Exprs.{Expr}
use Rattle.actions.specs.World.{World}
use Rattle.actions.specs.Work.{flag_or_fault, Now}
use Rattle.actions.specs.Changes.{truth_of}
use Rattle.checked_chart.specs.Chart.{Chart, Trans, list_of, life_of}
use Rattle.checked_chart.specs.declared.parts.ListKind.{ListKind}
use Rattle.checked_chart.specs.declared.parts.ListKind.TheVariants.{Outer, Inner, Default}
use Rattle.checked_chart.specs.Homes.{home_of}
use Rattle.checked_chart.specs.Valid.{IsValid}
use Rattle.checked_chart.specs.Reached.{links_of, Reached}
use Rattle.sos_rules.specs.Parts.{Found, Fire, DeadEnd, No, Stop, Parts}
use Rattle.sos_rules.specs.Rules.{upto}
use Rattle.code_language.specs.Code.{Procedures}
use Rattle.code_language.specs.Machine.{Program, Frame, machine, fresh}
use Rattle.code_language.specs.Reach.{Reaches, Arrives, MeetsAim, HasAt, with_note, pending}
use Rattle.code_language.proofs.Joins.{here, on_to, meets_on, meets_end, meets_fall, meets_more}
use Rattle.code_language.proofs.Steps.{go_begin, go_ret}
use Rattle.code_language.proofs.Tests.{yes_test, no_test, fall_test}
use Rattle.chart_code.specs.Numbers.{Numbers, TransNumbers, ListNumbers}
use Rattle.chart_code.specs.StateProcedures.{guard_code}
use Rattle.chart_code.specs.Kinds.{AreNotes, EndFacts, end_at, finds, DoesBlock, program}
use Rattle.chart_code.specs.ListProcedures.{context_of, Search, search_of}
use Rattle.chart_code.specs.Compiled.{ListsCompiled}
use Rattle.chart_code.specs.SearchParts.{HasResults, Meaning, flag_number, DoesGuard, PartsDo, Told}
use Rattle.chart_code.specs.SearchParts.{told_meaning, ListStands}
use Rattle.chart_code.proofs.Known.{meaning_of}
use Rattle.chart_code.specs.SearchFrames.{onto, notes_of, Searcher, searching, EndFactsFrom, end_from, FactsFrom}
use Rattle.chart_code.specs.SearchFrames.{found_from, SearchesFrom}
use Rattle.chart_code.proofs.ByHeight.{SearchesDo}
use Rattle.chart_code.proofs.Noted.{pending_onto}
use Rattle.chart_code.proofs.Searches.{lists}
use Rattle.chart_code.proofs.Validity.{list_by, junction_by}

-- ---- the parts in a chart's code

-- a guard's procedure gives the guard
guard_does : (C : Program) (q : ℕ) (e : Expr) → HasAt C.procedures q 0 (guard_code e) → DoesGuard C q e
guard_does C q e h = record { by = λ w now r tag base home fs. at w now r tag base home fs (truth_of e w) refl }
  where
    -- by how the guard ends
    at : (w : World) (now : Now) (r : ℕ) (tag : Option ℕ) (base home : ℕ) (fs : List Frame) (o : Result Bool Fault)
        → truth_of e w ≡ o
        → MeetsAim C (machine w now r (fresh q tag base home None ∷ fs))
        (record { Facts = λ a v. v.marks ≡ w.marks; stands = λ a v i. machine v now (flag_number a) fs })
        (flag_or_fault o w)
    at w now r tag base home fs (Ok true) t = meets_end refl (on_to (yes_test h.0 t) (go_ret h.1.0))
    at w now r tag base home fs (Ok false) t = meets_end refl (on_to (no_test h.0 t) (go_ret h.1.1.0))
    at w now r tag base home fs (Err x) t = meets_fall (fall_test h.0 t)

module _ (c : Chart) (valid : IsValid c) (b : Bounds) (k : Procedures) (N : Numbers) (M : ListNumbers) where
  -- guards and condition actions do their work
  parts_do : (s : ℕ) (kind : ListKind) (J : ℕ → Type 0) (p : Parts) → DoesBlock (program c b k) N p
      → PartsDo (program c b k) (meaning_of c.tree k N s kind J) (life_of s kind) p
  parts_do s kind J p block = record {
    guard = λ q e h. guard_does (program c b k) q e h;
    condition =
        λ q ss h. record {
          by = λ w ok l now r tag base fs. block.by
              (life_of s kind) ss q 0 h.code h.targets w ok l now r tag base fs;
        };
  }

  -- a search's results aren't 0
  results_of : (s : ℕ) (kind : ListKind) → HasResults (search_of N M c.tree s kind)
  results_of s Outer = record { by = λ d. (suc (suc (home_of c.tree s Outer d)), refl) }
  results_of s Inner = record { by = λ d. (0, refl) }
  results_of s Default = record { by = λ d. (0, refl) }

  -- what a search from place 1 of its list's procedure comes to, in the words of its contract
  module _ (s : ℕ) (kind : ListKind) (J : ℕ → Type 0) (now : Now) (tag : Option ℕ) (fs : List Frame) where
    -- what the procedures of the list share
    abbrev S : Search
    S = search_of N M c.tree s kind

    -- what is known of the parts
    abbrev P : Meaning
    P = meaning_of c.tree k N s kind J

    -- the list's procedure, just begun
    abbrev R : Searcher
    R = record { proc = N.search s kind; tag = tag; base = length fs; now = now; below = fs }

    -- an empty junction
    end_said : (w : World) (end : Option ℕ) (y : EndFactsFrom (program c b k) end S R w)
        → (z : EndFacts (program c b k) end s kind now fs w) × Reaches (program c b k)
        (end_from (program c b k) end S R w y) (end_at (program c b k) end s kind now fs w z)
    end_said w None y = absurd y
    end_said w (Some e) y = (
      record {
        result = y.result;
        tag = None;
        base = length fs;
        below = onto y.between (searching S R y.place ∷ fs);
        alive = y.alive;
        back = y.back;
      },
      here,
    )

    -- what the search found
    said : (f : Found) (w : World) (y : FactsFrom (program c b k) P S R f w)
        → Arrives (program c b k) (found_from (program c b k) P S R f w y) (finds (program c b k) N s kind now fs) f w
    said No w y = record { facts = y; reached = here }
    said Stop w y = record { facts = y; reached = here }
    said (Fire d actions) w y =
        let top = fresh ((context_of N c.tree s kind).fire d) y.tag (length fs) s None in
        let wait = searching S R y.place in
        let e : notes_of y.between (with_note y.tag []) ≡ pending (suc (length fs)) (top ∷ onto y.between (wait ∷ fs)) =
        sym (pending_onto top y.between (wait ∷ fs)) in
        record {
          facts = record {
            result = y.result;
            tag = y.tag;
            base = length fs;
            below = onto y.between (wait ∷ fs);
            alive = y.alive;
            leads = y.leads;
            notes = subst (λ l. AreNotes c.tree k N l actions) e y.notes;
            back = y.back;
          };
          reached = here;
        }
    said DeadEnd w y = let z = end_said w (context_of N c.tree s kind).end y in record { facts = z.0; reached = z.1 }

  -- the contract of the searches, from the code of the lists
  pub searches_do : ListsCompiled c k N M → SearchesDo c b k N
  searches_do L = record {
    by = λ n blocks. record {
      by = λ s kind lt w ok l now r tag base fs.
          let h = L.by s kind lt in
          let J = Reached (links_of c) (list_of c s kind) in
          let does =
          lists c valid.tree b k (meaning_of c.tree k N s kind J) (search_of N M c.tree s kind) (results_of s kind)
          M.junction_parts (λ j reached. junction_by c valid k N M s kind lt h j reached) n
          (λ m le. parts_do s kind J (upto c b m) (blocks m le)) in
          meets_on (go_begin h.list.0)
          (meets_more
          (does.by (list_of c s kind) (M.parts s kind)
          (record { proc = N.search s kind; tag = tag; base = length fs; now = now; below = fs }) 1
          (list_by c valid k N M s kind lt h) h.list.1 w ok l r)
          (λ f v y. said s kind J now tag fs f v y));
    };
  }

-- ---- a list in any code

-- a list does its search, whatever the procedures of its firings and of its end do
pub searches_from : (c : Chart) (b : Bounds) (k : Procedures) (S : Search) (told : Told) (height proc : ℕ)
    (list : List Trans) (numbers : List TransNumbers) (junction_numbers : ℕ → List TransNumbers)
    → ListStands c b k S told height proc list numbers junction_numbers
    → SearchesFrom (program c b k) (told_meaning c b k S told height) S (upto c b height) proc list
searches_from c b k S told height proc list numbers junction_numbers h = record {
  by = λ w ok l now r tag base fs.
      let does =
      lists c h.tree b k (told_meaning c b k S told height) S h.results junction_numbers h.junctions height
      (λ m lt. record { guard = λ q e g. g; condition = λ q ss g. g m lt }) in
      meets_on (go_begin h.code.0)
      (does.by list numbers (record { proc = proc; tag = tag; base = length fs; now = now; below = fs }) 1 h.parts
      h.code.1 w ok l r);
}
