-- The line of a case, and how the command ends.
use Rattle.std.proofs.Common.{◌≡◌, ℕ, ◌-◌, List, ◌++◌, append_assoc, codes, decimal, length, Option, Some, None, refl}
use Rattle.std.proofs.Common.{sym, ap, ◌∙◌, subst}
use Rattle.flow_base.specs.declared.bounds.Bounds.{Bounds}
use Rattle.active_config.specs.Tree.{state_count}
use Rattle.actions.specs.Names.{Names}
use Rattle.checked_chart.specs.Chart.{Chart}
use Rattle.accepted_charts.specs.Accepted.{IsAccepted}
use Rattle.trace_text.specs.Trace.{result_word}
use Rattle.step_driver.specs.Traces.{RunFault, run_fault, trace}
use Rattle.commands.specs.Call.{Output}
use Rattle.commands.specs.Writing.{Wrote, WroteFront}
use Rattle.chart_gen.specs.Cases.{chart_text, events_text}
use Rattle.flow_program.specs.declared.measure.EndFault.{EndFault}
use Rattle.flow_program.specs.declared.measure.Measures.{Measures}
use Rattle.flow_program.specs.CaseLine.{line_text, result_of, line_of_measures}
use Rattle.flow_program.specs.Measures.{HasMeasures, shown_fault}
use Rattle.flow_program.specs.Selftest.{CaseRun, case_events, line_of_run, RanAnd, IsFaultAt, end_of}
use Rattle.flow_program.specs.Selftest.{SelftestEnds}

-- ---- the line, put piece by piece

-- nine pieces after a first one
pieces : (a b c d e f g h i j k : List ℕ)
    → a ++ (b ++ (c ++ (d ++ (e ++ (f ++ (g ++ (h ++ (i ++ (j ++ k)))))))))
    ≡ a ++ b ++ c ++ d ++ e ++ f ++ g ++ h ++ i ++ j ++ k
pieces a b c d e f g h i j k =
    sym (append_assoc (a ++ b ++ c ++ d ++ e ++ f ++ g ++ h ++ i) j k
    ∙ append_assoc (a ++ b ++ c ++ d ++ e ++ f ++ g ++ h) i (j ++ k)
    ∙ append_assoc (a ++ b ++ c ++ d ++ e ++ f ++ g) h (i ++ (j ++ k))
    ∙ append_assoc (a ++ b ++ c ++ d ++ e ++ f) g (h ++ (i ++ (j ++ k)))
    ∙ append_assoc (a ++ b ++ c ++ d ++ e) f (g ++ (h ++ (i ++ (j ++ k))))
    ∙ append_assoc (a ++ b ++ c ++ d) e (f ++ (g ++ (h ++ (i ++ (j ++ k)))))
    ∙ append_assoc (a ++ b ++ c) d (e ++ (f ++ (g ++ (h ++ (i ++ (j ++ k))))))
    ∙ append_assoc (a ++ b) c (d ++ (e ++ (f ++ (g ++ (h ++ (i ++ (j ++ k)))))))
    ∙ append_assoc a b (c ++ (d ++ (e ++ (f ++ (g ++ (h ++ (i ++ (j ++ k)))))))))

-- the line of a case
pub line_in_pieces : (n states events bytes : ℕ) (result : List ℕ)
    → codes "selftest " ++ (decimal n ++ (codes ": " ++ (decimal states ++
    (codes " states, " ++ (decimal events ++ (codes " events, "
    ++ (decimal bytes ++ (codes " trace bytes, " ++ (result ++ codes "\n")))))))))
    ≡ line_text n states events bytes result
line_in_pieces n states events bytes result =
    pieces (codes "selftest ") (decimal n) (codes ": ") (decimal states) (codes " states, ") (decimal events)
    (codes " events, ")
    (decimal bytes) (codes " trace bytes, ") result (codes "\n")

-- ---- a run of the case

-- all that is known of a run of case n
pub record IsMeasured (n states : ℕ) (c : Chart) (bounds : Bounds) (m : Measures) : Type 0 where
  pub accepted : IsAccepted (chart_text n) c
  pub depth : bounds.depth ≡ 8
  pub steps : bounds.steps ≡ 10000
  pub counted : states ≡ state_count c.tree
  pub has : HasMeasures c bounds (events_text n) m

-- it is known of the texts of the case
pub is_measured : (n states : ℕ) (c : Chart) (bounds : Bounds) (m : Measures) (text events : List ℕ) → text
    ≡ chart_text n
    → events ≡ events_text n → IsAccepted text c → bounds.depth ≡ 8 → bounds.steps ≡ 10000 → states ≡ state_count c.tree
    → HasMeasures c bounds events m → IsMeasured n states c bounds m
is_measured n states c bounds m text events text_is events_are accepted depth steps counted has =
    record {
      accepted = subst (λ (z : List ℕ). IsAccepted z c) text_is accepted;
      depth = depth;
      steps = steps;
      counted = counted;
      has = subst (λ (z : List ℕ). HasMeasures c bounds z m) events_are has;
    }

-- the run
abbrev run_of : (n states : ℕ) (c : Chart) (bounds : Bounds) (m : Measures) → IsMeasured n states c bounds m → CaseRun n
run_of n states c bounds m h =
    record {
      chart = c;
      accepted = h.accepted;
      bounds = bounds;
      depth = h.depth;
      steps = h.steps;
      moments =
          h.has.moments;
      runs = h.has.runs;
    }

-- its line
line_is : (n states : ℕ) (c : Chart) (bounds : Bounds) (m : Measures) (h : IsMeasured n states c bounds m)
    → line_of_measures n states m ≡ line_of_run n (run_of n states c bounds m h)
line_is n states c bounds m h =
    let moments = h.has.moments in
    let count = length moments - 1 in
    let bytes = length (trace c.tree c.names (case_events c.names n) moments) in
    ap (λ (x : ℕ). line_text n x m.events m.trace_bytes (result_of m.fault)) h.counted
    ∙ ap (λ (x : ℕ). line_text n (state_count c.tree) x m.trace_bytes (result_of m.fault)) h.has.events
    ∙ ap (λ (x : ℕ). line_text n (state_count c.tree) count x (result_of m.fault)) h.has.trace_bytes
    ∙ ap (λ (x : List ℕ). line_text n (state_count c.tree) count bytes x)
    (ap result_of h.has.fault)

-- a run that is shown without a fault has none
none_shown : (names : Names) (fault : Option RunFault) → shown_fault names fault ≡ None → fault ≡ None
none_shown names None is = refl
none_shown names (Some f) is = absurd (cc)

-- a run that is shown with a fault has it
some_shown : (names : Names) (fault : Option RunFault) (e : EndFault) → shown_fault names fault ≡ Some e
    → IsFaultAt e.index e.word names fault
some_shown names None e is = absurd (cc)
some_shown names (Some f) e is =
    let same : record { index = f.index; word = result_word names (Some f.fault) } ≡ e = let k = is in cc in
    record {
      ended_in = f;
      is_that = refl;
      index_is = ap (λ (x : EndFault). x.index) (sym same);
      word_is = ap (λ (x : EndFault). x.word) (sym same);
    }

-- the line was written
pub line_written : (n states : ℕ) (c : Chart) (bounds : Bounds) (m : Measures) (before after : Output) (line : List ℕ)
    → IsMeasured n states c bounds m → line ≡ line_of_measures n states m → Wrote before after line
    → SelftestEnds n before after (end_of m.fault)
line_written n states c bounds m before after line h is wrote = by_fault m.fault refl
  where
    written : Wrote before after (line_of_run n (run_of n states c bounds m h))
    written = subst (λ (z : List ℕ). Wrote before after z) (is ∙ line_is n states c bounds m h) wrote

    by_fault : (fault : Option EndFault) → m.fault ≡ fault → SelftestEnds n before after (end_of fault)
    by_fault None none = record {
      run = run_of n states c bounds m h;
      ended = none_shown c.names (run_fault 0 h.has.moments) (sym h.has.fault ∙ none);
      written = written;
    }
    by_fault (Some e) some = record {
      run = run_of n states c bounds m h;
      ended = some_shown c.names (run_fault 0 h.has.moments) e (sym h.has.fault ∙ some);
      written = written;
    }

-- a write failed
pub line_cut : (n states : ℕ) (c : Chart) (bounds : Bounds) (m : Measures) (before after : Output) (line : List ℕ)
    → IsMeasured n states c bounds m → line ≡ line_of_measures n states m → WroteFront before after line
    → RanAnd n (λ names fault. Unit {0}) WroteFront before after
line_cut n states c bounds m before after line h is front = record {
  run = run_of n states c bounds m h;
  ended = tt;
  written = subst (λ (z : List ℕ). WroteFront before after z) (is ∙ line_is n states c bounds m h) front;
}
