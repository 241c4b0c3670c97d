-- Nets whose charts have the same runs are driven in the same ways.
use Rattle.std.proofs.Common.{◌≡◌, ◌∙◌, ℕ, List, [], ◌∷◌, ◌++◌, Option, Some, None, Result, Ok, Err, refl, sym, ap₂}
use Rattle.std.proofs.Common.{cond, subst}
use Rattle.std.specs.Prelude.{nat_eq, slice_index, codes}
use Rattle.std.specs.List.{position}
use Rattle.std.specs.Str.{bytes_eq}
use Rattle.actions.specs.Runs.{StartRelation, ReactionRelation}
use Rattle.event_file.specs.EventLines.{tokens_of}
use Rattle.event_file.specs.declared.fault.LineFault.{LineFault}
use Rattle.event_file.specs.declared.fault.LineFault.TheVariants as faults
use Rattle.step_driver.specs.Driving.{Seen, Wrote, WroteAll, WroteGiven, WrotePart, WroteSome, TakesNoMore}
use Rattle.step_driver.specs.StepRuns.{StepRuns}
use Rattle.chart_net.specs.Nets.{Net, NetWorld}
use Rattle.chart_net.specs.NetRuns.{NetStep, Outcome, Moved, WasEmpty, NetMoment, starts_of}
use Rattle.chart_net.specs.NetTraces.{RunEnd, NetRan, outcome_line, lines_from, net_trace, number_after}
use Rattle.chart_net.specs.Schedules.{giving_to, giving_step, taking_step, step_of_tokens, step_of_line}
use Rattle.chart_net.specs.NetDriving.{RanFront, IsStartTrace, net_runs, NetDrives}
use Rattle.chart_net.specs.declared.driver.NetEnd.{NetEnd}
use Rattle.chart_net.specs.declared.driver.NetEnd.TheVariants as ends
use Rattle.commands.proofs.SameSteps.{wrote_all, wrote_given, wrote_part, wrote_some, takes_no_more}
use Rattle.commands.proofs.SameNets.{ChartsRunToo, other, net_goes_too}

module _ (net : Net) (starts : ℕ → StartRelation) (reacts : ℕ → ReactionRelation)
    (to : ChartsRunToo net.starts net.reacts starts reacts) (back : ChartsRunToo starts reacts net.starts net.reacts)
  where
    -- the net with the other runs
    abbrev second : Net
    second = other net starts reacts to

    -- ---- what doesn't turn on the runs

    -- the line of an outcome
    same_outcome : (p : ℕ) (after : NetWorld) (outcome : Outcome)
        → outcome_line second p after outcome ≡ outcome_line net p after outcome
    same_outcome p after (Moved c given m full) = refl
    same_outcome p after (WasEmpty r) = refl

    -- the lines of moments
    same_lines : (p : ℕ) (moments : List NetMoment) → lines_from second p moments ≡ lines_from net p moments
    same_lines p [] = refl
    same_lines p (m ∷ moments) =
        ap₂ (λ (x y : List ℕ). x ++ y) (same_outcome (number_after p m.step) m.after m.outcome)
        (same_lines (number_after p m.step) moments)

    -- the trace of a run
    same_trace : (moments : List NetMoment) → net_trace second moments ≡ net_trace net moments
    same_trace moments = same_lines 0 moments

    -- a step for a chart
    same_giving_to : (o : Option ℕ) (tokens : List (List ℕ)) → giving_to second o tokens ≡ giving_to net o tokens
    same_giving_to None tokens = refl
    same_giving_to (Some c) tokens = refl

    -- what follows `ev`
    same_giving : (tokens : List (List ℕ)) → giving_step second tokens ≡ giving_step net tokens
    same_giving [] = refl
    same_giving (name ∷ tokens) = same_giving_to (position (bytes_eq name) net.names) tokens

    -- what follows `take`
    same_taking : (tokens : List (List ℕ)) → taking_step second tokens ≡ taking_step net tokens
    same_taking [] = refl
    same_taking (word ∷ []) = refl
    same_taking (word ∷ (more ∷ tokens)) = refl

    -- a line by its tokens
    same_tokens : (tokens : List (List ℕ)) → step_of_tokens second tokens ≡ step_of_tokens net tokens
    same_tokens [] = refl
    same_tokens (first ∷ rest) = λ i.
        cond (nat_eq (slice_index first 0) 35) (Ok None)
        (cond (bytes_eq first (codes "ev")) (same_giving rest i)
        (cond (bytes_eq first (codes "take")) (same_taking rest i) (Err faults.BadStep)))

    -- a line
    same_step : (line : List ℕ) → step_of_line second line ≡ step_of_line net line
    unfolding step_of_line
    same_step line = same_tokens (tokens_of line)

    -- ---- runs and what is written

    -- a traced run
    ran : (steps : List NetStep) (text : List ℕ) (end : Option RunEnd) → NetRan net steps text end
        → NetRan second steps text end
    ran steps text end r = record {
      moments = r.moments;
      runs = net_goes_too net starts reacts to (starts_of net ++ steps) r.moments r.runs;
      traced = r.traced ∙ sym (same_trace r.moments);
      ended = r.ended;
    }

    -- one of a front of the steps
    ran_first : (steps : List NetStep) (trace : List ℕ) (end : Option RunEnd) → RanFront net steps trace end
        → RanFront second steps trace end
    ran_first steps trace end r = record {
      front = r.front;
      rest = r.rest;
      parts = r.parts;
      moments = r.moments;
      goes = net_goes_too net starts reacts to r.front r.moments r.goes;
      traced = r.traced ∙ sym (same_trace r.moments);
      ended = r.ended;
    }

    -- a trace of the starts
    begin : (text : List ℕ) → IsStartTrace second text → IsStartTrace net text
    begin text b = record {
      moments = b.moments;
      runs = net_goes_too second net.starts net.reacts back (starts_of net ++ []) b.moments b.runs;
      traced = b.traced ∙ same_trace b.moments;
    }

    -- ---- what is driven

    -- the steps of the second where lines say these
    abbrev saying : (List ℕ → Result (Option NetStep) LineFault) → StepRuns
    saying say = record (net_runs second) { say = say }

    -- lines say the same
    says : step_of_line net ≡ step_of_line second
    says = λ i line. sym (same_step line) i

    -- the whole trace
    all_too : (seen : Seen) (result : Result (Unit {0}) NetEnd) → WroteAll (net_runs net) seen result
        → WroteAll (net_runs second) seen result
    all_too seen result w =
        subst (λ (say : List ℕ → Result (Option NetStep) LineFault). WroteAll (saying say) seen result) says
        (wrote_all (net_runs net) (NetRan second) (RanFront second) (IsStartTrace second) ran ran_first begin seen
        result w)

    -- what was taken
    taken_too : (seen : Seen) → TakesNoMore (net_runs net) seen → TakesNoMore (net_runs second) seen
    taken_too seen w =
        subst (λ (say : List ℕ → Result (Option NetStep) LineFault). TakesNoMore (saying say) seen) says
        (takes_no_more (net_runs net) (NetRan second) (RanFront second) (IsStartTrace second) ran ran_first begin seen w)

    -- both
    wrote_too : (seen : Seen) (result : Result (Unit {0}) NetEnd) → Wrote (net_runs net) seen result
        → Wrote (net_runs second) seen result
    wrote_too seen result w = (all_too seen result w.0, taken_too seen w.1)

    -- what was driven
    pub net_drives : (seen : Seen) (result : Result (Unit {0}) NetEnd) → NetDrives net seen result
        → NetDrives second seen result
    net_drives seen (Ok done) d = (all_too seen (Ok done) d.0, d.1)
    net_drives seen (Err (ends.Line number fault)) d = wrote_too seen (Err (ends.Line number fault)) d
    net_drives seen (Err (ends.Fault p c fault)) d = wrote_too seen (Err (ends.Fault p c fault)) d
    net_drives seen (Err ends.Read) d =
        subst (λ (say : List ℕ → Result (Option NetStep) LineFault). WroteGiven (saying say) seen) says
        (wrote_given (net_runs net) (NetRan second) (RanFront second) (IsStartTrace second) ran ran_first begin seen d)
    net_drives seen (Err ends.Write) d = (
      subst (λ (say : List ℕ → Result (Option NetStep) LineFault). WrotePart (saying say) seen) says
          (wrote_part (net_runs net) (NetRan second) (RanFront second) (IsStartTrace second) ran ran_first begin seen
          d.0),
      taken_too seen d.1,
    )
    net_drives seen (Err ends.TooManyLines) d = wrote_too seen (Err ends.TooManyLines) d
    net_drives seen (Err ends.FileTooLong) d = wrote_too seen (Err ends.FileTooLong) d
    net_drives seen (Err ends.Memory) d = (
      subst (λ (say : List ℕ → Result (Option NetStep) LineFault). WroteSome (saying say) seen) says
          (wrote_some (net_runs net) (NetRan second) (RanFront second) (IsStartTrace second) ran ran_first begin seen
          d.0),
      taken_too seen d.1,
    )
    net_drives seen (Err (ends.Full p r)) d = wrote_too seen (Err (ends.Full p r)) d
    net_drives seen (Err (ends.Empty p r)) d = wrote_too seen (Err (ends.Empty p r)) d
