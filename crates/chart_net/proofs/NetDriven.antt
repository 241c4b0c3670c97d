-- A run of a net over a schedule, as charts are started and lines are taken, and how it ends.
use Rattle.std.proofs.Common.{◌≡◌, ◌≢◌, ℕ, ◌+◌, ◌<◌, ◌≤◌, ◌⊎◌, Bool, true, false, nat_eq, nat_le, List, [], ◌∷◌, ◌++◌}
use Rattle.std.proofs.Common.{length, drop, map, Option, Some, None, Result, Ok, Err, refl, sym, ap, ◌∙◌, subst, arith}
use Rattle.std.proofs.Common.{append_assoc, append-nil, inr}
use Rattle.std.specs.Prelude.{codes, decimal, if◌then◌else◌, slice_index}
use Rattle.std.specs.List.{position, range_with_len}
use Rattle.std.specs.Str.{bytes_eq}
use Rattle.actions.specs.Runs.{EventWithInputs}
use Rattle.std.proofs.lemmas.List.{take-append-drop}
use Rattle.std.proofs.lemmas.List.FromFn.{take-map-range_with_len, map-range_with_len_more}
use Rattle.flow_base.specs.Causes.{Rose, AllStay, NoneFalls}
use Rattle.flow_base.specs.declared.fault.Fault.{Fault}
use Rattle.event_file.specs.EventLines.{event_of_tokens, tokens_of}
use Rattle.event_file.specs.NextLine.{Nexts}
use Rattle.event_file.specs.Reading.{Reading, unused}
use Rattle.event_file.specs.declared.fault.LineFault.{LineFault}
use Rattle.event_file.specs.declared.fault.LineFault.TheVariants as faults
use Rattle.event_file.specs.declared.limits.TheConstants.{FILE_EVENT_LIMIT}
use Rattle.step_driver.specs.Causes.{ReadCause, WriteCause}
use Rattle.step_driver.specs.Driving.{Seen, Wrote}
use Rattle.step_driver.specs.Ending.{given_text}
use Rattle.step_driver.specs.NextLines.{failed_to_read, failed_to_write}
use Rattle.step_driver.specs.StepRuns.{StepRuns}
use Rattle.step_driver.specs.declared.lines.NoLine.{NoLine}
use Rattle.step_driver.specs.declared.lines.NoLine.TheVariants as no_lines
use Rattle.step_driver.proofs.Buffered.{DriverLaws, run_of_all, run_of_some}
use Rattle.step_driver.proofs.Driven.{RunLaws, Driven, FirstRun, EndOf, NoLineDone, line_passed, line_stepped}
use Rattle.step_driver.proofs.Driven.{line_refused, line_too_many, line_ended, line_cut, line_wants, begun_first}
use Rattle.step_driver.proofs.Driven.{begun_ended, begun_wants}
use Rattle.step_driver.proofs.FileLemmas.{reads_nothing}
use Rattle.chart_net.specs.Moving.{LineDone, StepDone, StepEnds, StepTried, answer_after, answer_for}
use Rattle.chart_net.specs.Causes.{is_memory, is_read, is_write}
use Rattle.chart_net.specs.NetDriving.{HasReadCause, NetDrives, RanFront, end_of_line, net_runs}
use Rattle.chart_net.specs.Nets.{Net, NetWorld, net_before}
use Rattle.chart_net.specs.NetRuns.{NetStep, Starts, Outcome, Moved, WasEmpty, is_well, goes_on, starts_of}
use Rattle.chart_net.specs.NetTraces.{NetRan, RunEnd, Why, ByFault, ByFull, ByEmpty, end_or, net_trace, number_after}
use Rattle.chart_net.specs.NetTraces.{outcome_line, why_ended, why_moved}
use Rattle.chart_net.specs.Schedules.{giving, giving_to, giving_step, step_of_line, step_of_tokens, taking, taking_step}
use Rattle.chart_net.specs.declared.driver.NetEnd.{NetEnd}
use Rattle.chart_net.specs.declared.driver.NetEnd.TheVariants as ends
use Rattle.chart_net.proofs.NetRunLemmas.{GivesOne, NetSoFar, RanOver, net_begun, net_ended, net_one_more}
use Rattle.chart_net.proofs.NetRunLemmas.{net_ran_so_far, net_runs_one}

-- ---- what a step answers

-- nothing ended the run: it goes on
well_none : (c : ℕ) (fault : Option Fault) (full : Option ℕ) → why_moved c fault full ≡ None → is_well fault full ≡ true
well_none c None None is = refl
well_none c None (Some r) is = absurd (cc)
well_none c (Some f) full is = absurd (cc)

goes_none : (outcome : Outcome) → why_ended outcome ≡ None → goes_on outcome ≡ true
goes_none (Moved c given m full) is = well_none c m.fault full is
goes_none (WasEmpty r) is = absurd (cc)

-- that ended the run: it doesn't
well_some : (c : ℕ) (fault : Option Fault) (full : Option ℕ) (why : Why) → why_moved c fault full ≡ Some why
    → is_well fault full ≡ false
well_some c None None why is = absurd (cc)
well_some c None (Some r) why is = refl
well_some c (Some f) full why is = refl

goes_some : (outcome : Outcome) (why : Why) → why_ended outcome ≡ Some why → goes_on outcome ≡ false
goes_some (Moved c given m full) why is = well_some c m.fault full why is
goes_some (WasEmpty r) why is = refl

-- after an answer that is good nothing ended the run
good_none : (failed : Bool) (p : ℕ) (why : Option Why) → Ok tt ≡ answer_after failed p why → why ≡ None
good_none true p why is = absurd (cc)
good_none false p None is = refl
good_none false p (Some why) is = absurd (cc)

-- that memory ran out is the one answer of that kind
memory_is : (end : NetEnd) → is_memory {T = Unit {0}} (Err end) ≡ true → end ≡ ends.Memory
memory_is (ends.Line number fault) is = absurd (cc)
memory_is (ends.Fault p c fault) is = absurd (cc)
memory_is ends.Read is = absurd (cc)
memory_is ends.Write is = absurd (cc)
memory_is ends.TooManyLines is = absurd (cc)
memory_is ends.FileTooLong is = absurd (cc)
memory_is ends.Memory is = refl
memory_is (ends.Full p r) is = absurd (cc)
memory_is (ends.Empty p r) is = absurd (cc)

-- ---- the steps of a schedule

-- what a line says is no start
abbrev IsLater : ℕ → Result (Option NetStep) LineFault → Type 0
IsLater p (Ok None) = Unit {0}
IsLater p (Ok (Some step)) = number_after p step ≡ p + 1
IsLater p (Err fault) = Unit {0}

if_later : (p : ℕ) (b : Bool) (x y : Result (Option NetStep) LineFault) → IsLater p x → IsLater p y
    → IsLater p (if b then x else y)
if_later p true x y a b = a
if_later p false x y a b = b

giving_later : (p c : ℕ) (said : Result (Option EventWithInputs) LineFault) → IsLater p (giving c said)
giving_later p c (Ok None) = tt
giving_later p c (Ok (Some given)) = refl
giving_later p c (Err fault) = tt

giving_to_later : (p : ℕ) (net : Net) (c : Option ℕ) (tokens : List (List ℕ)) → IsLater p (giving_to net c tokens)
giving_to_later p net None tokens = tt
giving_to_later p net (Some c) tokens = giving_later p c (event_of_tokens (net.declared c) tokens)

giving_step_later : (p : ℕ) (net : Net) (tokens : List (List ℕ)) → IsLater p (giving_step net tokens)
giving_step_later p net [] = tt
giving_step_later p net (name ∷ tokens) = giving_to_later p net (position (bytes_eq name) net.names) tokens

taking_later : (p : ℕ) (r : Option ℕ) → IsLater p (taking r)
taking_later p None = tt
taking_later p (Some r) = refl

taking_step_later : (p : ℕ) (net : Net) (tokens : List (List ℕ)) → IsLater p (taking_step net tokens)
taking_step_later p net [] = tt
taking_step_later p net (word ∷ []) =
    taking_later p (position (bytes_eq word) (map decimal (range_with_len 0 (length net.routes))))
taking_step_later p net (word ∷ (more ∷ tokens)) = tt

tokens_later : (p : ℕ) (net : Net) (tokens : List (List ℕ)) → IsLater p (step_of_tokens net tokens)
tokens_later p net [] = tt
tokens_later p net (first ∷ rest) =
    if_later p (nat_eq (slice_index first 0) 35) (Ok None) _ tt
    (if_later p (bytes_eq first (codes "ev")) (giving_step net rest) _ (giving_step_later p net rest)
    (if_later p (bytes_eq first (codes "take")) (taking_step net rest) (Err faults.BadStep)
    (taking_step_later p net rest) tt))

line_later : (p : ℕ) (net : Net) (line : List ℕ) → IsLater p (step_of_line net line)
unfolding step_of_line
line_later p net line = tokens_later p net (tokens_of line)

-- a step of a schedule has the next number
later_step : (p : ℕ) (net : Net) (line : List ℕ) (step : NetStep) → step_of_line net line ≡ Ok (Some step)
    → number_after p step ≡ p + 1
later_step p net line step is = subst (IsLater p) is (line_later p net line)

-- ---- where no line was taken

-- a driver's answer where no line could be taken is a read fault where a read failed
pub reads_same : (end : NoLine) → is_read {T = Unit {0}} (Err (end_of_line end)) ≡ failed_to_read (Err end)
reads_same (no_lines.TooLong number) = refl
reads_same no_lines.FileTooLong = refl
reads_same no_lines.Read = refl
reads_same no_lines.Write = refl

-- and a write fault where a write failed
pub writes_same : (end : NoLine) → is_write {T = Unit {0}} (Err (end_of_line end)) ≡ failed_to_write (Err end)
writes_same (no_lines.TooLong number) = refl
writes_same no_lines.FileTooLong = refl
writes_same no_lines.Read = refl
writes_same no_lines.Write = refl

-- no count rose before
pub read_cause : (name : List ℕ) (before between after : List ℕ → ℕ) (end : NoLine) → AllStay before between
    → ReadCause (failed_to_read (Err end)) name between after → HasReadCause name before after (Err (end_of_line end))
read_cause name before between after end stay c = record {
  fault = λ is. subst (λ (m : ℕ). Rose m (after name)) (stay name) (c.fault (sym (reads_same end) ∙ is));
  others = λ is other. c.others (sym (reads_same end) ∙ is) other ∙ stay other;
}

-- where an answer is no read fault, no count rose
pub no_read : (name : List ℕ) (before after : List ℕ → ℕ) (fault : Bool) → fault ≡ false → AllStay before after
    → ReadCause fault name before after
no_read name before after fault never stay = record { fault = λ is. absurd (cc); others = λ _. stay }

-- where an answer is no write fault, the count is as it was
pub no_write : (before after : ℕ) (fault : Bool) → fault ≡ false → after ≡ before → WriteCause fault before after
no_write before after fault never same = record { fault = λ is. absurd (cc); others = λ _. same }

-- a count that stays doesn't fall
pub none_falls : (counts : List ℕ → ℕ) → NoneFalls counts counts
none_falls counts = λ other. omega arith

-- a count that was kept so far doesn't fall
pub falls_after : (before between after : ℕ) → between ≡ before → between ≤ after → before ≤ after
falls_after before between after stay later = subst (λ (m : ℕ). m ≤ after) stay later

-- a run whose end is that of a line wants memory only where the line does
pub same_memory : (end : NetEnd) (line : Result ℕ NetEnd) → line ≡ Err end → (result : Result (Unit {0}) NetEnd)
    → result ≡ Err end → result ≡ Err ends.Memory → line ≡ Err ends.Memory
same_memory end line of_line result of_end is =
    let same : end ≡ ends.Memory = cc in
    of_line ∙ ap (λ (e : NetEnd). Err e) same

-- it isn't that memory ran out
pub never_memory : (end : NoLine) (result : Result (Unit {0}) NetEnd) → result ≡ Err (end_of_line end)
    → result ≢ Err ends.Memory
never_memory (no_lines.TooLong number) result is e = absurd (cc)
never_memory no_lines.FileTooLong result is e = absurd (cc)
never_memory no_lines.Read result is e = absurd (cc)
never_memory no_lines.Write result is e = absurd (cc)

-- ---- the run so far

-- the run over the starts and these steps left that world, for which something stands, and had that trace
pub record NetState (net : Net) (Stands : NetWorld → Type 0) (p : ℕ) (steps : List NetStep)
    (text : List ℕ) : Type 0 where
  pub now : NetWorld
  pub stands : Stands now
  pub so_far : NetSoFar net (starts_of net ++ steps) now p text

-- the first charts were started, and their lines were put
pub record Starting (net : Net) (Stands : NetWorld → Type 0) (P : List ℕ → Type 0) (c : ℕ) : Type 0 where
  pub text : List ℕ
  pub put : P text
  pub now : NetWorld
  pub stands : Stands now
  pub so_far : NetSoFar net (map Starts (range_with_len 0 c)) now 0 text

module _ (net : Net) where
  -- the runs
  abbrev s : StepRuns
  s = net_runs net

  -- ---- what is driven

  ran_of : (steps : List NetStep) (text : List ℕ) (end : Option RunEnd) → RanOver net (starts_of net ++ steps) text end
      → NetRan net steps text end
  ran_of steps text end r = record { moments = r.moments; runs = r.goes; traced = r.traced; ended = r.ended }

  front_of : (steps front rest : List NetStep) (text : List ℕ) (end : Option RunEnd)
      → starts_of net ++ steps ≡ front ++ rest
      → RanOver net front text end → RanFront net steps text end
  front_of steps front rest text end parts r = record {
    front = front;
    rest = rest;
    parts = parts;
    moments = r.moments;
    goes = r.goes;
    traced = r.traced;
    ended = r.ended;
  }

  -- a run is one over the first of more steps, and a net has one run over its starts
  pub net_laws : GivesOne net → RunLaws s
  net_laws one = record {
    first = λ steps rest text end ran. record {
      front = starts_of net ++ steps;
      rest = rest;
      parts = sym (append_assoc (starts_of net) steps rest);
      moments = ran.moments;
      goes = ran.runs;
      traced = ran.traced;
      ended = ran.ended;
    };
    one_begin = λ a b x y. x.traced ∙ ap (net_trace net) (net_runs_one net [] x.moments y.moments one x.runs y.runs)
        ∙ sym y.traced;
  }

  pub no_line_done : (seen : Seen) (end : NoLine) → NoLineDone s seen end → NetDrives net seen (Err (end_of_line end))
  no_line_done seen (no_lines.TooLong number) done = done
  no_line_done seen no_lines.FileTooLong done = done
  no_line_done seen no_lines.Read done = done
  no_line_done seen no_lines.Write done = done

  pub last_run : GivesOne net → (before left : Option (List ℕ)) (text : List ℕ) (result : Result (Unit {0}) NetEnd)
      → is_read result ≡ false → is_write result ≡ false → NetDrives net (given_text (Some []) text before left) result
      → (text ≡ []) ⊎ FirstRun s before text
  last_run one before left text (Ok done) no_read no_write d =
      inr (run_of_all s before left text (Ok done) (net_laws one) d.0)
  last_run one before left text (Err (ends.Line number fault)) no_read no_write d =
      inr (run_of_all s before left text (Err (ends.Line number fault)) (net_laws one) d.0)
  last_run one before left text (Err (ends.Fault p c fault)) no_read no_write d =
      inr (run_of_all s before left text (Err (ends.Fault p c fault)) (net_laws one) d.0)
  last_run one before left text (Err ends.Read) no_read no_write d = absurd (cc)
  last_run one before left text (Err ends.Write) no_read no_write d = absurd (cc)
  last_run one before left text (Err ends.TooManyLines) no_read no_write d =
      inr (run_of_all s before left text (Err ends.TooManyLines) (net_laws one) d.0)
  last_run one before left text (Err ends.FileTooLong) no_read no_write d =
      inr (run_of_all s before left text (Err ends.FileTooLong) (net_laws one) d.0)
  last_run one before left text (Err ends.Memory) no_read no_write d = run_of_some s before left text d.0
  last_run one before left text (Err (ends.Full p r)) no_read no_write d =
      inr (run_of_all s before left text (Err (ends.Full p r)) (net_laws one) d.0)
  last_run one before left text (Err (ends.Empty p r)) no_read no_write d =
      inr (run_of_all s before left text (Err (ends.Empty p r)) (net_laws one) d.0)

  -- what the driver of a net does by its answers
  abbrev pub driver_laws : GivesOne net → DriverLaws s (NetDrives net)
  driver_laws one = record {
    runs = net_laws one;
    error_of = end_of_line;
    no_line = no_line_done;
    done = λ seen all. all;
    is_read = is_read {T = Unit {0}};
    is_write = is_write {T = Unit {0}};
    reads = reads_same;
    writes = writes_same;
    last = last_run one;
  }

  -- where something ended the run, all is done that the answer says
  ended_so : (before left : Option (List ℕ)) (put : List ℕ) (p : ℕ) (why : Why)
      → ((wrote : Option (List ℕ)) → Wrote s (given_text wrote put before left) (Err (answer_for p why)))
      → EndOf s (NetDrives net) (is_write {T = Unit {0}} (Err (answer_for p why))) before left put
      (Err (answer_for p why))
  ended_so before left put p (ByFault c f) h = h
  ended_so before left put p (ByFull r) h = h
  ended_so before left put p (ByEmpty r) h = h

  -- ---- one step

  module _ (steps : List NetStep) (now : NetWorld) (p q : ℕ) (text : List ℕ) (step : NetStep)
      (Stands : NetWorld → Type 0)
      (P : List ℕ → Type 0) (failed : Bool) (number : number_after p step ≡ q)
      (so_far : NetSoFar net steps now p text) where
    -- the run goes on
    went_on : (done : StepDone net now step q Stands P failed (Ok tt))
        → NetSoFar net (steps ++ step ∷ []) done.next.after q
        (text ++ outcome_line net q done.next.after done.next.outcome)
    went_on done =
        let next = done.next in
        let goes = goes_none next.outcome (good_none failed q (why_ended next.outcome) done.answer) in
        subst (λ (m : ℕ). NetSoFar net (steps ++ step ∷ []) next.after m
        (text ++ outcome_line net m next.after next.outcome))
        number (net_one_more net steps now p text step next so_far done.does goes)

    -- the run up to the step
    ran_up_to : (result : Result (Unit {0}) NetEnd) (done : StepDone net now step q Stands P failed result) (b : Bool)
        → goes_on done.next.outcome ≡ b → (end : Option RunEnd)
        × RanOver net (steps ++ step ∷ []) (text ++ outcome_line net q done.next.after done.next.outcome) end
    ran_up_to result done true goes =
        let next = done.next in
        let k = net_one_more net steps now p text step next so_far done.does goes in (
          None,
          subst (λ (m : ℕ). RanOver net (steps ++ step ∷ [])
              (text ++ outcome_line net m next.after next.outcome) None) number
              (net_ran_so_far net (steps ++ step ∷ []) next.after (number_after p step) _ k),
        )
    ran_up_to result done false goes =
        let next = done.next in (
          end_or (number_after p step) (why_ended next.outcome) None,
          subst (λ (m : ℕ). RanOver net (steps ++ step ∷ []) (text ++ outcome_line net m next.after next.outcome)
              (end_or (number_after p step) (why_ended next.outcome) None)) number
              (net_ended net steps now p text step next [] so_far done.does goes),
        )

    -- the run ends at the step, whatever comes after it
    ran_to_end : (result : Result (Unit {0}) NetEnd) (done : StepDone net now step q Stands P failed result) (why : Why)
        → why_ended done.next.outcome ≡ Some why → (rest : List NetStep)
        → RanOver net (steps ++ step ∷ rest) (text ++ outcome_line net q done.next.after done.next.outcome)
        (Some (record { number = q; why = why }))
    ran_to_end result done why is rest =
        let next = done.next in
        let ran = net_ended net steps now p text step next rest so_far done.does (goes_some next.outcome why is) in
        let line : ℕ → List ℕ = λ m. text ++ outcome_line net m next.after next.outcome in
        subst (λ (m : ℕ). RanOver net (steps ++ step ∷ rest) (line m) (Some (record { number = m; why = why }))) number
        (subst (λ (w : Option Why). RanOver net (steps ++ step ∷ rest) (line (number_after p step))
        (end_or (number_after p step) w None))
        is ran)

  -- ---- the starts

  -- no chart was started
  pub starting_first : (Stands : NetWorld → Type 0) (P : List ℕ → Type 0) → Stands net_before → P []
      → Starting net Stands P 0
  starting_first Stands P stands put =
      record { text = []; put = put; now = net_before; stands = stands; so_far = net_begun net }

  -- the other starts come after the first ones
  starts_after : (c : ℕ) → c ≤ length net.names
      → starts_of net ≡ map Starts (range_with_len 0 c) ++ drop c (starts_of net)
  starts_after c few =
      sym (take-append-drop c (starts_of net))
      ∙ ap (λ (z : List NetStep). z ++ drop c (starts_of net))
      (take-map-range_with_len Starts 0 (length net.names) c few)

  -- and the start of the next chart first
  starts_more : (c : ℕ) → map Starts (range_with_len 0 (c + 1)) ≡ map Starts (range_with_len 0 c) ++ Starts c ∷ []
  starts_more c = map-range_with_len_more Starts 0 c c (omega arith)

  module _ (c : ℕ) (Stands Stands' : NetWorld → Type 0) (P P' P'' : List ℕ → Type 0) (failed : Bool)
      (both : (first second : List ℕ) → P first → P' second → P'' (first ++ second)) (k : Starting net Stands P c) where
    -- one chart more was started
    pub starting_more : StepEnds net k.now (Starts c) 0 Stands' P' failed (Ok tt) → Starting net Stands' P'' (c + 1)
    starting_more done = record {
      text = k.text ++ outcome_line net 0 done.next.after done.next.outcome;
      put = both k.text _ k.put done.put;
      now = done.next.after;
      stands = done.stands_now;
      so_far = subst (λ (z : List NetStep). NetSoFar net z done.next.after 0
          (k.text ++ outcome_line net 0 done.next.after done.next.outcome))
          (sym (starts_more c))
          (went_on (map Starts (range_with_len 0 c)) k.now 0 0 k.text (Starts c) Stands' P' failed refl k.so_far done);
    }

    -- the steps after that start
    parts_after : c < length net.names → (steps : List NetStep)
        → starts_of net ++ steps ≡ (map Starts (range_with_len 0 c) ++ Starts c ∷ []) ++
        (drop (c + 1) (starts_of net) ++ steps)
    parts_after few steps =
        ap (λ (z : List NetStep). z ++ steps) (starts_after (c + 1) (omega (arith, few))
        ∙ ap (λ (z : List NetStep). z ++ drop (c + 1) (starts_of net)) (starts_more c))
        ∙ append_assoc (map Starts (range_with_len 0 c) ++ Starts c ∷ []) (drop (c + 1) (starts_of net)) steps

    -- the run ends at the start of a chart
    pub starts_over : (end : NetEnd) → GivesOne net → c < length net.names → (before : Option (List ℕ))
        → StepEnds net k.now (Starts c) 0 Stands' P' failed (Err end)
        → (put : List ℕ) × P'' put
        × EndOf s (NetDrives net) (is_write {T = Unit {0}} (Err end)) before before put (Err end)
    starts_over end one few before ends' = by_memory (is_memory {T = Unit {0}} (Err end)) refl ends'
      where
        by_answer : (f : Bool) (done : StepDone net k.now (Starts c) 0 Stands' P' failed (Err end)) (why : Option Why)
            → why_ended done.next.outcome ≡ why → Err end ≡ answer_after f 0 why
            → EndOf s (NetDrives net) (is_write {T = Unit {0}} (Err end)) before before
            (k.text ++ outcome_line net 0 done.next.after done.next.outcome) (Err end)
        by_answer true done why is answer =
            let same : end ≡ ends.Write = let e = answer in cc in
            let line : List ℕ = k.text ++ outcome_line net 0 done.next.after done.next.outcome in
            let ran = ran_up_to (map Starts (range_with_len 0 c)) k.now 0 0 k.text
            (Starts c) Stands' P' failed refl k.so_far
            (Err end) done (goes_on done.next.outcome) refl in
            subst (λ (e : NetEnd). EndOf s (NetDrives net) (is_write {T = Unit {0}} (Err e)) before before line (Err e))
            (sym same)
            (begun_first s before line ran.0 (λ steps.
            front_of steps (map Starts (range_with_len 0 c) ++ Starts c ∷ [])
            (drop (c + 1) (starts_of net) ++ steps) line ran.0
            (parts_after few steps) ran.1))
        by_answer false done None is answer = absurd (cc)
        by_answer false done (Some why) is answer =
            let same : end ≡ answer_for 0 why = let e = answer in cc in
            let line : List ℕ = k.text ++ outcome_line net 0 done.next.after done.next.outcome in
            let front : List NetStep = map Starts (range_with_len 0 c) in
            let ran = ran_to_end front k.now 0 0 k.text (Starts c) Stands' P' failed refl k.so_far
            (Err end) done why is in
            subst (λ (e : NetEnd). EndOf s (NetDrives net) (is_write {T = Unit {0}} (Err e)) before before line (Err e))
            (sym same)
            (ended_so before before line 0 why
            (λ wrote. begun_ended s wrote before line (record { number = 0; why = why })
            (Err (answer_for 0 why)) (λ steps. ran_of steps line (Some (record { number = 0; why = why }))
            (subst (λ (z : List NetStep). RanOver net z line (Some (record { number = 0; why = why })))
            (sym (parts_after few steps ∙ append_assoc front (Starts c ∷ []) (drop (c + 1) (starts_of net) ++ steps)))
            (ran (drop (c + 1) (starts_of net) ++ steps)))) (λ stop. refl)))

        by_memory : (b : Bool) → is_memory {T = Unit {0}} (Err end) ≡ b
            → StepEnds net k.now (Starts c) 0 Stands' P' failed (Err end)
            → (put : List ℕ) × P'' put
            × EndOf s (NetDrives net) (is_write {T = Unit {0}} (Err end)) before before put (Err end)
        by_memory true is h =
            let same : end ≡ ends.Memory = memory_is end is in
            let text : List ℕ = k.text ++ [] in
            let front : List NetStep = map Starts (range_with_len 0 c) in
            let puts : P' [] = rw is at h in (
              text,
              both k.text [] k.put puts,
              subst (λ (e : NetEnd). EndOf s (NetDrives net) (is_write {T = Unit {0}} (Err e)) before before text
                  (Err e)) (sym same)
                  (λ wrote. begun_wants s wrote before text
                  (λ steps. inr (front_of steps front (drop c (starts_of net) ++ steps) text
                  None (ap (λ (z : List NetStep). z ++ steps) (starts_after c (omega (arith, few)))
                  ∙ append_assoc front (drop c (starts_of net)) steps)
                  (subst (λ (z : List ℕ). RanOver net front z None) (sym (append-nil k.text))
                  (net_ran_so_far net front k.now 0 k.text k.so_far))))),
            )
        by_memory false is h =
            let done : StepDone net k.now (Starts c) 0 Stands' P' failed (Err end) = rw is at h in (
              k.text ++ outcome_line net 0 done.next.after done.next.outcome,
              both k.text _ k.put done.put,
              by_answer failed done (why_ended done.next.outcome) refl done.answer,
            )

  -- all charts were started, by their count
  pub starting_all : (Stands : NetWorld → Type 0) (P : List ℕ → Type 0) (c : ℕ) → c ≡ length net.names
      → Starting net Stands P c → Starting net Stands P (length net.names)
  starting_all Stands P c all k = subst (λ (n : ℕ). Starting net Stands P n) all k

  -- all charts were started, and no line was taken
  pub net_started : (Stands : NetWorld → Type 0) (P : List ℕ → Type 0) (before : Option (List ℕ)) (r : Reading)
      → r ≡ unused
      → (k : Starting net Stands P (length net.names)) → Driven s (NetState net Stands 0) before before r 0 k.text
  net_started Stands P before r fresh k =
      let so_far : NetSoFar net (starts_of net ++ []) k.now 0 k.text =
      subst (λ (z : List NetStep). NetSoFar net z k.now 0 k.text) (sym (append-nil (starts_of net))) k.so_far in
      let ran = ran_of [] k.text None (net_ran_so_far net (starts_of net ++ []) k.now 0 k.text so_far) in
      record {
        events = [];
        counted = refl;
        limit = omega arith;
        reads = reads_nothing (step_of_line net) before r fresh;
        ran = ran;
        begins = record {
          first = k.text;
          is_begin = record { moments = ran.moments; runs = ran.runs; traced = ran.traced };
          more = [];
          begins = sym (append-nil k.text);
        };
        state = record { now = k.now; stands = k.stands; so_far = so_far };
      }

  -- ---- a line that was taken

  module _ (before left left' : Option (List ℕ)) (r r' : Reading) (p : ℕ) (text : List ℕ)
      (Stands Stands' : NetWorld → Type 0)
      (P : List ℕ → Type 0) (failed : Bool) (d : Driven s (NetState net Stands p) before left r p text)
      (next : Nexts r r' left left' (Ok true)) where
    -- the steps with one more
    more_steps : (step : NetStep) (rest : List NetStep)
        → (starts_of net ++ d.events) ++ (step ∷ rest) ≡ starts_of net ++ (d.events ++ (step ∷ rest))
    more_steps step rest = append_assoc (starts_of net) d.events (step ∷ rest)

    -- the run goes on
    pub line_driven : (next_p : ℕ)
        → LineDone net d.state.now r'.number p (step_of_line net r'.line) Stands' P failed (Ok next_p)
        → (put : List ℕ) × P put × Driven s (NetState net Stands' next_p) before left' r' next_p (text ++ put)
    line_driven next_p taken = by_said (step_of_line net r'.line) refl taken
      where
        by_count : (step : NetStep) (b : Bool) → nat_le FILE_EVENT_LIMIT p ≡ b → step_of_line net r'.line ≡ Ok (Some step)
            → StepTried b net d.state.now step p Stands' P failed (Ok next_p)
            → (put : List ℕ) × P put × Driven s (NetState net Stands' next_p) before left' r' next_p (text ++ put)
        by_count step true many is (bad, _) = absurd (cc)
        by_count step false few is (done, one) =
            let line : List ℕ = outcome_line net (p + 1) done.next.after done.next.outcome in
            let steps : List NetStep = d.events ++ step ∷ [] in
            let so_far : NetSoFar net (starts_of net ++ steps) done.next.after (p + 1) (text ++ line) =
            subst (λ (z : List NetStep). NetSoFar net z done.next.after (p + 1) (text ++ line)) (more_steps step [])
            (went_on (starts_of net ++ d.events) d.state.now p (p + 1) text step Stands' P failed
            (later_step p net r'.line step is) d.state.so_far done) in
            let ran = ran_of steps (text ++ line) None
            (net_ran_so_far net (starts_of net ++ steps) done.next.after (p + 1) (text ++ line) so_far) in (
              line,
              done.put,
              subst (λ (m : ℕ). Driven s (NetState net Stands' m) before left' r' m (text ++ line)) (sym one)
                  (line_stepped s (NetState net Stands p) before left left' r r' p text d next
                  (NetState net Stands' (p + 1)) step line
                  is few ran (record { now = done.next.after; stands = done.stands_now; so_far = so_far })),
            )

        by_said : (said : Result (Option NetStep) LineFault) → step_of_line net r'.line ≡ said
            → LineDone net d.state.now r'.number p said Stands' P failed (Ok next_p)
            → (put : List ℕ) × P put × Driven s (NetState net Stands' next_p) before left' r' next_p (text ++ put)
        by_said (Ok None) is (same, stands, puts) =
            let p_is : next_p ≡ p = let e = same in cc in
            let passed = line_passed s (NetState net Stands p) before left left' r r' p text d next
            (NetState net Stands' p) is
            (record { now = d.state.now; stands = stands; so_far = d.state.so_far }) in (
              [],
              puts,
              rw p_is (subst (λ (z : List ℕ). Driven s (NetState net Stands' p) before left' r' p z)
                  (sym (append-nil text)) passed),
            )
        by_said (Ok (Some step)) is h = by_count step (nat_le FILE_EVENT_LIMIT p) refl is h
        by_said (Err fault) is (bad, _) = absurd (cc)

    -- the run ends
    pub line_fails : (end : NetEnd) → GivesOne net
        → LineDone net d.state.now r'.number p (step_of_line net r'.line) Stands' P failed (Err end)
        → (put : List ℕ) × P put
        × EndOf s (NetDrives net) (is_write {T = Unit {0}} (Err end)) before left' (text ++ put) (Err end)
    line_fails end one taken = by_said (step_of_line net r'.line) refl taken
      where
        by_answer : (f : Bool) (step : NetStep)
            (done : StepDone net d.state.now step (p + 1) Stands' P failed (Err end))
            (why : Option Why) → nat_le FILE_EVENT_LIMIT p ≡ false → step_of_line net r'.line ≡ Ok (Some step)
            → why_ended done.next.outcome ≡ why → Err end ≡ answer_after f (p + 1) why
            → EndOf s (NetDrives net) (is_write {T = Unit {0}} (Err end)) before left'
            (text ++ outcome_line net (p + 1) done.next.after done.next.outcome) (Err end)
        by_answer true step done why few is ended answer =
            let same : end ≡ ends.Write = let e = answer in cc in
            let line : List ℕ = outcome_line net (p + 1) done.next.after done.next.outcome in
            let k = ran_up_to (starts_of net ++ d.events) d.state.now p (p + 1) text step Stands' P failed
            (later_step p net r'.line step is) d.state.so_far (Err end) done (goes_on done.next.outcome) refl in
            let ran = ran_of (d.events ++ step ∷ []) (text ++ line) k.0
            (subst (λ (z : List NetStep). RanOver net z (text ++ line) k.0) (more_steps step []) k.1) in
            subst (λ (e : NetEnd). EndOf s (NetDrives net) (is_write {T = Unit {0}} (Err e)) before left' (text ++ line)
            (Err e)) (sym same)
            (line_cut s (NetState net Stands p) before left left' r r' p text d next step line k.0
            (net_laws one) is few ran)
        by_answer false step done None few is ended answer = absurd (cc)
        by_answer false step done (Some why) few is ended answer =
            let same : end ≡ answer_for (p + 1) why = let e = answer in cc in
            let line : List ℕ = outcome_line net (p + 1) done.next.after done.next.outcome in
            let over : RunEnd = record { number = p + 1; why = why } in
            let k = ran_to_end (starts_of net ++ d.events) d.state.now p (p + 1) text step Stands' P failed
            (later_step p net r'.line step is) d.state.so_far (Err end) done why ended in
            subst (λ (e : NetEnd). EndOf s (NetDrives net) (is_write {T = Unit {0}} (Err e)) before left' (text ++ line)
            (Err e)) (sym same)
            (ended_so before left' (text ++ line) (p + 1) why
            (line_ended s (NetState net Stands p) before left left' r r' p text d next step line over
            (Err (answer_for (p + 1) why)) is few
            (λ rest. ran_of (d.events ++ step ∷ rest) (text ++ line) (Some over)
            (subst (λ (z : List NetStep). RanOver net z (text ++ line) (Some over)) (more_steps step rest) (k rest)))
            (λ stop. refl)))

        by_memory : (b : Bool) (step : NetStep) → is_memory {T = Unit {0}} (Err end) ≡ b → nat_le FILE_EVENT_LIMIT p ≡ false
            → step_of_line net r'.line ≡ Ok (Some step)
            → StepEnds net d.state.now step (p + 1) Stands' P failed (Err end)
            → (put : List ℕ) × P put
            × EndOf s (NetDrives net) (is_write {T = Unit {0}} (Err end)) before left' (text ++ put) (Err end)
        by_memory true step memory few is h =
            let same : end ≡ ends.Memory = memory_is end memory in
            let puts : P [] = rw memory at h in (
              [],
              puts,
              subst (λ (e : NetEnd). EndOf s (NetDrives net) (is_write {T = Unit {0}} (Err e)) before left' (text ++ [])
                  (Err e)) (sym same)
                  (line_wants s (NetState net Stands p) before left left' r r' p text d next step
                  (net_laws one) is few),
            )
        by_memory false step other few is h =
            let done : StepDone net d.state.now step (p + 1) Stands' P failed (Err end) = rw other at h in (
              outcome_line net (p + 1) done.next.after done.next.outcome,
              done.put,
              by_answer failed step done (why_ended done.next.outcome) few is refl done.answer,
            )

        by_count : (step : NetStep) (b : Bool) → nat_le FILE_EVENT_LIMIT p ≡ b → step_of_line net r'.line ≡ Ok (Some step)
            → StepTried b net d.state.now step p Stands' P failed (Err end)
            → (put : List ℕ) × P put
            × EndOf s (NetDrives net) (is_write {T = Unit {0}} (Err end)) before left' (text ++ put) (Err end)
        by_count step true many is (bad, puts) =
            let same : end ≡ ends.TooManyLines = let b = bad in cc in
            rw same (
              [],
              puts,
              line_too_many s
                  (NetState net Stands p) before left left' r r' p text d next step is many,
            )
        by_count step false few is (done, one_more) =
            by_memory (is_memory {T = Unit {0}} (Err end)) step refl few is done

        by_said : (said : Result (Option NetStep) LineFault) → step_of_line net r'.line ≡ said
            → LineDone net d.state.now r'.number p said Stands' P failed (Err end)
            → (put : List ℕ) × P put
            × EndOf s (NetDrives net) (is_write {T = Unit {0}} (Err end)) before left' (text ++ put) (Err end)
        by_said (Ok None) is (bad, _, _) = absurd (cc)
        by_said (Ok (Some step)) is h = by_count step (nat_le FILE_EVENT_LIMIT p) refl is h
        by_said (Err fault) is (bad, puts) =
            let same : end ≡ ends.Line r'.number fault = let b = bad in cc in
            rw same ([], puts, line_refused s (NetState net Stands p) before left left' r r' p text d next fault is)
