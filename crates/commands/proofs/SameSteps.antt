-- Steps that have the same runs are driven in the same ways.
use Rattle.std.proofs.Common.{ℕ, List, Option, None, Result, inl, inr}
use Rattle.event_file.specs.EventFile.{file_of}
use Rattle.step_driver.specs.Driving.{Seen, WroteAll, WroteGiven, WrotePart, WroteSome, TakesNoMore, Wrote}
use Rattle.step_driver.specs.StepRuns.{StepRuns}

module _ (s : StepRuns) (Ran RanFirst : List s.Step → List ℕ → Option s.End → Type 0) (IsBegin : List ℕ → Type 0)
    (to : (steps : List s.Step) (text : List ℕ) (end : Option s.End) → s.Ran steps text end → Ran steps text end)
    (first : (steps : List s.Step) (text : List ℕ) (end : Option s.End) → s.RanFirst steps text end
    → RanFirst steps text end)
    (back : (text : List ℕ) → IsBegin text → s.IsBegin text) where
  -- the same steps with other runs
  abbrev pub others : StepRuns
  others = record s { Ran = Ran; RanFirst = RanFirst; IsBegin = IsBegin }

  -- the whole trace
  pub wrote_all : (seen : Seen) (result : Result (Unit {0}) s.Error) → WroteAll s seen result
      → WroteAll others seen result
  wrote_all seen result w = record {
    text = w.text;
    is_text = w.is_text;
    trace = w.trace;
    end = w.end;
    ran = to (file_of s.say w.text).events w.trace w.end w.ran;
    wrote = w.wrote;
    answer = w.answer;
  }

  -- that of what was given
  pub wrote_given : (seen : Seen) → WroteGiven s seen → WroteGiven others seen
  wrote_given seen w = record {
    given = w.given;
    taken = w.taken;
    whole = w.whole;
    has_whole = w.has_whole;
    good = w.good;
    short = w.short;
    within = w.within;
    trace = w.trace;
    ran = to (file_of s.say w.whole).events w.trace None w.ran;
    wrote = w.wrote;
  }

  -- a front of it
  pub wrote_part : (seen : Seen) → WrotePart s seen → WrotePart others seen
  wrote_part seen w = record {
    text = w.text;
    is_text = w.is_text;
    trace = w.trace;
    end = w.end;
    ran = first (file_of s.say w.text).events w.trace w.end w.ran;
    front = w.front;
    untouched = λ begin is told front. w.untouched begin (back begin is) told front;
  }

  -- that of some steps
  pub wrote_some : (seen : Seen) → WroteSome s seen → WroteSome others seen
  wrote_some seen w = record {
    text = w.text;
    is_text = w.is_text;
    trace = w.trace;
    ran = elim w.ran [ inl none ↦ inl none | inr some ↦ inr (first (file_of s.say w.text).events w.trace None some) ];
    wrote = w.wrote;
  }

  -- what was taken
  pub takes_no_more : (seen : Seen) → TakesNoMore s seen → TakesNoMore others seen
  takes_no_more seen taken = elim taken [
    | inl same ↦ inl same
    | inr some ↦
        inr (record {
          lines = some.lines;
          ahead = some.ahead;
          taken = some.taken;
          closed = some.closed;
          good = some.good;
          few = some.few;
          within = some.within;
          trace = some.trace;
          more = some.more;
          ran = to (file_of s.say some.lines).events some.trace None some.ran;
          wrote = some.wrote;
        })
  ]

  -- the whole trace, and what was taken
  pub wrote : (seen : Seen) (result : Result (Unit {0}) s.Error) → Wrote s seen result → Wrote others seen result
  wrote seen result w = (wrote_all seen result w.0, takes_no_more seen w.1)
