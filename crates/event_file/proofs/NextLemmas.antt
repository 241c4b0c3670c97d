-- The next line, where the bytes to come are told: what the bytes at hand tell is what the whole text tells.
use Rattle.std.proofs.Common.{◌≡◌, ℕ, ◌+◌, ◌<◌, ◌≤◌, Bool, true, false, List, [], ◌∷◌, ◌++◌, length}
use Rattle.std.proofs.Common.{take, drop, Option, Some, None, Result, Ok, Err, refl, sym, ap, ◌∙◌}
use Rattle.std.proofs.Common.{subst, arith, append_assoc, append-nil, length-append, length-drop}
use Rattle.std.specs.Prelude.{◌-◌, ◌||◌, cond, slice_range, IfSome, OnOk, OnErr}
use Rattle.std.specs.Result.{is_err}
use Rattle.std.specs.Io.KnownBytes.{prepend_known, IsAtEnd}
use Rattle.std.proofs.lemmas.Bool.Decides.{nat_tests}
use Rattle.std.proofs.lemmas.List.{take_at, take_all, length-take-le}
use Rattle.std.proofs.Math.ListN.{drop_of_length-le}
use Rattle.flow_base.specs.Causes.{AllStay, NoneFalls}
use Rattle.flow_base.proofs.Pieces.{one_taken}
use Rattle.event_file.specs.Lines.{line_length, without_return, IsPlain, spelled}
use Rattle.event_file.specs.NextLine.{Fills, Takes, Then, Nexts, NextOf, NextTold, HasReadCause}
use Rattle.event_file.specs.Reading.{Reading, ReadsMore, cut_at, is_enough, is_ready}
use Rattle.event_file.specs.declared.cuts.Cut.TheVariants as cuts
use Rattle.event_file.specs.declared.limits.TheConstants.{LINE_LIMIT, FILE_LIMIT, BUFFER_SIZE}
use Rattle.event_file.specs.declared.line_reader.LineEnd.{LineEnd}
use Rattle.event_file.specs.declared.line_reader.LineEnd.TheVariants as ends
use Rattle.event_file.proofs.LineLemmas.{line_length-plain, line_length-append}

-- ---- cuts of a whole text

cut_closed : (at n len : ℕ) → n ≤ LINE_LIMIT → at + (n + 1) ≤ FILE_LIMIT → n < len → cut_at at n len ≡ cuts.Line (n + 1)
cut_closed at n len short within more = grind (arith, nat_tests)

cut_open : (at n : ℕ) → n ≤ LINE_LIMIT → at + n ≤ FILE_LIMIT → 0 < n → cut_at at n n ≡ cuts.Line n
cut_open at n short within some = grind (arith, nat_tests)

cut_long : (at n len : ℕ) → LINE_LIMIT < n → at + LINE_LIMIT < FILE_LIMIT → cut_at at n len ≡ cuts.TooLong
cut_long at n len over early = grind (arith, nat_tests)

cut_past : (at n len : ℕ) → FILE_LIMIT ≤ at + n → FILE_LIMIT < at + len → FILE_LIMIT ≤ at + LINE_LIMIT → cut_at at n len ≡ cuts.PastFile
cut_past at n len past held first = grind (arith, nat_tests)

drop_at : (front back : List ℕ) (n : ℕ) → n ≡ length front → drop n (front ++ back) ≡ back
drop_at [] back n is = rw is refl
drop_at (b ∷ front) back n is = rw is (drop_at front back (length front) refl)

-- ---- the line

line_closed : (at : ℕ) (raw later : List ℕ) → IsPlain raw → length raw ≤ LINE_LIMIT → at + length (raw ++ 10 ∷ []) ≤ FILE_LIMIT
    → NextOf at ((raw ++ 10 ∷ []) ++ later) (without_return raw) (Some later) (Ok true)
line_closed at raw later plain short within =
    let text : List ℕ = (raw ++ 10 ∷ []) ++ later in
    let same : text ≡ raw ++ (10 ∷ later) = append_assoc raw (10 ∷ []) later in
    let one : length (raw ++ 10 ∷ []) ≡ length raw + 1 = length-append raw (10 ∷ []) in
    let n : line_length text ≡ length raw = ap line_length same ∙ line_length-plain raw (10 ∷ later) plain ∙ zero_after (length raw) in
    let len : length text ≡ length raw + 1 + length later = length-append (raw ++ 10 ∷ []) later ∙ ap (λ m. m + length later) one in
    let taken : take (line_length text) text ≡ raw = ap (λ m. take m text) n ∙ ap (take (length raw)) same ∙ take_at raw (10 ∷ later) (length raw) refl in (
      length raw + 1,
      ap (λ m. cut_at at m (length text)) n ∙ cut_closed at (length raw) (length text) short (omega arith) (omega arith),
      ap without_return (sym taken),
      ap Some (sym (drop_at (raw ++ 10 ∷ []) later (length raw + 1) (sym one))),
    )
  where
    zero_after : (m : ℕ) → m + 0 ≡ m
    zero_after m = omega arith

line_open : (at : ℕ) (raw : List ℕ) → IsPlain raw → length raw ≤ LINE_LIMIT → at + length raw ≤ FILE_LIMIT → 0 < length raw
    → NextOf at raw (without_return raw) (Some []) (Ok true)
line_open at raw plain short within some =
    let n : line_length raw ≡ length raw = ap line_length (sym (append-nil raw)) ∙ line_length-plain raw [] plain ∙ zero_after (length raw) in
    let taken : take (line_length raw) raw ≡ raw = ap (λ m. take m raw) n ∙ take_all (length raw) raw (omega arith) in
    let none : drop (length raw) raw ≡ [] = drop_of_length-le raw (omega arith) in (
      length raw,
      ap (λ m. cut_at at m (length raw)) n ∙ cut_open at (length raw) short within some,
      ap without_return (sym taken),
      ap Some (sym none),
    )
  where
    zero_after : (m : ℕ) → m + 0 ≡ m
    zero_after m = omega arith

line_at : (at : ℕ) (raw later : List ℕ) (closed : Bool) → IsPlain raw → length raw ≤ LINE_LIMIT → at + length (spelled raw closed) ≤ FILE_LIMIT
    → 0 < length (spelled raw closed) → (closed ≡ false → later ≡ []) → NextOf at (spelled raw closed ++ later) (without_return raw) (Some later) (Ok true)
line_at at raw later true plain short within some last = line_closed at raw later plain short within
line_at at raw later false plain short within some last =
    let none : later ≡ [] = last refl in
    rw none (subst (λ (z : List ℕ). NextOf at z (without_return raw) (Some []) (Ok true)) (sym (append-nil raw)) (line_open at raw plain short within some))

-- ---- by the answer

abbrev TextNext : ℕ → Reading → List ℕ → Result Bool LineEnd → Type 0
TextNext at new rest result = (mid : Reading) → mid.at ≡ at → (mid.ended ≡ true → rest ≡ []) → Then mid new result
    → NextOf at (mid.pending ++ rest) new.line (Some (new.pending ++ rest)) result

by_answer : (at : ℕ) (new : Reading) (rest : List ℕ) (result : Result Bool LineEnd) → TextNext at new rest result
by_answer at new rest (Ok true) mid is last (ready, l) =
    let later : List ℕ = new.pending ++ rest in
    let none : l.closed ≡ false → later ≡ [] = λ e. ap (λ (z : List ℕ). z ++ rest) (l.last e).0 ∙ last (l.last e).1 in
    let within : at + length (spelled l.raw l.closed) ≤ FILE_LIMIT = omega (arith, l.within) in
    let next = line_at at l.raw later l.closed l.plain l.short within l.some none in
    let text : spelled l.raw l.closed ++ later ≡ mid.pending ++ rest =
    sym (ap (λ (z : List ℕ). z ++ rest) l.pending ∙ append_assoc (spelled l.raw l.closed) new.pending rest) in
    subst (λ (z : List ℕ). NextOf at z new.line (Some later) (Ok true)) text
    (subst (λ (z : List ℕ). NextOf at (spelled l.raw l.closed ++ later) z (Some later) (Ok true)) (sym l.line) next)
by_answer at new rest (Ok false) mid is last (ready, (none, ended, same)) =
    ap (λ (z : List ℕ). z ++ rest) none ∙ last ended
by_answer at new rest (Err ends.TooLong) mid is last (ready, l) =
    let more = line_length-append mid.pending rest in
    cut_long at (line_length (mid.pending ++ rest)) (length (mid.pending ++ rest)) (omega (arith, l.long, more)) (omega (arith, l.early))
by_answer at new rest (Err ends.FileTooLong) mid is last (ready, l) =
    let more = line_length-append mid.pending rest in
    let len = length-append mid.pending rest in
    cut_past at (line_length (mid.pending ++ rest)) (length (mid.pending ++ rest)) (omega (arith, l.past, more)) (omega (arith, l.held, len)) (omega (arith, l.first))
by_answer at new rest (Err ends.Read) mid is last h = tt

-- the end is met, so no more bytes are wanted
ended_ready : (r : Reading) → r.ended ≡ true → is_ready r ≡ true
ended_ready r e = rw e refl

-- after the end was met nothing is read
pub kept_at_end : (old mid : Reading) (before after : Option (List ℕ)) → Fills old mid before after → old.ended ≡ true → (mid ≡ old) × (after ≡ before)
kept_at_end old mid before after f e = f.kept (ended_ready old e)

ended_before : (old mid : Reading) (before after : Option (List ℕ)) (b : Bool) → old.ended ≡ b → (old.ended ≡ true → IsAtEnd before) → Fills old mid before after
    → mid.ended ≡ true → IsAtEnd after
ended_before old mid before after true e at_end f ended = subst IsAtEnd (sym (kept_at_end old mid before after f e).1) (at_end e)
ended_before old mid before after false e at_end f ended = f.ended ended e

told_at : (old mid new : Reading) (before after : Option (List ℕ)) (result : Result Bool LineEnd) → mid.at ≡ old.at → (mid.ended ≡ true → IsAtEnd after)
    → Then mid new result → IfSome (prepend_known mid.pending after) (λ text. NextOf old.at text new.line (prepend_known new.pending after) result)
told_at old mid new before None result at last h = tt
told_at old mid new before (Some rest) result at last h = by_answer old.at new rest result mid at last h

-- what was taken is what the whole text tells
pub next_told : (old new : Reading) (before after : Option (List ℕ)) (result : Result Bool LineEnd) → Nexts old new before after result
    → NextTold old new before after result
next_told old new before after result next = λ at_end.
    let f = next.fills in
    subst (λ (o : Option (List ℕ)). IfSome o (λ text. NextOf old.at text new.line (prepend_known new.pending after) result)) (sym f.bytes)
    (told_at old next.mid new before after result f.at (ended_before old next.mid before after old.ended refl at_end f) next.answer)

-- what was taken where no more bytes were wanted
pub then_takes : (mid new : Reading) (result : Result Bool LineEnd) → is_ready mid ≡ true → Takes mid new result → Then mid new result
then_takes mid new (Ok found) ready t = (ready, t)
then_takes mid new (Err ends.TooLong) ready t = (ready, t)
then_takes mid new (Err ends.FileTooLong) ready t = (ready, t)
then_takes mid new (Err ends.Read) ready t = absurd t

-- no read yet
pub fills_nothing : (r : Reading) (left : Option (List ℕ)) → Fills r r left left
fills_nothing r left = record {
  bytes = refl;
  kept = λ _. (refl, refl);
  ended = λ yes no. absurd (cc);
  number = refl;
  at = refl;
  failed = refl;
}

-- what was taken of the bytes at hand, without a read
pub next_at_hand : (old new : Reading) (result : Result Bool LineEnd) (left : Option (List ℕ)) → is_ready old ≡ true → length old.pending ≤ BUFFER_SIZE
    → old.at + length old.pending ≤ FILE_LIMIT + 1 → Takes old new result → Nexts old new left left result
next_at_hand old new result left ready room file t = record {
  mid = old;
  fills = fills_nothing old left;
  room = room;
  file = file;
  answer = then_takes old new result ready t;
}

-- ---- a read

-- what is so after an answer
pub on_ok : {T E P : Type 0} (result : Result T E) → is_err result ≡ false → OnOk result P → P
on_ok (Ok v) is p = p
on_ok (Err e) is p = absurd (cc)

pub on_err : {T E P : Type 0} (result : Result T E) → is_err result ≡ true → OnErr result P → P
on_err (Ok v) is p = absurd (cc)
on_err (Err e) is p = p

-- two facts, after an error or not
pub err_both : {T E P Q : Type 0} (result : Result T E) → P → Q → OnErr result (P × Q)
err_both (Ok v) p q = tt
err_both (Err e) p q = (p, q)

-- where more bytes are wanted, the end wasn't met, and no more than a line is at hand
wanted_at : (ended : Bool) (at n held : ℕ) → (ended || is_enough at n held) ≡ false
    → (ended ≡ false) × (held ≤ LINE_LIMIT) × (at + held ≤ FILE_LIMIT)
wanted_at true at n held e = absurd (cc)
wanted_at false at n held e = (refl, grind (arith, nat_tests), grind (arith, nat_tests))

wanted_more : (r : Reading) → is_ready r ≡ false
    → (r.ended ≡ false) × (length r.pending ≤ LINE_LIMIT) × (r.at + length r.pending ≤ FILE_LIMIT)
wanted_more r e = wanted_at r.ended r.at (line_length r.pending) (length r.pending) e

-- then a read has room for more
pub wanted_window : (r : Reading) (buffer : List ℕ) (start end at : ℕ) → slice_range buffer start end ≡ r.pending → at ≡ r.at → end ≤ length buffer
    → is_ready r ≡ false → (end - start ≤ LINE_LIMIT) × (at + (end - start) ≤ FILE_LIMIT)
wanted_window r buffer start end at was is within wanted =
    let w = wanted_more r wanted in
    let n = end - start in
    let fits : n ≤ length (drop start buffer) = omega (arith, length-drop start buffer) in
    let len : length r.pending ≡ n = ap length (sym was) ∙ length-take-le n (drop start buffer) fits in
    (omega (arith, w.1, len), omega (arith, w.2, len, is))

-- one read more
pub fills_more : (old mid new : Reading) (before between after : Option (List ℕ)) → Fills old mid before between → is_ready mid ≡ false
    → ReadsMore mid new between after → Fills old new before after
fills_more old mid new before between after fills wanted more = record {
  bytes = one_taken (prepend_known old.pending before) between after mid.pending more.piece new.pending fills.bytes more.bytes more.pending;
  kept = λ ready.
      let yes : is_ready mid ≡ true = ap is_ready (fills.kept ready).0 ∙ ready in absurd (let no = sym yes ∙ wanted in cc);
  ended = λ yes no. (more.ended yes).1;
  number = more.number ∙ fills.number;
  at = more.at ∙ fills.at;
  failed = more.failed ∙ fills.failed;
}

falls_at : (was is : Bool) (held more : ℕ) → was ≡ false → held ≤ LINE_LIMIT → (is ≡ false → held < more)
    → cond is 0 (LINE_LIMIT + 1 - more) < cond was 0 (LINE_LIMIT + 1 - held)
falls_at was true held more e le some = rw e (omega arith)
falls_at was false held more e le some = rw e (let k = some refl in omega arith)

-- a read ends the bytes, or less room is left
pub falls_more : (mid new : Reading) (between after : Option (List ℕ)) → is_ready mid ≡ false → ReadsMore mid new between after
    → cond new.ended 0 (LINE_LIMIT + 1 - length new.pending) < cond mid.ended 0 (LINE_LIMIT + 1 - length mid.pending)
falls_more mid new between after wanted more =
    let w = wanted_more mid wanted in
    let len : length new.pending ≡ length mid.pending + length more.piece = ap length more.pending ∙ length-append mid.pending more.piece in
    falls_at mid.ended new.ended (length mid.pending) (length new.pending) w.0 w.1 (λ e. let some = more.some e in omega arith)

-- a read that failed
pub next_fails : {T E : Type 0} (old mid read new : Reading) (before between after : Option (List ℕ)) (result : Result T E)
    → Fills old mid before between → is_ready mid ≡ false → length mid.pending ≤ BUFFER_SIZE → mid.at + length mid.pending ≤ FILE_LIMIT + 1
    → is_err result ≡ true → OnErr result ((read ≡ record mid { line = [] }) × (after ≡ between)) → new ≡ record read { failed = true }
    → Nexts old new before after (Err ends.Read)
next_fails old mid read new before between after result fills wanted room file failed left is =
    let fails : (read ≡ record mid { line = [] }) × (after ≡ between) = on_err result failed left in
    let e : new ≡ record mid { line = []; failed = true } = is ∙ ap (λ (r : Reading). record r { failed = true }) fails.0 in
    record {
      mid = mid;
      fills = subst (λ (left : Option (List ℕ)). Fills old mid before left) (sym fails.1) fills;
      room = room;
      file = file;
      answer = record {
        wanted = wanted;
        line = ap (λ (r : Reading). r.line) e;
        number = ap (λ (r : Reading). r.number) e;
        at = ap (λ (r : Reading). r.at) e;
        pending = ap (λ (r : Reading). r.pending) e;
        ended = ap (λ (r : Reading). r.ended) e;
        failed = ap (λ (r : Reading). r.failed) e;
      };
    }

-- ---- counts

-- counts that stay don't fall
pub none_falls : (before after : List ℕ → ℕ) → AllStay before after → NoneFalls before after
none_falls before after same other = omega (arith, same other)

-- what was taken is no read fault
pub takes_cause : (name : List ℕ) (before after : List ℕ → ℕ) (mid new : Reading) (result : Result Bool LineEnd) → AllStay before after
    → Takes mid new result → HasReadCause name before after result
takes_cause name before after mid new (Ok found) same t = same
takes_cause name before after mid new (Err ends.TooLong) same t = same
takes_cause name before after mid new (Err ends.FileTooLong) same t = same
takes_cause name before after mid new (Err ends.Read) same t = absurd t
