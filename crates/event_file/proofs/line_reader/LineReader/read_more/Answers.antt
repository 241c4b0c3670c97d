use Rattle.std.proofs.Common.{◌≡◌, ◌+◌, ◌-◌, ◌≤◌, ◌<◌, List, ℕ, [], take, length, ap, ◌∙◌, arith}
use Rattle.std.proofs.lemmas.Bool.Decides.{nat_tests}
use Rattle.std.proofs.lemmas.List.{length-take-le}
use Rattle.event_file.specs.Reading.{Reading}
use Rattle.event_file.proofs.NextLemmas.{err_both, wanted_window}
use Rattle.event_file.proofs.Windows.{read_after, read_none, length_written}
use Rattle.event_file.proofs.line_reader.LineReader.read_more.Goals as goal

pub read_size-size-requires-clause-held : goal.read_size-size-requires-clause-held
read_size-size-requires-clause-held g c =
    let v = c.self.view_is in
    let inside = c.self.inside in
    (wanted_window c.args.self.now inside.buffer.items inside.start inside.end inside.at
    (ap (λ (r : Reading). r.pending) v) (ap (λ (r : Reading). r.at) v) (omega arith) c.requires.wanted).0

pub read_size-size-requires-clause-file : goal.read_size-size-requires-clause-file
read_size-size-requires-clause-file g c =
    let v = c.self.view_is in
    let inside = c.self.inside in
    (wanted_window c.args.self.now inside.buffer.items inside.start inside.end inside.at
    (ap (λ (r : Reading). r.pending) v) (ap (λ (r : Reading). r.at) v) (omega arith) c.requires.wanted).1

-- the read failed

pub invariant_of-self : goal.invariant_of-self
invariant_of-self g c =
    let placed = c.self.invariant in
    record {
      room = length_written _ c.copy_within.new.self.items _ (omega (arith, c.copy_within.ensures.len))
          ∙ omega (arith, c.copy_within.ensures.len);
      line = omega arith;
      line_within = omega arith;
      pending = omega arith;
      pending_within = omega arith;
      file = omega (arith, placed.file);
      numbered = placed.numbered;
      few = placed.few;
    }

pub returns-in_err-count-clause-failed : goal.returns-in_err-count-clause-failed
returns-in_err-count-clause-failed g c =
    let inside = c.self.inside in
    let moved = c.copy_within.new.self in
    let window = read_none inside.buffer.items moved.items c.deref_mut.result.now c.read.new.buf _ inside.start inside.end
    _ moved.len c.copy_within.ensures.items c.deref_mut.ensures.value (omega arith) (omega arith)
    (omega (arith, c.copy_within.ensures.len)) in
    let shown : List ℕ → Reading = λ pending. record {
      line = [];
      number = inside.number;
      at = inside.at;
      pending = pending;
      ended = inside.ended;
      failed = inside.failed;
    } in
    err_both c.from_residual.result (ap shown window ∙ ap (λ (r : Reading). record r { line = [] }) c.self.view_is)
    c.in_err-count.ensures.bytes

-- a piece was read

pub invariant_of-self-2 : goal.invariant_of-self-2
invariant_of-self-2 g c =
    let placed = c.self.invariant in
    let n = c.in_ok-count.count in
    let bound : n ≤ length c.read.new.buf = c.in_ok-count.ensures.bound.0 in
    record {
      room = length_written _ c.copy_within.new.self.items _ (omega (arith, c.copy_within.ensures.len))
          ∙ omega (arith, c.copy_within.ensures.len);
      line = omega arith;
      line_within = omega arith;
      pending = omega arith;
      pending_within = omega (arith, c.read.auto.buf, c.read_size-size.ensures.room);
      file = omega (arith, c.read.auto.buf, c.read_size-size.ensures.file);
      numbered = placed.numbered;
      few = placed.few;
    }

pub returns-clause-read : goal.returns-clause-read
returns-clause-read g c =
    let buffer = c.self.inside.buffer.items in
    let n = c.in_ok-count.count in
    let bound : n ≤ length c.read.new.buf = c.in_ok-count.ensures.bound.0 in
    let bytes = c.in_ok-count.ensures.bytes in
    let len : length (take n c.read.new.buf) ≡ n = length-take-le n c.read.new.buf bound in
    let some : 0 < length c.read.new.buf = omega (arith, c.read.auto.buf) in
    let room : c.self.inside.end - c.self.inside.start + n ≤ c.copy_within.new.self.len = omega (arith, c.copy_within.ensures.len, c.read.auto.buf) in
    record {
      piece = take n c.read.new.buf;
      pending = read_after buffer c.copy_within.new.self.items c.deref_mut.result.now c.read.new.buf _ _ c.self.inside.start c.self.inside.end _ n _
          c.copy_within.ensures.items c.deref_mut.ensures.value (omega arith) (omega arith) bound room (ap (λ (r : Reading). r.pending) c.self.view_is);
      bytes = bytes.0;
      some = λ e. grind (arith, nat_tests);
      ended = λ e. let none : n ≡ 0 = grind (arith, nat_tests) in (ap (λ m. take m c.read.new.buf) none, bytes.1 none some);
      number = ap (λ (r : Reading). r.number) c.self.view_is;
      at = ap (λ (r : Reading). r.at) c.self.view_is;
      failed = ap (λ (r : Reading). r.failed) c.self.view_is;
    }
