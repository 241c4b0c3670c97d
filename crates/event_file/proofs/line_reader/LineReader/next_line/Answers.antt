use Rattle.std.proofs.Common.{◌≡◌, ◌≤◌, true, false, refl, sym, ap, ◌∙◌, subst, rules}
use Rattle.std.specs.Result.{is_err}
use Rattle.flow_base.specs.Causes.{Rose}
use Rattle.event_file.specs.Reading.{Reading, is_ready}
use Rattle.event_file.proofs.NextLemmas.{next_told, then_takes, on_ok, on_err, fills_nothing}
use Rattle.event_file.proofs.NextLemmas.{fills_more, falls_more, next_fails, none_falls, takes_cause}
use Rattle.event_file.proofs.line_reader.LineReader.next_line.Goals as goal

pub pieces-init : goal.pieces-init
pieces-init g c =
    let p = c.plain_length-plain_length.ensures in
    record {
      fills = fills_nothing _ _;
      line = p.length;
      within = p.within;
      room = p.room;
      file = p.file;
      others = λ other no. refl;
      counts = λ other. refl;
    }

-- a read failed

pub invariant_of-self : goal.invariant_of-self
invariant_of-self g c =
    let placed = c.self.invariant in
    record {
      room = placed.room;
      line = placed.line;
      line_within = placed.line_within;
      pending = placed.pending;
      pending_within = placed.pending_within;
      file = placed.file;
      numbered = λ no. absurd (cc);
      few = placed.few;
    }

pub returns-then-is_err-clause-next : goal.returns-then-is_err-clause-next
returns-then-is_err-clause-next g c =
    let so_far = c.pieces.invariant in
    let wanted : is_ready c.pieces.self ≡ false = search rules in
    let failed : is_err c.read_more.result ≡ true = sym c.is_err.ensures.value ∙ c.if-is_err.true in
    next_fails _ c.pieces.self c.read_more.new.self _ _ _ _ c.read_more.result so_far.fills wanted so_far.room so_far.file
    failed c.read_more.ensures.failed (ap (λ (r : Reading). record r { failed = true }) c.self.view_is)

pub returns-then-is_err-clause-told : goal.returns-then-is_err-clause-told
returns-then-is_err-clause-told g c = next_told _ _ _ _ _ (returns-then-is_err-clause-next g c)

pub returns-then-is_err-clause-others : goal.returns-then-is_err-clause-others
returns-then-is_err-clause-others g c = λ other no. c.read_more.ensures.others other no ∙ c.pieces.invariant.others other no

pub returns-then-is_err-clause-counts : goal.returns-then-is_err-clause-counts
returns-then-is_err-clause-counts g c = λ other.
    subst (λ n. n ≤ g.I.Inputs.faults c.read_more.new.inputs other) (c.pieces.invariant.counts other)
    (c.read_more.ensures.counts other)

pub returns-then-is_err-clause-cause : goal.returns-then-is_err-clause-cause
returns-then-is_err-clause-cause g c =
    let failed : is_err c.read_more.result ≡ true = sym c.is_err.ensures.value ∙ c.if-is_err.true in
    subst (λ n. Rose n (g.I.Inputs.faults c.read_more.new.inputs c.args.name.now))
    (c.pieces.invariant.counts c.args.name.now)
    (on_err _ failed c.read_more.ensures.cause.failed)

-- a piece was read

pub pieces-smaller : goal.pieces-smaller
pieces-smaller g c =
    let wanted : is_ready c.pieces.self ≡ false = search rules in
    let read : is_err c.read_more.result ≡ false = sym c.is_err.ensures.value ∙ c.if-is_err.false in
    falls_more c.pieces.self c.read_more.new.self _ _ wanted (on_ok _ read c.read_more.ensures.read)

pub pieces-preserved : goal.pieces-preserved
pieces-preserved g c =
    let so_far = c.pieces.invariant in
    let p = c.plain_length-plain_length-in-pieces.ensures in
    let wanted : is_ready c.pieces.self ≡ false = search rules in
    let read : is_err c.read_more.result ≡ false = sym c.is_err.ensures.value ∙ c.if-is_err.false in
    record {
      fills = fills_more _ c.pieces.self _ _ _ _ so_far.fills wanted (on_ok _ read c.read_more.ensures.read);
      line = p.length;
      within = p.within;
      room = p.room;
      file = p.file;
      others = λ other no. c.read_more.ensures.others other no ∙ so_far.others other no;
      counts = λ other. on_ok _ read c.read_more.ensures.ok other ∙ so_far.counts other;
    }

-- a line was taken

pub returns-clause-next : goal.returns-clause-next
returns-clause-next g c =
    let ready : is_ready c.pieces.self ≡ true = search rules in
    record {
      mid = c.pieces.self;
      fills = c.pieces.invariant.fills;
      room = c.pieces.invariant.room;
      file = c.pieces.invariant.file;
      answer = then_takes c.pieces.self c.take_line.new.self c.take_line.result ready c.take_line.ensures;
    }

-- where the bytes are told, what was taken is what the whole text tells
pub returns-clause-told : goal.returns-clause-told
returns-clause-told g c = next_told _ _ _ _ _ (returns-clause-next g c)

pub returns-clause-others : goal.returns-clause-others
returns-clause-others g c = c.pieces.invariant.others

pub returns-clause-counts : goal.returns-clause-counts
returns-clause-counts g c =
    none_falls (g.I.Inputs.faults c.args.inputs.now) (g.I.Inputs.faults c.pieces.inputs) c.pieces.invariant.counts

pub returns-clause-cause : goal.returns-clause-cause
returns-clause-cause g c =
    takes_cause c.args.name.now _ _ c.pieces.self c.take_line.new.self c.take_line.result c.pieces.invariant.counts
    c.take_line.ensures
