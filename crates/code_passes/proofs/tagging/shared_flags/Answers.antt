use Rattle.std.proofs.Common.{◌≡◌, ◌∙◌, ap, false, length, get_or, arith}
use Rattle.std.proofs.lemmas.List.{take_all, with_items_is}
use Rattle.code_passes.specs.Tags.{has_other}
use Rattle.code_passes.proofs.TagLemmas.{flags_more}
use Rattle.code_passes.proofs.tagging.shared_flags.Goals as goal

-- one more number
pub loop-proc-preserved : goal.loop-proc-preserved
loop-proc-preserved c =
    let marked = c.mark_other.new.flags in
    let same = c.mark_other.ensures.size in
    let now = c.deref_mut.ensures.value in
    let size : length marked ≡ c.loop-proc.flags.len = omega (arith, same, c.deref_mut.ensures.len) in
    let items = with_items_is c.loop-proc.flags marked size in
    record {
      size = ap length items ∙ same ∙ ap length now ∙ c.loop-proc.invariant.size;
      each = λ p h.
          ap (λ l. get_or l p false) items
          ∙ flags_more c.args.numbers.now c.loop-proc.flags.items c.deref_mut.result.now marked c.loop-proc.proc p now
          c.loop-proc-test.true (c.mark_other.ensures.each p (omega (arith, h, ap length items)))
          (c.loop-proc.invariant.each p (omega (arith, h, ap length items, same, ap length now)));
    }

-- all
pub returns-clause-each : goal.returns-clause-each
returns-clause-each c p within =
    c.loop-proc.invariant.each p within
    ∙ ap (has_other p 0) (take_all c.loop-proc.proc c.args.numbers.now c.loop-proc-test.false)
