use Rattle.std.proofs.Common.{◌<◌, nat_eq, [], length, map, refl, sym, ◌∙◌, ap, arith}
use Rattle.std.proofs.lemmas.List.{length-map, get_or-map}
use Rattle.actions.specs.Names.{names_of}
use Rattle.trace_text.specs.Trace.{event_name}
use Rattle.trace_text.proofs.JoinLemmas.{joined_more, listed_all, listed_none}
use Rattle.trace_text.proofs.PieceLemmas.{nothing_put}
use Rattle.trace_text.proofs.PutLemmas.{puts_both, puts_same}
use Rattle.trace_text.proofs.trace_parts.put_outputs.Goals as goal

-- where no event was emitted the mark of that is put
pub returns-then-is_empty : goal.returns-then-is_empty
returns-then-is_empty g c =
    puts_same _ _ _ _ _ _ _ _ c.put_byte.ensures
    (listed_none (map (event_name (names_of c.args.names.now)) c.args.outputs.now) _
    (length-map c.args.outputs.now (event_name (names_of c.args.names.now))) c.if-is_empty.ensures)

-- nothing is put yet
pub loop-index-init : goal.loop-index-init
loop-index-init g c = nothing_put _ _ _ _ _ _ refl refl refl

pub loop-index-preserved : goal.loop-index-preserved
loop-index-preserved g c =
    let n = names_of c.args.names.now in
    let outputs = c.args.outputs.now in
    let within : c.loop-index.index < length outputs = omega arith in
    puts_both _ _ _ _ _ _ _ _ _ _ _ _ c.loop-index.invariant c.put_item.ensures
    (joined_more (map (event_name n) outputs) c.loop-index.index _ (omega (arith, length-map outputs (event_name n)))
    (c.as_bytes.ensures.value ∙ c.event_name-name.ensures ∙ sym (get_or-map (event_name n) outputs c.loop-index.index 0 [] within)))

-- all names are put
pub returns : goal.returns
returns g c =
    let n = names_of c.args.names.now in
    let outputs = c.args.outputs.now in
    let same = length-map outputs (event_name n) in
    puts_same _ _ _ _ _ _ _ _ c.loop-index.invariant
    (listed_all (map (event_name n) outputs) c.loop-index.index (omega (arith, same))
    (c.if-is_empty.ensures ∙ ap (λ m. nat_eq m 0) (sym same)))
