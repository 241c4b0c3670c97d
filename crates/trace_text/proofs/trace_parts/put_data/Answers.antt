use Rattle.std.proofs.Common.{◌<◌, List, length, refl, sym, ap, ◌∙◌, arith}
use Rattle.actions.specs.Names.{names_of}
use Rattle.actions.specs.declared.names.Var.{Var}
use Rattle.trace_text.specs.Trace.{value_texts}
use Rattle.trace_text.proofs.DataLemmas.{data_count, texts_count, datum_text, some_texts}
use Rattle.trace_text.proofs.JoinLemmas.{joined_more, listed_all, listed_none}
use Rattle.trace_text.proofs.PieceLemmas.{nothing_put}
use Rattle.trace_text.proofs.PutLemmas.{puts_both, puts_same}
use Rattle.trace_text.proofs.trace_parts.put_data.Goals as goal

-- where there are no data the mark of that is put
pub returns-then-is_empty : goal.returns-then-is_empty
returns-then-is_empty g c =
    let n = names_of c.args.names.now in
    let same = data_count c.args.vals.now n c.requires.declared in
    puts_same _ _ _ _ _ _ _ _ c.put_byte.ensures
    (listed_none (value_texts n.vars c.args.vals.now) _
    (texts_count n.vars c.args.vals.now same ∙ ap (λ (z : List Var). length z) (sym c.items-vars.ensures))
    c.if-is_empty.ensures)

-- nothing is put yet
pub loop-index-init : goal.loop-index-init
loop-index-init g c = nothing_put _ _ _ _ _ _ refl refl refl

pub loop-index-preserved : goal.loop-index-preserved
loop-index-preserved g c =
    let n = names_of c.args.names.now in
    let vars = c.items-vars.ensures in
    let same = data_count c.args.vals.now n c.requires.declared in
    let within : c.loop-index.index < length n.vars = omega (arith, ap (λ (z : List Var). length z) vars) in
    let var = c.index-vars-index.is in
    puts_both _ _ _ _ _ _ _ _ _ _ _ _ c.loop-index.invariant c.put_datum.ensures
    (joined_more (value_texts n.vars c.args.vals.now) c.loop-index.index _ (omega (arith, texts_count n.vars c.args.vals.now same))
    (datum_text n.vars c.args.vals.now c.loop-index.index c.index-vars-index.result c.text.result.now c.get.result same within (rw vars at var)
    c.text.ensures c.get.ensures.value))

pub returns : goal.returns
returns g c =
    let n = names_of c.args.names.now in
    let vars = c.items-vars.ensures in
    let same = data_count c.args.vals.now n c.requires.declared in
    puts_same _ _ _ _ _ _ _ _ c.loop-index.invariant
    (listed_all (value_texts n.vars c.args.vals.now) c.loop-index.index
    (omega (arith, texts_count n.vars c.args.vals.now same, ap (λ (z : List Var). length z) vars))
    (some_texts n.vars c.args.vals.now _ same (sym vars) (c.if-is_empty.ensures)))
