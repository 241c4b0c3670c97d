use Rattle.std.proofs.Common.{List, ℕ, ◌++◌, sym, ap, ◌∙◌, append_assoc}
use Rattle.std.specs.Prelude.{codes}
use Rattle.trace_text.specs.Trace.{value_text}
use Rattle.trace_text.proofs.JoinLemmas.{item_more}
use Rattle.trace_text.proofs.PutLemmas.{puts_three}
use Rattle.trace_text.proofs.trace_parts.put_datum.Goals as goal

-- the name after its separator, the sign and the value
pub returns : goal.returns
returns g c =
    let value = value_text c.args.value in
    let parts = append_assoc c.args.name.now (codes "=") value
    ∙ ap (λ (z : List ℕ). z ++ (codes "=" ++ value)) (sym c.as_bytes.ensures.value) in
    puts_three _ _ _ _ _ _ _ _ _ _ _ _ _ _ _ _ c.put_item.ensures c.put_byte.ensures c.put_value.ensures
    (item_more 44 c.args.is_first _ _ _ parts)
