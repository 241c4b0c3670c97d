use Rattle.std.proofs.Common.{ℕ, ap, sym, ◌∙◌, ◌++◌, append_assoc}
use Rattle.std.specs.Prelude.{codes, decimal}
use Rattle.trace_text.proofs.PutLemmas.{puts_three}
use Rattle.trace_text.proofs.trace_parts.put_full_route.Goals as goal

-- the word, the number of the route and the end of the line
pub returns : goal.returns
returns g c =
    puts_three _ _ _ _ _ _ _ _ _ _ _ _ _ _ _ _ c.put.ensures c.put_digits.ensures c.put_byte.ensures
    (append_assoc (codes "full ") (decimal c.args.route) (codes "\n")
    ∙ ap (λ (m : ℕ). codes "full " ++ decimal m ++ codes "\n") (sym c.from.ensures))
