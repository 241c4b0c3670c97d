use Rattle.std.proofs.Common.{◌≡◌, ◌+◌, List, [], ◌∷◌, ◌++◌, take, Option, None, sym, ap, ◌∙◌, length-set}
use Rattle.std.proofs.lemmas.List.{take_more}
use Rattle.std.specs.Prelude.{slice_index_or, slice_set}
use Rattle.actions.specs.declared.expr.Value.{Value}
use Rattle.event_file.specs.LineValues.{without}
use Rattle.event_file.proofs.NamedLemmas.{without-more}
use Rattle.event_file.proofs.input_vals.drop_values.Goals as goal

-- one value more is dropped
pub loop-number-preserved : goal.loop-number-preserved
loop-number-preserved c =
    let old = c.args.values.now in
    let named = c.args.named.now in
    let i = c.loop-number.number-index in
    let v = slice_index_or named i 0 in
    let next : take (i + 1) named ≡ take i named ++ v ∷ [] = take_more named i 0 c.loop-number-test.true in
    record {
      dropped = ap (λ (values : List (Option Value)). slice_set values v None) c.loop-number.invariant.dropped
          ∙ sym (ap (without old) next ∙ without-more old (take i named) v);
      room = length-set c.loop-number.values v None ∙ c.loop-number.invariant.room;
    }
