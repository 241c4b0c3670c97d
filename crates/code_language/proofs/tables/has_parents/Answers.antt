use Rattle.std.proofs.Common.{◌≡◌, ◌&&◌, not, Bool, true, false, drop, sym, ap, ◌∙◌}
use Rattle.std.specs.Prelude.{is_none, is_some}
use Rattle.std.specs.List.{list_all}
use Rattle.code_language.specs.declared.code.RawState.{RawState}
use Rattle.code_language.proofs.ListLemmas.{rest_of}
use Rattle.code_language.proofs.TableLemmas.{has_parents_first}
use Rattle.code_language.proofs.tables.has_parents.Goals as goal

pub returns-then-is_none : goal.returns-then-is_none
returns-then-is_none c =
    let xs = c.args.states.now in
    let whole = has_parents_first xs c.first-item.result c.in-len1-up.len_at_least c.first-item.is in
    let first : is_none c.first-item.result.parent ≡ true = ap not c.if-is_none.ensures in
    c.have_parents.ensures ∙ ap (list_all (λ (s : RawState). is_some s.parent)) (rest_of xs 1)
    ∙ sym (whole ∙ ap (λ (b : Bool). b && list_all (λ (s : RawState). is_some s.parent) (drop 1 xs)) first)

pub returns-else-is_none : goal.returns-else-is_none
returns-else-is_none c =
    let xs = c.args.states.now in
    let whole = has_parents_first xs c.first-item.result c.in-len1-up.len_at_least c.first-item.is in
    let first : is_none c.first-item.result.parent ≡ false = ap not c.if-is_none.ensures in
    c.if-is_none.false
    ∙ sym (whole ∙ ap (λ (b : Bool). b && list_all (λ (s : RawState). is_some s.parent) (drop 1 xs)) first)
