use Rattle.std.proofs.Common.{◌≡◌, ◌∙◌, map, map-id, sym, rules}
use Rattle.std.proofs.lemmas.Iterator.{YieldsList-from_slice, YieldsList-from_map_by}
use Rattle.std.proofs.lemmas.Iterator.Consumers.{map_from_collect}
use Rattle.std.proofs.lemmas.Result.{IfOk-at_ok}
use Rattle.actions.specs.declared.names.Var.{Var}
use Rattle.c_subset.specs.declared.trees.CType.{CType}
use Rattle.c_functions.specs.Claims.{field_type}
use Rattle.c_passes.proofs.types.data_types.Goals as goal

pub returns : goal.returns
returns c =
    sym (map-id c.in_ok-collect.field-0.items)
    ∙ IfOk-at_ok (λ w. map (λ (t : CType). t) w.items ≡ map (λ (v : Var). field_type v.sort) c.args.vars.now)
    c.in_ok-collect.was
    (map_from_collect _ c.collect.ensures.ran
    (YieldsList-from_map_by _ (λ (t : CType). t) (λ (v : Var). field_type v.sort) (YieldsList-from_slice _ (cc))
    c.map.ensures.closure (λ x r q k. search rules)))
