use Rattle.std.proofs.Common.{◌+◌, ◌/◌, List, map, replicate, ◌++◌, ap, ◌∙◌}
use Rattle.actions.specs.declared.names.Var.{Var}
use Rattle.c_functions.specs.Claims.{field_type}
use Rattle.c_subset.specs.declared.trees.CType.TheVariants.{Unsigned}
use Rattle.c_subset.specs.declared.trees.Width.TheVariants.{W16, W32}
use Rattle.c_shape.specs.FileShapes.{shape_seen}
use Rattle.c_passes.proofs.TypeLemmas.{are_struct_types}
use Rattle.c_passes.proofs.types.field_types.Goals as goal

pub returns : goal.returns
returns c =
    are_struct_types (shape_seen c.args.shape.now) c.in_ok-types.types.items c.put_types.new.types.items
    c.put_types-2.new.types.items c.put_types-3.new.types.items
    (c.in_ok-types.ensures ∙ ap (λ (vs : List Var). map (λ (v : Var). field_type v.sort) vs) c.items.ensures)
    c.in_ok-put_types.ensures
    (c.in_ok-put_types-2.ensures
    ∙ ap (λ n. c.put_types.new.types.items ++ replicate (n + n) (Unsigned W16)) c.ors-ors.ensures.ors)
    (c.in_ok-put_types-3.ensures
    ∙ ap (λ n. c.put_types-2.new.types.items ++ replicate ((n + 31) / 32) (Unsigned W32)) c.len-states.ensures.count)
