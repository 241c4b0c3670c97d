use Rattle.std.proofs.Common.{◌≤◌, length, ap, arith, rules}
use Rattle.c_subset.specs.Lines.{lines_in}
use Rattle.c_text.proofs.LocalLemmas.{parameters-length, locals-kept}
use Rattle.c_text.proofs.functions.print_locals_set.Goals as goal

pub slice_bounds-print_declarations-count : goal.slice_bounds-print_declarations-count
slice_bounds-print_declarations-count c =
    omega (
      arith,
      ap length c.deref.ensures.value,
      ap length c.in_ok-add_locals.ensures,
      ap length c.in_ok-locals.ensures,
      parameters-length 0 c.args.types.now,
      locals-kept (lines_in c.args.lines.now) c.in_ok-locals.locals.items (lines_in c.args.lines.now),
    )

pub slice_bounds-print_declarations-start : goal.slice_bounds-print_declarations-start
slice_bounds-print_declarations-start c =
    let few : length c.args.types.now ≤ length c.deref.result.now =
    omega (
      arith,
      ap length c.deref.ensures.value,
      ap length c.in_ok-add_locals.ensures,
      ap length c.in_ok-locals.ensures,
      parameters-length 0 c.args.types.now,
      locals-kept (lines_in c.args.lines.now) c.in_ok-locals.locals.items (lines_in c.args.lines.now),
    ) in
    search rules

pub offset_bounds-deref-types : goal.offset_bounds-deref-types
offset_bounds-deref-types c =
    let few : length c.args.types.now ≤ length c.deref.result.now =
    omega (
      arith,
      ap length c.deref.ensures.value,
      ap length c.in_ok-add_locals.ensures,
      ap length c.in_ok-locals.ensures,
      parameters-length 0 c.args.types.now,
      locals-kept (lines_in c.args.lines.now) c.in_ok-locals.locals.items (lines_in c.args.lines.now),
    ) in
    search rules
