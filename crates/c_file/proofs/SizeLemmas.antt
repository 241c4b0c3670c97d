-- The arrays of the struct have sizes that C takes.
use Rattle.std.proofs.Common.{◌≡◌, ℕ, ◌+◌, ◌*◌, ◌^◌, ◌<◌, ◌≤◌, List, [], ◌∷◌, refl, arith}
use Rattle.flow_base.specs.declared.bounds.Bounds.{Bounds}
use Rattle.flow_base.specs.declared.bounds.TheConstants.{STEP_LIMIT}
use Rattle.code_language.specs.declared.fault.CodeKind.TheVariants as kinds
use Rattle.code_language.specs.declared.limits.TheConstants.{HEIGHT_LIMIT}
use Rattle.code_language.specs.Code.{Code}
use Rattle.code_language.specs.Measures.{greatest, heights}
use Rattle.code_language.specs.WellFormed.{IsCode, known_of, later_fault, starts_known, procs_fault, first_over, unless}
use Rattle.code_language.proofs.Accepted.{first_none}
use Rattle.code_counts.specs.Needed.{IsRoom}
use Rattle.code_shrink.proofs.Orders.{greatest_at_most}
use Rattle.code_copies.proofs.MadeWhole.{all_within}
use Rattle.c_functions.specs.Files.{note_room, shape_of}
use Rattle.c_functions.specs.Notes.{noted_in}
use Rattle.c_functions.specs.Plans.{Tests}
use Rattle.c_file.specs.Files.{HasSizes}

-- no procedure of well-formed code is higher than there may be
low : (k : Code) → IsCode k → greatest (heights k.procedures.procs) ≤ HEIGHT_LIMIT
unfolding later_fault
low k is =
    let starts = first_none (unless (starts_known k.procedures) kinds.BadNumber 0 0) _ is.sound in
    let procs = first_none (procs_fault (known_of k) 0 k.procedures.procs) _ starts.1 in
    let high = first_none (first_over HEIGHT_LIMIT kinds.TooHigh 0 (heights k.procedures.procs)) _ procs.1 in
    greatest_at_most (heights k.procedures.procs) HEIGHT_LIMIT
    (all_within HEIGHT_LIMIT kinds.TooHigh 0 (heights k.procedures.procs) high.0)

-- a product of two numbers that are one more than others
some_product : (steps height : ℕ) → 1 ≤ (steps + 1) * (height + 1)
some_product steps height = grind arith

few_products : (steps height : ℕ) → steps ≤ 50000 → height ≤ 200 → (steps + 1) * (height + 1) ≤ 50001 * 201
few_products steps height few low = grind arith

-- there is an entry for notes, and there are few
notes_are : (noted : List ℕ) (height steps : ℕ) → height ≤ 200 → steps ≤ 50000
    → (1 ≤ note_room noted height steps) × (note_room noted height steps < 2 ^ 31)
notes_are [] height steps low few = (omega arith, omega arith)
notes_are (q ∷ noted) height steps low few =
    let most = few_products steps height few low in (some_product steps height, omega (arith, most))

-- with room for what well-formed code emits both arrays have sizes that C takes
pub has_sizes : (k : Code) (T : Tests) (b : Bounds) (room : ℕ) → IsCode k → IsRoom k b room
    → HasSizes (shape_of k T b room)
has_sizes k T b room is has =
    let height_limit : HEIGHT_LIMIT ≡ 200 = refl in
    let step_limit : STEP_LIMIT ≡ 50000 = refl in
    let steps : b.steps ≤ 50000 = omega (arith, b.steps_limit, step_limit) in
    let height : greatest (heights k.procedures.procs) ≤ 200 = omega (arith, low k is, height_limit) in
    let notes = notes_are (noted_in k.procedures.procs) (greatest (heights k.procedures.procs)) b.steps height steps in
    record {
      some_outputs = has.some;
      few_outputs = omega (arith, has.few, steps);
      some_notes = notes.0;
      few_notes = notes.1;
    }
