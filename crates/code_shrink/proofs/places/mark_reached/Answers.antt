use Rattle.std.proofs.Common.{◌≡◌, ◌<◌, ◌+◌, true, false, length, map, replicate, get_or, sym, ap, ◌∙◌, subst, arith}
use Rattle.std.specs.Prelude.{slice_set}
use Rattle.std.proofs.lemmas.List.{length-map, length-replicate}
use Rattle.code_shrink.specs.Ways.{way_of, Marking}
use Rattle.code_shrink.specs.declared.places.Way.TheVariants as ways
use Rattle.code_shrink.proofs.Marking.{set_size, first_marked, not_marked, with_way, marking_done}
use Rattle.code_shrink.proofs.places.mark_reached.Goals as goal
use Rattle.code_shrink.proofs.places.mark_reached.Goals.{then-flags-place, else-flags-place}

pub loop-place-init : goal.loop-place-init
loop-place-init c =
    let n = length c.args.ways.now in
    let none = replicate n false in
    let first = c.mark.ensures ∙ ap (λ fs. slice_set fs 0 true) c.requires.none in (
      ap length first ∙ set_size none 0 ∙ length-replicate n false,
      λ t same. subst (λ fs. Marking t 0 fs) (sym first)
          (first_marked t n (sym (ap length same) ∙ length-map t way_of)),
    )

pub loop-place-preserved : goal.loop-place-preserved
loop-place-preserved c =
    let i = c.loop-place.place in
    let h = c.loop-place.invariant in
    let below = c.loop-place-test.true in
    elim c.if-flags-place.branch [
      | then-flags-place w ↦ (
        omega (arith, h.0, ap length w.flags-is),
        λ t same.
            let lt : i < length (map way_of t) = omega (arith, below, ap length same) in
            let x = with_way t i ways.On lt in
            subst (λ fs. Marking t (i + 1) fs) (sym w.flags-is)
            (w.mark_after.ensures t x.0 (h.1 t same) w.if-flags-place.true x.1
            (x.2 ∙ ap (λ ws. get_or ws i ways.On) same)),
      )
      | else-flags-place w ↦ (
        omega (arith, h.0, ap length w.flags-is),
        λ t same. subst (λ fs. Marking t (i + 1) fs) (sym w.flags-is)
            (not_marked t i c.loop-place.flags (h.1 t same) w.if-flags-place.false),
      )
    ]

pub returns : goal.returns
returns c t same =
    let past = c.loop-place-test.false in
    let end : c.loop-place.place ≡ length t = omega (arith, past, ap length same, length-map t way_of) in
    marking_done t c.loop-place.flags
    (subst (λ i. Marking t i c.loop-place.flags) end (c.loop-place.invariant.1 t same))
