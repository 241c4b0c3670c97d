use Rattle.std.proofs.Common.{◌≡◌, ◌+◌, ◌-◌, ◌<◌, ◌∙◌, Vec, false, length, drop, get_or, sym, ap, subst, arith}
use Rattle.std.specs.Prelude.{map, reverse}
use Rattle.std.specs.declared.alloc.Global.{Global}
use Rattle.std.proofs.lemmas.List.{length-map, drop_more}
use Rattle.code_language.specs.Code.{instr_of, instrs_of}
use Rattle.code_language.specs.declared.instr.Instr.{Instr}
use Rattle.code_language.proofs.ListLemmas.{drop_map_at}
use Rattle.code_shrink.specs.Numbers.{number_by}
use Rattle.code_shrink.specs.Smaller.{folded, slides, recounted}
use Rattle.code_shrink.proofs.MadeLemmas.{MadeFrom, at_place, kept_from, ways_length, way_at, some_at, put_made}
use Rattle.code_shrink.proofs.MadeLemmas.{left_made}
use Rattle.code_shrink.proofs.MadeLemmas.{made_more, made_all, map-reverse}
use Rattle.code_shrink.proofs.smaller.smaller_procedure.Goals as goal
use Rattle.code_shrink.proofs.smaller.smaller_procedure.Goals.{then-kept+in_ok-instr+in_ok-push, else-kept}

-- as many ways as instructions
pub bounds-ways-place : goal.bounds-ways-place
bounds-ways-place c =
    let is = instrs_of c.args.instrs.now in
    let same = ways_length is c.args.ways.now c.requires.ways in let mapped = length-map c.args.instrs.now instr_of in
    let size = c.loop-place.invariant.size in let test = c.loop-place-test.true in omega (arith, same, size, test)

-- one more place
pub loop-place-preserved : goal.loop-place-preserved
loop-place-preserved c =
    let m = number_by c.args.numbers.now in let bs = c.args.flags.now in let xs = c.args.instrs.now in
    let is = instrs_of xs in let ways = c.args.ways.now in let i = c.loop-place.place - 1 in
    let counts = c.loop-place.counts.items in let old = c.loop-place.smaller.items in
    let now = c.if-kept.smaller.items in
    let kept = c.is_kept-kept.result in let n = c.count_from-count.result in
    let test = c.loop-place-test.true in let back : i + 1 ≡ c.loop-place.place = omega (arith, test) in
    let so_far = subst (λ k. MadeFrom m bs is k counts (instrs_of old)) (sym back) c.loop-place.invariant in
    let size = so_far.size in let within : i < length is = omega (arith, size) in
    let mapped = length-map xs instr_of in let there : i < length xs = omega (arith, within, mapped) in
    let flags = c.requires.flags in let f = drop_more bs i false (omega (arith, flags, there)) in
    let many : length ways ≡ length is = ways_length is ways c.requires.ways in
    let passed : i < length ways = omega (arith, many, within) in
    let same = c.deref.ensures.value in let also = c.deref-in-loop-place.ensures.value in
    let counted = rw also at (c.count_from-count.ensures (kept_from bs is (i + 1))
    (ap reverse also ∙ so_far.counted)) in
    rw c.in_ok-push-2.ensures.items (elim c.if-kept.branch [
      | then-kept+in_ok-instr+in_ok-push w ↦
          let z = w.index-instrs-place.result in let y = instr_of z in
          let e = drop_map_at instr_of xs i z there w.index-instrs-place.is in
          let last = w.deref-then-kept.ensures.value in
          made_more m bs is i y (get_or bs i false) e f kept n counts (instrs_of old) (instrs_of now) so_far within
          (c.is_kept-kept.ensures (at_place is i y) (kept_from bs is (i + 1))
          (way_at is i y _ ways c.requires.ways e (drop_more ways i _ passed)) (ap reverse same ∙ so_far.counted))
          counted
          (put_made (recounted m (at_place is i y) (kept_from bs is (i + 1))) w.in_ok-instr.instr old now kept
          w.if-kept.true
          (w.in_ok-instr.ensures (slides (map folded (drop (i + 1) is))) (kept_from bs is (i + 1))
          (way_at is i y _ ways c.requires.ways e (drop_more ways i _ passed)) (ap reverse last ∙ so_far.counted))
          (ap (λ (v : Vec Instr Global). v.items) w.smaller-is ∙ w.in_ok-push.ensures.items))
      | else-kept w ↦
          let some = some_at is i within in let y = some.0 in let e = some.1 in
          made_more m bs is i y (get_or bs i false) e f kept n counts (instrs_of old) (instrs_of now) so_far within
          (c.is_kept-kept.ensures (at_place is i y) (kept_from bs is (i + 1))
          (way_at is i y _ ways c.requires.ways e (drop_more ways i _ passed)) (ap reverse same ∙ so_far.counted))
          counted
          (left_made (recounted m (at_place is i y) (kept_from bs is (i + 1))) old now kept w.if-kept.false
          (ap (λ (v : Vec Instr Global). v.items) w.smaller-is))
    ])

-- all places
pub returns : goal.returns
returns c =
    let is = instrs_of c.args.instrs.now in
    let none : c.loop-place.place ≡ 0 = (let test = c.loop-place-test.false in omega (arith, test)) in
    ap instrs_of c.reverse.ensures.items ∙ map-reverse instr_of c.loop-place.smaller.items
    ∙ made_all (number_by c.args.numbers.now) c.args.flags.now is c.loop-place.place c.loop-place.counts.items
    (instrs_of c.loop-place.smaller.items) c.loop-place.invariant none
