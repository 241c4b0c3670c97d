use Rattle.std.proofs.Common.{◌≡◌, ℕ, Some, arith}
use Rattle.std.specs.Prelude.{slice_get}
use Rattle.std.proofs.lemmas.List.{length-map}
use Rattle.std.proofs.lemmas.Option.{slice_get_within}
use Rattle.code_language.specs.Code.{instr_of, instrs_of}
use Rattle.code_language.specs.Instrs.{Play}
use Rattle.code_results.proofs.CheckLemmas.{below_more, instr_there}
use Rattle.code_notes.specs.Views.{place_in}
use Rattle.code_notes.proofs.played.are_of.Goals as goal

-- each one
pub returns : goal.returns
returns c h i q there stands =
    let within = slice_get_within (instrs_of c.args.instrs.now) i Play there in
    let size = length-map c.args.instrs.now instr_of in
    let past = c.loop-place-test.false in
    c.loop-place.invariant i (omega (arith, within, size, past)) q there stands

-- one more
pub loop-place-preserved : goal.loop-place-preserved
loop-place-preserved c =
    let xs = c.args.instrs.now in
    let z = c.index-instrs-place.result in
    let plan = c.args.plan.now in
    let p = c.args.proc in
    let i = c.loop-place.place in
    below_more (λ j. (q : ℕ) → slice_get (instrs_of xs) j ≡ Some Play → (place_in plan p j).player ≡ Some q
    → slice_get plan.played.items q ≡ Some p) i c.loop-place.invariant
    (λ q there stands. c.has_own.ensures c.if-not-has_own.false
    (instr_there xs i z Play c.loop-place-test.true c.index-instrs-place.is there) q stands)
