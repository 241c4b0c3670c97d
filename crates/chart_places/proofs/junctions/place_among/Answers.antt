use Rattle.std.proofs.Common.{◌≡◌, ◌-◌, ◌<◌, suc, Some, true, false, length, map, refl, ap, ◌∙◌, arith}
use Rattle.std.specs.Prelude.{slice_get}
use Rattle.std.specs.Option.{option_map}
use Rattle.std.proofs.lemmas.Grind.{common_steps}
use Rattle.std.proofs.lemmas.Option.{slice_get-map, slice_get_read}
use Rattle.chart_places.specs.Placed.{Owned}
use Rattle.chart_places.specs.Survey.{owned_of, is_before}
use Rattle.chart_places.proofs.JunctionLemmas.{all_from, put_after, put_ahead}
use Rattle.chart_places.proofs.junctions.place_among.Goals as goal

pub returns-then-not-is_earlier-clause-place : goal.returns-then-not-is_earlier-clause-place
returns-then-not-is_earlier-clause-place c =
    let all = c.args.all.now in
    let k = c.loop-at.at - 1 in
    let lt : k < length all = let h = c.loop-at.invariant.within in omega arith in
    let next : c.loop-at.at ≡ suc k = omega arith in
    let here : slice_get (map owned_of all) k ≡ Some (owned_of c.index-all-at.result) =
    slice_get-map owned_of all k
    ∙ ap (option_map owned_of) (slice_get_read all (length all) k c.index-all-at.result refl lt c.index-all-at.is) in
    let not_before : is_before (owned_of c.args.new) (owned_of c.index-all-at.result) ≡ false =
    grind (arith, common_steps) in
    put_after (owned_of c.args.new) (map owned_of all) c.loop-at.at k (owned_of c.index-all-at.result) c.requires next
    here not_before c.loop-at.invariant.later

pub loop-at-preserved : goal.loop-at-preserved
loop-at-preserved c =
    let all = c.args.all.now in
    let k = c.loop-at.at - 1 in
    let lt : k < length all = let h = c.loop-at.invariant.within in omega arith in
    let next : c.loop-at.at ≡ suc k = omega arith in
    let here : slice_get (map owned_of all) k ≡ Some (owned_of c.index-all-at.result) =
    slice_get-map owned_of all k
    ∙ ap (option_map owned_of) (slice_get_read all (length all) k c.index-all-at.result refl lt c.index-all-at.is) in
    let before : is_before (owned_of c.args.new) (owned_of c.index-all-at.result) ≡ true = grind (arith, common_steps) in
    record {
      within = let h = c.loop-at.invariant.within in omega arith;
      later =
          all_from (λ (x : Owned). is_before (owned_of c.args.new) x ≡ true) (map owned_of all) k
          (owned_of c.index-all-at.result) here before (rw (← next) c.loop-at.invariant.later);
    }

pub returns-clause-place : goal.returns-clause-place
returns-clause-place c =
    put_ahead (owned_of c.args.new) (map owned_of c.args.all.now) c.loop-at.at (omega arith) c.loop-at.invariant.later
