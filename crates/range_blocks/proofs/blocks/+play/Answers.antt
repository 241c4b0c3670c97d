use Rattle.std.proofs.Common.{◌∷◌, ap, map, refl}
use Rattle.std.proofs.lemmas.List.{nil_from_length}
use Rattle.checked_chart.specs.Views.{block_seen}
use Rattle.range_blocks.specs.declared.blocks.Ran.{Ran}
use Rattle.range_blocks.proofs.BlockLemmas.{play_same, no_play, next_play}
use Rattle.range_blocks.proofs.blocks.+play.Goals as goal

pub returns-in-None : goal.returns-in-None
returns-in-None t c =
    play_same _ _ c.args.home _ _ c.args.now c.done.result
    (ap (λ z. map (λ a. block_seen a.now) z) (nil_from_length c.args.actions.now c.in-None.ensures.cases))
    (no_play _ _ c.args.home c.args.now c.done.result c.done.ensures.done)

pub returns-in_ok-cut-in-Some : goal.returns-in_ok-cut-in-Some
returns-in_ok-cut-in-Some t c =
    let all : Ran = record { done = c.in_ok-after-in-Some.after.done; cut = c.in_ok-cut-in-Some.cut } in
    play_same _ _ c.args.home (map (λ a. block_seen a.now) c.args.actions.now)
    (block_seen c.in-Some.first.now.now ∷ map (λ a. block_seen a.now) c.in-Some.rest.now) c.args.now all
    (ap (λ z. map (λ a. block_seen a.now) z) c.in-Some.ensures.cases.0)
    (next_play _ _ c.args.home (block_seen c.in-Some.first.now.now)
    (map (λ a. block_seen a.now) c.in-Some.rest.now) c.args.now c.in_ok-ran-in-Some.ran c.in_ok-after-in-Some.after all
    refl c.in_ok-cut-in-Some.ensures c.in_ok-ran-in-Some.ensures c.in_ok-after-in-Some.ensures)
