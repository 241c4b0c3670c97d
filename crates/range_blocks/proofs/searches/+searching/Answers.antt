use Rattle.std.proofs.Common.{◌≢◌, ◌<◌, List, [], ◌∷◌, ap, arith, length, map, refl, subst, sym}
use Rattle.std.proofs.lemmas.Bool.Decides.{nat_tests}
use Rattle.std.proofs.lemmas.List.{nil_from_length}
use Rattle.checked_chart.specs.Views.{block_seen, list_seen, trans_seen}
use Rattle.range_worlds.specs.Leads.{Among, Leads, chart_in, now_at}
use Rattle.range_blocks.specs.Ends.{life_of, rules_in}
use Rattle.range_blocks.specs.Finds.{found_ends, to_dest}
use Rattle.range_blocks.proofs.BlockLemmas.{block_same}
use Rattle.range_blocks.proofs.SearchLemmas.{state_reached, junction_reached, search_same, no_search, next_search}
use Rattle.range_blocks.proofs.SearchLemmas.{led_visit}
use Rattle.range_blocks.proofs.searches.+searching.Goals as goal

pub reached-returns-in_ok-all-in-State : goal.reached-returns-in_ok-all-in-State
reached-returns-in_ok-all-in-State t c =
    subst (λ a. Leads c.args.setting.now (Among c.args.setting.now c.args.xs.items)
    (λ b n depth. to_dest (chart_in c.args.setting.now) b (rules_in c.args.setting.now b n) (life_of c.args.life)
    (block_seen a) (now_at c.args.now depth) c.args.transition.now.dest)
    (found_ends c.args.setting.now c.in_ok-all-in-State.all)) c.items-action.ensures
    (state_reached _ _ (life_of c.args.life) (block_seen c.items-action.result.now) c.args.now
    c.args.transition.now.dest c.in-State.target c.in_ok-all-in-State.all c.in-State.is c.in_ok-all-in-State.ensures)

pub reached-returns-in_ok-all-in-Junction : goal.reached-returns-in_ok-all-in-Junction
reached-returns-in_ok-all-in-Junction t c =
    subst (λ a. Leads c.args.setting.now (Among c.args.setting.now c.args.xs.items)
    (λ b n depth. to_dest (chart_in c.args.setting.now) b (rules_in c.args.setting.now b n) (life_of c.args.life)
    (block_seen a) (now_at c.args.now depth) c.args.transition.now.dest)
    (found_ends c.args.setting.now c.in_ok-all-in-Junction.all)) c.items-action.ensures
    (junction_reached _ _ (life_of c.args.life) (block_seen c.items-action.result.now) c.args.now
    c.args.transition.now.dest c.in-Junction.junction (list_seen c.in_ok-list-in-Junction.list.now)
    c.in_ok-all-in-Junction.all c.in-Junction.is c.in_ok-list-in-Junction.ensures c.in_ok-all-in-Junction.ensures)

pub search-returns-in-None : goal.search-returns-in-None
search-returns-in-None t c =
    search_same _ _ (life_of c.args.life) (list_seen c.args.list.now) [] c.args.now c.nothing-in-None.result
    (ap list_seen (nil_from_length c.args.list.now c.in-None.ensures.cases))
    (no_search _ _ (life_of c.args.life) c.args.now c.nothing-in-None.result c.nothing-in-None.ensures)

pub search-returns-in_ok-all-in-Some : goal.search-returns-in_ok-all-in-Some
search-returns-in_ok-all-in-Some t c =
    search_same _ _ (life_of c.args.life) (list_seen c.args.list.now)
    (trans_seen c.in-Some.first.now ∷ list_seen c.in-Some.rest.now) c.args.now c.in_ok-all-in-Some.all
    (ap list_seen c.in-Some.ensures.cases.0)
    (next_search c.args.setting.now (life_of c.args.life) (trans_seen c.in-Some.first.now)
    (list_seen c.in-Some.rest.now) c.args.now c.in_ok-there-in-Some.there c.in_ok-others-in-Some.others
    c.in_ok-all-in-Some.all c.in_ok-onward-in-Some.onward c.in_ok-sides-in-Some.sides.no.items
    c.in_ok-ran-in-Some.ran.cut.items c.in_ok-onward-in-Some.ensures c.in_ok-all-in-Some.ensures.first
    c.in_ok-all-in-Some.ensures.second c.in_ok-others-in-Some.ensures c.args.xs.items c.in_ok-sides-in-Some.sides
    c.in_ok-ran-in-Some.ran refl refl c.in_ok-sides-in-Some.ensures
    (block_same _ _ (life_of c.args.life) (trans_seen c.in-Some.first.now).condition (block_seen c.items.result.now)
    c.args.now c.in_ok-ran-in-Some.ran (ap block_seen (sym c.items.ensures)) c.in_ok-ran-in-Some.ensures)
    c.in_ok-there-in-Some.ensures)

-- what is made of a list that isn't empty isn't empty
none_lost : {A B : Type 0} (f : A → B) (xs : List A) → 0 < length xs → map f xs ≢ []
none_lost f [] lt e = absurd (omega arith)
none_lost f (x ∷ xs) lt e = absurd cc

pub visit-returns : goal.visit-returns
visit-returns t c =
    let some : 0 < length c.args.list.now = grind (arith, nat_tests, c.if-is_empty.ensures) in
    led_visit _ _ (life_of c.args.life) (block_seen c.args.action.now) c.args.now (list_seen c.args.list.now)
    c.in_ok-found.found c.in_ok-all.all (none_lost trans_seen c.args.list.now some) c.in_ok-all.ensures
    c.in_ok-found.ensures
