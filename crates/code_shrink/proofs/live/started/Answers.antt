use Rattle.std.proofs.Common.{arith}
use Rattle.code_language.specs.Code.{code_of}
use Rattle.code_shrink.proofs.LiveLemmas.{none_found, starts_there, search_start}
use Rattle.code_shrink.proofs.live.started.Goals as goal

pub find-requires : goal.find-requires
find-requires c =
    let none = c.in_ok-found.ensures.items_if_clones_equal (λ y h. h) in
    (starts_there c.args.code.now c.items.result.now c.in_ok-found.found.items c.requires none c.items.ensures).0

pub find-requires-2 : goal.find-requires-2
find-requires-2 c =
    let none = c.in_ok-found.ensures.items_if_clones_equal (λ y h. h) in
    let there = starts_there c.args.code.now c.items.result.now c.in_ok-found.found.items c.requires none c.items.ensures in
    let react = there.1 in
    omega (arith, react, c.in_ok-find.ensures.size)

pub returns : goal.returns
returns c flags =
    let none = c.in_ok-found.ensures.items_if_clones_equal (λ y h. h) in
    search_start (code_of c.args.code.now).procedures flags _ _ _
    (none_found c.args.code.now c.items.result.now c.in_ok-found.found.items none c.items.ensures) c.new.ensures.items
    c.in_ok-find.ensures c.in_ok-find-2.ensures
