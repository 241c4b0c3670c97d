use Rattle.std.proofs.Common.{List, ◌∙◌, ap}
use Rattle.c_facts.specs.Facts.{told_at}
use Rattle.c_facts.specs.Views.{places_of, rows_of}
use Rattle.c_facts.specs.declared.known.Places.{Places}
use Rattle.c_facts.proofs.Sinking.{sunk_on}
use Rattle.c_facts.proofs.settling.+sunk.Goals as goal

pub returns-in_ok-left-in-One : goal.returns-in_ok-left-in-One
returns-in_ok-left-in-One t c =
    let left = c.in_ok-left-in-One.left in
    let p = c.in-One.place in
    let rs = rows_of c.args.rows in
    rw c.in-One.is
    (sunk_on c.sunk.result c.args.rounds p (places_of c.in-One.others.value) (places_of left.places) rs
    (rows_of left.rows) c.if-rounds-eq0.false
    (c.in_ok-left-in-One.ensures.1 ∙ ap (λ (ps : Places). told_at p rs (places_of ps)) c.into_inner.ensures)
    c.in_ok-left-in-One.ensures.0 c.sunk.ensures)
