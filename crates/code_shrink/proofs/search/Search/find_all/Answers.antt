use Rattle.std.proofs.Common.{◌+◌, sym, subst, arith}
use Rattle.code_language.specs.Code.{instr_of, instrs_of}
use Rattle.code_shrink.specs.Search.{NamesBefore, Finds}
use Rattle.code_shrink.proofs.SearchLemmas.{instr_at, finds_more, finds_past}
use Rattle.code_shrink.proofs.search.Search.find_all.Goals as goal
use Rattle.code_shrink.proofs.search.Search.find_all.Goals.{then-flags-place+in_ok-find_named, else-flags-place}

pub find_named-requires : goal.find_named-requires
find_named-requires c q names =
    let xs = c.args.instrs.now in
    let x = c.index-instrs-place.result in
    let there = instr_at xs c.loop-place.place x c.loop-place-test.true c.index-instrs-place.is in
    let below = c.requires.below c.loop-place.place (instr_of x) there q names in
    omega (arith, below, c.loop-place.invariant.size)

pub loop-place-preserved : goal.loop-place-preserved
loop-place-preserved c =
    let is = instrs_of c.args.instrs.now in
    let bs = c.args.flags.now in
    let i = c.loop-place.place in
    let x = c.index-instrs-place.result in
    let there = instr_at c.args.instrs.now i x c.loop-place-test.true c.index-instrs-place.is in
    let so_far = c.loop-place.invariant in
    elim c.if-flags-place.branch [
      | then-flags-place+in_ok-find_named w ↦
          subst (λ s. Finds (NamesBefore (i + 1) is bs) c.args.self.now s) (sym w.self-is)
          (finds_more is bs i (instr_of x) there c.args.self.now c.loop-place.self w.find_named.new.self
          w.if-flags-place.true so_far w.in_ok-find_named.ensures)
      | else-flags-place w ↦
          subst (λ s. Finds (NamesBefore (i + 1) is bs) c.args.self.now s) (sym w.self-is)
          (finds_past is bs i (instr_of x) there c.args.self.now c.loop-place.self w.if-flags-place.false so_far)
    ]
