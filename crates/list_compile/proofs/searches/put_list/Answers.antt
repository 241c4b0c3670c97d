use Rattle.std.proofs.Common.{arith}
use Rattle.list_compile.specs.Drafts.{code_seen}
use Rattle.list_compile.specs.Numberings.{chart_in}
use Rattle.list_compile.specs.Searches.{search_seen}
use Rattle.list_compile.proofs.SearchTurns.{dest_at, list_turn, list_done, size_turn, size_there}
use Rattle.list_compile.proofs.searches.put_list.Goals as goal

pub put_trans-requires-clause-dest : goal.put_trans-requires-clause-dest
put_trans-requires-clause-dest c =
    dest_at (chart_in c.args.numbering.now) c.args.list.now c.loop-trans.trans-index c.trans-item.result
    c.requires.valid (omega arith) c.trans-item.is

pub put_trans-requires-clause-low : goal.put_trans-requires-clause-low
put_trans-requires-clause-low c = omega (arith, c.loop-trans.invariant.number, c.requires.low)

pub overflow_add-number : goal.overflow_add-number
overflow_add-number c =
    omega (
      arith,
      c.loop-trans.invariant.number,
      c.requires.low,
      c.trans_size-number.ensures.size,
      size_there c.args.list.now c.loop-trans.trans-index c.trans-item.result (omega arith) c.trans-item.is,
    )

pub loop-trans-preserved : goal.loop-trans-preserved
loop-trans-preserved c =
    let S = search_seen (chart_in c.args.numbering.now) c.args.search.now in
    record {
      code =
          list_turn S c.args.list.now c.loop-trans.trans-index c.loop-trans.number c.trans_size-number.result
          c.trans-item.result (code_seen c.loop-trans.code) _ _ (omega arith) c.trans-item.is
          c.trans_size-number.ensures.size c.loop-trans.invariant.code c.in_ok-put_trans.ensures;
      number =
          size_turn c.args.list.now c.loop-trans.trans-index c.loop-trans.number c.trans_size-number.result _
          c.trans-item.result (omega arith) c.trans-item.is c.trans_size-number.ensures.size
          c.loop-trans.invariant.number;
    }

pub returns : goal.returns
returns c =
    let S = search_seen (chart_in c.args.numbering.now) c.args.search.now in
    list_done S c.args.list.now c.loop-trans.trans-index c.loop-trans.number (code_seen c.loop-trans.code) _ _
    (omega arith) c.loop-trans.invariant.code c.in_ok-put_return.ensures
