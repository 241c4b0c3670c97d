use Rattle.std.proofs.Common.{arith}
use Rattle.std.proofs.lemmas.List.{get_or_read}
use Rattle.c_shape.proofs.file_shape.FileShape.chosen_field.Goals as goal

-- each state has a rank, which is at most the number of states
pub index-requires : goal.index-requires
index-requires c =
    let size = c.args.self.now.counted.ranks_length in omega (arith, size, c.requires)

pub overflow_add-result-2 : goal.overflow_add-result-2
overflow_add-result-2 c =
    let s = c.args.self.now in
    let size = s.counted.ranks_length in
    let low = s.counted.ranks_low c.args.state c.requires in
    let read = get_or_read s.ranks.items _ _ (omega (arith, size, c.requires)) c.index.ensures 0 in
    omega (arith, c.used_field.ensures, s.parts.vars, s.parts.states, low, read)

pub returns : goal.returns
returns c =
    let s = c.args.self.now in
    let size = s.counted.ranks_length in
    let rank = s.counted.ranks_are c.args.state c.requires in
    let read = get_or_read s.ranks.items _ _ (omega (arith, size, c.requires)) c.index.ensures 0 in
    omega (arith, c.used_field.ensures, rank, read)
