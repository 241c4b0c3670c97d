use Rattle.std.proofs.Common.{rules}
use Rattle.flow_base.proofs.Pieces.{given_next}
use Rattle.flow_base.proofs.mem_file.MemFile.give.Goals as goal

-- the front of the buffer is what stood next in the file
pub returns-clause-bytes : goal.returns-clause-bytes
returns-clause-bytes c =
    rw (← c.self.view_is)
    (given_next c.self.inside.bytes.items c.copy_from_slice.new.self _ c.self.inside.given c.min-count.result (search rules) (search rules))
