use Rattle.std.proofs.Common.{rules}
use Rattle.flow_base.proofs.RealFilesLemmas.{others_stay, reads_name}
use Rattle.flow_base.proofs.real_inputs.RealInputs.try_read.Goals as goal

-- the first file of the name is read
pub returns-clause-file : goal.returns-clause-file
returns-clause-file g c =
    reads_name g.R.File.Read.remaining c.args.name.now c.args.self.now.files.items c.place_of.new.self.files.items
    c.in_ok-index.index c.index_mut-file.result.now c.read.new.self c.read.result c.read.new.buf
    c.in_ok-index.ensures.found c.in_ok-index.ensures.opened
    (record { place = c.in_ok-index.ensures.first; within = search rules; is = search rules })
    c.read.ensures.name c.read.ensures.bytes c.read.ensures.missing c.read.ensures.still_missing

-- and no other
pub returns-clause-other_files : goal.returns-clause-other_files
returns-clause-other_files g c =
    others_stay c.args.name.now c.args.self.now.files.items c.place_of.new.self.files.items
    c.in_ok-index.index c.index_mut-file.result.now c.read.new.self
    c.in_ok-index.ensures.found c.in_ok-index.ensures.opened
    (record { place = c.in_ok-index.ensures.first; within = search rules; is = search rules })
    c.read.ensures.name
