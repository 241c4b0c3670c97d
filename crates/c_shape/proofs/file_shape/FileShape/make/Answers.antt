use Rattle.std.proofs.Common.{refl}
use Rattle.std.proofs.lemmas.List.{length-map}
use Rattle.c_shape.proofs.file_shape.FileShape.make.Goals as goal

-- the parts are those of the code
pub returns : goal.returns
returns c = record {
  shape =
      rw (
        c.note_room-notes.ensures,
        c.items.ensures,
        c.height.ensures,
        c.in_ok-noted.ensures,
        c.items-procs.ensures,
        c.raw.ensures.raw,
        c.requires.tree,
        c.requires.names,
        length-map,
      ) refl;
}
