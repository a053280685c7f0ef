use Rattle.std.proofs.Common.{vec_len}
use Rattle.gm_input.proofs.NameReading.{IsFileFrontReading}
use Rattle.gm_input.proofs.names.read_file_front.Given as goal

abbrev pub invariant-pieces : goal.invariant-pieces
invariant-pieces g l = IsFileFrontReading
    (g.F.Files.told l.initial.files) (g.F.Files.told l.files) l.name
    (g.F.Files.file_faults l.initial.files) (g.F.Files.file_faults l.files)
    (g.F.Files.absences l.initial.files) (g.F.Files.absences l.files)
    l.bytes.items l.room l.fn.most (vec_len l.buffer)

abbrev pub decreases-pieces : goal.decreases-pieces
decreases-pieces g l = l.room
