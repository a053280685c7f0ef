use Rattle.std.proofs.Common.{vec_len}
use Rattle.gm_files.proofs.FileReading.{IsFileReading}
use Rattle.gm_files.proofs.whole_files.read_file.Given as goal

abbrev pub invariant-pieces : goal.invariant-pieces
invariant-pieces g l = IsFileReading
    (g.F.Files.told l.initial.files) (g.F.Files.told l.files) l.name
    (g.F.Files.file_faults l.initial.files) (g.F.Files.file_faults l.files)
    (g.F.Files.absences l.initial.files) (g.F.Files.absences l.files)
    l.bytes.items l.room l.fn.limit (vec_len l.buffer)

abbrev pub decreases-pieces : goal.decreases-pieces
decreases-pieces g l = l.room
