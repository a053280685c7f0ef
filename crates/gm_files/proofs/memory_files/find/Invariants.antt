use Rattle.std.proofs.Common.{◌≡◌, drop}
use Rattle.gm_files.specs.Files.{file_of, named}
use Rattle.gm_files.proofs.memory_files.find.Given as goal

-- the files so far have another name
abbrev pub invariant-loop-file : goal.invariant-loop-file
invariant-loop-file l = file_of (named l.files) l.name ≡ file_of (named (drop l.file-index l.files)) l.name
