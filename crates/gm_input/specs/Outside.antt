-- What stands outside the program, standard input and the files, and what a step reads of it.
use Rattle.std.specs.Prelude.{◌≡◌, ◌≢◌, ℕ, List, Option, Some, None, drop}
use Rattle.gm_files.specs.declared.streams.Source as source
use Rattle.gm_files.specs.declared.named.Files as files
use Rattle.gm_files.specs.Files.{file_of, Lacks}
use Rattle.gm_files.specs.Streams.{Rises}
use Rattle.gm_input.specs.Texts.{standard_input, absent_text, read_fault_text}

-- the outside: what standard input has left, where it tells it, and how many of its reads failed; the files with their
-- bytes, where they are told, how many of their reads failed, and how many named no file
pub record Outside : Type 0 where
  pub left : Option (List ℕ)
  pub input_faults : ℕ
  pub map : Option (List (List ℕ × List ℕ))
  pub file_faults : ℕ
  pub absences : ℕ

-- the outside that a source and some files are
abbrev pub outside : {S F : Type 0} → source.Ghosts S → files.Ghosts F → S → F → Outside
outside s f input names = record {
  left = s.left input;
  input_faults = s.read_faults input;
  map = f.told names;
  file_faults = f.file_faults names;
  absences = f.absences names;
}

-- nothing was read of standard input
pub record KeepsInput (before after : Outside) : Type 0 where
  pub left : after.left ≡ before.left
  pub quiet : after.input_faults ≡ before.input_faults

-- the files are the same, and no read of them failed
pub record KeepsFiles (before after : Outside) : Type 0 where
  pub map : after.map ≡ before.map
  pub quiet : after.file_faults ≡ before.file_faults
  pub found : after.absences ≡ before.absences

-- a source was read from its front, as many bytes as are asked for or all that it had, and not one byte further; this is
-- the whole text that it had, where it tells it
abbrev pub ReadsFirst : ℕ → Option (List ℕ) → Option (List ℕ) → List ℕ → Type 0
ReadsFirst most None after text = after ≡ None
ReadsFirst most (Some left) after text = (text ≡ left) × (after ≡ Some (drop most left))

-- these are the bytes of the file of this name, where the files are told; where they are not they may be any
abbrev pub TellsFile : Option (List (List ℕ × List ℕ)) → List ℕ → List ℕ → Type 0
TellsFile None name bytes = Unit {0}
TellsFile (Some files) name bytes = file_of files name ≡ Some bytes

-- the whole text under a name, of which so many bytes are asked for: what standard input had left, which was read as far
-- as that and no further, and no file was; or all of a file, for which standard input was not read
pub data IsText (most : ℕ) (name : List ℕ) (before after : Outside) (text : List ℕ) : Type 0 where
  on_input : name ≡ standard_input → ReadsFirst most before.left after.left text → after.input_faults ≡ before.input_faults → KeepsFiles before after → IsText most name before after text
  in_file : name ≢ standard_input → TellsFile before.map name text → KeepsInput before after → KeepsFiles before after → IsText most name before after text

-- the text under a name could not be read, and this line says so: a read of standard input failed, a read of the file
-- failed, or there is no such file. Of the other two counts neither rose
pub data IsUnread (name : List ℕ) (before after : Outside) (line : List ℕ) : Type 0 where
  input_fault : name ≡ standard_input → Rises before.input_faults after.input_faults → KeepsFiles before after → line ≡ read_fault_text name → IsUnread name before after line
  file_fault : name ≢ standard_input → KeepsInput before after → Rises before.file_faults after.file_faults → after.absences ≡ before.absences → line ≡ read_fault_text name → IsUnread name before after line
  file_absent : name ≢ standard_input → KeepsInput before after → after.file_faults ≡ before.file_faults → Lacks before.map name → Rises before.absences after.absences → line ≡ absent_text name → IsUnread name before after line
