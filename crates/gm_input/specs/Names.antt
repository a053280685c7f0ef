-- What is read under a name: all of a text, or as many of its first bytes as are asked for.
use Rattle.std.specs.Prelude.{◌≡◌, ◌≢◌, ◌≤◌, ℕ, List, take, drop, length, Option, Some, None, IsSomeAnd}
use Rattle.gm_files.specs.Files.{file_of}
use Rattle.gm_input.specs.declared.fronts.FrontStop.{FrontStop}
use Rattle.gm_input.specs.declared.fronts.FrontStop.TheVariants as front
use Rattle.gm_input.specs.declared.names.NameStop.{NameStop}
use Rattle.gm_input.specs.declared.names.NameStop.TheVariants as stop
use Rattle.gm_input.specs.Texts.{standard_input, absent_text, read_fault_text}
use Rattle.gm_input.specs.Outside.{Outside, KeepsInput, KeepsFiles, IsUnread}

-- these are the first bytes of some, as many as some number or all, where they are told
abbrev pub AreFront : Option (List ℕ) → List ℕ → ℕ → Type 0
AreFront None bytes most = length bytes ≤ most
AreFront (Some all) bytes most = bytes ≡ take most all

-- the first bytes that a source had left were taken, as many as some number or all, where it tells them
abbrev pub TakesFirst : Option (List ℕ) → Option (List ℕ) → List ℕ → ℕ → Type 0
TakesFirst None after bytes most = (after ≡ None) × (length bytes ≤ most)
TakesFirst (Some left) after bytes most = (after ≡ Some (drop most left)) × (bytes ≡ take most left)

-- these are the first bytes of the file of this name, as many as some number or all, where the files are told
abbrev pub AreFileFront : Option (List (List ℕ × List ℕ)) → List ℕ → List ℕ → ℕ → Type 0
AreFileFront None name bytes most = length bytes ≤ most
AreFileFront (Some files) name bytes most = IsSomeAnd (file_of files name) (λ whole. bytes ≡ take most whole)

-- these are the first bytes of the text under a name, as many as some number or all. Of standard input no file is read,
-- and of a file standard input is not
pub data IsFrontOf (most : ℕ) (name : List ℕ) (before after : Outside) (bytes : List ℕ) : Type 0 where
  of_input : name ≡ standard_input → TakesFirst before.left after.left bytes most → after.input_faults ≡ before.input_faults → KeepsFiles before after → IsFrontOf most name before after bytes
  of_file : name ≢ standard_input → AreFileFront before.map name bytes most → KeepsInput before after → KeepsFiles before after → IsFrontOf most name before after bytes

-- why nothing was read under a name
abbrev pub IsNameStop : List ℕ → Outside → Outside → NameStop → Type 0
IsNameStop name before after stop.Absent = IsUnread name before after (absent_text name)
IsNameStop name before after stop.Failed = IsUnread name before after (read_fault_text name)
IsNameStop name before after stop.NoMemory = Unit {0}

-- what stopped the reading of a front, as why nothing was read under a name
abbrev pub name_stop : FrontStop → NameStop
name_stop front.Failed = stop.Failed
name_stop front.NoMemory = stop.NoMemory
