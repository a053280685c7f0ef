-- Files by their names. They are told or not: `Some` list of names, each with its bytes, or `None`.
use Rattle.std.specs.Prelude.{◌≡◌, ◌<◌, ◌≤◌, ◌+◌, ◌-◌, Bool, true, false, ◌^◌, ℕ, List, [], ◌∷◌, Option, Some, None, Result, Ok, Err, IsSomeAnd, length, take, drop, ◌++◌, min, map, String, string_bytes, Vec, option_map, if◌then◌else◌}
use Rattle.std.specs.Str.{bytes_eq}
use Rattle.gm_files.specs.declared.named.FileFault.{FileFault}
use Rattle.gm_files.specs.declared.named.FileFault.TheVariants.{Absent, Failed}
use Rattle.gm_files.specs.Streams.{Places, Rises, one_more}
use Rattle.gm_files.specs.Memory.{fails_next}

-- the bytes of the first file of some name
abbrev pub file_of : List (List ℕ × List ℕ) → List ℕ → Option (List ℕ)
file_of [] name = None
file_of (f ∷ fs) name = if bytes_eq f.0 name then Some f.1 else file_of fs name

-- there is no file of this name, where that is told
abbrev pub Lacks : Option (List (List ℕ × List ℕ)) → List ℕ → Type 0
Lacks None name = Unit {0}
Lacks (Some files) name = file_of files name ≡ None

-- k bytes that a file has from a place on were placed at the front of a buffer; none only at the file's end
pub record IsPart (bytes : List ℕ) (at : ℕ) (placed : List ℕ) (k : ℕ) : Type 0 where
  pub part : Places (drop at bytes) placed k
  pub short : length bytes < 2 ^ 64

-- the k bytes of a file that stand after as many as are there already were put behind them; none only at its end
pub record Continues (bytes old new : List ℕ) (k : ℕ) : Type 0 where
  pub added : new ≡ old ++ take k (drop (length old) bytes)
  pub within : k ≤ length (drop (length old) bytes)
  pub at_end : k ≡ 0 → drop (length old) bytes ≡ []

-- the file of this name gave k bytes from a place on, where that is told
abbrev pub GivesPart : Option (List (List ℕ × List ℕ)) → List ℕ → ℕ → List ℕ → ℕ → Type 0
GivesPart None name at placed k = Unit {0}
GivesPart (Some files) name at placed k = IsSomeAnd (file_of files name) (λ bytes. IsPart bytes at placed k)

-- the next k bytes of the file of this name were put behind its first ones, where that is told; none only at its end
abbrev pub AddsPart : Option (List (List ℕ × List ℕ)) → List ℕ → List ℕ → List ℕ → ℕ → Type 0
AddsPart None name old new k = Unit {0}
AddsPart (Some files) name old new k = IsSomeAnd (file_of files name) (λ bytes. Continues bytes old new k)

-- these are all bytes of the file of this name, where that is told; they are no more than the limit
abbrev pub IsWhole : Option (List (List ℕ × List ℕ)) → List ℕ → List ℕ → ℕ → Type 0
IsWhole None name bytes limit = length bytes ≤ limit
IsWhole (Some files) name bytes limit = (file_of files name ≡ Some bytes) × (length bytes ≤ limit)

-- the file of this name has more bytes than the limit, where that is told
abbrev pub IsLonger : Option (List (List ℕ × List ℕ)) → List ℕ → ℕ → Type 0
IsLonger None name limit = Unit {0}
IsLonger (Some files) name limit = IsSomeAnd (file_of files name) (λ bytes. limit < length bytes)

-- the bytes that the file of this name has from a place on, where they are told and there is one
abbrev pub rest_of : Option (List (List ℕ × List ℕ)) → List ℕ → ℕ → Option (List ℕ)
rest_of None name at = None
rest_of (Some files) name at = option_map (drop at) (file_of files name)

-- files in memory, each a pair of a name and its bytes, as contracts see them
abbrev pub named : {Y Z : Type 0} → List (String Y × Vec ℕ Z) → List (List ℕ × List ℕ)
named files = map (λ f. (string_bytes f.0, f.1.items)) files

-- files in memory; the calls are numbered from 1, and those with a number in `fails` fail
pub record Shelf : Type 0 where
  pub files : List (List ℕ × List ℕ)
  pub fails : List ℕ
  pub calls : ℕ
  pub faults : ℕ
  pub absences : ℕ

-- what a read into a buffer of some length gives, where it does not fail: as many bytes as fit
abbrev pub part_of : Option (List ℕ) → ℕ → ℕ → Result ℕ FileFault
part_of None at room = Err Absent
part_of (Some bytes) at room = Ok (min room (length bytes - at))

-- what the next read gives
abbrev pub answer_of : Shelf → List ℕ → ℕ → ℕ → Result ℕ FileFault
answer_of s name at room = if fails_next s.fails s.calls then Err Failed else part_of (file_of s.files name) at room

-- after a read that gave this
abbrev pub consulted : Shelf → Result ℕ FileFault → Shelf
consulted s (Ok k) = record s { calls = one_more s.calls }
consulted s (Err Absent) = record s { calls = one_more s.calls; absences = one_more s.absences }
consulted s (Err Failed) = record s { calls = one_more s.calls; faults = one_more s.faults }

-- how many reads failed, and how many named no file
pub record Misses : Type 0 where
  pub faults : ℕ
  pub absences : ℕ

-- after a read that gave this
abbrev pub missed : Misses → Result ℕ FileFault → Misses
missed s (Ok k) = s
missed s (Err Absent) = record s { absences = one_more s.absences }
missed s (Err Failed) = record s { faults = one_more s.faults }

-- whether the first read that failed, if one has, named no file
abbrev pub is_absence : Option FileFault → Bool
is_absence None = false
is_absence (Some Absent) = true
is_absence (Some Failed) = false

-- how many faults the source of a file has met: none before a read failed, then the sum of both counts of its files
abbrev pub faults_since : Option FileFault → ℕ → ℕ → ℕ
faults_since None faults absences = 0
faults_since (Some fault) faults absences = faults + absences

-- a read failed: the first fault stays, and where this is the first one, the count of its kind rose
abbrev pub FailsFirst : Option FileFault → Option FileFault → (absences absences_after faults faults_after : ℕ) → Type 0
FailsFirst (Some fault) after a a' f f' = after ≡ Some fault
FailsFirst None None a a' f f' = ⊥
FailsFirst None (Some Absent) a a' f f' = Rises a a'
FailsFirst None (Some Failed) a a' f f' = Rises f f'
