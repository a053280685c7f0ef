-- Reading a file piece by piece.
use Rattle.std.proofs.Common.{◌≡◌, ◌<◌, ◌+◌, ℕ, List, [], ◌++◌, Option, length, take, drop, refl, ◌∙◌, append_assoc}
use Rattle.std.specs.Prelude.{Some, None, IsSomeAnd}
use Rattle.std.proofs.lemmas.List.{take-append-drop}
use Rattle.std.proofs.Math.Seq.{drop-append_seam}
use Rattle.gm_files.specs.Files.{file_of, Continues, AddsPart}

-- these are the first bytes of the file
abbrev Begins : Option (List ℕ) → List ℕ → Type 0
Begins None bytes = bytes ≡ []
Begins (Some all) bytes = (rest : List ℕ) × (all ≡ bytes ++ rest)

-- these are the first bytes of the file of this name, where that is told
abbrev pub SoFar : Option (List (List ℕ × List ℕ)) → List ℕ → List ℕ → Type 0
SoFar None name bytes = Unit {0}
SoFar (Some files) name bytes = Begins (file_of files name) bytes

begins_none : (file : Option (List ℕ)) → Begins file []
begins_none None = refl
begins_none (Some all) = (all, refl)

-- nothing was read yet
pub so_far_none : (told : Option (List (List ℕ × List ℕ))) (name : List ℕ) → SoFar told name []
so_far_none None name = tt
so_far_none (Some files) name = begins_none (file_of files name)

more_begins : (file : Option (List ℕ)) (bytes more : List ℕ) (k : ℕ) → Begins file bytes → IsSomeAnd file (λ all. Continues all bytes more k) → Begins file more
more_begins None bytes more k e p = absurd p
more_begins (Some all) bytes more k e p =
    let left : drop (length bytes) all ≡ e.0 = rw e.1 (drop-append_seam bytes e.0) in
    let added : more ≡ bytes ++ take k e.0 = p.added ∙ rw left refl in
    (drop k e.0, e.1 ∙ rw (added, append_assoc, take-append-drop k e.0) refl)

-- one piece more
pub so_far_more : (told : Option (List (List ℕ × List ℕ))) (name bytes more : List ℕ) (k : ℕ) → SoFar told name bytes → AddsPart told name bytes more k → SoFar told name more
so_far_more None name bytes more k e p = tt
so_far_more (Some files) name bytes more k e p = more_begins (file_of files name) bytes more k e p

-- the state of a reading: what was read so far, and for how much there is still room
pub record IsFileReading (old now : Option (List (List ℕ × List ℕ))) (name : List ℕ) (faults_old faults_now absences_old absences_now : ℕ) (bytes : List ℕ) (room limit buffer : ℕ) : Type 0 where
  pub room_left : length bytes + room ≡ limit
  pub buffer_len : 0 < buffer
  pub kept : now ≡ old
  pub no_fault : faults_now ≡ faults_old
  pub no_absence : absences_now ≡ absences_old
  pub so_far : SoFar old name bytes
