-- Reading the front of a source or a file piece by piece.
use Rattle.std.proofs.Common.{◌≡◌, ◌≤◌, ◌<◌, ◌+◌, ℕ, List, [], ◌++◌, Option, length, take, drop, refl, ap, sym, ◌∙◌, arith, append_assoc, append-nil}
use Rattle.std.specs.Prelude.{Some, None, IsSomeAnd}
use Rattle.std.proofs.lemmas.List.{take-append-drop, take_all, take_at, drop_all}
use Rattle.std.proofs.Math.Seq.{drop-append_seam}
use Rattle.gm_files.specs.Files.{file_of, Continues, AddsPart}
use Rattle.gm_files.specs.Streams.{AppendsFront}
use Rattle.gm_input.specs.Names.{AreFileFront, TakesFirst}

-- these bytes were read so far, where it is told
abbrev pub SoFar : Option (List ℕ) → Option (List ℕ) → List ℕ → Type 0
SoFar None now bytes = now ≡ None
SoFar (Some left) now bytes = (rest : List ℕ) × (now ≡ Some rest) × (left ≡ bytes ++ rest)

-- the state of a reading: what was read so far, and for how much there is still room
pub record IsFrontReading (old now : Option (List ℕ)) (faults_old faults_now : ℕ) (bytes : List ℕ) (room most buffer : ℕ) : Type 0 where
  pub room_left : length bytes + room ≡ most
  pub buffer_len : 0 < buffer
  pub quiet : faults_now ≡ faults_old
  pub so_far : SoFar old now bytes

-- nothing was read yet
pub so_far_none : (now : Option (List ℕ)) → SoFar now now []
so_far_none None = refl
so_far_none (Some left) = (left, refl, refl)

-- one piece more
pub so_far_more : (old now after : Option (List ℕ)) (bytes more : List ℕ) (k : ℕ) → SoFar old now bytes → AppendsFront now after bytes more k → SoFar old after more
so_far_more None now after bytes more k e p = rw e at p
so_far_more (Some left) now after bytes more k e p =
    let q : AppendsFront (Some e.0) after bytes more k = rw e.1 at p in
    (drop k e.0, q.0, e.2 ∙ rw (q.1, append_assoc, take-append-drop k e.0) refl)

-- nothing came: all was read
pub front_ended : (old now after : Option (List ℕ)) (bytes more : List ℕ) (most : ℕ) → SoFar old now bytes → AppendsFront now after bytes more 0 → length more ≤ most → TakesFirst old after more most
front_ended None now after bytes more most e p few =
    let q : AppendsFront None after bytes more 0 = rw e at p in
    (q, few)
front_ended (Some left) now after bytes more most e p few =
    let q : AppendsFront (Some e.0) after bytes more 0 = rw e.1 at p in
    let nothing : e.0 ≡ [] = q.3 refl in
    let whole : left ≡ more = e.2 ∙ rw (q.1, nothing) refl in
    let rest : drop 0 e.0 ≡ drop most left = nothing ∙ sym (drop_all most left (rw whole few)) in
    (q.0 ∙ ap Some rest, rw whole (sym (take_all most more few)))

-- there is no more room
pub front_full : (old now : Option (List ℕ)) (bytes : List ℕ) (most : ℕ) → SoFar old now bytes → length bytes ≡ most → TakesFirst old now bytes most
front_full None now bytes most e full = (e, omega (arith, full))
front_full (Some left) now bytes most e full =
    let rest : e.0 ≡ drop most left = rw (e.2, ← full) (sym (drop-append_seam bytes e.0)) in
    (e.1 ∙ ap Some rest, rw e.2 (sym (take_at bytes e.0 most full)))

-- these are the first bytes of the file
abbrev Begins : Option (List ℕ) → List ℕ → Type 0
Begins None bytes = bytes ≡ []
Begins (Some all) bytes = (rest : List ℕ) × (all ≡ bytes ++ rest)

-- these are the first bytes of the file of this name, where that is told
abbrev pub FileSoFar : Option (List (List ℕ × List ℕ)) → List ℕ → List ℕ → Type 0
FileSoFar None name bytes = Unit {0}
FileSoFar (Some files) name bytes = Begins (file_of files name) bytes

-- the state of a reading of a file: what was read so far, and for how much there is still room
pub record IsFileFrontReading (old now : Option (List (List ℕ × List ℕ))) (name : List ℕ) (faults_old faults_now absences_old absences_now : ℕ) (bytes : List ℕ) (room most buffer : ℕ) : Type 0 where
  pub room_left : length bytes + room ≡ most
  pub buffer_len : 0 < buffer
  pub kept : now ≡ old
  pub no_fault : faults_now ≡ faults_old
  pub no_absence : absences_now ≡ absences_old
  pub so_far : FileSoFar old name bytes

begins_none : (file : Option (List ℕ)) → Begins file []
begins_none None = refl
begins_none (Some all) = (all, refl)

-- nothing was read yet
pub file_none : (told : Option (List (List ℕ × List ℕ))) (name : List ℕ) → FileSoFar told name []
file_none None name = tt
file_none (Some files) name = begins_none (file_of files name)

more_begins : (file : Option (List ℕ)) (bytes more : List ℕ) (k : ℕ) → Begins file bytes → IsSomeAnd file (λ all. Continues all bytes more k) → Begins file more
more_begins None bytes more k e p = absurd p
more_begins (Some all) bytes more k e p =
    let left : drop (length bytes) all ≡ e.0 = rw e.1 (drop-append_seam bytes e.0) in
    let added : more ≡ bytes ++ take k e.0 = p.added ∙ rw left refl in
    (drop k e.0, e.1 ∙ rw (added, append_assoc, take-append-drop k e.0) refl)

-- one piece more
pub file_more : (told : Option (List (List ℕ × List ℕ))) (name bytes more : List ℕ) (k : ℕ) → FileSoFar told name bytes → AddsPart told name bytes more k → FileSoFar told name more
file_more None name bytes more k e p = tt
file_more (Some files) name bytes more k e p = more_begins (file_of files name) bytes more k e p

ended : (file : Option (List ℕ)) (bytes more : List ℕ) (most : ℕ) → Begins file bytes → IsSomeAnd file (λ all. Continues all bytes more 0) → length more ≤ most → IsSomeAnd file (λ whole. more ≡ take most whole)
ended None bytes more most e p few = absurd p
ended (Some all) bytes more most e p few =
    let left : drop (length bytes) all ≡ e.0 = rw e.1 (drop-append_seam bytes e.0) in
    let nothing : e.0 ≡ [] = sym left ∙ p.at_end refl in
    let same : more ≡ bytes = p.added ∙ rw append-nil refl in
    let whole : all ≡ more = e.1 ∙ rw (nothing, append-nil) (sym same) in
    rw whole (sym (take_all most more few))

-- nothing came: all was read
pub file_ended : (told : Option (List (List ℕ × List ℕ))) (name bytes more : List ℕ) (most : ℕ) → FileSoFar told name bytes → AddsPart told name bytes more 0 → length more ≤ most → AreFileFront told name more most
file_ended None name bytes more most e p few = few
file_ended (Some files) name bytes more most e p few = ended (file_of files name) bytes more most e p few

full : (file : Option (List ℕ)) (bytes : List ℕ) (most : ℕ) → Begins file bytes → length bytes ≡ most → 0 < most → IsSomeAnd file (λ whole. bytes ≡ take most whole)
full None bytes most e size some = absurd (omega (arith, ap length e, size, some))
full (Some all) bytes most e size some = rw e.1 (sym (take_at bytes e.0 most size))

-- there is no more room
pub file_full : (told : Option (List (List ℕ × List ℕ))) (name bytes : List ℕ) (most : ℕ) → FileSoFar told name bytes → length bytes ≡ most → 0 < most → AreFileFront told name bytes most
file_full None name bytes most e size some = omega (arith, size)
file_full (Some files) name bytes most e size some = full (file_of files name) bytes most e size some
