-- Reading and writing piece by piece.
use Rattle.std.proofs.Common.{◌≡◌, ◌≤◌, ◌<◌, ◌+◌, ◌-◌, ℕ, List, [], ◌++◌, Option, length, take, drop, refl, ap, sym, ◌∙◌, arith, append_assoc, length-append, length-drop}
use Rattle.std.specs.Prelude.{Some, None}
use Rattle.std.proofs.lemmas.List.{length-take}
use Rattle.std.proofs.Math.Seq.{drop-append-add, take-add, take-length}
use Rattle.gm_files.specs.Streams.{ReadsPast, IsWriteCount, with_more}

-- these bytes were read so far, where it is told
abbrev pub SoFar : Option (List ℕ) → Option (List ℕ) → List ℕ → Type 0
SoFar None now bytes = now ≡ None
SoFar (Some left) now bytes = (rest : List ℕ) × (now ≡ Some rest) × (left ≡ bytes ++ rest)

-- nothing was read yet
pub so_far_none : (now : Option (List ℕ)) → SoFar now now []
so_far_none None = refl
so_far_none (Some left) = (left, refl, refl)

-- one byte past the limit
pub so_far_past : (old now after : Option (List ℕ)) (bytes : List ℕ) (limit room : ℕ) → SoFar old now bytes → ReadsPast now after room → length bytes + room ≡ limit → ReadsPast old after limit
so_far_past None now after bytes limit room e t size = rw e at t
so_far_past (Some left) now after bytes limit room e t size =
    let p : ReadsPast (Some e.0) after room = rw e.1 at t in
    let whole : length left ≡ length bytes + length e.0 = ap length e.2 ∙ length-append bytes e.0 in
    let more : room < length e.0 = p.0 in
    let place : limit + 1 ≡ length bytes + (room + 1) = omega arith in
    (omega arith, p.1 ∙ ap Some (sym (rw (place, e.2) (drop-append-add bytes e.0 (room + 1)))))

-- the state of a reading: what was read so far, and for how much there is still room
pub record IsReading (old now : Option (List ℕ)) (faults_old faults_now : ℕ) (bytes : List ℕ) (room limit buffer : ℕ) : Type 0 where
  pub room_left : length bytes + room ≡ limit
  pub buffer_len : 0 < buffer
  pub quiet : faults_now ≡ faults_old
  pub so_far : SoFar old now bytes

-- one piece more was written
pub more_written : (taken : Option (List ℕ)) (bytes : List ℕ) (written k : ℕ) → written ≤ length bytes → IsWriteCount (take (length bytes - written) (drop written bytes)) k
    → with_more (with_more taken (take written bytes)) (take k (take (length bytes - written) (drop written bytes))) ≡ with_more taken (take (written + k) bytes)
more_written None bytes written k h w = refl
more_written (Some xs) bytes written k h w =
    let size : length (drop written bytes) ≡ length bytes - written = length-drop written bytes in
    let all : take (length bytes - written) (drop written bytes) ≡ drop written bytes = rw (← size) (take-length (drop written bytes)) in
    ap Some (rw (all, take-add, append_assoc) refl)

-- the same, by what the sink had taken before and has taken after the piece
pub more_taken : (taken now after : Option (List ℕ)) (bytes : List ℕ) (written k : ℕ) → written ≤ length bytes → now ≡ with_more taken (take written bytes)
    → IsWriteCount (take (length bytes - written) (drop written bytes)) k → after ≡ with_more now (take k (take (length bytes - written) (drop written bytes)))
    → (written + k ≤ length bytes) × (after ≡ with_more taken (take (written + k) bytes))
more_taken taken now after bytes written k h e w f =
    let size : length (drop written bytes) ≡ length bytes - written = length-drop written bytes in
    let most : length (take (length bytes - written) (drop written bytes)) ≡ length bytes - written = rw (length-take) (omega arith) in
    let within : k ≤ length (take (length bytes - written) (drop written bytes)) = w.within in
    (omega arith, f ∙ rw e (more_written taken bytes written k h w))
