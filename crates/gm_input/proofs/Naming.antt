-- What is read under a name, by what the reading of a source or of a file says.
use Rattle.std.proofs.Common.{◌≡◌, ◌≢◌, ℕ, List, Option, take, refl, sym, subst}
use Rattle.std.specs.Prelude.{Result, Ok, Err, IfOk, IfErr, Some, None, IsSomeAnd}
use Rattle.std.specs.Result.{IsErrAnd}
use Rattle.std.proofs.lemmas.List.{take_all}
use Rattle.gm_files.specs.Files.{file_of, Lacks}
use Rattle.gm_files.specs.Streams.{Rises}
use Rattle.gm_input.specs.declared.fronts.FrontStop.{FrontStop}
use Rattle.gm_input.specs.declared.fronts.FrontStop.TheVariants as front
use Rattle.gm_input.specs.declared.names.NameStop.{NameStop}
use Rattle.gm_input.specs.declared.names.NameStop.TheVariants.{Absent, Failed, NoMemory}
use Rattle.gm_input.specs.Texts.{standard_input}
use Rattle.gm_input.specs.Outside.{Outside, KeepsFiles, KeepsInput, ReadsFirst, TellsFile, IsText, on_input, in_file, input_fault, file_fault, file_absent}
use Rattle.gm_input.specs.Names.{AreFileFront, TakesFirst, IsFrontOf, of_input, of_file, IsNameStop, name_stop}

pub input_read : {A : Type 0} (r : Result A NameStop) (items : A → List ℕ) (most : ℕ) (name : List ℕ) (b a : Outside) → name ≡ standard_input → KeepsFiles b a
    → IfOk r (λ x. TakesFirst b.left a.left (items x) most) → (r ≢ Err Failed → a.input_faults ≡ b.input_faults)
    → IfOk r (λ x. IsFrontOf most name b a (items x))
input_read (Ok x) items most name b a is files front quiet = of_input is front (quiet (λ e. cc)) files
input_read (Err e) items most name b a is files front quiet = tt

pub input_unread : {A : Type 0} (r : Result A NameStop) (name : List ℕ) (b a : Outside) → name ≡ standard_input → KeepsFiles b a
    → (r ≡ Err Failed → Rises b.input_faults a.input_faults) → r ≢ Err Absent → IfErr r (IsNameStop name b a)
input_unread (Ok x) name b a is files failed none = tt
input_unread (Err Absent) name b a is files failed none = absurd (none refl)
input_unread (Err Failed) name b a is files failed none = input_fault is (failed refl) files refl
input_unread (Err NoMemory) name b a is files failed none = tt

pub file_read : {A : Type 0} (r : Result A NameStop) (items : A → List ℕ) (most : ℕ) (name : List ℕ) (b a : Outside) → name ≢ standard_input → KeepsInput b a → a.map ≡ b.map
    → IfOk r (λ x. AreFileFront b.map name (items x) most) → (r ≢ Err Absent → a.absences ≡ b.absences) → (r ≢ Err Failed → a.file_faults ≡ b.file_faults)
    → IfOk r (λ x. IsFrontOf most name b a (items x))
file_read (Ok x) items most name b a is input map front kept quiet = of_file is front input (record { map = map; quiet = quiet (λ e. cc); found = kept (λ e. cc) })
file_read (Err e) items most name b a is input map front kept quiet = tt

pub file_unread : {A : Type 0} (r : Result A NameStop) (name : List ℕ) (b a : Outside) → name ≢ standard_input → KeepsInput b a
    → (r ≡ Err Absent → Lacks b.map name) → (r ≡ Err Absent → Rises b.absences a.absences) → (r ≡ Err Failed → Rises b.file_faults a.file_faults)
    → (r ≢ Err Absent → a.absences ≡ b.absences) → (r ≢ Err Failed → a.file_faults ≡ b.file_faults) → IfErr r (IsNameStop name b a)
file_unread (Ok x) name b a is input lacks absent failed kept quiet = tt
file_unread (Err Absent) name b a is input lacks absent failed kept quiet = file_absent is input (quiet (λ e. cc)) (lacks refl) (absent refl) refl
file_unread (Err Failed) name b a is input lacks absent failed kept quiet = file_fault is input (failed refl) (kept (λ e. cc)) refl
file_unread (Err NoMemory) name b a is input lacks absent failed kept quiet = tt

-- the front of an input was not read
pub front_unread : (name : List ℕ) (b a : Outside) (e : FrontStop) → name ≡ standard_input → KeepsFiles b a → (e ≡ front.Failed → Rises b.input_faults a.input_faults) → IsNameStop name b a (name_stop e)
front_unread name b a front.Failed is files failed = input_fault is (failed refl) files refl
front_unread name b a front.NoMemory is files failed = tt

-- what a `?` passes on
pub passed-on : {A E : Type 0} (P : E → Type 0) (r : Result A E) (x : E) → IsErrAnd r (λ y. y ≡ x) → P x → IfErr r P
passed-on P (Ok a) x h k = tt
passed-on P (Err y) x h k = subst P (sym h) k

-- the text of which something was read is one that the source may have left
input_whole : (most : ℕ) (left after : Option (List ℕ)) (bytes : List ℕ) → TakesFirst left after bytes most → (whole : List ℕ) × (ReadsFirst most left after whole × (bytes ≡ take most whole))
input_whole most None after bytes front = (bytes, (front.0, sym (take_all most bytes front.1)))
input_whole most (Some left) after bytes front = (left, ((refl, front.0), front.1))

-- the same, of a file
file_text : (most : ℕ) (file : Option (List ℕ)) (bytes : List ℕ) → IsSomeAnd file (λ whole. bytes ≡ take most whole) → (whole : List ℕ) × ((file ≡ Some whole) × (bytes ≡ take most whole))
file_text most None bytes front = absurd front
file_text most (Some whole) bytes front = (whole, (refl, front))

file_whole : (most : ℕ) (told : Option (List (List ℕ × List ℕ))) (name bytes : List ℕ) → AreFileFront told name bytes most → (whole : List ℕ) × (TellsFile told name whole × (bytes ≡ take most whole))
file_whole most None name bytes few = (bytes, (tt, sym (take_all most bytes few)))
file_whole most (Some files) name bytes front = file_text most (file_of files name) bytes front

-- the text under a name of which something was read: the front of a whole text that may stand there
pub text_of_front : (most : ℕ) (name : List ℕ) (before after : Outside) (bytes : List ℕ) → IsFrontOf most name before after bytes
    → (whole : List ℕ) × (IsText most name before after whole × (bytes ≡ take most whole))
text_of_front most name before after bytes (of_input is front quiet files) =
    let w = input_whole most before.left after.left bytes front in
    (w.0, (on_input is w.1.0 quiet files, w.1.1))
text_of_front most name before after bytes (of_file is front input files) =
    let w = file_whole most before.map name bytes front in
    (w.0, (in_file is w.1.0 input files, w.1.1))
