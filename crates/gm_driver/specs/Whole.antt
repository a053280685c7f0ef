-- The whole call: what is written and answered, and what is known of standard input and the files afterwards.
use Rattle.std.specs.Prelude.{◌≡◌, ◌⊎◌, ℕ, true, false, List, Option, Some, None}
use Rattle.gm_base.specs.declared.statuses.Status.{Status}
use Rattle.gm_base.specs.declared.statuses.Status.TheVariants.{Usage, ReadFault, WriteFault, NoMemory}
use Rattle.gm_files.specs.Streams.{Rises}
use Rattle.gm_words.specs.declared.jobs.Job.{Job}
use Rattle.gm_words.specs.declared.jobs.Job.TheVariants as job
use Rattle.gm_words.specs.declared.jobs.Options.{Options}
use Rattle.gm_words.specs.Jobs.{job_of}
use Rattle.gm_observe.specs.declared.notes.Note.{Note}
use Rattle.gm_exec.specs.Runs.{audience}
use Rattle.gm_exec.specs.Replies.{IsExecReply}
use Rattle.gm_input.specs.Texts.{Says}
use Rattle.gm_driver.specs.Texts.{usage_text}
use Rattle.gm_input.specs.Outside.{Outside, KeepsInput, KeepsFiles}
use Rattle.gm_driver.specs.Checks.{IsCheckReply}
use Rattle.gm_driver.specs.Images.{IsCompileReply, IsShownReply}
use Rattle.gm_driver.specs.Runs.{IsRunReply}
use Rattle.gm_driver.specs.Demos.{IsDemoAnswer}

-- what is to be written for a job, and the status: the usage line where the words ask for none, or the reply of a check, a
-- compilation, a run, which shows the program's image or does not, the run of an image or a demonstration. There are
-- observers, each with a way to report and the notes that it holds: where the run of an image is to be observed, they are
-- told of it, and what they report of all that they then hold is written behind its listing.
-- Of the other options of a run the format of its graph and its bound on turns alone change what is written. Nothing is
-- read for the usage line and for a demonstration
pub data IsJobReply (asked : Option Job) (ways : List (List Note → List ℕ)) (held : List (List Note)) (before after : Outside) (text : List ℕ) (status : Status) : Type 0 where
  usage : asked ≡ None → KeepsInput before after → KeepsFiles before after → Says text status usage_text Usage → IsJobReply asked ways held before after text status
  checked : (prog : List ℕ) → asked ≡ Some (job.Check prog) → IsCheckReply prog before after text status → IsJobReply asked ways held before after text status
  compiled : (prog : List ℕ) → asked ≡ Some (job.Compile prog) → IsCompileReply prog before after text status → IsJobReply asked ways held before after text status
  ran : (prog graph : List ℕ) (args : List (List ℕ)) (options : Options) → asked ≡ Some (job.Run prog graph args options false)
      → IsRunReply prog graph args options before after text status → IsJobReply asked ways held before after text status
  ran_shown : (prog graph : List ℕ) (args : List (List ℕ)) (options : Options) (held_then : List (List Note)) → asked ≡ Some (job.Run prog graph args options true)
      → IsShownReply prog graph args options (audience ways held held_then) before after text status → IsJobReply asked ways held before after text status
  executed : (image graph : List ℕ) (args : List (List ℕ)) (options : Options) (held_then : List (List Note)) → asked ≡ Some (job.Exec image graph args options)
      → IsExecReply image graph args options (audience ways held held_then) before after text status → IsJobReply asked ways held before after text status
  demonstrated : (n : ℕ) (options : Options) → asked ≡ Some (job.Demo n options) → KeepsInput before after → KeepsFiles before after
      → IsDemoAnswer n text status → IsJobReply asked ways held before after text status

-- what is to be written for the words of a command line, with these observers, and the status
abbrev pub IsReply : List (List ℕ) → List (List Note → List ℕ) → List (List Note) → Outside → Outside → List ℕ → Status → Type 0
IsReply words ways held before after text status = IsJobReply (job_of words) ways held before after text status

-- a status with which a reply ends that was written
abbrev pub IsWrittenStatus : Status → Type 0
IsWrittenStatus WriteFault = ⊥
IsWrittenStatus NoMemory = ⊥
IsWrittenStatus _ = Unit {0}

-- a status that comes only where no read, no write and no memory failed
abbrev pub IsAnswerStatus : Status → Type 0
IsAnswerStatus ReadFault = ⊥
IsAnswerStatus WriteFault = ⊥
IsAnswerStatus NoMemory = ⊥
IsAnswerStatus _ = Unit {0}

-- no read failed, and no file was absent: no count of these rose
pub record NoneMissed (before after : Outside) : Type 0 where
  pub input : after.input_faults ≡ before.input_faults
  pub files : after.file_faults ≡ before.file_faults
  pub found : after.absences ≡ before.absences

-- a read failed, or a file was absent: a count of these rose
abbrev pub SomeMiss : Outside → Outside → Type 0
SomeMiss before after = Rises before.input_faults after.input_faults ⊎ (Rises before.file_faults after.file_faults ⊎ Rises before.absences after.absences)
