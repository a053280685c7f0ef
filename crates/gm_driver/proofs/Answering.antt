-- The statuses of replies, and the counts that they leave.
use Rattle.std.proofs.Common.{◌≡◌, ◌∙◌, ℕ, Bool, List, Option, inl, inr, sym, subst}
use Rattle.gm_base.specs.declared.statuses.Status.{Status}
use Rattle.gm_base.specs.declared.statuses.Status.TheVariants.{Done as DoneStatus, Refused as RefusedStatus, Usage, BadInput, Fault as FaultStatus, Cut as CutStatus, ReadFault, WriteFault, NoMemory}
use Rattle.gm_model.specs.Graphs.{NumberedGraph}
use Rattle.gm_model.specs.declared.outcomes.Outcome.{Outcome}
use Rattle.gm_model.specs.declared.outcomes.Outcome.TheVariants.{Done, Fault, Cut}
use Rattle.gm_listing.specs.Listing.{status_of}
use Rattle.gm_ast.specs.Program.{Program}
use Rattle.gm_semantics.specs.Outcomes.{mean}
use Rattle.gm_words.specs.declared.jobs.Job.{Job}
use Rattle.gm_words.specs.declared.jobs.Options.{Options}
use Rattle.gm_words.specs.declared.arguments.Input.{Input}
use Rattle.gm_value.specs.declared.values.Value.{Value}
use Rattle.gm_graph.specs.declared.builds.Shape.{Shape}
use Rattle.gm_source_runs.specs.Answers.{Ran}
use Rattle.gm_run.specs.Compiled.{RanShown}
use Rattle.gm_source_runs.specs.Programs.{shape_of, inputs_of}
use Rattle.gm_input.specs.Answers.{GraphFormat, Saying, IsGraphAnswer, bad_argument, ran as graph_ran, IsTextAnswer, bad_graph, good_graph, edge_list, format_of}
use Rattle.gm_input.specs.Outside.{Outside, KeepsFiles, IsText, on_input, in_file, IsUnread, input_fault, file_fault, file_absent}
use Rattle.gm_input.specs.Roads.{Road, IsReply, no_code, bad_code, no_graph, over, IsCode, in_front, alone, AreTexts, parted, apart}
use Rattle.gm_driver.specs.Fronts.{most_program}
use Rattle.gm_driver.specs.Checks.{IsVerdict, accepted, refused, IsCheckReply, unread, judged}
use Rattle.gm_driver.specs.Runs.{SaysRefused, program_road, IsRunReply}
use Rattle.gm_demo.specs.Texts.{demo_text}
use Rattle.gm_driver.specs.Demos.{IsDemoAnswer, RanDemo, demo_words, line, listing, ran as demo_ran, refused as demo_refused, usual_turns}
use Rattle.gm_observe.specs.declared.notes.Note.{Note}
use Rattle.gm_image.specs.Program.{Program as ImageProgram}
use Rattle.gm_machine.specs.Machine.{machine}
use Rattle.gm_exec.specs.Programs as image
use Rattle.gm_exec.specs.Runs.{Audience, audience}
use Rattle.gm_exec.specs.Runs as exec
use Rattle.gm_exec.specs.Replies.{image_road, IsExecReply}
use Rattle.gm_compile.specs.Compiled.{compiled}
use Rattle.gm_driver.specs.Images.{IsCompiled, written, unwritten, IsCompileReply, not_read, was_read, SaysNoRun, refused as refused_run, no_image, shown_road, IsShownReply}
use Rattle.gm_driver.specs.Whole.{IsJobReply, usage, checked, compiled as was_compiled, ran, ran_shown, executed, demonstrated, IsWrittenStatus, IsAnswerStatus, NoneMissed, SomeMiss}

-- ---- the statuses of answers

outcome_is_answer : (o : Outcome) → IsAnswerStatus (status_of o)
outcome_is_answer (Done scalars result nodes turns) = tt
outcome_is_answer (Fault kind place) = tt
outcome_is_answer (Cut turns) = tt

-- a status that is given
status_given : (status ending : Status) → status ≡ ending → IsAnswerStatus ending → IsAnswerStatus status
status_given status ending e h = subst IsAnswerStatus (sym e) h

-- what runs says texts with statuses of answers alone
abbrev SaysAnswers : Saying → Type 0
SaysAnswers Ran = (g : NumberedGraph) (args : List Value) (text : List ℕ) (status : Status) → Ran g args text status → IsAnswerStatus status

graph_status : (inputs : List Input) (words : List (List ℕ)) (Ran : Saying) (g : NumberedGraph) (text : List ℕ) (status : Status)
    → SaysAnswers Ran → IsGraphAnswer inputs words Ran g text status → IsAnswerStatus status
graph_status inputs words Ran g text status so (bad_argument said) = status_given status BadInput said.says.1 tt
graph_status inputs words Ran g text status so (graph_ran args is r) = so g args text status r

text_status : (f : GraphFormat) (shape : Shape) (inputs : List Input) (words : List (List ℕ)) (Ran : Saying) (graph text : List ℕ) (status : Status)
    → SaysAnswers Ran → IsTextAnswer f shape inputs words Ran graph text status → IsAnswerStatus status
text_status f shape inputs words Ran graph text status so (bad_graph said) = status_given status BadInput said.says.1 tt
text_status f shape inputs words Ran graph text status so (good_graph g is a) = graph_status inputs words Ran g text status so a

-- a program says the statuses of outcomes
program_answers : (p : Program) (turns : ℕ) → SaysAnswers (Ran p turns)
program_answers p turns g args text status says = status_given status (status_of (mean p g args turns)) says.1 (outcome_is_answer (mean p g args turns))

-- so does the run of an image
image_answers : (p : ImageProgram) (turns : ℕ) (watched : Bool) (s : Audience) → SaysAnswers (exec.Ran p turns watched s)
image_answers p turns watched s g args text status r = status_given status (status_of (machine p g args turns).outcome) r.says.1 (outcome_is_answer (machine p g args turns).outcome)

-- and that of a program by its image, which is shown
shown_answers : (i : ImageProgram) (p : Program) (turns : ℕ) (watched : Bool) (s : Audience) → SaysAnswers (RanShown i p turns watched s)
shown_answers i p turns watched s g args text status r = status_given status (status_of (machine i g args turns).outcome) r.says.1 (outcome_is_answer (machine i g args turns).outcome)

verdict_status : (program text : List ℕ) (status : Status) → IsVerdict program text status → IsAnswerStatus status
verdict_status program text status (accepted p stands says) = status_given status DoneStatus says.1 tt
verdict_status program text status (refused said) = status_given status RefusedStatus said.says.1 tt

no_run_status : (program text : List ℕ) (status : Status) → SaysNoRun program text status → IsAnswerStatus status
no_run_status program text status (refused_run said) = status_given status RefusedStatus said.says.1 tt
no_run_status program text status (no_image said) = status_given status RefusedStatus said.says.1 tt

compiled_status : (program text : List ℕ) (status : Status) → IsCompiled program text status → IsAnswerStatus status
compiled_status program text status (written p it spelled ended) = status_given status DoneStatus ended tt
compiled_status program text status (unwritten said) = no_run_status program text status said

-- the procedure of the demonstration says the statuses of outcomes too
demo_answers : (n : ℕ) (p : Program) → SaysAnswers (RanDemo n p)
demo_answers n p g args text status (line it ended) = status_given status DoneStatus ended tt
demo_answers n p g args text status (listing other says) = status_given status (status_of (mean p g args usual_turns)) says.1 (outcome_is_answer (mean p g args usual_turns))

demo_status : (n : ℕ) (text : List ℕ) (status : Status) → IsDemoAnswer n text status → IsAnswerStatus status
demo_status n text status (demo_refused said) = status_given status RefusedStatus said.says.1 tt
demo_status n text status (demo_ran p stands said) =
    text_status edge_list (shape_of p) (inputs_of p) demo_words (RanDemo n p) (demo_text n) text status (demo_answers n p) said

-- ---- the counts

-- how a reply ends: with an answer, and no count rose; or some count rose
data Ends (b a : Outside) (status : Status) : Type 0 where
  answers : IsAnswerStatus status → NoneMissed b a → Ends b a status
  misses : status ≡ ReadFault → SomeMiss b a → Ends b a status

none_missed : (b a : Outside) → a.input_faults ≡ b.input_faults → KeepsFiles b a → NoneMissed b a
none_missed b a quiet files = record { input = quiet; files = files.quiet; found = files.found }

none_since : (b m a : Outside) → NoneMissed b m → NoneMissed m a → NoneMissed b a
none_since b m a n h = record { input = h.input ∙ n.input; files = h.files ∙ n.files; found = h.found ∙ n.found }

unread_misses : (name : List ℕ) (b a : Outside) (said : List ℕ) → IsUnread name b a said → SomeMiss b a
unread_misses name b a said (input_fault is rises files e) = inl rises
unread_misses name b a said (file_fault is input rises none e) = inr (inl rises)
unread_misses name b a said (file_absent is input none lacks rises e) = inr (inr rises)

text_quiet : (most : ℕ) (name : List ℕ) (b a : Outside) (text : List ℕ) → IsText most name b a text → NoneMissed b a
text_quiet most name b a text (on_input is reads quiet files) = none_missed b a quiet files
text_quiet most name b a text (in_file is tells input files) = none_missed b a input.quiet files

code_quiet : (most : ℕ) (code graph : List ℕ) (b a : Outside) (whole : List ℕ) → IsCode most code graph b a whole → NoneMissed b a
code_quiet most code graph b a whole (in_front is also input reads same quiet files) = none_missed b a quiet files
code_quiet most code graph b a whole (alone two t) = text_quiet most code b a whole t

texts_quiet : (most : ℕ) (code graph : List ℕ) (b a : Outside) (whole text : List ℕ) → AreTexts most code graph b a whole text → NoneMissed b a
texts_quiet most code graph b a whole text (parted is also input reads same rest quiet files) = none_missed b a quiet files
texts_quiet most code graph b a whole text (apart two m t u) = none_since b m a (text_quiet most code b m whole t) (text_quiet _ graph m a text u)

-- misses behind a state with the same counts
missed_since : (b m a : Outside) → NoneMissed b m → SomeMiss m a → SomeMiss b a
missed_since b m a n (inl rises) = inl (rw n.input at rises)
missed_since b m a n (inr (inl rises)) = inr (inl (rw n.files at rises))
missed_since b m a n (inr (inr rises)) = inr (inr (rw n.found at rises))

-- a road whose answers have the statuses of answers ends so
road_ends : (r : Road) (code graph : List ℕ) (b a : Outside) (text : List ℕ) (status : Status)
    → ((whole : List ℕ) → r.bad whole text status → IsAnswerStatus status) → ((it : r.Code) (whole : List ℕ) → r.over it whole text status → IsAnswerStatus status)
    → IsReply r code graph b a text status → Ends b a status
road_ends r code graph b a text status bad runs (no_code said) = misses said.says.1 (unread_misses code b a said.line said.unread)
road_ends r code graph b a text status bad runs (bad_code whole t said) = answers (bad whole said) (code_quiet r.most code graph b a whole t)
road_ends r code graph b a text status bad runs (no_graph two m whole t it stands said) =
    misses said.says.1 (missed_since b m a (text_quiet r.most code b m whole t) (unread_misses graph m a said.line said.unread))
road_ends r code graph b a text status bad runs (over whole read t it stands said) = answers (runs it read said) (texts_quiet r.most code graph b a whole read t)

check_ends : (name : List ℕ) (b a : Outside) (text : List ℕ) (status : Status) → IsCheckReply name b a text status → Ends b a status
check_ends name b a text status (unread said) = misses said.says.1 (unread_misses name b a said.line said.unread)
check_ends name b a text status (judged program t v) = answers (verdict_status program text status v) (text_quiet most_program name b a program t)

compile_ends : (name : List ℕ) (b a : Outside) (text : List ℕ) (status : Status) → IsCompileReply name b a text status → Ends b a status
compile_ends name b a text status (not_read said) = misses said.says.1 (unread_misses name b a said.line said.unread)
compile_ends name b a text status (was_read whole t c) = answers (compiled_status whole text status c) (text_quiet most_program name b a whole t)

run_ends : (prog graph : List ℕ) (words : List (List ℕ)) (options : Options) (b a : Outside) (text : List ℕ) (status : Status) → IsRunReply prog graph words options b a text status → Ends b a status
run_ends prog graph words options b a text status r =
    road_ends (program_road words options) prog graph b a text status
    (λ whole said. status_given status RefusedStatus said.says.1 tt)
    (λ p whole said. text_status (format_of options.format) (shape_of p) (inputs_of p) words (Ran p options.turns) whole text status (program_answers p options.turns) said) r

exec_ends : (name graph : List ℕ) (words : List (List ℕ)) (options : Options) (s : Audience) (b a : Outside) (text : List ℕ) (status : Status) → IsExecReply name graph words options s b a text status → Ends b a status
exec_ends name graph words options s b a text status r =
    road_ends (image_road words options s) name graph b a text status
    (λ whole said. status_given status BadInput said.says.1 tt)
    (λ p whole said. text_status (format_of options.format) (image.shape_of p) (image.inputs_of p) words (exec.Ran p options.turns options.observe s) whole text status (image_answers p options.turns options.observe s) said) r

shown_ends : (prog graph : List ℕ) (words : List (List ℕ)) (options : Options) (s : Audience) (b a : Outside) (text : List ℕ) (status : Status) → IsShownReply prog graph words options s b a text status → Ends b a status
shown_ends prog graph words options s b a text status r =
    road_ends (shown_road words options s) prog graph b a text status
    (λ whole said. no_run_status whole text status said)
    (λ p whole said. text_status (format_of options.format) (shape_of p) (inputs_of p) words (RanShown (compiled p) p options.turns options.observe s) whole text status
    (shown_answers (compiled p) p options.turns options.observe s) said) r

job_ends : (asked : Option Job) (ways : List (List Note → List ℕ)) (held : List (List Note)) (b a : Outside) (text : List ℕ) (status : Status) → IsJobReply asked ways held b a text status → Ends b a status
job_ends asked ways held b a text status (usage is input files says) = answers (status_given status Usage says.1 tt) (none_missed b a input.quiet files)
job_ends asked ways held b a text status (checked prog is r) = check_ends prog b a text status r
job_ends asked ways held b a text status (was_compiled prog is r) = compile_ends prog b a text status r
job_ends asked ways held b a text status (ran prog graph args options is r) = run_ends prog graph args options b a text status r
job_ends asked ways held b a text status (ran_shown prog graph args options held_then is r) = shown_ends prog graph args options (audience ways held held_then) b a text status r
job_ends asked ways held b a text status (executed image graph args options held_then is r) = exec_ends image graph args options (audience ways held held_then) b a text status r
job_ends asked ways held b a text status (demonstrated n options is input files d) = answers (demo_status n text status d) (none_missed b a input.quiet files)

-- ---- what follows for the whole call

written_status : (status : Status) → IsAnswerStatus status → IsWrittenStatus status
written_status DoneStatus h = tt
written_status RefusedStatus h = tt
written_status Usage h = tt
written_status BadInput h = tt
written_status FaultStatus h = tt
written_status CutStatus h = tt
written_status ReadFault h = absurd h
written_status WriteFault h = absurd h
written_status NoMemory h = absurd h

ends_written : (b a : Outside) (status : Status) → Ends b a status → IsWrittenStatus status
ends_written b a status (answers is none) = written_status status is
ends_written b a status (misses is miss) = subst IsWrittenStatus (sym is) tt

ends_quiet : (b a : Outside) (status : Status) → Ends b a status → IsAnswerStatus status → NoneMissed b a
ends_quiet b a status (answers is none) h = none
ends_quiet b a status (misses is miss) h = absurd (subst IsAnswerStatus is h)

ends_missed : (b a : Outside) (status : Status) → Ends b a status → status ≡ ReadFault → SomeMiss b a
ends_missed b a status (answers is none) h = absurd (subst IsAnswerStatus h is)
ends_missed b a status (misses is miss) h = miss

-- a reply has a status that is written
pub reply_written : (asked : Option Job) (ways : List (List Note → List ℕ)) (held : List (List Note)) (b a : Outside) (text : List ℕ) (status : Status) → IsJobReply asked ways held b a text status → IsWrittenStatus status
reply_written asked ways held b a text status r = ends_written b a status (job_ends asked ways held b a text status r)

-- a reply that is an answer leaves the counts
pub reply_quiet : (asked : Option Job) (ways : List (List Note → List ℕ)) (held : List (List Note)) (b a : Outside) (text : List ℕ) (status : Status) → IsJobReply asked ways held b a text status → IsAnswerStatus status → NoneMissed b a
reply_quiet asked ways held b a text status r h = ends_quiet b a status (job_ends asked ways held b a text status r) h

-- a reply with a read fault comes only where a count rose
pub reply_rises : (asked : Option Job) (ways : List (List Note → List ℕ)) (held : List (List Note)) (b a : Outside) (text : List ℕ) (status : Status) → IsJobReply asked ways held b a text status → status ≡ ReadFault → SomeMiss b a
reply_rises asked ways held b a text status r h = ends_missed b a status (job_ends asked ways held b a text status r) h

-- the reply for a job is that for the words that ask for it
pub asked_so : (asked it : Option Job) (ways : List (List Note → List ℕ)) (held : List (List Note)) (b a : Outside) (text : List ℕ) (status : Status) → asked ≡ it → IsJobReply it ways held b a text status → IsJobReply asked ways held b a text status
asked_so asked it ways held b a text status is r = subst (λ (o : Option Job). IsJobReply o ways held b a text status) (sym is) r
