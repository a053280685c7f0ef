-- What `check` writes of a program.
use Rattle.std.specs.Prelude.{ℕ, List}
use Rattle.gm_base.specs.declared.statuses.Status.{Status}
use Rattle.gm_base.specs.declared.statuses.Status.TheVariants.{Done}
use Rattle.gm_ast.specs.Program.{Program}
use Rattle.gm_canon.specs.Verdict.{StandsFor}
use Rattle.gm_input.specs.Outside.{Outside, IsText}
use Rattle.gm_input.specs.Roads.{SaysUnread}
use Rattle.gm_input.specs.Texts.{Says}
use Rattle.gm_driver.specs.Fronts.{most_program}
use Rattle.gm_driver.specs.Runs.{SaysRefused}
use Rattle.gm_driver.specs.Texts.{accepted_text}

-- the answer for a program text: it stands for a program that breaks no rule, or this is what it breaks
pub data IsVerdict (program text : List ℕ) (status : Status) : Type 0 where
  accepted : (p : Program) → StandsFor program p → Says text status accepted_text Done → IsVerdict program text status
  refused : SaysRefused program text status → IsVerdict program text status

-- what is to be written for the check of the program under a name: it could not be read, or it is judged
pub data IsCheckReply (name : List ℕ) (before after : Outside) (text : List ℕ) (status : Status) : Type 0 where
  unread : SaysUnread name before after text status → IsCheckReply name before after text status
  judged : (program : List ℕ) → IsText most_program name before after program → IsVerdict program text status → IsCheckReply name before after text status
