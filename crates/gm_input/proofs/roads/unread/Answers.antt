use Rattle.std.proofs.lemmas.Result.{IfOk-weaker}
use Rattle.gm_input.specs.Texts.{absent_text, read_fault_text}
use Rattle.gm_input.proofs.roads.unread.Goals as goal

pub returns-in-Absent : goal.returns-in-Absent
returns-in-Absent c =
    IfOk-weaker c.absent.result _ _
    (λ a says. λ before after stop. record { line = absent_text c.args.name.now; unread = rw c.in-Absent.is at stop; says = says })
    c.absent.ensures

pub returns-in-Failed : goal.returns-in-Failed
returns-in-Failed c =
    IfOk-weaker c.read_fault.result _ _
    (λ a says. λ before after stop. record { line = read_fault_text c.args.name.now; unread = rw c.in-Failed.is at stop; says = says })
    c.read_fault.ensures
