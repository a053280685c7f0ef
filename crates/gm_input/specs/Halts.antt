-- What stops the work before anything runs, and what is said wherever it ends.
use Rattle.std.specs.Prelude.{◌≡◌, ⊤, Result, Ok, Err}
use Rattle.gm_input.specs.declared.answers.Answer.{Answer}
use Rattle.gm_input.specs.declared.halts.Halt.{Halt}
use Rattle.gm_input.specs.declared.halts.Halt.TheVariants.{Answered, NoMemory}

-- the halt with an answer, or for want of memory
abbrev pub halt_of : {E : Type 0} → Result Answer E → Halt
halt_of (Ok a) = Answered a
halt_of (Err e) = NoMemory

-- a fact for the answer of a halt that has one
abbrev pub IfAnswered : Halt → (Answer → Type 0) → Type 0
IfAnswered (Answered a) P = P a
IfAnswered NoMemory P = ⊤

-- a fact for what is said, by the end of the work or by what stopped it
abbrev pub IfSaid : Result Answer Halt → (Answer → Type 0) → Type 0
IfSaid (Ok a) P = P a
IfSaid (Err halt) P = IfAnswered halt P

-- this is said
abbrev pub IsSaid : Result Answer Halt → Answer → Type 0
IsSaid (Ok a) said = said ≡ a
IsSaid (Err (Answered a)) said = said ≡ a
IsSaid (Err NoMemory) said = ⊥
