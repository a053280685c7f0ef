-- Why a procedure stands for no program.
use Rattle.std.specs.Prelude.{◌≡◌, ℕ, List, Option, Some}
use Rattle.gm_base.specs.declared.rules.Refusal.{Refusal}
use Rattle.gm_base.specs.declared.rules.Stop.{Stop}
use Rattle.gm_base.specs.declared.rules.Stop.TheVariants.{Refused, NoMemory}
use Rattle.gm_base.specs.Rules.{least}
use Rattle.gm_ast.specs.declared.tree.Declaration.{Declaration}
use Rattle.gm_ast.specs.Surface.{SurfaceProcedure}
use Rattle.gm_ast.specs.Program.{Program, Stmt}
use Rattle.gm_ast.specs.Procedures.{elaborated, count_names, result_of}

-- a refusal is the least of all that is broken; want of memory may come of any procedure
abbrev pub IsStopOf : SurfaceProcedure → Stop → Type 0
IsStopOf p (Refused r) = least (elaborated p).broken ≡ Some r
IsStopOf p NoMemory = Unit {0}

-- a refusal is the least so far
abbrev pub IsLeastStop : Option Refusal → Stop → Type 0
IsLeastStop least (Refused r) = least ≡ Some r
IsLeastStop least NoMemory = Unit {0}

-- the program of a procedure with its declarations, statement numbers and body
abbrev pub program_with : SurfaceProcedure → List Declaration → ℕ → Stmt → Program
program_with p declarations statements body = record {
  name = p.name.text;
  declarations = declarations;
  inputs = count_names p.inputs;
  outputs = count_names p.outputs;
  result = result_of p;
  statements = statements;
  body = body;
}
