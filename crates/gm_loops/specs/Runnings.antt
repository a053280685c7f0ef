-- What the elements of a reduction come to, one by one.
use Rattle.std.specs.Prelude.{◌≡◌, Bool, false, List, [], ◌∷◌, map, Option, Some, None, Result, Ok, Err}
use Rattle.gm_value.specs.declared.values.Value.{Value}
use Rattle.gm_value.specs.declared.values.VType.{VType}
use Rattle.gm_value.specs.declared.reductions.Reduce.{Reduce}
use Rattle.gm_value.specs.Operations.{is_true}
use Rattle.gm_value.specs.Totals.{IsTotal}
use Rattle.gm_semantics.specs.declared.faults.Fault.{Fault}
use Rattle.gm_semantics.specs.Faults.{least, errs, oks, joined}
use Rattle.gm_model.specs.Graphs.{Step}
use Rattle.gm_ast.specs.declared.tree.Fold.{Fold}
use Rattle.gm_ast.specs.declared.tree.Head.{Head}
use Rattle.gm_ast.specs.Program.{Expr}
use Rattle.gm_semantics.specs.Expressions.{View, Answer, evaluated, settled, entered, element}
use Rattle.gm_loops.specs.declared.runnings.Running.{Running}

-- the members that the code has of an element
abbrev pub members : Option Value → List Value
members None = []
members (Some v) = v ∷ []

-- an element
abbrev pub listed : Result (Option Value) Fault → Result (List Value) Fault
listed (Ok member) = Ok (members member)
listed (Err f) = Err f

-- whether a filter passes an element
abbrev pub passes : Answer → Bool
passes (Ok v) = is_true v
passes (Err f) = false

-- what is kept of some elements: their least fault, and the total of their members
pub record Runs (r : Reduce) (t : VType) (run : Running) (elements : List (Result (List Value) Fault)) : Type 0 where
  pub fault : run.fault ≡ least (errs elements)
  pub total : IsTotal r t run.total (joined (oks elements))

-- the elements of a reduction at some steps
abbrev pub elements_at : Fold → Head → Expr → Expr → View → List Step → List (Result (List Value) Fault)
elements_at f head test e w steps =
    map (λ s. element f.word (settled (evaluated test (entered w head s f.filter))) (settled (evaluated e (entered w head s f.body)))) steps
