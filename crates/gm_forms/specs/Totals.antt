-- Totals that cannot fault: those of reductions of conditions.
use Rattle.std.specs.Prelude.{◌≡◌, true, List, map, Some, Result, Ok}
use Rattle.gm_value.specs.declared.values.Value.{Value}
use Rattle.gm_value.specs.declared.values.VType.TheVariants.{Flag}
use Rattle.gm_value.specs.Bag.{IsIn}
use Rattle.gm_value.specs.Numbers.{IsOf}
use Rattle.gm_value.specs.Reductions.{reduces}
use Rattle.gm_model.specs.Graphs.{Step, IsGraph}
use Rattle.gm_ast.specs.declared.tree.Fold.{Fold}
use Rattle.gm_ast.specs.declared.tree.Head.{Head}
use Rattle.gm_ast.specs.Program.{Expr, Folded}
use Rattle.gm_semantics.specs.declared.faults.Fault.{Fault}
use Rattle.gm_semantics.specs.Faults.{errs}
use Rattle.gm_semantics.specs.Expressions.{View, steps_in, entered, element, reduce_of, evaluated, value}
use Rattle.gm_forms.specs.Order.{takes_conditions}

-- what the elements of a reduction put into its bag, or their faults
abbrev pub elements : Fold → Head → Expr → Expr → View → List (Result (List Value) Fault)
elements f h test e w = map (λ s. element f.word (value test (entered w h s f.filter)) (value e (entered w h s f.body))) (steps_in w h)

-- whatever its braces give is a Bool
abbrev pub GivesBools : Fold → Head → Expr → View → Type 0
GivesBools f h e w = (s : Step) (v : Value) → value e (entered w h s f.body) ≡ Ok v → IsOf Flag v

-- a fault of a reduction of conditions over a graph is one of its elements, and never that of its total
abbrev pub ConditionsFaultAtElements : Type 0
ConditionsFaultAtElements = (f : Fold) (h : Head) (test e : Expr) (w : View) (fault : Fault) →
    IsGraph w.graph → takes_conditions f.word ≡ true → reduces (reduce_of f.word) f.vtype ≡ true → GivesBools f h e w →
    (evaluated (Folded f h test e) w).hoisted ≡ Some fault → IsIn fault (errs (elements f h test e w))
