-- The two parts of an expression's value, and the least of faults, as the code has them.
use Rattle.std.specs.Prelude.{[], ◌∷◌, Bool, if◌then◌else◌, Option, Some, None, Result, Ok, Err}
use Rattle.gm_base.specs.declared.places.Place.{Place}
use Rattle.gm_value.specs.declared.values.Value.{Value}
use Rattle.gm_value.specs.declared.faults.FaultKind.{FaultKind}
use Rattle.gm_value.specs.declared.reductions.Reduce.{Reduce}
use Rattle.gm_value.specs.declared.reductions.Reduce.TheVariants.{And, Or}
use Rattle.gm_value.specs.Reductions.{close}
use Rattle.gm_ast.specs.declared.tree.Key.{Key}
use Rattle.gm_semantics.specs.declared.faults.Fault.{Fault}
use Rattle.gm_semantics.specs.Faults.{lesser}
use Rattle.gm_semantics.specs.Expressions as E
use Rattle.gm_semantics.specs.Expressions.{Answer, plain, early, both, either, two_of}
use Rattle.gm_loops.specs.declared.parts.Evaluated.{Evaluated}

-- the two parts
abbrev pub parts : Evaluated → E.Evaluated
parts e = record { hoisted = e.hoisted; rest = e.rest }

-- an operator's fault at a place
abbrev pub fault_by : Key → Place → FaultKind → Fault
fault_by key at k = record { kind = k; shown = at; key = key; place = at }

-- an operation's result, or its fault at its place
abbrev pub located_by : Key → Place → Result Value FaultKind → Answer
located_by key at (Ok v) = Ok v
located_by key at (Err k) = Err (fault_by key at k)

-- a read through a node variable, which a sequential phase hoists
abbrev pub read_by : Bool → Answer → E.Evaluated
read_by parallel a = if parallel then plain a else early a

-- a value combined with another by a reduction's operator at a place. The operators of And and Or ask the other only where the first leaves it open
abbrev pub combined_by : Reduce → Key → Place → E.Evaluated → E.Evaluated → E.Evaluated
combined_by And key at a b = both a b
combined_by Or key at a b = either a b
combined_by r key at a b = two_of a b (λ x y. located_by key at (close r x (y ∷ [])))

-- the lesser of what may be two faults
abbrev pub sooner : Option Fault → Option Fault → Option Fault
sooner None b = b
sooner (Some f) b = lesser f b
