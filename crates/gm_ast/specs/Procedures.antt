-- The types of a procedure, and the program that it stands for.
use Rattle.std.specs.Prelude.{◌≡◌, ℕ, ◌+◌, nat_eq, false, if◌then◌else◌, List, [], ◌∷◌, ◌++◌, flat_map, length, Option, Some, None, option_map, Ok}
use Rattle.gm_base.specs.declared.rules.Refusal.{Refusal}
use Rattle.gm_base.specs.declared.rules.Rule.TheVariants.{T3}
use Rattle.gm_value.specs.declared.values.VType.{VType}
use Rattle.gm_ast.specs.declared.tree.Sort.TheVariants.{Graph}
use Rattle.gm_ast.specs.declared.kinds.Role.{Role}
use Rattle.gm_ast.specs.declared.kinds.Role.TheVariants.{Input, Output, Returned}
use Rattle.gm_ast.specs.Surface.{SurfaceGroup, SurfaceType, SurfaceProcedure}
use Rattle.gm_ast.specs.Program.{Program, Stmt}
use Rattle.gm_ast.specs.Judged.{Judged, judge, beside, alone, noted, unless}
use Rattle.gm_ast.specs.Names.{Env, is, operators_of, numbered}
use Rattle.gm_ast.specs.Statements.{type_broken, variable_of, vtype_of, declared_all, with_names, checked}

-- what stands around a procedure
abbrev pub nothing_known : Option VType → Env
nothing_known result = record { known = []; next = 0; number = 0; key = operators_of 0; depth = 0; group = false; iterators = []; result = result }

-- the parameters of several groups, one after another
abbrev pub parameters : List SurfaceGroup → Env → Judged (Unit {0})
parameters [] env = alone (Ok (tt {0}))
parameters (g ∷ gs) env =
    let v = variable_of g.vtype 0 in
    judge (beside (declared_all v g.names env) (parameters gs (with_names v g.names env))) (λ p. Ok (tt {0}))

-- the names that are known after the parameters
abbrev pub with_parameters : List SurfaceGroup → Env → Env
with_parameters [] env = env
with_parameters (g ∷ gs) env = with_parameters gs (with_names (variable_of g.vtype 0) g.names env)

-- how many names some groups have
abbrev pub count_names : List SurfaceGroup → ℕ
count_names [] = 0
count_names (g ∷ gs) = length g.names + count_names gs

-- how many of some parameters are graphs
abbrev pub count_graphs : List SurfaceGroup → ℕ
count_graphs [] = 0
count_graphs (g ∷ gs) = (if is Graph (variable_of g.vtype 0) then length g.names else 0) + count_graphs gs

-- what the types of parameters break, where all parameters are known
abbrev pub types_broken : Role → Env → List SurfaceGroup → List Refusal
types_broken role env gs = flat_map (λ g. type_broken g.vtype role env) gs

-- what the result's type breaks
abbrev pub result_broken : Env → Option SurfaceType → List Refusal
result_broken env None = []
result_broken env (Some t) = type_broken t Returned env

-- the type of a procedure's result
abbrev pub result_of : SurfaceProcedure → Option VType
result_of p = option_map vtype_of p.result

-- what stands around a procedure's outputs
abbrev pub env_of_outputs : SurfaceProcedure → Env
env_of_outputs p = with_parameters p.inputs (nothing_known (result_of p))

-- what stands around a procedure's body
abbrev pub env_of_body : SurfaceProcedure → Env
env_of_body p = with_parameters p.outputs (env_of_outputs p)

-- what the head of a procedure breaks beside its names: it has not exactly one graph, or a type stands where it may not
abbrev pub head_broken : SurfaceProcedure → List Refusal
head_broken p =
    unless (nat_eq (count_graphs p.inputs) 1) T3 p.name.place
    ++ (types_broken Input (env_of_body p) p.inputs ++ (types_broken Output (env_of_body p) p.outputs ++ result_broken (env_of_body p) p.result))

-- a procedure's inputs and outputs
abbrev pub all_parameters : SurfaceProcedure → Judged (Unit {0} × Unit {0})
all_parameters p = beside (parameters p.inputs (nothing_known (result_of p))) (parameters p.outputs (env_of_outputs p))

-- a procedure's parameters, head and body
abbrev pub parts_of : SurfaceProcedure → Judged ((Unit {0} × Unit {0}) × (Unit {0} × Stmt))
parts_of p = beside (all_parameters p) (beside (noted (tt {0}) (head_broken p)) (numbered (checked p.body) (env_of_body p)))

-- a procedure's program, and every rule that its types break
abbrev pub elaborated : SurfaceProcedure → Judged Program
elaborated p =
    let parts = parts_of p in
    judge parts (λ q. Ok (record {
      name = p.name.text;
      declarations = parts.declared;
      inputs = count_names p.inputs;
      outputs = count_names p.outputs;
      result = result_of p;
      statements = parts.numbers;
      body = q.1.1;
    }))

-- a program that a procedure without any violation stands for
pub record IsTyped (program : Program) : Type 0 where
  pub source : SurfaceProcedure
  pub clean : (elaborated source).broken ≡ []
  pub is : (elaborated source).part ≡ Some program
