-- The names that are known at a place, and what else stands around a part.
use Rattle.std.specs.Prelude.{ℕ, ◌+◌, Bool, true, false, ◌&&◌, ◌||◌, if◌then◌else◌, List, [], ◌∷◌, ◌++◌, Option, Some, None, Ok, is_none, length}
use Rattle.std.specs.Str.{bytes_eq}
use Rattle.gm_base.specs.declared.rules.Rule.TheVariants.{T1, T2}
use Rattle.gm_value.specs.declared.values.VType.{VType}
use Rattle.gm_ast.specs.declared.tree.Variable.{Variable}
use Rattle.gm_ast.specs.declared.tree.Key.{Key}
use Rattle.gm_ast.specs.declared.tree.Stage.TheVariants.{Operator}
use Rattle.gm_ast.specs.declared.tree.Sort.{Sort}
use Rattle.gm_ast.specs.declared.tree.Sort.TheVariants.{Graph, Iterator, Scalar, Edge, NodeProperty, EdgeProperty}
use Rattle.gm_ast.specs.declared.kinds.Binding.{Binding}
use Rattle.gm_ast.specs.Surface.{SurfaceName}
use Rattle.gm_ast.specs.Judged.{Judged, Answer, alone, beside, judge, refused, unless}

-- a known name: its letters, and what it means
pub record Known : Type 0 where
  pub text : List ℕ
  pub binding : Binding

-- what stands around a part: the known names, the index of the next declaration, the number of the next statement, the key of the operators here, the number of parallel loops, whether this is the right side of a group assignment, the enclosing iterators, and the procedure's result
pub record Env : Type 0 where
  pub known : List Known
  pub next : ℕ
  pub number : ℕ
  pub key : Key
  pub depth : ℕ
  pub group : Bool
  pub iterators : List ℕ
  pub result : Option VType

-- what a name means, if it is known
abbrev pub known_as : List Known → List ℕ → Option Binding
known_as [] text = None
known_as (k ∷ ks) text = if bytes_eq text k.text then Some k.binding else known_as ks text

-- what a known name means, or the violation
abbrev pub known_answer : SurfaceName → Option Binding → Answer Binding
known_answer name None = refused T1 name.place
known_answer name (Some b) = Ok b

-- what a name means that is used
abbrev pub used : SurfaceName → Env → Judged Binding
used name env = alone (known_answer name (known_as env.known name.text))

-- a declaration of a name, which is not to be known yet
abbrev pub declared_as : Env → SurfaceName → Variable → Judged ℕ
declared_as env name v = record {
  part = Some env.next;
  declared = record { name = name.text; variable = v } ∷ [];
  numbers = 0;
  broken = unless (is_none (known_as env.known name.text)) T2 name.place;
}

-- the names known after a declaration; of two declarations of one name the first stands
abbrev pub known_with : List Known → List ℕ → Binding → List Known
known_with known text b = if is_none (known_as known text) then known ++ (record { text = text; binding = b } ∷ []) else known

-- the same, after the declaration of a name
abbrev pub with_name : Env → SurfaceName → Variable → Env
with_name env name v = record env {
  known = known_with env.known name.text (record { index = env.next; variable = v });
  next = env.next + 1;
}

-- the same names, after a part that declared some of its own
abbrev pub later : {A : Type 0} → Env → Judged A → Env
later env x = record env { next = env.next + length x.declared; number = env.number + x.numbers }

-- whether two sorts are the same
abbrev pub sort_eq : Sort → Sort → Bool
sort_eq Graph Graph = true
sort_eq Iterator Iterator = true
sort_eq Scalar Scalar = true
sort_eq Edge Edge = true
sort_eq NodeProperty NodeProperty = true
sort_eq EdgeProperty EdgeProperty = true
sort_eq _ _ = false

-- whether a type is Node
abbrev pub is_node_type : VType → Bool
is_node_type VType.Node = true
is_node_type _ = false

-- whether a variable is of a sort
abbrev pub is : Sort → Variable → Bool
is s v = sort_eq s v.sort

-- whether a variable holds a node
abbrev pub is_node : Variable → Bool
is_node v = is Iterator v || (is Scalar v && is_node_type v.vtype)

-- the declaration of an iterator
abbrev pub an_iterator : ℕ → Variable
an_iterator depth = record { sort = Iterator; vtype = VType.Node; depth = depth }

-- the names known in a loop or reduction, by whose iterator the names around are joined; `loops` is how many parallel loops it is
abbrev pub inside : Env → SurfaceName → ℕ → Env
inside env name loops =
    let e = with_name env name (an_iterator (env.depth + loops)) in
    record e { depth = env.depth + loops; iterators = env.iterators ++ (env.next ∷ []) }

-- two parts, of which the second comes after the first
abbrev pub both : {A B : Type 0} → (Env → Judged A) → (Env → Judged B) → Env → Judged (A × B)
both first second env =
    let x = first env in
    beside x (second (later env x))

-- several parts, each after the one before it
abbrev pub judged_each : {X A : Type 0} → (X → Env → Judged A) → List X → Env → Judged (List A)
judged_each one [] env = alone (Ok [])
judged_each one (x ∷ xs) env = judge (both (one x) (judged_each one xs) env) (λ p. Ok (p.0 ∷ p.1))

-- a loop's or a reduction's iterator and the parts in which it is known; `loops` is how many parallel loops it is
abbrev pub iterated : {A : Type 0} → SurfaceName → ℕ → (Env → Judged A) → Env → Judged (ℕ × A)
iterated name loops parts env = beside (declared_as env name (an_iterator (env.depth + loops))) (parts (inside env name loops))

-- a part whose operators have a key
abbrev pub keyed : {A : Type 0} → Key → (Env → Judged A) → Env → Judged A
keyed k part env = part (record env { key = k })

-- a part that takes statement numbers of its own, before those in it
abbrev pub counted : {A : Type 0} → ℕ → (Env → Judged A) → Env → Judged A
counted n part env =
    let x = part (record env { number = env.number + n }) in
    record x { numbers = n + x.numbers }

-- the key of the operators of the statement with a number
abbrev pub operators_of : ℕ → Key
operators_of n = record { statement = n; stage = Operator }

-- a statement, which takes the next number, and whose operators have its key
abbrev pub numbered : {A : Type 0} → (Env → Judged A) → Env → Judged A
numbered part env = counted 1 (keyed (operators_of env.number) part) env
