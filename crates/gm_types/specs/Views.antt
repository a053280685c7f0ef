-- What a checker knows, as the rules see it.
use Rattle.std.specs.Prelude.{◌≡◌, ℕ, ◌+◌, ◌-◌, List, [], ◌∷◌, ◌++◌, map, take, length, Option}
use Rattle.std.specs.Borrow.{Bor}
use Rattle.gm_base.specs.Rules.{least_from}
use Rattle.gm_ast.specs.declared.kinds.Binding.{Binding}
use Rattle.gm_ast.specs.declared.tree.Variable.{Variable}
use Rattle.gm_types.specs.declared.names.Checker.{Checker}
use Rattle.gm_ast.specs.Surface.{SurfaceName, SurfaceStmt}
use Rattle.gm_ast.specs.Statements.{following}
use Rattle.gm_ast.specs.Judged.{Judged}
use Rattle.gm_ast.specs.Names.{Known, Env, later, declared_as, with_name, an_iterator, inside}

-- a known name, as a map holds it
abbrev pub known_of : Bor (List ℕ) × Binding → Known
known_of entry = record { text = entry.0.now; binding = entry.1 }

-- the known names, as a map holds them
abbrev pub known_in : List (Bor (List ℕ) × Binding) → List Known
known_in entries = map known_of entries

-- what stands around the part that a checker judges
abbrev pub env_of : Checker → Env
env_of c = record {
  known = known_in c.scope.names.entries;
  next = length c.declarations.items;
  number = c.number;
  key = c.key;
  depth = c.depth;
  group = c.group;
  iterators = c.iterators.items;
  result = c.result;
}

-- what judging a part gives: what the part stands for, and a checker that has noted what the part declares and breaks, around which this stands afterwards
pub record Gives {A : Type 0} (old new : Checker) (x : Judged A) (part : Option A) (after : Env) : Type 0 where
  pub stands_for : part ≡ x.part
  pub least : new.least ≡ least_from old.least x.broken
  pub declared : new.declarations.items ≡ old.declarations.items ++ x.declared
  pub names : env_of new ≡ after

-- judging a part, after which the same names are known
abbrev pub Judges : {A : Type 0} → Checker → Checker → Judged A → Option A → Type 0
Judges old new x part = Gives old new x part (later (env_of old) x)

-- judging a statement of a block, after which its names are known
abbrev pub Follows : {A : Type 0} → Checker → Checker → SurfaceStmt → Judged A → Option A → Type 0
Follows old new s x part = Gives old new x part (following s (env_of old) x)

-- what declaring a name leaves
pub record Declares (old new : Checker) (name : SurfaceName) (v : Variable) : Type 0 where
  pub least : new.least ≡ least_from old.least (declared_as (env_of old) name v).broken
  pub declared : new.declarations.items ≡ old.declarations.items ++ (declared_as (env_of old) name v).declared
  pub names : env_of new ≡ with_name (env_of old) name v

-- what the entry into a loop or reduction leaves
pub record Enters (old new : Checker) (name : SurfaceName) (loops : ℕ) : Type 0 where
  pub least : new.least ≡ least_from old.least (declared_as (env_of old) name (an_iterator (old.depth + loops))).broken
  pub declared : new.declarations.items ≡ old.declarations.items ++ (declared_as (env_of old) name (an_iterator (old.depth + loops))).declared
  pub names : env_of new ≡ inside (env_of old) name loops

-- the names and the iterators after the end are those before the entry
pub record Leaves (old inner new : Checker) : Type 0 where
  pub known : new.scope.names.entries ≡ take (length old.scope.names.entries) inner.scope.names.entries
  pub iterators : new.iterators.items ≡ take (length inner.iterators.items - 1) inner.iterators.items
  pub depth : new.depth ≡ old.depth
  pub number : new.number ≡ inner.number
  pub key : new.key ≡ old.key
  pub group : new.group ≡ inner.group
  pub result : new.result ≡ inner.result
  pub declared : new.declarations.items ≡ inner.declarations.items
  pub least : new.least ≡ inner.least
