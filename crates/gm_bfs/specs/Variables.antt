-- The variables that levels are kept in, and the keys of the statements that keep them.
use Rattle.std.specs.Prelude.{ℕ, suc, ◌+◌, List, [], ◌∷◌, ◌++◌, map}
use Rattle.gm_value.specs.declared.values.VType.{VType}
use Rattle.gm_value.specs.declared.values.VType.TheVariants.{I32, Flag, Node}
use Rattle.gm_ast.specs.declared.tree.Declaration.{Declaration}
use Rattle.gm_ast.specs.declared.tree.Key.{Key}
use Rattle.gm_ast.specs.declared.tree.Sort.{Sort}
use Rattle.gm_ast.specs.declared.tree.Sort.TheVariants.{Scalar, NodeProperty, Iterator}
use Rattle.gm_ast.specs.declared.tree.Stage.{Stage}
use Rattle.gm_ast.specs.declared.tree.Stage.TheVariants as Stage
use Rattle.gm_ast.specs.declared.tree.TotalKey.{TotalKey}
use Rattle.gm_bfs.specs.declared.fresh.Fresh.{Fresh}
use Rattle.gm_bfs.specs.declared.fresh.Site.{Site}

-- the fresh variables behind so many declared ones. All searches share them, since none stands in another
abbrev pub fresh_from : ℕ → Fresh
fresh_from k = record {
  root = k;
  current = k + 1;
  up = k + 2;
  down = k + 3;
  more = k + 4;
  found = k + 5;
  level = k + 6;
  active = k + 7;
  node = k + 8;
  neighbour = k + 9;
  copies = k + 10;
}

-- a declaration that no text has
abbrev pub unnamed : Sort → VType → ℕ → Declaration
unnamed sort t depth = record { name = []; variable = record { sort = sort; vtype = t; depth = depth } }

-- the declarations of the fresh variables, in the order of their indices
abbrev pub fresh_declarations : List Declaration
fresh_declarations =
    unnamed Scalar Node 0 ∷
    unnamed Scalar I32 0 ∷
    unnamed Scalar I32 0 ∷
    unnamed Scalar I32 0 ∷
    unnamed Scalar Flag 0 ∷
    unnamed Scalar Flag 0 ∷
    unnamed NodeProperty I32 0 ∷
    unnamed NodeProperty Flag 0 ∷
    unnamed Iterator Node 1 ∷
    unnamed Iterator Node 2 ∷ []

-- the declaration of a variable's copy: a property of nodes of its type
abbrev pub copy_declaration : Declaration → Declaration
copy_declaration d = unnamed NodeProperty d.variable.vtype 0

-- a table with the fresh variables behind it, and then a copy of each declared one: of these only the copies of some properties are named
abbrev pub with_fresh : List Declaration → List Declaration
with_fresh ds = ds ++ (fresh_declarations ++ map copy_declaration ds)

-- the copy of a property
abbrev pub copy_of : Fresh → ℕ → ℕ
copy_of f p = f.copies + p

-- the key of a statement that keeps levels: the number is the search's. Filters have the first stage, so that their faults stand before those of the bodies
abbrev pub key_of : Site → Stage → Key
key_of s stage = record { statement = s.number; stage = stage }

abbrev pub filter_key : Site → Key
filter_key s = key_of s Stage.Inner

abbrev pub body_key : Site → Key
body_key s = key_of s Stage.Operator

-- where the totals of what levels are reduced by stand. They never overflow
abbrev pub total_of : Site → TotalKey
total_of s = record { key = key_of s Stage.Total; place = s.place; shown = s.place }
