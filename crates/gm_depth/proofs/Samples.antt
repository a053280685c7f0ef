-- Depths of expressions, how many levels typing gives to those of a text, and Ifs within one another.
use Rattle.std.specs.Prelude.{◌≡◌, ℕ, zero, suc, true, false, [], ◌∷◌, Option, Some, None, refl, codes}
use Rattle.gm_base.specs.declared.places.Place.{Place}
use Rattle.gm_base.specs.declared.rules.Rule.TheVariants.{T9}
use Rattle.gm_value.specs.declared.values.VType.TheVariants as V
use Rattle.gm_value.specs.declared.operations.Op1.TheVariants.{Not, ToI64}
use Rattle.gm_value.specs.declared.operations.Op2.TheVariants.{Add}
use Rattle.gm_ast.specs.declared.kinds.Kind.TheVariants.{Of}
use Rattle.gm_ast.specs.declared.tree.Domain.TheVariants.{Nodes}
use Rattle.gm_ast.specs.declared.tree.Key.{Key}
use Rattle.gm_ast.specs.declared.tree.Sort.TheVariants as Sorts
use Rattle.gm_ast.specs.declared.tree.Stage.TheVariants.{Operator}
use Rattle.gm_ast.specs.declared.surface.Infix.TheVariants.{Op}
use Rattle.gm_ast.specs.Surface.{SurfaceExpr, Named, Infixed, Paren}
use Rattle.gm_ast.specs.Program.{always, Expr, Var, Unary, Binary, Stmt, Skip, Then, Foreach, If, While, Return, Program}
use Rattle.gm_ast.specs.Names.{Env}
use Rattle.gm_ast.specs.Kinds.{Part, fitted}
use Rattle.gm_ast.specs.Judged.{ok_of}
use Rattle.gm_ast.specs.Typing.{typed}
use Rattle.gm_depth.specs.Depths.{depth, is_within, is_shallow_text, is_shallow}
use Rattle.gm_depth.specs.Nesting.{nesting}
use Rattle.gm_depth.specs.Trees.{tree_depth}

abbrev at : Place
at = record { line = 1; col = 1 }

abbrev key : Key
key = record { statement = 1; stage = Operator }

-- so many operators around a constant
abbrev nested : ℕ → Expr
nested zero = always
nested (suc n) = Unary Not at (nested n)

deepest : is_within 512 (nested 511) ≡ true
deepest = refl

too_deep : is_within 512 (nested 512) ≡ false
too_deep = refl

abbrev procedure : Stmt → Program
procedure body = record { name = []; declarations = []; inputs = 0; outputs = 0; result = None; statements = 2; body = body }

-- If (..) { While (..) { } Return; }
abbrev branch : Expr → Stmt
branch e = Then (If key always (Then (While key at e Skip) (Then (Return key at None) Skip)) Skip) Skip

shallow : is_shallow (procedure (branch (nested 511))) ≡ true
shallow = refl

not_shallow : is_shallow (procedure (branch (nested 512))) ≡ false
not_shallow = refl

text : is_shallow_text (procedure (branch (nested 256))) ≡ true
text = refl

no_text : is_shallow_text (procedure (branch (nested 257))) ≡ false
no_text = refl

-- an Int i and a Long l
abbrev around : Env
around = record {
  known = record { text = codes "i"; binding = record { index = 0; variable = record { sort = Sorts.Scalar; vtype = V.I32; depth = 0 } } }
      ∷ (record { text = codes "l"; binding = record { index = 1; variable = record { sort = Sorts.Scalar; vtype = V.I64; depth = 0 } } } ∷ []);
  next = 2;
  number = 1;
  key = key;
  depth = 0;
  group = false;
  iterators = [];
  result = None;
}

-- (i) + l
abbrev mixed : SurfaceExpr
mixed = Infixed at (Op Add) (Paren at (Named (record { text = codes "i"; place = at }))) (Named (record { text = codes "l"; place = at }))

abbrev core_of : Option Part → Option Expr
core_of None = None
core_of (Some p) = Some p.core

mixed_core : core_of (typed mixed around).part ≡ Some (Binary Add at (Unary ToI64 at (Var 0 at)) (Var 1 at))
mixed_core = refl

mixed_depths : tree_depth mixed ∷ (depth (Binary Add at (Unary ToI64 at (Var 0 at)) (Var 1 at)) ∷ []) ≡ 4 ∷ (3 ∷ [])
mixed_depths = refl

-- i + l
abbrev plain : SurfaceExpr
plain = Infixed at (Op Add) (Named (record { text = codes "i"; place = at })) (Named (record { text = codes "l"; place = at }))

plain_core : core_of (typed plain around).part ≡ Some (Binary Add at (Unary ToI64 at (Var 0 at)) (Var 1 at))
plain_core = refl

plain_depths : tree_depth plain ∷ (depth (Binary Add at (Unary ToI64 at (Var 0 at)) (Var 1 at)) ∷ []) ≡ 3 ∷ (3 ∷ [])
plain_depths = refl

-- i where a Long is wanted has a level more than what it is typed as
fitted_core : ok_of (fitted V.I64 T9 at (record { kind = Of V.I32; core = Var 0 at; large = [] })) ≡ Some (Unary ToI64 at (Var 0 at))
fitted_core = refl

-- Foreach (..) { If (..) { If (..) { } } }: two Ifs within one another, which stand in a parallel loop
abbrev two_ifs : Stmt
two_ifs = If key always (Then (If key always Skip Skip) Skip) Skip

abbrev over_nodes : Stmt → Stmt
over_nodes body = Foreach key at (record { iterator = 1; domain = Nodes; owner = 0; place = at }) always body

nested_ifs : nesting (If key always (over_nodes two_ifs) Skip) ≡ 2
nested_ifs = refl

-- those of inner loops do not count
inner_ifs : nesting (over_nodes (If key always (over_nodes two_ifs) Skip)) ≡ 1
inner_ifs = refl
