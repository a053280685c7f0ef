-- Inner bodies whose statements stand alone, each under its conditions, so that each may go its own way.
use Rattle.std.specs.Prelude.{ℕ, zero, suc, ◌+◌, max, if◌then◌else◌, List, [], ◌∷◌, ◌++◌, length, Some}
use Rattle.gm_base.specs.declared.places.Place.{Place}
use Rattle.gm_value.specs.declared.operations.Op1.TheVariants.{Not}
use Rattle.gm_value.specs.declared.values.VType.TheVariants.{Flag}
use Rattle.gm_ast.specs.declared.tree.Declaration.{Declaration}
use Rattle.gm_ast.specs.declared.tree.Head.{Head}
use Rattle.gm_ast.specs.declared.tree.Key.{Key}
use Rattle.gm_ast.specs.declared.tree.Sort.TheVariants.{Scalar}
use Rattle.gm_ast.specs.Program.{Expr, Var, Unary, Stmt, Skip, Then, Declare, Foreach, For, If, While, Do, Program, sequence}
use Rattle.gm_dissect.specs.Loops.{each_loop}
use Rattle.gm_cut.specs.Slices.{goes_one_way}
use Rattle.gm_parting.specs.Numbers.{count_ifs}

-- a part of an inner body under a condition: each of its statements under it alone
abbrev pub under : Key → Expr → Stmt → Stmt
under k c Skip = Skip
under k c (Then a b) = Then (under k c a) (under k c b)
under k c s = If k c s Skip

-- an inner body whose conditions are saved in locals, from the local y on, and whose statements stand alone under them. at: the place of a read that cannot fault
abbrev pub apart : Place → ℕ → Stmt → Stmt
apart at y (Then a b) = Then (apart at y a) (apart at (y + count_ifs a) b)
apart at y (If k c a b) =
    sequence (Declare k y (Some c) ∷ under k (Var y at) (apart at (suc y) a) ∷ under k (Unary Not at (Var y at)) (apart at (suc y + count_ifs a) b) ∷ [])
apart at y s = s

-- a loop whose body is an inner loop that goes several ways, with such an inner body, whose locals are from the first on
abbrev pub apart_loop : List Declaration → ℕ → Key → Place → Head → Expr → Stmt → Stmt
apart_loop ds first k at h mask (Foreach j here inner test body) =
    Foreach k at h mask (Foreach j here inner test (if goes_one_way ds h.iterator inner test body then body else apart here first body))
apart_loop ds first k at h mask body = Foreach k at h mask body

-- how many Ifs the inner body has that a loop's body is
abbrev pub ifs_inside : Stmt → ℕ
ifs_inside (Foreach j here inner test body) = count_ifs body
ifs_inside _ = zero

-- the most that one of a sequential phase has
abbrev pub most_ifs : Stmt → ℕ
most_ifs (Then a b) = max (most_ifs a) (most_ifs b)
most_ifs (Foreach k at h mask body) = ifs_inside body
most_ifs (For k at h test body) = most_ifs body
most_ifs (If k c a b) = max (most_ifs a) (most_ifs b)
most_ifs (While k at c body) = most_ifs body
most_ifs (Do k at body c) = most_ifs body
most_ifs _ = zero

-- a local of an inner body that holds a condition, which no text names, and so many of them
abbrev pub inner_flag : Declaration
inner_flag = record { name = []; variable = record { sort = Scalar; vtype = Flag; depth = 2 } }

abbrev pub inner_flags : ℕ → List Declaration
inner_flags zero = []
inner_flags (suc n) = inner_flag ∷ inner_flags n

-- a program whose inner loops that go several ways have such bodies. The locals are the last of its variables, and each inner body begins with the first of them
abbrev pub with_statements_apart : Program → Program
with_statements_apart program = record program {
  declarations = program.declarations ++ inner_flags (most_ifs program.body);
  body = each_loop (apart_loop program.declarations (length program.declarations)) program.body;
}
