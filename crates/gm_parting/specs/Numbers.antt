-- Numbers of the Ifs of bodies that ask variables, so that each has another than those within it.
use Rattle.std.specs.Prelude.{ℕ, zero, suc, ◌+◌, max, Bool, true, false, if◌then◌else◌}
use Rattle.gm_base.specs.declared.places.Place.{Place}
use Rattle.gm_ast.specs.declared.tree.Head.{Head}
use Rattle.gm_ast.specs.declared.tree.Key.{Key}
use Rattle.gm_ast.specs.Program.{Expr, Stmt, Then, Foreach, If, Program}
use Rattle.gm_dissect.specs.Conditions.{is_variable, with_saved_conditions}
use Rattle.gm_dissect.specs.Loops.{each_loop}
use Rattle.gm_parting.specs.Lasting.{has_numbered_ifs}

-- how many Ifs a body has
abbrev pub count_ifs : Stmt → ℕ
count_ifs (Then a b) = count_ifs a + count_ifs b
count_ifs (If k c a b) = suc (count_ifs a + count_ifs b)
count_ifs _ = zero

-- a number above those of them all
abbrev pub above_ifs : Stmt → ℕ
above_ifs (Then a b) = max (above_ifs a) (above_ifs b)
above_ifs (If k c a b) = max (suc k.statement) (max (above_ifs a) (above_ifs b))
above_ifs _ = zero

-- the key of an If by a number, if it asks a variable, whose read cannot fault
abbrev pub own_key : Bool → ℕ → Key → Key
own_key true m k = record k { statement = m }
own_key false m k = k

-- a body whose Ifs that ask variables have numbers from the first on: each as many behind it as there are Ifs within
abbrev pub with_numbers : ℕ → Stmt → Stmt
with_numbers first (Then a b) = Then (with_numbers first a) (with_numbers first b)
with_numbers first (If k c a b) = If (own_key (is_variable c) (first + (count_ifs a + count_ifs b)) k) c (with_numbers first a) (with_numbers first b)
with_numbers first s = s

abbrev pub numbered_loop : Key → Place → Head → Expr → Stmt → Stmt
numbered_loop k at h test body = Foreach k at h test (with_numbers (above_ifs body) body)

-- a program with such bodies
abbrev pub with_own_numbers : Program → Program
with_own_numbers program = record program { body = each_loop numbered_loop program.body }

-- a program whose conditions are saved. Where an If has the number of one within it, which so has its local, they are numbered then and saved again
abbrev pub with_conditions_apart : Program → Program
with_conditions_apart p = if has_numbered_ifs p then with_saved_conditions p else with_saved_conditions (with_own_numbers (with_saved_conditions p))
