-- Filters of parallel loops, saved in a property of the loop's node before the body is cut.
use Rattle.std.specs.Prelude.{ℕ, Bool, ◌&&◌, not, if◌then◌else◌, List, [], ◌∷◌, ◌++◌, length}
use Rattle.gm_base.specs.declared.places.Place.{Place}
use Rattle.gm_value.specs.declared.values.VType.TheVariants.{Flag}
use Rattle.gm_ast.specs.declared.tree.Declaration.{Declaration}
use Rattle.gm_ast.specs.declared.tree.Head.{Head}
use Rattle.gm_ast.specs.declared.tree.Key.{Key}
use Rattle.gm_ast.specs.declared.tree.Sort.TheVariants.{NodeProperty}
use Rattle.gm_ast.specs.declared.tree.Target.TheVariants as T
use Rattle.gm_ast.specs.Program.{Expr, Property, always, Stmt, Assign, Foreach, Program, sequence}
use Rattle.gm_forms.specs.Cut.{touched, is_own_loop}
use Rattle.gm_forms.specs.Order.{first_key}
use Rattle.gm_dissect.specs.Loops.{each_loop}
use Rattle.gm_parting.specs.Lasting.{is_lasting}

-- whether a loop saves its filter: it is cut, and the filter does not last over its body
abbrev pub saves_filter : List Declaration → ℕ → Expr → Stmt → Bool
saves_filter ds n test body = not (is_own_loop n body) && not (is_lasting ds n (touched body) test)

-- a loop that saves its filter at every node in a property q first. The faults are the filter's, under its key
abbrev pub filter_saved : ℕ → Key → Place → Head → Expr → Stmt → Stmt
filter_saved q k at h test body =
    let n = h.iterator in
    sequence (Foreach first_key at h always (Assign k (T.Property n q at) test) ∷ Foreach k at h (Property n q at) body ∷ [])

-- a loop that does so where it must, and any other as it is
abbrev pub filtered_loop : List Declaration → ℕ → Key → Place → Head → Expr → Stmt → Stmt
filtered_loop ds q k at h test body = if saves_filter ds h.iterator test body then filter_saved q k at h test body else Foreach k at h test body

-- a property that holds a filter, which no text names
abbrev pub flag_property : Declaration
flag_property = record { name = []; variable = record { sort = NodeProperty; vtype = Flag; depth = 0 } }

-- a program whose loops save their filters, one after another in one property, the last of its variables
abbrev pub with_saved_filters : Program → Program
with_saved_filters program = record program {
  declarations = program.declarations ++ (flag_property ∷ []);
  body = each_loop (filtered_loop program.declarations (length program.declarations)) program.body;
}
