-- Which properties a part of a search changes while it reads them at other levels: it reads copies of these.
use Rattle.std.specs.Prelude.{ℕ, suc, nat_eq, Bool, true, false, ◌&&◌, ◌||◌, if◌then◌else◌, List, [], ◌∷◌, map, Option, Some, None, option_map, slice_index_or, slice_set, replicate}
use Rattle.gm_ast.specs.declared.tree.Domain.{Domain}
use Rattle.gm_ast.specs.declared.tree.Domain.TheVariants.{Nodes, OutNbrs, InNbrs, UpNbrs, DownNbrs}
use Rattle.gm_ast.specs.declared.tree.Target.{Target}
use Rattle.gm_ast.specs.declared.tree.Target.TheVariants as T
use Rattle.gm_ast.specs.Loops.{asks_levels}
use Rattle.gm_ast.specs.Program.{Expr, Property, Unary, Binary, Both, Either, Choose, Folded, Stmt, Then, Declare, Assign, Combine, Foreach, If}
use Rattle.gm_bfs.specs.declared.fresh.Fresh.{Fresh}
use Rattle.gm_bfs.specs.Variables.{copy_of}

-- whether a variable is marked in a table; one beyond it is not
abbrev pub is_marked : List Bool → ℕ → Bool
is_marked marks p = slice_index_or marks p false

-- a table with one more variable marked
abbrev pub mark : ℕ → List Bool → List Bool
mark p marks = slice_set marks p true

-- the property of a target marked
abbrev pub mark_target : Target → List Bool → List Bool
mark_target (T.Scalar x at) marks = marks
mark_target (T.Property x p at) marks = mark p marks

-- the properties of targets marked
abbrev pub mark_targets : List Target → List Bool → List Bool
mark_targets [] marks = marks
mark_targets (t ∷ ts) marks = mark_targets ts (mark_target t marks)

-- the properties marked that a body assigns or reduces
abbrev pub mark_changes : Stmt → List Bool → List Bool
mark_changes (Then a b) marks = mark_changes b (mark_changes a marks)
mark_changes (Assign k t e) marks = mark_target t marks
mark_changes (Combine k total r ts es) marks = mark_targets ts marks
mark_changes (If k c a b) marks = mark_changes b (mark_changes a marks)
mark_changes (Foreach k at h test body) marks = mark_changes body marks
mark_changes _ marks = marks

-- a property marked where it is read through an iterator and is changed
abbrev pub mark_read : List Bool → ℕ → ℕ → ℕ → List Bool → List Bool
mark_read changed w x p marks = if nat_eq x w && is_marked changed p then mark p marks else marks

-- the changed properties marked that an expression reads through an iterator
abbrev pub mark_reads : List Bool → ℕ → Expr → List Bool → List Bool
mark_reads changed w (Property x p at) marks = mark_read changed w x p marks
mark_reads changed w (Unary op at e) marks = mark_reads changed w e marks
mark_reads changed w (Binary op at a b) marks = mark_reads changed w b (mark_reads changed w a marks)
mark_reads changed w (Both a b) marks = mark_reads changed w b (mark_reads changed w a marks)
mark_reads changed w (Either a b) marks = mark_reads changed w b (mark_reads changed w a marks)
mark_reads changed w (Choose c a b) marks = mark_reads changed w b (mark_reads changed w a (mark_reads changed w c marks))
mark_reads changed w (Folded f h test e) marks = mark_reads changed w e (mark_reads changed w test marks)
mark_reads changed w _ marks = marks

-- the same of an expression that may be absent, and of several
abbrev pub mark_option : List Bool → ℕ → Option Expr → List Bool → List Bool
mark_option changed w None marks = marks
mark_option changed w (Some e) marks = mark_reads changed w e marks

abbrev pub mark_all : List Bool → ℕ → List Expr → List Bool → List Bool
mark_all changed w [] marks = marks
mark_all changed w (e ∷ es) marks = mark_all changed w es (mark_reads changed w e marks)

-- the same of the body of an inner loop
abbrev pub mark_inner : List Bool → ℕ → Stmt → List Bool → List Bool
mark_inner changed w (Then a b) marks = mark_inner changed w b (mark_inner changed w a marks)
mark_inner changed w (Declare k x e) marks = mark_option changed w e marks
mark_inner changed w (Assign k t e) marks = mark_reads changed w e marks
mark_inner changed w (Combine k total r ts es) marks = mark_all changed w es marks
mark_inner changed w (If k c a b) marks = mark_inner changed w b (mark_inner changed w a (mark_reads changed w c marks))
mark_inner changed w _ marks = marks

-- the changed properties marked that a body reads at other levels
abbrev pub mark_levels : List Bool → Stmt → List Bool → List Bool
mark_levels changed (Then a b) marks = mark_levels changed b (mark_levels changed a marks)
mark_levels changed (If k c a b) marks = mark_levels changed b (mark_levels changed a marks)
mark_levels changed (Foreach k at h test body) marks =
    if asks_levels h.domain then mark_inner changed h.iterator body (mark_reads changed h.iterator test marks) else marks
mark_levels changed _ marks = marks

-- the side of a level on which neighbours are asked for
abbrev pub is_upward : Domain → Bool
is_upward UpNbrs = true
is_upward _ = false

abbrev pub is_downward : Domain → Bool
is_downward DownNbrs = true
is_downward _ = false

-- whether a body has an inner loop over a range that passes a test
abbrev pub has_range : (Domain → Bool) → Stmt → Bool
has_range test (Then a b) = has_range test a || has_range test b
has_range test (If k c a b) = has_range test a || has_range test b
has_range test (Foreach k at h filter body) = test h.domain
has_range test _ = false

-- whether a part of a search asks for the level above, and for the one below
abbrev pub asks_up : Stmt → Bool
asks_up = has_range is_upward

abbrev pub asks_down : Stmt → Bool
asks_down = has_range is_downward

-- no variable of so many marked
abbrev pub no_marks : ℕ → List Bool
no_marks count = replicate count false

-- what a part copies, marked among so many variables: the properties that it changes and reads at other levels. Without such reads the table is empty
abbrev pub copied : ℕ → Stmt → List Bool
copied count body =
    if asks_up body || asks_down body then mark_levels (mark_changes body (no_marks count)) body (no_marks count) else []

-- what is read through a variable: the copy, where the variable is the iterator of neighbours at another level and the property is copied
abbrev pub seen_as : Fresh → List Bool → ℕ → ℕ → ℕ → ℕ
seen_as f marks w x p = if nat_eq x w && is_marked marks p then copy_of f p else p

-- an expression that reads copies through an iterator
abbrev pub reading : Fresh → List Bool → ℕ → Expr → Expr
reading f marks w (Property x p at) = Property x (seen_as f marks w x p) at
reading f marks w (Unary op at e) = Unary op at (reading f marks w e)
reading f marks w (Binary op at a b) = Binary op at (reading f marks w a) (reading f marks w b)
reading f marks w (Both a b) = Both (reading f marks w a) (reading f marks w b)
reading f marks w (Either a b) = Either (reading f marks w a) (reading f marks w b)
reading f marks w (Choose c a b) = Choose (reading f marks w c) (reading f marks w a) (reading f marks w b)
reading f marks w (Folded g h test e) = Folded g h (reading f marks w test) (reading f marks w e)
reading f marks w e = e

-- the body of an inner loop that reads copies through its iterator
abbrev pub inner_reading : Fresh → List Bool → ℕ → Stmt → Stmt
inner_reading f marks w (Then a b) = Then (inner_reading f marks w a) (inner_reading f marks w b)
inner_reading f marks w (Declare k x e) = Declare k x (option_map (reading f marks w) e)
inner_reading f marks w (Assign k t e) = Assign k t (reading f marks w e)
inner_reading f marks w (Combine k total r ts es) = Combine k total r ts (map (reading f marks w) es)
inner_reading f marks w (If k c a b) = If k (reading f marks w c) (inner_reading f marks w a) (inner_reading f marks w b)
inner_reading f marks w s = s
