-- Filters and conditions that may be asked again at each piece of a loop's body.
use Rattle.std.specs.Prelude.{ℕ, nat_eq, nat_lt, Bool, true, ◌&&◌, ◌||◌, not, List, [], ◌∷◌, ◌++◌}
use Rattle.std.specs.List.{list_all}
use Rattle.gm_ast.specs.declared.tree.Declaration.{Declaration}
use Rattle.gm_ast.specs.Program.{Expr, Stmt, Then, If, Program}
use Rattle.gm_ast.specs.Ways.{is_in}
use Rattle.gm_forms.specs.Cut.{is_mask, is_own_loop, touched}
use Rattle.gm_forms.specs.Forms.{depth_at}
use Rattle.gm_forms.specs.Sharing.{told_in}
use Rattle.gm_loop_laws.specs.Masks.{spares}
use Rattle.gm_dissect.specs.Conditions.{holds_cut}
use Rattle.gm_cut.specs.Parts.{each_passes}

-- whether a variable is a loop's iterator, or declared outside of the loop
abbrev pub is_outside : List Declaration → ℕ → ℕ → Bool
is_outside ds n x = nat_eq x n || nat_eq (depth_at ds x) 0

-- whether it is that, or declared in no loop within it
abbrev pub is_shallow : List Declaration → ℕ → ℕ → Bool
is_shallow ds n x = nat_eq x n || nat_lt (depth_at ds x) 2

-- whether an expression is a mask that reads none of some variables, and names nothing that is declared in the loop, so that it holds the same wherever it is asked
abbrev pub is_lasting : List Declaration → ℕ → List ℕ → Expr → Bool
is_lasting ds n xs e = is_mask n e && (spares xs e && list_all (is_outside ds n) (told_in e))

-- whether the condition of each If of a body that holds what is cut from the rest lasts over its branches
abbrev pub conditions_last : List Declaration → ℕ → Stmt → Bool
conditions_last ds n (Then a b) = conditions_last ds n a && conditions_last ds n b
conditions_last ds n (If k c a b) =
    (not (holds_cut n a || holds_cut n b) || is_lasting ds n (touched a ++ touched b) c) && (conditions_last ds n a && conditions_last ds n b)
conditions_last ds n _ = true

-- whether an expression is a mask that reads none of some variables, and names nothing that is declared in an inner loop, so that it holds the same wherever it is asked in an iteration
abbrev pub may_be_repeated : List Declaration → ℕ → List ℕ → Expr → Bool
may_be_repeated ds n xs e = is_mask n e && (spares xs e && list_all (is_shallow ds n) (told_in e))

-- whether the condition of each If of a body that holds what is cut may be repeated over its branches
abbrev pub conditions_repeat : List Declaration → ℕ → Stmt → Bool
conditions_repeat ds n (Then a b) = conditions_repeat ds n a && conditions_repeat ds n b
conditions_repeat ds n (If k c a b) = (not (holds_cut n a || holds_cut n b) || may_be_repeated ds n (touched a ++ touched b) c) && (conditions_repeat ds n a && conditions_repeat ds n b)
conditions_repeat ds n _ = true

-- whether each loop of a program that is not of own statements has a filter that lasts over its body
abbrev pub has_lasting_filters : Program → Bool
has_lasting_filters p = each_passes (λ k at h test body. is_own_loop h.iterator body || is_lasting p.declarations h.iterator (touched body) test) p.body

-- whether the conditions of each such loop last
abbrev pub has_lasting_conditions : Program → Bool
has_lasting_conditions p = each_passes (λ k at h test body. is_own_loop h.iterator body || conditions_last p.declarations h.iterator body) p.body

-- whether they may be repeated
abbrev pub has_repeatable_conditions : Program → Bool
has_repeatable_conditions p = each_passes (λ k at h test body. is_own_loop h.iterator body || conditions_repeat p.declarations h.iterator body) p.body

-- the statement numbers of all Ifs of a body
abbrev pub if_numbers : Stmt → List ℕ
if_numbers (Then a b) = if_numbers a ++ if_numbers b
if_numbers (If k c a b) = k.statement ∷ (if_numbers a ++ if_numbers b)
if_numbers _ = []

-- whether each If of a body that holds what is cut has another number than those within it
abbrev pub ifs_are_numbered : ℕ → Stmt → Bool
ifs_are_numbered n (Then a b) = ifs_are_numbered n a && ifs_are_numbered n b
ifs_are_numbered n (If k c a b) =
    (not (holds_cut n a || holds_cut n b) || not (is_in (if_numbers a ++ if_numbers b) k.statement)) && (ifs_are_numbered n a && ifs_are_numbered n b)
ifs_are_numbered n _ = true

-- whether those of each loop that is not of own statements have
abbrev pub has_numbered_ifs : Program → Bool
has_numbered_ifs p = each_passes (λ k at h test body. is_own_loop h.iterator body || ifs_are_numbered h.iterator body) p.body
