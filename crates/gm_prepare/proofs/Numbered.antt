-- What the walk asks of the numbers of Ifs is what the definition does.
use Rattle.std.proofs.Common.{◌≡◌, ℕ, Bool, List, [], ◌∷◌, ◌++◌, refl, sym, ap, ◌∙◌}
use Rattle.std.specs.Prelude.{true, false, ◌&&◌, ◌||◌, not, nat_eq}
use Rattle.gm_base.specs.declared.places.Place.{Place}
use Rattle.gm_ast.specs.declared.tree.Head.{Head}
use Rattle.gm_ast.specs.declared.tree.Key.{Key}
use Rattle.gm_ast.specs.Program.{Expr, Stmt, Then, Foreach, For, If, While, Do}
use Rattle.gm_ast.specs.Ways.{is_in}
use Rattle.gm_cut.proofs.Grouped.{two-same}
use Rattle.gm_cut.specs.Parts.{each_passes}
use Rattle.gm_dissect.specs.Conditions.{holds_cut}
use Rattle.gm_forms.specs.Cut.{is_own_loop}
use Rattle.gm_parting.specs.Lasting.{if_numbers, ifs_are_numbered}
use Rattle.gm_prepare.specs.Numbered.{has_number, differs, all_differ, is_numbered}

or-assoc : (a b c : Bool) → (a || b) || c ≡ a || (b || c)
or-assoc true b c = refl
or-assoc false b c = refl

in-both : (xs ys : List ℕ) (x : ℕ) → is_in (xs ++ ys) x ≡ is_in xs x || is_in ys x
in-both [] ys x = refl
in-both (z ∷ xs) ys x = ap (λ b. nat_eq x z || b) (in-both xs ys x) ∙ sym (or-assoc (nat_eq x z) (is_in xs x) (is_in ys x))

number-in : (x : ℕ) (s : Stmt) → has_number x s ≡ is_in (if_numbers s) x
number-in x (Then a b) =
    two-same (λ u v. u || v) (has_number x a) (is_in (if_numbers a) x) (has_number x b) (is_in (if_numbers b) x) (number-in x a) (number-in x b) ∙ sym (in-both (if_numbers a) (if_numbers b) x)
number-in x (If k c a b) =
    ap (λ r. nat_eq x k.statement || r)
    (two-same (λ u v. u || v) (has_number x a) (is_in (if_numbers a) x) (has_number x b) (is_in (if_numbers b) x) (number-in x a) (number-in x b) ∙ sym (in-both (if_numbers a) (if_numbers b) x))
number-in x s = refl

all-differ-same : (n : ℕ) (s : Stmt) → all_differ n s ≡ ifs_are_numbered n s
all-differ-same n (Then a b) = two-same (λ u v. u && v) (all_differ n a) (ifs_are_numbered n a) (all_differ n b) (ifs_are_numbered n b) (all-differ-same n a) (all-differ-same n b)
all-differ-same n (If k c a b) =
    two-same (λ u v. u && v) (differs n k a b) (not (holds_cut n a || holds_cut n b) || not (is_in (if_numbers a ++ if_numbers b) k.statement)) (all_differ n a && all_differ n b) (ifs_are_numbered n a && ifs_are_numbered n b)
    (ap (λ r. not (holds_cut n a || holds_cut n b) || not r)
    (two-same (λ u v. u || v) (has_number k.statement a) (is_in (if_numbers a) k.statement) (has_number k.statement b) (is_in (if_numbers b) k.statement) (number-in k.statement a) (number-in k.statement b)
    ∙ sym (in-both (if_numbers a) (if_numbers b) k.statement)))
    (two-same (λ u v. u && v) (all_differ n a) (ifs_are_numbered n a) (all_differ n b) (ifs_are_numbered n b) (all-differ-same n a) (all-differ-same n b))
all-differ-same n s = refl

abbrev asked : Key → Place → Head → Expr → Stmt → Bool
asked k at h test body = is_own_loop h.iterator body || ifs_are_numbered h.iterator body

pub numbered-same : (s : Stmt) → each_passes is_numbered s ≡ each_passes asked s
numbered-same (Then a b) = two-same (λ u v. u && v) (each_passes is_numbered a) (each_passes asked a) (each_passes is_numbered b) (each_passes asked b) (numbered-same a) (numbered-same b)
numbered-same (Foreach k at h test body) = ap (λ r. is_own_loop h.iterator body || r) (all-differ-same h.iterator body)
numbered-same (For k at h test body) = numbered-same body
numbered-same (If k c a b) = two-same (λ u v. u && v) (each_passes is_numbered a) (each_passes asked a) (each_passes is_numbered b) (each_passes asked b) (numbered-same a) (numbered-same b)
numbered-same (While k at c body) = numbered-same body
numbered-same (Do k at body c) = numbered-same body
numbered-same s = refl
