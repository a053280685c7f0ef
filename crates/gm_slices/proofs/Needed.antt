-- What expressions and targets tell and touch, as walks over sets of variables come to it.
use Rattle.std.proofs.Common.{◌≡◌, ℕ, Bool, true, false, List, [], ◌∷◌, ◌++◌, refl, sym, ap, ◌∙◌, Option, Some, None}
use Rattle.std.proofs.Math.Path.{fun_ext}
use Rattle.std.specs.Prelude.{◌||◌, nat_eq}
use Rattle.std.specs.List.{list_any}
use Rattle.std.proofs.lemmas.List.Folds.{list_any-append}
use Rattle.gm_ast.specs.declared.tree.Target.{Target}
use Rattle.gm_ast.specs.declared.tree.Target.TheVariants as T
use Rattle.gm_ast.specs.Program.{Expr, Const, Var, Property, EdgeProperty, Degree, NodeCount, EdgeCount, Live, Unary, Binary, Both, Either, Choose, Folded}
use Rattle.gm_ast.specs.Ways.{is_in}
use Rattle.gm_forms.specs.Sharing.{told_in, sights_in_option, sights_in_all, variables_of}
use Rattle.gm_slices.specs.Needs.{with_member, with_told, with_all_told, with_told_option, is_touched}

-- ---- lists as sets

or-swap : (a b c : Bool) → b || (a || c) ≡ (a || b) || c
or-swap true true c = refl
or-swap true false c = refl
or-swap false b c = refl

or-none : (a b : Bool) → a || b ≡ (a || false) || b
or-none true b = refl
or-none false b = refl

or-assoc : (a b c : Bool) → (a || b) || c ≡ a || (b || c)
or-assoc true b c = refl
or-assoc false b c = refl

is_in-both : (xs ys : List ℕ) (y : ℕ) → is_in (xs ++ ys) y ≡ is_in xs y || is_in ys y
is_in-both [] ys y = refl
is_in-both (x ∷ xs) ys y = ap (λ b. nat_eq y x || b) (is_in-both xs ys y) ∙ sym (or-assoc (nat_eq y x) (is_in xs y) (is_in ys y))

-- the variables of a list, besides those of a set
abbrev pub over : List ℕ → (ℕ → Bool) → (ℕ → Bool)
over xs m y = is_in xs y || m y

over-both : (xs ys : List ℕ) (m : ℕ → Bool) → over ys (over xs m) ≡ over (xs ++ ys) m
over-both xs ys m = fun_ext (λ y. or-swap (is_in xs y) (is_in ys y) (m y) ∙ ap (λ b. b || m y) (sym (is_in-both xs ys y)))

pub over-one : (x : ℕ) (m : ℕ → Bool) → with_member x m ≡ over (x ∷ []) m
over-one x m = fun_ext (λ y. or-none (nat_eq y x) (m y))

pub over-list : (xs ys : List ℕ) → over xs (is_in ys) ≡ is_in (xs ++ ys)
over-list xs ys = fun_ext (λ y. sym (is_in-both xs ys y))

-- two lists, one after the other
pub both : (xs ys : List ℕ) (f g : (ℕ → Bool) → (ℕ → Bool)) (m : ℕ → Bool) → f m ≡ over xs m → ((k : ℕ → Bool) → g k ≡ over ys k) → g (f m) ≡ over (xs ++ ys) m
both xs ys f g m e h = ap g e ∙ h (over xs m) ∙ over-both xs ys m

-- ---- what is told

pub told-same : (e : Expr) (m : ℕ → Bool) → with_told e m ≡ over (told_in e) m
told-same (Const v) m = refl
told-same (Var x at) m = over-one x m
told-same (Property x p at) m = over-one x m
told-same (EdgeProperty x p at) m = refl
told-same (Degree d x at) m = over-one x m
told-same NodeCount m = refl
told-same EdgeCount m = refl
told-same (Live x at) m = over-one x m
told-same (Unary op at e) m = told-same e m
told-same (Binary op at a b) m = both (told_in a) (told_in b) (with_told a) (with_told b) m (told-same a m) (told-same b)
told-same (Both a b) m = both (told_in a) (told_in b) (with_told a) (with_told b) m (told-same a m) (told-same b)
told-same (Either a b) m = both (told_in a) (told_in b) (with_told a) (with_told b) m (told-same a m) (told-same b)
told-same (Choose c a b) m =
    both (told_in c) (told_in a ++ told_in b) (with_told c) (λ k. with_told b (with_told a k)) m (told-same c m)
    (λ k. both (told_in a) (told_in b) (with_told a) (with_told b) k (told-same a k) (told-same b))
told-same (Folded f h test e) m =
    both (h.owner ∷ []) (told_in test ++ told_in e) (with_member h.owner) (λ k. with_told e (with_told test k)) m (over-one h.owner m)
    (λ k. both (told_in test) (told_in e) (with_told test) (with_told e) k (told-same test k) (told-same e))

pub all-told : (es : List Expr) (m : ℕ → Bool) → with_all_told es m ≡ over (sights_in_all es).scalars m
all-told [] m = refl
all-told (e ∷ es) m = both (told_in e) (sights_in_all es).scalars (with_told e) (with_all_told es) m (told-same e m) (all-told es)

pub option-told : (e : Option Expr) (m : ℕ → Bool) → with_told_option e m ≡ over (sights_in_option e).scalars m
option-told None m = refl
option-told (Some e) m = told-same e m

-- ---- what is touched

pub target-touched : (m : ℕ → Bool) (ts : List Target) → list_any (is_touched m) ts ≡ list_any m (variables_of ts)
target-touched m [] = refl
target-touched m (T.Scalar x at ∷ ts) = ap (λ b. m x || b) (target-touched m ts)
target-touched m (T.Property x p at ∷ ts) = ap (λ b. m p || b) (target-touched m ts)

pub single : (b : Bool) → b ≡ b || false
single true = refl
single false = refl

pub two : (m : ℕ → Bool) (xs ys : List ℕ) (a b : Bool) → a ≡ list_any m xs → b ≡ list_any m ys → a || b ≡ list_any m (xs ++ ys)
two m xs ys a b e f = ap (λ c. c || b) e ∙ ap (λ c. list_any m xs || c) f ∙ sym (list_any-append m xs ys)
