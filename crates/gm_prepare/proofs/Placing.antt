-- A table whose iterators are placed one after another is the table by what they iterate.
use Rattle.std.proofs.Common.{◌≡◌, ◌≤◌, ◌<◌, ◌+◌, ℕ, zero, suc, Bool, true, false, List, [], ◌∷◌, ◌++◌, length, map, get_or, refl, sym, ap, ◌∙◌, arith}
use Rattle.std.specs.Prelude.{◌||◌, nat_eq, if◌then◌else◌}
use Rattle.std.proofs.Math.ListN.{set}
use Rattle.std.proofs.lemmas.Bool.{ne_eqb, eq-eqb}
use Rattle.gm_ast.specs.declared.tree.Declaration.{Declaration}
use Rattle.gm_ast.specs.declared.tree.Variable.{Variable}
use Rattle.gm_ast.specs.Ways.{is_in}
use Rattle.gm_parting.specs.Iterators.{iterates, iterator_depth, placed_from, placed_variable}
use Rattle.gm_prepare.specs.Placing.{placed, place_at, placed_each}

-- a declaration as it is
abbrev pub itself : Declaration → Declaration
itself d = d

pub map-itself : (ds : List Declaration) → map itself ds ≡ ds
map-itself [] = refl
map-itself (d ∷ ds) = ap (λ l. d ∷ l) (map-itself ds)

-- the table where no iterator is of inner loops
none-inner : (i : ℕ) (ds : List Declaration) → map (placed false) ds ≡ placed_from [] i ds
none-inner i [] = refl
none-inner i (d ∷ ds) = ap (λ l. placed false d ∷ l) (none-inner (suc i) ds)

placed-again : (b : Bool) (v : Variable) → placed_variable true (placed_variable b v) ≡ placed_variable true v
placed-again b v = by (iterates v) refl
  where
    by : (o : Bool) → iterates v ≡ o →
        (if iterates (if o then record v { depth = iterator_depth b } else v) then record (if o then record v { depth = iterator_depth b } else v) { depth = 2 } else if o then record v { depth = iterator_depth b } else v)
        ≡ (if o then record v { depth = 2 } else v)
    by true e = ap (λ (q : Bool). if q then record v { depth = 2 } else record v { depth = iterator_depth b }) e
    by false e = ap (λ (q : Bool). if q then record v { depth = 2 } else v) e

-- an iterator before the part of the table changes nothing there
before : (x : ℕ) (ys : List ℕ) (i : ℕ) (ds : List Declaration) → x < i → placed_from ys i ds ≡ placed_from (x ∷ ys) i ds
before x ys i [] l = refl
before x ys i (d ∷ ds) l =
    let other : nat_eq i x ≡ false = ne_eqb i x (λ e. omega (arith, e, l)) in
    ap (λ (o : Bool). placed (o || is_in ys i) d ∷ placed_from ys (suc i) ds) (sym other) ∙ ap (λ l. placed (nat_eq i x || is_in ys i) d ∷ l) (before x ys (suc i) ds (omega (arith, l)))

one-placed : (ys : List ℕ) (i j : ℕ) (ds : List Declaration) → place_at j (placed_from ys i ds) ≡ placed_from ((i + j) ∷ ys) i ds
one-placed ys i j [] = refl
one-placed ys i zero (d ∷ ds) =
    let same : nat_eq i (i + 0) ≡ true = eq-eqb i (i + 0) (omega arith) in
    ap (λ v. record d { variable = v } ∷ placed_from ys (suc i) ds) (placed-again (is_in ys i) d.variable)
    ∙ ap (λ (o : Bool). placed (o || is_in ys i) d ∷ placed_from ys (suc i) ds) (sym same) ∙ ap (λ l. placed (nat_eq i (i + 0) || is_in ys i) d ∷ l) (before (i + 0) ys (suc i) ds (omega arith))
one-placed ys i (suc j) (d ∷ ds) =
    let other : nat_eq i (i + suc j) ≡ false = ne_eqb i (i + suc j) (λ e. omega (arith, e)) in
    let next : suc i + j ≡ i + suc j = omega arith in
    ap (λ l. placed (is_in ys i) d ∷ l) (one-placed ys (suc i) j ds) ∙ ap (λ x. placed (is_in ys i) d ∷ placed_from (x ∷ ys) (suc i) ds) next
    ∙ ap (λ (o : Bool). placed (o || is_in ys i) d ∷ placed_from ((i + suc j) ∷ ys) (suc i) ds) (sym other)

pub all-placed : (xs : List ℕ) (ds : List Declaration) → placed_each xs (map (placed false) ds) ≡ placed_from xs 0 ds
all-placed [] ds = none-inner 0 ds
all-placed (x ∷ xs) ds =
    let same : 0 + x ≡ x = omega arith in
    ap (place_at x) (all-placed xs ds) ∙ one-placed xs 0 x ds ∙ ap (λ y. placed_from (y ∷ xs) 0 ds) same

-- the table with an element set
pub set-placed : (ds : List Declaration) (x : ℕ) (d y : Declaration) → x < length ds → y ≡ placed true (get_or ds x d) → set ds x y ≡ place_at x ds
set-placed [] x d y l e = absurd (omega arith)
set-placed (z ∷ ds) zero d y l e = ap (λ w. w ∷ ds) e
set-placed (z ∷ ds) (suc x) d y l e = ap (λ w. z ∷ w) (set-placed ds x d y (omega arith) e)

pub beyond : (ds : List Declaration) (x : ℕ) → length ds ≤ x → ds ≡ place_at x ds
beyond [] x l = refl
beyond (d ∷ ds) zero l = absurd (omega arith)
beyond (d ∷ ds) (suc x) l = ap (λ w. d ∷ w) (beyond ds x (omega arith))

-- one fewer is left, the last
last-placed : (xs : List ℕ) (x : ℕ) (ds : List Declaration) → placed_each (xs ++ (x ∷ [])) ds ≡ placed_each xs (place_at x ds)
last-placed [] x ds = refl
last-placed (y ∷ xs) x ds = ap (place_at y) (last-placed xs x ds)

pub placed-next : (x : ℕ) (xs zs : List ℕ) (ds es rs : List Declaration) → zs ≡ xs ++ (x ∷ []) → es ≡ place_at x ds → placed_each zs ds ≡ rs → placed_each xs es ≡ rs
placed-next x xs zs ds es rs p q r = ap (placed_each xs) q ∙ sym (last-placed xs x ds) ∙ ap (λ l. placed_each l ds) (sym p) ∙ r

pub placed-done : (xs : List ℕ) (ds rs : List Declaration) → length xs ≡ 0 → placed_each xs ds ≡ rs → ds ≡ rs
placed-done [] ds rs l r = r
placed-done (x ∷ xs) ds rs l r = absurd (omega arith)
