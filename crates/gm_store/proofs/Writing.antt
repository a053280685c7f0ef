-- Writes of what is held are the writes of the source meaning's store.
use Rattle.std.proofs.Common.{◌≡◌, ◌<◌, ℕ, zero, suc, Bool, true, false, nat_eq, ◌&&◌, if◌then◌else◌, List, [], ◌∷◌, ◌++◌, length, get_or, set, replicate, map, refl, ap, ◌∙◌, arith, pos}
use Rattle.std.proofs.Math.Path.{fun_ext}
use Rattle.std.proofs.lemmas.Bool.{eqb-true}
use Rattle.std.proofs.lemmas.Bool.Decides.{nat_tests}
use Rattle.std.proofs.lemmas.Grind.{common_steps}
use Rattle.gm_value.specs.declared.values.Value.{Value}
use Rattle.gm_value.specs.declared.values.Value.TheVariants.{I32}
use Rattle.gm_semantics.specs.declared.slots.Slot.TheVariants.{Scalar, Node}
use Rattle.gm_semantics.specs.Stores as S
use Rattle.gm_store.specs.Held.{Row, Held, uniform_row, value_in, with_value, no_row, scalar_of, node_of, store_of, put, replaced}

-- an element after a write, by whether it is the one that was written
pub get_or-set_by : {X : Type 0} (xs : List X) (i : ℕ) (v d : X) (j : ℕ) → i < length xs → get_or (set xs i v) j d ≡ (if nat_eq i j then v else get_or xs j d)
get_or-set_by xs i v d j h = grind (arith, nat_tests, common_steps)

-- an element after a push, by whether it is the one that was pushed
pub get_or-push_by : {X : Type 0} (xs : List X) (v d : X) (j : ℕ) → get_or (xs ++ v ∷ []) j d ≡ (if nat_eq (length xs) j then v else get_or xs j d)
get_or-push_by xs v d j = grind (arith, nat_tests, common_steps)

-- copies of a value have it everywhere, where it also stands for what they lack
pub get_or-same : {X : Type 0} (n : ℕ) (v : X) (j : ℕ) → get_or (replicate n v) j v ≡ v
get_or-same zero v j = refl
get_or-same (suc n) v zero = refl
get_or-same (suc n) v (suc j) = get_or-same n v j

-- a scalar is written
pub scalar-written : (edge : ℕ → ℕ → Value) (h : Held) (x : ℕ) (v : Value) → x < length h.scalars →
    store_of edge (put h (Scalar x) v) ≡ S.write (store_of edge h) (Scalar x) v
scalar-written edge h x v within =
    ap (λ f. let s : S.Store = record { scalar = f; node = node_of h; edge = edge } in s) (fun_ext (λ y. get_or-set_by h.scalars x v (I32 (pos 0)) y within))

-- a property is written at a node
pub node-written : (edge : ℕ → ℕ → Value) (h : Held) (p n : ℕ) (v : Value) → p < length h.rows → n < length (get_or h.rows p no_row).values →
    store_of edge (put h (Node p n) v) ≡ S.write (store_of edge h) (Node p n) v
node-written edge h p n v in_rows in_row =
    ap (λ f. let s : S.Store = record { scalar = scalar_of h; node = f; edge = edge } in s)
    (fun_ext (λ q. fun_ext (λ m. ap (λ r. value_in r m) (get_or-set_by h.rows p written no_row q in_rows) ∙ by_test q m (nat_eq p q) refl)))
  where
    row : Row
    row = get_or h.rows p no_row

    written : Row
    written = with_value row n v

    by_test : (q m : ℕ) (b : Bool) → nat_eq p q ≡ b →
        value_in (if b then written else get_or h.rows q no_row) m ≡ (if b && nat_eq n m then v else node_of h q m)
    by_test q m true same =
        get_or-set_by row.values n v row.other m in_row ∙ ap (λ k. if nat_eq n m then v else node_of h k m) (eqb-true p q same)
    by_test q m false other = refl

-- a test chooses a row of one value, or another row
uniform-by : (nodes : ℕ) (v : Value) (row : Row) (m : ℕ) (b : Bool) → value_in (if b then uniform_row nodes v else row) m ≡ (if b then v else value_in row m)
uniform-by nodes v row m true = get_or-same nodes v m
uniform-by nodes v row m false = refl

-- a property has one value everywhere
pub row-filled : (edge : ℕ → ℕ → Value) (h : Held) (p : ℕ) (v : Value) → p < length h.rows →
    store_of edge (record h { rows = set h.rows p (uniform_row h.nodes v) }) ≡ S.fill (store_of edge h) p v
row-filled edge h p v within =
    ap (λ f. let s : S.Store = record { scalar = scalar_of h; node = f; edge = edge } in s)
    (fun_ext (λ q. fun_ext (λ m. ap (λ r. value_in r m) (get_or-set_by h.rows p (uniform_row h.nodes v) no_row q within) ∙ uniform-by h.nodes v (get_or h.rows q no_row) m (nat_eq p q))))

-- what a longer default says of an element that there is, and of one that there is not
pub get_or-full : {X : Type 0} (xs ys : List X) (n : ℕ) (d : X) → length xs ≡ length ys → get_or xs n d ≡ get_or xs n (get_or ys n d)
get_or-full [] [] n d e = refl
get_or-full [] (y ∷ ys) n d e = absurd (omega arith)
get_or-full (x ∷ xs) [] n d e = absurd (omega arith)
get_or-full (x ∷ xs) (y ∷ ys) zero d e = refl
get_or-full (x ∷ xs) (y ∷ ys) (suc n) d e = get_or-full xs ys n d (omega arith)

-- a property has other values
pub row-replaced : (edge : ℕ → ℕ → Value) (h : Held) (p : ℕ) (values : List Value) → p < length h.rows → length values ≡ length (get_or h.rows p no_row).values →
    store_of edge (record h { rows = set h.rows p (record { values = values; other = (get_or h.rows p no_row).other }) }) ≡ replaced (store_of edge h) p values
row-replaced edge h p values within full =
    ap (λ f. let s : S.Store = record { scalar = scalar_of h; node = f; edge = edge } in s)
    (fun_ext (λ q. fun_ext (λ m. ap (λ r. value_in r m) (get_or-set_by h.rows p other no_row q within) ∙ by_test q m (nat_eq p q) refl)))
  where
    other : Row
    other = record { values = values; other = (get_or h.rows p no_row).other }

    by_test : (q m : ℕ) (b : Bool) → nat_eq p q ≡ b →
        value_in (if b then other else get_or h.rows q no_row) m ≡ (if b then get_or values m (node_of h q m) else node_of h q m)
    by_test q m true same =
        get_or-full values (get_or h.rows p no_row).values m (get_or h.rows p no_row).other full
        ∙ ap (λ k. get_or values m (node_of h k m)) (eqb-true p q same)
    by_test q m false away = refl

-- a property is added, with one value everywhere
pub row-added : (edge : ℕ → ℕ → Value) (h : Held) (v : Value) →
    store_of edge (record h { rows = h.rows ++ uniform_row h.nodes v ∷ [] }) ≡ S.fill (store_of edge h) (length h.rows) v
row-added edge h v =
    ap (λ f. let s : S.Store = record { scalar = scalar_of h; node = f; edge = edge } in s)
    (fun_ext (λ q. fun_ext (λ m. ap (λ r. value_in r m) (get_or-push_by h.rows (uniform_row h.nodes v) no_row q) ∙ uniform-by h.nodes v (get_or h.rows q no_row) m (nat_eq (length h.rows) q))))
