-- Rows repeated by counts, as far as a loop has come.
use Rattle.std.proofs.Common.{◌≡◌, ◌∙◌, ◌<◌, ℕ, ◌+◌, List, [], ◌∷◌, ◌++◌, refl, ap, sym, map, take, length, get_or, replicate, arith, length-take, append_assoc}
use Rattle.std.proofs.lemmas.List.{take_more, map-append, append-nil}
use Rattle.gm_kernels.proofs.Copies.{map-replicate}
use Rattle.gm_kernels.specs.Pointwise.{repeated}

repeated-push : {A : Type 0} (ns : List ℕ) (xs : List A) (n : ℕ) (x : A) → length xs ≡ length ns
    → repeated (ns ++ n ∷ []) (xs ++ x ∷ []) ≡ repeated ns xs ++ replicate n x
repeated-push [] [] n x e = append-nil (replicate n x)
repeated-push [] (y ∷ xs) n x e = absurd (omega (arith, e))
repeated-push (m ∷ ns) [] n x e = absurd (omega (arith, e))
repeated-push (m ∷ ns) (y ∷ xs) n x e =
    ap (λ l. replicate m y ++ l) (repeated-push ns xs n x (omega (arith, e)))
    ∙ sym (append_assoc (replicate m y) (repeated ns xs) (replicate n x))

-- one row more
pub repeated-more : {A : Type 0} (ns : List ℕ) (xs out next : List A) (k n : ℕ) (x : A)
    → k < length ns → length xs ≡ length ns
    → n ≡ get_or ns k 0 → x ≡ get_or xs k x
    → out ≡ repeated (take k ns) (take k xs)
    → next ≡ out ++ replicate n x
    → next ≡ repeated (take (k + 1) ns) (take (k + 1) xs)
repeated-more ns xs out next k n x lt e en ex so here =
    let o : k < length xs = omega (arith, lt, e) in
    let counts = take_more ns k 0 lt ∙ ap (λ j. take k ns ++ j ∷ []) (sym en) in
    let cells = take_more xs k x o ∙ ap (λ v. take k xs ++ v ∷ []) (sym ex) in
    here
    ∙ ap (λ l. l ++ replicate n x) so
    ∙ sym (repeated-push (take k ns) (take k xs) n x (omega (arith, length-take k ns, length-take k xs, lt, o)))
    ∙ sym (λ i. repeated (counts i) (cells i))

-- the values of repeated cells
pub repeated_values : {A B : Type 0} (f : A → B) (ns : List ℕ) (xs : List A) → map f (repeated ns xs) ≡ repeated ns (map f xs)
repeated_values f [] xs = refl
repeated_values f (n ∷ ns) [] = refl
repeated_values f (n ∷ ns) (x ∷ xs) =
    map-append f (replicate n x) (repeated ns xs)
    ∙ (λ i. map-replicate f n x i ++ repeated_values f ns xs i)
