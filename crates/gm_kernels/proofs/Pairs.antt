-- What an operation gives on rows, as far as a loop has come.
use Rattle.std.proofs.Common.{◌≡◌, ◌∙◌, ◌<◌, ℕ, ◌+◌, zero, suc, Bool, true, false, ◌||◌, List, [], ◌∷◌, ◌++◌, Option, Some, None, refl, ap, sym, map, take, length, set, get_or, if◌then◌else◌, slice_set, arith, length-take}
use Rattle.std.proofs.lemmas.List.{length-map, map_more, map_push, take_more_set}
use Rattle.gm_value.specs.declared.values.Value.{Value}
use Rattle.gm_value.specs.declared.operations.Op1.{Op1}
use Rattle.gm_value.specs.Operations.{result1}
use Rattle.gm_kernels.specs.Pointwise.{before, given, applied1, paired}

-- a value behind others, where all are there
abbrev behind : Option (List Value) → Option Value → Option (List Value)
behind (Some vs) (Some v) = Some (vs ++ v ∷ [])
behind _ _ = None

before-behind : (v : Option Value) (vs : Option (List Value)) (w : Option Value) → before v (behind vs w) ≡ behind (before v vs) w
before-behind None vs w = refl
before-behind (Some v) None w = refl
before-behind (Some v) (Some vs) None = refl
before-behind (Some v) (Some vs) (Some w) = refl

first-behind : (v : Option Value) → before v (Some []) ≡ behind (Some []) v
first-behind None = refl
first-behind (Some v) = refl

push1 : (op : Op1) (xs : List Value) (x : Value) → applied1 op (xs ++ x ∷ []) ≡ behind (applied1 op xs) (given (result1 op x))
push1 op [] x = first-behind (given (result1 op x))
push1 op (v ∷ xs) x = ap (before (given (result1 op v))) (push1 op xs x) ∙ before-behind (given (result1 op v)) (applied1 op xs) (given (result1 op x))

push2 : (rule : Value → Value → Option Value) (xs ys : List Value) (x y : Value) → length xs ≡ length ys → paired rule (xs ++ x ∷ []) (ys ++ y ∷ []) ≡ behind (paired rule xs ys) (rule x y)
push2 rule [] [] x y e = first-behind (rule x y)
push2 rule [] (w ∷ ys) x y e = absurd (omega (arith, e))
push2 rule (v ∷ xs) [] x y e = absurd (omega (arith, e))
push2 rule (v ∷ xs) (w ∷ ys) x y e =
    ap (before (rule v w)) (push2 rule xs ys x y (omega (arith, e)))
    ∙ before-behind (rule v w) (paired rule xs ys) (rule x y)

-- what is there unless something faulted, with one more
more : {R : Type 0} (to : R → Value) (out : List R) (cell : R) (k : ℕ) (faults fault : Bool)
    → k < length out
    → behind (if faults then None else Some (map to (take k out))) (if fault then None else Some (to cell))
    ≡ (if faults || fault then None else Some (map to (take (k + 1) (set out k cell))))
more to out cell k true fault lt = refl
more to out cell k false true lt = refl
more to out cell k false false lt = ap Some (sym (ap (map to) (take_more_set out k cell lt) ∙ map_push to (take k out) cell))

-- one pair more
pub pair-more : {T U R : Type 0} (rule : Value → Value → Option Value) (from : T → Value) (with_ : U → Value) (to : R → Value) (xs : List T) (ys : List U) (out : List R) (k : ℕ) (x : T) (y : U) (cell : R) (faults fault : Bool)
    → k < length xs → k < length ys → k < length out
    → x ≡ get_or xs k x → y ≡ get_or ys k y
    → paired rule (map from (take k xs)) (map with_ (take k ys)) ≡ (if faults then None else Some (map to (take k out)))
    → rule (from x) (with_ y) ≡ (if fault then None else Some (to cell))
    → paired rule (map from (take (k + 1) xs)) (map with_ (take (k + 1) ys)) ≡ (if faults || fault then None else Some (map to (take (k + 1) (set out k cell))))
pair-more rule from with_ to xs ys out k x y cell faults fault a b o ex ey so here =
    let left = map_more from xs k x a ∙ ap (λ v. map from (take k xs) ++ from v ∷ []) (sym ex) in
    let right = map_more with_ ys k y b ∙ ap (λ v. map with_ (take k ys) ++ with_ v ∷ []) (sym ey) in
    let long : length (map from (take k xs)) ≡ length (map with_ (take k ys)) =
    omega (arith, length-map (take k xs) from, length-map (take k ys) with_, length-take k xs, length-take k ys, a, b) in
    (λ i. paired rule (left i) (right i))
    ∙ push2 rule (map from (take k xs)) (map with_ (take k ys)) (from x) (with_ y) long
    ∙ (λ i. behind (so i) (here i))
    ∙ more to out cell k faults fault o

-- one cell more
pub cell-more : {T R : Type 0} (op : Op1) (from : T → Value) (to : R → Value) (xs : List T) (out : List R) (k : ℕ) (x : T) (cell : R) (faults fault : Bool)
    → k < length xs → k < length out
    → x ≡ get_or xs k x
    → applied1 op (map from (take k xs)) ≡ (if faults then None else Some (map to (take k out)))
    → given (result1 op (from x)) ≡ (if fault then None else Some (to cell))
    → applied1 op (map from (take (k + 1) xs)) ≡ (if faults || fault then None else Some (map to (take (k + 1) (set out k cell))))
cell-more op from to xs out k x cell faults fault a o ex so here =
    let taken = map_more from xs k x a ∙ ap (λ v. map from (take k xs) ++ from v ∷ []) (sym ex) in
    ap (applied1 op) taken
    ∙ push1 op (map from (take k xs)) (from x)
    ∙ (λ i. behind (so i) (here i))
    ∙ more to out cell k faults fault o
