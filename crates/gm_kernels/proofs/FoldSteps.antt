-- Values folded into others, as far as a loop has come.
use Rattle.std.proofs.Common.{◌≡◌, ◌∙◌, ◌<◌, ℕ, ◌+◌, Bool, true, false, ◌||◌, List, [], ◌∷◌, ◌++◌, Option, Some, None, refl, ap, sym, map, take, length, set, get_or, if◌then◌else◌, arith, length-take}
use Rattle.std.specs.Option.{option_map, option_and_then}
use Rattle.std.proofs.lemmas.List.{take_more, map_more, map-set, get_or-map, length-map}
use Rattle.gm_value.specs.declared.values.Value.{Value}
use Rattle.gm_value.specs.declared.reductions.Reduce.{Reduce}
use Rattle.gm_kernels.specs.Folding.{folded, fold_in, folded_at, folded_all}

-- two steps one after another
and_then_both : {A B C : Type 0} (o : Option A) (f : A → Option B) (g : B → Option C) → option_and_then (λ a. option_and_then g (f a)) o ≡ option_and_then g (option_and_then f o)
and_then_both None f g = refl
and_then_both (Some a) f g = refl

-- a step that goes on with what there is
last : {A : Type 0} (o : Option A) → option_and_then (λ a. Some a) o ≡ o
last None = refl
last (Some a) = refl

-- one value more at the end
at-push : (r : Reduce) (xs : List Value) (ks : List ℕ) (vs : List Value) (k : ℕ) (v : Value) → length vs ≡ length ks
    → folded_at r xs (ks ++ k ∷ []) (vs ++ v ∷ []) ≡ option_and_then (λ next. fold_in r next k v) (folded_at r xs ks vs)
at-push r xs [] [] k v e = last (fold_in r xs k v)
at-push r xs [] (w ∷ vs) k v e = absurd (omega (arith, e))
at-push r xs (j ∷ ks) [] k v e = absurd (omega (arith, e))
at-push r xs (j ∷ ks) (w ∷ vs) k v e =
    ap (λ f. option_and_then f (fold_in r xs j w)) (λ i next. at-push r next ks vs k v (omega (arith, e)) i)
    ∙ and_then_both (fold_in r xs j w) (λ next. folded_at r next ks vs) (λ next. fold_in r next k v)

-- a cell written where nothing faulted
written : {T : Type 0} (to : T → Value) (cells : List T) (k : ℕ) (cell : T) (fault : Bool)
    → option_map (λ new. set (map to cells) k new) (if fault then None else Some (to cell)) ≡ (if fault then None else Some (map to (set cells k cell)))
written to cells k cell true = refl
written to cells k cell false = ap Some (sym (map-set to cells k cell))

-- a value folded into one of cells
in-cells : {T : Type 0} (r : Reduce) (to : T → Value) (cells : List T) (k : ℕ) (x cell : T) (v : Value) (fault : Bool)
    → k < length cells → x ≡ get_or cells k x
    → folded r (to x) v ≡ (if fault then None else Some (to cell))
    → fold_in r (map to cells) k v ≡ (if fault then None else Some (map to (set cells k cell)))
in-cells r to cells k x cell v fault lt ex here =
    let held : get_or (map to cells) k v ≡ to x = get_or-map to cells k x v lt ∙ ap to (sym ex) in
    ap (λ h. option_map (λ new. set (map to cells) k new) (folded r h v)) held
    ∙ ap (option_map (λ new. set (map to cells) k new)) here
    ∙ written to cells k cell fault

-- the same where nothing faulted before
after : {T : Type 0} (r : Reduce) (to : T → Value) (now : List T) (k : ℕ) (x cell : T) (v : Value) (faults fault : Bool)
    → k < length now → x ≡ get_or now k x
    → folded r (to x) v ≡ (if fault then None else Some (to cell))
    → option_and_then (λ next. fold_in r next k v) (if faults then None else Some (map to now)) ≡ (if faults || fault then None else Some (map to (set now k cell)))
after r to now k x cell v true fault within ex here = refl
after r to now k x cell v false fault within ex here = in-cells r to now k x cell v fault within ex here

-- one value more at a place
pub at-more : {T V : Type 0} (r : Reduce) (to : T → Value) (from : V → Value) (old now : List T) (places : List ℕ) (values : List V) (n k : ℕ) (x cell : T) (y : V) (faults fault : Bool)
    → n < length places → length values ≡ length places → k < length now
    → k ≡ get_or places n 0 → y ≡ get_or values n y → x ≡ get_or now k x
    → folded_at r (map to old) (take n places) (map from (take n values)) ≡ (if faults then None else Some (map to now))
    → folded r (to x) (from y) ≡ (if fault then None else Some (to cell))
    → folded_at r (map to old) (take (n + 1) places) (map from (take (n + 1) values)) ≡ (if faults || fault then None else Some (map to (set now k cell)))
at-more r to from old now places values n k x cell y faults fault lt same within ek ey ex so here =
    let o : n < length values = omega (arith, lt, same) in
    let there = take_more places n 0 lt ∙ ap (λ j. take n places ++ j ∷ []) (sym ek) in
    let more = map_more from values n y o ∙ ap (λ v. map from (take n values) ++ from v ∷ []) (sym ey) in
    (λ i. folded_at r (map to old) (there i) (more i))
    ∙ at-push r (map to old) (take n places) (map from (take n values)) k (from y)
    (omega (arith, length-map (take n values) from, length-take n places, length-take n values, lt, o))
    ∙ ap (option_and_then (λ next. fold_in r next k (from y))) so
    ∙ after r to now k x cell (from y) faults fault within ex here

-- all of some values and one more
all-push : (r : Reduce) (held : Value) (vs : List Value) (v : Value) → folded_all r held (vs ++ v ∷ []) ≡ option_and_then (λ next. folded r next v) (folded_all r held vs)
all-push r held [] v = last (folded r held v)
all-push r held (w ∷ vs) v =
    ap (λ f. option_and_then f (folded r held w)) (λ i next. all-push r next vs v i)
    ∙ and_then_both (folded r held w) (λ next. folded_all r next vs) (λ next. folded r next v)

-- the same where nothing faulted before
joined : {T : Type 0} (r : Reduce) (to : T → Value) (now cell : T) (v : Value) (faults fault : Bool)
    → folded r (to now) v ≡ (if fault then None else Some (to cell))
    → option_and_then (λ next. folded r next v) (if faults then None else Some (to now)) ≡ (if faults || fault then None else Some (to cell))
joined r to now cell v true fault here = refl
joined r to now cell v false fault here = here

-- one value more
pub all-more : {T V : Type 0} (r : Reduce) (to : T → Value) (from : V → Value) (first now cell : T) (values : List V) (n : ℕ) (y : V) (faults fault : Bool)
    → n < length values → y ≡ get_or values n y
    → folded_all r (to first) (map from (take n values)) ≡ (if faults then None else Some (to now))
    → folded r (to now) (from y) ≡ (if fault then None else Some (to cell))
    → folded_all r (to first) (map from (take (n + 1) values)) ≡ (if faults || fault then None else Some (to cell))
all-more r to from first now cell values n y faults fault lt ey so here =
    ap (folded_all r (to first)) (map_more from values n y lt ∙ ap (λ v. map from (take n values) ++ from v ∷ []) (sym ey))
    ∙ all-push r (to first) (map from (take n values)) (from y)
    ∙ ap (option_and_then (λ next. folded r next (from y))) so
    ∙ joined r to now cell (from y) faults fault here
