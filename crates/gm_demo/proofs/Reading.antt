-- The reading of the distances of nodes, one value after another.
use Rattle.std.proofs.Common.{◌≡◌, ◌<◌, ◌≤◌, ◌+◌, ◌∙◌, ℕ, ℤ, pos, List, [], ◌∷◌, length, get_or, drop, refl, sym, ap, arith, add-one, drop-cons}
use Rattle.std.specs.Prelude.{slice_get, unwrap_or, is_some, if◌then◌else◌, Option, Some, None}
use Rattle.std.specs.Int.{int_max}
use Rattle.std.specs.List.{fold, reduce, cons_option}
use Rattle.std.proofs.Math.ListN.{drop_of_length-le}
use Rattle.std.proofs.lemmas.Option.{slice_get_within, get_or_from_slice_get}
use Rattle.gm_value.specs.declared.values.Value.{Value}
use Rattle.gm_demo.specs.Lines.{distance_of, distances, farther, greatest}

-- the list from an index on, by its first item
drop_at : (values : List Value) (i : ℕ) (v : Value) → slice_get values i ≡ Some v → drop i values ≡ v ∷ drop (i + 1) values
drop_at values i v h =
    let within : i < length values = slice_get_within values i v h in
    let here : get_or values i v ≡ v = get_or_from_slice_get values i v v h in
    rw (add-one, ← here) (drop-cons values i v within)

-- the distances from an index on, by what the value there says
distances_at : (values : List Value) (i : ℕ) (v : Value) (o : Option ℤ) → slice_get values i ≡ Some v → o ≡ distance_of v
    → distances (drop i values) ≡ cons_option o (distances (drop (i + 1) values))
distances_at values i v o h e =
    let said : cons_option (distance_of v) (distances (drop (i + 1) values)) ≡ cons_option o (distances (drop (i + 1) values)) =
    ap (λ said. cons_option said (distances (drop (i + 1) values))) (sym e) in
    ap distances (drop_at values i v h) ∙ said

none_left : (values : List Value) (i : ℕ) → length values ≤ i → distances (drop i values) ≡ []
none_left values i h = ap distances (drop_of_length-le values h)

-- ---- how many

-- a count and the distances from an index on are as many as all distances
pub record IsCount (values : List Value) (count i : ℕ) : Type 0 where
  pub so_far : count + length (distances (drop i values)) ≡ length (distances values)
  pub few : count ≤ i

pub count_none : (values : List Value) → IsCount values 0 0
count_none values = record { so_far = omega arith; few = omega arith }

-- the count after a value that says a distance or none
pub count_on : (values : List Value) (count now i : ℕ) (v : Value) (o : Option ℤ) → IsCount values count i → slice_get values i ≡ Some v → o ≡ distance_of v
    → now ≡ count + (if is_some o then 1 else 0) → IsCount values now (i + 1)
count_on values count now i v None c h e n =
    let left = ap length (distances_at values i v None h e) in
    record { so_far = omega (arith, c.so_far, left, n); few = omega (arith, c.few, n) }
count_on values count now i v (Some z) c h e n =
    let left = ap length (distances_at values i v (Some z) h e) in
    record { so_far = omega (arith, c.so_far, left, n); few = omega (arith, c.few, n) }

pub count_all : (values : List Value) (count i : ℕ) → IsCount values count i → length values ≤ i → count ≡ length (distances values)
count_all values count i c h =
    let left = ap length (none_left values i h) in
    omega (arith, c.so_far, left)

-- ---- how far

-- the greatest of some numbers and one before them, where there is one
abbrev pub far_after : Option ℤ → List ℤ → Option ℤ
far_after None zs = reduce int_max zs
far_after (Some z) zs = Some (fold int_max z zs)

-- the greatest distance so far and those from an index on have the greatest of all distances
pub record IsFar (values : List Value) (far : Option ℤ) (i : ℕ) : Type 0 where
  pub so_far : far_after far (distances (drop i values)) ≡ reduce int_max (distances values)

far_more : (far said : Option ℤ) (zs : List ℤ) → far_after far (cons_option said zs) ≡ far_after (farther far said) zs
far_more None None zs = refl
far_more None (Some z) zs = refl
far_more (Some known) None zs = refl
far_more (Some known) (Some z) zs = refl

far_end : (far : Option ℤ) → far_after far [] ≡ far
far_end None = refl
far_end (Some known) = refl

pub far_none : (values : List Value) → IsFar values None 0
far_none values = record { so_far = refl }

pub far_on : (values : List Value) (far now said : Option ℤ) (i : ℕ) (v : Value) → IsFar values far i → slice_get values i ≡ Some v → said ≡ distance_of v → now ≡ farther far said → IsFar values now (i + 1)
far_on values far now said i v f h e n =
    let behind = distances (drop (i + 1) values) in
    let here = ap (far_after far) (distances_at values i v said h e) in
    let same = ap (λ o. far_after o behind) n in
    record { so_far = same ∙ sym (far_more far said behind) ∙ sym here ∙ f.so_far }

pub far_all : (values : List Value) (far : Option ℤ) (i : ℕ) (z : ℤ) → IsFar values far i → length values ≤ i → z ≡ unwrap_or far (pos 0) → z ≡ greatest (distances values)
far_all values far i z f h e =
    let whole : far ≡ reduce int_max (distances values) = sym (far_end far) ∙ sym (ap (far_after far) (none_left values i h)) ∙ f.so_far in
    e ∙ ap (λ o. unwrap_or o (pos 0)) whole
