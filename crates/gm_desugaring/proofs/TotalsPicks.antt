-- Picks onto scalars keep the totals of a program in order.
use Rattle.std.proofs.Common.{◌≡◌, ◌+◌, ℕ, Bool, true, false, List, [], ◌∷◌, ◌++◌, map, length, refl}
use Rattle.std.specs.Cmp.Derive.{both_true}
use Rattle.gm_base.specs.declared.places.Place.{Place}
use Rattle.gm_value.specs.declared.reductions.Reduce.{Reduce}
use Rattle.gm_ast.specs.declared.tree.Key.{Key}
use Rattle.gm_ast.specs.declared.tree.Target.{Target}
use Rattle.gm_ast.specs.declared.tree.Target.TheVariants as T
use Rattle.gm_ast.specs.declared.tree.TotalKey.{TotalKey}
use Rattle.gm_ast.specs.Ways.{is_in}
use Rattle.gm_ast.specs.Program.{Expr, Stmt, Then, Combine, For, If, While, Do, Program}
use Rattle.gm_forms.specs.Order.{all_folds}
use Rattle.gm_forms.proofs.Named.{both-true}
use Rattle.gm_desugar.specs.Reads.{count_read, reads_set}
use Rattle.gm_picks.specs.Picks.{taken, property_set, count_held, held_set, held, all_set, all_told, written_back, picked, count_picks, onto_scalars, with_plain_picks}
use Rattle.gm_hoisting.specs.Throughout.{inner_as_sums, stands_throughout}
use Rattle.gm_desugaring.proofs.TotalsReads.{StandsIn, AllStand, stand-both, sequence-stands, reads-stand, told-stands, then-stands, parts-stand, for-parts, if-parts, while-parts, do-parts, body-stands}

property-stands : (i : Bool) (n : ℕ) (k : Key) (y p : ℕ) (at : Place) (rest : List Stmt) → AllStand rest → AllStand (property_set i n k y p at ++ rest)
property-stands true n k y p at rest h = ((refl, refl), h)
property-stands false n k y p at rest h = ((refl, refl), ((refl, refl), h))

held-stand : (its : List ℕ) (n : ℕ) (k : Key) (ts : List Target) → AllStand (held_set its n k ts)
held-stand its n k [] = tt
held-stand its n k (T.Scalar x at ∷ ts) = held-stand its n k ts
held-stand its n k (T.Property y p at ∷ ts) = let i = is_in its y in property-stands i n k y p at (held_set its (n + taken i) k ts) (held-stand its (n + taken i) k ts)

written-stand : (its : List ℕ) (n : ℕ) (k : Key) (ts : List Target) → AllStand (written_back its n k ts)
written-stand its n k [] = tt
written-stand its n k (T.Scalar x at ∷ ts) = written-stand its n k ts
written-stand its n k (T.Property y p at ∷ ts) = ((refl, refl), written-stand its (n + taken (is_in its y)) k ts)

set-stand : (n : ℕ) (k : Key) (es : List Expr) → all_folds (map inner_as_sums es) ≡ true → AllStand (all_set n k es)
set-stand n k [] h = tt
set-stand n k (e ∷ es) h = let q = both-true _ (all_folds (map inner_as_sums es)) h in stand-both (reads_set n k e) (all_set (n + count_read e) k es) (reads-stand e n k q.0) (set-stand (n + count_read e) k es q.1)

told-fold : (n : ℕ) (es : List Expr) → all_folds (map inner_as_sums (all_told n es)) ≡ true
told-fold n [] = refl
told-fold n (e ∷ es) = both_true (told-stands e n) (told-fold (n + count_read e) es)

picked-stands : (its : List ℕ) (n : ℕ) (k : Key) (total : TotalKey) (r : Reduce) (ts : List Target) (es : List Expr) → StandsIn (Combine k total r ts es) → StandsIn (picked its n k total r ts es)
picked-stands its n k total r ts es h =
    let m = n + count_held its ts in
    let pick = Combine k total r (held its n ts) (all_told m es) in
    sequence-stands (held_set its n k ts ++ (all_set m k es ++ (pick ∷ written_back its n k ts)))
    (stand-both (held_set its n k ts) (all_set m k es ++ (pick ∷ written_back its n k ts)) (held-stand its n k ts)
    (stand-both (all_set m k es) (pick ∷ written_back its n k ts) (set-stand m k es h.0) ((told-fold m es, refl), written-stand its n k ts)))

picks-stand : (s : Stmt) (its : List ℕ) (n : ℕ) → StandsIn s → StandsIn (onto_scalars its n s)
picks-stand (Then a b) its n h = let q = parts-stand a b h in then-stands (onto_scalars its n a) (onto_scalars its (n + count_picks its a) b) (picks-stand a its n q.0) (picks-stand b its (n + count_picks its a) q.1)
picks-stand (Combine k total r ts es) its n h = picked-stands its n k total r ts es h
picks-stand (For k at hd e s) its n h = let q = for-parts k at hd e s h in let x = picks-stand s (hd.iterator ∷ its) n q.1 in (both_true q.0 x.0, x.1)
picks-stand (If k e a b) its n h =
    let q = if-parts k e a b h in
    let x = picks-stand a its n q.1.0 in
    let y = picks-stand b its (n + count_picks its a) q.1.1 in
    (both_true q.0 (both_true x.0 y.0), both_true x.1 y.1)
picks-stand (While k at e s) its n h = let q = while-parts k at e s h in let x = picks-stand s its n q.1 in (both_true q.0 x.0, x.1)
picks-stand (Do k at s e) its n h = let q = do-parts k at s e h in let x = picks-stand s its n q.1 in (both_true x.0 q.0, x.1)
picks-stand s its n h = h

pub picks-keep : (p : Program) → stands_throughout p ≡ true → stands_throughout (with_plain_picks p) ≡ true
picks-keep p h = let x = picks-stand p.body [] (length p.declarations) (body-stands p h) in both_true x.0 x.1
