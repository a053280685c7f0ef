-- Picks onto scalars add no level.
use Rattle.std.proofs.Common.{◌≡◌, ◌≤◌, ◌+◌, ℕ, Bool, true, false, List, [], ◌∷◌, ◌++◌, length, arith}
use Rattle.gm_base.specs.declared.places.Place.{Place}
use Rattle.gm_value.specs.declared.reductions.Reduce.{Reduce}
use Rattle.gm_ast.specs.declared.tree.Key.{Key}
use Rattle.gm_ast.specs.declared.tree.Target.{Target}
use Rattle.gm_ast.specs.declared.tree.Target.TheVariants as T
use Rattle.gm_ast.specs.declared.tree.TotalKey.{TotalKey}
use Rattle.gm_ast.specs.Ways.{is_in}
use Rattle.gm_ast.specs.Program.{Expr, Stmt, Then, Combine, For, If, While, Do, Program}
use Rattle.gm_desugar.specs.Reads.{count_read, reads_set}
use Rattle.gm_picks.specs.Picks.{taken, property_set, count_held, held_set, held, all_set, all_told, written_back, picked, count_picks, onto_scalars, with_plain_picks}
use Rattle.gm_depth.specs.Depths.{all_within}
use Rattle.gm_depth.proofs.Limits.{AreWithin, AllWithin, parts, whole}
use Rattle.gm_shallow.proofs.Statements.{Several, several-both, sequence-within}
use Rattle.gm_shallow.proofs.ReadsApart.{reads-within, told-within, reads-flat}
use Rattle.gm_depth.specs.Nesting.{nesting}
use Rattle.gm_shallow.proofs.Nesting.{both, EachNests, each-both, sequence-nests}

module _ (limit : ℕ) (one : 1 ≤ limit) where
  property-within : (i : Bool) (n : ℕ) (k : Key) (y p : ℕ) (at : Place) (rest : List Stmt) → Several limit rest → Several limit (property_set i n k y p at ++ rest)
  property-within true n k y p at rest h = (one, h)
  property-within false n k y p at rest h = (one, (one, h))

  held-within : (its : List ℕ) (n : ℕ) (k : Key) (ts : List Target) → Several limit (held_set its n k ts)
  held-within its n k [] = tt
  held-within its n k (T.Scalar x at ∷ ts) = held-within its n k ts
  held-within its n k (T.Property y p at ∷ ts) = let i = is_in its y in property-within i n k y p at (held_set its (n + taken i) k ts) (held-within its (n + taken i) k ts)

  written-within : (its : List ℕ) (n : ℕ) (k : Key) (ts : List Target) → Several limit (written_back its n k ts)
  written-within its n k [] = tt
  written-within its n k (T.Scalar x at ∷ ts) = written-within its n k ts
  written-within its n k (T.Property y p at ∷ ts) = (one, written-within its (n + taken (is_in its y)) k ts)

  set-within : (n : ℕ) (k : Key) (es : List Expr) → AreWithin limit es → Several limit (all_set n k es)
  set-within n k [] h = tt
  set-within n k (e ∷ es) h = several-both limit (reads_set n k e) (all_set (n + count_read e) k es) (reads-within limit e n k h.0) (set-within (n + count_read e) k es h.1)

  all-told-within : (n : ℕ) (es : List Expr) → AreWithin limit es → AreWithin limit (all_told n es)
  all-told-within n [] h = tt
  all-told-within n (e ∷ es) h = (told-within limit e n h.0, all-told-within (n + count_read e) es h.1)

  picked-within : (its : List ℕ) (n : ℕ) (k : Key) (total : TotalKey) (r : Reduce) (ts : List Target) (es : List Expr) → AreWithin limit es → AllWithin limit (picked its n k total r ts es)
  picked-within its n k total r ts es h =
      let m = n + count_held its ts in
      let pick = Combine k total r (held its n ts) (all_told m es) in
      sequence-within limit (held_set its n k ts ++ (all_set m k es ++ (pick ∷ written_back its n k ts)))
      (several-both limit (held_set its n k ts) (all_set m k es ++ (pick ∷ written_back its n k ts)) (held-within its n k ts)
      (several-both limit (all_set m k es) (pick ∷ written_back its n k ts) (set-within m k es h) (all-told-within m es h, written-within its n k ts)))

  picks-within : (s : Stmt) (its : List ℕ) (n : ℕ) → AllWithin limit s → AllWithin limit (onto_scalars its n s)
  picks-within (Then a b) its n h = (picks-within a its n h.0, picks-within b its (n + count_picks its a) h.1)
  picks-within (Combine k total r ts es) its n h = picked-within its n k total r ts es h
  picks-within (For k at hd e s) its n h = (h.0, picks-within s (hd.iterator ∷ its) n h.1)
  picks-within (If k e a b) its n h = (h.0, (picks-within a its n h.1.0, picks-within b its (n + count_picks its a) h.1.1))
  picks-within (While k at e s) its n h = (h.0, picks-within s its n h.1)
  picks-within (Do k at s e) its n h = (picks-within s its n h.0, h.1)
  picks-within s its n h = h

pub picks-keep : (n : ℕ) (p : Program) → 1 ≤ n → all_within n p.body ≡ true → all_within n (with_plain_picks p).body ≡ true
picks-keep n p one h = whole n (onto_scalars [] (length p.declarations) p.body) (picks-within n one p.body [] (length p.declarations) (parts n p.body h))

-- ---- Ifs within one another

property-flat : (i : Bool) (n : ℕ) (k : Key) (y p : ℕ) (at : Place) (rest : List Stmt) → EachNests 0 rest → EachNests 0 (property_set i n k y p at ++ rest)
property-flat true n k y p at rest h = (omega arith, h)
property-flat false n k y p at rest h = (omega arith, (omega arith, h))

held-flat : (its : List ℕ) (n : ℕ) (k : Key) (ts : List Target) → EachNests 0 (held_set its n k ts)
held-flat its n k [] = tt
held-flat its n k (T.Scalar x at ∷ ts) = held-flat its n k ts
held-flat its n k (T.Property y p at ∷ ts) = let i = is_in its y in property-flat i n k y p at (held_set its (n + taken i) k ts) (held-flat its (n + taken i) k ts)

written-flat : (its : List ℕ) (n : ℕ) (k : Key) (ts : List Target) → EachNests 0 (written_back its n k ts)
written-flat its n k [] = tt
written-flat its n k (T.Scalar x at ∷ ts) = written-flat its n k ts
written-flat its n k (T.Property y p at ∷ ts) = (omega arith, written-flat its (n + taken (is_in its y)) k ts)

set-flat : (n : ℕ) (k : Key) (es : List Expr) → EachNests 0 (all_set n k es)
set-flat n k [] = tt
set-flat n k (e ∷ es) = each-both 0 (reads_set n k e) (all_set (n + count_read e) k es) (reads-flat e n k) (set-flat (n + count_read e) k es)

picked-flat : (its : List ℕ) (n : ℕ) (k : Key) (total : TotalKey) (r : Reduce) (ts : List Target) (es : List Expr) → nesting (picked its n k total r ts es) ≤ 0
picked-flat its n k total r ts es =
    let m = n + count_held its ts in
    let pick = Combine k total r (held its n ts) (all_told m es) in
    sequence-nests 0 (held_set its n k ts ++ (all_set m k es ++ (pick ∷ written_back its n k ts)))
    (each-both 0 (held_set its n k ts) (all_set m k es ++ (pick ∷ written_back its n k ts)) (held-flat its n k ts)
    (each-both 0 (all_set m k es) (pick ∷ written_back its n k ts) (set-flat m k es) (omega arith, written-flat its n k ts)))

picks-nests : (s : Stmt) (its : List ℕ) (n : ℕ) → nesting (onto_scalars its n s) ≤ nesting s
picks-nests (Then a b) its n = both (picks-nests a its n) (picks-nests b its (n + count_picks its a))
picks-nests (Combine k total r ts es) its n = picked-flat its n k total r ts es
picks-nests (For k at hd e s) its n = picks-nests s (hd.iterator ∷ its) n
picks-nests (If k e a b) its n = both (picks-nests a its n) (picks-nests b its (n + count_picks its a))
picks-nests (While k at e s) its n = picks-nests s its n
picks-nests (Do k at s e) its n = picks-nests s its n
picks-nests s its n = omega arith

pub picks-nest : (p : Program) → nesting (with_plain_picks p).body ≤ nesting p.body
picks-nest p = picks-nests p.body [] (length p.declarations)
