-- Picks onto scalars.
use Rattle.std.proofs.Common.{ℕ, ◌+◌, Bool, true, false, List, [], ◌∷◌, ◌++◌}
use Rattle.gm_base.specs.declared.places.Place.{Place}
use Rattle.gm_value.specs.declared.reductions.Reduce.{Reduce}
use Rattle.gm_ast.specs.declared.tree.Key.{Key}
use Rattle.gm_ast.specs.declared.tree.Target.{Target}
use Rattle.gm_ast.specs.declared.tree.Target.TheVariants as T
use Rattle.gm_ast.specs.declared.tree.TotalKey.{TotalKey}
use Rattle.gm_ast.specs.Ways.{is_in}
use Rattle.gm_ast.specs.Program.{Expr, Stmt, Then, Combine, For, If, While, Do}
use Rattle.gm_desugar.specs.Reads.{count_read, reads_set}
use Rattle.gm_picks.specs.Picks.{taken, property_set, count_held, held_set, held, all_set, all_told, written_back, picked, count_picks, onto_scalars}
use Rattle.gm_preparable.proofs.ReadsApart.{reads-outside, told-outside}
use Rattle.gm_preparable.proofs.Standing.{AreOutside, Phase, Phases, phases-both, sequence-phase}

module _ (goes : List Target → Type 0) (outer inner : ℕ → Type 0) where
  property-stands : (i : Bool) (n : ℕ) (k : Key) (y p : ℕ) (at : Place) (rest : List Stmt) → Phases goes outer inner rest → Phases goes outer inner (property_set i n k y p at ++ rest)
  property-stands true n k y p at rest h = (tt, h)
  property-stands false n k y p at rest h = (tt, (tt, h))

  held-stand : (its : List ℕ) (n : ℕ) (k : Key) (ts : List Target) → Phases goes outer inner (held_set its n k ts)
  held-stand its n k [] = tt
  held-stand its n k (T.Scalar x at ∷ ts) = held-stand its n k ts
  held-stand its n k (T.Property y p at ∷ ts) = let i = is_in its y in property-stands i n k y p at (held_set its (n + taken i) k ts) (held-stand its (n + taken i) k ts)

  written-stand : (its : List ℕ) (n : ℕ) (k : Key) (ts : List Target) → Phases goes outer inner (written_back its n k ts)
  written-stand its n k [] = tt
  written-stand its n k (T.Scalar x at ∷ ts) = written-stand its n k ts
  written-stand its n k (T.Property y p at ∷ ts) = (tt, written-stand its (n + taken (is_in its y)) k ts)

  set-stand : (n : ℕ) (k : Key) (es : List Expr) → AreOutside outer inner es → Phases goes outer inner (all_set n k es)
  set-stand n k [] h = tt
  set-stand n k (e ∷ es) h = phases-both goes outer inner (reads_set n k e) (all_set (n + count_read e) k es) (reads-outside goes outer inner e n k h.0) (set-stand (n + count_read e) k es h.1)

  all-told-outside : (n : ℕ) (es : List Expr) → AreOutside outer inner es → AreOutside outer inner (all_told n es)
  all-told-outside n [] h = tt
  all-told-outside n (e ∷ es) h = (told-outside goes outer inner e n h.0, all-told-outside (n + count_read e) es h.1)

  picked-stands : (its : List ℕ) (n : ℕ) (k : Key) (total : TotalKey) (r : Reduce) (ts : List Target) (es : List Expr) → AreOutside outer inner es → Phase goes outer inner (picked its n k total r ts es)
  picked-stands its n k total r ts es h =
      let m = n + count_held its ts in
      let pick = Combine k total r (held its n ts) (all_told m es) in
      sequence-phase goes outer inner (held_set its n k ts ++ (all_set m k es ++ (pick ∷ written_back its n k ts)))
      (phases-both goes outer inner (held_set its n k ts) (all_set m k es ++ (pick ∷ written_back its n k ts)) (held-stand its n k ts)
      (phases-both goes outer inner (all_set m k es) (pick ∷ written_back its n k ts) (set-stand m k es h) (all-told-outside m es h, written-stand its n k ts)))

  pub picks-stand : (s : Stmt) (its : List ℕ) (n : ℕ) → Phase goes outer inner s → Phase goes outer inner (onto_scalars its n s)
  picks-stand (Then a b) its n h = (picks-stand a its n h.0, picks-stand b its (n + count_picks its a) h.1)
  picks-stand (Combine k total r ts es) its n h = picked-stands its n k total r ts es h
  picks-stand (For k at hd e s) its n h = (h.0, picks-stand s (hd.iterator ∷ its) n h.1)
  picks-stand (If k e a b) its n h = (h.0, (picks-stand a its n h.1.0, picks-stand b its (n + count_picks its a) h.1.1))
  picks-stand (While k at e s) its n h = (h.0, picks-stand s its n h.1)
  picks-stand (Do k at s e) its n h = (picks-stand s its n h.0, h.1)
  picks-stand s its n h = h
