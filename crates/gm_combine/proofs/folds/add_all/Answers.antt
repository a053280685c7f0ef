-- A loop that adds numbers one after another.
use Rattle.std.proofs.Common.{◌≡◌, ◌<◌, ◌+◌, ℕ, suc, ℤ, Option, List, ◌∷◌, [], ◌++◌, map, length, take, get_or, sym, subst, ap, ◌∙◌, refl, arith}
use Rattle.std.proofs.Math.Seq.{take-length}
use Rattle.gm_value.specs.declared.reductions.Reduce.{Reduce}
use Rattle.gm_value.specs.Numbers.{number_of}
use Rattle.gm_combine.specs.Folds.{placed, AddsAll}
use Rattle.gm_combine.proofs.Adding.{adds-none, adds-then, placed-more, take-all}
use Rattle.gm_combine.proofs.Picking.{any-default}
use Rattle.gm_combine.proofs.folds.add_all.Goals as goal

pub add-requires-clause-place : goal.add-requires-clause-place
add-requires-clause-place g c = subst (λ w. get_or c.args.places.now c.loop-i.i 0 < w) (sym c.loop-i.invariant.0) (c.requires.places c.loop-i.i 0 c.loop-i-test.true)

pub add-requires-clause-room : goal.add-requires-clause-room
add-requires-clause-room g c =
    (c.requires.room.0 + c.loop-i.i, (omega (arith, c.requires.room.1.0, c.loop-i-test.true), c.loop-i.invariant.2 c.requires.room.0 c.requires.room.1.1))

pub loop-i-init : goal.loop-i-init
loop-i-init g c =
    (refl, (λ r serves place exact shown. shown), λ count held. subst (λ n. g.R.TotalRow.holds c.args.row.now n) (omega arith) held)

pub loop-i-preserved : goal.loop-i-preserved
loop-i-preserved g c =
    let places = c.args.places.now in
    let cells = c.args.values.now in
    let i = c.loop-i.i in
    let f : g.row.T.Denot → ℤ = λ v. number_of (g.T.Number.value v) in
    let p : ℕ = get_or places i 0 in
    let v = c.index-values-i.result in
    let more : placed (take (i + 1) places) (map f (take (i + 1) cells)) ≡ placed (take i places) (map f (take i cells)) ++ (p, f v) ∷ [] =
    let next : suc i ≡ i + 1 = omega arith in
    subst (λ n. placed (take n places) (map f (take n cells)) ≡ placed (take i places) (map f (take i cells)) ++ (p, f v) ∷ []) next
    (placed-more f places cells i p v c.requires.values c.loop-i-test.true (any-default places i p 0 c.loop-i-test.true) (sym c.index-values-i.is)) in (
      c.add.ensures.width ∙ c.loop-i.invariant.0,
      (λ r serves. subst (λ xs. AddsAll r (g.R.TotalRow.totals c.args.row.now) xs (g.R.TotalRow.totals c.add.new.self)) (sym more)
          (adds-then r (g.R.TotalRow.totals c.args.row.now) (g.R.TotalRow.totals c.loop-i.row) (g.R.TotalRow.totals c.add.new.self)
          (placed (take i places) (map f (take i cells))) (p, f v) (c.loop-i.invariant.1 r serves) (c.add.ensures.added r serves))),
      λ count held. subst (λ n. g.R.TotalRow.holds c.add.new.self n) (omega arith) (c.add.ensures.holds (count + i) (c.loop-i.invariant.2 count held)),
    )

pub returns-clause-added : goal.returns-clause-added
returns-clause-added g c = λ r serves.
    let f : g.row.T.Denot → ℤ = λ v. number_of (g.T.Number.value v) in
    let i = c.loop-i.i in
    let is_all : i ≡ length c.args.places.now = omega (arith, c.loop-i-test.false, c.loop-i.auto.i-end) in
    subst (λ xs. AddsAll r (g.R.TotalRow.totals c.args.row.now) xs (g.R.TotalRow.totals c.loop-i.row))
    (take-all f c.args.places.now c.args.values.now i is_all c.requires.values)
    (c.loop-i.invariant.1 r serves)

pub returns-clause-holds : goal.returns-clause-holds
returns-clause-holds g c = λ count held.
    subst (λ n. g.R.TotalRow.holds c.loop-i.row (count + n)) (omega (arith, c.loop-i-test.false, c.loop-i.auto.i-end)) (c.loop-i.invariant.2 count held)
