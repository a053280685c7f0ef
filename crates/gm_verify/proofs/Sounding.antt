-- An image in which nothing is broken is sound.
use Rattle.std.proofs.Common.{◌≡◌, ◌<◌, ℕ, suc, Bool, true, false, cond, Option, Some, None, List, [], ◌∷◌, refl, arith}
use Rattle.std.specs.Prelude.{not, nat_lt, ◌&&◌, IsTrue}
use Rattle.std.proofs.lemmas.Bool.Decides.{nat_tests}
use Rattle.std.specs.List.{list_all}
use Rattle.gm_image.specs.declared.rules.ImageRule.{ImageRule}
use Rattle.gm_image.specs.declared.rules.ImageRule.TheVariants.{I1, I2, I3, I4, I5, I6, I7, I8, I9, I10}
use Rattle.gm_image.specs.Program.{Program}
use Rattle.gm_image.specs.Rows.{Row, rows, line_count}
use Rattle.gm_image.specs.Soundness.{keeps, keeps_all, broken_rule, broken_or, broken_from, first_broken, is_sound}

both : (a b : Bool) → a ≡ true → b ≡ true → (a && b) ≡ true
both true b ha hb = hb
both false b ha hb = ha

-- a rule that is not the least broken one
kept : (r : ImageRule) (a : Bool) (rest : Option ImageRule) → cond (not a) (Some r) rest ≡ None → (a ≡ true) × (rest ≡ None)
kept r true rest h = (refl, h)
kept r false rest h = absurd cc

-- a line that breaks no rule keeps every rule
all-kept : (p : Program) (row : Row) → broken_rule p row ≡ None → keeps_all p row ≡ true
all-kept p row h =
    let a = kept I1 (keeps p row I1) _ h in
    let b = kept I2 (keeps p row I2) _ a.1 in
    let c = kept I3 (keeps p row I3) _ b.1 in
    let d = kept I4 (keeps p row I4) _ c.1 in
    let e = kept I5 (keeps p row I5) _ d.1 in
    let f = kept I6 (keeps p row I6) _ e.1 in
    let g = kept I7 (keeps p row I7) _ f.1 in
    let i = kept I8 (keeps p row I8) _ g.1 in
    let j = kept I9 (keeps p row I9) _ i.1 in
    let k = kept I10 (keeps p row I10) _ j.1 in
    both _ _ a.0 (both _ _ b.0 (both _ _ c.0 (both _ _ d.0 (both _ _ e.0 (both _ _ f.0 (both _ _ g.0 (both _ _ i.0 (both _ _ j.0 (both _ _ k.0 refl)))))))))

-- a line that breaks no rule keeps the rule of spans
pub keeps-spans : (p : Program) (row : Row) → broken_rule p row ≡ None → keeps p row I6 ≡ true
keeps-spans p row h =
    let a = kept I1 (keeps p row I1) _ h in
    let b = kept I2 (keeps p row I2) _ a.1 in
    let c = kept I3 (keeps p row I3) _ b.1 in
    let d = kept I4 (keeps p row I4) _ c.1 in
    let e = kept I5 (keeps p row I5) _ d.1 in
    let f = kept I6 (keeps p row I6) _ e.1 in
    f.0

-- lines of which none breaks a rule keep every rule
lines-kept : (p : Program) (n : ℕ) (rs : List Row) → broken_from p n rs ≡ None → list_all (keeps_all p) rs ≡ true
lines-kept p n [] h = refl
lines-kept p n (row ∷ more) h = by (broken_rule p row) refl (lines-kept p (suc n) more) h
  where
    by : (r : Option ImageRule) → broken_rule p row ≡ r → (broken_from p (suc n) more ≡ None → list_all (keeps_all p) more ≡ true)
        → broken_or r n (broken_from p (suc n) more) ≡ None → list_all (keeps_all p) (row ∷ more) ≡ true
    by None is rest none = both _ _ (all-kept p row is) (rest none)
    by (Some r) is rest none = absurd cc

below : (n : ℕ) → n < 4294967296 → nat_lt n 4294967296 ≡ true
below n h = grind (arith, nat_tests, h)

-- so such an image is sound
pub sounds : (p : Program) → first_broken p ≡ None → line_count p < 4294967296 → IsTrue (is_sound p)
sounds p none few = both _ _ (lines-kept p 1 (rows p) none) (below (line_count p) few)
