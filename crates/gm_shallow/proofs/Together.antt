-- The passes together: two levels at most, one for compound assignments and one for searches.
use Rattle.std.proofs.Common.{◌≡◌, ◌≤◌, ℕ, suc, true, arith}
use Rattle.gm_ast.specs.Program.{Program}
use Rattle.gm_desugar.specs.Compounds.{without_compounds}
use Rattle.gm_desugar.specs.Conditions.{with_conditions}
use Rattle.gm_desugar.specs.Groups.{without_groups}
use Rattle.gm_desugar.specs.Literals.{with_negative_literals}
use Rattle.gm_reductions.specs.Accesses.{without_accesses}
use Rattle.gm_desugaring.specs.Desugaring.{with_reads_alone, with_picks_alone, with_loops_alone, with_plain_loops}
use Rattle.gm_bfs.specs.Levelled.{levelled}
use Rattle.gm_depth.specs.Depths.{all_within, is_shallow_text, is_shallow}
use Rattle.gm_depth.proofs.Limits.{parts, whole, longer}
use Rattle.gm_depth.proofs.Shallow.{programs-shallow}
use Rattle.gm_shallow.specs.Laws.{PassesAddFewLevels, TextsStayShallow}
use Rattle.gm_shallow.proofs.Groups.{groups-keep}
use Rattle.gm_shallow.proofs.Compounds.{compounds-add}
use Rattle.gm_shallow.proofs.Literals.{literals-keep}
use Rattle.gm_shallow.proofs.Conditions.{conditions-keep}
use Rattle.gm_shallow.proofs.ReadsApart.{reads-keep}
use Rattle.gm_shallow.proofs.Picks.{picks-keep}
use Rattle.gm_shallow.proofs.Accesses.{accesses-keep}
use Rattle.gm_shallow.proofs.Folds.{folds-keep}
use Rattle.gm_shallow.proofs.InnerFolds.{inner-folds-keep}
use Rattle.gm_shallow.proofs.Searches.{searches-add}

loops-add : (n : ℕ) (p : Program) → 2 ≤ n → all_within n p.body ≡ true → all_within (suc n) (with_plain_loops p).body ≡ true
loops-add n p two h =
    let one : 1 ≤ n = omega arith in
    let one' : 1 ≤ suc n = omega arith in
    let three : 3 ≤ suc n = omega arith in
    let g = without_groups p in
    let c = without_compounds g in
    let l = with_negative_literals c in
    let d = with_conditions l in
    let r = with_reads_alone p in
    let k = with_picks_alone p in
    let a = without_accesses k in
    inner-folds-keep (suc n) (with_loops_alone p) one'
    (folds-keep (suc n) a one'
    (accesses-keep (suc n) k three
    (picks-keep (suc n) r one'
    (reads-keep (suc n) d one'
    (conditions-keep (suc n) l one'
    (literals-keep (suc n) c one'
    (compounds-add n g one
    (groups-keep n p one h))))))))

pub both-add : (n : ℕ) (p : Program) → 2 ≤ n → all_within n p.body ≡ true → all_within (suc (suc n)) (levelled (with_plain_loops p)).body ≡ true
both-add n p two h = let two' : 2 ≤ suc n = omega arith in searches-add (suc n) (with_plain_loops p) two' (loops-add n p two h)

pub few-levels : PassesAddFewLevels
few-levels = record {
  groups = groups-keep;
  compounds = compounds-add;
  literals = literals-keep;
  conditions = conditions-keep;
  reads = reads-keep;
  picks = picks-keep;
  accesses = accesses-keep;
  folds = folds-keep;
  inner_folds = inner-folds-keep;
  plain_loops = loops-add;
  searches = searches-add;
  together = both-add;
}

-- a program with fewer levels than images allow
pub within-images : (n : ℕ) (p : Program) → n ≤ 512 → all_within n p.body ≡ true → is_shallow p ≡ true
within-images n p few h = whole 512 p.body (longer n 512 few p.body (parts n p.body h))

pub texts-shallow : TextsStayShallow
texts-shallow it tree p h e =
    let few : is_shallow_text p ≡ true = programs-shallow it tree p h e in
    let q = with_plain_loops p in
    (within-images 258 q (omega arith) (loops-add 257 p (omega arith) few), within-images 259 (levelled q) (omega arith) (both-add 257 p (omega arith) few))
