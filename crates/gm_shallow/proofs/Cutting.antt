-- The passes that cut loops, and all passes together: 326 levels at most in the program of a text.
use Rattle.std.proofs.Common.{◌≡◌, ◌≤◌, ℕ, suc, max, true, arith}
use Rattle.gm_ast.specs.Program.{Program}
use Rattle.gm_desugar.specs.Compounds.{without_compounds}
use Rattle.gm_desugar.specs.Conditions.{with_conditions}
use Rattle.gm_desugar.specs.Groups.{without_groups}
use Rattle.gm_desugar.specs.Literals.{with_negative_literals}
use Rattle.gm_reductions.specs.Accesses.{without_accesses}
use Rattle.gm_desugaring.specs.Desugaring.{with_reads_alone, with_picks_alone, with_loops_alone, with_plain_loops}
use Rattle.gm_bfs.specs.Levelled.{levelled}
use Rattle.gm_dissect.specs.AllDeferred.{without_deferred}
use Rattle.gm_dissect.specs.Conditions.{with_saved_conditions}
use Rattle.gm_dissect.specs.Locals.{with_kept_locals}
use Rattle.gm_cut.specs.Lean.{in_lean_slices}
use Rattle.gm_cut.specs.Parts.{in_pieces}
use Rattle.gm_flip.specs.Flipped.{without_pulls}
use Rattle.gm_parting.specs.Apart.{with_statements_apart}
use Rattle.gm_parting.specs.Passes.{dissected, prepared}
use Rattle.gm_depth.specs.Depths.{all_within, is_shallow_text}
use Rattle.gm_depth.specs.Nesting.{nesting, text_nesting}
use Rattle.gm_depth.proofs.Shallow.{programs-shallow, programs-nest-little}
use Rattle.gm_shallow.specs.Laws.{CuttingAddsFewLevels, DissectingAddsFewLevels, TextsStayShallowDissected, PassesNestLittle, ready_to_cut, TextsStayShallowInPieces}
use Rattle.gm_shallow.proofs.Groups.{groups-nest}
use Rattle.gm_shallow.proofs.Compounds.{compounds-nest}
use Rattle.gm_shallow.proofs.Literals.{literals-nest}
use Rattle.gm_shallow.proofs.Conditions.{conditions-nest}
use Rattle.gm_shallow.proofs.ReadsApart.{reads-nest}
use Rattle.gm_shallow.proofs.Picks.{picks-nest}
use Rattle.gm_shallow.proofs.Accesses.{accesses-nest}
use Rattle.gm_shallow.proofs.Folds.{folds-nest}
use Rattle.gm_shallow.proofs.InnerFolds.{inner-folds-nest}
use Rattle.gm_shallow.proofs.Searches.{searches-nest}
use Rattle.gm_shallow.proofs.Deferred.{deferred-keep, deferred-nest}
use Rattle.gm_shallow.proofs.SavedConditions.{saved-keep, saved-nest}
use Rattle.gm_shallow.proofs.KeptLocals.{locals-keep, locals-nest}
use Rattle.gm_shallow.proofs.Pieces.{pieces-add}
use Rattle.gm_shallow.proofs.Slices.{slices-keep}
use Rattle.gm_shallow.proofs.Pulls.{pulls-add}
use Rattle.gm_shallow.proofs.Dissected.{iterators-keep, declared-keep, filters-keep, conditions-keep, nodes-keep, groups-keep, prepared-keep, prepared-nest, statements-keep}
use Rattle.gm_shallow.proofs.Together.{both-add, within-images}

pub cutting-adds-few : CuttingAddsFewLevels
cutting-adds-few = record {
  deferred = deferred-keep;
  saved_conditions = saved-keep;
  kept_locals = locals-keep;
  pieces = pieces-add;
  slices = slices-keep;
  pulls = pulls-add;
}

-- ---- Ifs within one another

below-loops : (p : Program) → nesting (with_picks_alone p).body ≤ nesting p.body
below-loops p =
    let g = without_groups p in
    let c = without_compounds g in
    let l = with_negative_literals c in
    let d = with_conditions l in
    let r = with_reads_alone p in
    let u : nesting g.body ≤ nesting p.body = groups-nest p in
    let v : nesting c.body ≤ nesting g.body = compounds-nest g in
    let w : nesting l.body ≤ nesting c.body = literals-nest c in
    let x : nesting d.body ≤ nesting l.body = conditions-nest l in
    let y : nesting r.body ≤ nesting d.body = reads-nest d in
    let z : nesting (with_picks_alone p).body ≤ nesting r.body = picks-nest r in
    omega arith

both-nest : (p : Program) → nesting (levelled (with_plain_loops p)).body ≤ suc (max 1 (nesting p.body))
both-nest p =
    let k = with_picks_alone p in
    let a = without_accesses k in
    let f = with_loops_alone p in
    let q = with_plain_loops p in
    let u : nesting k.body ≤ nesting p.body = below-loops p in
    let v : nesting a.body ≤ nesting k.body = accesses-nest k in
    let w : nesting f.body ≤ max 1 (nesting a.body) = folds-nest a in
    let x : nesting q.body ≤ suc (nesting f.body) = inner-folds-nest f in
    let y : nesting (levelled q).body ≤ nesting q.body = searches-nest q in
    omega arith

pub nest-little : PassesNestLittle
nest-little = record {
  groups = groups-nest;
  compounds = compounds-nest;
  literals = literals-nest;
  conditions = conditions-nest;
  reads = reads-nest;
  picks = picks-nest;
  accesses = accesses-nest;
  folds = folds-nest;
  inner_folds = inner-folds-nest;
  searches = searches-nest;
  together = both-nest;
  deferred = deferred-nest;
  saved_conditions = saved-nest;
  kept_locals = locals-nest;
}

-- ---- all passes

ready-keep : (n : ℕ) (q : Program) → 1 ≤ n → all_within n q.body ≡ true → all_within n (with_kept_locals (with_saved_conditions (without_deferred q))).body ≡ true
ready-keep n q one h = let d = without_deferred q in let s = with_saved_conditions d in locals-keep n s one (saved-keep n d one (deferred-keep n q one h))

ready-nest : (q : Program) → nesting (with_kept_locals (with_saved_conditions (without_deferred q))).body ≤ nesting q.body
ready-nest q =
    let d = without_deferred q in
    let s = with_saved_conditions d in
    let u : nesting d.body ≤ nesting q.body = deferred-nest q in
    let v : nesting s.body ≤ nesting d.body = saved-nest d in
    let w : nesting (with_kept_locals s).body ≤ nesting s.body = locals-nest s in
    omega arith

pub pieces-shallow : TextsStayShallowInPieces
pieces-shallow it tree p h e =
    let q = levelled (with_plain_loops p) in
    let r = ready_to_cut p in
    let few : is_shallow_text p ≡ true = programs-shallow it tree p h e in
    let ifs : nesting p.body ≤ text_nesting = programs-nest-little it tree p h e in
    let more : nesting q.body ≤ suc (max 1 (nesting p.body)) = both-nest p in
    let same : nesting r.body ≤ nesting q.body = ready-nest q in
    let ready : all_within 259 r.body ≡ true = ready-keep 259 q (omega arith) (both-add 257 p (omega arith) few) in
    let pieces : all_within 325 (in_pieces r).body ≡ true = pieces-add 259 65 r (omega arith) ready in
    let slices : all_within 325 (in_lean_slices (in_pieces r)).body ≡ true = slices-keep 325 (in_pieces r) (omega arith) pieces in
    let pulls : all_within 326 (without_pulls (in_lean_slices (in_pieces r))).body ≡ true = pulls-add 325 (in_lean_slices (in_pieces r)) (omega arith) slices in (
      within-images 259 r (omega arith) ready,
      (within-images 325 (in_pieces r) (omega arith) pieces, (within-images 325 (in_lean_slices (in_pieces r)) (omega arith) slices, within-images 326 (without_pulls (in_lean_slices (in_pieces r))) (omega arith) pulls)),
    )

-- ---- programs that are dissected

pub dissecting-adds-few : DissectingAddsFewLevels
dissecting-adds-few = record {
  iterators = iterators-keep;
  declared = declared-keep;
  filters = filters-keep;
  conditions = conditions-keep;
  nodes = nodes-keep;
  groups = groups-keep;
  together = prepared-keep;
  statements = statements-keep;
}

pub dissected-shallow : TextsStayShallowDissected
dissected-shallow it tree p h e =
    let q = levelled (with_plain_loops p) in
    let r = prepared q in
    let s = in_pieces r in
    let a = with_statements_apart s in
    let few : is_shallow_text p ≡ true = programs-shallow it tree p h e in
    let ifs : nesting p.body ≤ text_nesting = programs-nest-little it tree p h e in
    let more : nesting q.body ≤ suc (max 1 (nesting p.body)) = both-nest p in
    let last : nesting r.body ≤ suc (nesting q.body) = prepared-nest q in
    let ready : all_within 259 r.body ≡ true = prepared-keep 259 q (omega arith) (both-add 257 p (omega arith) few) in
    let pieces : all_within 326 s.body ≡ true = pieces-add 259 66 r (omega arith) ready in
    let apart : all_within 326 a.body ≡ true = statements-keep 326 s (omega arith) pieces in
    let slices : all_within 326 (dissected q).body ≡ true = slices-keep 326 a (omega arith) apart in
    let pulls : all_within 327 (without_pulls (dissected q)).body ≡ true = pulls-add 326 (dissected q) (omega arith) slices in
    (within-images 259 r (omega arith) ready, (within-images 326 (dissected q) (omega arith) slices, within-images 327 (without_pulls (dissected q)) (omega arith) pulls))
