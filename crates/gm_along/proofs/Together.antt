-- The passes up to loops over levels together: inner loops read no edge against the way of a message that they did not read so before.
use Rattle.std.proofs.Common.{◌+◌, Bool, true, false, cond, List, [], ◌++◌, length, map}
use Rattle.std.specs.Prelude.{nat_le}
use Rattle.std.specs.List.{list_all}
use Rattle.gm_ast.specs.declared.tree.Declaration.{Declaration}
use Rattle.gm_ast.specs.Program.{Program}
use Rattle.gm_semantics.specs.Frames.{NamesBelow}
use Rattle.gm_forms.specs.Ready.{Ready0}
use Rattle.gm_forms.specs.Uses.{suits, uses_of}
use Rattle.gm_forms.proofs.Named.{both-true, names-below}
use Rattle.gm_desugar.specs.Compounds.{without_compounds}
use Rattle.gm_desugar.specs.Conditions.{with_conditions}
use Rattle.gm_desugar.specs.Groups.{without_groups}
use Rattle.gm_desugar.specs.Literals.{with_negative_literals}
use Rattle.gm_desugar.specs.Reads.{with_reads_apart}
use Rattle.gm_desugar.proofs.GroupsLaws as Groups
use Rattle.gm_desugar.proofs.CompoundsOut as Compounds
use Rattle.gm_desugar.proofs.LiteralsLaws as Literals
use Rattle.gm_desugar.proofs.ConditionsOut as Conditions
use Rattle.gm_reductions.specs.Accesses.{added, added_at, without_accesses}
use Rattle.gm_reductions.specs.Folds.{without_folds}
use Rattle.gm_picks.specs.Picks.{with_plain_picks}
use Rattle.gm_hoisting.specs.Hoisting.{without_inner_folds}
use Rattle.gm_desugaring.specs.Desugaring.{CanBeDesugared, CanBecomeLoops, with_plain_loops}
use Rattle.gm_desugaring.proofs.Desugared.{plain-desugared}
use Rattle.gm_desugaring.proofs.Together.{with-reads, with-picks, loops-alone}
use Rattle.gm_bfs.specs.Variables.{fresh_from, fresh_declarations, copy_declaration}
use Rattle.gm_bfs.specs.Levelled.{searches_out, has_search, levelled}
use Rattle.gm_preparable.proofs.Together.{may-be-prepared}
use Rattle.gm_one_way.specs.Along.{EachAlong, ReadsAlong}
use Rattle.gm_one_way.proofs.NodesPrograms.{slices-go}
use Rattle.gm_along.specs.Laws.{CanonicalGoOneWay}
use Rattle.gm_along.proofs.Canonical.{texts-read-along}
use Rattle.gm_along.proofs.Phases.{names-of, each-stay, groups-along, compounds-along, literals-along, conditions-along, reads-along, picks-along, accesses-along, folds-along}
use Rattle.gm_along.proofs.Hoists.{hoists-along}
use Rattle.gm_along.proofs.Levels.{searches-along}

-- in a longer table
longer : (p : Program) (more : List Declaration) → NamesBelow (length p.declarations) p.body → ReadsAlong p → EachAlong (p.declarations ++ more) p.body
longer p more named e = each-stay p.declarations more p.body named e

-- ---- each pass

pub groups : (p : Program) → ReadsAlong p → ReadsAlong (without_groups p)
groups p e = groups-along p.declarations p.body e

pub compounds : (p : Program) → ReadsAlong p → ReadsAlong (without_compounds p)
compounds p e = compounds-along p.declarations p.body e

pub literals : (p : Program) → ReadsAlong p → ReadsAlong (with_negative_literals p)
literals p e = literals-along p.declarations p.body e

pub conditions : (p : Program) → Ready0 p → ReadsAlong p → ReadsAlong (with_conditions p)
conditions p r e = conditions-along (with_conditions p).declarations (length p.declarations) p.body (longer p _ (names-of p r) e)

pub reads : (p : Program) → Ready0 p → ReadsAlong p → ReadsAlong (with_reads_apart p)
reads p r e = reads-along (with_reads_apart p).declarations (length p.declarations) p.body (longer p _ (names-of p r) e)

pub picks : (p : Program) → Ready0 p → ReadsAlong p → ReadsAlong (with_plain_picks p)
picks p r e = picks-along (with_plain_picks p).declarations [] (length p.declarations) p.body (longer p _ (names-of p r) e)

pub accesses : (p : Program) → Ready0 p → ReadsAlong p → ReadsAlong (without_accesses p)
accesses p r e = accesses-along (without_accesses p).declarations (added_at (length p.declarations)) p.declarations [] p.body (longer p added (names-of p r) e)

pub folds : (p : Program) → ReadsAlong p → ReadsAlong (without_folds p)
folds p e = folds-along p.declarations p.body e

pub hoists : (p : Program) → Ready0 p → ReadsAlong p → ReadsAlong (without_inner_folds p)
hoists p r e = hoists-along p.declarations (without_inner_folds p).declarations p.body [] (length p.declarations) r.form (longer p _ (names-of p r) e)

pub searches : (p : Program) → NamesBelow (length p.declarations) p.body → ReadsAlong p → ReadsAlong (levelled p)
searches p named e = by (has_search p.body)
  where
    ds : List Declaration
    ds = p.declarations

    more : List Declaration
    more = fresh_declarations ++ map copy_declaration ds

    by : (any : Bool) → ReadsAlong (cond any (record p { declarations = ds ++ more; body = searches_out (fresh_from (length ds)) (length ds) p.body }) p)
    by true = searches-along (ds ++ more) (fresh_from (length ds)) (length ds) p.body (longer p more named e)
    by false = e

-- ---- all of them

module _ (p : Program) (can : CanBeDesugared p) where
  pub plain-loops : ReadsAlong p → ReadsAlong (with_plain_loops p)
  plain-loops e =
      let a = without_groups p in
      let b = without_compounds a in
      let c = with_negative_literals b in
      let d = with_conditions c in
      let x = with_reads_apart d in
      let y = with_plain_picks x in
      let z = without_accesses y in
      let w = without_folds z in
      let g = Groups.kept p can.ready in
      let h = Compounds.kept a g in
      let l = Literals.kept b h in
      let o = Conditions.kept c l in
      let r = with-reads p can in
      let q = with-picks p can in
      let s = loops-alone p can in
      let ready_c = l.without_compounds.without_groups.ready in
      let ready_d = o.with_literals.without_compounds.without_groups.ready in
      let ready_x = r.with_rising_keys.with_reads_apart.with_conditions.with_literals.without_compounds.without_groups.ready in
      let ready_y = q.with_typed_runs.with_rising_keys.with_reads_apart.with_conditions.with_literals.without_compounds.without_groups.ready in
      let ready_w = s.without_folds.with_reads_apart.with_conditions.with_literals.without_compounds.without_groups.ready in
      hoists w ready_w (folds z (accesses y ready_y (picks x ready_x (reads d ready_d (conditions c ready_c (literals b (compounds a (groups p e))))))))

-- ---- and loops over levels

pub levels : (p : Program) → CanBecomeLoops p → ReadsAlong p → ReadsAlong (levelled (with_plain_loops p))
levels p can e =
    let q = with_plain_loops p in
    let named = names-below q.declarations q.body (both-true (nat_le (q.inputs + q.outputs) (length q.declarations)) (list_all (suits q.declarations) (uses_of q.body)) (plain-desugared p can).sane.named).1 in
    searches q named (plain-loops p can.can e)

-- each slice goes one way
pub canonical-go : CanonicalGoOneWay
canonical-go p typed canonical can ready even =
    slices-go (levelled (with_plain_loops p)) ready (may-be-prepared p typed even) (levels p can (texts-read-along p typed canonical))
