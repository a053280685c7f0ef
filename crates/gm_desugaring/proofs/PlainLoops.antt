-- The passes up to plain loops together.
use Rattle.std.proofs.Common.{◌≡◌, true}
use Rattle.gm_ast.specs.Program.{Program}
use Rattle.gm_forms.specs.Meanings.{SameMeaning}
use Rattle.gm_forms.specs.Ready.{Ready0}
use Rattle.gm_forms.proofs.Meanings.{same-trans}
use Rattle.gm_forms.proofs.Named.{both-true}
use Rattle.gm_desugar.specs.Compounds.{without_compounds}
use Rattle.gm_desugar.specs.Conditions.{with_conditions}
use Rattle.gm_desugar.specs.Groups.{without_groups}
use Rattle.gm_desugar.specs.Literals.{with_negative_literals}
use Rattle.gm_reductions.specs.Accesses.{without_accesses}
use Rattle.gm_reductions.specs.Folds.{without_folds}
use Rattle.gm_reductions.specs.Stages.{WithRisingKeys}
use Rattle.gm_reductions.proofs.AccessesOut as Accesses
use Rattle.gm_hoisting.specs.Stages.{CanBeHoisted}
use Rattle.gm_hoisting.specs.Throughout.{stands_throughout}
use Rattle.gm_hoisting.specs.Totals.{totals_stand, loops_stand}
use Rattle.gm_hoisting.proofs.Same.{same-without_inner_folds}
use Rattle.gm_hoisting.proofs.Throughout.{throughout-hoisted}
use Rattle.gm_desugaring.specs.Desugaring.{CanBecomeLoops, with_reads_alone, with_picks_alone, with_loops_alone, with_plain_loops}
use Rattle.gm_desugaring.specs.Laws.{PassesKeepTotals}
use Rattle.gm_desugaring.proofs.Together.{with-picks, loops-alone, same-loops}
use Rattle.gm_desugaring.proofs.TotalsFolds.{folds-keep}
use Rattle.gm_desugaring.proofs.TotalsGroups.{groups-keep, compounds-keep}
use Rattle.gm_desugaring.proofs.TotalsPicks.{picks-keep}
use Rattle.gm_desugaring.proofs.TotalsReads.{conditions-keep, reads-keep, accesses-keep}

-- reductions that stand alone, in a program with rising keys
alone-keep : (p : Program) → WithRisingKeys p → stands_throughout p ≡ true → stands_throughout (without_folds p) ≡ true
alone-keep p r h = folds-keep p r.with_reads_apart.with_conditions.with_literals.without_compounds.without_groups.ready.form r.with_reads_apart.apart r.rising h

pub all-keep-totals : PassesKeepTotals
all-keep-totals = record { groups = groups-keep; compounds = compounds-keep; conditions = conditions-keep; reads = reads-keep; picks = picks-keep; accesses = accesses-keep; folds = alone-keep }

module _ (p : Program) (can : CanBecomeLoops p) where
  stands : stands_throughout (with_loops_alone p) ≡ true
  stands =
      let p1 = without_groups p in
      let p2 = without_compounds p1 in
      let p3 = with_negative_literals p2 in
      let p5 = with_reads_alone p in
      let p6 = with_picks_alone p in
      let a = Accesses.kept p6 (with-picks p can.can).with_typed_runs in
      let settled : stands_throughout p3 ≡ true = compounds-keep p1 (groups-keep p can.stands) in
      let picked : stands_throughout p6 ≡ true = picks-keep p5 (reads-keep (with_conditions p3) (conditions-keep p3 settled)) in
      alone-keep (without_accesses p6) a.with_typed_runs.with_rising_keys (accesses-keep p6 picked)

  ready : Ready0 (with_loops_alone p)
  ready = (loops-alone p can.can).without_folds.with_reads_apart.with_conditions.with_literals.without_compounds.without_groups.ready

  pub can-hoist : CanBeHoisted (with_loops_alone p)
  can-hoist = record { ready = ready; stands = throughout-hoisted (with_loops_alone p) ready.sane.ordered stands }

  pub same-plain : SameMeaning p (with_plain_loops p)
  same-plain =
      let q = with_loops_alone p in
      same-trans p q (with_plain_loops p) (same-loops p can.can)
      (same-without_inner_folds q ready.sane.named ready.form (both-true (totals_stand q) (loops_stand q.body) can-hoist.stands).0)
