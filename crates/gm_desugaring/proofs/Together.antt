-- The passes together: each keeps what the next ones ask for.
use Rattle.std.proofs.Common.{◌≡◌, ◌≤◌, ◌+◌, true, List, [], ◌∷◌, ◌++◌, length, map, refl, ◌∙◌, arith}
use Rattle.std.specs.Prelude.{nat_le}
use Rattle.std.specs.List.{list_all}
use Rattle.std.proofs.lemmas.Bool.{leb-true}
use Rattle.gm_value.specs.declared.values.VType.TheVariants.{Flag}
use Rattle.gm_ast.specs.declared.tree.Declaration.{Declaration}
use Rattle.gm_ast.specs.Program.{Program}
use Rattle.gm_forms.specs.Meanings.{SameMeaning}
use Rattle.gm_forms.specs.Ready.{Ready0}
use Rattle.gm_forms.specs.Uses.{suits, uses_of}
use Rattle.gm_forms.proofs.Meanings.{same-trans}
use Rattle.gm_forms.proofs.Named.{both-true}
use Rattle.gm_typed_stores.specs.Tells.{table_of}
use Rattle.gm_desugar.specs.Compounds.{without_compounds}
use Rattle.gm_desugar.specs.Conditions.{fresh, with_conditions}
use Rattle.gm_desugar.specs.Groups.{without_groups}
use Rattle.gm_desugar.specs.Literals.{with_literals, with_negative_literals}
use Rattle.gm_desugar.specs.Reads.{types_apart, with_reads_apart}
use Rattle.gm_desugar.proofs.Appended.{variable-appended}
use Rattle.gm_desugar.proofs.GroupsLaws as Groups
use Rattle.gm_desugar.proofs.CompoundsOut as Compounds
use Rattle.gm_desugar.proofs.LiteralsLaws as Literals
use Rattle.gm_desugar.proofs.ConditionsOut as Conditions
use Rattle.gm_desugar.proofs.ReadsOut as Reads
use Rattle.gm_reductions.specs.Stages.{all_below, WithTypedRuns, WithLoopsAlone}
use Rattle.gm_reductions.specs.Accesses.{added_at, without_accesses}
use Rattle.gm_reductions.proofs.AccessesOut as Accesses
use Rattle.gm_reductions.proofs.FoldsOut as Folds
use Rattle.gm_reductions.specs.Phases.{is_desugared_outside}
use Rattle.gm_reductions.proofs.Telling.{tells_in-longer}
use Rattle.gm_picks.specs.Laws.{WithPlainPicks}
use Rattle.gm_picks.proofs.PicksLaws.{same-with_plain_picks}
use Rattle.gm_picks.proofs.PicksOut.{picks-kept}
use Rattle.gm_picks.proofs.ReadsTell.{behind-inputs}
use Rattle.gm_desugaring.specs.Desugaring.{CanBeDesugared, with_reads_alone, with_picks_alone, with_loops_alone}
use Rattle.gm_desugaring.specs.Laws.{KeepsTypedRuns, PassesKeepTypedRuns}
use Rattle.gm_desugaring.proofs.PlainPicks.{accesses-plain, folds-plain, outside}
use Rattle.gm_desugaring.proofs.RisingKept.{groups-rise, compounds-rise, literals-rise, conditions-rise, apart-rises}
use Rattle.gm_desugaring.proofs.TellsKept.{groups-tell, compounds-tell, each-tell, literal-tells, conditions-tell, apart-tell}

-- ---- each pass

groups-keep : KeepsTypedRuns without_groups
groups-keep p ready h = record { rising = groups-rise p.body ∙ h.rising; tells = groups-tell (table_of all_below p) p.body [] h.tells }

-- the variables of a program stand in its table, and its inputs among them
named : (p : Program) → Ready0 p → (p.inputs ≤ length p.declarations) × (list_all (suits p.declarations) (uses_of p.body) ≡ true)
named p ready =
    let parts = both-true (nat_le (p.inputs + p.outputs) (length p.declarations)) (list_all (suits p.declarations) (uses_of p.body)) ready.sane.named in
    (let b = leb-true (p.inputs + p.outputs) (length p.declarations) parts.0 in omega arith, parts.1)

compounds-keep : KeepsTypedRuns without_compounds
compounds-keep p ready h = record { rising = compounds-rise p.declarations p.body h.rising; tells = compounds-tell (table_of all_below p) p.body [] (named p ready).1 h.tells }

literals-keep : KeepsTypedRuns with_negative_literals
literals-keep p ready h = record {
  rising = literals-rise p.body ∙ h.rising;
  tells = each-tell (table_of all_below p) with_literals (literal-tells (table_of all_below p) refl) p.body [] h.tells;
}

conditions-keep : KeepsTypedRuns with_conditions
conditions-keep p ready h =
    let ds = p.declarations in
    let more : List Declaration = fresh Flag ∷ [] in
    let q = with_conditions p in
    let known = named p ready in
    record {
      rising = conditions-rise (length ds) p.body h.rising;
      tells = conditions-tell (table_of all_below q) (length ds) (λ its. behind-inputs (table_of all_below q) its (length ds) known.0) p.body []
          (tells_in-longer all_below p.inputs ds (ds ++ more) (variable-appended ds more) p.body [] known.1 ∙ h.tells);
    }

reads-keep : KeepsTypedRuns with_reads_apart
reads-keep p ready h =
    let ds = p.declarations in
    let more : List Declaration = map fresh (types_apart ds p.body) in
    let q = with_reads_apart p in
    let known = named p ready in
    record {
      rising = apart-rises p.body (length ds) h.rising;
      tells = apart-tell (table_of all_below q) p.body [] (length ds) known.0 (tells_in-longer all_below p.inputs ds (ds ++ more) (variable-appended ds more) p.body [] known.1 ∙ h.tells);
    }

pub all-keep : PassesKeepTypedRuns
all-keep = record { groups = groups-keep; compounds = compounds-keep; literals = literals-keep; conditions = conditions-keep; reads = reads-keep }

-- ---- all of them

module _ (p : Program) (can : CanBeDesugared p) where
  abbrev p1 : Program
  p1 = without_groups p

  abbrev p2 : Program
  p2 = without_compounds p1

  abbrev p3 : Program
  p3 = with_negative_literals p2

  abbrev p4 : Program
  p4 = with_conditions p3

  pub with-reads : WithTypedRuns (with_reads_alone p)
  with-reads =
      let g = Groups.kept p can.ready in
      let c = Compounds.kept p1 g in
      let l = Literals.kept p2 c in
      let o = Conditions.kept p3 l in
      let r = Reads.kept p4 o in
      let h1 = groups-keep p can.ready can.runs in
      let h2 = compounds-keep p1 g.ready h1 in
      let h3 = literals-keep p2 c.without_groups.ready h2 in
      let h4 = conditions-keep p3 l.without_compounds.without_groups.ready h3 in
      let h5 = reads-keep p4 o.with_literals.without_compounds.without_groups.ready h4 in
      record { with_rising_keys = record { with_reads_apart = r; rising = h5.rising }; tells = h5.tells }

  pub same-reads : SameMeaning p (with_reads_alone p)
  same-reads =
      let g = Groups.kept p can.ready in
      let c = Compounds.kept p1 g in
      let l = Literals.kept p2 c in
      let o = Conditions.kept p3 l in
      same-trans p p1 (with_reads_alone p) (Groups.same-without_groups p)
      (same-trans p1 p2 (with_reads_alone p) (Compounds.same-without_compounds p1)
      (same-trans p2 p3 (with_reads_alone p) (Literals.same-with_negative_literals p2)
      (same-trans p3 p4 (with_reads_alone p) (Conditions.same-with_conditions p3 l.without_compounds.without_groups.ready.sane.named)
      (Reads.same-with_reads_apart p4 o.with_literals.without_compounds.without_groups.ready.sane.named))))

  pub with-picks : WithPlainPicks (with_picks_alone p)
  with-picks = picks-kept (with_reads_alone p) with-reads

  same-picks : SameMeaning p (with_picks_alone p)
  same-picks =
      let q = with_reads_alone p in
      let c = with-reads.with_rising_keys.with_reads_apart.with_conditions.with_literals.without_compounds in
      same-trans p q (with_picks_alone p) same-reads (same-with_plain_picks q c.without_groups.ready.sane.named c.no_compounds)

  pub loops-alone : WithLoopsAlone (with_loops_alone p)
  loops-alone = let q = with_picks_alone p in Folds.alone (without_accesses q) (Accesses.kept q with-picks.with_typed_runs)

  pub same-loops : SameMeaning p (with_loops_alone p)
  same-loops =
      let q = with_picks_alone p in
      let a = Accesses.kept q with-picks.with_typed_runs in
      let k = a.with_typed_runs.with_rising_keys in
      same-trans p q (with_loops_alone p) same-picks
      (same-trans q (without_accesses q) (with_loops_alone p) (Accesses.same-without_accesses q with-picks.with_typed_runs)
      (Folds.same-without_folds (without_accesses q) k.with_reads_apart.with_conditions.with_literals.without_compounds.without_groups.ready.form k.with_reads_apart.apart k.rising))

  -- it is desugared but for its parallel loops and searches
  pub outside-alone : is_desugared_outside (with_loops_alone p) ≡ true
  outside-alone =
      let q = with_picks_alone p in
      outside (with_loops_alone p) loops-alone (folds-plain (without_accesses q).body (accesses-plain q.declarations (added_at (length q.declarations)) [] q.body with-picks.plain))
