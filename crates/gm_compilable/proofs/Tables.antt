-- The table of a parted program.
use Rattle.std.proofs.Common.{◌≡◌, ◌<◌, Bool, true, false, refl, arith}
use Rattle.gm_ast.specs.declared.tree.Sort.TheVariants as Sorts
use Rattle.gm_ast.specs.Names.{is}
use Rattle.gm_ast.specs.Procedures.{IsTyped}
use Rattle.gm_ast.specs.Program.{Program}
use Rattle.gm_semantics.specs.Statements.{variable_at}
use Rattle.gm_desugaring.specs.Desugaring.{with_plain_loops}
use Rattle.gm_flip.specs.Flipped.{without_pulls}
use Rattle.gm_parting.specs.Passes.{dissected}
use Rattle.gm_sound_lowering.specs.Asked.{HasNames}
use Rattle.gm_interface.specs.Tables.{HasTable, IsNamedText, HasParametersOf}
use Rattle.gm_interface.proofs.Kept.{passes-keep-tables, passes-keep-names, passes-keep-parameters}
use Rattle.gm_interface.proofs.Source.{typed-table}
use Rattle.gm_interface.proofs.Spelled.{typed-names}
use Rattle.gm_interface.proofs.Widened.{both-parameters}
use Rattle.gm_compilable.specs.Laws.{PartedHasTable, PartedHasNoEdgeOutputs, PartedHasParameters, PartedHasNames, HasNoEdgeOutputs}
use Rattle.gm_compilable.specs.Parted.{with_levels, parted}
use Rattle.gm_compilable.proofs.Texts.{levelled-table, no-parameter}

module _ (p : Program) (typed : IsTyped p) where
  abbrev l : Program
  l = with_plain_loops p

  abbrev v : Program
  v = with_levels p

  abbrev d : Program
  d = dissected v

  abbrev w : Program
  w = without_pulls d

  first : HasTable p
  first = typed-table p typed

  plain : HasTable l
  plain = passes-keep-tables.plain_loops p tt first

  cut : HasTable d
  cut = passes-keep-tables.dissected v (no-parameter p typed) (levelled-table p typed)

  turned : HasTable w
  turned = passes-keep-tables.pulls d tt cut

  pub parted-table : HasTable (parted p)
  parted-table = passes-keep-tables.asked w tt turned

  pub parted-parameters : HasParametersOf p (parted p)
  parted-parameters =
      let k = passes-keep-parameters in
      both-parameters p l (parted p) (k.plain_loops p first.interface.declared)
      (both-parameters l v (parted p) (k.searches l plain.interface.declared)
      (both-parameters v d (parted p) (k.dissected v (levelled-table p typed).interface.declared)
      (both-parameters d w (parted p) (k.pulls d cut.interface.declared) (k.asked w turned.interface.declared))))

  pub parted-names : IsNamedText p → HasNames (parted p)
  parted-names n =
      let a = typed-names p typed in
      let h : HasNames p = record { name = n.name; names = n.names; inputs_differ = a.inputs_differ; outputs_differ = a.outputs_differ; no_nodes = a.no_nodes } in
      let k = passes-keep-names in
      k.asked w turned.interface.declared
      (k.pulls d cut.interface.declared (k.dissected v (levelled-table p typed).interface.declared (k.searches l plain.interface.declared (k.plain_loops p first.interface.declared h))))

-- properties of edges are inputs
no-edges : (p : Program) → HasTable p → HasNoEdgeOutputs p
no-edges p h x le lt = by (is Sorts.EdgeProperty (variable_at p.declarations x)) refl where
  by : (b : Bool) → is Sorts.EdgeProperty (variable_at p.declarations x) ≡ b → b ≡ false
  by false e = refl
  by true e = let i : x < p.inputs = h.interface.edges x e in absurd (omega (arith, i, le))

pub has-table : PartedHasTable
has-table p typed = parted-table p typed

pub has-no-edges : PartedHasNoEdgeOutputs
has-no-edges p typed = no-edges (parted p) (parted-table p typed)

pub has-parameters : PartedHasParameters
has-parameters p typed = parted-parameters p typed

pub has-names : PartedHasNames
has-names p h = parted-names p h.typed h.named
