-- What a parted program tells: what the program of a text tells, through all passes.
use Rattle.std.proofs.Common.{◌≡◌, ◌<◌, ◌≤◌, ◌+◌, ℕ, Bool, true, false, cond, [], ◌∷◌, length, refl, ap, ◌∙◌, sym, arith, ⊎_elim}
use Rattle.std.specs.Prelude.{◌⊎◌, ◌||◌, nat_eq, nat_le}
use Rattle.std.specs.List.{list_all}
use Rattle.gm_value.specs.declared.values.VType.{VType}
use Rattle.gm_value.specs.declared.values.VType.TheVariants as V
use Rattle.gm_ast.specs.declared.tree.Sort.TheVariants as Sorts
use Rattle.gm_ast.specs.Names.{sort_eq}
use Rattle.gm_ast.specs.Procedures.{IsTyped}
use Rattle.gm_ast.specs.Program.{Program}
use Rattle.gm_semantics.specs.Outcomes.{is_of}
use Rattle.gm_forms.specs.Ready.{Ready0}
use Rattle.gm_forms.specs.Typing.{type_at}
use Rattle.gm_forms.specs.Uses.{suits, uses_of}
use Rattle.gm_forms.proofs.Named.{both-true}
use Rattle.gm_typed_stores.specs.Tells.{TypeTable, holds, table_of}
use Rattle.gm_well_typed.proofs.Procedures.{typed-tells-values}
use Rattle.gm_ready.proofs.Placing.{IsIteratorAt}
use Rattle.gm_ready.proofs.PlacedProcedures.{program-placed}
use Rattle.gm_desugar.specs.Compounds.{without_compounds}
use Rattle.gm_desugar.specs.Conditions.{with_conditions}
use Rattle.gm_desugar.specs.Groups.{without_groups}
use Rattle.gm_desugar.specs.Literals.{with_negative_literals}
use Rattle.gm_desugar.specs.Reads.{with_reads_apart}
use Rattle.gm_desugar.specs.Stages.{WithoutGroups, WithoutCompounds}
use Rattle.gm_desugar.proofs.CompoundsOut as CompoundsOut
use Rattle.gm_desugar.proofs.GroupsLaws as GroupsLaws
use Rattle.gm_reductions.specs.Accesses.{added_at, holder, without_accesses}
use Rattle.gm_reductions.specs.Folds.{without_folds}
use Rattle.gm_picks.specs.Picks.{with_plain_picks}
use Rattle.gm_hoisting.specs.Hoisting.{without_inner_folds}
use Rattle.gm_bfs.specs.Levelled.{has_search, searches_out, levelled}
use Rattle.gm_bfs.specs.Variables.{fresh_from, with_fresh}
use Rattle.gm_dissect.specs.AllDeferred.{without_deferred}
use Rattle.gm_dissect.specs.Conditions.{with_saved_conditions}
use Rattle.gm_cut.specs.Parts.{in_pieces}
use Rattle.gm_cut.specs.Lean.{in_lean_slices}
use Rattle.gm_flip.specs.Flipped.{without_pulls}
use Rattle.gm_locals.specs.AllGroups.{with_groups_kept}
use Rattle.gm_parting.specs.Apart.{with_statements_apart}
use Rattle.gm_parting.specs.Declared.{with_locals_declared}
use Rattle.gm_parting.specs.Filters.{with_saved_filters}
use Rattle.gm_parting.specs.Iterators.{with_iterators_placed}
use Rattle.gm_parting.specs.Lasting.{has_numbered_ifs}
use Rattle.gm_parting.specs.Nodes.{all_nodes_in, with_nodes_read}
use Rattle.gm_parting.specs.Numbers.{with_own_numbers, with_conditions_apart}
use Rattle.gm_parting.specs.Passes.{dissected}
use Rattle.gm_interface.specs.Tables.{HasParametersOf}
use Rattle.gm_interface.proofs.Passes as Passes
use Rattle.gm_interface.proofs.Placed.{placed-parameters, placed-declared}
use Rattle.gm_interface.proofs.Source.{typed-table}
use Rattle.gm_interface.proofs.Widened.{Widens, widened-parameters, both-parameters}
use Rattle.gm_compilable.specs.Parted.{with_levels, parted}
use Rattle.gm_compilable.proofs.Telling.{Phase}
use Rattle.gm_compilable.proofs.Typed.{has-in}
use Rattle.gm_compilable.proofs.ToldTexts as Told
use Rattle.gm_compilable.proofs.ToldTexts.{Out, In, text-tells, no-input, below-or}
use Rattle.gm_compilable.proofs.ToldPlain.{groups-told, compounds-told, literals-told, conditions-told, reads-told, picks-told, accesses-told}
use Rattle.gm_compilable.proofs.ToldLoops.{folds-told, inner-folds-told, searches-told}
use Rattle.gm_compilable.proofs.ToldCuts.{declared-told, deferred-told, filters-told, saved-told, numbers-told, nodes-told, kept-told}
use Rattle.gm_compilable.proofs.ToldPieces.{pieces-told, apart-told, slices-told}
use Rattle.gm_compilable.proofs.ToldLast.{Last, pulls-told, outward-told}

-- what may be told in an inner loop
abbrev pub Inner : TypeTable → ℕ → ℕ → ℕ → Type 0
Inner table n i x = holds table (i ∷ (n ∷ [])) x ≡ true

module _ (table : TypeTable) where
  in-outer : (n i x : ℕ) → In table n x → Inner table n i x
  in-outer n i x h = by (is_of table.declarations Sorts.Scalar x) (nat_le table.inputs x) (nat_eq x i) (nat_eq x n) h
    where
      by : (a b c d : Bool) → a || (b || (d || false)) ≡ true → a || (b || (c || (d || false))) ≡ true
      by true b c d h = refl
      by false true c d h = refl
      by false false true d h = refl
      by false false false d h = h

  in-turned : (n i x : ℕ) → In table n x → Inner table i n x
  in-turned n i x h = by (is_of table.declarations Sorts.Scalar x) (nat_le table.inputs x) (nat_eq x i) (nat_eq x n) h
    where
      by : (a b c d : Bool) → a || (b || (d || false)) ≡ true → a || (b || (d || (c || false))) ≡ true
      by true b c d h = refl
      by false true c d h = refl
      by false false c true h = refl
      by false false true false h = refl
      by false false false false h = h

  in-apart : (n i x : ℕ) → nat_eq x i ≡ false → Inner table n i x → In table n x
  in-apart n i x e h = sym (ap (λ c. is_of table.declarations Sorts.Scalar x || (nat_le table.inputs x || (c || (nat_eq x n || false)))) e) ∙ h

module _ (p : Program) (is_typed : IsTyped p) (ready : Ready0 p) where
  abbrev table : TypeTable
  table = table_of 0 p

  abbrev out : ℕ → Type 0
  out = Out table

  abbrev fors : ℕ → Type 0
  fors = IsIteratorAt p.declarations 0

  abbrev inn : ℕ → ℕ → Type 0
  inn = In table

  -- a program with the inputs and outputs of p that tells no more
  record Fine (q : Program) : Type 0 where
    parameters : HasParametersOf p q
    declared : p.inputs + p.outputs ≤ length q.declarations
    tells : Phase fors out inn q.body

  low : (q : Program) → Fine q → p.inputs ≤ length q.declarations
  low q f = let d = f.declared in omega (arith, d)

  scalar : (q : Program) → Fine q → (x : ℕ) → is_of q.declarations Sorts.Scalar x ≡ true → out x
  scalar q f x e =
      ⊎_elim
      (λ (l : x < p.inputs).
      let k : x < p.inputs + p.outputs = omega (arith, l) in
      ap (λ b. b || (nat_le p.inputs x || false)) (sym (ap (sort_eq Sorts.Scalar) (f.parameters.like x k).sort) ∙ e)) (λ (l : p.inputs ≤ x). Told.far table x l) (below-or x p.inputs)

  inside : (q : Program) → Fine q → (n x : ℕ) → is_of q.declarations Sorts.Scalar x ≡ true → inn n x
  inside q f n x e = Told.wider table n x (scalar q f x e)

  widen : (q r : Program) → Widens q r → Fine q → Phase fors out inn r.body → Fine r
  widen q r w f h =
      let d = f.declared in
      let i = f.parameters.inputs in
      let o = f.parameters.outputs in
      let k : q.inputs + q.outputs ≤ length q.declarations = omega (arith, d, i, o) in
      let l = w.longer in
      record { parameters = both-parameters p q r f.parameters (widened-parameters q r w k); declared = omega (arith, d, l); tells = h }

  start : Fine p
  start =
      let t = typed-table p is_typed in
      record {
        parameters = record { name = refl; inputs = refl; outputs = refl; result = refl; like = λ x lt. record { name = refl; sort = refl; vtype = refl } };
        declared = t.interface.declared;
        tells = text-tells p.declarations p.inputs t.interface.no_iterator p.body (program-placed p is_typed) (has-in p.declarations p.result p.body ready.sane.typed) (typed-tells-values 0 p is_typed);
      }

  -- ---- to plain loops

  abbrev p1 : Program
  p1 = without_groups p

  abbrev p2 : Program
  p2 = without_compounds p1

  abbrev p3 : Program
  p3 = with_negative_literals p2

  abbrev p4 : Program
  p4 = with_conditions p3

  abbrev p5 : Program
  p5 = with_reads_apart p4

  abbrev p6 : Program
  p6 = with_plain_picks p5

  abbrev p7 : Program
  p7 = without_accesses p6

  abbrev p8 : Program
  p8 = without_folds p7

  abbrev p9 : Program
  p9 = without_inner_folds p8

  g : WithoutGroups p1
  g = GroupsLaws.kept p ready

  c : WithoutCompounds p2
  c = CompoundsOut.kept p1 g

  f1 : Fine p1
  f1 = widen p p1 (Passes.groups p) start (groups-told fors out inn p.body start.tells)

  f2 : Fine p2
  f2 =
      let named = both-true (nat_le (p1.inputs + p1.outputs) (length p1.declarations)) (list_all (suits p1.declarations) (uses_of p1.body)) g.ready.sane.named in
      widen p1 p2 (Passes.compounds p1) f1 (compounds-told fors out inn p1.declarations (scalar p1 f1) (Told.wider table) p1.body named.1 f1.tells)

  f3 : Fine p3
  f3 = widen p2 p3 (Passes.literals p2) f2 (literals-told fors out inn p2.declarations p2.body (has-in p2.declarations p2.result p2.body c.without_groups.ready.sane.typed) f2.tells)

  f4 : Fine p4
  f4 = widen p3 p4 (Passes.conditions p3) f3 (conditions-told fors out inn (length p3.declarations) (Told.far table (length p3.declarations) (low p3 f3)) p3.body f3.tells)

  f5 : Fine p5
  f5 = widen p4 p5 (Passes.reads p4) f4 (reads-told fors out inn p.inputs (Told.far table) p4.body (length p4.declarations) (low p4 f4) f4.tells)

  f6 : Fine p6
  f6 = widen p5 p6 (Passes.picks p5) f5 (picks-told fors out inn p.inputs (Told.far table) p5.body [] (length p5.declarations) (low p5 f5) f5.tells)

  keeps : (x : ℕ) → fors x → out x
  keeps x h = Told.far table x (no-input p.declarations p.inputs (typed-table p is_typed).interface.no_iterator 0 x h)

  behind : (n : ℕ) → p.inputs ≤ n → (t : VType) → out (holder (added_at n) t)
  behind n l V.I32 = Told.far table (n + 2) (omega (arith, l))
  behind n l V.I64 = Told.far table (n + 3) (omega (arith, l))
  behind n l V.Flag = Told.far table (n + 4) (omega (arith, l))
  behind n l V.Node = Told.far table (n + 5) (omega (arith, l))

  f7 : Fine p7
  f7 =
      let n = length p6.declarations in
      let l = low p6 f6 in
      widen p6 p7 (Passes.accesses p6) f6
      (accesses-told fors out inn p6.declarations (added_at n) (Told.wider table) (Told.far table n l) (Told.far table (n + 1) (omega (arith, l))) (λ x. behind n l (type_at p6.declarations x)) keeps p6.body [] tt f6.tells)

  f8 : Fine p8
  f8 = widen p7 p8 (Passes.folds p7) f7 (folds-told fors out inn (Told.wider table) p7.body f7.tells)

  f9 : Fine p9
  f9 = widen p8 p9 (Passes.inner-folds p8) f8 (inner-folds-told fors out inn p.inputs (Told.far-in table) p8.body [] (length p8.declarations) (low p8 f8) f8.tells)

  -- ---- searches

  abbrev r0 : Program
  r0 = levelled p9

  searched : (b : Bool) → Phase fors out inn (cond {A = Program} b (record p9 { declarations = with_fresh p9.declarations; body = searches_out (fresh_from (length p9.declarations)) (length p9.declarations) p9.body }) p9).body
  searched true =
      let n = length p9.declarations in
      let l = low p9 f9 in
      searches-told fors out inn (Told.wider table) (fresh_from n) (record {
        root = Told.far table n l;
        current = Told.far table (n + 1) (omega (arith, l));
        up = Told.far table (n + 2) (omega (arith, l));
        down = Told.far table (n + 3) (omega (arith, l));
        more = Told.far table (n + 4) (omega (arith, l));
        found = Told.far table (n + 5) (omega (arith, l));
        node = Told.far table (n + 8) (omega (arith, l));
      }) n p9.body f9.tells
  searched false = f9.tells

  e0 : Fine r0
  e0 = widen p9 r0 (Passes.searches p9) f9 (searched (has_search p9.body))

  -- ---- loops that are cut

  abbrev r1 : Program
  r1 = with_iterators_placed r0

  abbrev r2 : Program
  r2 = with_locals_declared r1

  abbrev r3 : Program
  r3 = without_deferred r2

  abbrev r4 : Program
  r4 = with_saved_filters r3

  abbrev r5 : Program
  r5 = with_conditions_apart r4

  abbrev r6 : Program
  r6 = with_nodes_read r5

  abbrev r7 : Program
  r7 = with_groups_kept r6

  abbrev r8 : Program
  r8 = in_pieces r7

  abbrev r9 : Program
  r9 = with_statements_apart r8

  abbrev r10 : Program
  r10 = in_lean_slices r9

  e1 : Fine r1
  e1 =
      let d = e0.declared in
      let i = e0.parameters.inputs in
      let o = e0.parameters.outputs in
      let k : r0.inputs + r0.outputs ≤ length r0.declarations = omega (arith, d, i, o) in
      let l = placed-declared r0 k in
      record { parameters = both-parameters p r0 r1 e0.parameters (placed-parameters r0); declared = omega (arith, l, i, o); tells = e0.tells }

  e2 : Fine r2
  e2 = widen r1 r2 (Passes.declared r1) e1 (declared-told fors out inn r1.declarations (inside r1 e1) r1.body e1.tells)

  e3 : Fine r3
  e3 = widen r2 r3 (Passes.deferred r2) e2 (deferred-told fors out inn r2 e2.tells)

  e4 : Fine r4
  e4 = widen r3 r4 (Passes.filters r3) e3 (filters-told fors out inn r3.declarations (inside r3 e3) (length r3.declarations) r3.body e3.tells)

  abbrev s1 : Program
  s1 = with_saved_conditions r4

  abbrev s2 : Program
  s2 = with_own_numbers s1

  g1 : Fine s1
  g1 = widen r4 s1 (Passes.saved-conditions r4) e4 (saved-told fors out inn p.inputs (Told.far-in table) r4 (low r4 e4) e4.tells)

  apart-conditions : (b : Bool) → Phase fors out inn (cond {A = Program} b s1 (with_saved_conditions s2)).body
  apart-conditions true = g1.tells
  apart-conditions false = saved-told fors out inn p.inputs (Told.far-in table) s2 (low s1 g1) (numbers-told fors out inn s1.body g1.tells)

  e5 : Fine r5
  e5 = widen r4 r5 (Passes.conditions-apart r4) e4 (apart-conditions (has_numbered_ifs r4))

  e6 : Fine r6
  e6 = let n = length r5.declarations in widen r5 r6 (Passes.nodes r5) e5 (nodes-told fors out inn r5.declarations (inside r5 e5) n (n + all_nodes_in r5.declarations r5.body) r5.body e5.tells)

  e7 : Fine r7
  e7 = widen r6 r7 (Passes.groups-kept r6) e6 (kept-told fors out inn r6.declarations (inside r6 e6) (length r6.declarations) r6.body e6.tells)

  e8 : Fine r8
  e8 = widen r7 r8 (Passes.pieces r7) e7 (pieces-told fors out inn r7.body e7.tells)

  e9 : Fine r9
  e9 = widen r8 r9 (Passes.statements r8) e8 (apart-told fors out inn r8.declarations p.inputs (length r8.declarations) (Told.far-in table) (low r8 e8) r8.body e8.tells)

  e10 : Fine r10
  e10 = widen r9 r10 (Passes.slices r9) e9 (slices-told fors out inn r9.declarations r9.body e9.tells)

  -- ---- and the last passes

  pub parted-tells : Last fors out inn (Inner table) (parted p).body
  parted-tells =
      outward-told fors out inn (Inner table) (in-apart table) (without_pulls (dissected (with_levels p))).body (pulls-told fors out inn (Inner table) (in-outer table) (in-turned table) (dissected (with_levels p)).body e10.tells)
