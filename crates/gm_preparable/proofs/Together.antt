-- Through the passes up to loops over levels iterators stand as deep as their loops, parallel code checks nothing, and its tuples stay as they are.
use Rattle.std.proofs.Common.{◌+◌, Bool, true, false, cond, List, [], ◌∷◌, ◌++◌, length, arith}
use Rattle.std.specs.Prelude.{map}
use Rattle.gm_ast.specs.declared.tree.Declaration.{Declaration}
use Rattle.gm_ast.specs.declared.tree.Target.{Target}
use Rattle.gm_ast.specs.Program.{Program}
use Rattle.gm_ast.specs.Procedures.{IsTyped}
use Rattle.gm_desugar.specs.Compounds.{without_compounds}
use Rattle.gm_desugar.specs.Conditions.{with_conditions}
use Rattle.gm_desugar.specs.Groups.{without_groups}
use Rattle.gm_desugar.specs.Literals.{with_negative_literals}
use Rattle.gm_desugar.specs.Reads.{with_reads_apart}
use Rattle.gm_reductions.specs.Accesses.{added, added_at, without_accesses}
use Rattle.gm_reductions.specs.Folds.{without_folds}
use Rattle.gm_picks.specs.Picks.{with_plain_picks}
use Rattle.gm_hoisting.specs.Hoisting.{without_inner_folds}
use Rattle.gm_desugaring.specs.Desugaring.{with_plain_loops}
use Rattle.gm_bfs.specs.Variables.{fresh_from, fresh_declarations, copy_declaration}
use Rattle.gm_bfs.specs.Levelled.{searches_out, has_search, levelled}
use Rattle.gm_preparable.specs.Laws.{TypedKeepIteratorsApart, TypedCheckNothing, TypedKeepTuplesEven, TypedMayBePrepared}
use Rattle.gm_preparable.proofs.Accesses.{accesses-stand}
use Rattle.gm_preparable.proofs.Compounds.{compounds-stand}
use Rattle.gm_preparable.proofs.Conditions.{conditions-stand}
use Rattle.gm_preparable.proofs.Facts.{iterators-apart, checks-nothing}
use Rattle.gm_preparable.proofs.Folds.{folds-stand}
use Rattle.gm_preparable.proofs.Groups.{groups-stand}
use Rattle.gm_preparable.proofs.InnerFolds.{inner-folds-stand}
use Rattle.gm_preparable.proofs.Literals.{literals-stand}
use Rattle.gm_preparable.proofs.Picks.{picks-stand}
use Rattle.gm_preparable.proofs.ReadsApart.{reads-stand}
use Rattle.gm_preparable.proofs.Searches.{searches-stand}
use Rattle.gm_preparable.proofs.Standing.{Phase, phase-more}
use Rattle.gm_preparable.proofs.Tables.{Outer, Inner, outer-longer, inner-longer, declared-behind}
use Rattle.gm_preparable.proofs.Texts.{Any, all-given, program-stands}
use Rattle.gm_preparable.proofs.Tuples.{Even, single-even, even-given, tuples-even, even-longer}
use Rattle.gm_ready.proofs.PlacedProcedures.{program-placed}

-- goes: which targets one reduction of parallel code may have, under a table
module _ (goes : List Declaration → List Target → Type 0) (single : (ds : List Declaration) (t : Target) → goes ds (t ∷ [])) (grows : (ds more : List Declaration) (ts : List Target) → goes ds ts → goes (ds ++ more) ts) where
  -- a program stands so in its own table
  abbrev Stands : Program → Type 0
  Stands p = Phase (goes p.declarations) (Outer p.declarations) (Inner p.declarations) p.body

  -- and in a longer one
  longer : (p : Program) (more : List Declaration) → Stands p → Phase (goes (p.declarations ++ more)) (Outer (p.declarations ++ more)) (Inner (p.declarations ++ more)) p.body
  longer p more h =
      let ds = p.declarations in
      phase-more (Outer ds) (Inner ds) (Outer (ds ++ more)) (Inner (ds ++ more)) (outer-longer ds more) (inner-longer ds more) (goes ds) (goes (ds ++ more)) (grows ds more) p.body h

  -- ---- the passes

  groups : (p : Program) → Stands p → Stands (without_groups p)
  groups p h = let ds = p.declarations in groups-stand (goes ds) (Outer ds) (Inner ds) p.body h

  compounds : (p : Program) → Stands p → Stands (without_compounds p)
  compounds p h = let ds = p.declarations in compounds-stand (goes ds) (Outer ds) (Inner ds) ds p.body h

  literals : (p : Program) → Stands p → Stands (with_negative_literals p)
  literals p h = let ds = p.declarations in literals-stand (goes ds) (Outer ds) (Inner ds) p.body h

  conditions : (p : Program) → Stands p → Stands (with_conditions p)
  conditions p h = let es = (with_conditions p).declarations in conditions-stand (goes es) (Outer es) (Inner es) (length p.declarations) p.body (longer p _ h)

  reads : (p : Program) → Stands p → Stands (with_reads_apart p)
  reads p h = let es = (with_reads_apart p).declarations in reads-stand (goes es) (Outer es) (Inner es) p.body (length p.declarations) (longer p _ h)

  picks : (p : Program) → Stands p → Stands (with_plain_picks p)
  picks p h = let es = (with_plain_picks p).declarations in picks-stand (goes es) (Outer es) (Inner es) p.body [] (length p.declarations) (longer p _ h)

  accesses : (p : Program) → Stands p → Stands (without_accesses p)
  accesses p h =
      let ds = p.declarations in
      let es = (without_accesses p).declarations in
      let iterates : Outer es (length ds + 1) = (_, (declared-behind ds added 1, omega arith)) in
      accesses-stand (goes es) (Outer es) (Inner es) ds (added_at (length ds)) iterates p.body [] (longer p added h)

  folds : (p : Program) → Stands p → Stands (without_folds p)
  folds p h = let ds = p.declarations in folds-stand (goes ds) (single ds) (Outer ds) (Inner ds) p.body h

  inner-folds : (p : Program) → Stands p → Stands (without_inner_folds p)
  inner-folds p h = let es = (without_inner_folds p).declarations in inner-folds-stand (goes es) (single es) (Outer es) (Inner es) p.body [] (length p.declarations) (longer p _ h)

  module _ (p : Program) where
    abbrev ds : List Declaration
    ds = p.declarations

    abbrev more : List Declaration
    more = fresh_declarations ++ map copy_declaration ds

    over : Outer (ds ++ more) (length ds + 8)
    over = (_, (declared-behind ds more 8, omega arith))

    along : Inner (ds ++ more) (length ds + 9)
    along = (_, (declared-behind ds more 9, omega arith))

    searches : Stands p → Stands (levelled p)
    searches h = by (has_search p.body)
      where
        by : (any : Bool) → Stands (cond any (record p { declarations = ds ++ more; body = searches_out (fresh_from (length ds)) (length ds) p.body }) p)
        by true = searches-stand (goes (ds ++ more)) (single (ds ++ more)) (Outer (ds ++ more)) (Inner (ds ++ more)) (fresh_from (length ds)) over along (length ds) p.body (longer p more h)
        by false = h

  levelled-stands : (p : Program) → Stands p → Stands (levelled (with_plain_loops p))
  levelled-stands p h =
      let a = without_groups p in
      let b = without_compounds a in
      let c = with_negative_literals b in
      let d = with_conditions c in
      let e = with_reads_apart d in
      let f = with_plain_picks e in
      let g = without_accesses f in
      let l = without_folds g in
      searches (without_inner_folds l) (inner-folds l (folds g (accesses f (picks e (reads d (conditions c (literals b (compounds a (groups p h)))))))))

-- ---- the laws

-- where it has any tuples
pub any-stands : (p : Program) → IsTyped p → let q = levelled (with_plain_loops p) in Phase Any (Outer q.declarations) (Inner q.declarations) q.body
any-stands p typed = levelled-stands (λ ds. Any) (λ ds t. tt) (λ ds more ts h. tt) p (program-stands Any p typed (all-given p.body))

pub keep-apart : TypedKeepIteratorsApart
keep-apart p typed = iterators-apart Any (levelled (with_plain_loops p)) (any-stands p typed)

pub check-nothing : TypedCheckNothing
check-nothing p typed = let q = levelled (with_plain_loops p) in checks-nothing Any (Outer q.declarations) (Inner q.declarations) q (any-stands p typed)

pub keep-even : TypedKeepTuplesEven
keep-even p typed even =
    let q = levelled (with_plain_loops p) in
    let ds = p.declarations in
    let given = even-given ds false p.body (program-placed p typed) even in
    tuples-even (Outer q.declarations) (Inner q.declarations) q (levelled-stands Even single-even even-longer p (program-stands (Even ds) p typed given))

pub may-be-prepared : TypedMayBePrepared
may-be-prepared p typed even = record { apart = keep-apart p typed; checks = check-nothing p typed; tuples = even }
