-- A program means the same, and is ready, when it is prepared, and its bodies may go to pieces then.
use Rattle.std.proofs.Common.{◌≡◌, true}
use Rattle.gm_ast.specs.Program.{Program}
use Rattle.gm_forms.specs.Meanings.{SameMeaning}
use Rattle.gm_forms.specs.Ready.{Ready2}
use Rattle.gm_forms.proofs.Meanings.{same-trans}
use Rattle.gm_dissect.specs.AllDeferred.{without_deferred}
use Rattle.gm_dissect.proofs.AllDeferred as Deferred
use Rattle.gm_cut.specs.Parts.{goes_any_way, in_pieces, IsPartedBy}
use Rattle.gm_cut.proofs.PartLaws.{same-parted, ready-parted}
use Rattle.gm_parting.specs.Apart.{with_statements_apart}
use Rattle.gm_parting.specs.Declared.{with_locals_declared}
use Rattle.gm_parting.specs.Filters.{with_saved_filters}
use Rattle.gm_parting.specs.Iterators.{with_iterators_placed}
use Rattle.gm_parting.specs.Numbers.{with_conditions_apart}
use Rattle.gm_parting.specs.Passes.{prepared, MayBePrepared}
use Rattle.gm_parting.specs.Prepared.{IsPrepared}
use Rattle.gm_parting.proofs.ApartLaws.{parted-apart-still}
use Rattle.gm_parting.proofs.DeclaredFacts.{all-declared, checks-declared, tuples-declared, iterators-declared}
use Rattle.gm_parting.proofs.DeclaredLaws.{same-declared, ready-declared}
use Rattle.gm_parting.proofs.DeferredFacts.{facts-stay}
use Rattle.gm_parting.proofs.FilterFacts.{declared-stay, checks-stay, tuples-stay, iterators-stay}
use Rattle.gm_parting.proofs.FilterLaws as Filters
use Rattle.gm_parting.proofs.GroupPrograms.{gone-ready, gone-same}
use Rattle.gm_parting.proofs.PlacedLaws.{placed-same, placed-ready}
use Rattle.gm_parting.proofs.PlacedNames.{no-strangers, tuples-placed, iterators-placed}
use Rattle.gm_parting.proofs.Programs.{programs-parted}
use Rattle.gm_parting.proofs.SavedGroups.{all-kept, all-gone, apart-ready, apart-same}

pub prepared-ready : (p : Program) → Ready2 p → Ready2 (prepared p)
prepared-ready p r =
    let i = with_iterators_placed p in
    let d = with_locals_declared i in
    let a = without_deferred d in
    let b = with_saved_filters a in
    let c = with_conditions_apart b in
    gone-ready c (apart-ready b (Filters.ready-saved a (Deferred.ready-all d (ready-declared i (placed-ready p r)))))

pub prepared-same : (p : Program) → Ready2 p → SameMeaning p (prepared p)
prepared-same p r =
    let i = with_iterators_placed p in
    let d = with_locals_declared i in
    let a = without_deferred d in
    let b = with_saved_filters a in
    let c = with_conditions_apart b in
    let ri = placed-ready p r in
    let rd = ready-declared i ri in
    let ra = Deferred.ready-all d rd in
    let rb = Filters.ready-saved a ra in
    let rc = apart-ready b rb in
    same-trans p i (prepared p) (placed-same p r)
    (same-trans i d (prepared p) (same-declared i ri)
    (same-trans d a (prepared p) (Deferred.same-all d rd)
    (same-trans a b (prepared p) (Filters.same-saved a ra (Deferred.none-deferred d)) (same-trans b c (prepared p) (apart-same b rb) (gone-same c rc)))))

pub is-prepared : (p : Program) → Ready2 p → MayBePrepared p → IsPrepared (prepared p)
is-prepared p r f =
    let i = with_iterators_placed p in
    let d = with_locals_declared i in
    let a = without_deferred d in
    let b = with_saved_filters a in
    let ri = placed-ready p r in
    let rd = ready-declared i ri in
    let ra = Deferred.ready-all d rd in
    let rb = Filters.ready-saved a ra in
    let g = facts-stay d rd (record {
      declared = all-declared i ri (no-strangers p r);
      checks = checks-declared i ri f.checks;
      tuples = tuples-declared i ri (tuples-placed p r f.tuples);
      iterators = iterators-declared i ri (iterators-placed p r f.apart);
    }) in
    all-gone b rb (Filters.none-saved a ra (Deferred.none-deferred d))
    (all-kept b rb (Filters.filters-saved a ra) (declared-stay a ra g.declared) (checks-stay a ra g.checks) (tuples-stay a ra g.tuples) (iterators-stay a ra g.iterators))

pub pieces-same : (p : Program) → Ready2 p → MayBePrepared p → SameMeaning p (in_pieces (prepared p))
pieces-same p r f =
    let s = prepared-ready p r in
    same-trans p (prepared p) (in_pieces (prepared p)) (prepared-same p r) (same-parted goes_any_way (prepared p) s (programs-parted (prepared p) s (is-prepared p r f)))

pub pieces-cut : (p : Program) → Ready2 p → MayBePrepared p → IsPartedBy goes_any_way (in_pieces (prepared p))
pieces-cut p r f = let s = prepared-ready p r in ready-parted goes_any_way (prepared p) s (programs-parted (prepared p) s (is-prepared p r f))

-- the statements of inner loops stand apart
pub apart-cut : (p : Program) → Ready2 p → MayBePrepared p → IsPartedBy goes_any_way (with_statements_apart (in_pieces (prepared p)))
apart-cut p r f = parted-apart-still (in_pieces (prepared p)) (pieces-cut p r f)
