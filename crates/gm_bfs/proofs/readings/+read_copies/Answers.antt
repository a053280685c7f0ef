use Rattle.gm_bfs.proofs.InPlaceTrees.{on-ok, inside, reads-Unary, reads-Binary, reads-Both, reads-Either, reads-Choose, reads-Fold}
use Rattle.gm_bfs.proofs.readings.+read_copies.Goals as goal

pub returns-in-Unary : goal.returns-in-Unary
returns-in-Unary t c =
    let see = inside c.args.fresh c.args.marks.now c.args.iterator in
    on-ok c.read_copies.result c.read_copies.ensures (λ r. reads-Unary c.args.fresh c.args.marks.now c.args.iterator _ _ c.in-Unary.inner _ _ c.in-Unary.is (see c.in-Unary.inner _ _ c.deref_mut.ensures.value r))

pub returns-in_ok-read_copies-in-Binary : goal.returns-in_ok-read_copies-in-Binary
returns-in_ok-read_copies-in-Binary t c =
    let at = c.in-Binary in
    let see = inside c.args.fresh c.args.marks.now c.args.iterator in
    on-ok c.read_copies-in-Binary-2.result c.read_copies-in-Binary-2.ensures (λ r. reads-Binary c.args.fresh c.args.marks.now c.args.iterator _ _ at.left at.right _ _ _ at.is
    (see at.left _ _ c.deref_mut-in-Binary.ensures.value c.in_ok-read_copies-in-Binary.ensures) (see at.right _ _ c.deref_mut-in-Binary-2.ensures.value r))

pub returns-in_ok-read_copies-in-Both : goal.returns-in_ok-read_copies-in-Both
returns-in_ok-read_copies-in-Both t c =
    let at = c.in-Both in
    let see = inside c.args.fresh c.args.marks.now c.args.iterator in
    on-ok c.read_copies-in-Both-2.result c.read_copies-in-Both-2.ensures (λ r. reads-Both c.args.fresh c.args.marks.now c.args.iterator at.left at.right _ _ _ at.is
    (see at.left _ _ c.deref_mut-in-Both.ensures.value c.in_ok-read_copies-in-Both.ensures) (see at.right _ _ c.deref_mut-in-Both-2.ensures.value r))

pub returns-in_ok-read_copies-in-Either : goal.returns-in_ok-read_copies-in-Either
returns-in_ok-read_copies-in-Either t c =
    let at = c.in-Either in
    let see = inside c.args.fresh c.args.marks.now c.args.iterator in
    on-ok c.read_copies-in-Either-2.result c.read_copies-in-Either-2.ensures (λ r. reads-Either c.args.fresh c.args.marks.now c.args.iterator at.left at.right _ _ _ at.is
    (see at.left _ _ c.deref_mut-in-Either.ensures.value c.in_ok-read_copies-in-Either.ensures) (see at.right _ _ c.deref_mut-in-Either-2.ensures.value r))

pub returns-in_ok-read_copies-in-Choose-2 : goal.returns-in_ok-read_copies-in-Choose-2
returns-in_ok-read_copies-in-Choose-2 t c =
    let at = c.in-Choose in
    let see = inside c.args.fresh c.args.marks.now c.args.iterator in
    on-ok c.read_copies-in-Choose-3.result c.read_copies-in-Choose-3.ensures (λ r. reads-Choose c.args.fresh c.args.marks.now c.args.iterator at.test at.yes at.no _ _ _ _ at.is
    (see at.test _ _ c.deref_mut-in-Choose.ensures.value c.in_ok-read_copies-in-Choose.ensures) (see at.yes _ _ c.deref_mut-in-Choose-2.ensures.value c.in_ok-read_copies-in-Choose-2.ensures)
    (see at.no _ _ c.deref_mut-in-Choose-3.ensures.value r))

pub returns-in_ok-read_copies-in-Fold : goal.returns-in_ok-read_copies-in-Fold
returns-in_ok-read_copies-in-Fold t c =
    let at = c.in-Fold in
    let see = inside c.args.fresh c.args.marks.now c.args.iterator in
    on-ok c.read_copies-in-Fold-2.result c.read_copies-in-Fold-2.ensures (λ r. reads-Fold c.args.fresh c.args.marks.now c.args.iterator _ _ at.filter at.body _ _ _ at.is
    (see at.filter _ _ c.deref_mut-in-Fold.ensures.value c.in_ok-read_copies-in-Fold.ensures) (see at.body _ _ c.deref_mut-in-Fold-2.ensures.value r))
