use Rattle.std.proofs.Common.{◌≡◌, ◌+◌, ◌++◌, ◌∷◌, ◌∙◌, Ok, Err, List, length, map, sym, ap, subst, arith, length-append}
use Rattle.std.proofs.lemmas.List.{length-map}
use Rattle.gm_image.specs.declared.images.Kind.{Kind}
use Rattle.gm_image.specs.Views.{program}
use Rattle.gm_image.specs.Rows.{Plain, KindRow, plain_rows}
use Rattle.gm_verify.specs.Checks.{Checks}
use Rattle.gm_verify.specs.Tails.{from_blocks, from_kinds}
use Rattle.gm_verify.proofs.Wholes.{behind-fits, behind-part, plains-fit, section-breaks, halted, at-places}
use Rattle.gm_verify.proofs.images.check_places.Goals as goal

pub check_kinds-requires : goal.check_kinds-requires
check_kinds-requires c =
    let p = program c.args.image.now in
    let rest = Plain ∷ (plain_rows p.places ++ Plain ∷ from_blocks p) in
    let fits = behind-fits p c.args.number (from_kinds p) c.requires.reached c.requires.room in
    let long : length (map KindRow p.kinds) ≡ length c.as_slice.result.now = length-map p.kinds KindRow ∙ sym (ap length c.as_slice.ensures) in
    omega (arith, fits, long, length-append (map KindRow p.kinds) rest)

pub overflow_add-header : goal.overflow_add-header
overflow_add-header c =
    let p = program c.args.image.now in
    let kinds = subst (λ (ks : List Kind). Checks p c.args.number (map KindRow ks) (Ok c.in_ok-header.header)) c.as_slice.ensures c.in_ok-header.ensures in
    let reached = at-places p c.args.number c.in_ok-header.header c.requires.reached kinds in
    let fits = behind-fits p (c.in_ok-header.header + 1) (plain_rows p.places ++ Plain ∷ from_blocks p) reached c.requires.room in
    omega (arith, fits)

pub next_part-requires : goal.next_part-requires
next_part-requires c =
    let p = program c.args.image.now in
    let kinds = subst (λ (ks : List Kind). Checks p c.args.number (map KindRow ks) (Ok c.in_ok-header.header)) c.as_slice.ensures c.in_ok-header.ensures in
    let reached = at-places p c.args.number c.in_ok-header.header c.requires.reached kinds in
    let fits = plains-fit p (c.in_ok-header.header + 1) p.places Plain (from_blocks p) reached c.requires.room in
    omega (arith, fits, c.len.ensures)

pub returns-in_err-header : goal.returns-in_err-header
returns-in_err-header c =
    let p = program c.args.image.now in
    let e = c.in_err-header.field-0.0 in
    let kinds = subst (λ (ks : List Kind). Checks p c.args.number (map KindRow ks) (Err e)) c.as_slice.ensures c.in_err-header.ensures in
    halted p (from_blocks p) c.from_residual.result e c.from_residual.ensures.1
    (section-breaks p c.args.number (map KindRow p.kinds) (Plain ∷ (plain_rows p.places ++ Plain ∷ from_blocks p)) c.requires.reached e kinds)

pub returns : goal.returns
returns c =
    let p = program c.args.image.now in
    let kinds = subst (λ (ks : List Kind). Checks p c.args.number (map KindRow ks) (Ok c.in_ok-header.header)) c.as_slice.ensures c.in_ok-header.ensures in
    let reached = at-places p c.args.number c.in_ok-header.header c.requires.reached kinds in
    let blocks : c.next_part.result ≡ c.in_ok-header.header + 1 + length p.places + 1 = omega (arith, c.next_part.ensures, c.len.ensures) in
    behind-part p (c.in_ok-header.header + 1) c.next_part.result p.places (from_blocks p) reached blocks
