use Rattle.std.proofs.Common.{◌∙◌, ap, sym, refl}
use Rattle.gm_canon.proofs.Leasts.{joined, least_from-joined}
use Rattle.gm_canon.proofs.walks.Walker.note_least.Goals as goal

pub returns-in-Some : goal.returns-in-Some
returns-in-Some c = λ broken is. record {
  least = c.note.ensures ∙ ap (joined c.args.self.now.least) (sym c.in-Some.is ∙ is) ∙ sym (least_from-joined c.args.self.now.least broken);
  same = refl;
}

pub returns-in_default : goal.returns-in_default
returns-in_default c = λ broken is. record {
  least = ap (joined c.args.self.now.least) (sym c.in_default.is ∙ is) ∙ sym (least_from-joined c.args.self.now.least broken);
  same = refl;
}
