use mathlib.Core.Bool.{beq}
use Rattle.std.proofs.Common.{◌<◌, inl, inr, refl, sym, ap, subst, ◌∙◌, ◌&&◌, eqb, cond, Some}
use Rattle.std.proofs.lemmas.Bool.{true≢false, and_from, eq-eqb}
use Rattle.std.specs.Option.{option_eq}
use Rattle.indexmap.specs.IndexMap.{get, insert_entry}
use Rattle.gm_push_pull.specs.declared.reads.Reads.{Reads}
use Rattle.gm_push_pull.specs.Reads.{reads_rank}
use Rattle.gm_push_pull.proofs.Growing.{grows-added, eq-itself}
use Rattle.gm_push_pull.proofs.locals.Locals.add.Goals as goal

pub returns : goal.returns
returns c =
    let e = c.in_ok-insert.ensures in
    let before = c.in-Some.known.now in
    let after = c.join-after.result in
    let w = c.join-after.ensures in
    let lower : reads_rank after < reads_rank before = elim w.lower [
      | inl h ↦ absurd (true≢false (sym (c.eq.ensures ∙ ap (λ (r : Reads). beq r.neighbour before.neighbour && option_eq (λ p q. eqb p.line q.line && eqb p.col q.col) r.edge before.edge) h
          ∙ eq-itself (λ p q. eqb p.line q.line && eqb p.col q.col) (λ p. and_from (eqb p.line p.line) (eqb p.col p.col) (eq-eqb p.line p.line refl) (eq-eqb p.col p.col refl)) before) ∙ c.if-eq.false))
      | inr h ↦ h
    ] in
    grows-added c.args.variable before c.args.reads (sym c.in-Some.ensures.value) refl
    (λ q. e.updates.0 q ∙ ap (λ (r : Reads). cond (eqb c.args.variable q) (Some r) (get eqb c.args.self.now.facts q)) w.reads)
    (e.entries ∙ ap (insert_entry eqb c.args.self.now.facts.entries c.args.variable) w.reads)
    (subst (λ (r : Reads). reads_rank r < reads_rank before) w.reads lower)
