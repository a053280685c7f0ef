use Rattle.std.proofs.Common.{◌≡◌, ℕ, ◌<◌, List, ◌∷◌, length, All, ap, subst, arith, rules}
use Rattle.std.proofs.lemmas.List.Elements.{All-tail}
use Rattle.gm_mailbox.specs.Sender.{Sender}
use Rattle.gm_base_tests.proofs.mailboxes.join_all.Goals as goal

pub loop-post-preserved : goal.loop-post-preserved
loop-post-preserved g c =
    let rest = c.next.new.self.rest.items in
    let e : c.loop-post.post-iterator.rest.items ≡ c.in-Some.post ∷ rest = c.in-Some.ensures.steps.0 in
    let IsOther : Sender ℕ → Type 0 = λ p. (p.mailbox ≡ c.args.mailbox.now) × (0 < p.number) in
    let Others : List (Sender ℕ) → Type 0 = All IsOther in
    let left : length c.loop-post.post-iterator.rest.items ≡ length (c.in-Some.post ∷ rest) = ap length e in
    let more = ap (λ (s : Sender ℕ). length s.ended) c.join_back.ensures in
    record {
      same = search rules;
      ended = omega arith;
      rest = All-tail IsOther c.in-Some.post rest (subst Others e c.loop-post.invariant.rest);
    }
