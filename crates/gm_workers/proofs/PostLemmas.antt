-- What a worker sends and takes, piece by piece.
use Rattle.std.proofs.Common.{◌≡◌, ◌<◌, ◌≤◌, ◌+◌, ℕ, cond, nat_lt, List, [], ◌∷◌, ◌++◌, length, sym, ap, ◌∙◌, subst, arith, append_assoc, ⊎_elim, lt-ltb, le-ltb}
use Rattle.std.proofs.lemmas.Bool.{cases_eq, cases_lt, eq-eqb, ne_eqb}
use Rattle.std.proofs.lemmas.List.{append-nil}
use Rattle.gm_machine.specs.Vertex.{Message}
use Rattle.gm_posting.specs.Traffic.{Traffic}
use Rattle.gm_posting.specs.Gathering.{only_for, held, sent_by_worker, GoesOn, Gathers, AreFew}
use Rattle.gm_posting.proofs.GatheringLemmas.{goes-then, gathers-then, gathers-nothing}
use Rattle.gm_workers.specs.declared.mail.Mail.{Mail}
use Rattle.gm_workers.specs.Parts.{items_of, Takes, Hands}

-- the same for each receiver
pub gathers-as : (more more' : ℕ → List Message) (old new : Traffic Mail) (before after : List Mail) → ((to : ℕ) → more to ≡ more' to) → Gathers items_of more old new before after → Gathers items_of more' old new before after
gathers-as more more' old new before after same g = record {
  kept = g.kept;
  wide = g.wide;
  wide_sent = g.wide_sent;
  each = λ to low. subst (λ m. GoesOn items_of (held items_of before to) m (sent_by_worker old to) (sent_by_worker new to) (held items_of after to)) (same to) (g.each to low);
}

-- what goes to the workers below a number
abbrev pub to_first : ℕ → (ℕ → List Message) → ℕ → List Message
to_first k more to = cond (nat_lt to k) (more to) []

first-below : (k : ℕ) (more : ℕ → List Message) (to : ℕ) → to < k → to_first k more to ≡ more to
first-below k more to low = ap (λ b. let l : List Message = cond b (more to) [] in l) (lt-ltb to k low)

first-past : (k : ℕ) (more : ℕ → List Message) (to : ℕ) → k ≤ to → to_first k more to ≡ []
first-past k more to high = ap (λ b. let l : List Message = cond b (more to) [] in l) (le-ltb to k high)

pub posts-none : (more : ℕ → List Message) (old : Traffic Mail) (gathered : List Mail) → AreFew items_of gathered → Gathers items_of (to_first 0 more) old old gathered gathered
posts-none more old gathered few = gathers-as (λ to. []) (to_first 0 more) old old gathered gathered (λ to. sym (first-past 0 more to (omega arith))) (gathers-nothing items_of old gathered few)

-- and to the next one
pub posts-next : (k : ℕ) (more : ℕ → List Message) (x : List Message) (old now new : Traffic Mail) (before middle after : List Mail) → x ≡ more k →
    Gathers items_of (to_first k more) old now before middle → Gathers items_of (only_for k x) now new middle after → Gathers items_of (to_first (k + 1) more) old new before after
posts-next k more x old now new before middle after is first second =
    gathers-as (λ to. to_first k more to ++ only_for k x to) (to_first (k + 1) more) old new before after
    (λ to.
    ⊎_elim
    (λ (here : to ≡ k).
    ap (λ l. l ++ only_for k x to) (first-past k more to (omega arith))
    ∙ ap (λ b. let l : List Message = cond b x [] in l) (eq-eqb to k here)
    ∙ is
    ∙ ap more (sym here)
    ∙ sym (first-below (k + 1) more to (omega arith)))
    (λ (other : to ≡ k → ⊥).
    ap (λ l. to_first k more to ++ l) (ap (λ b. let l : List Message = cond b x [] in l) (ne_eqb to k other))
    ∙ append-nil (to_first k more to)
    ∙ ⊎_elim
    (λ (low : to < k). first-below k more to low ∙ sym (first-below (k + 1) more to (omega arith)))
    (λ (high : k ≤ to). first-past k more to high ∙ sym (first-past (k + 1) more to (omega arith)))
    (cases_lt to k))
    (cases_eq to k))
    (gathers-then items_of (to_first k more) (only_for k x) old now new before middle after first second)

pub posts-all : (k : ℕ) (more : ℕ → List Message) (old new : Traffic Mail) (before after : List Mail) → length before ≤ k → Gathers items_of (to_first k more) old new before after → Gathers items_of more old new before after
posts-all k more old new before after all g = record {
  kept = g.kept;
  wide = g.wide;
  wide_sent = g.wide_sent;
  each = λ to low. subst (λ m. GoesOn items_of (held items_of before to) m (sent_by_worker old to) (sent_by_worker new to) (held items_of after to)) (first-below k more to (omega arith)) (g.each to low);
}

-- batches were taken, and more
pub takes-none : (old : Traffic Mail) (came : List (ℕ × Mail)) → Takes old old came came
takes-none old came = record {
  batches = [];
  taken = ap (λ l. let t : Traffic Mail = record old { taken = l } in t) (sym (append-nil old.taken));
  kept = sym (append-nil came);
}

pub takes-one : (old now new : Traffic Mail) (came came' came'' : List (ℕ × Mail)) (x : ℕ × Mail) → Takes old now came came' → new ≡ record now { taken = now.taken ++ x ∷ [] } → came'' ≡ came' ++ x ∷ [] →
    Takes old new came came''
takes-one old now new came came' came'' x t is kept = record {
  batches = t.batches ++ x ∷ [];
  taken =
      is
      ∙ ap (λ (s : Traffic Mail). let u : Traffic Mail = record s { taken = s.taken ++ x ∷ [] } in u) t.taken
      ∙ ap (λ l. let u : Traffic Mail = record old { taken = l } in u) (append_assoc old.taken t.batches (x ∷ []));
  kept = kept ∙ ap (λ l. l ++ x ∷ []) t.kept ∙ append_assoc came t.batches (x ∷ []);
}

-- first messages were put, and then batches were taken
pub gathers-take : (more : ℕ → List Message) (old now new : Traffic Mail) (before after : List Mail) (came came' : List (ℕ × Mail)) → Gathers items_of more old now before after → Takes now new came came' → Hands more old new before after came came'
gathers-take more old now new before after came came' g t = record {
  mailboxes = ap (λ (s : Traffic Mail). s.mailboxes) t.taken ∙ ap (λ (s : Traffic Mail). s.mailboxes) g.kept;
  worker = ap (λ (s : Traffic Mail). s.worker) t.taken ∙ ap (λ (s : Traffic Mail). s.worker) g.kept;
  wide = g.wide;
  wide_sent = ap (λ (s : Traffic Mail). length s.sent) t.taken ∙ g.wide_sent;
  each = λ to low.
      subst (λ l. GoesOn items_of (held items_of before to) (more to) (sent_by_worker old to) l (held items_of after to)) (sym (ap (λ (s : Traffic Mail). sent_by_worker s to) t.taken)) (g.each to low);
  batches = t.batches;
  taken = ap (λ (s : Traffic Mail). s.taken) t.taken ∙ ap (λ l. l ++ t.batches) (ap (λ (s : Traffic Mail). s.taken) g.kept);
  kept = t.kept;
}

-- nothing yet, and more and more
pub hands-none : (old : Traffic Mail) (gathered : List Mail) (came : List (ℕ × Mail)) → AreFew items_of gathered → Hands (λ to. []) old old gathered gathered came came
hands-none old gathered came few = gathers-take (λ to. []) old old old gathered gathered came came (gathers-nothing items_of old gathered few) (takes-none old came)

pub hands-then : (some more all : ℕ → List Message) (old now new : Traffic Mail) (before middle after : List Mail) (came came' came'' : List (ℕ × Mail)) → ((to : ℕ) → some to ++ more to ≡ all to) →
    Hands some old now before middle came came' → Hands more now new middle after came' came'' → Hands all old new before after came came''
hands-then some more all old now new before middle after came came' came'' same first second = record {
  mailboxes = second.mailboxes ∙ first.mailboxes;
  worker = second.worker ∙ first.worker;
  wide = second.wide ∙ first.wide;
  wide_sent = second.wide_sent ∙ first.wide_sent;
  each = λ to low.
      subst (λ m. GoesOn items_of (held items_of before to) m (sent_by_worker old to) (sent_by_worker new to) (held items_of after to)) (same to)
      (goes-then items_of (held items_of before to) (some to) (more to) (held items_of middle to) (held items_of after to) (sent_by_worker old to) (sent_by_worker now to) (sent_by_worker new to)
      (first.each to low) (second.each to (omega (arith, low, first.wide))));
  batches = first.batches ++ second.batches;
  taken = second.taken ∙ ap (λ l. l ++ second.batches) first.taken ∙ append_assoc old.taken first.batches second.batches;
  kept = second.kept ∙ ap (λ l. l ++ second.batches) first.kept ∙ append_assoc came first.batches second.batches;
}

pub hands-few : (more : ℕ → List Message) (old new : Traffic Mail) (before after : List Mail) (came came' : List (ℕ × Mail)) → Hands more old new before after came came' → AreFew items_of after
hands-few more old new before after came came' h = λ to low. (h.each to (omega (arith, low, h.wide))).few
