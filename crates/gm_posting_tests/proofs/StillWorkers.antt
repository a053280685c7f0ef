-- Workers that have done something are the same workers still.
use Rattle.std.proofs.Common.{◌≡◌, ◌<◌, ℕ, List, [], ◌∷◌, ◌++◌, length, map, sym, ap, ◌∙◌, arith, append_assoc}
use Rattle.std.specs.Prelude.{slice_index_or}
use Rattle.std.proofs.lemmas.List.{get_or-map, length-map, map-append}
use Rattle.gm_mailbox.specs.Sender.{MailboxId}
use Rattle.gm_posting.specs.Traffic.{Traffic, AreWorkers}
use Rattle.gm_posting.specs.Gathering.{Gathers}
use Rattle.gm_posting.proofs.WorkerLemmas.{some-of}
use Rattle.gm_posting_tests.specs.declared.letters.Letters.{Letters}
use Rattle.gm_posting_tests.specs.Exchanges.{IsSame, numbers_of}

pub same-then : (a b c : Traffic Letters) → IsSame a b → IsSame b c → IsSame a c
same-then a b c first second = record { mailboxes = second.mailboxes ∙ first.mailboxes; worker = second.worker ∙ first.worker }

pub gathers-same : (more : ℕ → List ℕ) (old new : Traffic Letters) (before after : List Letters) → Gathers numbers_of more old new before after → IsSame old new
gathers-same more old new before after g = record { mailboxes = ap (λ (t : Traffic Letters). t.mailboxes) g.kept; worker = ap (λ (t : Traffic Letters). t.worker) g.kept }

pub still-workers : {A : Type 0} (f : A → Traffic Letters) (ids : List MailboxId) (ws : List (Traffic Letters)) (ts ts' : List A) → AreWorkers ids ws → map f ts ≡ ws → length ts' ≡ length ts →
    ((i : ℕ) (d : A) → i < length ts → IsSame (f (slice_index_or ts i d)) (f (slice_index_or ts' i d))) → AreWorkers ids (map f ts')
still-workers {A} f ids ws ts ts' are e long same =
    let many = length-map ts f in
    let many' = length-map ts' f in
    let count = ap length e in
    let all = are.count in
    let at : (w : ℕ) (d : Traffic Letters) → w < length ts → IsSame (slice_index_or ws w d) (slice_index_or (map f ts') w d) =
    λ w d low.
    let a : A = some-of ts (omega arith) in
    let old : slice_index_or ws w d ≡ f (slice_index_or ts w a) = ap (λ l. slice_index_or l w d) (sym e) ∙ get_or-map f ts w a d low in
    let new : slice_index_or (map f ts') w d ≡ f (slice_index_or ts' w a) = get_or-map f ts' w a d (omega arith) in
    record {
      mailboxes = ap (λ (t : Traffic Letters). t.mailboxes) new ∙ (same w a low).mailboxes ∙ ap (λ (t : Traffic Letters). t.mailboxes) (sym old);
      worker = ap (λ (t : Traffic Letters). t.worker) new ∙ (same w a low).worker ∙ ap (λ (t : Traffic Letters). t.worker) (sym old);
    } in
    record {
      count = many' ∙ long ∙ sym many ∙ count ∙ are.count;
      places = λ w d low. (at w d (omega arith)).worker ∙ are.places w d (omega arith);
      mailboxes = λ w d low. (at w d (omega arith)).mailboxes ∙ are.mailboxes w d (omega arith);
    }

-- one more has its turn
pub pushed : {A B : Type 0} (f : A → B) (ts ts' : List A) (x : A) (own : B) (rest more all : List B) → ts' ≡ ts ++ x ∷ [] → f x ≡ own → more ≡ own ∷ rest → map f ts ++ more ≡ all → map f ts' ++ rest ≡ all
pushed f ts ts' x own rest more all grown is e before =
    ap (λ l. map f l ++ rest) grown
    ∙ ap (λ l. l ++ rest) (map-append f ts (x ∷ []))
    ∙ append_assoc (map f ts) (f x ∷ []) rest
    ∙ ap (λ y. map f ts ++ y ∷ rest) is
    ∙ ap (λ l. map f ts ++ l) (sym e)
    ∙ before
