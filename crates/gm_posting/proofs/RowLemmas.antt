-- Rows of passes: one pass more for each worker, and one less.
use Rattle.std.proofs.Common.{◌≡◌, ◌≢◌, ◌<◌, ◌≤◌, ◌+◌, ◌-◌, ℕ, zero, suc, cond, nat_eq, List, [], ◌∷◌, ◌++◌, length, set, refl, sym, ap, ◌∙◌, arith, ⊎_elim}
use Rattle.std.specs.Prelude.{slice_index_or}
use Rattle.std.proofs.lemmas.Bool.{cases_eq, eq-eqb, ne_eqb}
use Rattle.std.proofs.lemmas.List.{get_or-set_same, get_or-set_other, length-set, get_or_default}
use Rattle.gm_mailbox.specs.Sender.{MailboxId, Sender}
use Rattle.gm_posting.specs.Rows.{AreEmpty, Row, first_pass, Opens, first_passes, OpensAll, JoinsOne, kept, Joins}

module _ {T : Type 0} where
  -- what is kept depends on these passes alone
  kept-same : (f f' : ℕ → Sender T) (from k : ℕ) → ((w : ℕ) → from ≤ w → w < from + k → f w ≡ f' w) → kept f from k ≡ kept f' from k
  kept-same f f' from zero same = refl
  kept-same f f' from (suc k) same =
      ap (λ (p : Sender T). (p.number, p.sent) ∷ kept f from k) (same (from + k) (omega arith) (omega arith))
      ∙ ap (λ l. ((f' (from + k)).number, (f' (from + k)).sent) ∷ l) (kept-same f f' from k (λ w low high. same w low (omega arith)))

  pub kept-length : (f : ℕ → Sender T) (from k : ℕ) → length (kept f from k) ≡ k
  kept-length f from zero = refl
  kept-length f from (suc k) = ap suc (kept-length f from k)

  -- one more is joined back
  pub joins-one : (from k : ℕ) (old now new : Sender T) (rows0 rows : List (Row T)) (r r' : Row T) → from ≤ k → k < length rows → Joins from k old now rows0 rows → JoinsOne now new (slice_index_or rows k r).items r'.items →
      Joins from (k + 1) old new rows0 (set rows k r')
  joins-one from k old now new rows0 rows r r' low in_range j one =
      let f : ℕ → Sender T = λ w. cond (nat_eq w k) one.last (j.last w) in
      let at_k : f k ≡ one.last = ap (λ b. cond b one.last (j.last k)) (eq-eqb k k refl) in
      let off_k : (w : ℕ) → w ≢ k → f w ≡ j.last w = λ w other. ap (λ b. cond b one.last (j.last w)) (ne_eqb w k other) in
      let grown : kept f from ((k + 1) - from) ≡ (one.last.number, one.last.sent) ∷ kept j.last from (k - from) =
      ap (kept f from) (let e : (k + 1) - from ≡ suc (k - from) = omega arith in e)
      ∙ ap (λ n. ((f n).number, (f n).sent) ∷ kept f from (k - from)) (let e : from + (k - from) ≡ k = omega arith in e)
      ∙ ap (λ (p : Sender T). (p.number, p.sent) ∷ kept f from (k - from)) at_k
      ∙ ap (λ l. (one.last.number, one.last.sent) ∷ l) (kept-same f j.last from (k - from) (λ w least most. off_k w (λ e. omega arith))) in
      record {
        last = f;
        zero =
            one.zero
            ∙ ap (λ (s : Sender T). let t : Sender T = record s { ended = (one.last.number, one.last.sent) ∷ s.ended } in t) j.zero
            ∙ ap (λ l. let t : Sender T = record old { ended = l ++ old.ended } in t) (sym grown);
        long = length-set rows k r' ∙ j.long;
        lasts = λ w d from_w to_w.
            ⊎_elim
            (λ (here : w ≡ k).
            ap (λ n. (slice_index_or rows0 n d).items) here
            ∙ ap (λ (x : Row T). x.items) (sym (j.behind k d (omega arith)) ∙ get_or_default rows k d r in_range)
            ∙ one.is
            ∙ ap (λ (x : Row T). x.items ++ one.last ∷ []) (sym (ap (λ n. slice_index_or (set rows k r') n d) here ∙ get_or-set_same rows k r' d in_range))
            ∙ ap (λ p. (slice_index_or (set rows k r') w d).items ++ p ∷ []) (sym (ap f here ∙ at_k)))
            (λ (other : w ≡ k → ⊥).
            j.lasts w d from_w (omega arith)
            ∙ ap (λ (x : Row T). x.items ++ j.last w ∷ []) (sym (get_or-set_other rows k w r' d other))
            ∙ ap (λ p. (slice_index_or (set rows k r') w d).items ++ p ∷ []) (sym (off_k w other)))
            (cases_eq w k);
        before = λ w d early. get_or-set_other rows k w r' d (λ e. omega arith) ∙ j.before w d early;
        behind = λ w d late. get_or-set_other rows k w r' d (λ e. omega arith) ∙ j.behind w d (omega arith);
      }

  -- nothing is joined back
  pub joins-none : (from : ℕ) (old : Sender T) (rows : List (Row T)) → Joins from from old old rows rows
  joins-none from old rows = record {
    last = λ w. old;
    zero = ap (λ n. let t : Sender T = record old { ended = kept (λ w. old) from n ++ old.ended } in t) (let e : 0 ≡ from - from = omega arith in e);
    long = refl;
    lasts = λ w d low high. absurd (omega arith);
    before = λ w d low. refl;
    behind = λ w d high. refl;
  }

  -- new passes of one mailbox more
  first-more : (workers w own : ℕ) (ids : List MailboxId) (id : MailboxId) →
      first_passes {T = T} workers w own (ids ++ id ∷ []) ≡ first_passes workers w own ids ++ first_pass workers (own + length ids) w id ∷ []
  first-more workers w own [] id = ap (λ n. first_pass {T = T} workers n w id ∷ []) (let e : own ≡ own + 0 = omega arith in e)
  first-more workers w own (i ∷ ids) id =
      ap (λ l. first_pass {T = T} workers own w i ∷ l) (
      first-more workers w (suc own) ids id
      ∙ ap (λ n. first_passes {T = T} workers w (suc own) ids ++ first_pass workers n w id ∷ []) (let e : suc own + length ids ≡ own + suc (length ids) = omega arith in e))

  pub opens-none : (rows : List (Row T)) → AreEmpty (length rows) rows → OpensAll (length rows) [] rows
  opens-none rows empty = record { long = refl; each = λ w d low. empty.each w d low }

  pub opens-more : (workers own : ℕ) (ids : List MailboxId) (id : MailboxId) (rows rows' : List (Row T)) → length ids ≡ own → OpensAll workers ids rows → Opens own id rows rows' → OpensAll workers (ids ++ id ∷ []) rows'
  opens-more workers own ids id rows rows' count all one = record {
    long = one.long ∙ all.long;
    each = λ w d low.
        one.each w d (omega (arith, low, all.long))
        ∙ ap (λ l. l ++ first_pass (length rows) own w id ∷ []) (all.each w d low)
        ∙ ap (λ n. first_passes workers w 0 ids ++ first_pass n own w id ∷ []) all.long
        ∙ ap (λ n. first_passes workers w 0 ids ++ first_pass workers n w id ∷ []) (sym (let e : 0 + length ids ≡ own = omega arith in e))
        ∙ sym (first-more workers w 0 ids id);
  }
