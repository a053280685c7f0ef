-- Each kind of step keeps the rule.
use Rattle.std.proofs.Common.{◌≡◌, ◌≢◌, ℕ, suc, ◌+◌, ◌<◌, ◌≤◌, true, true≢false, List, [], ◌∷◌, ◌++◌, length, set, eq-eqb, ne_eqb, sym, refl, ap, ◌∙◌, subst, inl, inr, ⊎_elim, append_assoc, length-append, arith}
use Rattle.std.specs.Prelude.{if◌then◌else◌}
use Rattle.std.proofs.lemmas.Bool.{cases_lt}
use Rattle.std.proofs.lemmas.List.{length-set}
use mathlib.Core.Option.{some, some-ne-none}
use mathlib.Core.Logic.{dite}
use native.Mathlib.Decide.{ℕ_discrete}
use lib.ListN.{get_elem?}
use Rattle.crossbeam_queue.specs.Fifo.{Pushes, Pops, Forks, Merges, Learns}
use Rattle.crossbeam_queue.proofs.Lists.{at_set}
use Rattle.gm_mailbox.specs.declared.rule.Known.{Known}
use Rattle.gm_mailbox.specs.Known.{known, newcomer, spent}
use Rattle.gm_base.specs.Merge.{of, IsMerge, listed}
use Rattle.gm_mailbox.specs.Rule.{times, numbers_of, KnowsAll, Fits, Delivers, Shows}
use Rattle.gm_mailbox.specs.Sender.{Sender, sent_by, IsAlone}
use Rattle.gm_mailbox.proofs.Lists.{nothing_more, of_front, of_snoc, of_snoc_else, listed_here, listed_else, erase, length_erase, times_erase, times_moved, times_added, times_unmoved, times_first, times_more, times_none, at_below, at_end}

module _ {T : Type 0} where
  -- what has to hold of each pass
  abbrev Each : (ℕ → Known T → Type 0) → List (Known T) → Type 0
  Each F views = (place : ℕ) (v : Known T) → get_elem? views place ≡ some v → v.live ≡ true → F place v

  -- it holds of each after a change of one, if it holds of that one and the others keep it
  each_set : (F : ℕ → Known T → Type 0) (views : List (Known T)) (place : ℕ) (w : Known T) → (w.live ≡ true → F place w)
      → ((j : ℕ) (u : Known T) → j ≢ place → get_elem? views j ≡ some u → u.live ≡ true → F j u) → Each F (set views place w)
  each_set F views place w mine others j u e alive = ⊎_elim
      (λ (x : (j ≡ place) × (w ≡ u)). subst (λ (y : ℕ × Known T). F y.0 y.1) (λ i. (sym x.0 i, x.1 i)) (mine (ap (λ (y : Known T). y.live) x.1 ∙ alive)))
      (λ (x : (j ≢ place) × (get_elem? views j ≡ some u)). others j u x.0 x.1 alive)
      (at_set views place j w u e)

  knows_nothing : KnowsAll {T = T} [] [] [] 0 (newcomer 0)
  knows_nothing = record { taken_is = refl; splits_is = refl; counted = refl; once = λ p some_pass below. absurd (omega arith); no_other = λ p _. refl; back = λ p _. inr refl }

  pub begins : Delivers {T = T} [] (newcomer 0 ∷ [])
  begins = record {
    all = [];
    taken = [];
    out = [];
    made = 0;
    whole = refl;
    passes = refl;
    later = λ p _. refl;
    each = each_set (Fits [] [] [] 0) (newcomer 0 ∷ []) 0 (newcomer 0) (λ _. record { number_is = refl; sent_is = refl; other = λ h. absurd (omega arith); first = λ _. knows_nothing })
        (λ j u away e _. ⊎_elim (λ x. absurd (some-ne-none u (sym x))) (λ x. absurd (away x.0)) (at_end [] (newcomer 0) u j e));
  }

  -- a batch of the pass at a place leaves what pass 0 knows, since that pass is out or is pass 0
  knows_more : (all taken : List (ℕ × T)) (out : List ℕ) (made place : ℕ) (x : ℕ × T) (v w : Known T) → x.0 ≡ place → (0 < place → 0 < times place out)
      → w.taken ≡ v.taken → w.splits ≡ v.splits → w.ended ≡ v.ended → KnowsAll all taken out made v → KnowsAll (all ++ x ∷ []) taken out made w
  knows_more all taken out made place x v w num other t s e k = record {
    taken_is = t ∙ k.taken_is;
    splits_is = s ∙ k.splits_is;
    counted = ap (λ l. length out + length l) e ∙ k.counted;
    once = λ p some_pass below. ap (λ l. times p out + times p (numbers_of l)) e ∙ k.once p some_pass below;
    no_other = λ p none. ap (λ l. times p out + times p (numbers_of l)) e ∙ k.no_other p none;
    back = λ p some_pass.
        dite (ℕ_discrete p place)
        (λ same. inl (subst (λ n. 0 < times n out) (sym same) (other (subst (λ n. 0 < n) same some_pass))))
        (λ apart.
        ⊎_elim inl
        (λ is. inr (ap (λ l. listed l p) e ∙ is ∙ sym (of_snoc_else all x p (λ same. apart (sym same ∙ num)))))
        (k.back p some_pass));
  }

  pub sends : (n place : ℕ) (v : Known T) (x : ℕ × T) → v.live ≡ true → v.number ≡ x.0
      → Pushes Delivers n place v x (λ w. w ≡ known v.number (v.sent ++ x.1 ∷ []) v.splits v.ended v.taken)
  sends n place v x alive num items views _ h at =
      let w : Known T = known v.number (v.sent ++ x.1 ∷ []) v.splits v.ended v.taken in
      let mine = h.each place v at alive in
      let here : x.0 ≡ place = sym num ∙ mine.number_is in
      let all = h.all ++ x ∷ [] in (
        w,
        record {
          all = all;
          taken = h.taken;
          out = h.out;
          made = h.made;
          whole = ap (λ l. l ++ x ∷ []) h.whole ∙ append_assoc h.taken items (x ∷ []);
          passes = length-set views place w ∙ h.passes;
          later = λ p past.
              let below = at_below views place v at in
              let count = h.passes in
              of_snoc_else h.all x p (λ same. let is = sym here ∙ same in omega arith) ∙ h.later p past;
          each = each_set (Fits all h.taken h.out h.made) views place w
              (λ _. record {
                number_is = mine.number_is;
                sent_is = ap (λ l. l ++ x.1 ∷ []) mine.sent_is ∙ sym (of_snoc h.all x place here);
                other = mine.other;
                first = λ zeroth. knows_more h.all h.taken h.out h.made place x v w here mine.other refl refl refl (mine.first zeroth);
              })
              (λ j u away e live.
              let fits = h.each j u e live in
              record {
                number_is = fits.number_is;
                sent_is = fits.sent_is ∙ sym (of_snoc_else h.all x j (λ same. away (sym same ∙ here)));
                other = fits.other;
                first = λ zeroth. knows_more h.all h.taken h.out h.made place x u u here mine.other refl refl refl (fits.first zeroth);
              });
        },
        refl,
      )

  pub takes : (place : ℕ) (v : Known T) → v.live ≡ true → v.number ≡ 0 → Pops Delivers place v (λ x w. (w ≡ known v.number v.sent v.splits v.ended (v.taken ++ x ∷ [])) × (x.0 ≤ v.splits))
  takes place v alive num x items views h at =
      let w : Known T = known v.number v.sent v.splits v.ended (v.taken ++ x ∷ []) in
      let mine = h.each place v at alive in
      let here : place ≡ 0 = sym mine.number_is ∙ num in
      let knows = mine.first here in
      let taken = h.taken ++ x ∷ [] in (
        w,
        record {
          all = h.all;
          taken = taken;
          out = h.out;
          made = h.made;
          whole = h.whole ∙ sym (append_assoc h.taken (x ∷ []) items);
          passes = length-set views place w ∙ h.passes;
          later = h.later;
          each = each_set (Fits h.all taken h.out h.made) views place w
              (λ _. record {
                number_is = mine.number_is;
                sent_is = mine.sent_is;
                other = mine.other;
                first = λ _. record { taken_is = ap (λ l. l ++ x ∷ []) knows.taken_is; splits_is = knows.splits_is; counted = knows.counted; once = knows.once; no_other = knows.no_other; back = knows.back };
              })
              (λ j u away e live.
              let fits = h.each j u e live in
              record { number_is = fits.number_is; sent_is = fits.sent_is; other = fits.other; first = λ zeroth. absurd (away (zeroth ∙ sym here)) });
        },
        (
          refl,
          ⊎_elim
              (λ above. absurd (of_front h.taken x items (ap (λ l. of l x.0) (sym h.whole) ∙ h.later x.0 above)))
              (λ below. subst (λ n. x.0 ≤ n) (sym knows.splits_is) below)
              (cases_lt h.made x.0),
        ),
      )

  pub splits : (place : ℕ) (v : Known T) → v.live ≡ true → v.number ≡ 0
      → Forks Delivers place v (known v.number v.sent (v.splits + 1) v.ended v.taken) (newcomer (v.splits + 1))
  splits place v alive num items views h at =
      let w : Known T = known v.number v.sent (v.splits + 1) v.ended v.taken in
      let new : Known T = newcomer (v.splits + 1) in
      let mine = h.each place v at alive in
      let here : place ≡ 0 = sym mine.number_is ∙ num in
      let knows = mine.first here in
      let made = suc h.made in
      let out = made ∷ h.out in
      let changed = set views place w in
      let next : v.splits + 1 ≡ made = let s = knows.splits_is in omega arith in
      let long : length changed ≡ made = length-set views place w ∙ h.passes in
      let old : Each (Fits h.all h.taken out made) changed =
      each_set (Fits h.all h.taken out made) views place w
      (λ _. record {
        number_is = mine.number_is;
        sent_is = mine.sent_is;
        other = λ later. times_more place made h.out (mine.other later);
        first = λ _. record {
          taken_is = knows.taken_is;
          splits_is = next;
          counted = let c = knows.counted in omega arith;
          once = λ p some_pass below.
              dite (ℕ_discrete made p)
              (λ same. times_added made p h.out _ same (knows.no_other p (inr (omega arith))))
              (λ away. times_unmoved made p h.out _ 1 away (knows.once p some_pass (omega arith)));
          no_other = λ p none. times_unmoved made p h.out _ 0 (⊎_elim (λ (z : p ≡ 0). λ same. omega arith) (λ (past : made < p). λ same. omega arith) none)
              (knows.no_other p (⊎_elim inl (λ (past : made < p). inr (omega arith)) none));
          back = λ p some_pass. ⊎_elim (λ t. inl (times_more p made h.out t)) inr (knows.back p some_pass);
        };
      })
      (λ j u away e live.
      let fits = h.each j u e live in
      record { number_is = fits.number_is; sent_is = fits.sent_is; other = λ later. times_more j made h.out (fits.other later); first = λ zeroth. absurd (away (zeroth ∙ sym here)) })
      in record {
        all = h.all;
        taken = h.taken;
        out = out;
        made = made;
        whole = h.whole;
        passes = let l = length-append changed (new ∷ []) in omega arith;
        later = λ p past. h.later p (omega arith);
        each = λ j u e live.
            ⊎_elim (λ was. old j u was live)
            (λ (x : (j ≡ length changed) × (new ≡ u)).
            let F : ℕ × Known T → Type 0 = λ y. Fits h.all h.taken out made y.0 y.1 in
            subst F (λ i. (sym (x.0 ∙ long) i, x.1 i))
            (record { number_is = next; sent_is = sym (h.later made (omega arith)); other = λ _. times_first made h.out; first = λ zeroth. absurd (omega arith) }))
            (at_end changed new u j e);
      }

  pub joins : (place : ℕ) (v : Known T) (other : ℕ) (u : Known T) → v.live ≡ true → v.number ≡ 0 → u.live ≡ true → 0 < u.number
      → Merges Delivers place v other u (known v.number v.sent v.splits ((u.number, u.sent) ∷ v.ended) v.taken) spent
  joins place v other u alive num live' later items views h at apart at' =
      let both : Known T = known v.number v.sent v.splits ((u.number, u.sent) ∷ v.ended) v.taken in
      let mine = h.each place v at alive in
      let here : place ≡ 0 = sym mine.number_is ∙ num in
      let knows = mine.first here in
      let was : get_elem? views other ≡ some u = ⊎_elim (λ x. absurd (apart x.0)) (λ x. x.1) (at_set views place other both u at') in
      let theirs = h.each other u was live' in
      let there : u.number ≡ other = theirs.number_is in
      let is_out : 0 < times other h.out = theirs.other (subst (λ n. 0 < n) there later) in
      let out = erase other h.out in
      let keeps : (p : ℕ) → p ≢ other → 0 < times p h.out → 0 < times p out = λ p away t. subst (λ n. 0 < n) (sym (times_erase other p h.out away)) t in
      let changed = set views place both in
      let Now : ℕ → Known T → Type 0 = λ j y. j ≢ other → Fits h.all h.taken out h.made j y in
      let now : Each Now changed =
      each_set Now views place both
      (λ _ away. record {
        number_is = mine.number_is;
        sent_is = mine.sent_is;
        other = λ above. absurd (omega arith);
        first = λ _. record {
          taken_is = knows.taken_is;
          splits_is = knows.splits_is;
          counted = let c = knows.counted in let l = length_erase other h.out is_out in omega arith;
          once = λ p some_pass below. times_moved other u.number p h.out (numbers_of v.ended) there is_out ∙ knows.once p some_pass below;
          no_other = λ p none. times_moved other u.number p h.out (numbers_of v.ended) there is_out ∙ knows.no_other p none;
          back = λ p some_pass.
              dite (ℕ_discrete p other)
              (λ same. inr (listed_here (u.number, u.sent) v.ended p (there ∙ sym same) ∙ theirs.sent_is ∙ ap (of h.all) (sym same)))
              (λ differs.
              ⊎_elim (λ t. inl (keeps p differs t))
              (λ is. inr (listed_else (u.number, u.sent) v.ended p (λ same. differs (sym same ∙ there)) ∙ is))
              (knows.back p some_pass));
        };
      })
      (λ j y away e live differs.
      let fits = h.each j y e live in
      record { number_is = fits.number_is; sent_is = fits.sent_is; other = λ above. keeps j differs (fits.other above); first = λ zeroth. absurd (away (zeroth ∙ sym here)) })
      in record {
        all = h.all;
        taken = h.taken;
        out = out;
        made = h.made;
        whole = h.whole;
        passes = length-set changed other spent ∙ length-set views place both ∙ h.passes;
        later = h.later;
        each = each_set (Fits h.all h.taken out h.made) changed other spent (λ no. absurd (true≢false (sym no))) (λ j y away e live. now j y e live away);
      }

  pub shows : (place : ℕ) (v : Known T) → v.live ≡ true → v.number ≡ 0 → Learns Delivers place v (Shows v)
  shows place v alive num items views h at =
      let mine = h.each place v at alive in
      let here : place ≡ 0 = sym mine.number_is ∙ num in
      let knows = mine.first here in
      let same : v.taken ++ items ≡ h.all = ap (λ l. l ++ items) knows.taken_is ∙ sym h.whole in
      let own : of (v.taken ++ items) 0 ≡ v.sent = ap (λ l. of l 0) same ∙ ap (of h.all) (sym here) ∙ sym mine.sent_is in (
        (λ alone p.
            let none : length h.out ≡ 0 = let c = knows.counted in let s = knows.splits_is in omega arith in
            dite (ℕ_discrete v.number p)
            (λ is. ap (of (v.taken ++ items)) (sym is ∙ num) ∙ own ∙ sym (ap (λ b. (if b then v.sent else listed v.ended p)) (eq-eqb v.number p is)))
            (λ differs.
            ap (λ l. of l p) same
            ∙ sym (⊎_elim (λ t. let z = times_none p h.out none in absurd (omega arith)) (λ e. e) (knows.back p (omega arith)))
            ∙ sym (ap (λ b. (if b then v.sent else listed v.ended p)) (ne_eqb v.number p differs)))),
        own,
      )

  -- after a merge, an answer that makes a merge of the same lists is empty
  pub collects_nothing : (old new : Sender T) (items : List (ℕ × T)) → new ≡ record old { taken = old.taken ++ items }
      → (IsAlone new → IsMerge new.taken (sent_by new)) → IsAlone old → IsMerge old.taken (sent_by old) → items ≡ []
  collects_nothing old new items grown after alone before =
      let P : Sender T → Type 0 = λ s. IsAlone s → IsMerge s.taken (sent_by s) in
      let both : P (record old { taken = old.taken ++ items }) = subst P grown after in
      nothing_more old.taken items (sent_by old) before (both alone)
