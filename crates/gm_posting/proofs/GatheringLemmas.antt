-- What goes to each receiver, item by item.
use Rattle.std.proofs.Common.{◌≡◌, ◌≢◌, ◌<◌, ◌≤◌, ◌+◌, ℕ, All, cond, List, [], ◌∷◌, ◌++◌, length, map, set, take, drop, take-add, refl, sym, ap, ◌∙◌, subst, arith, append_assoc, ⊎_elim}
use Rattle.std.specs.Prelude.{slice_index_or}
use Rattle.std.specs.List.{flat_map}
use Rattle.std.proofs.lemmas.Bool.{cases_eq, cases_lt, eq-eqb, ne_eqb}
use Rattle.std.proofs.lemmas.List.{append-nil, length-set, length-map, length-drop, length-take-le, map-append, map-set, get_or-set_same, get_or-set_other, get_or-map, get_or-take, get_or-drop, get_or_past}
use Rattle.std.proofs.lemmas.List.Concat.{flat_map-append}
use Rattle.gm_posting.specs.Traffic.{Traffic}
use Rattle.gm_posting.specs.Laws.{came_from, PutsArrive}
use Rattle.gm_posting.specs.Gathering.{nothing, only_for, at_places, held, sent_by_worker, AreSized, GoesOn, GoesTo, Gathers, AreFew}

only-own : {M : Type 0} (to : ℕ) (x : List M) (w : ℕ) → w ≡ to → only_for to x w ≡ x
only-own {M} to x w own = ap (λ b. let l : List M = cond b x [] in l) (eq-eqb w to own)

only-other : {M : Type 0} (to : ℕ) (x : List M) (w : ℕ) → w ≢ to → only_for to x w ≡ []
only-other {M} to x w other = ap (λ b. let l : List M = cond b x [] in l) (ne_eqb w to other)

-- so many items stand at so many places
pub places-long : {M : Type 0} (items : List M) (places : List ℕ) (d : M) → length (at_places items places d) ≡ length places
places-long items places d = length-map places (λ place. slice_index_or items place d)

-- those at the places of a part, and of the next part
pub places-more : {M : Type 0} (items : List M) (places : List ℕ) (n m : ℕ) (d : M) → at_places items (take n places) d ++ at_places items (take m (drop n places)) d ≡ at_places items (take (n + m) places) d
places-more items places n m d =
    sym (ap (λ l. at_places items l d) (take-add n m places) ∙ map-append (λ place. slice_index_or items place d) (take n places) (take m (drop n places)))

-- what is true of all is true of a part
pub all-part : {A : Type 0} (P : A → Type 0) (xs : List A) (n m : ℕ) → n + m ≤ length xs → All P xs → All P (take m (drop n xs))
all-part P xs n m within all = λ k d low.
    let here : k < m = omega (arith, low, length-take-le m (drop n xs) (omega (arith, within, length-drop n xs))) in
    subst P (sym (get_or-take m (drop n xs) k d here ∙ get_or-drop n xs k d)) (all (n + k) d (omega (arith, within, here)))

module _ {B M : Type 0} (items : B → List M) where
  pub sized-append : (xs ys : List B) → AreSized items xs → AreSized items ys → AreSized items (xs ++ ys)
  sized-append [] ys a b = b
  sized-append (x ∷ xs) ys a b = (a.0, sized-append xs ys a.1 b)

  -- nothing more
  pub goes-nothing : (before : List M) (old : List B) → length before < 1024 → GoesOn items before [] old old before
  goes-nothing before old few = record {
    batches = [];
    sent = sym (append-nil old);
    whole = sym (append-nil before);
    sized = tt;
    few = few;
  }

  -- first some, and then more
  pub goes-then : (before some more middle after : List M) (old now new : List B) → GoesOn items before some old now middle → GoesOn items middle more now new after → GoesOn items before (some ++ more) old new after
  goes-then before some more middle after old now new first second = record {
    batches = first.batches ++ second.batches;
    sent = second.sent ∙ ap (λ l. l ++ second.batches) first.sent ∙ append_assoc old first.batches second.batches;
    whole =
        ap (λ l. l ++ after) (flat_map-append items first.batches second.batches)
        ∙ append_assoc (flat_map items first.batches) (flat_map items second.batches) after
        ∙ ap (λ l. flat_map items first.batches ++ l) second.whole
        ∙ sym (append_assoc (flat_map items first.batches) middle more)
        ∙ ap (λ l. l ++ more) first.whole
        ∙ append_assoc before some more;
    sized = sized-append first.batches second.batches first.sized second.sized;
    few = second.few;
  }

  -- so for one receiver
  pub goes-to-nothing : (to : ℕ) (t : Traffic B) (b : B) → length (items b) < 1024 → GoesTo items to [] t t b b
  goes-to-nothing to t b few = record {
    kept = refl;
    wide = refl;
    here = goes-nothing (items b) (sent_by_worker t to) few;
    others = λ w other. refl;
  }

  pub goes-to-then : (to : ℕ) (some more : List M) (old now new : Traffic B) (before middle after : B) → GoesTo items to some old now before middle → GoesTo items to more now new middle after →
      GoesTo items to (some ++ more) old new before after
  goes-to-then to some more old now new before middle after first second = record {
    kept = second.kept ∙ first.kept;
    wide = second.wide ∙ first.wide;
    here = goes-then (items before) some more (items middle) (items after) (sent_by_worker old to) (sent_by_worker now to) (sent_by_worker new to) first.here second.here;
    others = λ w other. second.others w other ∙ first.others w other;
  }

  pub goes-to-as : (to : ℕ) (more more' : List M) (old new : Traffic B) (before after : B) → more ≡ more' → GoesTo items to more old new before after → GoesTo items to more' old new before after
  goes-to-as to more more' old new before after same goes = subst (λ l. GoesTo items to l old new before after) same goes

  -- items have gathered, and nothing was sent
  pub goes-to-here : (to : ℕ) (more : List M) (t : Traffic B) (before after : B) → items after ≡ items before ++ more → length (items after) < 1024 → GoesTo items to more t t before after
  goes-to-here to more t before after grown few = record {
    kept = refl;
    wide = refl;
    here = record { batches = []; sent = sym (append-nil (sent_by_worker t to)); whole = grown; sized = tt; few = few };
    others = λ w other. refl;
  }

  -- items have gathered, and then all was sent
  pub goes-to-sent : (to : ℕ) (more : List M) (old new : Traffic B) (before middle after : B) → items middle ≡ items before ++ more → GoesTo items to [] old new middle after → GoesTo items to more old new before after
  goes-to-sent to more old new before middle after grown goes = record {
    kept = goes.kept;
    wide = goes.wide;
    here = record {
      batches = goes.here.batches;
      sent = goes.here.sent;
      whole = goes.here.whole ∙ append-nil (items middle) ∙ grown;
      sized = goes.here.sized;
      few = goes.here.few;
    };
    others = goes.others;
  }

  -- a worker gathers nothing, or first some and then more
  pub gathers-nothing : (old : Traffic B) (gathered : List B) → AreFew items gathered → Gathers items nothing old old gathered gathered
  gathers-nothing old gathered few = record {
    kept = refl;
    wide = refl;
    wide_sent = refl;
    each = λ to low. goes-nothing (held items gathered to) (sent_by_worker old to) (few to low);
  }

  pub gathers-then : (some more : ℕ → List M) (old now new : Traffic B) (before middle after : List B) → Gathers items some old now before middle → Gathers items more now new middle after →
      Gathers items (λ to. some to ++ more to) old new before after
  gathers-then some more old now new before middle after first second = record {
    kept = second.kept ∙ first.kept;
    wide = second.wide ∙ first.wide;
    wide_sent = second.wide_sent ∙ first.wide_sent;
    each = λ to low.
        goes-then (held items before to) (some to) (more to) (held items middle to) (held items after to) (sent_by_worker old to) (sent_by_worker now to) (sent_by_worker new to)
        (first.each to low) (second.each to (omega (arith, low, first.wide)));
  }

  -- what a worker asks of what has gathered stays true
  pub gathers-few : (more : ℕ → List M) (old new : Traffic B) (before after : List B) → Gathers items more old new before after → AreFew items after
  gathers-few more old new before after g = λ to low. (g.each to (omega (arith, low, g.wide))).few

  pub held-set : (gathered : List B) (to : ℕ) (b : B) → to < length gathered → held items (set gathered to b) to ≡ items b
  held-set gathered to b low =
      ap (λ l. slice_index_or l to []) (map-set items gathered to b) ∙ get_or-set_same (map items gathered) to (items b) [] (omega (arith, length-map gathered items, low))

  pub held-other : (gathered : List B) (to : ℕ) (b : B) (w : ℕ) → w ≢ to → held items (set gathered to b) w ≡ held items gathered w
  held-other gathered to b w other = ap (λ l. slice_index_or l w []) (map-set items gathered to b) ∙ get_or-set_other (map items gathered) to w (items b) [] other

  pub held-at : (gathered : List B) (to : ℕ) (b : B) → to < length gathered → held items gathered to ≡ items (slice_index_or gathered to b)
  held-at gathered to b low = get_or-map items gathered to b [] low

  -- what went to one receiver
  pub gathers-one : (to : ℕ) (x : List M) (old new : Traffic B) (gathered : List B) (b b' : B) → to < length gathered → AreFew items gathered → GoesTo items to x old new (slice_index_or gathered to b) b' →
      Gathers items (only_for to x) old new gathered (set gathered to b')
  gathers-one to x old new gathered b b' low few goes = record {
    kept = goes.kept;
    wide = length-set gathered to b';
    wide_sent = goes.wide;
    each = λ w here.
        ⊎_elim
        (λ (own : w ≡ to).
        let e : only_for to x w ≡ x = only-own to x w own in
        subst (λ m. GoesOn items (held items gathered w) m (sent_by_worker old w) (sent_by_worker new w) (held items (set gathered to b') w)) (sym e)
        (subst (λ n. GoesOn items (held items gathered n) x (sent_by_worker old n) (sent_by_worker new n) (held items (set gathered to b') n)) (sym own)
        (subst (λ m. GoesOn items m x (sent_by_worker old to) (sent_by_worker new to) (held items (set gathered to b') to)) (sym (held-at gathered to b low))
        (subst (λ m. GoesOn items (items (slice_index_or gathered to b)) x (sent_by_worker old to) (sent_by_worker new to) m) (sym (held-set gathered to b' low)) goes.here))))
        (λ (other : w ≡ to → ⊥).
        let e : only_for to x w ≡ [] = only-other to x w other in
        subst (λ m. GoesOn items (held items gathered w) m (sent_by_worker old w) (sent_by_worker new w) (held items (set gathered to b') w)) (sym e)
        (subst (λ m. GoesOn items (held items gathered w) [] (sent_by_worker old w) m (held items (set gathered to b') w)) (sym (goes.others w other))
        (subst (λ m. GoesOn items (held items gathered w) [] (sent_by_worker old w) (sent_by_worker old w) m) (sym (held-other gathered to b' w other))
        (goes-nothing (held items gathered w) (sent_by_worker old w) (few w here)))))
        (cases_eq w to);
  }

  -- how far flushing has come: nothing is left for the receivers below a number, and the others' is as it was
  pub record FlushedTo (k : ℕ) (old now : Traffic B) (before middle : List B) : Type 0 where
    pub gathers : Gathers items nothing old now before middle
    pub emptied : (to : ℕ) → to < k → held items middle to ≡ []

  pub flushed-none : (old : Traffic B) (gathered : List B) → AreFew items gathered → FlushedTo 0 old old gathered gathered
  flushed-none old gathered few = record { gathers = gathers-nothing old gathered few; emptied = λ to low. absurd (omega arith) }

  pub flushed-one : (k : ℕ) (old now new : Traffic B) (before middle : List B) (b b' : B) → k < length before → FlushedTo k old now before middle →
      GoesTo items k [] now new (slice_index_or middle k b) b' → items b' ≡ [] → FlushedTo (k + 1) old new before (set middle k b')
  flushed-one k old now new before middle b b' low f goes none =
      let within : k < length middle = omega (arith, low, f.gathers.wide) in
      let few : AreFew items middle = gathers-few nothing old now before middle f.gathers in
      let one : Gathers items (only_for k []) now new middle (set middle k b') = gathers-one k [] now new middle b b' within few goes in
      let all : Gathers items (λ w. [] ++ only_for k [] w) old new before (set middle k b') = gathers-then nothing (only_for k []) old now new before middle (set middle k b') f.gathers one in
      record {
        gathers = record {
          kept = all.kept;
          wide = all.wide;
          wide_sent = all.wide_sent;
          each = λ to here.
              subst (λ m. GoesOn items (held items before to) m (sent_by_worker old to) (sent_by_worker new to) (held items (set middle k b') to))
              (⊎_elim
              (λ (own : to ≡ k). only-own k [] to own)
              (λ (other : to ≡ k → ⊥). only-other k [] to other)
              (cases_eq to k))
              (all.each to here);
        };
        emptied = λ to below.
            ⊎_elim
            (λ (own : to ≡ k). ap (held items (set middle k b')) own ∙ held-set middle k b' within ∙ none)
            (λ (other : to ≡ k → ⊥). held-other middle k b' to other ∙ f.emptied to (omega arith))
            (cases_eq to k);
      }

  pub flushed-all : (k : ℕ) (old now : Traffic B) (before middle : List B) → length before ≤ k → FlushedTo k old now before middle → (to : ℕ) → held items middle to ≡ []
  flushed-all k old now before middle all f to =
      ⊎_elim
      (λ (low : to < k). f.emptied to low)
      (λ (past : k ≤ to). get_or_past (map items middle) to [] (omega (arith, length-map middle items, f.gathers.wide, all, past)))
      (cases_lt to k)

  -- what is put arrives
  pub puts-arrive : PutsArrive items
  puts-arrive workers late put arrive goes from to d some low =
      let g = goes from to some low in
      let same : came_from workers late to d from ≡ g.batches = arrive.merged to d low from ∙ g.sent in
      (ap (flat_map items) same ∙ sym (append-nil (flat_map items g.batches)) ∙ g.whole, subst (AreSized items) (sym same) g.sized)
