-- The messages of a mail, parted by the workers to whose nodes they go.
use Rattle.std.proofs.Common.{◌≡◌, ◌≢◌, ◌<◌, ◌≤◌, ◌+◌, ℕ, All, cond, nat_eq, List, [], ◌∷◌, ◌++◌, length, map, take, set, sym, ap, ◌∙◌, subst, arith, ⊎_elim}
use Rattle.std.specs.Prelude.{slice_index_or, Vec}
use Rattle.std.specs.declared.alloc.Global.{Global}
use Rattle.std.proofs.lemmas.Bool.{cases_eq, cases_lt, eq-eqb, ne_eqb}
use Rattle.std.proofs.lemmas.List.{append-nil, map-append, length-map, length-set, take_all, take_more, get_or_past}
use Rattle.std.proofs.lemmas.List.Elements.{All-nil, All-push, filter-append}
use Rattle.gm_machine.specs.Vertex.{Message}
use Rattle.gm_posting.specs.Gathering.{at_places}
use Rattle.gm_posting.proofs.GatheringLemmas.{held-at, held-set, held-other}
use Rattle.gm_core.specs.Cores.{owner, for_worker}
use Rattle.gm_workers.specs.Partings.{places_for, AreParts}

-- the items of a list
abbrev places_of : Vec ℕ Global → List ℕ
places_of part = part.items

pub part-at : (parts : List (Vec ℕ Global)) (w : ℕ) (part : Vec ℕ Global) → w < length parts → places_for parts w ≡ (slice_index_or parts w part).items
part-at parts w part low = held-at places_of parts w part low

-- the lists below a number have been emptied
pub record ClearedTo (k : ℕ) (parts : List (Vec ℕ Global)) : Type 0 where
  pub none : (w : ℕ) → w < k → places_for parts w ≡ []

pub cleared-none : (parts : List (Vec ℕ Global)) → ClearedTo 0 parts
cleared-none parts = record { none = λ w low. absurd (omega arith) }

pub cleared-one : (k : ℕ) (parts : List (Vec ℕ Global)) (part : Vec ℕ Global) → k < length parts → part.items ≡ [] → ClearedTo k parts → ClearedTo (k + 1) (set parts k part)
cleared-one k parts part low empty so_far = record {
  none = λ w below.
      ⊎_elim
      (λ (here : w ≡ k). ap (places_for (set parts k part)) here ∙ held-set places_of parts k part low ∙ empty)
      (λ (other : w ≡ k → ⊥). held-other places_of parts k part w other ∙ so_far.none w (omega arith))
      (cases_eq w k);
}

pub cleared-all : (k : ℕ) (parts : List (Vec ℕ Global)) → length parts ≤ k → ClearedTo k parts → (w : ℕ) → places_for parts w ≡ []
cleared-all k parts all so_far w =
    ⊎_elim
    (λ (low : w < k). so_far.none w low)
    (λ (past : k ≤ w). get_or_past (map places_of parts) w [] (omega (arith, length-map parts places_of, all, past)))
    (cases_lt w k)

-- the places of the first messages stand in the lists
pub record PartedTo (owners : List ℕ) (ms : List Message) (i : ℕ) (parts : List (Vec ℕ Global)) : Type 0 where
  pub within : (w : ℕ) → All (λ row. row < length ms) (places_for parts w)
  pub each : (w : ℕ) (d : Message) → w < length parts → at_places ms (places_for parts w) d ≡ for_worker owners w (take i ms)

pub parted-none : (owners : List ℕ) (ms : List Message) (parts : List (Vec ℕ Global)) → ((w : ℕ) → places_for parts w ≡ []) → PartedTo owners ms 0 parts
parted-none owners ms parts none = record {
  within = λ w. subst (All (λ row. row < length ms)) (sym (none w)) (All-nil (λ row. row < length ms));
  each = λ w d low. ap (λ l. at_places ms l d) (none w);
}

-- a message goes to the worker that owns its node, and to no other
for-owner : (owners : List ℕ) (m : Message) (w : ℕ) → owner owners m.to ≡ w → for_worker owners w (m ∷ []) ≡ m ∷ []
for-owner owners m w is = ap (λ b. let l : List Message = cond b (m ∷ []) [] in l) (eq-eqb (owner owners m.to) w is)

for-other : (owners : List ℕ) (m : Message) (w : ℕ) → owner owners m.to ≢ w → for_worker owners w (m ∷ []) ≡ []
for-other owners m w other = ap (λ b. let l : List Message = cond b (m ∷ []) [] in l) (ne_eqb (owner owners m.to) w other)

for-more : (owners : List ℕ) (ms : List Message) (i w : ℕ) (d : Message) → i < length ms → for_worker owners w (take (i + 1) ms) ≡ for_worker owners w (take i ms) ++ for_worker owners w (slice_index_or ms i d ∷ [])
for-more owners ms i w d low = ap (for_worker owners w) (take_more ms i d low) ∙ filter-append (λ m. nat_eq (owner owners m.to) w) (take i ms) (slice_index_or ms i d ∷ [])

-- and that of the next one
pub parted-one : (owners : List ℕ) (ms : List Message) (i to : ℕ) (parts : List (Vec ℕ Global)) (part part' : Vec ℕ Global) → i < length ms → to < length parts →
    ((d : Message) → to ≡ owner owners (slice_index_or ms i d).to) → part'.items ≡ (slice_index_or parts to part).items ++ i ∷ [] → PartedTo owners ms i parts → PartedTo owners ms (i + 1) (set parts to part')
parted-one owners ms i to parts part part' low few goes pushed so_far =
    let was : places_for parts to ≡ (slice_index_or parts to part).items = held-at places_of parts to part few in
    let now : places_for (set parts to part') to ≡ places_for parts to ++ i ∷ [] = held-set places_of parts to part' few ∙ pushed ∙ ap (λ l. l ++ i ∷ []) (sym was) in
    record {
      within = λ w.
          ⊎_elim
          (λ (here : w ≡ to).
          subst (λ v. All (λ row. row < length ms) (places_for (set parts to part') v)) (sym here)
          (subst (All (λ row. row < length ms)) (sym now) (All-push (λ row. row < length ms) (places_for parts to) i (so_far.within to) low)))
          (λ (other : w ≡ to → ⊥). subst (All (λ row. row < length ms)) (sym (held-other places_of parts to part' w other)) (so_far.within w))
          (cases_eq w to);
      each = λ w d inside.
          let there : w < length parts = omega (arith, inside, length-set parts to part') in
          let m : Message = slice_index_or ms i d in
          ⊎_elim
          (λ (here : w ≡ to).
          ap (λ v. at_places ms (places_for (set parts to part') v) d) here
          ∙ ap (λ l. at_places ms l d) now
          ∙ map-append (λ row. slice_index_or ms row d) (places_for parts to) (i ∷ [])
          ∙ ap (λ v. at_places ms (places_for parts v) d ++ m ∷ []) (sym here)
          ∙ ap (λ l. l ++ m ∷ []) (so_far.each w d there)
          ∙ ap (λ l. for_worker owners w (take i ms) ++ l) (sym (for-owner owners m w (sym (goes d) ∙ sym here)))
          ∙ sym (for-more owners ms i w d low))
          (λ (other : w ≡ to → ⊥).
          ap (λ l. at_places ms l d) (held-other places_of parts to part' w other)
          ∙ so_far.each w d there
          ∙ sym (append-nil (for_worker owners w (take i ms)))
          ∙ ap (λ l. for_worker owners w (take i ms) ++ l) (sym (for-other owners m w (λ is. other (sym is ∙ sym (goes d)))))
          ∙ sym (for-more owners ms i w d low))
          (cases_eq w to);
    }

pub parted-all : (owners : List ℕ) (ms : List Message) (i : ℕ) (parts : List (Vec ℕ Global)) → length ms ≤ i → PartedTo owners ms i parts → AreParts owners ms parts
parted-all owners ms i parts all so_far = record {
  within = so_far.within;
  each = λ w d low. so_far.each w d low ∙ ap (for_worker owners w) (take_all i ms all);
}
