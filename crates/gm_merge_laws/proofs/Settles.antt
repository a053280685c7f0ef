-- Contributions of two sorts that share no slot are taken as those of the first sort, and then those of the second.
use Rattle.std.proofs.Common.{◌≡◌, ℕ, zero, suc, ◌+◌, Bool, true, false, cond, ◌||◌, not, Option, Some, None, Ok, List, [], ◌∷◌, ◌++◌, map, filter, find, refl, sym, ap, subst, ◌∙◌, arith}
use Rattle.std.specs.Prelude.{◌==◌}
use Rattle.std.specs.Option.{option_map}
use Rattle.std.specs.List.{AllByRecursion, list_all, enumerate_from}
use Rattle.std.proofs.lemmas.Bool.{and_parts, eqb-true}
use Rattle.gm_value.specs.declared.values.Value.{Value}
use Rattle.gm_value.specs.Taking.{taken}
use Rattle.gm_image.specs.Parts.{is_among}
use Rattle.gm_image.specs.Folds.{Reduction, same_numbers}
use Rattle.gm_machine.specs.declared.faults.Fault.{Fault}
use Rattle.gm_machine.specs.Faults.{then_go, lesser}
use Rattle.gm_machine.specs.Expressions.{value_at}
use Rattle.gm_machine.specs.Taking.{Contribution, has_slot, reduction_of, first_reduction, to_target, closed, overflow_at, entry_of, slot_by, slot_after, value_or, fault_of, value_after, fault_after, settled}
use Rattle.gm_machine.proofs.LeastLaws.{lesser-comm, lesser-assoc, lesser-none, least_right, least_from-right}
use Rattle.gm_machine.proofs.SoundFolds.{same_numbers-is}

-- a list is the two others, with their elements between one another in any way
pub data Mixed : List Contribution → List Contribution → List Contribution → Type 0 where
  mixed_none : Mixed [] [] []
  mixed_left : {cs ca cb : List Contribution} (c : Contribution) → Mixed cs ca cb → Mixed (c ∷ cs) (c ∷ ca) cb
  mixed_right : {cs ca cb : List Contribution} (c : Contribution) → Mixed cs ca cb → Mixed (c ∷ cs) ca (c ∷ cb)

pub mixed-left-all : (xs : List Contribution) {cs ca cb : List Contribution} → Mixed cs ca cb → Mixed (xs ++ cs) (xs ++ ca) cb
mixed-left-all [] m = m
mixed-left-all (x ∷ xs) m = mixed_left x (mixed-left-all xs m)

pub mixed-right-all : (xs : List Contribution) {cs ca cb : List Contribution} → Mixed cs ca cb → Mixed (xs ++ cs) ca (xs ++ cb)
mixed-right-all [] m = m
mixed-right-all (x ∷ xs) m = mixed_right x (mixed-right-all xs m)

-- no element of a list passes a test
abbrev None-pass : (Contribution → Bool) → List Contribution → Type 0
None-pass t cs = AllByRecursion (λ (c : Contribution). t c ≡ false) cs

-- what is sought in the mixed list is that of the one whose elements alone pass
filter-left : (t : Contribution → Bool) {cs ca cb : List Contribution} → Mixed cs ca cb → None-pass t cb → filter t cs ≡ filter t ca
filter-left t mixed_none h = refl
filter-left t (mixed_left {cs} {ca} {cb} c m) h = ap (λ l. cond (t c) (c ∷ l) l) (filter-left t m h)
filter-left t (mixed_right {cs} {ca} {cb} c m) h = ap (λ b. cond b (c ∷ filter t cs) (filter t cs)) h.0 ∙ filter-left t m h.1

filter-right : (t : Contribution → Bool) {cs ca cb : List Contribution} → Mixed cs ca cb → None-pass t ca → filter t cs ≡ filter t cb
filter-right t mixed_none h = refl
filter-right t (mixed_left {cs} {ca} {cb} c m) h = ap (λ b. cond b (c ∷ filter t cs) (filter t cs)) h.0 ∙ filter-right t m h.1
filter-right t (mixed_right {cs} {ca} {cb} c m) h = ap (λ l. cond (t c) (c ∷ l) l) (filter-right t m h)

find-left : (t : Contribution → Bool) {cs ca cb : List Contribution} → Mixed cs ca cb → None-pass t cb → find t cs ≡ find t ca
find-left t mixed_none h = refl
find-left t (mixed_left {cs} {ca} {cb} c m) h = ap (λ l. cond (t c) (Some c) l) (find-left t m h)
find-left t (mixed_right {cs} {ca} {cb} c m) h = ap (λ b. cond b (Some c) (find t cs)) h.0 ∙ find-left t m h.1

find-right : (t : Contribution → Bool) {cs ca cb : List Contribution} → Mixed cs ca cb → None-pass t ca → find t cs ≡ find t cb
find-right t mixed_none h = refl
find-right t (mixed_left {cs} {ca} {cb} c m) h = ap (λ b. cond b (Some c) (find t cs)) h.0 ∙ find-right t m h.1
find-right t (mixed_right {cs} {ca} {cb} c m) h = ap (λ l. cond (t c) (Some c) l) (find-right t m h)

find-none : (t : Contribution → Bool) (cs : List Contribution) → None-pass t cs → find t cs ≡ None
find-none t [] h = refl
find-none t (c ∷ cs) h = ap (λ b. cond b (Some c) (find t cs)) h.0 ∙ find-none t cs h.1

-- contributions whose slots all pass a test
abbrev pub SlotsPass : (ℕ → Bool) → List Contribution → Type 0
SlotsPass u cs = AllByRecursion (λ (c : Contribution). list_all u c.slots ≡ true) cs

-- a slot that does not pass is among none that do
among-passes : (u : ℕ → Bool) (slot : ℕ) (slots : List ℕ) → u slot ≡ false → list_all u slots ≡ true → is_among slot slots ≡ false
among-passes u slot [] e h = refl
among-passes u slot (s ∷ slots) e h =
    let parts = and_parts (u s) (list_all u slots) h in
    one (s == slot) (λ k. ap u (eqb-true s slot k)) parts.0 (among-passes u slot slots e parts.1)
  where
    one : (b : Bool) → (b ≡ true → u s ≡ u slot) → u s ≡ true → is_among slot slots ≡ false → b || is_among slot slots ≡ false
    one true same here away = let s = same refl in cc
    one false same here away = away

no-slot : (u : ℕ → Bool) (slot : ℕ) (cs : List Contribution) → u slot ≡ false → SlotsPass u cs → None-pass (has_slot slot) cs
no-slot u slot [] e h = tt
no-slot u slot (c ∷ cs) e h = (among-passes u slot c.slots e h.0, no-slot u slot cs e h.1)

-- nor is a target that has the slot one of theirs
no-target : (u : ℕ → Bool) (slot : ℕ) (slots : List ℕ) (cs : List Contribution) → u slot ≡ false → is_among slot slots ≡ true → SlotsPass u cs → None-pass (λ c. same_numbers c.slots slots) cs
no-target u slot slots [] e has h = tt
no-target u slot slots (c ∷ cs) e has h = (one (same_numbers c.slots slots) (same_numbers-is c.slots slots), no-target u slot slots cs e has h.1) where
  one : (b : Bool) → (b ≡ true → c.slots ≡ slots) → b ≡ false
  one true same = let s = ap (is_among slot) (same refl) in let no = among-passes u slot c.slots e h.0 in cc
  one false same = refl

-- the reduction that is found for a slot has the slot, and its slots pass
found-has : (u : ℕ → Bool) (slot : ℕ) (cs : List Contribution) (r : Reduction) → SlotsPass u cs → option_map reduction_of (find (has_slot slot) cs) ≡ Some r → (is_among slot r.slots ≡ true) × (list_all u r.slots ≡ true)
found-has u slot [] r h e = cc
found-has u slot (c ∷ cs) r h e = one (has_slot slot c) refl (found-has u slot cs r h.1) e where
  one : (b : Bool) → has_slot slot c ≡ b → (option_map reduction_of (find (has_slot slot) cs) ≡ Some r → (is_among slot r.slots ≡ true) × (list_all u r.slots ≡ true)) →
      option_map reduction_of (cond b (Some c) (find (has_slot slot) cs)) ≡ Some r → (is_among slot r.slots ≡ true) × (list_all u r.slots ≡ true)
  one true is go e = let s : c.slots ≡ r.slots = cc in (subst (λ l. is_among slot l ≡ true) s is, subst (λ l. list_all u l ≡ true) s h.0)
  one false is go e = go e

module _ (places : ℕ) (gs : List ℕ) {cs ca cb : List Contribution} (mixed : Mixed cs ca cb)
    (ours : SlotsPass (λ s. is_among s gs) ca) (theirs : SlotsPass (λ s. not (is_among s gs)) cb) where
  -- a slot of the first sort
  slot-first : (held : List Value) (slot : ℕ) → is_among slot gs ≡ true → slot_after places cs held slot ≡ slot_after places ca held slot
  slot-first held slot is =
      let no : not (is_among slot gs) ≡ false = ap not is in
      ap (slot_by places cs held slot) (ap (option_map reduction_of) (find-left (has_slot slot) mixed (no-slot (λ s. not (is_among s gs)) slot cb no theirs)))
      ∙ by (first_reduction slot ca) refl
    where
      by : (o : Option Reduction) → first_reduction slot ca ≡ o → slot_by places cs held slot o ≡ slot_by places ca held slot o
      by None e = refl
      by (Some r) e =
          let has = found-has (λ s. is_among s gs) slot ca r ours e in
          ap (λ l. then_go (overflow_at (taken (λ c. c.place) (closed r.reduce) places (map (value_at held) r.slots) l)) (λ values. Ok (entry_of slot r.slots values (value_at held slot))))
          (filter-left (λ c. same_numbers c.slots r.slots) mixed (no-target (λ s. not (is_among s gs)) slot r.slots cb (ap not is) has.0 theirs))

  -- a slot of the second sort, or of none
  slot-second : (held : List Value) (slot : ℕ) → is_among slot gs ≡ false → slot_after places cs held slot ≡ slot_after places cb held slot
  slot-second held slot is =
      ap (slot_by places cs held slot) (ap (option_map reduction_of) (find-right (has_slot slot) mixed (no-slot (λ s. is_among s gs) slot ca is ours)))
      ∙ by (first_reduction slot cb) refl
    where
      by : (o : Option Reduction) → first_reduction slot cb ≡ o → slot_by places cs held slot o ≡ slot_by places cb held slot o
      by None e = refl
      by (Some r) e =
          let has = found-has (λ s. not (is_among s gs)) slot cb r theirs e in
          ap (λ l. then_go (overflow_at (taken (λ c. c.place) (closed r.reduce) places (map (value_at held) r.slots) l)) (λ values. Ok (entry_of slot r.slots values (value_at held slot))))
          (filter-right (λ c. same_numbers c.slots r.slots) mixed (no-target (λ s. is_among s gs) slot r.slots ca is has.0 ours))

  -- the first sort takes nothing onto other slots, nor the second onto those
  first-none : (held : List Value) (slot : ℕ) → is_among slot gs ≡ false → slot_after places ca held slot ≡ Ok (value_at held slot)
  first-none held slot is = ap (λ o. slot_by places ca held slot (option_map reduction_of o)) (find-none (has_slot slot) ca (no-slot (λ s. is_among s gs) slot ca is ours))

  second-none : (held : List Value) (slot : ℕ) → is_among slot gs ≡ true → slot_after places cb held slot ≡ Ok (value_at held slot)
  second-none held slot is = ap (λ o. slot_by places cb held slot (option_map reduction_of o)) (find-none (has_slot slot) cb (no-slot (λ s. not (is_among s gs)) slot cb (ap not is) theirs))

-- four faults, two by two
pub lesser-shuffle : (a b c d : Option Fault) → lesser (lesser a b) (lesser c d) ≡ lesser (lesser a c) (lesser b d)
lesser-shuffle a b c d =
    lesser-assoc a b (lesser c d)
    ∙ ap (lesser a) (sym (lesser-assoc b c d) ∙ ap (λ o. lesser o d) (lesser-comm b c) ∙ lesser-assoc c b d)
    ∙ sym (lesser-assoc a c (lesser b d))

module _ (places : ℕ) (gs : List ℕ) {cs ca cb : List Contribution} (mixed : Mixed cs ca cb)
    (ours : SlotsPass (λ s. is_among s gs) ca) (theirs : SlotsPass (λ s. not (is_among s gs)) cb) (held : List Value) where
  abbrev between : List Value
  between = (settled places ca held).values

  kept-at : (i : ℕ) (rest : List Value) → ((k : ℕ) → value_at held (i + k) ≡ value_at rest k) → (k : ℕ) → is_among (i + k) gs ≡ false →
      value_at (map (value_after places ca held) (enumerate_from i rest)) k ≡ value_at held (i + k)
  kept-at i [] at k is = sym (at k)
  kept-at i (v ∷ rest) at zero is =
      let e : i + 0 ≡ i = omega arith in
      ap (value_or v) (first-none places gs mixed ours theirs held i (ap (λ n. is_among n gs) (sym e) ∙ is)) ∙ ap (value_at held) (sym e)
  kept-at i (v ∷ rest) at (suc k) is =
      let e : (i + 1) + k ≡ i + suc k = omega arith in
      kept-at (i + 1) rest (λ j. ap (value_at held) (let f : (i + 1) + j ≡ i + suc j = omega arith in f) ∙ at (suc j)) k (ap (λ n. is_among n gs) e ∙ is) ∙ ap (value_at held) e

  -- what the first sort is taken onto are its slots alone
  pub first-keeps : (x : ℕ) → is_among x gs ≡ false → value_at between x ≡ value_at held x
  first-keeps x is =
      let e : 0 + x ≡ x = omega arith in
      kept-at 0 held (λ k. ap (value_at held) (let f : 0 + k ≡ k = omega arith in f)) x (ap (λ n. is_among n gs) e ∙ is) ∙ ap (value_at held) e

  slots-same : (slots : List ℕ) → list_all (λ s. not (is_among s gs)) slots ≡ true → map (value_at held) slots ≡ map (value_at between) slots
  slots-same [] h = refl
  slots-same (s ∷ slots) h =
      let parts = and_parts (not (is_among s gs)) (list_all (λ s. not (is_among s gs)) slots) h in
      ap (λ v. v ∷ map (value_at held) slots) (sym (first-keeps s (not-among (is_among s gs) parts.0))) ∙ ap (λ vs. value_at between s ∷ vs) (slots-same slots parts.1)
    where
      not-among : (b : Bool) → not b ≡ true → b ≡ false
      not-among true e = cc
      not-among false e = refl

  slot-again : (x : ℕ) → is_among x gs ≡ false → slot_after places cb held x ≡ slot_after places cb between x
  slot-again x is = by (first_reduction x cb) refl where
    by : (o : Option Reduction) → first_reduction x cb ≡ o → slot_by places cb held x o ≡ slot_by places cb between x o
    by None e = ap Ok (sym (first-keeps x is))
    by (Some r) e =
        let has = found-has (λ s. not (is_among s gs)) x cb r theirs e in
        ap (λ vs. then_go (overflow_at (taken (λ c. c.place) (closed r.reduce) places vs (to_target r.slots cb))) (λ values. Ok (entry_of x r.slots values (value_at held x)))) (slots-same r.slots has.1)
        ∙ ap (λ v. then_go (overflow_at (taken (λ c. c.place) (closed r.reduce) places (map (value_at between) r.slots) (to_target r.slots cb))) (λ values. Ok (entry_of x r.slots values v))) (sym (first-keeps x is))

  -- one slot with what it held
  value-two : (i : ℕ) (v : Value) → value_at held i ≡ v → value_at between i ≡ value_after places ca held (i, v) → value_after places cs held (i, v) ≡ value_after places cb between (i, value_after places ca held (i, v))
  value-two i v here then = by (is_among i gs) refl where
    by : (b : Bool) → is_among i gs ≡ b → value_after places cs held (i, v) ≡ value_after places cb between (i, value_after places ca held (i, v))
    by true is =
        ap (value_or v) (slot-first places gs mixed ours theirs held i is) ∙ sym then
        ∙ sym (ap (value_or (value_after places ca held (i, v))) (second-none places gs mixed ours theirs between i is))
    by false is =
        let first : value_after places ca held (i, v) ≡ v = ap (value_or v) (first-none places gs mixed ours theirs held i is) ∙ here in
        ap (value_or v) (slot-second places gs mixed ours theirs held i is ∙ slot-again i is) ∙ ap (λ x. value_or x (slot_after places cb between i)) (sym first)

  fault-two : (i : ℕ) (v : Value) → fault_after places cs held (i, v) ≡ lesser (fault_after places ca held (i, v)) (fault_after places cb between (i, value_after places ca held (i, v)))
  fault-two i v = by (is_among i gs) refl where
    by : (b : Bool) → is_among i gs ≡ b → fault_after places cs held (i, v) ≡ lesser (fault_after places ca held (i, v)) (fault_after places cb between (i, value_after places ca held (i, v)))
    by true is =
        ap fault_of (slot-first places gs mixed ours theirs held i is) ∙ sym (lesser-none (fault_after places ca held (i, v)))
        ∙ ap (λ r. lesser (fault_after places ca held (i, v)) (fault_of r)) (sym (second-none places gs mixed ours theirs between i is))
    by false is =
        ap fault_of (slot-second places gs mixed ours theirs held i is ∙ slot-again i is)
        ∙ ap (λ r. lesser (fault_of r) (fault_after places cb between (i, value_after places ca held (i, v)))) (sym (first-none places gs mixed ours theirs held i is))

  rest-values : (i : ℕ) (rest : List Value) → ((k : ℕ) → value_at held (i + k) ≡ value_at rest k) → ((k : ℕ) → value_at between (i + k) ≡ value_at (map (value_after places ca held) (enumerate_from i rest)) k) →
      map (value_after places cs held) (enumerate_from i rest) ≡ map (value_after places cb between) (enumerate_from i (map (value_after places ca held) (enumerate_from i rest)))
  rest-values i [] at then = refl
  rest-values i (v ∷ rest) at then =
      let e : i ≡ i + 0 = omega arith in
      ap (λ x. x ∷ map (value_after places cs held) (enumerate_from (i + 1) rest)) (value-two i v (ap (value_at held) e ∙ at 0) (ap (value_at between) e ∙ then 0))
      ∙ ap (λ xs. value_after places cb between (i, value_after places ca held (i, v)) ∷ xs)
      (rest-values (i + 1) rest
      (λ k. ap (value_at held) (let f : (i + 1) + k ≡ i + suc k = omega arith in f) ∙ at (suc k))
      (λ k. ap (value_at between) (let f : (i + 1) + k ≡ i + suc k = omega arith in f) ∙ then (suc k)))

  rest-faults : (i : ℕ) (rest : List Value) →
      least_right (map (fault_after places cs held) (enumerate_from i rest))
      ≡ lesser (least_right (map (fault_after places ca held) (enumerate_from i rest))) (least_right (map (fault_after places cb between) (enumerate_from i (map (value_after places ca held) (enumerate_from i rest)))))
  rest-faults i [] = refl
  rest-faults i (v ∷ rest) =
      ap (λ o. lesser o (least_right (map (fault_after places cs held) (enumerate_from (i + 1) rest)))) (fault-two i v)
      ∙ ap (lesser (lesser (fault_after places ca held (i, v)) (fault_after places cb between (i, value_after places ca held (i, v))))) (rest-faults (i + 1) rest)
      ∙ lesser-shuffle (fault_after places ca held (i, v)) (fault_after places cb between (i, value_after places ca held (i, v)))
      (least_right (map (fault_after places ca held) (enumerate_from (i + 1) rest)))
      (least_right (map (fault_after places cb between) (enumerate_from (i + 1) (map (value_after places ca held) (enumerate_from (i + 1) rest)))))

  pub settled-values : (settled places cs held).values ≡ (settled places cb between).values
  settled-values = rest-values 0 held (λ k. ap (value_at held) (let f : 0 + k ≡ k = omega arith in f)) (λ k. ap (value_at between) (let f : 0 + k ≡ k = omega arith in f))

  pub settled-fault : (settled places cs held).fault ≡ lesser (settled places ca held).fault (settled places cb between).fault
  settled-fault =
      least_from-right None (map (fault_after places cs held) (enumerate_from 0 held))
      ∙ rest-faults 0 held
      ∙ ap (λ o. lesser o (least_right (map (fault_after places cb between) (enumerate_from 0 between)))) (sym (least_from-right None (map (fault_after places ca held) (enumerate_from 0 held))))
      ∙ ap (lesser (settled places ca held).fault) (sym (least_from-right None (map (fault_after places cb between) (enumerate_from 0 between))))
