-- Joining from the first line to the last leaves no two steps that are joinable.
use Rattle.std.proofs.Common.{◌≡◌, ◌<◌, ◌≤◌, ℕ, zero, suc, ◌+◌, Bool, true, false, cond, ◌&&◌, Option, Some, None, length, refl, sym, ap, subst, ◌∙◌, arith, ⊎_elim}
use Rattle.std.specs.Prelude.{IsTrue, slice_get}
use Rattle.std.specs.List.{list_all}
use Rattle.std.proofs.lemmas.Bool.{and_parts, ltb-true, cases_lt}
use Rattle.gm_image.specs.declared.rules.ImageRule.TheVariants.{I1}
use Rattle.gm_image.specs.Program.{Program, Command, Step, Jump}
use Rattle.gm_image.specs.Parts.{command_terms}
use Rattle.gm_image.specs.Indices.{command_in_range, term_in_range}
use Rattle.gm_image.specs.Ranges.{Ranged}
use Rattle.gm_image.specs.Rows.{CommandRow}
use Rattle.gm_image.specs.Soundness.{keeps, keeps_all, image_rules, is_sound}
use Rattle.gm_machine.specs.Machine.{block_at}
use Rattle.gm_machine.proofs.SoundHandlers.{all_at}
use Rattle.gm_merge_laws.specs.Joins.{leads_elsewhere, are_joinable, joined_image, Joinable}
use Rattle.gm_merge_laws.specs.Outcomes.{Joins, joins_none, joins_more, KeepsAll}
use Rattle.gm_merge_laws.proofs.Chains.{joins-keep}
use Rattle.gm_merge_laws.proofs.Sounds.{commands-pass}
use Rattle.gm_merge_laws.proofs.Sounder.{within-get, row-at, next-sound}
use Rattle.gm_merge.specs.Joining.{is_short, are_joined, with_pair_joined, with_line_joined, with_lines_joined, all_joined}
use Rattle.gm_merge.proofs.Replacing.{get-first, get-above, all-before, length-replaced}
use Rattle.gm_merge.proofs.Growing.{kept-block, longer}

-- the parts of a test for a join
record Parts (p : Program) (i a b : ℕ) : Type 0 where
  alone : list_all (leads_elsewhere (i + 1)) p.master ≡ true
  blocks : are_joinable (block_at p a) (block_at p b) ≡ true
  short : is_short (joined_image p i a b) ≡ true

three : (x y z : Bool) → (x && y && z) ≡ true → (x ≡ true) × (y ≡ true) × (z ≡ true)
three true true true h = (refl, refl, refl)
three true true false h = cc
three true false z h = cc
three false y z h = cc

join-parts : (p : Program) (i a b : ℕ) → are_joined p i a b ≡ true → Parts p i a b
join-parts p i a b h =
    let parts = three (list_all (leads_elsewhere (i + 1)) p.master) (are_joinable (block_at p a) (block_at p b)) (is_short (joined_image p i a b)) h in
    record { alone = parts.0; blocks = parts.1; short = parts.2 }

pair-joinable : (p : Program) (i a b : ℕ) → slice_get p.master i ≡ Some (Step a) → slice_get p.master (i + 1) ≡ Some (Step b) → are_joined p i a b ≡ true → Joinable p i a b
pair-joinable p i a b e f h = let parts = join-parts p i a b h in record { first = e; second = f; alone = parts.alone; blocks = parts.blocks }

-- what comes by joins after a line comes by joins
cond-joins : (p r : Program) (i a b : ℕ) → slice_get p.master i ≡ Some (Step a) → slice_get p.master (i + 1) ≡ Some (Step b) → (x : Bool) → are_joined p i a b ≡ x → Joins (cond x (joined_image p i a b) p) r → Joins p r
cond-joins p r i a b e f true h more = joins_more i a b (pair-joinable p i a b e f h) (join-parts p i a b h).short more
cond-joins p r i a b e f false h more = more

pair-joins : (p r : Program) (i : ℕ) (m n : Option Command) → slice_get p.master i ≡ m → slice_get p.master (i + 1) ≡ n → Joins (with_pair_joined p i m n) r → Joins p r
pair-joins p r i (Some (Step a)) (Some (Step b)) e f more = cond-joins p r i a b e f (are_joined p i a b) refl more
pair-joins p r i m n e f more = more

lines-join : (n i : ℕ) (p : Program) → Joins p (with_lines_joined n i p)
lines-join zero i p = joins_none p
lines-join (suc n) i p = pair-joins p (with_lines_joined n (suc i) (with_line_joined p i)) i (slice_get p.master i) (slice_get p.master (i + 1)) refl refl (lines-join n (suc i) (with_line_joined p i))

pub lines-joined : (p : Program) → Joins p (all_joined p)
lines-joined p = lines-join (length p.master) 0 p

pub joined-keeps : (p : Program) → IsTrue (is_sound p) → Ranged p → KeepsAll p (all_joined p)
joined-keeps p = joins-keep p (all_joined p) (lines-joined p)

-- the steps of a sound image are those of its blocks
pub step-inside : (p : Program) → IsTrue (is_sound p) → (k q : ℕ) → slice_get p.master k ≡ Some (Step q) → q < length p.blocks
step-inside p sound k q e =
    let row : keeps_all p (CommandRow (0 + k) (Step q)) ≡ true = row-at (keeps_all p) 0 p.master k (Step q) (commands-pass p sound) e in
    let at0 : 0 < length image_rules = omega arith in
    let range : keeps p (CommandRow (0 + k) (Step q)) I1 ≡ true = all_at (keeps p (CommandRow (0 + k) (Step q))) image_rules 0 I1 at0 row in
    ltb-true q (length p.blocks) (and_parts (command_in_range p (Step q)) (list_all (term_in_range p None) (command_terms (Step q))) range).0

-- the lines before one are left as they are: where one and the next are joinable, the text would be too long
abbrev Clear : Program → ℕ → Type 0
Clear p i = (j a b : ℕ) → j < i → Joinable p j a b → is_short (joined_image p j a b) ≡ false

-- a sound image with some lines, of which those before one are clear
record Good (k : ℕ) (p : Program) (i : ℕ) : Type 0 where
  sound : IsTrue (is_sound p)
  clear : Clear p i
  long : length p.master ≡ k

no-step : (to q : ℕ) → Some (Jump to) ≡ Some (Step q) → ⊥
no-step to q e = cc

joined-clear : (p : Program) (i a b : ℕ) → IsTrue (is_sound p) → Joinable p i a b → Clear p i → Clear (joined_image p i a b) (suc i)
joined-clear p i a b sound joinable clear j c d l h =
    let q : Program = joined_image p i a b in
    let x : Command = Jump (i + 1) in
    let y : Command = Step (length p.blocks) in
    let jump : slice_get q.master i ≡ Some x = get-first x y (Step a) (Step b) i p.master joinable.first joinable.second in
    ⊎_elim
    (λ (above : j + 1 < i).
    let before : j < i = omega arith in
    let first : slice_get p.master j ≡ Some (Step c) = sym (get-above x y i j p.master before) ∙ h.first in
    let second : slice_get p.master (j + 1) ≡ Some (Step d) = sym (get-above x y i (j + 1) p.master above) ∙ h.second in
    let in_c = step-inside p sound j c first in
    let in_d = step-inside p sound (j + 1) d second in
    let old : Joinable p j c d = record {
      first = first;
      second = second;
      alone = all-before (leads_elsewhere (j + 1)) x y (Step a) (Step b) i p.master joinable.first joinable.second refl refl h.alone;
      blocks = ap (λ z. are_joinable z (block_at p d)) (sym (kept-block p i a b c in_c)) ∙ ap (are_joinable (block_at q c)) (sym (kept-block p i a b d in_d)) ∙ h.blocks;
    } in
    longer p i a b j c d in_c in_d (clear j c d before old))
    (λ (below : i ≤ j + 1).
    ⊎_elim
    (λ (above : j < i).
    let same : j + 1 ≡ i = omega arith in
    absurd (no-step (i + 1) d (sym jump ∙ ap (slice_get q.master) (sym same) ∙ h.second)))
    (λ (below : i ≤ j).
    let same : j ≡ i = omega arith in
    absurd (no-step (i + 1) c (sym jump ∙ ap (slice_get q.master) (sym same) ∙ h.first)))
    (cases_lt j i))
    (cases_lt (j + 1) i)

-- a line that is not joined is clear where it and the next are not joinable, or would make the text too long
stay-good : (k : ℕ) (p : Program) (i : ℕ) → ((a b : ℕ) → Joinable p i a b → is_short (joined_image p i a b) ≡ false) → Good k p i → Good k p (suc i)
stay-good k p i here good = record {
  sound = good.sound;
  clear = λ j a b l h. ⊎_elim (λ (above : j < i). good.clear j a b above h) (λ (below : i ≤ j). at j a b (omega arith) h) (cases_lt j i);
  long = good.long;
}
  where
    at : (j a b : ℕ) → i ≡ j → Joinable p j a b → is_short (joined_image p j a b) ≡ false
    at j a b e = subst (λ z. Joinable p z a b → is_short (joined_image p z a b) ≡ false) e (here a b)

not-joined : (x y z : Bool) → x ≡ true → y ≡ true → (x && y && z) ≡ false → z ≡ false
not-joined true true z h k e = e
not-joined true false z h k e = cc
not-joined false y z h k e = cc

step-is : (a c : ℕ) → Some (Step a) ≡ Some (Step c) → a ≡ c
step-is a c e = cc

-- steps that are not joined, though they are joinable
too-long : (p : Program) (i a b : ℕ) → are_joined p i a b ≡ false → Joinable p i a b → is_short (joined_image p i a b) ≡ false
too-long p i a b h j = not-joined (list_all (leads_elsewhere (i + 1)) p.master) (are_joinable (block_at p a) (block_at p b)) (is_short (joined_image p i a b)) j.alone j.blocks h

other-steps : (p : Program) (i a b c d : ℕ) → a ≡ c → b ≡ d → are_joined p i a b ≡ false → Joinable p i c d → is_short (joined_image p i c d) ≡ false
other-steps p i a b c d e f h = subst (λ z. Joinable p i z d → is_short (joined_image p i z d) ≡ false) e (subst (λ z. Joinable p i a z → is_short (joined_image p i a z) ≡ false) f (too-long p i a b h))

cond-good : (k : ℕ) (p : Program) (i a b : ℕ) → slice_get p.master i ≡ Some (Step a) → slice_get p.master (i + 1) ≡ Some (Step b) → (x : Bool) → are_joined p i a b ≡ x → Good k p i → Good k (cond x (joined_image p i a b) p) (suc i)
cond-good k p i a b e f true h good =
    let joinable = pair-joinable p i a b e f h in
    record {
      sound = next-sound p i a b joinable good.sound (join-parts p i a b h).short;
      clear = joined-clear p i a b good.sound joinable good.clear;
      long = length-replaced i _ _ p.master ∙ good.long;
    }
cond-good k p i a b e f false h good = stay-good k p i (λ c d j. other-steps p i a b c d (step-is a c (sym e ∙ j.first)) (step-is b d (sym f ∙ j.second)) h j) good

pair-good : (k : ℕ) (p : Program) (i : ℕ) (m n : Option Command) → slice_get p.master i ≡ m → slice_get p.master (i + 1) ≡ n → Good k p i → Good k (with_pair_joined p i m n) (suc i)
pair-good k p i (Some (Step a)) (Some (Step b)) e f good = cond-good k p i a b e f (are_joined p i a b) refl good
pair-good k p i m n e f good = stay-good k p i (λ a b j. let x = sym e ∙ j.first in let y = sym f ∙ j.second in cc) good

lines-good : (k n i : ℕ) (p : Program) → i + n ≡ k → Good k p i → Good k (with_lines_joined n i p) k
lines-good k zero i p e good = let same : i ≡ k = omega arith in subst (Good k p) same good
lines-good k (suc n) i p e good =
    let e' : suc i + n ≡ k = omega arith in
    lines-good k n (suc i) (with_line_joined p i) e' (pair-good k p i (slice_get p.master i) (slice_get p.master (i + 1)) refl refl good)

all-good : (p : Program) → IsTrue (is_sound p) → Good (length p.master) (all_joined p) (length p.master)
all-good p sound =
    let k : ℕ = length p.master in
    let start : 0 + k ≡ k = omega arith in
    lines-good k k 0 p start (record { sound = sound; clear = λ j a b l h. absurd (omega arith); long = refl })

pub joined-sound : (p : Program) → IsTrue (is_sound p) → IsTrue (is_sound (all_joined p))
joined-sound p sound = (all-good p sound).sound

pub joined-left : (p : Program) (i a b : ℕ) → IsTrue (is_sound p) → Joinable (all_joined p) i a b → is_short (joined_image (all_joined p) i a b) ≡ false
joined-left p i a b sound h =
    let good = all-good p sound in
    let inside = within-get (all_joined p).master i (Step a) h.first in
    let l : i < length p.master = omega (arith, inside, good.long) in
    good.clear i a b l h
