-- The merged image: no run is worse, and no two steps are joinable.
use Rattle.std.proofs.Common.{◌≡◌, ◌≤◌, ℕ, zero, suc, ◌+◌, Bool, true, false, ◌&&◌, Some, List, [], ◌∷◌, map, length, refl, sym, ap, subst, ◌∙◌, arith}
use Rattle.std.specs.Prelude.{IsTrue, slice_get}
use Rattle.std.specs.List.{list_all}
use Rattle.std.proofs.lemmas.Bool.{and_parts, ltb-false}
use Rattle.std.proofs.lemmas.List.{append-nil}
use Rattle.gm_image.specs.Program.{Program, Command, SetGlobal, Step, Jump, Test, Turn, Back, Finish}
use Rattle.gm_image.specs.Ranges.{Ranged}
use Rattle.gm_image.specs.Rows.{block_rows, line_count}
use Rattle.gm_image.specs.Soundness.{is_sound, line_limit}
use Rattle.gm_machine.specs.Machine.{block_at, no_block, machine}
use Rattle.gm_merge_laws.specs.Joins.{leads_elsewhere, are_joinable, Joinable, joined_block, joined_image}
use Rattle.gm_merge_laws.specs.Outcomes.{NoWorse, Joins, joins_none, joins_more, KeepsAll}
use Rattle.gm_merge.specs.Joining.{all_joined}
use Rattle.gm_merge.specs.Trimmed.{is_run, kept_count, renumbered, trimmed}
use Rattle.gm_merge.specs.Merged.{merged}
use Rattle.gm_merge.specs.Laws.{lines_with_both}
use Rattle.gm_merge.proofs.Growing.{block_lines, joined-count}
use Rattle.gm_merge.proofs.Walks.{lines-joined, joined-keeps, joined-sound, joined-left, step-inside}
use Rattle.gm_merge.proofs.Trims.{kept-at, step_kept, steps-kept}
use Rattle.gm_merge.proofs.SameRuns.{trimmed-runs}
use Rattle.gm_merge.proofs.SoundTrims.{trimmed-sound, trimmed-ranged}

pub merged-keeps : (p : Program) → IsTrue (is_sound p) → Ranged p → KeepsAll p (merged p)
merged-keeps p sound ranged =
    let r : Program = all_joined p in
    let keeps = joined-keeps p sound ranged in
    record {
      sound = trimmed-sound r keeps.sound;
      ranged = trimmed-ranged r keeps.ranged;
      runs = λ g args turns. subst (NoWorse false (machine p g args turns)) (sym (trimmed-runs r g keeps.sound args turns)) (keeps.runs g args turns);
    }

registers-joined : (p r : Program) → Joins p r → r.registers ≡ p.registers
registers-joined p r (joins_none x) = refl
registers-joined p r (joins_more {p = q} {r = s} i a b joinable few more) = registers-joined (joined_image q i a b) s more

module _ (p : Program) where
  abbrev keep : ℕ → Bool
  keep = is_run p.master

  -- a step of the trimmed image, in the image
  record Before (k a : ℕ) (ms : List Command) : Type 0 where
    block : ℕ
    step : slice_get ms k ≡ Some (Step block)
    number : kept_count keep 0 block ≡ a

  number-is : (c a : ℕ) → Some (Step c) ≡ Some (Step a) → c ≡ a
  number-is c a e = cc

  step-before : (ms : List Command) (k a : ℕ) → slice_get (map (renumbered keep) ms) k ≡ Some (Step a) → Before k a ms
  step-before [] k a e = cc
  step-before (SetGlobal t x ∷ ms) zero a e = cc
  step-before (Step q ∷ ms) zero a e = record { block = q; step = refl; number = number-is (kept_count keep 0 q) a e }
  step-before (Jump j ∷ ms) zero a e = cc
  step-before (Test j x ∷ ms) zero a e = cc
  step-before (Turn j x ∷ ms) zero a e = cc
  step-before (Back j ∷ ms) zero a e = cc
  step-before (Finish ∷ ms) zero a e = cc
  step-before (m ∷ ms) (suc k) a e = let s = step-before ms k a e in record { block = s.block; step = s.step; number = s.number }

  leads-same : (j : ℕ) (m : Command) → leads_elsewhere j (renumbered keep m) ≡ leads_elsewhere j m
  leads-same j (SetGlobal t a) = refl
  leads-same j (Step q) = refl
  leads-same j (Jump to) = refl
  leads-same j (Test to a) = refl
  leads-same j (Turn exit a) = refl
  leads-same j (Back head) = refl
  leads-same j Finish = refl

  alone-before : (j : ℕ) (ms : List Command) → list_all (leads_elsewhere j) (map (renumbered keep) ms) ≡ true → list_all (leads_elsewhere j) ms ≡ true
  alone-before j [] h = refl
  alone-before j (m ∷ ms) h =
      let parts = and_parts (leads_elsewhere j (renumbered keep m)) (list_all (leads_elsewhere j) (map (renumbered keep) ms)) h in
      ap (λ x. x && list_all (leads_elsewhere j) ms) (sym (leads-same j m) ∙ parts.0) ∙ alone-before j ms parts.1

  kept-step : (ms : List Command) (k q : ℕ) → list_all (step_kept keep) ms ≡ true → slice_get ms k ≡ Some (Step q) → keep q ≡ true
  kept-step [] k q h e = cc
  kept-step (m ∷ ms) zero q h e =
      let same : m ≡ Step q = cc in
      ap (step_kept keep) (sym same) ∙ (and_parts (step_kept keep m) (list_all (step_kept keep) ms) h).0
  kept-step (m ∷ ms) (suc k) q h e = kept-step ms k q (and_parts (step_kept keep m) (list_all (step_kept keep) ms) h).1 e

  -- a step runs the same block
  same-block : IsTrue (is_sound p) → (k a : ℕ) (s : Before k a p.master) → block_at (trimmed p) a ≡ block_at p s.block
  same-block sound k a s =
      let z : 0 + s.block ≡ s.block = omega arith in
      let kept = kept-step p.master k s.block (steps-kept p.master keep (λ q x. x)) s.step in
      ap (block_at (trimmed p)) (sym s.number) ∙ kept-at keep 0 s.block p.blocks no_block (step-inside p sound k s.block s.step) (ap keep z ∙ kept)

  -- two steps that are joinable in the trimmed image are so in the image
  record Untrimmed (i a b : ℕ) : Type 0 where
    first : ℕ
    second : ℕ
    joinable : Joinable p i first second
    one : block_at (trimmed p) a ≡ block_at p first
    two : block_at (trimmed p) b ≡ block_at p second

  untrimmed : IsTrue (is_sound p) → (i a b : ℕ) → Joinable (trimmed p) i a b → Untrimmed i a b
  untrimmed sound i a b h =
      let first : Before i a p.master = step-before p.master i a h.first in
      let second : Before (i + 1) b p.master = step-before p.master (i + 1) b h.second in
      let one = same-block sound i a first in
      let two = same-block sound (i + 1) b second in
      record {
        first = first.block;
        second = second.block;
        joinable = record {
          first = first.step;
          second = second.step;
          alone = alone-before (i + 1) p.master h.alone;
          blocks = ap (λ x. are_joinable x (block_at p second.block)) (sym one) ∙ ap (are_joinable (block_at (trimmed p) a)) (sym two) ∙ h.blocks;
        };
        one = one;
        two = two;
      }

pub none-left : (p : Program) (i a b : ℕ) → IsTrue (is_sound p) → Joinable (merged p) i a b → line_limit ≤ lines_with_both p (block_at (merged p) a) (block_at (merged p) b)
none-left p i a b sound h =
    let r : Program = all_joined p in
    let u : Untrimmed r i a b = untrimmed r (joined-sound p sound) i a b h in
    let long : line_limit ≤ line_count (joined_image r i u.first u.second) = ltb-false (line_count (joined_image r i u.first u.second)) line_limit (joined-left p i u.first u.second sound u.joinable) in
    let counted = joined-count r i u.first u.second in
    let one : block_lines (joined_block r.registers (block_at r u.first) (block_at r u.second) ∷ []) ≡ length (block_rows (joined_block r.registers (block_at r u.first) (block_at r u.second))) =
    ap length (append-nil (block_rows (joined_block r.registers (block_at r u.first) (block_at r u.second)))) in
    let same : length (block_rows (joined_block r.registers (block_at r u.first) (block_at r u.second))) ≡ length (block_rows (joined_block p.registers (block_at (merged p) a) (block_at (merged p) b))) =
    ap (λ ts. length (block_rows (joined_block ts (block_at r u.first) (block_at r u.second)))) (registers-joined p r (lines-joined p))
    ∙ ap (λ x. length (block_rows (joined_block p.registers x (block_at r u.second)))) (sym u.one)
    ∙ ap (λ y. length (block_rows (joined_block p.registers (block_at (merged p) a) y))) (sym u.two) in
    omega (arith, long, counted, one, same)
