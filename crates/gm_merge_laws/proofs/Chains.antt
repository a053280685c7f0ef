-- Joins one after another.
use Rattle.std.proofs.Common.{◌≡◌, Bool, true, false, inl, refl, subst, ◌∙◌, arith, ⊎_elim}
use Rattle.std.specs.Prelude.{IsTrue}
use Rattle.std.specs.List.{list_all}
use Rattle.gm_model.specs.declared.outcomes.RunEnd.{RunEnd}
use Rattle.gm_image.specs.Program.{Program}
use Rattle.gm_image.specs.Ranges.{Ranged}
use Rattle.gm_image.specs.Soundness.{is_sound}
use Rattle.gm_machine.specs.Machine.{machine, block_at}
use Rattle.gm_merge_laws.specs.Joins.{block_lines, sends_nothing, joined_image}
use Rattle.gm_merge_laws.specs.Outcomes.{HasNoFault, NoWorse, Joins, joins_none, joins_more, KeepsAll}
use Rattle.gm_merge_laws.proofs.Ranging.{join-ranged}
use Rattle.gm_merge_laws.proofs.Sounder.{next-sound}
use Rattle.gm_merge_laws.proofs.Sounds.{join-keeps}

same-run : (x : RunEnd) → NoWorse false x x
same-run x = record { outcome = refl; supersteps = omega arith; messages = λ h. omega arith }

two-runs : (quiet : Bool) (x y z : RunEnd) → NoWorse quiet x y → NoWorse false y z → NoWorse false x z
two-runs quiet x y z first second =
    let s = first.supersteps in
    let t = second.supersteps in
    record {
      outcome = first.outcome ∙ second.outcome;
      supersteps = omega arith;
      messages = λ h. ⊎_elim
          (λ (whole : HasNoFault x.outcome).
          let m = first.messages (inl whole) in
          let n = second.messages (inl (subst HasNoFault first.outcome whole)) in
          omega arith)
          (λ (e : false ≡ true). cc)
          h;
    }

pub joins-keep : (p r : Program) → Joins p r → IsTrue (is_sound p) → Ranged p → KeepsAll p r
joins-keep p r (joins_none x) sound ranged = record { sound = sound; ranged = ranged; runs = λ g args turns. same-run (machine x g args turns) }
joins-keep p r (joins_more {p = q} {r = s} i a b joinable few more) sound ranged =
    let rest : KeepsAll (joined_image q i a b) s = joins-keep (joined_image q i a b) s more (next-sound q i a b joinable sound few) (join-ranged q i a b sound ranged joinable) in
    record {
      sound = rest.sound;
      ranged = rest.ranged;
      runs = λ g args turns.
          two-runs (list_all sends_nothing (block_lines (block_at q b))) (machine q g args turns) (machine (joined_image q i a b) g args turns) (machine s g args turns)
          (join-keeps q i a b g args turns sound ranged joinable) (rest.runs g args turns);
    }
