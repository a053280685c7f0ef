-- One more node has its first fields.
use Rattle.std.proofs.Common.{◌≤◌, ◌∙◌, ℕ, List, length, sym, ap, arith}
use Rattle.std.specs.Prelude.{slice_index}
use Rattle.std.proofs.lemmas.List.{length-set}
use Rattle.gm_value.specs.declared.values.Value.{Value}
use Rattle.gm_image.specs.Views.{program}
use Rattle.gm_machine.specs.Machine.{start_fields}
use Rattle.gm_workers.proofs.FirstLemmas.{first-wide, rows-more, rows-all}
use Rattle.gm_workers.proofs.crews.first_fields.Goals as goal

pub start_fields-requires : goal.start_fields-requires
start_fields-requires c = c.requires c.loop-place.place c.loop-place-test.true

pub store-requires-clause-place : goal.store-requires-clause-place
store-requires-clause-place c = omega (arith, c.loop-place.invariant.long, c.loop-place-test.true)

pub store-requires-clause-wide : goal.store-requires-clause-wide
store-requires-clause-wide c =
    ap length (c.as_slice-in-loop-place.ensures.value ∙ c.in_ok-first.ensures 0)
    ∙ first-wide c.args.image.now c.args.graph.now (slice_index c.args.nodes.now c.loop-place.place) 0
    ∙ sym c.loop-place.invariant.width

pub loop-place-preserved : goal.loop-place-preserved
loop-place-preserved c =
    let k : ℕ = c.loop-place.place in
    let n : ℕ = slice_index c.args.nodes.now k in
    let fresh : ℕ → List Value = λ m. start_fields (program c.args.image.now) c.args.graph.now (m, m) in
    record {
      width = c.in_ok-store.ensures.width ∙ c.loop-place.invariant.width;
      long = ap length c.in_ok-store.ensures.rows ∙ length-set c.loop-place.fields.rows k c.as_slice-in-loop-place.result.now ∙ c.loop-place.invariant.long;
      first =
          rows-more fresh k c.args.nodes.now c.loop-place.fields.rows c.store.new.self.rows c.as_slice-in-loop-place.result.now c.loop-place-test.true c.loop-place.invariant.long c.loop-place.invariant.first
          c.in_ok-store.ensures.rows (c.as_slice-in-loop-place.ensures.value ∙ c.in_ok-first.ensures n);
    }

pub returns : goal.returns
returns c =
    let past : length c.args.nodes.now ≤ c.loop-place.place = omega (arith, c.loop-place-test.false) in
    rows-all (λ m. start_fields (program c.args.image.now) c.args.graph.now (m, m)) c.loop-place.place c.args.nodes.now c.loop-place.fields.rows past c.loop-place.invariant.long c.loop-place.invariant.first
