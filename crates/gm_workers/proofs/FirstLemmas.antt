-- Workers before the first superstep.
use Rattle.std.proofs.Common.{◌≡◌, ◌<◌, ◌≤◌, ◌+◌, ℕ, List, [], ◌∷◌, ◌++◌, length, map, take, set, refl, sym, ap, ◌∙◌, subst, arith, ⊎_elim}
use Rattle.std.specs.Prelude.{slice_index, slice_index_or}
use Rattle.std.specs.List.{enumerate_from}
use Rattle.std.proofs.lemmas.Bool.{cases_eq}
use Rattle.std.proofs.lemmas.List.{get_or-map, length-map, map-append, take_more, take_more_set, take_all, length_push}
use Rattle.std.proofs.lemmas.List.FromFn.{length-enumerate_from, get_or-enumerate_from}
use Rattle.gm_value.specs.declared.values.Value.{Value}
use Rattle.gm_model.specs.Graphs.{NumberedGraph, node_count}
use Rattle.gm_value.specs.Numbers.{zero_of}
use Rattle.gm_image.specs.declared.images.Image.{Image}
use Rattle.gm_image.specs.Program.{Program}
use Rattle.gm_image.specs.Views.{program}
use Rattle.gm_machine.specs.Machine.{properties, row_at, start_fields, start_nodes}
use Rattle.gm_machine.proofs.Starting.{length-with_inputs}
use Rattle.gm_machine.proofs.BagLemmas.{same_as}
use Rattle.gm_core.specs.Cores.{owner, start}
use Rattle.gm_core.specs.Supersteps.{own}
use Rattle.gm_workers.specs.declared.dealing.Dealing.{Dealing}
use Rattle.gm_workers.specs.declared.crews.Slot.{Slot}
use Rattle.gm_workers.specs.Dealings.{IsDealt}
use Rattle.gm_workers.specs.Parts.{messages_in}
use Rattle.gm_workers.specs.Crews.{fields_at, IsCrew, Shows, StandFor, AreFirst}
use Rattle.gm_workers.proofs.CrewLemmas.{at-pushed, at-before}
use Rattle.gm_workers.proofs.DealingLemmas.{own-place}

-- a node has a field for each of the image
pub first-wide : (i : Image) (g : NumberedGraph) (n number : ℕ) → length (start_fields (program i) g (n, number)) ≡ length i.fields
first-wide i g n number =
    length-with_inputs (properties (program i).inputs) (row_at g.node_columns n) (map zero_of (program i).fields) ∙ length-map (program i).fields zero_of

-- one more row
pub rows-more : (f : ℕ → List Value) (k : ℕ) (nodes : List ℕ) (rows rows' : List (List Value)) (row : List Value) → k < length nodes → length rows ≡ length nodes → take k rows ≡ map f (take k nodes) →
    rows' ≡ set rows k row → row ≡ f (slice_index nodes k) → take (k + 1) rows' ≡ map f (take (k + 1) nodes)
rows-more f k nodes rows rows' row low long so_far e is =
    ap (take (k + 1)) e
    ∙ take_more_set rows k row (omega (arith, low, long))
    ∙ ap (λ l. l ++ row ∷ []) so_far
    ∙ ap (λ r. map f (take k nodes) ++ r ∷ []) is
    ∙ sym (ap (map f) (take_more nodes k 0 low) ∙ map-append f (take k nodes) (slice_index nodes k ∷ []))

-- all rows
pub rows-all : (f : ℕ → List Value) (k : ℕ) (nodes : List ℕ) (rows : List (List Value)) → length nodes ≤ k → length rows ≡ length nodes → take k rows ≡ map f (take k nodes) → rows ≡ map f nodes
rows-all f k nodes rows past long so_far = sym (take_all k rows (omega (arith, past, long))) ∙ so_far ∙ ap (map f) (take_all k nodes past)

module _ (p : Program) (g : NumberedGraph) (owners : List ℕ) where
  pub first-none : AreFirst p g owners 0 []
  first-none = record { count = refl; nodes_are = λ w low. absurd (omega arith); rows_are = λ w low. absurd (omega arith); none_wait = λ w low. absurd (omega arith) }

  pub first-more : (k : ℕ) (slots slots' : List Slot) (x : Slot) → slots' ≡ slots ++ x ∷ [] → x.nodes.items ≡ own owners k (node_count g) → x.fields.rows ≡ map (λ n. start_fields p g (n, n)) (own owners k (node_count g)) →
      x.waiting.items ≡ [] → AreFirst p g owners k slots → AreFirst p g owners (k + 1) slots'
  first-more k slots slots' x grown nodes rows none so_far =
      subst (AreFirst p g owners (k + 1)) (sym grown)
      (record {
        count = length_push slots x ∙ ap (λ n. n + 1) so_far.count;
        nodes_are = λ w low.
            ⊎_elim
            (λ (here : w ≡ k). at-pushed (λ (z : Slot). z.nodes.items) slots x w [] (so_far.count ∙ sym here) ∙ nodes ∙ ap (λ v. own owners v (node_count g)) (sym here))
            (λ (before : w ≡ k → ⊥). at-before (λ (z : Slot). z.nodes.items) slots x w [] (omega (arith, low, before, so_far.count)) ∙ so_far.nodes_are w (omega (arith, low, before)))
            (cases_eq w k);
        rows_are = λ w low.
            ⊎_elim
            (λ (here : w ≡ k). at-pushed (λ (z : Slot). z.fields.rows) slots x w [] (so_far.count ∙ sym here) ∙ rows ∙ ap (λ v. map (λ n. start_fields p g (n, n)) (own owners v (node_count g))) (sym here))
            (λ (before : w ≡ k → ⊥). at-before (λ (z : Slot). z.fields.rows) slots x w [] (omega (arith, low, before, so_far.count)) ∙ so_far.rows_are w (omega (arith, low, before)))
            (cases_eq w k);
        none_wait = λ w low.
            ⊎_elim
            (λ (here : w ≡ k). at-pushed (λ (z : Slot). z.waiting.items) slots x w [] (so_far.count ∙ sym here) ∙ none)
            (λ (before : w ≡ k → ⊥). at-before (λ (z : Slot). z.waiting.items) slots x w [] (omega (arith, low, before, so_far.count)) ∙ so_far.none_wait w (omega (arith, low, before)))
            (cases_eq w k);
      })

-- all workers
module _ (p : Program) (g : NumberedGraph) (dealing : Dealing) (workers : ℕ) (slots : List Slot) (few : workers ≤ 64) (dealt : IsDealt (node_count g) workers dealing) (first : AreFirst p g dealing.owners.items workers slots) where
  abbrev owners : List ℕ
  owners = dealing.owners.items

  abbrev fresh : ℕ → List Value
  fresh n = start_fields p g (n, n)

  pub first-crew : IsCrew (node_count g) workers dealing slots
  first-crew = record {
    dealt = dealt;
    few = few;
    count = first.count;
    nodes_are = first.nodes_are;
    wide = λ w low. ap length (first.rows_are w low) ∙ length-map (own owners w (node_count g)) fresh ∙ ap length (sym (first.nodes_are w low));
  }

  fields-fresh : (n : ℕ) → n < node_count g → fields_at owners slots n ≡ slice_index_or (start_nodes p g).fields n []
  fields-fresh n low =
      let w : ℕ = owner owners n in
      let k : ℕ = length (own owners w n) in
      let has = own-place owners w (node_count g) n low refl in
      ap (λ rs. slice_index_or rs k []) (first.rows_are w (dealt.owners.each n))
      ∙ get_or-map fresh (own owners w (node_count g)) k 0 [] has.within
      ∙ ap fresh has.there
      ∙ ap (λ m. start_fields p g (m, n)) (let e : n ≡ 0 + n = omega arith in e)
      ∙ ap (start_fields p g) (sym (get_or-enumerate_from 0 g.numbers n (0, 0) low))
      ∙ sym (get_or-map (start_fields p g) (enumerate_from 0 g.numbers) n (0, 0) [] (omega (arith, length-enumerate_from 0 g.numbers, low)))

  pub stand-first : StandFor (node_count g) owners slots (start_nodes p g)
  stand-first = record {
    long = length-map (enumerate_from 0 g.numbers) (start_fields p g) ∙ length-enumerate_from 0 g.numbers;
    fields = fields-fresh;
    waiting = λ w low. same_as (ap messages_in (first.none_wait w (omega (arith, low, first.count))));
  }

  pub show-first : (args : List Value) (turns : ℕ) → Shows (node_count g) owners slots (start p g owners workers args turns)
  show-first args turns = record { fields = fields-fresh; waiting = λ w low. ap messages_in (first.none_wait w (omega (arith, low, first.count))) }
