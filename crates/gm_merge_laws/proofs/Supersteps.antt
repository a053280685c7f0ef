-- A superstep with two joined blocks is one with the first, and then, where nothing faulted, one with the second.
use Rattle.std.proofs.Common.{◌≡◌, ◌<◌, ℕ, ◌+◌, Bool, true, false, cond, ◌&&◌, ◌||◌, not, nat_eq, nat_lt, Option, Some, None, List, [], ◌∷◌, ◌++◌, map, length, refl, sym, ap, subst, ◌∙◌, arith, append_assoc}
use Rattle.std.proofs.lemmas.List.{append-nil}
use Rattle.std.specs.List.{AllByRecursion, list_all, flat_map, enumerate_from}
use Rattle.std.proofs.lemmas.Bool.{le-ltb, ne_eqb, ltb-true}
use Rattle.gm_value.specs.declared.values.Value.{Value}
use Rattle.gm_value.specs.Faults.{fault_number}
use Rattle.gm_model.specs.Graphs.{NumberedGraph}
use Rattle.gm_image.specs.Program.{Program, Block}
use Rattle.gm_image.specs.Parts.{is_among}
use Rattle.gm_machine.specs.declared.faults.Fault.{Fault}
use Rattle.gm_machine.specs.Faults.{lesser, is_earlier, least_fault}
use Rattle.gm_machine.specs.Expressions.{value_at}
use Rattle.gm_machine.specs.Taking.{Contribution, settled, Settled}
use Rattle.gm_machine.specs.Vertex.{Message, After}
use Rattle.gm_machine.specs.Machine.{inbox, context_at, step_of}
use Rattle.gm_machine.proofs.LeastLaws.{lesser-comm, lesser-assoc, least_right, least_from-right}
use Rattle.gm_merge_laws.specs.Joins.{block_lines, reads_no_global, reads_not, is_below, joined_block}
use Rattle.gm_merge_laws.proofs.Concats.{Stays}
use Rattle.gm_merge_laws.proofs.Alikes.{AlikeAfter}
use Rattle.gm_merge_laws.proofs.Kept.{Fine, FinePuts, FineLine, FineState, least-fine, every-append, settled-fine, puts-are-folds}
use Rattle.gm_merge_laws.proofs.Steps.{Silent, vertex-silent, vertex-fine}
use Rattle.gm_merge_laws.proofs.Joint.{joint-faults, joint-goes}
use Rattle.gm_merge_laws.proofs.Settles.{Mixed, mixed_none, mixed_left, mixed-left-all, mixed-right-all, SlotsPass, lesser-shuffle, first-keeps, settled-values, settled-fault}

mixed-self : (cs : List Contribution) → Mixed cs cs []
mixed-self [] = mixed_none
mixed-self (c ∷ cs) = mixed_left c (mixed-self cs)

mixed-step : (zs xs ys : List Contribution) {cs ca cb : List Contribution} → zs ≡ xs ++ ys → Mixed cs ca cb → Mixed (zs ++ cs) (xs ++ ca) (ys ++ cb)
mixed-step zs xs ys {cs} {ca} {cb} e m =
    subst (λ l. Mixed (l ++ cs) (xs ++ ca) (ys ++ cb)) (sym e)
    (subst (λ l. Mixed l (xs ++ ca) (ys ++ cb)) (sym (append_assoc xs ys cs)) (mixed-left-all xs (mixed-right-all ys m)))

-- nothing is the lesser of nothing alone
none-first : (f g : Option Fault) → lesser f g ≡ None → f ≡ None
none-first None g e = refl
none-first (Some f) None e = cc
none-first (Some f) (Some g) e = one (is_earlier g f) e where
  one : (b : Bool) → cond b (Some g) (Some f) ≡ None → Some f ≡ None
  one true e = cc
  one false e = cc

none-second : (f g : Option Fault) → lesser f g ≡ None → g ≡ None
none-second f g e = none-first g f (lesser-comm g f ∙ e)

-- a fault at an earlier place is the lesser
earlier-place : (f : Fault) (g : Option Fault) → Fine (nat_lt f.place) g → lesser (Some f) g ≡ Some f
earlier-place f None h = refl
earlier-place f (Some g) h =
    let below : f.place < g.place = ltb-true f.place g.place h in
    let up : nat_lt g.place f.place ≡ false = le-ltb g.place f.place (omega arith) in
    let other : nat_eq g.place f.place ≡ false = ne_eqb g.place f.place (λ e. omega arith) in
    ap (λ b. cond (b || (nat_eq g.place f.place && nat_lt (fault_number g.kind) (fault_number f.kind))) (Some g) (Some f)) up
    ∙ ap (λ b. cond (b && nat_lt (fault_number g.kind) (fault_number f.kind)) (Some g) (Some f)) other

slots-of : (t u : ℕ → Bool) (cs : List Contribution) → FinePuts t u cs → SlotsPass u cs
slots-of t u [] h = tt
slots-of t u (c ∷ cs) h = (h.0.1, slots-of t u cs h.1)

-- what is asked of two blocks that are joined, where the globals that the first puts are these
pub record Fit (a b : Block) (gs : List ℕ) : Type 0 where
  pub stays : Stays a.body
  pub silent : AllByRecursion Silent (block_lines a)
  pub reads : list_all (reads_no_global gs) b.body ≡ true
  pub first : AllByRecursion (FineLine (is_below (block_lines b)) (λ s. is_among s gs)) (block_lines a)
  pub second : (place : ℕ) → is_below (block_lines b) place ≡ true → AllByRecursion (FineLine (nat_lt place) (λ s. not (is_among s gs))) (block_lines b)
  pub slots : AllByRecursion (FineLine (λ place. true) (λ s. not (is_among s gs))) (block_lines b)

module _ (p : Program) (g : NumberedGraph) (a b : Block) (gs : List ℕ) (fit : Fit a b gs) (globals : List Value) (sent : List Message) where
  abbrev first-at : (ℕ × List Value) → After
  first-at at = step_of p g a globals sent at

  abbrev joint-at : (ℕ × List Value) → After
  joint-at at = step_of p g (joined_block p.registers a b) globals sent at

  -- the second step of a node, with its fields after the first
  abbrev second-at : List Value → (ℕ × List Value) → After
  second-at new at = step_of p g b new [] at

  abbrev pub firsts : ℕ → List (List Value) → List After
  firsts i rest = map first-at (enumerate_from i rest)

  abbrev pub joints : ℕ → List (List Value) → List After
  joints i rest = map joint-at (enumerate_from i rest)

  abbrev pub seconds : List Value → ℕ → List (List Value) → List After
  seconds new i rest = map (second-at new) (enumerate_from i (map (λ a. a.state.fields) (firsts i rest)))

  first-silent : (at : ℕ × List Value) → (first-at at).state.messages ≡ []
  first-silent at = vertex-silent p a (context_at g globals at.0) (inbox sent at.0) at.1 fit.silent

  pub all-silent : (i : ℕ) (rest : List (List Value)) → flat_map (λ a. a.state.messages) (firsts i rest) ≡ []
  all-silent i [] = refl
  all-silent i (f ∷ rest) = ap (λ ms. ms ++ flat_map (λ a. a.state.messages) (firsts (i + 1) rest)) (first-silent (i, f)) ∙ all-silent (i + 1) rest

  first-fine : (at : ℕ × List Value) → FineState (is_below (block_lines b)) (λ s. is_among s gs) (first-at at).state × Fine (is_below (block_lines b)) (first-at at).fault
  first-fine at = vertex-fine (is_below (block_lines b)) (λ s. is_among s gs) p a (context_at g globals at.0) (inbox sent at.0) at.1 fit.first

  all-fine : (i : ℕ) (rest : List (List Value)) → FinePuts (is_below (block_lines b)) (λ s. is_among s gs) (flat_map (λ a. a.state.puts) (firsts i rest)) × Fine (is_below (block_lines b)) (least_right (map (λ a. a.fault) (firsts i rest)))
  all-fine i [] = (tt, tt)
  all-fine i (f ∷ rest) =
      let one = first-fine (i, f) in
      let more = all-fine (i + 1) rest in (
        every-append (is_below (block_lines b)) (λ (c : Contribution). (is_below (block_lines b) c.place ≡ true) × (list_all (λ s. is_among s gs) c.slots ≡ true)) (first-at (i, f)).state.puts (flat_map (λ a. a.state.puts) (firsts (i + 1) rest)) one.0.0 more.0,
        least-fine (is_below (block_lines b)) (first-at (i, f)).fault (least_right (map (λ a. a.fault) (firsts (i + 1) rest))) one.1 more.1,
      )

  second-fine : (t : ℕ → Bool) (new : List Value) (at : ℕ × List Value) → AllByRecursion (FineLine t (λ s. not (is_among s gs))) (block_lines b) →
      FineState t (λ s. not (is_among s gs)) (second-at new at).state × Fine t (second-at new at).fault
  second-fine t new at h = vertex-fine t (λ s. not (is_among s gs)) p b (context_at g new at.0) [] at.1 h

  goes : (new : List Value) → ((x : ℕ) → is_among x gs ≡ false → value_at new x ≡ value_at globals x) → (at : ℕ × List Value) → (first-at at).fault ≡ None →
      AlikeAfter (λ r. list_all (reads_not r) b.body ≡ false) (first-at at).state.messages (first-at at).state.puts (second-at new (at.0, (first-at at).state.fields)) (joint-at at)
  goes new same at e = joint-goes p a (context_at g globals at.0) (inbox sent at.0) at.1 b fit.stays gs new same fit.reads e

  -- the nodes of joined steps where no first step faulted
  pub record Clean (new : List Value) (i : ℕ) (rest : List (List Value)) : Type 0 where
    pub fields : map (λ a. a.state.fields) (joints i rest) ≡ map (λ a. a.state.fields) (seconds new i rest)
    pub messages : flat_map (λ a. a.state.messages) (joints i rest) ≡ flat_map (λ a. a.state.messages) (seconds new i rest)
    pub puts : Mixed (flat_map (λ a. a.state.puts) (joints i rest)) (flat_map (λ a. a.state.puts) (firsts i rest)) (flat_map (λ a. a.state.puts) (seconds new i rest))
    pub slots : SlotsPass (λ s. not (is_among s gs)) (flat_map (λ a. a.state.puts) (seconds new i rest))
    pub fault : least_right (map (λ a. a.fault) (joints i rest)) ≡ least_right (map (λ a. a.fault) (seconds new i rest))

  pub clean : (new : List Value) → ((x : ℕ) → is_among x gs ≡ false → value_at new x ≡ value_at globals x) → (i : ℕ) (rest : List (List Value)) → least_right (map (λ a. a.fault) (firsts i rest)) ≡ None → Clean new i rest
  clean new same i [] e = record { fields = refl; messages = refl; puts = mixed_none; slots = tt; fault = refl }
  clean new same i (f ∷ rest) e =
      let one = goes new same (i, f) (none-first (first-at (i, f)).fault (least_right (map (λ a. a.fault) (firsts (i + 1) rest))) e) in
      let more = clean new same (i + 1) rest (none-second (first-at (i, f)).fault (least_right (map (λ a. a.fault) (firsts (i + 1) rest))) e) in
      let at : ℕ × List Value = (i, (first-at (i, f)).state.fields) in
      record {
        fields = ap (λ x. x ∷ map (λ a. a.state.fields) (joints (i + 1) rest)) (sym one.state.fields) ∙ ap (λ xs. (second-at new at).state.fields ∷ xs) more.fields;
        messages = ap (λ ms. ms ++ flat_map (λ a. a.state.messages) (joints (i + 1) rest)) (one.state.messages ∙ ap (λ ms. ms ++ (second-at new at).state.messages) (first-silent (i, f)))
            ∙ ap (λ ms. (second-at new at).state.messages ++ ms) more.messages;
        puts = mixed-step (joint-at (i, f)).state.puts (first-at (i, f)).state.puts (second-at new at).state.puts one.state.puts more.puts;
        slots = every-append (λ place. true) (λ (c : Contribution). list_all (λ s. not (is_among s gs)) c.slots ≡ true) (second-at new at).state.puts (flat_map (λ a. a.state.puts) (seconds new (i + 1) rest))
            (slots-of (λ place. true) (λ s. not (is_among s gs)) (second-at new at).state.puts (second-fine (λ place. true) new at fit.slots).0.0) more.slots;
        fault = ap (λ o. lesser o (least_right (map (λ a. a.fault) (joints (i + 1) rest)))) (sym one.fault) ∙ ap (lesser (second-at new at).fault) more.fault;
      }

  -- the nodes of joined steps where first steps may have faulted: what the others put and how they fault comes on top
  pub record Rest (t : ℕ → Bool) (i : ℕ) (rest : List (List Value)) : Type 0 where
    pub more : List Contribution
    pub other : Option Fault
    pub puts : Mixed (flat_map (λ a. a.state.puts) (joints i rest)) (flat_map (λ a. a.state.puts) (firsts i rest)) more
    pub fine : FinePuts t (λ s. not (is_among s gs)) more
    pub fault : least_right (map (λ a. a.fault) (joints i rest)) ≡ lesser (least_right (map (λ a. a.fault) (firsts i rest))) other
    pub at_place : Fine t other

  rest-one : (t : ℕ → Bool) → AllByRecursion (FineLine t (λ s. not (is_among s gs))) (block_lines b) → (i : ℕ) (f : List Value) (rest : List (List Value)) (o : Option Fault) → (first-at (i, f)).fault ≡ o → Rest t (i + 1) rest → Rest t i (f ∷ rest)
  rest-one t h i f rest None e so_far =
      let at : ℕ × List Value = (i, (first-at (i, f)).state.fields) in
      let one = goes globals (λ x is. refl) (i, f) e in
      let fine = second-fine t globals at h in
      let others : Option Fault = least_right (map (λ a. a.fault) (firsts (i + 1) rest)) in
      record {
        more = (second-at globals at).state.puts ++ so_far.more;
        other = lesser (second-at globals at).fault so_far.other;
        puts = mixed-step (joint-at (i, f)).state.puts (first-at (i, f)).state.puts (second-at globals at).state.puts one.state.puts so_far.puts;
        fine = every-append t (λ (c : Contribution). (t c.place ≡ true) × (list_all (λ s. not (is_among s gs)) c.slots ≡ true)) (second-at globals at).state.puts so_far.more fine.0.0 so_far.fine;
        fault =
            ap (λ o. lesser o (least_right (map (λ a. a.fault) (joints (i + 1) rest)))) (sym one.fault)
            ∙ ap (lesser (second-at globals at).fault) so_far.fault
            ∙ sym (lesser-assoc (second-at globals at).fault others so_far.other)
            ∙ ap (λ o. lesser o so_far.other) (lesser-comm (second-at globals at).fault others)
            ∙ lesser-assoc others (second-at globals at).fault so_far.other
            ∙ ap (λ o. lesser (lesser o others) (lesser (second-at globals at).fault so_far.other)) (sym e);
        at_place = least-fine t (second-at globals at).fault so_far.other fine.1 so_far.at_place;
      }
  rest-one t h i f rest (Some x) e so_far =
      let same : joint-at (i, f) ≡ first-at (i, f) = joint-faults p a (context_at g globals i) (inbox sent i) f b fit.stays x e in
      record {
        more = so_far.more;
        other = so_far.other;
        puts = mixed-step (joint-at (i, f)).state.puts (first-at (i, f)).state.puts [] (ap (λ (a : After). a.state.puts) same ∙ sym (append-nil (first-at (i, f)).state.puts)) so_far.puts;
        fine = so_far.fine;
        fault =
            ap (λ (a : After). lesser a.fault (least_right (map (λ a. a.fault) (joints (i + 1) rest)))) same
            ∙ ap (lesser (first-at (i, f)).fault) so_far.fault
            ∙ sym (lesser-assoc (first-at (i, f)).fault (least_right (map (λ a. a.fault) (firsts (i + 1) rest))) so_far.other);
        at_place = so_far.at_place;
      }

  pub rests : (t : ℕ → Bool) → AllByRecursion (FineLine t (λ s. not (is_among s gs))) (block_lines b) → (i : ℕ) (rest : List (List Value)) → Rest t i rest
  rests t h i [] = record { more = []; other = None; puts = mixed_none; fine = tt; fault = refl; at_place = tt }
  rests t h i (f ∷ rest) = rest-one t h i f rest (first-at (i, f)).fault refl (rests t h (i + 1) rest)

  module _ (fields : List (List Value)) where
    abbrev puts-of : List After → List Contribution
    puts-of all = flat_map (λ a. a.state.puts) all

    abbrev faults-of : List After → List (Option Fault)
    faults-of all = map (λ a. a.fault) all

    -- what the first superstep leaves of the globals, and its fault
    abbrev pub taken-first : Settled
    taken-first = settled (length p.places) (puts-of (firsts 0 fields)) globals

    abbrev pub fault-first : Option Fault
    fault-first = lesser (least_fault (faults-of (firsts 0 fields))) taken-first.fault

    abbrev pub taken-joint : Settled
    taken-joint = settled (length p.places) (puts-of (joints 0 fields)) globals

    abbrev pub fault-joint : Option Fault
    fault-joint = lesser (least_fault (faults-of (joints 0 fields))) taken-joint.fault

    -- what the second superstep leaves, behind the first
    abbrev pub taken-second : Settled
    taken-second = settled (length p.places) (puts-of (seconds taken-first.values 0 fields)) taken-first.values

    abbrev pub fault-second : Option Fault
    fault-second = lesser (least_fault (faults-of (seconds taken-first.values 0 fields))) taken-second.fault

    ours : SlotsPass (λ s. is_among s gs) (puts-of (firsts 0 fields))
    ours = slots-of (is_below (block_lines b)) (λ s. is_among s gs) (puts-of (firsts 0 fields)) (all-fine 0 fields).0

    least-right : (fs : List (Option Fault)) → least_fault fs ≡ least_right fs
    least-right fs = least_from-right None fs

    -- where the first superstep does not fault, the joined one is the second
    pub record Two : Type 0 where
      pub fields_same : map (λ a. a.state.fields) (joints 0 fields) ≡ map (λ a. a.state.fields) (seconds taken-first.values 0 fields)
      pub messages_same : flat_map (λ a. a.state.messages) (joints 0 fields) ≡ flat_map (λ a. a.state.messages) (seconds taken-first.values 0 fields)
      pub globals_same : taken-joint.values ≡ taken-second.values
      pub fault_same : fault-joint ≡ fault-second

    pub two-clean : fault-first ≡ None → Two
    two-clean e =
        let nodes : least_right (faults-of (firsts 0 fields)) ≡ None = sym (least-right (faults-of (firsts 0 fields))) ∙ none-first (least_fault (faults-of (firsts 0 fields))) taken-first.fault e in
        let all : Clean taken-first.values 0 fields = clean taken-first.values (λ x is. first-keeps (length p.places) gs (mixed-self (puts-of (firsts 0 fields))) ours tt globals x is) 0 fields nodes in
        record {
          fields_same = all.fields;
          messages_same = all.messages;
          globals_same = settled-values (length p.places) gs all.puts ours all.slots globals;
          fault_same =
              ap (λ o. lesser o taken-joint.fault) (least-right (faults-of (joints 0 fields)) ∙ all.fault ∙ sym (least-right (faults-of (seconds taken-first.values 0 fields))))
              ∙ ap (lesser (least_fault (faults-of (seconds taken-first.values 0 fields))))
              (settled-fault (length p.places) gs all.puts ours all.slots globals ∙ ap (λ o. lesser o taken-second.fault) (none-second (least_fault (faults-of (firsts 0 fields))) taken-first.fault e));
        }

    -- where it faults, so does the joined one
    pub two-fault : (x : Fault) → fault-first ≡ Some x → fault-joint ≡ Some x
    two-fault x e =
        let fine : Fine (is_below (block_lines b)) fault-first =
        least-fine (is_below (block_lines b)) (least_fault (faults-of (firsts 0 fields))) taken-first.fault
        (subst (Fine (is_below (block_lines b))) (sym (least-right (faults-of (firsts 0 fields)))) (all-fine 0 fields).1)
        (settled-fine (is_below (block_lines b)) (length p.places) (puts-of (firsts 0 fields)) globals (puts-are-folds (is_below (block_lines b)) (λ s. is_among s gs) (puts-of (firsts 0 fields)) (all-fine 0 fields).0)) in
        let below : is_below (block_lines b) x.place ≡ true = subst (Fine (is_below (block_lines b))) e fine in
        let rest : Rest (nat_lt x.place) 0 fields = rests (nat_lt x.place) (fit.second x.place below) 0 fields in
        let theirs : SlotsPass (λ s. not (is_among s gs)) rest.more = slots-of (nat_lt x.place) (λ s. not (is_among s gs)) rest.more rest.fine in
        let after : Settled = settled (length p.places) rest.more taken-first.values in
        ap (λ o. lesser o taken-joint.fault) (least-right (faults-of (joints 0 fields)) ∙ rest.fault ∙ ap (λ o. lesser o rest.other) (sym (least-right (faults-of (firsts 0 fields)))))
        ∙ ap (lesser (lesser (least_fault (faults-of (firsts 0 fields))) rest.other)) (settled-fault (length p.places) gs rest.puts ours theirs globals)
        ∙ lesser-shuffle (least_fault (faults-of (firsts 0 fields))) rest.other taken-first.fault after.fault
        ∙ ap (λ o. lesser o (lesser rest.other after.fault)) e
        ∙ earlier-place x (lesser rest.other after.fault)
        (least-fine (nat_lt x.place) rest.other after.fault rest.at_place (settled-fine (nat_lt x.place) (length p.places) rest.more taken-first.values (puts-are-folds (nat_lt x.place) (λ s. not (is_among s gs)) rest.more rest.fine)))
