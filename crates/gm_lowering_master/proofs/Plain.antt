-- Plain loops go, and so plain programs run.
use Rattle.std.proofs.Common.{◌≡◌, ◌<◌, ◌≤◌, ◌⊎◌, inl, inr, ℕ, zero, suc, ◌+◌, Bool, true, false, List, [], ◌∷◌, ◌++◌, length, refl, ap, ◌∙◌, sym, arith, ⊎_elim, ◌≢◌}
use Rattle.std.specs.Prelude.{◌&&◌, ◌||◌, not, nat_eq, nat_lt, max}
use Rattle.std.specs.List.{list_all, list_any}
use Rattle.std.proofs.lemmas.Bool.{both_ways, eqb-true, not-true, ltb-true, eqb-false}
use Rattle.gm_base.specs.declared.places.Place.{Place}
use Rattle.gm_value.specs.declared.reductions.Reduce.{Reduce}
use Rattle.gm_value.specs.Bag.{IsIn}
use Rattle.gm_ast.specs.declared.tree.Domain.{Domain}
use Rattle.gm_ast.specs.declared.tree.Domain.TheVariants.{Nodes, OutNbrs, InNbrs, UpNbrs, DownNbrs}
use Rattle.gm_ast.specs.declared.tree.Head.{Head}
use Rattle.gm_ast.specs.declared.tree.Key.{Key}
use Rattle.gm_ast.specs.declared.tree.Target.{Target}
use Rattle.gm_ast.specs.declared.tree.Target.TheVariants as T
use Rattle.gm_ast.specs.Keys.{Fault, fault_lt}
use Rattle.gm_ast.specs.Program as S
use Rattle.gm_ast.specs.Program.{Expr, Stmt}
use Rattle.gm_forms.proofs.Named.{both-true}
use Rattle.gm_forms.specs.Cut.{can_overflow}
use Rattle.gm_forms.specs.Typing.{keeps_tuples}
use Rattle.gm_semantics.specs.Levels.{numbers_from}
use Rattle.gm_semantics.specs.Statements.{variable_at}
use Rattle.gm_lowering.specs.Layouts.{Layout, is_register, phase_positions, body_positions}
use Rattle.gm_lowering.specs.Plans.{carried, is_here, Away, aways}
use Rattle.gm_lowering.specs.Places.{Spot, spot_lt, spot_of_total, segment, spot_at, spots_in, shown_places}
use Rattle.gm_lowering.specs.Terms.{master_env, term}
use Rattle.gm_lowering.specs.Blocks.{reads_scalar}
use Rattle.gm_lowering.specs.Sites.{is_body, is_local, same_length}
use Rattle.gm_lowering.specs.OwnLoops.{are_any, own_finds, own_sets, own_gives, is_kept_property, HasSpares}
use Rattle.gm_lowering.specs.Phases.{own_spots}
use Rattle.gm_lowering.specs.OwnSends.{sending_gives}
use Rattle.gm_lowering.specs.Sent.{sender_gives}
use Rattle.gm_lowering.specs.ReceiverSends.{tells_sent}
use Rattle.gm_lowering.specs.SentBehind.{made_stands}
use Rattle.gm_lowering.specs.MessageLoops.{receiver_finds, sets_nothing, inner_gives}
use Rattle.gm_lowering.specs.Receiving.{inner_spots}
use Rattle.gm_lowering.specs.TwoSupersteps.{is_readable}
use Rattle.gm_lowering.specs.HomeTurns.{home_finds}
use Rattle.gm_lowering.specs.HomeLoops.{home_spots}
use Rattle.gm_lowering.specs.Settles.{HasSpot}
use Rattle.gm_lowering.specs.Shown.{ShowOne}
use Rattle.gm_lowering.specs.TakingSteps.{IsTaken}
use Rattle.gm_lowering.specs.Lowered as L
use Rattle.gm_lowering.specs.Lowered.{part, past, lines_on, places_on, deeper, test_lines}
use Rattle.gm_lowering.specs.Made.{made, gives_apart}
use Rattle.gm_lowering.proofs.Made.{loops-give-apart, turns-give-apart}
use Rattle.gm_lowering.proofs.SentBehind.{loops-send-behind}
use Rattle.gm_lowering.proofs.Orders.{lt-itself, lt-tie}
use Rattle.gm_lowering.proofs.Receiving.{or-cases}
use Rattle.gm_lowering_master.specs.Cells.{Setting, IsSetting, HasSpareGlobals}
use Rattle.gm_lowering_master.specs.Follows.{tells, LoopGoes, LoopsGo}
use Rattle.gm_lowering_master.specs.Going.{phase_loop, GiveApart, AreNested, HasBodySpares, HasPhaseSpares, is_phase_target, IsPick}
use Rattle.gm_lowering_master.specs.Whole.{setting}
use Rattle.gm_lowering_master.specs.Plain.{same_place, shows_with, all_show_one, is_neighbours, reads_no_local, own_goes, is_sent_well, is_sent_through, own_sending_goes, are_nested, message_goes, home_goes, is_same_spot, sending_goes, sent_parts, receiver_sending_goes, loop_goes, pick_goes, is_plain, PlainLoopsGo, PlainProgramsRun}
use Rattle.gm_lowering_master.proofs.Going.{own-loops-go, last-own-sending-loops-go, message-loops-go, home-loops-go, last-sending-loops-go}
use Rattle.gm_lowering_master.proofs.ReceiverGoing.{last-receiver-sending-loops-go}
use Rattle.gm_lowering_master.proofs.Inside.{runs-are-followed}
use Rattle.gm_lowering_master.proofs.PicksGoing.{fewer-globals, picks-go}
use Rattle.gm_lowering_master.proofs.Ranks.{layouts-are-settings, layouts-have-globals}
use Rattle.gm_lowering.proofs.TupleFacts.{fewer-spares}
use Rattle.gm_lowering.proofs.Ranks.{layouts-have-spares}

-- places that are the same
place-same : (a b : Place) → same_place a b ≡ true → a ≡ b
place-same a b h =
    let q = both-true (nat_eq a.line b.line) (nat_eq a.col b.col) h in
    ap (λ l. record { line = l; col = a.col }) (eqb-true a.line b.line q.0) ∙ ap (λ m. record { line = b.line; col = m }) (eqb-true a.col b.col q.1)

-- spots of one fault show one place
shown-with : (a b : Spot) → shows_with a b ≡ true → a.fault ≡ b.fault → a.shown ≡ b.shown
shown-with a b h e = by (spot_lt a b) (spot_lt b a) refl refl h where
  by : (x y : Bool) → spot_lt a b ≡ x → spot_lt b a ≡ y → x || (y || same_place a.shown b.shown) ≡ true → a.shown ≡ b.shown
  by true y f g h = absurd (both_ways (fault_lt b.fault b.fault) (lt-itself b.fault) (ap (λ z. fault_lt z b.fault) (sym e) ∙ f))
  by false true f g h = absurd (both_ways (fault_lt b.fault b.fault) (lt-itself b.fault) (ap (fault_lt b.fault) (sym e) ∙ g))
  by false false f g h = place-same a.shown b.shown h

shown-among : (a : Spot) (xs : List Spot) (b : Spot) → list_all (shows_with a) xs ≡ true → IsIn b xs → a.fault ≡ b.fault → a.shown ≡ b.shown
shown-among a [] b h i e = absurd i
shown-among a (x ∷ xs) b h i e =
    let q = both-true (shows_with a x) (list_all (shows_with a) xs) h in
    ⊎_elim (λ (f : b ≡ x). shown-with a b (ap (shows_with a) f ∙ q.0) e) (λ (j : IsIn b xs). shown-among a xs b q.1 j e) i

show-one : (spots : List Spot) → all_show_one spots ≡ true → ShowOne spots
show-one [] h a b i j e = absurd i
show-one (s ∷ ss) h a b i j e =
    let q = both-true (list_all (shows_with s) ss) (all_show_one ss) h in
    ⊎_elim
    (λ (f : a ≡ s).
    ⊎_elim
    (λ (g : b ≡ s). ap (λ z. z.shown) (f ∙ sym g))
    (λ (k : IsIn b ss). ap (λ z. z.shown) f ∙ shown-among s ss b q.0 k (ap (λ z. z.fault) (sym f) ∙ e))
    j)
    (λ (l : IsIn a ss).
    ⊎_elim
    (λ (g : b ≡ s). sym (ap (λ z. z.shown) g ∙ shown-among s ss a q.0 l (ap (λ z. z.fault) (sym g) ∙ sym e)))
    (λ (k : IsIn b ss). show-one ss q.1 a b l k e)
    j)
    i

-- the spot that is told, and what comes behind none
same-spot : (a b : Spot) → is_same_spot a b ≡ true → b ≡ a
same-spot a b h =
    let q = both-true (not (spot_lt a b)) (not (spot_lt b a) && same_place a.shown b.shown) h in
    let r = both-true (not (spot_lt b a)) (same_place a.shown b.shown) q.1 in
    let faults : b.fault ≡ a.fault = lt-tie b.fault a.fault (not-true (spot_lt b a) r.0) (not-true (spot_lt a b) q.0) in
    ap (λ (f : Fault). record { fault = f; shown = b.shown }) faults ∙ ap (λ (p : Place). record { fault = a.fault; shown = p }) (sym (place-same a.shown b.shown r.1))

spot-told : (z : Spot) (spots : List Spot) → list_any (is_same_spot z) spots ≡ true → HasSpot z spots
spot-told z [] h = absurd (both_ways false refl h)
spot-told z (s ∷ ss) h =
    or-cases (is_same_spot z s) (list_any (is_same_spot z) ss) h (λ e. inl (same-spot z s e)) (λ r. inr (spot-told z ss r))

all-in : {A : Type 0} (p : A → Bool) (xs : List A) (x : A) → list_all p xs ≡ true → IsIn x xs → p x ≡ true
all-in p [] x h i = absurd i
all-in p (y ∷ ys) x h i =
    let q = both-true (p y) (list_all p ys) h in
    ⊎_elim (λ (e : x ≡ y). ap p e ∙ q.0) (λ (k : IsIn x ys). all-in p ys x q.1 k) i

-- one that is sent well
sent-well : (c : Layout) (n : ℕ) (spots : List Spot) (a : Away) → is_sent_well c n spots a ≡ true
    → IsTaken c spots a × (can_overflow a.reduce ≡ true → (z : Spot) → IsIn z spots → spot_lt (spot_of_total a.total) z ≡ false)
sent-well c n spots a o =
    let last = spot_of_total a.total in
    let behind = not (can_overflow a.reduce) || list_all (λ z. not (spot_lt last z)) spots in
    let q = both-true (are_any a.targets) (list_all (is_kept_property c n) a.targets && (list_any (is_same_spot last) spots && behind)) o in
    let r = both-true (list_all (is_kept_property c n) a.targets) (list_any (is_same_spot last) spots && behind) q.1 in
    let t = both-true (list_any (is_same_spot last) spots) behind r.1 in
    let taken : IsTaken c spots a = record { owner = n; some = q.0; kept = r.0; spotted = spot-told last spots t.0 } in
    (taken, λ e z i. not-true (spot_lt last z) (all-in (λ z. not (spot_lt last z)) spots z (ap (λ b. not b || list_all (λ z. not (spot_lt last z)) spots) (sym e) ∙ t.1) i))

-- so for a reduction through a node variable
sent-through : (c : Layout) (spots : List Spot) (a : Away) (ts : List Target) → is_sent_through c spots a ts ≡ true
    → IsTaken c spots a × (can_overflow a.reduce ≡ true → (z : Spot) → IsIn z spots → spot_lt (spot_of_total a.total) z ≡ false)
sent-through c spots a [] o = absurd (both_ways false refl o)
sent-through c spots a (T.Scalar x at' ∷ ts) o = absurd (both_ways false refl o)
sent-through c spots a (T.Property x p at' ∷ ts) o = sent-well c x spots a o

not-any : {A : Type 0} (xs : List A) → are_any xs ≡ false → xs ≡ []
not-any [] h = refl
not-any (x ∷ xs) h = absurd (both_ways true h refl)

neighbours-are : (d : Domain) → is_neighbours d ≡ true → (d ≡ OutNbrs) ⊎ (d ≡ InNbrs)
neighbours-are OutNbrs h = inl refl
neighbours-are InNbrs h = inr refl
neighbours-are Nodes h = absurd (both_ways false refl h)
neighbours-are UpNbrs h = absurd (both_ways false refl h)
neighbours-are DownNbrs h = absurd (both_ways false refl h)

number-passes : (p : ℕ → Bool) (m a x : ℕ) → list_all p (numbers_from a m) ≡ true → a ≤ x → x < a + m → p x ≡ true
number-passes p zero a x h le lt = absurd (omega (arith, le, lt))
number-passes p (suc m) a x h le lt = by (nat_eq a x) refl (λ less. number-passes p m (suc a) x (both-true (p a) (list_all p (numbers_from (suc a) m)) h).1 less (omega (arith, lt))) where
  by : (b : Bool) → nat_eq a x ≡ b → (suc a ≤ x → p x ≡ true) → p x ≡ true
  by true e rest = ap p (sym (eqb-true a x e)) ∙ (both-true (p a) (list_all p (numbers_from (suc a) m)) h).0
  by false e rest = rest (let n : a ≢ x = eqb-false a x e in omega (arith, n, le))

no-local : (c : Layout) (e : Expr) → reads_no_local c e ≡ true → (x : ℕ) → is_local c x ≡ true → reads_scalar x e ≡ false
no-local c e h x o =
    let t = both-true (nat_lt x (length c.declarations)) (is_register (variable_at c.declarations x)) o in
    let lt = ltb-true x (length c.declarations) t.0 in
    let both = not-true (is_local c x && reads_scalar x e) (number-passes (λ y. not (is_local c y && reads_scalar y e)) (length c.declarations) 0 x h (omega arith) (omega (arith, lt))) in
    ap (λ b. b && reads_scalar x e) (sym o) ∙ both

module _ (s : Setting) (is' : IsSetting s) where
  abbrev c : Layout
  c = s.frame.layout

  depth-is : (x : ℕ) → (variable_at s.run.declarations x).depth ≡ (variable_at c.declarations x).depth
  depth-is x = ap (λ ds. (variable_at ds x).depth) is'.declarations

  give-apart : (k : Key) (place : Place) (h : Head) (test : Expr) (body : Stmt) → gives_apart c.declarations h.iterator body ≡ true → GiveApart s k place h test body
  give-apart k place h test body o its state point = loops-give-apart c.declarations (phase_loop s h.iterator body) k test body state.store depth-is o

  own-goes : (at : L.At) (k : Key) (place : Place) (h : Head) (test : Expr) (body : Stmt) → HasBodySpares s body → own_goes c h.iterator k test body ≡ true → LoopGoes s at k place h test body
  own-goes at k place h test body spares o =
      let n = h.iterator in
      let a = both-true (not (is_register (variable_at c.declarations n))) (own_finds c n test && (is_body c (own_finds c n) (own_sets c n) (own_gives c n (own_finds c n)) body && (all_show_one (own_spots c n k test body) && gives_apart c.declarations n body))) o in
      let b = both-true (own_finds c n test) (is_body c (own_finds c n) (own_sets c n) (own_gives c n (own_finds c n)) body && (all_show_one (own_spots c n k test body) && gives_apart c.declarations n body)) a.1 in
      let d = both-true (is_body c (own_finds c n) (own_sets c n) (own_gives c n (own_finds c n)) body) (all_show_one (own_spots c n k test body) && gives_apart c.declarations n body) b.1 in
      let e = both-true (all_show_one (own_spots c n k test body)) (gives_apart c.declarations n body) d.1 in
      own-loops-go s at k place h test body is'
      (record { iterator = not-true (is_register (variable_at c.declarations n)) a.0; found = b.0; fits = d.0; shows = show-one (own_spots c n k test body) e.0 }) spares
      (give-apart k place h test body e.1)

  own-sending-goes : (at : L.At) (k : Key) (place : Place) (h : Head) (test : Expr) (body : Stmt) → HasBodySpares s body → own_sending_goes c h.iterator k test body ≡ true → LoopGoes s at k place h test body
  own-sending-goes at k place h test body spares o =
      let n = h.iterator in
      let spots = own_spots c n k test body in
      let sends = aways c.declarations n body in
      let last = list_all (λ a. is_sent_through c spots a a.targets) sends in
      let fits = is_body c (own_finds c n) (own_sets c n) (sending_gives c n (own_finds c n)) body in
      let rest = all_show_one spots && (gives_apart c.declarations n body && (are_any sends && last)) in
      let a = both-true (not (is_register (variable_at c.declarations n))) (own_finds c n test && (fits && rest)) o in
      let b = both-true (own_finds c n test) (fits && rest) a.1 in
      let d = both-true fits rest b.1 in
      let e = both-true (all_show_one spots) (gives_apart c.declarations n body && (are_any sends && last)) d.1 in
      let f = both-true (gives_apart c.declarations n body) (are_any sends && last) e.1 in
      let g = both-true (are_any sends) last f.1 in
      let each = λ (a : Away) (i : IsIn a sends). sent-through c spots a a.targets (all-in (λ a. is_sent_through c spots a a.targets) sends a g.1 i) in
      last-own-sending-loops-go s at k place h test body is'
      (record {
        iterator = not-true (is_register (variable_at c.declarations n)) a.0;
        found = b.0;
        fits = d.0;
        sends = g.0;
        taken = λ a i. (each a i).0;
        shows = show-one spots e.0;
      })
      spares
      (give-apart k place h test body f.0)
      (λ a i e z l. (each a i).1 e z l)

  nested-are : (n : ℕ) (h : Head) → are_nested c n h ≡ true → AreNested c n h
  nested-are n h o =
      let a = both-true (not (is_register (variable_at c.declarations n))) (not (is_register (variable_at c.declarations h.iterator)) && (not (nat_eq h.iterator n) && (is_neighbours h.domain && nat_eq h.owner n))) o in
      let b = both-true (not (is_register (variable_at c.declarations h.iterator))) (not (nat_eq h.iterator n) && (is_neighbours h.domain && nat_eq h.owner n)) a.1 in
      let d = both-true (not (nat_eq h.iterator n)) (is_neighbours h.domain && nat_eq h.owner n) b.1 in
      let e = both-true (is_neighbours h.domain) (nat_eq h.owner n) d.1 in
      record {
        outer = not-true (is_register (variable_at c.declarations n)) a.0;
        inner = not-true (is_register (variable_at c.declarations h.iterator)) b.0;
        two = not-true (nat_eq h.iterator n) d.0;
        neighbours = neighbours-are h.domain e.0;
        owner = eqb-true h.owner n e.1;
      }

  module _ (at : L.At) (k : Key) (place : Place) (outer : Head) (mask : Expr) (j : Key) (inner_place : Place) (h : Head) (test : Expr) (body : Stmt) where
    abbrev n : ℕ
    n = outer.iterator

    abbrev inner : Stmt
    inner = S.Foreach j inner_place h test body

    message-goes : AreNested c n h → HasBodySpares s body → gives_apart c.declarations n inner ≡ true → message_goes c n k mask j h test body ≡ true → LoopGoes s at k place outer mask inner
    message-goes nested spares apart o =
        let loads = carried n test body in
        let found = receiver_finds c n h.iterator loads in
        let fits = is_body c found sets_nothing (inner_gives c h.iterator found) body in
        let spots = spots_in mask k ++ inner_spots c n h.iterator j test body in
        let a1 = both-true (not (is_here c.declarations n h test body)) (own_finds c n mask && (not (are_any (spots_in mask k)) && (list_all (is_readable c) loads && (found test && (fits && all_show_one spots))))) o in
        let a2 = both-true (own_finds c n mask) (not (are_any (spots_in mask k)) && (list_all (is_readable c) loads && (found test && (fits && all_show_one spots)))) a1.1 in
        let a3 = both-true (not (are_any (spots_in mask k))) (list_all (is_readable c) loads && (found test && (fits && all_show_one spots))) a2.1 in
        let a4 = both-true (list_all (is_readable c) loads) (found test && (fits && all_show_one spots)) a3.1 in
        let a5 = both-true (found test) (fits && all_show_one spots) a4.1 in
        let a6 = both-true fits (all_show_one spots) a5.1 in
        message-loops-go s at k place outer mask j inner_place h test body is'
        (record {
          nested = nested;
          away = not-true (is_here c.declarations n h test body) a1.0;
          masked = a2.0;
          quiet = not-any (spots_in mask k) (not-true (are_any (spots_in mask k)) a3.0);
          readable = a4.0;
          found = a5.0;
          fits = a6.0;
          shows = show-one spots a6.1;
        })
        spares
        (give-apart k place outer mask inner apart)

    home-goes : AreNested c n h → HasBodySpares s body → gives_apart c.declarations n inner ≡ true → home_goes c n k mask j h test body ≡ true → LoopGoes s at k place outer mask inner
    home-goes nested spares apart o =
        let found = home_finds c n h.iterator in
        let fits = is_body c found sets_nothing (inner_gives c n found) body in
        let spots = home_spots c n h.iterator k mask j test body in
        let a1 = both-true (is_here c.declarations n h test body) (own_finds c n mask && (reads_no_local c test && (found test && (fits && all_show_one spots)))) o in
        let a2 = both-true (own_finds c n mask) (reads_no_local c test && (found test && (fits && all_show_one spots))) a1.1 in
        let a3 = both-true (reads_no_local c test) (found test && (fits && all_show_one spots)) a2.1 in
        let a4 = both-true (found test) (fits && all_show_one spots) a3.1 in
        let a5 = both-true fits (all_show_one spots) a4.1 in
        home-loops-go s at k place outer mask j inner_place h test body is'
        (record { nested = nested; here = a1.0; masked = a2.0; plain = no-local c test a3.0; found = a4.0; fits = a5.0; shows = show-one spots a5.1 })
        spares
        (give-apart k place outer mask inner apart)
        (λ its state m point lt. turns-give-apart c.declarations (phase_loop s n inner) j inner_place h test body state.store m depth-is apart)

    sending-goes : AreNested c n h → HasBodySpares s body → gives_apart c.declarations n inner ≡ true → sending_goes c n k mask j h test body ≡ true → LoopGoes s at k place outer mask inner
    sending-goes nested spares apart o =
        let found = home_finds c n h.iterator in
        let fits = is_body c found sets_nothing (sender_gives c n h.iterator found) body in
        let spots = home_spots c n h.iterator k mask j test body in
        let sends = aways c.declarations n body in
        let last = list_all (λ a. is_sent_through c spots a a.targets) sends in
        let a1 = both-true (is_here c.declarations n h test body) (own_finds c n mask && (reads_no_local c test && (found test && (fits && (all_show_one spots && (are_any sends && last)))))) o in
        let a2 = both-true (own_finds c n mask) (reads_no_local c test && (found test && (fits && (all_show_one spots && (are_any sends && last))))) a1.1 in
        let a3 = both-true (reads_no_local c test) (found test && (fits && (all_show_one spots && (are_any sends && last)))) a2.1 in
        let a4 = both-true (found test) (fits && (all_show_one spots && (are_any sends && last))) a3.1 in
        let a5 = both-true fits (all_show_one spots && (are_any sends && last)) a4.1 in
        let a6 = both-true (all_show_one spots) (are_any sends && last) a5.1 in
        let a7 = both-true (are_any sends) last a6.1 in
        let each = λ (a : Away) (i : IsIn a sends). sent-through c spots a a.targets (all-in (λ a. is_sent_through c spots a a.targets) sends a a7.1 i) in
        last-sending-loops-go s at k place outer mask j inner_place h test body is'
        (record {
          nested = nested;
          each = a1.0;
          masked = a2.0;
          plain = no-local c test a3.0;
          found = a4.0;
          fits = a5.0;
          sends = a7.0;
          taken = λ a i. (each a i).0;
          shows = show-one spots a6.0;
        })
        spares
        (give-apart k place outer mask inner apart)
        (λ a i e z l. (each a i).1 e z l)

    receiver-sending-goes : AreNested c n h → HasBodySpares s body → gives_apart c.declarations n inner ≡ true → receiver_sending_goes c n k mask j h test body ≡ true → LoopGoes s at k place outer mask inner
    receiver-sending-goes nested spares apart o =
        let loads = carried n test body in
        let found = receiver_finds c n h.iterator loads in
        let spots = spots_in mask k ++ inner_spots c n h.iterator j test body in
        let sends = aways c.declarations h.iterator body in
        let out = sent_parts sends in
        let fits = is_body c found sets_nothing (sender_gives c n h.iterator found) body in
        let told = tells_sent c.declarations h.iterator out body in
        let behind = list_all (made_stands out) (made c.declarations n true body) in
        let last = list_all (λ a. is_sent_through c spots a a.targets) sends in
        let r1 = all_show_one spots && (are_any sends && last) in
        let r2 = not (are_any (spots_in mask k)) && (list_all (is_readable c) loads && (found test && (fits && (told && (behind && r1))))) in
        let a1 = both-true (not (is_here c.declarations n h test body)) (own_finds c n mask && r2) o in
        let a3 = both-true (own_finds c n mask) r2 a1.1 in
        let a4 = both-true (not (are_any (spots_in mask k))) (list_all (is_readable c) loads && (found test && (fits && (told && (behind && r1))))) a3.1 in
        let a5 = both-true (list_all (is_readable c) loads) (found test && (fits && (told && (behind && r1)))) a4.1 in
        let a6 = both-true (found test) (fits && (told && (behind && r1))) a5.1 in
        let a7 = both-true fits (told && (behind && r1)) a6.1 in
        let b1 = both-true told (behind && r1) a7.1 in
        let b2 = both-true behind r1 b1.1 in
        let a8 = both-true (all_show_one spots) (are_any sends && last) b2.1 in
        let a9 = both-true (are_any sends) last a8.1 in
        let each = λ (a : Away) (i : IsIn a sends). sent-through c spots a a.targets (all-in (λ a. is_sent_through c spots a a.targets) sends a a9.1 i) in
        last-receiver-sending-loops-go s at k place outer mask j inner_place h out test body is'
        (record {
          nested = nested;
          away = not-true (is_here c.declarations n h test body) a1.0;
          masked = a3.0;
          quiet = not-any (spots_in mask k) (not-true (are_any (spots_in mask k)) a4.0);
          readable = a5.0;
          found = a6.0;
          fits = a7.0;
          told = b1.0;
          sends = a9.0;
          taken = λ a i. (each a i).0;
          shows = show-one spots a8.0;
        })
        spares
        (give-apart k place outer mask inner apart)
        (λ its state point. loops-send-behind c.declarations (phase_loop s n inner) k mask inner state.store out depth-is apart b2.0)
        (λ a i e z l. (each a i).1 e z l)

    inner-goes : HasBodySpares s body → loop_goes c n k mask inner ≡ true → LoopGoes s at k place outer mask inner
    inner-goes spares o =
        let messages = message_goes c n k mask j h test body in
        let home = home_goes c n k mask j h test body in
        let sending = sending_goes c n k mask j h test body in
        let receiving = receiver_sending_goes c n k mask j h test body in
        let a = both-true (are_nested c n h) (gives_apart c.declarations n inner && (messages || (home || (sending || receiving)))) o in
        let b = both-true (gives_apart c.declarations n inner) (messages || (home || (sending || receiving))) a.1 in
        let nested = nested-are n h a.0 in
        or-cases messages (home || (sending || receiving)) b.1 (message-goes nested spares b.0) (λ r.
        or-cases home (sending || receiving) r (home-goes nested spares b.0) (λ q. or-cases sending receiving q (sending-goes nested spares b.0) (receiver-sending-goes nested spares b.0)))

  loop-goes : (at : L.At) (k : Key) (place : Place) (h : Head) (test : Expr) (body : Stmt) → HasBodySpares s body → loop_goes c h.iterator k test body ≡ true → LoopGoes s at k place h test body
  loop-goes at k place h test (S.Foreach j inner_place i e b) spares o = inner-goes at k place h test j inner_place i e b spares o
  loop-goes at k place h test body spares o =
      or-cases (own_goes c h.iterator k test body) (own_sending_goes c h.iterator k test body) o (own-goes at k place h test body spares) (own-sending-goes at k place h test body spares)

  -- spare registers of two statements are there for each
  spares-first : (a b : Stmt) → HasSpares c (length s.image.registers) (max (body_positions c.declarations a) (body_positions c.declarations b)) → HasBodySpares s a
  spares-first a b h = fewer-spares c (length s.image.registers) (max (body_positions c.declarations a) (body_positions c.declarations b)) (body_positions c.declarations a) (omega arith) h

  spares-second : (a b : Stmt) → HasSpares c (length s.image.registers) (max (body_positions c.declarations a) (body_positions c.declarations b)) → HasBodySpares s b
  spares-second a b h = fewer-spares c (length s.image.registers) (max (body_positions c.declarations a) (body_positions c.declarations b)) (body_positions c.declarations b) (omega arith) h

  -- and so are spare globals
  abbrev positions : Stmt → ℕ
  positions st = phase_positions c.declarations st

  globals-first : (a b : Stmt) → HasSpareGlobals c s.returns s.depth (length s.image.globals) (max (positions a) (positions b)) → HasPhaseSpares s a
  globals-first a b h = fewer-globals c s.returns s.depth (length s.image.globals) (max (positions a) (positions b)) (positions a) (omega arith) h

  globals-second : (a b : Stmt) → HasSpareGlobals c s.returns s.depth (length s.image.globals) (max (positions a) (positions b)) → HasPhaseSpares s b
  globals-second a b h = fewer-globals c s.returns s.depth (length s.image.globals) (max (positions a) (positions b)) (positions b) (omega arith) h

  -- what is reduced at once
  is-pick : (r : Reduce) (ts : List Target) (es : List Expr) → pick_goes c r ts es ≡ true → IsPick c r ts es
  is-pick r ts es h =
      let values = same_length ts es && list_all (tells c) es in
      let a1 = both-true (keeps_tuples r) (are_any ts && (list_all (is_phase_target c) ts && values)) h in
      let a2 = both-true (are_any ts) (list_all (is_phase_target c) ts && values) a1.1 in
      let a3 = both-true (list_all (is_phase_target c) ts) values a2.1 in
      let a4 = both-true (same_length ts es) (list_all (tells c) es) a3.1 in
      record { keeps = a1.0; some = a2.0; scalars = a3.0; long = a4.0; told = a4.1 }

  plain-goes : (st : Stmt) (at : L.At) → HasBodySpares s st → HasPhaseSpares s st → is_plain c st ≡ true → LoopsGo s st at
  plain-goes (S.Then a b) at m o h =
      let q = both-true (is_plain c a) (is_plain c b) h in
      (plain-goes a at (spares-first a b m) (globals-first a b o) q.0, plain-goes b (past s.frame at a (part s.frame a at)) (spares-second a b m) (globals-second a b o) q.1)
  plain-goes (S.Combine k total r ts es) at m o h = picks-go s at k total r ts es is' (is-pick r ts es h) o
  plain-goes (S.Foreach k place f test body) at m o h = loop-goes at k place f test body m h
  plain-goes (S.If k test a b) at m o h =
      let q = both-true (is_plain c a) (is_plain c b) h in
      let start = lines_on 1 (places_on (shown_places (segment at.place (spots_in test k))) at) in
      (plain-goes a start (spares-first a b m) (globals-first a b o) q.0, plain-goes b (lines_on 1 (past s.frame start a (part s.frame a start))) (spares-second a b m) (globals-second a b o) q.1)
  plain-goes (S.While k place test body) at m o h = plain-goes body (lines_on 1 (places_on (shown_places (segment at.place (spots_in test k))) at)) m o h
  plain-goes (S.Do k place body test) at m o h = plain-goes body (lines_on 3 (deeper (places_on (shown_places (segment at.place (spots_in test k))) at))) m o h
  plain-goes (S.For k place f test body) at m o h =
      let g = segment at.place (spot_at k place ∷ spots_in test k) in
      plain-goes body (lines_on (4 + length (test_lines 0 (term (master_env c g) k test))) (deeper (places_on (shown_places g) at))) m o h
  plain-goes _ at m o h = tt

pub plain-loops-go : PlainLoopsGo
plain-loops-go s st at is' spares globals h = plain-goes s is' st at spares globals h

pub plain-programs-run : PlainProgramsRun
plain-programs-run p g args bound face typed fits columns h plain =
    runs-are-followed p g args bound face typed fits columns h (plain-loops-go (setting p g bound) p.body L.start (layouts-are-settings p g bound fits.graph.graph) (layouts-have-spares p) (layouts-have-globals p) plain)
