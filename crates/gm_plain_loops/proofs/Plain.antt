-- The loops of a ready program that suits are plain.
use Rattle.std.proofs.Common.{◌≡◌, ℕ, Bool, true, false, Option, List, [], ◌∷◌, ◌++◌, length, refl, ap, ◌∙◌, sym, subst}
use Rattle.std.specs.Prelude.{◌&&◌, ◌||◌, not, nat_eq, nat_lt, nat_le, ◌+◌, if◌then◌else◌}
use Rattle.std.specs.List.{list_all, list_any}
use Rattle.std.proofs.lemmas.Bool.{both_ways, and_from, or_left, or_right, eqb-true, not-true}
use Rattle.gm_base.specs.declared.places.Place.{Place}
use Rattle.gm_value.specs.declared.values.VType.{VType}
use Rattle.gm_value.specs.declared.values.VType.TheVariants as V
use Rattle.gm_ast.specs.declared.tree.Declaration.{Declaration}
use Rattle.gm_ast.specs.declared.tree.Domain.{Domain}
use Rattle.gm_ast.specs.declared.tree.Domain.TheVariants.{Nodes, OutNbrs, InNbrs, UpNbrs, DownNbrs}
use Rattle.gm_ast.specs.declared.tree.Head.{Head}
use Rattle.gm_ast.specs.declared.tree.Key.{Key}
use Rattle.gm_ast.specs.declared.tree.Sort.TheVariants as Sorts
use Rattle.gm_ast.specs.declared.tree.Sort.{Sort}
use Rattle.gm_ast.specs.declared.tree.Target.TheVariants as T
use Rattle.gm_ast.specs.declared.tree.Target.{Target}
use Rattle.gm_ast.specs.Loops.{is_nodes}
use Rattle.gm_ast.specs.Names.{sort_eq}
use Rattle.gm_ast.specs.Program as S
use Rattle.gm_ast.specs.Program.{Expr, Stmt, Program}
use Rattle.gm_ast.specs.Ways.{is_in}
use Rattle.gm_forms.proofs.CutTests.{turned, same-list}
use Rattle.gm_forms.proofs.Named.{both-true, all-append}
use Rattle.gm_forms.specs.Cut.{is_mask, is_own_body, is_own_code, is_own_loop, adds_last, is_edge_loop, is_along_edges, is_cut, knows_no_locals, mask_stays, has_plain_locals, spares_locals, is_no_local}
use Rattle.gm_forms.specs.Forms.{is_range, is_inner_head, is_flat, is_inner_body, is_outer_body, is_flat_loop, is_told, is_phase, no_loop, goes_out, is_home, is_push, is_along, avoids}
use Rattle.gm_forms.specs.Order.{cannot_fail, faults_in, faults_of, lie_before, leads, in_order, body_in_order, loop_in_order, begins, folds_in_order, loops_in_order}
use Rattle.gm_forms.specs.Sharing.{told_in, sights_in, sights_of, with_reads, reads_in, read_elsewhere, read_anywhere, written, deferred, disjoint, reduced, shared_in, kept_in, all_one, all_agree, inners_share, targets_alike, shares, loops_share}
use Rattle.gm_forms.specs.Typing.{has_type, is_typed_in}
use Rattle.gm_forms.specs.Uses.{Iterates, suits, use_as, owner_role, uses_in, uses_of_head, uses_of}
use Rattle.gm_semantics.specs.Levels.{numbers_from}
use Rattle.gm_semantics.specs.Statements.{variable_at}
use Rattle.gm_lowering.specs.Layouts.{Layout, layout, is_global, is_register}
use Rattle.gm_lowering.specs.Plans.{Folds, Sends, Picks, away_by, is_property_of, is_property_off, carried, loads_in, loads_of, is_here, is_senders, gives_last, Away, aways}
use Rattle.gm_lowering.specs.Places.{spots_in, spot_of_total}
use Rattle.gm_lowering.specs.Blocks.{reads_scalar}
use Rattle.gm_lowering.specs.Bodies.{spots_of}
use Rattle.gm_lowering.specs.Sites.{is_local, is_body}
use Rattle.gm_lowering.specs.OwnLoops.{are_any, own_finds, own_sets, own_gives}
use Rattle.gm_lowering.specs.Sent.{sends_through, sender_gives}
use Rattle.gm_lowering.specs.OwnSends.{sending_gives}
use Rattle.gm_lowering.specs.ReceiverSends.{tells_sent}
use Rattle.gm_lowering.specs.SentBehind.{made_stands}
use Rattle.gm_lowering.specs.Phases.{own_spots}
use Rattle.gm_lowering.specs.HomeLoops.{home_spots}
use Rattle.gm_lowering.specs.HomeTurns.{home_finds}
use Rattle.gm_lowering.specs.MessageLoops.{has_load, receiver_finds, sets_nothing, inner_gives}
use Rattle.gm_lowering.specs.TwoSupersteps.{is_readable}
use Rattle.gm_lowering.specs.Made.{made, gives_apart}
use Rattle.gm_lowering.proofs.FoldFacts.{body-weaker}
use Rattle.gm_lowering_master.specs.Plain.{all_show_one, is_neighbours, reads_no_local, own_goes, own_sending_goes, is_sent_through, are_nested, message_goes, home_goes, sending_goes, sent_parts, receiver_sending_goes, loop_goes, is_plain}
use Rattle.gm_plain_loops.specs.Laws.{ReadyIsPlain}
use Rattle.gm_plain_loops.specs.Tests.{is_around, asks_around, asks_inside, suits_body, sends_any, folds_first, sends_last, suits_receivers, suits_loop, suits_phase, suits_senders}
use Rattle.gm_plain_loops.proofs.Names.{Fine, fine-body, split, role-of, found, or-split, around-inside, global-no-local}
use Rattle.gm_plain_loops.proofs.Bodies.{own-body}
use Rattle.gm_plain_loops.proofs.Inners.{goes_to, avoiding, last-here, first-end, second-end, exprs_pass, inner-body}
use Rattle.gm_plain_loops.proofs.Loads.{all-carried, carried-readable, there, body-there, here, body-here}
use Rattle.gm_plain_loops.proofs.Apart.{inner-apart, own-apart, is_flat_code, all-shared}
use Rattle.gm_plain_loops.proofs.Spots.{no-spots, expr-spots}
use Rattle.gm_plain_loops.proofs.Orders.{filtered-show, spots-within, part-before}
use Rattle.gm_plain_loops.proofs.Picks.{pick-plain}
use Rattle.gm_plain_loops.proofs.InnerSends.{sent-at}
use Rattle.gm_plain_loops.proofs.Receivers.{all-within, some-sent, sender-body, told-body, made-body, parts-property}
use Rattle.gm_plain_loops.proofs.Sends.{Sent, sent-behind, all-sent, through, adds, own-sent, all_asked, along, edge-sent, edge-some}

-- ---- parts of what is known of a loop

-- a loop's faults: its filter's before those of its body
ordered-parts : (its : List ℕ) (k : Key) (at : Place) (test : Expr) (body : Stmt) → begins its k at test body && loop_in_order its k test body ≡ true
    → (body_in_order its body ≡ true) × (lie_before (faults_in test k) (faults_of its body) ≡ true)
ordered-parts its k at test body h =
    let a = both-true (begins its k at test body) (loop_in_order its k test body) h in
    let b = both-true (in_order test k) (body_in_order its body && lie_before (faults_in test k) (faults_of its body)) a.1 in
    both-true (body_in_order its body) (lie_before (faults_in test k) (faults_of its body)) b.1

inner-parts : (its : List ℕ) (k : Key) (at : Place) (h : Head) (test : Expr) (body : Stmt) → body_in_order its (S.Foreach k at h test body) ≡ true
    → (body_in_order (h.iterator ∷ its) body ≡ true) × (lie_before (faults_in test k) (faults_of (h.iterator ∷ its) body) ≡ true)
inner-parts its k at h test body o =
    let js = h.iterator ∷ its in
    let a = both-true (leads js k h.place body) (in_order test k && (body_in_order js body && lie_before (faults_in test k) (faults_of js body))) o in
    let b = both-true (in_order test k) (body_in_order js body && lie_before (faults_in test k) (faults_of js body)) a.1 in
    both-true (body_in_order js body) (lie_before (faults_in test k) (faults_of js body)) b.1

shared-parts : (ds : List Declaration) (n : ℕ) (test : Expr) (body : Stmt) → shares ds n test body ≡ true → (all_agree (reduced ds n false body) ≡ true) × (targets_alike body ≡ true)
shared-parts ds n test body h =
    let elsewhere = read_elsewhere n (reads_in test ++ (sights_of ds n false body).properties) in
    let seen = with_reads (sights_in test) (sights_of ds n false body) in
    let all = reduced ds n false body in
    let own = written ds n false body in
    let a = both-true (disjoint (shared_in all) (read_anywhere seen.properties ++ (seen.scalars ++ own))) _ h in
    let b = both-true (disjoint (own ++ kept_in all) elsewhere) _ a.1 in
    let d = both-true (disjoint (deferred body) (own ++ (shared_in all ++ kept_in all))) _ b.1 in
    let e = both-true (all_agree all) _ d.1 in
    let f = both-true (inners_share ds n body) (targets_alike body) e.1 in (e.0, f.1)

-- neighbours
by-neighbours : (d : Domain) → is_range false d ≡ true → is_neighbours d ≡ true
by-neighbours OutNbrs h = refl
by-neighbours InNbrs h = refl
by-neighbours Nodes h = absurd (both_ways false refl h)
by-neighbours UpNbrs h = absurd (both_ways false refl h)
by-neighbours DownNbrs h = absurd (both_ways false refl h)

-- own code has no inner loop
flat-own : (p : Program) (n : ℕ) (st : Stmt) → is_own_body n st ≡ true → is_flat_code p n st ≡ true
flat-own p n (S.Then a b) h = let q = both-true (is_own_body n a) (is_own_body n b) h in and_from (is_flat_code p n a) (is_flat_code p n b) (flat-own p n a q.0) (flat-own p n b q.1)
flat-own p n (S.If k e a b) h = let q = both-true (is_own_body n a) (is_own_body n b) h in and_from (is_flat_code p n a) (is_flat_code p n b) (flat-own p n a q.0) (flat-own p n b q.1)
flat-own p n (S.Foreach k at hd t body) h = absurd (both_ways false refl h)
flat-own p n _ h = refl

flat-code : (p : Program) (n : ℕ) (st : Stmt) → is_own_code n st ≡ true → is_flat_code p n st ≡ true
flat-code p n (S.Then a b) h = let q = both-true (is_own_code n a) (is_own_code n b) h in and_from (is_flat_code p n a) (is_flat_code p n b) (flat-code p n a q.0) (flat-code p n b q.1)
flat-code p n (S.If k e a b) h = flat-own p n (S.If k e a b) h
flat-code p n (S.Foreach k at hd t body) h = absurd (both_ways false refl h)
flat-code p n _ h = refl

none-two : (xs ys : List Away) → are_any (xs ++ ys) ≡ false → (are_any xs ≡ false) × (are_any ys ≡ false)
none-two [] ys k = (refl, k)
none-two (x ∷ xs) ys k = absurd (both_ways true k refl)

-- a body of own statements that sends nothing
own-only : (c : Layout) (n : ℕ) (found' : Expr → Bool) (sets : ℕ → ℕ → Bool) (st : Stmt) → is_body c found' sets (sending_gives c n found') st ≡ true → are_any (aways c.declarations n st) ≡ false → is_body c found' sets (own_gives c n found') st ≡ true
own-only c n found' sets (S.Then a b) h e =
    let q = both-true (is_body c found' sets (sending_gives c n found') a) (is_body c found' sets (sending_gives c n found') b) h in
    let r = none-two (aways c.declarations n a) (aways c.declarations n b) e in
    and_from (is_body c found' sets (own_gives c n found') a) (is_body c found' sets (own_gives c n found') b) (own-only c n found' sets a q.0 r.0) (own-only c n found' sets b q.1 r.1)
own-only c n found' sets (S.If k t a b) h e =
    let p = both-true (found' t) (is_body c found' sets (sending_gives c n found') a && is_body c found' sets (sending_gives c n found') b) h in
    let q = both-true (is_body c found' sets (sending_gives c n found') a) (is_body c found' sets (sending_gives c n found') b) p.1 in
    let r = none-two (aways c.declarations n a) (aways c.declarations n b) e in
    and_from (found' t) (is_body c found' sets (own_gives c n found') a && is_body c found' sets (own_gives c n found') b) p.0
    (and_from (is_body c found' sets (own_gives c n found') a) (is_body c found' sets (own_gives c n found') b) (own-only c n found' sets a q.0 r.0) (own-only c n found' sets b q.1 r.1))
own-only c n found' sets (S.Combine k total r ts es) h e =
    or-split (own_gives c n found' r ts es) (sends_through c (n ∷ []) found' r ts es) h (λ g. g) (λ s. absurd (sent ts s e)) where
      sent : (xs : List Target) → sends_through c (n ∷ []) found' r xs es ≡ true → are_any (aways c.declarations n (S.Combine k total r xs es)) ≡ false → ⊥
      sent [] s e = both_ways false refl s
      sent (T.Scalar x at ∷ xs) s e = both_ways false refl s
      sent (T.Property x q at ∷ xs) s e =
          let off = (both-true (not (is_in (n ∷ []) x)) _ s).0 in by (nat_eq x n) off e where
            by : (b : Bool) → not (b || false) ≡ true → are_any (away_by (if b && list_all (is_property_of n) xs then Folds else (if not b || list_any (is_property_off n) xs then Sends else Picks)) total r (T.Property x q at ∷ xs)) ≡ false → ⊥
            by true o e = both_ways false refl o
            by false o e = both_ways true e refl
own-only c n found' sets S.Skip h e = h
own-only c n found' sets (S.Declare k x v) h e = h
own-only c n found' sets (S.DeclareEdge x z at) h e = h
own-only c n found' sets (S.Assign k (T.Scalar x at) v) h e = h
own-only c n found' sets (S.Assign k (T.Property x q at) v) h e = h
own-only c n found' sets (S.Defer k t v) h e = h
own-only c n found' sets (S.Group k at g q v) h e = h
own-only c n found' sets (S.Foreach k at hd test body) h e = h
own-only c n found' sets (S.For k at hd test body) h e = h
own-only c n found' sets (S.While k at v body) h e = h
own-only c n found' sets (S.Do k at body v) h e = h
own-only c n found' sets (S.InBfs k at s test body) h e = h
own-only c n found' sets (S.InBfsBoth k at s test body bk bt back) h e = h
own-only c n found' sets (S.Return k at v) h e = h

module _ (p : Program) where
  abbrev ds : List Declaration
  ds = p.declarations

  abbrev c : Layout
  c = layout p

  abbrev result : Option VType
  result = p.result

  -- an iterator is no local
  iterator-off : (x : ℕ) → Fine p (use_as Iterates x) → not (is_register (variable_at ds x)) ≡ true
  iterator-off x u = by (variable_at ds x).sort (nat_eq (variable_at ds x).depth 0) (role-of p Iterates x u) where
    by : (s : Sort) (d : Bool) → sort_eq Sorts.Iterator s || sort_eq Sorts.Graph s ≡ true → not (sort_eq Sorts.Scalar s && not d) ≡ true
    by Sorts.Iterator d h = refl
    by Sorts.Graph d h = refl
    by Sorts.Scalar d h = absurd (both_ways false refl h)
    by Sorts.NodeProperty d h = refl
    by Sorts.EdgeProperty d h = refl
    by Sorts.Edge d h = refl

  head-iterates : (h : Head) → Fine p (uses_of_head h) → Fine p (use_as Iterates h.iterator)
  head-iterates h u = (split p (use_as Iterates h.iterator) (use_as (owner_role h.domain) h.owner) u).0

  -- a filter that names scalars of the procedure and iterators alone reads no local
  reads-no : (its : List ℕ) (x : ℕ) (e : Expr) → ((y : ℕ) → is_in its y ≡ true → not (is_register (variable_at ds y)) ≡ true) → is_local c x ≡ true → asks_around ds its e ≡ true → reads_scalar x e ≡ false
  reads-no its x e off l h = go e h where
    named : (y : ℕ) → is_around ds its y ≡ true → nat_eq x y ≡ false
    named y a = by (nat_eq x y) refl where
      by : (b : Bool) → nat_eq x y ≡ b → b ≡ false
      by false e = refl
      by true e =
          let g : is_register (variable_at ds y) ≡ true = ap (λ z. is_register (variable_at ds z)) (sym (eqb-true x y e)) ∙ (both-true (nat_lt x (length ds)) (is_register (variable_at ds x)) l).1 in
          absurd (both_ways (is_register (variable_at ds y)) (not-true (is_register (variable_at ds y)) (or-split (is_in its y) (is_global (variable_at ds y)) a (off y) (λ w. global-no-local (variable_at ds y) w))) g)

    none : (a b : Bool) → a ≡ false → b ≡ false → a || b ≡ false
    none a b e f = ap (λ z. z || b) e ∙ f

    go : (e : Expr) → asks_around ds its e ≡ true → reads_scalar x e ≡ false
    go (S.Const v) h = refl
    go (S.Var y at) h = named y h
    go (S.Property y q at) h = refl
    go (S.EdgeProperty y q at) h = refl
    go (S.Degree d y at) h = refl
    go S.NodeCount h = refl
    go S.EdgeCount h = refl
    go (S.Live y at) h = named y h
    go (S.Unary op at e) h = go e h
    go (S.Binary op at a b) h = let q = both-true (asks_around ds its a) (asks_around ds its b) h in none (reads_scalar x a) (reads_scalar x b) (go a q.0) (go b q.1)
    go (S.Both a b) h = let q = both-true (asks_around ds its a) (asks_around ds its b) h in none (reads_scalar x a) (reads_scalar x b) (go a q.0) (go b q.1)
    go (S.Either a b) h = let q = both-true (asks_around ds its a) (asks_around ds its b) h in none (reads_scalar x a) (reads_scalar x b) (go a q.0) (go b q.1)
    go (S.Choose t a b) h =
        let q = both-true (asks_around ds its t) (asks_around ds its a && asks_around ds its b) h in
        let r = both-true (asks_around ds its a) (asks_around ds its b) q.1 in
        none (reads_scalar x t) (reads_scalar x a || reads_scalar x b) (go t q.0) (none (reads_scalar x a) (reads_scalar x b) (go a r.0) (go b r.1))
    go (S.Folded w hd t e) h = refl

  all-numbers : (f : ℕ → Bool) (xs : List ℕ) → ((x : ℕ) → f x ≡ true) → list_all f xs ≡ true
  all-numbers f [] h = refl
  all-numbers f (x ∷ xs) h = and_from (f x) (list_all f xs) (h x) (all-numbers f xs h)

  no-local : (its : List ℕ) (e : Expr) → ((y : ℕ) → is_in its y ≡ true → not (is_register (variable_at ds y)) ≡ true) → asks_around ds its e ≡ true → reads_no_local c e ≡ true
  no-local its e off h = all-numbers (λ x. not (is_local c x && reads_scalar x e)) (numbers_from 0 (length ds)) (λ x. by x (is_local c x) refl) where
    by : (x : ℕ) (b : Bool) → is_local c x ≡ b → not (b && reads_scalar x e) ≡ true
    by x true l = ap not (reads-no its x e off l h)
    by x false l = refl

  -- ---- loops of own statements

  own-plain : (n : ℕ) (k : Key) (at : Place) (test : Expr) (body : Stmt) → Fine p (use_as Iterates n) → Fine p (uses_in test) → Fine p (uses_of body) → is_flat_loop ds false n test body ≡ true → is_own_code n body ≡ true
      → is_typed_in ds result body ≡ true → shares ds n test body ≡ true → begins (n ∷ []) k at test body && loop_in_order (n ∷ []) k test body ≡ true
      → asks_inside ds (n ∷ []) test && (suits_body ds false (n ∷ []) body && sends_last ds n false body) ≡ true
      → own_goes c n k test body || own_sending_goes c n k test body ≡ true
  own-plain n k at test body un ut ub f o y s ord h =
      let f2 = both-true (is_flat (n ∷ []) false test) (is_outer_body ds false n body) f in
      let sh = shared-parts ds n test body s in
      let q = ordered-parts (n ∷ []) k at test body ord in
      let h1 = both-true (asks_inside ds (n ∷ []) test) (suits_body ds false (n ∷ []) body && sends_last ds n false body) h in
      let h2 = both-true (suits_body ds false (n ∷ []) body) (sends_last ds n false body) h1.1 in
      let off = iterator-off n un in
      let asked = found p (n ∷ []) false test f2.0 ut h1.0 in
      let fits = own-body p n result body f2.1 o ub y sh.1 h2.0 in
      let shows : all_show_one (own_spots c n k test body) ≡ true = filtered-show c n (n ∷ []) (n ∷ []) true (same-list (n ∷ [])) false test k body q.1 q.0 h2.0 in
      let apart : gives_apart ds n body ≡ true = own-apart ds n result body y sh.1 (all-shared p n body (flat-code p n body o) ub sh.1 h2.0) sh.0 in
      by (are_any (aways ds n body)) refl off asked fits shows apart
      (all-sent (adds p n false) (through p n false) (own_spots c n k test body) (aways ds n body) (λ a i.
      let w = own-sent p n false body o ub sh.1 h2.0 q.0 false h2.1 a i in
      sent-behind (adds p n false) (through p n false) (spots_in test k) (spots_of c n (n ∷ []) true body) a w
      (λ z j. part-before c n (n ∷ []) (n ∷ []) true (same-list (n ∷ [])) false (faults_in test k) (faults_of (n ∷ []) body) z (spot_of_total a.total) q.1 (expr-spots test k z j).1
      (spots-within c n (n ∷ []) (n ∷ []) true (same-list (n ∷ [])) false body (spot_of_total a.total) w.there)))) where
        by : (b : Bool) → are_any (aways ds n body) ≡ b → not (is_register (variable_at ds n)) ≡ true → own_finds c n test ≡ true → is_body c (own_finds c n) (own_sets c n) (sending_gives c n (own_finds c n)) body ≡ true
            → all_show_one (own_spots c n k test body) ≡ true → gives_apart ds n body ≡ true → list_all (λ (a : Away). is_sent_through c (own_spots c n k test body) a a.targets) (aways ds n body) ≡ true
            → own_goes c n k test body || own_sending_goes c n k test body ≡ true
        by true e off asked fits shows apart last =
            or_right (own_goes c n k test body) (own_sending_goes c n k test body)
            (and_from (not (is_register (variable_at ds n))) _ off
            (and_from (own_finds c n test) _ asked
            (and_from (is_body c (own_finds c n) (own_sets c n) (sending_gives c n (own_finds c n)) body) _ fits
            (and_from (all_show_one (own_spots c n k test body)) _ shows
            (and_from (gives_apart ds n body) _ apart
            (and_from (are_any (aways ds n body)) _ e last))))))
        by false e off asked fits shows apart last =
            or_left (own_goes c n k test body) (own_sending_goes c n k test body)
            (and_from (not (is_register (variable_at ds n))) _ off
            (and_from (own_finds c n test) _ asked
            (and_from (is_body c (own_finds c n) (own_sets c n) (own_gives c n (own_finds c n)) body) _ (own-only c n (own_finds c n) (own_sets c n) body fits e)
            (and_from (all_show_one (own_spots c n k test body)) (gives_apart ds n body) shows apart))))

  -- ---- loops along edges

  module _ (n : ℕ) (k : Key) (mask : Expr) (j : Key) (h : Head) (test : Expr) (body : Stmt) where
    abbrev i : ℕ
    i = h.iterator

    abbrev its : List ℕ
    its = n ∷ (h.iterator ∷ [])

    abbrev js : List ℕ
    js = h.iterator ∷ (n ∷ [])

    -- what is known of such a loop
    record Known (inner : Bool) : Type 0 where
      quiet : cannot_fail mask ≡ true
      masked : own_finds c n mask ≡ true
      form : is_inner_body ds its true body ≡ true
      filter : is_flat its true test ≡ true
      spares : spares_locals ds body ≡ true
      apart : nat_eq h.iterator n ≡ false
      uses_test : Fine p (uses_in test)
      uses_body : Fine p (uses_of body)
      typed : is_typed_in ds result body ≡ true
      alike : targets_alike body ≡ true
      ordered : body_in_order js body ≡ true
      leads' : lie_before (faults_in test j) (faults_of js body) ≡ true
      asked : asks_around ds its test ≡ true
      suited : suits_body ds inner its body ≡ true
      off : (y : ℕ) → is_in its y ≡ true → not (is_register (variable_at ds y)) ≡ true

    -- the spots at either end
    edge-shows : (inner : Bool) (m : ℕ) → Known inner → all_show_one (spots_in mask k ++ (spots_in test j ++ spots_of c m its false body)) ≡ true
    edge-shows inner m w =
        ap (λ l. all_show_one (l ++ (spots_in test j ++ spots_of c m its false body))) (no-spots mask k w.quiet)
        ∙ filtered-show c m its js false (turned h.iterator n) inner test j body w.leads' w.ordered w.suited

    -- for each message
    at-receivers : Known true → is_here ds n h test body ≡ false → is_push ds n h test body ≡ true → message_goes c n k mask j h test body ≡ true
    at-receivers w away push =
        let loads = carried n test body in
        let q = both-true (is_flat its (is_along h.domain) test) (is_inner_body ds its (is_along h.domain) body && avoids n body) push in
        let r = both-true (is_inner_body ds its (is_along h.domain) body) (avoids n body) q.1 in
        let cover = all-append (has_load loads) (loads_in n test) (loads_of n body) (all-carried n test body) in
        let t : receiver_finds c n h.iterator loads test ≡ true = there p n h.iterator loads true test w.filter w.uses_test (around-inside ds its test w.asked) cover.0 in
        let b : exprs_pass p (λ e. receiver_finds c n h.iterator loads e) body ≡ true = body-there p n h.iterator loads true body w.form w.uses_body w.suited cover.1 in
        let g : goes_to h.iterator body ≡ true = avoiding ds its h.iterator n (second-end n h.iterator) body w.suited r.1 in
        and_from (not (is_here ds n h test body)) _ (ap not away)
        (and_from (own_finds c n mask) _ w.masked
        (and_from (not (are_any (spots_in mask k))) _ (ap (λ l. not (are_any l)) (no-spots mask k w.quiet))
        (and_from (list_all (is_readable c) loads) _ (carried-readable p n test body w.uses_test w.uses_body)
        (and_from (receiver_finds c n h.iterator loads test) _ t
        (and_from (is_body c (λ e. receiver_finds c n h.iterator loads e) sets_nothing (inner_gives c h.iterator (λ e. receiver_finds c n h.iterator loads e)) body) _
        (inner-body p (λ e. receiver_finds c n h.iterator loads e) its true h.iterator result body w.form b w.uses_body w.typed w.alike w.suited g w.spares)
        (edge-shows true h.iterator w))))))

    -- for each message, of which some is sent on
    at-sending : Known false → goes_out ds n h test body ≡ true → suits_receivers ds n h test body ≡ true → receiver_sending_goes c n k mask j h test body ≡ true
    at-sending w out s =
        let i = h.iterator in
        let loads = carried n test body in
        let s1 = both-true (not (is_here ds n h test body)) (suits_body ds false its body && (sends_any ds i body && (folds_first ds i body body && sends_last ds i false body))) s in
        let s2 = both-true (suits_body ds false its body) (sends_any ds i body && (folds_first ds i body body && sends_last ds i false body)) s1.1 in
        let s3 = both-true (sends_any ds i body) (folds_first ds i body body && sends_last ds i false body) s2.1 in
        let s4 = both-true (folds_first ds i body body) (sends_last ds i false body) s3.1 in
        let away = not-true (is_here ds n h test body) s1.0 in
        let push = or-split (is_home ds n h test body) (is_push ds n h test body) out (λ x. absurd (both_ways (is_here ds n h test body) away (or_left (is_home ds n h test body) (is_senders ds n h test body) x))) (λ x. x) in
        let q = both-true (is_flat its (is_along h.domain) test) (is_inner_body ds its (is_along h.domain) body && avoids n body) push in
        let r = both-true (is_inner_body ds its (is_along h.domain) body) (avoids n body) q.1 in
        let cover = all-append (has_load loads) (loads_in n test) (loads_of n body) (all-carried n test body) in
        let t : receiver_finds c n i loads test ≡ true = there p n i loads false test w.filter w.uses_test (around-inside ds its test w.asked) cover.0 in
        let b : exprs_pass p (λ e. receiver_finds c n i loads e) body ≡ true = body-there p n i loads false body w.form w.uses_body w.suited cover.1 in
        let sends = aways ds i body in
        let out = sent_parts sends in
        let found' : Expr → Bool = λ e. receiver_finds c n i loads e in
        let all = spots_in mask k ++ (spots_in test j ++ spots_of c i its false body) in
        and_from (not (is_here ds n h test body)) _ s1.0
        (and_from (own_finds c n mask) _ w.masked
        (and_from (not (are_any (spots_in mask k))) _ (ap (λ l. not (are_any l)) (no-spots mask k w.quiet))
        (and_from (list_all (is_readable c) loads) _ (carried-readable p n test body w.uses_test w.uses_body)
        (and_from (receiver_finds c n i loads test) _ t
        (and_from (is_body c found' sets_nothing (sender_gives c n i found') body) _ (sender-body p n i found' true result body w.form b w.uses_body w.typed w.alike w.suited w.spares r.1)
        (and_from (tells_sent ds i out body) _ (told-body p n i body body w.alike s4.0 (λ a l. all-within sends a l))
        (and_from (list_all (made_stands out) (made ds n true body)) _
        (made-body p n i body (λ e j. parts-property p n i body w.uses_body e j) body w.form w.uses_body w.alike s4.0 (λ a l. all-within sends a l))
        (and_from (all_show_one all) _ (edge-shows false i w)
        (and_from (are_any sends) (list_all (λ (a : Away). is_sent_through c all a a.targets) sends) (some-sent ds i body s3.0)
        (all-sent (adds p i false) (through p i false) all sends (λ a l.
        let x = sent-at p n i i body w.uses_body w.alike w.suited w.ordered false s4.1 a l in
        subst (λ m. Sent (adds p i false) (through p i false) (m ++ (spots_in test j ++ spots_of c i its false body)) a) (sym (no-spots mask k w.quiet))
        (sent-behind (adds p i false) (through p i false) (spots_in test j) (spots_of c i its false body) a x
        (λ z y. part-before c i its js false (turned h.iterator n) false (faults_in test j) (faults_of js body) z (spot_of_total a.total) w.leads' (expr-spots test j z y).1
        (spots-within c i its js false (turned h.iterator n) false body (spot_of_total a.total) x.there))))))))))))))

    -- at the outer node
    abbrev finds_home : Expr → Bool
    finds_home e = home_finds c n h.iterator e

    home-fits : Known true → (m : ℕ) → is_inner_body ds (n ∷ []) (is_along h.domain) body ≡ true → goes_to m body ≡ true
        → is_body c finds_home sets_nothing (inner_gives c m finds_home) body ≡ true
    home-fits w m f g =
        inner-body p finds_home its true m result body w.form (body-here p n h.iterator (is_along h.domain) true w.apart body w.form f w.uses_body w.suited) w.uses_body w.typed w.alike w.suited g w.spares

    at-home : Known true → is_home ds n h test body ≡ true → home_goes c n k mask j h test body ≡ true
    at-home w home =
        let q = both-true (is_flat (n ∷ []) (is_along h.domain) test) (is_inner_body ds (n ∷ []) (is_along h.domain) body && avoids h.iterator body) home in
        let r = both-true (is_inner_body ds (n ∷ []) (is_along h.domain) body) (avoids h.iterator body) q.1 in
        and_from (is_here ds n h test body) _ (or_left (is_home ds n h test body) (is_senders ds n h test body) home)
        (and_from (own_finds c n mask) _ w.masked
        (and_from (reads_no_local c test) _ (no-local its test w.off w.asked)
        (and_from (finds_home test) _ (here p n h.iterator (is_along h.domain) true w.apart test w.filter q.0 w.uses_test (around-inside ds its test w.asked))
        (and_from (is_body c finds_home sets_nothing (inner_gives c n finds_home) body) (all_show_one (home_spots c n h.iterator k mask j test body))
        (home-fits w n r.0 (avoiding ds its n h.iterator (first-end n h.iterator) body w.suited r.1)) (edge-shows true n w)))))

    -- sent along the edges
    at-senders : Known true → is_senders ds n h test body ≡ true → sending_goes c n k mask j h test body ≡ true
    at-senders w sends =
        let q = both-true (is_flat (n ∷ []) (is_along h.domain) test) (is_inner_body ds (n ∷ []) (is_along h.domain) body && gives_last ds h.iterator body) sends in
        let r = both-true (is_inner_body ds (n ∷ []) (is_along h.domain) body) (gives_last ds h.iterator body) q.1 in
        let good = along p n h.iterator w.apart its js (turned h.iterator n) true in
        let asks = all_asked p n h.iterator w.apart its js (turned h.iterator n) true in
        let all = home_spots c n h.iterator k mask j test body in
        and_from (is_here ds n h test body) _ (or_right (is_home ds n h test body) (is_senders ds n h test body) sends)
        (and_from (own_finds c n mask) _ w.masked
        (and_from (reads_no_local c test) _ (no-local its test w.off w.asked)
        (and_from (finds_home test) _ (here p n h.iterator (is_along h.domain) true w.apart test w.filter q.0 w.uses_test (around-inside ds its test w.asked))
        (and_from (is_body c finds_home sets_nothing (sender_gives c n h.iterator finds_home) body) _
        (body-weaker c finds_home finds_home sets_nothing (inner_gives c h.iterator finds_home) (sender_gives c n h.iterator finds_home) (λ e o. o)
        (λ r' ts es o. or_left (inner_gives c h.iterator finds_home r' ts es) (sends_through c its finds_home r' ts es) o) body (home-fits w h.iterator r.0 (last-here ds h.iterator body r.1)))
        (and_from (all_show_one all) _ (edge-shows true n w)
        (and_from (are_any (aways ds n body)) (list_all (λ (a : Away). is_sent_through c all a a.targets) (aways ds n body)) (edge-some p n h.iterator w.apart its js (turned h.iterator n) true result body r.1 w.typed)
        (all-sent asks good all (aways ds n body) (λ a l.
        let x = edge-sent p n h.iterator w.apart its js (turned h.iterator n) true result body r.1 w.uses_body w.typed w.suited w.ordered a l in
        subst (λ m. Sent asks good (m ++ (spots_in test j ++ spots_of c n its false body)) a) (sym (no-spots mask k w.quiet))
        (sent-behind asks good (spots_in test j) (spots_of c n its false body) a x
        (λ z y. part-before c n its js false (turned h.iterator n) true (faults_in test j) (faults_of js body) z (spot_of_total a.total) w.leads' (expr-spots test j z y).1
        (spots-within c n its js false (turned h.iterator n) true body (spot_of_total a.total) x.there)))))))))))

    -- at the outer node, through node variables
    here-parts : is_here ds n h test body ≡ true → (is_flat (n ∷ []) (is_along h.domain) test ≡ true) × (is_inner_body ds (n ∷ []) (is_along h.domain) body ≡ true)
    here-parts o =
        or-split (is_home ds n h test body) (is_senders ds n h test body) o
        (λ x.
        let q = both-true (is_flat (n ∷ []) (is_along h.domain) test) (is_inner_body ds (n ∷ []) (is_along h.domain) body && avoids h.iterator body) x in
        (q.0, (both-true (is_inner_body ds (n ∷ []) (is_along h.domain) body) (avoids h.iterator body) q.1).0))
        (λ x.
        let q = both-true (is_flat (n ∷ []) (is_along h.domain) test) (is_inner_body ds (n ∷ []) (is_along h.domain) body && gives_last ds h.iterator body) x in
        (q.0, (both-true (is_inner_body ds (n ∷ []) (is_along h.domain) body) (gives_last ds h.iterator body) q.1).0))

    through-nodes : Known false → suits_senders ds n h test body ≡ true → sending_goes c n k mask j h test body ≡ true
    through-nodes w s =
        let i = h.iterator in
        let s1 = both-true (is_here ds n h test body) (suits_body ds false its body && (sends_any ds n body && (avoids n body && sends_last ds n false body))) s in
        let s2 = both-true (suits_body ds false its body) (sends_any ds n body && (avoids n body && sends_last ds n false body)) s1.1 in
        let s3 = both-true (sends_any ds n body) (avoids n body && sends_last ds n false body) s2.1 in
        let s4 = both-true (avoids n body) (sends_last ds n false body) s3.1 in
        let q = here-parts s1.0 in
        let good = through p n false in
        let asks = adds p n false in
        let all = home_spots c n i k mask j test body in
        let sends = aways ds n body in
        and_from (is_here ds n h test body) _ s1.0
        (and_from (own_finds c n mask) _ w.masked
        (and_from (reads_no_local c test) _ (no-local its test w.off w.asked)
        (and_from (finds_home test) _ (here p n i (is_along h.domain) false w.apart test w.filter q.0 w.uses_test (around-inside ds its test w.asked))
        (and_from (is_body c finds_home sets_nothing (sender_gives c n i finds_home) body) _
        (sender-body p n i finds_home true result body w.form (body-here p n i (is_along h.domain) false w.apart body w.form q.1 w.uses_body w.suited) w.uses_body w.typed w.alike w.suited w.spares s4.0)
        (and_from (all_show_one all) _ (edge-shows false n w)
        (and_from (are_any sends) (list_all (λ (a : Away). is_sent_through c all a a.targets) sends) (some-sent ds n body s3.0)
        (all-sent asks good all sends (λ a l.
        let x = sent-at p n i n body w.uses_body w.alike w.suited w.ordered false s4.1 a l in
        subst (λ m. Sent asks good (m ++ (spots_in test j ++ spots_of c n its false body)) a) (sym (no-spots mask k w.quiet))
        (sent-behind asks good (spots_in test j) (spots_of c n its false body) a x
        (λ z y. part-before c n its js false (turned h.iterator n) false (faults_in test j) (faults_of js body) z (spot_of_total a.total) w.leads' (expr-spots test j z y).1
        (spots-within c n its js false (turned h.iterator n) false body (spot_of_total a.total) x.there)))))))))))

    edge-goes : Known true → goes_out ds n h test body ≡ true → message_goes c n k mask j h test body || (home_goes c n k mask j h test body || sending_goes c n k mask j h test body) ≡ true
    edge-goes w g = by (is_home ds n h test body) (is_senders ds n h test body) refl refl where
      by : (a b : Bool) → is_home ds n h test body ≡ a → is_senders ds n h test body ≡ b → message_goes c n k mask j h test body || (home_goes c n k mask j h test body || sending_goes c n k mask j h test body) ≡ true
      by true b e f = or_right (message_goes c n k mask j h test body) (home_goes c n k mask j h test body || sending_goes c n k mask j h test body) (or_left (home_goes c n k mask j h test body) (sending_goes c n k mask j h test body) (at-home w e))
      by false true e f = or_right (message_goes c n k mask j h test body) (home_goes c n k mask j h test body || sending_goes c n k mask j h test body) (or_right (home_goes c n k mask j h test body) (sending_goes c n k mask j h test body) (at-senders w f))
      by false false e f =
          or_left (message_goes c n k mask j h test body) (home_goes c n k mask j h test body || sending_goes c n k mask j h test body)
          (at-receivers w (ap (λ z. z || is_senders ds n h test body) e ∙ f) (or-split (is_home ds n h test body) (is_push ds n h test body) g (λ x. absurd (both_ways (is_home ds n h test body) e x)) (λ x. x)))

  -- ---- a loop over nodes

  abbrev is_form : Stmt → Bool
  is_form st = is_phase (is_cut goes_out ds) no_loop ds st

  own-of : (n : ℕ) (k : Key) (at : Place) (test : Expr) (body : Stmt) → is_flat_loop ds false n test body && (is_own_loop n body || (is_mask n test && false)) ≡ true → Fine p (use_as Iterates n) → Fine p (uses_in test) → Fine p (uses_of body)
      → is_typed_in ds result body ≡ true → shares ds n test body ≡ true → begins (n ∷ []) k at test body && loop_in_order (n ∷ []) k test body ≡ true
      → asks_inside ds (n ∷ []) test && (suits_body ds false (n ∷ []) body && sends_last ds n false body) ≡ true
      → own_goes c n k test body || own_sending_goes c n k test body ≡ true
  own-of n k at test body f un ut ub y s ord h =
      let a = both-true (is_flat_loop ds false n test body) (is_own_loop n body || (is_mask n test && false)) f in
      let own = or-split (is_own_loop n body) (is_mask n test && false) a.1 (λ x. x) (λ x. absurd (both_ways false refl (both-true (is_mask n test) false x).1)) in
      own-plain n k at test body un ut ub a.0 (both-true (is_own_code n body) (adds_last (n ∷ []) body) own).0 y s ord h

  -- one of three ways is one of four
  wider : (a b d e : Bool) → a || (b || d) ≡ true → a || (b || (d || e)) ≡ true
  wider true b d e h = refl
  wider false true d e h = refl
  wider false false true e h = refl
  wider false false false e h = absurd (both_ways false refl h)

  third : (a b d e : Bool) → d ≡ true → a || (b || (d || e)) ≡ true
  third true b d e h = refl
  third false true d e h = refl
  third false false d e h = ap (λ z. z || e) h

  widest : (a b d e : Bool) → e ≡ true → a || (b || (d || e)) ≡ true
  widest true b d e h = refl
  widest false true d e h = refl
  widest false false true e h = refl
  widest false false false e h = h

  edge-of : (n : ℕ) (k : Key) (at : Place) (mask : Expr) (j : Key) (place : Place) (h : Head) (test : Expr) (body : Stmt) → is_cut goes_out ds n mask (S.Foreach j place h test body) ≡ true
      → Fine p (use_as Iterates n) → Fine p (uses_in mask) → Fine p (uses_of (S.Foreach j place h test body)) → is_typed_in ds result (S.Foreach j place h test body) ≡ true → shares ds n mask (S.Foreach j place h test body) ≡ true
      → begins (n ∷ []) k at mask (S.Foreach j place h test body) && loop_in_order (n ∷ []) k mask (S.Foreach j place h test body) ≡ true
      → suits_loop ds n mask (S.Foreach j place h test body) ≡ true → loop_goes c n k mask (S.Foreach j place h test body) ≡ true
  edge-of n k at mask j place h test body f un ut ub y s ord su =
      let inner = S.Foreach j place h test body in
      let its2 = n ∷ (h.iterator ∷ []) in
      let a = both-true (is_flat_loop ds false n mask inner) (is_own_loop n inner || (is_mask n mask && is_along_edges (goes_out ds) ds n mask inner)) f in
      let fl = both-true (is_flat (n ∷ []) false mask) (is_outer_body ds false n inner) a.0 in
      let hd = both-true (is_inner_head false n h) (is_flat its2 true test && is_inner_body ds its2 true body) fl.1 in
      let fb = both-true (is_flat its2 true test) (is_inner_body ds its2 true body) hd.1 in
      let hp = both-true (is_range false h.domain) (nat_eq h.owner n && not (nat_eq h.iterator n)) hd.0 in
      let hq = both-true (nat_eq h.owner n) (not (nat_eq h.iterator n)) hp.1 in
      let e1 = both-true (is_mask n mask) (is_along_edges (goes_out ds) ds n mask inner) (or-split (is_own_loop n inner) (is_mask n mask && is_along_edges (goes_out ds) ds n mask inner) a.1 (λ x. absurd (both_ways false refl x)) (λ x. x)) in
      let mk = both-true (cannot_fail mask) (is_flat (n ∷ []) false mask) e1.0 in
      let e2 = both-true (goes_out ds n h test body) (is_edge_loop ds n mask h test body) e1.1 in
      let e3 = both-true (knows_no_locals ds n h.iterator mask test body) _ e2.1 in
      let e4 = both-true (mask_stays n mask h body) _ e3.1 in
      let e5 = both-true (has_plain_locals ds n test body) _ e4.1 in
      let e6 = both-true (all_one (reduced ds n true body)) (adds_last its2 body) e5.1 in
      let sp = both-true (list_all (is_no_local ds its2) (told_in mask ++ (with_reads (sights_in test) (sights_of ds n true body)).scalars)) (spares_locals ds body) e3.0 in
      let u1 = split p (uses_of_head h) (uses_in test ++ uses_of body) ub in
      let u2 = split p (uses_in test) (uses_of body) u1.1 in
      let yb = (both-true (has_type ds V.Flag test) (is_typed_in ds result body) y).1 in
      let sh = shared-parts ds n mask inner s in
      let o = inner-parts (n ∷ []) j place h test body (ordered-parts (n ∷ []) k at mask inner ord).0 in
      let suited = suits_body ds true its2 body || (suits_receivers ds n h test body || suits_senders ds n h test body) in
      let s1 = both-true (asks_inside ds (n ∷ []) mask) (asks_around ds its2 test && suited) su in
      let s2 = both-true (asks_around ds its2 test) suited s1.1 in
      let ui = head-iterates h u1.0 in
      let known : (inner : Bool) → suits_body ds inner its2 body ≡ true → Known n k mask j h test body inner = λ inner sb. record {
        quiet = mk.0;
        masked = found p (n ∷ []) false mask mk.1 ut s1.0;
        form = fb.1;
        filter = fb.0;
        spares = sp.1;
        apart = not-true (nat_eq h.iterator n) hq.1;
        uses_test = u2.0;
        uses_body = u2.1;
        typed = yb;
        alike = sh.1;
        ordered = o.0;
        leads' = o.1;
        asked = s2.0;
        suited = sb;
        off = either n h.iterator (iterator-off n un) (iterator-off h.iterator ui);
      } in
      and_from (are_nested c n h) _
      (and_from (not (is_register (variable_at ds n))) _ (iterator-off n un)
      (and_from (not (is_register (variable_at ds h.iterator))) _ (iterator-off h.iterator ui)
      (and_from (not (nat_eq h.iterator n)) _ hq.1 (and_from (is_neighbours h.domain) (nat_eq h.owner n) (by-neighbours h.domain hp.0) hq.0))))
      (and_from (gives_apart ds n inner) _ (inner-apart ds n result body yb sh.1 e6.0 sh.0)
      (or-split (suits_body ds true its2 body) (suits_receivers ds n h test body || suits_senders ds n h test body) s2.1
      (λ sb. wider (message_goes c n k mask j h test body) (home_goes c n k mask j h test body) (sending_goes c n k mask j h test body) (receiver_sending_goes c n k mask j h test body)
      (edge-goes n k mask j h test body (known true sb) e2.0))
      (λ so.
      or-split (suits_receivers ds n h test body) (suits_senders ds n h test body) so
      (λ sr. widest (message_goes c n k mask j h test body) (home_goes c n k mask j h test body) (sending_goes c n k mask j h test body) (receiver_sending_goes c n k mask j h test body)
      (at-sending n k mask j h test body (known false (both-true (suits_body ds false its2 body) _ (both-true (not (is_here ds n h test body)) _ sr).1).0) e2.0 sr))
      (λ ss. third (message_goes c n k mask j h test body) (home_goes c n k mask j h test body) (sending_goes c n k mask j h test body) (receiver_sending_goes c n k mask j h test body)
      (through-nodes n k mask j h test body (known false (both-true (suits_body ds false its2 body) _ (both-true (is_here ds n h test body) _ ss).1).0) ss))))) where
        either : (a b : ℕ) → not (is_register (variable_at ds a)) ≡ true → not (is_register (variable_at ds b)) ≡ true → (y : ℕ) → is_in (a ∷ (b ∷ [])) y ≡ true → not (is_register (variable_at ds y)) ≡ true
        either a b u v y i =
            or-split (nat_eq y a) (nat_eq y b || false) i (λ e. ap (λ z. not (is_register (variable_at ds z))) (eqb-true y a e) ∙ u)
            (λ e. or-split (nat_eq y b) false e (λ g. ap (λ z. not (is_register (variable_at ds z))) (eqb-true y b g) ∙ v) (λ g. absurd (both_ways false refl g)))

  loop-plain : (n : ℕ) (k : Key) (at : Place) (test : Expr) (body : Stmt) → is_cut goes_out ds n test body ≡ true → Fine p (use_as Iterates n) → Fine p (uses_in test) → Fine p (uses_of body) → is_typed_in ds result body ≡ true
      → shares ds n test body ≡ true → begins (n ∷ []) k at test body && loop_in_order (n ∷ []) k test body ≡ true → suits_loop ds n test body ≡ true → loop_goes c n k test body ≡ true
  loop-plain n k at mask (S.Foreach j place h test body) f un ut ub y s ord su = edge-of n k at mask j place h test body f un ut ub y s ord su
  loop-plain n k at test body f un ut ub y s ord su = own-of n k at test body f un ut ub y s ord su

  -- ---- a sequential phase

  abbrev plain : Stmt → Bool
  plain st = is_plain c st

  phase-plain : (st : Stmt) → is_form st ≡ true → Fine p (uses_of st) → is_typed_in ds result st ≡ true → loops_share ds st ≡ true → loops_in_order st ≡ true → suits_phase ds st ≡ true → plain st ≡ true
  phase-plain (S.Then a b) f u y s o h =
      let f2 = both-true (is_form a) (is_form b) f in
      let u2 = split p (uses_of a) (uses_of b) u in
      let y2 = both-true (is_typed_in ds result a) (is_typed_in ds result b) y in
      let s2 = both-true (loops_share ds a) (loops_share ds b) s in
      let o2 = both-true (loops_in_order a) (loops_in_order b) o in
      let h2 = both-true (suits_phase ds a) (suits_phase ds b) h in
      and_from (plain a) (plain b) (phase-plain a f2.0 u2.0 y2.0 s2.0 o2.0 h2.0) (phase-plain b f2.1 u2.1 y2.1 s2.1 o2.1 h2.1)
  phase-plain (S.Combine k total r ts es) f u y s o h = pick-plain p r ts es f u y h
  phase-plain (S.Foreach k at hd test body) f u y s o h =
      let f2 = both-true (is_nodes hd.domain) (is_cut goes_out ds hd.iterator test body) f in
      let u1 = split p (uses_of_head hd) (uses_in test ++ uses_of body) u in
      let u2 = split p (uses_in test) (uses_of body) u1.1 in
      let y2 = both-true (has_type ds V.Flag test) (is_typed_in ds result body) y in
      loop-plain hd.iterator k hd.place test body f2.1 (head-iterates hd u1.0) u2.0 u2.1 y2.1 s o h
  phase-plain (S.For k at hd test body) f u y s o h =
      let f2 = both-true (is_told test) (is_form body) f in
      let u2 = split p (uses_in test) (uses_of body) (split p (uses_of_head hd) (uses_in test ++ uses_of body) u).1 in
      let y2 = both-true (has_type ds V.Flag test) (is_typed_in ds result body) y in
      let o2 = both-true (folds_in_order test) (loops_in_order body) o in
      phase-plain body f2.1 u2.1 y2.1 s o2.1 h
  phase-plain (S.If k e a b) f u y s o h =
      let f1 = both-true (is_told e) (is_form a && is_form b) f in
      let f2 = both-true (is_form a) (is_form b) f1.1 in
      let u2 = split p (uses_of a) (uses_of b) (split p (uses_in e) (uses_of a ++ uses_of b) u).1 in
      let y2 = both-true (is_typed_in ds result a) (is_typed_in ds result b) (both-true (has_type ds V.Flag e) (is_typed_in ds result a && is_typed_in ds result b) y).1 in
      let s2 = both-true (loops_share ds a) (loops_share ds b) s in
      let o1 = both-true (folds_in_order e) (loops_in_order a && loops_in_order b) o in
      let o2 = both-true (loops_in_order a) (loops_in_order b) o1.1 in
      let h2 = both-true (suits_phase ds a) (suits_phase ds b) h in
      and_from (plain a) (plain b) (phase-plain a f2.0 u2.0 y2.0 s2.0 o2.0 h2.0) (phase-plain b f2.1 u2.1 y2.1 s2.1 o2.1 h2.1)
  phase-plain (S.While k at e body) f u y s o h =
      let f2 = both-true (is_told e) (is_form body) f in
      let y2 = both-true (has_type ds V.Flag e) (is_typed_in ds result body) y in
      let o2 = both-true (folds_in_order e) (loops_in_order body) o in
      phase-plain body f2.1 (split p (uses_in e) (uses_of body) u).1 y2.1 s o2.1 h
  phase-plain (S.Do k at body e) f u y s o h =
      let f2 = both-true (is_form body) (is_told e) f in
      let y2 = both-true (is_typed_in ds result body) (has_type ds V.Flag e) y in
      let o2 = both-true (loops_in_order body) (folds_in_order e) o in
      phase-plain body f2.0 (split p (uses_of body) (uses_in e) u).0 y2.0 s o2.0 h
  phase-plain S.Skip f u y s o h = refl
  phase-plain (S.Declare k x e) f u y s o h = refl
  phase-plain (S.DeclareEdge x z at) f u y s o h = refl
  phase-plain (S.Assign k t e) f u y s o h = refl
  phase-plain (S.Defer k t e) f u y s o h = refl
  phase-plain (S.Group k at g q e) f u y s o h = refl
  phase-plain (S.InBfs k at sr test body) f u y s o h = refl
  phase-plain (S.InBfsBoth k at sr test body bk bt back) f u y s o h = refl
  phase-plain (S.Return k at e) f u y s o h = refl

pub ready-is-plain : ReadyIsPlain
ready-is-plain p ready h =
    phase-plain p p.body ready.form (fine-body p (both-true (nat_le (p.inputs + p.outputs) (length p.declarations)) (list_all (suits p.declarations) (uses_of p.body)) ready.sane.named).1) ready.sane.typed ready.sane.race_free ready.sane.ordered h
