-- The loops of the pieces of a loop keep what every pass keeps, and are cut.
use Rattle.std.proofs.Common.{◌≡◌, ℕ, Bool, true, false, cond, List, [], ◌∷◌, ◌++◌, map, refl, sym, ap, ◌∙◌, Option, Some, None}
use Rattle.std.specs.Prelude.{◌&&◌, ◌||◌, nat_lt}
use Rattle.std.specs.List.{list_all}
use Rattle.std.proofs.lemmas.Bool.{both_ways}
use Rattle.gm_base.specs.declared.places.Place.{Place}
use Rattle.gm_value.specs.declared.operations.Op1.TheVariants.{Not}
use Rattle.gm_value.specs.declared.values.VType.{VType}
use Rattle.gm_value.specs.declared.values.VType.TheVariants as V
use Rattle.gm_value.specs.declared.values.VType.TheVariants.{Flag}
use Rattle.gm_value.specs.Operations.{fits1, type1}
use Rattle.gm_ast.specs.declared.tree.Declaration.{Declaration}
use Rattle.gm_ast.specs.declared.tree.Head.{Head}
use Rattle.gm_ast.specs.declared.tree.Key.{Key}
use Rattle.gm_ast.specs.Loops.{is_nodes}
use Rattle.gm_ast.specs.Program.{Expr, Unary, Both, Stmt, Skip, Then, Foreach, If, sequence}
use Rattle.gm_forms.specs.Cut.{is_mask, is_own_loop}
use Rattle.gm_forms.specs.Forms.{is_flat, is_flat_loop, is_phase, no_loop}
use Rattle.gm_forms.specs.Order.{fault_of, are_numbered, cannot_fail, hoisted_in, faults_in, lie_before, in_order, faults_of, leads, body_in_order, loop_in_order, begins, loops_in_order}
use Rattle.gm_forms.specs.Sharing.{shares, loops_share}
use Rattle.gm_forms.specs.Typing.{type_in, by_one, is_type, type_if, has_type, is_typed_in}
use Rattle.gm_forms.specs.Uses.{suits, uses_in, uses_of_head, uses_of}
use Rattle.gm_forms.proofs.Leading.{flat-hoisted, flat-in-order, nothing-first, numbered-first, numbered-second, safe-faults}
use Rattle.gm_forms.proofs.Named.{both-true, all-append}
use Rattle.gm_forms.proofs.Weaker.{and-true}
use Rattle.gm_loop_laws.specs.Pieces.{Piece, piece, pieces_of}
use Rattle.gm_dissect.proofs.Kept.{Sound, sound-then, sound-skip}
use Rattle.gm_dissect.proofs.Undeferred.{append-true}
use Rattle.gm_cut.specs.Parts.{Kind, piece_loop, stands_along, is_parted, piece_is_parted}
use Rattle.gm_cut.specs.Runs.{joins_run, with_runs}
use Rattle.gm_cut.proofs.Grouped.{lie-second, uses-same, order-same, typed-same, shares-same}
use Rattle.gm_cut.proofs.Shared.{first-shares, second-shares, yes-shares, no-shares}

-- the other side of a condition has the same type
not-typed : (o : Option VType) → is_type Flag o ≡ true → o ≡ Some Flag
not-typed None h = absurd (both_ways false refl h)
not-typed (Some V.I32) h = absurd (both_ways false refl h)
not-typed (Some V.I64) h = absurd (both_ways false refl h)
not-typed (Some V.Flag) h = refl
not-typed (Some V.Node) h = absurd (both_ways false refl h)

-- kind: which inner loops are let; ds: the table; res: the result's type; k, at, h: those of the loop
module _ (kind : Kind) (ds : List Declaration) (res : Option VType) (k : Key) (at : Place) (h : Head) where
  abbrev n : ℕ
  n = h.iterator

  abbrev its : List ℕ
  its = n ∷ []

  -- what is known of a part under its mask
  pub record Good (mask : Expr) (s : Stmt) : Type 0 where
    pub mask_named : list_all (suits ds) (uses_in mask) ≡ true
    pub mask_typed : has_type ds Flag mask ≡ true
    pub named : list_all (suits ds) (uses_of s) ≡ true
    pub typed : is_typed_in ds res s ≡ true
    pub order : body_in_order its s ≡ true
    pub ahead : leads its k h.place s ≡ true
    pub numbered : are_numbered (faults_of its s) ≡ true
    pub share : shares ds n mask s ≡ true

  ahead-both : (a b : Stmt) → lie_before (fault_of k h.place ∷ []) (faults_of its a ++ faults_of its b) ≡ true → (leads its k h.place a ≡ true) × (leads its k h.place b ≡ true)
  ahead-both a b l = both-true (leads its k h.place a) (leads its k h.place b) (sym (lie-second (fault_of k h.place ∷ []) (faults_of its a) (faults_of its b)) ∙ l)

  -- parts of a block
  pub good-both : (mask : Expr) (a b : Stmt) → Good mask (Then a b) → Good mask a × Good mask b
  good-both mask a b g =
      let u = all-append (suits ds) (uses_of a) (uses_of b) g.named in
      let t = both-true (is_typed_in ds res a) (is_typed_in ds res b) g.typed in
      let o = both-true (body_in_order its a) (body_in_order its b && lie_before (faults_of its a) (faults_of its b)) g.order in
      let q = both-true (body_in_order its b) (lie_before (faults_of its a) (faults_of its b)) o.1 in
      let l = ahead-both a b g.ahead in (
        record {
          mask_named = g.mask_named;
          mask_typed = g.mask_typed;
          named = u.0;
          typed = t.0;
          order = o.0;
          ahead = l.0;
          numbered = numbered-first (faults_of its a) (faults_of its b) g.numbered;
          share = first-shares ds n mask a b g.share;
        },
        record {
          mask_named = g.mask_named;
          mask_typed = g.mask_typed;
          named = u.1;
          typed = t.1;
          order = q.0;
          ahead = l.1;
          numbered = numbered-second (faults_of its a) (faults_of its b) g.numbered;
          share = second-shares ds n mask a b g.share;
        },
      )

  both-typed : (mask c : Expr) → has_type ds Flag mask ≡ true → has_type ds Flag c ≡ true → has_type ds Flag (Both mask c) ≡ true
  both-typed mask c m t = ap (λ b. is_type Flag (type_if b Flag)) (and-true (is_type Flag (type_in ds mask)) (is_type Flag (type_in ds c)) m t)

  not-flag : (c : Expr) → has_type ds Flag c ≡ true → has_type ds Flag (Unary Not at c) ≡ true
  not-flag c t = ap (λ x. is_type Flag (by_one x (λ t. type_if (fits1 Not t) (type1 Not t)))) (not-typed (type_in ds c) t)

  -- branches of an If
  pub good-branches : (mask : Expr) (j : Key) (c : Expr) (a b : Stmt) → Good mask (If j c a b) → Good (Both mask c) a × Good (Both mask (Unary Not at c)) b
  good-branches mask j c a b g =
      let u = all-append (suits ds) (uses_in c) (uses_of a ++ uses_of b) g.named in
      let v = all-append (suits ds) (uses_of a) (uses_of b) u.1 in
      let t = both-true (has_type ds Flag c) (is_typed_in ds res a && is_typed_in ds res b) g.typed in
      let w = both-true (is_typed_in ds res a) (is_typed_in ds res b) t.1 in
      let lies = lie_before (faults_in c j) (faults_of its a ++ faults_of its b) && lie_before (faults_of its a) (faults_of its b) in
      let o = both-true (in_order c j) (body_in_order its a && (body_in_order its b && lies)) g.order in
      let q = both-true (body_in_order its a) (body_in_order its b && lies) o.1 in
      let r = both-true (body_in_order its b) lies q.1 in
      let l = both-true (lie_before (fault_of k h.place ∷ []) (faults_in c j)) (lie_before (fault_of k h.place ∷ []) (faults_of its a ++ faults_of its b)) (sym (lie-second (fault_of k h.place ∷ []) (faults_in c j) (faults_of its a ++ faults_of its b)) ∙ g.ahead) in
      let m = ahead-both a b l.1 in
      let f = numbered-second (faults_in c j) (faults_of its a ++ faults_of its b) g.numbered in (
        record {
          mask_named = append-true (suits ds) (uses_in mask) (uses_in c) g.mask_named u.0;
          mask_typed = both-typed mask c g.mask_typed t.0;
          named = v.0;
          typed = w.0;
          order = q.0;
          ahead = m.0;
          numbered = numbered-first (faults_of its a) (faults_of its b) f;
          share = yes-shares ds n mask c j a b g.share;
        },
        record {
          mask_named = append-true (suits ds) (uses_in mask) (uses_in c) g.mask_named u.0;
          mask_typed = both-typed mask (Unary Not at c) g.mask_typed (not-flag c t.0);
          named = v.1;
          typed = w.1;
          order = r.0;
          ahead = m.1;
          numbered = numbered-second (faults_of its a) (faults_of its b) f;
          share = no-shares ds n mask c at j a b g.share;
        },
      )

  -- ---- loops of pieces

  abbrev Cut : Piece → Type 0
  Cut p = piece_is_parted kind ds n p ≡ true

  record CutParts (p : Piece) : Type 0 where
    masked : is_mask n p.mask ≡ true
    cut : is_parted kind ds n p.mask p.part ≡ true

  cut-parts : (p : Piece) → Cut p → CutParts p
  cut-parts p c = let a = both-true (is_mask n p.mask) (is_parted kind ds n p.mask p.part) c in record { masked = a.0; cut = a.1 }

  module _ (range : is_nodes h.domain ≡ true) (head : list_all (suits ds) (uses_of_head h) ≡ true) where
    piece-sound : (p : Piece) → Good p.mask p.part → Cut p → Sound ds res (piece_loop k at h p)
    piece-sound p g c =
        let parts = cut-parts p c in
        let m = both-true (cannot_fail p.mask) (is_flat (n ∷ []) false p.mask) parts.masked in
        let flat = both-true (is_flat_loop ds false n p.mask p.part) (is_own_loop n p.part || (is_mask n p.mask && stands_along kind ds n p.mask p.part)) parts.cut in
        let none = flat-hoisted (n ∷ []) false p.mask m.1 in
        let first : begins its k h.place p.mask p.part ≡ true =
        and-true (leads its k h.place p.part) (are_numbered (hoisted_in p.mask ++ faults_of its p.part) && (nat_lt 0 k.statement || cannot_fail p.mask)) g.ahead
        (and-true (are_numbered (hoisted_in p.mask ++ faults_of its p.part)) (nat_lt 0 k.statement || cannot_fail p.mask) (ap (λ xs. are_numbered (xs ++ faults_of its p.part)) none ∙ g.numbered)
        (ap (λ b. nat_lt 0 k.statement || b) m.0 ∙ either (nat_lt 0 k.statement))) in
        let then : loop_in_order its k p.mask p.part ≡ true =
        and-true (in_order p.mask k) (body_in_order its p.part && lie_before (faults_in p.mask k) (faults_of its p.part)) (flat-in-order (n ∷ []) false p.mask k m.1)
        (and-true (body_in_order its p.part) (lie_before (faults_in p.mask k) (faults_of its p.part)) g.order (nothing-first (faults_in p.mask k) (faults_of its p.part) (safe-faults p.mask k m.0))) in
        record {
          named = append-true (suits ds) (uses_of_head h) (uses_in p.mask ++ uses_of p.part) head (append-true (suits ds) (uses_in p.mask) (uses_of p.part) g.mask_named g.named);
          typed = and-true (has_type ds Flag p.mask) (is_typed_in ds res p.part) g.mask_typed g.typed;
          order = and-true (begins its k h.place p.mask p.part) (loop_in_order its k p.mask p.part) first then;
          share = g.share;
          form = and-true (is_nodes h.domain) (is_flat_loop ds false n p.mask p.part) range flat.0;
        }
      where
        either : (b : Bool) → b || true ≡ true
        either true = refl
        either false = refl

    abbrev loops : List Piece → Stmt
    loops ps = sequence (map (piece_loop k at h) ps)

    sound-append : (ps qs : List Piece) → Sound ds res (loops ps) → Sound ds res (loops qs) → Sound ds res (loops (ps ++ qs))
    sound-append [] qs a b = b
    sound-append (p ∷ ps) qs a b =
        let one = piece_loop k at h p in
        let u = all-append (suits ds) (uses_of one) (uses_of (loops ps)) a.named in
        let t = both-true (is_typed_in ds res one) (is_typed_in ds res (loops ps)) a.typed in
        let o = both-true (loops_in_order one) (loops_in_order (loops ps)) a.order in
        let s = both-true (loops_share ds one) (loops_share ds (loops ps)) a.share in
        let f = both-true (is_phase (is_flat_loop ds false) no_loop ds one) (is_phase (is_flat_loop ds false) no_loop ds (loops ps)) a.form in
        sound-then ds res one (loops (ps ++ qs)) (record { named = u.0; typed = t.0; order = o.0; share = s.0; form = f.0 })
        (sound-append ps qs (record { named = u.1; typed = t.1; order = o.1; share = s.1; form = f.1 }) b)

    abbrev pieces : Expr → Stmt → List Piece
    pieces mask s = pieces_of (is_own_loop n) at mask s

    abbrev All : List Piece → Type 0
    All ps = list_all (piece_is_parted kind ds n) ps ≡ true

    one-sound : (mask : Expr) (s : Stmt) → Good mask s → All (piece mask s) → Sound ds res (loops (piece mask s))
    one-sound mask s g c =
        let p : Piece = record { mask = mask; part = s } in
        sound-then ds res (piece_loop k at h p) Skip (piece-sound p g (both-true (piece_is_parted kind ds n p) true c).0) (sound-skip ds res)

    pub pieces-sound : (s : Stmt) (mask : Expr) → Good mask s → All (pieces mask s) → Sound ds res (loops (pieces mask s))
    pieces-sound Skip mask g c = sound-skip ds res
    pieces-sound (Then a b) mask g c = by (is_own_loop n (Then a b)) c (λ d. pieces-sound a mask (good-both mask a b g).0 d) (λ d. pieces-sound b mask (good-both mask a b g).1 d)
      where
        by : (o : Bool) → All (cond o (piece mask (Then a b)) (pieces mask a ++ pieces mask b)) → (All (pieces mask a) → Sound ds res (loops (pieces mask a))) → (All (pieces mask b) → Sound ds res (loops (pieces mask b))) →
            Sound ds res (loops (cond o (piece mask (Then a b)) (pieces mask a ++ pieces mask b)))
        by true d first second = one-sound mask (Then a b) g d
        by false d first second =
            let r = all-append (piece_is_parted kind ds n) (pieces mask a) (pieces mask b) d in
            sound-append (pieces mask a) (pieces mask b) (first r.0) (second r.1)
    pieces-sound (If j e a b) mask g c =
        by (is_own_loop n (If j e a b)) c (λ d. pieces-sound a (Both mask e) (good-branches mask j e a b g).0 d) (λ d. pieces-sound b (Both mask (Unary Not at e)) (good-branches mask j e a b g).1 d)
      where
        yes : List Piece
        yes = pieces (Both mask e) a

        no : List Piece
        no = pieces (Both mask (Unary Not at e)) b

        by : (o : Bool) → All (cond o (piece mask (If j e a b)) (pieces (Both mask e) a ++ pieces (Both mask (Unary Not at e)) b)) →
            (All (pieces (Both mask e) a) → Sound ds res (loops (pieces (Both mask e) a))) → (All (pieces (Both mask (Unary Not at e)) b) → Sound ds res (loops (pieces (Both mask (Unary Not at e)) b))) →
            Sound ds res (loops (cond o (piece mask (If j e a b)) (pieces (Both mask e) a ++ pieces (Both mask (Unary Not at e)) b)))
        by true d first second = one-sound mask (If j e a b) g d
        by false d first second =
            let r = all-append (piece_is_parted kind ds n) (pieces (Both mask e) a) (pieces (Both mask (Unary Not at e)) b) d in
            sound-append (pieces (Both mask e) a) (pieces (Both mask (Unary Not at e)) b) (first r.0) (second r.1)
    pieces-sound s mask g c = one-sound mask s g c

  -- and each is cut
  pub pieces-cut : is_nodes h.domain ≡ true → (ps : List Piece) → list_all (piece_is_parted kind ds n) ps ≡ true → is_phase (is_parted kind ds) no_loop ds (sequence (map (piece_loop k at h) ps)) ≡ true
  pieces-cut range [] c = refl
  pieces-cut range (p ∷ ps) c =
      let r = both-true (piece_is_parted kind ds n p) (list_all (piece_is_parted kind ds n) ps) c in
      and-true (is_phase (is_parted kind ds) no_loop ds (piece_loop k at h p)) (is_phase (is_parted kind ds) no_loop ds (sequence (map (piece_loop k at h) ps)))
      (and-true (is_nodes h.domain) (is_parted kind ds n p.mask p.part) range (cut-parts p r.0).cut) (pieces-cut range ps r.1)

  -- the body of a loop that stands in a phase, with its runs in blocks
  pub good-loop : (mask : Expr) (body : Stmt) → Sound ds res (Foreach k at h mask body) → Good mask (with_runs n body)
  good-loop mask body s =
      let own = is_own_loop n in
      let joins = joins_run n in
      let u = all-append (suits ds) (uses_of_head h) (uses_in mask ++ uses_of body) s.named in
      let v = all-append (suits ds) (uses_in mask) (uses_of body) u.1 in
      let t = both-true (has_type ds Flag mask) (is_typed_in ds res body) s.typed in
      let o = both-true (begins its k h.place mask body) (loop_in_order its k mask body) s.order in
      let b = both-true (leads its k h.place body) (are_numbered (hoisted_in mask ++ faults_of its body) && (nat_lt 0 k.statement || cannot_fail mask)) o.0 in
      let c = both-true (are_numbered (hoisted_in mask ++ faults_of its body)) (nat_lt 0 k.statement || cannot_fail mask) b.1 in
      let d = both-true (in_order mask k) (body_in_order its body && lie_before (faults_in mask k) (faults_of its body)) o.1 in
      let e = both-true (body_in_order its body) (lie_before (faults_in mask k) (faults_of its body)) d.1 in
      let f = order-same own joins its body in
      record {
        mask_named = v.0;
        mask_typed = t.0;
        named = ap (list_all (suits ds)) (uses-same own joins body) ∙ v.1;
        typed = typed-same own joins ds res body ∙ t.1;
        order = f.1 ∙ e.0;
        ahead = ap (lie_before (fault_of k h.place ∷ [])) f.0 ∙ b.0;
        numbered = ap are_numbered f.0 ∙ numbered-second (hoisted_in mask) (faults_of its body) c.0;
        share = shares-same own joins ds n mask body ∙ s.share;
      }
