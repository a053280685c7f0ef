-- The pieces that a walk takes are those of the body with its runs in blocks.
use Rattle.std.proofs.Common.{◌≡◌, ℕ, Bool, true, false, cond, List, [], ◌∷◌, ◌++◌, refl, sym, ap, ◌∙◌}
use Rattle.std.specs.Prelude.{◌&&◌, ◌||◌, not}
use Rattle.std.specs.List.{list_any}
use Rattle.std.proofs.lemmas.Bool.{both_ways}
use Rattle.gm_base.specs.declared.places.Place.{Place}
use Rattle.gm_value.specs.declared.operations.Op1.TheVariants.{Not}
use Rattle.gm_ast.specs.declared.tree.Key.{Key}
use Rattle.gm_ast.specs.Program.{Expr, Unary, Both, Stmt, Skip, Then, Declare, DeclareEdge, Assign, Defer, Combine, Group, Foreach, For, If, While, Do, InBfs, InBfsBoth, Return, sequence}
use Rattle.gm_forms.specs.Cut.{is_calm, adds_elsewhere, adds_last, is_own_body, is_own_code, is_own_loop}
use Rattle.gm_forms.specs.Order.{cannot_fail}
use Rattle.gm_forms.proofs.Named.{both-true}
use Rattle.gm_forms.proofs.Weaker.{and-true}
use Rattle.gm_loop_laws.specs.Pieces.{Piece, piece, pieces_of}
use Rattle.gm_cut.specs.Runs.{before, placed, joined, gathered, joins_run, with_runs}
use Rattle.gm_cut.specs.Taken.{Taken, run_piece, all_taken, takes, taken}
use Rattle.gm_cut.proofs.Runs.{gather, grouped-same}
use Rattle.gm_cut.proofs.Grouped.{append-assoc, two-same, and-one}

or-true : (b : Bool) → b || true ≡ true
or-true true = refl
or-true false = refl

and-assoc : (x y z : Bool) → (x && y) && z ≡ x && (y && z)
and-assoc true y z = refl
and-assoc false y z = refl

or-assoc : (x y z : Bool) → (x || y) || z ≡ x || (y || z)
or-assoc true y z = refl
or-assoc false y z = refl

or-none : (x : Bool) → x || false ≡ x
or-none true = refl
or-none false = refl

-- ---- what a part adds, whether it is calm, and whether it adds last
abbrev Ends : Type 0
Ends = Bool × Bool × Bool

abbrev ends : Bool → Bool → Bool → Ends
ends e k l = (e, k, l)

abbrev both : Ends → Ends → Ends
both p q = (p.0 || q.0, p.1 && q.1, p.2 && (q.2 && (not p.0 || q.1)))

spread : (k l e c : Bool) → k && (l && c) ≡ (l && (not e || c)) && (k && c)
spread true true true true = refl
spread true true true false = refl
spread true true false true = refl
spread true true false false = refl
spread true false e c = refl
spread false true true true = refl
spread false true true false = refl
spread false true false true = refl
spread false true false false = refl
spread false false e c = refl

last-assoc : (e k l e' k' l' k'' l'' : Bool) → (l && (l' && (not e || k'))) && (l'' && (not (e || e') || k'')) ≡ l && ((l' && (l'' && (not e' || k''))) && (not e || (k' && k'')))
last-assoc e k false e' k' l' k'' l'' = refl
last-assoc e k true e' k' false k'' l'' = refl
last-assoc true k true e' k' true k'' l'' = spread k' l'' e' k''
last-assoc false k true e' k' true k'' l'' = sym (and-one (l'' && (not e' || k'')))

ends-same : (e k l e' k' l' : Bool) → e ≡ e' → k ≡ k' → l ≡ l' → ends e k l ≡ ends e' k' l'
ends-same e k l e' k' l' p q r = ap (λ x. ends x k l) p ∙ ap (λ x. ends e' x l) q ∙ ap (ends e' k') r

both-assoc : (p q r : Ends) → both (both p q) r ≡ both p (both q r)
both-assoc p q r =
    ends-same ((p.0 || q.0) || r.0) ((p.1 && q.1) && r.1) ((p.2 && (q.2 && (not p.0 || q.1))) && (r.2 && (not (p.0 || q.0) || r.1)))
    (p.0 || (q.0 || r.0)) (p.1 && (q.1 && r.1)) (p.2 && ((q.2 && (r.2 && (not q.0 || r.1))) && (not p.0 || (q.1 && r.1))))
    (or-assoc p.0 q.0 r.0) (and-assoc p.1 q.1 r.1) (last-assoc p.0 p.1 p.2 q.0 q.1 q.2 r.1 r.2)

both-left : (p : Ends) → both (ends false true true) p ≡ p
both-left p = ap (ends p.0 p.1) (and-one p.2)

both-right : (p : Ends) → both p (ends false true true) ≡ p
both-right p = ends-same (p.0 || false) (p.1 && true) (p.2 && (true && (not p.0 || true))) p.0 p.1 p.2 (or-none p.0) (and-one p.1) (ap (λ x. p.2 && x) (or-true (not p.0)) ∙ and-one p.2)

module _ (n : ℕ) (at : Place) where
  abbrev its : List ℕ
  its = n ∷ []

  abbrev own : Stmt → Bool
  own s = is_own_loop n s

  abbrev joins : List Stmt → Stmt → Bool
  joins run s = joins_run n run s

  abbrev C : Stmt → Bool
  C s = is_own_code n s

  abbrev E : Stmt → Bool
  E s = adds_elsewhere its s

  abbrev K : Stmt → Bool
  K s = is_calm its s

  abbrev L : Stmt → Bool
  L s = adds_last its s

  -- ---- statements whose branches have their runs in blocks are own where they were
  ends-grouped : (s : Stmt) → ends (E (with_runs n s)) (K (with_runs n s)) (L (with_runs n s)) ≡ ends (E s) (K s) (L s)
  ends-grouped s =
      grouped-same own joins (λ s. ends (E s) (K s) (L s)) both (ends false true true) refl (λ a b. refl) both-assoc both-left both-right
      (λ k c a b a' b' e h.
      two-same (λ (p q : Ends). ends (p.0 || q.0) (cannot_fail c && (p.1 && q.1)) (p.2 && q.2)) (ends (E a) (K a) (L a)) (ends (E a') (K a') (L a')) (ends (E b) (K b) (L b)) (ends (E b') (K b') (L b')) e h) s

  body-grouped : (s : Stmt) → is_own_body n (with_runs n s) ≡ is_own_body n s
  body-grouped s =
      grouped-same own joins (is_own_body n) (λ x y. x && y) true refl (λ a b. refl) and-assoc (λ x. refl) and-one
      (λ k c a b a' b' e h. two-same (λ x y. x && y) (is_own_body n a) (is_own_body n a') (is_own_body n b) (is_own_body n b') e h) s

  own-grouped : (k : Key) (c : Expr) (a b : Stmt) → own (If k c (with_runs n a) (with_runs n b)) ≡ own (If k c a b)
  own-grouped k c a b =
      two-same (λ x y. x && y) (C (If k c (with_runs n a) (with_runs n b))) (C (If k c a b)) (L (If k c (with_runs n a) (with_runs n b))) (L (If k c a b))
      (two-same (λ x y. x && y) (is_own_body n (with_runs n a)) (is_own_body n a) (is_own_body n (with_runs n b)) (is_own_body n b) (body-grouped a) (body-grouped b))
      (two-same (λ x y. x && y) (L (with_runs n a)) (L a) (L (with_runs n b)) (L b) (ap (λ (p : Ends). p.2) (ends-grouped a)) (ap (λ (p : Ends). p.2) (ends-grouped b)))

  -- ---- runs

  -- statements that stand together
  record OwnRun (run : List Stmt) : Type 0 where
    code : C (sequence run) ≡ true
    last : L (sequence run) ≡ true

  no-run : OwnRun []
  no-run = record { code = refl; last = refl }

  own-parts : (s : Stmt) → own s ≡ true → (C s ≡ true) × (L s ≡ true)
  own-parts s h = both-true (C s) (L s) h

  code-more : (run : List Stmt) (s : Stmt) → C (sequence run) ≡ true → C s ≡ true → C (sequence (run ++ (s ∷ []))) ≡ true
  code-more [] s h c = and-true (C s) true c refl
  code-more (x ∷ run) s h c = let r = both-true (C x) (C (sequence run)) h in and-true (C x) (C (sequence (run ++ (s ∷ [])))) r.0 (code-more run s r.1 c)

  calm-more : (run : List Stmt) (s : Stmt) → K (sequence run) ≡ true → K s ≡ true → K (sequence (run ++ (s ∷ []))) ≡ true
  calm-more [] s h c = and-true (K s) true c refl
  calm-more (x ∷ run) s h c = let r = both-true (K x) (K (sequence run)) h in and-true (K x) (K (sequence (run ++ (s ∷ [])))) r.0 (calm-more run s r.1 c)

  last-more : (run : List Stmt) (s : Stmt) → L (sequence run) ≡ true → L s ≡ true → not (list_any E run) || K s ≡ true → L (sequence (run ++ (s ∷ []))) ≡ true
  last-more [] s h l j = and-true (L s) (not (E s) || true) l (or-true (not (E s)))
  last-more (x ∷ run) s h l j =
      let r = both-true (L x) (L (sequence run) && (not (E x) || K (sequence run))) h in
      let q = both-true (L (sequence run)) (not (E x) || K (sequence run)) r.1 in
      let more = sequence (run ++ (s ∷ [])) in
      and-true (L x) (L more && (not (E x) || K more)) r.0
      (and-true (L more) (not (E x) || K more) (last-more run s q.0 l (less (E x) (list_any E run) (K s) j)) (by (E x) q.1 j))
    where
      less : (e a k : Bool) → not (e || a) || k ≡ true → not a || k ≡ true
      less true a true h = or-true (not a)
      less true a false h = absurd (both_ways false refl h)
      less false a k h = h

      by : (e : Bool) → not e || K (sequence run) ≡ true → not (e || list_any E run) || K s ≡ true → not e || K (sequence (run ++ (s ∷ []))) ≡ true
      by true h j = calm-more run s h j
      by false h j = refl

  run-more : (run : List Stmt) (s : Stmt) → OwnRun run → joins run s ≡ true → OwnRun (run ++ (s ∷ []))
  run-more run s o j =
      let r = both-true (own s) (not (list_any E run) || K s) j in
      let p = own-parts s r.0 in
      record { code = code-more run s o.code p.0; last = last-more run s o.last p.1 r.1 }

  run-one : (s : Stmt) → own s ≡ true → OwnRun (s ∷ [])
  run-one s h = let p = own-parts s h in record { code = and-true (C s) true p.0 refl; last = and-true (L s) (not (E s) || true) p.1 (or-true (not (E s))) }

  any-adds : (run : List Stmt) → E (sequence run) ≡ list_any E run
  any-adds [] = refl
  any-adds (x ∷ run) = ap (λ b. E x || b) (any-adds run)

  -- ---- blocks that are not own
  refuted : (b : Bool) → (b ≡ true → ⊥) → b ≡ false
  refuted true h = absurd (h refl)
  refuted false h = refl

  split-own : (a b : Stmt) → own (Then a b) ≡ true → (own a ≡ true) × (own b ≡ true)
  split-own a b h =
      let r = both-true (C a && C b) (L (Then a b)) h in
      let c = both-true (C a) (C b) r.0 in
      let l = both-true (L a) (L b && (not (E a) || K b)) r.1 in
      let m = both-true (L b) (not (E a) || K b) l.1 in
      (and-true (C a) (L a) c.0 l.0, and-true (C b) (L b) c.1 m.0)

  other-first : (t z : Stmt) → own t ≡ false → own (Then t z) ≡ false
  other-first t z h = refuted (own (Then t z)) (λ o. both_ways (own t) h (split-own t z o).0)

  other-behind : (r t z : Stmt) → own t ≡ false → own (Then r (Then t z)) ≡ false
  other-behind r t z h = refuted (own (Then r (Then t z))) (λ o. both_ways (own (Then t z)) (other-first t z h) (split-own r (Then t z) o).1)

  -- an own statement that does not join
  apart-behind : (run : List Stmt) (s z : Stmt) (x : Bool) → joins run s ≡ false → own s ≡ true → K z ≡ K (sequence (s ∷ [])) && x → own (Then (sequence run) z) ≡ false
  apart-behind run s z x j o e = refuted (own (Then (sequence run) z)) (λ h.
      let r = both-true (C (sequence run) && C z) (L (Then (sequence run) z)) h in
      let l = both-true (L (sequence run)) (L z && (not (E (sequence run)) || K z)) r.1 in
      let m = both-true (L z) (not (E (sequence run)) || K z) l.1 in
      by (list_any E run) (K s) (ap (λ b. b && (not (list_any E run) || K s)) (sym o) ∙ j) (ap (λ b. not b || K z) (sym (any-adds run)) ∙ m.1) e)
    where
      by : (a k : Bool) → not a || k ≡ false → not a || K z ≡ true → K z ≡ (k && true) && x → ⊥
      by true true j m e = both_ways true j refl
      by true false j m e = both_ways (K z) e m
      by false k j m e = both_ways true j refl

  -- ---- the pieces of both
  abbrev pieces : Expr → Stmt → List Piece
  pieces mask s = pieces_of own at mask s

  abbrev walked : Expr → List Stmt → Stmt → Taken
  walked mask run s = taken own joins at mask run s

  -- what comes behind a run
  record Behind (mask : Expr) (rest : List Stmt → Stmt) (x : Bool) (P : List Stmt → List Piece) : Type 0 where
    calm : (r : List Stmt) → K (rest r) ≡ K (sequence r) && x
    cut : (r : List Stmt) → OwnRun r → pieces mask (rest r) ≡ P r

  record Same (mask : Expr) (run : List Stmt) (whole : Stmt) (t : Taken) (P : List Stmt → List Piece) : Type 0 where
    cut : pieces mask whole ≡ t.pieces ++ P t.run
    goes : OwnRun t.run

  not-whole : (mask : Expr) (a b : Stmt) → own (Then a b) ≡ false → pieces mask (Then a b) ≡ pieces mask a ++ pieces mask b
  not-whole mask a b h = ap (λ o. cond o (piece mask (Then a b)) (pieces mask a ++ pieces mask b)) h

  run-pieces : (mask : Expr) (run : List Stmt) → OwnRun run → pieces mask (sequence run) ≡ run_piece mask run
  run-pieces mask [] o = refl
  run-pieces mask (x ∷ run) o = ap (λ b. cond b (piece mask (sequence (x ∷ run))) (pieces mask x ++ pieces mask (sequence run))) (and-true (C (sequence (x ∷ run))) (L (sequence (x ∷ run))) o.code o.last)

  before-pieces : (mask : Expr) (run : List Stmt) (z : Stmt) → OwnRun run → own (Then (sequence run) z) ≡ false → pieces mask (before own joins run z) ≡ run_piece mask run ++ pieces mask z
  before-pieces mask [] z o h = refl
  before-pieces mask (x ∷ run) z o h = not-whole mask (sequence (x ∷ run)) z h ∙ ap (λ l. l ++ pieces mask z) (run-pieces mask (x ∷ run) o)

  place : (b c : Bool) (mask : Expr) (run : List Stmt) (s t : Stmt) (rest : List Stmt → Stmt) (x : Bool) (P : List Stmt → List Piece) (cut : List Piece) → joins run s ≡ b → own s ≡ c → OwnRun run → Behind mask rest x P →
      (own s ≡ false → own t ≡ false) → (own s ≡ false → pieces mask t ≡ cut) → Same mask run (placed own joins b c run s t rest) (takes own joins at b c mask run s cut) P
  place true c mask run s t rest x P cut j o r h w e = let m = run-more run s r j in record { cut = h.cut (run ++ (s ∷ [])) m; goes = m }
  place false true mask run s t rest x P cut j o r h w e =
      let one = run-one s o in
      record {
        cut = before-pieces mask run (rest (s ∷ [])) r (apart-behind run s (rest (s ∷ [])) x j o (h.calm (s ∷ []))) ∙ ap (λ l. run_piece mask run ++ l) (h.cut (s ∷ []) one);
        goes = one;
      }
  place false false mask run s t rest x P cut j o r h w e =
      record {
        cut = before-pieces mask run (Then t (rest [])) r (other-behind (sequence run) t (rest []) (w o))
            ∙ ap (λ l. run_piece mask run ++ l) (not-whole mask t (rest []) (other-first t (rest []) (w o)) ∙ ap (λ l. l ++ pieces mask (rest [])) (e o) ∙ ap (λ l. cut ++ l) (h.cut [] no-run))
            ∙ sym (append-assoc (run_piece mask run) cut (P []));
        goes = no-run;
      }

  -- a statement that is a piece where it is not own
  alone : (mask : Expr) (run : List Stmt) (s : Stmt) (rest : List Stmt → Stmt) (x : Bool) (P : List Stmt → List Piece) → OwnRun run → Behind mask rest x P → (own s ≡ false → pieces mask s ≡ piece mask s) →
      Same mask run (joined own joins run s s rest) (takes own joins at (joins run s) (own s) mask run s (piece mask s)) P
  alone mask run s rest x P o h e = place (joins run s) (own s) mask run s s rest x P (piece mask s) refl refl o h (λ w. w) e

  abbrev Goal : Stmt → Type 0
  Goal s = (mask : Expr) (run : List Stmt) (rest : List Stmt → Stmt) (x : Bool) (P : List Stmt → List Piece) → OwnRun run → Behind mask rest x P → Same mask run (gathered own joins s run rest) (walked mask run s) P

  calm-behind : (s : Stmt) (rest : List Stmt → Stmt) (x : Bool) → ((r : List Stmt) → K (rest r) ≡ K (sequence r) && x) → (run : List Stmt) → K (gathered own joins s run rest) ≡ K (sequence run) && (K s && x)
  calm-behind s rest x h run =
      gather own joins (is_calm its) (λ a b. a && b) true refl (λ a b. refl) and-assoc (λ x. refl) and-one
      (λ k c a b a' b' e g. ap (λ z. cannot_fail c && z) (two-same (λ x y. x && y) (K a) (K a') (K b) (K b') e g)) s run rest x h

  -- all pieces of a body
  at-end : (mask : Expr) → Behind mask sequence true (run_piece mask)
  at-end mask = record { calm = λ r. sym (and-one (K (sequence r))); cut = run-pieces mask }

  branch : (s : Stmt) → Goal s → (mask : Expr) → pieces mask (with_runs n s) ≡ all_taken mask (walked mask [] s)
  branch s goal mask = (goal mask [] sequence true (run_piece mask) no-run (at-end mask)).cut

  walk : (s : Stmt) → Goal s
  walk Skip mask run rest x P o h = record { cut = h.cut run o; goes = o }
  walk (Then a b) mask run rest x P o h =
      let behind : Behind mask (λ r. gathered own joins b r rest) (K b && x) (λ r. (walked mask r b).pieces ++ P (walked mask r b).run) =
      record { calm = calm-behind b rest x h.calm; cut = λ r w. (walk b mask r rest x P w h).cut } in
      let first = walk a mask run (λ r. gathered own joins b r rest) (K b && x) (λ r. (walked mask r b).pieces ++ P (walked mask r b).run) o behind in
      let t = walked mask run a in
      record {
        cut = first.cut ∙ sym (append-assoc t.pieces (walked mask t.run b).pieces (P (walked mask t.run b).run));
        goes = (walk b mask t.run rest x P first.goes h).goes;
      }
  walk (If k c a b) mask run rest x P o h =
      let yes = Both mask c in
      let no = Both mask (Unary Not at c) in
      let whole = If k c (with_runs n a) (with_runs n b) in
      place (joins run (If k c a b)) (own (If k c a b)) mask run (If k c a b) whole rest x P (all_taken yes (walked yes [] a) ++ all_taken no (walked no [] b)) refl refl o h
      (λ w. own-grouped k c a b ∙ w)
      (λ w. ap (λ v. cond v (piece mask whole) (pieces yes (with_runs n a) ++ pieces no (with_runs n b))) (own-grouped k c a b ∙ w)
      ∙ two-same (λ u v. u ++ v) (pieces yes (with_runs n a)) (all_taken yes (walked yes [] a)) (pieces no (with_runs n b)) (all_taken no (walked no [] b)) (branch a (walk a) yes) (branch b (walk b) no))
  walk s mask run rest x P o h = alone mask run s rest x P o h (λ w. refl)

  -- the pieces of a body are those that the walk takes
  pub all-walked : (mask : Expr) (s : Stmt) → pieces_of (is_own_loop n) at mask (with_runs n s) ≡ all_taken mask (taken (is_own_loop n) (joins_run n) at mask [] s)
  all-walked mask s = branch s (walk s) mask
