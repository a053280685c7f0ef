-- The support of a reduction, from answers for all locals that are closed under what is written and are the least such.
use Rattle.std.proofs.Common.{◌≡◌, ℕ, ◌<◌, ◌≤◌, ◌+◌, Bool, true, false, ◌||◌, ◌&&◌, cond, List, [], ◌∷◌, ◌++◌, map, length, refl, sym, ap, subst, ◌∙◌, ◌⊎◌, inl, inr, arith}
use Rattle.std.specs.Prelude.{flat_map}
use Rattle.std.proofs.lemmas.Bool.{true≢false, false≢true, or_cases, or_left, or_right, cases_lt, and_parts, and_from, eqb-true, eq-eqb}
use Rattle.gm_ast.specs.declared.tree.Target.{Target}
use Rattle.gm_ast.specs.Loops.{any}
use Rattle.gm_ast.specs.Ways.{Mention, Action, variable_of, is_in, is_local, locals_among, writers, grown, grown_by}
use Rattle.gm_push_pull.specs.Sweeps.{is_written, written, Demand}
use Rattle.gm_push_pull.proofs.Among.{Among, among-left, among-right, among-cases, any-among, among-any, among-filter, filter-among, among-map, map-among, among-flat, flat-among, is_in-among, among-is_in, same-answer}

-- variables that are all among others
abbrev pub Within : List ℕ → List ℕ → Type 0
Within xs ys = (x : ℕ) → Among x xs → Among x ys

-- a mention that passes a test, or whose variable does
abbrev pub either_way : (Mention → Bool) → (ℕ → Bool) → Mention → Bool
either_way p B m = p m || B (variable_of m)

-- answers for locals that are closed under what these actions write
abbrev pub Closed : (ℕ → Bool) → (Mention → Bool) → (ℕ → Bool) → List Action → Type 0
Closed known p B all = (a : Action) → Among a all → Demand known B (written a.targets) (any (either_way p B) a.mentioned)

-- a target that is a local, by the variable that it writes
local-written : (xs : List ℕ) (t : Target) → is_local xs t ≡ true → (x : ℕ) × Among x xs × (is_written t x ≡ true)
local-written xs (Target.Scalar y at) h = (y, is_in-among xs y h, eq-eqb y y refl)
local-written xs (Target.Property y p at) h = absurd (false≢true h)

written-local : (xs : List ℕ) (x : ℕ) (t : Target) → Among x xs → is_written t x ≡ true → is_local xs t ≡ true
written-local xs x (Target.Scalar y at) h k = among-is_in xs y (subst (λ z. Among z xs) (sym (eqb-true y x k)) h)
written-local xs x (Target.Property y p at) h k = absurd (false≢true k)

-- a writer of one of some locals
pub writer-writes : (all : List Action) (xs : List ℕ) (a : Action) → Among a (writers all xs) → Among a all × (x : ℕ) × Among x xs × (written a.targets x ≡ true)
writer-writes all xs a h =
    let f = filter-among (λ (b : Action). any (is_local xs) b.targets) a all h in
    let t = among-any (is_local xs) a.targets f.1 in
    let w = local-written xs t.0 t.2 in
    (f.0, w.0, w.1, any-among (λ u. is_written u w.0) t.0 a.targets t.1 w.2)

pub writes-writer : (all : List Action) (xs : List ℕ) (a : Action) (x : ℕ) → Among a all → Among x xs → written a.targets x ≡ true → Among a (writers all xs)
writes-writer all xs a x h k w =
    let t = among-any (λ u. is_written u x) a.targets w in
    among-filter (λ (b : Action). any (is_local xs) b.targets) a all h (any-among (is_local xs) t.0 a.targets t.1 (written-local xs x t.0 k t.2))

-- the locals among what is mentioned
pub mentioned-local : (own : List ℕ) (ms : List Mention) (m : Mention) → Among m ms → is_in own (variable_of m) ≡ true → Among (variable_of m) (locals_among own ms)
mentioned-local own ms m h k = among-filter (is_in own) (variable_of m) (map variable_of ms) (among-map variable_of m ms h) k

pub local-mentioned : (own : List ℕ) (ms : List Mention) (y : ℕ) → Among y (locals_among own ms) → (is_in own y ≡ true) × (m : Mention) × Among m ms × (y ≡ variable_of m)
local-mentioned own ms y h =
    let f = filter-among (is_in own) y (map variable_of ms) h in
    let g = map-among variable_of y ms f.0 in
    (f.1, g.0, g.1, g.2)

-- one round more
pub grown-first : (own : List ℕ) (all : List Action) (xs : List ℕ) → Within xs (grown own all xs)
grown-first own all xs x h = among-left x xs _ h

pub grown-more : (own : List ℕ) (all : List Action) (xs : List ℕ) (a : Action) (x y : ℕ) → Among a all → Among x xs → written a.targets x ≡ true → Among y (locals_among own a.mentioned) → Among y (grown own all xs)
grown-more own all xs a x y h k w m = among-right y xs _ (among-flat (λ (b : Action). locals_among own b.mentioned) a y (writers all xs) (writes-writer all xs a x h k w) m)

pub grown-cases : (own : List ℕ) (all : List Action) (xs : List ℕ) (y : ℕ) → Among y (grown own all xs)
    → Among y xs ⊎ ((a : Action) × (x : ℕ) × Among a all × Among x xs × (written a.targets x ≡ true) × Among y (locals_among own a.mentioned))
grown-cases own all xs y h = on (among-cases y xs (flat_map (λ (b : Action). locals_among own b.mentioned) (writers all xs)) h)
  where
    on : (Among y xs ⊎ Among y (flat_map (λ (b : Action). locals_among own b.mentioned) (writers all xs)))
        → Among y xs ⊎ ((a : Action) × (x : ℕ) × Among a all × Among x xs × (written a.targets x ≡ true) × Among y (locals_among own a.mentioned))
    on (inl k) = inl k
    on (inr k) =
        let f = flat-among (λ (b : Action). locals_among own b.mentioned) y (writers all xs) k in
        let w = writer-writes all xs f.0 f.1 in
        inr (f.0, w.1, w.0, w.2, w.3, f.2)

-- what one round adds to fewer locals it adds to more
pub grown-within : (own : List ℕ) (all : List Action) (xs ys : List ℕ) → Within xs ys → Within (grown own all xs) (grown own all ys)
grown-within own all xs ys h y k = on (grown-cases own all xs y k)
  where
    on : (Among y xs ⊎ ((a : Action) × (x : ℕ) × Among a all × Among x xs × (written a.targets x ≡ true) × Among y (locals_among own a.mentioned))) → Among y (grown own all ys)
    on (inl q) = grown-first own all ys y (h y q)
    on (inr q) = grown-more own all ys q.0 q.1 y q.2 (h q.1 q.3) q.4 q.5

-- all are locals of the body
abbrev pub Own : List ℕ → List ℕ → Type 0
Own own xs = (x : ℕ) → Among x xs → is_in own x ≡ true

pub own-grown : (own : List ℕ) (all : List Action) (xs : List ℕ) → Own own xs → Own own (grown own all xs)
own-grown own all xs h y k = on (grown-cases own all xs y k)
  where
    on : (Among y xs ⊎ ((a : Action) × (x : ℕ) × Among a all × Among x xs × (written a.targets x ≡ true) × Among y (locals_among own a.mentioned))) → is_in own y ≡ true
    on (inl q) = h y q
    on (inr q) = (local-mentioned own q.0.mentioned y q.5).0

-- locals to which a round adds nothing
abbrev pub Stable : List ℕ → List Action → List ℕ → Type 0
Stable own all xs = Within (grown own all xs) xs

stable-grown : (own : List ℕ) (all : List Action) (xs : List ℕ) → Stable own all xs → Stable own all (grown own all xs)
stable-grown own all xs h = grown-within own all (grown own all xs) xs h

stable-rounds : (own : List ℕ) (all : List Action) (rounds xs : List ℕ) → Stable own all xs → Stable own all (grown_by own all rounds xs)
stable-rounds own all [] xs h = h
stable-rounds own all (r ∷ rounds) xs h = stable-rounds own all rounds (grown own all xs) (stable-grown own all xs h)

-- how many locals are not among some
abbrev missing : List ℕ → List ℕ → ℕ
missing [] xs = 0
missing (y ∷ own) xs = cond (is_in xs y) (missing own xs) (missing own xs + 1)

missing-none : (own xs : List ℕ) (y : ℕ) → missing own xs ≡ 0 → Among y own → is_in xs y ≡ true
missing-none [] xs y e h = absurd h
missing-none (z ∷ own) xs y e h = on (missing-none own xs y) (is_in xs z) refl e h
  where
    on : (missing own xs ≡ 0 → Among y own → is_in xs y ≡ true) → (b : Bool) → is_in xs z ≡ b → cond b (missing own xs) (missing own xs + 1) ≡ 0 → Among y (z ∷ own) → is_in xs y ≡ true
    on go true q f (inl k) = ap (is_in xs) k ∙ q
    on go true q f (inr k) = go f k
    on go false q f k = absurd (omega (arith, f))

missing-fewer : (own xs zs : List ℕ) → Within xs zs → missing own zs ≤ missing own xs
missing-fewer [] xs zs h = omega arith
missing-fewer (y ∷ own) xs zs h = on (is_in xs y) (is_in zs y) (λ k. among-is_in zs y (h y (is_in-among xs y k))) (missing-fewer own xs zs h)
  where
    on : (b c : Bool) → (b ≡ true → c ≡ true) → missing own zs ≤ missing own xs → cond c (missing own zs) (missing own zs + 1) ≤ cond b (missing own xs) (missing own xs + 1)
    on true true k q = q
    on true false k q = absurd (false≢true (k refl))
    on false true k q = omega (arith, q)
    on false false k q = omega (arith, q)

missing-less : (own xs zs : List ℕ) (y : ℕ) → Within xs zs → Among y own → is_in zs y ≡ true → is_in xs y ≡ false → missing own zs < missing own xs
missing-less [] xs zs y h k z n = absurd k
missing-less (w ∷ own) xs zs y h (inl e) z n = on (is_in xs w) (is_in zs w) (ap (is_in xs) (sym e) ∙ n) (ap (is_in zs) (sym e) ∙ z) (missing-fewer own xs zs h)
  where
    on : (b c : Bool) → b ≡ false → c ≡ true → missing own zs ≤ missing own xs → cond c (missing own zs) (missing own zs + 1) < cond b (missing own xs) (missing own xs + 1)
    on true c p q r = absurd (true≢false p)
    on false true p q r = omega (arith, r)
    on false false p q r = absurd (false≢true q)
missing-less (w ∷ own) xs zs y h (inr k) z n = on (is_in xs w) (is_in zs w) (λ q. among-is_in zs w (h w (is_in-among xs w q))) (missing-less own xs zs y h k z n)
  where
    on : (b c : Bool) → (b ≡ true → c ≡ true) → missing own zs < missing own xs → cond c (missing own zs) (missing own zs + 1) < cond b (missing own xs) (missing own xs + 1)
    on true true p q = q
    on true false p q = absurd (false≢true (p refl))
    on false true p q = omega (arith, q)
    on false false p q = omega (arith, q)

-- after as many rounds as locals are missing nothing more is added
pub rounds-stable : (own : List ℕ) (all : List Action) (rounds xs : List ℕ) → Own own xs → missing own xs ≤ length rounds → Stable own all (grown_by own all rounds xs)
rounds-stable own all [] xs h k =
    let none : missing own xs ≡ 0 = omega (arith, k) in
    λ y q. is_in-among xs y (missing-none own xs y none (is_in-among own y (own-grown own all xs h y q)))
rounds-stable own all (r ∷ rounds) xs h k = on (rounds-stable own all rounds (grown own all xs) (own-grown own all xs h)) (cases_lt (missing own (grown own all xs)) (missing own xs))
  where
    fixed : missing own xs ≤ missing own (grown own all xs) → Stable own all xs
    fixed f y q = by (is_in xs y) refl
      where
        by : (b : Bool) → is_in xs y ≡ b → Among y xs
        by true e = is_in-among xs y e
        by false e =
            let less = missing-less own xs (grown own all xs) y (grown-first own all xs) (is_in-among own y (own-grown own all xs h y q)) (among-is_in (grown own all xs) y q) e in
            absurd (omega (arith, f, less))

    on : (missing own (grown own all xs) ≤ length rounds → Stable own all (grown_by own all rounds (grown own all xs)))
        → ((missing own (grown own all xs) < missing own xs) ⊎ (missing own xs ≤ missing own (grown own all xs))) → Stable own all (grown_by own all rounds (grown own all xs))
    on go (inl f) = go (omega (arith, f, k))
    on go (inr f) = stable-rounds own all rounds (grown own all xs) (stable-grown own all xs (fixed f))

missing-at-most : (own xs : List ℕ) → missing own xs ≤ length own
missing-at-most [] xs = omega arith
missing-at-most (y ∷ own) xs = on (is_in xs y) (missing-at-most own xs)
  where
    on : (b : Bool) → missing own xs ≤ length own → cond b (missing own xs) (missing own xs + 1) ≤ length (y ∷ own)
    on true k = omega (arith, k)
    on false k = omega (arith, k)

-- all on which some locals rest
abbrev pub rests : List ℕ → List Action → List ℕ → List ℕ
rests own all xs = grown_by own all own xs

pub rests-stable : (own : List ℕ) (all : List Action) (xs : List ℕ) → Own own xs → Stable own all (rests own all xs)
rests-stable own all xs h = rounds-stable own all own xs h (missing-at-most own xs)

pub rounds-first : (own : List ℕ) (all : List Action) (rounds xs : List ℕ) → Within xs (grown_by own all rounds xs)
rounds-first own all [] xs x h = h
rounds-first own all (r ∷ rounds) xs x h = rounds-first own all rounds (grown own all xs) x (grown-first own all xs x h)

-- rounds stay within locals to which a round adds nothing
pub rounds-within : (own : List ℕ) (all : List Action) (rounds xs zs : List ℕ) → Stable own all zs → Within xs zs → Within (grown_by own all rounds xs) zs
rounds-within own all [] xs zs s h = h
rounds-within own all (r ∷ rounds) xs zs s h = rounds-within own all rounds (grown own all xs) zs s (λ y k. s y (grown-within own all xs zs h y k))

-- an action that passes a test among the writers of locals tells of one of these
module _ (own : List ℕ) (all : List Action) (p : Mention → Bool) (B : ℕ → Bool) (closed : Closed (is_in own) p B all) where
  written-so : (xs : List ℕ) (a : Action) → Own own xs → Among a (writers all xs) → any (either_way p B) a.mentioned ≡ true → (x : ℕ) × Among x xs × (B x ≡ true)
  written-so xs a h k q =
      let w = writer-writes all xs a k in
      (w.1, w.2, closed a w.0 w.1 (h w.1 w.2) w.3 q)

  grown-so : (xs : List ℕ) (y : ℕ) → Own own xs → Among y (grown own all xs) → B y ≡ true → (x : ℕ) × Among x xs × (B x ≡ true)
  grown-so xs y h k q = on (grown-cases own all xs y k)
    where
      on : (Among y xs ⊎ ((a : Action) × (x : ℕ) × Among a all × Among x xs × (written a.targets x ≡ true) × Among y (locals_among own a.mentioned))) → (x : ℕ) × Among x xs × (B x ≡ true)
      on (inl r) = (y, r, q)
      on (inr r) =
          let m = local-mentioned own r.0.mentioned y r.5 in
          let so : either_way p B m.1 ≡ true = or_right (p m.1) (B (variable_of m.1)) (ap B (sym m.3) ∙ q) in
          (r.1, r.3, closed r.0 r.2 r.1 (h r.1 r.3) r.4 (any-among (either_way p B) m.1 r.0.mentioned m.2 so))

  rounds-so : (rounds xs : List ℕ) (y : ℕ) → Own own xs → Among y (grown_by own all rounds xs) → B y ≡ true → (x : ℕ) × Among x xs × (B x ≡ true)
  rounds-so [] xs y h k q = (y, k, q)
  rounds-so (r ∷ rounds) xs y h k q =
      let s = rounds-so rounds (grown own all xs) y (own-grown own all xs h) k q in
      grown-so xs s.0 h s.1 s.2

  -- what the writers of all on which some locals rest mention, is told by one of these
  pub rests-so : (xs : List ℕ) (a : Action) → Own own xs → Own own (rests own all xs) → Among a (writers all (rests own all xs)) → any p a.mentioned ≡ true → any B xs ≡ true
  rests-so xs a h o k q =
      let m = among-any p a.mentioned q in
      let w = written-so (rests own all xs) a o k (any-among (either_way p B) m.0 a.mentioned m.1 (or_left (p m.0) (B (variable_of m.0)) m.2)) in
      let s = rounds-so own xs w.0 h w.1 w.2 in
      any-among B s.0 xs s.1 s.2

pub own-rounds : (own : List ℕ) (all : List Action) (rounds xs : List ℕ) → Own own xs → Own own (grown_by own all rounds xs)
own-rounds own all [] xs h = h
own-rounds own all (r ∷ rounds) xs h = own-rounds own all rounds (grown own all xs) (own-grown own all xs h)

-- the least closed answers: whether something on which a local rests is written with a mention that passes
abbrev pub rests_on_such : List ℕ → List Action → (Mention → Bool) → ℕ → Bool
rests_on_such own all p x = is_in own x && any (λ (a : Action). any p a.mentioned) (writers all (rests own all (x ∷ [])))

own-one : (own : List ℕ) (x : ℕ) → is_in own x ≡ true → Own own (x ∷ [])
own-one own x h y (inl e) = ap (is_in own) e ∙ h
own-one own x h y (inr k) = absurd k

writers-within : (all : List Action) (xs ys : List ℕ) (a : Action) → Within xs ys → Among a (writers all xs) → Among a (writers all ys)
writers-within all xs ys a h k =
    let w = writer-writes all xs a k in
    writes-writer all ys a w.1 w.0 (h w.1 w.2) w.3

-- what a local rests on, that one of some rests on
rests-through : (own : List ℕ) (all : List Action) (xs : List ℕ) (y : ℕ) → Own own xs → Among y (rests own all xs) → Within (rests own all (y ∷ [])) (rests own all xs)
rests-through own all xs y h k = rounds-within own all own (y ∷ []) (rests own all xs) (rests-stable own all xs h) one
  where
    one : Within (y ∷ []) (rests own all xs)
    one z (inl e) = subst (λ w. Among w (rests own all xs)) (sym e) k
    one z (inr q) = absurd q

pub least-closed : (own : List ℕ) (all : List Action) (p : Mention → Bool) → Closed (is_in own) p (rests_on_such own all p) all
least-closed own all p a h x known w q =
    let m = among-any (either_way p (rests_on_such own all p)) a.mentioned q in
    on m.0 m.1 (or_cases (p m.0) (rests_on_such own all p (variable_of m.0)) m.2)
  where
    zs : List ℕ
    zs = rests own all (x ∷ [])

    begins : Among x (rests own all (x ∷ []))
    begins = rounds-first own all own (x ∷ []) x (inl refl)

    on : (m : Mention) → Among m a.mentioned → ((p m ≡ true) ⊎ (rests_on_such own all p (variable_of m) ≡ true)) → rests_on_such own all p x ≡ true
    on m k (inl r) = and_from (is_in own x) _ known (any-among (λ (b : Action). any p b.mentioned) a (writers all (rests own all (x ∷ []))) (writes-writer all (rests own all (x ∷ [])) a x h begins w) (any-among p m a.mentioned k r))
    on m k (inr r) =
        let parts = and_parts (is_in own (variable_of m)) _ r in
        let y = variable_of m in
        let b = among-any (λ (b : Action). any p b.mentioned) (writers all (rests own all (y ∷ []))) parts.1 in
        let more : Among y (grown own all (rests own all (x ∷ []))) = grown-more own all (rests own all (x ∷ [])) a x y h begins w (mentioned-local own a.mentioned m k parts.0) in
        let inside = rests-stable own all (x ∷ []) (own-one own x known) y more in
        let through = rests-through own all (x ∷ []) y (own-one own x known) inside in
        and_from (is_in own x) _ known (any-among (λ (c : Action). any p c.mentioned) b.0 (writers all (rests own all (x ∷ []))) (writers-within all (rests own all (y ∷ [])) (rests own all (x ∷ [])) b.0 through b.1) b.2)

-- what some mentions rest on
abbrev pub supported : List ℕ → List Action → List Mention → List Mention
supported own all ms = ms ++ flat_map (λ (a : Action). a.mentioned) (writers all (rests own all (locals_among own ms)))

-- whether a mention in a support passes, from the least closed answers
pub support-passes : (own : List ℕ) (all : List Action) (p : Mention → Bool) (B : ℕ → Bool) → Closed (is_in own) p B all → ((x : ℕ) → B x ≡ true → rests_on_such own all p x ≡ true) → (ms : List Mention)
    → any p (supported own all ms) ≡ any (either_way p B) ms
support-passes own all p B closed lowest ms = same-answer (any p (supported own all ms)) (any (either_way p B) ms) there back
  where
    xs : List ℕ
    xs = locals_among own ms

    mine : Own own (locals_among own ms)
    mine x h = (local-mentioned own ms x h).0

    there : any p (supported own all ms) ≡ true → any (either_way p B) ms ≡ true
    there h =
        let m = among-any p (supported own all ms) h in
        on m.0 m.2 (among-cases m.0 ms (flat_map (λ (a : Action). a.mentioned) (writers all (rests own all (locals_among own ms)))) m.1)
      where
        on : (m : Mention) → p m ≡ true → (Among m ms ⊎ Among m (flat_map (λ (a : Action). a.mentioned) (writers all (rests own all (locals_among own ms))))) → any (either_way p B) ms ≡ true
        on m q (inl k) = any-among (either_way p B) m ms k (or_left (p m) (B (variable_of m)) q)
        on m q (inr k) =
            let f = flat-among (λ (a : Action). a.mentioned) m (writers all (rests own all (locals_among own ms))) k in
            let s = rests-so own all p B closed (locals_among own ms) f.0 mine (own-rounds own all own (locals_among own ms) mine) f.1 (any-among p m f.0.mentioned f.2 q) in
            let x = among-any B (locals_among own ms) s in
            let l = local-mentioned own ms x.0 x.1 in
            any-among (either_way p B) l.1 ms l.2 (or_right (p l.1) (B (variable_of l.1)) (ap B (sym l.3) ∙ x.2))

    back : any (either_way p B) ms ≡ true → any p (supported own all ms) ≡ true
    back h =
        let m = among-any (either_way p B) ms h in
        on m.0 m.1 (or_cases (p m.0) (B (variable_of m.0)) m.2)
      where
        on : (m : Mention) → Among m ms → ((p m ≡ true) ⊎ (B (variable_of m) ≡ true)) → any p (supported own all ms) ≡ true
        on m k (inl q) = any-among p m (supported own all ms) (among-left m ms _ k) q
        on m k (inr q) =
            let y = variable_of m in
            let parts = and_parts (is_in own y) _ (lowest y q) in
            let b = among-any (λ (b : Action). any p b.mentioned) (writers all (rests own all (y ∷ []))) parts.1 in
            let inside : Among y (rests own all (locals_among own ms)) = rounds-first own all own (locals_among own ms) y (mentioned-local own ms m k parts.0) in
            let w = writers-within all (rests own all (y ∷ [])) (rests own all (locals_among own ms)) b.0 (rests-through own all (locals_among own ms) y mine inside) b.1 in
            let n = among-any p b.0.mentioned b.2 in
            any-among p n.0 (supported own all ms) (among-right n.0 ms _ (among-flat (λ (a : Action). a.mentioned) b.0 n.0 (writers all (rests own all (locals_among own ms))) w n.1)) n.2
