-- The names of a loop or reduction, and how they are forgotten at its end.
use Rattle.std.proofs.Common.{◌≡◌, ℕ, ◌+◌, ◌-◌, Bool, true, false, List, [], ◌∷◌, ◌++◌, take, length, map, ap, sym, subst, ◌∙◌, Option, append_assoc, append-nil, length-append, arith, refl}
use Rattle.std.specs.Prelude.{Some, is_none, if◌then◌else◌}
use Rattle.std.proofs.Math.Seq.{take-append_seam}
use Rattle.std.proofs.lemmas.List.{take-map, length-map}
use Rattle.gm_base.specs.Rules.{least_from}
use Rattle.gm_types.proofs.Leasts.{least_from-append}
use Rattle.gm_value.specs.declared.values.VType.{VType}
use Rattle.gm_ast.specs.declared.tree.Key.{Key}
use Rattle.gm_ast.specs.declared.kinds.Binding.{Binding}
use Rattle.gm_ast.specs.Surface.{SurfaceName}
use Rattle.gm_ast.specs.Judged.{Judged, both_of}
use Rattle.gm_ast.specs.Names.{Known, Env, known_as, known_with, declared_as, an_iterator, inside, later, iterated}
use Rattle.gm_types.specs.declared.names.Checker.{Checker}
use Rattle.gm_types.specs.Views.{env_of, known_of, known_in, Judges, Enters, Leaves}

-- all members of a list are its first ones
take-all : {A : Type 0} (xs : List A) → take (length xs) xs ≡ xs
take-all xs = ap (take (length xs)) (sym (append-nil xs)) ∙ take-append_seam xs []

-- the names round a loop are the first of those in it
pub take-known_with : (known : List Known) (text : List ℕ) (b : Binding) → take (length known) (known_with known text b) ≡ known
take-known_with known text b = go (is_none (known_as known text))
  where
    go : (c : Bool) → take (length known) (if c then known ++ (record { text = text; binding = b } ∷ []) else known) ≡ known
    go true = take-append_seam known _
    go false = take-all known

-- two environments with equal parts
pub env-same : (a b : Env) → a.known ≡ b.known → a.next ≡ b.next → a.number ≡ b.number → a.key ≡ b.key → a.depth ≡ b.depth → a.group ≡ b.group → a.iterators ≡ b.iterators → a.result ≡ b.result → a ≡ b
env-same a b k n m y d g i r =
    ap (λ (x : List Known). record a { known = x }) k
    ∙ ap (λ (x : ℕ). record a { known = b.known; next = x }) n
    ∙ ap (λ (x : ℕ). record a { known = b.known; next = b.next; number = x }) m
    ∙ ap (λ (x : Key). record a { known = b.known; next = b.next; number = b.number; key = x }) y
    ∙ ap (λ (x : ℕ). record a { known = b.known; next = b.next; number = b.number; key = b.key; depth = x }) d
    ∙ ap (λ (x : Bool). record a { known = b.known; next = b.next; number = b.number; key = b.key; depth = b.depth; group = x }) g
    ∙ ap (λ (x : List ℕ). record a { known = b.known; next = b.next; number = b.number; key = b.key; depth = b.depth; group = b.group; iterators = x }) i
    ∙ ap (λ (x : Option VType). record a { known = b.known; next = b.next; number = b.number; key = b.key; depth = b.depth; group = b.group; iterators = b.iterators; result = x }) r

-- a list without the last that was put behind it
all_but_last : (xs : List ℕ) (x : ℕ) → take (length (xs ++ (x ∷ [])) - 1) (xs ++ (x ∷ [])) ≡ xs
all_but_last xs x =
    let e : length (xs ++ (x ∷ [])) - 1 ≡ length xs = omega (arith, length-append xs (x ∷ [])) in
    ap (λ n. take n (xs ++ (x ∷ []))) e ∙ take-append_seam xs (x ∷ [])

-- a loop's or a reduction's iterator and the parts in which it is known
pub judges-iterated : {A : Type 0} {old mid inner new : Checker} {p : Option A} (name : SurfaceName) (loops : ℕ) (body : Env → Judged A)
    → Enters old mid name loops → Judges mid inner (body (env_of mid)) p → Leaves old inner new
    → Judges old new (iterated name loops body (env_of old)) (both_of (Some (length old.declarations.items)) p)
judges-iterated {A = A} {old = old} {mid = mid} {inner = inner} {new = new} {p = p} name loops body e h l =
    let env = env_of old in
    let d = declared_as env name (an_iterator (old.depth + loops)) in
    let x = body (inside env name loops) in
    let h' : Judges mid inner x p = subst (λ (w : Judged A). Judges mid inner w p) (ap body e.names) h in
    let names : env_of inner ≡ later (inside env name loops) x = h'.names ∙ ap (λ v. later v x) e.names in
    let declared : new.declarations.items ≡ old.declarations.items ++ (d.declared ++ x.declared) =
    l.declared ∙ h'.declared ∙ ap (λ vs. vs ++ x.declared) e.declared ∙ append_assoc old.declarations.items d.declared x.declared in
    let n : ℕ = length old.scope.names.entries in
    let same_length : n ≡ length env.known = sym (length-map old.scope.names.entries known_of) in
    let known : known_in new.scope.names.entries ≡ env.known =
    ap (map known_of) l.known ∙ sym (take-map known_of n inner.scope.names.entries) ∙ ap (λ (v : Env). take n v.known) names
    ∙ ap (λ m. take m (inside env name loops).known) same_length ∙ take-known_with env.known name.text _ in
    let next : length new.declarations.items ≡ env.next + length (d.declared ++ x.declared) = ap length declared ∙ length-append old.declarations.items (d.declared ++ x.declared) in
    let number : new.number ≡ env.number + (0 + x.numbers) = l.number ∙ ap (λ (v : Env). v.number) names ∙ omega arith in
    let iterators : new.iterators.items ≡ env.iterators =
    l.iterators ∙ ap (λ (v : Env). take (length v.iterators - 1) v.iterators) names ∙ all_but_last env.iterators env.next in
    record {
      stands_for = ap (both_of (Some (length old.declarations.items))) h'.stands_for;
      least = l.least ∙ h'.least ∙ ap (λ b. least_from b x.broken) e.least ∙ sym (least_from-append old.least d.broken x.broken);
      declared = declared;
      names = env-same _ _ known next number l.key l.depth (l.group ∙ ap (λ (v : Env). v.group) names) iterators (l.result ∙ ap (λ (v : Env). v.result) names);
    }
