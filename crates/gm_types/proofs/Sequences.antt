-- How a checker judges several parts one after the other.
use Rattle.std.proofs.Common.{◌≡◌, ℕ, ◌+◌, List, [], ◌∷◌, ◌++◌, ap, sym, refl, subst, ◌∙◌, Option, length, append_assoc, append-nil, length-append, arith}
use Rattle.std.specs.Prelude.{Some, None, Ok}
use Rattle.gm_base.specs.declared.rules.Refusal.{Refusal}
use Rattle.gm_base.specs.Rules.{least_from}
use Rattle.gm_ast.specs.declared.tree.Declaration.{Declaration}
use Rattle.gm_ast.specs.Judged.{Judged, both_of, beside, part_by, broken_by, judge, alone}
use Rattle.gm_ast.specs.Names.{Env, later, both, judged_each}
use Rattle.gm_types.specs.declared.names.Checker.{Checker}
use Rattle.gm_types.specs.Views.{env_of, Judges}
use Rattle.gm_types.specs.Shapes.{with_last, joined, Walks}
use Rattle.gm_types.proofs.Leasts.{least_from-append}
use Rattle.gm_types.proofs.Walks.{same_counts, later-beside}

-- a rule that makes something of all parts breaks nothing
pub nothing_broken : {A B : Type 0} (o : Option A) (f : A → B) → broken_by o (λ p. Ok (f p)) ≡ []
nothing_broken None f = refl
nothing_broken (Some a) f = refl

-- nothing is joined
pub joined-none : {A : Type 0} (ys : Option (List A)) → joined (Some []) ys ≡ ys
joined-none None = refl
joined-none (Some ys) = refl

-- the end is joined
pub joined-end : {A : Type 0} (xs : Option (List A)) → joined xs (Some []) ≡ xs
joined-end None = refl
joined-end (Some xs) = ap Some (append-nil xs)

-- one part more
pub joined-last : {A : Type 0} (xs : Option (List A)) (p : Option A) (ys : Option (List A))
    → joined xs (part_by (both_of p ys) (λ q. Ok (q.0 ∷ q.1))) ≡ joined (with_last xs p) ys
joined-last None p ys = refl
joined-last (Some xs) None ys = refl
joined-last (Some xs) (Some x) None = refl
joined-last (Some xs) (Some x) (Some ys) = ap Some (sym (append_assoc xs (x ∷ []) ys))

-- what stands after a part that declares nothing
pub later-nothing : {A : Type 0} (env : Env) (x : Judged A) → x.declared ≡ [] → x.numbers ≡ 0 → later env x ≡ env
later-nothing env x d n =
    let e : env.next + length x.declared ≡ env.next = rw d (omega arith) in
    let m : env.number + x.numbers ≡ env.number = rw n (omega arith) in
    same_counts env _ _ _ _ e m

-- before the first part
pub walks-first : {X A : Type 0} (one : X → Env → Judged A) (s : Checker) (all : List X) → Walks one s s (Some []) all all
walks-first one s all = record { part = sym (joined-none _); least = refl; declared = refl; names = refl }

-- one part more
pub walks-next : {X A : Type 0} (one : X → Env → Judged A) {initial self new : Checker} {held : Option (List A)} {p : Option A} (all : List X) (x : X) (rest : List X)
    → Walks one initial self held all (x ∷ rest) → Judges self new (one x (env_of self)) p → Walks one initial new (with_last held p) all rest
walks-next one {initial = initial} {self = self} {new = new} {held = held} {p = p} all x rest w h =
    let a = one x (env_of self) in
    let r = judged_each one rest (later (env_of self) a) in
    let same : judged_each one rest (env_of new) ≡ r = ap (judged_each one rest) h.names in
    record {
      part = w.part ∙ ap (λ o. joined held (part_by (both_of o r.part) (λ q. Ok (q.0 ∷ q.1)))) (sym h.stands_for) ∙ joined-last held p r.part ∙ ap (λ j. joined (with_last held p) j.part) (sym same);
      least = w.least ∙ ap (λ bs. least_from self.least ((a.broken ++ r.broken) ++ bs)) (nothing_broken (both_of a.part r.part) (λ q. q.0 ∷ q.1))
          ∙ ap (least_from self.least) (append-nil (a.broken ++ r.broken)) ∙ least_from-append self.least a.broken r.broken
          ∙ ap (λ l. least_from l r.broken) (sym h.least) ∙ ap (λ j. least_from new.least j.broken) (sym same);
      declared = w.declared ∙ sym (append_assoc self.declarations.items a.declared r.declared) ∙ ap (λ ds. ds ++ r.declared) (sym h.declared) ∙ ap (λ j. new.declarations.items ++ j.declared) (sym same);
      names = w.names ∙ sym (later-beside (env_of self) a r) ∙ ap (λ env. later env r) (sym h.names) ∙ ap (later (env_of new)) (sym same);
    }

-- after the last part
pub walks-end : {X A : Type 0} (one : X → Env → Judged A) {initial self : Checker} {held : Option (List A)} (all : List X)
    → Walks one initial self held all [] → Judges initial self (judged_each one all (env_of initial)) held
walks-end one {initial = initial} {self = self} {held = held} all w = record {
  stands_for = sym (w.part ∙ joined-end held);
  least = sym w.least;
  declared = sym (w.declared ∙ append-nil self.declarations.items);
  names = sym (w.names ∙ later-nothing (env_of self) (judged_each one [] (env_of self)) refl refl);
}
