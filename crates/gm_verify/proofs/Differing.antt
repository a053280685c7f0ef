-- Numbers that differ from each other, as a set of those before shows it.
use Rattle.std.proofs.Common.{◌≡◌, ℕ, Bool, true, false, cond, not, ◌||◌, List, [], ◌∷◌, refl, sym, ap, ◌∙◌}
use Rattle.std.specs.Prelude.{nat_eq, ◌==◌, ◌&&◌}
use Rattle.std.specs.List.{list_any}
use Rattle.std.specs.HashSet.{HashSet, contains}
use Rattle.gm_image.specs.Parts.{is_among}
use Rattle.gm_image.specs.Fits.{differ_after}

-- whether all numbers differ is whether those that are left differ from each other and from those that a set has
pub record Differs {S : Type 0} (set : HashSet ℕ S) (all rest : List ℕ) : Type 0 where
  pub before : List ℕ
  pub members : (n : ℕ) → contains nat_eq set n ≡ is_among n before
  pub same : differ_after before rest ≡ differ_after [] all

pub differs-start : {S : Type 0} (set : HashSet ℕ S) (all : List ℕ) → set.keys ≡ [] → Differs set all all
differs-start set all empty = record { before = []; members = λ n. ap (λ (ks : List ℕ). list_any (nat_eq n) ks) empty; same = refl }

pub cond-or : (a b : Bool) → cond a true b ≡ (a || b)
cond-or true b = refl
cond-or false b = refl

-- one more number, which the set has not
pub differs-next : {S : Type 0} (set new : HashSet ℕ S) (all rest : List ℕ) (x : ℕ) (added : Bool) → Differs set all (x ∷ rest)
    → ((n : ℕ) → contains nat_eq new n ≡ cond (nat_eq x n) true (contains nat_eq set n)) → added ≡ not (contains nat_eq set x) → added ≡ true → Differs new all rest
differs-next set new all rest x added d put is one =
    let other : not (is_among x d.before) ≡ true = ap not (sym (d.members x)) ∙ sym is ∙ one in
    record {
      before = x ∷ d.before;
      members = λ n. put n ∙ cond-or (nat_eq x n) (contains nat_eq set n) ∙ ap (λ (b : Bool). x == n || b) (d.members n);
      same = sym (ap (λ (b : Bool). b && differ_after (x ∷ d.before) rest) other) ∙ d.same;
    }

-- one that the set has
pub differs-stop : {S : Type 0} (set : HashSet ℕ S) (all rest : List ℕ) (x : ℕ) (added : Bool) → Differs set all (x ∷ rest)
    → added ≡ not (contains nat_eq set x) → added ≡ false → false ≡ differ_after [] all
differs-stop set all rest x added d is none =
    let again : not (is_among x d.before) ≡ false = ap not (sym (d.members x)) ∙ sym is ∙ none in
    sym (ap (λ (b : Bool). b && differ_after (x ∷ d.before) rest) again) ∙ d.same

-- none is left
pub differs-end : {S : Type 0} (set : HashSet ℕ S) (all : List ℕ) → Differs set all [] → true ≡ differ_after [] all
differs-end set all d = d.same
