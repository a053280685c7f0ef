-- A look-up goes along a table row by row.
use Rattle.std.proofs.Common.{◌≡◌, ℕ, ◌+◌, ◌<◌, ◌≤◌, Bool, true, false, List, [], ◌∷◌, length, drop, get_or, sym, ap, ◌∙◌}
use Rattle.std.specs.Prelude.{if◌then◌else◌}
use Rattle.std.proofs.lemmas.List.{drop_more, drop_all}

-- F is the look-up: what `found` says of the first row that passes the test
module _ {R Y : Type 0} (F : List R → Y) (test : R → Bool) (found : R → Y) (step : (r : R) (rs : List R) → F (r ∷ rs) ≡ (if test r then found r else F rs)) where
  at : (rs : List R) (i : ℕ) (d : R) → i < length rs → F (drop i rs) ≡ (if test (get_or rs i d) then found (get_or rs i d) else F (drop (i + 1) rs))
  at rs i d lt = ap F (drop_more rs i d lt) ∙ step (get_or rs i d) (drop (i + 1) rs)

  -- the row at i passes
  pub found_at : (rs : List R) (i : ℕ) (d : R) → F (drop i rs) ≡ F rs → i < length rs → test (get_or rs i d) ≡ true → found (get_or rs i d) ≡ F rs
  found_at rs i d so_far lt e = sym (at rs i d lt ∙ ap (λ (b : Bool). if b then found (get_or rs i d) else F (drop (i + 1) rs)) e) ∙ so_far

  -- the row at i does not pass
  pub passed_at : (rs : List R) (i : ℕ) (d : R) → F (drop i rs) ≡ F rs → i < length rs → test (get_or rs i d) ≡ false → F (drop (i + 1) rs) ≡ F rs
  passed_at rs i d so_far lt e = sym (at rs i d lt ∙ ap (λ (b : Bool). if b then found (get_or rs i d) else F (drop (i + 1) rs)) e) ∙ so_far

  -- no row is left
  pub none_left : (rs : List R) (i : ℕ) → F (drop i rs) ≡ F rs → length rs ≤ i → F [] ≡ F rs
  none_left rs i so_far le = ap F (sym (drop_all i rs le)) ∙ so_far
