-- The two texts in one input, by the definition.
use Rattle.std.proofs.Common.{◌≡◌, ◌⊎◌, ◌∙◌, ℕ, Bool, true, false, List, [], ◌∷◌, ◌++◌, refl, ap, sym, inl, inr}
use Rattle.std.specs.Prelude.{◌==◌, ◌&&◌}
use Rattle.std.proofs.lemmas.Bool.{eqb-true}
use Rattle.gm_input.specs.Parts.{line_in, behind_line, is_mark, marks, program_from, graph_from, IsParted, program_alone, with_graph, mark_last}

abbrev Splits : List ℕ → List ℕ → List ℕ → Type 0
Splits bs line behind = (bs ≡ line ++ 10 ∷ behind) ⊎ ((bs ≡ line) × (behind ≡ []))

split_more : (b : ℕ) (bs line behind : List ℕ) → Splits bs line behind → Splits (b ∷ bs) (b ∷ line) behind
split_more b bs line behind (inl more) = inl (ap (λ (xs : List ℕ). b ∷ xs) more)
split_more b bs line behind (inr last) = inr (ap (λ (xs : List ℕ). b ∷ xs) last.0, last.1)

split_here : (b : ℕ) (bs : List ℕ) (t : Bool) → (b == 10) ≡ t → Splits bs (line_in bs) (behind_line bs) → Splits (b ∷ bs) (line_in (b ∷ bs)) (behind_line (b ∷ bs))
split_here b bs true e rest = rw e (inl (ap (λ (x : ℕ). x ∷ bs) (eqb-true b 10 e)))
split_here b bs false e rest = rw e (split_more b bs (line_in bs) (behind_line bs) rest)

-- some bytes are their first line, its LF and what stands behind, or that line alone
line_splits : (bs : List ℕ) → Splits bs (line_in bs) (behind_line bs)
line_splits [] = inr (refl, refl)
line_splits (b ∷ bs) = split_here b bs (b == 10) refl (line_splits bs)

-- whether the line `%%` begins with some bytes only where that line is the mark
is_marked : (begins : Bool) (bs : List ℕ) → marks begins bs ≡ true → is_mark (line_in bs) ≡ true
is_marked true bs e = e
is_marked false bs e = absurd cc

part_more : (b : ℕ) (bs program graph : List ℕ) → IsParted bs program graph → IsParted (b ∷ bs) (b ∷ program) graph
part_more b bs program graph (program_alone e none) = program_alone (ap (λ (xs : List ℕ). b ∷ xs) e) none
part_more b bs program graph (with_graph line m e) = with_graph line m (ap (λ (xs : List ℕ). b ∷ xs) e)
part_more b bs program graph (mark_last line m e none) = mark_last line m (ap (λ (xs : List ℕ). b ∷ xs) e) none

part_here : (bs : List ℕ) → is_mark (line_in bs) ≡ true → Splits bs (line_in bs) (behind_line bs) → IsParted bs [] (behind_line bs)
part_here bs m (inl more) = with_graph (line_in bs) m more
part_here bs m (inr last) = mark_last (line_in bs) m last.0 last.1

part_by : (begins : Bool) (b : ℕ) (bs : List ℕ) (t : Bool) → marks begins (b ∷ bs) ≡ t → IsParted bs (program_from (b == 10) bs) (graph_from (b == 10) bs)
    → IsParted (b ∷ bs) (program_from begins (b ∷ bs)) (graph_from begins (b ∷ bs))
part_by begins b bs true e rest = rw e (part_here (b ∷ bs) (is_marked begins (b ∷ bs) e) (line_splits (b ∷ bs)))
part_by begins b bs false e rest = rw e (part_more b bs (program_from (b == 10) bs) (graph_from (b == 10) bs) rest)

-- each text is parted
pub is_parted : (begins : Bool) (text : List ℕ) → IsParted text (program_from begins text) (graph_from begins text)
is_parted begins [] = program_alone refl refl
is_parted begins (b ∷ bs) = part_by begins b bs (marks begins (b ∷ bs)) refl (is_parted (b == 10) bs)

kept_by : (b : ℕ) (bs : List ℕ) (t : Bool) → (b == 10) ≡ t → line_in (program_from false bs) ≡ line_in bs → line_in (program_from false (b ∷ bs)) ≡ line_in (b ∷ bs)
kept_by b bs true e rest = simp e
kept_by b bs false e rest = rw e (ap (λ (xs : List ℕ). b ∷ xs) rest)

-- a line that does not begin with some bytes stays whole in the program
line_kept : (bs : List ℕ) → line_in (program_from false bs) ≡ line_in bs
line_kept [] = refl
line_kept (b ∷ bs) = kept_by b bs (b == 10) refl (line_kept bs)

line_stays : (b : ℕ) (bs : List ℕ) (t : Bool) → (b == 10) ≡ t → line_in (b ∷ program_from (b == 10) bs) ≡ line_in (b ∷ bs)
line_stays b bs true e = simp e
line_stays b bs false e = rw e (ap (λ (xs : List ℕ). b ∷ xs) (line_kept bs))

first_by : (begins : Bool) (b : ℕ) (bs : List ℕ) (t : Bool) → marks begins (b ∷ bs) ≡ t
    → program_from (b == 10) (program_from (b == 10) bs) ≡ program_from (b == 10) bs → program_from begins (program_from begins (b ∷ bs)) ≡ program_from begins (b ∷ bs)
first_by begins b bs true e rest = rw e refl
first_by begins b bs false e rest =
    let same : marks begins (b ∷ program_from (b == 10) bs) ≡ false = ap (λ (line : List ℕ). begins && is_mark line) (line_stays b bs (b == 10) refl) ∙ e in
    let once : program_from begins (b ∷ bs) ≡ b ∷ program_from (b == 10) bs = rw e refl in
    let twice : program_from begins (b ∷ program_from (b == 10) bs) ≡ b ∷ program_from (b == 10) (program_from (b == 10) bs) = rw same refl in
    ap (program_from begins) once ∙ twice ∙ ap (λ (xs : List ℕ). b ∷ xs) rest ∙ sym once

-- no line of a program is the mark
pub no_mark_left : (begins : Bool) (text : List ℕ) → program_from begins (program_from begins text) ≡ program_from begins text
no_mark_left begins [] = refl
no_mark_left begins (b ∷ bs) = first_by begins b bs (marks begins (b ∷ bs)) refl (no_mark_left (b == 10) bs)
