-- Where a comment ends.
use Rattle.std.proofs.Common.{◌≡◌, ℕ, ◌+◌, ◌-◌, ◌<◌, ◌≤◌, true, false, nat_eq, List, ◌++◌, length, take, drop, refl, sym, ap, subst, ◌∙◌, arith}
use Rattle.std.specs.Prelude.{codes}
use Rattle.std.specs.List.{starts_with}
use Rattle.std.proofs.lemmas.Bool.{false≢true}
use Rattle.std.proofs.lemmas.Bool.Decides.{Decides-eqb}
use Rattle.std.proofs.lemmas.List.{take-append-drop, take_at, drop_at, take_rest, length-append, length-take-le, append_assoc}
use Rattle.std.proofs.lemmas.Slice.Eq.{starts_is}
use Rattle.gm_token.specs.Scanning.{HasCommentEnd}
use Rattle.gm_token.specs.Fronts.{IsCommentEnd}

pub starts : (s p : List ℕ) → starts_with nat_eq s p ≡ true → s ≡ p ++ drop (length p) s
starts s p e = (starts_is Decides-eqb s p (starts_with nat_eq s p) refl).0 e

pub does_start : (s p rest : List ℕ) → s ≡ p ++ rest → starts_with nat_eq s p ≡ true
does_start s p rest e = (starts_is Decides-eqb s p (starts_with nat_eq s p) refl).1 rest e

-- no `*/` stands before place k
abbrev NoEndBefore : List ℕ → ℕ → Type 0
NoEndBefore text at = (k : ℕ) → k < at → starts_with nat_eq (drop k text) (codes "*/") ≡ false

-- where a comment's end stands, the text that is left begins with it
end_there : (text before after : List ℕ) → text ≡ before ++ (codes "*/" ++ after) → starts_with nat_eq (drop (length before) text) (codes "*/") ≡ true
end_there text before after e = does_start (drop (length before) text) (codes "*/") after (ap (drop (length before)) e ∙ drop_at before (codes "*/" ++ after) (length before) refl)

before_end : (text before after : List ℕ) → text ≡ before ++ (codes "*/" ++ after) → length text ≡ length before + (2 + length after)
before_end text before after e =
    let tail : length (codes "*/" ++ after) ≡ 2 + length after = length-append (codes "*/") after in
    ap (λ (x : List ℕ). length x) e ∙ length-append before (codes "*/" ++ after) ∙ ap (λ (n : ℕ). length before + n) tail

pub no_end : (text : List ℕ) (at : ℕ) → length text ≤ at → NoEndBefore text at → ¬ HasCommentEnd text
no_end text at le none h =
    let size = before_end text h.0 h.1.0 h.1.1 in
    false≢true (sym (none (length h.0) (omega arith)) ∙ end_there text h.0 h.1.0 h.1.1)

pub end_found : (text : List ℕ) (at : ℕ) → at < length text → NoEndBefore text at → starts_with nat_eq (take (length text - at) (drop at text)) (codes "*/") ≡ true → IsCommentEnd text (at + 2)
end_found text at lt none e = record { in_text = in_text; body = take at text; spelled = spelled; no_earlier_end = no_earlier }
  where
    later : List ℕ
    later = drop 2 (drop at text)

    here : drop at text ≡ codes "*/" ++ later
    here = starts (drop at text) (codes "*/") (subst (λ (x : List ℕ). starts_with nat_eq x (codes "*/") ≡ true) (take_rest text at) e)

    whole : text ≡ take at text ++ (codes "*/" ++ later)
    whole = sym (take-append-drop at text) ∙ ap (λ (x : List ℕ). take at text ++ x) here

    front_size : length (take at text) ≡ at
    front_size = length-take-le at text (omega arith)

    in_text : at + 2 ≤ length text
    in_text = omega (arith, before_end text (take at text) later whole, front_size)

    spelled : take (at + 2) text ≡ take at text ++ codes "*/"
    spelled =
        let size : length (take at text ++ codes "*/") ≡ at + 2 = length-append (take at text) (codes "*/") ∙ ap (λ (n : ℕ). n + 2) front_size in
        ap (take (at + 2)) (whole ∙ sym (append_assoc (take at text) (codes "*/") later)) ∙ take_at (take at text ++ codes "*/") later (at + 2) size

    no_earlier : ¬ HasCommentEnd (take at text ++ codes "*")
    no_earlier h =
        let before = h.0 in
        let after = h.1.0 in
        let size : length (take at text ++ codes "*") ≡ at + 1 = length-append (take at text) (codes "*") ∙ ap (λ (n : ℕ). n + 1) front_size in
        let sizes = before_end (take at text ++ codes "*") before after h.1.1 in
        let joined : text ≡ (take at text ++ codes "*") ++ (codes "/" ++ later) = whole ∙ sym (append_assoc (take at text) (codes "*") (codes "/" ++ later)) in
        let again : text ≡ before ++ (codes "*/" ++ (after ++ (codes "/" ++ later))) = joined ∙ ap (λ (x : List ℕ). x ++ (codes "/" ++ later)) h.1.1 ∙ append_assoc before (codes "*/" ++ after) (codes "/" ++ later) in
        false≢true (sym (none (length before) (omega arith)) ∙ end_there text before (after ++ (codes "/" ++ later)) again)
