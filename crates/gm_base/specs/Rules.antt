-- The rules in their order, how a refusal is written, and the least of several refusals.
use Rattle.std.specs.Prelude.{◌≡◌, ℕ, nat_lt, Bool, false, All, Contains, ◌&&◌, ◌||◌, if◌then◌else◌, List, [], ◌∷◌, ◌++◌, Option, Some, None, codes}
use Rattle.gm_base.specs.declared.places.Place.{Place}
use Rattle.gm_base.specs.declared.rules.Rule.{Rule}
use Rattle.gm_base.specs.declared.rules.Rule.TheVariants.{BadByte, NumberTooLarge, OpenComment, TextTooLong, U1, U2, U3, U4, U5, U6, U7, U8, Syntax, TooDeep, T1, T2, T3, T4, T5, T6, T7, T8, T9, T10, T11, T12, T13, T14, T15, R1, R2, R3, R4, R5, R6, C1, C2, C3, C4, C5, C6, C7, C8, C9, C10, TooLarge}
use Rattle.gm_base.specs.declared.rules.Refusal.{Refusal}
use Rattle.gm_base.specs.declared.rules.Stop.{Stop}
use Rattle.gm_base.specs.declared.rules.Stop.TheVariants.{Refused, NoMemory}
use Rattle.gm_base.specs.Places.{place_eq, place_lt, place_text}

-- a rule's number in the order of the rules
abbrev pub rank_of : Rule → ℕ
rank_of BadByte = 0
rank_of NumberTooLarge = 1
rank_of OpenComment = 2
rank_of TextTooLong = 3
rank_of U1 = 4
rank_of U2 = 5
rank_of U3 = 6
rank_of U4 = 7
rank_of U5 = 8
rank_of U6 = 9
rank_of U7 = 10
rank_of U8 = 11
rank_of Syntax = 12
rank_of TooDeep = 13
rank_of T1 = 14
rank_of T2 = 15
rank_of T3 = 16
rank_of T4 = 17
rank_of T5 = 18
rank_of T6 = 19
rank_of T7 = 20
rank_of T8 = 21
rank_of T9 = 22
rank_of T10 = 23
rank_of T11 = 24
rank_of T12 = 25
rank_of T13 = 26
rank_of T14 = 27
rank_of T15 = 28
rank_of R1 = 29
rank_of R2 = 30
rank_of R3 = 31
rank_of R4 = 32
rank_of R5 = 33
rank_of R6 = 34
rank_of C1 = 35
rank_of C2 = 36
rank_of C3 = 37
rank_of C4 = 38
rank_of C5 = 39
rank_of C6 = 40
rank_of C7 = 41
rank_of C8 = 42
rank_of C9 = 43
rank_of C10 = 44
rank_of TooLarge = 45

-- a rule's name
abbrev pub rule_text : Rule → List ℕ
rule_text BadByte = codes "BadByte"
rule_text NumberTooLarge = codes "NumberTooLarge"
rule_text OpenComment = codes "OpenComment"
rule_text TextTooLong = codes "TextTooLong"
rule_text U1 = codes "U1"
rule_text U2 = codes "U2"
rule_text U3 = codes "U3"
rule_text U4 = codes "U4"
rule_text U5 = codes "U5"
rule_text U6 = codes "U6"
rule_text U7 = codes "U7"
rule_text U8 = codes "U8"
rule_text Syntax = codes "Syntax"
rule_text TooDeep = codes "TooDeep"
rule_text T1 = codes "T1"
rule_text T2 = codes "T2"
rule_text T3 = codes "T3"
rule_text T4 = codes "T4"
rule_text T5 = codes "T5"
rule_text T6 = codes "T6"
rule_text T7 = codes "T7"
rule_text T8 = codes "T8"
rule_text T9 = codes "T9"
rule_text T10 = codes "T10"
rule_text T11 = codes "T11"
rule_text T12 = codes "T12"
rule_text T13 = codes "T13"
rule_text T14 = codes "T14"
rule_text T15 = codes "T15"
rule_text R1 = codes "R1"
rule_text R2 = codes "R2"
rule_text R3 = codes "R3"
rule_text R4 = codes "R4"
rule_text R5 = codes "R5"
rule_text R6 = codes "R6"
rule_text C1 = codes "C1"
rule_text C2 = codes "C2"
rule_text C3 = codes "C3"
rule_text C4 = codes "C4"
rule_text C5 = codes "C5"
rule_text C6 = codes "C6"
rule_text C7 = codes "C7"
rule_text C8 = codes "C8"
rule_text C9 = codes "C9"
rule_text C10 = codes "C10"
rule_text TooLarge = codes "TooLarge"

-- whether a refusal comes before another: by place, and at one place by rule
abbrev pub refusal_lt : Refusal → Refusal → Bool
refusal_lt a b = place_lt a.place b.place || (place_eq a.place b.place && nat_lt (rank_of a.rule) (rank_of b.rule))

-- a refusal as it is written
abbrev pub refusal_text : Refusal → List ℕ
refusal_text r = codes "refused " ++ rule_text r.rule ++ codes " at " ++ place_text r.place

-- why a text was given no answer, as it is written
abbrev pub stop_text : Stop → List ℕ
stop_text (Refused r) = refusal_text r
stop_text NoMemory = codes "out of memory"

-- a rule that is broken at a place
abbrev pub broken_at : Rule → Place → Refusal
broken_at r at = record { rule = r; place = at }

-- the lesser of the least so far and one more refusal
abbrev pub lesser : Option Refusal → Refusal → Option Refusal
lesser None b = Some b
lesser (Some a) b = if refusal_lt b a then Some b else Some a

-- the least of what is least so far and of more refusals
abbrev pub least_from : Option Refusal → List Refusal → Option Refusal
least_from best [] = best
least_from best (b ∷ rest) = least_from (lesser best b) rest

-- the least of all refusals
abbrev pub least : List Refusal → Option Refusal
least rs = least_from None rs

-- one of some refusals, before which none of them comes
pub record IsLeast (rs : List Refusal) (r : Refusal) : Type 0 where
  pub among : Contains rs r
  pub lowest : All (λ x. refusal_lt x r ≡ false) rs
