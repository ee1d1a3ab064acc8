-- The scores of a house as they are listed: storey by storey, in the record, and the least of them. Assumes nothing.
use Rattle.std.proofs.Common.{◌≡◌, refl, sym, ap, ◌∙◌, Bool, true, false, cond, List, [], ◌∷◌, ◌++◌, append_assoc, ℕ, ◌+◌, ◌*◌, ◌<◌, min, zero, suc, ◌-◌, ◌/◌, ◌%◌, ◌≤◌, add-one, arith, length, get_or, drop, eqb}
use native.Mathlib.Nat.{min-le_right}
use native.Mathlib.Decide.{dec_lt}
use lib.ListN.{get_or-append}
use Rattle.answer.specs.Told.{Told, accepts}
use Rattle.answer.specs.Lists.{joined, over}
use Rattle.answer.proofs.Lists.{joined_length, joined_part, part_at}
use Rattle.survey.specs.Table.{storeys}
use Rattle.survey.specs.Judgement.{judging}
use Rattle.survey.proofs.RefusalNumbers.{judging_by_number, judging_accepts}
use Rattle.diagnosis.specs.House.{InHouse, score_with, full_score, full_quotient, storey_by_storey, scores, least_of, least_score, house_verdict}
use Rattle.diagnosis.specs.Answers.{no_numbers, six_numbers, ToldScoring, told_scored, told_refused, Scoring, told_scoring, record_with, record_of, scoring, score_at}
use Rattle.diagnosis.proofs.AcceptedTables.{storeys_few}

-- The least of some scores, and of one more.
least_more : (some : List ℕ) (x : ℕ) → min (least_of some) x ≡ least_of (some ++ x ∷ [])
unfolding least_of
least_more [] x = omega arith
least_more (one ∷ others) x = omega (arith, least_more others x)

pub score_more : (f : ℕ → ℕ) (at : ℕ) {least x : ℕ} → least ≡ least_of (joined at (λ i. f i ∷ [])) → x ≡ f at
    → min least x ≡ least_of (joined (at + 1) (λ i. f i ∷ []))
unfolding joined
score_more f at so_far one = rw (so_far, one, add-one) (least_more (joined at (λ i. f i ∷ [])) (f at))

-- And of a storey's two more.
least_two_more : (some : List ℕ) (x y : ℕ) → min (min (least_of some) x) y ≡ least_of (some ++ x ∷ y ∷ [])
least_two_more some x y =
    ap (λ (least : ℕ). min least y) (least_more some x) ∙ least_more (some ++ x ∷ []) y ∙ ap least_of (append_assoc some (x ∷ []) (y ∷ []))

-- The scores of the first storeys, so many, and those of a storey more.
abbrev pub scores_below : List ℕ → (ℕ → ℕ → ℕ) → ℕ → List ℕ
scores_below table held n =
    joined n (λ below. score_with table (held (below + 1) 1) (below + 1) 1 ∷ score_with table (held (below + 1) 2) (below + 1) 2 ∷ [])

joined_next : (f : ℕ → List ℕ) (n : ℕ) → joined (n + 1) f ≡ joined n f ++ f n
unfolding joined
joined_next f n = rw add-one

pub storey_more : (table : List ℕ) (held : ℕ → ℕ → ℕ) (below : ℕ) {least x y : ℕ} → least ≡ least_of (scores_below table held below)
    → x ≡ score_with table (held (below + 1) 1) (below + 1) 1 → y ≡ score_with table (held (below + 1) 2) (below + 1) 2
    → min (min least x) y ≡ least_of (scores_below table held (below + 1))
storey_more table held below so_far one other = rw (so_far, one, other, joined_next) (least_two_more (scores_below table held below) _ _)

-- A number for each storey and direction is two a storey, and so are the scores.
numbers_length : (table : List ℕ) (number : ℕ → ℕ → ℕ) → length (storey_by_storey table number) ≡ 2 * storeys table
numbers_length table number = joined_length 2 (λ below. number (below + 1) 1 ∷ number (below + 1) 2 ∷ []) (λ i. refl) (storeys table)

pub scores_length : (table : List ℕ) → length (scores table) ≡ 2 * storeys table
unfolding scores
scores_length table = numbers_length table (full_score table)

-- What holds of 1 and 2 holds of a direction, and of a storey of two.
pub one_or_two : (P : ℕ → Type 0) → P 1 → P 2 → (n : ℕ) → 1 ≤ n → n ≤ 2 → P n
one_or_two P one two zero some most = absurd (omega arith)
one_or_two P one two (suc zero) some most = one
one_or_two P one two (suc (suc zero)) some most = two
one_or_two P one two (suc (suc (suc n))) some most = absurd (omega arith)

module _ (table : List ℕ) (storey direction : ℕ) (s : InHouse table storey direction) where
  -- Among such numbers, that of a storey and direction; and from the front of six places.
  module _ (number : ℕ → ℕ → ℕ) where
    number_listed : get_or (storey_by_storey table number) (score_at storey direction) 0 ≡ number storey direction
    number_listed =
        let next : storey - 1 + 1 ≡ storey = omega arith in
        sym (part_at 2 (storey - 1) (storey_by_storey table number) (direction - 1) (omega arith))
        ∙ ap (λ (p : List ℕ). get_or p (direction - 1) 0)
        (joined_part 2 (λ below. number (below + 1) 1 ∷ number (below + 1) 2 ∷ []) (λ i. refl) (storeys table) (storey - 1) (omega arith))
        ∙ rw next (one_or_two (λ d. get_or (number storey 1 ∷ number storey 2 ∷ []) (d - 1) 0 ≡ number storey d) refl refl direction s.some_direction s.last_direction)

    pub number_in_six : get_or (six_numbers table number) (score_at storey direction) 0 ≡ number storey direction
    unfolding six_numbers over
    number_in_six =
        let listed = storey_by_storey table number in
        get_or-append listed (drop (length listed) no_numbers) 0 (score_at storey direction) (omega (arith, numbers_length table number)) ∙ number_listed

  -- So it is with the scores, also in the house's record.
  pub score_listed : get_or (scores table) (score_at storey direction) 0 ≡ full_score table storey direction
  unfolding scores
  score_listed = number_listed (full_score table)

  pub record_score : get_or (record_of table).scores (score_at storey direction) 0 ≡ full_score table storey direction
  unfolding record_of record_with
  record_score = number_in_six (full_score table)

pub record_verdict : (table : List ℕ) → (record_of table).verdict ≡ house_verdict table
unfolding record_of record_with house_verdict least_score scores
record_verdict table = refl

-- The record that scoring answers, where the table is accepted.
pub record_told : (table : List ℕ) (a : Scoring) → (judging table).number ≡ 0 → told_scoring a ≡ scoring table → (told_scoring a).result ≡ record_of table
unfolding scoring
record_told table a h e = ap (λ (x : ToldScoring). x.result) e ∙ rw (judging_accepts table h)

-- A table is scored just where the refusal's number is 0.
pub scored_by_number : (table : List ℕ) → (scoring table).scored ≡ eqb (scoring table).number 0
unfolding scoring
scored_by_number table = go (accepts (judging table)) refl
  where
    judged : Told
    judged = judging table

    go : (accepted : Bool) → accepts judged ≡ accepted
        → (cond accepted (told_scored (record_of table)) (told_refused judged.number judged.row judged.column)).scored
        ≡ eqb (cond accepted (told_scored (record_of table)) (told_refused judged.number judged.row judged.column)).number 0
    go true e = refl
    go false e = sym e ∙ judging_by_number table

-- The storey and direction of a place among the scores.
pub in_house_at : (table : List ℕ) (i : ℕ) → i < 2 * storeys table → InHouse table (i / 2 + 1) (i % 2 + 1)
in_house_at table i inside =
    record { some_storey = omega arith; last_storey = omega arith; some_direction = omega arith; last_direction = omega arith }

-- The least of scores of which none is above those of another list.
pub least_falls : (x y : List ℕ) → length x ≡ length y → ((i : ℕ) → i < length y → get_or x i 0 ≤ get_or y i 0) → least_of x ≤ least_of y
unfolding least_of
least_falls [] [] long below = omega arith
least_falls [] (b ∷ y) long below = absurd (omega arith)
least_falls (a ∷ x) [] long below = absurd (omega arith)
least_falls (a ∷ x) (b ∷ y) long below =
    omega (arith, below 0 (omega arith), least_falls x y (omega arith) (λ i l. below (suc i) (omega arith)))

-- The least is at most each of them, and is one of them where none is above 999.
pub least_at_most : (some : List ℕ) (i : ℕ) → i < length some → least_of some ≤ get_or some i 0
unfolding least_of
least_at_most [] i inside = absurd (omega arith)
least_at_most (one ∷ others) zero inside = omega arith
least_at_most (one ∷ others) (suc i) inside = omega (arith, least_at_most others i (omega arith))

abbrev Found : List ℕ → ℕ → Type 0
Found some least = (i : ℕ) × (i < length some) × (least ≡ get_or some i 0)

pub least_listed : (some : List ℕ) → 0 < length some → ((i : ℕ) → i < length some → get_or some i 0 ≤ 999) → Found some (least_of some)
unfolding least_of
least_listed [] any small = absurd (omega arith)
least_listed (one ∷ []) any small = (0, omega arith, omega (arith, small 0 (omega arith)))
least_listed (one ∷ other ∷ others) any small =
    go (dec_lt one (least_of (other ∷ others))) (least_listed (other ∷ others) (omega arith) (λ i l. small (suc i) (omega arith)))
  where
    go : Dec (one < least_of (other ∷ others)) → Found (other ∷ others) (least_of (other ∷ others))
        → Found (one ∷ other ∷ others) (min one (least_of (other ∷ others)))
    go (yes first) found = (0, omega arith, omega arith)
    go (no later) found = (suc found.0, omega (arith, found.1), omega (arith, found.2))

-- So it is with a house's least score.
pub least_score_most : (table : List ℕ) (storey direction : ℕ) → InHouse table storey direction → least_score table ≤ full_score table storey direction
unfolding least_score
least_score_most table storey direction s =
    rw (← score_listed table storey direction s) (least_at_most (scores table) (score_at storey direction) (omega (arith, scores_length table)))

pub score_at_lem : (table : List ℕ) (i : ℕ) → i < 2 * storeys table → get_or (scores table) i 0 ≡ full_score table (i / 2 + 1) (i % 2 + 1)
score_at_lem table i inside =
    let place : score_at (i / 2 + 1) (i % 2 + 1) ≡ i = omega arith in
    rw place at (score_listed table (i / 2 + 1) (i % 2 + 1) (in_house_at table i inside))

pub score_small : (table : List ℕ) (storey direction : ℕ) → full_score table storey direction ≤ 999
unfolding score_with
score_small table storey direction = min-le_right (full_quotient table storey direction).hundredths 999

pub least_score_one : (table : List ℕ) → (judging table).number ≡ 0
    → (storey : ℕ) × (direction : ℕ) × InHouse table storey direction × (least_score table ≡ full_score table storey direction)
unfolding least_score
least_score_one table h =
    let long = scores_length table in
    let found = least_listed (scores table) (omega (arith, long, storeys_few table h)) (λ i l. rw (score_at_lem table i (omega (arith, long))) (score_small table _ _)) in
    let inside : found.0 < 2 * storeys table = omega (arith, found.1, long) in
    (found.0 / 2 + 1, found.0 % 2 + 1, in_house_at table found.0 inside, found.2 ∙ score_at_lem table found.0 inside)
