-- What scoring answers. Document 01: "scoring has its record in place of the count, all 0 when refused"; "The library answers with a record of
-- up to six scores with the verdict." Document 02, request 3: it "also says whether work started by 31 May 1981", and request 4: it "gives beside
-- each score, the whole hundredths, the remainder and the divisor".
use Rattle.std.specs.Prelude.{Bool, true, false, cond, List, [], ◌∷◌, ℕ, ◌+◌, ◌-◌, ◌*◌, get_or, map, min, Result, Ok, Err}
use Rattle.answer.specs.declared.refusal.Refusal.{Refusal}
use Rattle.answer.specs.Told.{Told, number_of, accepts}
use Rattle.answer.specs.Lists.{over}
use Rattle.survey.specs.Table.{storeys}
use Rattle.survey.specs.Judgement.{judging}
use Rattle.method.specs.declared.scores.Quotient.{Quotient}
use Rattle.method.specs.Held.{most_held}
use Rattle.method.specs.Score.{verdict}
use Rattle.method.specs.Verdicts.{verdict_number}
use Rattle.diagnosis.specs.declared.scores.Record.{Record}
use Rattle.diagnosis.specs.House.{held, quotient_with, score_with, storey_by_storey, scores_with, least_of, started_by_31_may_1981}

-- The paper's values of a record: six scores, storey by storey and in each storey X before Y, their count, the verdict, 1 where work started by
-- 31 May 1981, else 0, and beside the scores six whole hundredths, remainders and divisors.
pub record ToldRecord : Type 0 where
  pub scores : List ℕ
  pub count : ℕ
  pub verdict : ℕ
  pub started_by_31_may_1981 : ℕ
  pub hundredths : List ℕ
  pub remainders : List ℕ
  pub divisors : List ℕ

-- What the code's record tells.
abbrev pub told_record : Record → ToldRecord
told_record r = record {
  scores = r.scores;
  count = r.count;
  verdict = verdict_number r.verdict;
  started_by_31_may_1981 = cond r.started_by_31_may_1981 1 0;
  hundredths = map (λ (q : Quotient). q.hundredths) r.quotients;
  remainders = map (λ (q : Quotient). q.remainder) r.quotients;
  divisors = map (λ (q : Quotient). q.divisor) r.quotients;
}

-- The paper's values: whether the table is scored; a refusal's number (0 where it is), its row and column; and the record.
pub record ToldScoring : Type 0 where
  pub scored : Bool
  pub number : ℕ
  pub row : ℕ
  pub column : ℕ
  pub result : ToldRecord

-- Six places with nothing in them; and a number for each storey and direction of a house, from the front of six places.
abbrev pub no_numbers : List ℕ
no_numbers = 0 ∷ 0 ∷ 0 ∷ 0 ∷ 0 ∷ 0 ∷ []

unfoldable pub six_numbers : List ℕ → (ℕ → ℕ → ℕ) → List ℕ
six_numbers table number = over no_numbers (storey_by_storey table number)

-- Where six places have that of a storey and direction; and that number.
abbrev pub score_at : ℕ → ℕ → ℕ
score_at storey direction = 2 * (storey - 1) + (direction - 1)

abbrev pub number_at : List ℕ → ℕ → ℕ → ℕ
number_at six storey direction = get_or six (score_at storey direction) 0

-- "all 0 when refused".
abbrev pub no_record : ToldRecord
no_record = record {
  scores = no_numbers;
  count = 0;
  verdict = 0;
  started_by_31_may_1981 = 0;
  hundredths = no_numbers;
  remainders = no_numbers;
  divisors = no_numbers;
}

-- Held strengths that a caller gives as six numbers, as `method` counts them: any above 60,000 kN counts as that.
abbrev pub counted_as : List ℕ → ℕ → ℕ → ℕ
counted_as given storey direction = min (number_at given storey direction) most_held

-- The record of a house: its scores, their count, the verdict, whether work started by 31 May 1981, and beside each score its hundredths, remainder
-- and divisor; by held strengths that are given, one for each storey and direction, and by what its own walls hold.
unfoldable pub record_with : List ℕ → (ℕ → ℕ → ℕ) → ToldRecord
record_with table held = record {
  scores = six_numbers table (λ storey direction. score_with table (held storey direction) storey direction);
  count = 2 * storeys table;
  verdict = verdict (least_of (scores_with table held));
  started_by_31_may_1981 = started_by_31_may_1981 table;
  hundredths = six_numbers table (λ storey direction. (quotient_with table (held storey direction) storey direction).hundredths);
  remainders = six_numbers table (λ storey direction. (quotient_with table (held storey direction) storey direction).remainder);
  divisors = six_numbers table (λ storey direction. (quotient_with table (held storey direction) storey direction).divisor);
}

unfoldable pub record_of : List ℕ → ToldRecord
record_of table = record_with table (held table)

-- What is told where a table is scored, and where it is refused.
abbrev pub told_scored : ToldRecord → ToldScoring
told_scored result = record { scored = true; number = 0; row = 0; column = 0; result = result }

abbrev pub told_refused : ℕ → ℕ → ℕ → ToldScoring
told_refused number row column = record { scored = false; number = number; row = row; column = column; result = no_record }

-- What the code answers, and the paper's number and values for each case of it.
abbrev pub Scoring : Type 0
Scoring = Result Record Refusal

abbrev pub told_scoring : Scoring → ToldScoring
told_scoring (Ok r) = told_scored (told_record r)
told_scoring (Err r) = told_refused (number_of r.reason) r.row r.column

-- The refusal that is told, or a record.
abbrev pub recorded : Told → ToldRecord → ToldScoring
recorded tells result = cond (accepts tells) (told_scored result) (told_refused tells.number tells.row tells.column)

-- The answer of scoring a table: the refusal of judging it, or its record.
unfoldable pub scoring : List ℕ → ToldScoring
scoring table = recorded (judging table) (record_of table)
