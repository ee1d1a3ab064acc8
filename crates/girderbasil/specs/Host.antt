-- What the structs that a host gets tell, in the paper's values. Document 01: "The host program on the phone calls it with
-- numbers and byte slices and must get the same answers."
use Rattle.std.specs.Prelude.{List, ℕ, eqb, length}
use Rattle.answer.specs.Told.{Told}
use Rattle.diagnosis.specs.Answers.{ToldScoring}
use Rattle.diagnosis.specs.Program.{diagnosing, most_report_bytes, output, output_bytes}
use Rattle.girderbasil.specs.declared.HostAnswer.{HostAnswer}
use Rattle.girderbasil.specs.declared.HostScoring.{HostScoring}
use Rattle.girderbasil.specs.declared.HostOutput.{HostOutput}

-- A count or a refusal: it is a count where the number is 0.
abbrev pub told_host : HostAnswer → Told
told_host answer = record {
  is_count = eqb answer.number 0;
  number = answer.number;
  row = answer.row;
  column = answer.column;
  count = answer.count;
}

-- The struct that a host gets for what is told. (It has no field for whether that is a count.)
abbrev pub host_numbers : Told → HostAnswer
host_numbers answer = record { number = answer.number; row = answer.row; column = answer.column; count = answer.count }

-- A record or a refusal: the table is scored where the number is 0.
abbrev pub told_host_scoring : HostScoring → ToldScoring
told_host_scoring answer = record {
  scored = eqb answer.number 0;
  number = answer.number;
  row = answer.row;
  column = answer.column;
  result = record {
    scores = answer.scores;
    count = answer.count;
    verdict = answer.verdict;
    started_by_31_may_1981 = answer.started_by_31_may_1981;
    hundredths = answer.hundredths;
    remainders = answer.remainders;
    divisors = answer.divisors;
  };
}

-- The struct that a host gets for what is printed: the number, row and column of the refusal that is told, if any, how many bytes are printed, and
-- the bytes.
abbrev pub host_output : Told → ℕ → List ℕ → HostOutput
host_output answer printed bytes = record { number = answer.number; row = answer.row; column = answer.column; count = printed; bytes = bytes }

-- What the scoring program prints for a sheet, from the front of 455 bytes, with the number, row and column of the refusal that it tells, if any.
abbrev pub printed_for : List ℕ → HostOutput
printed_for sheet = host_output (diagnosing sheet most_report_bytes) (length (output sheet)) (output_bytes sheet)
