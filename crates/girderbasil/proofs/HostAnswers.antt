-- Answers that cross to a host as they are told: the number says whether it is a refusal, since no refusal is numbered 0. Assumes nothing.
use Rattle.std.proofs.Common.{◌≡◌, sym, ap, ◌∙◌, false, List, ℕ, eqb}
use Rattle.answer.specs.Told.{Told}
use Rattle.diagnosis.specs.Answers.{ToldRecord, ToldScoring, scoring}
use Rattle.girderbasil.specs.declared.HostAnswer.{HostAnswer}
use Rattle.girderbasil.specs.Host.{told_host, host_numbers}
use Rattle.diagnosis.proofs.ScoreLists.{scored_by_number}

-- An answer crosses as it is told, where it is a count just where its number is 0.
pub answer_crosses : {crossed : HostAnswer} {answer tells : Told} → crossed ≡ host_numbers answer → answer ≡ tells
    → tells.is_count ≡ eqb tells.number 0 → told_host crossed ≡ tells
answer_crosses crosses e by_number = ap told_host (crosses ∙ ap host_numbers e) ∙ rw (← by_number)

-- A refusal that is told, its number, row and column, and whatever record stands beside it.
abbrev refused : ℕ → ℕ → ℕ → ToldRecord → ToldScoring
refused number row column result = record { scored = false; number = number; row = row; column = column; result = result }

refused_number : (table : List ℕ) {number row column : ℕ} {result : ToldRecord} → refused number row column result ≡ scoring table
    → eqb number 0 ≡ false
refused_number table told =
    ap (λ (t : ToldScoring). eqb t.number 0) told ∙ sym (scored_by_number table) ∙ sym (ap (λ (t : ToldScoring). t.scored) told)

-- What crosses is by its number scored or not; so it is what scoring tells.
pub refused_crosses : (table : List ℕ) {result : ToldRecord} {number row column : ℕ} {crossed : ToldScoring}
    → refused number row column result ≡ scoring table
    → crossed ≡ record { scored = eqb number 0; number = number; row = row; column = column; result = result } → crossed ≡ scoring table
refused_crosses table told crosses = crosses ∙ rw (refused_number table told) told
