-- `HouseAssessment::record` meets its contract. Assumes nothing.
use Rattle.std.proofs.Common.{◌≡◌, List, map, length, arith, rules}
use Rattle.diagnosis.specs.declared.assessment.Assessment.{Assessment}
use Rattle.diagnosis.specs.Premises.{no_assessment}
use Rattle.diagnosis.proofs.SixPlaces.{six_mapped}
use Rattle.diagnosis.proofs.assessment.HouseAssessment.record.Goals as goal

pub returns : goal.returns
returns c =
    let places : List Assessment = c.args.self.now.places in
    let six : length places ≡ 6 = omega arith in
    let scores : c.map.result ≡ map (λ (one : Assessment). one.score) places =
    six_mapped (λ (one : Assessment). one.score) no_assessment _ _ six c.map.ensures.items.long
    (λ at inside. let called = c.map.ensures.items.at at no_assessment 0 inside in search rules) in
    let quotients : c.map-2.result ≡ map (λ (one : Assessment). one.quotient) places =
    six_mapped (λ (one : Assessment). one.quotient) no_assessment _ _ six c.map-2.ensures.items.long
    (λ at inside. let called = c.map-2.ensures.items.at at no_assessment no_assessment.quotient inside in search rules) in
    rw (scores, quotients, c.verdict.ensures)
