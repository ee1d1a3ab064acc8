-- `HouseAssessment::held` meets its contract. Assumes nothing.
use Rattle.std.proofs.Common.{List, arith, rules}
use Rattle.diagnosis.specs.declared.assessment.Assessment.{Assessment}
use Rattle.diagnosis.specs.Premises.{no_assessment}
use Rattle.diagnosis.proofs.SixPlaces.{six_mapped}
use Rattle.diagnosis.proofs.assessment.HouseAssessment.held.Goals as goal

pub returns : goal.returns
returns c =
    let places : List Assessment = c.args.self.now.places in
    six_mapped (λ (one : Assessment). one.held) no_assessment _ _ (omega arith) c.map.ensures.items.long
    (λ at inside. let called = c.map.ensures.items.at at no_assessment 0 inside in search rules)
