-- `HostScoring::from` meets its contract: the fields that it does not fill are 0. Assumes nothing.
use Rattle.std.proofs.Common.{◌≡◌, ◌∙◌, sym, List, [], ◌∷◌, ℕ, ◌<◌, arith, rules, refl, length, map, cond}
use Rattle.std.specs.Array.{AllOfLen}
use Rattle.std.proofs.lemmas.List.{ext_get_or, get_or-replicate}
use Rattle.method.specs.declared.scores.Quotient.{Quotient}
use Rattle.diagnosis.proofs.SixPlaces.{six_mapped}
use Rattle.girderbasil.specs.declared.HostScoring.{HostScoring}
use Rattle.girderbasil.proofs.HostScoringFromResultRecordRefusal.from.Goals as goal

abbrev six_zeros : List ℕ
six_zeros = 0 ∷ 0 ∷ 0 ∷ 0 ∷ 0 ∷ 0 ∷ []

zeros_are : (xs : List ℕ) → AllOfLen (λ n. n ≡ 0) xs 6 → xs ≡ six_zeros
zeros_are xs all = ext_get_or 0 xs six_zeros all.long (λ at inside.
    let within : at < 6 = omega (arith, all.long) in
    all.at at 0 within ∙ sym (get_or-replicate 6 at 0 0 within))

abbrev nothing : HostScoring
nothing = record {
  number = 0;
  row = 0;
  column = 0;
  scores = six_zeros;
  count = 0;
  verdict = 0;
  started_by_31_may_1981 = 0;
  hundredths = six_zeros;
  remainders = six_zeros;
  divisors = six_zeros;
}

pub returns-in-Ok : goal.returns-in-Ok
returns-in-Ok c =
    let row : c.default.result.row ≡ 0 = search rules in
    let column : c.default.result.column ≡ 0 = search rules in
    let quotients : List Quotient = c.in-Ok.found.quotients in
    let none : Quotient = record { hundredths = 0; remainder = 0; divisor = 0 } in
    let six : length quotients ≡ 6 = omega arith in
    let started : c.into-in-Ok.result ≡ cond c.in-Ok.found.started_by_31_may_1981 1 0 = search rules in
    let hundredths : c.map-hundredths.result ≡ map (λ (q : Quotient). q.hundredths) quotients =
    six_mapped (λ (q : Quotient). q.hundredths) none _ _ six c.map-hundredths.ensures.items.long
    (λ at inside. let called = c.map-hundredths.ensures.items.at at none 0 inside in search rules) in
    let remainders : c.map-remainders.result ≡ map (λ (q : Quotient). q.remainder) quotients =
    six_mapped (λ (q : Quotient). q.remainder) none _ _ six c.map-remainders.ensures.items.long
    (λ at inside. let called = c.map-remainders.ensures.items.at at none 0 inside in search rules) in
    let divisors : c.map-divisors.result ≡ map (λ (q : Quotient). q.divisor) quotients =
    six_mapped (λ (q : Quotient). q.divisor) none _ _ six c.map-divisors.ensures.items.long
    (λ at inside. let called = c.map-divisors.ensures.items.at at none 0 inside in search rules) in
    rw (row, column, c.in-Ok.is, c.into.ensures, started, hundredths, remainders, divisors) refl

pub returns-in-Err : goal.returns-in-Err
returns-in-Err c =
    let none : ◌≡◌ {A = HostScoring} c.default-in-Err.result nothing = search (rules, zeros_are) in
    rw none (search rules)
