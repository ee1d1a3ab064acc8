-- Six totals: whether one of a house's is above 60,000 kN, and one of them set. Assumes nothing.
use Rattle.std.specs.List.{list_any}
use Rattle.std.proofs.Common.{◌≡◌, refl, sym, ap, subst, ◌∙◌, Bool, true, false, cond, ◌||◌, T, Option, Some, None, SomeIff, List, [], ◌∷◌, ℕ, zero, suc, ◌*◌, ◌^◌, ◌<◌, ◌≤◌, arith, length, get_or, set, take, ltb, lt-ltb, le-ltb, ltb-false}
use Rattle.std.proofs.lemmas.List.{get_or-set_same, get_or-set_other, get_or-take, length-take, length-set}
use Rattle.survey.specs.Table.{cell}
use Rattle.method.specs.Held.{most_held}
use Rattle.method.specs.declared.rows.House.{House}
use Rattle.diagnosis.specs.Premises.{HouseOf}
use Rattle.diagnosis.specs.Answers.{score_at, number_at}
use Rattle.site.specs.Totals.{with_total, some_above}
use Rattle.site.specs.Internal.{InStoreys, moved}

or_any : (a b : Bool) → (a || b) ≡ false → (a ≡ false) × (b ≡ false)
or_any true b e = absurd (subst T e tt)
or_any false b e = (refl, e)

-- A test that holds of some number of a list, or of none.
any_at : (test : ℕ → Bool) (list : List ℕ) (at : ℕ) → at < length list → test (get_or list at 0) ≡ true → list_any test list ≡ true
any_at test [] at inside holds = absurd (omega arith)
any_at test (x ∷ list) zero inside holds = rw holds
any_at test (x ∷ list) (suc at) inside holds = go (test x) (any_at test list at (omega arith) holds)
  where
    go : (b : Bool) → list_any test list ≡ true → (b || list_any test list) ≡ true
    go true e = refl
    go false e = e

none_at : (test : ℕ → Bool) (list : List ℕ) → list_any test list ≡ false → (at : ℕ) → at < length list → test (get_or list at 0) ≡ false
none_at test [] none at inside = absurd (omega arith)
none_at test (x ∷ list) none zero inside = (or_any (test x) _ none).0
none_at test (x ∷ list) none (suc at) inside = none_at test list (or_any (test x) _ none).1 at (omega arith)

all_pass : (test : ℕ → Bool) (list : List ℕ) → ((at : ℕ) → at < length list → test (get_or list at 0) ≡ false) → list_any test list ≡ false
all_pass test [] each = refl
all_pass test (x ∷ list) each = rw (each 0 (omega arith)) (all_pass test list (λ at inside. each (suc at) (omega arith)))

module _ (storeys : ℕ) (few : storeys ≤ 3) (held : List ℕ) (six : length held ≡ 6) where
  -- No total of the house is above, or some one is.
  pub none_above : some_above storeys held ≡ false → (at : ℕ) → at < 2 * storeys → get_or held at 0 ≤ most_held
  unfolding some_above
  none_above e at inside =
      ltb-false _ _ (ap (λ (n : ℕ). ltb most_held n) (sym (get_or-take (2 * storeys) held at 0 inside))
      ∙ none_at (λ total. ltb most_held total) (take (2 * storeys) held) e at (omega (arith, length-take (2 * storeys) held)))

  pub some_is_above : (at : ℕ) → at < 2 * storeys → most_held < get_or held at 0 → some_above storeys held ≡ true
  unfolding some_above
  some_is_above at inside above =
      any_at (λ total. ltb most_held total) (take (2 * storeys) held) at (omega (arith, length-take (2 * storeys) held))
      (rw (get_or-take (2 * storeys) held at 0 inside) (lt-ltb most_held (get_or held at 0) above))

  pub all_within : ((at : ℕ) → at < 2 * storeys → get_or held at 0 ≤ most_held) → some_above storeys held ≡ false
  unfolding some_above
  all_within each =
      all_pass (λ total. ltb most_held total) (take (2 * storeys) held) (λ at inside.
      let below : at < 2 * storeys = omega (arith, length-take (2 * storeys) held) in
      rw (get_or-take (2 * storeys) held at 0 below) (le-ltb most_held (get_or held at 0) (each at below)))

-- One of six totals is set, by a storey and a direction, and the others stay.
module _ (held : List ℕ) (six : length held ≡ 6) (storey direction total : ℕ) (some : 1 ≤ storey) (most : storey ≤ 3) (one : 1 ≤ direction) (two : direction ≤ 2) where
  pub total_set : number_at (set held (score_at storey direction) total) storey direction ≡ total
  total_set = get_or-set_same held (score_at storey direction) total 0 (omega arith)

  pub total_other : (at : ℕ) → (at ≡ score_at storey direction → ⊥) → get_or (set held (score_at storey direction) total) at 0 ≡ get_or held at 0
  total_other at other = get_or-set_other held (score_at storey direction) at total 0 other

-- What the code makes of a wall's total, which is set or refused.
module _ (held wall : List ℕ) (storeys : ℕ) where
  abbrev pub after : ℕ → List ℕ
  after total = with_total held wall 0 total

  pub record Accepts (total : Option ℕ) (after_it : List ℕ) : Type 0 where
    pub n : ℕ
    pub is : total ≡ Some n
    pub set_to : after_it ≡ after n
    pub within : some_above storeys (after n) ≡ false

  pub moved_some : (total : Option ℕ) {after_it : List ℕ} → Some after_it ≡ moved held wall storeys total → Accepts total after_it
  moved_some None e = absurd (some_is_none e)
    where
      some_is_none : {l : List ℕ} → ◌≡◌ {A = Option (List ℕ)} (Some l) None → ⊥
      some_is_none e = grind arith
  moved_some (Some n) {after_it} e = go (some_above storeys (after n)) refl e
    where
      go : (b : Bool) → some_above storeys (after n) ≡ b → ◌≡◌ {A = Option (List ℕ)} (Some after_it) (cond b None (Some (after n))) → Accepts (Some n) after_it
      go true f e = absurd (grind arith)
      go false f e = record { n = n; is = refl; set_to = grind arith; within = f }

  pub moved_none : (total : Option ℕ) → None ≡ moved held wall storeys total → (n : ℕ) → total ≡ Some n → some_above storeys (after n) ≡ true
  moved_none None e n is = absurd (grind arith)
  moved_none (Some m) e n is = go (some_above storeys (after m)) refl e
    where
      same : m ≡ n
      same = grind arith

      go : (b : Bool) → some_above storeys (after m) ≡ b → ◌≡◌ {A = Option (List ℕ)} None (cond b None (Some (after m))) → some_above storeys (after n) ≡ true
      go true f e = rw (← same) f
      go false f e = absurd (grind arith)

-- Where a wall's total can't be a number of 64 bits, it is above the most.
pub too_large : (held wall : List ℕ) (storeys total : ℕ) → storeys ≤ 3 → length held ≡ 6 → InStoreys wall storeys → 2 ^ 64 ≤ total
    → some_above storeys (with_total held wall 0 total) ≡ true
too_large held wall storeys total few six stands large =
    let storey = cell wall 0 1 in
    let direction = cell wall 0 2 in
    some_is_above storeys few (with_total held wall 0 total) (omega (arith, length-set held (score_at storey direction) total)) (score_at storey direction)
    (omega (arith, stands))
    (rw (total_set held six storey direction total stands.some_storey (omega (arith, stands)) stands.some_direction stands.last_direction) (omega arith))

-- A wall that stands in a storey of the house stands in one of three.
pub three_storeys : {table wall : List ℕ} {house : House} → HouseOf table house → InStoreys wall house.storeys → InStoreys wall 3
three_storeys house stands = record {
  some_storey = stands.some_storey;
  last_storey = omega (arith, stands.last_storey, house.storeys_same, house.stands.few);
  some_direction = stands.some_direction;
  last_direction = stands.last_direction;
}

-- What a sum or a difference of 64 bits is, where there is one, and why there is none.
some_sum : (P : Type 0) {v n : ℕ} (found : Option ℕ) → SomeIff found P v → found ≡ Some n → P × (v ≡ n)
some_sum P None none e = absurd (grind arith)
some_sum P (Some x) is e = (is.0, sym is.1 ∙ grind arith)

-- A wall's total is set to what the code worked out (`found`), or refused.
module _ (held wall : List ℕ) (storeys : ℕ) (P : Type 0) (total : ℕ) (found : Option ℕ) (worked : SomeIff found P total) where
  pub set_is : {after_it : List ℕ} → Some after_it ≡ moved held wall storeys found
      → (after_it ≡ with_total held wall 0 total) × (some_above storeys (with_total held wall 0 total) ≡ false) × P
  set_is e =
      let done = moved_some held wall storeys found e in
      let sum = some_sum P found worked done.is in
      (done.set_to ∙ ap (with_total held wall 0) (sym sum.1), ap (λ (n : ℕ). some_above storeys (with_total held wall 0 n)) sum.1 ∙ done.within, sum.0)

  pub set_refused : None ≡ moved held wall storeys found → (P → some_above storeys (with_total held wall 0 total) ≡ true)
  set_refused e = go found worked e
    where
      go : (found : Option ℕ) → SomeIff found P total → None ≡ moved held wall storeys found → P → some_above storeys (with_total held wall 0 total) ≡ true
      go None none e holds = absurd (none holds)
      go (Some n) is e holds = rw (← is.1) (moved_none held wall storeys (Some n) e n refl)
