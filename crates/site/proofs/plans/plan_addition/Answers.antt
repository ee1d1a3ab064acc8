-- `plan_addition` meets its contract. Assumes nothing.
use Rattle.std.proofs.Common.{◌≡◌, ◌∙◌, sym, ap, true, Option, None, SomeIff, List, [], ℕ, ◌+◌, ◌*◌, ◌^◌, ◌<◌, ◌≤◌, length, arith}
use native.Mathlib.Decide.{dec_lt}
use Rattle.answer.specs.Told.{accepts}
use Rattle.survey.specs.Table.{storeys}
use Rattle.survey.specs.Judgement.{place_below, new_wall_column}
use Rattle.survey.specs.Acceptance.{Accepted}
use Rattle.survey.proofs.FirstInRange.{none_below, some_below}
use Rattle.survey.proofs.Acceptance.{accepted}
use Rattle.diagnosis.specs.declared.accepted.AcceptedTable.{AcceptedTable}
use Rattle.diagnosis.specs.Rows.{house_of}
use Rattle.diagnosis.specs.House.{row_share}
use Rattle.site.specs.Rows.{row_due}
use Rattle.site.specs.Totals.{wall_total, with_total, total_added, some_above}
use Rattle.site.specs.Internal.{InStoreys, moved}
use Rattle.site.proofs.DueRows.{row_due_most}
use Rattle.site.proofs.SixTotals.{too_large, three_storeys, set_is, set_refused}
use Rattle.site.proofs.Additions.{told_range, told_walls, told_room, told_totals, passes_told, in_storeys}
use Rattle.site.proofs.plans.plan_addition.Goals as goal

-- Rows that are accepted: the row that a wall takes is one of few, their numbers are counted, and of a wall no column is outside its range where none
-- was found.
module _ (rows : AcceptedTable) where
  abbrev table : List ℕ
  table = rows.table.now

  a : Accepted table
  a = accepted table rows.of_house.stands.accepted

  row_small : (storey : ℕ) {at : ℕ} → at ≡ row_due table storey → at ≤ 312
  row_small storey is = omega (arith, row_due_most table storey, a.sizes)

  length_is : length table ≡ 8 * rows.rows
  length_is = omega (arith, a.sizes, rows.rows_are)

  module _ (wall : List ℕ) {found : Option ℕ} (e : found ≡ place_below 8 (new_wall_column rows.house.storeys wall)) (none : found ≡ None) where
    ranged : 8 ≤ new_wall_column (storeys table) wall
    ranged = rw rows.of_house.storeys_same at (none_below _ _ (sym none ∙ e))

    stands : InStoreys wall rows.house.storeys
    stands = rw rows.of_house.storeys_same (in_storeys table [] wall 0 ranged)

pub overflow_cast-row : goal.overflow_cast-row
overflow_cast-row c = omega (arith, row_small c.args.rows.now _ c.row_due-at.ensures)

pub overflow_add-row : goal.overflow_add-row
overflow_add-row c = omega (arith, row_small c.args.rows.now _ c.row_due-at.ensures)

pub returns-in-Some-clause-refused : goal.returns-in-Some-clause-refused
returns-in-Some-clause-refused c =
    let found = some_below _ _ (sym c.in-Some.is ∙ c.new_wall_column.ensures) in
    rw c.row_due-at.ensures
    (told_range c.args.rows.now.table.now c.args.held c.args.wall.now c.args.lent _ (rw c.args.rows.now.of_house.storeys_same at found.0) found.1)

pub returns-then-first_wall-parts_row-clause-refused : goal.returns-then-first_wall-parts_row-clause-refused
returns-then-first_wall-parts_row-clause-refused c =
    rw c.row_due-at.ensures
    (told_walls c.args.rows.now.table.now c.args.held c.args.wall.now c.args.lent
    (ranged c.args.rows.now c.args.wall.now c.new_wall_column.ensures c.in_default.is)
    (omega (arith, c.first_wall.ensures, c.parts_row.ensures)))

pub returns-then-lent-rows-clause-refused : goal.returns-then-lent-rows-clause-refused
returns-then-lent-rows-clause-refused c =
    rw c.without_place.ensures
    (told_room c.args.rows.now.table.now c.args.held c.args.wall.now c.args.lent
    (ranged c.args.rows.now c.args.wall.now c.new_wall_column.ensures c.in_default.is)
    (omega (arith, c.first_wall.ensures, c.parts_row.ensures)) (omega (arith, length_is c.args.rows.now)))

pub place_of-requires : goal.place_of-requires
place_of-requires c =
    three_storeys c.args.rows.now.of_house (stands c.args.rows.now c.args.wall.now c.new_wall_column.ensures c.in_default.is)

pub bounds-held-place_of : goal.bounds-held-place_of
bounds-held-place_of c =
    let stand = stands c.args.rows.now c.args.wall.now c.new_wall_column.ensures c.in_default.is in
    omega (arith, c.place_of.ensures, stand, c.args.rows.now.of_house.storeys_same, c.args.rows.now.of_house.stands.few)

pub moved-requires-clause-wall : goal.moved-requires-clause-wall
moved-requires-clause-wall c = stands c.args.rows.now c.args.wall.now c.new_wall_column.ensures c.in_default.is

-- The sum that is worked out.
module _ (rows : AcceptedTable) (held wall : List ℕ) where
  abbrev sum : ℕ
  sum = wall_total held wall 0 + row_share (house_of (table rows)) wall 0

  sum_above : InStoreys wall rows.house.storeys → length held ≡ 6 → (found : Option ℕ) → SomeIff found (sum < 2 ^ 64) sum
      → None ≡ moved held wall rows.house.storeys found → some_above (storeys (table rows)) (total_added (table rows) held wall) ≡ true
  unfolding total_added
  sum_above stand six found worked e =
      ap (λ (n : ℕ). some_above n (with_total held wall 0 sum)) (sym rows.of_house.storeys_same) ∙ go (dec_lt sum (2 ^ 64))
    where
      go : Dec (sum < 2 ^ 64) → some_above rows.house.storeys (with_total held wall 0 sum) ≡ true
      go (yes fits) = set_refused held wall rows.house.storeys (sum < 2 ^ 64) sum found worked e fits
      go (no large) = too_large held wall rows.house.storeys sum (omega (arith, rows.of_house.storeys_same, rows.of_house.stands.few)) six stand (omega arith)

pub returns-in-Some-moved-clause-planned : goal.returns-in-Some-moved-clause-planned
unfolding total_added
returns-in-Some-moved-clause-planned c =
    let rows = c.args.rows.now in
    let worked : SomeIff c.checked_add-total.result (sum rows c.args.held c.args.wall.now < 2 ^ 64) (sum rows c.args.held c.args.wall.now) =
    rw (c.place_of.ensures, c.share.ensures) at c.checked_add-total.ensures in
    let done = set_is c.args.held c.args.wall.now _ (sum rows c.args.held c.args.wall.now < 2 ^ 64) _ c.checked_add-total.result worked (sym c.in-Some-moved.is ∙ c.moved.ensures) in (
      ap accepts (passes_told (table rows) c.args.held c.args.wall.now c.args.lent (record {
        ranged = ranged rows c.args.wall.now c.new_wall_column.ensures c.in_default.is;
        few = omega (arith, c.first_wall.ensures, c.parts_row.ensures);
        room = omega (arith, length_is rows);
        within = ap (λ (n : ℕ). some_above n (total_added (table rows) c.args.held c.args.wall.now)) (sym rows.of_house.storeys_same) ∙ done.1;
      })),
      c.row_due-at.ensures,
      done.0,
    )

pub returns-in-None-clause-refused : goal.returns-in-None-clause-refused
returns-in-None-clause-refused c =
    let rows = c.args.rows.now in
    let worked : SomeIff c.checked_add-total.result (sum rows c.args.held c.args.wall.now < 2 ^ 64) (sum rows c.args.held c.args.wall.now) =
    rw (c.place_of.ensures, c.share.ensures) at c.checked_add-total.ensures in
    rw c.without_place-in-None.ensures
    (told_totals (table rows) c.args.held c.args.wall.now c.args.lent
    (ranged rows c.args.wall.now c.new_wall_column.ensures c.in_default.is)
    (omega (arith, c.first_wall.ensures, c.parts_row.ensures))
    (omega (arith, length_is rows))
    (sum_above rows c.args.held c.args.wall.now (stands rows c.args.wall.now c.new_wall_column.ensures c.in_default.is) (omega arith) c.checked_add-total.result worked
    (sym c.in-None.is ∙ c.moved.ensures)))
