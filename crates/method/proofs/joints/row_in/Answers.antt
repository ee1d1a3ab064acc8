-- `row_in` is what its definition says. Assumes nothing.
use Rattle.std.proofs.Common.{inl, inr, refl, sym, List, [], ℕ, ◌-◌, ◌<◌, arith, get_or, length}
use Rattle.std.proofs.lemmas.List.{get_or_past, get_or_default}
use Rattle.method.proofs.Tables.{numbered_empty, numbered_none, numbered_past, numbered_read}
use Rattle.method.proofs.Factors.{row_none, row_printed}
use Rattle.method.proofs.joints.row_in.Goals as goal

pub returns-then-at-ge4 : goal.returns-then-at-ge4
returns-then-at-ge4 g c =
    row_none _ _ _ _ [] (sym (get_or_past c.args.tables.now c.args.snow [] (rw c.told-tables c.if-at-ge4.true))) (numbered_empty c.args.line)

pub returns-then-number-lt1 : goal.returns-then-number-lt1
returns-then-number-lt1 g c =
    let table : List (List (List ℕ)) = get_or c.args.tables.now c.args.snow [] in
    elim c.then-number-lt1.either [
      | inl none ↦ row_none _ _ _ _ table refl (numbered_none table c.args.line none)
      | inr past ↦ row_none _ _ _ _ table refl (numbered_past table c.args.line past.0 (omega (arith, past.1)))
    ]

pub returns : goal.returns
returns g c =
    let table : List (List (List ℕ)) = get_or c.args.tables.now c.args.snow [] in
    let inside : c.args.line - 1 < length table = omega (arith, c.if-number-lt1.false, c.if-table-number.false) in
    let printed : List (List ℕ) = get_or table (c.args.line - 1) [] in
    rw (c.row_of.ensures)
    (row_printed _ _ _ _ table refl printed
    (numbered_read table c.args.line c.if-number-lt1.false printed inside (get_or_default table (c.args.line - 1) [] printed inside)))
