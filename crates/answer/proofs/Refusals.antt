-- What an answer tells, a refusal and a count; answers that are a count just where their number is 0. Assumes nothing.
use Rattle.std.proofs.Common.{lit<, ◌≡◌, refl, sym, ap, subst, ◌∙◌, Bool, true, false, cond, List, ℕ, ◌<◌, T, eqb, Result, Ok, Err, get_or, [], ◌∷◌}
use borrow.Author.Tests.{eqb-false}
use Rattle.answer.specs.declared.refusal.Reason.{Reason}
use Rattle.answer.specs.declared.refusal.Reason.TheVariants.{SheetLength, Misprint, RowOutOfOrder, OutOfRange, TooManyWalls, EndsExceedStorey, MarkOnAbsentPart, NoParts, LentSpaceShort, NoSuchDay, DatesOutOfOrder, NoSuchWall}
use Rattle.answer.specs.declared.refusal.Refusal.{Refusal}
use Rattle.answer.specs.Told.{Told, counted, refusal, told, accepts, number_of}

-- The reason of a number from 1 to 12, and each reason's number leads back to it.
abbrev reason_of : ℕ → Reason
reason_of number =
    get_or (SheetLength ∷ SheetLength ∷ Misprint ∷ RowOutOfOrder ∷ OutOfRange ∷ TooManyWalls ∷ EndsExceedStorey ∷ MarkOnAbsentPart ∷ NoParts ∷ LentSpaceShort
    ∷ NoSuchDay ∷ DatesOutOfOrder ∷ NoSuchWall ∷ []) number SheetLength

reason_numbered : (reason : Reason) → reason_of (number_of reason) ≡ reason
reason_numbered SheetLength = refl
reason_numbered Misprint = refl
reason_numbered RowOutOfOrder = refl
reason_numbered OutOfRange = refl
reason_numbered TooManyWalls = refl
reason_numbered EndsExceedStorey = refl
reason_numbered MarkOnAbsentPart = refl
reason_numbered NoParts = refl
reason_numbered LentSpaceShort = refl
reason_numbered NoSuchDay = refl
reason_numbered DatesOutOfOrder = refl
reason_numbered NoSuchWall = refl

-- Reasons of the same number are the same.
pub number_same : (one other : Reason) → number_of one ≡ number_of other → one ≡ other
number_same one other e = sym (reason_numbered one) ∙ ap reason_of e ∙ reason_numbered other

-- Every reason has a number from 1 on, so that a refusal is told from none by its number.
pub number_some : (reason : Reason) → 0 < number_of reason
number_some SheetLength = lit< tt
number_some Misprint = lit< tt
number_some RowOutOfOrder = lit< tt
number_some OutOfRange = lit< tt
number_some TooManyWalls = lit< tt
number_some EndsExceedStorey = lit< tt
number_some MarkOnAbsentPart = lit< tt
number_some NoParts = lit< tt
number_some LentSpaceShort = lit< tt
number_some NoSuchDay = lit< tt
number_some DatesOutOfOrder = lit< tt
number_some NoSuchWall = lit< tt

-- Two refusals of any numbers that tell the same have the same number, row and column.
pub refusal_same : (number row column number' row' column' : ℕ) → refusal number row column ≡ refusal number' row' column'
    → (number ≡ number') × (row ≡ row') × (column ≡ column')
refusal_same number row column number' row' column' e =
    (ap (λ (t : Told). t.number) e, ap (λ (t : Told). t.row) e, ap (λ (t : Told). t.column) e)

-- A refusal tells no count, whatever its number, not even one numbered 0 a count of 0.
pub never_count : (number row column count : ℕ) → refusal number row column ≡ counted count → ⊥
never_count number row column count e = subst T (ap (λ (t : Told). t.is_count) (sym e)) tt

-- Answers that tell the same are the same.
pub told_same : (one other : Result ℕ Refusal) → told one ≡ told other → one ≡ other
told_same (Ok n) (Ok m) e = ap (λ (k : ℕ). Ok k) (ap (λ (t : Told). t.count) e)
told_same (Ok n) (Err r) e = absurd (subst T (ap (λ (t : Told). t.is_count) e) tt)
told_same (Err r) (Ok n) e = absurd (subst T (ap (λ (t : Told). t.is_count) (sym e)) tt)
told_same (Err r) (Err r') e =
    let same = refusal_same (number_of r.reason) r.row r.column (number_of r'.reason) r'.row r'.column e in
    rw (number_same r.reason r'.reason same.0, same.1, same.2) refl

-- An accepted answer has passed each test on its way.
pub passed : (test : Bool) (refused otherwise : Told) → eqb refused.number 0 ≡ false → (cond test refused otherwise).number ≡ 0
    → (test ≡ false) × (otherwise.number ≡ 0)
passed true refused otherwise e z = absurd (eqb-false refused.number 0 e z)
passed false refused otherwise e z = (refl, z)

-- A refusal leaves what was lent.
pub kept : (answer : Told) {told : Told} (written lent : List ℕ) → told ≡ answer → accepts told ≡ false
    → lent ≡ cond (accepts answer) written lent
kept answer written lent e f = rw (← e, f)

-- An answer that is a count just where its number is 0; and one of two such answers.
abbrev pub ByNumber : Told → Type 0
ByNumber answer = answer.is_count ≡ eqb answer.number 0

pub either_by_number : (test : Bool) (one other : Told) → ByNumber one → ByNumber other → ByNumber (cond test one other)
either_by_number true one other e f = e
either_by_number false one other e f = f

-- Where the code answers with a refusal, what is told is no count; it is told whatever else would be told next, and what was lent stays.
pub refused_told : {answer : Result ℕ Refusal} {tells : Told} {r : Refusal} → told answer ≡ tells → answer ≡ Err r → accepts tells ≡ false
refused_told e refused = ap accepts (sym e ∙ ap told refused)

pub refused_first : {answer : Result ℕ Refusal} (tells next : Told) {r : Refusal} (written lent : List ℕ) → told answer ≡ tells → answer ≡ Err r
    → (told answer ≡ cond (accepts tells) next tells) × (lent ≡ cond (accepts (cond (accepts tells) next tells)) written lent)
refused_first tells next written lent e refused =
    let first : tells ≡ cond (accepts tells) next tells = sym (ap (λ (b : Bool). cond b next tells) (refused_told e refused)) in
    (e ∙ first, kept _ written lent first (refused_told e refused))
