-- Printed tables: an element by its number, and rules that hold throughout a table by one test that is computed. Assumes nothing.
use Rattle.std.proofs.Common.{◌≡◌, refl, sym, ap, ◌∙◌, subst, Bool, true, false, not, ◌&&◌, ◌||◌, List, [], ◌∷◌, ◌++◌, ℕ, zero, suc, ◌+◌, ◌-◌, ◌*◌, ◌<◌, ◌≤◌, mul-suc, get_or-append-add, eqb-true, Option, None, Some, Bor, slice_get, unwrap_or, zero-le, arith, length, get_or, T, eqb, leb}
use mathlib.Core.List.{flatten}
use native.Mathlib.Decide.{dec_lt}
use lib.ListN.{get_or-eq_default, get_or-append}
use Rattle.std.proofs.lemmas.Bool.{and_parts}
use Rattle.std.proofs.lemmas.Option.{unwrap_or-slice_get, slice_get_past, slice_get_read}
use Rattle.std.specs.Option.{option_copied}
use Rattle.std.specs.Slice.{IsItemAt}
use Rattle.method.specs.Printed.{nth, numbered}

module _ {A : Type 0} (list : List A) where
  -- Nothing is numbered 0, or beyond the list.
  pub nth_none : (n : ℕ) (none : A) → (1 ≤ n → n ≤ length list → ⊥) → nth list n none ≡ none
  unfolding nth
  nth_none zero none h = refl
  nth_none (suc n) none h = get_or-eq_default list none (omega (arith, h (omega arith)))

  -- As an option: nothing is numbered 0, and any other number is one more than that of the elements before.
  pub numbered_none : (n : ℕ) → n < 1 → None ≡ numbered list n
  unfolding numbered
  numbered_none zero h = refl
  numbered_none (suc n) h = absurd (omega arith)

  pub numbered_is : (n before : ℕ) → 1 ≤ n → before ≡ n - 1 → slice_get list before ≡ numbered list n
  unfolding numbered
  numbered_is zero before some same = absurd (omega arith)
  numbered_is (suc n) before some same = ap (slice_get list) (omega arith)

  -- And by the bound that is tested where an element is read.
  pub numbered_past : (n : ℕ) → 1 ≤ n → length list ≤ n - 1 → None ≡ numbered list n
  numbered_past n some past = sym (slice_get_past list (n - 1) past) ∙ numbered_is n (n - 1) some refl

  pub numbered_read : (n : ℕ) → 1 ≤ n → (item : A) → n - 1 < length list → item ≡ get_or list (n - 1) item → Some item ≡ numbered list n
  numbered_read n some item inside read = sym (slice_get_read list (length list) (n - 1) item refl inside read) ∙ numbered_is n (n - 1) some refl

  -- What `get` lends, as an option.
  pub item_read : (i : ℕ) (item : Option (Bor A)) → IsItemAt list i item → option_copied item ≡ slice_get list i
  item_read i None h = sym (slice_get_past list i h.3)
  item_read i (Some x) h = sym (slice_get_read list (length list) i x.now refl h.3.0 h.1)

  -- Of both readings the answer is one, but for what stands for none.
  pub numbered_nth : (n : ℕ) (none : A) → unwrap_or (numbered list n) none ≡ nth list n none
  unfolding numbered nth
  numbered_nth zero none = refl
  numbered_nth (suc n) none = unwrap_or-slice_get list n none

-- Nothing is in no table.
pub numbered_empty : {A : Type 0} (n : ℕ) → None ≡ numbered {A = A} [] n
unfolding numbered
numbered_empty zero = refl
numbered_empty (suc n) = refl

-- A test of which one part is asked only where the other holds.
pub implied : (a : Bool) {b : Bool} → not a || b ≡ true → a ≡ true → b ≡ true
implied true h e = h
implied false h e = absurd (subst T (sym e) tt)

-- A test that every element passes.
abbrev pub every : {A : Type 0} → (A → Bool) → List A → Bool
every passes [] = true
every passes (x ∷ xs) = passes x && every passes xs

module _ {A : Type 0} (passes : A → Bool) {none : A} (default : passes none ≡ true) where
  pub get_or_every : (list : List A) → every passes list ≡ true → (n : ℕ) → passes (get_or list n none) ≡ true
  get_or_every [] h n = default
  get_or_every (x ∷ xs) h zero = (and_parts (passes x) (every passes xs) h).0
  get_or_every (x ∷ xs) h (suc n) = get_or_every xs (and_parts (passes x) (every passes xs) h).1 n

  pub nth_every : (list : List A) → every passes list ≡ true → (n : ℕ) → passes (nth list n none) ≡ true
  unfolding nth
  nth_every list h zero = default
  nth_every list h (suc n) = get_or_every list h n

-- Every number of a list is at most so many.
abbrev pub AllAtMost : ℕ → List ℕ → Type 0
AllAtMost most [] = T true
AllAtMost most (n ∷ list) = (n ≤ most) × AllAtMost most list

pub all_at : (most : ℕ) (list : List ℕ) → AllAtMost most list → (i : ℕ) → get_or list i 0 ≤ most
all_at most [] all i = zero-le
all_at most (n ∷ list) all zero = all.0
all_at most (n ∷ list) all (suc i) = all_at most list all.1 i

pub all_append : (most : ℕ) (one other : List ℕ) → AllAtMost most one → AllAtMost most other → AllAtMost most (one ++ other)
all_append most [] other first second = second
all_append most (n ∷ one) other first second = (first.0, all_append most one other first.1 second)

-- The test that an entry is at most so many.
abbrev pub small : ℕ → ℕ → Bool
small most entry = leb entry most

-- The test that a line is at most so long.
abbrev pub short : {A : Type 0} → ℕ → List A → Bool
short most line = leb (length line) most

-- The test that a line has just so many elements.
abbrev pub full : {A : Type 0} → ℕ → List A → Bool
full size line = eqb (length line) size

-- Lines of one length, one after the other: an element by the line and the place in it.
pub get_or_flatten : {A : Type 0} (size : ℕ) (lines : List (List A)) → every (full size) lines ≡ true → (n i : ℕ) (none : A) → i < size
    → get_or (flatten lines) (size * n + i) none ≡ get_or (get_or lines n []) i none
unfolding flatten
get_or_flatten size [] h n i none less = refl
get_or_flatten size (line ∷ lines) h zero i none less =
    let long = eqb-true (length line) size (and_parts (full size line) (every (full size) lines) h).0 in
    ap (λ (k : ℕ). get_or (line ++ flatten lines) k none) (omega arith) ∙ get_or-append line (flatten lines) none i (omega arith)
get_or_flatten size (line ∷ lines) h (suc n) i none less =
    let both = and_parts (full size line) (every (full size) lines) h in
    let long = eqb-true (length line) size both.0 in
    ap (λ (k : ℕ). get_or (line ++ flatten lines) k none) (omega (arith, mul-suc size n)) ∙ get_or-append-add line (flatten lines) (size * n + i) none
    ∙ get_or_flatten size lines both.1 n i none less

-- A test that every number below a bound passes.
unfoldable pub every_below : ℕ → (ℕ → Bool) → Bool
every_below zero passes = true
every_below (suc n) passes = passes n && every_below n passes

pub at_every : (n : ℕ) (passes : ℕ → Bool) → every_below n passes ≡ true → (k : ℕ) → k < n → passes k ≡ true
unfolding every_below
at_every zero passes h k less = absurd (omega arith)
at_every (suc n) passes h k less = go (dec_lt k n) (at_every n passes (and_parts (passes n) (every_below n passes) h).1 k)
  where
    go : Dec (k < n) → (k < n → passes k ≡ true) → passes k ≡ true
    go (yes below) rest = rest below
    go (no last) rest = subst (λ (m : ℕ). passes m ≡ true) (omega (arith, last)) (and_parts (passes n) (every_below n passes) h).0
