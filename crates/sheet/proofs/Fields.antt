-- The laws of a field's characters: each step of reading them, how large the number can be, and that reading and printing undo
-- each other. Assumes nothing.
use Rattle.std.proofs.Common.{◌≡◌, refl, sym, ap, ap₂, subst, ◌∙◌, Bool, true, false, cond, ◌&&◌, List, [], ◌∷◌, ◌++◌, ℕ, zero, suc, ◌+◌, ◌-◌, ◌*◌, ◌/◌, ◌%◌, ◌^◌, ◌<◌, ◌≤◌, div-lt_iff_lt-mul, add-zero, add-suc, suc-add, add-one, arith, eqb, leb, ltb, lit<, length, get_or, take, drop, rules, length-take, take-suc, take_all, eq-eqb, ne_eqb, leb-true, eqb-true, ltb-true, ltb-false, le-leb, Option, Some, None}
use Rattle.std.proofs.lemmas.List.{take-append-drop}
use mathlib.Core.List.{foldl, foldl-append}
use native.Mathlib.Nat.{div-div-eq-div-mul, div-eq_of_lt, pow-le-pow_right}
use borrow.Author.Tests.{eqb-false}
use Rattle.sheet.specs.Field.{Field, Blank, Number, Misprint, is_digit, digit, after, digit_after, field, is_number, value, number_made, number_in, digit_or_space, printed}

-- One character more, case by case.
module _ {made : Field} (character : ℕ) where
  pub after_space : made ≡ Blank → character ≡ 32 → Blank ≡ after made character
  unfolding after
  after_space e h = rw (e, eq-eqb character 32 h)

  pub after_blank : made ≡ Blank → (character ≡ 32 → ⊥) → digit_after 0 character ≡ after made character
  unfolding after
  after_blank e h = rw (e, ne_eqb character 32 h)

  pub after_zero : {n : ℕ} → made ≡ Number n → n ≡ 0 → Misprint ≡ after made character
  unfolding after
  after_zero {n} e h = rw (e, eq-eqb n 0 h)

  pub after_number : {n : ℕ} → made ≡ Number n → (n ≡ 0 → ⊥) → digit_after n character ≡ after made character
  unfolding after
  after_number {n} e h = rw (e, ne_eqb n 0 h)

  pub after_misprint : made ≡ Misprint → Misprint ≡ after made character
  unfolding after
  after_misprint e = rw e

pub value_number : {made : Field} {n : ℕ} (most : ℕ) → made ≡ Number n → value made < most → n < most
unfolding value
value_number most e h = rw e at h

-- What the code has for spaces alone and for a number.
abbrev pub made : Option ℕ → Field
made None = Blank
made (Some n) = Number n

-- With the next digit, or what is none, as the code has it.
module _ (character : ℕ) where
  no_digit_after : (n : ℕ) → None ≡ digit character → digit_after n character ≡ Misprint
  unfolding digit digit_after
  no_digit_after n = go (is_digit character)
    where
      go : (b : Bool) → None ≡ cond b (Some (character - 48)) None → cond b (Number (10 * n + (character - 48))) Misprint ≡ Misprint
      go true e = absurd (search rules)
      go false e = refl

  some_digit_after : (n : ℕ) {d : ℕ} → Some d ≡ digit character → digit_after n character ≡ Number (10 * n + d)
  unfolding digit digit_after
  some_digit_after n {d} = go (is_digit character)
    where
      go : (b : Bool) → Some d ≡ cond b (Some (character - 48)) None → cond b (Number (10 * n + (character - 48))) Misprint ≡ Number (10 * n + d)
      go true e = search rules
      go false e = absurd (search rules)

pub digit_small : (character : ℕ) {d : ℕ} → Some d ≡ digit character → d < 10
unfolding digit
digit_small character {d} = go (leb 48 character) (leb character 57) refl
  where
    go : (b c : Bool) → leb character 57 ≡ c → Some d ≡ cond (b && c) (Some (character - 48)) None → d < 10
    go true true f e =
        let same : d ≡ character - 48 = search rules in
        omega (arith, leb-true character 57 f)
    go true false f e = absurd (search rules)
    go false c f e = absurd (search rules)

-- A digit d makes n ten times n and d; any other character makes no field.
digit_cases : (P : Field → Type 0) (n character : ℕ)
    → ((d : ℕ) → d < 10 → character ≡ 48 + d → P (Number (10 * n + d))) → P Misprint → P (digit_after n character)
unfolding digit_after
digit_cases P n character yes-digit no_digit = go (leb 48 character) refl (leb character 57) refl
  where
    go : (b : Bool) → leb 48 character ≡ b → (d : Bool) → leb character 57 ≡ d
        → P (cond (b && d) (Number (10 * n + (character - 48))) Misprint)
    go true e true f =
        let low : 48 ≤ character = leb-true 48 character e in
        let high : character ≤ 57 = leb-true character 57 f in
        yes-digit (character - 48) (omega arith) (omega arith)
    go true e false f = no_digit
    go false e true f = no_digit
    go false e false f = no_digit

digit_more : (n d m : ℕ) → d < 10 → 10 * n + d ≡ m → digit_after n (48 + d) ≡ Number m
unfolding digit_after
digit_more n d m h e =
    let low : leb 48 (48 + d) ≡ true = le-leb 48 (48 + d) (omega arith) in
    let high : leb (48 + d) 57 ≡ true = le-leb (48 + d) 57 (omega arith) in
    let back : 10 * n + (48 + d - 48) ≡ m = omega arith in
    rw (low, high, back)

-- What one character more makes: of spaces, spaces or a digit; of a number that is not 0, a digit more; else no field.
after_cases : (P : Field → Field → Type 0) (character : ℕ)
    → (character ≡ 32 → P Blank Blank)
    → ((d : ℕ) → d < 10 → character ≡ 48 + d → P Blank (Number d))
    → ((n d : ℕ) → 0 < n → d < 10 → character ≡ 48 + d → P (Number n) (Number (10 * n + d)))
    → ((made : Field) → P made Misprint)
    → (made : Field) → P made (after made character)
unfolding after
after_cases P character space first more wrong Blank = go (eqb character 32) refl
  where
    go : (b : Bool) → eqb character 32 ≡ b → P Blank (cond b Blank (digit_after 0 character))
    go true e = space (eqb-true character 32 e)
    go false e = digit_cases (P Blank) 0 character (λ d h f. subst (λ (m : ℕ). P Blank (Number m)) (omega arith) (first d h f)) (wrong Blank)
after_cases P character space first more wrong (Number n) = go (eqb n 0) refl
  where
    go : (b : Bool) → eqb n 0 ≡ b → P (Number n) (cond b Misprint (digit_after n character))
    go true e = wrong (Number n)
    go false e =
        let some : n ≡ 0 → ⊥ = eqb-false n 0 e in
        digit_cases (P (Number n)) n character (λ d h f. more n d (omega arith) h f) (wrong (Number n))
after_cases P character space first more wrong Misprint = wrong Misprint

-- A number of k characters is below 10 ^ k.
after_below : (k : ℕ) (character : ℕ) (made : Field) → value made < 10 ^ k → value (after made character) < 10 ^ suc k
unfolding value
after_below k character =
    after_cases (λ made next. value made < 10 ^ k → value next < 10 ^ suc k) character
    (λ e h. omega arith)
    (λ d b e h. omega arith)
    (λ n d s b e h. omega arith)
    (λ made h. omega arith)

folded_below : (k : ℕ) (made : Field) (l : List ℕ) → value made < 10 ^ k → value (foldl after made l) < 10 ^ (k + length l)
folded_below k made [] h = rw add-zero h
folded_below k made (x ∷ xs) h =
    rw (add-suc, ← suc-add) (folded_below (suc k) (after made x) xs (after_below k x made h))

pub field_below : (l : List ℕ) → value (field l) < 10 ^ length l
unfolding field value
field_below l = rw (zero_add_length l) at (folded_below 0 Blank l (omega arith))
  where
    zero_add_length : (l : List ℕ) → 0 + length l ≡ length l
    zero_add_length l = omega arith

-- The characters are read one after the other.
pub field_snoc : (l : List ℕ) (character : ℕ) → field (l ++ (character ∷ [])) ≡ after (field l) character
unfolding field
field_snoc l character = foldl-append after Blank l (character ∷ [])

pub field_more : (l : List ℕ) (k : ℕ) {made next : Field} → k < length l → made ≡ field (take k l) → next ≡ after made (get_or l k 0)
    → next ≡ field (take (k + 1) l)
field_more l k h e f =
    f ∙ ap (λ (m : Field). after m (get_or l k 0)) e ∙ sym (field_snoc (take k l) (get_or l k 0)) ∙ rw (add-one, take-suc l k 0 h)

-- What is no field stays none, whatever comes after it.
misprint_stays : (l : List ℕ) (k : ℕ) → field (take k l) ≡ Misprint → field l ≡ Misprint
unfolding field after
misprint_stays l k e =
    ap field (sym (take-append-drop k l)) ∙ foldl-append after Blank (take k l) (drop k l) ∙ rw e (stays (drop k l))
  where
    stays : (rest : List ℕ) → foldl after Misprint rest ≡ Misprint
    stays [] = refl
    stays (x ∷ xs) = stays xs

-- While fewer than eight characters are read, the number has room for one digit more.
pub field_small : (l : List ℕ) (k : ℕ) → k < 8 → value (field (take k l)) < 10_000_000
field_small l k h =
    let short : length (take k l) ≤ 7 = omega (arith, length-take k l) in
    let most : 10 ^ length (take k l) ≤ 10 ^ 7 = pow-le-pow_right (lit< tt) short in
    omega (arith, field_below (take k l))

-- A field's characters read one after the other: `number` is what the first k make.
module _ (l : List ℕ) (k : ℕ) (number : Option ℕ) (so_far : made number ≡ field (take k l)) where
  -- All characters are read.
  pub all_read : length l ≤ k → number ≡ number_in l
  unfolding number_in number_made
  all_read h = rw (← take_all k l h, ← so_far) (go number)
    where
      go : (number : Option ℕ) → number ≡ number_made (made number)
      go None = refl
      go (Some n) = refl

  -- There is room for one digit more.
  pub room_for_digit : {n : ℕ} → k < 8 → number ≡ Some n → n < 10_000_000
  room_for_digit {n} h e = value_number 10_000_000 (ap made e) (rw so_far (field_small l k h))

  module _ (some : k < length l) where
    next_read : (next : Option ℕ) → after (made number) (get_or l k 0) ≡ made next → made next ≡ field (take (k + 1) l)
    next_read next e = field_more l k some so_far (sym e)

    misprint_read : after (made number) (get_or l k 0) ≡ Misprint → None ≡ number_in l
    unfolding number_in number_made
    misprint_read e = rw (misprint_stays l (k + 1) (sym (field_more l k some so_far refl) ∙ e))

    module _ (blank : number ≡ None) where
      pub space_read : get_or l k 0 ≡ 32 → made number ≡ field (take (k + 1) l)
      space_read e = rw blank (next_read None (rw blank (sym (after_space (get_or l k 0) refl e))))

      module _ (other : get_or l k 0 ≡ 32 → ⊥) where
        pub first_digit_read : (d : ℕ) → Some d ≡ digit (get_or l k 0) → made (Some d) ≡ field (take (k + 1) l)
        first_digit_read d e =
            let none : 10 * 0 + d ≡ d = omega arith in
            next_read (Some d) (rw blank (sym (after_blank _ refl other) ∙ some_digit_after _ 0 e ∙ ap Number none))

        pub first_digit_wrong : None ≡ digit (get_or l k 0) → None ≡ number_in l
        first_digit_wrong e = misprint_read (rw blank (sym (after_blank _ refl other) ∙ no_digit_after _ 0 e))

    pub after_zero_wrong : number ≡ Some 0 → None ≡ number_in l
    after_zero_wrong e = misprint_read (rw e (sym (after_zero (get_or l k 0) refl refl)))

    module _ {n : ℕ} (has : number ≡ Some n) (positive : n ≡ 0 → ⊥) where
      pub next_digit_read : (d : ℕ) → Some d ≡ digit (get_or l k 0) → made (Some (10 * n + d)) ≡ field (take (k + 1) l)
      next_digit_read d e = next_read (Some (10 * n + d)) (rw has (sym (after_number _ refl positive) ∙ some_digit_after _ n e))

      pub next_digit_wrong : None ≡ digit (get_or l k 0) → None ≡ number_in l
      next_digit_wrong e = misprint_read (rw has (sym (after_number _ refl positive) ∙ no_digit_after _ n e))

-- What `scan` needs of each character.
pub ruleset reading_steps = (room_for_digit, digit_small, first_digit_wrong, after_zero_wrong)

-- What the code makes of characters: the number of a field, or none.
pub some_number : (l : List ℕ) {n : ℕ} → Some n ≡ number_in l → (is_number (field l) ≡ true) × (n ≡ value (field l))
unfolding number_in number_made is_number value
some_number l {n} = go (field l)
  where
    go : (f : Field) → Some n ≡ number_made f → (is_number f ≡ true) × (n ≡ value f)
    go Blank e = absurd (search rules)
    go (Number m) e = (refl, search rules)
    go Misprint e = absurd (search rules)

pub none_number : (l : List ℕ) → None ≡ number_in l → is_number (field l) ≡ false
unfolding number_in number_made is_number
none_number l = go (field l)
  where
    go : (f : Field) → None ≡ number_made f → is_number f ≡ false
    go Blank e = refl
    go (Number m) e = absurd (search rules)
    go Misprint e = refl

-- The character of a number's digit, with a space where nothing of the number is left.
digit_or : ℕ → ℕ
digit_or m = cond (eqb m 0) 32 (48 + m % 10)

-- A number right-justified in so many characters, with spaces for 0.
padded : ℕ → ℕ → List ℕ
padded zero m = []
padded (suc k) m = padded k (m / 10) ++ (digit_or m ∷ [])

padded_zero : (k : ℕ) → padded (suc k) 0 ≡ padded k 0 ++ (32 ∷ [])
unfolding padded digit_or
padded_zero k = refl

padded_some : (k m : ℕ) → 0 < m → padded (suc k) m ≡ padded k (m / 10) ++ ((48 + m % 10) ∷ [])
unfolding padded digit_or
padded_some k m h = rw (ne_eqb m 0 (omega arith))

space_digit : (weight n : ℕ) → 0 < weight → digit_or_space weight n ≡ digit_or (n / weight)
unfolding digit_or_space digit_or
space_digit weight n some = go (ltb n weight) refl
  where
    go : (b : Bool) → ltb n weight ≡ b
        → cond b 32 (48 + n / weight % 10) ≡ cond (eqb (n / weight) 0) 32 (48 + n / weight % 10)
    go true e = rw (div-eq_of_lt (ltb-true n weight e))
    go false e =
        let left : weight ≤ n = ltb-false n weight e in
        let short : n / weight ≡ 0 → n < 1 * weight = λ z. (div-lt_iff_lt-mul {k = weight} {x = n} {y = 1} some).0 (omega arith) in
        rw (ne_eqb (n / weight) 0 (λ z. omega (arith, short z)))

-- A number's field, one character at a time.
printed_padded : (n : ℕ) → printed n ≡ padded 7 (n / 10) ++ ((48 + n % 10) ∷ [])
unfolding printed padded
printed_padded n =
    simp (
      space_digit 10_000_000 n (lit< tt),
      space_digit 1_000_000 n (lit< tt),
      space_digit 100_000 n (lit< tt),
      space_digit 10_000 n (lit< tt),
      space_digit 1_000 n (lit< tt),
      space_digit 100 n (lit< tt),
      space_digit 10 n (lit< tt),
      div-div-eq-div-mul,
    )

-- What the characters of a number make while they are read: spaces until its first digit.
so_far : ℕ → Field
so_far m = cond (eqb m 0) Blank (Number m)

-- The last digit joins what is before it, none or some.
last_digit : (m : ℕ) → after (so_far (m / 10)) (48 + m % 10) ≡ Number m
unfolding so_far
last_digit m = go (eqb (m / 10) 0) refl
  where
    go : (b : Bool) → eqb (m / 10) 0 ≡ b → after (cond b Blank (Number (m / 10))) (48 + m % 10) ≡ Number m
    go true e =
        let none : m / 10 ≡ 0 = eqb-true (m / 10) 0 e in
        sym (after_blank (48 + m % 10) refl (λ z. omega arith)) ∙ digit_more 0 (m % 10) m (omega arith) (omega arith)
    go false e =
        sym (after_number (48 + m % 10) refl (eqb-false (m / 10) 0 e)) ∙ digit_more (m / 10) (m % 10) m (omega arith) (omega arith)

next_digit : (m : ℕ) → after (so_far (m / 10)) (digit_or m) ≡ so_far m
unfolding so_far digit_or
next_digit m = go (eqb m 0) refl
  where
    go : (b : Bool) → eqb m 0 ≡ b → after (so_far (m / 10)) (cond b 32 (48 + m % 10)) ≡ cond b Blank (Number m)
    go true e =
        let none : m / 10 ≡ 0 = omega (arith, eqb-true m 0 e) in
        sym (after_space 32 (rw none) refl)
    go false e = last_digit m

field_padded : (k m : ℕ) → m < 10 ^ k → field (padded k m) ≡ so_far m
unfolding padded field so_far
field_padded zero m h =
    let none : m ≡ 0 = omega arith in
    rw none
field_padded (suc k) m h =
    field_snoc (padded k (m / 10)) (digit_or m)
    ∙ ap (λ (made : Field). after made (digit_or m)) (field_padded k (m / 10) (omega arith)) ∙ next_digit m

-- A printed number is read as that number.
pub field_printed : (n : ℕ) → n < 100_000_000 → field (printed n) ≡ Number n
field_printed n h =
    ap field (printed_padded n) ∙ field_snoc (padded 7 (n / 10)) (48 + n % 10)
    ∙ ap (λ (made : Field). after made (48 + n % 10)) (field_padded 7 (n / 10) (omega arith)) ∙ last_digit n

-- What is known of k characters l from what they make.
abbrev Text : ℕ → List ℕ → Field → Type 0
Text k l Blank = l ≡ padded k 0
Text zero l (Number n) = ⊥
Text (suc k) l (Number n) = l ≡ padded k (n / 10) ++ ((48 + n % 10) ∷ [])
Text k l Misprint = Unit {0}

text_more : (k : ℕ) (l : List ℕ) (character : ℕ) (made : Field)
    → Text k l made → Text (suc k) (l ++ (character ∷ [])) (after made character)
text_more k l character =
    after_cases (λ made next. Text k l made → Text (suc k) (l ++ (character ∷ [])) next) character
    (λ space t. ap₂ (λ (p : List ℕ) (x : ℕ). p ++ (x ∷ [])) t space ∙ sym (padded_zero k))
    (λ d below e t. ap₂ (λ (p : List ℕ) (x : ℕ). p ++ (x ∷ [])) (t ∙ ap (padded k) (omega arith)) (omega arith))
    (number k)
    (λ made t. tt)
  where
    number : (k : ℕ) (n d : ℕ) → 0 < n → d < 10 → character ≡ 48 + d → Text k l (Number n)
        → Text (suc k) (l ++ (character ∷ [])) (Number (10 * n + d))
    number zero n d some below e t = absurd t
    number (suc k) n d some below e t =
        ap₂ (λ (p : List ℕ) (x : ℕ). p ++ (x ∷ []))
        (t ∙ sym (padded_some k n some) ∙ ap (padded (suc k)) (omega arith))
        (omega arith)

text : (k : ℕ) (l : List ℕ) → k ≤ length l → Text k (take k l) (field (take k l))
unfolding field padded
text zero l h = refl
text (suc k) l h =
    rw (take-suc l k 0 h, field_snoc (take k l) (get_or l k 0)) (text_more k (take k l) (get_or l k 0) (field (take k l)) (text k l (omega arith)))

-- A field of eight characters that is read as a number is that number printed.
pub printed_field : (l : List ℕ) (n : ℕ) → length l ≡ 8 → field l ≡ Number n → l ≡ printed n
printed_field l n e f =
    let whole : take 8 l ≡ l = take_all 8 l (omega arith) in
    let known : Text 8 l (Number n) = rw (whole, f) at (text 8 l (omega arith)) in
    known ∙ sym (printed_padded n)
