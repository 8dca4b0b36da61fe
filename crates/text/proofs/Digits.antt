-- The digits of a number: how many, what they say, how they begin, and how they are appended. Assumes nothing.
use mathlib.Core.Path.{◌≡◌, refl, sym, ap, ◌∙◌}
use mathlib.Core.Logic.{inl, inr, ⊎_elim, ◌≢◌}
use mathlib.Core.List.{List, [], ◌∷◌, ◌++◌}
use Prim.Native.Nat.{ℕ, zero, suc, ◌+◌, ◌*◌, ◌-◌, ◌/◌, ◌%◌, ◌^◌, ◌≤◌, ◌<◌}
use native.Mathlib.Nat.{mod-lt, pow-succ'}
use native.Mathlib.Omega.{arith}
use lib.ListN.{length, get_or, length-append}
use borrow.Author.Tests.{lt-ltb, le-ltb}
use Rattle.rack.proofs.Logic.{by_lt}
use Rattle.rack.proofs.Lists.{In, in_append}
use Rattle.text.specs.Decimals.{digit_code, digits, value_behind, value}

-- THE DIGITS one by one
pub digits_none : (left v : ℕ) → left ≡ 0 → digits left v ≡ []
unfolding digits
digits_none left v e = rw e refl

pub digits_last : (left v : ℕ) → left ≢ 0 → v < 10 → digits left v ≡ digit_code v ∷ []
unfolding digits
digits_last zero v z h = absurd (z refl)
digits_last (suc left) v z h = rw (lt-ltb v 10 h) refl

pub digits_more : (left v : ℕ) → left ≢ 0 → 10 ≤ v → digits left v ≡ digits (left - 1) (v / 10) ++ (digit_code (v % 10) ∷ [])
unfolding digits
digits_more zero v z h = absurd (z refl)
digits_more (suc left) v z h = let e : suc left - 1 ≡ left = omega arith in rw (le-ltb v 10 h, e) refl

-- HOW MANY
pub length_last : (left v : ℕ) → left ≢ 0 → v < 10 → length (digits left v) ≡ 1
length_last left v z h = ap length (digits_last left v z h)

pub length_more : (left v : ℕ) → left ≢ 0 → 10 ≤ v → length (digits left v) ≡ length (digits (left - 1) (v / 10)) + 1
length_more left v z h = ap length (digits_more left v z h) ∙ length-append (digits (left - 1) (v / 10)) (digit_code (v % 10) ∷ [])

pub digits_most : (left v : ℕ) → length (digits left v) ≤ left
unfolding digits
digits_most zero v = omega arith
digits_most (suc left) v =
    let e : suc left - 1 ≡ left = omega arith in
    let most = digits_most left (v / 10) in
    by_lt v 10
    (λ l. omega (arith, length_last (suc left) v (λ z. omega arith) l))
    (λ l. omega (arith, most, rw e at (length_more (suc left) v (λ z. omega arith) l)))

pub digits_few : (left d v : ℕ) → v < 10 ^ suc d → length (digits left v) ≤ suc d
unfolding digits
digits_few zero d v h = omega arith
digits_few (suc left) zero v h = omega (arith, length_last (suc left) v (λ z. omega arith) h)
digits_few (suc left) (suc d) v h =
    let e : suc left - 1 ≡ left = omega arith in
    let few = digits_few left d (v / 10) (omega (arith, pow-succ' 10 (suc d))) in
    by_lt v 10
    (λ l. omega (arith, length_last (suc left) v (λ z. omega arith) l))
    (λ l. omega (arith, few, rw e at (length_more (suc left) v (λ z. omega arith) l)))

-- WHAT THEY SAY
value_snoc : (before : ℕ) (xs : List ℕ) (x : ℕ) → value_behind before (xs ++ (x ∷ [])) ≡ 10 * value_behind before xs + (x - 48)
unfolding value_behind
value_snoc v [] x = refl
value_snoc v (y ∷ ys) x = value_snoc (10 * v + (y - 48)) ys x

pub digits_value : (left v : ℕ) → v < 10 ^ left → value (digits left v) ≡ v
unfolding digits value value_behind
digits_value zero v h = omega arith
digits_value (suc left) v h =
    let higher = digits_value left (v / 10) (omega (arith, pow-succ' 10 left)) in
    by_lt v 10
    (λ l. rw (lt-ltb v 10 l) (omega arith))
    (λ l. rw (le-ltb v 10 l, value_snoc 0 (digits left (v / 10)) (digit_code (v % 10))) (omega (arith, higher)))

-- HOW THEY BEGIN
first_stays : (xs ys : List ℕ) (d : ℕ) → get_or xs 0 d ≢ d → get_or (xs ++ ys) 0 d ≢ d
first_stays [] ys d n = absurd (n refl)
first_stays (x ∷ xs) ys d n = n

pub digits_first : (left v : ℕ) → 0 < v → v < 10 ^ left → get_or (digits left v) 0 (digit_code 0) ≢ digit_code 0
unfolding digits
digits_first zero v s h = absurd (omega arith)
digits_first (suc left) v s h =
    by_lt v 10
    (λ l. rw (lt-ltb v 10 l) (λ e. omega arith))
    (λ l. rw (le-ltb v 10 l)
    (first_stays (digits left (v / 10)) (digit_code (v % 10) ∷ []) (digit_code 0)
    (digits_first left (v / 10) (omega arith) (omega (arith, pow-succ' 10 left)))))

pub digits_codes : (left v x : ℕ) → In x (digits left v) → (digit_code 0 ≤ x) × (x ≤ digit_code 9)
unfolding digits
digits_codes zero v x m = absurd m
digits_codes (suc left) v x m =
    by_lt v 10 (λ l. one_code v l (rw (lt-ltb v 10 l) at m)) (λ l. more (digits_codes left (v / 10) x) (rw (le-ltb v 10 l) at m))
  where
    one_code : (d : ℕ) → d < 10 → In x (digit_code d ∷ []) → (digit_code 0 ≤ x) × (x ≤ digit_code 9)
    one_code d l (inl e) = (omega arith, omega arith)
    one_code d l (inr k) = absurd k

    more : (In x (digits left (v / 10)) → (digit_code 0 ≤ x) × (x ≤ digit_code 9)) → In x (digits left (v / 10) ++ (digit_code (v % 10) ∷ []))
        → (digit_code 0 ≤ x) × (x ≤ digit_code 9)
    more higher k = ⊎_elim higher (one_code (v % 10) (mod-lt v (omega arith))) (in_append x (digits left (v / 10)) (digit_code (v % 10) ∷ []) k)

-- THE LAST DIGIT behind the higher ones, if there are any
pub digits_only : (left v d : ℕ) → left ≢ 0 → v < 10 → d ≡ digit_code (v % 10) → d ∷ [] ≡ digits left v
digits_only left v d z h e =
    let m : v % 10 ≡ v = omega arith in
    ap (λ (x : ℕ). x ∷ []) (e ∙ ap digit_code m) ∙ sym (digits_last left v z h)

pub digits_and_last : (left v d : ℕ) → left ≢ 0 → 10 ≤ v → d ≡ digit_code (v % 10) → digits (left - 1) (v / 10) ++ (d ∷ []) ≡ digits left v
digits_and_last left v d z h e = ap (λ (x : ℕ). digits (left - 1) (v / 10) ++ (x ∷ [])) e ∙ sym (digits_more left v z h)
