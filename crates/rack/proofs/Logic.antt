-- Boolean tests as facts, and case splits on them. Assumes nothing.
use mathlib.Core.Path.{◌≡◌, refl, sym}
use mathlib.Core.Bool.{Bool, true, false, ◌&&◌, ◌||◌, not}
use mathlib.Core.Logic.{◌⊎◌, inl, inr, ⊎_elim, ◌≢◌}
use Prim.Native.Nat.{ℕ, ◌≤◌, ◌<◌}
use native.Mathlib.Omega.{arith}
use lib.Dec.{eqb, ltb}
use borrow.Author.Tests.{eqb-true, eqb-false, ltb-true, ltb-false}
use Rattle.rack.specs.Lists.{differ}

pub true_or_false : (b : Bool) → (b ≡ true) ⊎ (b ≡ false)
true_or_false true = inl refl
true_or_false false = inr refl

pub true_not_false {ℓ} : {A : Type ℓ} (b : Bool) → b ≡ true → b ≡ false → A
true_not_false b h k = let z : ◌≡◌ {A = ℕ} 0 1 = cc in absurd (zero_one z)
  where
    zero_one : ◌≡◌ {A = ℕ} 0 1 → ⊥
    zero_one z = omega arith

pub by_bool {ℓ} : {A : Type ℓ} (b : Bool) → (b ≡ true → A) → (b ≡ false → A) → A
by_bool b f g = ⊎_elim f g (true_or_false b)

pub by_eq {ℓ} : {A : Type ℓ} (a b : ℕ) → (a ≡ b → A) → (a ≢ b → A) → A
by_eq a b f g = by_bool (eqb a b) (λ e. f (eqb-true a b e)) (λ e. g (eqb-false a b e))

pub by_lt {ℓ} : {A : Type ℓ} (a b : ℕ) → (a < b → A) → (b ≤ a → A) → A
by_lt a b f g = by_bool (ltb a b) (λ e. f (ltb-true a b e)) (λ e. g (ltb-false a b e))

pub not_true_false : (b : Bool) → (b ≡ true → ⊥) → b ≡ false
not_true_false b h = by_bool b (λ e. absurd (h e)) (λ e. e)

pub or_cases : (a b : Bool) → (a || b) ≡ true → (a ≡ true) ⊎ (b ≡ true)
or_cases true b h = inl refl
or_cases false b h = inr h

pub or_left : (a b : Bool) → a ≡ true → (a || b) ≡ true
or_left a b h = rw h refl

pub or_right : (a b : Bool) → b ≡ true → (a || b) ≡ true
or_right true b h = refl
or_right false b h = h

pub nor_left : (a b : Bool) → (a || b) ≡ false → a ≡ false
nor_left true b h = h
nor_left false b h = refl

pub nor_right : (a b : Bool) → (a || b) ≡ false → b ≡ false
nor_right true b h = cc
nor_right false b h = h

pub and_left : (a b : Bool) → (a && b) ≡ true → a ≡ true
and_left true b h = refl
and_left false b h = h

pub and_right : (a b : Bool) → (a && b) ≡ true → b ≡ true
and_right true b h = h
and_right false b h = cc

pub and_both : (a b : Bool) → a ≡ true → b ≡ true → (a && b) ≡ true
and_both a b h k = rw h k

-- two tests that pass together are equal
pub equal_if_both : (x y : Bool) → (x ≡ true → y ≡ true) → (y ≡ true → x ≡ true) → x ≡ y
equal_if_both true y f g = sym (f refl)
equal_if_both false true f g = g refl
equal_if_both false false f g = refl

-- bits that differ
pub differ_self : (x : Bool) → differ x x ≡ false
differ_self true = refl
differ_self false = refl

pub differ_sym : (x y : Bool) → differ x y ≡ differ y x
differ_sym true true = refl
differ_sym true false = refl
differ_sym false true = refl
differ_sym false false = refl

pub differ_false : (x y : Bool) → differ x y ≡ false → x ≡ y
differ_false true true h = refl
differ_false true false h = cc
differ_false false true h = cc
differ_false false false h = refl

-- of two sides of a split, seen from p or from z
pub differ_from : (x p z : Bool) → differ (not (differ x p)) (not (differ z p)) ≡ differ x z
differ_from true true true = refl
differ_from true true false = refl
differ_from true false true = refl
differ_from true false false = refl
differ_from false true true = refl
differ_from false true false = refl
differ_from false false true = refl
differ_from false false false = refl

pub differ_cancel : (x y z : Bool) → differ (differ x z) (differ y z) ≡ differ x y
differ_cancel true true z = differ_self (not z)
differ_cancel true false true = refl
differ_cancel true false false = refl
differ_cancel false true true = refl
differ_cancel false true false = refl
differ_cancel false false z = differ_self z
