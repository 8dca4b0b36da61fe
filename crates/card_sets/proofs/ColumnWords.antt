-- The words of a set of cards, eight cards at a time from the highest down. Assumes nothing.
use mathlib.Core.Path.{◌≡◌, refl, sym, ap, ◌∙◌}
use mathlib.Core.Bool.{Bool, false, ◌&&◌}
use Prim.Native.Nat.{ℕ, zero, suc, ◌+◌, ◌*◌, ◌-◌, ◌^◌, ◌≤◌, ◌<◌, min}
use native.Mathlib.Nat.{mul_assoc, pow-succ'}
use native.Mathlib.Omega.{arith}
use lib.Dec.{ltb}
use lib.Pow.{pow_mono}
use borrow.Author.Tests.{lt-ltb, le-ltb}
use Rattle.rack.specs.Bits.{bits_value}
use Rattle.rack.proofs.Bits.{bits_value_ext, bits_value_few, bits_value_fits}
use Rattle.card_sets.specs.Sets.{set_word}

-- VALUES OF BITS, cut in two
bits_cut : (m n : ℕ) (f : ℕ → Bool) → bits_value (m + n) f ≡ bits_value m f + 2 ^ m * bits_value n (λ i. f (m + i))
unfolding bits_value
bits_cut zero n f =
    let e : 0 + n ≡ n = omega arith in
    rw e (omega (arith, bits_value_ext n f (λ i. f (0 + i)) (λ i h. ap f (omega arith))))
bits_cut (suc m) n f =
    let e : suc m + n ≡ suc (m + n) = omega arith in
    let x = bits_value n (λ i. f (suc m + i)) in
    rw e (omega (
      arith,
      bits_cut m n (λ i. f (suc i)),
      ap (λ (y : ℕ). 2 ^ m * y) (bits_value_ext n (λ i. f (suc (m + i))) (λ i. f (suc m + i)) (λ i h. ap f (omega arith))),
      ap (λ (y : ℕ). y * x) (pow-succ' 2 m) ∙ mul_assoc 2 (2 ^ m) x,
    ))

pub bits_none : (n : ℕ) (f : ℕ → Bool) → ((i : ℕ) → i < n → f i ≡ false) → bits_value n f ≡ 0
bits_none n f h = bits_value_ext n f (λ i. false) h ∙ omega (arith, bits_value_few n (λ i. false) 0 (λ j l. refl))

-- no bits from place m on
bits_padded : (m n : ℕ) (f : ℕ → Bool) → ((i : ℕ) → m ≤ i → i < m + n → f i ≡ false) → bits_value (m + n) f ≡ bits_value m f
bits_padded m n f h =
    let none : bits_value n (λ i. f (m + i)) ≡ 0 = bits_none n (λ i. f (m + i)) (λ i l. h (m + i) (omega arith) (omega arith)) in
    bits_cut m n f ∙ rw none (omega arith)

module _ (n : ℕ) (s : ℕ → Bool) where
  -- the eight cards from `first` on
  unfoldable pub eight_bits : (first : ℕ) → ℕ
  eight_bits first = bits_value 8 (λ i. ltb (first + i) n && s (first + i))

  pub counted_bits : (first count : ℕ) (f : ℕ → Bool) → count ≡ min 8 (n - first) → ((i : ℕ) → f i ≡ s (first + i)) → bits_value count f ≡ eight_bits first
  unfolding eight_bits
  counted_bits first count f e h =
      bits_value_ext count f inside (λ i l. h i ∙ sym (rw (lt-ltb (first + i) n (omega arith)) refl))
      ∙ sym (bits_padded count (8 - count) inside (λ i l g. rw (le-ltb (first + i) n (omega arith)) refl))
      ∙ ap (λ (x : ℕ). bits_value x inside) (omega arith)
    where
      inside : ℕ → Bool
      inside i = ltb (first + i) n && s (first + i)

  -- the cards of word t from the eight with number u on
  unfoldable pub high_word : (t u : ℕ) → ℕ
  high_word t u = bits_value (64 - 8 * u) (λ i. ltb (64 * t + 8 * u + i) n && s (64 * t + 8 * u + i))

  pub high_none : (t : ℕ) → 0 ≡ high_word t 8
  unfolding high_word bits_value
  high_none t = refl

  pub high_all : (t : ℕ) → high_word t 0 ≡ set_word n s t
  unfolding high_word set_word
  high_all t = bits_value_ext 64 _ _ (λ i h. ap (λ (x : ℕ). ltb x n && s x) (omega arith))

  pub high_small : (t u : ℕ) → 0 < u → high_word t u < 2 ^ 56
  unfolding high_word
  high_small t u h = omega (arith, bits_value_fits (64 - 8 * u) (λ i. ltb (64 * t + 8 * u + i) n && s (64 * t + 8 * u + i)), pow_mono {i = 64 - 8 * u} {j = 56} (omega arith))

  pub high_next : (t u : ℕ) → 0 < u → u ≤ 8 → eight_bits (64 * t + 8 * (u - 1)) + 256 * high_word t u ≡ high_word t (u - 1)
  unfolding high_word eight_bits
  high_next t u some le =
      let e : 64 - 8 * (u - 1) ≡ 8 + (64 - 8 * u) = omega arith in
      sym (ap (λ (x : ℕ). bits_value x from) e ∙ bits_cut 8 (64 - 8 * u) from
      ∙ ap (λ (x : ℕ). bits_value 8 from + 256 * x) (bits_value_ext (64 - 8 * u) _ _ (λ i h. ap (λ (x : ℕ). ltb x n && s x) (omega arith))))
    where
      from : ℕ → Bool
      from i = ltb (64 * t + 8 * (u - 1) + i) n && s (64 * t + 8 * (u - 1) + i)
