-- The loops' sums, each with its start, one step more and its bound: the ones of a column card by card, the products column by column,
-- which are all hops, and the hops of a card. Assumes nothing.
use mathlib.Core.Path.{◌≡◌, refl, sym, ap, ap₂, ◌∙◌}
use mathlib.Core.Bool.{Bool}
use mathlib.Core.List.{List}
use Prim.Native.Nat.{ℕ, ◌+◌, ◌*◌, ◌-◌, ◌≤◌, ◌<◌}
use native.Mathlib.Nat.{mul-le-mul}
use native.Mathlib.Omega.{arith}
use Rattle.rack.specs.Lists.{one, count, range}
use Rattle.rack.specs.Hops.{hops}
use Rattle.rack.specs.Limits.{most_cards}
use Rattle.rack.specs.PlanFile.{plan_bit, plan_columns, plan_hamming, plan_wiring, Sized}
use Rattle.rack.proofs.Lists.{count_le_length, count_snoc}
use Rattle.rack.proofs.Tables.{length_tabulate, tabulate_snoc}
use Rattle.rack.proofs.Sums.{sum_none, sum_last, sum_le}
use Rattle.rack.proofs.WiringFile.{wiring_at_cards}
use Rattle.reader.specs.Promises.{Measured}
use Rattle.reader.proofs.Measured.{plan_embedding}
use Rattle.totals.specs.Totals.{bit_products, hops_to, ones_of, total_hops}
use Rattle.totals.proofs.Products.{embedding_products}

-- ONES of a column
module _ (bits : ℕ → ℕ → Bool) (j : ℕ) where
  pub ones_none : ones_of bits 0 j ≡ 0
  unfolding ones_of
  ones_none = refl

  pub ones_last : (n : ℕ) → ones_of bits (n + 1) j ≡ ones_of bits n j + one (bits n j)
  unfolding ones_of
  ones_last n = ap (count (λ c. bits c j)) (tabulate_snoc n (λ c. c)) ∙ count_snoc (λ c. bits c j) (range n) n

  pub ones_few : (n ones : ℕ) → ones ≡ ones_of bits n j → ones ≤ n
  unfolding ones_of
  ones_few n ones e = omega (arith, e, count_le_length (λ c. bits c j) (range n), length_tabulate n (λ c. c))

-- PRODUCTS of ones and zeros
module _ (bits : ℕ → ℕ → Bool) (n : ℕ) where
  pub products_none : bit_products bits n 0 ≡ 0
  unfolding bit_products
  products_none = sum_none (λ j. ones_of bits n j * (n - ones_of bits n j))

  pub products_more : (k sum ones : ℕ) → sum ≡ bit_products bits n k → ones ≡ ones_of bits n k → sum + ones * (n - ones) ≡ bit_products bits n (k + 1)
  unfolding bit_products
  products_more k sum ones e f = rw (e, f) (sym (sum_last k (λ j. ones_of bits n j * (n - ones_of bits n j))))

  product_few : n ≤ most_cards → (j : ℕ) → ones_of bits n j * (n - ones_of bits n j) ≤ most_cards * most_cards
  product_few h j = mul-le-mul {n₂ = most_cards} {m₂ = most_cards} (omega (arith, ones_few bits j n (ones_of bits n j) refl)) (omega arith)

  pub products_few : n ≤ most_cards → (k : ℕ) → bit_products bits n k ≤ k * (most_cards * most_cards)
  unfolding bit_products
  products_few h k = sum_le k (most_cards * most_cards) (λ j. ones_of bits n j * (n - ones_of bits n j)) (λ j l. product_few h j)

pub products_total : (ps : List ℕ) {n m k : ℕ} → Sized ps n m k → Measured ps → bit_products (plan_bit ps) n k ≡ total_hops (plan_wiring ps)
products_total ps z m =
    ap₂ (bit_products (plan_bit ps)) (z.cards ∙ sym (wiring_at_cards 6 ps)) z.columns
    ∙ sym (embedding_products (plan_wiring ps) (plan_columns ps) (plan_bit ps) (plan_embedding ps m))

-- HOPS of a card
pub hops_none : (ps : List ℕ) (a : ℕ) → hops_to (plan_wiring ps) 0 a ≡ 0
unfolding hops_to
hops_none ps a = sum_none (hops (plan_wiring ps) a)

module _ (ps : List ℕ) {n l k : ℕ} (z : Sized ps n l k) (m : Measured ps) (a : ℕ) (inside : a < n) where
  pub hops_more : (c sum d : ℕ) → c < n → sum ≡ hops_to (plan_wiring ps) c a → d ≡ plan_hamming ps a c
      → sum + d ≡ hops_to (plan_wiring ps) (c + 1) a
  unfolding hops_to
  hops_more c sum d h e f =
      let g = m.measured a c (omega (arith, z.cards)) (omega (arith, z.cards)) in
      rw (e, f, g) (sym (sum_last c (hops (plan_wiring ps) a)))

  pub hops_few : (c : ℕ) → c ≤ n → hops_to (plan_wiring ps) c a ≤ c * most_cards
  unfolding hops_to
  hops_few c h =
      sum_le c most_cards (hops (plan_wiring ps) a)
      (λ b l. omega (arith, m.reached a b (omega (arith, z.cards)) (omega (arith, z.cards)), z.cards, z.few))
