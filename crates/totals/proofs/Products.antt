-- The hops over all pairs of cards are the sum over columns of ones times zeros: of any rows of bits that measure hops, and of the columns of
-- an accepted rack. Assumes nothing.
use mathlib.Core.Path.{◌≡◌, refl, sym, ap, ap₂, ◌∙◌}
use mathlib.Core.Bool.{Bool, true, false, not, cond}
use mathlib.Core.List.{List, [], ◌∷◌}
use Prim.Native.Nat.{ℕ, zero, suc, ◌+◌, ◌*◌, ◌-◌, ◌<◌}
use native.Mathlib.Omega.{arith}
use lib.ListN.{length, get_or}
use Rattle.rack.specs.Lists.{differ, one, count, sum, tabulate, range}
use Rattle.rack.specs.Wiring.{Wiring}
use Rattle.rack.specs.Hops.{hops}
use Rattle.rack.specs.Columns.{columns, column_count, address, hamming, Embedding}
use Rattle.rack.specs.Embeddings.{column_of}
use Rattle.rack.proofs.Logic.{by_bool}
use Rattle.rack.proofs.Tables.{length_tabulate, count_tabulate}
use Rattle.rack.proofs.Sums.{sum_suc, sum_ext, sum_map}
use Rattle.rack.proofs.Columns.{column_long, column_of_address}
use Rattle.totals.specs.Totals.{total_hops, column_products, ones_of, bit_products}
use Rattle.totals.proofs.Pairs.{pairs, pairs_ext, pairs_add, pairs_zero}
use Rattle.totals.proofs.Totals.{total_pairs}

-- COUNTS as sums; those that fail a test are all but those that pass
count_sum : {A : Type 0} (p : A → Bool) (n : ℕ) (f : ℕ → A) → count p (tabulate n f) ≡ sum (tabulate n (λ i. one (p (f i))))
unfolding sum
count_sum p zero f = refl
count_sum p (suc n) f = ap (λ (k : ℕ). one (p (f 0)) + k) (count_sum p n (λ i. f (suc i)))

count_not : {A : Type 0} (p : A → Bool) (xs : List A) → count (λ x. not (p x)) xs ≡ length xs - count p xs
count_not p xs = omega (arith, both xs)
  where
    both : (ys : List _) → count p ys + count (λ x. not (p x)) ys ≡ length ys
    both [] = refl
    both (y ∷ ys) =
        by_bool (p y)
        (λ (t : p y ≡ true). rw t (omega (arith, both ys)))
        (λ (t : p y ≡ false). rw t (omega (arith, both ys)))

-- ONE COLUMN, as bits of the cards: a card with 1 differs from each 0 before it, and one with 0 from each 1
module _ (x : ℕ → Bool) where
  abbrev ones : (n : ℕ) → ℕ
  ones n = sum (tabulate n (λ i. one (x i)))

  abbrev zeros : (n : ℕ) → ℕ
  zeros n = sum (tabulate n (λ i. one (not (x i))))

  abbrev unlike : (a b : ℕ) → ℕ
  unlike a b = one (differ (x a) (x b))

  unlike_below : (n : ℕ) (b : Bool) → sum (tabulate n (λ i. one (differ b (x i)))) ≡ cond b (zeros n) (ones n)
  unlike_below n true = refl
  unlike_below n false = refl

  product_more : (b : Bool) (o z : ℕ) → o * z + cond b z o ≡ (o + one b) * (z + one (not b))
  product_more true o z = omega arith
  product_more false o z = omega arith

  column_pairs : (n : ℕ) → pairs n unlike ≡ ones n * zeros n
  unfolding sum
  column_pairs zero = refl
  column_pairs (suc n) =
      sum_suc n (λ a. sum (tabulate a (unlike a)))
      ∙ ap₂ ◌+◌ (column_pairs n) (unlike_below n (x n)) ∙ product_more (x n) (ones n) (zeros n)
      ∙ sym (ap₂ ◌*◌ (sum_suc n (λ i. one (x i))) (sum_suc n (λ i. one (not (x i)))))

  column_product : (n : ℕ) → pairs n unlike ≡ count x (range n) * (n - count x (range n))
  column_product n =
      let z : count (λ i. not (x i)) (range n) ≡ n - count x (range n) = omega (arith, count_not x (range n), length_tabulate n (λ i. i)) in
      column_pairs n ∙ sym (ap₂ ◌*◌ (count_sum x n (λ i. i)) (sym z ∙ count_sum (λ i. not (x i)) n (λ i. i)))

-- ALL COLUMNS: the pairs that differ in the first, and in the others
hamming_suc : (k : ℕ) (x y : ℕ → Bool) → hamming (suc k) x y ≡ one (differ (x 0) (y 0)) + hamming k (λ j. x (suc j)) (λ j. y (suc j))
unfolding hamming
hamming_suc k x y = ap (λ (m : ℕ). one (differ (x 0) (y 0)) + m) (count_tabulate (λ j. differ (x j) (y j)) k suc)

hamming_pairs : (n k : ℕ) (bits : ℕ → ℕ → Bool) → pairs n (λ a b. hamming k (bits a) (bits b)) ≡ bit_products bits n k
unfolding bit_products ones_of hamming sum
hamming_pairs n zero bits = pairs_zero n
hamming_pairs n (suc k) bits =
    let later : ℕ → ℕ → Bool = λ a j. bits a (suc j) in
    pairs_ext n _ _ (λ a b i j. hamming_suc k (bits a) (bits b))
    ∙ pairs_add n (λ a b. one (differ (bits a 0) (bits b 0))) (λ a b. hamming k (later a) (later b))
    ∙ ap₂ ◌+◌ (column_product (λ a. bits a 0) n) (hamming_pairs n k later)

pub embedding_products : (w : Wiring) (k : ℕ) (bits : ℕ → ℕ → Bool) → Embedding w k bits → total_hops w ≡ bit_products bits w.cards k
embedding_products w k bits m =
    total_pairs w ∙ pairs_ext w.cards (hops w) _ (λ a b i j. sym (m a b i (omega arith))) ∙ hamming_pairs w.cards k bits

-- THE COLUMNS of a rack hold the bits of its addresses
module _ (w : Wiring) (j : ℕ) (h : j < column_count w) where
  abbrev column : List Bool
  column = get_or (columns w) j []

  column_ones : count (λ b. b) column ≡ ones_of (address w) w.cards j
  unfolding ones_of column_of
  column_ones = ap (count (λ b. b)) (sym (column_of_address w j h)) ∙ count_tabulate (λ b. b) w.cards (λ a. address w a j)

  column_zeros : count not column ≡ w.cards - ones_of (address w) w.cards j
  column_zeros = omega (arith, count_not (λ b. b) column, column_long w j h, column_ones)

pub address_products : (w : Wiring) → bit_products (address w) w.cards (column_count w) ≡ column_products (columns w)
unfolding bit_products column_products column_count
address_products w =
    sym (sum_map _ (columns w) [] ∙ sum_ext (length (columns w)) _ _ (λ j h. ap₂ ◌*◌ (column_ones w j h) (column_zeros w j h)))
