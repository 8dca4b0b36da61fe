-- The bytes of a plan, written from their start on: sizes, ends, addresses. Assumes nothing.
use mathlib.Core.Path.{◌≡◌, refl, ap}
use mathlib.Core.List.{List, [], ◌++◌}
use Prim.Native.Nat.{ℕ, ◌+◌, ◌-◌, ◌*◌, ◌≤◌, ◌<◌}
use native.Mathlib.Nat.{suc-mul, mul-le-mul, mul-le-mul_right}
use native.Mathlib.Omega.{arith}
use lib.ListN.{length, replicate, length-append, length-replicate}
use Rattle.rack.specs.Limits.{lent_plan, most_cards}
use Rattle.rack.specs.Lists.{tabulate, blocks}
use Rattle.rack.specs.Buffers.{number_at, two_bytes, Written, Appends}
use Rattle.rack.specs.PlanFile.{address_size}
use Rattle.rack.specs.Formed.{SizesAre}
use Rattle.rack.proofs.Appending.{appends_then}
use Rattle.rack.proofs.Tables.{length_tabulate, length_blocks}
use Rattle.rack.proofs.WiringFile.{length_two_bytes}
use Rattle.rack.specs.declared.output.Output.{Output}
use Rattle.rack.specs.Putting.{Grows}
use Rattle.rack.proofs.Putting.{grows_then}
use Rattle.plan_writer.specs.Writing.{end_pair, word_byte, written_bytes}

-- THE ADDRESSES of cards, one after another
pub address_room : (c n size : ℕ) → c < n → c * size + size ≤ n * size
address_room c n size h = omega (arith, suc-mul c size, mul-le-mul_right size h)

pub addresses_room : (n size : ℕ) → n ≤ most_cards → size ≤ 32 → n * size ≤ 8192
addresses_room n size hn hs = mul-le-mul {n₂ = 256} {m₂ = 32} hn hs

-- rows of so many bytes each, one for each card
pub length_rows : (n size : ℕ) (f : ℕ → ℕ → ℕ) → length (blocks n (λ c. tabulate size (f c))) ≡ n * size
length_rows n size f = length_blocks n size (λ c. tabulate size (f c)) (λ c. length_tabulate size (f c))

-- THE ENDS of links
pub length_pairs : (bs : List ℕ) (i : ℕ) → length (blocks i (end_pair bs)) ≡ 2 * i
length_pairs bs i = omega (arith, length_blocks i 2 (end_pair bs) (λ j. length_two_bytes (number_at bs (4 + 2 * j))))

-- NOTHING is written of zeros
written_none : (n : ℕ) → Written (replicate n 0) []
written_none n =
    let e : n ≡ length (replicate {A = ℕ} n 0) - 0 = omega (arith, length-replicate {A = ℕ} n 0) in
    record { within = omega arith; is = ap (λ (k : ℕ). replicate k 0) e }

-- THE THREE SIZES, and then the whole plan
abbrev pub head : (n m k : ℕ) → List ℕ
head n m k = two_bytes n ++ two_bytes m ++ two_bytes k

pub length_head : (n m k : ℕ) → length (head n m k) ≡ 6
length_head n m k = simp (length-append, length_two_bytes) refl

-- SIZES, ENDS, ADDRESSES, whatever they are: one after another in a buffer that was zero, and how long they are
module _ (n m k : ℕ) (ends addresses : List ℕ) where
  pub parts_written : (at : ℕ) (o₀ o₁ o₂ o₃ : List ℕ) → at ≡ 6 + length ends → o₀ ≡ replicate lent_plan 0
      → Appends 0 o₀ o₁ (head n m k) → Appends 6 o₁ o₂ ends → Appends at o₂ o₃ addresses → Written o₃ (head n m k ++ ends ++ addresses)
  parts_written at o₀ o₁ o₂ o₃ e z a b c =
      appends_then 0 at o₀ o₂ o₃ (head n m k ++ ends) addresses (omega (arith, length_head n m k, length-append (head n m k) ends))
      (appends_then 0 6 o₀ o₁ o₂ (head n m k) ends (omega (arith, length_head n m k)) a b) c [] refl (rw z (written_none lent_plan))

  pub length_parts : length (head n m k ++ ends ++ addresses) ≡ 6 + length ends + length addresses
  length_parts = omega (arith, length_head n m k, length-append (head n m k) ends, length-append (head n m k ++ ends) addresses)

module _ (bs ws : List ℕ) (n m k : ℕ) (sizes : SizesAre bs n m) where
  pub plan_grown : (size : ℕ) {a b c d : Output} → size ≡ address_size k → Grows a b (head n m k) → Grows b c (blocks (2 * m) (end_pair bs))
      → Grows c d (blocks n (λ i. tabulate size (word_byte ws i))) → Grows a d (written_bytes bs ws k)
  unfolding written_bytes
  plan_grown size e p q r = rw (← sizes.cards, ← sizes.links, ← e) (grows_then (grows_then p q) r)
