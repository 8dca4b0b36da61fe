-- Records and cards in lent bytes: written number by number, and read back. Assumes nothing.
use mathlib.Core.Path.{◌≡◌, refl, sym, ap, ◌∙◌}
use mathlib.Core.List.{List, [], ◌++◌}
use Prim.Native.Nat.{ℕ, ◌-◌, ◌*◌, ◌<◌}
use native.Mathlib.Omega.{arith}
use lib.ListN.{length, get_or, replicate, length-append, length-replicate}
use Rattle.rack.specs.Lists.{tabulate, blocks}
use Rattle.rack.specs.Buffers.{number_at, two_bytes, Appends, Written, four_bytes, number32_at}
use Rattle.rack.proofs.Appending.{length_four_bytes, written_full, appends_then}
use Rattle.rack.proofs.Tables.{tabulate_ext, tabulate_get_or, length_blocks}
use Rattle.rack.proofs.WiringFile.{length_two_bytes, number_at_blocks}
use Rattle.forwarder.specs.Calls.{lent_met}
use Rattle.jolvente.specs.Records.{lent_record, record_bytes, card_bytes, cards_in}

-- NOTHING is written of zeros
written_none : (n : ℕ) → Written (replicate n 0) []
written_none n =
    let e : n ≡ length (replicate {A = ℕ} n 0) - 0 = omega (arith, length-replicate {A = ℕ} n 0) in
    record { within = omega arith; is = ap (λ (k : ℕ). replicate k 0) e }

-- A RECORD of four, and one that reads so
pub record Reads (bs : List ℕ) (x y z u : ℕ) : Type 0 where
  pub first : number32_at bs 0 ≡ x
  pub second : number32_at bs 4 ≡ y
  pub third : number32_at bs 8 ≡ z
  pub fourth : number32_at bs 12 ≡ u

module _ (x y z u : ℕ) where
  pub length_record : length (record_bytes x y z u) ≡ lent_record
  unfolding record_bytes
  length_record = simp (length-append, length_four_bytes) refl

  pub record_appended : (n : ℕ) (o₀ o₁ o₂ o₃ o₄ : List ℕ) → o₀ ≡ replicate n 0 → length o₄ ≡ lent_record → Appends 0 o₀ o₁ (four_bytes x) → Appends 4 o₁ o₂ (four_bytes y)
      → Appends 8 o₂ o₃ (four_bytes z) → Appends 12 o₃ o₄ (four_bytes u) → o₄ ≡ record_bytes x y z u
  unfolding record_bytes
  record_appended n o₀ o₁ o₂ o₃ o₄ e long a b c d =
      let two = appends_then 0 4 o₀ o₁ o₂ (four_bytes x) (four_bytes y) (simp length_four_bytes refl) a b in
      let three = appends_then 0 8 o₀ o₂ o₃ (four_bytes x ++ four_bytes y) (four_bytes z) (simp (length-append, length_four_bytes) refl) two c in
      let four = appends_then 0 12 o₀ o₃ o₄ (four_bytes x ++ four_bytes y ++ four_bytes z) (four_bytes u) (simp (length-append, length_four_bytes) refl) three d in
      written_full o₄ (record_bytes x y z u) (omega (arith, length_record)) (four [] refl (rw e (written_none n)))

  pub record_reads : x < 4294967296 → y < 4294967296 → z < 4294967296 → u < 4294967296 → Reads (record_bytes x y z u) x y z u
  unfolding number32_at record_bytes four_bytes number_at two_bytes
  record_reads hx hy hz hu = record { first = omega arith; second = omega arith; third = omega arith; fourth = omega arith }

-- CARDS: numbers of 16 bits
pub length_first_cards : (n : ℕ) (cs : List ℕ) → length (blocks n (λ i. two_bytes (get_or cs i 0))) ≡ 2 * n
length_first_cards n cs = omega (arith, length_blocks n 2 (λ i. two_bytes (get_or cs i 0)) (λ i. length_two_bytes (get_or cs i 0)))

pub length_card_bytes : (cs : List ℕ) → length (card_bytes cs) ≡ 2 * length cs
unfolding card_bytes
length_card_bytes cs = length_first_cards (length cs) cs

pub cards_read : (cs : List ℕ) → length cs ≡ lent_met → ((i : ℕ) → i < lent_met → get_or cs i 0 < 65536) → cards_in (card_bytes cs) ≡ cs
unfolding cards_in card_bytes
cards_read cs e small =
    rw e (tabulate_ext 256 (λ i. number_at (blocks 256 (λ i. two_bytes (get_or cs i 0))) (2 * i)) (λ i. get_or cs i 0)
    (λ i h. number_at_blocks 256 (λ i. get_or cs i 0) i h (small i h)))
    ∙ ap (λ (n : ℕ). tabulate n (λ i. get_or cs i 0)) (sym e) ∙ tabulate_get_or cs 0
