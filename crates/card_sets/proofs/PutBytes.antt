-- The bytes of a word put below the bits of eight others, byte by byte. Assumes nothing.
use mathlib.Core.Path.{◌≡◌, ap₂, ◌∙◌}
use mathlib.Core.List.{List}
use Prim.Native.Nat.{ℕ, ◌+◌, ◌*◌, ◌/◌, ◌%◌, ◌^◌, ◌<◌}
use native.Mathlib.Omega.{arith}
use lib.ListN.{length, get_or, set, length-set}
use lib.Seq.{get_or-set_same, get_or-set_other}
use Rattle.rack.proofs.Logic.{by_eq}
use Rattle.card_sets.specs.WordBytes.{BytesPut}

module _ (word at : ℕ) (old mid : List ℕ) (j : ℕ) (put : BytesPut word at old mid j) where
  -- the next word is still as it was
  pub next_old : get_or mid (at + 4 * j) 0 ≡ get_or old (at + 4 * j) 0
  next_old = put.others (at + 4 * j) (λ i h e. omega arith)

  pub more_put : (byte : ℕ) → byte ≡ word / 256 ^ j % 256 → at + 4 * j < length mid
      → BytesPut word at old (set mid (at + 4 * j) (byte + 256 * get_or mid (at + 4 * j) 0)) (j + 1)
  more_put byte e inside =
      record {
        long = simp length-set put.long;
        is = λ i h. by_eq i j
            (λ (f : i ≡ j). rw f (get_or-set_same mid (at + 4 * j) _ 0 inside ∙ ap₂ (λ (x y : ℕ). x + 256 * y) e next_old))
            (λ f. get_or-set_other mid (at + 4 * j) (at + 4 * i) _ 0 (λ g. f (omega arith)) ∙ put.is i (omega arith));
        others = λ x h. get_or-set_other mid (at + 4 * j) x _ 0 (h j (omega arith)) ∙ put.others x (λ i l. h i (omega arith));
      }
