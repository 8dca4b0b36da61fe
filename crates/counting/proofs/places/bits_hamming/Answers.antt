-- The differing places are those of the whole bytes, and of the last byte those below bit k mod 8. Assumes nothing.
use native.Mathlib.Omega.{arith}
use mathlib.Core.Path.{◌≡◌, sym, ap}
use mathlib.Core.List.{List}
use Prim.Native.Nat.{ℕ, ◌+◌, ◌/◌, ◌%◌, ◌≤◌}
use lib.ListN.{get_or, length, take}
use lib.Seq.{length-take-le}
use Rattle.rack.specs.Bits.{number_bit}
use Rattle.rack.specs.Columns.{hamming}
use Rattle.rack.specs.PlanFile.{address_size}
use Rattle.rack.proofs.Hamming.{hamming_none}
use Rattle.rack.proofs.PlanFile.{address_size_is}
use Rattle.counting.proofs.Bytes.{whole_bytes, hamming_parts}
use Rattle.counting.proofs.places.bits_hamming.Goals as goal

-- the whole bytes stand in both rows
module _ (xs : List ℕ) (k : ℕ) (h : address_size k ≤ length xs) where
  inside : k / 8 ≤ length xs
  inside = omega (arith, address_size_is k)

  cut_long : k / 8 ≡ length (take (k / 8) xs)
  cut_long = sym (length-take-le (k / 8) xs inside)

pub slice_bounds-bytes_hamming-end : goal.slice_bounds-bytes_hamming-end
slice_bounds-bytes_hamming-end c = cut_long _ _ c.requires.1

pub slice_bounds-bytes_hamming-end-2 : goal.slice_bounds-bytes_hamming-end-2
slice_bounds-bytes_hamming-end-2 c = cut_long _ _ c.requires.2

pub bytes_hamming-sum-requires : goal.bytes_hamming-sum-requires
bytes_hamming-sum-requires c =
    let a = c.args in
    let x = cut_long a.x.now a.k c.requires.1 in
    let y = cut_long a.y.now a.k c.requires.2 in
    (omega arith, omega arith)

pub returns-then-address_size-whole : goal.returns-then-address_size-whole
returns-then-address_size-whole c =
    let a = c.args in
    let x = number_bit (get_or a.x.now (0 + a.k / 8) 0) in
    let y = number_bit (get_or a.y.now (0 + a.k / 8) 0) in
    let e : a.k % 8 ≡ 0 = omega (arith, address_size_is a.k) in
    omega (
      arith,
      c.bytes_hamming-sum.ensures.is,
      whole_bytes a.x.now a.y.now (a.k / 8) (inside a.x.now a.k c.requires.1),
      hamming_parts a.x.now a.y.now 0 0 a.k,
      ap (λ (i : ℕ). hamming i x y) e,
      hamming_none x y,
    )

pub bounds-x-whole : goal.bounds-x-whole
bounds-x-whole c = omega (arith, address_size_is c.args.k)

pub bounds-y-whole : goal.bounds-y-whole
bounds-y-whole c = omega (arith, address_size_is c.args.k)

pub returns : goal.returns
returns c =
    let a = c.args in
    let e : 0 + a.k / 8 ≡ a.k / 8 = omega arith in
    omega (
      arith,
      c.bytes_hamming-sum.ensures.is,
      whole_bytes a.x.now a.y.now (a.k / 8) (inside a.x.now a.k c.requires.1),
      c.low_hamming.ensures.is,
      (rw e at (hamming_parts a.x.now a.y.now 0 0 a.k)),
    )
