-- Addresses in rows of other lengths: cut, with zeros behind them, and with a column more. Assumes nothing.
use mathlib.Core.Path.{◌≡◌, refl, sym, ap, ap₂, ◌∙◌}
use mathlib.Core.List.{List, [], ◌∷◌, ◌++◌, append-nil}
use Prim.Native.Nat.{ℕ, zero, suc, ◌+◌, ◌*◌, ◌-◌, ◌/◌, ◌%◌, ◌^◌, ◌≤◌, ◌<◌, min}
use native.Mathlib.Nat.{zero-add, suc-add}
use native.Mathlib.Omega.{arith}
use lib.ListN.{length, get_or, drop, replicate}
use lib.Seq.{get_or-take, get_or-drop, ext_get_or}
use borrow.Author.Tests.{lt-ltb, le-ltb}
use Rattle.rack.specs.Lists.{tabulate}
use Rattle.rack.specs.PlanFile.{plan_columns, address_size, addresses_start, address_start, Sized}
use Rattle.rack.proofs.Logic.{by_eq, by_lt}
use Rattle.rack.proofs.Tables.{length_tabulate, get_or_tabulate}
use Rattle.reader.proofs.Addresses.{address_counted}
use Rattle.reader.proofs.Parts.{length_part}
use Rattle.plan_parts.specs.Parts.{part, row_byte, row_with_one}

-- ZEROS
zeros_tabulate : (z : ℕ) (f : ℕ → ℕ) → ((t : ℕ) → f t ≡ 0) → tabulate z f ≡ replicate z 0
zeros_tabulate zero f h = refl
zeros_tabulate (suc z) f h = ap₂ ◌∷◌ (h 0) (zeros_tabulate z (λ t. f (suc t)) (λ t. h (suc t)))

tabulate_zeros : (n z : ℕ) (f : ℕ → ℕ) → ((t : ℕ) → n ≤ t → f t ≡ 0) → tabulate (n + z) f ≡ tabulate n f ++ replicate z 0
tabulate_zeros zero z f h = rw (zero-add z) (zeros_tabulate z f (λ t. h t (omega arith)))
tabulate_zeros (suc n) z f h = rw (suc-add n z) (cc (tabulate_zeros n z (λ t. f (suc t)) (λ t l. h (suc t) (omega arith))))

-- THE BYTES of card a's address
pub row_byte_below : (ps : List ℕ) (a t : ℕ) → t < address_size (plan_columns ps) → row_byte ps a t ≡ get_or ps (address_start ps a + t) 0
unfolding row_byte
row_byte_below ps a t h = rw (lt-ltb t (address_size (plan_columns ps)) h) refl

pub row_byte_behind : (ps : List ℕ) (a t : ℕ) → address_size (plan_columns ps) ≤ t → row_byte ps a t ≡ 0
unfolding row_byte
row_byte_behind ps a t h = rw (le-ltb t (address_size (plan_columns ps)) h) refl

module _ (ps : List ℕ) {n m c : ℕ} (z : Sized ps n m c) (a : ℕ) (h : a < n) where
  abbrev size : ℕ
  size = address_size (plan_columns ps)

  inside : address_start ps a + size ≤ length ps
  inside =
      let start = addresses_start m + a * address_size c in
      let e = address_counted ps z a (address_size c) start h refl refl in
      rw (e.0, z.columns) at e.1

  part_row : (count : ℕ) → count ≤ size → part ps (address_start ps a) count ≡ tabulate count (row_byte ps a)
  part_row count h =
      let l = length_part (address_start ps a) count ps (omega (arith, inside)) in
      ext_get_or 0 (part ps (address_start ps a) count) (tabulate count (row_byte ps a)) (l ∙ sym (length_tabulate count (row_byte ps a))) (λ t k.
      let i : t < count = omega (arith, l) in
      get_or-take count (drop (address_start ps a) ps) t 0 i ∙ get_or-drop (address_start ps a) ps t 0 ∙ sym (row_byte_below ps a t (omega arith))
      ∙ sym (get_or_tabulate count (row_byte ps a) t 0 i))

  -- cut to `wide` bytes, or with zeros behind it
  row_wide : (wide shared : ℕ) → shared ≡ min size wide
      → tabulate wide (row_byte ps a) ≡ part ps (address_start ps a) shared ++ replicate (wide - shared) 0
  row_wide wide shared e =
      by_lt size wide
      (λ h.
      let s : shared ≡ size = omega arith in
      let w : wide ≡ size + (wide - size) = omega arith in
      ap (λ (i : ℕ). tabulate i (row_byte ps a)) w ∙ tabulate_zeros size (wide - size) (row_byte ps a) (row_byte_behind ps a)
      ∙ sym (rw s (ap (λ (xs : List ℕ). xs ++ replicate (wide - size) 0) (part_row size (omega arith)))))
      (λ h.
      let s : shared ≡ wide = omega arith in
      let z : wide - wide ≡ 0 = omega arith in
      sym (rw (s, z, append-nil (part ps (address_start ps a) wide)) (part_row wide h)))

  -- the byte of column k, where a byte with none of the columns before it need not be there
  row_byte_last : let k = plan_columns ps in get_or ps (address_start ps a + k / 8) 0 % 2 ^ (k % 8) ≡ row_byte ps a (k / 8) % 2 ^ (k % 8)
  unfolding address_size
  row_byte_last =
      by_eq (plan_columns ps % 8) 0
      (λ e. rw e (omega arith))
      (λ n. ap (λ (x : ℕ). x % 2 ^ (plan_columns ps % 8)) (sym (row_byte_below ps a (plan_columns ps / 8) (omega arith))))

  pub row_parts : (start wide shared : ℕ) → start ≡ addresses_start m + a * address_size c → shared ≡ min (address_size c) wide
      → part ps start shared ++ replicate (wide - shared) 0 ≡ tabulate wide (row_byte ps a)
  row_parts start wide shared e f =
      let place = (address_counted ps z a (address_size c) start h refl e).0 in
      let g : shared ≡ min size wide = rw z.columns at f in
      rw place (sym (row_wide wide shared g))

  -- the whole bytes below column k, and the byte of column k with 1 there
  pub row_one_parts : (start b : ℕ) → start ≡ addresses_start m + a * address_size c
      → b ≡ get_or ps (start + c / 8) 0 % 2 ^ (c % 8) + 2 ^ (c % 8) → part ps start (c / 8) ++ (b ∷ []) ≡ row_with_one ps a
  unfolding row_with_one address_size
  row_one_parts start b e g =
      let i = c / 8 in
      let f = (address_counted ps z a (address_size c) start h refl e).0 in
      let last : row_byte ps a (c / 8) % 2 ^ (c % 8) + 2 ^ (c % 8) ≡ b = sym (g ∙ rw (f, z.columns) (ap (λ (x : ℕ). x + 2 ^ (plan_columns ps % 8)) row_byte_last)) in
      rw (← z.columns) (ap₂ (λ (xs : List ℕ) (x : ℕ). xs ++ (x ∷ [])) (rw f (part_row i (omega (arith, z.columns)))) (sym last))
