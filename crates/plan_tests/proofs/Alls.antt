-- What `all` over a range answers: whether a test passes each number below its end. Assumes nothing.
use mathlib.Core.Path.{◌≡◌, sym, ap, ◌∙◌}
use mathlib.Core.Bool.{Bool, true, false}
use mathlib.Core.List.{List}
use Prim.Native.Nat.{ℕ, ◌<◌}
use native.Mathlib.Omega.{arith}
use lib.ListN.{length, get_or}
use Rattle.std.specs.Bool.{MatchBool}
use Rattle.std.specs.List.{range_with_len, AllWithin, HoldsAt}
use Rattle.std.proofs.lemmas.List.FromFn.{length-range_with_len, get_or-range_with_len}
use Rattle.rack.specs.Lists.{all, range}
use Rattle.rack.proofs.Logic.{not_true_false, true_not_false}
use Rattle.rack.proofs.Tables.{all_below, below_all}

module _ (n : ℕ) (p : ℕ → Bool) where
  abbrev numbers : List ℕ
  numbers = range_with_len 0 n

  number_is : (i : ℕ) → i < n → get_or numbers i 0 ≡ i
  number_is i l = omega (arith, get_or-range_with_len 0 n i 0 l)

  pub all_numbers : (r : Bool) → MatchBool r (AllWithin (λ x. p x ≡ true) numbers 0 (length numbers)) ((k : ℕ) × (k < length numbers) × HoldsAt (λ x. p x ≡ false) numbers k)
      → r ≡ all p (range n)
  all_numbers true h = sym (below_all n p (λ i l. ap p (sym (number_is i l)) ∙ h i 0 (omega arith) (omega (arith, length-range_with_len 0 n))))
  all_numbers false h =
      let l : h.0 < n = omega (arith, length-range_with_len 0 n, h.1) in
      sym (not_true_false (all p (range n)) (λ t. true_not_false (p h.0) (all_below n p t h.0 l) (ap p (sym (number_is h.0 l)) ∙ h.2 0)))
