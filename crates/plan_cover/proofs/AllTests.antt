-- The tests of a plan, told one by one, are all of them. Assumes nothing.
use mathlib.Core.Path.{◌≡◌, refl, sym, ap, ◌∙◌}
use mathlib.Core.Bool.{Bool, true, false, ◌&&◌}
use mathlib.Core.List.{List}
use Prim.Native.Nat.{ℕ}
use lib.Dec.{eqb}
use Rattle.rack.specs.PlanFile.{Sized, plan_bit, plan_wiring}
use Rattle.rack.specs.Refusals.{links_refusal}
use Rattle.rack.proofs.WiringFile.{wiring_at_cards}
use Rattle.plan_tests.specs.Tests.{cards_covered, columns_in_order, first_zero, spare_zero, tests_hold}

and_false : (b : Bool) → (b && false) ≡ false
and_false true = refl
and_false false = refl

module _ (ps : List ℕ) (n m k : ℕ) (z : Sized ps n m k) where
  abbrev Linked : Bool
  Linked = eqb (links_refusal (plan_wiring ps)).number 0

  abbrev Ordered : Bool
  Ordered = columns_in_order k (plan_bit ps) 0 (plan_wiring ps).links

  abbrev Covered : Bool
  Covered = cards_covered (plan_wiring ps) k (plan_bit ps)

  told : tests_hold ps ≡ ((Linked && Ordered) && (first_zero k (plan_bit ps) && spare_zero n k (plan_bit ps)) && Covered)
  unfolding tests_hold
  told = rw (← z.columns, wiring_at_cards 6 ps, ← z.cards) refl

  pub unlinked : false ≡ Linked → false ≡ tests_hold ps
  unlinked e = sym (told ∙ rw (← e) refl)

  pub unordered : true ≡ Linked → false ≡ Ordered → false ≡ tests_hold ps
  unordered l e = sym (told ∙ rw (← l, ← e) refl)

  pub spare_set : true ≡ Linked → true ≡ Ordered → false ≡ spare_zero n k (plan_bit ps) → false ≡ tests_hold ps
  spare_set l o e = sym (told ∙ rw (← l, ← o, ← e) (ap (λ (b : Bool). b && Covered) (and_false (first_zero k (plan_bit ps)))))

  pub first_set : true ≡ Linked → true ≡ Ordered → false ≡ first_zero k (plan_bit ps) → false ≡ tests_hold ps
  first_set l o e = sym (told ∙ rw (← l, ← o, ← e) refl)

  pub all_told : (r : Bool) → true ≡ Linked → true ≡ Ordered → true ≡ spare_zero n k (plan_bit ps) → true ≡ first_zero k (plan_bit ps) → r ≡ Covered → r ≡ tests_hold ps
  all_told r l o s f e = e ∙ sym (told ∙ rw (← l, ← o, ← s, ← f) refl)
