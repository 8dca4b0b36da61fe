-- Refusal 10 from a table of hops: hops from card 0 in its first row, and the lowest link whose ends have equal ones. Assumes nothing.
use mathlib.Core.Path.{◌≡◌, ap, sym, ◌∙◌}
use mathlib.Core.Bool.{cond}
use mathlib.Core.Logic.{◌≢◌}
use mathlib.Core.List.{List}
use Prim.Native.Nat.{ℕ, ◌<◌}
use native.Mathlib.Omega.{arith}
use lib.Dec.{eqb}
use borrow.Author.Tests.{eq-eqb, ne_eqb}
use Rattle.rack.specs.Wiring.{Wiring, link_count, link_at}
use Rattle.rack.specs.Hops.{hops}
use Rattle.rack.specs.WiringFile.{file_wiring}
use Rattle.rack.specs.Refusals.{refusal, parity_refusal}
use Rattle.rack.proofs.Refusals.{lowest_fault_none, lowest_fault_is}
use Rattle.rack.specs.Formed.{Formed}
use Rattle.survey.proofs.Forms.{formed_count}

-- the ends of link i have different hops from card 0
abbrev pub Uneven : Wiring → (i : ℕ) → Type 0
Uneven w i = hops w 0 (link_at w i).first ≢ hops w 0 (link_at w i).second

module _ (w : Wiring) where
  abbrev parity_number : (i : ℕ) → ℕ
  parity_number i = cond (eqb (hops w 0 (link_at w i).first) (hops w 0 (link_at w i).second)) 10 0

  uneven_number : (i : ℕ) → Uneven w i → parity_number i ≡ 0
  uneven_number i u = rw (ne_eqb _ _ u)

  pub uneven_none : ((i : ℕ) → i < link_count w → Uneven w i) → parity_refusal w ≡ refusal 0 0
  unfolding parity_refusal
  uneven_none h = lowest_fault_none (link_count w) parity_number (λ i l. uneven_number i (h i l))

  even_lowest : (i : ℕ) → i < link_count w → ((j : ℕ) → j < i → Uneven w j) → hops w 0 (link_at w i).first ≡ hops w 0 (link_at w i).second
      → parity_refusal w ≡ refusal 10 i
  unfolding parity_refusal
  even_lowest i l before e =
      let ten : parity_number i ≡ 10 = rw (eq-eqb (hops w 0 (link_at w i).first) (hops w 0 (link_at w i).second) e) in
      lowest_fault_is (link_count w) parity_number i l (λ j k. uneven_number j (before j k)) (λ z. omega arith) ∙ ap (λ (x : ℕ). refusal x i) ten

-- link i of a file, by the hops from card 0 to its ends
module _ (bs : List ℕ) (n m i p q x y : ℕ) (f : Formed bs n m) (l : i < m) (ep : p ≡ (link_at (file_wiring bs) i).first)
    (eq : q ≡ (link_at (file_wiring bs) i).second) (ex : x ≡ hops (file_wiring bs) 0 p) (ey : y ≡ hops (file_wiring bs) 0 q) where
  pub unequal_uneven : x ≢ y → Uneven (file_wiring bs) i
  unequal_uneven ne = rw (← ep, ← eq) (λ e. ne (ex ∙ e ∙ sym ey))

  pub equal_refusal : x ≡ y → ((j : ℕ) → j < i → Uneven (file_wiring bs) j) → parity_refusal (file_wiring bs) ≡ refusal 10 i
  equal_refusal e before = even_lowest (file_wiring bs) i (omega (arith, formed_count bs n m f)) before (rw (← ep, ← eq) (sym ex ∙ e ∙ ey))
