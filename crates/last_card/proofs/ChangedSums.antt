-- How large sums of hops are; and the sum with a card more and without the last card, from the sum that came with a plan that was read.
-- Assumes nothing.
use mathlib.Core.Path.{◌≡◌, sym, ap₂, ◌∙◌}
use mathlib.Core.Bool.{true}
use mathlib.Core.List.{List}
use Prim.Native.Nat.{ℕ, ◌+◌, ◌-◌, ◌≤◌, ◌<◌}
use native.Mathlib.Omega.{arith}
use Rattle.rack.specs.Wiring.{Wiring, link_count, link_at, other_end}
use Rattle.rack.specs.PlanFile.{plan_cards, plan_wiring, Sized}
use Rattle.rack.proofs.WiringFile.{wiring_at_cards}
use Rattle.reader.proofs.Promises.{read_accepted}
use Rattle.pendant.specs.Pendant.{with_card, without_card, last_hangs}
use Rattle.totals.specs.Totals.{hops_to, total_hops}
use Rattle.totals.proofs.Totals.{total_last, total_pendant, hops_to_fits, total_hops_fits}
use Rattle.last_card.specs.Promises.{ReadWith}
use Rattle.last_card.proofs.ChangedPlans.{pendant_more, pendant_less, whole_less}

-- HOW LARGE they are in a plan with a layout
module _ (ps : List ℕ) {n m k : ℕ} (laid : Sized ps n m k) where
  few : (plan_wiring ps).cards ≤ 256
  few = omega (arith, laid.few, laid.cards, wiring_at_cards 6 ps)

  pub total_few : (t : ℕ) → t ≡ total_hops (plan_wiring ps) → t ≤ 16777216
  total_few t e = omega (arith, e, total_hops_fits (plan_wiring ps) few)

  pub hops_few : (h a : ℕ) → h ≡ hops_to (plan_wiring ps) (plan_cards ps) a → h ≤ 65536
  hops_few h a e = omega (arith, e, hops_to_fits (plan_wiring ps) (plan_cards ps) a (omega (arith, few, wiring_at_cards 6 ps)) few)

-- WITH THE SUM of a plan that was read
module _ (ps : List ℕ) (t : ℕ) (read : ReadWith ps t) where
  abbrev w : Wiring
  w = plan_wiring ps

  abbrev n : ℕ
  n = plan_cards ps

  cards : w.cards ≡ n
  cards = wiring_at_cards 6 ps

  -- A CARD MORE
  pub total_more : (c : ℕ) → c < n → t + n + hops_to w n c ≡ total_hops (with_card w c)
  total_more c inside =
      rw (read.1, ← cards) (sym (total_pendant (pendant_more ps read.0 c inside) (read_accepted ps read.0).rack.whole))

  -- THE LAST CARD LESS: by its own hops, and by those of the card that it hung on
  module _ (hangs : last_hangs (plan_wiring ps) ≡ true) where
    left : (without_card w).cards ≡ n - 1
    left = omega (arith, (pendant_less ps read.0 hangs).cards, cards)

    pub total_less : t ≡ total_hops (without_card w) + hops_to w n (n - 1)
    total_less =
        read.1 ∙ total_last (pendant_less ps read.0 hangs) (whole_less ps read.0 hangs)
        ∙ ap₂ (λ (i a : ℕ). total_hops (without_card w) + hops_to w i a) cards left

    pub total_left : t ≡ total_hops (without_card w) + (n - 1) + hops_to (without_card w) (n - 1) (other_end (n - 1) (link_at w (link_count w - 1)))
    total_left =
        read.1 ∙ total_pendant (pendant_less ps read.0 hangs) (whole_less ps read.0 hangs)
        ∙ ap₂ (λ (i a : ℕ). total_hops (without_card w) + i + hops_to (without_card w) i (other_end (a - 1) (link_at w (link_count w - 1)))) left cards
