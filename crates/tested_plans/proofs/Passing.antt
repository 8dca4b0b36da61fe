-- The wiring inside a plan that passes the tests is accepted, and the plan is that wiring's. Assumes nothing.
use mathlib.Core.Path.{◌≡◌, refl, sym, ap, ◌∙◌}
use mathlib.Core.Bool.{Bool, true, false}
use mathlib.Core.List.{List, []}
use Prim.Native.Nat.{ℕ, ◌*◌, ◌≤◌, ◌<◌}
use native.Mathlib.Omega.{arith}
use lib.Dec.{ltb}
use lib.ListN.{length}
use Rattle.rack.specs.Lists.{differ, all}
use Rattle.rack.specs.Wiring.{Wiring}
use Rattle.rack.specs.Columns.{columns, column_count, address, Embedding}
use Rattle.rack.specs.Refusals.{links_refusal, rack_refusal, wiring_refusal}
use Rattle.rack.specs.PlanFile.{Sized, plan_cards, plan_links, plan_columns, plan_wiring, plan_bit, address_size}
use Rattle.rack.proofs.Logic.{by_lt, differ_sym}
use Rattle.rack.proofs.Tables.{length_tabulate, get_or_tabulate}
use Rattle.rack.proofs.Columns.{past_columns}
use Rattle.rack.proofs.Crossing.{Rack}
use Rattle.rack.proofs.Uniqueness.{relative}
use Rattle.rack.proofs.Refusals.{or_else_second, links_clear}
use Rattle.rack.proofs.Acceptance.{embedding_accepted}
use Rattle.rack.proofs.WiringFile.{wiring_at_cards}
use Rattle.planner.specs.PlanBytes.{plan_bytes}
use Rattle.tested_plans.proofs.Embedded.{led_embedding, led_rack}
use Rattle.tested_plans.proofs.ColumnOrder.{order_ones, row_columns, order_columns}
use Rattle.tested_plans.proofs.Bytes.{same_plan}
use Rattle.tested_plans.proofs.Tests.{Passes}

module _ (ps : List ℕ) (bytes : all (λ b. ltb b 256) ps ≡ true) (z : Sized ps (plan_cards ps) (plan_links ps) (plan_columns ps)) (d : Passes ps) where
  abbrev w : Wiring
  w = plan_wiring ps

  abbrev k : ℕ
  k = plan_columns ps

  abbrev r : (c j : ℕ) → Bool
  r = plan_bit ps

  some : 1 ≤ w.cards
  some = omega (arith, z.some, wiring_at_cards 6 ps)

  -- THE ROWS are an embedding
  rows_embed : Embedding w k r
  rows_embed = led_embedding w k r some (links_clear w d.links) (order_ones k r 0 w.links d.order) d.led

  rack : Rack w
  rack = led_rack w k r some (links_clear w d.links) (order_ones k r 0 w.links d.order) d.led

  pub passing_accepted : (wiring_refusal w).number ≡ 0
  unfolding wiring_refusal
  passing_accepted = rw (or_else_second (links_refusal w) (rack_refusal w) d.links, embedding_accepted w rack k r rows_embed) refl

  -- their columns are the planner's
  same_columns : columns w ≡ row_columns w rack k r rows_embed k
  same_columns = order_columns w rack k r rows_embed d.order

  same_count : column_count w ≡ k
  unfolding column_count
  same_count = ap length same_columns ∙ length_tabulate k (relative w.cards r)

  -- and so are their bits
  bits_inside : (c j : ℕ) → c < w.cards → j < k → r c j ≡ address w c j
  unfolding address
  bits_inside c j hc hj =
      sym (rw (same_columns, get_or_tabulate k (relative w.cards r) j [] hj, get_or_tabulate w.cards (λ c. differ (r c j) (r 0 j)) c false hc, d.zero j hj)
      (differ_sym (r c j) false))

  same_bits : (c j : ℕ) → c < w.cards → j < 8 * address_size k → r c j ≡ address w c j
  same_bits c j hc hj = by_lt j k (bits_inside c j hc) (λ l. d.spare c j hc l hj ∙ sym (past_columns w c j (omega (arith, same_count))))

  pub passing_plan : plan_bytes w ≡ ps
  passing_plan = same_plan ps bytes z same_count same_bits
