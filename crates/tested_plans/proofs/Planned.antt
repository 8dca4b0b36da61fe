-- A plan that the planner writes passes the tests. Assumes nothing.
use mathlib.Core.Path.{◌≡◌, sym, ap, ap₂, subst, ◌∙◌}
use mathlib.Core.Bool.{Bool, true, false}
use mathlib.Core.Logic.{◌≢◌}
use mathlib.Core.List.{List, []}
use Prim.Native.Nat.{ℕ, suc, ◌*◌, ◌-◌, ◌≤◌, ◌<◌}
use native.Mathlib.Omega.{arith}
use lib.ListN.{get_or}
use Rattle.rack.specs.Lists.{differ, any, tabulate}
use Rattle.rack.specs.Wiring.{Link, Wiring, link_count, linked, touches}
use Rattle.rack.specs.Hops.{hops}
use Rattle.rack.specs.Columns.{side, column, columns, column_count, address, Embedding}
use Rattle.rack.specs.Refusals.{links_refusal, rack_refusal, wiring_refusal}
use Rattle.rack.specs.PlanFile.{Sized, plan_cards, plan_links, plan_columns, plan_wiring, plan_bit, address_size}
use Rattle.rack.proofs.Logic.{by_bool, and_both, differ_sym}
use Rattle.rack.proofs.Lists.{In, in_any, in_get_or}
use Rattle.rack.proofs.Tables.{tabulate_ext, tabulate_get_or}
use Rattle.rack.proofs.Paths.{Ends, ends_touch, linked_link}
use Rattle.rack.proofs.Hops.{hops_zero, hops_sym, hops_down, connected_all}
use Rattle.rack.proofs.Hamming.{hamming_ext}
use Rattle.rack.proofs.Columns.{column_link, column_bit, past_columns, address_zero}
use Rattle.rack.proofs.Crossing.{Rack, Crossing, further, link_crossing}
use Rattle.rack.proofs.Uniqueness.{relative}
use Rattle.rack.proofs.Refusals.{or_else_clear}
use Rattle.rack.proofs.Accepted.{Accepted, wiring_accepted}
use Rattle.rack.proofs.WiringFile.{wiring_at_cards, wiring_at_count}
use Rattle.rack.proofs.PlanFile.{address_size_is}
use Rattle.planner.specs.PlanBytes.{plan_bytes}
use Rattle.planner.proofs.PlanBytes.{written_columns, written_byte_bit}
use Rattle.plan_tests.specs.Tests.{crossed, leads}
use Rattle.tested_plans.proofs.Crossed.{ends_crossed}
use Rattle.tested_plans.proofs.ColumnOrder.{row_columns, columns_order}
use Rattle.tested_plans.proofs.Tests.{Passes}

-- IN AN EMBEDDING each card has a link nearer to every other card
module _ (w : Wiring) (rack : Rack w) (k : ℕ) (r : ℕ → ℕ → Bool) (m : Embedding w k r) where
  -- a link to a card nearer to b crosses a column in which a and b differ
  nearer_apart : (a b c : ℕ) → a < w.cards → b < w.cards → c < w.cards → hops w a b ≡ suc (hops w c b) → (x : Crossing k r a c)
      → differ (r a x.at) (r b x.at) ≡ true
  nearer_apart a b c ha hb hc e x =
      by_bool (differ (r a x.at) (r b x.at)) (λ t. t)
      (λ f. absurd (omega (
        arith,
        e,
        further w k r m a c ha hc x b hb (differ_sym (r b x.at) (r a x.at) ∙ f),
        hops_sym w a b ha hb,
        hops_sym w c b hc hb,
      )))

  embedding_led : (a b : ℕ) → a < w.cards → b < w.cards → a ≢ b → any (leads k r a b) w.links ≡ true
  unfolding leads
  embedding_led a b ha hb n =
      let z : hops w a b ≢ 0 = λ e. n (hops_zero w a b ha e) in
      go (hops_down w a b (hops w a b - 1) (omega arith) (omega (arith, connected_all w rack.whole a b ha hb))) z
    where
      by_link : (c : ℕ) → c < w.cards → linked w a c ≡ true → hops w a b ≡ suc (hops w c b) → (l : Link) × In l w.links × Ends a c l
          → any (leads k r a b) w.links ≡ true
      by_link c hc joined e (l, i, ends) =
          let x = ends_crossed k r a c l ends (link_crossing w k r m rack l i) in
          in_any (leads k r a b) w.links l i (and_both (touches a l) (differ (r a (crossed k r l)) (r b (crossed k r l)))
          (ends_touch a c l ends (λ e. rack.apart a c joined (sym e))).0 (rw x.1 (nearer_apart a b c ha hb hc e x.0)))

      go : (c : ℕ) × (c < w.cards) × (linked w a c ≡ true) × (hops w c b ≡ hops w a b - 1) → hops w a b ≢ 0 → any (leads k r a b) w.links ≡ true
      go (c, hc, joined, e) z = by_link c hc joined (omega arith) (linked_link w a c joined)

-- THE PLAN OF AN ACCEPTED WIRING
module _ (ps : List ℕ) (z : Sized ps (plan_cards ps) (plan_links ps) (plan_columns ps))
    (accepted : (wiring_refusal (plan_wiring ps)).number ≡ 0) (planned : plan_bytes (plan_wiring ps) ≡ ps) where
  abbrev w : Wiring
  w = plan_wiring ps

  abbrev k : ℕ
  k = plan_columns ps

  abbrev r : (c j : ℕ) → Bool
  r = plan_bit ps

  known : Accepted w
  known = wiring_accepted w (omega (arith, z.some, wiring_at_cards 6 ps)) accepted

  links_fit : link_count w < 65536
  links_fit = omega (arith, z.few_links, wiring_at_count 6 ps)

  columns_fit : column_count w < 65536
  columns_fit = omega (arith, known.few, z.few, wiring_at_cards 6 ps)

  same_count : k ≡ column_count w
  same_count = subst (λ (qs : List ℕ). plan_columns qs ≡ column_count w) planned (written_columns w columns_fit)

  same_bits : (c j : ℕ) → c < w.cards → j < 8 * address_size k → r c j ≡ address w c j
  same_bits c j hc hj =
      subst (λ (qs : List ℕ). plan_bit qs c j ≡ address w c j) planned
      (written_byte_bit w links_fit columns_fit c j hc (rw (← same_count) (omega arith)))

  column_inside : (j : ℕ) → j < k → j < 8 * address_size k
  column_inside j h = omega (arith, address_size_is k)

  bits_zero : (j : ℕ) → j < k → r 0 j ≡ false
  bits_zero j hj = same_bits 0 j known.rack.some (column_inside j hj) ∙ address_zero w j

  bits_spare : (c j : ℕ) → c < w.cards → k ≤ j → j < 8 * address_size k → r c j ≡ false
  bits_spare c j hc low high = same_bits c j hc high ∙ past_columns w c j (omega (arith, same_count))

  rows_embed : Embedding w k r
  rows_embed a b ha hb =
      hamming_ext k (r a) (r b) (address w a) (address w b) (λ j h. same_bits a j ha (column_inside j h)) (λ j h. same_bits b j hb (column_inside j h))
      ∙ rw same_count (known.embedding a b ha hb)

  -- the planner's columns are those of the rows
  column_row : (j : ℕ) → j < k → relative w.cards r j ≡ get_or (columns w) j []
  unfolding column column_count address
  column_row j hj = go (column_link w (get_or (columns w) j []) (in_get_or (columns w) j [] (omega (arith, same_count))))
    where
      go : (l : Link) × In l w.links × (column w l ≡ get_or (columns w) j []) → relative w.cards r j ≡ get_or (columns w) j []
      go (l, i, e) = tabulate_ext w.cards (λ c. differ (r c j) (r 0 j)) (side w l) bit ∙ e
        where
          bit : (c : ℕ) → c < w.cards → differ (r c j) (r 0 j) ≡ side w l c
          bit c hc =
              ap₂ differ (same_bits c j hc (column_inside j hj)) (bits_zero j hj) ∙ differ_sym (address w c j) false
              ∙ ap (λ (x : List Bool). get_or x c false) (sym e) ∙ column_bit w l c hc

  same_columns : columns w ≡ row_columns w known.rack k r rows_embed k
  unfolding column_count
  same_columns =
      sym (tabulate_get_or (columns w) [])
      ∙ sym (ap (λ (n : ℕ). tabulate n (λ j. get_or (columns w) j [])) same_count)
      ∙ sym (tabulate_ext k (relative w.cards r) (λ j. get_or (columns w) j []) column_row)

  pub planned_passes : Passes ps
  unfolding wiring_refusal
  planned_passes =
      record {
        links = (or_else_clear (links_refusal w) (rack_refusal w) accepted).0;
        order = columns_order w known.rack k r rows_embed same_columns;
        zero = bits_zero;
        spare = bits_spare;
        led = embedding_led w known.rack k r rows_embed;
      }
