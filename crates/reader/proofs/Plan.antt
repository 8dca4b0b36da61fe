-- Plan files: the layout's sizes, what reading says of a plan, and that the planner's plans are read. Assumes nothing.
use mathlib.Core.Path.{◌≡◌, refl, ap}
use mathlib.Core.Bool.{Bool, true, false, ◌&&◌, not, cond}
use mathlib.Core.List.{List}
use Prim.Native.Nat.{ℕ, ◌+◌, ◌*◌, ◌≤◌, ◌<◌}
use native.Mathlib.Omega.{arith}
use lib.Dec.{leb, eqb}
use lib.ListN.{length}
use borrow.Author.Tests.{eqb-true, eq-eqb, leb-true, le-leb, not-false}
use Rattle.rack.specs.Lists.{same}
use Rattle.rack.specs.Wiring.{Wiring, link_count}
use Rattle.rack.specs.Limits.{most_cards, most_links, most_columns}
use Rattle.rack.specs.Columns.{column_count}
use Rattle.rack.specs.Refusals.{wiring_refusal}
use Rattle.rack.proofs.Logic.{and_left, and_right, by_bool}
use Rattle.rack.proofs.Lists.{same_eq, same_self}
use Rattle.rack.proofs.Refusals.{cond_zero}
use Rattle.rack.proofs.Accepted.{Accepted, accepted_inside}
use Rattle.rack.proofs.WiringFile.{Fits}
use Rattle.planner.specs.PlanBytes.{plan_bytes}
use Rattle.planner.proofs.PlanBytes.{length_plan, written_cards, written_links, written_columns, written_wiring}
use Rattle.rack.specs.PlanFile.{plan_cards, plan_links, plan_columns, plan_wiring, address_size, addresses_start, Sized}
use Rattle.reader.specs.Plan.{layout_holds, content_holds, plan_refusal}

-- THE LAYOUT: the test holds exactly with the facts of `Sized`, at the sizes that the plan has
abbrev pub Layout : List ℕ → Type 0
Layout ps = Sized ps (plan_cards ps) (plan_links ps) (plan_columns ps)

module _ (ps : List ℕ) where
  abbrev layout_length : ℕ
  layout_length = addresses_start (plan_links ps) + plan_cards ps * address_size (plan_columns ps)

  pub layout_of : 1 ≤ plan_cards ps → plan_cards ps ≤ most_cards → plan_links ps ≤ most_links → plan_columns ps ≤ most_columns → length ps ≡ layout_length
      → Layout ps
  layout_of some few few_links few_columns long =
      record { cards = refl; links = refl; columns = refl; some = some; few = few; few_links = few_links; few_columns = few_columns; long = long }

  abbrev long_test : Bool
  long_test = eqb (length ps) layout_length

  pub layout_facts : layout_holds ps ≡ true → Layout ps
  unfolding layout_holds
  layout_facts h =
      let t₁ = leb 6 (length ps) in
      let t₂ = t₁ && leb 1 (plan_cards ps) in
      let t₃ = t₂ && leb (plan_cards ps) most_cards in
      let t₄ = t₃ && leb (plan_links ps) most_links in
      let t₅ = t₄ && leb (plan_columns ps) most_columns in
      let h₅ = and_left t₅ long_test h in
      let h₄ = and_left t₄ (leb (plan_columns ps) most_columns) h₅ in
      let h₃ = and_left t₃ (leb (plan_links ps) most_links) h₄ in
      let h₂ = and_left t₂ (leb (plan_cards ps) most_cards) h₃ in
      layout_of
      (leb-true 1 (plan_cards ps) (and_right t₁ (leb 1 (plan_cards ps)) h₂))
      (leb-true (plan_cards ps) most_cards (and_right t₂ (leb (plan_cards ps) most_cards) h₃))
      (leb-true (plan_links ps) most_links (and_right t₃ (leb (plan_links ps) most_links) h₄))
      (leb-true (plan_columns ps) most_columns (and_right t₄ (leb (plan_columns ps) most_columns) h₅))
      (eqb-true (length ps) layout_length (and_right t₅ long_test h))

  pub layout_head : {n m k : ℕ} → Sized ps n m k → 6 ≤ length ps
  layout_head z = omega (arith, z.long)

  pub facts_layout : {n m k : ℕ} → Sized ps n m k → layout_holds ps ≡ true
  unfolding layout_holds
  facts_layout {n} {m} {k} z =
      rw (
        ← z.cards,
        ← z.links,
        ← z.columns,
        le-leb 6 (length ps) (layout_head z),
        le-leb 1 n z.some,
        le-leb n most_cards z.few,
        le-leb m most_links z.few_links,
        le-leb k most_columns z.few_columns,
        eq-eqb (length ps) (addresses_start m + n * address_size k) z.long,
      ) refl

  -- whoever has read the sizes has the same facts of what was read
  pub layout_read : (n m k : ℕ) → n ≡ plan_cards ps → m ≡ plan_links ps → k ≡ plan_columns ps → Layout ps → Sized ps n m k
  layout_read n m k en em ek z = rw (en, em, ek) z

  -- A PLAN THAT WAS READ
  pub plan_clear : plan_refusal ps ≡ 0 → (layout_holds ps ≡ true) × ((wiring_refusal (plan_wiring ps)).number ≡ 0) × (plan_bytes (plan_wiring ps) ≡ ps)
  unfolding plan_refusal content_holds
  plan_clear h =
      let a = cond_zero (not (layout_holds ps)) 12 (cond (not (content_holds ps)) 13 0) (λ e. omega arith) h in
      let b = cond_zero (not (content_holds ps)) 13 0 (λ e. omega arith) a.1 in
      let t = not-false (content_holds ps) b.0 in
      let number_test = eqb (wiring_refusal (plan_wiring ps)).number 0 in
      let bytes_test = same eqb (plan_bytes (plan_wiring ps)) ps in (
        not-false (layout_holds ps) a.0,
        eqb-true (wiring_refusal (plan_wiring ps)).number 0
            (and_left number_test bytes_test t),
        same_eq eqb eqb-true (plan_bytes (plan_wiring ps)) ps (and_right number_test bytes_test t),
      )

  pub clear_plan : layout_holds ps ≡ true → (wiring_refusal (plan_wiring ps)).number ≡ 0 → plan_bytes (plan_wiring ps) ≡ ps → plan_refusal ps ≡ 0
  unfolding plan_refusal content_holds
  clear_plan l h e = rw (l, eq-eqb (wiring_refusal (plan_wiring ps)).number 0 h, e, same_self eqb (λ x. eq-eqb x x refl) ps) refl

  -- 12 and 13 are all
  pub plan_refusal_most : plan_refusal ps ≤ 13
  unfolding plan_refusal
  plan_refusal_most =
      by_bool (layout_holds ps)
      (λ (l : layout_holds ps ≡ true). by_bool (content_holds ps)
      (λ (h : content_holds ps ≡ true). rw (l, h) (omega arith)) (λ (h : content_holds ps ≡ false). rw (l, h) (omega arith)))
      (λ (l : layout_holds ps ≡ false). rw l (omega arith))

-- THE PLAN OF AN ACCEPTED WIRING is read
module _ (w : Wiring) (a : Accepted w) (high : w.cards ≤ most_cards) (few_links : link_count w ≤ most_links) where
  pub accepted_fits : Fits w
  accepted_fits =
      record {
        cards = omega arith;
        count = omega arith;
        first = λ i h. let s = accepted_inside w a i h in omega arith;
        second = λ i h. let s = accepted_inside w a i h in omega arith;
      }

  pub accepted_columns_fit : column_count w < 65536
  accepted_columns_fit = omega (arith, a.few)

  layout_written : Layout (plan_bytes w)
  layout_written =
      let n = written_cards w (omega arith) in
      let m = written_links w (omega arith) in
      let k = written_columns w accepted_columns_fit in
      layout_of (plan_bytes w) (omega (arith, a.rack.some)) (omega arith) (omega arith) (omega (arith, a.few)) (rw (n, m, k) (length_plan w))

  pub plan_read : (wiring_refusal w).number ≡ 0 → (plan_refusal (plan_bytes w) ≡ 0) × (plan_wiring (plan_bytes w) ≡ w)
  plan_read h =
      let e = written_wiring w accepted_fits in
      (clear_plan (plan_bytes w) (facts_layout (plan_bytes w) layout_written) (rw e h) (ap plan_bytes e), e)
