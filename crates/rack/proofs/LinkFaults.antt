-- Links in fault: how many earlier links join two cards, the fault of a link by cases, and the lowest link in fault. Assumes nothing.
use mathlib.Core.Path.{◌≡◌, refl, sym, ◌∙◌}
use mathlib.Core.Bool.{true}
use mathlib.Core.Logic.{◌≢◌}
use Prim.Native.Nat.{ℕ, ◌+◌, ◌≤◌, ◌<◌}
use native.Mathlib.Omega.{arith}
use native.Mathlib.Numerals.{add-one}
use lib.Dec.{leb}
use lib.ListN.{take}
use lib.Seq.{take-suc}
use borrow.Author.Tests.{le-leb, lt-leb, eq-eqb, ne_eqb}
use Rattle.rack.specs.Lists.{one, count}
use Rattle.rack.specs.Wiring.{Wiring, link, link_count, link_at, joins}
use Rattle.rack.specs.Refusals.{most_parallel, refusal, link_fault, links_refusal}
use Rattle.rack.proofs.Logic.{by_lt, or_right}
use Rattle.rack.proofs.Lists.{count_snoc}
use Rattle.rack.proofs.Refusals.{lowest_fault_none, lowest_fault_is, clear_link_fault}

-- one link more
pub joining_more : (w : Wiring) (i : ℕ) → i < link_count w → (a b : ℕ)
    → count (joins a b) (take (i + 1) w.links) ≡ count (joins a b) (take i w.links) + one (joins a b (link_at w i))
joining_more w i inside a b = rw (add-one, take-suc w.links i (link 0 0) inside) (count_snoc (joins a b) (take i w.links) (link_at w i))

-- THE FAULT OF A LINK, by cases
module _ (w : Wiring) (i p q : ℕ) (ep : p ≡ (link_at w i).first) (eq : q ≡ (link_at w i).second) where
  pub fault_first : w.cards ≤ p → link_fault w i ≡ 6
  unfolding link_fault
  fault_first h = rw (← ep, le-leb w.cards p h) refl

  pub fault_second : w.cards ≤ q → link_fault w i ≡ 6
  unfolding link_fault
  fault_second h = rw (← eq, le-leb w.cards q h, or_right (leb w.cards (link_at w i).first) true refl) refl

  module _ (hp : p < w.cards) (hq : q < w.cards) where
    pub fault_same_card : p ≡ q → link_fault w i ≡ 7
    unfolding link_fault
    fault_same_card e = rw (← ep, ← eq, lt-leb w.cards p hp, lt-leb w.cards q hq, eq-eqb p q e) refl

    pub fault_parallel : p ≢ q → most_parallel ≤ count (joins p q) (take i w.links) → link_fault w i ≡ 8
    unfolding link_fault
    fault_parallel n h =
        rw (← ep, ← eq, lt-leb w.cards p hp, lt-leb w.cards q hq, ne_eqb p q n, le-leb most_parallel (count (joins p q) (take i w.links)) h) refl

    pub fault_none : p ≢ q → count (joins p q) (take i w.links) < most_parallel → link_fault w i ≡ 0
    fault_none n h = clear_link_fault w i (rw ep at hp, rw eq at hq, λ e. n (ep ∙ e ∙ sym eq)) (rw (ep, eq) at h)

-- THE LOWEST LINK in fault
abbrev pub ClearBefore : Wiring → (i : ℕ) → Type 0
ClearBefore w i = (j : ℕ) → j < i → link_fault w j ≡ 0

pub clear_none : (w : Wiring) → ClearBefore w 0
clear_none w j l = absurd (omega arith)

pub clear_more : (w : Wiring) (i : ℕ) → ClearBefore w i → link_fault w i ≡ 0 → ClearBefore w (i + 1)
clear_more w i before here j l = by_lt j i (before j) (λ k. let e : j ≡ i = omega arith in rw e here)

pub clear_refusal : (w : Wiring) (i : ℕ) → i < link_count w → ClearBefore w i → link_fault w i ≢ 0 → links_refusal w ≡ refusal (link_fault w i) i
unfolding links_refusal
clear_refusal w i l before here = lowest_fault_is (link_count w) (link_fault w) i l before here

pub clear_all : (w : Wiring) (i : ℕ) → link_count w ≤ i → ClearBefore w i → links_refusal w ≡ refusal 0 0
unfolding links_refusal
clear_all w i l before = lowest_fault_none (link_count w) (link_fault w) (λ j k. before j (omega arith))
