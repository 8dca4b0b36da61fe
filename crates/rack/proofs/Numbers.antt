-- The number of a file's refusal is not 1 and at most 11, and what it carries is at most 2,048. Assumes nothing.
use mathlib.Core.Path.{◌≡◌, refl}
use mathlib.Core.Bool.{Bool, true, false, ◌&&◌, ◌||◌, not, cond}
use mathlib.Core.Logic.{◌≢◌}
use mathlib.Core.List.{List}
use Prim.Native.Nat.{ℕ, ◌+◌, ◌*◌, ◌≤◌}
use native.Mathlib.Omega.{arith}
use lib.Dec.{ltb, leb, eqb}
use lib.ListN.{length, take}
use borrow.Author.Tests.{eqb-false, leb-true, not-true}
use Rattle.rack.specs.Lists.{count, lowest}
use Rattle.rack.specs.Wiring.{Wiring, link_count, link_at, joins}
use Rattle.rack.specs.Hops.{hops, connected, unreached}
use Rattle.rack.specs.Columns.{column_count, address, embeds}
use Rattle.rack.specs.Refusals.{Refusal, refusal, or_else, lowest_fault, most_parallel, link_fault, links_refusal}
use Rattle.rack.specs.Refusals.{parity_refusal, embedding_refusal, rack_refusal}
use Rattle.rack.specs.Limits.{most_cards, most_links}
use Rattle.rack.specs.Buffers.{number_at}
use Rattle.rack.specs.WiringFile.{file_wiring, sizes_fault, form_refusal, file_refusal}
use Rattle.rack.proofs.Logic.{by_bool, by_eq, and_left, and_right}
use Rattle.rack.proofs.Tables.{lowest_le}
use Rattle.rack.proofs.Refusals.{or_else_clear, or_else_first, or_else_second}
use Rattle.rack.proofs.Acceptance.{connected_refusal, unconnected_refusal}
use Rattle.rack.proofs.WiringFile.{wiring_at_cards, wiring_at_count, sizes_clear}

-- a number that a file's refusal may have, and a refusal with such a number
abbrev in_range : ℕ → Bool
in_range x = not (eqb x 1) && leb x 11

abbrev RefusalInRange : Refusal → Type 0
RefusalInRange f = (in_range f.number ≡ true) × (f.at ≤ most_links)

cond_in_range : (t : Bool) (x y : ℕ) → in_range x ≡ true → in_range y ≡ true → in_range (cond t x y) ≡ true
cond_in_range true x y hx hy = hx
cond_in_range false x y hx hy = hy

cond_refusal : (t : Bool) (f g : Refusal) → RefusalInRange f → RefusalInRange g → RefusalInRange (cond t f g)
cond_refusal true f g hf hg = hf
cond_refusal false f g hf hg = hg

or_else_in_range : (x y : Refusal) → RefusalInRange x → (x.number ≡ 0 → RefusalInRange y) → RefusalInRange (or_else x y)
or_else_in_range x y hx hy = by_eq x.number 0 (λ z. rw (or_else_second x y z) (hy z)) (λ n. rw (or_else_first x y n) hx)

lowest_fault_in_range : (n : ℕ) (f : ℕ → ℕ) → n ≤ most_links → ((i : ℕ) → in_range (f i) ≡ true) → RefusalInRange (lowest_fault n f)
unfolding lowest_fault
lowest_fault_in_range n f h each =
    let i = lowest n (λ i. not (eqb (f i) 0)) in
    cond_refusal (ltb i n) (refusal (f i) i) (refusal 0 0) (each i, omega (arith, lowest_le n (λ i. not (eqb (f i) 0)))) (refl, omega arith)

-- EACH TEST's numbers
sizes_in_range : (bs : List ℕ) → in_range (sizes_fault bs) ≡ true
unfolding sizes_fault
sizes_in_range bs =
    cond_in_range (ltb (length bs) 4) 2 _ refl
    (cond_in_range (not (leb 1 (number_at bs 0) && leb (number_at bs 0) most_cards)) 3 _ refl
    (cond_in_range (ltb most_links (number_at bs 2)) 4 _ refl
    (cond_in_range (not (eqb (length bs) (4 + 4 * number_at bs 2))) 5 0 refl refl)))

link_in_range : (w : Wiring) (i : ℕ) → in_range (link_fault w i) ≡ true
unfolding link_fault
link_in_range w i =
    cond_in_range (leb w.cards (link_at w i).first || leb w.cards (link_at w i).second) 6 _ refl
    (cond_in_range (eqb (link_at w i).first (link_at w i).second) 7 _ refl
    (cond_in_range (leb most_parallel (count (joins (link_at w i).first (link_at w i).second) (take i w.links))) 8 0
    refl refl))

rack_in_range : (w : Wiring) → w.cards ≤ most_cards → link_count w ≤ most_links → RefusalInRange (rack_refusal w)
unfolding parity_refusal embedding_refusal unreached
rack_in_range w hn hm =
    by_bool (connected w)
    (λ (c : connected w ≡ true). rw (connected_refusal w c) (or_else_in_range (parity_refusal w) (embedding_refusal w) parity (λ _. embedding)))
    (λ (c : connected w ≡ false). rw (unconnected_refusal w c) (refl, omega (arith, lowest_le w.cards (λ c. eqb (hops w 0 c) w.cards))))
  where
    parity : RefusalInRange (parity_refusal w)
    parity =
        lowest_fault_in_range (link_count w) _ hm
        (λ i. cond_in_range (eqb (hops w 0 (link_at w i).first) (hops w 0 (link_at w i).second)) 10 0
        refl refl)

    embedding : RefusalInRange (embedding_refusal w)
    embedding =
        cond_refusal (embeds w (column_count w) (address w)) (refusal 0 0) (refusal 11 0) (refl, omega arith)
        (refl, omega arith)

file_in_range : (bs : List ℕ) → RefusalInRange (file_refusal bs)
unfolding file_refusal form_refusal links_refusal
file_in_range bs =
    let w = file_wiring bs in
    or_else_in_range _ (rack_refusal w)
    (or_else_in_range (refusal (sizes_fault bs) 0) _ (sizes_in_range bs, omega arith)
    (λ z. lowest_fault_in_range (link_count w) (link_fault w) (omega (arith, (sizes_clear bs z).links, wiring_at_count 4 bs)) (link_in_range w)))
    (λ z. let s = sizes_clear bs (or_else_clear (refusal (sizes_fault bs) 0) (links_refusal w) z).0 in
    rack_in_range w (omega (arith, s.cards, wiring_at_cards 4 bs)) (omega (arith, s.links, wiring_at_count 4 bs)))

pub file_numbers : (bs : List ℕ) → ((file_refusal bs).number ≢ 1) × ((file_refusal bs).number ≤ 11) × ((file_refusal bs).at ≤ most_links)
file_numbers bs =
    let x = (file_refusal bs).number in
    let (range, at) = file_in_range bs in
    (eqb-false x 1 (not-true (eqb x 1) (and_left (not (eqb x 1)) (leb x 11) range)), leb-true x 11 (and_right (not (eqb x 1)) (leb x 11) range), at)
