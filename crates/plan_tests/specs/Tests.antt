-- A plan tested by itself, with no planning: its links, the order of its columns, its zeros, and for every two cards a link that leads
-- nearer. Assumes nothing: these are definitions.
use Rattle.std.specs.Prelude.{Bool, ◌&&◌, ◌||◌, not, List, [], ◌∷◌, ℕ, ◌+◌, ◌*◌, ◌-◌, leb, eqb}
use Rattle.rack.specs.Lists.{differ, one, all, any, range, lowest}
use Rattle.rack.specs.Wiring.{Link, Wiring, touches}
use Rattle.rack.specs.Columns.{hamming}
use Rattle.rack.specs.Refusals.{links_refusal}
use Rattle.rack.specs.PlanFile.{plan_columns, plan_wiring, plan_bit, address_size}

-- the lowest of k places in which two rows of bits differ, k if there is none
unfoldable pub lowest_apart : (k : ℕ) → (x y : ℕ → Bool) → ℕ
lowest_apart k x y = lowest k (λ j. differ (x j) (y j))

-- the column that a link crosses
unfoldable pub crossed : (k : ℕ) → (rows : ℕ → ℕ → Bool) → Link → ℕ
crossed k r l = lowest_apart k (r l.first) (r l.second)

-- columns in the order of their lowest links: each link crosses one column, one of those opened so far or the next, which it opens; in the
-- end all k are open
unfoldable pub columns_in_order : (k : ℕ) → (rows : ℕ → ℕ → Bool) → (opened : ℕ) → List Link → Bool
columns_in_order k r o [] = eqb o k
columns_in_order k r o (l ∷ ls) =
    (eqb (hamming k (r l.first) (r l.second)) 1 && leb (crossed k r l) o)
    && columns_in_order k r (o + one (eqb (crossed k r l) o)) ls

-- a link of card a to a card nearer to b: it crosses a column in which a and b differ
unfoldable pub leads : (k : ℕ) → (rows : ℕ → ℕ → Bool) → (a b : ℕ) → Link → Bool
leads k r a b l = touches a l && differ (r a (crossed k r l)) (r b (crossed k r l))

-- card a covers itself, and each card to which one of these links leads
abbrev pub covers : (k : ℕ) → (rows : ℕ → ℕ → Bool) → List Link → (a b : ℕ) → Bool
covers k r ls a b = eqb a b || any (leads k r a b) ls

-- every card covers all
unfoldable pub cards_covered : Wiring → (k : ℕ) → (rows : ℕ → ℕ → Bool) → Bool
cards_covered w k r = all (λ a. all (covers k r w.links a) (range w.cards)) (range w.cards)

-- card 0 has zeros in k columns
unfoldable pub first_zero : (k : ℕ) → (rows : ℕ → ℕ → Bool) → Bool
first_zero k r = all (λ j. not (r 0 j)) (range k)

-- card c has zeros in its spare bits, from column k up to the end of its bytes
abbrev pub spare_card : (k : ℕ) → (rows : ℕ → ℕ → Bool) → (c : ℕ) → Bool
spare_card k r c = all (λ j. not (r c (k + j))) (range (8 * address_size k - k))

unfoldable pub spare_zero : (n k : ℕ) → (rows : ℕ → ℕ → Bool) → Bool
spare_zero n k r = all (spare_card k r) (range n)

-- a plan with a layout passes: none of 6 to 8 applies to its links, its columns are in order, card 0 and the spare bits are zero, and every
-- card covers all
unfoldable pub tests_hold : List ℕ → Bool
tests_hold ps =
    let w = plan_wiring ps in
    let k = plan_columns ps in
    let r = plan_bit ps in
    (eqb (links_refusal w).number 0 && columns_in_order k r 0 w.links)
    && (first_zero k r && spare_zero w.cards k r) && cards_covered w k r
