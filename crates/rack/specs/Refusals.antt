-- Refusals 6 to 11 of a wiring, each with the link or card that it carries. Assumes nothing: these are definitions.
use Rattle.std.specs.Prelude.{Bool, ◌&&◌, ◌||◌, not, cond, ℕ, ltb, leb, eqb, take}
use Rattle.rack.specs.Lists.{count, lowest}
use Rattle.rack.specs.Wiring.{Wiring, link_count, link_at, joins}
use Rattle.rack.specs.Hops.{hops, unreached, connected}
use Rattle.rack.specs.Columns.{column_count, address, embeds}

-- the number (docs/REQUIREMENTS.md, Refusals by place), 0 for none, and the link or card in fault
pub record Refusal : Type 0 where
  pub number : ℕ
  pub at : ℕ

abbrev pub refusal : (number at : ℕ) → Refusal
refusal n i = record { number = n; at = i }

unfoldable pub or_else : (first second : Refusal) → Refusal
or_else x y = cond (eqb x.number 0) y x

-- the number at the lowest of n places that has one
unfoldable pub lowest_fault : (n : ℕ) → (number : ℕ → ℕ) → Refusal
lowest_fault n f =
    let i = lowest n (λ i. not (eqb (f i) 0)) in
    cond (ltb i n) (refusal (f i) i) (refusal 0 0)

-- how many links may join the same two cards
abbrev pub most_parallel : ℕ
most_parallel = 2

-- 6, 7, 8: an end is no card, both ends are one card, too many earlier links join the same two cards
unfoldable pub link_fault : Wiring → (i : ℕ) → ℕ
link_fault w i =
    let p = (link_at w i).first in
    let q = (link_at w i).second in
    cond (leb w.cards p || leb w.cards q) 6
    (cond (eqb p q) 7
    (cond (leb most_parallel (count (joins p q) (take i w.links))) 8 0))

unfoldable pub links_refusal : Wiring → Refusal
links_refusal w = lowest_fault (link_count w) (link_fault w)

-- well formed: there is a card, and none of 6 to 8 applies
unfoldable pub well_formed : Wiring → Bool
well_formed w = leb 1 w.cards && eqb (links_refusal w).number 0

-- 9: a card can't be reached from card 0
unfoldable pub reach_refusal : Wiring → Refusal
reach_refusal w = cond (connected w) (refusal 0 0) (refusal 9 (unreached w))

-- 10: a link's ends have equal hops from card 0 (an odd loop)
unfoldable pub parity_refusal : Wiring → Refusal
parity_refusal w =
    lowest_fault (link_count w) (λ i. cond (eqb (hops w 0 (link_at w i).first) (hops w 0 (link_at w i).second)) 10 0)

-- 11: not accepted; an accepted rack is a partial cube
unfoldable pub embedding_refusal : Wiring → Refusal
embedding_refusal w = cond (embeds w (column_count w) (address w)) (refusal 0 0) (refusal 11 0)

-- 9 to 11
unfoldable pub rack_refusal : Wiring → Refusal
rack_refusal w = or_else (reach_refusal w) (or_else (parity_refusal w) (embedding_refusal w))

-- 6 to 11
unfoldable pub wiring_refusal : Wiring → Refusal
wiring_refusal w = or_else (links_refusal w) (rack_refusal w)
