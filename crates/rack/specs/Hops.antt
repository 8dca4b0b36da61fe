-- Hops, the graph distance: the fewest links on a path. Assumes nothing: these are definitions.
use Rattle.std.specs.Prelude.{Bool, ◌&&◌, List, [], ◌∷◌, ℕ, zero, suc, ltb, eqb}
use Rattle.rack.specs.Lists.{any, lowest}
use Rattle.rack.specs.Wiring.{Wiring, linked, neighbours}

-- some path of k links leads from a to b (docs/REQUIREMENTS.md: a way)
unfoldable pub has_path : Wiring → (k a b : ℕ) → Bool
has_path w zero a b = eqb a b
has_path w (suc k) a b = any (λ c. has_path w k c b) (neighbours w a)

-- the fewest links on a path; where there is none, the number of cards
unfoldable pub hops : Wiring → (a b : ℕ) → ℕ
hops w a b = lowest w.cards (λ k. has_path w k a b)

-- the cards behind a on a path from a to b, each linked to the one before
unfoldable pub is_path : Wiring → (a : ℕ) → (behind : List ℕ) → (b : ℕ) → Bool
is_path w a [] b = eqb a b
is_path w a (c ∷ cs) b = (ltb c w.cards && linked w a c) && is_path w c cs b

-- the lowest card that can't be reached from card 0; where there is none, the number of cards
unfoldable pub unreached : Wiring → ℕ
unreached w = lowest w.cards (λ c. eqb (hops w 0 c) w.cards)

unfoldable pub connected : Wiring → Bool
connected w = eqb (unreached w) w.cards
